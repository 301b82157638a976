-- What is met on the walk, by the parts in which the code puts it together.
use Rattle.std.proofs.Common.{◌≡◌, ℕ, List, refl, ap}
use Rattle.sv_tree.specs.Items as tree_item
use Rattle.sv_tree.specs.Items.{Item}
use Rattle.sv_tree.specs.Units.{Connection}
use Rattle.sv_names.specs.Instances.{Inst, Enter, Meet, Connect}
use Rattle.sv_names.specs.Named.{Around}
use Rattle.sv_names.specs.Sources as sources
use Rattle.sv_names.specs.Sources.{Met, Process, met, initialized}
use Rattle.sv_elab_met.specs.Met.{entered, item_met, item_processes, connected, behind, item_initialized}

-- the processes of an item
processes_are : (ar : Around) (i : Inst) (x : Item) → sources.item_processes ar i x ≡ item_processes ar i.path x
processes_are ar i (tree_item.Procedure p) = refl
processes_are ar i (tree_item.Assign as') = refl
processes_are ar i (tree_item.Clocking b) = refl
processes_are ar i (tree_item.Net n) = refl
processes_are ar i (tree_item.Instances x) = refl
processes_are ar i (tree_item.Decl d) = refl
processes_are ar i (tree_item.Typedef t) = refl
processes_are ar i (tree_item.Announce n) = refl
processes_are ar i (tree_item.Class c) = refl
processes_are ar i (tree_item.Param p) = refl
processes_are ar i (tree_item.Routine r) = refl
processes_are ar i (tree_item.DefaultClocking at n) = refl
processes_are ar i tree_item.Null = refl

-- an instance
pub enter_is : (at_inst : Inst → Around) (i : Inst) → met at_inst (Enter i) ≡ entered i.group i.unit.element
enter_is at_inst i = refl

-- an item
pub meet_is : (at_inst : Inst → Around) (i : Inst) (b : ℕ) (x : Item)
    → met at_inst (Meet i b x) ≡ item_met (at_inst i) b i.group i.path x
meet_is at_inst i b x =
    let put : List Process → Met = λ ps.
    record {
      declared = sources.item_declares (at_inst i) i.group i.path x;
      processes = ps;
      table = sources.item_table (at_inst i) i.path x;
    } in
    ap put (processes_are (behind b (at_inst i)) i x)

-- the port connections of an instance
pub connect_is : (at_inst : Inst → Around) (i c : Inst) (cs : List Connection)
    → met at_inst (Connect i c cs) ≡ connected (at_inst i) c.unit.element cs
connect_is at_inst i c cs = refl

-- the initializers of an item
pub initialized_is : (i : Inst) (b : ℕ) (x : Item) → initialized (Meet i b x) ≡ item_initialized i.path x
initialized_is i b (tree_item.Procedure p) = refl
initialized_is i b (tree_item.Assign as') = refl
initialized_is i b (tree_item.Clocking c) = refl
initialized_is i b (tree_item.Net n) = refl
initialized_is i b (tree_item.Instances x) = refl
initialized_is i b (tree_item.Decl d) = refl
initialized_is i b (tree_item.Typedef t) = refl
initialized_is i b (tree_item.Announce n) = refl
initialized_is i b (tree_item.Class c) = refl
initialized_is i b (tree_item.Param p) = refl
initialized_is i b (tree_item.Routine r) = refl
initialized_is i b (tree_item.DefaultClocking at n) = refl
initialized_is i b tree_item.Null = refl
