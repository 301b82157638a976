-- Items of other forms.
use Rattle.std.proofs.Common.{◌≡◌, List, refl}
use Rattle.std.specs.declared.alloc.Global.{Global}
use Rattle.std.specs.declared.boxed.Box.{Box}
use Rattle.std.specs.declared.vec.Vec.{Vec}
use Rattle.sv_value.specs.declared.place.Place.{Place}
use Rattle.sv_tree.specs.Descriptions.{Description}
use Rattle.sv_tree.specs.UnitView.{item}
use Rattle.sv_tree.specs.declared.class.Class.{Class}
use Rattle.sv_tree.specs.declared.clocking.ClockingBlock.{ClockingBlock}
use Rattle.sv_tree.specs.declared.statement.Decl.{Decl}
use Rattle.sv_tree.specs.declared.unit.AssignItem.{AssignItem}
use Rattle.sv_tree.specs.declared.unit.Instances.{Instances}
use Rattle.sv_tree.specs.declared.unit.Item.{Item}
use Rattle.sv_tree.specs.declared.unit.Item.TheVariants as items
use Rattle.sv_tree.specs.declared.unit.NetDecl.{NetDecl}
use Rattle.sv_tree.specs.declared.unit.Procedure.{Procedure}
use Rattle.sv_tree.specs.declared.unit.Routine.{Routine}
use Rattle.sv_tree.specs.declared.word.Name.{Name}
use Rattle.sv_names.specs.declared.checked.Checked.TheVariants.{Good}
use Rattle.sv_names.specs.Instances.{Inst}
use Rattle.sv_names.specs.Items.{nothing, common_parts, item_parts}
use Rattle.sv_names.specs.Named.{Around}
use Rattle.sv_names.specs.Types.{Path}

-- what is neither a class nor a subroutine
pub other_common : (ar : Around) (p : Path) (x : Item) → ((k : Box Class Global) → x ≡ items.Class k → ⊥)
    → ((r : Box Routine Global) → x ≡ items.Routine r → ⊥) → common_parts ar p (item x) ≡ Good nothing
other_common ar p (items.Class k) no_class no_routine = absurd (no_class k refl)
other_common ar p (items.Routine r) no_class no_routine = absurd (no_routine r refl)
other_common ar p x no_class no_routine = refl

-- what stands outside units too
pub other_item : (us : List Description) (ar : Around) (i : Inst) (x : Item) → ((d : Box Decl Global) → x ≡ items.Decl d → ⊥)
    → ((n : Box NetDecl Global) → x ≡ items.Net n → ⊥) → ((a : Vec AssignItem Global) → x ≡ items.Assign a → ⊥)
    → ((p : Box Procedure Global) → x ≡ items.Procedure p → ⊥) → ((n : Box Instances Global) → x ≡ items.Instances n → ⊥)
    → ((b : Box ClockingBlock Global) → x ≡ items.Clocking b → ⊥) → ((at : Place) (n : Name) → x ≡ items.DefaultClocking at n → ⊥)
    → common_parts ar i.path (item x) ≡ item_parts us ar i (item x)
other_item us ar i (items.Decl y) d n a p u b c = absurd (d y refl)
other_item us ar i (items.Net y) d n a p u b c = absurd (n y refl)
other_item us ar i (items.Assign y) d n a p u b c = absurd (a y refl)
other_item us ar i (items.Procedure y) d n a p u b c = absurd (p y refl)
other_item us ar i (items.Instances y) d n a p u b c = absurd (u y refl)
other_item us ar i (items.Clocking y) d n a p u b c = absurd (b y refl)
other_item us ar i (items.DefaultClocking at y) d n a p u b c = absurd (c at y refl)
other_item us ar i x d n a p u b c = refl
