-- A unit that declares no clocking block has no default clocking.
use Rattle.std.proofs.Common.{◌≡◌, ◌∙◌, ℕ, Bool, true, false, cond, List, [], ◌∷◌, Option, Some, None, option_map, refl, sym, true≢false}
use Rattle.std.specs.Prelude.{◌||◌, is_some}
use Rattle.sv_tree.specs.Items as tree
use Rattle.sv_names.specs.declared.checked.Checked.{Checked}
use Rattle.sv_names.specs.declared.checked.Checked.TheVariants.{Good, Broken}
use Rattle.sv_names.specs.declared.named.Known.{Known}
use Rattle.sv_names.specs.declared.named.Named.{Named}
use Rattle.sv_names.specs.declared.named.Named.TheVariants.{ClockingBlock, Itself}
use Rattle.sv_names.specs.declared.named.ResultVariable.TheVariants as result_variable
use Rattle.sv_names.specs.Groups.{Group}
use Rattle.sv_names.specs.Index.{is_block, some_block}
use Rattle.sv_names.specs.Items.{block_path, default_in}
use Rattle.sv_names.specs.Named.{at_level, placed_at, value_found, declared_in, in_known, further, local_size}
use Rattle.sv_names.specs.Types.{Path, same_bytes}

neither : (a b : Bool) → (a || b) ≡ false → (a ≡ false) × (b ≡ false)
neither true b e = absurd (true≢false e)
neither false b e = (refl, e)

-- the path of a clocking block
abbrev path_of : Option (Checked Named) → Option Path
path_of (Some (Good (ClockingBlock p ss))) = Some p
path_of k = None

-- what is no clocking block is none at any level
at_any_level : (up place : ℕ) (n : Named) → is_block (Good n) ≡ false → path_of (Some (Good (at_level up place n))) ≡ None
at_any_level up place (ClockingBlock p ss) e = absurd (true≢false e)
at_any_level up place (Itself c (result_variable.Local u p t)) e = refl
at_any_level up place (Itself c r) e = refl
at_any_level up place n e = refl

no_block : (up place : ℕ) (k : Checked Named) → is_block k ≡ false → path_of (Some (placed_at up place k)) ≡ None
no_block up place (Good n) e = at_any_level up place n e
no_block up place (Broken f) e = refl

-- no name is that of one
none_named : (up place : ℕ) (x : List ℕ) (ks : List Known) → some_block ks ≡ false → path_of (in_known up place x ks) ≡ None
none_named up place x [] e = refl
none_named up place x (k ∷ ks) e =
    by (same_bytes x k.name.text)
    (none_named up (further place (local_size k.value)) x ks (neither (is_block k.value) (some_block ks) e).1)
  where
    by : (b : Bool) → path_of (in_known up (further place (local_size k.value)) x ks) ≡ None → path_of (option_map value_found (cond b (Some (record { up = up; place = place; known = k }))
        (declared_in up (further place (local_size k.value)) x ks))) ≡ None
    by true more = no_block up place k.value (neither (is_block k.value) (some_block ks) e).0
    by false more = more

no_path : (g : Group) (x : List ℕ) → some_block g.scope.known ≡ false → block_path g x ≡ None
no_path g x e =
    let is : block_path g x ≡ path_of (in_known 0 0 x g.scope.known) = refl in
    is ∙ none_named 0 0 x g.scope.known e

-- so there is no default
pub no_default : (g : Group) (is : List tree.Item) → some_block g.scope.known ≡ false → default_in g is ≡ None
no_default g [] e = refl
no_default g (tree.Clocking b ∷ more) e = by (is_some b.default) (no_default g more e)
  where
    by : (t : Bool) → default_in g more ≡ None → cond t (block_path g b.name.text) (default_in g more) ≡ None
    by true none = no_path g b.name.text e
    by false none = none
no_default g (tree.DefaultClocking at n ∷ more) e = no_path g n.text e
no_default g (i ∷ more) e = no_default g more e
