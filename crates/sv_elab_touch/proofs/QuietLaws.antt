-- Names that write and call nothing, and names alone as targets.
use Rattle.std.proofs.Common.{arith, rules, ◌≡◌, ◌<◌, length, Bool, true, false, List, [], ◌∷◌, ◌++◌, Option, Some, if◌then◌else◌, refl, ap, ◌∙◌, append-nil}
use Rattle.sv_value.specs.declared.place.Place.{Place}
use Rattle.sv_tree.specs.declared.word.Name.{Name}
use Rattle.sv_tree.specs.declared.expr.Root.{Root}
use Rattle.sv_tree.specs.declared.expr.Root.TheVariants.{Plain}
use Rattle.sv_tree.specs.declared.expr.Suffix.{Suffix}
use Rattle.sv_tree.specs.Expr as tree
use Rattle.sv_tree.specs.Expr.{place_of_root}
use Rattle.sv_tree.specs.View.{suffix, suffix_list}
use Rattle.sv_names.specs.declared.checked.Checked.{Checked}
use Rattle.sv_names.specs.declared.checked.Checked.TheVariants.{Good, Broken}
use Rattle.sv_names.specs.declared.checked.Fault.{Fault}
use Rattle.sv_names.specs.declared.named.Named.{Named}
use Rattle.sv_names.specs.declared.typed.How.{How}
use Rattle.sv_names.specs.declared.typed.Typed.{Typed}
use Rattle.sv_names.specs.Checked.{given, broken_at, also_broken, ◌where_also◌, ◌▷◌}
use Rattle.sv_names.specs.Expressions.{as_target, before_select, or_before, target_in}
use Rattle.sv_names.specs.Named.{Around, is_value_kind, kind_stands, meaning}
use Rattle.sv_names.specs.Targets.{Spot, may_begin, selects_stand}
use Rattle.sv_names.specs.Things.{Thing, A_value, and_behind, named_thing, one_spot, root_thing, thing_target}
use Rattle.sv_names.specs.Types.{is_fixed}
use Rattle.sv_names.specs.Writers.{Touch, part_touches, selected_touches, spot_touches, suffix_touches, written_by}
use Rattle.sv_elab_expr.specs.Walk.{stepped}
use Rattle.sv_elab_touch.specs.Touched.{is_value, step_touches}
use Rattle.sv_elab_touch.proofs.StepLaws.{suffix_first}

-- nothing is written and called by one suffix, and by those behind it
pub quiet_first : (ar : Around) (pe : Place) (th : Checked Thing) (s : Suffix) (rest : tree.Suffixes)
    → step_touches ar th (suffix s rest) ≡ [] → suffix_touches ar pe (stepped ar pe th (suffix s rest)) rest ≡ []
    → suffix_touches ar pe th (suffix s rest) ≡ []
quiet_first ar pe th s rest first behind = suffix_first ar pe th s rest ∙ (λ i. first i ++ behind i)

-- a rule that is broken before stays so
broken_value : (f : Fault) (u : Checked (Unit {0})) → is_value (also_broken f u) ≡ true
broken_value f (Good v) = refl
broken_value f (Broken g) = refl

-- what is selected is a value, or breaks a rule
pub value_behind : (c : Checked Typed) (th : Checked Thing) (behind : Unit {0} → Checked (Unit {0}))
    → is_value (and_behind (given A_value c) th behind) ≡ true
value_behind (Good t) (Good x) behind = refl
value_behind (Broken f) (Good x) behind = refl
value_behind c (Broken f) behind = broken_value f (behind tt)

-- ---- names alone as targets

-- no suffixes
pub no_suffixes : (ss : List Suffix) → length ss < 1 → suffix_list ss ≡ tree.NoSuffix
no_suffixes [] few = refl
no_suffixes (s ∷ ss) few = absurd (omega arith)

-- what a target writes, or else what stands before its first broken part
abbrev pub by_target : Place → Option Typed → Checked (List Spot) → List Touch
by_target at before (Good ss) = spot_touches ss
by_target at before (Broken f) = selected_touches at before

part_is : (h : How) (ar : Around) (r : Root) (s : tree.Suffixes) (c : Checked (List Spot)) → target_in h ar (tree.Post r s) ≡ Some c
    → part_touches h ar r s ≡ by_target (place_of_root r) (before_select ar (place_of_root r) (root_thing ar r) s) c
part_is h ar r s (Good ss) is = search (rules)
part_is h ar r s (Broken f) is = search (rules)

-- a target that breaks a rule writes what stands before
broken_written : (at : Place) (t : Typed) (f : Fault) (u : Checked (Unit {0})) → by_target at (Some t) (also_broken f u) ≡ written_by at t.target.begins
broken_written at t f (Good u) = refl
broken_written at t f (Broken g) = refl

-- and one that breaks none writes the same
spot_written : (h : How) (at : Place) (t : Typed) (b : Bool) (g s : Checked (Unit {0}))
    → by_target at (Some t) (or_before h at (one_spot ((if b then broken_at 42 t.at else (Good (at, t) where_also g)) where_also s)) (λ _. Some t))
    ≡ written_by at t.target.begins
spot_written h at t true g (Good u) = broken_written at t _ _
spot_written h at t true g (Broken f) = broken_written at t _ _
spot_written h at t false (Good v) (Good u) = append-nil (written_by at t.target.begins)
spot_written h at t false (Good v) (Broken f) = broken_written at t _ _
spot_written h at t false (Broken f) (Good u) = broken_written at t _ _
spot_written h at t false (Broken e) (Broken f) = broken_written at t _ _

-- a value alone writes what it begins with, whichever rules it breaks
pub value_written : (h : How) (ar : Around) (r : Root) (t : Typed) → root_thing ar r ≡ Good (A_value t)
    → part_touches h ar r tree.NoSuffix ≡ written_by (place_of_root r) t.target.begins
value_written h ar r t is =
    let at = place_of_root r in
    part_is h ar r tree.NoSuffix (or_before h at (root_thing ar r ▷ thing_target ar h at) (λ _. as_target ar (root_thing ar r))) refl
    ∙ (λ i. by_target at (as_target ar (is i)) (or_before h at (is i ▷ thing_target ar h at) (λ _. as_target ar (is i))))
    ∙ spot_written h at t (is_fixed t.ty) (may_begin h at t t.target.begins) (selects_stand h t.target.moving)

-- the same of a name, by what it stands for
pub alone_written : (h : How) (ar : Around) (n : Name) (m : Named) (t : Typed)
    → (meaning ar n where_also kind_stands ar 7 n.at is_value_kind n.text) ≡ Good m → named_thing ar n.at m ≡ Good (A_value t)
    → part_touches h ar (Plain n) tree.NoSuffix ≡ written_by n.at t.target.begins
alone_written h ar n m t found stands = value_written h ar (Plain n) t (ap (λ c. c ▷ named_thing ar n.at) found ∙ stands)
