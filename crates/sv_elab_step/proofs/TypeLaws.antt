-- The types that names and expressions stand for.
use Rattle.std.proofs.Common.{◌≡◌, ℕ, Bool, true, false, true≢false, List, [], ◌∷◌, length, Option, Some, None, refl, sym, ap, ◌∙◌, option_map, arith}
use Rattle.std.specs.Prelude.{if◌then◌else◌, ◌==◌}
use Rattle.sv_value.specs.declared.place.Place.{Place}
use Rattle.sv_tree.specs.declared.expr.Root.{Root}
use Rattle.sv_tree.specs.declared.expr.Root.TheVariants as root
use Rattle.sv_tree.specs.declared.expr.Expr.{Expr}
use Rattle.sv_tree.specs.declared.expr.Suffix.{Suffix, Member, Call', Select', Part'}
use Rattle.sv_tree.specs.declared.word.Name.{Name}
use Rattle.sv_tree.specs.Expr as tree
use Rattle.sv_tree.specs.View.{suffix, suffix_list, expr_list}
use Rattle.sv_names.specs.declared.checked.Fault.{Fault}
use Rattle.sv_names.specs.declared.checked.Checked.{Checked}
use Rattle.sv_names.specs.declared.checked.Checked.TheVariants.{Good, Broken}
use Rattle.sv_names.specs.declared.named.Named.{Named}
use Rattle.sv_names.specs.declared.named.Named.TheVariants.{TypeName, ClassName, Itself}
use Rattle.sv_names.specs.declared.named.ResultVariable.TheVariants as result_variable
use Rattle.sv_names.specs.declared.refusal.Refusal.{Refusal}
use Rattle.sv_names.specs.declared.refusal.Refusal.TheVariants.{Rule, Memory}
use Rattle.sv_names.specs.declared.system.System.{System}
use Rattle.sv_names.specs.declared.system.System.TheVariants as system
use Rattle.sv_names.specs.declared.ty.Ty.{Ty}
use Rattle.sv_names.specs.Checked.{◌▷◌, broken_at}
use Rattle.sv_names.specs.Given.{Fails}
use Rattle.sv_names.specs.Expressions.{type_in, outputs_of_system}
use Rattle.sv_names.specs.Named.{Around, Found, at_level, placed_at, value_found, found, declared_from, names_type, told_at}
use Rattle.sv_names.specs.Types.{Path}
use Rattle.sv_elab_step.specs.TypeNames.{type_meant, type_told, type_declared, type_found}

-- what is no type
pub other_meant : (at : Place) (n : Named) → ((t : Ty) → n ≡ TypeName t → ⊥) → ((p : Path) → n ≡ ClassName p → ⊥) → None ≡ type_meant at n
other_meant at (TypeName t) no_type no_class = absurd (no_type t refl)
other_meant at (ClassName p) no_type no_class = absurd (no_class p refl)
other_meant at n no_type no_class = refl

-- a type is the same at every level
meant_at : (at : Place) (up place : ℕ) (n : Named) → type_meant at n ≡ type_meant at (at_level up place n)
meant_at at up place (Itself c (result_variable.Object p t)) = refl
meant_at at up place (Itself c (result_variable.Local u p t)) = refl
meant_at at up place n = refl

declared_at : (ar : Around) (n : Name) (up place : ℕ) (c : Checked Named) → type_declared ar n c ≡ type_declared ar n (placed_at up place c)
declared_at ar n up place (Good m) = meant_at n.at up place m
declared_at ar n up place (Broken f) = refl

-- a name without suffixes
plain_is : (ar : Around) (n : Name) → type_found ar n (found ar n.text) ≡ type_in ar (tree.Post (root.Plain n) tree.NoSuffix)
plain_is ar n = refl

-- by its declaration
pub type_some : (ar : Around) (n : Name) (f : Found) → Some f ≡ declared_from 0 n.text ar.scopes
    → type_declared ar n f.known.value ≡ type_in ar (tree.Post (root.Plain n) tree.NoSuffix)
type_some ar n f h =
    declared_at ar n f.up f.place f.known.value ∙ ap (λ (o : Option Found). type_found ar n (option_map value_found o)) h ∙ plain_is ar n

pub type_none : (ar : Around) (n : Name) → None ≡ declared_from 0 n.text ar.scopes
    → None ≡ type_in ar (tree.Post (root.Plain n) tree.NoSuffix)
type_none ar n h = ap (λ (o : Option Found). type_found ar n (option_map value_found o)) h ∙ plain_is ar n

-- what has suffixes names no type
suffix_behind : (ar : Around) (r : Root) (s : Suffix) (ss : tree.Suffixes) → None ≡ type_in ar (tree.Post r (suffix s ss))
suffix_behind ar (root.Plain n) (Member name) ss = refl
suffix_behind ar (root.Plain n) (Call' at shape row) ss = refl
suffix_behind ar (root.Plain n) (Select' at p e) ss = refl
suffix_behind ar (root.Plain n) (Part' at word p a q b) ss = refl
suffix_behind ar (root.This at) s ss = refl
suffix_behind ar (root.Super at n) s ss = refl
suffix_behind ar (root.Scoped k n) s ss = refl

pub type_behind : (ar : Around) (r : Root) (ss : List Suffix) (none : Bool) → none ≡ (length ss == 0) → none ≡ false
    → None ≡ type_in ar (tree.Post r (suffix_list ss))
type_behind ar r [] none h some = absurd (true≢false (sym h ∙ some))
type_behind ar r (s ∷ ss) none h some = suffix_behind ar r s (suffix_list ss)

-- ---- a declaration that breaks a rule

fails_then : {A B : Type 0} (e : Refusal) (c : Checked A) (go : A → Checked B) → Fails e c → Fails e (c ▷ go)
fails_then (Rule n at) c go h = ap (λ x. x ▷ go) h
fails_then Memory c go h = tt

pub told_as_type : (ar : Around) (n : Name) (f : Fault) (text : List ℕ) (names : Bool) (e : Refusal) (told : Checked Ty)
    → text ≡ n.text → names ≡ names_type ar text → names ≡ true → Fails e (told_at n f)
    → ((x : Checked Ty) → Fails e x → told ≡ x) → Some told ≡ type_told ar n f
told_as_type ar n f text names e told same test is fails so =
    let broken : Checked Ty = told_at n f ▷ (λ x. broken_at 7 n.at) in
    let tested : true ≡ names_type ar n.text = sym is ∙ test ∙ ap (names_type ar) same in
    ap Some (so broken (fails_then e (told_at n f) (λ x. broken_at 7 n.at) fails))
    ∙ ap (λ (b : Bool). if b then Some broken else None) tested

-- ---- `$cast`

-- two arguments
pub two_outputs : (es : List Expr) → length es ≡ 2 → true ∷ [] ≡ outputs_of_system system.Cast (tree.Written (expr_list es))
two_outputs [] h = absurd (omega (arith, h))
two_outputs (a ∷ []) h = absurd (omega (arith, h))
two_outputs (a ∷ b ∷ []) h = refl
two_outputs (a ∷ b ∷ c ∷ es) h = absurd (omega (arith, h))

-- any other number
pub no_outputs : (es : List Expr) → (length es ≡ 2 → ⊥) → [] ≡ outputs_of_system system.Cast (tree.Written (expr_list es))
no_outputs [] h = refl
no_outputs (a ∷ []) h = refl
no_outputs (a ∷ b ∷ []) h = absurd (h refl)
no_outputs (a ∷ b ∷ c ∷ es) h = refl

-- other systems
pub other_outputs : (s : System) (a : tree.Actuals) → (s ≡ system.Cast → ⊥) → [] ≡ outputs_of_system s a
other_outputs system.Cast a h = absurd (h refl)
other_outputs s a h = refl
