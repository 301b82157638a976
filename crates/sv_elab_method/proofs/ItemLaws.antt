-- The items of an enum, one declaration after another.
use Rattle.std.proofs.Common.{◌≡◌, ℕ, suc, ◌+◌, ◌<◌, Bool, true, false, List, [], ◌∷◌, ◌++◌, length, get_or, drop, map, Option, refl, ap, sym, ◌∙◌, add-one, drop-cons}
use Rattle.std.specs.Prelude.{if◌then◌else◌}
use Rattle.sv_value.specs.declared.place.Place.{Place}
use Rattle.sv_value.specs.declared.val.Integral.{Integral}
use Rattle.sv_flat.specs.declared.expr.NamedItem.{NamedItem}
use Rattle.sv_flat.specs.declared.object.Bounds.{Bounds}
use Rattle.sv_names.specs.declared.checked.Checked.{Checked}
use Rattle.sv_names.specs.declared.checked.Checked.TheVariants.{Good, Broken}
use Rattle.sv_names.specs.declared.named.Known.{Known}
use Rattle.sv_names.specs.declared.named.Named.{Named}
use Rattle.sv_names.specs.declared.scope.Scope.{Scope}
use Rattle.sv_names.specs.declared.ty.Ty.{Ty}
use Rattle.sv_names.specs.declared.ty.Ty.TheVariants.{Enum}
use Rattle.sv_names.specs.Calls.{is_item_at, item_named, items_known, items_in_scopes, enum_items}
use Rattle.sv_names.specs.Checked.{both, given}
use Rattle.sv_names.specs.Joined.{joined}
use Rattle.sv_names.specs.Named.{Around}
use Rattle.sv_names.specs.Types.{Path, same_path}
use Rattle.sv_names.proofs.Joined.{joined_first, joined_grouped}
use Rattle.sv_elab_method.specs.Items.{item_of, one_known, one_scope, or_items, items_of}

-- a list that a test puts before others
joined_if : (b : Bool) (xs ys : Checked (List NamedItem)) → joined (if b then xs else Good []) ys ≡ (if b then joined xs ys else ys)
joined_if true xs ys = refl
joined_if false xs ys = joined_first ys

-- an item stands before those of later declarations
item_before : (v : Checked Named) (f : Named → List NamedItem) (ys : Checked (List NamedItem))
    → joined (given f v) ys ≡ given (λ p. f p.0 ++ p.1) (both v ys)
item_before (Good x) f (Good ys) = refl
item_before (Good x) f (Broken g) = refl
item_before (Broken e) f (Good ys) = refl
item_before (Broken e) f (Broken g) = refl

one_before : (at : Place) (k : Known) (ks : List Known) → joined (one_known at k) (items_known at ks) ≡ items_known at (k ∷ ks)
one_before at k ks =
    joined_if (is_item_at at k.kind) (item_of k) (items_known at ks)
    ∙ ap (λ (c : Checked (List NamedItem)). if is_item_at at k.kind then c else items_known at ks) (item_before k.value (item_named k.name) (items_known at ks))

-- an item behind a list stands before those of later declarations
known_next : (list : Checked (List NamedItem)) (at : Place) (k : Known) (ks : List Known)
    → joined (joined list (one_known at k)) (items_known at ks) ≡ joined list (items_known at (k ∷ ks))
known_next list at k ks = joined_grouped list (one_known at k) (items_known at ks) ∙ ap (joined list) (one_before at k ks)

scope_before : (p : Path) (at : Place) (s : Scope) (ss : List Scope)
    → joined (one_scope p at s) (items_in_scopes p at ss) ≡ items_in_scopes p at (s ∷ ss)
scope_before p at s ss = joined_if (same_path p s.path) (items_known at s.known) (items_in_scopes p at ss)

-- the items of a scope behind a list stand before those of later scopes
scope_next : (list : Checked (List NamedItem)) (p : Path) (at : Place) (s : Scope) (ss : List Scope)
    → joined (joined list (one_scope p at s)) (items_in_scopes p at ss) ≡ joined list (items_in_scopes p at (s ∷ ss))
scope_next list p at s ss = joined_grouped list (one_scope p at s) (items_in_scopes p at ss) ∙ ap (joined list) (scope_before p at s ss)

-- ---- loops

-- one declaration more
pub known_step : (at : Place) (ks : List Known) (i : ℕ) (k : Known) (list next total : Checked (List NamedItem)) → i < length ks → k ≡ get_or ks i k
    → next ≡ joined list (one_known at k) → joined list (items_known at (drop i ks)) ≡ total → joined next (items_known at (drop (i + 1) ks)) ≡ total
known_step at ks i k list next total h is put so_far =
    ap (λ (c : Checked (List NamedItem)). joined c (items_known at (drop (i + 1) ks))) put
    ∙ known_next list at k (drop (i + 1) ks)
    ∙ ap (λ (j : ℕ). joined list (items_known at (k ∷ drop j ks))) (add-one i)
    ∙ ap (λ (y : Known). joined list (items_known at (y ∷ drop (suc i) ks))) is
    ∙ sym (ap (λ (ys : List Known). joined list (items_known at ys)) (drop-cons ks i k h))
    ∙ so_far

-- one scope more, of what has scopes
module _ {A : Type 0} (scopes : List A → List Scope) (scope : A → Scope) (first : (y : A) (ys : List A) → scopes (y ∷ ys) ≡ scope y ∷ scopes ys) where
  pub scope_step : (p : Path) (at : Place) (xs : List A) (i : ℕ) (x : A) (list next total : Checked (List NamedItem)) → i < length xs → x ≡ get_or xs i x
      → next ≡ joined list (one_scope p at (scope x)) → joined list (items_in_scopes p at (scopes (drop i xs))) ≡ total
      → joined next (items_in_scopes p at (scopes (drop (i + 1) xs))) ≡ total
  scope_step p at xs i x list next total h is put so_far =
      ap (λ (c : Checked (List NamedItem)). joined c (items_in_scopes p at (scopes (drop (i + 1) xs)))) put
      ∙ scope_next list p at (scope x) (scopes (drop (i + 1) xs))
      ∙ ap (λ (ss : List Scope). joined list (items_in_scopes p at ss)) (sym (first x (drop (i + 1) xs)))
      ∙ ap (λ (j : ℕ). joined list (items_in_scopes p at (scopes (x ∷ drop j xs)))) (add-one i)
      ∙ ap (λ (y : A). joined list (items_in_scopes p at (scopes (y ∷ drop (suc i) xs)))) is
      ∙ sym (ap (λ (ys : List A). joined list (items_in_scopes p at (scopes ys))) (drop-cons xs i x h))
      ∙ so_far

-- ---- an enum

enum_by : (ar : Around) (p : Path) (at : Place) (i : Integral) (b : Option Bounds) (w : Bool) (own : Checked (List NamedItem)) → items_in_scopes p at ar.scopes ≡ own
    → or_items own (items_in_scopes p at (map (λ k. k.scope) ar.classes)) ≡ enum_items ar (Enum p at i b w)
enum_by ar p at i b w (Good []) h = rw h refl
enum_by ar p at i b w (Good (x ∷ xs)) h = rw h refl
enum_by ar p at i b w (Broken f) h = rw h refl

-- its items are those of the scopes around, or else those of a class
pub enum_is : (ar : Around) (p : Path) (at : Place) (i : Integral) (b : Option Bounds) (w : Bool) → items_of ar p at ≡ enum_items ar (Enum p at i b w)
enum_is ar p at i b w = enum_by ar p at i b w (items_in_scopes p at ar.scopes) refl

pub enum_other : (ar : Around) (t : Ty) → ((p : Path) (at : Place) (i : Integral) (b : Option Bounds) (w : Bool) → t ≡ Enum p at i b w → ⊥) → enum_items ar t ≡ Good []
enum_other ar (Enum p at i b w) other = absurd (other p at i b w refl)
enum_other ar t other = refl
