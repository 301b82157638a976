-- Concatenations and replications of parts that run as their types.
use Rattle.std.proofs.Common.{◌≡◌, ℕ, ◌+◌, ◌*◌, Bool, true, false, true≢false, ◌||◌, List, [], ◌∷◌, Option, Some, None, refl, ap, ap₂, sym, ◌∙◌, subst, if◌then◌else◌, mul-zero}
use Rattle.sv_value.specs.declared.place.Place.{Place}
use Rattle.sv_flat.specs.Expr as flat
use Rattle.sv_names.specs.declared.argument.Arg.{Arg}
use Rattle.sv_names.specs.declared.checked.Checked.{Checked}
use Rattle.sv_names.specs.declared.checked.Checked.TheVariants.{Good, Broken}
use Rattle.sv_names.specs.declared.ty.Ty.{Ty}
use Rattle.sv_names.specs.declared.ty.Ty.TheVariants.{Text}
use Rattle.sv_names.specs.declared.typed.Typed.{Typed}
use Rattle.sv_names.specs.Arguments.{value_of_arg, parts_beside, first_kind, parts_of}
use Rattle.sv_names.specs.Checked.{◌▷◌, given, put_before}
use Rattle.sv_names.specs.Operators.{Placed, joinable, first_is_text, alike, joins, joined, unsigned_part, join_all, widths_of, join_of, repeated, repeat_of}
use Rattle.sv_names.specs.Types.{is_integral, is_text, is_fixed, is_array, same_flag, is_four_state, plain_vector, width_of_type}
use Rattle.sv_names.specs.Values.{not_too_wide}
use Rattle.sv_elab_laws.specs.Fits.{Enums, IsType, RunsAs, Fits, Keeps}
use Rattle.sv_elab_laws.proofs.Kept.{keeps_then, keeps_given, each_then, keeps_both, if_told, if_each}
use Rattle.sv_elab_laws.proofs.FitTypes.{no_width, text_alone, FitsItem, as_fits, fits_item}

-- ---- strings or numbers

-- a type by whether it is a string
abbrev row_type : Bool → ℕ → Bool → Ty
row_type b w four = if b then Text else plain_vector w false four

-- such a type is no array
pub record IsRow (enums : Enums) (b : Bool) (t : Ty) : Type 0 where
  pub is_type : IsType enums t
  pub not_fixed : is_fixed t ≡ false
  pub text : is_text t ≡ b

row_is : (enums : Enums) (b : Bool) (w : ℕ) (four : Bool) → IsRow enums b (row_type b w four)
row_is enums true w four = record { is_type = tt; not_fixed = refl; text = refl }
row_is enums false w four = record { is_type = tt; not_fixed = refl; text = refl }

-- a part, and whether it is a string
pub record FitsRow (enums : Enums) (b : Bool) (t : Typed) : Type 0 where
  pub row : IsRow enums b t.ty
  pub runs : RunsAs t.ty t.code.value

text_width : (t : Ty) → is_text t ≡ true → width_of_type t ≡ 0
text_width t is = no_width t (text_alone t is)

-- two parts
two_run : (b : Bool) (t u : Ty) (e f : flat.Expr) (four : Bool) → is_text t ≡ b → is_text u ≡ b → RunsAs t e → RunsAs u f
    → RunsAs (row_type b (width_of_type t + width_of_type u) four) (flat.Join e f)
two_run true t u e f four m n h k =
    record {
      width = ap₂ (λ (v w : ℕ). v + w) (h.width ∙ text_width t m) (k.width ∙ text_width u n);
      sign = refl;
    }
two_run false t u e f four m n h k = record { width = ap₂ (λ (v w : ℕ). v + w) h.width k.width; sign = refl }

-- a part so many times
many_run : (b : Bool) (n : ℕ) (t : Ty) (e : flat.Expr) (four : Bool) → is_text t ≡ b → RunsAs t e
    → RunsAs (row_type b (n * width_of_type t) four) (flat.Repeat n e)
many_run true n t e four m h = record { width = ap (λ (w : ℕ). n * w) (h.width ∙ text_width t m) ∙ mul-zero n; sign = refl }
many_run false n t e four m h = record { width = ap (λ (w : ℕ). n * w) h.width; sign = refl }

module _ (enums : Enums) where
  -- ---- parts from the left

  abbrev AllRow : Bool → List Placed → Type 0
  AllRow b [] = Unit {0}
  AllRow b (p ∷ ps) = FitsRow enums b p.1 × AllRow b ps

  joined_fits : (b : Bool) (a : Typed) (ps : List Placed) → FitsRow enums b a → AllRow b ps → FitsRow enums b (joined a ps)
  joined_fits b a [] h k = h
  joined_fits b a (p ∷ ps) h k =
      let r : Typed = joined p.1 ps in
      let rest : FitsRow enums b r = joined_fits b p.1 ps k.0 k.1 in
      let four : Bool = is_four_state a.ty || is_four_state r.ty in
      record {
        row = subst (λ (c : Bool). IsRow enums b (row_type c (width_of_type a.ty + width_of_type r.ty) four)) (sym h.row.text) (row_is enums b _ four);
        runs = subst (λ (c : Bool). RunsAs (row_type c (width_of_type a.ty + width_of_type r.ty) four) (flat.Join a.code.value r.code.value))
            (sym h.row.text) (two_run b a.ty r.ty a.code.value r.code.value four h.row.text rest.row.text h.runs rest.runs);
      }

  alone_fits : (b : Bool) (a : Typed) → FitsRow enums b a → FitsRow enums b (unsigned_part a)
  alone_fits b a h =
      if_told (λ (t : Typed). FitsRow enums b t) (is_text a.ty) _ _ (λ is. h)
      (λ other. record { row = record { is_type = tt; not_fixed = refl; text = sym other ∙ h.row.text }; runs = record { width = refl; sign = refl } })

  all_fit : (b : Bool) (p : Placed) (ps : List Placed) → FitsRow enums b p.1 → AllRow b ps → FitsRow enums b (join_all p ps)
  all_fit b p [] h k = alone_fits b p.1 h
  all_fit b p (q ∷ ps) h k = joined_fits b p.1 (q ∷ ps) h k

  row_fits : (b : Bool) (t : Typed) → FitsRow enums b t → FitsItem enums t
  row_fits b t h = record { is_type = h.row.is_type; not_fixed = h.row.not_fixed; runs = h.runs }

  joins_fit : (b : Bool) (at : Place) (ps : List Placed) → AllRow b ps → Keeps (FitsItem enums) (join_of at ps)
  joins_fit b at [] h = tt
  joins_fit b at (p ∷ ps) h =
      each_then (FitsItem enums) (not_too_wide at (widths_of (p ∷ ps))) _ (λ u. row_fits b _ (all_fit b p ps h.0 h.1))

  -- ---- arguments as parts

  -- arguments that are values
  abbrev pub ArgsFit : List Arg → Type 0
  ArgsFit [] = Unit {0}
  ArgsFit (a ∷ as') = Keeps (Fits enums) (value_of_arg a) × ArgsFit as'

  part_fits : (at : Place) (t : Typed) → Fits enums t → Keeps (FitsItem enums) (joinable at t)
  part_fits at t h =
      let P : Checked Typed → Type 0 = λ c. Keeps (FitsItem enums) c in
      if_told P (is_array t.ty) _ _ (λ is. tt) (λ isnt. if_each P (is_integral t.ty || is_text t.ty) _ _ (fits_item enums t h isnt) tt)

  kind_is : (b c : Bool) → same_flag b c ≡ true → c ≡ b
  kind_is true c h = h
  kind_is false true h = absurd (true≢false (sym h))
  kind_is false false h = refl

  alike_fits : (b : Bool) (at : Place) (t : Typed) → FitsItem enums t → Keeps (FitsRow enums b) (alike b at t)
  alike_fits b at t h =
      if_told (λ (c : Checked Typed). Keeps (FitsRow enums b) c) (same_flag b (is_text t.ty)) _ _
      (λ is. record { row = record { is_type = h.is_type; not_fixed = h.not_fixed; text = kind_is b (is_text t.ty) is }; runs = h.runs }) (λ isnt. tt)

  -- parts beside one whose kind is known
  beside_fits : (b : Bool) (as' : List Arg) → ArgsFit as' → Keeps (AllRow b) (parts_beside (Some b) as')
  beside_fits b [] h = tt
  beside_fits b (a ∷ as') h =
      keeps_given (λ (q : Placed × List Placed). FitsRow enums b q.0.1 × AllRow b q.1) (AllRow b) _ _
      (keeps_both (λ (p : Placed). FitsRow enums b p.1) (AllRow b) _ (parts_beside (Some b) as')
      (keeps_given (FitsRow enums b) (λ (p : Placed). FitsRow enums b p.1) (λ (t : Typed). (a.at, t)) (value_of_arg a ▷ joins (Some b) a.at)
      (keeps_then (Fits enums) (FitsRow enums b) (value_of_arg a) (joins (Some b) a.at) h.0
      (λ t f. keeps_then (FitsItem enums) (FitsRow enums b) (joinable a.at t) (alike b a.at) (part_fits a.at t f) (λ u g. alike_fits b a.at u g)))
      (λ t f. f))
      (beside_fits b as' h.1))
      (λ q f. f)

  -- a first part that breaks a rule breaks it for all
  first_broken : (Q : Typed → Type 0) (at : Place) (c : Checked Typed) (f : Typed → Placed) (rest : Checked (List Placed)) → first_is_text c ≡ None
      → Keeps Q (put_before (given f c) rest ▷ join_of at)
  first_broken Q at (Good t) f rest h = cc
  first_broken Q at (Broken e) f (Good ps) h = tt
  first_broken Q at (Broken e) f (Broken g) h = tt

  by_first : (at : Place) (a : Arg) (as' : List Arg) (first : Option Bool) → first_kind (a ∷ as') ≡ first → ArgsFit (a ∷ as')
      → Keeps (FitsItem enums) (parts_beside first (a ∷ as') ▷ join_of at)
  by_first at a as' (Some b) is h =
      keeps_then (AllRow b) (FitsItem enums) (parts_beside (Some b) (a ∷ as')) (join_of at) (beside_fits b (a ∷ as') h) (λ ps f. joins_fit b at ps f)
  by_first at a as' None is h =
      first_broken (FitsItem enums) at (value_of_arg a ▷ joinable a.at) (λ t. (a.at, t)) (parts_beside None as') is

  -- a concatenation
  pub join_fits : (at : Place) (as' : List Arg) → ArgsFit as' → Keeps (FitsItem enums) (parts_of as' ▷ join_of at)
  join_fits at [] h = tt
  join_fits at (a ∷ as') h = by_first at a as' (first_kind (a ∷ as')) refl h

  -- a replication
  repeated_fits : (n : ℕ) (a : Typed) → FitsItem enums a → Fits enums (repeated n a)
  repeated_fits n a h =
      let w : ℕ = n * width_of_type a.ty in
      let row : IsRow enums (is_text a.ty) (row_type (is_text a.ty) w (is_four_state a.ty)) = row_is enums (is_text a.ty) w (is_four_state a.ty) in
      as_fits enums (repeated n a)
      (record { is_type = row.is_type; not_fixed = row.not_fixed; runs = many_run (is_text a.ty) n a.ty a.code.value (is_four_state a.ty) refl h.runs })

  pub repeat_fits : (at : Place) (n : Checked ℕ) (a : Checked Typed) → Keeps (FitsItem enums) a → Keeps (Fits enums) (repeat_of at n a)
  repeat_fits at (Good n) (Good a) h = each_then (Fits enums) (not_too_wide at (n * width_of_type a.ty)) _ (λ u. repeated_fits n a h)
  repeat_fits at (Good n) (Broken g) h = tt
  repeat_fits at (Broken f) (Good a) h = tt
  repeat_fits at (Broken f) (Broken g) h = tt
