-- Operators on operands that run as their types.
use Rattle.std.proofs.Common.{◌≡◌, ℕ, max, Bool, true, false, true≢false, ◌&&◌, ◌||◌, List, Option, Some, None, refl, ap, ap₂, sym, ◌∙◌, le_refl}
use Rattle.std.proofs.Math.Nat.{max-eq_left}
use Rattle.sv_value.specs.declared.place.Place.{Place}
use Rattle.sv_value.specs.declared.operator.BinOp.{BinOp}
use Rattle.sv_value.specs.declared.operator.BinOp.TheVariants as bin
use Rattle.sv_flat.specs.Expr as flat
use Rattle.sv_flat.specs.Eval.{binary_width, binary_sign, operands_of}
use Rattle.sv_tree.specs.declared.word.UnaryWord.{UnaryWord}
use Rattle.sv_tree.specs.declared.word.UnaryWord.TheVariants as unary
use Rattle.sv_names.specs.declared.around.ClassInfo.{ClassInfo}
use Rattle.sv_names.specs.declared.checked.Checked.{Checked}
use Rattle.sv_names.specs.declared.operator.Operands.{Operands}
use Rattle.sv_names.specs.declared.operator.Operands.TheVariants.{Numbers, Comparison, Power}
use Rattle.sv_names.specs.declared.ty.Ty.{Ty}
use Rattle.sv_names.specs.declared.ty.Ty.TheVariants.{Vector, Enum, Text, Class, Null}
use Rattle.sv_names.specs.declared.typed.Typed.{Typed}
use Rattle.sv_names.specs.Checked.{both, ◌▷◌}
use Rattle.sv_names.specs.Named.{Around, can_be_derived}
use Rattle.sv_names.specs.Operators.{unary_typed, binary_typed, comparison_stands, power_stands, binary_of, choose_typed, branch_type, branches, choose_of}
use Rattle.sv_names.specs.Types.{Path, is_integral, is_text, is_fixed, is_reference, same_enum, same_type, width_of_type, sign_of_type}
use Rattle.sv_names.specs.Values.{one_item, number_operand, common_reference}
use Rattle.sv_elab_laws.specs.Fits.{Enums, IsType, RunsAs, Fits, Keeps}
use Rattle.sv_elab_laws.proofs.Kept.{keeps_then, keeps_given, each_then, keeps_both, KeepsSome, keeps_unless, if_told, if_each}
use Rattle.sv_elab_laws.proofs.FitTypes.{no_width, no_sign, text_alone, runs_plain, FitsItem, one_item_fits, number_fits}
use Rattle.sv_elab_laws.proofs.SameEnums.{Alike, enum_alike, and_first, and_second}

module _ (enums : Enums) where
  -- ---- one operand

  -- a word by word
  pub unary_fits : (at : Place) (op : UnaryWord) (a : Typed) → FitsItem enums a → Fits enums (unary_typed at op a)
  unary_fits at unary.Plus a h = record { is_type = tt; runs = record { width = h.runs.width; sign = h.runs.sign } }
  unary_fits at unary.Minus a h = record { is_type = tt; runs = record { width = h.runs.width; sign = h.runs.sign } }
  unary_fits at unary.Invert a h = record { is_type = tt; runs = record { width = h.runs.width; sign = h.runs.sign } }
  unary_fits at op a h = record { is_type = tt; runs = record { width = refl; sign = refl } }

  -- ---- two operands

  -- an operator
  pub binary_fits : (op : BinOp) (at : Place) (a b : Typed) → FitsItem enums a → FitsItem enums b → Fits enums (binary_typed op at a b)
  binary_fits op at a b h k =
      record {
        is_type = tt;
        runs = record {
          width = ap₂ (λ (m n : ℕ). binary_width (operands_of op) m n) h.runs.width k.runs.width;
          sign = ap₂ (λ (s t : Bool). binary_sign (operands_of op) s t) h.runs.sign k.runs.sign;
        };
      }

  -- an operator with its operands
  pub binary_of_fits : (ar : Around) (o : Operands) (at pa pb : Place) (a b : Checked Typed) → Keeps (Fits enums) a → Keeps (Fits enums) b
      → Keeps (Fits enums) (binary_of ar o at pa pb a b)
  binary_of_fits ar (Numbers op) at pa pb a b h k =
      keeps_given (λ (p : Typed × Typed). FitsItem enums p.0 × FitsItem enums p.1) (Fits enums) _ (both (a ▷ number_operand pa) (b ▷ number_operand pb))
      (keeps_both (FitsItem enums) (FitsItem enums) _ _
      (keeps_then (Fits enums) (FitsItem enums) a (number_operand pa) h (λ x f. number_fits enums pa x f))
      (keeps_then (Fits enums) (FitsItem enums) b (number_operand pb) k (λ x f. number_fits enums pb x f)))
      (λ p f. binary_fits op pa p.0 p.1 f.0 f.1)
  binary_of_fits ar (Comparison op) at pa pb a b h k =
      keeps_then (λ (p : Typed × Typed). FitsItem enums p.0 × FitsItem enums p.1) (Fits enums) (both (a ▷ one_item) (b ▷ one_item)) _
      (keeps_both (FitsItem enums) (FitsItem enums) _ _
      (keeps_then (Fits enums) (FitsItem enums) a one_item h (λ x f. one_item_fits enums x f))
      (keeps_then (Fits enums) (FitsItem enums) b one_item k (λ x f. one_item_fits enums x f)))
      (λ p f. each_then (Fits enums) (comparison_stands ar.classes op pa pb p.0.ty p.1.ty) _ (λ u. binary_fits op pa p.0 p.1 f.0 f.1))
  binary_of_fits ar Power at pa pb a b h k =
      keeps_then (λ (p : Typed × Typed). FitsItem enums p.0 × FitsItem enums p.1) (Fits enums) (both (a ▷ number_operand pa) (b ▷ number_operand pb)) _
      (keeps_both (FitsItem enums) (FitsItem enums) _ _
      (keeps_then (Fits enums) (FitsItem enums) a (number_operand pa) h (λ x f. number_fits enums pa x f))
      (keeps_then (Fits enums) (FitsItem enums) b (number_operand pb) k (λ x f. number_fits enums pb x f)))
      (λ p f. each_then (Fits enums) (power_stands at p.0 p.1) _ (λ u. binary_fits bin.Power pa p.0 p.1 f.0 f.1))

-- ---- `?:`

-- a type that two branches have
pub record Chosen (enums : Enums) (a b t : Ty) : Type 0 where
  pub is_type : IsType enums t
  pub not_fixed : is_fixed t ≡ false
  pub width : max (width_of_type a) (width_of_type b) ≡ width_of_type t
  pub sign : (sign_of_type a && sign_of_type b) ≡ sign_of_type t

both_signs : (s : Bool) → (s && s) ≡ s
both_signs true = refl
both_signs false = refl

reference_alone : (t : Ty) → is_reference t ≡ true → is_integral t ≡ false
reference_alone (Vector t b w) is = absurd (true≢false (sym is))
reference_alone (Enum s at t b w) is = absurd (true≢false (sym is))
reference_alone t is = refl

-- the common type of two references is one of them, or a class
common_is : (P : Ty → Type 0) (ks : List ClassInfo) (a b : Ty) → P a → P b → ((p : Path) → P (Class p)) → KeepsSome P (common_reference ks a b)
common_is P ks Null b h k class = k
common_is P ks a Null h k class = h
common_is P ks (Class p) (Class q) h k class =
    if_each (λ (o : Option Ty). KeepsSome P o) (can_be_derived ks p q) _ _ (class q)
    (if_each (λ (o : Option Ty). KeepsSome P o) (can_be_derived ks q p) _ _ (class p) tt)
common_is P ks a b h k class = if_each (λ (o : Option Ty). KeepsSome P o) (same_type a b) (Some a) None h tt

module _ (enums : Enums) (x y : Ty) (h : IsType enums x) (k : IsType enums y) (m : is_fixed x ≡ false) (n : is_fixed y ≡ false) where
  -- one enum
  enum_chosen : same_enum x y ≡ true → Chosen enums x y x
  enum_chosen is =
      let one : Alike x y = enum_alike enums x y h k is in
      record {
        is_type = h;
        not_fixed = m;
        width = ap (λ (w : ℕ). max (width_of_type x) w) (sym one.width) ∙ max-eq_left (le_refl (width_of_type x));
        sign = ap (λ (s : Bool). sign_of_type x && s) (sym one.sign) ∙ both_signs (sign_of_type x);
      }

  -- types without bits
  no_bits : (t : Ty) → is_integral x ≡ false → is_integral y ≡ false → is_integral t ≡ false → IsType enums t → is_fixed t ≡ false → Chosen enums x y t
  no_bits t a b c is_type not_fixed =
      record {
        is_type = is_type;
        not_fixed = not_fixed;
        width = ap₂ (λ (v w : ℕ). max v w) (no_width x a) (no_width y b) ∙ sym (no_width t c);
        sign = ap₂ (λ (r s : Bool). r && s) (no_sign x a) (no_sign y b) ∙ sym (no_sign t c);
      }

  branch_fits : (ks : List ClassInfo) (pa pb : Place) (c : Ty) → Keeps (Chosen enums x y) (branch_type ks pa pb c x y)
  branch_fits ks pa pb c =
      let P : Checked Ty → Type 0 = λ d. Keeps (Chosen enums x y) d in
      if_told P (same_enum x y) _ _ enum_chosen
      (λ e. if_told P (is_integral x && is_integral y) _ _ (λ is. record { is_type = tt; not_fixed = refl; width = refl; sign = refl })
      (λ e. if_told P (is_text x && is_text y) _ _
      (λ is. no_bits Text (text_alone x (and_first (is_text x) (is_text y) is)) (text_alone y (and_second (is_text x) (is_text y) is)) refl tt refl)
      (λ e. if_told P (is_reference x && is_reference y) _ _
      (λ is.
      let a : is_integral x ≡ false = reference_alone x (and_first (is_reference x) (is_reference y) is) in
      let b : is_integral y ≡ false = reference_alone y (and_second (is_reference x) (is_reference y) is) in
      keeps_unless (Chosen enums x y) 15 pb (common_reference ks x y)
      (common_is (Chosen enums x y) ks x y (no_bits x a b a h m) (no_bits y a b b k n) (λ p. no_bits (Class p) a b refl tt refl)))
      (λ e. if_each P (is_integral x || is_text x || is_reference x) _ _ tt tt))))

module _ (enums : Enums) where
  branches_fit : (ar : Around) (at pa pb : Place) (c a b : Typed) → FitsItem enums a → FitsItem enums b → Keeps (Fits enums) (branches ar at pa pb c a b)
  branches_fit ar at pa pb c a b h k =
      keeps_given (Chosen enums a.ty b.ty) (Fits enums) (choose_typed at c a b) (branch_type ar.classes pa pb c.ty a.ty b.ty)
      (branch_fits enums a.ty b.ty h.is_type k.is_type h.not_fixed k.not_fixed ar.classes pa pb c.ty)
      (λ t ch.
      let runs : RunsAs t (flat.Choose c.code.value a.code.value b.code.value) =
      record {
        width = ap₂ (λ (v w : ℕ). max v w) h.runs.width k.runs.width ∙ ch.width;
        sign = ap₂ (λ (r s : Bool). r && s) h.runs.sign k.runs.sign ∙ ch.sign;
      } in
      record { is_type = ch.is_type; runs = runs_plain t _ ch.not_fixed runs })

  pub choose_fits : (ar : Around) (pc pa pb : Place) (c a b : Checked Typed) → Keeps (Fits enums) c → Keeps (Fits enums) a → Keeps (Fits enums) b
      → Keeps (Fits enums) (choose_of ar pc pa pb c a b)
  choose_fits ar pc pa pb c a b f h k =
      keeps_then (λ (p : Typed × (Typed × Typed)). FitsItem enums p.0 × (FitsItem enums p.1.0 × FitsItem enums p.1.1)) (Fits enums)
      (both (c ▷ number_operand pc) (both (a ▷ one_item) (b ▷ one_item))) _
      (keeps_both (FitsItem enums) (λ (p : Typed × Typed). FitsItem enums p.0 × FitsItem enums p.1) _ _
      (keeps_then (Fits enums) (FitsItem enums) c (number_operand pc) f (λ x g. number_fits enums pc x g))
      (keeps_both (FitsItem enums) (FitsItem enums) _ _
      (keeps_then (Fits enums) (FitsItem enums) a one_item h (λ x g. one_item_fits enums x g))
      (keeps_then (Fits enums) (FitsItem enums) b one_item k (λ x g. one_item_fits enums x g))))
      (λ p g. branches_fit ar pc pa pb p.0 p.1.0 p.1.1 g.1.0 g.1.1)
