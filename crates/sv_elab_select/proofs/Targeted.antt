-- Targets that are judged, written and read.
use Rattle.std.proofs.Common.{◌≡◌, ◌≤◌, Bool, true, false, List, [], ◌∷◌, ◌++◌, ◌-◌, length, get_or, take, drop, arith, refl, ap, sym, ◌∙◌}
use Rattle.std.specs.Prelude.{if◌then◌else◌}
use Rattle.std.proofs.lemmas.List.{take_rest}
use Rattle.sv_value.specs.declared.place.Place.{Place}
use Rattle.sv_flat.specs.declared.target.Lvalue.{Lvalue}
use Rattle.sv_flat.specs.Expr as flat
use Rattle.sv_names.specs.declared.checked.Fault.{Fault}
use Rattle.sv_names.specs.declared.checked.Checked.{Checked}
use Rattle.sv_names.specs.declared.checked.Checked.TheVariants.{Good, Broken}
use Rattle.sv_names.specs.declared.refusal.Refusal.{Refusal}
use Rattle.sv_names.specs.declared.hoisted.Hoisted.{Hoisted}
use Rattle.sv_names.specs.declared.typed.How.{How}
use Rattle.sv_names.specs.declared.typed.Typed.{Typed}
use Rattle.sv_names.specs.Checked.{◌▷◌, ◌where_also◌, all}
use Rattle.sv_names.specs.Given.{Fails}
use Rattle.sv_names.specs.Hoisted.{pure, paired}
use Rattle.sv_names.specs.Named.{Around}
use Rattle.sv_names.specs.Types.{is_fixed}
use Rattle.sv_names.specs.Values.{not_too_wide}
use Rattle.sv_names.specs.Targets.{Spot, may_begin, selects_stand, may_be_written, in_concatenation, widths, concatenated, lvalue, lvalues, type_of_target, joined_reads, read_of}
use Rattle.sv_elab_select.specs.Written.{target_stands, parts_stand, put_first, written_before, reads_before, read_row}
use Rattle.sv_elab_select.proofs.Judged.{first_fails, then_made}

-- ---- judged, and then made

target_rules : {A : Type 0} (b : Bool) (f : Fault) (x : A) (m s : Checked (Unit {0}))
    → ((if b then Broken f else (Good x where_also m)) where_also s) ≡ ((if b then Broken f else m) where_also s) ▷ (λ _. Good x)
target_rules true f x m (Good u) = refl
target_rules true f x m (Broken g) = refl
target_rules false f x (Good u) (Good v) = refl
target_rules false f x (Good u) (Broken g) = refl
target_rules false f x (Broken e) (Good v) = refl
target_rules false f x (Broken e) (Broken g) = refl

module _ (h : How) (at : Place) (t : Typed) where
  target_is : may_be_written h at t ≡ target_stands h at t ▷ (λ _. Good (at, t))
  target_is = target_rules (is_fixed t.ty) (record { at = t.at; rule = 42 }) (at, t) (may_begin h at t t.target.begins) (selects_stand h t.target.moving)

  pub target_first : (e : Refusal) → Fails e (target_stands h at t) → Fails e (may_be_written h at t)
  target_first e stands = first_fails e _ _ _ target_is stands

  pub target_whole : target_stands h at t ≡ Good tt → may_be_written h at t ≡ Good (at, t)
  target_whole stands = then_made _ _ _ target_is stands

guarded_later : {A : Type 0} (r : Checked (Unit {0})) (x : A) (s : Checked (Unit {0})) → r ▷ (λ _. Good x where_also s) ≡ (r ▷ (λ _. s)) ▷ (λ _. Good x)
guarded_later (Broken f) x s = refl
guarded_later (Good u) x (Good v) = refl
guarded_later (Good u) x (Broken g) = refl

module _ (at : Place) (ss : List Spot) where
  parts_are : concatenated at ss ≡ parts_stand at ss ▷ (λ _. Good ss)
  parts_are = guarded_later (all in_concatenation ss) ss (not_too_wide at (widths ss))

  pub parts_first : (e : Refusal) → Fails e (parts_stand at ss) → Fails e (concatenated at ss)
  parts_first e stands = first_fails e _ _ _ parts_are stands

  pub parts_whole : parts_stand at ss ≡ Good tt → concatenated at ss ≡ Good ss
  parts_whole stands = then_made _ _ _ parts_are stands

-- ---- from the right

-- the last of the parts goes before all others
pub written_last : (ar : Around) (ss : List Spot) (s : Spot) (ls : Hoisted (List Lvalue))
    → written_before ar (ss ++ s ∷ []) ls ≡ written_before ar ss (put_first (lvalue ar s.1) ls)
written_last ar [] s ls = refl
written_last ar (r ∷ ss) s ls = ap (put_first (lvalue ar r.1)) (written_last ar ss s ls)

pub all_written : (ar : Around) (ss : List Spot) → written_before ar ss (pure []) ≡ lvalues ar ss
all_written ar [] = refl
all_written ar (s ∷ ss) = ap (put_first (lvalue ar s.1)) (all_written ar ss)

pub reads_last : (ss : List Spot) (s : Spot) (r : Hoisted flat.Expr) → reads_before (ss ++ s ∷ []) r ≡ reads_before ss (paired flat.Join s.1.code r)
reads_last [] s r = refl
reads_last (q ∷ ss) s r = ap (paired flat.Join q.1.code) (reads_last ss s r)

joined_last : (q : Spot) (ss : List Spot) (s : Spot) → joined_reads q.1 (ss ++ s ∷ []) ≡ paired flat.Join q.1.code (reads_before ss s.1.code)
joined_last q [] s = refl
joined_last q (r ∷ ss) s = ap (paired flat.Join q.1.code) (joined_last r ss s)

row_is : (at : Place) (ss : List Spot) (s : Spot) → read_of at (ss ++ s ∷ []) ≡ read_row at (type_of_target (ss ++ s ∷ [])) ss s.1
row_is at [] s = refl
row_is at (q ∷ []) s = refl
row_is at (q ∷ r ∷ ss) s = ap (λ c. record (read_of at (q ∷ r ∷ (ss ++ s ∷ []))) { code = c }) (joined_last q (r ∷ ss) s)

pub read_is : (at : Place) (qs ss : List Spot) (s : Spot) → qs ≡ ss ++ s ∷ [] → read_row at (type_of_target qs) ss s.1 ≡ read_of at qs
read_is at qs ss s h = ap (λ ps. read_row at (type_of_target ps) ss s.1) h ∙ sym (ap (read_of at) h ∙ row_is at ss s)

-- ---- the first of several

pub all_first : {A : Type 0} (f : A → Checked (Unit {0})) (xs : List A) (d : A) → 1 ≤ length xs
    → (f (get_or xs 0 d) where_also all f (take (length xs - 1) (drop 1 xs))) ≡ all f xs
all_first f [] d h = absurd (omega arith)
all_first f (x ∷ xs) d h = ap (λ ys. f x where_also all f ys) (take_rest (x ∷ xs) 1)
