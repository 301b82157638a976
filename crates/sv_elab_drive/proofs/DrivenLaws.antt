-- Processes that give a value to a target.
use Rattle.std.proofs.Common.{◌≡◌, ℕ, ◌+◌, Bool, true, false, List, [], ◌∷◌, ◌++◌, length, None, Result, Ok, Err, map, refl, sym, ap, subst, ◌∙◌, if◌then◌else◌}
use Rattle.std.specs.Prelude.{IfOk, IfErr, OnOk}
use Rattle.sv_value.specs.declared.place.Place.{Place}
use Rattle.sv_flat.specs.declared.class.Routine.{Routine}
use Rattle.sv_flat.specs.declared.process.Process.{Process}
use Rattle.sv_flat.specs.declared.process.ProcessKind.{ProcessKind}
use Rattle.sv_flat.specs.declared.stmt.Form.{Form}
use Rattle.sv_flat.specs.declared.stmt.Form.TheVariants as form
use Rattle.sv_flat.specs.declared.target.Lvalue.{Lvalue}
use Rattle.sv_flat.specs.Expr as flat
use Rattle.sv_names.specs.declared.checked.Checked.{Checked}
use Rattle.sv_names.specs.declared.checked.Checked.TheVariants.{Good, Broken}
use Rattle.sv_names.specs.declared.hoisted.Hoisted.{Hoisted}
use Rattle.sv_names.specs.declared.refusal.Refusal.{Refusal}
use Rattle.sv_names.specs.declared.refusal.Refusal.TheVariants.{Rule, Memory}
use Rattle.sv_names.specs.declared.typed.Typed.{Typed}
use Rattle.sv_names.specs.Assignments.{given_to, copied_into}
use Rattle.sv_names.specs.Checked.{◌▷◌, given}
use Rattle.sv_names.specs.Code.{Numbered, single}
use Rattle.sv_names.specs.Connections.{net_driven, nets_driven, drivers, driving as driving_lvalue, assigning, writing, copying, made_of}
use Rattle.sv_names.specs.Given.{Fails}
use Rattle.sv_names.specs.Hoisted.{mapped, paired, in_row}
use Rattle.sv_names.specs.Named.{Around}
use Rattle.sv_names.specs.Targets.{Spot, lvalue, lvalues, widths, type_of_target}
use Rattle.sv_names.specs.Types.{Path, is_container, plain_vector, width_of_type}
use Rattle.sv_names.specs.Values.{assigned}
use Rattle.sv_elab_drive.specs.Driven.{nets_of, driven_base, with_base, driving}
use Rattle.sv_elab_drive.specs.Making.{EmitsProcess}

-- ---- parts that drive

lvalue_is : (ar : Around) (before ns : List Path) (t : Typed)
    → lvalue ar (with_base (driven_base before ns t.target.base) t) ≡ mapped (driving_lvalue before ns) (lvalue ar t)
lvalue_is ar before [] t = refl
lvalue_is ar before (p ∷ ps) t = refl

drivers_are : (ar : Around) (before : List Path) (ss : List Spot)
    → map (λ s. lvalue ar s.1) (map (driving before) ss) ≡ drivers ar before ss
drivers_are ar before [] = refl
drivers_are ar before (s ∷ ss) = λ i. lvalue_is ar before (net_driven s) s.1 i ∷ drivers_are ar before ss i

lvalues_are : (ar : Around) (before : List Path) (ss : List Spot) → lvalues ar (map (driving before) ss) ≡ in_row (drivers ar before ss)
lvalues_are ar before ss = ap in_row (drivers_are ar before ss)

widths_are : (before : List Path) (ss : List Spot) → widths (map (driving before) ss) ≡ widths ss
widths_are before [] = refl
widths_are before (s ∷ ss) = ap (λ n. width_of_type s.1.ty + n) (widths_are before ss)

type_is : (before : List Path) (ss : List Spot) → type_of_target (map (driving before) ss) ≡ type_of_target ss
type_is before [] = refl
type_is before (s ∷ []) = refl
type_is before (s ∷ r ∷ ss) = ap (λ n. plain_vector n false true) (widths_are before (s ∷ r ∷ ss))

-- ---- the form of the process

-- what its statement does
abbrev pub made_form : Around → List Path → List Spot → Hoisted flat.Expr → Hoisted Form
made_form ar before (s ∷ []) e =
    if is_container s.1.ty then copied_into s.1 e else paired form.Assign (in_row (drivers ar before (s ∷ []))) e
made_form ar before ss e = paired form.Assign (in_row (drivers ar before ss)) e

if_good : (b : Bool) (x y z : Hoisted Form) → y ≡ z → (if b then Good x else Good y) ≡ Good (if b then x else z)
if_good true x y z is = refl
if_good false x y z is = ap Good is

module _ (ar : Around) (at : Place) (k : ProcessKind) (before : List Path) where
  -- what is assigned to these
  abbrev assigned_to : Hoisted flat.Expr → Hoisted (List Lvalue) → Hoisted Form
  assigned_to e ls = paired form.Assign ls e

  given_is : (ss : List Spot) (e : Hoisted flat.Expr) → given_to ar None (map (driving before) ss) e ≡ Good (made_form ar before ss e)
  given_is [] e = refl
  given_is (s ∷ []) e =
      if_good (is_container s.1.ty) (copied_into s.1 e) (assigned_to e (lvalues ar (map (driving before) (s ∷ []))))
      (assigned_to e (in_row (drivers ar before (s ∷ [])))) (ap (assigned_to e) (lvalues_are ar before (s ∷ [])))
  given_is (s ∷ r ∷ ss) e = ap (λ (ls : Hoisted (List Lvalue)). Good (assigned_to e ls)) (lvalues_are ar before (s ∷ r ∷ ss))

  make_if : (b : Bool) (s : Spot) (e : Hoisted flat.Expr)
      → (if b then copying ar at k s.1 e else writing ar at k (s ∷ []) e).make before
      ≡ assigning ar at k (single at (if b then copied_into s.1 e else assigned_to e (in_row (drivers ar before (s ∷ [])))))
  make_if true s e = refl
  make_if false s e = refl

  make_is : (ss : List Spot) (e : Hoisted flat.Expr)
      → (made_of ar at k ss e).make before ≡ assigning ar at k (single at (made_form ar before ss e))
  make_is [] e = refl
  make_is (s ∷ []) e = make_if (is_container s.1.ty) s e
  make_is (s ∷ r ∷ ss) e = refl

  drives_if : (b : Bool) (s : Spot) (e : Hoisted flat.Expr)
      → (if b then copying ar at k s.1 e else writing ar at k (s ∷ []) e).drives ≡ (if b then [] else nets_driven [] (s ∷ []))
  drives_if true s e = refl
  drives_if false s e = refl

  drives_is : (ss : List Spot) (e : Hoisted flat.Expr) → (made_of ar at k ss e).drives ≡ nets_of ss
  drives_is [] e = refl
  drives_is (s ∷ []) e = drives_if (is_container s.1.ty) s e
  drives_is (s ∷ r ∷ ss) e = refl

  -- ---- the process

  -- a process with this form, behind so many routines
  abbrev pub process_with : Hoisted Form → ℕ → Process × List Routine
  process_with f n = (assigning ar at k (single at f)).make n

  module _ (ss : List Spot) (before' : List Path) (rs rs' : List Routine) where
    emits_at : (x : Checked (Hoisted flat.Expr)) (f : Hoisted Form) (p : Process)
        → Good f ≡ (x ▷ given_to ar None (map (driving before) ss)) → before' ≡ before ++ nets_of ss
        → p ≡ (process_with f (length rs)).0 → rs' ≡ rs ++ (process_with f (length rs)).1
        → EmitsProcess before before' rs rs' (Ok p) (given (made_of ar at k ss) x)
    emits_at (Good e) f p is driven value added =
        let same : Good f ≡ Good (made_form ar before ss e) = is ∙ given_is ss e in
        let form_is : f ≡ made_form ar before ss e = cc in
        let run : Numbered Process → Process × List Routine = λ c. c.make (length rs) in
        let code : assigning ar at k (single at f) ≡ (made_of ar at k ss e).make before =
        ap (λ (g : Hoisted Form). assigning ar at k (single at g)) form_is ∙ sym (make_is ss e) in (
          made_of ar at k ss e,
          refl,
          record {
            value = value ∙ ap (λ (c : Numbered Process). (run c).0) code;
            added = added ∙ ap (λ (c : Numbered Process). rs ++ (run c).1) code;
            drives = driven ∙ ap (λ (ps : List Path). before ++ ps) (sym (drives_is ss e));
          },
        )
    emits_at (Broken g) f p is driven value added = cc

    fails_at : (x : Checked (Hoisted flat.Expr)) (e : Refusal) → Fails e (x ▷ given_to ar None (map (driving before) ss))
        → Fails e (given (made_of ar at k ss) x)
    fails_at (Good e) (Rule n q) is =
        let broken : Good (made_form ar before ss e) ≡ Broken (record { at = q; rule = n }) = sym (given_is ss e) ∙ is in cc
    fails_at (Broken g) (Rule n q) is = let same : g ≡ record { at = q; rule = n } = cc in ap Broken same
    fails_at (Good e) Memory is = tt
    fails_at (Broken g) Memory is = tt

    module _ (pv : Place) (t : Typed) where
      -- a value for the target
      abbrev fitted : Checked (Hoisted flat.Expr)
      fitted = assigned ar (type_of_target ss) pv t

      -- a value for the same target, which drives
      abbrev pub driven_form : Checked (Hoisted Form)
      driven_form = assigned ar (type_of_target (map (driving before) ss)) pv t ▷ given_to ar None (map (driving before) ss)

      form_same : driven_form ≡ (fitted ▷ given_to ar None (map (driving before) ss))
      form_same = ap (λ u. assigned ar u pv t ▷ given_to ar None (map (driving before) ss)) (type_is before ss)

      -- the form breaks a rule
      pub made_fails : (e : Refusal) → Fails e driven_form → Fails e (given (made_of ar at k ss) fitted)
      made_fails e is = fails_at fitted e (subst (λ (x : Checked (Hoisted Form)). Fails e x) form_same is)

      -- the process is made
      pub made_whole : (f : Hoisted Form) (r : Result Process Refusal) → driven_form ≡ Good f → before' ≡ before ++ nets_of ss
          → IfOk r (λ p. p ≡ (process_with f (length rs)).0) → OnOk r (rs' ≡ rs ++ (process_with f (length rs)).1)
          → IfErr r (λ e. e ≡ Memory) → EmitsProcess before before' rs rs' r (given (made_of ar at k ss) fitted)
      made_whole f (Ok p) is driven value added none =
          emits_at fitted f p (sym is ∙ form_same) driven value added
      made_whole f (Err e) is driven value added none =
          subst (λ (x : Refusal). Fails x (given (made_of ar at k ss) fitted)) (sym none) tt
