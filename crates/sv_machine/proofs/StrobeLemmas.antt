-- What the strobes of a slot print.
use Rattle.std.proofs.Common.{subst, ℕ, ◌≡◌, List, [], ◌∷◌, ◌++◌, Option, None, Some, Bool, true, refl, ap, sym, ◌∙◌}
use Rattle.std.specs.Prelude.{Result, Ok, Err, is_some, if◌then◌else◌}
use Rattle.std.proofs.lemmas.List.{append_assoc, map-append}
use Rattle.sv_value.specs.declared.place.FaultKind.{FaultKind}
use Rattle.sv_value.specs.declared.place.Place.{Place}
use Rattle.sv_value.specs.declared.schedule.Side.{Side}
use Rattle.sv_value.specs.declared.operator.Piece.{Piece}
use Rattle.sv_value.specs.declared.val.Val.{Val}
use Rattle.sv_value.specs.declared.val.Val.TheVariants as val
use Rattle.sv_value.specs.Digits.{rendered}
use Rattle.sv_flat.specs.declared.design.Parts.{Parts}
use Rattle.sv_flat.specs.declared.stmt.Stmt.{Stmt}
use Rattle.sv_flat.specs.declared.stmt.Form.{Form}
use Rattle.sv_flat.specs.declared.stmt.Form.TheVariants as form
use Rattle.sv_flat.specs.Expr.{Expr}
use Rattle.sv_flat.specs.State.{view_of}
use Rattle.sv_flat.specs.Eval.{Valued, text, with_result}
use Rattle.sv_flat.specs.Statements.Shared.{values_of}
use Rattle.sv_flat.specs.Config.{Config, Record, Strobe, met_fault, unit_ticks}
use Rattle.sv_flat.specs.Steps.{strobe_text, strobe_printed, strobes_printed}
use Rattle.sv_eval.specs.declared.stopped.Stopped.{Stopped}
use Rattle.sv_eval.specs.declared.stopped.Stopped.TheVariants.{Fault}
use Rattle.sv_assign.specs.Places.{Stops}
use Rattle.sv_assign.specs.Seen.{view_in}
use Rattle.sv_machine.specs.declared.machine.Machine.{Machine}
use Rattle.sv_machine.specs.declared.machine.Kept.{Kept}
use Rattle.sv_machine.specs.declared.line.Line.{Line}
use Rattle.sv_machine.specs.Log.{record_of, records_of}
use Rattle.sv_machine.specs.Machine.{printing, strobe_of, strobe_at}
use Rattle.sv_machine.specs.Strobes.{Shows, with_printed, printed_on}

-- ---- the text of a strobe

-- the bytes of a text
abbrev bytes : Valued → Result (List ℕ) FaultKind
bytes (Err k) = Err k
bytes (Ok (val.Text t)) = Ok t
bytes (Ok x) = Ok []

-- the text that a machine has for pieces and values, where a unit has so many ticks
abbrev pub text_by : (unit : ℕ) → Machine → List Piece → List Expr → Valued
text_by unit m ps es = with_result (values_of es (view_in m.store m.activations.activations m.time unit None)) (λ xs. text (rendered unit ps xs))

-- the same in a design
abbrev pub text_in : Parts → Machine → List Piece → List Expr → Valued
text_in d m ps es = text_by (unit_ticks d.scale) m ps es

text_is : (d : Parts) (s : Strobe) (m : Machine) (c : Config) → Shows m c → strobe_text d c s ≡ bytes (text_in d m s.pieces s.values)
text_is d s m c h =
    ap (strobe_values d s) (λ i. values_of s.values (view_of (sym h.world i) (sym h.time i) (unit_ticks d.scale) None))
    ∙ by_result (values_of s.values (view_in m.store m.activations.activations m.time (unit_ticks d.scale) None))
  where
    strobe_values : (d : Parts) (s : Strobe) → Result (List Val) FaultKind → Result (List ℕ) FaultKind
    strobe_values d s (Err k) = Err k
    strobe_values d s (Ok xs) = bytes (text (rendered (unit_ticks d.scale) s.pieces xs))

    by_result : (r : Result (List Val) FaultKind) → strobe_values d s r ≡ bytes (with_result r (λ xs. text (rendered (unit_ticks d.scale) s.pieces xs)))
    by_result (Err k) = refl
    by_result (Ok xs) = refl

-- ---- one strobe

-- after a fault nothing is printed
stops : (d : Parts) (ss : List Strobe) (c : Config) → is_some c.fault ≡ true → strobes_printed d ss c ≡ c
stops d [] c h = refl
stops d (s ∷ ss) c h = ap (λ (b : Bool). if b then c else strobes_printed d ss (strobe_printed s (strobe_text d c s) c)) h

side_is : (side : Side) (at : Place) (o : Option Stmt) → (strobe_of side at o).side ≡ side
side_is side at None = refl
side_is side at (Some s) = by_form s.form
  where
    by_form : (f : Form) → (printing side at f).side ≡ side
    by_form (form.Print k ps es) = refl
    by_form f = refl

module _ (d : Parts) (m : Machine) (k : Kept) (ls : List Line) (c : Config) (ss : List Strobe) (h : Shows m c) where
  goes : (v : Valued) → text_in d m (strobe_at d k).pieces (strobe_at d k).values ≡ v
      → strobes_printed d (strobe_at d k ∷ ss) (with_printed c ls None) ≡ strobes_printed d ss (strobe_printed (strobe_at d k) (bytes v) (with_printed c ls None))
  goes v e =
      let there : Shows m (with_printed c ls None) = record { time = h.time; world = h.world; going = refl } in
      ap (λ (r : Result (List ℕ) FaultKind). strobes_printed d ss (strobe_printed (strobe_at d k) r (with_printed c ls None))) (text_is d (strobe_at d k) m (with_printed c ls None) there ∙ ap bytes e)

  -- its text is a line
  one_line : (t : List ℕ) → text_in d m (strobe_at d k).pieces (strobe_at d k).values ≡ Ok (val.Text t)
      → strobes_printed d (strobe_at d k ∷ ss) (with_printed c ls None) ≡ strobes_printed d ss (with_printed c (ls ++ record { side = k.side; text = t } ∷ []) None)
  one_line t e =
      goes (Ok (val.Text t)) e
      ∙ ap (λ (rs : List Record). strobes_printed d ss (record c { records = rs; fault = None })) records
    where
      records : (c.records ++ records_of ls) ++ record { side = (strobe_at d k).side; text = t } ∷ [] ≡ c.records ++ records_of (ls ++ record { side = k.side; text = t } ∷ [])
      records =
          append_assoc c.records (records_of ls) (record { side = (strobe_at d k).side; text = t } ∷ [])
          ∙ ap (λ (s : Side). c.records ++ (records_of ls ++ record { side = s; text = t } ∷ [])) (side_is k.side k.at _)
          ∙ ap (λ (rs : List Record). c.records ++ rs) (sym (map-append record_of ls (record { side = k.side; text = t } ∷ [])))

  -- it meets a fault
  one_fault : (kind : FaultKind) → text_in d m (strobe_at d k).pieces (strobe_at d k).values ≡ Err kind
      → strobes_printed d (strobe_at d k ∷ ss) (with_printed c ls None) ≡ with_printed c ls (Some (record { kind = kind; at = (strobe_at d k).at; time = m.time }))
  one_fault kind e =
      goes (Err kind) e
      ∙ stops d ss (met_fault kind (strobe_at d k).at (with_printed c ls None)) refl
      ∙ ap (λ (t : ℕ). with_printed c ls (Some (record { kind = kind; at = (strobe_at d k).at; time = t }))) (sym h.time)

-- the same, where the parts of the strobe are known
pub line_printed : (d : Parts) (m : Machine) (k : Kept) (ls new : List Line) (unit : ℕ) (ps : List Piece) (es : List Expr) (t : List ℕ)
    → unit ≡ unit_ticks d.scale → ps ≡ (strobe_at d k).pieces → es ≡ (strobe_at d k).values → text_by unit m ps es ≡ Ok (val.Text t) → new ≡ ls ++ record { side = k.side; text = t } ∷ []
    → (c : Config) (ss : List Strobe) → Shows m c → strobes_printed d (strobe_at d k ∷ ss) (with_printed c ls None) ≡ printed_on d ss c new None
line_printed d m k ls new unit ps es t u p v e n c ss h =
    one_line d m k ls c ss h t ((λ i. text_by (sym u i) m (sym p i) (sym v i)) ∙ e) ∙ ap (λ (ls : List Line). strobes_printed d ss (with_printed c ls None)) (sym n)

pub fault_met : (d : Parts) (m : Machine) (k : Kept) (ls : List Line) (unit : ℕ) (ps : List Piece) (es : List Expr) (at : Place) (kind same : FaultKind)
    → same ≡ kind → unit ≡ unit_ticks d.scale → ps ≡ (strobe_at d k).pieces → es ≡ (strobe_at d k).values → at ≡ (strobe_at d k).at → text_by unit m ps es ≡ Err kind
    → (c : Config) (ss : List Strobe) → Shows m c
    → strobes_printed d (strobe_at d k ∷ ss) (with_printed c ls None) ≡ printed_on d ss c ls (Some (record { kind = same; at = at; time = m.time }))
fault_met d m k ls unit ps es at kind same z u p v a e c ss h =
    one_fault d m k ls c ss h kind ((λ i. text_by (sym u i) m (sym p i) (sym v i)) ∙ e)
    ∙ (λ i. with_printed c ls (Some (record { kind = sym z i; at = sym a i; time = m.time })))

-- the fault for which there is no value
pub stopped : {B : Type 0} (e : Stopped) (k : FaultKind) (r : Result B FaultKind) → e ≡ Fault k → Stops e r → r ≡ Err k
stopped e k r is h = subst (λ (e : Stopped). Stops e r) is h
