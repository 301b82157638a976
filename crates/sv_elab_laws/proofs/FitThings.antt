-- What names, members and calls stand for runs as its type.
use Rattle.std.proofs.Common.{ℕ, suc, max, Bool, true, false, ◌&&◌, ◌||◌, ◌==◌, List, [], ◌∷◌, Option, Some, None, refl, ap, if◌then◌else◌, codes}
use Rattle.sv_value.specs.declared.place.Place.{Place}
use Rattle.sv_value.specs.Stored.{length-symbols_of}
use Rattle.sv_flat.specs.Expr as flat
use Rattle.sv_tree.specs.declared.word.Name.{Name}
use Rattle.sv_tree.specs.declared.word.PartWord.{PartWord}
use Rattle.sv_tree.specs.declared.expr.Root.{Root}
use Rattle.sv_tree.specs.declared.expr.Root.TheVariants as root
use Rattle.sv_names.specs.declared.argument.Arg.{Arg}
use Rattle.sv_names.specs.declared.checked.Checked.{Checked}
use Rattle.sv_names.specs.declared.checked.Checked.TheVariants.{Good, Broken}
use Rattle.sv_names.specs.declared.checked.Fault.{Fault}
use Rattle.sv_names.specs.declared.method.Called.{Called}
use Rattle.sv_names.specs.declared.named.Callee.{Callee}
use Rattle.sv_names.specs.declared.named.Named.{Named}
use Rattle.sv_names.specs.declared.named.Named.TheVariants.{Variable, Net, Input, Local, Property, StaticProperty, Constant, TypeName, ClassName, Subroutine, Itself, ClockingBlock, Other}
use Rattle.sv_names.specs.declared.named.ResultVariable.TheVariants as result_variable
use Rattle.sv_names.specs.declared.named.SignalInfo.{SignalInfo}
use Rattle.sv_names.specs.declared.ty.Ty.{Ty}
use Rattle.sv_names.specs.declared.ty.Ty.TheVariants.{Class}
use Rattle.sv_names.specs.declared.typed.Begin.{Begin}
use Rattle.sv_names.specs.declared.typed.Begin.TheVariants.{InActivation, Object as The_object}
use Rattle.sv_names.specs.declared.typed.Typed.{Typed}
use Rattle.sv_names.specs.Calls.{may_be_named, gives_nothing, as_value}
use Rattle.sv_names.specs.Checked.{◌▷◌, broken_at, ◌where_also◌, unless}
use Rattle.sv_names.specs.Methods.{method_of}
use Rattle.sv_names.specs.Named.{Around, line_of, broken_end, member_of, found, nowhere_yet, told, meaning, kind_stands, is_type_kind, is_value_kind}
use Rattle.sv_names.specs.Selects.{select_of, part_select_of}
use Rattle.sv_names.specs.Things.{Thing, A_value, A_subroutine, A_method, Its_result, A_block, The_signal, A_type, object_typed, local_typed, field_typed, through_reference, lasts, this_variable, this_typed, at_hand, with_object, constant_named, not_at_hand, subroutine_thing, named_thing, after_object, member_thing, member_found, member_named, object_of, base_of, class_named, root_thing, bare_call, bare_subroutine, result_value, thing_value, value_member, signal_named, after_dot, called_thing, after_actuals, and_behind, called_step, select_step, part_step, last_index, dollar_in}
use Rattle.sv_names.specs.Types.{Path, int_type, is_queue, same_bytes}
use Rattle.sv_names.specs.Checked.{same_place}
use Rattle.sv_elab_laws.specs.Fits.{Enums, IsType, RunsAs, Fits, Keeps, CalleeFits, SignalsFit, NameFits, DeclaredFits, DollarFits, AroundFits}
use Rattle.sv_elab_laws.proofs.Kept.{keeps_then, keeps_given, each_then, keeps_also, keeps_broken, keeps_unless, if_each}
use Rattle.sv_elab_laws.proofs.FitCalls.{CalledFits, value_fits, subroutine_fits, language_fits}
use Rattle.sv_elab_laws.proofs.FitMethods.{MethodFits, method_fits}
use Rattle.sv_elab_laws.proofs.FitSelects.{select_fits, part_select_fits}
use Rattle.sv_elab_laws.proofs.FitTypes.{variable_runs, static_runs}

-- what a name with its members and calls stands for
abbrev pub ThingFits : Enums → Thing → Type 0
ThingFits enums (A_value t) = Fits enums t
ThingFits enums (A_subroutine c o direct at) = CalleeFits enums c
ThingFits enums (A_method m o at) = MethodFits enums m
ThingFits enums (Its_result c o v at) = CalleeFits enums c × Fits enums v
ThingFits enums (A_block p ss at) = SignalsFit enums ss
ThingFits enums (The_signal b i s at) = IsType enums s.ty
ThingFits enums (A_type t at) = Unit {0}

-- ---- declarations

module _ (enums : Enums) where
  told_fits : (n : Name) (c : Checked Named) → Keeps (NameFits enums) c → Keeps (NameFits enums) (told n c)
  told_fits n (Good x) h = h
  told_fits n (Broken f) h = if_each (λ (c : Checked Named). Keeps (NameFits enums) c) (same_place f.at nowhere_yet && (f.rule == 7)) _ _ tt tt

  abbrev meant : Name → Option (Checked Named) → Checked Named
  meant n None = broken_at 6 n.at
  meant n (Some c) = told n c

  meant_fits : (n : Name) (o : Option (Checked Named)) → DeclaredFits enums o → Keeps (NameFits enums) (meant n o)
  meant_fits n None h = tt
  meant_fits n (Some c) h = told_fits n c h

  pub meaning_fits : (ar : Around) (n : Name) → AroundFits enums ar → Keeps (NameFits enums) (meaning ar n)
  meaning_fits ar n fit = meant_fits n (found ar n.text) (fit.names n.text)

  -- ---- variables

  object_fits : (ar : Around) (at : Place) (p : Path) (t : Ty) (b : Begin) → IsType enums t → Fits enums (object_typed ar at p t b)
  object_fits ar at p t b h = record { is_type = h; runs = variable_runs ar.numbers t _ refl refl tt }

  local_fits : (ar : Around) (at : Place) (up place : ℕ) (t : Ty) (b : Begin) → IsType enums t → Fits enums (local_typed ar at up place t b)
  local_fits ar at up place t b h = record { is_type = h; runs = variable_runs ar.numbers t _ refl refl tt }

  field_fits : (ar : Around) (at : Place) (k : Path) (n : Name) (t : Ty) (o : Typed) → IsType enums t → Fits enums (field_typed ar at k n t o)
  field_fits ar at k n t o h = record { is_type = h; runs = variable_runs ar.numbers t _ refl refl tt }

  constant_fits : (at : Place) (p : Bool) (t : Typed) → Fits enums t → Fits enums (constant_named at p t)
  constant_fits at true t h = record { is_type = h.is_type; runs = h.runs }
  constant_fits at false t h = record { is_type = h.is_type; runs = h.runs }

  through_fits : (o : Option Typed) (t : Typed) → Fits enums t → Fits enums (through_reference o t)
  through_fits None t h = h
  through_fits (Some o) t h = record { is_type = h.is_type; runs = static_runs t.ty o.code.value t.code.value h.runs }

  after_fits : (o : Option Typed) (t : Typed) → Fits enums t → Fits enums (after_object o t)
  after_fits None t h = h
  after_fits (Some o) t h = record { is_type = h.is_type; runs = h.runs }

  object_needed : (at : Place) (o : Option Typed) (go : Typed → Checked Thing) → ((x : Typed) → Keeps (ThingFits enums) (go x))
      → Keeps (ThingFits enums) (with_object at o go)
  object_needed at None go h = tt
  object_needed at (Some o) go h = h o

  -- ---- subroutines

  abbrev of_class : Around → Place → Callee → Option Typed → Bool → Option Path → Checked Thing
  of_class ar at c o direct None = Good (A_subroutine c None direct at)
  of_class ar at c o direct (Some k) =
      may_be_named ar c.protection k at ▷ (λ _.
      if c.is_static then Good (A_subroutine c (not_at_hand o) direct at)
      else with_object at o (λ x. Good (A_subroutine c (Some x) direct at)))

  of_class_fits : (ar : Around) (at : Place) (c : Callee) (o : Option Typed) (direct : Bool) (k : Option Path) → CalleeFits enums c
      → Keeps (ThingFits enums) (of_class ar at c o direct k)
  of_class_fits ar at c o direct None h = h
  of_class_fits ar at c o direct (Some k) h =
      each_then (ThingFits enums) (may_be_named ar c.protection k at) _
      (λ u. if_each (λ (d : Checked Thing). Keeps (ThingFits enums) d) c.is_static _ _ h (object_needed at o _ (λ x. h)))

  callee_fits : (ar : Around) (at : Place) (c : Callee) (o : Option Typed) (direct : Bool) → CalleeFits enums c
      → Keeps (ThingFits enums) (subroutine_thing ar at c o direct)
  callee_fits ar at c o direct h = of_class_fits ar at c o direct c.class h

  -- ---- names alone

  pub named_fits : (ar : Around) (at : Place) (n : Named) → NameFits enums n → Keeps (ThingFits enums) (named_thing ar at n)
  named_fits ar at (Variable p t) h = object_fits ar at p t _ h
  named_fits ar at (Net p t) h = object_fits ar at p t _ h
  named_fits ar at (Input p n t) h = object_fits ar at p t _ h
  named_fits ar at (Local u p t) h =
      if_each (λ (d : Checked Thing). Keeps (ThingFits enums) d) ar.is_initial _ _ tt
      (each_then (ThingFits enums) (lasts ar at) _ (λ x. local_fits ar at u p t InActivation h))
  named_fits ar at (Property k g n t) h =
      each_then (ThingFits enums) (may_be_named ar g k at) _
      (λ u. object_needed at (at_hand ar at) _ (λ o. each_then (ThingFits enums) (lasts ar at) _ (λ v. field_fits ar at k n t o h)))
  named_fits ar at (StaticProperty k g p t) h =
      each_then (ThingFits enums) (may_be_named ar g k at) _
      (λ u. each_then (ThingFits enums) (lasts ar at) _ (λ v. object_fits ar at p t _ h))
  named_fits ar at (Constant t p) h = constant_fits at p t h
  named_fits ar at (TypeName t) h = tt
  named_fits ar at (ClassName p) h = tt
  named_fits ar at (Subroutine c) h = callee_fits ar at c (at_hand ar at) false h
  named_fits ar at (Itself c (result_variable.Object p t)) h =
      (h.0, record { is_type = h.1; runs = variable_runs ar.numbers t _ refl refl tt })
  named_fits ar at (Itself c (result_variable.Local u p t)) h = (h.0, local_fits ar at u p t InActivation h.1)
  named_fits ar at (ClockingBlock p ss) h = h
  named_fits ar at Other h = tt

  -- ---- members

  member_fits : (ar : Around) (at : Place) (o : Option Typed) (direct : Bool) (n : Named) → NameFits enums n
      → Keeps (ThingFits enums) (member_thing ar at o direct n)
  member_fits ar at o direct (Property k g n t) h =
      each_then (ThingFits enums) (may_be_named ar g k at) _
      (λ u. object_needed at o _ (λ x. each_then (ThingFits enums) (lasts ar at) _ (λ v. field_fits ar at k n t x h)))
  member_fits ar at o direct (StaticProperty k g p t) h =
      each_then (ThingFits enums) (may_be_named ar g k at) _
      (λ u. each_then (ThingFits enums) (lasts ar at) _ (λ v. through_fits (not_at_hand o) _ (object_fits ar at p t _ h)))
  member_fits ar at o direct (Subroutine c) h = callee_fits ar at c o direct h
  member_fits ar at o direct (Constant t p) h = after_fits o _ (constant_fits at p t h)
  member_fits ar at o direct n h = tt

  found_fits : (at : Place) (b : Option Fault) (o : Option (Checked Named)) → DeclaredFits enums o
      → Keeps (λ (c : Checked Named). Keeps (NameFits enums) c) (member_found at b o)
  found_fits at b (Some c) h = h
  found_fits at (Some f) None h = tt
  found_fits at None None h = tt

  member_named_fits : (ar : Around) (k : Path) (o : Option Typed) (direct : Bool) (n : Name) → AroundFits enums ar
      → Keeps (ThingFits enums) (member_named ar k o direct n)
  member_named_fits ar k o direct n fit =
      keeps_then (λ (c : Checked Named). Keeps (NameFits enums) c) (ThingFits enums) (member_found n.at (broken_end (line_of ar.classes k)) (member_of ar k n.text)) _
      (found_fits n.at (broken_end (line_of ar.classes k)) (member_of ar k n.text) (fit.members k n.text))
      (λ c h. keeps_then (NameFits enums) (ThingFits enums) (told n c) (member_thing ar n.at o direct) (told_fits n c h) (λ m f. member_fits ar n.at o direct m f))

  -- ---- what a name begins with

  this_fits : (ar : Around) (at : Place) (o : Option (Checked Named)) → DeclaredFits enums o → Keeps (Fits enums) (this_variable ar at o)
  this_fits ar at (Some (Good (Local u p t))) h = local_fits ar at u p t The_object h
  this_fits ar at o h = tt

  abbrev this_of : Around → Place → Option Path → Option (Checked Named) → Checked Typed
  this_of ar at None n = broken_at 38 at
  this_of ar at (Some k) n = if ar.has_object then this_variable ar at n else broken_at 39 at

  this_of_fits : (ar : Around) (at : Place) (k : Option Path) (o : Option (Checked Named)) → DeclaredFits enums o → Keeps (Fits enums) (this_of ar at k o)
  this_of_fits ar at None o h = tt
  this_of_fits ar at (Some k) o h = if_each (λ (d : Checked Typed). Keeps (Fits enums) d) ar.has_object _ _ (this_fits ar at o h) tt

  pub root_fits : (ar : Around) (r : Root) → AroundFits enums ar → Keeps (ThingFits enums) (root_thing ar r)
  root_fits ar (root.Plain n) fit =
      keeps_then (NameFits enums) (ThingFits enums) (meaning ar n where_also kind_stands ar 7 n.at is_value_kind n.text) (named_thing ar n.at)
      (keeps_also (NameFits enums) (meaning ar n) _ (meaning_fits ar n fit)) (λ m h. named_fits ar n.at m h)
  root_fits ar (root.This at) fit =
      keeps_given (Fits enums) (ThingFits enums) A_value (this_typed ar at)
      (this_of_fits ar at ar.class (found ar (codes "this")) (fit.names (codes "this"))) (λ t h. h)
  root_fits ar (root.Super at n) fit =
      each_then (ThingFits enums) (base_of ar at) _ (λ k. member_named_fits ar k (at_hand ar at) true n fit)
  root_fits ar (root.Scoped s n) fit =
      each_then (ThingFits enums) (meaning ar s where_also kind_stands ar 7 s.at is_type_kind s.text ▷ class_named s.at) _
      (λ k. member_named_fits ar k (object_of ar s.at k) true n fit)

  -- ---- values

  bare_fits : (ar : Around) (pe : Place) (c : Checked Called) → Keeps (CalledFits enums) c → Keeps (Fits enums) (bare_call ar pe c)
  bare_fits ar pe c h = keeps_given (CalledFits enums) (Fits enums) (as_value ar pe) c h (λ d f. value_fits enums ar pe d f)

  bare_subroutine_fits : (ar : Around) (pe : Place) (c : Callee) (o : Option Typed) (direct : Bool) (at : Place) (k : Option Path) → CalleeFits enums c
      → Keeps (Fits enums) (bare_subroutine ar pe c o direct at k)
  bare_subroutine_fits ar pe c o direct at None h =
      if_each (λ (d : Checked Typed). Keeps (Fits enums) d) (c.is_task || gives_nothing c.result) _ _
      (bare_fits ar pe _ (subroutine_fits enums ar pe true c o direct [] h)) tt
  bare_subroutine_fits ar pe c o direct at (Some k) h = bare_fits ar pe _ (subroutine_fits enums ar pe true c o direct [] h)

  result_fits : (ar : Around) (at : Place) (v : Typed) (b : Begin) → Fits enums v → Keeps (Fits enums) (result_value ar at v b)
  result_fits ar at v InActivation h =
      if_each (λ (d : Checked Typed). Keeps (Fits enums) d) ar.is_initial _ _ tt (each_then (Fits enums) (lasts ar at) _ (λ u. h))
  result_fits ar at v b h = h

  pub thing_value_fits : (ar : Around) (pe : Place) (th : Thing) → ThingFits enums th → Keeps (Fits enums) (thing_value ar pe th)
  thing_value_fits ar pe (A_value t) h = h
  thing_value_fits ar pe (A_subroutine c o direct at) h = bare_subroutine_fits ar pe c o direct at c.class h
  thing_value_fits ar pe (A_method m o at) h = bare_fits ar pe _ (language_fits enums ar pe true m o [] h)
  thing_value_fits ar pe (Its_result c o v at) h = result_fits ar at v v.target.begins h.1
  thing_value_fits ar pe (A_block p ss at) h = tt
  thing_value_fits ar pe (The_signal b i s at) h =
      if_each (λ (d : Checked Typed). Keeps (Fits enums) d) s.is_input _ _ (object_fits ar at s.sample s.ty _ h) tt
  thing_value_fits ar pe (A_type t at) h = tt

  -- ---- behind a dot

  value_member_fits : (ar : Around) (n : Name) (o : Typed) (t : Ty) → AroundFits enums ar → IsType enums t → Keeps (ThingFits enums) (value_member ar n o t)
  value_member_fits ar n o (Class k) fit h = member_named_fits ar k (Some o) false n fit
  value_member_fits ar n o t fit h =
      keeps_given (MethodFits enums) (ThingFits enums) (λ m. A_method m o n.at) (unless 36 n.at (method_of t n.text))
      (keeps_unless (MethodFits enums) 36 n.at (method_of t n.text) (method_fits enums t n.text h)) (λ m f. f)

  abbrev given_or : Fault → Checked Thing → Checked Thing
  given_or f (Good t) = Good t
  given_or f (Broken g) = Broken f

  given_or_fits : (f : Fault) (c : Checked Thing) → Keeps (ThingFits enums) c → Keeps (ThingFits enums) (given_or f c)
  given_or_fits f (Good t) h = h
  given_or_fits f (Broken g) h = tt

  signal_fits : (p : Path) (n : Name) (i : ℕ) (ss : List (Checked SignalInfo)) → SignalsFit enums ss → Keeps (ThingFits enums) (signal_named p n i ss)
  signal_fits p n i [] h = tt
  signal_fits p n i (Broken f ∷ ss) h = given_or_fits f (signal_named p n (suc i) ss) (signal_fits p n (suc i) ss h.1)
  signal_fits p n i (Good s ∷ ss) h =
      if_each (λ (d : Checked Thing). Keeps (ThingFits enums) d) (same_bytes s.name.text n.text) _ _ h.0 (signal_fits p n (suc i) ss h.1)

  value_dot : (ar : Around) (pe : Place) (n : Name) (th : Thing) → AroundFits enums ar → ThingFits enums th
      → Keeps (ThingFits enums) (thing_value ar pe th ▷ (λ o. value_member ar n o o.ty))
  value_dot ar pe n th fit h =
      keeps_then (Fits enums) (ThingFits enums) (thing_value ar pe th) _ (thing_value_fits ar pe th h) (λ o f. value_member_fits ar n o o.ty fit f.is_type)

  pub dot_fits : (ar : Around) (pe : Place) (n : Name) (th : Thing) → AroundFits enums ar → ThingFits enums th → Keeps (ThingFits enums) (after_dot ar pe n th)
  dot_fits ar pe n (A_block p ss at) fit h = signal_fits p n 0 ss h
  dot_fits ar pe n (A_type t at) fit h = tt
  dot_fits ar pe n th fit h = value_dot ar pe n th fit h

  -- ---- one more suffix

  behind_fits : {A : Type 0} (P : A → Type 0) (r : Checked A) (th : Checked Thing) (behind : Unit {0} → Checked (Unit {0})) → Keeps P r
      → Keeps P (and_behind r th behind)
  behind_fits P r (Good t) behind h = h
  behind_fits P r (Broken f) behind h = keeps_broken P f (behind tt)

  called_fits : (ar : Around) (pe : Place) (v : Bool) (th : Thing) (as' : List Arg) → ThingFits enums th → Keeps (CalledFits enums) (called_thing ar pe v th as')
  called_fits ar pe v (A_subroutine c o direct at) as' h = subroutine_fits enums ar pe v c o direct as' h
  called_fits ar pe v (A_method m o at) as' h = language_fits enums ar pe v m o as' h
  called_fits ar pe v (Its_result c o x at) as' h = subroutine_fits enums ar pe v c o false as' h.0
  called_fits ar pe v th as' h = keeps_also (CalledFits enums) (Broken _) _ tt

  pub call_step_fits : (ar : Around) (pe : Place) (th : Checked Thing) (as' : List Arg) → Keeps (ThingFits enums) th
      → Keeps (ThingFits enums) (called_step ar pe th as')
  call_step_fits ar pe th as' h =
      behind_fits (ThingFits enums) (th ▷ after_actuals ar pe as') th _
      (keeps_then (ThingFits enums) (ThingFits enums) th (after_actuals ar pe as') h
      (λ x f. keeps_given (CalledFits enums) (ThingFits enums) _ (called_thing ar pe true x as') (called_fits ar pe true x as' f)
      (λ c g. value_fits enums ar pe c g)))

  pub select_step_fits : (ar : Around) (at pi : Place) (th : Checked Thing) (v i : Checked Typed) → Keeps (Fits enums) v
      → Keeps (ThingFits enums) (select_step ar at pi th v i)
  select_step_fits ar at pi th v i h =
      behind_fits (ThingFits enums) _ th _
      (keeps_given (Fits enums) (ThingFits enums) A_value (v ▷ (λ t. select_of ar at pi t i))
      (keeps_then (Fits enums) (Fits enums) v _ h (λ t f. select_fits enums ar at pi t i f)) (λ t f. f))

  pub part_step_fits : (w : PartWord) (at pe pl pr : Place) (th : Checked Thing) (v l r : Checked Typed)
      → Keeps (ThingFits enums) (part_step w at pe pl pr th v l r)
  part_step_fits w at pe pl pr th v l r =
      behind_fits (ThingFits enums) _ th _
      (keeps_given (Fits enums) (ThingFits enums) A_value (v ▷ (λ t. part_select_of w at pe pl pr t l r))
      (each_then (Fits enums) v _ (λ t. part_select_fits enums w at pe pl pr t l r)) (λ t f. f))

-- ---- `$`

last_runs : (q : flat.Expr) → RunsAs int_type (last_index q)
last_runs (flat.Field p t e) = record { width = ap (λ (w : ℕ). max 32 w) (length-symbols_of 32 1 0); sign = refl }
last_runs q = record { width = ap (λ (w : ℕ). max 32 w) (length-symbols_of 32 1 0); sign = refl }

pub dollar_fits : (th : Checked Thing) → DollarFits (dollar_in th)
dollar_fits (Good (A_value t)) = if_each DollarFits (is_queue t.ty) _ _ (last_runs t.code.value) tt
dollar_fits (Good th) = tt
dollar_fits (Broken f) = tt
