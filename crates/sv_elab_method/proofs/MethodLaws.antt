-- What each method of the language does, in steps.
use Rattle.std.proofs.Common.{◌≡◌, Bool, true, false, List, [], ◌∷◌, refl, ap, sym, ◌∙◌, subst}
use Rattle.std.specs.Prelude.{not, if◌then◌else◌, option_to_list, Result}
use Rattle.sv_value.specs.declared.place.Place.{Place}
use Rattle.sv_value.specs.declared.val.Wanted.{Wanted}
use Rattle.sv_flat.specs.declared.call.CallForm.{CallForm}
use Rattle.sv_flat.specs.declared.call.End.{End}
use Rattle.sv_flat.specs.declared.call.WalkStep.{WalkStep}
use Rattle.sv_names.specs.declared.argument.Arg.{Arg}
use Rattle.sv_names.specs.declared.checked.Checked.{Checked}
use Rattle.sv_names.specs.declared.checked.Checked.TheVariants.{Good, Broken}
use Rattle.sv_names.specs.declared.hoisted.Hoisted.{Hoisted}
use Rattle.sv_names.specs.declared.method.Action.{Action}
use Rattle.sv_names.specs.declared.method.Action.TheVariants as action
use Rattle.sv_names.specs.declared.method.Called.{Called}
use Rattle.sv_names.specs.declared.method.Called.TheVariants as called
use Rattle.sv_names.specs.declared.method.Outcome.{Outcome}
use Rattle.sv_names.specs.declared.refusal.Refusal.{Refusal}
use Rattle.sv_names.specs.declared.ty.Ty.{Ty}
use Rattle.sv_names.specs.declared.ty.Ty.TheVariants.{Assoc, Nothing}
use Rattle.sv_names.specs.declared.typed.Typed.{Typed}
use Rattle.sv_names.specs.Arguments.{value_of_arg}
use Rattle.sv_names.specs.Calls as calls
use Rattle.sv_names.specs.Checked.{◌▷◌, given, broken_at, rule}
use Rattle.sv_names.specs.Given.{Gives}
use Rattle.sv_names.specs.Methods.{type_given}
use Rattle.sv_names.specs.Named.{Around}
use Rattle.sv_names.specs.Selects.{index_for}
use Rattle.sv_names.specs.Targets.{Spot}
use Rattle.sv_names.specs.Types.{is_array, int_type, item_of, key_of, same_type}
use Rattle.sv_names.specs.Values.{exactly}
use Rattle.sv_elab_value.specs.Arguments.{first_two}
use Rattle.sv_elab_method.specs.Steps as steps

-- ---- values that are given on

given_twice : {A B C : Type 0} (f : A → B) (g : B → C) (c : Checked A) → given (λ x. g (f x)) c ≡ given g (given f c)
given_twice f g (Good x) = refl
given_twice f g (Broken e) = refl

-- what is given behind a part, or within it
given_within : {A B C D : Type 0} (v : Checked A) (part : A → Checked B) (f : B → C) (g : C → D)
    → given (λ x. g (f x)) (v ▷ part) ≡ given g (v ▷ (λ x. given f (part x)))
given_within (Good x) part f g = given_twice f g (part x)
given_within (Broken e) part f g = refl

later : {A B : Type 0} (v : Checked A) (f g : A → Checked B) → ((x : A) → f x ≡ g x) → (v ▷ f) ≡ (v ▷ g)
later (Good x) f g h = h x
later (Broken e) f g h = refl

module _ (ar : Around) (pe : Place) (g : Outcome) (c : Typed) (a : Arg) where
  -- ---- containers

  pub push_is : (e : End) → steps.push ar e c a ≡ calls.acted ar pe (action.Push e) g c (a ∷ [])
  push_is e =
      given_within (value_of_arg a) (exactly ar (item_of c.ty) a.at) (steps.push_form e c.code) (λ f. called.Call f Nothing)

  index_is : (i : Typed) (t : Ty) → index_for ar t a.at i ≡ calls.delete_index ar (record c { ty = t }) a.at i
  index_is i (Assoc k t) = refl
  index_is i t = refl

  pub delete_is : steps.delete_item ar c a ≡ calls.acted ar pe action.Delete g c (a ∷ [])
  delete_is =
      ap (given (λ i. called.Call (steps.delete_form c.code i) Nothing)) (later (value_of_arg a) (index_for ar c.ty a.at) (calls.delete_index ar c a.at) (λ i. index_is i c.ty))
      ∙ given_within (value_of_arg a) (calls.delete_index ar c a.at) (steps.delete_form c.code) (λ f. called.Call f Nothing)

  -- ---- from key to key

  step_is : (w : WalkStep) (b : Bool) (f : Hoisted CallForm) → (rule 16 a.at (not b) ▷ (λ _. Good f)) ≡ (if b then Good f else broken_at 16 a.at)
  step_is w true f = refl
  step_is w false f = refl

  walked_is : (w : WalkStep) (ss : List Spot) → steps.walked ar w c a.at ss ≡ calls.walked ar (action.Walk w) c a.at ss
  walked_is w [] = refl
  walked_is w (s ∷ []) = step_is w (same_type s.1.ty (key_of c.ty)) (steps.walk_form ar w a.at c.code (s ∷ []))
  walked_is w (s ∷ r ∷ ss) = refl

  pub walk_is : (w : WalkStep) → steps.walk ar w c a ≡ calls.acted ar pe (action.Walk w) g c (a ∷ [])
  walk_is w = ap (given (λ f. called.Call f int_type)) (later (calls.target_argument a) (steps.walked ar w c a.at) (calls.walked ar (action.Walk w) c a.at) (walked_is w))

  -- ---- mailboxes

  pub put_is : (waits : Bool) → steps.put ar waits g c a ≡ calls.acted ar pe (action.Put waits) g c (a ∷ [])
  put_is waits =
      given_within (value_of_arg a) (calls.message_of ar c.ty a.at) (steps.put_form ar waits c.code) (λ f. called.Call f (type_given g))

  received_if : (v : Typed) (f : Typed → Wanted) (d : Bool) (r : Checked (Unit {0}))
      → ((if d then r else broken_at 16 a.at) ▷ (λ _. Good (f v))) ≡ given f (if d then r ▷ (λ _. Good v) else broken_at 16 a.at)
  received_if v f true (Good u) = refl
  received_if v f true (Broken e) = refl
  received_if v f false r = refl

  item_if : (v : Typed) (f : Typed → Wanted) (b : Bool) (r : Checked (Unit {0})) (k : Typed → Checked Typed)
      → (r ▷ (λ _. Good (f v))) ≡ given f (k v)
      → ((if b then broken_at 42 v.at else r) ▷ (λ _. Good (f v))) ≡ given f ((if b then broken_at 42 v.at else Good v) ▷ k)
  item_if v f true r k h = refl
  item_if v f false r k h = h

  wanted_is : (ss : List Spot) → steps.wanted_in ar c.ty a.at ss ≡ given (λ v. calls.wanted_of ar v.ty) (calls.receiver c.ty a.at ss)
  wanted_is [] = refl
  wanted_is (s ∷ []) =
      let wanted : Typed → Wanted = λ v. calls.wanted_of ar v.ty in
      item_if s.1 wanted (is_array s.1.ty) (if calls.is_message s.1.ty then calls.may_receive c.ty a.at s.1 else broken_at 16 a.at)
      (λ v. if calls.is_message v.ty then calls.may_receive c.ty a.at v ▷ (λ _. Good v) else broken_at 16 a.at)
      (received_if s.1 wanted (calls.is_message s.1.ty) (calls.may_receive c.ty a.at s.1))
  wanted_is (s ∷ r ∷ ss) = refl

  got_is : (peeks waits : Bool) (ss : List Spot)
      → steps.got ar peeks waits c a.at ss ≡ given (calls.get_form ar peeks waits c ss) (calls.receiver c.ty a.at ss)
  got_is peeks waits ss =
      ap (given (steps.get_form ar peeks waits c.code ss)) (wanted_is ss)
      ∙ sym (given_twice (λ v. calls.wanted_of ar v.ty) (steps.get_form ar peeks waits c.code ss) (calls.receiver c.ty a.at ss))

  pub get_is : (peeks waits : Bool) → steps.get ar peeks waits g c a ≡ calls.acted ar pe (action.Get peeks waits) g c (a ∷ [])
  get_is peeks waits =
      ap (given (λ f. called.Call f (type_given g)))
      (later (calls.target_argument a) (steps.got ar peeks waits c a.at) (λ ss. given (calls.get_form ar peeks waits c ss) (calls.receiver c.ty a.at ss)) (got_is peeks waits))

-- ---- how many arguments

module _ (ar : Around) (pe : Place) (g : Outcome) (c : Typed) where
  -- but for `insert` no method takes more than one argument
  pub first_acted : (act : Action) → (act ≡ action.Insert → ⊥) → (as' : List Arg)
      → calls.acted ar pe act g c (option_to_list (steps.first_argument as')) ≡ calls.acted ar pe act g c as'
  first_acted act other [] = refl
  first_acted action.Insert other (a ∷ as') = absurd (other refl)
  first_acted act other (a ∷ as') = refl

  pub insert_is : (as' : List Arg) → steps.insert ar pe c (first_two as') ≡ calls.acted ar pe action.Insert g c as'
  insert_is [] = refl
  insert_is (i ∷ []) = refl
  insert_is (i ∷ a ∷ as') = refl

  -- what answers a step of a method answers its call
  pub does : (as' : List Arg) (r : Result Called Refusal) (x : Checked Called) (act kind : Action) → act ≡ kind → x ≡ calls.acted ar pe kind g c as'
      → Gives r x → Gives r (calls.acted ar pe act g c as')
  does as' r x act kind is h answers =
      subst (λ (y : Checked Called). Gives r y) (h ∙ sym (ap (λ (k : Action). calls.acted ar pe k g c as') is)) answers
