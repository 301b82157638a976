-- What a name with what follows it calls, by the last of its suffixes.
use Rattle.std.proofs.Common.{◌≡◌, ◌∙◌, Bool, true, false, List, [], ◌∷◌, ◌++◌, refl, sym, ap}
use Rattle.sv_value.specs.declared.place.Place.{Place}
use Rattle.sv_tree.specs.declared.expr.Suffix.{Suffix, Member, Call', Select', Part'}
use Rattle.sv_tree.specs.declared.expr.Root.{Root}
use Rattle.sv_tree.specs.Expr as tree
use Rattle.sv_tree.specs.Expr.{place_of_root}
use Rattle.sv_tree.specs.View.{suffix, suffix_list}
use Rattle.sv_names.specs.declared.checked.Checked.{Checked}
use Rattle.sv_names.specs.Named.{Around}
use Rattle.sv_names.specs.Things.{Thing, A_value, A_subroutine, A_method, A_block, The_signal, A_type, Its_result, root_thing}
use Rattle.sv_names.specs.Checked.{◌▷◌}
use Rattle.sv_names.specs.Expressions.{things, called_in, called_bare}
use Rattle.sv_elab_expr.specs.Walk.{stepped}
use Rattle.sv_elab_task.specs.Calling.{own_name, bare_by, last_call, bare_behind, call_behind, called_of, EndsWithCall, EndsBare}

-- whether a suffix is a call
abbrev pub is_call : Suffix → Bool
is_call (Call' at shape row) = true
is_call s = false

-- what follows a suffix follows what it makes
one_more_thing : (ar : Around) (pe : Place) (th : Checked Thing) (s : Suffix) (rest : tree.Suffixes)
    → things ar pe (stepped ar pe th (suffix s rest)) rest ≡ things ar pe th (suffix s rest)
one_more_thing ar pe th (Member n) rest = refl
one_more_thing ar pe th (Call' at shape row) rest = refl
one_more_thing ar pe th (Select' at p e) rest = refl
one_more_thing ar pe th (Part' at w p a q b) rest = refl

module _ (ar : Around) (pe : Place) (v : Bool) where
  -- one suffix more, where another follows
  one_more : (th : Checked Thing) (s t : Suffix) (rest : tree.Suffixes)
      → called_in ar pe v th (suffix s (suffix t rest)) ≡ called_in ar pe v (stepped ar pe th (suffix s (suffix t rest))) (suffix t rest)
  one_more th (Member n) t rest = refl
  one_more th (Select' at p e) t rest = refl
  one_more th (Part' at w p a q b) t rest = refl
  one_more th (Call' at shape row) (Member n) rest = refl
  one_more th (Call' at shape row) (Call' at2 shape2 row2) rest = refl
  one_more th (Call' at shape row) (Select' at2 p e) rest = refl
  one_more th (Call' at shape row) (Part' at2 w p a q b) rest = refl

  -- one suffix more before the last
  before_last : (th : Checked Thing) (s : Suffix) (front : List Suffix) (x : Suffix)
      → called_in ar pe v th (suffix_list (s ∷ front ++ x ∷ []))
      ≡ called_in ar pe v (stepped ar pe th (suffix_list (s ∷ front ++ x ∷ []))) (suffix_list (front ++ x ∷ []))
  before_last th s [] x = one_more th s x tree.NoSuffix
  before_last th s (t ∷ ts) x = one_more th s t (suffix_list (ts ++ x ∷ []))

  -- the last is no call
  bare_last : (th : Checked Thing) (front : List Suffix) (x : Suffix) → is_call x ≡ false
      → called_in ar pe v th (suffix_list (front ++ x ∷ [])) ≡ bare_behind ar pe v th (suffix_list (front ++ x ∷ []))
  bare_last th [] (Member n) h = refl
  bare_last th [] (Select' at p e) h = refl
  bare_last th [] (Part' at w p a q b) h = refl
  bare_last th [] (Call' at shape row) h = absurd (cc h)
  bare_last th (s ∷ front) x h =
      let rest = suffix_list (front ++ x ∷ []) in
      before_last th s front x ∙ bare_last (stepped ar pe th (suffix s rest)) front x h
      ∙ ap (λ t. t ▷ called_bare ar pe v) (one_more_thing ar pe th s rest)

  -- what follows a suffix does not change what it makes
  step_alone : (th : Checked Thing) (s : Suffix) (q r : tree.Suffixes) → stepped ar pe th (suffix s q) ≡ stepped ar pe th (suffix s r)
  step_alone th (Member n) q r = refl
  step_alone th (Select' at p e) q r = refl
  step_alone th (Part' at w p a t b) q r = refl
  step_alone th (Call' at shape row) q r = refl

  -- the last is a call
  call_last : (th : Checked Thing) (front : List Suffix) (x : Suffix) (at : Place) (es : tree.Exprs) → suffix x tree.NoSuffix ≡ tree.Call at es tree.NoSuffix
      → called_in ar pe v th (suffix_list (front ++ x ∷ [])) ≡ call_behind ar pe v th (suffix_list front) es
  call_last th [] x at es is = ap (λ ss. called_in ar pe v th ss) is
  call_last th (s ∷ front) x at es is =
      let rest = suffix_list (front ++ x ∷ []) in
      before_last th s front x ∙ call_last (stepped ar pe th (suffix s rest)) front x at es is
      ∙ ap (λ t. call_behind ar pe v t (suffix_list front) es) (step_alone th s rest (suffix_list front))
      ∙ ap (λ t. last_call ar pe v t es) (one_more_thing ar pe th s (suffix_list front))

-- suffixes whose last is a call
pub ends_with_call : (ss front : List Suffix) (x : Suffix) (at : Place) (es : tree.Exprs) → ss ≡ front ++ x ∷ [] → suffix x tree.NoSuffix ≡ tree.Call at es tree.NoSuffix
    → EndsWithCall (suffix_list ss) (suffix_list front) es
ends_with_call ss front x at es whole is ar pe v th =
    ap (λ xs. called_in ar pe v th (suffix_list xs)) whole ∙ call_last ar pe v th front x at es is

-- suffixes whose last is no call
pub ends_bare : (ss front : List Suffix) (x : Suffix) → ss ≡ front ++ x ∷ [] → is_call x ≡ false → EndsBare (suffix_list ss)
ends_bare ss front x whole h ar pe v th =
    ap (λ xs. called_in ar pe v th (suffix_list xs)) whole ∙ bare_last ar pe v th front x h
    ∙ ap (λ xs. bare_behind ar pe v th (suffix_list xs)) (sym whole)

-- nothing follows
pub none_follows : (ss : List Suffix) → ss ≡ [] → EndsBare (suffix_list ss)
none_follows ss whole ar pe v th =
    ap (λ xs. called_in ar pe v th (suffix_list xs)) whole ∙ ap (λ xs. bare_behind ar pe v th (suffix_list xs)) (sym whole)

module _ (ar : Around) (v : Bool) (r : Root) (ss : tree.Suffixes) (pe : Place) (th th' : Checked Thing) where
  -- what is called, where a call comes last
  pub called_with_last : (front : tree.Suffixes) (es : tree.Exprs) → EndsWithCall ss front es → pe ≡ place_of_root r → th ≡ root_thing ar r
      → th' ≡ things ar pe th front → last_call ar pe v th' es ≡ called_of ar v r ss
  called_with_last front es ends place root behind =
      ap (λ (t : Checked Thing). last_call ar pe v t es) behind ∙ sym (ends ar pe v th) ∙ (λ i. called_in ar (place i) v (root i) ss)

  -- where none does
  pub called_without : EndsBare ss → pe ≡ place_of_root r → th ≡ root_thing ar r → th' ≡ things ar pe th ss
      → (th' ▷ called_bare ar pe v) ≡ called_of ar v r ss
  called_without ends place root behind =
      ap (λ (t : Checked Thing). t ▷ called_bare ar pe v) behind ∙ sym (ends ar pe v th) ∙ (λ i. called_in ar (place i) v (root i) ss)

-- a call without brackets
pub bare_is : (ar : Around) (pe : Place) (v : Bool) (th : Thing) → called_bare ar pe v th ≡ bare_by ar pe v th (own_name th)
bare_is ar pe v (A_value t) = refl
bare_is ar pe v (A_subroutine c o d at) = refl
bare_is ar pe v (A_method m o at) = refl
bare_is ar pe v (Its_result c o x at) = refl
bare_is ar pe v (A_block p ss at) = refl
bare_is ar pe v (The_signal p n s at) = refl
bare_is ar pe v (A_type t at) = refl
