-- Assignments over all their parts.
use Rattle.std.proofs.Common.{◌≡◌, List, Option, Some, None, refl, ap, sym, subst, ◌∙◌}
use Rattle.std.specs.Prelude.{if◌then◌else◌}
use Rattle.sv_value.specs.declared.place.Place.{Place}
use Rattle.sv_flat.specs.declared.stmt.Form.{Form}
use Rattle.sv_flat.specs.declared.stmt.Form.TheVariants as form
use Rattle.sv_flat.specs.declared.target.Container.{Container}
use Rattle.sv_flat.specs.declared.target.Lvalue.{Lvalue}
use Rattle.sv_flat.specs.Expr as flat
use Rattle.sv_tree.specs.declared.expr.Root.TheVariants as root
use Rattle.sv_tree.specs.declared.word.BinaryWord.{BinaryWord}
use Rattle.sv_tree.specs.declared.word.Name.{Name}
use Rattle.sv_tree.specs.Expr as tree
use Rattle.sv_tree.specs.Expr.{place_of}
use Rattle.sv_tree.specs.Stmt.{Init, Value, New, Copy, Array}
use Rattle.sv_names.specs.declared.argument.Arg.{Arg}
use Rattle.sv_names.specs.declared.checked.Fault.{Fault}
use Rattle.sv_names.specs.declared.checked.Checked.{Checked}
use Rattle.sv_names.specs.declared.checked.Checked.TheVariants.{Good, Broken}
use Rattle.sv_names.specs.declared.hoisted.Hoisted.{Hoisted}
use Rattle.sv_names.specs.declared.ty.Ty.{Ty}
use Rattle.sv_names.specs.declared.typed.How.TheVariants.{Statement}
use Rattle.sv_names.specs.declared.typed.Typed.{Typed}
use Rattle.sv_names.specs.Arguments.{values_stand}
use Rattle.sv_names.specs.Assignments.{Amount, made, array_given, init_alone, given_behind, not_late, resized, old_given, no_container, later_given, begin_of, later_behind, read_and_written, place_of_lval, updated}
use Rattle.sv_names.specs.Calls.{call_stands}
use Rattle.sv_names.specs.Checked.{both, ◌▷◌, given, ◌where_also◌, only, also_broken, earlier}
use Rattle.sv_names.specs.Expressions.{expr, target}
use Rattle.sv_names.specs.Hoisted.{pure}
use Rattle.sv_names.specs.Named.{Around, behind, hidden_in}
use Rattle.sv_names.specs.Operators.{kind_of, binary_of}
use Rattle.sv_names.specs.Targets.{Spot, lvalues, type_of_target, read_of, hidden_of_spots}
use Rattle.sv_names.specs.Types.{longint_type, is_dynamic}
use Rattle.sv_names.specs.Values.{exactly}
use Rattle.sv_elab_assign.specs.declared.amount.Amount as amount
use Rattle.sv_elab_assign.specs.declared.arrays.Source as arrays
use Rattle.sv_elab_assign.specs.Forms.{written_back}
use Rattle.sv_elab_assign.specs.Places.{behind_parts, around_both, value_there, named_there, args_both, args_there, source_around, later_there}
use Rattle.sv_elab_assign.specs.Wholes.{parts_in, given_behind_both, value_behind, copy_behind, made_behind, IsMade, old_of, array_of, array_behind, array_alone, IsSource, later_parts, updated_by}

-- a target with its delay
abbrev Parts : Type 0
Parts = List Spot × Option Amount

-- ---- blocking assignments

-- nothing is made beside a broken rule
nothing_beside : (f : Fault) (c : Checked (Unit {0}))
    → let told : Checked Parts = Broken f in also_broken f c ≡ given (λ p. pure form.Null) (both told c)
nothing_beside f (Good u) = refl
nothing_beside f (Broken g) = refl

-- an assignment by its target and its delay together
whole_is : (ar : Around) (t : Checked (List Spot)) (d : Checked (Option Amount)) (i : Init)
    → given_behind_both ar (both t d) i ≡ given_behind ar t d i
whole_is ar (Good ss) (Good d) i = refl
whole_is ar (Good ss) (Broken g) i = nothing_beside g (init_alone ar i)
whole_is ar (Broken f) (Good d) i = nothing_beside f (init_alone ar i)
whole_is ar (Broken f) (Broken g) i = nothing_beside (earlier f g) (init_alone ar i)

module _ (ar : Around) (t : Checked (List Spot)) (d : Checked (Option Amount)) where
  -- the same, where these are known
  whole_of : (b : Checked Parts) (i : Init) → b ≡ both t d → given_behind_both ar b i ≡ given_behind ar t d i
  whole_of b i h = ap (λ (c : Checked Parts). given_behind_both ar c i) h ∙ whole_is ar t d i

  -- a value where it stands
  stands_at : (b : Checked Parts) (e : tree.Expr) (x : Checked Typed) → b ≡ both t d → x ≡ value_there ar t d e → x ≡ expr (around_both ar b) e
  stands_at b e x h is = is ∙ ap (λ (c : Checked Parts). expr (around_both ar c) e) (sym h)

  -- ---- a value

  pub value_whole : (p : Parts) (e : tree.Expr) (at : Place) (x : Checked Typed) → Good p ≡ both t d → at ≡ place_of e → x ≡ value_there ar t d e
      → value_behind ar p.1 at p.0 x ≡ given_behind ar t d (Value e)
  value_whole p e at x h place is =
      ap (value_behind ar p.1 at p.0) (stands_at (Good p) e x h is)
      ∙ ap (λ (q : Place). value_behind ar p.1 q p.0 (expr (behind_parts ar p.0 p.1) e)) place
      ∙ whole_of (Good p) (Value e) h

  pub value_beside : (f : Fault) (e : tree.Expr) (x : Checked Typed) → Broken f ≡ both t d → x ≡ value_there ar t d e
      → also_broken f (only x) ≡ given_behind ar t d (Value e)
  value_beside f e x h is =
      ap (λ (y : Checked Typed). also_broken f (only y)) (stands_at (Broken f) e x h is) ∙ whole_of (Broken f) (Value e) h

  -- ---- `new h`

  pub copy_whole : (p : Parts) (n : Name) (at : Place) (x : Checked Typed) → Good p ≡ both t d → x ≡ named_there ar t d n
      → copy_behind ar p.1 at p.0 x ≡ given_behind ar t d (Copy at n)
  copy_whole p n at x h is =
      ap (copy_behind ar p.1 at p.0) (stands_at (Good p) (tree.Post (root.Plain n) tree.NoSuffix) x h is) ∙ whole_of (Good p) (Copy at n) h

  pub copy_beside : (f : Fault) (n : Name) (at : Place) (x : Checked Typed) → Broken f ≡ both t d → x ≡ named_there ar t d n
      → also_broken f (only x) ≡ given_behind ar t d (Copy at n)
  copy_beside f n at x h is =
      ap (λ (y : Checked Typed). also_broken f (only y)) (stands_at (Broken f) (tree.Post (root.Plain n) tree.NoSuffix) x h is)
      ∙ whole_of (Broken f) (Copy at n) h

  -- ---- `new`

  -- the arguments of `new` where they stand
  args_at : (b : Checked Parts) (a : tree.Actuals) (as' : List Arg) → b ≡ both t d → as' ≡ args_there ar t d a → as' ≡ args_both ar b a
  args_at b a as' h is = is ∙ ap (λ (c : Checked Parts). args_both ar c a) (sym h)

  pub new_whole : (p : Parts) (a : tree.Actuals) (as' : List Arg) (at : Place) (x : Checked (Hoisted flat.Expr)) → Good p ≡ both t d
      → as' ≡ args_there ar t d a → IsMade ar (both t d) at as' x → made_behind ar p.1 at p.0 x ≡ given_behind ar t d (New at a)
  new_whole p a as' at x h is made_so =
      let inner : Around = behind_parts ar p.0 p.1 in
      let there : x ≡ made inner at p.0 as' (type_of_target p.0) = subst (λ (b : Checked Parts). IsMade ar b at as' x) (sym h) made_so in
      ap (made_behind ar p.1 at p.0) there
      ∙ ap (λ (xs : List Arg). made_behind ar p.1 at p.0 (made inner at p.0 xs (type_of_target p.0))) (args_at (Good p) a as' h is)
      ∙ whole_of (Good p) (New at a) h

  pub new_beside : (f : Fault) (a : tree.Actuals) (as' : List Arg) (at : Place) → Broken f ≡ both t d → as' ≡ args_there ar t d a
      → also_broken f (values_stand as') ≡ given_behind ar t d (New at a)
  new_beside f a as' at h is =
      ap (λ (xs : List Arg). also_broken f (values_stand xs)) (args_at (Broken f) a as' h is) ∙ whole_of (Broken f) (New at a) h

-- ---- `new[n]`

-- what is copied
old_is : (ar : Around) (t : Ty) (s : Option arrays.Source) (old : Option tree.Expr) → IsSource ar s old → old_of t s ≡ old_given ar t old
old_is ar t None None h = refl
old_is ar t (Some s) (Some e) h =
    ap (λ (x : Checked Typed). old_of t (Some (record s { value = x }))) h.1
    ∙ ap (λ (q : Place). old_of t (Some (record { at = q; value = expr ar e }))) h.0
old_is ar t None (Some e) h = absurd h
old_is ar t (Some s) None h = absurd h

-- what it breaks by itself
alone_is : (ar : Around) (at : Place) (n : tree.Expr) (x : Checked Typed) (s : Option arrays.Source) (old : Option tree.Expr)
    → x ≡ expr ar n → IsSource ar s old → array_alone x s ≡ init_alone ar (Array at n old)
alone_is ar at n x None None is h = ap (λ (y : Checked Typed). only y) is
alone_is ar at n x (Some s) (Some e) is h =
    ap (λ (y : Checked Typed). only (both y s.value)) is ∙ ap (λ (y : Checked Typed). only (both (expr ar n) y)) h.1
alone_is ar at n x None (Some e) is h = absurd h
alone_is ar at n x (Some s) None is h = absurd h

module _ (ar : Around) (d : Option Amount) (at : Place) (ss : List Spot) where
  -- `new[n]` over the number of items and what is copied
  abbrev array_over : Place → Checked Typed → Checked (Option (Hoisted Container)) → Checked (Hoisted Form)
  array_over q x o =
      (both (x ▷ exactly ar longint_type q) (if is_dynamic (type_of_target ss) then o else Good None)
      ▷ (λ p. resized ar d at p.0 p.1 ss))
      where_also call_stands ar at

  pub array_stands : (n : tree.Expr) (old : Option tree.Expr) (q : Place) (x : Checked Typed) (s : Option arrays.Source) → q ≡ place_of n → x ≡ expr ar n
      → IsSource (behind (hidden_in x) ar) s old → array_of ar d at q x s ss ≡ array_given ar d at n old ss
  array_stands n old q x s place is source =
      let to : Ty = type_of_target ss in
      ap (λ (o : Checked (Option (Hoisted Container))). array_over q x o) (old_is (behind (hidden_in x) ar) to s old source)
      ∙ ap (λ (y : Checked Typed). array_over q y (old_given (behind (hidden_in y) ar) to old)) is
      ∙ ap (λ (r : Place). array_over r (expr ar n) (old_given (behind (hidden_in (expr ar n)) ar) to old)) place

module _ (ar : Around) (t : Checked (List Spot)) (d : Checked (Option Amount)) where
  pub array_whole : (p : Parts) (n : tree.Expr) (old : Option tree.Expr) (at q : Place) (x : Checked Typed) (s : Option arrays.Source)
      → Good p ≡ both t d → q ≡ place_of n → x ≡ value_there ar t d n → IsSource (source_around ar (both t d) x) s old
      → array_behind ar p.1 at q x s p.0 ≡ given_behind ar t d (Array at n old)
  array_whole p n old at q x s h place is source =
      let inner : Around = behind_parts ar p.0 p.1 in
      let stands : IsSource (behind (hidden_in x) inner) s old =
      subst (λ (b : Checked Parts). IsSource (source_around ar b x) s old) (sym h) source in
      ap (λ (c : Checked (Hoisted Form)). c where_also not_late p.1 p.0)
      (array_stands inner p.1 at p.0 n old q x s place (stands_at ar t d (Good p) n x h is) stands)
      ∙ whole_of ar t d (Good p) (Array at n old) h

  pub array_beside : (f : Fault) (n : tree.Expr) (old : Option tree.Expr) (at : Place) (x : Checked Typed) (s : Option arrays.Source)
      → Broken f ≡ both t d → x ≡ value_there ar t d n → IsSource (source_around ar (both t d) x) s old
      → also_broken f (array_alone x s) ≡ given_behind ar t d (Array at n old)
  array_beside f n old at x s h is source =
      let stands : IsSource ar s old = subst (λ (b : Checked Parts). IsSource (source_around ar b x) s old) (sym h) source in
      ap (λ (c : Checked (Unit {0})). also_broken f c) (alone_is ar at n x s old (stands_at ar t d (Broken f) n x h is) stands)
      ∙ whole_of ar t d (Broken f) (Array at n old) h

-- ---- nonblocking assignments

-- a value for a target and a delay
abbrev later_with : Around → Place → Checked Parts → Checked Typed → Checked (Hoisted Form)
later_with ar pv b x = both b x ▷ (λ q. later_given ar q.0.1 pv q.0.0 q.1 (begin_of q.0.0))

later_seen : (ar : Around) (pv : Place) (b : Checked (List Spot × Option amount.Amount)) (x : Checked Typed)
    → later_parts ar pv b x ≡ later_with ar pv (given parts_in b) x
later_seen ar pv (Good p) (Good t) = refl
later_seen ar pv (Good p) (Broken g) = refl
later_seen ar pv (Broken f) (Good t) = refl
later_seen ar pv (Broken f) (Broken g) = refl

pub later_whole : (ar : Around) (t : Checked (List Spot)) (d : Checked (Option Amount)) (b : Checked (List Spot × Option amount.Amount)) (e : tree.Expr)
    (at : Place) (x : Checked Typed) → given parts_in b ≡ both t d → at ≡ place_of e → x ≡ later_there ar t d e
    → (later_parts ar at b x where_also no_container t) ≡ later_behind ar t d e
later_whole ar t d b e at x h place is =
    ap (λ (c : Checked (Hoisted Form)). c where_also no_container t)
    (later_seen ar at b x
    ∙ ap (λ (c : Checked Parts). later_with ar at c x) h
    ∙ ap (λ (q : Place). later_with ar q (both t d) x) place
    ∙ ap (later_with ar (place_of e) (both t d)) is)

-- ---- `a op= e`

-- an operator between what stands in a target and its operand, and what is written
pub operated_is : (ar : Around) (pl pv : Place) (w : BinaryWord) (ss : List Spot) (v : Checked Typed) (read t : Typed) (to : Ty) (ls : List Lvalue)
    → to ≡ type_of_target ss → ls ≡ (lvalues ar ss).value → read ≡ read_of pl ss → binary_of ar (kind_of w) pl pl pv (Good read) v ≡ Good t
    → written_back ar to pv ls t ≡ read_and_written ar pl pv w ss v
operated_is ar pl pv w ss v read t to ls is_to is_ls is_read made =
    let go : Typed → Checked (Hoisted Form) = λ x. written_back ar (type_of_target ss) pv (lvalues ar ss).value x in
    ap (λ (u : Ty). written_back ar u pv ls t) is_to
    ∙ ap (λ (xs : List Lvalue). written_back ar (type_of_target ss) pv xs t) is_ls
    ∙ sym (ap (λ (c : Checked Typed). c ▷ go) (sym (ap (λ (r : Typed). binary_of ar (kind_of w) pl pl pv (Good r) v) is_read) ∙ made))

module _ (ar : Around) (l : tree.Lval) (w : BinaryWord) (pv : Place) (v : Around → Checked Typed) where
  updated_is : updated_by ar (place_of_lval l) pv w v (target Statement ar l) ≡ updated ar l w pv v
  updated_is = refl

  pub update_whole : (pl : Place) (ss : List Spot) (x : Checked Typed) → pl ≡ place_of_lval l → Good ss ≡ target Statement ar l
      → x ≡ v (behind (hidden_of_spots ss) ar) → read_and_written ar pl pv w ss x ≡ updated ar l w pv v
  update_whole pl ss x place h is =
      ap (λ (q : Place). read_and_written ar q pv w ss x) place
      ∙ ap (read_and_written ar (place_of_lval l) pv w ss) is
      ∙ ap (updated_by ar (place_of_lval l) pv w v) h
      ∙ updated_is

  pub update_beside : (f : Fault) (x : Checked Typed) → Broken f ≡ target Statement ar l → x ≡ v ar
      → also_broken f (only x) ≡ updated ar l w pv v
  update_beside f x h is =
      ap (λ (y : Checked Typed). also_broken f (only y)) is ∙ ap (updated_by ar (place_of_lval l) pv w v) h ∙ updated_is
