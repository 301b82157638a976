-- Whole subroutines, by their parts.
use Rattle.std.proofs.Common.{◌≡◌, ◌∙◌, Bool, true, false, not, List, [], ◌∷◌, Option, Some, None, if◌then◌else◌, refl, sym, ap}
use Rattle.sv_tree.specs.Classes as tree_class
use Rattle.sv_tree.specs.Stmt as tree_stmt
use Rattle.sv_tree.specs.Units.{Method}
use Rattle.sv_names.specs.declared.around.ClassInfo.{ClassInfo}
use Rattle.sv_names.specs.declared.around.Returns.{Returns}
use Rattle.sv_names.specs.declared.checked.Checked.{Checked}
use Rattle.sv_names.specs.declared.named.Callee.{Callee}
use Rattle.sv_names.specs.declared.scope.Scope.{Scope}
use Rattle.sv_names.specs.Checked.{◌where_also◌}
use Rattle.sv_names.specs.Classes.{constructor_of}
use Rattle.sv_names.specs.Code.{Code}
use Rattle.sv_names.specs.Entries.{has_result, is_constructor, subroutine_is_automatic}
use Rattle.sv_names.specs.Named.{Around, nearest}
use Rattle.sv_names.specs.Subroutines.{Before, MadeSubroutine, body_scope, returns_of, made_over, routine_stands, No_super, constructor_before, implied_constructor, routine_at, this_scope, constructor_path}
use Rattle.sv_names.specs.Types.{Path}
use Rattle.sv_elab_routine.specs.declared.bodies.Manner.{Manner}
use Rattle.sv_elab_before.specs.Befores.{construction}
use Rattle.sv_elab_routine.specs.Bodies.{inner, body_code, routine_over, routine_within}
use Rattle.sv_elab_routine.specs.Made.{routine_of, over_scope, chosen, constructor_among, implied_subroutine, implied_within}
use Rattle.sv_elab_routine.proofs.BodyLaws.{given_twice, given_guarded}

-- ---- over a scope

-- how its statements stand
abbrev manner_of : Around → Callee → Method → Manner
manner_of ar c m =
    record {
      is_automatic = subroutine_is_automatic ar.is_automatic c.class m.routine.head;
      has_object = not c.is_static;
      may_wait = c.is_task;
    }

module _ (ar : Around) (s : Scope) (c : Callee) (k : Option Path) (m : Method) (xs : tree_stmt.Stmts) (before : Before) where
  -- what the statements see
  abbrev seen : Scope
  seen = body_scope s c (subroutine_is_automatic ar.is_automatic k m.routine.head) (has_result m.routine.head)

  -- a subroutine in its scope
  within_is : routine_within ar seen (manner_of ar c m) (returns_of (has_result m.routine.head) c) m.routine.head m.routine.decls xs before
      ≡ routine_of (over_scope ar s c k m xs before)
  within_is =
      let i = inner ar seen (manner_of ar c m) (returns_of (has_result m.routine.head) c) in
      given_twice
      (λ (x : Code). record {
        path = c.path;
        routine = routine_over ar i seen (subroutine_is_automatic ar.is_automatic c.class m.routine.head) m.routine.head x;
      }) (λ (x : MadeSubroutine). x.routine) (body_code i before m.routine.decls xs)

  -- the same over its parts
  pub made_within : (t : Scope) (w : Manner) (r : Returns) (b : Bool) → c.class ≡ k
      → w.is_automatic ≡ subroutine_is_automatic ar.is_automatic k m.routine.head → w.has_object ≡ not c.is_static → w.may_wait ≡ c.is_task
      → b ≡ has_result m.routine.head → r ≡ returns_of b c → t ≡ body_scope s c w.is_automatic b
      → routine_within ar t w r m.routine.head m.routine.decls xs before ≡ routine_of (over_scope ar s c k m xs before)
  made_within t w r b same auto object waits has gives sees =
      let scope : t ≡ seen = sees ∙ (λ i. body_scope s c (auto i) (has i)) in
      let result : r ≡ returns_of (has_result m.routine.head) c = gives ∙ ap (λ x. returns_of x c) has in
      let own : w.is_automatic ≡ subroutine_is_automatic ar.is_automatic c.class m.routine.head =
      auto ∙ ap (λ (x : Option Path). subroutine_is_automatic ar.is_automatic x m.routine.head) (sym same) in
      (λ i.
      routine_within ar (scope i) (record { is_automatic = own i; has_object = object i; may_wait = waits i }) (result i) m.routine.head m.routine.decls xs
      before) ∙ within_is

  -- with the rules on its declarations
  pub made_guarded : (routine_of (over_scope ar s c k m xs before) where_also routine_stands ar s c k m) ≡ routine_of (made_over ar s c k m xs before)
  made_guarded = given_guarded (λ (x : MadeSubroutine). x.routine) (over_scope ar s c k m xs before) (routine_stands ar s c k m)

-- ---- constructors

-- one that is written by this item
by_item : (ar : Around) (k : ClassInfo) (whole : List tree_class.ClassItem) (b : Bool) (m : Method) (o : Option Method)
    → chosen ar k whole (nearest (if b then Some m else None) o) ≡ (if b then chosen ar k whole (Some m) else chosen ar k whole o)
by_item ar k whole true m o = refl
by_item ar k whole false m o = refl

-- the first that is written
pub constructor_chosen : (ar : Around) (k : ClassInfo) (whole is : List tree_class.ClassItem)
    → chosen ar k whole (constructor_among is) ≡ constructor_of ar k whole is
constructor_chosen ar k whole [] = refl
constructor_chosen ar k whole (tree_class.Method m ∷ is) =
    by_item ar k whole (is_constructor m.routine.head) m (constructor_among is)
    ∙ ap (λ (x : Checked MadeSubroutine). if is_constructor m.routine.head then chosen ar k whole (Some m) else x) (constructor_chosen ar k whole is)
constructor_chosen ar k whole (tree_class.Property p ∷ is) = constructor_chosen ar k whole is
constructor_chosen ar k whole (tree_class.Pure m ∷ is) = constructor_chosen ar k whole is
constructor_chosen ar k whole (tree_class.Typedef t ∷ is) = constructor_chosen ar k whole is
constructor_chosen ar k whole (tree_class.Announce n ∷ is) = constructor_chosen ar k whole is
constructor_chosen ar k whole (tree_class.Null ∷ is) = constructor_chosen ar k whole is

-- one that is not written
pub implied_is : (ar : Around) (k : ClassInfo) (is : List tree_class.ClassItem)
    → implied_within ar k is (this_scope (constructor_path k.path) k.path k.name.at) ≡ routine_of (implied_constructor ar k is)
implied_is ar k is =
    let s = this_scope (constructor_path k.path) k.path k.name.at in
    given_twice
    (λ (c : Code). record { path = constructor_path k.path; routine = routine_at k.name.at (implied_subroutine ar k.path s) c })
    (λ (x : MadeSubroutine). x.routine) (constructor_before ar k is k.name.at No_super (construction ar s))
