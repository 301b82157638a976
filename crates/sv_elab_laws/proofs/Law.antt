-- The law: what an expression is typed as has in a run the width and the sign of its type.
use Rattle.std.proofs.Common.{◌≡◌, ℕ, Bool, true, false, true≢false, List, [], Option, Some, None, refl, sym, subst, if◌then◌else◌}
use Rattle.sv_value.specs.declared.place.Place.{Place}
use Rattle.sv_tree.specs.Expr as tree
use Rattle.sv_tree.specs.Expr.{place_of, place_of_root, place_of_cast}
use Rattle.sv_names.specs.declared.argument.Taken.{Taken}
use Rattle.sv_names.specs.declared.around.Dollar.{Dollar}
use Rattle.sv_names.specs.declared.around.Dollar.TheVariants.{NoDollar, UnknownDollar, LastIndex}
use Rattle.sv_names.specs.declared.checked.Checked.{Checked}
use Rattle.sv_names.specs.declared.checked.Checked.TheVariants.{Good, Broken}
use Rattle.sv_names.specs.declared.ty.Ty.{Ty}
use Rattle.sv_names.specs.declared.ty.Ty.TheVariants.{Fixed}
use Rattle.sv_names.specs.declared.typed.How.TheVariants.{Statement as By_statement}
use Rattle.sv_names.specs.declared.typed.Typed.{Typed}
use Rattle.sv_names.specs.Arguments.{value_of_taken, parts_of}
use Rattle.sv_names.specs.Checked.{◌▷◌}
use Rattle.sv_names.specs.Expressions.{system_of, first_type, outputs_of_system, without_calls, in_index, dollar_typed, no_constructor, hidden_in_arg, as_output, taken, first_output, more_outputs, expr, args, actual_args, things, target_in}
use Rattle.sv_names.specs.Named.{Around, behind, hidden_in}
use Rattle.sv_names.specs.Operators.{Placed, unary_typed, kind_of, decides_early, ticks_in, time_typed, join_of}
use Rattle.sv_names.specs.Targets.{Spot}
use Rattle.sv_names.specs.Things.{Thing, root_thing, after_dot, thing_value}
use Rattle.sv_names.specs.Types.{is_integral, is_fixed}
use Rattle.sv_names.specs.Values.{number_operand, constant_count}
use Rattle.sv_elab_laws.specs.Fits.{Enums, RunsAs, Fits, Keeps, DollarFits, AroundFits}
use Rattle.sv_elab_laws.proofs.Kept.{keeps_then, keeps_given, keeps_more, each_given, if_each}
use Rattle.sv_elab_laws.proofs.FitTypes.{plain_runs, FitsItem, as_fits, number_fits}
use Rattle.sv_elab_laws.proofs.FitOperators.{unary_fits, binary_of_fits, choose_fits}
use Rattle.sv_elab_laws.proofs.FitJoins.{ArgsFit, join_fits, repeat_fits}
use Rattle.sv_elab_laws.proofs.FitLiterals.{literal_fits, time_fits}
use Rattle.sv_elab_laws.proofs.FitSystem.{system_fits, cast_of_fits}
use Rattle.sv_elab_laws.proofs.FitThings.{ThingFits, root_fits, thing_value_fits, dot_fits, call_step_fits, select_step_fits, part_step_fits, dollar_fits}

-- ---- where parts stand

module _ (enums : Enums) (ar : Around) (fit : AroundFits enums ar) where
  behind_fits : (n : ℕ) → AroundFits enums (behind n ar)
  behind_fits n = record { names = fit.names; members = fit.members; dollar = fit.dollar }

  no_calls_fit : AroundFits enums (without_calls ar)
  no_calls_fit = record { names = fit.names; members = fit.members; dollar = fit.dollar }

  early_fits : (b : Bool) → AroundFits enums (if b then without_calls ar else ar)
  early_fits b = if_each (λ (a : Around). AroundFits enums a) b (without_calls ar) ar no_calls_fit fit

  -- what stands in an index, as in `q[$]`
  pub index_fits : (th : Checked Thing) (v : Checked Typed) → AroundFits enums (in_index th v ar)
  index_fits th v = record { names = fit.names; members = fit.members; dollar = dollar_fits th }

-- ---- parts

module _ (enums : Enums) where
  dollar_value_fits : (at : Place) (d : Dollar) → DollarFits d → Keeps (Fits enums) (dollar_typed at d)
  dollar_value_fits at NoDollar h = tt
  dollar_value_fits at (UnknownDollar f) h = tt
  dollar_value_fits at (LastIndex e) h = record { is_type = tt; runs = h }

  no_constructor_fits : (at : Place) (parts : Checked (List Placed)) → Keeps (Fits enums) (no_constructor at parts)
  no_constructor_fits at (Good ps) = tt
  no_constructor_fits at (Broken f) = tt

  output_fits : (at : Place) (o : Option (Checked (List Spot))) (value : Unit {0} → Checked Typed) → Keeps (Fits enums) (value tt)
      → Keeps (Fits enums) (value_of_taken at (as_output o value))
  output_fits at None value h = h
  output_fits at (Some c) value h = tt

  taken_fits : (at : Place) (b : Bool) (target : Unit {0} → Option (Checked (List Spot))) (value : Unit {0} → Checked Typed)
      → Keeps (Fits enums) (value tt) → Keeps (Fits enums) (value_of_taken at (taken b target value))
  taken_fits at true target value h = output_fits at (target tt) value h
  taken_fits at false target value h = h

  -- what follows a name
  pub things_fit : (ar : Around) → AroundFits enums ar → (pe : Place) (th : Checked Thing) → Keeps (ThingFits enums) th → (s : tree.Suffixes)
      → Keeps (ThingFits enums) (things ar pe th s)
  things_fit ar fit pe th h tree.NoSuffix = h
  things_fit ar fit pe th h (tree.Member n rest) =
      things_fit ar fit pe (th ▷ after_dot ar pe n)
      (keeps_then (ThingFits enums) (ThingFits enums) th (after_dot ar pe n) h (λ x f. dot_fits enums ar pe n x fit f)) rest
  things_fit ar fit pe th h (tree.Call at es rest) = things_fit ar fit pe _ (call_step_fits enums ar pe th _ h) rest
  things_fit ar fit pe th h (tree.Select at i rest) =
      things_fit ar fit pe _
      (select_step_fits enums ar at (place_of i) th (th ▷ thing_value ar pe) _
      (keeps_then (ThingFits enums) (Fits enums) th (thing_value ar pe) h (λ x f. thing_value_fits enums ar pe x f))) rest
  things_fit ar fit pe th h (tree.Part at w l r rest) =
      things_fit ar fit pe _ (part_step_fits enums w at pe (place_of l) (place_of r) th (th ▷ thing_value ar pe) _ _) rest

-- ---- the table

mutual
  pub expr_fits : (enums : Enums) (ar : Around) → AroundFits enums ar → (e : tree.Expr) → Keeps (Fits enums) (expr ar e)
  expr_fits enums ar fit (tree.Number at text) = literal_fits enums at text
  expr_fits enums ar fit (tree.Time at text) = each_given (Fits enums) (time_typed ar.scale at) (ticks_in ar.scale at text) (λ n. time_fits enums ar.scale at n)
  expr_fits enums ar fit (tree.Text at text) = record { is_type = tt; runs = record { width = refl; sign = refl } }
  expr_fits enums ar fit (tree.Null at) = record { is_type = tt; runs = record { width = refl; sign = refl } }
  expr_fits enums ar fit (tree.Dollar at) = dollar_value_fits enums at ar.dollar fit.dollar
  expr_fits enums ar fit (tree.Group at e) = expr_fits enums ar fit e
  expr_fits enums ar fit (tree.Post r s) =
      keeps_then (ThingFits enums) (Fits enums) (things ar (place_of_root r) (root_thing ar r) s) (thing_value ar (place_of_root r))
      (things_fit enums ar fit (place_of_root r) (root_thing ar r) (root_fits enums ar r fit) s) (λ x f. thing_value_fits enums ar (place_of_root r) x f)
  expr_fits enums ar fit (tree.System n a) =
      system_fits enums ar n.at (first_type ar a) (actual_args ar (outputs_of_system (system_of n) a) a) (system_of n)
  expr_fits enums ar fit (tree.SuperNew at new a) = no_constructor_fits enums at (parts_of (actual_args ar [] a))
  expr_fits enums ar fit (tree.Join at es) =
      keeps_more (FitsItem enums) (Fits enums) (parts_of (args ar [] es) ▷ join_of at) (join_fits enums at (args ar [] es) (args_fit enums ar fit [] es))
      (λ t h. as_fits enums t h)
  expr_fits enums ar fit (tree.Repeat at n inner es) =
      repeat_fits enums at (expr ar n ▷ constant_count (place_of n)) (parts_of (args ar [] es) ▷ join_of inner)
      (join_fits enums inner (args ar [] es) (args_fit enums ar fit [] es))
  expr_fits enums ar fit (tree.Cast c e) = cast_of_fits enums ar (place_of_cast c) (place_of e) (expr ar e) (expr_fits enums ar fit e) c fit
  expr_fits enums ar fit (tree.Unary at op e) =
      keeps_given (FitsItem enums) (Fits enums) (unary_typed at op) (expr ar e ▷ number_operand (place_of e))
      (keeps_then (Fits enums) (FitsItem enums) (expr ar e) (number_operand (place_of e)) (expr_fits enums ar fit e)
      (λ t h. number_fits enums (place_of e) t h)) (λ t h. unary_fits enums at op t h)
  expr_fits enums ar fit (tree.Binary op at a b) =
      let inner : Around = if decides_early op then without_calls ar else ar in
      binary_of_fits enums ar (kind_of op) at (place_of a) (place_of b) (expr ar a) (expr (behind (hidden_in (expr ar a)) inner) b)
      (expr_fits enums ar fit a)
      (expr_fits enums (behind (hidden_in (expr ar a)) inner) (behind_fits enums inner (early_fits enums ar fit (decides_early op)) (hidden_in (expr ar a))) b)
  expr_fits enums ar fit (tree.Choose c a b) =
      let n : ℕ = hidden_in (expr ar c) in
      let inner : Around = behind n (without_calls ar) in
      let m : ℕ = hidden_in (expr inner a) in
      let inner_fits : AroundFits enums inner = behind_fits enums (without_calls ar) (no_calls_fit enums ar fit) n in
      choose_fits enums ar (place_of c) (place_of a) (place_of b) (expr ar c) (expr inner a) (expr (behind m inner) b)
      (expr_fits enums ar fit c) (expr_fits enums inner inner_fits a) (expr_fits enums (behind m inner) (behind_fits enums inner inner_fits m) b)

  pub args_fit : (enums : Enums) (ar : Around) → AroundFits enums ar → (os : List Bool) (es : tree.Exprs) → ArgsFit enums (args ar os es)
  args_fit enums ar fit os tree.NoExpr = tt
  args_fit enums ar fit os (tree.AndExpr e es) =
      let t : Taken = taken (first_output os) (λ _. target_in By_statement ar e) (λ _. expr ar e) in (
        taken_fits enums (place_of e) (first_output os) (λ _. target_in By_statement ar e) (λ _. expr ar e) (expr_fits enums ar fit e),
        args_fit enums (behind (hidden_in_arg t) ar) (behind_fits enums ar fit (hidden_in_arg t)) (more_outputs os) es,
      )

-- a number is no array
not_fixed : (t : Ty) → is_integral t ≡ true → is_fixed t ≡ false
not_fixed (Fixed b t) is = absurd (true≢false (sym is))
not_fixed t is = refl

-- what an expression is typed as has in a run the width and the sign of its type
pub typed_as_it_runs : (enums : Enums) (ar : Around) → AroundFits enums ar → (e : tree.Expr) (t : Typed) → expr ar e ≡ Good t
    → is_integral t.ty ≡ true → RunsAs t.ty t.code.value
typed_as_it_runs enums ar fit e t is number =
    let fits : Fits enums t = subst (λ (c : Checked Typed). Keeps (Fits enums) c) is (expr_fits enums ar fit e) in
    plain_runs t.ty t.code.value (not_fixed t.ty number) fits.runs
