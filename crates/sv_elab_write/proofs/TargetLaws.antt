-- Targets as they are written.
use Rattle.std.proofs.Common.{rules, ◌≡◌, ◌∙◌, ℕ, ◌+◌, ◌<◌, List, [], ◌∷◌, ◌++◌, Option, Some, None, length, drop, get_or, sym, ap, append_assoc}
use Rattle.sv_tree.specs.declared.expr.Lval.{Lval}
use Rattle.sv_tree.specs.Expr as tree
use Rattle.sv_tree.specs.StmtView.{lval, lval_list}
use Rattle.sv_names.specs.declared.checked.Checked.{Checked}
use Rattle.sv_names.specs.declared.typed.How.{How}
use Rattle.sv_names.specs.Assignments.{place_of_lval}
use Rattle.sv_names.specs.Checked.{broken_at}
use Rattle.sv_names.specs.Expressions.{target, target_in, targets_in, as_expr, as_exprs, hidden_in_spots}
use Rattle.sv_names.specs.Named.{Around, behind}
use Rattle.sv_names.specs.Targets.{Spot}
use Rattle.sv_elab_flow.proofs.Left.{first_left}

-- one that can be a target
pub written : (h : How) (ar : Around) (l : tree.Lval) (c : Checked (List Spot)) → target_in h ar (as_expr l) ≡ Some c → target h ar l ≡ c
written h ar l c is = search rules

-- one that can be none
pub unwritten : (h : How) (ar : Around) (l : tree.Lval) → target_in h ar (as_expr l) ≡ None → target h ar l ≡ broken_at 18 (place_of_lval l)
unwritten h ar (tree.Lval.Post r s) is = search rules
unwritten h ar (tree.Lval.Join at ls) is = search rules

-- one part further
pub targets_next : (h : How) (ar next : Around) (ls : List Lval) (i : ℕ) (l : Lval) (t : Option (Checked (List Spot)))
    (done whole : List (Option (Checked (List Spot)))) → i < length ls → get_or ls i l ≡ l → t ≡ target_in h ar (as_expr (lval l))
    → next ≡ behind (hidden_in_spots t) ar → done ++ targets_in h ar (as_exprs (lval_list (drop i ls))) ≡ whole
    → (done ++ t ∷ []) ++ targets_in h next (as_exprs (lval_list (drop (i + 1) ls))) ≡ whole
targets_next h ar next ls i l t done whole within is of_target of_next so_far =
    let rest : tree.Exprs = as_exprs (lval_list (drop (i + 1) ls)) in
    let with_target : Option (Checked (List Spot)) → List (Option (Checked (List Spot))) =
    λ x. done ++ x ∷ targets_in h (behind (hidden_in_spots x) ar) rest in
    append_assoc done (t ∷ []) (targets_in h next rest)
    ∙ ap (λ (j : Around). done ++ t ∷ targets_in h j rest) of_next
    ∙ ap with_target of_target
    ∙ sym (ap (λ (xs : List Lval). done ++ targets_in h ar (as_exprs (lval_list xs))) (first_left ls i l within is)) ∙ so_far
