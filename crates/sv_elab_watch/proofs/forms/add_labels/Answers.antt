use Rattle.std.proofs.Common.{◌∷◌, ◌∙◌, List, length, refl, sym, ap, subst}
use Rattle.std.specs.List.{between}
use Rattle.std.proofs.lemmas.Slice.{first_rest}
use Rattle.std.specs.Prelude.{flat_map}
use Rattle.sv_flat.specs.declared.stmt.CaseItem.{CaseItem}
use Rattle.sv_flat.specs.Expr.{Expr}
use Rattle.sv_elab_watch.specs.Reading.{Read}
use Rattle.sv_elab_watch.proofs.ReadLaws.{turn_read}
use Rattle.sv_elab_watch.proofs.forms.add_labels.Goals as goal

pub loop-left-preserved : goal.loop-left-preserved
loop-left-preserved c =
    let rest = between 1 (length c.loop-left.left.now) c.loop-left.left.now in
    let all = first_rest c.loop-left.left.now c.one-item.result c.in-len1-up.len_at_least ∙ ap (λ p. p ∷ rest) (sym c.one-item.is) in
    turn_read (λ (is : List CaseItem). flat_map (λ a. a.labels) is)
    c.one-item.result.labels c.args.depth c.loop-left.left.now rest c.one-item.result
    c.loop-left.list c.add_all.new.list all refl
    (subst (λ (es : List Expr). Read c.args.depth c.loop-left.list c.add_all.new.list es) c.as_slice.ensures c.in_ok-add_all.ensures)
    ∙ c.loop-left.invariant
