use Rattle.std.proofs.Common.{rules, ◌≡◌, ◌∙◌, ap}
use Rattle.sv_tree.specs.declared.expr.Suffix.{the_lemmas}
use Rattle.sv_tree.specs.Expr as tree
use Rattle.sv_tree.specs.View.{expr, suffix}
use Rattle.sv_elab_expr.specs.Walk.{stepped}
use Rattle.sv_elab_touch.specs.Touched.{is_value}
use Rattle.sv_elab_touch.proofs.QuietLaws.{value_behind}
use Rattle.sv_elab_touch.proofs.quiet.by_number.Goals as goal

pub returns-in-Select-clause-value : goal.returns-in-Select-clause-value
returns-in-Select-clause-value c = λ ar pe th rest is.
    let whole : suffix c.args.suffix.now rest ≡ tree.Select c.in-Select.field-0 (expr c.deref.result.now) rest = search (rules, the_lemmas) in
    ap (λ s. is_value (stepped ar pe th s)) whole ∙ value_behind _ th _

pub returns-in-Part-clause-value : goal.returns-in-Part-clause-value
returns-in-Part-clause-value c = λ ar pe th rest is.
    let whole : suffix c.args.suffix.now rest ≡ tree.Part c.in-Part.at c.in-Part.word (expr c.deref-in-Part.result.now) (expr c.in-Part.right.value) rest = search (rules, the_lemmas) in
    ap (λ s. is_value (stepped ar pe th s)) whole ∙ value_behind _ th _
