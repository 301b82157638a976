use Rattle.std.proofs.Common.{rules, ◌≡◌, ℕ, List, sym, subst}
use Rattle.sv_tree.specs.declared.expr.CastType.{CastType}
use Rattle.sv_tree.specs.declared.expr.CastType.TheVariants as to
use Rattle.sv_names.specs.Expressions.{cast_of}
use Rattle.sv_names.specs.Views.{around_in}
use Rattle.sv_names.specs.Given.{Gives}
use Rattle.sv_elab_thing.specs.Casts.{sized_by, width_written}
use Rattle.sv_elab_thing.proofs.conversions.cast.Goals as goal

pub returns-in-Vector : goal.returns-in-Vector
returns-in-Vector c x h =
    let ar = around_in c.args.around.now in
    let is : c.args.to.now ≡ to.Vector c.in-Vector.field-0 c.in-Vector.word = search rules in
    subst (λ (t : CastType). Gives c.to_bit.result (cast_of ar t c.args.place c.args.at x)) (sym is) (c.to_bit.ensures ar x h)

pub returns-in-Atom : goal.returns-in-Atom
returns-in-Atom c x h =
    let ar = around_in c.args.around.now in
    let is : c.args.to.now ≡ to.Atom c.in-Atom.field-0 c.in-Atom.word = search rules in
    subst (λ (t : CastType). Gives c.to_atom.result (cast_of ar t c.args.place c.args.at x)) (sym is) (c.to_atom.ensures ar x h)

pub returns-in-Width : goal.returns-in-Width
returns-in-Width c x h =
    let ar = around_in c.args.around.now in
    let w = c.in-Width.written in
    let P : List ℕ → Type 0 = λ text. Gives c.to_width.result (sized_by c.args.place c.args.at (width_written w text) x) in
    let is : c.args.to.now ≡ to.Width w c.in-Width.text = search rules in
    subst (λ (t : CastType). Gives c.to_width.result (cast_of ar t c.args.place c.args.at x)) (sym is)
    (subst P c.bytes.ensures (c.to_width.ensures x h))

pub returns-in-Named : goal.returns-in-Named
returns-in-Named c x h =
    let ar = around_in c.args.around.now in
    let is : c.args.to.now ≡ to.Named c.in-Named.name = search rules in
    subst (λ (t : CastType). Gives c.to_name.result (cast_of ar t c.args.place c.args.at x)) (sym is) (c.to_name.ensures x h)
