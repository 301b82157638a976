use Rattle.std.proofs.Common.{sym, ap, subst, ◌∙◌}
use Rattle.sv_names.specs.Index.{IsIndexOf, names_of, places_from, some_block}
use Rattle.sv_names.proofs.IndexLemmas.{names_of-with_values}
use Rattle.sv_names.proofs.declarations.Declarations.with_values.Goals as goal

pub invariant_of-result : goal.invariant_of-result
invariant_of-result c =
    let same = ap names_of c.in_ok-items.ensures ∙ names_of-with_values c.self.inside.items c.args.values in
    (subst (λ ns. IsIndexOf c.self.inside.index ns) (sym same) c.self.invariant.0, c.in_ok-places.ensures ∙ ap (places_from 0) c.as_slice.ensures, c.has_block-has_block.ensures ∙ ap some_block c.as_slice-2.ensures)
