-- The design with what each `always_comb` watches.
use Rattle.std.proofs.Common.{◌∙◌, ap}
use Rattle.sv_names.specs.Design.{parts_from, watching}
use Rattle.sv_elab_design.proofs.elaborating.finished.Goals as goal

pub returns : goal.returns
returns c = λ gs given.
    c.in_ok-watched.ensures
    ∙ ap watching (c.in_ok-parts.ensures ∙ (λ j. parts_from c.args.scale (c.in_ok-instances.ensures j) c.args.places (given.so_far j)))
