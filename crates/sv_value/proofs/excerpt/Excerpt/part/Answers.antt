use Rattle.std.proofs.Common.{ap}
use Rattle.sv_value.proofs.ExcerptLaws.{part_of_part}
use Rattle.sv_value.proofs.excerpt.Excerpt.part.Goals as goal

pub returns : goal.returns
returns c =
    part_of_part c.self.inside.start c.args.start c.args.len c.self.inside.len _ _ _ c.self.view_is (ap (λ v. v.items) c.in_ok-clone.ensures.cases) c.requires
