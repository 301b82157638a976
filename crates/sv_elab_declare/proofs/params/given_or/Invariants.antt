use Rattle.std.proofs.Common.{◌≡◌, drop}
use Rattle.sv_names.specs.Instances.{given_or}
use Rattle.sv_elab_scope.specs.Views.{source_in}
use Rattle.sv_elab_declare.specs.Given.{givens_in}
use Rattle.sv_elab_declare.proofs.params.given_or.Given as goal

abbrev pub invariant-loop-given : goal.invariant-loop-given
invariant-loop-given l =
    given_or (source_in l.own) l.name (givens_in (drop l.given-index l.givens)) ≡ given_or (source_in l.own) l.name (givens_in l.givens)
