-- What is said to words without a meaning, and on the files that words ask for.
use Rattle.std.proofs.Common.{rules, refl}
use Rattle.std.specs.Prelude.{codes}
use Rattle.sv_kernel.proofs.RunLemmas.{nothing_put}
use Rattle.sv_simulate.specs.Said.{usage}
use Rattle.sv_simulate.specs.Simulated.{texts}
use Rattle.sv_simulate.proofs.SaidLemmas.{all_of}
use Rattle.sv_simulate.proofs.answer.answer.Goals as goal

pub returns-in-Ok-Run : goal.returns-in-Ok-Run
returns-in-Ok-Run g c = c.run_files.ensures (texts c.args.words.now) (search rules)

pub returns-in_ok-usage_line-in-Err-Usage : goal.returns-in_ok-usage_line-in-Err-Usage
returns-in_ok-usage_line-in-Err-Usage g c = record {
  said = λ _. (_, usage (search rules), nothing_put _, c.in_ok-usage_line-in-Err-Usage.ensures, refl);
  not_read = search rules;
  shelf = search rules;
  put = search rules;
  memory = λ e. absurd (cc e);
  all = all_of c.args.limits (texts c.args.words.now) (g.F.Shelf.files c.args.shelf.now) _ _ (g.O.Sink.bytes c.args.out.now) _ (usage (search rules))
      c.in_ok-usage_line-in-Err-Usage.ensures (nothing_put _);
  closed = record {
    own = search rules;
    is_line = (codes "bad command line", c.in_ok-usage_line-in-Err-Usage.ensures);
    cause = λ h. absurd (cc h);
    only_cause = λ _. refl;
  };
}
