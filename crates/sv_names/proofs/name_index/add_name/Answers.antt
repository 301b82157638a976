use Rattle.std.proofs.Common.{sym, ◌∙◌}
use Rattle.sv_names.proofs.IndexLemmas.{stays, grows}
use Rattle.sv_names.proofs.name_index.add_name.Goals as goal

pub returns-then-contains_key : goal.returns-then-contains_key
returns-then-contains_key c = λ ns long is. stays c.args.index.now ns c.args.name.now is (sym c.contains_key.ensures ∙ c.if-contains_key.true)

pub returns : goal.returns
returns c = λ ns long is.
    grows c.args.index.now ns c.args.name.now is c.insert.new.self c.in_ok-key.key c.args.position c.in_ok-key.ensures.items long
    (sym c.contains_key.ensures ∙ c.if-contains_key.false) c.in_ok-insert.ensures.updates
