use Rattle.std.proofs.Common.{sym, ◌∙◌}
use Rattle.sv_names.proofs.IndexLemmas.{set-stays, set-grows}
use Rattle.sv_names.proofs.name_set.NameSet.add.Goals as goal

pub returns-then-contains_key : goal.returns-then-contains_key
returns-then-contains_key c = set-stays c.args.self.now c.args.name.now (sym c.contains_key.ensures ∙ c.if-contains_key.true)

pub returns : goal.returns
returns c =
    set-grows c.args.self.now c.args.name.now (record { names = c.insert.new.self }) c.in_ok-key.key 0 c.in_ok-key.ensures.items c.in_ok-insert.ensures.updates
