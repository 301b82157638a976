use Rattle.std.proofs.Common.{rules, ◌≡◌, ◌∙◌, ap}
use Rattle.std.specs.Prelude.{slice_set}
use Rattle.sv_value.specs.declared.val.Val.{Val}
use Rattle.sv_store.proofs.SlotLemmas.{set-changed_to}
use Rattle.sv_store.proofs.slot.replace_at.Goals as goal

pub returns-clause-new : goal.returns-clause-new
returns-clause-new c =
    let is : c.replace.new.dest ≡ c.args.value = search rules in
    ap (λ (v : Val). slice_set c.args.elements.now.items c.args.i v) is ∙ set-changed_to c.args.elements.now.items c.args.i c.args.value
