use Rattle.std.proofs.Common.{arith, ap, length, ◌≡◌, List, get_or, ◌∙◌, sym}
use Rattle.std.specs.Prelude.{if◌then◌else◌, ◌==◌}
use Rattle.std.specs.Bool.{IsTrue}
use Rattle.sv_value.specs.declared.val.Val.{Val}
use Rattle.sv_flat.specs.State.{no_value}
use Rattle.sv_store.proofs.SlotLemmas.{length-changed_at, put_same, put_over, get_or-any}
use Rattle.sv_store.proofs.slot.put_element.Goals as goal

pub index-requires : goal.index-requires
index-requires c =
    omega (arith, ap length c.replace_at-old.ensures.new, length-changed_at c.args.elements.now.items c.args.i (λ _. c.args.value))

pub returns-then-equals-clause-none : goal.returns-then-equals-clause-none
returns-then-equals-clause-none c j =
    let here : c.index.result.now ≡ get_or c.replace_at-old.new.elements.items c.args.i no_value =
    get_or-any c.replace_at-old.new.elements.items c.args.i c.index.result.now no_value (omega (arith, ap length c.replace_at-old.ensures.new, length-changed_at c.args.elements.now.items c.args.i (λ _. c.args.value))) c.index.ensures in
    let same : get_or c.args.elements.now.items c.args.i no_value ≡ c.args.value =
    sym c.replace_at-old.ensures.old ∙ c.equals.ensures.0 c.if-equals.true ∙ here ∙ c.replace_at-old.ensures.now in
    ap (λ (vs : List Val). get_or vs j no_value) c.replace_at-old.ensures.new ∙ put_same c.args.elements.now.items c.args.i c.args.value j same

pub returns-else-equals-clause-some : goal.returns-else-equals-clause-some
returns-else-equals-clause-some c j =
    put_over c.args.elements.now.items c.args.i c.args.value j
    ∙ (λ i. if j == c.args.i then sym c.replace_at-old.ensures.old i else get_or (sym c.replace_at-old.ensures.new i) j no_value)

pub returns-else-equals-clause-differs : goal.returns-else-equals-clause-differs
returns-else-equals-clause-differs c e =
    let here : c.index.result.now ≡ get_or c.replace_at-old.new.elements.items c.args.i no_value =
    get_or-any c.replace_at-old.new.elements.items c.args.i c.index.result.now no_value (omega (arith, ap length c.replace_at-old.ensures.new, length-changed_at c.args.elements.now.items c.args.i (λ _. c.args.value))) c.index.ensures in
    let equal : IsTrue c.equals.result = c.equals.ensures.1 (e ∙ sym here) in
    absurd (cc)
