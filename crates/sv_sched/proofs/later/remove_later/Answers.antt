use Rattle.std.proofs.Common.{ℕ, ◌≡◌, List, filter, map, rules}
use Rattle.std.proofs.lemmas.Map.Made.{map_same_pairs, filter_same_pairs}
use Rattle.sv_value.specs.declared.schedule.Event.{Event}
use Rattle.sv_flat.specs.Effects.Ends.{not_due_to}
use Rattle.sv_sched.proofs.MapLemmas.{is_filled, lookup_left}
use Rattle.sv_sched.proofs.later.remove_later.Goals as goal

pub returns : goal.returns
returns c = λ t.
    (let fewer : c.retain.new.self.entries ≡ map (λ (e : ℕ × List Event). (e.0, filter (not_due_to c.args.process) e.1)) c.args.later.now.entries =
    map_same_pairs _ (filter (not_due_to c.args.process)) _ (λ k v b w f' t. search rules) _ _ c.retain.ensures.filtered in
    let filled : c.retain-2.new.self.entries ≡ filter (λ (e : ℕ × List Event). is_filled e.1) c.retain.new.self.entries =
    filter_same_pairs _ (λ (e : ℕ × List Event). is_filled e.1) _ (λ k v b w f' t. search rules) _ _ c.retain-2.ensures.filtered in
    lookup_left c.args.process t c.args.later.now.entries c.retain.new.self.entries c.retain-2.new.self.entries fewer filled c.retain-2.ensures.was_ordered)
