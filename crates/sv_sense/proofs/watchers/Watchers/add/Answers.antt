use Rattle.std.proofs.Common.{rules, ◌≡◌, ◌∙◌, true, false, List, ap, sym, subst}
use Rattle.std.specs.Prelude.{slice_get, insert}
use Rattle.sv_value.specs.declared.number.ProcessId.{ProcessId}
use Rattle.sv_flat.specs.Effects.{is_in}
use Rattle.sv_sense.specs.Watchers.{is_this, place_of}
use Rattle.sv_sense.proofs.WatcherLaws.{found, kept_inserted, put_in}
use Rattle.sv_sense.proofs.watchers.Watchers.add.Goals as goal

pub returns-then-is_at-clause-ok : goal.returns-then-is_at-clause-ok
returns-then-is_at-clause-ok c =
    let p = c.args.process in
    let i = c.place_of-place.result in
    let at : is_this p (slice_get c.args.self.now i) ≡ true =
    ap (λ (ps : List ProcessId). is_this p (slice_get ps i)) (sym c.as_slice-2.ensures.items) ∙ sym c.is_at.ensures ∙ c.if-is_at.true in
    found p c.args.self.now i at

pub invariant_of-self-2 : goal.invariant_of-self-2
invariant_of-self-2 c =
    let p = c.args.process in
    let ps = c.args.self.now in
    let i = c.place_of-place.result in
    let at : is_this p (slice_get ps i) ≡ false =
    ap (λ (ps : List ProcessId). is_this p (slice_get ps i)) (sym c.as_slice-2.ensures.items) ∙ sym c.is_at.ensures ∙ c.if-is_at.false in
    let place : i ≡ place_of p ps = c.place_of-place.ensures.value ∙ ap (place_of p) c.as_slice.ensures.items in
    let new : c.insert.new.self.items ≡ insert ps i p = search rules in
    put_in p ps c.insert.new.self.items i c.as_slice.ensures.ascends place at new

pub returns-clause-kept : goal.returns-clause-kept
returns-clause-kept c = λ q h.
    let p = c.args.process in
    let ps = c.args.self.now in
    let i = c.place_of-place.result in
    let new : c.insert.new.self.items ≡ insert ps i p = search rules in
    subst (λ (us : List ProcessId). is_in q us ≡ true) (sym new) (kept_inserted p ps i q h)
