use Rattle.std.proofs.Common.{◌≡◌, ◌+◌, set, reverse, length, OnOk, subst, sym, ◌∙◌, arith}
use Rattle.sv_stack.specs.Frames.{ends_of, passed}
use Rattle.sv_stack.proofs.PassLemmas.{ends_kept, moved_on}
use Rattle.sv_stack.proofs.frames.Frames.pass_place.Goals as goal
use Rattle.sv_stack.proofs.frames.Frames.pass_place.Goals.{in-Some-get_mut, in-None}

pub invariant_of-self : goal.invariant_of-self
invariant_of-self c = elim c.match-get_mut.branch [
  | in-Some-get_mut w ↦
      (let last : length c.self.inside.stack.items ≡ c.in-Some.last + 1 = omega (arith, c.in-Some.ensures, c.len.ensures.value) in
      subst (λ s. s.calls ≡ ends_of (reverse s.stack.items)) (sym w.self-inside-is)
      (c.self.invariant ∙ ends_kept c.self.inside.stack.items c.in-Some.last w.in-Some-get_mut.frame.now w.pass.new.frame last w.in-Some-get_mut.ensures.value w.pass.ensures.ends))
  | in-None w ↦ subst (λ s. s.calls ≡ ends_of (reverse s.stack.items)) (sym w.self-inside-is) c.self.invariant
]

pub returns-clause-passed : goal.returns-clause-passed
returns-clause-passed c = elim c.match-get_mut.branch [
  | in-Some-get_mut w ↦
      (let last : length c.self.inside.stack.items ≡ c.in-Some.last + 1 = omega (arith, c.in-Some.ensures, c.len.ensures.value) in
      let items = c.self.inside.stack.items in
      let moved = moved_on w.pass.result items c.in-Some.last w.in-Some-get_mut.frame.now w.pass.new.frame last w.in-Some-get_mut.ensures.value w.pass.ensures.passed in
      subst (λ v. OnOk c.match-get_mut.result (reverse c.match-get_mut.self-inside.stack.items ≡ passed v)) c.self.view_is
      (subst (λ s. OnOk c.match-get_mut.result (reverse s.stack.items ≡ passed (reverse items))) (sym w.self-inside-is)
      (subst (λ r. OnOk r (reverse (set items c.in-Some.last w.pass.new.frame) ≡ passed (reverse items))) (sym w.result-is) moved)))
  | in-None w ↦ absurd (omega (arith, c.in-Some.ensures, c.len.ensures.value, w.in-None.ensures.item.3))
]
