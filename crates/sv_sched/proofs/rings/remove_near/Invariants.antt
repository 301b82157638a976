use Rattle.std.proofs.Common.{ℕ, ◌≡◌, ◌<◌, ◌≤◌, [], length, filter, get_or}
use Rattle.sv_flat.specs.Effects.Ends.{not_due_to}
use Rattle.sv_sched.proofs.rings.remove_near.Given as goal

-- the rings before the index have lost what resumes the process
abbrev pub invariant-loop-i : goal.invariant-loop-i
invariant-loop-i l = record {
  count : length l.rings.items ≡ length l.initial.rings.items;
  done : (j : ℕ) → j < l.i → get_or l.rings.items j [] ≡ filter (not_due_to l.process) (get_or l.initial.rings.items j []);
  rest : (j : ℕ) → l.i ≤ j → get_or l.rings.items j [] ≡ get_or l.initial.rings.items j [];
}
