-- What is put by a run that was cut short, and clauses on results.
use Rattle.std.proofs.Common.{ℕ, ◌≡◌, ◌≤◌, ◌≢◌, List, [], ◌++◌, Option, Result, Ok, Err, true, false, refl, ap, subst, sym, ◌∙◌, arith, inl, inr}
use Rattle.std.specs.Prelude.{max, IfOk, codes}
use Rattle.std.proofs.lemmas.List.{append_assoc, append-nil}
use mathlib.Core.List.{IsPrefix}
use Rattle.sv_io.specs.Outside.{appended, AppendsPrefix}
use Rattle.sv_flat.specs.declared.choices.Choices.TheVariants.{Listed}
use Rattle.sv_flat.specs.declared.design.Parts.{Parts}
use Rattle.sv_flat.specs.Config.{Config, Record}
use Rattle.sv_flat.specs.Directed.{directed, log_of, log_text}
use Rattle.sv_flat.proofs.Prefix.{prefix_more, shorter_log, shorter_records}
use Rattle.sv_kernel.specs.declared.outcome.Outcome.{Outcome}
use Rattle.sv_kernel.specs.declared.outcome.Outcome.TheVariants as outcome
use Rattle.sv_kernel.specs.Kernel.{KernelState, config_of, log_between, PutsRecords}
use Rattle.sv_kernel.specs.Outcomes.{IsWhole}
use Rattle.sv_kernel.proofs.WholeRecords.{no_records, records_more}
use Rattle.sv_kernel.proofs.RunLemmas.{appended-appended, nothing_put}
use Rattle.sv_words.specs.declared.words.Limits.{Limits}
use Rattle.sv_simulate.specs.Said.{Said, Files, too_long, refused, runs, Says, usage, on_texts, run_of, line, IsLine, IsPrefixOfLine}
use Rattle.sv_simulate.specs.Simulated.{IsPrefixOfRecords, AreRecords, IsAllSaid, whole, not_read, IsCut, IsOutOfMemory}

pub if_ok_all : {T E : Type 0} (r : Result T E) (P Q R S : T → Type 0) → ((x : T) → P x → Q x → R x → S x) → IfOk r P → IfOk r Q → IfOk r R → IfOk r S
if_ok_all (Ok x) P Q R S f p q s = f x p q s
if_ok_all (Err e) P Q R S f p q s = tt

-- a kernel that has not begun
abbrev pub fresh : List ℕ → Parts → KernelState
fresh active d = record { design = d; active = Listed active; reactive = Listed []; steps = 0; failed = false }

longer : (b0 b1 : Option (List ℕ)) (l m : List ℕ) → IsPrefix l m → AppendsPrefix b0 b1 l → AppendsPrefix b0 b1 m
longer b0 b1 l m p f = (f.0, (f.1.0 ++ p.0, sym (append_assoc f.0 f.1.0 p.0) ∙ ap (λ u. u ++ p.0) f.1.1 ∙ p.1), f.2)

pub prefix_of_run : (active : List ℕ) (d : Parts) (steps : ℕ) (k p : KernelState) (b0 b1 : Option (List ℕ)) → k ≡ fresh active d → p ≡ record k { steps = p.steps; failed = p.failed }
    → p.steps ≤ max steps k.steps → AppendsPrefix b0 b1 (log_between (config_of k) (config_of p)) → AppendsPrefix b0 b1 (log_text true (run_of active steps d))
prefix_of_run active d steps k p b0 b1 e f h front =
    let same : p ≡ record (fresh active d) { steps = p.steps; failed = p.failed } = let g : KernelState → KernelState = λ u. record u { steps = p.steps; failed = p.failed } in f ∙ ap g e in
    let zero : k.steps ≡ 0 = ap (λ (u : KernelState). u.steps) e in
    let le : p.steps ≤ steps = omega (arith, h, zero) in
    let at : log_between (config_of k) (config_of p) ≡ log_text true (directed d (Listed active) (Listed []) p.steps) =
    ap (λ (u : KernelState). log_between (config_of u) (config_of p)) e ∙ ap (λ (u : KernelState). log_text true (config_of u)) same in
    longer b0 b1 _ _ (shorter_log d (Listed active) (Listed []) true p.steps steps le) (subst (AppendsPrefix b0 b1) at front)

-- whole records of the run were put
abbrev pub PutsOfRun : (active : List ℕ) → Parts → (steps : ℕ) → (b0 b1 : Option (List ℕ)) → Type 0
PutsOfRun active d steps b0 b1 = (rs : List Record) × IsPrefix rs (run_of active steps d).records × (b1 ≡ appended b0 (log_of true rs))

-- no record was put
pub none_of_run : (active : List ℕ) (d : Parts) (steps : ℕ) (b : Option (List ℕ)) → PutsOfRun active d steps b b
none_of_run active d steps b = ([], ((run_of active steps d).records, refl), nothing_put b)

records_of_run : (active : List ℕ) (d : Parts) (steps : ℕ) (k p : KernelState) (b0 b1 : Option (List ℕ)) → k ≡ fresh active d → p ≡ record k { steps = p.steps; failed = p.failed }
    → p.steps ≤ max steps k.steps → PutsRecords k p b0 b1 → PutsOfRun active d steps b0 b1
records_of_run active d steps k p b0 b1 e f h put =
    let same : p ≡ record (fresh active d) { steps = p.steps; failed = p.failed } = let g : KernelState → KernelState = λ u. record u { steps = p.steps; failed = p.failed } in f ∙ ap g e in
    let zero : k.steps ≡ 0 = ap (λ (u : KernelState). u.steps) e in
    let le : p.steps ≤ steps = omega (arith, h, zero) in
    let at : config_of p ≡ directed d (Listed active) (Listed []) p.steps = ap config_of same in
    let begun : IsPrefix ((config_of (fresh active d)).records ++ put.0) (config_of p).records = subst (λ (u : KernelState). IsPrefix ((config_of u).records ++ put.0) (config_of p).records) e put.1 in
    let first : IsPrefix put.0 (directed d (Listed active) (Listed []) p.steps).records = subst (λ (c : Config). IsPrefix put.0 c.records) at begun in
    (put.0, prefix_more _ _ _ first (shorter_records d (Listed active) (Listed []) p.steps steps le), put.2)

-- where memory ran out in a run, or behind it, whole records of it were put
pub whole_records : (active : List ℕ) (d : Parts) (steps : ℕ) (k p : KernelState) (b0 b1 : Option (List ℕ)) → k ≡ fresh active d → p ≡ record k { steps = p.steps; failed = p.failed }
    → (k.steps ≤ p.steps) × (p.steps ≤ max steps k.steps) → (o : Outcome) → o ≢ outcome.LogFailed → (o ≡ outcome.Memory → PutsRecords k p b0 b1)
    → (IsWhole o → b1 ≡ appended b0 (log_between (config_of k) (config_of p))) → PutsOfRun active d steps b0 b1
whole_records active d steps k p b0 b1 e f h o other put log = records_of_run active d steps k p b0 b1 e f h.1 (by_outcome o other put log)
  where
    all : b1 ≡ appended b0 (log_between (config_of k) (config_of p)) → PutsRecords k p b0 b1
    all log = records_more k p p b0 b1 b1 (ap config_of f) h.0 log (no_records p p b1 refl)

    by_outcome : (o : Outcome) → o ≢ outcome.LogFailed → (o ≡ outcome.Memory → PutsRecords k p b0 b1) → (IsWhole o → b1 ≡ appended b0 (log_between (config_of k) (config_of p))) → PutsRecords k p b0 b1
    by_outcome outcome.Done other put log = all (log tt)
    by_outcome outcome.Spent other put log = all (log tt)
    by_outcome (outcome.Fault x) other put log = all (log tt)
    by_outcome outcome.LogFailed other put log = absurd (other refl)
    by_outcome outcome.Memory other put log = put refl

pub if_ok_only : {T E : Type 0} (r : Result T E) (P Q : T → Type 0) → ((x : T) → P x → Q x) → IfOk r P → IfOk r Q
if_ok_only (Ok x) P Q f p = f x p
if_ok_only (Err e) P Q f p = tt

-- what was put, and then a front of a line
module _ (P : List ℕ → Type 0) (b0 b1 b2 : Option (List ℕ)) (put : (records : List ℕ) × P records × (b1 ≡ appended b0 records)) where
  abbrev pub Fronts : Type 0
  Fronts = (records : List ℕ) × (rest : List ℕ) × P records × IsPrefixOfLine rest × (b2 ≡ appended b0 (records ++ rest))

  after : (rest : List ℕ) → IsPrefixOfLine rest → b2 ≡ appended b1 rest → Fronts
  after rest l e = (put.0, rest, put.1, l, e ∙ ap (λ u. appended u rest) put.2 ∙ appended-appended b0 put.0 rest)

  pub after_whole : (piece : List ℕ) → IsLine piece → b2 ≡ appended b1 piece → Fronts
  after_whole piece l e = after piece (l.0, ([], append-nil piece ∙ l.1)) e

  pub after_part : (piece : List ℕ) → IsLine piece → AppendsPrefix b1 b2 piece → Fronts
  after_part piece l f = after f.0 (l.0, (f.1.0, f.1.1 ∙ l.1)) f.2

  pub after_none : b2 ≡ b1 → Fronts
  after_none e = after [] ([], (line [], refl)) (e ∙ nothing_put b1)

-- ---- what a sink has that failed

all_said : (l : Limits) (words : List (List ℕ)) (files : Files) (said : Said) → Says l words files said → (closing : List ℕ) → closing ≡ said.closing
    → IsAllSaid l words files said.records closing
all_said l words files said says closing e = subst (IsAllSaid l words files said.records) (sym e) (whole says)

-- all the records that are to be put are whole
pub all_are_records : (l : Limits) (words : List (List ℕ)) (files : Files) (records closing : List ℕ) → IsAllSaid l words files records closing → AreRecords l words files records
all_are_records l words files records closing (whole (usage e)) = inl refl
all_are_records l words files records closing (whole (too_long a name text e t f h)) = inl refl
all_are_records l words files records closing (whole (on_texts a texts e f h (refused x n y))) = inl refl
all_are_records l words files records closing (whole (on_texts a texts e f h (runs d s))) =
    let c = run_of a.active a.steps d in
    inr (c, record { simulation = a; texts = texts; design = d; asks = e; has = f; short = h; source = s; run = refl }, c.records, ([], append-nil c.records), refl)
all_are_records l words files records closing (not_read name w) = inl refl

pub all_of : (l : Limits) (words : List (List ℕ)) (files : Files) (said : Said) (closing : List ℕ) (b c : Option (List ℕ)) → Says l words files said → closing ≡ said.closing
    → c ≡ appended b said.records → (records : List ℕ) × IsAllSaid l words files records closing × (c ≡ appended b records)
all_of l words files said closing b c says e put = (said.records, all_said l words files said says closing e, put)

module _ (l : Limits) (words : List (List ℕ)) (files : Files) (b0 b1 b2 : Option (List ℕ)) where
  two_puts : (records front : List ℕ) → b1 ≡ appended b0 records → b2 ≡ appended b1 front → b2 ≡ appended b0 (records ++ front)
  two_puts records front e f = f ∙ ap (λ u. appended u front) e ∙ appended-appended b0 records front

  pub cut_in_records : (put : (records : List ℕ) × IsPrefixOfRecords l words files records × (b1 ≡ appended b0 records)) → b2 ≡ b1 → IsCut l words files b0 b2
  cut_in_records put e = (put.0, [], two_puts put.0 [] put.2 (e ∙ nothing_put b1), inl (put.1, refl))

  pub cut_in_closing : (closing piece : List ℕ) → piece ≡ closing → (all : (records : List ℕ) × IsAllSaid l words files records closing × (b1 ≡ appended b0 records))
      → AppendsPrefix b1 b2 piece → IsCut l words files b0 b2
  cut_in_closing closing piece e all f = (all.0, f.0, two_puts all.0 f.0 all.2 f.2, inr (inl (closing, all.1, subst (IsPrefix f.0) e f.1)))

  pub cut_in_memory_line : (put : (records : List ℕ) × AreRecords l words files records × (b1 ≡ appended b0 records))
      → AppendsPrefix b1 b2 (line (codes "out of memory")) → IsCut l words files b0 b2
  cut_in_memory_line put f = (put.0, f.0, two_puts put.0 f.0 put.2 f.2, inr (inr (put.1, f.1)))

  pub no_memory_line : (put : (records : List ℕ) × AreRecords l words files records × (b1 ≡ appended b0 records)) → b2 ≡ b1 → IsOutOfMemory l words files b0 b2
  no_memory_line put e = (put.0, [], put.1, inl refl, two_puts put.0 [] put.2 (e ∙ nothing_put b1))

  pub no_closing : (closing : List ℕ) → (all : (records : List ℕ) × IsAllSaid l words files records closing × (b1 ≡ appended b0 records)) → b2 ≡ b1 → IsOutOfMemory l words files b0 b2
  no_closing closing all e = no_memory_line (all.0, all_are_records l words files all.0 closing all.1, all.2) e

  pub memory_line_put : (put : (records : List ℕ) × AreRecords l words files records × (b1 ≡ appended b0 records))
      → b2 ≡ appended b1 (line (codes "out of memory")) → IsOutOfMemory l words files b0 b2
  memory_line_put put e = (put.0, line (codes "out of memory"), put.1, inr refl, two_puts put.0 (line (codes "out of memory")) put.2 e)
