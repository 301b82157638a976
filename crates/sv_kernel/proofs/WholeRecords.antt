-- What was put before memory ran out: records, each whole.
use Rattle.std.proofs.Common.{ℕ, ◌≡◌, ◌≤◌, true, List, [], ◌∷◌, ◌++◌, Option, refl, ap, subst, sym, ◌∙◌, append_assoc, length, take, drop}
use Rattle.std.proofs.lemmas.List.{append-nil, drop_at, map-append, take-append-drop}
use mathlib.Core.List.{IsPrefix}
use Rattle.sv_io.specs.Outside.{appended}
use Rattle.sv_flat.specs.Config.{Config}
use Rattle.sv_flat.specs.Directed.{directed, log_of}
use Rattle.sv_flat.proofs.Prefix.{log-append, shorter_records}
use Rattle.sv_machine.specs.declared.line.Line.{Line}
use Rattle.sv_kernel.specs.Kernel.{KernelState, config_of, log_between, PutsRecords}
use Rattle.sv_machine.specs.Log.{record_of, records_of}
use Rattle.sv_kernel.specs.Log.{texts_of}
use Rattle.sv_kernel.proofs.RunLemmas.{appended-appended, nothing_put}

-- the bytes of the records of lines are their texts
log_of_lines : (ls : List Line) → log_of true (records_of ls) ≡ texts_of ls
log_of_lines [] = refl
log_of_lines (l ∷ ls) = ap (λ u. l.text ++ u) (log_of_lines ls)

-- where nothing was put, no record was
pub no_records : (k p : KernelState) (b : Option (List ℕ)) → config_of p ≡ config_of k → PutsRecords k p b b
no_records k p b e =
    let all : ((config_of k).records ++ []) ++ [] ≡ (config_of p).records =
    append-nil ((config_of k).records ++ []) ∙ append-nil (config_of k).records ∙ ap (λ (c : Config). c.records) (sym e) in
    ([], ([], all), nothing_put b)

-- the first lines of a step
pub lines_put : (k p : KernelState) (ls : List Line) (n : ℕ) (b0 b1 : Option (List ℕ)) → (config_of p).records ≡ (config_of k).records ++ records_of ls
    → b1 ≡ appended b0 (texts_of (take n ls)) → PutsRecords k p b0 b1
lines_put k p ls n b0 b1 e f =
    let before = (config_of k).records in
    let put = records_of (take n ls) in
    let left = records_of (drop n ls) in
    let whole : put ++ left ≡ records_of ls = sym (map-append record_of (take n ls) (drop n ls)) ∙ ap records_of (take-append-drop n ls) in (
      put,
      (left, append_assoc before put left ∙ ap (λ u. before ++ u) whole ∙ sym e),
      f ∙ ap (appended b0) (sym (log_of_lines (take n ls))),
    )

-- all records of the steps before, and then the first of one more
pub records_more : (k m p : KernelState) (b0 b1 b2 : Option (List ℕ)) → config_of m ≡ directed k.design k.active k.reactive m.steps → k.steps ≤ m.steps
    → b1 ≡ appended b0 (log_between (config_of k) (config_of m)) → PutsRecords m p b1 b2 → PutsRecords k p b0 b2
records_more k m p b0 b1 b2 at later put more =
    let before = (config_of k).records in
    let grown : IsPrefix before (config_of m).records =
    subst (λ (c : Config). IsPrefix before c.records) (sym at) (shorter_records k.design k.active k.reactive k.steps m.steps later) in
    let steps = grown.0 in
    let rs = more.0 in
    let log : log_between (config_of k) (config_of m) ≡ log_of true steps =
    ap (λ u. drop (length (log_of true before)) (log_of true u)) (sym grown.1) ∙ ap (drop (length (log_of true before))) (log-append true before steps)
    ∙ drop_at (log_of true before) (log_of true steps) (length (log_of true before)) refl in (
      steps ++ rs,
      (more.1.0, ap (λ u. u ++ more.1.0) (sym (append_assoc before steps rs) ∙ ap (λ u. u ++ rs) grown.1) ∙ more.1.1),
      more.2 ∙ ap (λ u. appended u (log_of true rs)) (put ∙ ap (appended b0) log) ∙ appended-appended b0 (log_of true steps) (log_of true rs)
          ∙ ap (appended b0) (sym (log-append true steps rs)),
    )
