-- A net is counted at its mark, or stands among the others.
use Rattle.std.proofs.Common.{ℕ, Some, cond, sym, ap, subst, ◌∙◌, ◌++◌, ◌∷◌, [], List, is_some}
use Rattle.std.specs.Ordering.{nat_cmp}
use Rattle.std.specs.BTreeMap.{BTreeMap, get, is_at}
use Rattle.sv_names.specs.Types.{Path, same_path}
use Rattle.sv_elab_drives.specs.Counts.{CountsOf}
use Rattle.sv_elab_drives.specs.declared.counts.Counted.{Counted}
use Rattle.sv_elab_drives.proofs.CountLaws.{counted_again, counted_first, counted_beside}
use Rattle.sv_elab_drives.proofs.counts.count.Goals as goal

pub returns-then-same_path : goal.returns-then-same_path
returns-then-same_path c =
    let w = c.count_again.new.counted in
    let found = sym c.in-Some.ensures.value in
    let p = c.args.net.now in
    let same = ap (same_path p) (sym c.as_slice.ensures) ∙ sym c.same_path.ensures ∙ c.if-same_path.true in
    counted_again c.args.counts.now (c.get_mut.follows.lender w) p c.mark_of-mark.result c.mark_of-mark.ensures c.in-Some.counted.now
    found same
    (λ m. ((c.get_mut.follows.holds w).3 (ap is_some found)).0 m
    ∙ ap (λ (x : Counted). cond (is_at (nat_cmp c.mark_of-mark.result) m) (Some x) (get nat_cmp c.args.counts.now m)) c.in_ok-count_again.ensures)
    c.args.others.now

pub returns-in-Some : goal.returns-in-Some
returns-in-Some c ps is =
    let old = c.in-Some.counted.now in
    let p = c.args.net.now in
    subst (λ (os : List Path). CountsOf (c.get_mut.follows.lender old) os (ps ++ p ∷ []))
    (sym (c.in_ok-push.ensures.ok ∙ ap (λ (q : Path). c.args.others.now ++ q ∷ []) c.in_ok-net.ensures))
    (counted_beside c.args.counts.now (c.get_mut.follows.lender old) p c.mark_of-mark.result c.mark_of-mark.ensures old
    (sym c.in-Some.ensures.value) (c.get_mut.follows.holds old).0 c.args.others.now ps is)

pub returns : goal.returns
returns c ps is =
    let before = c.get_mut.follows.lender-at-none in
    let same = c.get_mut.follows.holds-at-none in
    let none = ap (λ (m : BTreeMap ℕ Counted). get nat_cmp m c.mark_of-mark.result) same ∙ sym c.in_default.ensures.value in
    counted_first before c.count_first.new.counts c.args.net.now c.mark_of-mark.result c.mark_of-mark.ensures none
    c.in_ok-count_first.ensures.0 c.args.others.now ps
    (subst (λ (m : BTreeMap ℕ Counted). CountsOf m c.args.others.now ps) (sym same) is)
