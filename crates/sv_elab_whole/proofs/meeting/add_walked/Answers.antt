-- One step after another.
use Rattle.std.proofs.Common.{rules, ◌≡◌, ◌∷◌, ◌++◌, ◌∙◌, map, length, sym, ap, append-nil}
use Rattle.std.specs.List.{between}
use Rattle.std.proofs.lemmas.List.{nil_from_length}
use Rattle.std.proofs.lemmas.Slice.{first_rest}
use Rattle.sv_names.specs.Items.{around_inst}
use Rattle.sv_names.specs.Sources.{met}
use Rattle.sv_names.specs.Views.{around_in}
use Rattle.sv_elab_walk.specs.Insts.{walked_in}
use Rattle.sv_elab_writers.specs.Views.{met_in}
use Rattle.sv_elab_whole.proofs.MeetLaws.{turn_met}
use Rattle.sv_elab_whole.proofs.meeting.add_walked.Goals as goal

pub loop-left-preserved : goal.loop-left-preserved
loop-left-preserved c = λ us.
    let at_inst = around_inst us (around_in c.args.files.now) in
    let rest = between 1 (length c.loop-left.left.now) c.loop-left.left.now in
    let whole = first_rest c.loop-left.left.now c.one-item.result c.in-len1-up.len_at_least ∙ ap (λ p. p ∷ rest) (sym c.one-item.is) in
    turn_met at_inst c.loop-left.mets c.push.new.self c.in_ok-met_walked.field-0 c.one-item.result rest c.in_ok-push.ensures.ok (c.in_ok-met_walked.ensures us)
    ∙ ap (λ ws. map met_in c.loop-left.mets ++ map (met at_inst) (map walked_in ws)) (sym whole)
    ∙ c.loop-left.invariant us

pub returns : goal.returns
returns c = λ us.
    let at_inst = around_inst us (around_in c.args.files.now) in
    let none : length c.loop-left.left.now ≡ 0 = search rules in
    let nothing = nil_from_length c.loop-left.left.now none in
    sym (append-nil (map met_in c.loop-left.mets))
    ∙ sym (ap (λ ws. map met_in c.loop-left.mets ++ map (met at_inst) (map walked_in ws)) nothing)
    ∙ c.loop-left.invariant us
