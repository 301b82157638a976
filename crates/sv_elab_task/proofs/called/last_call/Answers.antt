use Rattle.std.proofs.Common.{rules, ap}
use Rattle.std.proofs.lemmas.List.{nil_from_length}
use Rattle.sv_tree.specs.declared.expr.Suffix.{the_lemmas as suffix_lemmas}
use Rattle.sv_tree.specs.View.{expr_list, exprs_are}
use Rattle.sv_elab_task.proofs.CallLaws.{is_call, ends_with_call, ends_bare, none_follows}
use Rattle.sv_elab_task.proofs.called.last_call.Goals as goal

pub returns-in-None-clause-bare : goal.returns-in-None-clause-bare
returns-in-None-clause-bare c = none_follows c.args.suffixes.now (nil_from_length c.args.suffixes.now c.in-None.ensures.cases)

pub returns-in-Call-clause-call : goal.returns-in-Call-clause-call
returns-in-Call-clause-call c =
    ends_with_call c.args.suffixes.now c.in-Some.front.now c.in-Some.last.now c.in-Call.field-0 (expr_list c.as_slice.result.now)
    c.in-Some.ensures.cases.0 (search (rules, suffix_lemmas, exprs_are))

pub returns-in-Member-clause-bare : goal.returns-in-Member-clause-bare
returns-in-Member-clause-bare c =
    ends_bare c.args.suffixes.now c.in-Some.front.now c.in-Some.last.now c.in-Some.ensures.cases.0 (ap is_call c.in-Member.is)

pub returns-in-Select-clause-bare : goal.returns-in-Select-clause-bare
returns-in-Select-clause-bare c =
    ends_bare c.args.suffixes.now c.in-Some.front.now c.in-Some.last.now c.in-Some.ensures.cases.0 (search (rules, suffix_lemmas))

pub returns-in-Part-clause-bare : goal.returns-in-Part-clause-bare
returns-in-Part-clause-bare c =
    ends_bare c.args.suffixes.now c.in-Some.front.now c.in-Some.last.now c.in-Some.ensures.cases.0 (search (rules, suffix_lemmas))
