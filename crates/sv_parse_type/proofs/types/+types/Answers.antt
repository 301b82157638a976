use Rattle.std.proofs.Common.{rules, arith}
use Rattle.std.proofs.lemmas.Grind.{common_steps}
use Rattle.std.proofs.lemmas.Result.{err_from_is_err_and}
use Rattle.sv_tree.specs.Codes.{tok, toks}
use Rattle.sv_tree.specs.StmtView as view
use Rattle.sv_tree.specs.TypeGrammar.{mailbox_type}
use Rattle.sv_parse_type.proofs.Shapes.{has_one}
use Rattle.sv_parse_type.proofs.TypeLaws.{enum_based, base_fails, mailbox_item, type_deeper}
use Rattle.sv_parse_type.proofs.types.+types.Goals as goal

pub enum_type-returns-in_err-base : goal.enum_type-returns-in_err-base
enum_type-returns-in_err-base t c =
    let p = err_from_is_err_and c.from_residual-in_err-base.result c.from_residual-in_err-base.ensures.1 in
    rw (p.1, p.2) (base_fails c.in_ok-inner.inner c.args.budget (toks c.args.tokens.now) (tok c.in_ok-word.word.now) (toks c.in_ok-word.rest.now) c.in_ok-inner.ensures.0 c.in_ok-word.ensures (search rules) c.in_err-base.field-0.0 c.in_err-base.ensures)

pub enum_type-returns : goal.enum_type-returns
enum_type-returns t c =
    rw (enum_based c.in_ok-inner.inner c.args.budget (toks c.args.tokens.now) (tok c.in_ok-word.word.now) (toks c.in_ok-word.rest.now) c.in_ok-inner.ensures.0 c.in_ok-word.ensures (search rules), c.in_ok-base.ensures) c.enum_over.ensures

pub mailbox_type-returns-in_err-item : goal.mailbox_type-returns-in_err-item
unfolding mailbox_type
mailbox_type-returns-in_err-item t c =
    let inner = type_deeper c.in_ok-inner.inner c.args.budget (toks c.in_ok-rest-2.rest.now) c.in_ok-inner.ensures.0 in
    grind (arith, common_steps, has_one)

pub mailbox_type-returns-in_err-rest-3 : goal.mailbox_type-returns-in_err-rest-3
unfolding mailbox_type
mailbox_type-returns-in_err-rest-3 t c =
    let inner = type_deeper c.in_ok-inner.inner c.args.budget (toks c.in_ok-rest-2.rest.now) c.in_ok-inner.ensures.0 in
    grind (arith, common_steps, has_one)

pub mailbox_type-returns : goal.mailbox_type-returns
mailbox_type-returns t c =
    let read = mailbox_item c.in_ok-inner.inner c.args.budget (toks c.args.tokens.now) (toks c.in_ok-word.rest.now) (toks c.in_ok-rest.rest.now) (toks c.in_ok-rest-2.rest.now) (toks c.in_ok-item.rest.now) (toks c.in_ok-rest-3.rest.now) (tok c.in_ok-word.word.now) (tok c.in_ok-rest.field-0-0.now) (tok c.in_ok-rest-2.field-0-0.now) (tok c.in_ok-rest-3.field-0-0.now) (view.type c.in_ok-item.item)
    c.in_ok-inner.ensures.0 c.in_ok-word.ensures (search rules) c.in_ok-rest.ensures c.in_ok-rest-2.ensures c.in_ok-item.ensures c.in_ok-rest-3.ensures in
    search rules
