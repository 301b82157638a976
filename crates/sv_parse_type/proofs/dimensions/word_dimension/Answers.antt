use Rattle.std.proofs.Common.{rules}
use Rattle.std.proofs.lemmas.Result.{err_from_is_err_and}
use Rattle.sv_tree.specs.Codes.{toks}
use Rattle.sv_tree.specs.StmtView as view
use Rattle.sv_parse_type.proofs.DimensionLaws.{key_read, key_fails, dimension_deep, dimension_cast, cast_fails}
use Rattle.sv_parse_type.proofs.dimensions.word_dimension.Goals as goal

pub returns-in_err-key : goal.returns-in_err-key
returns-in_err-key c =
    let p = err_from_is_err_and c.from_residual-in_err-key.result c.from_residual-in_err-key.ensures.1 in
    rw (p.1, p.2) (key_fails c.args.budget c.args.at (toks c.args.tokens.now) (c.in_ok-to.to, toks c.in_ok-to.rest.now) c.requires c.in_ok-to.ensures c.in_err-key.field-0.0 (search rules) c.in_err-key.ensures)

pub returns-then-not-is_next : goal.returns-then-not-is_next
returns-then-not-is_next c = key_read c.args.budget c.args.at (toks c.args.tokens.now) (c.in_ok-to.to, toks c.in_ok-to.rest.now) c.requires c.in_ok-to.ensures (view.type c.in_ok-key.key, toks c.in_ok-key.rest.now) (search rules) c.in_ok-key.ensures

pub returns-in_err-_inner : goal.returns-in_err-_inner
returns-in_err-_inner c =
    let p = err_from_is_err_and c.from_residual-in_err-_inner.result c.from_residual-in_err-_inner.ensures.1 in
    rw (p.1, p.2, c.in_err-_inner.ensures.0) (dimension_deep c.args.budget c.args.at (toks c.args.tokens.now) (c.in_ok-to.to, toks c.in_ok-to.rest.now) c.requires c.in_ok-to.ensures (search rules) c.in_err-_inner.ensures.1)

pub returns-in_err-left : goal.returns-in_err-left
returns-in_err-left c =
    let p = err_from_is_err_and c.from_residual-in_err-left.result c.from_residual-in_err-left.ensures.1 in
    rw (p.1, p.2) (cast_fails c.args.budget c.args.at (toks c.args.tokens.now) (c.in_ok-to.to, toks c.in_ok-to.rest.now) c.requires c.in_ok-to.ensures c.in_ok-_inner._inner c.in_err-left.field-0.0 (search rules) c.in_ok-_inner.ensures.0 c.in_err-left.ensures)

pub returns : goal.returns
returns c = rw (dimension_cast c.args.budget c.args.at (toks c.args.tokens.now) (c.in_ok-to.to, toks c.in_ok-to.rest.now) c.requires c.in_ok-to.ensures c.in_ok-_inner._inner (search rules) c.in_ok-_inner.ensures.0, c.in_ok-left.ensures) c.bounds_of.ensures
