use Rattle.std.proofs.Common.{rules, ◌+◌, ◌<◌, ◌≤◌, [], ◌∷◌, map, length, get_or, refl, sym, ap, ◌∙◌, arith}
use Rattle.std.proofs.lemmas.Result.{err_from_is_err_and}
use Rattle.std.proofs.lemmas.List.{map_push}
use Rattle.sv_grammar.specs.Code.Code.{Rep}
use Rattle.sv_tree.specs.declared.kind.Kind.TheVariants as k
use Rattle.sv_tree.specs.declared.word.Precedence.TheVariants as precedence
use Rattle.sv_tree.specs.Codes.{code, tok, toks}
use Rattle.sv_tree.specs.Depth.{depth}
use Rattle.sv_tree.specs.Expr as tree
use Rattle.sv_tree.specs.View.{actuals, expr, suffix}
use Rattle.sv_tree.specs.Forms.{comma}
use Rattle.sv_tree.specs.Grammar.{reads}
use Rattle.sv_tree.specs.ExprGrammar as grammar
use Rattle.sv_parse.specs.Parts.{from}
use Rattle.sv_parse.proofs.Loops.{loop_ends, loop_goes_on, loop_shorter}
use Rattle.sv_parse_expr.specs.First.{suffix_first}
use Rattle.sv_parse_expr.specs.Chains.{climbed}
use Rattle.sv_parse_expr.proofs.Braces.{braces_first, braces_join, braces_deep, braces_repeat, repeated_is}
use Rattle.sv_parse_expr.proofs.Known.{commas_loop, suffixes_loop, suffixes_read, suffixes_fail}
use Rattle.sv_parse_expr.proofs.Links.{links_ends, links_goes_on, few_stronger, climbed_none, climbed_some, choices_on}
use Rattle.sv_parse_expr.proofs.Lists.{exprs_are_listed, exprs_depth_push, suffixes_depth_push}
use Rattle.sv_parse_expr.proofs.Operands.{bracket_fails, bracket_open, bracket_read, call_read}
use Rattle.sv_parse_expr.proofs.Outcomes.{fails_after}
use Rattle.sv_parse_expr.proofs.reader.+expr.Goals as goal

-- ---- lists

pub exprs_after-commas-preserved : goal.exprs_after-commas-preserved
exprs_after-commas-preserved t c = record {
  told = loop_goes_on (comma grammar.expr) (code k.Comma ∷ []) 0 commas_loop c.args.budget (map expr c.commas.list.items) (map expr c.push-in-commas.new.self.items) (toks c.commas.rest.now) (expr c.in_ok-next.next.tree, toks c.in_ok-next.after.now) (from (comma grammar.expr) c.args.budget (expr c.args.first.tree ∷ []) (toks c.args.tokens.now)) (search rules) refl c.in_ok-next.ensures.reads (rw c.in_ok-push-2.ensures.items (map_push expr c.commas.list.items c.in_ok-next.next.tree)) c.commas.invariant.told;
  depth = cc (exprs_depth_push c.commas.list.items c.in_ok-next.next.tree, c.larger-depth.ensures.value, c.commas.invariant.depth, c.in_ok-next.ensures.depth.0, c.in_ok-push-2.ensures.items);
  low = let h = c.larger-depth.ensures.low (c.args.budget + 1) (omega (arith, c.commas.invariant.low)) (omega (arith, c.in_ok-next.ensures.depth.1)) in omega arith;
}

pub exprs_after-commas-smaller : goal.exprs_after-commas-smaller
exprs_after-commas-smaller t c = loop_shorter (comma grammar.expr) (code k.Comma ∷ []) 0 commas_loop c.args.budget c.commas.rest.now c.in_ok-next.after.now (expr c.in_ok-next.next.tree, toks c.in_ok-next.after.now) refl c.in_ok-next.ensures.reads refl

pub exprs_after-returns-in_err-next-clause-reads : goal.exprs_after-returns-in_err-next-clause-reads
exprs_after-returns-in_err-next-clause-reads t c =
    let p = err_from_is_err_and c.from_residual-in_err-next.result c.from_residual-in_err-next.ensures.1 in
    rw (p.1, p.2) (loop_ends (comma grammar.expr) (code k.Comma ∷ []) 0 commas_loop c.args.budget c.in_err-next.field-0.0 (map expr c.commas.list.items) (toks c.commas.rest.now) (from (comma grammar.expr) c.args.budget (expr c.args.first.tree ∷ []) (toks c.args.tokens.now)) (search rules) refl c.in_err-next.ensures.reads c.commas.invariant.told)

-- ---- what follows a name

pub measured_suffixes-suffixes-preserved : goal.measured_suffixes-suffixes-preserved
measured_suffixes-suffixes-preserved t c = record {
  told = loop_goes_on grammar.suffix suffix_first 0 suffixes_loop c.args.budget (map suffix c.suffixes.list.items) (map suffix c.push.new.self.items) (toks c.suffixes.rest.now) (suffix c.in_ok-next.next.tree, toks c.in_ok-next.after.now) (reads c.args.budget (Rep grammar.suffix) (toks c.args.tokens.now)) (search rules) refl c.in_ok-next.ensures.reads (rw c.in_ok-push.ensures.items (map_push suffix c.suffixes.list.items c.in_ok-next.next.tree)) c.suffixes.invariant.told;
  depth = cc (suffixes_depth_push c.suffixes.list.items c.in_ok-next.next.tree c.in_ok-next.next.depth c.in_ok-next.ensures.depth.0, c.larger-depth.ensures.value, c.suffixes.invariant.depth, c.in_ok-push.ensures.items);
  low = let h = c.larger-depth.ensures.low (c.args.budget + 1) (omega (arith, c.suffixes.invariant.low)) (omega (arith, c.in_ok-next.ensures.depth.1)) in omega arith;
}

pub measured_suffixes-suffixes-smaller : goal.measured_suffixes-suffixes-smaller
measured_suffixes-suffixes-smaller t c = loop_shorter grammar.suffix suffix_first 0 suffixes_loop c.args.budget c.suffixes.rest.now c.in_ok-next.after.now (suffix c.in_ok-next.next.tree, toks c.in_ok-next.after.now) refl c.in_ok-next.ensures.reads refl

pub measured_suffixes-returns-in_err-next-clause-reads : goal.measured_suffixes-returns-in_err-next-clause-reads
measured_suffixes-returns-in_err-next-clause-reads t c =
    let p = err_from_is_err_and c.from_residual.result c.from_residual.ensures.1 in
    rw (p.1, p.2) (suffixes_fail c.args.budget (toks c.args.tokens.now) c.in_err-next.field-0.0 (loop_ends grammar.suffix suffix_first 0 suffixes_loop c.args.budget c.in_err-next.field-0.0 (map suffix c.suffixes.list.items) (toks c.suffixes.rest.now) (reads c.args.budget (Rep grammar.suffix) (toks c.args.tokens.now)) (search rules) refl c.in_err-next.ensures.reads c.suffixes.invariant.told))

pub measured_suffixes-returns-clause-reads : goal.measured_suffixes-returns-clause-reads
measured_suffixes-returns-clause-reads t c = suffixes_read c.args.budget c.suffixes.list.items (toks c.suffixes.rest.now) (toks c.args.tokens.now) c.suffixes.invariant.told (search rules)

-- ---- braces

pub braces-returns-in_err-first-clause-reads : goal.braces-returns-in_err-first-clause-reads
braces-returns-in_err-first-clause-reads t c =
    let p = err_from_is_err_and c.from_residual-in_err-first.result c.from_residual-in_err-first.ensures.1 in
    rw (p.1, p.2) (braces_first (c.args.inner + 1) c.args.inner refl (toks c.args.tokens.now) (tok c.in_ok-open.open.now, toks c.in_ok-open.rest.now) c.in_err-first.field-0.0 c.in_ok-open.ensures c.in_err-first.ensures.reads)

pub braces-returns-in_err-list-clause-reads : goal.braces-returns-in_err-list-clause-reads
braces-returns-in_err-list-clause-reads t c =
    let p = err_from_is_err_and c.from_residual-in_err-list.result c.from_residual-in_err-list.ensures.1 in
    let whole = braces_join (c.args.inner + 1) c.args.inner refl (toks c.args.tokens.now) (tok c.in_ok-open.open.now, toks c.in_ok-open.rest.now) (expr c.in_ok-first.first.tree, toks c.in_ok-first.rest.now) c.in_ok-open.ensures c.in_ok-first.ensures.reads (search rules) in
    rw (p.1, p.2, whole) (fails_after c.in_err-list.field-0.0 _ _ c.in_err-list.ensures.reads)

pub braces-returns-in_err-rest-clause-reads : goal.braces-returns-in_err-rest-clause-reads
braces-returns-in_err-rest-clause-reads t c =
    let p = err_from_is_err_and c.from_residual-in_err-rest.result c.from_residual-in_err-rest.ensures.1 in
    let whole = braces_join (c.args.inner + 1) c.args.inner refl (toks c.args.tokens.now) (tok c.in_ok-open.open.now, toks c.in_ok-open.rest.now) (expr c.in_ok-first.first.tree, toks c.in_ok-first.rest.now) c.in_ok-open.ensures c.in_ok-first.ensures.reads (search rules) in
    rw (p.1, p.2, whole, c.in_ok-list.ensures.reads) (fails_after c.in_err-rest.field-0.0 _ _ c.in_err-rest.ensures)

pub braces-returns-then-not-is_next-clause-reads : goal.braces-returns-then-not-is_next-clause-reads
braces-returns-then-not-is_next-clause-reads t c =
    let whole = braces_join (c.args.inner + 1) c.args.inner refl (toks c.args.tokens.now) (tok c.in_ok-open.open.now, toks c.in_ok-open.rest.now) (expr c.in_ok-first.first.tree, toks c.in_ok-first.rest.now) c.in_ok-open.ensures c.in_ok-first.ensures.reads (search rules) in
    let listed = exprs_are_listed c.in_ok-list.field-0-0.tree.items in
    whole ∙ rw (c.in_ok-list.ensures.reads, c.in_ok-rest.ensures) (cc (listed, c.join-tree.ensures))

pub braces-returns-in_err-innermost-clause-reads : goal.braces-returns-in_err-innermost-clause-reads
braces-returns-in_err-innermost-clause-reads t c =
    let whole = braces_deep (c.args.inner + 1) c.args.inner refl (toks c.args.tokens.now) (tok c.in_ok-open.open.now, toks c.in_ok-open.rest.now) (expr c.in_ok-first.first.tree, toks c.in_ok-first.rest.now) c.in_ok-open.ensures c.in_ok-first.ensures.reads (search rules) c.in_err-innermost.ensures.1 in
    search rules

pub braces-returns-in_err-items-clause-reads : goal.braces-returns-in_err-items-clause-reads
braces-returns-in_err-items-clause-reads t c =
    let p = err_from_is_err_and c.from_residual-in_err-items.result c.from_residual-in_err-items.ensures.1 in
    let whole = braces_repeat (c.args.inner + 1) c.args.inner refl (toks c.args.tokens.now) (tok c.in_ok-open.open.now, toks c.in_ok-open.rest.now) (expr c.in_ok-first.first.tree, toks c.in_ok-first.rest.now) c.in_ok-open.ensures c.in_ok-first.ensures.reads (search rules) c.in_ok-innermost.innermost c.in_ok-innermost.ensures.0 in
    rw (p.1, p.2, whole) (fails_after c.in_err-items.field-0.0 _ _ c.in_err-items.ensures.reads)

pub braces-returns-in_err-rest-2-clause-reads : goal.braces-returns-in_err-rest-2-clause-reads
braces-returns-in_err-rest-2-clause-reads t c =
    let p = err_from_is_err_and c.from_residual-in_err-rest-2.result c.from_residual-in_err-rest-2.ensures.1 in
    let whole = braces_repeat (c.args.inner + 1) c.args.inner refl (toks c.args.tokens.now) (tok c.in_ok-open.open.now, toks c.in_ok-open.rest.now) (expr c.in_ok-first.first.tree, toks c.in_ok-first.rest.now) c.in_ok-open.ensures c.in_ok-first.ensures.reads (search rules) c.in_ok-innermost.innermost c.in_ok-innermost.ensures.0 in
    rw (p.1, p.2, whole, c.in_ok-items.ensures.reads) (fails_after c.in_err-rest-2.field-0.0 _ _ c.in_err-rest-2.ensures)

pub braces-returns-clause-reads : goal.braces-returns-clause-reads
braces-returns-clause-reads t c =
    let whole = braces_repeat (c.args.inner + 1) c.args.inner refl (toks c.args.tokens.now) (tok c.in_ok-open.open.now, toks c.in_ok-open.rest.now) (expr c.in_ok-first.first.tree, toks c.in_ok-first.rest.now) c.in_ok-open.ensures c.in_ok-first.ensures.reads (search rules) c.in_ok-innermost.innermost c.in_ok-innermost.ensures.0 in
    whole ∙ rw (c.in_ok-items.ensures.reads, c.in_ok-rest-2.ensures) (cc (c.repeat-tree.ensures, c.in_ok-count.ensures.ok))

-- what is repeated, in its braces

pub repeated-returns-in_err-list-clause-reads : goal.repeated-returns-in_err-list-clause-reads
repeated-returns-in_err-list-clause-reads t c =
    let p = err_from_is_err_and c.from_residual-in_err-list.result c.from_residual-in_err-list.ensures.1 in
    rw (p.1, p.2, repeated_is c.args.inner (toks c.args.tokens.now), c.in_ok-open.ensures) (fails_after c.in_err-list.field-0.0 _ _ c.in_err-list.ensures.reads)

pub repeated-returns-in_err-rest-clause-reads : goal.repeated-returns-in_err-rest-clause-reads
repeated-returns-in_err-rest-clause-reads t c =
    let p = err_from_is_err_and c.from_residual-in_err-rest.result c.from_residual-in_err-rest.ensures.1 in
    rw (p.1, p.2, repeated_is c.args.inner (toks c.args.tokens.now), c.in_ok-open.ensures, c.in_ok-list.ensures.reads) (fails_after c.in_err-rest.field-0.0 _ _ c.in_err-rest.ensures)

pub repeated-returns-clause-reads : goal.repeated-returns-clause-reads
repeated-returns-clause-reads t c =
    repeated_is c.args.inner (toks c.args.tokens.now) ∙ rw (c.in_ok-open.ensures, c.in_ok-list.ensures.reads, c.in_ok-rest.ensures, exprs_are_listed c.in_ok-list.field-0-0.tree.items) refl

-- ---- operators

pub operators-returns-in_default-clause-reads : goal.operators-returns-in_default-clause-reads
operators-returns-in_default-clause-reads t c = climbed_none c.args.precedences.now c.args.budget (expr c.args.operand.tree) (toks c.args.tokens.now) c.in_default.len_below

pub operators-returns-in_err-left-clause-reads : goal.operators-returns-in_err-left-clause-reads
operators-returns-in_err-left-clause-reads t c =
    let p = err_from_is_err_and c.from_residual.result c.from_residual.ensures.1 in
    rw (p.1, p.2, climbed_some c.args.precedences.now c.args.budget (expr c.args.operand.tree) (toks c.args.tokens.now) c.in-len1-up.len_at_least) (fails_after c.in_err-left.field-0.0 _ _ c.in_err-left.ensures.reads)

pub operators-links-init : goal.operators-links-init
operators-links-init t c = record {
  told = sym (climbed_some c.args.precedences.now c.args.budget (expr c.args.operand.tree) (toks c.args.tokens.now) c.in-len1-up.len_at_least ∙ rw c.in_ok-left.ensures.reads refl);
  depth = c.in_ok-left.ensures.depth.0;
  low = c.in_ok-left.ensures.depth.1;
}

pub operators-level-requires : goal.operators-level-requires
operators-level-requires t c =
    let few : length c.stronger.result.now ≤ 10 = rw c.stronger.ensures (few_stronger _) in
    search rules

pub operators-returns-in_err-right-clause-reads : goal.operators-returns-in_err-right-clause-reads
operators-returns-in_err-right-clause-reads t c =
    let p = err_from_is_err_and c.from_residual-in_err-right.result c.from_residual-in_err-right.ensures.1 in
    rw (p.1, p.2) (links_ends (get_or c.args.precedences.now 0 precedence.Power) c.args.budget (expr c.links.left.tree) c.in_ok-inner.inner c.in_ok-inner.ensures.0 (omega arith) c.in_err-right.field-0.0 (toks c.links.rest.now) (tok c.in_ok-operator.operator.now, toks c.in_ok-operator.after.now) (climbed c.args.precedences.now c.args.budget (expr c.args.operand.tree) (toks c.args.tokens.now)) c.in_ok-operator.ensures.reads (rw (← c.stronger.ensures) c.in_err-right.ensures.reads) c.links.invariant.told)

pub operators-links-preserved : goal.operators-links-preserved
operators-links-preserved t c = record {
  told = links_goes_on (get_or c.args.precedences.now 0 precedence.Power) c.args.budget (expr c.links.left.tree) c.in_ok-inner.inner c.in_ok-inner.ensures.0 (omega arith) (expr c.in_ok-left-2.left.tree) (toks c.links.rest.now) (tok c.in_ok-operator.operator.now, toks c.in_ok-operator.after.now) (expr c.in_ok-right.right.tree, toks c.in_ok-right.after.now) (climbed c.args.precedences.now c.args.budget (expr c.args.operand.tree) (toks c.args.tokens.now)) c.in_ok-operator.ensures.reads (rw (← c.stronger.ensures) c.in_ok-right.ensures.reads) (c.in_ok-left-2.ensures.tree ∙ sym (ap (λ w. tree.Binary w c.in_ok-operator.operator.now.at (expr c.links.left.tree) (expr c.in_ok-right.right.tree)) c.in_ok-operator.ensures.word)) c.links.invariant.told;
  depth = c.in_ok-left-2.ensures.depth;
  low = c.in_ok-left-2.ensures.grows.1 c.args.budget (omega arith) (omega (arith, c.in_ok-right.ensures.depth.1));
}

-- ---- choices

pub choose-returns-in_err-yes-clause-reads : goal.choose-returns-in_err-yes-clause-reads
choose-returns-in_err-yes-clause-reads t c =
    let p = err_from_is_err_and c.from_residual-in_err-yes.result c.from_residual-in_err-yes.ensures.1 in
    let low : depth (expr c.args.condition.tree) < c.args.budget = omega (arith, c.requires.0, c.left.ensures.value) in
    rw (p.1, p.2, choices_on c.args.budget c.in_ok-inner.inner (expr c.args.condition.tree) (toks c.args.tokens.now) c.in_ok-inner.ensures.0 low (search rules), c.in_ok-rest.ensures) (fails_after c.in_err-yes.field-0.0 _ _ c.in_err-yes.ensures.reads)

pub choose-returns-in_err-rest-2-clause-reads : goal.choose-returns-in_err-rest-2-clause-reads
choose-returns-in_err-rest-2-clause-reads t c =
    let p = err_from_is_err_and c.from_residual-in_err-rest-2.result c.from_residual-in_err-rest-2.ensures.1 in
    let low : depth (expr c.args.condition.tree) < c.args.budget = omega (arith, c.requires.0, c.left.ensures.value) in
    rw (p.1, p.2, choices_on c.args.budget c.in_ok-inner.inner (expr c.args.condition.tree) (toks c.args.tokens.now) c.in_ok-inner.ensures.0 low (search rules), c.in_ok-rest.ensures, c.in_ok-yes.ensures.reads) (fails_after c.in_err-rest-2.field-0.0 _ _ c.in_err-rest-2.ensures)

pub choose-returns-in_err-no-clause-reads : goal.choose-returns-in_err-no-clause-reads
choose-returns-in_err-no-clause-reads t c =
    let p = err_from_is_err_and c.from_residual-in_err-no.result c.from_residual-in_err-no.ensures.1 in
    let low : depth (expr c.args.condition.tree) < c.args.budget = omega (arith, c.requires.0, c.left.ensures.value) in
    rw (p.1, p.2, choices_on c.args.budget c.in_ok-inner.inner (expr c.args.condition.tree) (toks c.args.tokens.now) c.in_ok-inner.ensures.0 low (search rules), c.in_ok-rest.ensures, c.in_ok-yes.ensures.reads, c.in_ok-rest-2.ensures) (fails_after c.in_err-no.field-0.0 _ _ c.in_err-no.ensures.reads)

pub choose-returns-clause-reads : goal.choose-returns-clause-reads
choose-returns-clause-reads t c =
    let low : depth (expr c.args.condition.tree) < c.args.budget = omega (arith, c.requires.0, c.left.ensures.value) in
    choices_on c.args.budget c.in_ok-inner.inner (expr c.args.condition.tree) (toks c.args.tokens.now) c.in_ok-inner.ensures.0 low (search rules) ∙ rw (c.in_ok-rest.ensures, c.in_ok-yes.ensures.reads, c.in_ok-rest-2.ensures, c.in_ok-no.ensures.reads, c.in_ok-chosen.ensures.tree) refl

pub choose-returns-clause-depth : goal.choose-returns-clause-depth
choose-returns-clause-depth t c =
    let low : c.args.condition.depth < c.args.budget = omega (arith, c.left.ensures.value) in
    let low_yes : c.in_ok-yes.yes.depth < c.args.budget = omega (arith, c.in_ok-yes.ensures.depth.1, c.in_ok-inner.ensures.0) in
    let low_no : c.in_ok-no.no.depth < c.args.budget = omega (arith, c.in_ok-no.ensures.depth.1, c.in_ok-inner.ensures.0) in
    (c.in_ok-chosen.ensures.depth, c.in_ok-chosen.ensures.grows c.args.budget low low_yes low_no)

-- ---- operands

pub prim-returns-in_err-tree-in-Bracket-clause-reads : goal.prim-returns-in_err-tree-in-Bracket-clause-reads
prim-returns-in_err-tree-in-Bracket-clause-reads t c =
    let p = err_from_is_err_and c.from_residual-in_err-tree-in-Bracket.result c.from_residual-in_err-tree-in-Bracket.ensures.1 in
    rw (p.1, p.2) (bracket_fails c.args.budget c.in_ok-front.front c.in-Bracket.opening c.in-Bracket.inner (toks c.in_ok-front.rest.now) (reads c.args.budget grammar.prim (toks c.args.tokens.now)) (cc c.in-Bracket.is) c.in_ok-front.ensures.reads c.in_ok-front.ensures.fits c.in_err-tree-in-Bracket.field-0.0 c.in_err-tree-in-Bracket.ensures.reads)

pub prim-returns-in_err-rest-in-Bracket-clause-reads : goal.prim-returns-in_err-rest-in-Bracket-clause-reads
prim-returns-in_err-rest-in-Bracket-clause-reads t c =
    let p = err_from_is_err_and c.from_residual-in_err-rest-in-Bracket.result c.from_residual-in_err-rest-in-Bracket.ensures.1 in
    rw (p.1, p.2) (bracket_open c.args.budget c.in_ok-front.front c.in-Bracket.opening c.in-Bracket.inner (toks c.in_ok-front.rest.now) (reads c.args.budget grammar.prim (toks c.args.tokens.now)) (cc c.in-Bracket.is) c.in_ok-front.ensures.reads c.in_ok-front.ensures.fits (expr c.in_ok-tree-in-Bracket.tree.tree, toks c.in_ok-tree-in-Bracket.rest.now) c.in_err-rest-in-Bracket.field-0.0 c.in_ok-tree-in-Bracket.ensures.reads c.in_err-rest-in-Bracket.ensures)

pub prim-returns-in_ok-bracket_of-in-Bracket-clause-reads : goal.prim-returns-in_ok-bracket_of-in-Bracket-clause-reads
prim-returns-in_ok-bracket_of-in-Bracket-clause-reads t c =
    bracket_read c.args.budget c.in_ok-front.front c.in-Bracket.opening c.in-Bracket.inner (toks c.in_ok-front.rest.now) (reads c.args.budget grammar.prim (toks c.args.tokens.now)) (cc c.in-Bracket.is) c.in_ok-front.ensures.reads c.in_ok-front.ensures.fits (expr c.in_ok-tree-in-Bracket.tree.tree, toks c.in_ok-tree-in-Bracket.rest.now) _ c.in_ok-tree-in-Bracket.ensures.reads c.in_ok-rest-in-Bracket.ensures
    ∙ rw c.in_ok-bracket_of-in-Bracket.ensures.tree refl

pub prim-returns-in_ok-actuals-in-Call-clause-reads : goal.prim-returns-in_ok-actuals-in-Call-clause-reads
prim-returns-in_ok-actuals-in-Call-clause-reads t c =
    call_read c.args.budget c.in_ok-front.front (toks c.in_ok-front.rest.now) (reads c.args.budget grammar.prim (toks c.args.tokens.now)) c.in_ok-front.ensures.reads c.in-Call.callee (actuals c.in_ok-actuals-in-Call.actuals.tree, toks c.in_ok-actuals-in-Call.rest.now) (cc c.in-Call.is) c.in_ok-actuals-in-Call.ensures.reads
    ∙ rw c.call_of.ensures.tree refl
