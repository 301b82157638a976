use Rattle.std.proofs.Common.{rules, map}
use Rattle.std.proofs.lemmas.List.{map_push}
use Rattle.sv_tree.specs.Codes.{toks}
use Rattle.sv_tree.specs.StmtGrammar.{Declared, block_items}
use Rattle.sv_tree.specs.StmtView.{decl}
use Rattle.sv_tree.specs.Grammar.{reads}
use Rattle.sv_parse_stmt.proofs.BlockLaws.{decls_end, decls_go_on, decls_shorter}
use Rattle.sv_parse_stmt.proofs.blocks.declarations.Goals as goal

pub decls-preserved : goal.decls-preserved
decls-preserved c = decls_go_on c.args.budget (map Declared (map decl c.decls.list.items)) (map Declared (map decl c.push.new.self.items)) (toks c.decls.rest.now) (toks c.in-Ok.read.1.now) (decl c.in-Ok.read.0) (reads c.args.budget block_items (toks c.args.tokens.now)) (search rules) c.in-Ok.ensures (rw (c.in-Ok-push.ensures.items, map_push decl c.decls.list.items c.in-Ok.read.0) (map_push Declared (map decl c.decls.list.items) (decl c.in-Ok.read.0))) c.decls.invariant

pub decls-smaller : goal.decls-smaller
decls-smaller c = decls_shorter c.args.budget c.decls.rest.now c.in-Ok.read.1.now (decl c.in-Ok.read.0) c.in-Ok.ensures

pub returns-in-Err : goal.returns-in-Err
returns-in-Err c =
    (decls_end c.args.budget c.in-Err.error (map Declared (map decl c.decls.list.items)) (toks c.decls.rest.now) (reads c.args.budget block_items (toks c.args.tokens.now)) (search rules) c.in-Err.ensures c.decls.invariant)
