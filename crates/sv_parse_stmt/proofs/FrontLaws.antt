-- What is left to be read of a statement.
use Rattle.std.proofs.Common.{◌≡◌, ℕ, List, Ok, Err, refl, ◌∙◌}
use Rattle.sv_grammar.specs.Language.{Out}
use Rattle.sv_grammar.specs.Reading.{◌>>=◌}
use Rattle.sv_grammar.specs.Code.Code.{Rep}
use Rattle.sv_grammar.specs.Tokens.{Tok}
use Rattle.sv_value.specs.declared.place.Place.{Place}
use Rattle.sv_tree.specs.Codes.{toks}
use Rattle.sv_tree.specs.Expr as tree
use Rattle.sv_tree.specs.Stmt as stmts
use Rattle.sv_tree.specs.View.{expr}
use Rattle.sv_tree.specs.Forms.{Placed, statement}
use Rattle.sv_tree.specs.StmtGrammar as grammar
use Rattle.sv_tree.specs.Grammar.{reads}
use Rattle.sv_parse_type.specs.Applied.{applied}
use Rattle.sv_parse_stmt.specs.Fronts.{Follows, Remains, remaining, headed, block_ended, case_ended, chosen_by, at_place}
use Rattle.sv_parse_stmt.specs.declared.front.Front.{Front}
use Rattle.sv_parse_stmt.specs.declared.front.Front.TheVariants as front

-- the whole, from its part
follows_is : {A B : Type 0} (f : A × List Tok → Out B) (part : Out A) (all : Out B) → Follows f part all → all ≡ (part >>= f)
follows_is {A = A} f part all h = go part refl
  where
    go : (o : Out A) → part ≡ o → all ≡ (o >>= f)
    go (Ok y) e = h.1 y e
    go (Err m) e = h.0 m e

chosen_is : (at : Place) (e : tree.Expr) (o : Out (tree.Expr → stmts.Body)) → (o >>= chosen_by at e) ≡ at_place at (applied e o)
chosen_is at e (Ok f) = refl
chosen_is at e (Err m) = refl

pub remains_is : (d : ℕ) (f : Front) (all : Out Placed) → Remains d f all → all ≡ remaining d f
remains_is d (front.Whole p rest) all h = h
remains_is d (front.Head at h rest) all r = follows_is (headed d at h) (reads d statement (toks rest.now)) all r
remains_is d (front.Block b rest) all r = follows_is (block_ended b) (reads d (Rep statement) (toks rest.now)) all r
remains_is d (front.If at e rest) all r = follows_is (chosen_by at (expr e)) (reads d grammar.if_rest (toks rest.now)) all r ∙ chosen_is at (expr e) (reads d grammar.if_rest (toks rest.now))
remains_is d (front.Case at w e rest) all r = follows_is (case_ended at w (expr e)) (reads d (Rep grammar.case_item) (toks rest.now)) all r
