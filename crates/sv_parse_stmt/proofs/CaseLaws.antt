-- The items of a "case": what each begins with, and lists of them.
use Rattle.std.proofs.Common.{◌≡◌, ℕ, ◌<◌, true, false, List, [], ◌∷◌, map, Option, Ok, Err, refl, ap, ◌∙◌}
use Rattle.sv_grammar.specs.Tokens.{Tok, next, mem}
use Rattle.sv_grammar.specs.Info.{Info}
use Rattle.sv_grammar.specs.Language.{TooDeep, Out}
use Rattle.sv_grammar.specs.Reading.{◌>>=◌, one_of}
use Rattle.sv_grammar.specs.Code.Code.{Rep}
use Rattle.sv_tree.specs.declared.kind.Kind.TheVariants as k
use Rattle.sv_tree.specs.declared.statement.CaseItem.{CaseItem}
use Rattle.sv_tree.specs.declared.expr.Expr.{Expr}
use Rattle.sv_tree.specs.Codes.{code}
use Rattle.sv_tree.specs.Expr as tree
use Rattle.sv_tree.specs.Stmt as stmts
use Rattle.sv_tree.specs.View.{expr as expr_view, expr_list}
use Rattle.sv_tree.specs.StmtView.{case_item as view, case_item_list}
use Rattle.sv_tree.specs.Forms.{stacked, tok, optional, ◌◂◌, list, exprs, statement}
use Rattle.sv_tree.specs.ExprGrammar.{expr}
use Rattle.sv_tree.specs.StmtGrammar.{case_item, default_item, labelled_item}
use Rattle.sv_tree.specs.Grammar.{reads}
use Rattle.sv_tree.proofs.KnownStmts as known
use Rattle.sv_parse.specs.Parts.{from}
use Rattle.sv_parse.proofs.Loops.{IsLoop, loop_is, loop_stop, loop_deep}
use Rattle.sv_parse_stmt.specs.Begins.{case_item_first}
use Rattle.sv_parse_stmt.specs.Fronts.{Follows}
use Rattle.sv_parse_stmt.proofs.KindLaws.{is_one, reach_one}
use Rattle.sv_parse_stmt.proofs.Shapes.{made, beside, pair_is}

-- ---- an item

default_first : (d : ℕ) (ts : List Tok) → 0 < d → mem (next ts).code (code k.Default ∷ []) ≡ true → reads d case_item ts ≡ reads d default_item ts
unfolding case_item
default_first d ts some h = rw (ap (λ (i : Info). i.first) known.default_item_known.info_is, is_one (next ts).code (code k.Default) h, known.default_item_known.low_is, reach_one d some) refl

pub item_default : (d : ℕ) (ts : List Tok) → 0 < d → mem (next ts).code (code k.Default ∷ []) ≡ true
    → reads d case_item ts ≡ (one_of (code k.Default ∷ []) ts >>= λ t. reads 0 (optional (tok k.Colon)) t.1 >>= λ c. reads d statement c.1 >>= λ s. Ok ((λ rest. stmts.Default s.0 rest), s.1))
unfolding default_item
item_default d ts some h = default_first d ts some h ∙ go (one_of (code k.Default ∷ []) ts)
  where
    give : Out stmts.Stmt → Out (stmts.CaseItems → stmts.CaseItems)
    give o = made (λ s rest. stmts.Default s rest) o

    last : {A B : Type 0} (t : A) (c : B) (o : Out stmts.Stmt) → give (made (λ p. p.1) (beside t (made (λ p. p.1) (beside c o)))) ≡ give o
    last t c (Ok s) = refl
    last t c (Err m) = refl

    second : (t : Tok) (o : Out (Option Tok)) → give (made (λ p. p.1) (beside t (made (λ p. p.1) (o >>= λ c. beside c.0 (reads d statement c.1))))) ≡ (o >>= λ c. give (reads d statement c.1))
    second t (Ok c) = last t c.0 (reads d statement c.1)
    second t (Err m) = refl

    go : (o : Out Tok) → give (made (λ p. p.1) (o >>= λ t. beside t.0 (made (λ p. p.1) (reads 0 (optional (tok k.Colon)) t.1 >>= λ c. beside c.0 (reads d statement c.1))))) ≡ (o >>= λ t. reads 0 (optional (tok k.Colon)) t.1 >>= λ c. give (reads d statement c.1))
    go (Ok t) = second t.0 (reads 0 (optional (tok k.Colon)) t.1)
    go (Err m) = refl

-- "default", and the statement after it
pub default_follows : (d : ℕ) (ts : List Tok) (t : Tok × List Tok) (c : Option Tok × List Tok) → 0 < d → mem (next ts).code (code k.Default ∷ []) ≡ true → one_of (code k.Default ∷ []) ts ≡ Ok t → reads 0 (optional (tok k.Colon)) t.1 ≡ Ok c
    → Follows (λ s. Ok ((λ others. stmts.Default s.0 others), s.1)) (reads d statement c.1) (reads d case_item ts)
default_follows d ts t c some on h g = (λ m f. all ∙ ap give f, λ y f. all ∙ ap give f)
  where
    give : Out stmts.Stmt → Out (stmts.CaseItems → stmts.CaseItems)
    give o = o >>= λ s. Ok ((λ others. stmts.Default s.0 others), s.1)

    all : reads d case_item ts ≡ give (reads d statement c.1)
    all = item_default d ts some on ∙ rw (h, g) refl

labels_first : (d : ℕ) (ts : List Tok) → 0 < d → mem (next ts).code (code k.Default ∷ []) ≡ false → reads d case_item ts ≡ reads d labelled_item ts
unfolding case_item
labels_first d ts some h = rw (ap (λ (i : Info). i.first) known.default_item_known.info_is, h, known.labelled_item_known.low_is, reach_one d some) refl

pub item_labels : (d : ℕ) (ts : List Tok) → 0 < d → mem (next ts).code (code k.Default ∷ []) ≡ false
    → reads d case_item ts ≡ (reads d (list expr) ts >>= λ es. one_of (code k.Colon ∷ []) es.1 >>= λ t. reads d statement t.1 >>= λ s. Ok ((λ rest. stmts.Labels (exprs es.0) s.0 rest), s.1))
unfolding labelled_item
item_labels d ts some h = labels_first d ts some h ∙ pair_is (λ es s rest. stmts.Labels (exprs es) s rest) (list expr ◂ k.Colon) statement d ts ∙ go (reads d (list expr) ts)
  where
    give : List tree.Expr → List Tok → Out (stmts.CaseItems → stmts.CaseItems)
    give es us = made (λ s rest. stmts.Labels (exprs es) s rest) (reads d statement us)

    second : (es : List tree.Expr) (o : Out Tok) → (made (λ p. p.0) (beside es o) >>= λ x. give x.0 x.1) ≡ (o >>= λ t. give es t.1)
    second es (Ok t) = refl
    second es (Err m) = refl

    go : (o : Out (List tree.Expr)) → (made (λ p. p.0) (o >>= λ es. beside es.0 (one_of (code k.Colon ∷ []) es.1)) >>= λ x. give x.0 x.1) ≡ (o >>= λ es. one_of (code k.Colon ∷ []) es.1 >>= λ t. give es.0 t.1)
    go (Ok es) = second es.0 (one_of (code k.Colon ∷ []) es.1)
    go (Err m) = refl

pub exprs_are_listed : (es : List Expr) → exprs (map expr_view es) ≡ expr_list es
exprs_are_listed [] = refl
exprs_are_listed (e ∷ es) = ap (λ x. tree.AndExpr (expr_view e) x) (exprs_are_listed es)

-- labels, and the statement after them
pub labels_follow : (d : ℕ) (ts : List Tok) (es : List Expr) (rest : List Tok) (t : Tok × List Tok) → 0 < d → mem (next ts).code (code k.Default ∷ []) ≡ false → reads d (list expr) ts ≡ Ok (map expr_view es, rest) → one_of (code k.Colon ∷ []) rest ≡ Ok t
    → Follows (λ s. Ok ((λ others. stmts.Labels (expr_list es) s.0 others), s.1)) (reads d statement t.1) (reads d case_item ts)
labels_follow d ts es rest t some off h g = (λ m f. all ∙ ap give f, λ y f. all ∙ ap give f)
  where
    give : Out stmts.Stmt → Out (stmts.CaseItems → stmts.CaseItems)
    give o = o >>= λ s. Ok ((λ others. stmts.Labels (expr_list es) s.0 others), s.1)

    all : reads d case_item ts ≡ give (reads d statement t.1)
    all = item_labels d ts some off ∙ rw (h, g, exprs_are_listed es) refl

-- ---- items in a row

pub items_loop : IsLoop case_item case_item_first 1
items_loop = record { passes = known.case_item_list; begins = ap (λ (i : Info). i.first) known.case_item_known.info_is; needs = known.case_item_known.low_is }

pub items_are : (d : ℕ) (ts : List Tok) → reads d (Rep case_item) ts ≡ from case_item d [] ts
items_are d ts = loop_is case_item case_item_first 1 items_loop d ts

pub items_stop : (d : ℕ) (prefix : List (stmts.CaseItems → stmts.CaseItems)) (ts : List Tok) → mem (next ts).code case_item_first ≡ false → from case_item d prefix ts ≡ Ok (prefix, ts)
items_stop d prefix ts h = loop_stop case_item case_item_first 1 items_loop d prefix ts h

pub items_deep : (d : ℕ) (prefix : List (stmts.CaseItems → stmts.CaseItems)) (ts : List Tok) → mem (next ts).code case_item_first ≡ true → d ≡ 0 → from case_item d prefix ts ≡ Err (TooDeep ts)
items_deep d prefix ts h none = loop_deep case_item case_item_first 1 items_loop d prefix ts h (rw none refl)

pub items_are_stacked : (is : List CaseItem) → stacked stmts.NoCaseItem (map view is) ≡ case_item_list is
items_are_stacked [] = refl
items_are_stacked (i ∷ is) = ap (view i) (items_are_stacked is)
