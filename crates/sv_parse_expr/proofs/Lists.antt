-- Lists of trees, and lists of what is one deeper.
use Rattle.std.proofs.Common.{◌≡◌, ℕ, zero, suc, ◌+◌, max, Bool, true, false, cond, List, [], ◌∷◌, ◌++◌, map, length, Ok, Err, refl, sym, ap, ◌∙◌, ⊎_elim, arith}
use Rattle.std.proofs.lemmas.Bool.{cases_lt}
use Rattle.sv_grammar.specs.Tokens.{Tok, next, mem}
use Rattle.sv_grammar.specs.Language.{Out}
use Rattle.sv_grammar.specs.Reading.{◌>>=◌, one_of, run_upto}
use Rattle.sv_grammar.specs.Code.{larger, reach}
use Rattle.sv_grammar.specs.Code.Code.{Inner}
use Rattle.sv_grammar.proofs.Budgets.{larger_left, larger_right}
use Rattle.sv_tree.specs.declared.kind.Kind.TheVariants as k
use Rattle.sv_tree.specs.declared.expr.Expr.{Expr}
use Rattle.sv_tree.specs.declared.expr.Lval.{Lval}
use Rattle.sv_tree.specs.declared.expr.Suffix.{Suffix, Member, Call', Select', Part'}
use Rattle.sv_tree.specs.Codes.{code}
use Rattle.sv_tree.specs.Depth.{depth, exprs_depth, suffixes_depth}
use Rattle.sv_tree.specs.Expr as tree
use Rattle.sv_tree.specs.Forms.{Production, Value, Expression, Target, comma, commas, exprs, list, lvals, stacked}
use Rattle.sv_tree.specs.Grammar.{table, need, reads}
use Rattle.sv_tree.specs.ExprGrammar.{comma_expr, inner_exprs, expr as expr_code, lval as lval_code}
use Rattle.sv_tree.specs.StmtView.{lval, lval_list}
use Rattle.sv_tree.specs.View.{expr, expr_list, suffix, suffix_list, exprs as row_exprs}
use Rattle.sv_tree.proofs.Good.{good}
use Rattle.sv_parse_expr.proofs.Budgets.{inner_at, reach_one}
use Rattle.sv_parse_expr.proofs.Outcomes.{made, beside, row}

pub exprs_are_listed : (es : List Expr) → exprs (map expr es) ≡ expr_list es
exprs_are_listed [] = refl
exprs_are_listed (e ∷ es) = ap (λ x. tree.AndExpr (expr e) x) (exprs_are_listed es)

pub suffixes_are_stacked : (ss : List Suffix) → stacked tree.NoSuffix (map suffix ss) ≡ suffix_list ss
suffixes_are_stacked [] = refl
suffixes_are_stacked (s ∷ ss) = ap (suffix s) (suffixes_are_stacked ss)

pub lvals_are_listed : (ls : List Lval) → lvals (map lval ls) ≡ lval_list ls
lvals_are_listed [] = refl
lvals_are_listed (l ∷ ls) = ap (λ x. tree.AndLval (lval l) x) (lvals_are_listed ls)

-- ---- lists of what is one deeper

module _ (n : Production) (d e : ℕ) (is : e + 1 ≡ d) where
  inner_comma : (ts : List Tok) → reads d (comma (Inner n)) ts ≡ reads e (comma (table n)) ts
  inner_comma ts = go (one_of (code k.Comma ∷ []) ts)
    where
      go : (o : Out Tok) → made (λ p. p.1) (row o (λ r. reads d (Inner n) r)) ≡ made (λ p. p.1) (row o (λ r. reads e (table n) r))
      go (Ok x) = rw (inner_at d e is n x.1) refl
      go (Err m) = refl

  -- any number of parts with commas before them, where on says whether one fits
  abbrev repeats : ℕ → (List Tok → Out (Value n)) → Bool → List Tok → Out (List (Value n))
  repeats f p on ts = run_upto f (λ (s : Unit {0}). code k.Comma ∷ []) (λ s. on) (λ s. true) (λ s x. s) (λ s. p) tt ts

  inner_repeats : (f : ℕ) (ts : List Tok) → repeats f (reads d (comma (Inner n))) true ts ≡ repeats f (reads e (comma (table n))) true ts
  inner_repeats zero ts = refl
  inner_repeats (suc f) ts = rw (inner_comma ts) (go (mem (next ts).code (code k.Comma ∷ [])) (reads e (comma (table n)) ts) (λ x. inner_repeats f x.1))
    where
      go : (b : Bool) (o : Out (Value n)) → ((x : Value n × List Tok) → repeats f (reads d (comma (Inner n))) true x.1 ≡ repeats f (reads e (comma (table n))) true x.1)
          → cond b (o >>= λ x. made (λ xs. x.0 ∷ xs) (repeats f (reads d (comma (Inner n))) true x.1)) (Ok ([], ts)) ≡ cond b (o >>= λ x. made (λ xs. x.0 ∷ xs) (repeats f (reads e (comma (table n))) true x.1)) (Ok ([], ts))
      go false o same = refl
      go true (Ok x) same = ap (made (λ xs. x.0 ∷ xs)) (same x)
      go true (Err m) same = refl

  module _ (low : need n ≡ 0) where
    pub inner_commas : (ts : List Tok) → reads d (commas (Inner n)) ts ≡ reads e (commas (table n)) ts
    inner_commas ts =
        ap (λ (m : ℕ). repeats (length ts) (reads d (comma (Inner n))) (reach (suc m) d) ts) low
        ∙ ap (λ (b : Bool). repeats (length ts) (reads d (comma (Inner n))) b ts) (reach_one d (omega (arith, is)))
        ∙ inner_repeats (length ts) ts
        ∙ ap (λ (m : ℕ). repeats (length ts) (reads e (comma (table n))) (reach m e) ts) (sym (good.least_ n ∙ low))

    pub inner_list : (ts : List Tok) → reads d (list (Inner n)) ts ≡ reads e (list (table n)) ts
    inner_list ts = rw (inner_at d e is n ts) (go (reads e (table n) ts))
      where
        go : (o : Out (Value n)) → made (λ p. p.0 ∷ p.1) (row o (λ r. reads d (commas (Inner n)) r)) ≡ made (λ p. p.0 ∷ p.1) (row o (λ r. reads e (commas (table n)) r))
        go (Ok x) = ap (λ (o : Out (List (Value n))). made (λ p. p.0 ∷ p.1) (beside x.0 o)) (inner_commas x.1)
        go (Err m) = refl

-- expressions in braces
pub inner_exprs_are : (d e : ℕ) → e + 1 ≡ d → (ts : List Tok) → reads d inner_exprs ts ≡ reads e (list expr_code) ts
unfolding comma_expr inner_exprs
inner_exprs_are d e is ts = inner_list Expression d e is refl ts

pub inner_exprs_of : (e : ℕ) (ts : List Tok) → reads (e + 1) inner_exprs ts ≡ reads e (list expr_code) ts
inner_exprs_of e ts = inner_exprs_are (e + 1) e refl ts

-- ---- depths of lists that grow at their end

larger_max : (a b : ℕ) → larger a b ≡ max a b
larger_max a b = ⊎_elim
    (λ lt. larger_right a b (omega arith) ∙ omega arith)
    (λ le. ⊎_elim (λ lt. larger_left a b lt ∙ omega arith) (λ ge. larger_right a b ge ∙ omega arith) (cases_lt b a))
    (cases_lt a b)

larger_joins : (a b c : ℕ) → larger a (larger b c) ≡ larger (larger a b) c
larger_joins a b c =
    let p = larger_max b c in
    let q = larger_max a (larger b c) in
    let r = larger_max a b in
    let s = larger_max (larger a b) c in
    omega arith

larger_nothing : (a : ℕ) → larger a 0 ≡ larger 0 a
larger_nothing a = let p = larger_max a 0 in let q = larger_max 0 a in omega arith

pub exprs_depth_one : (e : Expr) → exprs_depth (expr_list (e ∷ [])) ≡ depth (expr e)
exprs_depth_one e = larger_nothing (depth (expr e))

pub exprs_depth_push : (es : List Expr) (e : Expr) → exprs_depth (expr_list (es ++ e ∷ [])) ≡ larger (exprs_depth (expr_list es)) (depth (expr e))
exprs_depth_push [] e = larger_nothing (depth (expr e))
exprs_depth_push (x ∷ es) e = ap (larger (depth (expr x))) (exprs_depth_push es e) ∙ larger_joins (depth (expr x)) (exprs_depth (expr_list es)) (depth (expr e))

pub suffixes_depth_push : (ss : List Suffix) (s : Suffix) (n : ℕ) → ((rest : tree.Suffixes) → suffixes_depth (suffix s rest) ≡ larger n (suffixes_depth rest))
    → suffixes_depth (suffix_list (ss ++ s ∷ [])) ≡ larger (suffixes_depth (suffix_list ss)) n
suffixes_depth_push [] s n h = h tree.NoSuffix ∙ larger_nothing n
suffixes_depth_push (Member m ∷ ss) s n h = suffixes_depth_push ss s n h
suffixes_depth_push (Call' at shape row ∷ ss) s n h = ap (larger (suc (exprs_depth (row_exprs row)))) (suffixes_depth_push ss s n h) ∙ larger_joins (suc (exprs_depth (row_exprs row))) (suffixes_depth (suffix_list ss)) n
suffixes_depth_push (Select' at p e ∷ ss) s n h = ap (larger (suc (depth (expr e)))) (suffixes_depth_push ss s n h) ∙ larger_joins (suc (depth (expr e))) (suffixes_depth (suffix_list ss)) n
suffixes_depth_push (Part' at w p a q b ∷ ss) s n h = ap (larger (suc (larger (depth (expr a)) (depth (expr b))))) (suffixes_depth_push ss s n h) ∙ larger_joins (suc (larger (depth (expr a)) (depth (expr b)))) (suffixes_depth (suffix_list ss)) n

pub inner_lvals_are : (d e : ℕ) → e + 1 ≡ d → (ts : List Tok) → reads d (list (Inner Target)) ts ≡ reads e (list lval_code) ts
inner_lvals_are d e is ts = inner_list Target d e is refl ts
