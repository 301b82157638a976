-- How a chain of operators goes on.
use Rattle.std.proofs.Common.{◌≡◌, ℕ, suc, ◌+◌, ◌-◌, ◌≤◌, ◌<◌, Bool, true, false, cond, ◌&&◌, List, [], ◌∷◌, length, drop, take, get_or, Ok, Err, refl, sym, ap, subst, ◌∙◌, arith}
use Rattle.std.proofs.lemmas.List.{take_rest}
use Rattle.sv_grammar.specs.Tokens.{Tok, next, mem}
use Rattle.sv_grammar.specs.Language.{Miss, TooDeep, Unexpected, Out}
use Rattle.sv_grammar.specs.Reading.{◌>>=◌, one_of}
use Rattle.sv_grammar.specs.Code.{fine, reach, readers, chain_from}
use Rattle.sv_grammar.specs.Code.Code.{Chain, Inner}
use Rattle.sv_grammar.proofs.Budgets.{le-reach}
use Rattle.sv_grammar.proofs.Answers.{no_true}
use Rattle.sv_grammar.proofs.Steps.{chain_stop, chain_deep, chain_fail, chain_more}
use Rattle.sv_tree.specs.declared.word.Precedence.{Precedence}
use Rattle.sv_tree.specs.declared.word.Precedence.TheVariants as precedence
use Rattle.sv_tree.specs.declared.kind.Kind.TheVariants as k
use Rattle.sv_tree.specs.Codes.{code, toks}
use Rattle.sv_tree.specs.Depth.{depth}
use Rattle.sv_tree.specs.Expr as tree
use Rattle.sv_tree.specs.Forms.{Production, Expression, Level, Value, C, kinds_of}
use Rattle.sv_tree.specs.ExprGrammar.{levels, unary, expr, expr_over, link, joined, binary_words, precedences, stronger, prefixed, prim, plain_prim, word_cast, number, time, text, null_, dollar, group, named, post_rest, this, this_post, super_call, system_call, braces, closed, cast, suffixes, suffix, select, comma_expr}
use Rattle.sv_tree.specs.Grammar.{table, heads, need, reads}
use Rattle.sv_tree.proofs.Good.{good}
use Rattle.sv_parse.specs.Outcome.{Fails}
use Rattle.sv_parse.specs.declared.tokens.ReadError.{ReadError}
use Rattle.sv_parse.specs.declared.tokens.ReadError.TheVariants as errors
use Rattle.sv_parse_expr.specs.Chains.{links, choices, climbed}
use Rattle.sv_parse_expr.proofs.Budgets.{inner_at, reach_short}
use Rattle.sv_parse_expr.proofs.Outcomes.{made, beside, row}

-- one reader after another, and a third
bind_joins : {A B D : Type 0} (o : Out A) (f : A × List Tok → Out B) (g : B × List Tok → Out D) → ((o >>= f) >>= g) ≡ (o >>= λ x. f x >>= g)
bind_joins (Ok x) f g = refl
bind_joins (Err m) f g = refl

bind_all : {A : Type 0} (o : Out A) → o ≡ (o >>= λ x. Ok (x.0, x.1))
bind_all (Ok x) = refl
bind_all (Err m) = refl

-- operators of precedences are an operand and the operators after it
pub levels_are : (operand : C tree.Expr) (ps : List Precedence) (d : ℕ) (ts : List Tok) → reads d (levels operand ps) ts ≡ (reads d operand ts >>= λ a. climbed ps d a.0 a.1)
unfolding levels climbed chain_from
levels_are operand [] d ts = bind_all (reads d operand ts)
levels_are operand (p ∷ ps) d ts = rw (levels_are operand ps d ts) (bind_joins (reads d operand ts) (λ a. climbed ps d a.0 a.1) (λ b. links p d b.0 b.1))

pub level_is : (ps : List Precedence) (d : ℕ) (ts : List Tok) → reads d (levels unary ps) ts ≡ (reads d unary ts >>= λ a. climbed ps d a.0 a.1)
level_is ps d ts = levels_are unary ps d ts

pub climbed_none : (ps : List Precedence) (d : ℕ) (a : tree.Expr) (ts : List Tok) → length ps < 1 → climbed ps d a ts ≡ Ok (a, ts)
unfolding climbed
climbed_none [] d a ts few = refl
climbed_none (p ∷ ps) d a ts few = absurd (omega arith)

pub climbed_some : (ps : List Precedence) (d : ℕ) (a : tree.Expr) (ts : List Tok) → 1 ≤ length ps → climbed ps d a ts ≡ (climbed (take (length ps - 1) (drop 1 ps)) d a ts >>= λ b. links (get_or ps 0 precedence.Power) d b.0 b.1)
unfolding climbed
climbed_some ps d a ts some = rw (take_rest ps 1) (go ps some)
  where
    go : (ps : List Precedence) → 1 ≤ length ps → climbed ps d a ts ≡ (climbed (drop 1 ps) d a ts >>= λ b. links (get_or ps 0 precedence.Power) d b.0 b.1)
    go [] some = absurd (omega arith)
    go (p ∷ ps) some = refl

-- what an operator of a precedence binds, with one token of look-ahead
fine_level : (p : Precedence) → fine Production Value heads need (Chain depth (joined p) (levels unary (stronger p)) (link p)) ≡ true
unfolding levels unary prefixed prim plain_prim word_cast number time text null_ dollar group named post_rest this this_post super_call system_call braces closed cast suffixes suffix select comma_expr
fine_level precedence.Power = refl
fine_level precedence.Multiplicative = refl
fine_level precedence.Additive = refl
fine_level precedence.Shift = refl
fine_level precedence.Relational = refl
fine_level precedence.Equality = refl
fine_level precedence.And = refl
fine_level precedence.Xor = refl
fine_level precedence.Or = refl
fine_level precedence.LogicalAnd = refl
fine_level precedence.LogicalOr = refl

-- ten bind more strongly at most
pub few_stronger : (p : Precedence) → length (stronger p) ≤ 10
few_stronger precedence.Power = omega arith
few_stronger precedence.Multiplicative = omega arith
few_stronger precedence.Additive = omega arith
few_stronger precedence.Shift = omega arith
few_stronger precedence.Relational = omega arith
few_stronger precedence.Equality = omega arith
few_stronger precedence.And = omega arith
few_stronger precedence.Xor = omega arith
few_stronger precedence.Or = omega arith
few_stronger precedence.LogicalAnd = omega arith
few_stronger precedence.LogicalOr = omega arith

low_nil : (p : Precedence) → mem 0 (kinds_of (binary_words p)) ≡ false
low_nil precedence.Power = refl
low_nil precedence.Multiplicative = refl
low_nil precedence.Additive = refl
low_nil precedence.Shift = refl
low_nil precedence.Relational = refl
low_nil precedence.Equality = refl
low_nil precedence.And = refl
low_nil precedence.Xor = refl
low_nil precedence.Or = refl
low_nil precedence.LogicalAnd = refl
low_nil precedence.LogicalOr = refl

and_left : (a b : Bool) → a ≡ false → (a && b) ≡ false
and_left true b e = absurd cc
and_left false b e = refl

and_true : (a b : Bool) → a ≡ true → b ≡ true → (a && b) ≡ true
and_true true b e f = f
and_true false b e f = absurd cc

room : (a d : ℕ) → a < d → (reach (suc a) d && reach 1 d) ≡ true
room a d low = and_true (reach (suc a) d) (reach 1 d) (le-reach (suc a) d (omega arith)) (le-reach 1 d (omega arith))

-- a token that was read is the next one
one_of_is : (ks : List ℕ) (ts : List Tok) (q : Tok × List Tok) → one_of ks ts ≡ Ok q → (ts ≡ q.0 ∷ q.1) × (mem q.0.code ks ≡ true)
one_of_is ks [] q e = absurd cc
one_of_is ks (t ∷ ts) q e = go (mem t.code ks) refl e
  where
    go : (b : Bool) → mem t.code ks ≡ b → cond b (Ok (t, ts)) (Err (Unexpected (t ∷ ts))) ≡ Ok q → (t ∷ ts ≡ q.0 ∷ q.1) × (mem q.0.code ks ≡ true)
    go true h e = let p : (t, ts) ≡ q = cc in subst (λ (x : Tok × List Tok). (t ∷ ts ≡ x.0 ∷ x.1) × (mem x.0.code ks ≡ true)) p (refl, h)
    go false h e = absurd cc

module _ (p : Precedence) (d : ℕ) (a : tree.Expr) where
  abbrev operators : List ℕ
  operators = kinds_of (binary_words p)

  pub links_stop : (ts : List Tok) → mem (next ts).code (kinds_of (binary_words p)) ≡ false → links p d a ts ≡ Ok (a, ts)
  links_stop ts h = chain_stop Production Value heads need table good depth (joined p) (levels unary (stronger p)) (link p) (fine_level p) d a ts h

  -- too deep for one more operator
  pub links_low : (ts : List Tok) → mem (next ts).code (kinds_of (binary_words p)) ≡ true → d ≤ depth a → links p d a ts ≡ Err (TooDeep ts)
  links_low [] h low = absurd (no_true (mem 0 operators) h (low_nil p))
  links_low (t ∷ ts) h low = chain_deep Production Value heads need table good depth (joined p) (levels unary (stronger p)) (link p) (fine_level p) d a t ts h (and_left (reach (suc (depth a)) d) (reach 1 d) (reach_short (depth a) d low))

  pub links_none : (ts : List Tok) (m : Miss) → mem (next ts).code (kinds_of (binary_words p)) ≡ true → one_of (kinds_of (binary_words p)) ts ≡ Err m → links p d a ts ≡ Err m
  links_none [] m h e = absurd (no_true (mem 0 operators) h (low_nil p))
  links_none (t ∷ ts) m h e = let f : one_of operators (t ∷ ts) ≡ Ok (t, ts) = rw h refl in absurd cc

  module _ (e : ℕ) (is : e + 1 ≡ d) (low : depth a < d) where
    -- an operator and its right operand
    link_is : (t : Tok) (ts : List Tok) → mem t.code operators ≡ true → reads d (link p) (t ∷ ts) ≡ (reads e (levels unary (stronger p)) ts >>= λ y. Ok ((t, y.0), y.1))
    link_is t ts h = rw (h, inner_at d e is (Level p) ts) refl

    pub links_bad : (ts : List Tok) (q : Tok × List Tok) (m : Miss) → one_of (kinds_of (binary_words p)) ts ≡ Ok q → reads e (levels unary (stronger p)) q.1 ≡ Err m → links p d a ts ≡ Err m
    links_bad ts q m h r =
        let f = one_of_is operators ts q h in
        rw f.0 (chain_fail Production Value heads need table good depth (joined p) (levels unary (stronger p)) (link p) (fine_level p) d a q.0 q.1 m f.1 (room (depth a) d low)
        (link_is q.0 q.1 f.1 ∙ ap (λ (o : Out tree.Expr). o >>= λ y. Ok ((q.0, y.0), y.1)) r))

    pub links_on : (ts : List Tok) (q : Tok × List Tok) (y : tree.Expr × List Tok) → one_of (kinds_of (binary_words p)) ts ≡ Ok q → reads e (levels unary (stronger p)) q.1 ≡ Ok y → links p d a ts ≡ links p d (joined p a (q.0, y.0)) y.1
    links_on ts q y h r =
        let f = one_of_is operators ts q h in
        rw f.0 (chain_more Production Value heads need table good depth (joined p) (levels unary (stronger p)) (link p) (fine_level p) d a q.0 q.1 ((q.0, y.0), y.1) f.1 (room (depth a) d low)
        (link_is q.0 q.1 f.1 ∙ ap (λ (o : Out tree.Expr). o >>= λ y. Ok ((q.0, y.0), y.1)) r))

    -- ---- for the loop of the code

    pub links_ends : (error : ReadError) (ts : List Tok) (q : Tok × List Tok) (all : Out tree.Expr) → one_of (kinds_of (binary_words p)) ts ≡ Ok q → Fails error (reads e (levels unary (stronger p)) q.1) → links p d a ts ≡ all → Fails error all
    links_ends errors.Memory ts q all h f told = tt
    links_ends (errors.TooDeep rest) ts q all h f told = sym told ∙ links_bad ts q (TooDeep (toks rest.now)) h f
    links_ends (errors.Unexpected rest) ts q all h f told = sym told ∙ links_bad ts q (Unexpected (toks rest.now)) h f

    pub links_goes_on : (b : tree.Expr) (ts : List Tok) (q : Tok × List Tok) (y : tree.Expr × List Tok) (all : Out tree.Expr) → one_of (kinds_of (binary_words p)) ts ≡ Ok q → reads e (levels unary (stronger p)) q.1 ≡ Ok y → b ≡ joined p a (q.0, y.0) → links p d a ts ≡ all → links p d b y.1 ≡ all
    links_goes_on b ts q y all h r made told = rw made (sym (links_on ts q y h r) ∙ told)

-- ---- choices

pub expr_over_is : (operand : C tree.Expr) (d : ℕ) (ts : List Tok) → reads d (expr_over operand) ts ≡ (reads d (levels operand precedences) ts >>= λ c. choices d c.0 c.1)
unfolding expr_over choices
expr_over_is operand d ts = refl

pub expr_is : (d : ℕ) (ts : List Tok) → reads d expr ts ≡ (reads d (levels unary precedences) ts >>= λ c. choices d c.0 c.1)
unfolding expr
expr_is d ts = expr_over_is unary d ts

pub choices_none : (d : ℕ) (c : tree.Expr) (ts : List Tok) → mem (next ts).code (code k.Question ∷ []) ≡ false → choices d c ts ≡ Ok (c, ts)
unfolding choices
choices_none d c ts h = rw h refl

pub choices_deep : (d : ℕ) (c : tree.Expr) (ts : List Tok) → mem (next ts).code (code k.Question ∷ []) ≡ true → d ≤ depth c → choices d c ts ≡ Err (TooDeep ts)
unfolding choices
choices_deep d c ts h low = rw (h, and_left (reach (suc (depth c)) d) (reach 1 d) (reach_short (depth c) d low)) refl

-- a choice, part by part
pub choices_on : (d e : ℕ) (c : tree.Expr) (ts : List Tok) → e + 1 ≡ d → depth c < d → mem (next ts).code (code k.Question ∷ []) ≡ true → choices d c ts ≡ (one_of (code k.Question ∷ []) ts >>= λ q. reads e expr q.1 >>= λ y. one_of (code k.Colon ∷ []) y.1 >>= λ m. reads e expr m.1 >>= λ n. Ok (tree.Choose c y.0 n.0, n.1))
unfolding choices
choices_on d e c ts is low h = rw (h, room (depth c) d low) (go (one_of (code k.Question ∷ []) ts))
  where
    last : (y : tree.Expr) (o : Out tree.Expr) → made (λ (p : tree.Expr × tree.Expr). tree.Choose c p.0 p.1) (beside y o) ≡ (o >>= λ n. Ok (tree.Choose c y n.0, n.1))
    last y (Ok n) = refl
    last y (Err m) = refl

    colon : (t : Tok) (y : tree.Expr) (o : Out Tok) → made (λ (p : tree.Expr × tree.Expr). tree.Choose c p.0 p.1) (row (made (λ p. p.1) (beside t (made (λ p. p.0) (beside y o)))) (λ r. reads d (Inner Expression) r)) ≡ (o >>= λ m. reads e expr m.1 >>= λ n. Ok (tree.Choose c y n.0, n.1))
    colon t y (Ok m) = rw (inner_at d e is Expression m.1) (last y (reads e expr m.1))
    colon t y (Err m) = refl

    branch : (t : Tok) (o : Out tree.Expr) → made (λ (p : tree.Expr × tree.Expr). tree.Choose c p.0 p.1) (row (made (λ p. p.1) (beside t (made (λ p. p.0) (row o (λ s. one_of (code k.Colon ∷ []) s))))) (λ r. reads d (Inner Expression) r)) ≡ (o >>= λ y. one_of (code k.Colon ∷ []) y.1 >>= λ m. reads e expr m.1 >>= λ n. Ok (tree.Choose c y.0 n.0, n.1))
    branch t (Ok y) = colon t y.0 (one_of (code k.Colon ∷ []) y.1)
    branch t (Err m) = refl

    go : (o : Out Tok) → made (λ (p : tree.Expr × tree.Expr). tree.Choose c p.0 p.1) (row (made (λ p. p.1) (row o (λ r. made (λ p. p.0) (row (reads d (Inner Expression) r) (λ s. one_of (code k.Colon ∷ []) s))))) (λ r. reads d (Inner Expression) r)) ≡ (o >>= λ q. reads e expr q.1 >>= λ y. one_of (code k.Colon ∷ []) y.1 >>= λ m. reads e expr m.1 >>= λ n. Ok (tree.Choose c y.0 n.0, n.1))
    go (Ok q) = rw (inner_at d e is Expression q.1) (branch q.0 (reads e expr q.1))
    go (Err m) = refl

-- ---- an operator before an operand

pub inner_unary : (d e : ℕ) (ts : List Tok) → e + 1 ≡ d → readers Production Value heads need table d (Level precedence.Power) ts ≡ reads e unary ts
unfolding levels
inner_unary d e ts is = inner_at d e is (Level precedence.Power) ts
