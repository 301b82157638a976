-- What follows a cast does not depend on the type of the cast.
use Rattle.std.proofs.Common.{◌≡◌, ℕ, zero, suc, Bool, true, false, cond, ◌&&◌, List, [], ◌∷◌, length, Ok, Err, refl, sym, ap, ◌∙◌}
use Rattle.sv_grammar.specs.Tokens.{Tok, next, mem}
use Rattle.sv_grammar.specs.Language.{TooDeep, Out}
use Rattle.sv_grammar.specs.Reading.{◌>>=◌, run_upto}
use Rattle.sv_grammar.specs.Code.{chain_from, fold_left, info, least, reach}
use Rattle.sv_grammar.specs.Code.Code.{Map}
use Rattle.sv_tree.specs.declared.expr.CastType.{CastType}
use Rattle.sv_tree.specs.declared.expr.CastType.TheVariants as cast_type
use Rattle.sv_tree.specs.declared.word.Precedence.{Precedence}
use Rattle.sv_tree.specs.declared.kind.Kind.TheVariants as k
use Rattle.sv_tree.specs.Codes.{code}
use Rattle.sv_tree.specs.Depth.{depth}
use Rattle.sv_tree.specs.Expr as tree
use Rattle.sv_tree.specs.Forms.{Production, Value}
use Rattle.sv_tree.specs.ExprGrammar.{link, joined, choose, branches, with_cast, cast, cast_rest, precedences}
use Rattle.sv_tree.specs.Grammar.{heads, need, reads}
use Rattle.sv_parse_expr.specs.Chains.{links, climbed, choices}
use Rattle.sv_parse_expr.specs.Casts.{recast}
use Rattle.sv_parse_expr.proofs.Links.{expr_over_is, levels_are}

pub depth_recast : (c : CastType) (e : tree.Expr) → depth (with_cast c e) ≡ depth e
depth_recast c (tree.Number at text) = refl
depth_recast c (tree.Time at text) = refl
depth_recast c (tree.Text at bytes) = refl
depth_recast c (tree.Null at) = refl
depth_recast c (tree.Dollar at) = refl
depth_recast c (tree.Group at e) = refl
depth_recast c (tree.Expr.Post r s) = refl
depth_recast c (tree.System n a) = refl
depth_recast c (tree.SuperNew at new a) = refl
depth_recast c (tree.Expr.Join at es) = refl
depth_recast c (tree.Repeat at n inner es) = refl
depth_recast c (tree.Cast d e) = refl
depth_recast c (tree.Unary at op e) = refl
depth_recast c (tree.Binary op at a b) = rw (depth_recast c a) refl
depth_recast c (tree.Choose a x y) = rw (depth_recast c a) refl

module _ (p : Precedence) (d : ℕ) (c : CastType) where
  abbrev kinds : List ℕ
  kinds = (info Production Value heads need (link p)).first

  abbrev run : ℕ → tree.Expr → List Tok → Out (List (Tok × tree.Expr))
  run f a ts = run_upto f (λ s. kinds) (λ s. reach (least Production Value heads need (link p)) d) (λ s. reach (suc (depth s)) d) (joined p) (λ s. reads d (link p)) a ts

  run_recast : (f : ℕ) (a : tree.Expr) (ts : List Tok) → run f (with_cast c a) ts ≡ run f a ts
  run_recast zero a ts = refl
  run_recast (suc f) a ts = rw (depth_recast c a) (ap (λ (o : Out (List (Tok × tree.Expr))). cond (mem (next ts).code kinds) (cond (reach (suc (depth a)) d && reach (least Production Value heads need (link p)) d) o (Err (TooDeep ts))) (Ok ([], ts))) (go (reads d (link p) ts) (λ x. run_recast f (joined p a x.0) x.1)))
    where
      go : (o : Out (Tok × tree.Expr)) → ((x : (Tok × tree.Expr) × List Tok) → run f (joined p (with_cast c a) x.0) x.1 ≡ run f (joined p a x.0) x.1) → (o >>= λ x. run f (joined p (with_cast c a) x.0) x.1 >>= λ y. Ok (x.0 ∷ y.0, y.1)) ≡ (o >>= λ x. run f (joined p a x.0) x.1 >>= λ y. Ok (x.0 ∷ y.0, y.1))
      go (Ok x) same = ap (λ (o : Out (List (Tok × tree.Expr))). o >>= λ y. Ok (x.0 ∷ y.0, y.1)) (same x)
      go (Err m) same = refl

  fold_recast : (bs : List (Tok × tree.Expr)) (a : tree.Expr) → fold_left (joined p) (with_cast c a) bs ≡ with_cast c (fold_left (joined p) a bs)
  fold_recast [] a = refl
  fold_recast (b ∷ bs) a = fold_recast bs (joined p a b)

  pub links_recast : (a : tree.Expr) (ts : List Tok) → links p d (with_cast c a) ts ≡ recast c (links p d a ts)
  unfolding chain_from
  links_recast a ts = rw (run_recast (length ts) a ts) (go (run (length ts) a ts))
    where
      go : (o : Out (List (Tok × tree.Expr))) → (o >>= λ bs. Ok (fold_left (joined p) (with_cast c a) bs.0, bs.1)) ≡ recast c (o >>= λ bs. Ok (fold_left (joined p) a bs.0, bs.1))
      go (Ok bs) = rw (fold_recast bs.0 a) refl
      go (Err m) = refl

pub climbed_recast : (ps : List Precedence) (d : ℕ) (c : CastType) (a : tree.Expr) (ts : List Tok) → climbed ps d (with_cast c a) ts ≡ recast c (climbed ps d a ts)
unfolding climbed
climbed_recast [] d c a ts = refl
climbed_recast (p ∷ ps) d c a ts = rw (climbed_recast ps d c a ts) (go (climbed ps d a ts))
  where
    go : (o : Out tree.Expr) → (recast c o >>= λ b. links p d b.0 b.1) ≡ recast c (o >>= λ b. links p d b.0 b.1)
    go (Ok b) = links_recast p d c b.0 b.1
    go (Err m) = refl

pub choices_recast : (d : ℕ) (c : CastType) (a : tree.Expr) (ts : List Tok) → choices d (with_cast c a) ts ≡ recast c (choices d a ts)
unfolding choices
choices_recast d c a ts = rw (depth_recast c a) (go (mem (next ts).code (code k.Question ∷ [])) (reach (suc (depth a)) d && reach 1 d) (reads d branches ts))
  where
    go : (b on : Bool) (o : Out (tree.Expr × tree.Expr)) → cond b (cond on (o >>= λ y. Ok (choose (with_cast c a) y.0, y.1)) (Err (TooDeep ts))) (Ok (with_cast c a, ts)) ≡ recast c (cond b (cond on (o >>= λ y. Ok (choose a y.0, y.1)) (Err (TooDeep ts))) (Ok (a, ts)))
    go true true (Ok y) = refl
    go true true (Err m) = refl
    go true false o = refl
    go false on o = refl

-- ---- the rest of an expression that begins with a cast

choices_after : (d : ℕ) (c : CastType) (o : Out tree.Expr) → recast c (o >>= λ b. choices d b.0 b.1) ≡ (recast c o >>= λ b. choices d b.0 b.1)
choices_after d c (Ok b) = sym (choices_recast d c b.0 b.1)
choices_after d c (Err m) = refl

-- the type that stands in the place of the one that is put in later
abbrev any_type : CastType
any_type = cast_type.Text (record { file = 0; line = 0; col = 0 })

climbed_after : (ps : List Precedence) (d : ℕ) (c : CastType) (e : tree.Expr) (ts : List Tok) → recast c (climbed ps d (tree.Cast any_type e) ts >>= λ b. choices d b.0 b.1) ≡ (climbed ps d (tree.Cast c e) ts >>= λ b. choices d b.0 b.1)
climbed_after ps d c e ts = choices_after d c (climbed ps d (tree.Cast any_type e) ts) ∙ ap (λ (o : Out tree.Expr). o >>= λ b. choices d b.0 b.1) (sym (climbed_recast ps d c (tree.Cast any_type e) ts))

pub cast_rest_is : (d : ℕ) (c : CastType) (ts : List Tok) → recast c (reads d cast_rest ts) ≡ (reads d (Map (λ e. tree.Cast c e) cast) ts >>= λ a. climbed precedences d a.0 a.1 >>= λ b. choices d b.0 b.1)
unfolding cast_rest
cast_rest_is d c ts = rw (expr_over_is (Map (λ e. tree.Cast any_type e) cast) d ts, levels_are (Map (λ e. tree.Cast any_type e) cast) precedences d ts) (go (reads d cast ts))
  where
    go : (o : Out tree.Expr) → recast c (((o >>= λ x. Ok (tree.Cast any_type x.0, x.1)) >>= λ a. climbed precedences d a.0 a.1) >>= λ b. choices d b.0 b.1) ≡ ((o >>= λ x. Ok (tree.Cast c x.0, x.1)) >>= λ a. climbed precedences d a.0 a.1 >>= λ b. choices d b.0 b.1)
    go (Ok x) = climbed_after precedences d c x.0 x.1
    go (Err m) = refl
