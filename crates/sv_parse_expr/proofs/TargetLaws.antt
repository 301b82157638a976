-- What a call and a target begin with, and lists of targets.
use Rattle.std.proofs.Common.{◌≡◌, ℕ, ◌<◌, Bool, true, false, cond, List, [], ◌∷◌, Ok, Err, refl}
use Rattle.sv_grammar.specs.Tokens.{Tok, next, mem}
use Rattle.sv_grammar.specs.Language.{TooDeep, Unexpected}
use Rattle.sv_grammar.specs.Reading.{◌>>=◌}
use Rattle.sv_grammar.specs.Code.{reach}
use Rattle.sv_tree.specs.declared.kind.Kind.TheVariants as k
use Rattle.sv_tree.specs.Codes.{code}
use Rattle.sv_tree.specs.Expr as tree
use Rattle.sv_tree.specs.Forms.{codes_of, comma, list}
use Rattle.sv_tree.specs.Grammar.{reads}
use Rattle.sv_tree.specs.ExprGrammar.{call, post, named_post, this_post, super_post, post_rest, lval, targets, prim, this, super_call, system_call, suffixes, suffix, select}
use Rattle.sv_parse.specs.Parts.{IsKnown, IsListed, from}
use Rattle.sv_parse.proofs.Loops.{IsLoop, loop_stop}
use Rattle.sv_parse.proofs.PartLaws as laws
use Rattle.sv_parse_expr.specs.First.{post_first}
use Rattle.sv_parse_expr.proofs.Budgets.{reach_one}
use Rattle.sv_parse_expr.proofs.Known.{is_one}
use Rattle.sv_parse_expr.proofs.Prims.{prim_this, prim_super}

-- what begins a target
abbrev lval_first : List ℕ
lval_first = codes_of (k.Name ∷ k.This ∷ k.Super ∷ k.LeftBrace ∷ [])

-- ---- names with what follows them

pub post_named : (d : ℕ) (ts : List Tok) → mem (next ts).code (code k.Name ∷ []) ≡ true → reads d post ts ≡ reads d named_post ts
unfolding post named_post this_post super_post post_rest suffixes suffix select
post_named d ts h = rw (is_one (next ts).code (code k.Name) h) refl

pub post_this : (d : ℕ) (ts : List Tok) → mem (next ts).code (code k.This ∷ []) ≡ true → reads d post ts ≡ reads d this_post ts
unfolding post named_post this_post super_post post_rest suffixes suffix select
post_this d ts h = rw (is_one (next ts).code (code k.This) h) refl

pub post_super : (d : ℕ) (ts : List Tok) → mem (next ts).code (code k.Name ∷ []) ≡ false → mem (next ts).code (code k.This ∷ []) ≡ false → reads d post ts ≡ reads d super_post ts
unfolding post named_post this_post super_post post_rest suffixes suffix select
post_super d ts h g = rw (h, g) refl

-- ---- calls

pub call_named : (d : ℕ) (ts : List Tok) → mem (next ts).code (code k.Name ∷ []) ≡ true → reads d call ts ≡ (reads d named_post ts >>= λ p. Ok (tree.Expr.Post p.0.0 p.0.1, p.1))
unfolding call named_post this_post super_call system_call post_rest suffixes suffix select
call_named d ts h = rw (is_one (next ts).code (code k.Name) h) refl

pub call_this : (d : ℕ) (ts : List Tok) → mem (next ts).code (code k.This ∷ []) ≡ true → reads d call ts ≡ reads d prim ts
unfolding call named_post this_post super_call system_call post_rest suffixes suffix select this
call_this d ts h = rw (prim_this d ts h, is_one (next ts).code (code k.This) h) refl

pub call_super : (d : ℕ) (ts : List Tok) → mem (next ts).code (code k.Super ∷ []) ≡ true → reads d call ts ≡ reads d prim ts
unfolding call named_post this_post super_call system_call post_rest suffixes suffix select
call_super d ts h = rw (prim_super d ts h, is_one (next ts).code (code k.Super) h) refl

pub call_system : (d : ℕ) (ts : List Tok) → mem (next ts).code (code k.SystemName ∷ []) ≡ true → reads d call ts ≡ reads d system_call ts
unfolding call named_post this_post super_call system_call post_rest suffixes suffix select
call_system d ts h = rw (is_one (next ts).code (code k.SystemName) h) refl

pub call_none : (d : ℕ) (ts : List Tok) → mem (next ts).code (code k.Name ∷ []) ≡ false → mem (next ts).code (code k.This ∷ []) ≡ false → mem (next ts).code (code k.Super ∷ []) ≡ false → mem (next ts).code (code k.SystemName ∷ []) ≡ false → reads d call ts ≡ Err (Unexpected ts)
unfolding call named_post this_post super_call system_call post_rest suffixes suffix select
call_none d [] h g i j = refl
call_none d (t ∷ ts) h g i j = rw (h, g, i, j) refl

-- ---- targets

-- what begins a name with what follows it
pub lval_post : (d : ℕ) (ts : List Tok) → mem (next ts).code post_first ≡ true → reads d lval ts ≡ (reads d post ts >>= λ p. Ok (tree.Lval.Post p.0.0 p.0.1, p.1))
unfolding lval post named_post this_post super_post post_rest suffixes suffix select targets
lval_post d ts h = rw h refl

same_both : {A : Type 0} (b : Bool) (x : A) → cond b x x ≡ x
same_both true x = refl
same_both false x = refl

pub lval_none : (d : ℕ) (ts : List Tok) → mem (next ts).code post_first ≡ false → mem (next ts).code (code k.LeftBrace ∷ []) ≡ false → reads d lval ts ≡ Err (Unexpected ts)
unfolding lval post named_post this_post super_post post_rest suffixes suffix select targets
lval_none d [] h g = same_both (reach 1 d) (Err (Unexpected []))
lval_none d (t ∷ ts) h g = rw (h, g) (same_both (reach 1 d) (Err (Unexpected (t ∷ ts))))

pub lval_targets : (d : ℕ) (ts : List Tok) → 0 < d → mem (next ts).code (code k.LeftBrace ∷ []) ≡ true → reads d lval ts ≡ reads d targets ts
unfolding lval post named_post this_post super_post post_rest suffixes suffix select targets
lval_targets d ts some h = rw (is_one (next ts).code (code k.LeftBrace) h, reach_one d some) refl

pub lval_deep : (d : ℕ) (ts : List Tok) → d ≡ 0 → mem (next ts).code (code k.LeftBrace ∷ []) ≡ true → reads d lval ts ≡ Err (TooDeep ts)
unfolding lval post named_post this_post super_post post_rest suffixes suffix select targets
lval_deep d ts none h = rw (none, is_one (next ts).code (code k.LeftBrace) h) refl

-- ---- lists of targets

lval_known : IsKnown lval lval_first
unfolding lval post named_post this_post super_post post_rest suffixes suffix select targets
lval_known = record { passes = refl; begins = refl; some = refl; kinds = refl; low = refl }

lval_listed : IsListed lval
unfolding lval post named_post this_post super_post post_rest suffixes suffix select targets
lval_listed = refl

pub commas_loop : IsLoop (comma lval) (code k.Comma ∷ []) 0
commas_loop = laws.listed_loop lval lval_first lval_known lval_listed

pub commas_stop : (d : ℕ) (prefix : List tree.Lval) (ts : List Tok) → mem (next ts).code (code k.Comma ∷ []) ≡ false → from (comma lval) d prefix ts ≡ Ok (prefix, ts)
commas_stop d prefix ts h = loop_stop (comma lval) (code k.Comma ∷ []) 0 commas_loop d prefix ts h

pub list_is : (d : ℕ) (ts : List Tok) → reads d (list lval) ts ≡ (reads d lval ts >>= λ x. from (comma lval) d (x.0 ∷ []) x.1)
list_is d ts = laws.list_is lval lval_first lval_known d ts
