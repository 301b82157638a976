-- What fits, and productions that are one deeper.
use Rattle.std.proofs.Common.{◌≡◌, ℕ, suc, ◌+◌, ◌<◌, ◌≤◌, true, false, List, refl, arith, add-one}
use Rattle.sv_grammar.specs.Tokens.{Tok}
use Rattle.sv_grammar.specs.Code.{readers, reach}
use Rattle.sv_grammar.proofs.Budgets.{le-reach, reach-le}
use Rattle.sv_tree.specs.Forms.{Production, Value}
use Rattle.sv_tree.specs.Grammar.{table, heads, need, reads}

pub reach_one : (d : ℕ) → 0 < d → reach 1 d ≡ true
reach_one d lt = le-reach 1 d (omega arith)

pub reach_more : (a d : ℕ) → a < d → reach (suc a) d ≡ true
reach_more a d lt = le-reach (suc a) d (omega arith)

pub reach_short : (a d : ℕ) → d ≤ a → reach (suc a) d ≡ false
reach_short a d le = go (reach (suc a) d) refl
  where
    go : (b : _) → reach (suc a) d ≡ b → b ≡ false
    go true e = let h = reach-le (suc a) d e in absurd (omega arith)
    go false e = refl

pub reach_two : (d inner innermost : ℕ) → inner + 1 ≡ d → innermost + 1 ≡ inner → reach 2 d ≡ true
reach_two d inner innermost is fits = le-reach 2 d (omega arith)

pub reach_not_two : (d inner : ℕ) → inner + 1 ≡ d → inner ≡ 0 → reach 2 d ≡ false
reach_not_two d inner is none = reach_short 1 d (omega arith)

-- a production that is one deeper
pub inner_of : (e : ℕ) (n : Production) (ts : List Tok) → readers Production Value heads need table (e + 1) n ts ≡ reads e (table n) ts
inner_of e n ts = rw (add-one e) refl

pub inner_at : (d e : ℕ) → e + 1 ≡ d → (n : Production) (ts : List Tok) → readers Production Value heads need table d n ts ≡ reads e (table n) ts
inner_at d e is n ts = rw (← is) (inner_of e n ts)
