-- Grammars as data: the meaning of a grammar, and the reader of it.
use Rattle.std.specs.Prelude.{ℕ, zero, suc, Bool, true, false, List, [], ◌∷◌, ◌++◌, length, Ok, Err, if◌then◌else◌, ◌&&◌, ◌||◌, ◌==◌}
use Rattle.sv_grammar.specs.Tokens.{Tok, mem, disjoint}
use Rattle.sv_grammar.specs.Info.{Info, then_info, return_info, one_info, or_info, unless_info, run_info, is_some_kind}
use Rattle.sv_grammar.specs.Language.{Lang, Then, OneOf, Return, Nothing, Or, Only, Unless, Run, Out, Unexpected}
use Rattle.sv_grammar.specs.Reading.{◌>>=◌, one_of, either, maybe, run_upto}

-- N: the names of the productions that refer to one another. V n: the trees of n
pub data Code (N : Type 0) (V : N → Type 0) : Type 0 → Type 1 where
  -- a token of these kinds
  One : (ks : List ℕ) → Code N V Tok
  -- no token
  Done : {A : Type 0} → A → Code N V A
  -- one after the other
  Seq : {A B : Type 0} → Code N V A → Code N V B → Code N V (A × B)
  Map : {A B : Type 0} → (A → B) → Code N V A → Code N V B
  -- one or the other
  Alt : {A : Type 0} → Code N V A → Code N V A → Code N V A
  -- nothing, with this value, only where the next token doesn't begin the code
  Opt : {A : Type 0} → A → Code N V A → Code N V A
  -- any number of them
  Rep : {A : Type 0} → Code N V A → Code N V (List A)
  -- any number of items of the first code; after one for which the test holds, of the second alone
  Items : {A : Type 0} → (A → Bool) → Code N V A → Code N V A → Code N V (List A)
  -- a first one, then any number that each take in what stands before; depth: of the values
  Chain : {A T : Type 0} → (A → ℕ) → (A → T → A) → Code N V A → Code N V T → Code N V A
  -- the same, with one at most
  Once : {A T : Type 0} → (A → ℕ) → (A → T → A) → Code N V A → Code N V T → Code N V A
  -- a production, one deeper
  Inner : (n : N) → Code N V (V n)

-- a ≤ d
abbrev pub reach : ℕ → ℕ → Bool
reach zero d = true
reach (suc a) zero = false
reach (suc a) (suc d) = reach a d

-- the larger of two
abbrev pub larger : ℕ → ℕ → ℕ
larger a b = if reach a b then b else a

-- the smaller of two
abbrev pub smaller : ℕ → ℕ → ℕ
smaller a b = if reach a b then a else b

-- the other truth value
abbrev pub no : Bool → Bool
no true = false
no false = true

-- a value moved by each item in turn
abbrev pub fold_left : {A T : Type 0} → (A → T → A) → A → List T → A
fold_left f a [] = a
fold_left f a (t ∷ ts) = fold_left f (f a t) ts

-- whether each of the first set is in the second
abbrev pub subset : List ℕ → List ℕ → Bool
subset [] ys = true
subset (x ∷ xs) ys = mem x ys && subset xs ys

-- the first of two values where the test holds, else the second
abbrev pub pick : {A : Type 0} → Bool → A → A → A
pick true x y = x
pick false x y = y

-- the same of two languages
abbrev pub pick_lang : {A : Type 0} → Bool → Lang A → Lang A → Lang A
pick_lang true L M = L
pick_lang false L M = M

-- what is known of an item, early or late
abbrev pub item_info : Info → Info → Info
item_info i j = record { first = i.first; cont = i.cont ++ j.cont; null = false }

-- heads: what is known of the texts of each production. need: the least depth of its trees
module _ (N : Type 0) (V : N → Type 0) (heads : N → Info) (need : N → ℕ) where
  -- what is known of the texts of a grammar, computed
  abbrev pub info : {A : Type 0} → Code N V A → Info
  info (One ks) = one_info ks
  info (Done a) = return_info
  info (Seq a b) = then_info (info a) (then_info (info b) return_info)
  info (Map f a) = then_info (info a) return_info
  info (Alt a b) = or_info (info a) (info b)
  info (Opt x a) = unless_info (info a)
  info (Rep a) = run_info (info a)
  info (Items late a b) = run_info (item_info (info a) (info b))
  info (Chain depth step x t) = then_info (info x) (then_info (run_info (info t)) return_info)
  info (Once depth join x t) = then_info (info x) (or_info (then_info (info t) return_info) return_info)
  info (Inner n) = heads n

  -- the least depth of a tree
  abbrev pub least : {A : Type 0} → Code N V A → ℕ
  least (One ks) = 0
  least (Done a) = 0
  least (Seq a b) = larger (least a) (least b)
  least (Map f a) = least a
  least (Alt a b) = smaller (least a) (least b)
  least (Opt x a) = least a
  least (Rep a) = 0
  least (Items late a b) = 0
  least (Chain depth step x t) = least x
  least (Once depth join x t) = least x
  least (Inner n) = suc (need n)

  -- the texts at budget d, where E n are those of the production n that are one deeper
  abbrev pub texts : ((n : N) → Lang (V n)) → ℕ → {A : Type 0} → Code N V A → Lang A
  texts E d (One ks) = OneOf ks
  texts E d (Done a) = Return a
  texts E d (Seq a b) = Then (texts E d a) (λ x. Then (texts E d b) (λ y. Return (x, y)))
  texts E d (Map f a) = Then (texts E d a) (λ x. Return (f x))
  texts E d (Alt a b) = Or (texts E d a) (texts E d b)
  texts E d (Opt x a) = Only (reach (least a) d) (Unless (info a).first x (texts E d a))
  texts E d (Rep a) = Run (λ (s : Unit {0}). true) (λ s x. s) (λ s. texts E d a) tt
  texts E d (Items late a b) = Run (λ s. true) (λ s x. s || late x) (λ s. pick_lang s (texts E d b) (texts E d a)) false
  texts E d (Chain depth step x t) = Then (texts E d x) (λ a. Then (Run (λ s. reach (suc (depth s)) d) step (λ s. texts E d t) a) (λ bs. Return (fold_left step a bs)))
  texts E d (Once depth join x t) = Then (texts E d x) (λ a. Or (Only (reach (suc (depth a)) d) (Then (texts E d t) (λ y. Return (join a y)))) (Return a))
  texts E d (Inner n) = E n

  -- the reader at budget d, where P n reads the production n one deeper
  abbrev pub read : ((n : N) → List Tok → Out (V n)) → ℕ → {A : Type 0} → Code N V A → List Tok → Out A
  read P d (One ks) ts = one_of ks ts
  read P d (Done a) ts = Ok (a, ts)
  read P d (Seq a b) ts = read P d a ts >>= λ x. read P d b x.1 >>= λ y. Ok ((x.0, y.0), y.1)
  read P d (Map f a) ts = read P d a ts >>= λ x. Ok (f x.0, x.1)
  read P d (Alt a b) ts = either (info a).first (reach (least a) d) (read P d a) (info b).first (reach (least b) d) (read P d b) ts
  read P d (Opt x a) ts = maybe (info a).first x (read P d a) ts
  read P d (Rep a) ts = run_upto (length ts) (λ s. (info a).first) (λ s. reach (least a) d) (λ (s : Unit {0}). true) (λ s x. s) (λ s. read P d a) tt ts
  read P d (Items late a b) ts = run_upto (length ts) (λ s. (pick s (info b) (info a)).first) (λ s. pick s (reach (least b) d) (reach (least a) d)) (λ s. true) (λ s x. s || late x) (λ s r. pick s (read P d b r) (read P d a r)) false ts
  read P d (Chain depth step x t) ts = read P d x ts >>= λ a. run_upto (length a.1) (λ s. (info t).first) (λ s. reach (least t) d) (λ s. reach (suc (depth s)) d) step (λ s. read P d t) a.0 a.1 >>= λ bs. Ok (fold_left step a.0 bs.0, bs.1)
  read P d (Once depth join x t) ts = read P d x ts >>= λ a. either (then_info (info t) return_info).first (reach (suc (depth a.0)) d && reach (least t) d) (λ r. read P d t r >>= λ y. Ok (join a.0 y.0, y.1)) [] true (λ r. Ok (a.0, r)) a.1
  read P d (Inner n) ts = P n ts

  -- the conditions under which reading with one token of look-ahead is right
  abbrev pub fine : {A : Type 0} → Code N V A → Bool
  fine (One ks) = is_some_kind ks && no (mem 0 ks)
  fine (Done a) = true
  fine (Seq a b) = fine a && (fine b && disjoint (info a).cont (info b).first)
  fine (Map f a) = fine a
  fine (Alt a b) = fine a && (fine b && (no (info a).null && (disjoint (info a).first (info b).first && (if (info b).null then least b == 0 else true))))
  fine (Opt x a) = fine a && no (info a).null
  fine (Rep a) = fine a && (no (info a).null && (disjoint (info a).cont (info a).first && no (mem 0 (info a).first)))
  fine (Items late a b) = fine a && (fine b && (no (info a).null && (no (info b).null && (subset (info b).first (info a).first && (disjoint ((info a).cont ++ (info b).cont) (info a).first && (disjoint (info a).cont (info a).first && (disjoint (info b).cont (info a).first && (no (mem 0 (info a).first) && no (mem 0 (info b).first)))))))))
  fine (Chain depth step x t) = fine x && (fine t && (no (info t).null && (disjoint (info t).cont (info t).first && (no (mem 0 (info t).first) && disjoint (info x).cont (info t).first))))
  fine (Once depth join x t) = fine x && (fine t && (no (info t).null && disjoint (info x).cont (info t).first))
  fine (Inner n) = true

  -- whether no text begins with one of the productions for which the test fails
  abbrev pub leads : (N → Bool) → {A : Type 0} → Code N V A → Bool
  leads ok (One ks) = true
  leads ok (Done a) = true
  leads ok (Seq a b) = leads ok a && (if (info a).null then leads ok b else true)
  leads ok (Map f a) = leads ok a
  leads ok (Alt a b) = leads ok a && leads ok b
  leads ok (Opt x a) = leads ok a
  leads ok (Rep a) = leads ok a
  leads ok (Items late a b) = leads ok a
  leads ok (Chain depth step x t) = leads ok x && (if (info x).null then leads ok t else true)
  leads ok (Once depth join x t) = leads ok x && (if (info x).null then leads ok t else true)
  leads ok (Inner n) = ok n

  module _ (table : (n : N) → Code N V (V n)) where
    -- the texts of each production that are one deeper, at budget d
    abbrev pub below : ℕ → (n : N) → Lang (V n)
    below zero n = Nothing
    below (suc d) n = texts (below d) d (table n)

    -- the readers of each production, one deeper
    abbrev pub readers : ℕ → (n : N) → List Tok → Out (V n)
    readers zero n ts = Err (Unexpected ts)
    readers (suc d) n ts = read (readers d) d (table n) ts

-- what is read of a chain after a, and the tokens after it
unfoldable pub chain_from : (N : Type 0) (V : N → Type 0) (heads : N → Info) (need : N → ℕ) (table : (n : N) → Code N V (V n)) {A T : Type 0} (depth : A → ℕ) (step : A → T → A) (t : Code N V T) (d : ℕ) → A → List Tok → Out A
chain_from N V heads need table depth step t d a ts = run_upto (length ts) (λ s. (info N V heads need t).first) (λ s. reach (least N V heads need t) d) (λ s. reach (suc (depth s)) d) step (λ s. read N V heads need (readers N V heads need table d) d t) a ts >>= λ bs. Ok (fold_left step a bs.0, bs.1)

-- what is read of a list, after the items before
unfoldable pub list_from : (N : Type 0) (V : N → Type 0) (heads : N → Info) (need : N → ℕ) (table : (n : N) → Code N V (V n)) {A : Type 0} (c : Code N V A) (d : ℕ) → List A → List Tok → Out (List A)
list_from N V heads need table c d prefix ts = read N V heads need (readers N V heads need table d) d (Rep c) ts >>= λ xs. Ok (prefix ++ xs.0, xs.1)

-- what is read of items, after those before; s: whether one of these passed the test
unfoldable pub items_from : (N : Type 0) (V : N → Type 0) (heads : N → Info) (need : N → ℕ) (table : (n : N) → Code N V (V n)) {A : Type 0} (late : A → Bool) (a b : Code N V A) (d : ℕ) → Bool → List A → List Tok → Out (List A)
items_from N V heads need table late a b d s prefix ts =
    run_upto (length ts) (λ s. (pick s (info N V heads need b) (info N V heads need a)).first) (λ s. pick s (reach (least N V heads need b) d) (reach (least N V heads need a) d)) (λ s. true) (λ s x. s || late x)
    (λ s r. pick s (read N V heads need (readers N V heads need table d) d b r) (read N V heads need (readers N V heads need table d) d a r)) s ts >>= λ xs. Ok (prefix ++ xs.0, xs.1)
