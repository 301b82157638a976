-- Languages with values, and what a reader of one has to answer.
use Rattle.std.specs.Prelude.{◌≡◌, ℕ, zero, suc, Bool, true, false, List, [], ◌∷◌, ◌++◌, Result, Ok, Err, ◌⊎◌}
use Rattle.sv_grammar.specs.Tokens.{Tok, next, before, mem, Has}

-- L a u n: the tokens u spell a, where n is the token after them
abbrev pub Lang : Type 0 → Type 1
Lang A = A → List Tok → Tok → Type 0

-- first what L reads as some x, then what M x reads
pub record Then {A B : Type 0} (L : Lang A) (M : A → Lang B) (b : B) (w : List Tok) (n : Tok) : Type 0 where
  pub value : A
  pub left : List Tok
  pub right : List Tok
  pub parts : w ≡ left ++ right
  pub one : L value left (before right n)
  pub two : M value b right n

-- the one token of these kinds
abbrev pub OneOf : List ℕ → Lang Tok
OneOf ks t u n = (u ≡ t ∷ []) × Has ks t

-- no token, with this value
abbrev pub Return : {A : Type 0} → A → Lang A
Return a b u n = (b ≡ a) × (u ≡ [])

-- no text
abbrev pub Nothing : {A : Type 0} → Lang A
Nothing a u n = ⊥

-- one or the other
abbrev pub Or : {A : Type 0} → Lang A → Lang A → Lang A
Or L M a u n = L a u n ⊎ M a u n

-- L where the test holds, else nothing
abbrev pub Only : {A : Type 0} → Bool → Lang A → Lang A
Only c L a u n = (c ≡ true) × L a u n

-- L, or no token where none of these kinds is next
abbrev pub Unless : {A : Type 0} → List ℕ → A → Lang A → Lang A
Unless ks a L b u n = ((b ≡ a) × (u ≡ []) × (mem n.code ks ≡ false)) ⊎ L b u n

-- any number of texts, each of L s for the state s; each is allowed where the test holds of the state, and then moves it
abbrev pub Run : {S A : Type 0} → (S → Bool) → (S → A → S) → (S → Lang A) → S → Lang (List A)
Run test step L s [] u n = u ≡ []
Run test step L s (a ∷ bs) u n = (test s ≡ true) × (l : List Tok) × (r : List Tok) × (u ≡ l ++ r) × L s a l (before r n) × Run test step L (step s a) bs r n

-- p begins a text of L, and some text that it begins stands before any token
abbrev pub Open : {A : Type 0} → Lang A → List Tok → Type 0
Open {A} L p = (a : A) × (v : List Tok) × ((n : Tok) → L a (p ++ v) n)

-- p begins a text of L
abbrev pub Prefix : {A : Type 0} → Lang A → List Tok → Type 0
Prefix {A} L p = (a : A) × (v : List Tok) × (n : Tok) × L a (p ++ v) n

-- p begins no text of any depth
abbrev pub Never : {A : Type 0} → (ℕ → Lang A) → List Tok → Type 0
Never l p = (e : ℕ) → Prefix (l e) p → ⊥

-- where reading stopped: only deeper texts go on with the next token, or none does
pub data Miss : Type 0 where
  TooDeep : (rest : List Tok) → Miss
  Unexpected : (rest : List Tok) → Miss

-- the longest prefix that is viable is a text, and its reading is a
pub record Reads {A : Type 0} (l : ℕ → Lang A) (d : ℕ) (ts : List Tok) (a : A) (rest : List Tok) : Type 0 where
  pub prefix : List Tok
  pub parts : ts ≡ prefix ++ rest
  pub viable : Open (l d) prefix
  pub word : l d a prefix (next rest)
  pub stops : Never l (prefix ++ next rest ∷ [])

-- the tokens up to the fault are viable, with it they begin deeper texts alone
pub record IsTooDeep {A : Type 0} (l : ℕ → Lang A) (d : ℕ) (ts : List Tok) (rest : List Tok) : Type 0 where
  pub prefix : List Tok
  pub parts : ts ≡ prefix ++ rest
  pub viable : Open (l d) prefix
  pub shut : Prefix (l d) (prefix ++ next rest ∷ []) → ⊥
  pub deeper : (e : ℕ) × Open (l e) (prefix ++ next rest ∷ [])

-- the tokens up to the fault are viable and no text, with it they begin no text of any depth
pub record IsUnexpected {A : Type 0} (l : ℕ → Lang A) (d : ℕ) (ts : List Tok) (rest : List Tok) : Type 0 where
  pub prefix : List Tok
  pub parts : ts ≡ prefix ++ rest
  pub viable : Open (l d) prefix
  pub no_text : (e : ℕ) (a : A) → l e a prefix (next rest) → ⊥
  pub stops : Never l (prefix ++ next rest ∷ [])

-- a value with the tokens after it, or where reading stopped
abbrev pub Out : Type 0 → Type 0
Out A = Result (A × List Tok) Miss

-- what a reader has to answer, at budget d
abbrev pub Answer : {A : Type 0} → (ℕ → Lang A) → ℕ → List Tok → Out A → Type 0
Answer l d ts (Ok x) = Reads l d ts x.0 x.1
Answer l d ts (Err (TooDeep rest)) = IsTooDeep l d ts rest
Answer l d ts (Err (Unexpected rest)) = IsUnexpected l d ts rest

-- the same a level deeper: it takes one of the budget
abbrev pub Below : {A : Type 0} → (ℕ → Lang A) → ℕ → Lang A
Below l zero = Nothing
Below l (suc d) = l d
