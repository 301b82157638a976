-- The productions that refer to one another, what they stand for, and the forms that productions are written with.
use Rattle.std.specs.Prelude.{ℕ, List, [], ◌∷◌, map, Option, Some, None, if◌then◌else◌, ◌==◌}
use Rattle.sv_value.specs.declared.place.Place.{Place}
use Rattle.sv_grammar.specs.Tokens.{Tok}
use Rattle.sv_grammar.specs.Code.{Code}
use Rattle.sv_grammar.specs.Code.Code.{One, Done, Seq, Map, Alt, Rep, Inner}
use Rattle.sv_tree.specs.declared.kind.Kind.{Kind}
use Rattle.sv_tree.specs.declared.kind.Kind.TheVariants as k
use Rattle.sv_tree.specs.declared.word.Name.{Name}
use Rattle.sv_tree.specs.declared.word.Precedence.{Precedence}
use Rattle.sv_tree.specs.Codes.{code}
use Rattle.sv_tree.specs.Expr as tree
use Rattle.sv_tree.specs.Types as types
use Rattle.sv_tree.specs.Stmt as stmts

-- the productions that stand inside others, one deeper
pub data Production : Type 0 where
  Expression : Production
  -- the right operand of an operator of this precedence: it holds operators that bind more strongly
  Level : Precedence → Production
  Arguments : Production
  Repeated : Production
  Target : Production
  A_type : Production
  Statement : Production
  -- what follows the name that a statement begins with
  Named : Production
  -- a statement that begins with no name
  Unnamed : Production

-- a statement's first place, after its label, and its form
pub record Placed : Type 0 where
  pub at : Place
  pub body : stmts.Body

-- expressions in brackets, at the bracket
pub record Bracketed : Type 0 where
  pub at : Place
  pub list : tree.Exprs

-- the trees of each
abbrev pub Value : Production → Type 0
Value Expression = tree.Expr
Value (Level p) = tree.Expr
Value Arguments = Bracketed
Value Repeated = Bracketed
Value Target = tree.Lval
Value A_type = types.WrittenType
Value Statement = stmts.Stmt
Value Named = Tok → stmts.Stmt
Value Unnamed = Placed

-- a grammar of trees
abbrev pub C : Type 0 → Type 1
C A = Code Production Value A

-- a token of a kind
abbrev pub tok : Kind → C Tok
tok a = One (code a ∷ [])

-- a token of one of these kinds
abbrev pub any_of : List Kind → C Tok
any_of ks = One (map code ks)

-- words, each of a kind
abbrev pub Words : Type 0 → Type 0
Words W = List (Kind × W)

-- the numbers of their kinds
abbrev pub kinds_of : {W : Type 0} → Words W → List ℕ
kinds_of ws = map (λ x. code x.0) ws

-- a token of one of these words
abbrev pub word : {W : Type 0} → Words W → C Tok
word ws = One (kinds_of ws)

-- the word of a number, or w
abbrev pub chosen : {W : Type 0} → W → Words W → ℕ → W
chosen w [] n = w
chosen w (x ∷ xs) n = if n == code x.0 then x.1 else chosen w xs n

-- a token of a kind, and then a
infixr 30 ◌▸◌
abbrev pub ◌▸◌ : {A : Type 0} → Kind → C A → C A
t ▸ a = Map (λ p. p.1) (Seq (tok t) a)

-- a, and then a token of a kind
infixl 40 ◌◂◌
abbrev pub ◌◂◌ : {A : Type 0} → C A → Kind → C A
a ◂ t = Map (λ p. p.0) (Seq a (tok t))

-- two in a row
abbrev pub pair : {A B R : Type 0} → (A → B → R) → C A → C B → C R
pair f a b = Map (λ p. f p.0 p.1) (Seq a b)

-- three in a row
abbrev pub triple : {A B D R : Type 0} → (A → B → D → R) → C A → C B → C D → C R
triple f a b c = Map (λ p. f p.0 p.1.0 p.1.1) (Seq a (Seq b c))

-- four in a row
abbrev pub quadruple : {A B D E R : Type 0} → (A → B → D → E → R) → C A → C B → C D → C E → C R
quadruple f a b c d = Map (λ p. f p.0 p.1.0 p.1.1.0 p.1.1.1) (Seq a (Seq b (Seq c d)))

-- a, and what follows it, which takes in a
abbrev pub then_ : {A B : Type 0} → C A → C (A → B) → C B
then_ a f = Map (λ p. p.1 p.0) (Seq a f)

-- [a]
abbrev pub optional : {A : Type 0} → C A → C (Option A)
optional a = Alt (Map Some a) (Done None)

-- [a], with a value where nothing stands
abbrev pub otherwise : {A : Type 0} → A → C A → C A
otherwise x a = Alt a (Done x)

-- "," a
abbrev pub comma : {A : Type 0} → C A → C A
comma a = k.Comma ▸ a

-- {"," a}
abbrev pub commas : {A : Type 0} → C A → C (List A)
commas a = Rep (comma a)

-- list(a)
abbrev pub list : {A : Type 0} → C A → C (List A)
list a = pair (λ x xs. x ∷ xs) a (commas a)

-- [list(a)]
abbrev pub list_or_none : {A : Type 0} → C A → C (List A)
list_or_none a = otherwise [] (list a)

-- ( a )
abbrev pub in_parentheses : {A : Type 0} → C A → C A
in_parentheses a = k.LeftParenthesis ▸ a ◂ k.RightParenthesis

-- [ a ]
abbrev pub in_brackets : {A : Type 0} → C A → C A
in_brackets a = k.LeftBracket ▸ a ◂ k.RightBracket

-- { a }
abbrev pub in_braces : {A : Type 0} → C A → C A
in_braces a = k.LeftBrace ▸ a ◂ k.RightBrace

-- the name that a token is
abbrev pub name_of : Tok → Name
name_of t = record { at = t.at; text = t.text }

-- id
abbrev pub name : C Name
name = Map name_of (tok k.Name)

-- [":" id]
abbrev pub label : C (Option Name)
label = optional (k.Colon ▸ name)

-- an expression, a pair of brackets or an operator deeper
abbrev pub inner_expr : C tree.Expr
inner_expr = Inner Expression

-- a statement, one deeper
abbrev pub statement : C stmts.Stmt
statement = Inner Statement

-- functions one after the other, on what follows them
abbrev pub stacked : {A : Type 0} → A → List (A → A) → A
stacked x [] = x
stacked x (f ∷ fs) = f (stacked x fs)

-- a list of expressions, as a tree holds it
abbrev pub exprs : List tree.Expr → tree.Exprs
exprs [] = tree.NoExpr
exprs (e ∷ es) = tree.AndExpr e (exprs es)

-- a list of targets, as a tree holds it
abbrev pub lvals : List tree.Lval → tree.Lvals
lvals [] = tree.NoLval
lvals (l ∷ ls) = tree.AndLval l (lvals ls)

-- the tokens of kinds, as a set
abbrev pub codes_of : List Kind → List ℕ
codes_of ks = map code ks
