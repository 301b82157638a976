-- The grammar of expressions (IEEE 1800-2017, A.8).
use Rattle.std.specs.Prelude.{List, [], ◌∷◌, Option, Some, None}
use Rattle.sv_grammar.specs.Tokens.{Tok}
use Rattle.sv_grammar.specs.Code.Code.{Seq, Map, Alt, Rep, Chain, Once, Inner}
use Rattle.sv_tree.specs.declared.kind.Kind.TheVariants as k
use Rattle.sv_tree.specs.declared.word.Name.{Name}
use Rattle.sv_tree.specs.declared.word.UnaryWord.{UnaryWord}
use Rattle.sv_tree.specs.declared.word.UnaryWord.TheVariants as unary_word
use Rattle.sv_tree.specs.declared.word.BinaryWord.{BinaryWord}
use Rattle.sv_tree.specs.declared.word.BinaryWord.TheVariants as binary_word
use Rattle.sv_tree.specs.declared.word.Precedence.{Precedence}
use Rattle.sv_tree.specs.declared.word.Precedence.TheVariants as precedence
use Rattle.sv_tree.specs.declared.word.PartWord.{PartWord}
use Rattle.sv_tree.specs.declared.word.PartWord.TheVariants as part_word
use Rattle.sv_tree.specs.declared.word.VectorWord.{VectorWord}
use Rattle.sv_tree.specs.declared.word.VectorWord.TheVariants as vector_word
use Rattle.sv_tree.specs.declared.word.AtomWord.{AtomWord}
use Rattle.sv_tree.specs.declared.word.AtomWord.TheVariants as atom_word
use Rattle.sv_tree.specs.declared.expr.Root.{Root}
use Rattle.sv_tree.specs.declared.expr.Root.TheVariants as root
use Rattle.sv_tree.specs.declared.expr.CastType.{CastType}
use Rattle.sv_tree.specs.declared.expr.CastType.TheVariants as cast_type
use Rattle.sv_tree.specs.Depth.{depth}
use Rattle.sv_tree.specs.Expr as tree
use Rattle.sv_tree.specs.Forms.{Level, Arguments, Repeated, Target, Bracketed, C, Words, tok, word, chosen, ◌▸◌, ◌◂◌, pair, triple, then_, optional, otherwise, list, list_or_none, name_of, name, inner_expr, stacked, exprs, lvals}

-- ---- words

-- ":" | "+:" | "-:"
abbrev pub part_words : Words PartWord
part_words = (k.Colon, part_word.Fixed) ∷ (k.PlusColon, part_word.Up) ∷ (k.MinusColon, part_word.Down) ∷ []

-- "bit" | "logic" | "reg"
abbrev pub vector_words : Words VectorWord
vector_words = (k.Bit, vector_word.Bit) ∷ (k.Logic, vector_word.Logic) ∷ (k.Reg, vector_word.Reg) ∷ []

-- "byte" | "shortint" | "int" | "longint" | "integer" | "time"
abbrev pub atom_words : Words AtomWord
atom_words = (k.Byte, atom_word.Byte) ∷ (k.Shortint, atom_word.Shortint) ∷ (k.Int, atom_word.Int) ∷ (k.Longint, atom_word.Longint) ∷ (k.Integer, atom_word.Integer) ∷ (k.Time, atom_word.Time) ∷ []

-- the operators before an operand
abbrev pub unary_words : Words UnaryWord
unary_words =
    (k.Plus, unary_word.Plus) ∷ (k.Minus, unary_word.Minus) ∷ (k.Not, unary_word.Not) ∷ (k.Tilde, unary_word.Invert) ∷
    (k.Ampersand, unary_word.And) ∷ (k.TildeAmpersand, unary_word.Nand) ∷ (k.Bar, unary_word.Or) ∷
    (k.TildeBar, unary_word.Nor) ∷ (k.Caret, unary_word.Xor) ∷ (k.TildeCaret, unary_word.Xnor) ∷
    (k.CaretTilde, unary_word.Xnor) ∷ []

-- the binary operators of each precedence (Table 11-2)
abbrev pub binary_words : Precedence → Words BinaryWord
binary_words precedence.Power = (k.StarStar, binary_word.Power) ∷ []
binary_words precedence.Multiplicative = (k.Star, binary_word.Multiply) ∷ (k.Slash, binary_word.Divide) ∷ (k.Percent, binary_word.Remainder) ∷ []
binary_words precedence.Additive = (k.Plus, binary_word.Plus) ∷ (k.Minus, binary_word.Minus) ∷ []
binary_words precedence.Shift = (k.ShiftLeft, binary_word.ShiftLeft) ∷ (k.ShiftRight, binary_word.ShiftRight) ∷ (k.ShiftLeftSigned, binary_word.ShiftLeftSigned) ∷ (k.ShiftRightSigned, binary_word.ShiftRightSigned) ∷ []
binary_words precedence.Relational = (k.Less, binary_word.Less) ∷ (k.LessEquals, binary_word.LessEqual) ∷ (k.Greater, binary_word.Greater) ∷ (k.GreaterEquals, binary_word.GreaterEqual) ∷ []
binary_words precedence.Equality = (k.EqualsEquals, binary_word.Equal) ∷ (k.NotEquals, binary_word.NotEqual) ∷ (k.CaseEquals, binary_word.CaseEqual) ∷ (k.CaseNotEquals, binary_word.CaseNotEqual) ∷ []
binary_words precedence.And = (k.Ampersand, binary_word.And) ∷ []
binary_words precedence.Xor = (k.Caret, binary_word.Xor) ∷ (k.TildeCaret, binary_word.Xnor) ∷ (k.CaretTilde, binary_word.Xnor) ∷ []
binary_words precedence.Or = (k.Bar, binary_word.Or) ∷ []
binary_words precedence.LogicalAnd = (k.AmpersandAmpersand, binary_word.LogicalAnd) ∷ []
binary_words precedence.LogicalOr = (k.BarBar, binary_word.LogicalOr) ∷ []

-- the precedences that bind more strongly, the weakest first
abbrev pub stronger : Precedence → List Precedence
stronger precedence.Power = []
stronger precedence.Multiplicative = precedence.Power ∷ []
stronger precedence.Additive = precedence.Multiplicative ∷ precedence.Power ∷ []
stronger precedence.Shift = precedence.Additive ∷ precedence.Multiplicative ∷ precedence.Power ∷ []
stronger precedence.Relational = precedence.Shift ∷ precedence.Additive ∷ precedence.Multiplicative ∷ precedence.Power ∷ []
stronger precedence.Equality = precedence.Relational ∷ precedence.Shift ∷ precedence.Additive ∷ precedence.Multiplicative ∷ precedence.Power ∷ []
stronger precedence.And = precedence.Equality ∷ precedence.Relational ∷ precedence.Shift ∷ precedence.Additive ∷ precedence.Multiplicative ∷ precedence.Power ∷ []
stronger precedence.Xor = precedence.And ∷ precedence.Equality ∷ precedence.Relational ∷ precedence.Shift ∷ precedence.Additive ∷ precedence.Multiplicative ∷ precedence.Power ∷ []
stronger precedence.Or = precedence.Xor ∷ precedence.And ∷ precedence.Equality ∷ precedence.Relational ∷ precedence.Shift ∷ precedence.Additive ∷ precedence.Multiplicative ∷ precedence.Power ∷ []
stronger precedence.LogicalAnd = precedence.Or ∷ precedence.Xor ∷ precedence.And ∷ precedence.Equality ∷ precedence.Relational ∷ precedence.Shift ∷ precedence.Additive ∷ precedence.Multiplicative ∷ precedence.Power ∷ []
stronger precedence.LogicalOr =
    precedence.LogicalAnd ∷ precedence.Or ∷ precedence.Xor ∷ precedence.And ∷ precedence.Equality ∷
    precedence.Relational ∷ precedence.Shift ∷ precedence.Additive ∷ precedence.Multiplicative ∷ precedence.Power ∷ []

-- all, the weakest first
abbrev pub precedences : List Precedence
precedences = precedence.LogicalOr ∷ stronger precedence.LogicalOr

-- "," expr
unfoldable pub comma_expr : C tree.Expr
comma_expr = k.Comma ▸ inner_expr

-- list(expr), in brackets
unfoldable pub inner_exprs : C (List tree.Expr)
inner_exprs = pair (λ e es. e ∷ es) inner_expr (Rep comma_expr)

-- ---- names with what follows them

-- sel = "[" expr [(":" | "+:" | "-:") expr] "]"
abbrev pub bound : C (Tok × tree.Expr)
bound = Seq (word part_words) inner_expr

-- what a select makes of the suffixes after it
abbrev pub selected : Tok → tree.Expr → Option (Tok × tree.Expr) → tree.Suffixes → tree.Suffixes
selected t e None rest = tree.Select t.at e rest
selected t e (Some p) rest = tree.Part t.at (chosen part_word.Down part_words p.0.code) e p.1 rest

-- sel
unfoldable pub select : C (tree.Suffixes → tree.Suffixes)
select = triple selected (tok k.LeftBracket) inner_expr (optional bound ◂ k.RightBracket)

-- "." id | actuals | sel
unfoldable pub suffix : C (tree.Suffixes → tree.Suffixes)
suffix = Alt (k.Dot ▸ Map (λ n rest. tree.Member n rest) name) (Alt (Map (λ b rest. tree.Call b.at b.list rest) (Inner Arguments)) select)

-- {"." id | actuals | sel}
unfoldable pub suffixes : C tree.Suffixes
suffixes = Map (stacked tree.NoSuffix) (Rep suffix)

-- ["::" id]
abbrev pub scoped : C (Option Name)
scoped = optional (k.ColonColon ▸ name)

-- one name, or two with "::" between them
abbrev pub named_root : Name → Option Name → Root
named_root n None = root.Plain n
named_root n (Some m) = root.Scoped n m

-- ["::" id] {..}
unfoldable pub post_rest : C (Option Name × tree.Suffixes)
post_rest = Seq scoped suffixes

-- id ["::" id] {..}
unfoldable pub named_post : C (Root × tree.Suffixes)
named_post = pair (λ n p. (named_root n p.0, p.1)) name post_rest

-- "this" {..}
unfoldable pub this_post : C (Root × tree.Suffixes)
this_post = pair (λ t s. (root.This t.at, s)) (tok k.This) suffixes

-- "super" "." id {..}
unfoldable pub super_post : C (Root × tree.Suffixes)
super_post = triple (λ t n s. (root.Super t.at n, s)) (tok k.Super ◂ k.Dot) name suffixes

-- post = ("this" | "super" "." id | id ["::" id]) {"." id | actuals | sel}
unfoldable pub post : C (Root × tree.Suffixes)
post = Alt named_post (Alt this_post super_post)

-- lval = post | "{" list(lval) "}"
unfoldable pub targets : C tree.Lval
targets = pair (λ t ls. tree.Lval.Join t.at (lvals ls)) (tok k.LeftBrace) (list (Inner Target) ◂ k.RightBrace)

-- lval
unfoldable pub lval : C tree.Lval
lval = Alt (Map (λ p. tree.Lval.Post p.0 p.1) post) targets

-- ---- calls

-- [actuals]
abbrev pub maybe_actuals : C tree.Actuals
maybe_actuals = otherwise tree.Unwritten (Map (λ b. tree.Written b.list) (Inner Arguments))

-- sysname ["(" [list(expr)] ")"]
unfoldable pub system_call : C tree.Expr
system_call = pair (λ t a. tree.System (name_of t) a) (tok k.SystemName) maybe_actuals

-- "super" "." ("new" [actuals] | id {..})
unfoldable pub super_call : C tree.Expr
super_call = then_ (tok k.Super ◂ k.Dot) (Alt (pair (λ w a t. tree.SuperNew t.at w.at a) (tok k.New) maybe_actuals) (pair (λ n s t. tree.Expr.Post (root.Super t.at n) s) name suffixes))

-- call = post | sysname ["(" [list(expr)] ")"] | "super" "." "new" [actuals]
unfoldable pub call : C tree.Expr
call = Alt (Map (λ p. tree.Expr.Post p.0 p.1) named_post) (Alt (Map (λ p. tree.Expr.Post p.0 p.1) this_post) (Alt super_call system_call))

-- ---- operands

-- expr ")"
unfoldable pub closed : C tree.Expr
closed = inner_expr ◂ k.RightParenthesis

-- "'" "(" expr ")"
unfoldable pub cast : C tree.Expr
cast = k.Apostrophe ▸ k.LeftParenthesis ▸ closed

-- a number alone, or as the width of a cast
abbrev pub number_cast : Tok → Option tree.Expr → tree.Expr
number_cast t None = tree.Number t.at t.text
number_cast t (Some e) = tree.Cast (cast_type.Width t.at t.text) e

-- number | number "'" "(" expr ")"
unfoldable pub number : C tree.Expr
number = pair number_cast (tok k.Number) (optional cast)

-- time
unfoldable pub time : C tree.Expr
time = Map (λ t. tree.Time t.at t.text) (tok k.TimeLiteral)

-- text
unfoldable pub text : C tree.Expr
text = Map (λ t. tree.Text t.at t.text) (tok k.StringLiteral)

-- "null"
unfoldable pub null_ : C tree.Expr
null_ = Map (λ t. tree.Null t.at) (tok k.Null)

-- "$"
unfoldable pub dollar : C tree.Expr
dollar = Map (λ t. tree.Dollar t.at) (tok k.Dollar)

-- "(" expr ")"
unfoldable pub group : C tree.Expr
group = pair (λ t e. tree.Group t.at e) (tok k.LeftParenthesis) closed

-- a name with a cast, or with what may follow it
unfoldable pub named : C tree.Expr
named = then_ name (Alt (Map (λ e n. tree.Cast (cast_type.Named n) e) cast) (Map (λ p n. tree.Expr.Post (named_root n p.0) p.1) post_rest))

-- "this" {"." id | actuals | sel}
unfoldable pub this : C tree.Expr
this = Map (λ p. tree.Expr.Post p.0 p.1) this_post

-- "{" list(expr) "}", inside the braces that are repeated
unfoldable pub repeated : C Bracketed
repeated = pair (λ t es. record { at = t.at; list = exprs es }) (tok k.LeftBrace) (inner_exprs ◂ k.RightBrace)

-- "{" list(expr) "}" | "{" expr "{" list(expr) "}" "}"
unfoldable pub braces : C tree.Expr
braces = triple (λ t e (f : Tok → tree.Expr → tree.Expr). f t e) (tok k.LeftBrace) inner_expr (Alt (Map (λ b t e. tree.Repeat t.at e b.at b.list) (Inner Repeated)) (Map (λ es t e. tree.Expr.Join t.at (tree.AndExpr e (exprs es))) (Rep comma_expr)) ◂ k.RightBrace)

-- a type word, for a cast
abbrev pub cast_word : C CastType
cast_word =
    Alt (Map (λ t. cast_type.Vector t.at (chosen vector_word.Reg vector_words t.code)) (word vector_words))
    (Alt (Map (λ t. cast_type.Atom t.at (chosen atom_word.Time atom_words t.code)) (word atom_words))
    (Alt (Map (λ t. cast_type.Text t.at) (tok k.String))
    (Alt (Map (λ t. cast_type.Event t.at) (tok k.Event))
    (Alt (Map (λ t. cast_type.Semaphore t.at) (tok k.Semaphore))
    (Map (λ t. cast_type.Mailbox t.at) (tok k.Mailbox))))))

-- basetype "'" "(" expr ")"
unfoldable pub word_cast : C tree.Expr
word_cast = pair (λ c e. tree.Cast c e) cast_word cast

-- what no type word begins
unfoldable pub plain_prim : C tree.Expr
plain_prim = Alt number (Alt time (Alt text (Alt null_ (Alt dollar (Alt group (Alt named (Alt this (Alt super_call (Alt system_call braces)))))))))

-- prim = number | time | text | "null" | "$" | "(" expr ")" | call | "{" .. "}" | (basetype | id | number) "'" "(" expr ")"
unfoldable pub prim : C tree.Expr
prim = Alt plain_prim word_cast

-- ---- operators

-- an operator before an operand
unfoldable pub prefixed : C tree.Expr
prefixed = pair (λ t e. tree.Unary t.at (chosen unary_word.Xnor unary_words t.code) e) (word unary_words) (Inner (Level precedence.Power))

-- an operand with an operator before it, or without
unfoldable pub unary : C tree.Expr
unary = Alt prefixed prim

-- an operator and its right operand
abbrev pub link : Precedence → C (Tok × tree.Expr)
link p = Seq (word (binary_words p)) (Inner (Level p))

-- two operands and the operator between them
abbrev pub joined : Precedence → tree.Expr → Tok × tree.Expr → tree.Expr
joined p a x = tree.Binary (chosen binary_word.LogicalOr (binary_words p) x.0.code) x.0.at a x.1

-- the operators of these precedences, the weakest first, over operands; binary ones group to the left
unfoldable pub levels : C tree.Expr → List Precedence → C tree.Expr
levels operand [] = operand
levels operand (p ∷ ps) = Chain depth (joined p) (levels operand ps) (link p)

-- a condition and its branches
abbrev pub choose : tree.Expr → tree.Expr × tree.Expr → tree.Expr
choose c p = tree.Choose c p.0 p.1

-- ? and : of a choice, which groups to the right
abbrev pub branches : C (tree.Expr × tree.Expr)
branches = Seq (k.Question ▸ inner_expr ◂ k.Colon) inner_expr

-- expressions whose operands are these
unfoldable pub expr_over : C tree.Expr → C tree.Expr
expr_over operand = Once depth choose (levels operand precedences) branches

-- expr
unfoldable pub expr : C tree.Expr
expr = expr_over unary

-- ---- expressions that no type word begins, and those that a cast to a type word begins

-- an operand that begins with no type word
unfoldable pub plain_unary : C tree.Expr
plain_unary = Alt prefixed plain_prim

-- an expression that begins with no type word
unfoldable pub plain_expr : C tree.Expr
plain_expr = expr_over plain_unary

-- the cast that an expression begins with is one to c
abbrev pub with_cast : CastType → tree.Expr → tree.Expr
with_cast c (tree.Cast d e) = tree.Cast c e
with_cast c (tree.Binary w at a b) = tree.Binary w at (with_cast c a) b
with_cast c (tree.Choose a x y) = tree.Choose (with_cast c a) x y
with_cast c e = e

-- what follows a type word that is cast to: the type is put in later
unfoldable pub cast_rest : C tree.Expr
cast_rest = expr_over (Map (λ e. tree.Cast (cast_type.Text (record { file = 0; line = 0; col = 0 })) e) cast)

-- ---- arguments

-- actuals = "(" [list(expr)] ")", a production of its own, one deeper
-- (the pair of brackets counts, with nothing in it too; what stands in it is no deeper than the pair)
unfoldable pub arguments : C Bracketed
arguments = pair (λ t es. record { at = t.at; list = exprs es }) (tok k.LeftParenthesis) (list_or_none expr ◂ k.RightParenthesis)
