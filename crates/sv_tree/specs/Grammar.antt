-- The grammar: the table of the productions that stand inside others, and what a list of tokens spells.
use Rattle.std.specs.Prelude.{ℕ, false, List, [], ◌∷◌, ◌++◌}
use Rattle.sv_grammar.specs.Tokens.{Tok}
use Rattle.sv_grammar.specs.Info.{Info}
use Rattle.sv_grammar.specs.Language.{Lang, Out}
use Rattle.sv_grammar.specs.Code.{read, readers, texts, below}
use Rattle.sv_tree.specs.declared.kind.Kind.{Kind}
use Rattle.sv_tree.specs.declared.kind.Kind.TheVariants as k
use Rattle.sv_tree.specs.declared.word.Precedence.{Precedence}
use Rattle.sv_tree.specs.Codes.{code}
use Rattle.sv_tree.specs.Forms.{Production, Expression, Level, Arguments, Repeated, Target, A_type, Statement, Named, Unnamed, Value, C, codes_of, kinds_of}
use Rattle.sv_tree.specs.ExprGrammar.{unary, unary_words, binary_words, stronger, precedences, levels, expr, arguments, repeated, lval}
use Rattle.sv_tree.specs.TypeGrammar.{type}
use Rattle.sv_tree.specs.StmtGrammar.{stmt, named_statement, unnamed, assign_words}

-- what each of the productions stands for
abbrev pub table : (n : Production) → C (Value n)
table Expression = expr
table (Level p) = levels unary (stronger p)
table Arguments = arguments
table Repeated = repeated
table Target = lval
table A_type = type
table Statement = stmt
table Named = named_statement
table Unnamed = unnamed

-- ---- what is known of the texts of each: the kinds that begin them, those with which they may go on, and the least depth

-- what begins an operand without an operator before it
abbrev pub prim_first : List ℕ
prim_first =
    codes_of (k.Number ∷ k.TimeLiteral ∷ k.StringLiteral ∷ k.Null ∷ k.Dollar ∷ k.LeftParenthesis ∷ k.Name ∷ k.This ∷
    k.Super ∷ k.SystemName ∷ k.LeftBrace ∷ k.Bit ∷ k.Logic ∷ k.Reg ∷ k.Byte ∷ k.Shortint ∷ k.Int ∷ k.Longint ∷
    k.Integer ∷ k.Time ∷ k.String ∷ k.Event ∷ k.Semaphore ∷ k.Mailbox ∷ [])

-- what begins an expression
abbrev pub expr_first : List ℕ
expr_first = kinds_of unary_words ++ prim_first

-- with what an operand may go on
abbrev pub operand_goes_on : List ℕ
operand_goes_on = codes_of (k.LeftParenthesis ∷ k.LeftBracket ∷ k.Dot ∷ k.ColonColon ∷ k.Apostrophe ∷ [])

-- the binary operators of precedences
abbrev pub operators_of : List Precedence → List ℕ
operators_of [] = []
operators_of (p ∷ ps) = kinds_of (binary_words p) ++ operators_of ps

-- what begins a type, but for a name
abbrev pub type_words : List Kind
type_words = k.Logic ∷ k.Bit ∷ k.Reg ∷ k.String ∷ k.Event ∷ k.Byte ∷ k.Shortint ∷ k.Int ∷ k.Longint ∷ k.Integer ∷ k.Time ∷ k.Semaphore ∷ k.Mailbox ∷ k.Enum ∷ []

-- what begins a statement without a label that begins with no name
abbrev pub unnamed_first : List ℕ
unnamed_first =
    codes_of (k.SystemName ∷ k.Void ∷ k.Begin ∷ k.Fork ∷ k.If ∷ k.Case ∷ k.Casez ∷ k.Casex ∷ k.For ∷ k.While ∷ k.Do ∷
    k.Repeat ∷ k.Forever ∷ k.Foreach ∷ k.Wait ∷ k.Disable ∷ k.Break ∷ k.Continue ∷ k.Return ∷ k.This ∷ k.Super ∷
    k.Semicolon ∷ k.LeftBrace ∷ k.Hash ∷ k.HashHash ∷ k.At ∷ k.Arrow ∷ k.PlusPlus ∷ k.MinusMinus ∷ [])

-- what follows the name that a statement begins with
abbrev pub named_first : List ℕ
named_first = codes_of (k.Semicolon ∷ k.Colon ∷ k.LeftParenthesis ∷ k.LeftBracket ∷ k.Dot ∷ k.ColonColon ∷ k.Equals ∷ k.LessEquals ∷ k.PlusPlus ∷ k.MinusMinus ∷ []) ++ kinds_of assign_words

-- what is known of each
abbrev pub heads : Production → Info
heads Expression = record { first = expr_first; cont = code k.Question ∷ operand_goes_on ++ operators_of precedences; null = false }
heads (Level p) = record { first = expr_first; cont = operand_goes_on ++ operators_of (stronger p); null = false }
heads Arguments = record { first = codes_of (k.LeftParenthesis ∷ []); cont = []; null = false }
heads Repeated = record { first = codes_of (k.LeftBrace ∷ []); cont = []; null = false }
heads Target = record { first = codes_of (k.Name ∷ k.This ∷ k.Super ∷ k.LeftBrace ∷ []); cont = codes_of (k.LeftParenthesis ∷ k.LeftBracket ∷ k.Dot ∷ k.ColonColon ∷ []); null = false }
heads A_type = record { first = codes_of (k.Name ∷ type_words); cont = codes_of (k.Signed ∷ k.Unsigned ∷ k.LeftBracket ∷ k.Hash ∷ []); null = false }
heads Statement = record { first = code k.Name ∷ unnamed_first; cont = codes_of (k.Colon ∷ []); null = false }
heads Named = record { first = named_first; cont = codes_of (k.Colon ∷ []); null = false }
heads Unnamed = record { first = unnamed_first; cont = codes_of (k.Colon ∷ []); null = false }

-- the least depth of a tree of each
abbrev pub need : Production → ℕ
need Expression = 0
need (Level p) = 0
need Arguments = 0
need Repeated = 1
need Target = 0
need A_type = 0
need Statement = 0
need Named = 0
need Unnamed = 0

-- ---- what is read

-- what reading a code gives at a budget, which is most_depth less the depth around it
abbrev pub reads : {A : Type 0} → ℕ → C A → List Tok → Out A
reads d c ts = read Production Value heads need (readers Production Value heads need table d) d c ts

-- the texts of a code at each budget
abbrev pub texts_of : {A : Type 0} → C A → ℕ → Lang A
texts_of c d = texts Production Value heads need (below Production Value heads need table d) d c
