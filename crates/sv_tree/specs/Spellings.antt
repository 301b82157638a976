-- How words and operators are spelled (IEEE 1800-2017, 5.5, 5.6.2, 11.3 and Annex B).
use Rattle.std.specs.Prelude.{ℕ, List, [], ◌∷◌, codes}
use Rattle.sv_tree.specs.declared.kind.Kind.{Kind}
use Rattle.sv_tree.specs.declared.kind.Kind.TheVariants as kinds

-- ---- the reserved words that the grammar uses; `mailbox` and `semaphore` are reserved here alone (own)

unfoldable pub words : List (List ℕ × Kind)
words =
    (codes "always", kinds.Always) ∷
    (codes "always_comb", kinds.AlwaysComb) ∷
    (codes "always_ff", kinds.AlwaysFf) ∷
    (codes "assign", kinds.Assign) ∷
    (codes "automatic", kinds.Automatic) ∷
    (codes "begin", kinds.Begin) ∷
    (codes "bit", kinds.Bit) ∷
    (codes "break", kinds.Break) ∷
    (codes "byte", kinds.Byte) ∷
    (codes "case", kinds.Case) ∷
    (codes "casex", kinds.Casex) ∷
    (codes "casez", kinds.Casez) ∷
    (codes "class", kinds.Class) ∷
    (codes "clocking", kinds.Clocking) ∷
    (codes "continue", kinds.Continue) ∷
    (codes "default", kinds.Default) ∷
    (codes "disable", kinds.Disable) ∷
    (codes "do", kinds.Do) ∷
    (codes "else", kinds.Else) ∷
    (codes "end", kinds.End) ∷
    (codes "endcase", kinds.Endcase) ∷
    (codes "endclass", kinds.Endclass) ∷
    (codes "endclocking", kinds.Endclocking) ∷
    (codes "endfunction", kinds.Endfunction) ∷
    (codes "endmodule", kinds.Endmodule) ∷
    (codes "endprogram", kinds.Endprogram) ∷
    (codes "endtask", kinds.Endtask) ∷
    (codes "enum", kinds.Enum) ∷
    (codes "event", kinds.Event) ∷
    (codes "extends", kinds.Extends) ∷
    (codes "for", kinds.For) ∷
    (codes "foreach", kinds.Foreach) ∷
    (codes "forever", kinds.Forever) ∷
    (codes "fork", kinds.Fork) ∷
    (codes "function", kinds.Function) ∷
    (codes "if", kinds.If) ∷
    (codes "iff", kinds.Iff) ∷
    (codes "initial", kinds.Initial) ∷
    (codes "inout", kinds.Inout) ∷
    (codes "input", kinds.Input) ∷
    (codes "int", kinds.Int) ∷
    (codes "integer", kinds.Integer) ∷
    (codes "join", kinds.Join) ∷
    (codes "join_any", kinds.JoinAny) ∷
    (codes "join_none", kinds.JoinNone) ∷
    (codes "local", kinds.Local) ∷
    (codes "localparam", kinds.Localparam) ∷
    (codes "logic", kinds.Logic) ∷
    (codes "longint", kinds.Longint) ∷
    (codes "mailbox", kinds.Mailbox) ∷
    (codes "module", kinds.Module) ∷
    (codes "negedge", kinds.Negedge) ∷
    (codes "new", kinds.New) ∷
    (codes "null", kinds.Null) ∷
    (codes "or", kinds.Or) ∷
    (codes "output", kinds.Output) ∷
    (codes "parameter", kinds.Parameter) ∷
    (codes "posedge", kinds.Posedge) ∷
    (codes "program", kinds.Program) ∷
    (codes "protected", kinds.Protected) ∷
    (codes "pure", kinds.Pure) ∷
    (codes "reg", kinds.Reg) ∷
    (codes "repeat", kinds.Repeat) ∷
    (codes "return", kinds.Return) ∷
    (codes "semaphore", kinds.Semaphore) ∷
    (codes "shortint", kinds.Shortint) ∷
    (codes "signed", kinds.Signed) ∷
    (codes "static", kinds.Static) ∷
    (codes "string", kinds.String) ∷
    (codes "super", kinds.Super) ∷
    (codes "task", kinds.Task) ∷
    (codes "this", kinds.This) ∷
    (codes "time", kinds.Time) ∷
    (codes "tri", kinds.Tri) ∷
    (codes "typedef", kinds.Typedef) ∷
    (codes "unsigned", kinds.Unsigned) ∷
    (codes "var", kinds.Var) ∷
    (codes "virtual", kinds.Virtual) ∷
    (codes "void", kinds.Void) ∷
    (codes "wait", kinds.Wait) ∷
    (codes "while", kinds.While) ∷
    (codes "wire", kinds.Wire) ∷ []

-- ---- the operators and the punctuation

unfoldable pub signs : List (List ℕ × Kind)
signs =
    -- punctuation and separators
    (codes ";", kinds.Semicolon) ∷
    (codes ":", kinds.Colon) ∷
    (codes ",", kinds.Comma) ∷
    (codes "(", kinds.LeftParenthesis) ∷
    (codes ")", kinds.RightParenthesis) ∷
    (codes "[", kinds.LeftBracket) ∷
    (codes "]", kinds.RightBracket) ∷
    (codes "{", kinds.LeftBrace) ∷
    (codes "}", kinds.RightBrace) ∷
    (codes "#", kinds.Hash) ∷
    (codes "##", kinds.HashHash) ∷
    (codes "@", kinds.At) ∷
    (codes ".", kinds.Dot) ∷
    (codes ".*", kinds.DotStar) ∷
    (codes "::", kinds.ColonColon) ∷
    (codes "'", kinds.Apostrophe) ∷
    (codes "->", kinds.Arrow) ∷
    (codes "?", kinds.Question) ∷
    (codes "$", kinds.Dollar) ∷
    (codes "+:", kinds.PlusColon) ∷
    (codes "-:", kinds.MinusColon) ∷
    -- assignment operators (11.4.1), and `++` and `--` (11.4.2)
    (codes "=", kinds.Equals) ∷
    (codes "+=", kinds.PlusEquals) ∷
    (codes "-=", kinds.MinusEquals) ∷
    (codes "*=", kinds.StarEquals) ∷
    (codes "/=", kinds.SlashEquals) ∷
    (codes "%=", kinds.PercentEquals) ∷
    (codes "&=", kinds.AmpersandEquals) ∷
    (codes "|=", kinds.BarEquals) ∷
    (codes "^=", kinds.CaretEquals) ∷
    (codes "<<=", kinds.ShiftLeftEquals) ∷
    (codes ">>=", kinds.ShiftRightEquals) ∷
    (codes "<<<=", kinds.ShiftLeftSignedEquals) ∷
    (codes ">>>=", kinds.ShiftRightSignedEquals) ∷
    (codes "++", kinds.PlusPlus) ∷
    (codes "--", kinds.MinusMinus) ∷
    -- arithmetic (11.4.3)
    (codes "+", kinds.Plus) ∷
    (codes "-", kinds.Minus) ∷
    (codes "*", kinds.Star) ∷
    (codes "/", kinds.Slash) ∷
    (codes "%", kinds.Percent) ∷
    (codes "**", kinds.StarStar) ∷
    -- relations and equality (11.4.4 and 11.4.5); `<=` is also the nonblocking assignment (10.4.2)
    (codes "<", kinds.Less) ∷
    (codes "<=", kinds.LessEquals) ∷
    (codes ">", kinds.Greater) ∷
    (codes ">=", kinds.GreaterEquals) ∷
    (codes "==", kinds.EqualsEquals) ∷
    (codes "!=", kinds.NotEquals) ∷
    (codes "===", kinds.CaseEquals) ∷
    (codes "!==", kinds.CaseNotEquals) ∷
    -- logical operators (11.4.7)
    (codes "!", kinds.Not) ∷
    (codes "&&", kinds.AmpersandAmpersand) ∷
    (codes "||", kinds.BarBar) ∷
    -- bitwise operators and reductions (11.4.8 and 11.4.9)
    (codes "~", kinds.Tilde) ∷
    (codes "&", kinds.Ampersand) ∷
    (codes "|", kinds.Bar) ∷
    (codes "^", kinds.Caret) ∷
    (codes "~&", kinds.TildeAmpersand) ∷
    (codes "~|", kinds.TildeBar) ∷
    (codes "~^", kinds.TildeCaret) ∷
    (codes "^~", kinds.CaretTilde) ∷
    -- shifts (11.4.10)
    (codes "<<", kinds.ShiftLeft) ∷
    (codes ">>", kinds.ShiftRight) ∷
    (codes "<<<", kinds.ShiftLeftSigned) ∷
    (codes ">>>", kinds.ShiftRightSigned) ∷ []

-- ---- the reserved words that no rule accepts

unfoldable pub unused : List (List ℕ)
unused =
    codes "alias" ∷
    codes "assert" ∷
    codes "assume" ∷
    codes "before" ∷
    codes "bind" ∷
    codes "bins" ∷
    codes "binsof" ∷
    codes "chandle" ∷
    codes "checker" ∷
    codes "config" ∷
    codes "const" ∷
    codes "constraint" ∷
    codes "context" ∷
    codes "cover" ∷
    codes "covergroup" ∷
    codes "coverpoint" ∷
    codes "cross" ∷
    codes "deassign" ∷
    codes "defparam" ∷
    codes "endchecker" ∷
    codes "endconfig" ∷
    codes "endgenerate" ∷
    codes "endgroup" ∷
    codes "endinterface" ∷
    codes "endpackage" ∷
    codes "endprimitive" ∷
    codes "endproperty" ∷
    codes "endsequence" ∷
    codes "export" ∷
    codes "extern" ∷
    codes "final" ∷
    codes "force" ∷
    codes "generate" ∷
    codes "genvar" ∷
    codes "global" ∷
    codes "highz0" ∷
    codes "highz1" ∷
    codes "implements" ∷
    codes "import" ∷
    codes "inside" ∷
    codes "interface" ∷
    codes "intersect" ∷
    codes "let" ∷
    codes "modport" ∷
    codes "nettype" ∷
    codes "package" ∷
    codes "packed" ∷
    codes "primitive" ∷
    codes "priority" ∷
    codes "property" ∷
    codes "pulldown" ∷
    codes "pullup" ∷
    codes "rand" ∷
    codes "randc" ∷
    codes "randcase" ∷
    codes "randsequence" ∷
    codes "real" ∷
    codes "realtime" ∷
    codes "ref" ∷
    codes "release" ∷
    codes "restrict" ∷
    codes "sequence" ∷
    codes "shortreal" ∷
    codes "solve" ∷
    codes "specify" ∷
    codes "struct" ∷
    codes "supply0" ∷
    codes "supply1" ∷
    codes "tagged" ∷
    codes "throughout" ∷
    codes "timeprecision" ∷
    codes "timeunit" ∷
    codes "tri0" ∷
    codes "tri1" ∷
    codes "type" ∷
    codes "union" ∷
    codes "unique" ∷
    codes "unique0" ∷
    codes "use" ∷
    codes "wait_order" ∷
    codes "wand" ∷
    codes "weak" ∷
    codes "with" ∷
    codes "within" ∷
    codes "wor" ∷ []
