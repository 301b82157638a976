-- Values with unknown bits, and how they are printed.
use Rattle.std.proofs.Common.{ℕ, ◌≡◌, false, List, [], ◌∷◌, ◌++◌, refl}
use Rattle.std.specs.Prelude.{None, codes}
use Rattle.sv_value.specs.declared.operator.BinOp.{BinOp}
use Rattle.sv_value.specs.declared.operator.BinOp.TheVariants as bin_op
use Rattle.sv_value.specs.declared.operator.UnOp.TheVariants as un_op
use Rattle.sv_value.specs.declared.operator.Piece.{Piece}
use Rattle.sv_value.specs.declared.operator.Piece.TheVariants as piece
use Rattle.sv_value.specs.declared.operator.Pad.TheVariants.{Full}
use Rattle.sv_value.specs.declared.operator.Radix.{Radix}
use Rattle.sv_value.specs.declared.operator.Radix.TheVariants.{Dec, Hex, Bin}
use Rattle.sv_value.specs.declared.operator.FormatField.TheVariants as field
use Rattle.sv_value.specs.Vector.{vector, symbols_of, word_of}
use Rattle.sv_flat.specs.declared.stmt.Form.TheVariants as form
use Rattle.sv_flat.specs.declared.design.Parts.{Parts}
use Rattle.sv_flat.specs.Expr as expr
use Rattle.sv_flat.proofs.Rows.Kit.{body, initial, design, display, logic, variable, to, name, number, dec, say, log}

-- a sized literal of these two words
abbrev sized : (width value unknown : ℕ) → expr.Expr
sized width value unknown = expr.Literal (vector false (symbols_of width value unknown)) None

-- a field that is padded to its full width
abbrev full : Radix → Piece
full radix = piece.Field (field.Number radix) Full

-- one `$display` in an `initial`
abbrev displayed : List Piece → List expr.Expr → List ℕ
displayed ps es = log (design [] (initial 0 ∷ []) (body (display ps es ∷ []) ∷ [])) [] 4

-- `4'b1x0z + 4'd1` by `%b`: a sum with an unknown bit is unknown
unknown_sum : displayed (full Bin ∷ []) (expr.Binary bin_op.Add (sized 4 9 5) (sized 4 1 0) ∷ []) ≡ codes "xxxx" ++ 10 ∷ []
unfolding symbols_of word_of
unknown_sum = refl

-- `4'b1x0z` by `%h`: a digit of which some bit is x
unknown_digit : displayed (full Hex ∷ []) (sized 4 9 5 ∷ []) ≡ codes "X" ++ 10 ∷ []
unfolding symbols_of word_of
unknown_digit = refl

-- `8'bz` by `%d`, padded to the longest number of eight bits
padded_unknown : displayed (full Dec ∷ []) (sized 8 255 255 ∷ []) ≡ codes "  z" ++ 10 ∷ []
unfolding symbols_of word_of
padded_unknown = refl

-- `8'd7`, `8'h0a` and `4'd5` by `%d|%h|%b`
padded_digits : displayed (full Dec ∷ say "|" ∷ full Hex ∷ say "|" ∷ full Bin ∷ []) (sized 8 7 0 ∷ sized 8 10 0 ∷ sized 4 5 0 ∷ [])
    ≡ codes "  7|0a|0101" ++ 10 ∷ []
unfolding symbols_of word_of
padded_digits = refl

-- an operation of two numbers of type int
abbrev of_ints : BinOp → expr.Expr → ℕ → expr.Expr
of_ints op a b = expr.Binary op a (number b)

-- `8'hx3` and `4'd20` by `%b`; `-7/2`, `-7%2` and `7/0` by `%0d`: division truncates toward 0, and by 0 it is unknown
literals_and_divisions : displayed (full Bin ∷ say " " ∷ full Bin ∷ say " " ∷ dec ∷ say " " ∷ dec ∷ say " " ∷ dec ∷ [])
    (sized 8 3 240 ∷ sized 4 4 0 ∷ of_ints bin_op.Div (expr.Unary un_op.Minus (number 7)) 2
    ∷ of_ints bin_op.Rem (expr.Unary un_op.Minus (number 7)) 2 ∷ of_ints bin_op.Div (number 7) 0 ∷ [])
    ≡ codes "xxxx0011 0100 -3 -1 x" ++ 10 ∷ []
unfolding symbols_of word_of
literals_and_divisions = refl

-- `logic [63:0] a; initial begin a = 64'hFFFF_FFFF_FFFF_FFFF; a = a + 1; $display("%0d", a); end`
abbrev overflow : Parts
overflow =
    design (variable (logic 64) ∷ []) (initial 0 ∷ [])
    (body (form.Assign (to 0 (logic 64)) (sized 64 (18446744073709551615) 0)
    ∷ form.Assign (to 0 (logic 64)) (expr.Binary bin_op.Add (name 0 (logic 64)) (number 1)) ∷ display (dec ∷ []) (name 0 (logic 64) ∷ []) ∷ []) ∷ [])

overflow_log : log overflow [] 8 ≡ codes "0" ++ 10 ∷ []
unfolding symbols_of word_of
overflow_log = refl
