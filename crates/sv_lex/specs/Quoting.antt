-- One byte of a string literal, after a \ or not.
use Rattle.std.specs.Prelude.{ℕ, Bool, true, false, not, ◌==◌}
use Prim.Native.Char.{code}
use Rattle.sv_tree.specs.Tokens.{is_escape, is_on_line}
use Rattle.sv_lex.specs.declared.strings.Escape.{Escape}
use Rattle.sv_lex.specs.declared.strings.Escape.TheVariants.{Known, Any}

-- the bytes that may stand after a \
abbrev pub allowed : Escape → ℕ → Bool
allowed Known = is_escape
allowed Any = is_on_line

-- whether a string literal ends with this byte
abbrev pub closes : Bool → ℕ → Bool
closes true c = false
closes false c = c == code "\""

-- whether this byte cannot stand there
abbrev pub breaks : Escape → Bool → ℕ → Bool
breaks escape true c = not (allowed escape c)
breaks escape false c = c == code "\n"

-- whether the next byte stands after a \
abbrev pub slashes : Bool → ℕ → Bool
slashes true c = false
slashes false c = c == code "\\"
