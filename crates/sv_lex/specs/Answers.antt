-- An error: want of memory, or the fault.
use Rattle.std.specs.Prelude.{◌≡◌, Option, Some}
use Rattle.sv_value.specs.declared.place.Place.{Place}
use Rattle.sv_tree.specs.declared.token.Refused.{Refused}
use Rattle.sv_lex.specs.declared.lexer.LexFault.{LexFault}
use Rattle.sv_lex.specs.declared.lexer.LexFault.TheVariants.{Memory, Bad}

-- the fault is the one that the definition names, unless memory ran out
abbrev pub Told : LexFault → Option (Refused × Place) → Type 0
Told Memory fault = Unit {0}
Told (Bad at kind) fault = fault ≡ Some (kind, at)
