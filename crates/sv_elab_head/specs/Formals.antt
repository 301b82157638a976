-- Arguments of subroutines and their defaults, in parts (IEEE 1800-2017, 13.5).
use Rattle.std.specs.Prelude.{true}
use Rattle.sv_value.specs.declared.place.Place.{Place}
use Rattle.sv_tree.specs.declared.word.Direction.{Direction}
use Rattle.sv_tree.specs.Expr as tree
use Rattle.sv_tree.specs.Expr.{place_of}
use Rattle.sv_tree.specs.Types.{ImpliedType}
use Rattle.sv_tree.specs.Units.{Argument}
use Rattle.sv_names.specs.declared.checked.Checked.{Checked}
use Rattle.sv_names.specs.declared.checked.Checked.TheVariants.{Good}
use Rattle.sv_names.specs.declared.named.Formal.{Formal}
use Rattle.sv_names.specs.declared.scope.Scope.{Scope}
use Rattle.sv_names.specs.declared.ty.Ty.{Ty}
use Rattle.sv_names.specs.declared.typed.Typed.{Typed}
use Rattle.sv_names.specs.Checked.{both, ◌▷◌}
use Rattle.sv_names.specs.Entries.{Taken}
use Rattle.sv_names.specs.Expressions.{expr}
use Rattle.sv_names.specs.Named.{Around}
use Rattle.sv_names.specs.Scopes.{formal_of, within}
use Rattle.sv_names.specs.Values.{constant, assigned}

-- E11: a constant
abbrev pub constant_in : Around → tree.Expr → Checked Typed
constant_in ar e = expr ar e ▷ constant (place_of e)

-- E16, E17, E42: a default that its argument takes
abbrev pub fitting : Around → Ty → Place → Typed → Checked Typed
fitting ar to at t = assigned (record ar { takes_events = true }) to at t ▷ (λ x. Good t)

-- the same, where neither breaks a rule before
abbrev pub fitting_both : Around → Checked Ty → Place → Checked Typed → Checked Typed
fitting_both ar to at t = both to t ▷ (λ p. fitting ar p.0 at p.1)

-- an argument with the direction and the type that it takes from the one before
abbrev pub taken_as : Direction → ImpliedType → Argument → Taken
taken_as d t a = record { direction = d; type = t; argument = a }

-- an argument in the scope of its subroutine
abbrev pub formal_within : Around → Scope → Taken → Formal
formal_within ar s a = formal_of ar (within s ar) s.path a
