-- What is seen in a class (IEEE 1800-2017, 8.13 and 23.9).
use Rattle.std.specs.Prelude.{true, List, Some}
use Rattle.sv_names.specs.declared.scope.Scope.{Scope}
use Rattle.sv_names.specs.Named.{Around}
use Rattle.sv_names.specs.Types.{Path}

-- in a class that sees these scopes
abbrev pub within_class : Path → List Scope → Around → Around
within_class k ss ar = record ar { scopes = ss; class = Some k; is_automatic = true }
