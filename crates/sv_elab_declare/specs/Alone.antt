-- Scopes that stand alone, without classes.
use Rattle.std.specs.Prelude.{Bool, false, ◌||◌, List, [], ◌∷◌, Option, option_map}
use Rattle.std.specs.Borrow.{Bor}
use Rattle.sv_names.specs.declared.named.Known.{Known}
use Rattle.sv_names.specs.Declarations.{value_of_entry}
use Rattle.sv_names.specs.Groups.{Group}
use Rattle.sv_names.specs.Scopes.{scope_of, is_in_activation}
use Rattle.sv_names.specs.Types.{Path}
use Rattle.sv_elab_scope.specs.declared.declared.Entry.{Entry}
use Rattle.sv_elab_scope.specs.Views.{declared_in}
use Rattle.sv_elab_scope.specs.Settling.{Meant}
use Rattle.sv_elab_declare.specs.declared.scope.ScopeHead.{ScopeHead}

-- what declarations stand for, each by itself
abbrev pub alone : Meant
alone l ar p e = value_of_entry ar p e e.what

-- the class of a method
abbrev pub class_in : Option (Bor Path) → Option Path
class_in k = option_map (λ p. p.now) k

-- such a scope as a group, over what it knows
abbrev pub group_alone : ScopeHead → List Known → Group
group_alone h ks = record { scope = scope_of h.path.now (class_in h.class) h.enters ks; classes = [] }

-- whether one of these declarations is a variable of an activation
abbrev pub some_in_activation : List Entry → Bool
some_in_activation [] = false
some_in_activation (e ∷ es) = is_in_activation (declared_in e.what) || some_in_activation es
