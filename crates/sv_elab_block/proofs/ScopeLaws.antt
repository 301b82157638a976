-- The settled scope of a block or a loop, by its parts.
use Rattle.std.proofs.Common.{◌≡◌, ◌∙◌, Bool, List, Option, None}
use Rattle.sv_tree.specs.declared.word.Name.{Name}
use Rattle.sv_names.specs.declared.scope.Scope.{Scope}
use Rattle.sv_names.specs.Blocks.{inner_path, inner_scope}
use Rattle.sv_names.specs.Entries.{Entry}
use Rattle.sv_names.specs.Named.{Around}
use Rattle.sv_names.specs.Scopes.{makes_activation, settled_scope}
use Rattle.sv_names.specs.Types.{Path}

pub scope_settled : (ar : Around) (n : Option Name) (p : Path) (enters : Bool) (es : List Entry) (s : Scope) → p ≡ inner_path ar n
    → enters ≡ makes_activation es → s ≡ settled_scope ar p None enters es → s ≡ inner_scope ar n es
scope_settled ar n p enters es s path is made = made ∙ (λ i. settled_scope ar (path i) None (is i) es)
