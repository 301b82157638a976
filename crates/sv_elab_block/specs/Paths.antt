-- The paths of the scopes of blocks and loops, in steps (own).
use Rattle.std.specs.Prelude.{ℕ, suc, List, [], ◌∷◌, Option, Some, None}
use Rattle.sv_tree.specs.declared.word.Name.{Name}
use Rattle.sv_names.specs.declared.scope.Scope.{Scope}
use Rattle.sv_names.specs.Code.{decimal}
use Rattle.sv_names.specs.Types.{Path}

-- the path of the nearest of scopes
abbrev pub nearest_path : List Scope → Path
nearest_path [] = []
nearest_path (s ∷ ss) = s.path

-- the name of a scope behind so many others, or its number
abbrev pub last_name : ℕ → Option Name → List ℕ
last_name n None = decimal (suc n)
last_name n (Some x) = x.text
