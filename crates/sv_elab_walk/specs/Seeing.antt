-- What is seen in an instance: its own scope and classes beside those of the files (IEEE 1800-2017, 23.9).
use Rattle.std.specs.Prelude.{◌≡◌, List, ◌∷◌, ◌++◌, map}
use Rattle.std.specs.Borrow.{Bor}
use Rattle.sv_names.specs.declared.around.ClassInfo.{ClassInfo}
use Rattle.sv_names.specs.declared.scope.Scope.{Scope}
use Rattle.sv_names.specs.Groups.{Group}
use Rattle.sv_names.specs.Named.{Around}
use Rattle.sv_elab_walk.specs.declared.seen.Seen.{Seen}

-- the scopes from the nearest outward, and the classes
abbrev pub SeesAs : List (Bor Scope) → List (Bor ClassInfo) → Around → Group → Type 0
SeesAs ss ks ar g = (map (λ x. x.now) ss ≡ g.scope ∷ ar.scopes) × (map (λ k. k.now) ks ≡ ar.classes ++ g.classes)

-- the same, kept together
abbrev pub Sees : Seen → Around → Group → Type 0
Sees s ar g = SeesAs s.scopes.items s.classes.items ar g
