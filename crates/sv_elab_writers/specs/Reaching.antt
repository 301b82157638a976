-- What is reached through calls, in the steps in which it is found.
use Rattle.std.specs.Prelude.{ℕ, List, [], ◌∷◌, ◌++◌, length, flat_map, if◌then◌else◌}
use Rattle.sv_names.specs.declared.around.ClassInfo.{ClassInfo}
use Rattle.sv_names.specs.Types.{Path}
use Rattle.sv_names.specs.Named.{is_derived}
use Rattle.sv_names.specs.Writers.{Touch, Table, called_by, touches_at, with_new, reached_within}

-- the method that a class has in place of one of a class that it may be derived from
abbrev pub overridden_in : List ClassInfo → ClassInfo → Path → List ℕ → List Path
overridden_in all' k p x = if is_derived all' k.path p then (k.path ++ x ∷ []) ∷ [] else []

-- what a subroutine calls
abbrev pub called_at : List ClassInfo → Table → Path → List Path
called_at ks t p = flat_map (called_by ks) (touches_at p t)

-- the subroutines that are reached in one more call
abbrev pub reached_once : List ClassInfo → Table → List Path → List Path
reached_once ks t ps = with_new ps (flat_map (called_at ks t) ps)

-- the subroutines that are reached from touches
abbrev pub reached_by : List ClassInfo → Table → List Touch → List Path
reached_by ks t ts = reached_within (length t) ks t (with_new [] (flat_map (called_by ks) ts))
