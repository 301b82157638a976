-- A class and its bases, as code goes through them (IEEE 1800-2017, 8.13).
use Rattle.std.specs.Prelude.{ℕ, zero, suc, List, [], ◌∷◌, Option, Some, None}
use Rattle.sv_names.specs.declared.around.ClassInfo.{ClassInfo}
use Rattle.sv_names.specs.Types.{Path}
use Rattle.sv_names.specs.Named.{class_in}

-- the class of a path, where there is one
abbrev pub at_path : List ClassInfo → Option Path → Option ClassInfo
at_path ks None = None
at_path ks (Some p) = class_in ks p

-- the class that a class extends
abbrev pub base_in : List ClassInfo → ClassInfo → Option ClassInfo
base_in ks k = at_path ks k.base

-- so many classes at most, from one on
abbrev pub up_from : ℕ → List ClassInfo → Option ClassInfo → List ClassInfo
up_from zero ks k = []
up_from (suc n) ks None = []
up_from (suc n) ks (Some k) = k ∷ up_from n ks (base_in ks k)
