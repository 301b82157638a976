-- The classes of a unit before anything of them is settled, over what is known of their members (IEEE 1800-2017, 8.4).
use Rattle.std.specs.Prelude.{◌≡◌, ℕ, suc, ◌+◌, false, List, [], ◌∷◌, ◌++◌, length, Some, None}
use Rattle.sv_names.specs.declared.around.ClassInfo.{ClassInfo}
use Rattle.sv_names.specs.declared.named.Known.{Known}
use Rattle.sv_names.specs.Checked.{fault_of}
use Rattle.sv_names.specs.Groups.{Group, Head, base_in, base_rules, slots_of}
use Rattle.sv_names.specs.Named.{Around}
use Rattle.sv_names.specs.Scopes.{scope_of, value_of_any}
use Rattle.sv_names.specs.Types.{Path}
use Rattle.sv_elab_scope.specs.declared.declared.Entry.{Entry}
use Rattle.sv_elab_scope.specs.Settling.{Meant}
use Rattle.sv_elab_scope.specs.Starting.{all_waiting}

-- a class over what is known of its members
abbrev pub info_over : List ClassInfo → List Head → Head → List Known → ClassInfo
info_over outer hs h ks =
    record {
      path = h.path;
      name = h.tree.name;
      is_virtual = h.tree.is_virtual;
      base = base_in hs h;
      base_fault = fault_of (base_rules hs h);
      scope = scope_of h.path (Some h.path) false ks;
      slots = slots_of (length hs + 1) outer hs (Some h.path);
    }

-- the classes, all of whose members wait
abbrev pub infos_waiting : List ClassInfo → List Head → List Head → List (List Entry) → List ClassInfo
infos_waiting outer hs [] ess = []
infos_waiting outer hs (h ∷ more) [] = []
infos_waiting outer hs (h ∷ more) (es ∷ ess) = info_over outer hs h (all_waiting es) ∷ infos_waiting outer hs more ess

-- the scope of a unit with its classes, where all waits
abbrev pub group_waiting : List ClassInfo → Path → List Head → List (List Entry) → Group
group_waiting outer p hs [] = record { scope = scope_of p None false []; classes = [] }
group_waiting outer p hs (es ∷ ess) =
    record { scope = scope_of p None false (all_waiting es); classes = infos_waiting outer hs hs ess }

-- what the declarations of a unit stand for
abbrev pub in_unit : Meant
in_unit l ar p e = value_of_any l ar p e e.what
