-- Names of declarations by what holds them.
use Rattle.std.proofs.Common.{◌≡◌, Bool, true, false, List, [], ◌∷◌, ◌++◌, Option, refl, ap, ◌∙◌}
use Rattle.sv_tree.specs.Types.{WrittenType}
use Rattle.sv_tree.specs.Stmt.{Dimension, Declarator, Decl}
use Rattle.sv_names.specs.Entries as entries
use Rattle.sv_names.specs.Entries.{Declared, declarator_entries, items_in_dimension}
use Rattle.sv_elab_scope.specs.declared.declared.Storage.{Storage}
use Rattle.sv_elab_scope.specs.Views.{variable_in}
use Rattle.sv_elab_declare.specs.Added.{held_entries}

-- what each name is declared as decides what a declaration declares
pub declared_alike : (f g : WrittenType → Option Dimension → Declared) (w : WrittenType) (xs : List Declarator)
    → ((d : Option Dimension) → f w d ≡ g w d) → declarator_entries f w xs ≡ declarator_entries g w xs
declared_alike f g w [] is = refl
declared_alike f g w (x ∷ xs) is = λ i. entries.entry x.name (is x.dimension i) ∷ items_in_dimension x.dimension ++ declared_alike f g w xs is i

-- variables of an activation or of the design
pub held_alike : (h : Storage) (auto : Bool) (d : Decl)
    → ((w : WrittenType) (x : Option Dimension) → variable_in h w x ≡ entries.variable_kind (entries.is_automatic_life auto d.life) w x)
    → held_entries h d ≡ entries.decl_entries auto d
held_alike h auto d is =
    ap (λ es. entries.items_in d.of ++ es) (declared_alike (variable_in h) (entries.variable_kind (entries.is_automatic_life auto d.life)) d.of d.names (λ x. is d.of x))
