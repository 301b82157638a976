-- Whole programs: the first rule that is broken, and where.
use Rattle.std.proofs.Common.{◌≡◌, List, [], ◌∷◌, refl}
use Rattle.std.specs.Prelude.{Some, None, codes}
use Rattle.sv_value.specs.Vector.{symbols_of, word_of}
use Rattle.sv_tree.specs.declared.word.AtomWord.TheVariants as atom_word
use Rattle.sv_tree.specs.declared.word.Sign.TheVariants as sign
use Rattle.sv_tree.specs.declared.word.Life.TheVariants as life
use Rattle.sv_tree.specs.declared.word.ProcedureWord.TheVariants as procedure_word
use Rattle.sv_tree.specs.Types as types
use Rattle.sv_tree.specs.Stmt as stmts
use Rattle.sv_tree.specs.Items as items
use Rattle.sv_tree.specs.Descriptions.{Description}
use Rattle.sv_names.specs.Design.{broken}
use Rattle.sv_names_rows.proofs.Kit.{at, blocking, decl, declarator, fault, instance, instances, module_, name, number, procedure, target}

-- module t; int a; int a; endmodule
abbrev t32 : List Description
t32 = module_ (at 0 1 1) life.Unwritten (name (at 0 1 8) "t") None [] (items.Decl (decl life.Unwritten (types.Atom (at 0 1 11) atom_word.Int sign.Unwritten) (declarator (name (at 0 1 15) "a") None None ∷ [])) ∷ items.Decl (decl life.Unwritten (types.Atom (at 0 1 18) atom_word.Int sign.Unwritten) (declarator (name (at 0 1 22) "a") None None ∷ [])) ∷ []) None ∷ []

t32_broken : broken t32 [] None ≡ Some (fault 5 0 1 22)
unfolding symbols_of word_of
t32_broken = refl

-- module t; initial b = 1; endmodule
abbrev t33 : List Description
t33 = module_ (at 0 1 1) life.Unwritten (name (at 0 1 8) "t") None [] (procedure (at 0 1 11) procedure_word.Initial (stmts.Statement (at 0 1 19) None (blocking (target (at 0 1 19) "b") None (stmts.Value (number (at 0 1 23) "1")))) ∷ []) None ∷ []

t33_broken : broken t33 [] None ≡ Some (fault 6 0 1 19)
unfolding symbols_of word_of
t33_broken = refl

-- module t; t u(); endmodule
abbrev t34 : List Description
t34 = module_ (at 0 1 1) life.Unwritten (name (at 0 1 8) "t") None [] (instances (name (at 0 1 11) "t") [] (instance (name (at 0 1 13) "u") [] ∷ []) ∷ []) None ∷ []

t34_broken : broken t34 [] (Some (codes "t")) ≡ Some (fault 3 0 1 11)
unfolding symbols_of word_of
t34_broken = refl

-- module t; u a(); endmodule
abbrev t35 : List Description
t35 = module_ (at 0 1 1) life.Unwritten (name (at 0 1 8) "t") None [] (instances (name (at 0 1 11) "u") [] (instance (name (at 0 1 13) "a") [] ∷ []) ∷ []) None ∷ []

t35_broken : broken t35 [] None ≡ Some (fault 2 0 1 11)
unfolding symbols_of word_of
t35_broken = refl
