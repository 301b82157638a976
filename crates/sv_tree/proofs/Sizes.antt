-- Sizes of dimensions: a name with something after it is one.
use Rattle.std.proofs.Common.{◌≡◌, List, [], ◌∷◌, length, refl}
use Rattle.sv_value.specs.declared.place.Place.{Place}
use Rattle.sv_tree.specs.declared.expr.Root.{Root}
use Rattle.sv_tree.specs.declared.expr.Root.TheVariants as root
use Rattle.sv_tree.specs.declared.expr.Suffix.{Suffix, Member, Call', Select', Part'}
use Rattle.sv_tree.specs.Expr as tree
use Rattle.sv_tree.specs.Stmt as stmts
use Rattle.sv_tree.specs.TypeGrammar.{size_of}
use Rattle.sv_tree.specs.View.{suffix, suffix_list}

more_after : (r : Root) (at : Place) (s : Suffix) (rest : tree.Suffixes) → size_of (tree.Post r (suffix s rest)) at ≡ stmts.Size at (tree.Post r (suffix s rest))
more_after (root.This a) at s rest = refl
more_after (root.Super a n) at s rest = refl
more_after (root.Scoped m n) at s rest = refl
more_after (root.Plain n) at (Member m) rest = refl
more_after (root.Plain n) at (Call' a shape row) rest = refl
more_after (root.Plain n) at (Select' a p e) rest = refl
more_after (root.Plain n) at (Part' a w p x q y) rest = refl

pub size_more : (r : Root) (at : Place) (ss : List Suffix) → (length ss ≡ 0 → ⊥) → size_of (tree.Post r (suffix_list ss)) at ≡ stmts.Size at (tree.Post r (suffix_list ss))
size_more r at [] some = absurd (some refl)
size_more r at (s ∷ ss) some = more_after r at s (suffix_list ss)
