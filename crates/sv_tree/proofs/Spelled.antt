-- The tables of the code are those of the definitions.
use Rattle.std.proofs.Common.{◌≡◌, map, refl}
use Rattle.sv_tree.specs.declared.kind.TheConstants.{WORDS, SIGNS, UNUSED}
use Rattle.sv_tree.specs.Spellings.{words, signs, unused}

pub words_are : map (λ x. (x.0.now, x.1)) WORDS ≡ words
unfolding words
words_are = refl

pub signs_are : map (λ x. (x.0.now, x.1)) SIGNS ≡ signs
unfolding signs
signs_are = refl

pub unused_are : map (λ x. x.now) UNUSED ≡ unused
unfolding unused
unused_are = refl
