-- How writes are put behind others.
use Rattle.std.proofs.Common.{◌≡◌, List, [], ◌∷◌, ◌++◌, map, sym, ap, ◌∙◌, append_assoc, append-nil}
use Rattle.std.proofs.lemmas.List.{map-append}
use Rattle.sv_names.specs.Writers as writers
use Rattle.sv_elab_writers.specs.declared.writes.Write.{Write}
use Rattle.sv_elab_writers.specs.Views.{write_in, Written}

-- nothing is written
pub written_none : (ws : List Write) → Written ws ws []
written_none ws = sym (append-nil (map write_in ws))

-- one object is written
pub written_one : (ws vs : List Write) (w : Write) → vs ≡ ws ++ w ∷ [] → Written ws vs (write_in w ∷ [])
written_one ws vs w is = ap (map write_in) is ∙ map-append write_in ws (w ∷ [])

-- some are written, and then others
pub written_both : (us vs ws : List Write) (xs ys : List writers.Write) → Written us vs xs → Written vs ws ys → Written us ws (xs ++ ys)
written_both us vs ws xs ys a b = b ∙ ap (λ l. l ++ ys) a ∙ append_assoc (map write_in us) xs ys

-- what is written in a turn is what the rest begins with
pub turn_written : (us vs : List Write) (xs ys : List writers.Write) → Written us vs xs → map write_in vs ++ ys ≡ map write_in us ++ (xs ++ ys)
turn_written us vs xs ys a = ap (λ l. l ++ ys) a ∙ append_assoc (map write_in us) xs ys

-- the last turn has written all
pub all_written : (us vs : List Write) (xs : List writers.Write) → map write_in vs ++ [] ≡ map write_in us ++ xs → Written us vs xs
all_written us vs xs is = sym (append-nil (map write_in vs)) ∙ is
