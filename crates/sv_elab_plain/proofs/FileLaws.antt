-- The declarations of files.
use Rattle.std.proofs.Common.{◌≡◌, ◌∙◌, Bool, true, false, List, [], ◌∷◌, ◌++◌, if◌then◌else◌, refl, sym, ap, append-nil}
use Rattle.std.specs.Prelude.{filter}
use Rattle.sv_names.specs.declared.checked.Checked.{Checked}
use Rattle.sv_names.specs.Checked.{◌where_also◌}
use Rattle.sv_names.specs.Entries.{Entry}
use Rattle.sv_names.specs.Items.{is_no_item}
use Rattle.sv_names.proofs.Joined.{next_guarded}
use Rattle.sv_elab_plain.specs.Files.{kept_of}

-- nothing is kept
pub none_kept : (es : List Entry) (e : Entry) → is_no_item e ≡ false → es ≡ es ++ kept_of e
none_kept es e none = sym (append-nil es) ∙ ap (λ (b : Bool). es ++ (if b then e ∷ [] else [])) (sym none)

-- one declaration further
pub kept_turn : (e : Entry) (es : List Entry) → kept_of e ++ filter is_no_item es ≡ filter is_no_item (e ∷ es)
kept_turn e es = by (is_no_item e) refl
  where
    by : (b : Bool) → is_no_item e ≡ b → kept_of e ++ filter is_no_item es ≡ filter is_no_item (e ∷ es)
    by true is =
        ap (λ (b : Bool). (if b then e ∷ [] else []) ++ filter is_no_item es) is
        ∙ sym (ap (λ (b : Bool). if b then e ∷ filter is_no_item es else filter is_no_item es) is)
    by false is =
        ap (λ (b : Bool). (if b then e ∷ [] else []) ++ filter is_no_item es) is
        ∙ sym (ap (λ (b : Bool). if b then e ∷ filter is_no_item es else filter is_no_item es) is)

-- rules one after another
pub files_guarded : {A : Type 0} (c : Checked A) (g x y z w : Checked (Unit {0}))
    → (c where_also g) where_also (x where_also (y where_also z) where_also w) ≡ c where_also g where_also (x where_also y) where_also z where_also w
files_guarded c g x y z w =
    sym (next_guarded (c where_also g) (x where_also (y where_also z)) w)
    ∙ ap (λ (d : Checked _). d where_also w) (ap (λ (v : Checked (Unit {0})). (c where_also g) where_also v) (sym (next_guarded x y z))
    ∙ sym (next_guarded (c where_also g) (x where_also y) z))
