-- What instances declare.
use Rattle.std.proofs.Common.{◌≡◌, List, ap, ◌∙◌}
use Rattle.sv_tree.specs.Descriptions.{Description}
use Rattle.sv_tree.specs.Items.{DesignElement}
use Rattle.sv_names.specs.declared.checked.Checked.{Checked}
use Rattle.sv_names.specs.Entries.{Entry}
use Rattle.sv_names.specs.Groups.{Group, Head, heads_of, settled_group}
use Rattle.sv_names.specs.Instances.{Givens, file_entries, names_stand, unit_entries}
use Rattle.sv_names.specs.Named.{Around}
use Rattle.sv_names.specs.Types.{Path}
use Rattle.sv_elab_walk.specs.Grounds.{IsBody}

-- the names of an instance, its classes, and the two settled
pub body_made : (us : List Description) (ar : Around) (p : Path) (u : DesignElement) (gs : Givens) (es : List Entry) (hs : List Head) (g : Group)
    (stands : Checked (Unit {0})) → es ≡ unit_entries p u gs → hs ≡ heads_of p es (file_entries us) u.items → g ≡ settled_group ar p es hs
    → stands ≡ names_stand es hs → IsBody us ar p u gs g stands
body_made us ar p u gs es hs g stands named headed settled names =
    let all : hs ≡ heads_of p (unit_entries p u gs) (file_entries us) u.items =
    headed ∙ ap (λ (es : List Entry). heads_of p es (file_entries us) u.items) named in
    record {
      settled = settled ∙ (λ i. settled_group ar p (named i) (all i));
      names = names ∙ (λ i. names_stand (named i) (all i));
    }
