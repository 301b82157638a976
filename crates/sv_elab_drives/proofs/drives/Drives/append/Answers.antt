use Rattle.std.proofs.Common.{◌≡◌, List, [], ◌++◌, sym, ap, ◌∙◌, append-nil}
use Rattle.std.proofs.lemmas.List.{nil_from_length}
use Rattle.sv_names.specs.Types.{Path}
use Rattle.sv_elab_drives.proofs.drives.Drives.append.Goals as goal

pub returns : goal.returns
returns c =
    let nothing : c.loop-net.net-iterator.rest.items ≡ [] =
    nil_from_length c.loop-net.net-iterator.rest.items (sym c.loop-net.net-iterator.rest.ok.0 ∙ c.in-None.ensures.steps.0) in
    sym (append-nil c.loop-net.self)
    ∙ sym (ap (λ (ps : List Path). c.loop-net.self ++ ps) nothing)
    ∙ c.loop-net.invariant
