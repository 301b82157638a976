-- Lists of paths, and the nets that parts of targets drive.
use Rattle.std.proofs.Common.{◌≡◌, ℕ, Bool, true, false, List, [], ◌∷◌, ◌++◌, sym, ap, ◌∙◌, if◌then◌else◌}
use Rattle.sv_flat.specs.declared.target.Base.{Base}
use Rattle.sv_names.specs.Clockings.{times_in}
use Rattle.sv_names.specs.Connections.{net_driven, as_driver}
use Rattle.sv_names.specs.Targets.{Spot}
use Rattle.sv_names.specs.Types.{Path, has_path}
use Rattle.sv_names.specs.Writers.{with_new}
use Rattle.sv_elab_drive.specs.Driven.{driven_base, with_base, driving}

module _ (ps : List Path) (s : Spot) where
  pub no_path : [] ≡ net_driven s → ps ≡ with_new ps (net_driven s)
  no_path is = ap (with_new ps) is

  pub known_path : (p : Path) → p ∷ [] ≡ net_driven s → has_path p ps ≡ true → ps ≡ with_new ps (net_driven s)
  known_path p is known =
      sym (ap (λ (b : Bool). if b then ps else ps ++ p ∷ []) known) ∙ ap (with_new ps) is

  pub new_path : (p : Path) → p ∷ [] ≡ net_driven s → has_path p ps ≡ false → ps ++ p ∷ [] ≡ with_new ps (net_driven s)
  new_path p is new =
      sym (ap (λ (b : Bool). if b then ps else ps ++ p ∷ []) new) ∙ ap (with_new ps) is

  -- a part of a target that drives no net
  pub drives_none : [] ≡ net_driven s → s ≡ driving ps s
  drives_none is = ap (λ (ns : List Path). (s.0, with_base (driven_base ps ns s.1.target.base) s.1)) is

  -- one that drives a net
  pub drives_net : (p : Path) (k : ℕ) (b : Base) → p ∷ [] ≡ net_driven s → k ≡ times_in p ps → b ≡ as_driver k s.1.target.base
      → (s.0, with_base b s.1) ≡ driving ps s
  drives_net p k b is times base =
      ap (λ (x : Base). (s.0, with_base x s.1)) (base ∙ ap (λ (n : ℕ). as_driver n s.1.target.base) times)
      ∙ ap (λ (ns : List Path). (s.0, with_base (driven_base ps ns s.1.target.base) s.1)) is
