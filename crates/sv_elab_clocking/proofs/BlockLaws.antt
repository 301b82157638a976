-- A clocking block over its parts, each of which can break a rule.
use Rattle.std.proofs.Common.{◌≡◌, ◌∙◌, List, [], ◌∷◌, ◌++◌, Some, Ok, refl, ap}
use Rattle.sv_flat.specs.declared.clocking.Clocking.{Clocking}
use Rattle.sv_flat.specs.declared.clocking.Signal.{Signal}
use Rattle.sv_flat.specs.declared.object.Object.{Object}
use Rattle.sv_tree.specs.Units as tree
use Rattle.sv_tree.specs.Units.{ClockingItem, ClockingBlock}
use Rattle.sv_names.specs.declared.checked.Checked.{Checked}
use Rattle.sv_names.specs.declared.checked.Checked.TheVariants.{Good}
use Rattle.sv_names.specs.declared.refusal.Refusal.{Refusal}
use Rattle.sv_names.specs.declared.refusal.Refusal.TheVariants.{Rule, Memory}
use Rattle.sv_names.specs.Blocks.{end_label}
use Rattle.sv_names.specs.Checked.{◌▷◌, ◌where_also◌, given, both, only}
use Rattle.sv_names.specs.Clockings.{Skews, MadeSignal, usual_skews, defaults, with_skews, item_signals, signals_of, signals_differ, sample_objects, MadeClocking, clocking_made, event_of, clocking_of}
use Rattle.sv_names.specs.Given.{Fails, first_of}
use Rattle.sv_names.specs.Named.{Around}
use Rattle.sv_names.specs.Scopes.{signals_in}
use Rattle.sv_names.specs.Types.{Path}
use Rattle.sv_names.proofs.Joined.{next_guarded}
use Rattle.sv_elab_clocking.specs.Blocks.{signals_usual, names_stand, whole, block_over}
use Rattle.sv_elab_clocking.specs.Making.{AddsSignals, EmitsClocking}
use Rattle.sv_elab_clocking.specs.Names.{items_names}
use Rattle.sv_elab_clocking.specs.Signals.{signals_named}
use Rattle.sv_elab_clocking.proofs.BesideLaws.{also_same, also_stands, also_fails, only_fails, fails_through, over_same, pair_same, both_and, given_and, with_good}
use Rattle.sv_elab_clocking.proofs.SkewLaws.{same_faults}
use Rattle.sv_elab_clocking.proofs.SignalLaws.{signals_same}

-- ---- what signals break does not depend on the skews before

item_same : (ar : Around) (p : Path) (j k : Skews) (i : ClockingItem) → only (item_signals ar p j i) ≡ only (item_signals ar p k i)
item_same ar p j k (tree.Default ss) = refl
item_same ar p j k (tree.Signals ds ns) =
    over_same (λ m. signals_named ar p m ds ns) (λ a b. signals_same ar p a b ds ns) (with_skews ar j ds) (with_skews ar k ds) (same_faults ar j k ds)
    (only (signals_named ar p j ds ns)) (only (signals_named ar p k ds ns)) (signals_same ar p j k ds ns)

all_same : (ar : Around) (p : Path) (j k : Skews) (is : List ClockingItem) → only (signals_of ar p j is) ≡ only (signals_of ar p k is)
all_same ar p j k [] = refl
all_same ar p j k (i ∷ is) =
    pair_same (λ (q : List MadeSignal × List MadeSignal). q.0 ++ q.1) (item_signals ar p j i) (item_signals ar p k i)
    (signals_of ar p j is) (signals_of ar p k is) (item_same ar p j k i) (all_same ar p j k is)

module _ (ar : Around) (p : Path) (is : List ClockingItem) where
  -- the skews that a block makes usual stand
  pub usual_good : (k : Skews) → defaults ar usual_skews is ≡ Good k → signals_usual ar p is ≡ signals_of ar p k is
  usual_good k e =
      ap (λ (c : Checked Skews). (c ▷ (λ m. signals_of ar p m is)) where_also only (signals_of ar p usual_skews is)) e
      ∙ also_same (signals_of ar p k is) (only (signals_of ar p usual_skews is)) (all_same ar p usual_skews k is)

  -- they break a rule, and the signals do not
  pub usual_broken : (b b' : List Path) (xs xs' : List Signal) (e : Refusal) → Fails e (defaults ar usual_skews is)
      → AddsSignals b b' xs xs' (Ok tt) (signals_of ar p usual_skews is) → Fails e (signals_usual ar p is)
  usual_broken b b' xs xs' e fails made =
      also_stands (defaults ar usual_skews is ▷ (λ m. signals_of ar p m is)) (only (signals_of ar p usual_skews is)) e (ap only made.1)
      (fails_through (defaults ar usual_skews is) (λ m. signals_of ar p m is) e fails)

  -- both break a rule
  pub usual_breaks : (e f : Refusal) → Fails e (defaults ar usual_skews is) → Fails f (signals_of ar p usual_skews is)
      → Fails (first_of e f) (signals_usual ar p is)
  usual_breaks e f fails behind =
      also_fails (defaults ar usual_skews is ▷ (λ m. signals_of ar p m is)) (only (signals_of ar p usual_skews is)) e f
      (fails_through (defaults ar usual_skews is) (λ m. signals_of ar p m is) e fails) (only_fails (signals_of ar p usual_skews is) f behind)

-- ---- the whole block

module _ (ar : Around) (p : Path) (b : ClockingBlock) where
  -- with its event and its signals
  abbrev made_of : Path × List MadeSignal → MadeClocking
  made_of q = clocking_made ar p b (signals_in ar p b.items) q.0 q.1

  -- a block, over its event, its signals and its names
  block_is : clocking_of ar p b ≡ given made_of (whole (event_of ar b.event) (signals_usual ar p b.items) (names_stand b))
  block_is =
      let event : Checked Path = event_of ar b.event in
      let signals : Checked (List MadeSignal) = defaults ar usual_skews b.items ▷ (λ k. signals_of ar p k b.items) in
      let usual : Checked (Unit {0}) = only (signals_of ar p usual_skews b.items) in
      let differ : Checked (Unit {0}) = signals_differ [] (items_names b.items) in
      let label : Checked (Unit {0}) = end_label (Some b.name) b.label in
      ap (λ (c : Checked MadeClocking). (c where_also differ) where_also label)
      (given_and made_of (both event signals) usual ∙ ap (given made_of) (both_and event signals usual))
      ∙ next_guarded (given made_of (both event (signals where_also usual))) differ label
      ∙ given_and made_of (both event (signals where_also usual)) (differ where_also label)

  -- a block that breaks no rule
  pub block_stands : (event : Path) (o o' : List Path) (os os' : List Object) (ss : List Signal) (x : Clocking)
      → (event_of ar b.event where_also names_stand b) ≡ Good event → AddsSignals o o' [] ss (Ok tt) (signals_usual ar p b.items)
      → x ≡ block_over ar b event ss → os' ≡ os ++ sample_objects ar (signals_in ar p b.items) → EmitsClocking o o' os os' (Ok x) (clocking_of ar p b)
  block_stands event o o' os os' ss x stands made value samples =
      let ms = made.0 in
      let there : whole (event_of ar b.event) (signals_usual ar p b.items) (names_stand b) ≡ Good (event, ms) =
      ap (λ (c : Checked (List MadeSignal)). whole (event_of ar b.event) c (names_stand b)) made.1
      ∙ with_good (event_of ar b.event) ms (names_stand b) ∙ ap (given (λ (q : Path). (q, ms))) stands in (
        made_of (event, ms),
        block_is ∙ ap (given made_of) there,
        record { value = value ∙ ap (block_over ar b event) made.2.added; drives = made.2.drives; samples = samples },
      )

  -- its event or its names break a rule, and its signals do not
  pub names_refuse : (o o' : List Path) (xs xs' : List Signal) (e : Refusal) → Fails e (event_of ar b.event where_also names_stand b)
      → AddsSignals o o' xs xs' (Ok tt) (signals_usual ar p b.items) → Fails e (clocking_of ar p b)
  names_refuse o o' xs xs' (Rule n at) fails made =
      block_is
      ∙ ap (λ (c : Checked (List MadeSignal)). given made_of (whole (event_of ar b.event) c (names_stand b))) made.1
      ∙ ap (given made_of) (with_good (event_of ar b.event) made.0 (names_stand b) ∙ ap (given (λ (q : Path). (q, made.0))) fails)
  names_refuse o o' xs xs' Memory fails made = tt

  -- its signals break a rule
  pub signals_refuse : (e : Refusal) → Fails e (whole (event_of ar b.event) (signals_usual ar p b.items) (names_stand b))
      → Fails e (clocking_of ar p b)
  signals_refuse (Rule n at) fails = block_is ∙ ap (given made_of) fails
  signals_refuse Memory fails = tt
