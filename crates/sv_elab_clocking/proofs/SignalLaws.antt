-- Signals, one behind the other.
use Rattle.std.proofs.Common.{◌≡◌, ◌∙◌, ℕ, List, [], ◌∷◌, ◌++◌, Result, Ok, Err, refl, sym, ap, subst, append_assoc, append-nil}
use Rattle.std.proofs.lemmas.Grind.{flat_map-append}
use Rattle.sv_flat.specs.declared.clocking.Signal.{Signal}
use Rattle.sv_tree.specs.declared.word.Name.{Name}
use Rattle.sv_tree.specs.Units as tree
use Rattle.sv_tree.specs.Units.{Sided}
use Rattle.sv_names.specs.declared.checked.Checked.{Checked}
use Rattle.sv_names.specs.declared.checked.Checked.TheVariants.{Good, Broken}
use Rattle.sv_names.specs.declared.named.Named.{Named}
use Rattle.sv_names.specs.declared.named.SignalInfo.{SignalInfo}
use Rattle.sv_names.specs.declared.refusal.Refusal.{Refusal}
use Rattle.sv_names.specs.Checked.{◌▷◌, ◌where_also◌, given, both, put_before, only}
use Rattle.sv_names.specs.Clockings.{Skews, MadeSignal, driver_of, signals_after, with_skews, signal_made, signal_named, item_signals}
use Rattle.sv_names.specs.Given.{Fails, first_of}
use Rattle.sv_names.specs.Joined.{joined}
use Rattle.sv_names.specs.Named.{Around}
use Rattle.sv_names.specs.Scopes.{signal_of_named}
use Rattle.sv_names.specs.Types.{Path}
use Rattle.sv_elab_signal.specs.Signals.{object_meant}
use Rattle.sv_elab_clocking.specs.Making.{nets_of, AreSignals, EmitsSignal, AddsSignals}
use Rattle.sv_elab_clocking.specs.Signals.{drives, signal_meant, one_in_list, signals_named}
use Rattle.sv_elab_clocking.proofs.BesideLaws.{also_same, also_stands, also_fails, only_fails, fails_through, fails_given, both_good, both_fail, fail_both, given_same, pair_same}

-- ---- one signal

module _ (ar : Around) (p : Path) (k : Skews) (ds : List Sided) (n : Name) where
  -- a signal whose object stands
  pub signal_stands : (x : Named) (s : SignalInfo) (b b' qs : List Path) (d : ℕ) (r : Signal)
      → signal_of_named ar.unit p n ds x ≡ Good s → qs ≡ drives s x → d ≡ driver_of b qs → b' ≡ b ++ qs → r ≡ (signal_made ar k n s x).signal d
      → EmitsSignal b b' (Ok r) (signal_meant ar p k ds n x)
  signal_stands x s b b' qs d r stands nets number driven made = (
    signal_made ar k n s x,
    ap (given (λ (i : SignalInfo). signal_made ar k n i x)) stands,
    record {
      value = made ∙ ap (signal_made ar k n s x).signal (number ∙ ap (driver_of b) nets);
      drives = driven ∙ ap (λ (ps : List Path). b ++ ps) nets;
    },
  )

  -- by its name
  pub meant_good : (x : Named) (b b' : List Path) (r : Result Signal Refusal) → object_meant ar 46 n ≡ Good x
      → EmitsSignal b b' r (signal_meant ar p k ds n x) → EmitsSignal b b' r (signal_named ar p k ds n)
  meant_good x b b' r is made = subst (λ (c : Checked Named). EmitsSignal b b' r (c ▷ signal_meant ar p k ds n)) (sym is) made

  pub meant_broken : (e : Refusal) → Fails e (object_meant ar 46 n) → Fails e (signal_named ar p k ds n)
  meant_broken e fails = fails_through (object_meant ar 46 n) (signal_meant ar p k ds n) e fails

-- a list of one
pub one_added : (b b' : List Path) (xs xs' : List Signal) (s : Signal) (c : Checked MadeSignal) → EmitsSignal b b' (Ok s) c → xs' ≡ xs ++ s ∷ []
    → AddsSignals b b' xs xs' (Ok tt) (one_in_list c)
one_added b b' xs xs' s c made pushed =
    let m = made.0 in (
      m ∷ [],
      ap one_in_list made.1,
      record {
        added = pushed ∙ ap (λ (x : Signal). xs ++ x ∷ []) made.2.value;
        drives = made.2.drives ∙ ap (λ (ps : List Path). b ++ ps) (sym (append-nil m.drives));
      },
    )

pub one_broken : (c : Checked MadeSignal) (e : Refusal) → Fails e c → Fails e (one_in_list c)
one_broken c e fails = fails_given (λ (m : MadeSignal). m ∷ []) c e fails

-- ---- one list behind another

-- signals behind signals
after_both : (b : List Path) (ms ns : List MadeSignal) → signals_after b (ms ++ ns) ≡ signals_after b ms ++ signals_after (b ++ nets_of ms) ns
after_both b [] ns = ap (λ (p : List Path). signals_after p ns) (sym (append-nil b))
after_both b (m ∷ ms) ns =
    ap (λ (xs : List Signal). m.signal (driver_of b m.drives) ∷ xs)
    (after_both (b ++ m.drives) ms ns
    ∙ ap (λ (p : List Path). signals_after (b ++ m.drives) ms ++ signals_after p ns) (append_assoc b m.drives (nets_of ms)))

-- the lists of both
are_both : (o m n : List Path) (xs ys zs : List Signal) (ms ns : List MadeSignal) → AreSignals o m xs ys ms → AreSignals m n ys zs ns
    → AreSignals o n xs zs (ms ++ ns)
are_both o m n xs ys zs ms ns a b =
    record {
      added =
          b.added ∙ ap (λ (l : List Signal). l ++ signals_after m ns) a.added ∙ append_assoc xs (signals_after o ms) (signals_after m ns)
          ∙ ap (λ (p : List Path). xs ++ (signals_after o ms ++ signals_after p ns)) a.drives
          ∙ ap (λ (l : List Signal). xs ++ l) (sym (after_both o ms ns));
      drives =
          b.drives ∙ ap (λ (p : List Path). p ++ nets_of ns) a.drives ∙ append_assoc o (nets_of ms) (nets_of ns)
          ∙ ap (λ (p : List Path). o ++ p) (sym (flat_map-append (λ (s : MadeSignal). s.drives) ms ns));
    }

-- no signal
pub none_added : (b : List Path) (xs : List Signal) → AddsSignals b b xs xs (Ok tt) (Good [])
none_added b xs = ([], refl, record { added = sym (append-nil xs); drives = sym (append-nil b) })

module _ (o m n : List Path) (xs ys zs : List Signal) (x y : Checked (List MadeSignal)) where
  -- the first list stands
  pub both_add : (b : Result (Unit {0}) Refusal) → AddsSignals o m xs ys (Ok tt) x → AddsSignals m n ys zs b y → AddsSignals o n xs zs b (joined x y)
  both_add (Ok u) p q = (
    p.0 ++ q.0,
    ap (λ (c : Checked (List MadeSignal)). joined c y) p.1 ∙ ap (joined (Good p.0)) q.1,
    are_both o m n xs ys zs p.0 q.0 p.2 q.2,
  )
  both_add (Err e) p q = fails_given (λ (r : List MadeSignal × List MadeSignal). r.0 ++ r.1) (both x y) e (both_good p.0 x y e p.1 q)

  -- it breaks a rule, and the second stands
  pub first_fails : (e : Refusal) → Fails e x → AddsSignals m n ys zs (Ok tt) y → Fails e (joined x y)
  first_fails e p q = fails_given (λ (r : List MadeSignal × List MadeSignal). r.0 ++ r.1) (both x y) e (fail_both x q.0 y e p q.1)

  -- both break a rule
  pub both_break : (e f : Refusal) → Fails e x → Fails f y → Fails (first_of e f) (joined x y)
  both_break e f p q = fails_given (λ (r : List MadeSignal × List MadeSignal). r.0 ++ r.1) (both x y) (first_of e f) (both_fail x y e f p q)

-- a list from its first on
pub first_of_each : (ar : Around) (p : Path) (k : Skews) (ds : List Sided) (n : Name) (ns : List Name)
    → joined (one_in_list (signal_named ar p k ds n)) (signals_named ar p k ds ns) ≡ signals_named ar p k ds (n ∷ ns)
first_of_each ar p k ds n ns = by (signal_named ar p k ds n) (signals_named ar p k ds ns)
  where
    by : (x : Checked MadeSignal) (xs : Checked (List MadeSignal)) → joined (one_in_list x) xs ≡ put_before x xs
    by (Good m) (Good ms) = refl
    by (Good m) (Broken g) = refl
    by (Broken f) (Good ms) = refl
    by (Broken f) (Broken g) = refl

-- ---- what signals break does not depend on their skews

named_same : (ar : Around) (p : Path) (j k : Skews) (ds : List Sided) (n : Name) → only (signal_named ar p j ds n) ≡ only (signal_named ar p k ds n)
named_same ar p j k ds n = by (object_meant ar 46 n)
  where
    by : (c : Checked Named) → only (c ▷ signal_meant ar p j ds n) ≡ only (c ▷ signal_meant ar p k ds n)
    by (Good x) =
        given_same (λ (s : SignalInfo). signal_made ar j n s x) (λ (s : SignalInfo). signal_made ar k n s x) (signal_of_named ar.unit p n ds x)
    by (Broken f) = refl

pub signals_same : (ar : Around) (p : Path) (j k : Skews) (ds : List Sided) (ns : List Name)
    → only (signals_named ar p j ds ns) ≡ only (signals_named ar p k ds ns)
signals_same ar p j k ds [] = refl
signals_same ar p j k ds (n ∷ ns) =
    pair_same (λ (q : MadeSignal × List MadeSignal). q.0 ∷ q.1) (signal_named ar p j ds n) (signal_named ar p k ds n)
    (signals_named ar p j ds ns) (signals_named ar p k ds ns) (named_same ar p j k ds n) (signals_same ar p j k ds ns)

-- ---- items

module _ (ar : Around) (p : Path) (k : Skews) (ds : List Sided) (ns : List Name) where
  -- an item whose skews stand
  pub item_good : (j : Skews) → with_skews ar k ds ≡ Good j → item_signals ar p k (tree.Signals ds ns) ≡ signals_named ar p j ds ns
  item_good j e =
      ap (λ (c : Checked Skews). (c ▷ (λ i. signals_named ar p i ds ns)) where_also only (signals_named ar p k ds ns)) e
      ∙ also_same (signals_named ar p j ds ns) (only (signals_named ar p k ds ns)) (signals_same ar p k j ds ns)

  -- one whose skews break a rule, and its signals do not
  pub item_broken : (b b' : List Path) (xs xs' : List Signal) (e : Refusal) → Fails e (with_skews ar k ds)
      → AddsSignals b b' xs xs' (Ok tt) (signals_named ar p k ds ns) → Fails e (item_signals ar p k (tree.Signals ds ns))
  item_broken b b' xs xs' e fails made =
      also_stands (with_skews ar k ds ▷ (λ i. signals_named ar p i ds ns)) (only (signals_named ar p k ds ns)) e (ap only made.1)
      (fails_through (with_skews ar k ds) (λ i. signals_named ar p i ds ns) e fails)

  -- both break a rule
  pub item_breaks : (e f : Refusal) → Fails e (with_skews ar k ds) → Fails f (signals_named ar p k ds ns)
      → Fails (first_of e f) (item_signals ar p k (tree.Signals ds ns))
  item_breaks e f fails behind =
      also_fails (with_skews ar k ds ▷ (λ i. signals_named ar p i ds ns)) (only (signals_named ar p k ds ns)) e f
      (fails_through (with_skews ar k ds) (λ i. signals_named ar p i ds ns) e fails) (only_fails (signals_named ar p k ds ns) f behind)
