use Rattle.std.proofs.Common.{◌≡◌, length, rules, Some, None, sym, subst, ◌∙◌}
use Rattle.std.proofs.Math.Facts.{Fits-of_lt}
use Rattle.std.specs.Prelude.{slice_index_or}
use Rattle.sv_names.specs.Named.{declared_in}
use Rattle.sv_names.proofs.IndexLemmas.{declared-none, declared-some, declared-within, placed-within, offset_within}
use Rattle.sv_names.proofs.declarations.declared_in.Goals as goal

pub bounds-items-position : goal.bounds-items-position
bounds-items-position c =
    declared-within c.known.inside.index c.known.inside.items c.known.invariant.0 c.args.name.now c.in-Some.position.now c.as_slice-items.result.now (sym c.in-Some.ensures.value) c.as_slice-items.ensures

pub bounds-places-position : goal.bounds-places-position
bounds-places-position c =
    placed-within c.known.inside.index c.known.inside.items c.known.invariant.0 c.args.name.now c.in-Some.position.now c.as_slice-places.result.now (sym c.in-Some.ensures.value) (c.as_slice-places.ensures ∙ c.known.invariant.1)

pub offset_bounds-items-position : goal.offset_bounds-items-position
offset_bounds-items-position c =
    let below = declared-within c.known.inside.index c.known.inside.items c.known.invariant.0 c.args.name.now c.in-Some.position.now c.as_slice-items.result.now (sym c.in-Some.ensures.value) c.as_slice-items.ensures in
    Fits-of_lt (offset_within c.in-Some.position.now (length c.as_slice-items.result.now) _ below c.as_slice-items.type_inv.1)

pub offset_bounds-places-position : goal.offset_bounds-places-position
offset_bounds-places-position c =
    let below = placed-within c.known.inside.index c.known.inside.items c.known.invariant.0 c.args.name.now c.in-Some.position.now c.as_slice-places.result.now (sym c.in-Some.ensures.value) (c.as_slice-places.ensures ∙ c.known.invariant.1) in
    Fits-of_lt (offset_within c.in-Some.position.now (length c.as_slice-places.result.now) _ below c.as_slice-places.type_inv.1)

pub returns-in-None : goal.returns-in-None
returns-in-None c =
    let kept = c.known.inside in
    subst (λ ks. None ≡ declared_in c.args.up 0 c.args.name.now ks) c.known.view_is
    (sym (declared-none kept.index kept.items c.known.invariant.0 c.args.name.now c.args.up (sym c.in-None.ensures.value)))

pub returns-in-Some : goal.returns-in-Some
returns-in-Some c =
    let kept = c.known.inside in
    let item = c.index-items-position.result in
    let at = c.in-Some.position.now in
    let read : slice_index_or c.as_slice-items.result.now at item ≡ item = search rules in
    let found = declared-some kept.index kept.items c.known.invariant.0 c.args.name.now c.args.up at item c.as_slice-places.result.now (sym c.in-Some.ensures.value)
    (c.as_slice-places.ensures ∙ c.known.invariant.1) (subst (λ ks. slice_index_or ks at item ≡ item) c.as_slice-items.ensures read) in
    subst (λ ks. Some (record { up = c.args.up; place = slice_index_or c.as_slice-places.result.now at 0; known = item }) ≡ declared_in c.args.up 0 c.args.name.now ks) c.known.view_is (sym found)
