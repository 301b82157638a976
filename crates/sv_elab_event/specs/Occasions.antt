-- What event expressions stand for, and how they are watched (IEEE 1800-2017, 9.4.2).
use Rattle.std.specs.Prelude.{Bool, true, false, not, ◌&&◌, ◌||◌, List, [], ◌∷◌, Option, Some, None, if◌then◌else◌}
use Rattle.sv_value.specs.declared.place.Place.{Place}
use Rattle.sv_flat.specs.declared.process.Edge.{Edge}
use Rattle.sv_flat.specs.declared.process.Edge.TheVariants as edge
use Rattle.sv_flat.specs.declared.process.Watch.{Watch}
use Rattle.sv_flat.specs.declared.process.Watch.TheVariants as watch
use Rattle.sv_flat.specs.declared.stmt.Form.{Form}
use Rattle.sv_flat.specs.declared.stmt.Form.TheVariants as form
use Rattle.sv_flat.specs.Expr as flat
use Rattle.sv_tree.specs.declared.word.EdgeWord.{EdgeWord}
use Rattle.sv_tree.specs.declared.expr.Root.{Root}
use Rattle.sv_tree.specs.Expr as tree
use Rattle.sv_tree.specs.Expr.{place_of_root}
use Rattle.sv_names.specs.declared.checked.Checked.{Checked}
use Rattle.sv_names.specs.declared.checked.Checked.TheVariants.{Good}
use Rattle.sv_names.specs.declared.hoisted.Hoisted.{Hoisted}
use Rattle.sv_names.specs.declared.typed.Typed.{Typed}
use Rattle.sv_names.specs.Checked.{both, ◌▷◌, given, broken_at, maybe}
use Rattle.sv_names.specs.Events.{Event, On_value, On_block, event_thing, has_edge, has_condition, edge_of, watch_form}
use Rattle.sv_names.specs.Expressions.{things, number_in}
use Rattle.sv_names.specs.Hoisted.{pure}
use Rattle.sv_names.specs.Named.{Around}
use Rattle.sv_names.specs.Things.{Thing, A_block, root_thing}
use Rattle.sv_names.specs.Types.{Path, is_event, is_integral}
use Rattle.sv_names.specs.Values.{alone, one_item}
use Rattle.sv_elab_name.specs.Things.{thing_in}
use Rattle.sv_elab_event.specs.declared.occasions.Occasion.{Occasion}
use Rattle.sv_elab_event.specs.declared.occasions.Occasion.TheVariants as occasion

-- what an event expression stands for
abbrev pub occasion_in : Occasion → Event
occasion_in (occasion.Value t) = On_value t
occasion_in (occasion.Block th) = On_block (thing_in th)

-- whether a thing is a clocking block
abbrev pub is_block : Thing → Bool
is_block (A_block p ss at) = true
is_block th = false

-- whether an expression is a name with what follows it
abbrev pub is_name : tree.Expr → Bool
is_name (tree.Post r s) = true
is_name e = false

-- what a name with what follows it stands for
abbrev pub named_event : Around → Root → tree.Suffixes → Checked Event
named_event ar r s = things ar (place_of_root r) (root_thing ar r) s ▷ event_thing ar (place_of_root r)

-- E15: an edge is one of a number
abbrev pub item_watched : EdgeWord → Place → Typed → Checked (Edge × Hoisted flat.Expr)
item_watched g at x =
    if is_event x.ty then (if has_edge g then broken_at 15 at else Good (edge.Trigger, x.code))
    else (if has_edge g && not (is_integral x.ty) then broken_at 15 at else Good (edge_of g, alone x))

-- E42: no whole array is watched
abbrev pub value_watched : EdgeWord → Place → Typed → Checked (Edge × Hoisted flat.Expr)
value_watched g at t = one_item t ▷ item_watched g at

-- the change of a value
abbrev pub value_watch : EdgeWord → Place → Option (Hoisted flat.Expr) → Typed → Checked (Hoisted Watch)
value_watch g at c t = given (λ q. watch_form q.0 q.1 c) (value_watched g at t)

-- E7: a clocking block has neither edge nor `iff`
abbrev pub block_watch : Around → EdgeWord → (has_condition : Bool) → Path → Place → Checked (Hoisted Watch)
block_watch ar g c b at = if has_edge g || c then broken_at 7 at else Good (pure (watch.Updates (ar.numbers.clocking b) 1))

-- what is waited for, by what an event expression stands for
abbrev pub occasion_watch : Around → EdgeWord → Place → Option tree.Expr → Option (Hoisted flat.Expr) → Event → Checked (Hoisted Watch)
occasion_watch ar g at w c (On_value t) = value_watch g at c t
occasion_watch ar g at w c (On_block (A_block b ss p)) = block_watch ar g (has_condition w) b p
occasion_watch ar g at w c (On_block th) = broken_at 7 at

-- what must be true
abbrev pub condition_in : Around → Option tree.Expr → Checked (Option (Hoisted flat.Expr))
condition_in ar c = maybe (λ e. given alone (number_in ar e)) c

-- an event expression with its `iff`
abbrev pub watch_given : Around → EdgeWord → Place → Option tree.Expr → Checked Event → Checked (Hoisted Watch)
watch_given ar g at w x = both x (condition_in ar w) ▷ (λ q. occasion_watch ar g at w q.1 q.0)

-- a named event that is waited for alone
abbrev pub lone_event : List Watch → Option flat.Expr
lone_event (watch.On e edge.Trigger None ∷ []) = Some e
lone_event ws = None

-- one named event, or all that is watched
abbrev pub form_of : Option flat.Expr → List Watch → Form
form_of (Some e) ws = form.AtEvent e
form_of None ws = form.At ws
