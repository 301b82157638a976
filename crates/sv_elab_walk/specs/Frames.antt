-- The walk on its way: what is left of the instances that are entered, from the outermost to the innermost (IEEE 1800-2017, 23.3).
use Rattle.std.specs.Prelude.{ℕ, ◌+◌, List, [], ◌∷◌, length, Option, Some, None, map}
use Rattle.sv_tree.specs.Descriptions.{Description}
use Rattle.sv_tree.specs.UnitView.{connection, instance, item}
use Rattle.sv_names.specs.Instances.{Walk, Walked, and_then, with_rest, counted, children, items_walk, enter_child, child, walk}
use Rattle.sv_names.specs.Named.{Around}
use Rattle.sv_elab_unit.specs.Definitions.{definition_in}
use Rattle.sv_elab_walk.specs.declared.frames.Frame.{Frame}
use Rattle.sv_elab_walk.specs.declared.frames.Next.{Next}
use Rattle.sv_elab_walk.specs.Insts.{inst_in}

-- what was walked, and the rest where so many instances may yet come
unfoldable pub goes_on : List Walked → ℕ → Walk → List Walked × Option ℕ
goes_on ws n go = with_rest ws (go n)

module _ (us : List Description) (files : Around) where
  -- what is left of an instance: instances of one item, then further items
  unfoldable pub frame_walk : Frame → Walk
  frame_walk f =
      and_then
      (children us files (λ c. walk us files f.most c) (inst_in f.of.value) (definition_in f.unit) (map connection f.params.now)
      (map instance f.list.now))
      (items_walk us files (λ c. walk us files f.most c) (inst_in f.of.value) f.before (map item f.items.now))

  -- what is left of all instances, and then the last
  unfoldable pub behind : List Frame → Walk → Walk
  behind [] last = last
  behind (f ∷ fs) last = behind fs (and_then (frame_walk f) last)

  -- an instance that comes next, and then the rest
  unfoldable pub next_walk : Option Next → Walk → Walk
  next_walk None rest = rest
  next_walk (Some x) rest =
      and_then
      (counted x.one.now.name.at
      (λ n. enter_child us files (λ c. walk us files x.most c) (inst_in x.of.value) (map connection x.one.now.connections.items)
      (child us files (inst_in x.of.value) (definition_in x.unit) (map connection x.params.now) (instance x.one.now)) n))
      rest

-- how many turns an instance takes at most: one for each item that is left, and one where it has nothing left
abbrev pub turns_in : Frame → ℕ
turns_in f = length f.items.now + 1

-- all instances together
abbrev pub turns : List Frame → ℕ
turns [] = 0
turns (f ∷ fs) = turns_in f + turns fs
