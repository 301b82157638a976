-- Instances that are walked, one in another.
use Rattle.std.proofs.Common.{◌≡◌, ℕ, suc, ◌+◌, List, [], ◌∷◌, ◌++◌, Some, None, map, refl, sym, ap, ◌∙◌, arith}
use Rattle.sv_tree.specs.Descriptions.{Description}
use Rattle.sv_names.specs.Instances.{Walk, Walked, Inst, Enter, Meet, Connect, Pass, and_then, with_rest, stays, meets, walk, item_walk, items_walk, children, child, enter_child, counted, scopes_of_item}
use Rattle.sv_names.specs.Named.{Around}
use Rattle.sv_tree.specs.declared.unit.Instance.{Instance}
use Rattle.sv_tree.specs.declared.unit.Item.{Item}
use Rattle.sv_tree.specs.Units.{Connection}
use Rattle.sv_tree.specs.UnitView.{connection, instance, item}
use Rattle.sv_elab_unit.specs.Definitions.{definition_in}
use Rattle.sv_elab_walk.specs.declared.frames.Frame.{Frame}
use Rattle.sv_elab_walk.specs.declared.frames.Next.{Next}
use Rattle.sv_elab_walk.specs.declared.instance.Inst as code_inst
use Rattle.sv_elab_walk.specs.declared.instance.Walked as code_walked
use Rattle.sv_elab_walk.specs.Insts.{inst_in, walked_in, all_walked}
use Rattle.sv_elab_walk.proofs.RestLaws.{meets_then, parts_then, parts_joined, counted_then, passed_then, then_stays, all_left}
use Rattle.sv_elab_walk.specs.Frames.{goes_on, frame_walk, next_walk, behind, turns, turns_in}

-- one more thing that is met
pub walked_last : (ws : List code_walked.Walked) (w : code_walked.Walked) → all_walked (ws ++ w ∷ []) ≡ all_walked ws ++ walked_in w ∷ []
walked_last [] w = refl
walked_last (v ∷ ws) w = ap (λ (vs : List Walked). walked_in v ∷ vs) (walked_last ws w)

module _ (us : List Description) (files : Around) where
  -- the innermost comes first
  pub behind_last : (fs : List Frame) (f : Frame) (last : Walk)
      → behind us files (fs ++ f ∷ []) last ≡ and_then (frame_walk us files f) (behind us files fs last)
  unfolding behind
  behind_last [] f last = refl
  behind_last (g ∷ fs) f last = behind_last fs f (and_then (frame_walk us files g) last)

  -- nothing behind nothing
  pub behind_none : (last : Walk) → behind us files [] last ≡ last
  unfolding behind
  behind_none last = refl

  -- what is left of an instance that has no instances left of an item
  pub items_left : (f : Frame) → f.list.now ≡ []
      → frame_walk us files f
      ≡ items_walk us files (λ c. walk us files f.most c) (inst_in f.of.value) f.before (map item f.items.now)
  unfolding frame_walk
  items_left f none =
      let is = map item f.items.now in
      λ i. and_then
      (children us files (λ c. walk us files f.most c) (inst_in f.of.value) (definition_in f.unit) (map connection f.params.now)
      (map instance (none i)))
      (items_walk us files (λ c. walk us files f.most c) (inst_in f.of.value) f.before is)

  -- an instance that is entered
  pub entered : (ws vs : List code_walked.Walked) (w : code_walked.Walked) (fs gs : List Frame) (f : Frame) (x : code_inst.Inst) (most : ℕ)
      → vs ≡ ws ++ w ∷ [] → walked_in w ≡ Enter (inst_in x) → gs ≡ fs ++ f ∷ [] → most ≡ suc f.most → f.of.value ≡ x → f.list.now ≡ []
      → f.before ≡ 0 → f.items.now ≡ x.unit.element.now.items.items → (n : ℕ) (last : Walk)
      → goes_on (all_walked vs) n (behind us files gs last)
      ≡ goes_on (all_walked ws) n (and_then (walk us files most (inst_in x)) (behind us files fs last))
  entered ws vs w fs gs f x most pushed met added levels of none blocks items n last =
      let walks : frame_walk us files f
      ≡ items_walk us files (λ c. walk us files f.most c) (inst_in x) 0 (map item x.unit.element.now.items.items) =
      items_left f none ∙ (λ i. items_walk us files (λ c. walk us files f.most c) (inst_in (of i)) (blocks i) (map item (items i))) in
      let seen : all_walked vs ≡ all_walked ws ++ Enter (inst_in x) ∷ [] =
      ap all_walked pushed ∙ walked_last ws w ∙ ap (λ (y : Walked). all_walked ws ++ y ∷ []) met in
      (λ i. goes_on (seen i) n (behind us files (added i) last))
      ∙ ap (goes_on (all_walked ws ++ Enter (inst_in x) ∷ []) n) (behind_last fs f last)
      ∙ ap (λ (a : Walk). goes_on (all_walked ws ++ Enter (inst_in x) ∷ []) n (and_then a (behind us files fs last))) walks
      ∙ meets_then (all_walked ws) n (Enter (inst_in x))
      (items_walk us files (λ c. walk us files f.most c) (inst_in x) 0 (map item x.unit.element.now.items.items)) (behind us files fs last)
      ∙ ap (λ (k : ℕ). goes_on (all_walked ws) n (and_then (walk us files k (inst_in x)) (behind us files fs last))) (sym levels)

  -- an item that is met, whose instances are left
  pub item_met : (ws vs : List code_walked.Walked) (w : code_walked.Walked) (fs gs : List Frame) (f g : Frame) (y : code_inst.Inst) (one : Item)
      (rest : List Item) → vs ≡ ws ++ w ∷ [] → walked_in w ≡ Meet (inst_in f.of.value) f.before (item one) → gs ≡ fs ++ g ∷ [] → f.list.now ≡ []
      → f.items.now ≡ one ∷ rest → g.of.value ≡ f.of.value → g.most ≡ f.most → g.items.now ≡ rest
      → g.before ≡ f.before + scopes_of_item (item one)
      → y ≡ f.of.value
      → ((files : Around) (go : Inst → Walk) (b : ℕ) → item_walk us files go (inst_in y) b (item one)
      ≡ meets (Meet (inst_in y) b (item one)) (children us files go (inst_in y) (definition_in g.unit)
      (map connection g.params.now) (map instance g.list.now)))
      → (n : ℕ) (last : Walk)
      → goes_on (all_walked vs) n (behind us files gs last)
      ≡ goes_on (all_walked ws) n (and_then (frame_walk us files f) (behind us files fs last))
  unfolding frame_walk
  item_met ws vs w fs gs f g y one rest pushed met added none first of levels items blocks same listed n last =
      let x : Inst = inst_in f.of.value in
      let m : Walked = Meet x f.before (item one) in
      let go : Inst → Walk = λ c. walk us files f.most c in
      let outer : Walk = behind us files fs last in
      let list : Walk = children us files go x (definition_in g.unit) (map connection g.params.now) (map instance g.list.now) in
      let more : Walk = items_walk us files go x (f.before + scopes_of_item (item one)) (map item rest) in
      let seen : all_walked vs ≡ all_walked ws ++ m ∷ [] =
      ap all_walked pushed ∙ walked_last ws w ∙ ap (λ (y : Walked). all_walked ws ++ y ∷ []) met in
      let left : frame_walk us files g ≡ and_then list more =
      λ i. and_then
      (children us files (λ c. walk us files (levels i) c) (inst_in (of i)) (definition_in g.unit) (map connection g.params.now)
      (map instance g.list.now))
      (items_walk us files (λ c. walk us files (levels i) c) (inst_in (of i)) (blocks i) (map item (items i))) in
      let whole : frame_walk us files f ≡ and_then (meets m list) more =
      items_left f none ∙ (λ i. items_walk us files go x f.before (map item (first i)))
      ∙ ap (λ (a : Walk). and_then a more)
      (ap (λ (z : code_inst.Inst). item_walk us files go (inst_in z) f.before (item one)) (sym same) ∙ listed files go f.before
      ∙ ap (λ (z : code_inst.Inst). meets (Meet (inst_in z) f.before (item one)) (children us files go (inst_in z)
      (definition_in g.unit) (map connection g.params.now) (map instance g.list.now))) same) in
      (λ i. goes_on (seen i) n (behind us files (added i) last))
      ∙ ap (goes_on (all_walked ws ++ m ∷ []) n) (behind_last fs g last ∙ ap (λ (a : Walk). and_then a outer) left)
      ∙ sym (parts_then (all_walked ws ++ m ∷ []) n list more outer)
      ∙ meets_then (all_walked ws) n m list (and_then more outer)
      ∙ parts_then (all_walked ws) n (meets m list) more outer
      ∙ ap (λ (a : Walk). goes_on (all_walked ws) n (and_then a outer)) (sym whole)

  -- the innermost is taken
  pub last_taken : (ws : List Walked) (n : ℕ) (fs gs : List Frame) (f : Frame) (last : Walk) → gs ≡ fs ++ f ∷ []
      → goes_on ws n (and_then (frame_walk us files f) (behind us files fs last)) ≡ goes_on ws n (behind us files gs last)
  last_taken ws n fs gs f last is = ap (goes_on ws n) (sym (ap (λ (hs : List Frame). behind us files hs last) is ∙ behind_last fs f last))

  -- no instance comes next
  pub none_next : (ws : List Walked) (n : ℕ) (rest : Walk) → goes_on ws n (next_walk us files None rest) ≡ goes_on ws n rest
  unfolding next_walk
  none_next ws n rest = refl

  -- an instance that comes next
  pub comes_next : (ws : List code_walked.Walked) (fs gs : List Frame) (f g : Frame) (x : Next) (rest : List Instance)
      → gs ≡ fs ++ g ∷ [] → f.list.now ≡ x.one.now ∷ rest → x.of.value ≡ f.of.value → x.most ≡ f.most → x.unit ≡ f.unit → x.params ≡ f.params
      → g ≡ record f { list = g.list } → g.list.now ≡ rest → (n : ℕ) (last : Walk)
      → goes_on (all_walked ws) n (next_walk us files (Some x) (behind us files gs last))
      ≡ goes_on (all_walked ws) n (and_then (frame_walk us files f) (behind us files fs last))
  unfolding next_walk frame_walk
  comes_next ws fs gs f g x rest added list of levels unit params same left n last =
      let go : Inst → Walk = λ c. walk us files f.most c in
      let i : Inst = inst_in f.of.value in
      let outer : Walk = behind us files fs last in
      let one : Walk =
      counted x.one.now.name.at (λ n. enter_child us files go i (map connection x.one.now.connections.items)
      (child us files i (definition_in f.unit) (map connection f.params.now) (instance x.one.now)) n) in
      let others : Walk = children us files go i (definition_in f.unit) (map connection f.params.now) (map instance rest) in
      let more : Walk = items_walk us files go i f.before (map item f.items.now) in
      let whole : frame_walk us files f ≡ and_then (and_then one others) more =
      λ j. and_then (children us files go i (definition_in f.unit) (map connection f.params.now) (map instance (list j))) more in
      let kept : frame_walk us files g ≡ and_then others more =
      ap (frame_walk us files) same
      ∙ (λ j. and_then (children us files go i (definition_in f.unit) (map connection f.params.now) (map instance (left j))) more) in
      let first : next_walk us files (Some x) (behind us files gs last) ≡ and_then one (behind us files gs last) =
      λ j. and_then
      (counted x.one.now.name.at (λ n. enter_child us files (λ c. walk us files (levels j) c) (inst_in (of j))
      (map connection x.one.now.connections.items)
      (child us files (inst_in (of j)) (definition_in (unit j)) (map connection (params j).now) (instance x.one.now)) n))
      (behind us files gs last) in
      ap (goes_on (all_walked ws) n)
      (first
      ∙ ap (and_then one) (ap (λ (hs : List Frame). behind us files hs last) added ∙ behind_last fs g last
      ∙ ap (λ (a : Walk). and_then a outer) kept ∙ parts_joined others more outer)
      ∙ sym (ap (λ (a : Walk). and_then a outer) whole ∙ parts_joined (and_then one others) more outer
      ∙ parts_joined one others (and_then more outer)))

  -- an instance that has nothing left
  pub nothing_left : (ws : List code_walked.Walked) (fs : List Frame) (f : Frame) → f.list.now ≡ [] → f.items.now ≡ []
      → (n : ℕ) (last : Walk)
      → goes_on (all_walked ws) n (next_walk us files None (behind us files fs last))
      ≡ goes_on (all_walked ws) n (and_then (frame_walk us files f) (behind us files fs last))
  unfolding next_walk
  nothing_left ws fs f none items n last =
      ap (λ (a : Walk). goes_on (all_walked ws) n (and_then a (behind us files fs last)))
      (sym (items_left f none ∙ ap (λ xs. items_walk us files (λ c. walk us files f.most c) (inst_in f.of.value) f.before (map item xs)) items))

  -- an instance in another is entered: its connections are met before it
  pub next_entered : (ws vs : List code_walked.Walked) (w : code_walked.Walked) (fs : List Frame) (x : Next) (c : code_inst.Inst)
      → vs ≡ ws ++ w ∷ [] → walked_in w ≡ Connect (inst_in x.of.value) (inst_in c) (map connection x.one.now.connections.items)
      → inst_in c ≡ child us files (inst_in x.of.value) (definition_in x.unit) (map connection x.params.now) (instance x.one.now)
      → (n : ℕ) (last : Walk)
      → goes_on (all_walked vs) n (and_then (walk us files x.most (inst_in c)) (behind us files fs last))
      ≡ goes_on (all_walked ws) (suc n) (next_walk us files (Some x) (behind us files fs last))
  unfolding next_walk
  next_entered ws vs w fs x c pushed met made n last =
      let i : Inst = inst_in x.of.value in
      let cs : List Connection = map connection x.one.now.connections.items in
      let outer : Walk = behind us files fs last in
      let seen : all_walked vs ≡ all_walked ws ++ Connect i (inst_in c) cs ∷ [] =
      ap all_walked pushed ∙ walked_last ws w ∙ ap (λ (y : Walked). all_walked ws ++ y ∷ []) met in
      ap (λ (vs : List Walked). goes_on vs n (and_then (walk us files x.most (inst_in c)) outer)) seen
      ∙ meets_then (all_walked ws) n (Connect i (inst_in c) cs) (walk us files x.most (inst_in c)) outer
      ∙ ap (λ (y : Inst). goes_on (all_walked ws) n (and_then (meets (Connect i y cs) (walk us files x.most y)) outer)) made
      ∙ counted_then (all_walked ws) n x.one.now.name.at
      (λ n. enter_child us files (λ y. walk us files x.most y) i cs
      (child us files i (definition_in x.unit) (map connection x.params.now) (instance x.one.now)) n) outer

  -- the instance that comes next passes the limit
  pub next_passes : (ws vs : List code_walked.Walked) (w : code_walked.Walked) (x : Next) → vs ≡ ws ++ w ∷ []
      → walked_in w ≡ Pass x.one.now.name.at → (rest : Walk)
      → (all_walked vs, None) ≡ goes_on (all_walked ws) 0 (next_walk us files (Some x) rest)
  unfolding next_walk
  next_passes ws vs w x pushed met rest =
      let seen : all_walked vs ≡ all_walked ws ++ Pass x.one.now.name.at ∷ [] =
      ap all_walked pushed ∙ walked_last ws w ∙ ap (λ (y : Walked). all_walked ws ++ y ∷ []) met in
      ap (λ (vs : List Walked). (vs, None)) seen
      ∙ passed_then (all_walked ws) x.one.now.name.at
      (λ n. enter_child us files (λ y. walk us files x.most y) (inst_in x.of.value) (map connection x.one.now.connections.items)
      (child us files (inst_in x.of.value) (definition_in x.unit) (map connection x.params.now) (instance x.one.now)) n) rest

  -- one instance with all that stands in it
  pub alone : (ws : List Walked) (n : ℕ) (a : Walk) → goes_on ws n (and_then a (behind us files [] stays)) ≡ goes_on ws n a
  unfolding goes_on
  alone ws n a = ap (λ (b : Walk). with_rest ws (and_then a b n)) (behind_none stays) ∙ ap (with_rest ws) (then_stays (a n))

  -- all is left behind no instance
  pub all_behind : (ws : List Walked) (n : ℕ) → (ws, Some n) ≡ goes_on ws n (next_walk us files None (behind us files [] stays))
  all_behind ws n = all_left ws n ∙ ap (goes_on ws n) (sym (behind_none stays)) ∙ sym (none_next ws n (behind us files [] stays))

-- turns of one more instance
pub turns_last : (fs : List Frame) (f : Frame) → turns (fs ++ f ∷ []) ≡ turns fs + turns_in f
turns_last [] f = omega arith
turns_last (g ∷ fs) f = ap (λ n. turns_in g + n) (turns_last fs f) ∙ omega arith
