-- Clocking blocks: how their parts begin and go on.
use Rattle.std.proofs.Common.{◌≡◌, ℕ, true, false, List, [], ◌∷◌, Option, Some, None, Ok, Err, refl, ◌∙◌}
use Rattle.sv_value.specs.declared.place.Place.{Place}
use Rattle.sv_grammar.specs.Tokens.{Tok, next, mem}
use Rattle.sv_grammar.specs.Reading.{◌>>=◌}
use Rattle.sv_grammar.specs.Language.{Out}
use Rattle.sv_grammar.specs.Code.Code.{Map}
use Rattle.sv_tree.specs.declared.kind.Kind.TheVariants as k
use Rattle.sv_tree.specs.declared.word.Name.{Name}
use Rattle.sv_tree.specs.declared.word.Direction.TheVariants as direction
use Rattle.sv_tree.specs.Codes.{code}
use Rattle.sv_tree.specs.Units as units
use Rattle.sv_tree.specs.Items as items
use Rattle.sv_tree.specs.Forms.{◌▸◌, ◌◂◌, pair, list, name, tok}
use Rattle.sv_tree.specs.StmtGrammar.{amount}
use Rattle.sv_tree.specs.UnitGrammar.{side, skew_rest, output_side, input_side, sides, default_skews, clocking_item, clocking_rest, plain_clocking, default_rest, default_clocking, clocking}
use Rattle.sv_tree.specs.Grammar.{reads}
use Rattle.sv_tree.proofs.KnownStmts as known_stmts
use Rattle.sv_tree.proofs.KnownItems as known
use Rattle.sv_parse_type.specs.Applied.{applied}
use Rattle.sv_parse_unit.specs.First.{amount_first}
use Rattle.sv_parse_unit.proofs.AppliedLaws.{pair_is, triple_is}

-- ---- skews and directions

pub skew_amount : (d : ℕ) (ts : List Tok) → mem (next ts).code amount_first ≡ true → reads d skew_rest ts ≡ reads d (Map (λ e t. units.Amount t.at e) amount) ts
unfolding skew_rest
skew_amount d ts h = rw (known_stmts.amount_known.info_is, h, known_stmts.amount_known.low_is) refl

pub skew_step : (d : ℕ) (ts : List Tok) → mem (next ts).code amount_first ≡ false → reads d skew_rest ts ≡ reads d (Map (λ u t. units.OneStep t.at) (tok k.OneStep)) ts
unfolding skew_rest
skew_step d ts h = rw (known_stmts.amount_known.info_is, h) refl

pub sides_input : (d : ℕ) (ts : List Tok) → mem (next ts).code (code k.Input ∷ []) ≡ true → reads d sides ts ≡ reads d input_side ts
unfolding sides
sides_input d ts h = rw (known.input_side_known.info_is, h, known.input_side_known.low_is) refl

pub sides_output : (d : ℕ) (ts : List Tok) → mem (next ts).code (code k.Input ∷ []) ≡ false → mem (next ts).code (code k.Output ∷ []) ≡ true → reads d sides ts ≡ reads d (Map (λ o. side direction.Output o ∷ []) output_side) ts
unfolding sides
sides_output d ts h g = rw (known.input_side_known.info_is, h, known.output_side_known.info_is, known.output_side_known.low_is, g) refl

pub sides_inout : (d : ℕ) (ts : List Tok) → mem (next ts).code (code k.Input ∷ []) ≡ false → mem (next ts).code (code k.Output ∷ []) ≡ false → reads d sides ts ≡ reads d (Map (λ t. side direction.Inout None ∷ []) (tok k.Inout)) ts
unfolding sides
sides_inout d ts h g = rw (known.input_side_known.info_is, h, known.output_side_known.info_is, known.output_side_known.low_is, g) refl

-- ---- items

pub item_default : (d : ℕ) (ts : List Tok) → mem (next ts).code (code k.Default ∷ []) ≡ true → reads d clocking_item ts ≡ reads d default_skews ts
unfolding clocking_item
item_default d ts h = rw (known.default_skews_known.info_is, h, known.default_skews_known.low_is) refl

pub item_signals : (d : ℕ) (ts : List Tok) → mem (next ts).code (code k.Default ∷ []) ≡ false → reads d clocking_item ts ≡ reads d (pair units.Signals sides (list name ◂ k.Semicolon)) ts
unfolding clocking_item
item_signals d ts h = rw (known.default_skews_known.info_is, h, known.sides_known.low_is) refl

-- ---- blocks

pub plain_is : (d : ℕ) (ts : List Tok) → reads d plain_clocking ts ≡ (reads d (k.Clocking ▸ name) ts >>= λ n. applied None (applied n.0 (reads d clocking_rest n.1)) >>= λ b. Ok (items.Clocking b.0, b.1))
unfolding plain_clocking
plain_is d ts = pair_is (λ n (f : Name → Option Place → units.ClockingBlock). items.Clocking (f n None)) (k.Clocking ▸ name) clocking_rest d ts ∙ go (reads d (k.Clocking ▸ name) ts)
  where
    more : (n : Name) (o : Out (Name → Option Place → units.ClockingBlock)) → (o >>= λ f. Ok (items.Clocking (f.0 n None), f.1)) ≡ (applied None (applied n o) >>= λ b. Ok (items.Clocking b.0, b.1))
    more n (Ok f) = refl
    more n (Err m) = refl

    go : (o : Out Name) → (o >>= λ n. reads d clocking_rest n.1 >>= λ f. Ok (items.Clocking (f.0 n.0 None), f.1)) ≡ (o >>= λ n. applied None (applied n.0 (reads d clocking_rest n.1)) >>= λ b. Ok (items.Clocking b.0, b.1))
    go (Ok n) = more n.0 (reads d clocking_rest n.1)
    go (Err m) = refl

pub default_is : (d : ℕ) (ts : List Tok) → reads d default_clocking ts ≡ (reads d (tok k.Default ◂ k.Clocking) ts >>= λ t. reads d name t.1 >>= λ n. applied t.0.at (applied n.0 (reads d default_rest n.1)))
unfolding default_clocking
default_is d ts = triple_is (λ t n (f : Name → Place → items.Item). f n t.at) (tok k.Default ◂ k.Clocking) name default_rest d ts ∙ go (reads d (tok k.Default ◂ k.Clocking) ts)
  where
    last : (t : Tok) (n : Name) (o : Out (Name → Place → items.Item)) → (o >>= λ f. Ok (f.0 n t.at, f.1)) ≡ applied t.at (applied n o)
    last t n (Ok f) = refl
    last t n (Err m) = refl

    more : (t : Tok) (o : Out Name) → (o >>= λ n. reads d default_rest n.1 >>= λ f. Ok (f.0 n.0 t.at, f.1)) ≡ (o >>= λ n. applied t.at (applied n.0 (reads d default_rest n.1)))
    more t (Ok n) = last t n.0 (reads d default_rest n.1)
    more t (Err m) = refl

    go : (o : Out Tok) → (o >>= λ t. reads d name t.1 >>= λ n. reads d default_rest n.1 >>= λ f. Ok (f.0 n.0 t.0.at, f.1)) ≡ (o >>= λ t. reads d name t.1 >>= λ n. applied t.0.at (applied n.0 (reads d default_rest n.1)))
    go (Ok t) = more t.0 (reads d name t.1)
    go (Err m) = refl

pub default_alone : (d : ℕ) (ts : List Tok) → mem (next ts).code (code k.Semicolon ∷ []) ≡ true → reads d default_rest ts ≡ reads d (Map (λ u n at. items.DefaultClocking at n) (tok k.Semicolon)) ts
unfolding default_rest
default_alone d ts h = rw h refl

pub default_block : (d : ℕ) (at : Place) (n : Name) (ts : List Tok) → mem (next ts).code (code k.Semicolon ∷ []) ≡ false → applied at (applied n (reads d default_rest ts)) ≡ (applied (Some at) (applied n (reads d clocking_rest ts)) >>= λ b. Ok (items.Clocking b.0, b.1))
unfolding default_rest
default_block d at n ts h = rw (h, known.clocking_rest_known.low_is) (go (reads d clocking_rest ts))
  where
    go : (o : Out (Name → Option Place → units.ClockingBlock)) → applied at (applied n (o >>= λ f. Ok ((λ n at. items.Clocking (f.0 n (Some at))), f.1))) ≡ (applied (Some at) (applied n o) >>= λ b. Ok (items.Clocking b.0, b.1))
    go (Ok f) = refl
    go (Err m) = refl

pub clocking_plain : (d : ℕ) (ts : List Tok) → mem (next ts).code (code k.Clocking ∷ []) ≡ true → reads d clocking ts ≡ reads d plain_clocking ts
unfolding clocking
clocking_plain d ts h = rw (known.plain_clocking_known.info_is, h, known.plain_clocking_known.low_is) refl

pub clocking_default : (d : ℕ) (ts : List Tok) → mem (next ts).code (code k.Clocking ∷ []) ≡ false → reads d clocking ts ≡ reads d default_clocking ts
unfolding clocking
clocking_default d ts h = rw (known.plain_clocking_known.info_is, h, known.default_clocking_known.low_is) refl
