-- Items of modules and programs: what each begins with.
use Rattle.std.proofs.Common.{◌≡◌, ◌<◌, ℕ, zero, suc, true, false, ◌||◌, List, [], ◌∷◌, Ok, Err, refl, ap, ◌∙◌, arith}
use Rattle.sv_grammar.specs.Tokens.{Tok, next, mem}
use Rattle.sv_grammar.specs.Language.{Out, TooDeep}
use Rattle.sv_grammar.specs.Reading.{◌>>=◌}
use Rattle.sv_grammar.specs.Code.{reach}
use Rattle.sv_grammar.specs.Code.Code.{Map}
use Rattle.sv_tree.specs.declared.kind.Kind.TheVariants as k
use Rattle.sv_tree.specs.declared.word.Name.{Name}
use Rattle.sv_tree.specs.Codes.{code}
use Rattle.sv_tree.specs.Stmt as stmts
use Rattle.sv_tree.specs.Items as items
use Rattle.sv_tree.specs.Forms.{◌◂◌, name, tok, kinds_of}
use Rattle.sv_tree.specs.TypeGrammar.{named_decl_rest, word_decl}
use Rattle.sv_tree.specs.UnitGrammar.{param_words, procedure_words, named_items, typedef, typedef_rest, class, param, routine, clocking, initial, common, named_decl, program_item, net, assign, always, named_item, module_item}
use Rattle.sv_tree.specs.Grammar.{reads}
use Rattle.sv_tree.proofs.KnownTypes as known_types
use Rattle.sv_tree.proofs.KnownItems as known
use Rattle.sv_parse.proofs.ExprParts.{mem_both}
use Rattle.sv_parse_type.specs.Applied.{applied}
use Rattle.sv_parse_type.specs.Begins.{word_decl_first}
use Rattle.sv_parse_unit.specs.First.{named_items_first, common_first}
use Rattle.sv_parse_unit.proofs.AppliedLaws.{then_is}

reach_one : (d : ℕ) → 0 < d → reach 1 d ≡ true
reach_one zero h = absurd (omega arith)
reach_one (suc d) h = refl

-- ---- items that stand in modules, programs and outside both

pub items_typedef : (d : ℕ) (ts : List Tok) → mem (next ts).code (code k.Typedef ∷ []) ≡ true → reads d named_items ts ≡ reads d (typedef items.Typedef items.Announce) ts
unfolding named_items typedef typedef_rest
items_typedef d ts h = rw (h, known_types.type_known.low_is) refl

-- a class, by either of its words
pub items_class : (d : ℕ) (ts : List Tok) → mem (next ts).code (code k.Typedef ∷ []) ≡ false → (mem (next ts).code (code k.Virtual ∷ []) || mem (next ts).code (code k.Class ∷ [])) ≡ true → reads d named_items ts ≡ reads d (Map items.Class class) ts
unfolding named_items typedef typedef_rest
items_class d ts h g = rw (h, known.class_known.info_is, known.class_known.low_is, mem_both (next ts).code (code k.Virtual ∷ []) (code k.Class ∷ []), g) refl

pub items_param : (d : ℕ) (ts : List Tok) → mem (next ts).code (code k.Typedef ∷ []) ≡ false → (mem (next ts).code (code k.Virtual ∷ []) || mem (next ts).code (code k.Class ∷ [])) ≡ false → mem (next ts).code (kinds_of param_words) ≡ true → reads d named_items ts ≡ reads d (Map items.Param (param ◂ k.Semicolon)) ts
unfolding named_items typedef typedef_rest
items_param d ts h g i = rw (h, known.class_known.info_is, known.class_known.low_is, mem_both (next ts).code (code k.Virtual ∷ []) (code k.Class ∷ []), g, known.param_known.info_is, i, known.param_known.low_is) refl

pub items_routine : (d : ℕ) (ts : List Tok) → mem (next ts).code (code k.Typedef ∷ []) ≡ false → (mem (next ts).code (code k.Virtual ∷ []) || mem (next ts).code (code k.Class ∷ [])) ≡ false → mem (next ts).code (kinds_of param_words) ≡ false → reads d named_items ts ≡ reads d (Map items.Routine routine) ts
unfolding named_items typedef typedef_rest
items_routine d ts h g i = rw (h, known.class_known.info_is, known.class_known.low_is, mem_both (next ts).code (code k.Virtual ∷ []) (code k.Class ∷ []), g, known.param_known.info_is, i, known.param_known.low_is, known.routine_known.low_is) refl

-- ---- items that stand in modules and programs

pub common_decl : (d : ℕ) (ts : List Tok) → mem (next ts).code word_decl_first ≡ true → reads d common ts ≡ reads d (Map items.Decl word_decl) ts
unfolding common
common_decl d ts h = rw (known_types.word_decl_known.info_is, h, known_types.word_decl_known.low_is) refl

pub common_named : (d : ℕ) (ts : List Tok) → mem (next ts).code word_decl_first ≡ false → mem (next ts).code named_items_first ≡ true → reads d common ts ≡ reads d named_items ts
unfolding common
common_named d ts h g = rw (known_types.word_decl_known.info_is, h, known.named_items_known.info_is, g, known.named_items_known.low_is) refl

pub common_clocking : (d : ℕ) (ts : List Tok) → mem (next ts).code word_decl_first ≡ false → mem (next ts).code named_items_first ≡ false → (mem (next ts).code (code k.Clocking ∷ []) || mem (next ts).code (code k.Default ∷ [])) ≡ true → reads d common ts ≡ reads d clocking ts
unfolding common
common_clocking d ts h g i = rw (known_types.word_decl_known.info_is, h, known.named_items_known.info_is, g, known.named_items_known.low_is, known.clocking_known.info_is, known.clocking_known.low_is, mem_both (next ts).code (code k.Clocking ∷ []) (code k.Default ∷ []), i) refl

pub common_initial : (d : ℕ) (ts : List Tok) → 0 < d → mem (next ts).code word_decl_first ≡ false → mem (next ts).code named_items_first ≡ false → (mem (next ts).code (code k.Clocking ∷ []) || mem (next ts).code (code k.Default ∷ [])) ≡ false → mem (next ts).code (code k.Initial ∷ []) ≡ true → reads d common ts ≡ reads d initial ts
unfolding common
common_initial d ts some h g i j = rw (known_types.word_decl_known.info_is, h, known.named_items_known.info_is, g, known.named_items_known.low_is, known.clocking_known.info_is, known.clocking_known.low_is, mem_both (next ts).code (code k.Clocking ∷ []) (code k.Default ∷ []), i, known.initial_known.info_is, j, known.initial_known.low_is, reach_one d some) refl

pub common_deep : (ts : List Tok) → mem (next ts).code word_decl_first ≡ false → mem (next ts).code named_items_first ≡ false → (mem (next ts).code (code k.Clocking ∷ []) || mem (next ts).code (code k.Default ∷ [])) ≡ false → mem (next ts).code (code k.Initial ∷ []) ≡ true → reads 0 common ts ≡ Err (TooDeep ts)
unfolding common
common_deep ts h g i j = rw (known_types.word_decl_known.info_is, h, known.named_items_known.info_is, g, known.named_items_known.low_is, known.clocking_known.info_is, known.clocking_known.low_is, mem_both (next ts).code (code k.Clocking ∷ []) (code k.Default ∷ []), i, known.initial_known.info_is, j, known.initial_known.low_is) refl

pub common_null : (d : ℕ) (ts : List Tok) → mem (next ts).code word_decl_first ≡ false → mem (next ts).code named_items_first ≡ false → (mem (next ts).code (code k.Clocking ∷ []) || mem (next ts).code (code k.Default ∷ [])) ≡ false → mem (next ts).code (code k.Initial ∷ []) ≡ false → reads d common ts ≡ reads d (Map (λ t. items.Null) (tok k.Semicolon)) ts
unfolding common
common_null d ts h g i j = rw (known_types.word_decl_known.info_is, h, known.named_items_known.info_is, g, known.named_items_known.low_is, known.clocking_known.info_is, known.clocking_known.low_is, mem_both (next ts).code (code k.Clocking ∷ []) (code k.Default ∷ []), i, known.initial_known.info_is, j, known.initial_known.low_is) refl

-- ---- items of programs

pub named_decl_is : (d : ℕ) (ts : List Tok) → reads d named_decl ts ≡ (reads d name ts >>= λ n. applied n.0 (reads d named_decl_rest n.1) >>= λ x. Ok (items.Decl x.0, x.1))
unfolding named_decl
named_decl_is d ts = ap (λ (o : Out stmts.Decl). o >>= λ x. Ok (items.Decl x.0, x.1)) (then_is name named_decl_rest d ts) ∙ go (reads d name ts)
  where
    go : (o : Out Name) → ((o >>= λ n. applied n.0 (reads d named_decl_rest n.1)) >>= λ x. Ok (items.Decl x.0, x.1)) ≡ (o >>= λ n. applied n.0 (reads d named_decl_rest n.1) >>= λ x. Ok (items.Decl x.0, x.1))
    go (Ok n) = refl
    go (Err m) = refl

pub program_common : (d : ℕ) (ts : List Tok) → mem (next ts).code common_first ≡ true → reads d program_item ts ≡ reads d common ts
unfolding program_item
program_common d ts h = rw (known.common_known.info_is, h, known.common_known.low_is) refl

program_decl : (d : ℕ) (ts : List Tok) → mem (next ts).code common_first ≡ false → reads d program_item ts ≡ reads d named_decl ts
unfolding program_item
program_decl d ts h = rw (known.common_known.info_is, h, known.named_decl_known.low_is) refl

pub program_named : (d : ℕ) (ts : List Tok) → mem (next ts).code common_first ≡ false → reads d program_item ts ≡ (reads d name ts >>= λ n. applied n.0 (reads d named_decl_rest n.1) >>= λ x. Ok (items.Decl x.0, x.1))
program_named d ts h = program_decl d ts h ∙ named_decl_is d ts

-- ---- items of modules

pub module_common : (d : ℕ) (ts : List Tok) → mem (next ts).code common_first ≡ true → reads d module_item ts ≡ reads d common ts
unfolding module_item
module_common d ts h = rw (known.common_known.info_is, h, known.common_known.low_is) refl

pub module_net : (d : ℕ) (ts : List Tok) → mem (next ts).code common_first ≡ false → (mem (next ts).code (code k.Wire ∷ []) || mem (next ts).code (code k.Tri ∷ [])) ≡ true → reads d module_item ts ≡ reads d net ts
unfolding module_item
module_net d ts h g = rw (known.common_known.info_is, h, known.net_known.info_is, known.net_known.low_is, mem_both (next ts).code (code k.Wire ∷ []) (code k.Tri ∷ []), g) refl

pub module_assign : (d : ℕ) (ts : List Tok) → mem (next ts).code common_first ≡ false → (mem (next ts).code (code k.Wire ∷ []) || mem (next ts).code (code k.Tri ∷ [])) ≡ false → mem (next ts).code (code k.Assign ∷ []) ≡ true → reads d module_item ts ≡ reads d assign ts
unfolding module_item
module_assign d ts h g i = rw (known.common_known.info_is, h, known.net_known.info_is, known.net_known.low_is, mem_both (next ts).code (code k.Wire ∷ []) (code k.Tri ∷ []), g, known.assign_known.info_is, i, known.assign_known.low_is) refl

pub module_always : (d : ℕ) (ts : List Tok) → 0 < d → mem (next ts).code common_first ≡ false → (mem (next ts).code (code k.Wire ∷ []) || mem (next ts).code (code k.Tri ∷ [])) ≡ false → mem (next ts).code (code k.Assign ∷ []) ≡ false → mem (next ts).code (kinds_of procedure_words) ≡ true → reads d module_item ts ≡ reads d always ts
unfolding module_item
module_always d ts some h g i j = rw (known.common_known.info_is, h, known.net_known.info_is, known.net_known.low_is, mem_both (next ts).code (code k.Wire ∷ []) (code k.Tri ∷ []), g, known.assign_known.info_is, i, known.assign_known.low_is, known.always_known.info_is, j, known.always_known.low_is, known.named_item_known.low_is, reach_one d some) refl

pub module_deep : (ts : List Tok) → mem (next ts).code common_first ≡ false → (mem (next ts).code (code k.Wire ∷ []) || mem (next ts).code (code k.Tri ∷ [])) ≡ false → mem (next ts).code (code k.Assign ∷ []) ≡ false → mem (next ts).code (kinds_of procedure_words) ≡ true → reads 0 module_item ts ≡ Err (TooDeep ts)
unfolding module_item
module_deep ts h g i j = rw (known.common_known.info_is, h, known.net_known.info_is, known.net_known.low_is, mem_both (next ts).code (code k.Wire ∷ []) (code k.Tri ∷ []), g, known.assign_known.info_is, i, known.assign_known.low_is, known.always_known.info_is, j, known.always_known.low_is, known.named_item_known.low_is) refl

pub module_named : (d : ℕ) (ts : List Tok) → mem (next ts).code common_first ≡ false → (mem (next ts).code (code k.Wire ∷ []) || mem (next ts).code (code k.Tri ∷ [])) ≡ false → mem (next ts).code (code k.Assign ∷ []) ≡ false → mem (next ts).code (kinds_of procedure_words) ≡ false → reads d module_item ts ≡ reads d named_item ts
unfolding module_item
module_named d ts h g i j = rw (known.common_known.info_is, h, known.net_known.info_is, known.net_known.low_is, mem_both (next ts).code (code k.Wire ∷ []) (code k.Tri ∷ []), g, known.assign_known.info_is, i, known.assign_known.low_is, known.always_known.info_is, j, known.always_known.low_is, known.named_item_known.low_is) refl
