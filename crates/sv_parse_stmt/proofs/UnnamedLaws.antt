-- Which statement begins with the next token.
use Rattle.std.proofs.Common.{◌≡◌, ℕ, ◌<◌, Bool, true, false, cond, if◌then◌else◌, eqb, List, [], ◌∷◌, ◌⊎◌, inl, inr, ⊎_elim, Err, refl}
use Rattle.std.proofs.lemmas.Bool.{eqb-true}
use Rattle.sv_grammar.specs.Tokens.{Tok, next, mem}
use Rattle.sv_grammar.specs.Language.{TooDeep, Out}
use Rattle.sv_grammar.specs.Code.{reach}
use Rattle.sv_grammar.specs.Code.Code.{Map}
use Rattle.sv_tree.specs.declared.kind.Kind.TheVariants as k
use Rattle.sv_tree.specs.Codes.{code}
use Rattle.sv_tree.specs.Stmt as stmts
use Rattle.sv_tree.specs.Forms.{Placed, kinds_of, tok}
use Rattle.sv_tree.specs.ExprGrammar.{comma_expr, select, suffix, suffixes, post_rest, named_post, this_post, super_post, post, targets, lval, system_call, super_call, call, closed, cast, number, time, text, null_, dollar, group, named, this, braces, word_cast, plain_prim, prim, prefixed, unary, levels, expr_over, expr, plain_unary, plain_expr, cast_rest}
use Rattle.sv_tree.specs.TypeGrammar.{range, enum_item, enum, vector_type, atom_type, mailbox_type, word_type, named_type, type, dimension_inside, dimension, new_rest, init, declarator_rest, declarator, declarators, more_declarators, life_decl, var_decl, plain_decl, word_decl, named_decl_rest}
use Rattle.sv_tree.specs.StmtGrammar.{step_words, case_words, form, enclosed, amount, delay, cycles_amount, event_part, next_event_part, event_parts, event_list, event, blocking_rest, nonblocking_rest, operator_rest, step_after, assign_end, post_end, super_rest, super_statement, early_rest, early, block_items, block_rest, fork_rest, block, fork, else_, if_rest, if_, default_item, labelled_item, case_item, case_rest, case_, for_step_rest, for_step_before, for_step, for_init_rest, unnamed_lval, for_init, for_, while_, do_rest, do_, repeat, forever, foreach, after, on_event, cycles, wait_rest, wait, ignore, return_, null_statement, step_statement, system_statement, this_statement, targets_statement, disable, trigger, break_, continue_, unnamed}
use Rattle.sv_tree.specs.Grammar.{reads}
use Rattle.sv_parse_stmt.proofs.KindLaws.{is_one, reach_one}
use Rattle.sv_parse_stmt.specs.Begins.{holder_first}

-- the alternatives, each by the kind that begins it; those that always hold a statement are too deep where nothing fits inside
abbrev alternatives : ℕ → ℕ → List Tok → Out Placed
alternatives d n ts =
    if mem n (code k.Semicolon ∷ []) then reads d null_statement ts else
    if mem n (code k.Begin ∷ []) then reads d block ts else
    if mem n (code k.Fork ∷ []) then reads d fork ts else
    if mem n (kinds_of step_words) then reads d step_statement ts else
    if mem n (code k.SystemName ∷ []) then reads d system_statement ts else
    if mem n (code k.Super ∷ []) then reads d super_statement ts else
    if mem n (code k.This ∷ []) then reads d this_statement ts else
    if mem n (code k.LeftBrace ∷ []) then (if reach 1 d then reads d targets_statement ts else Err (TooDeep ts)) else
    if mem n (code k.Void ∷ []) then reads d ignore ts else
    if mem n (code k.If ∷ []) then (if reach 1 d then reads d if_ ts else Err (TooDeep ts)) else
    if mem n (kinds_of case_words) then reads d case_ ts else
    if mem n (code k.For ∷ []) then (if reach 1 d then reads d for_ ts else Err (TooDeep ts)) else
    if mem n (code k.While ∷ []) then (if reach 1 d then reads d while_ ts else Err (TooDeep ts)) else
    if mem n (code k.Do ∷ []) then (if reach 1 d then reads d do_ ts else Err (TooDeep ts)) else
    if mem n (code k.Repeat ∷ []) then (if reach 1 d then reads d repeat ts else Err (TooDeep ts)) else
    if mem n (code k.Forever ∷ []) then (if reach 1 d then reads d forever ts else Err (TooDeep ts)) else
    if mem n (code k.Foreach ∷ []) then (if reach 1 d then reads d foreach ts else Err (TooDeep ts)) else
    if mem n (code k.Hash ∷ []) then (if reach 1 d then reads d after ts else Err (TooDeep ts)) else
    if mem n (code k.At ∷ []) then (if reach 1 d then reads d on_event ts else Err (TooDeep ts)) else
    if mem n (code k.HashHash ∷ []) then (if reach 1 d then reads d cycles ts else Err (TooDeep ts)) else
    if mem n (code k.Wait ∷ []) then reads d wait ts else
    if mem n (code k.Disable ∷ []) then reads d disable ts else
    if mem n (code k.Arrow ∷ []) then reads d trigger ts else
    if mem n (code k.Break ∷ []) then reads d break_ ts else
    if mem n (code k.Continue ∷ []) then reads d continue_ ts else
    reads d return_ ts

unnamed_is : (d : ℕ) (ts : List Tok) → reads d unnamed ts ≡ alternatives d (next ts).code ts
unfolding comma_expr select suffix suffixes post_rest named_post this_post super_post post targets lval system_call super_call call closed cast number time text null_ dollar group named this braces word_cast plain_prim prim prefixed unary levels expr_over expr plain_unary plain_expr cast_rest range enum_item enum vector_type atom_type mailbox_type word_type named_type type dimension_inside dimension new_rest init declarator_rest declarator declarators more_declarators life_decl var_decl plain_decl word_decl named_decl_rest enclosed amount delay cycles_amount event_part next_event_part event_parts event_list event blocking_rest nonblocking_rest operator_rest step_after assign_end post_end super_rest super_statement early_rest early block_items block_rest fork_rest block fork else_ if_rest if_ default_item labelled_item case_item case_rest case_ for_step_rest for_step_before for_step for_init_rest unnamed_lval for_init for_ while_ do_rest do_ repeat forever foreach after on_event cycles wait_rest wait ignore return_ null_statement step_statement system_statement this_statement targets_statement disable trigger break_ continue_ unnamed
unnamed_is d ts = refl

-- a kind of a list is its first or one of the others
split : (n m : ℕ) (ms : List ℕ) → mem n (m ∷ ms) ≡ true → (n ≡ m) ⊎ (mem n ms ≡ true)
split n m ms h = go (eqb n m) refl h
  where
    go : (b : Bool) → eqb n m ≡ b → cond b true (mem n ms) ≡ true → (n ≡ m) ⊎ (mem n ms ≡ true)
    go true e h = inl (eqb-true n m e)
    go false e h = inr h

-- ---- forms that may stand where no statement fits inside

pub unnamed_null : (d : ℕ) (ts : List Tok) → mem (next ts).code (code k.Semicolon ∷ []) ≡ true → reads d unnamed ts ≡ reads d null_statement ts
unnamed_null d ts h = rw (unnamed_is d ts, is_one (next ts).code (code k.Semicolon) h) refl

pub unnamed_block : (d : ℕ) (ts : List Tok) → mem (next ts).code (code k.Begin ∷ []) ≡ true → reads d unnamed ts ≡ reads d block ts
unnamed_block d ts h = rw (unnamed_is d ts, is_one (next ts).code (code k.Begin) h) refl

pub unnamed_fork : (d : ℕ) (ts : List Tok) → mem (next ts).code (code k.Fork ∷ []) ≡ true → reads d unnamed ts ≡ reads d fork ts
unnamed_fork d ts h = rw (unnamed_is d ts, is_one (next ts).code (code k.Fork) h) refl

pub unnamed_step : (d : ℕ) (ts : List Tok) → mem (next ts).code (kinds_of step_words) ≡ true → reads d unnamed ts ≡ reads d step_statement ts
unnamed_step d ts h = ⊎_elim (λ (e : (next ts).code ≡ code k.PlusPlus). rw (unnamed_is d ts, e) refl) (λ h0. rw (unnamed_is d ts, is_one (next ts).code (code k.MinusMinus) h0) refl) (split (next ts).code (code k.PlusPlus) (code k.MinusMinus ∷ []) h)

pub unnamed_system : (d : ℕ) (ts : List Tok) → mem (next ts).code (code k.SystemName ∷ []) ≡ true → reads d unnamed ts ≡ reads d system_statement ts
unnamed_system d ts h = rw (unnamed_is d ts, is_one (next ts).code (code k.SystemName) h) refl

pub unnamed_super : (d : ℕ) (ts : List Tok) → mem (next ts).code (code k.Super ∷ []) ≡ true → reads d unnamed ts ≡ reads d super_statement ts
unnamed_super d ts h = rw (unnamed_is d ts, is_one (next ts).code (code k.Super) h) refl

pub unnamed_this : (d : ℕ) (ts : List Tok) → mem (next ts).code (code k.This ∷ []) ≡ true → reads d unnamed ts ≡ reads d this_statement ts
unnamed_this d ts h = rw (unnamed_is d ts, is_one (next ts).code (code k.This) h) refl

pub unnamed_ignore : (d : ℕ) (ts : List Tok) → mem (next ts).code (code k.Void ∷ []) ≡ true → reads d unnamed ts ≡ reads d ignore ts
unnamed_ignore d ts h = rw (unnamed_is d ts, is_one (next ts).code (code k.Void) h) refl

pub unnamed_case : (d : ℕ) (ts : List Tok) → mem (next ts).code (kinds_of case_words) ≡ true → reads d unnamed ts ≡ reads d case_ ts
unnamed_case d ts h = ⊎_elim (λ (e : (next ts).code ≡ code k.Case). rw (unnamed_is d ts, e) refl) (λ h0. ⊎_elim (λ (e : (next ts).code ≡ code k.Casez). rw (unnamed_is d ts, e) refl) (λ h1. rw (unnamed_is d ts, is_one (next ts).code (code k.Casex) h1) refl) (split (next ts).code (code k.Casez) (code k.Casex ∷ []) h0)) (split (next ts).code (code k.Case) (code k.Casez ∷ code k.Casex ∷ []) h)

pub unnamed_wait : (d : ℕ) (ts : List Tok) → mem (next ts).code (code k.Wait ∷ []) ≡ true → reads d unnamed ts ≡ reads d wait ts
unnamed_wait d ts h = rw (unnamed_is d ts, is_one (next ts).code (code k.Wait) h) refl

pub unnamed_disable : (d : ℕ) (ts : List Tok) → mem (next ts).code (code k.Disable ∷ []) ≡ true → reads d unnamed ts ≡ reads d disable ts
unnamed_disable d ts h = rw (unnamed_is d ts, is_one (next ts).code (code k.Disable) h) refl

pub unnamed_trigger : (d : ℕ) (ts : List Tok) → mem (next ts).code (code k.Arrow ∷ []) ≡ true → reads d unnamed ts ≡ reads d trigger ts
unnamed_trigger d ts h = rw (unnamed_is d ts, is_one (next ts).code (code k.Arrow) h) refl

pub unnamed_break : (d : ℕ) (ts : List Tok) → mem (next ts).code (code k.Break ∷ []) ≡ true → reads d unnamed ts ≡ reads d (form k.Break (Map (λ t. stmts.Break) (tok k.Semicolon))) ts
unfolding break_
unnamed_break d ts h = rw (unnamed_is d ts, is_one (next ts).code (code k.Break) h) refl

pub unnamed_continue : (d : ℕ) (ts : List Tok) → mem (next ts).code (code k.Continue ∷ []) ≡ true → reads d unnamed ts ≡ reads d (form k.Continue (Map (λ t. stmts.Continue) (tok k.Semicolon))) ts
unfolding continue_
unnamed_continue d ts h = rw (unnamed_is d ts, is_one (next ts).code (code k.Continue) h) refl

-- ---- forms that always hold a statement, and targets in braces

pub unnamed_if : (d : ℕ) (ts : List Tok) → 0 < d → mem (next ts).code (code k.If ∷ []) ≡ true → reads d unnamed ts ≡ reads d if_ ts
unnamed_if d ts some h = rw (unnamed_is d ts, is_one (next ts).code (code k.If) h, reach_one d some) refl

pub unnamed_for : (d : ℕ) (ts : List Tok) → 0 < d → mem (next ts).code (code k.For ∷ []) ≡ true → reads d unnamed ts ≡ reads d for_ ts
unnamed_for d ts some h = rw (unnamed_is d ts, is_one (next ts).code (code k.For) h, reach_one d some) refl

pub unnamed_while : (d : ℕ) (ts : List Tok) → 0 < d → mem (next ts).code (code k.While ∷ []) ≡ true → reads d unnamed ts ≡ reads d while_ ts
unnamed_while d ts some h = rw (unnamed_is d ts, is_one (next ts).code (code k.While) h, reach_one d some) refl

pub unnamed_do : (d : ℕ) (ts : List Tok) → 0 < d → mem (next ts).code (code k.Do ∷ []) ≡ true → reads d unnamed ts ≡ reads d do_ ts
unnamed_do d ts some h = rw (unnamed_is d ts, is_one (next ts).code (code k.Do) h, reach_one d some) refl

pub unnamed_repeat : (d : ℕ) (ts : List Tok) → 0 < d → mem (next ts).code (code k.Repeat ∷ []) ≡ true → reads d unnamed ts ≡ reads d repeat ts
unnamed_repeat d ts some h = rw (unnamed_is d ts, is_one (next ts).code (code k.Repeat) h, reach_one d some) refl

pub unnamed_forever : (d : ℕ) (ts : List Tok) → 0 < d → mem (next ts).code (code k.Forever ∷ []) ≡ true → reads d unnamed ts ≡ reads d forever ts
unnamed_forever d ts some h = rw (unnamed_is d ts, is_one (next ts).code (code k.Forever) h, reach_one d some) refl

pub unnamed_foreach : (d : ℕ) (ts : List Tok) → 0 < d → mem (next ts).code (code k.Foreach ∷ []) ≡ true → reads d unnamed ts ≡ reads d foreach ts
unnamed_foreach d ts some h = rw (unnamed_is d ts, is_one (next ts).code (code k.Foreach) h, reach_one d some) refl

pub unnamed_after : (d : ℕ) (ts : List Tok) → 0 < d → mem (next ts).code (code k.Hash ∷ []) ≡ true → reads d unnamed ts ≡ reads d after ts
unnamed_after d ts some h = rw (unnamed_is d ts, is_one (next ts).code (code k.Hash) h, reach_one d some) refl

pub unnamed_on : (d : ℕ) (ts : List Tok) → 0 < d → mem (next ts).code (code k.At ∷ []) ≡ true → reads d unnamed ts ≡ reads d on_event ts
unnamed_on d ts some h = rw (unnamed_is d ts, is_one (next ts).code (code k.At) h, reach_one d some) refl

pub unnamed_cycles : (d : ℕ) (ts : List Tok) → 0 < d → mem (next ts).code (code k.HashHash ∷ []) ≡ true → reads d unnamed ts ≡ reads d cycles ts
unnamed_cycles d ts some h = rw (unnamed_is d ts, is_one (next ts).code (code k.HashHash) h, reach_one d some) refl

-- a kind of a list that isn't its first is one of the others
other : (n m : ℕ) (ms : List ℕ) → mem n (m ∷ []) ≡ false → mem n (m ∷ ms) ≡ true → mem n ms ≡ true
other n m ms off h = go (eqb n m) off h
  where
    go : (b : Bool) → cond b true false ≡ false → cond b true (mem n ms) ≡ true → mem n ms ≡ true
    go true off h = absurd cc
    go false off h = h

-- a kind that stands in no list is not its first and none of the others
none_of : (n m : ℕ) (ms : List ℕ) → mem n (m ∷ ms) ≡ false → (mem n (m ∷ []) ≡ false) × (mem n ms ≡ false)
none_of n m ms h = go (eqb n m) h
  where
    go : (b : Bool) → cond b true (mem n ms) ≡ false → (cond b true false ≡ false) × (mem n ms ≡ false)
    go true h = absurd cc
    go false h = (refl, h)

-- the last of them, where it is none of the others
pub unnamed_braces : (d : ℕ) (ts : List Tok) → 0 < d → mem (next ts).code holder_first ≡ true → mem (next ts).code (code k.If ∷ []) ≡ false → mem (next ts).code (code k.For ∷ []) ≡ false → mem (next ts).code (code k.While ∷ []) ≡ false → mem (next ts).code (code k.Do ∷ []) ≡ false → mem (next ts).code (code k.Repeat ∷ []) ≡ false → mem (next ts).code (code k.Forever ∷ []) ≡ false → mem (next ts).code (code k.Foreach ∷ []) ≡ false → mem (next ts).code (code k.Hash ∷ []) ≡ false → mem (next ts).code (code k.At ∷ []) ≡ false → mem (next ts).code (code k.HashHash ∷ []) ≡ false → reads d unnamed ts ≡ reads d targets_statement ts
unnamed_braces d ts some h h0 h1 h2 h3 h4 h5 h6 h7 h8 h9 = rw (unnamed_is d ts, is_one (next ts).code (code k.LeftBrace) (other (next ts).code (code k.HashHash) (code k.LeftBrace ∷ []) h9 (other (next ts).code (code k.At) (code k.HashHash ∷ code k.LeftBrace ∷ []) h8 (other (next ts).code (code k.Hash) (code k.At ∷ code k.HashHash ∷ code k.LeftBrace ∷ []) h7 (other (next ts).code (code k.Foreach) (code k.Hash ∷ code k.At ∷ code k.HashHash ∷ code k.LeftBrace ∷ []) h6 (other (next ts).code (code k.Forever) (code k.Foreach ∷ code k.Hash ∷ code k.At ∷ code k.HashHash ∷ code k.LeftBrace ∷ []) h5 (other (next ts).code (code k.Repeat) (code k.Forever ∷ code k.Foreach ∷ code k.Hash ∷ code k.At ∷ code k.HashHash ∷ code k.LeftBrace ∷ []) h4 (other (next ts).code (code k.Do) (code k.Repeat ∷ code k.Forever ∷ code k.Foreach ∷ code k.Hash ∷ code k.At ∷ code k.HashHash ∷ code k.LeftBrace ∷ []) h3 (other (next ts).code (code k.While) (code k.Do ∷ code k.Repeat ∷ code k.Forever ∷ code k.Foreach ∷ code k.Hash ∷ code k.At ∷ code k.HashHash ∷ code k.LeftBrace ∷ []) h2 (other (next ts).code (code k.For) (code k.While ∷ code k.Do ∷ code k.Repeat ∷ code k.Forever ∷ code k.Foreach ∷ code k.Hash ∷ code k.At ∷ code k.HashHash ∷ code k.LeftBrace ∷ []) h1 (other (next ts).code (code k.If) (code k.For ∷ code k.While ∷ code k.Do ∷ code k.Repeat ∷ code k.Forever ∷ code k.Foreach ∷ code k.Hash ∷ code k.At ∷ code k.HashHash ∷ code k.LeftBrace ∷ []) h0 h)))))))))), reach_one d some) refl

-- none of these fits where no statement fits inside
pub unnamed_low : (d : ℕ) (ts : List Tok) → d ≡ 0 → mem (next ts).code holder_first ≡ true → reads d unnamed ts ≡ Err (TooDeep ts)
unnamed_low d ts none h = ⊎_elim (λ (e : (next ts).code ≡ code k.If). rw (none, unnamed_is 0 ts, e) refl) (λ h0. ⊎_elim (λ (e : (next ts).code ≡ code k.For). rw (none, unnamed_is 0 ts, e) refl) (λ h1. ⊎_elim (λ (e : (next ts).code ≡ code k.While). rw (none, unnamed_is 0 ts, e) refl) (λ h2. ⊎_elim (λ (e : (next ts).code ≡ code k.Do). rw (none, unnamed_is 0 ts, e) refl) (λ h3. ⊎_elim (λ (e : (next ts).code ≡ code k.Repeat). rw (none, unnamed_is 0 ts, e) refl) (λ h4. ⊎_elim (λ (e : (next ts).code ≡ code k.Forever). rw (none, unnamed_is 0 ts, e) refl) (λ h5. ⊎_elim (λ (e : (next ts).code ≡ code k.Foreach). rw (none, unnamed_is 0 ts, e) refl) (λ h6. ⊎_elim (λ (e : (next ts).code ≡ code k.Hash). rw (none, unnamed_is 0 ts, e) refl) (λ h7. ⊎_elim (λ (e : (next ts).code ≡ code k.At). rw (none, unnamed_is 0 ts, e) refl) (λ h8. ⊎_elim (λ (e : (next ts).code ≡ code k.HashHash). rw (none, unnamed_is 0 ts, e) refl) (λ h9. rw (none, unnamed_is 0 ts, is_one (next ts).code (code k.LeftBrace) h9) refl) (split (next ts).code (code k.HashHash) (code k.LeftBrace ∷ []) h8)) (split (next ts).code (code k.At) (code k.HashHash ∷ code k.LeftBrace ∷ []) h7)) (split (next ts).code (code k.Hash) (code k.At ∷ code k.HashHash ∷ code k.LeftBrace ∷ []) h6)) (split (next ts).code (code k.Foreach) (code k.Hash ∷ code k.At ∷ code k.HashHash ∷ code k.LeftBrace ∷ []) h5)) (split (next ts).code (code k.Forever) (code k.Foreach ∷ code k.Hash ∷ code k.At ∷ code k.HashHash ∷ code k.LeftBrace ∷ []) h4)) (split (next ts).code (code k.Repeat) (code k.Forever ∷ code k.Foreach ∷ code k.Hash ∷ code k.At ∷ code k.HashHash ∷ code k.LeftBrace ∷ []) h3)) (split (next ts).code (code k.Do) (code k.Repeat ∷ code k.Forever ∷ code k.Foreach ∷ code k.Hash ∷ code k.At ∷ code k.HashHash ∷ code k.LeftBrace ∷ []) h2)) (split (next ts).code (code k.While) (code k.Do ∷ code k.Repeat ∷ code k.Forever ∷ code k.Foreach ∷ code k.Hash ∷ code k.At ∷ code k.HashHash ∷ code k.LeftBrace ∷ []) h1)) (split (next ts).code (code k.For) (code k.While ∷ code k.Do ∷ code k.Repeat ∷ code k.Forever ∷ code k.Foreach ∷ code k.Hash ∷ code k.At ∷ code k.HashHash ∷ code k.LeftBrace ∷ []) h0)) (split (next ts).code (code k.If) (code k.For ∷ code k.While ∷ code k.Do ∷ code k.Repeat ∷ code k.Forever ∷ code k.Foreach ∷ code k.Hash ∷ code k.At ∷ code k.HashHash ∷ code k.LeftBrace ∷ []) h)

-- ---- where none of the others comes next

pub unnamed_return : (d : ℕ) (ts : List Tok) → mem (next ts).code holder_first ≡ false → mem (next ts).code (code k.Semicolon ∷ []) ≡ false → mem (next ts).code (code k.Begin ∷ []) ≡ false → mem (next ts).code (code k.Fork ∷ []) ≡ false → mem (next ts).code (code k.SystemName ∷ []) ≡ false → mem (next ts).code (code k.Super ∷ []) ≡ false → mem (next ts).code (code k.This ∷ []) ≡ false → mem (next ts).code (code k.Void ∷ []) ≡ false → mem (next ts).code (kinds_of case_words) ≡ false → mem (next ts).code (kinds_of step_words) ≡ false → mem (next ts).code (code k.Wait ∷ []) ≡ false → mem (next ts).code (code k.Disable ∷ []) ≡ false → mem (next ts).code (code k.Arrow ∷ []) ≡ false → mem (next ts).code (code k.Break ∷ []) ≡ false → mem (next ts).code (code k.Continue ∷ []) ≡ false → reads d unnamed ts ≡ reads d return_ ts
unnamed_return d ts h h_semicolon h_begin h_fork h_systemname h_super h_this h_void h_case h_step h_wait h_disable h_arrow h_break h_continue =
    let p0 = none_of (next ts).code (code k.If) (code k.For ∷ code k.While ∷ code k.Do ∷ code k.Repeat ∷ code k.Forever ∷ code k.Foreach ∷ code k.Hash ∷ code k.At ∷ code k.HashHash ∷ code k.LeftBrace ∷ []) h in
    let p1 = none_of (next ts).code (code k.For) (code k.While ∷ code k.Do ∷ code k.Repeat ∷ code k.Forever ∷ code k.Foreach ∷ code k.Hash ∷ code k.At ∷ code k.HashHash ∷ code k.LeftBrace ∷ []) p0.1 in
    let p2 = none_of (next ts).code (code k.While) (code k.Do ∷ code k.Repeat ∷ code k.Forever ∷ code k.Foreach ∷ code k.Hash ∷ code k.At ∷ code k.HashHash ∷ code k.LeftBrace ∷ []) p1.1 in
    let p3 = none_of (next ts).code (code k.Do) (code k.Repeat ∷ code k.Forever ∷ code k.Foreach ∷ code k.Hash ∷ code k.At ∷ code k.HashHash ∷ code k.LeftBrace ∷ []) p2.1 in
    let p4 = none_of (next ts).code (code k.Repeat) (code k.Forever ∷ code k.Foreach ∷ code k.Hash ∷ code k.At ∷ code k.HashHash ∷ code k.LeftBrace ∷ []) p3.1 in
    let p5 = none_of (next ts).code (code k.Forever) (code k.Foreach ∷ code k.Hash ∷ code k.At ∷ code k.HashHash ∷ code k.LeftBrace ∷ []) p4.1 in
    let p6 = none_of (next ts).code (code k.Foreach) (code k.Hash ∷ code k.At ∷ code k.HashHash ∷ code k.LeftBrace ∷ []) p5.1 in
    let p7 = none_of (next ts).code (code k.Hash) (code k.At ∷ code k.HashHash ∷ code k.LeftBrace ∷ []) p6.1 in
    let p8 = none_of (next ts).code (code k.At) (code k.HashHash ∷ code k.LeftBrace ∷ []) p7.1 in
    let p9 = none_of (next ts).code (code k.HashHash) (code k.LeftBrace ∷ []) p8.1 in
    rw (unnamed_is d ts, h_semicolon, h_begin, h_fork, h_step, h_systemname, h_super, h_this, p9.1, h_void, p0.0, h_case, p1.0, p2.0, p3.0, p4.0, p5.0, p6.0, p7.0, p8.0, p9.0, h_wait, h_disable, h_arrow, h_break, h_continue) refl
