-- Items of a block: declarations, and then statements.
use Rattle.std.proofs.Common.{◌≡◌, ℕ, zero, suc, ◌-◌, ◌<◌, Bool, true, false, cond, if◌then◌else◌, ◌&&◌, ◌||◌, ◌==◌, List, [], ◌∷◌, ◌++◌, map, length, drop, Option, Ok, Err, refl, sym, ap, ◌∙◌, arith}
use Rattle.sv_value.specs.declared.place.Place.{Place}
use Rattle.std.proofs.lemmas.List.{append-nil}
use Rattle.sv_grammar.specs.Tokens.{Tok, next, mem, disjoint}
use Rattle.sv_grammar.specs.Info.{Info}
use Rattle.sv_grammar.specs.Language.{Miss, TooDeep, Unexpected, Out}
use Rattle.sv_grammar.specs.Reading.{◌>>=◌, one_of, run_upto}
use Rattle.sv_grammar.specs.Code.{fine, info, least, reach, pick, items_from}
use Rattle.sv_grammar.specs.Code.Code.{Map, Rep, Items, Inner}
use Rattle.sv_grammar.proofs.Answers.{no_true}
use Rattle.sv_grammar.proofs.Lists.{apart, mem-left, mem-right}
use Rattle.sv_grammar.proofs.Steps.{items_is, items_stop, items_fail, items_more, item_short}
use Rattle.sv_tree.specs.declared.kind.Kind.TheVariants as k
use Rattle.sv_tree.specs.declared.token.Token.{Token}
use Rattle.sv_tree.specs.declared.word.Name.{Name}
use Rattle.sv_tree.specs.declared.statement.Decl.{Decl}
use Rattle.sv_tree.specs.StmtView.{decl}
use Rattle.sv_tree.specs.Codes.{code, toks}
use Rattle.sv_tree.specs.Stmt as stmts
use Rattle.sv_tree.specs.Forms.{Production, Value, Statement, Named, Unnamed, Placed, tok, word, pair, then_, name, name_of, label, statement, ◌▸◌}
use Rattle.sv_tree.specs.TypeGrammar.{word_decl, named_decl_rest}
use Rattle.sv_tree.specs.StmtGrammar.{BlockItem, Declared, Made, is_statement, placed, unlabelled, early_rest, early, block_items, block_of, block_rest, fork_of, fork_rest, join_words, block, fork, unnamed, named_statement, stmt}
use Rattle.sv_tree.specs.Grammar.{heads, need, table, reads, named_first, unnamed_first}
use Rattle.sv_tree.proofs.Good.{good, inner_is}
use Rattle.sv_tree.proofs.KnownTypes as of_types
use Rattle.sv_tree.proofs.KnownStmts as known
use Rattle.sv_parse.specs.Outcome.{Fails}
use Rattle.sv_parse.specs.Parts.{from}
use Rattle.sv_parse.specs.declared.tokens.ReadError.{ReadError}
use Rattle.sv_parse.specs.declared.tokens.ReadError.TheVariants as errors
use Rattle.sv_parse.proofs.Loops.{IsLoop, loop_is, loop_stop, loop_deep, toks_length}
use Rattle.sv_parse_type.specs.Applied.{applied}
use Rattle.sv_parse_type.specs.Begins.{word_decl_first}
use Rattle.sv_parse_stmt.specs.Begins.{stmt_first, is_decl}
use Rattle.sv_parse_stmt.specs.Blocks.{items_on}
use Rattle.sv_parse_stmt.specs.Fronts.{after_decls, ended}
use Rattle.sv_parse_stmt.specs.declared.front.BlockWord.TheVariants as block_word
use Rattle.sv_parse_stmt.proofs.KindLaws.{is_one, reach_one}
use Rattle.sv_parse_stmt.proofs.Shapes.{made, beside, pair_is, then_is, triple_is}
use Rattle.sv_parse_stmt.proofs.StmtLaws.{stmt_named, stmt_unnamed}

-- ---- what is known of items

items_fine : fine Production Value heads need (Items is_statement early (Map Made statement)) ≡ true
unfolding block_items
items_fine = known.block_items_known.passes

early_first : (info Production Value heads need early).first ≡ code k.Name ∷ (word_decl_first ++ unnamed_first)
early_first = ap (λ (i : Info). i.first) known.early_known.info_is

early_least : least Production Value heads need early ≡ 0
early_least = known.early_known.low_is

-- the alternatives of an early item
early_is : (d : ℕ) (ts : List Tok) → reads d early ts ≡ (if mem (next ts).code (code k.Name ∷ []) then reads d (then_ (tok k.Name) early_rest) ts else
    if mem (next ts).code word_decl_first then reads d (Map Declared word_decl) ts else
    if reach 1 d then reads d (Map (λ p. Made (unlabelled p)) (Inner Unnamed)) ts else if mem (next ts).code unnamed_first then Err (TooDeep ts) else Err (Unexpected ts))
unfolding early
early_is d ts = rw (known.early_rest_known.low_is, of_types.word_decl_known.info_is, of_types.word_decl_known.low_is) refl

-- the alternatives after a name
rest_is : (d : ℕ) (ts : List Tok) → reads d early_rest ts ≡ (if mem (next ts).code (code k.Name ∷ []) then reads d (Map (λ f t. Declared (f (name_of t))) named_decl_rest) ts else
    if reach 1 d then reads d (Map (λ f t. Made (f t)) (Inner Named)) ts else if mem (next ts).code named_first then Err (TooDeep ts) else Err (Unexpected ts))
unfolding early_rest
rest_is d ts = rw (of_types.named_decl_rest_known.info_is, of_types.named_decl_rest_known.low_is) refl

-- a kind of one list is none of another
off : (n : ℕ) (xs ys : List ℕ) → disjoint xs ys ≡ true → mem n xs ≡ true → mem n ys ≡ false
off n xs ys d h = go (mem n ys) refl
  where
    go : (b : Bool) → mem n ys ≡ b → b ≡ false
    go true e = absurd (apart n xs ys d h e)
    go false e = refl

-- a kind of neither of two lists is none of both
neither : (n : ℕ) (xs ys : List ℕ) → mem n xs ≡ false → mem n ys ≡ false → mem n (xs ++ ys) ≡ false
neither n [] ys h g = g
neither n (x ∷ xs) ys h g = go (n == x) (neither n xs ys) h
  where
    go : (b : Bool) → (mem n xs ≡ false → mem n ys ≡ false → mem n (xs ++ ys) ≡ false) → cond b true (mem n xs) ≡ false → cond b true (mem n (xs ++ ys)) ≡ false
    go true f h = h
    go false f h = f h g

-- a kind of a list is a kind of a longer one
longer : (n m : ℕ) (xs : List ℕ) → mem n xs ≡ true → mem n (m ∷ xs) ≡ true
longer n m xs h = go (n == m)
  where
    go : (b : Bool) → cond b true (mem n xs) ≡ true
    go true = refl
    go false = h

or_parts : (a b : Bool) → (a || b) ≡ false → (a ≡ false) × (b ≡ false)
or_parts true b h = absurd cc
or_parts false b h = (refl, h)

-- ---- a declaration

pub early_word : (d : ℕ) (ts : List Tok) → mem (next ts).code word_decl_first ≡ true → reads d early ts ≡ (reads d word_decl ts >>= λ x. Ok (Declared x.0, x.1))
early_word d ts h = rw (early_is d ts, off (next ts).code word_decl_first (code k.Name ∷ []) refl h, h) refl

-- the type of a declaration is a name
named_decl : (d : ℕ) (t : Tok) (us : List Tok) → mem (next us).code (code k.Name ∷ []) ≡ true → applied t (reads d early_rest us) ≡ (applied (name_of t) (reads d named_decl_rest us) >>= λ x. Ok (Declared x.0, x.1))
named_decl d t us g = rw (rest_is d us, g) (go (reads d named_decl_rest us))
  where
    go : (o : Out (Name → stmts.Decl)) → applied t (o >>= λ x. Ok ((λ (w : Tok). Declared (x.0 (name_of w))), x.1)) ≡ (applied (name_of t) o >>= λ x. Ok (Declared x.0, x.1))
    go (Ok x) = refl
    go (Err m) = refl

then_rest : (d : ℕ) (ts : List Tok) → mem (next ts).code (code k.Name ∷ []) ≡ true → reads d early ts ≡ reads d (then_ (tok k.Name) early_rest) ts
then_rest d ts h = rw (early_is d ts, h) refl

two_names : (d : ℕ) (t : Tok) (us : List Tok) → mem t.code (code k.Name ∷ []) ≡ true → mem (next us).code (code k.Name ∷ []) ≡ true → reads d early (t ∷ us) ≡ (applied (name_of t) (reads d named_decl_rest us) >>= λ x. Ok (Declared x.0, x.1))
two_names d t us h g = then_rest d (t ∷ us) h ∙ then_is (tok k.Name) early_rest d (t ∷ us) ∙ rw h (named_decl d t us g)

pub early_named : (d : ℕ) (ts : List Tok) → is_decl ts ≡ true → mem (next ts).code word_decl_first ≡ false → reads d early ts ≡ (reads d name ts >>= λ n. applied n.0 (reads d named_decl_rest n.1) >>= λ x. Ok (Declared x.0, x.1))
early_named d [] h g = absurd cc
early_named d (t ∷ us) h g = go (mem t.code (code k.Name ∷ [])) refl (mem (next us).code (code k.Name ∷ [])) refl (rw g at h)
  where
    go : (a : Bool) → mem t.code (code k.Name ∷ []) ≡ a → (b : Bool) → mem (next us).code (code k.Name ∷ []) ≡ b → (mem t.code (code k.Name ∷ []) && mem (next us).code (code k.Name ∷ [])) ≡ true → reads d early (t ∷ us) ≡ (reads d name (t ∷ us) >>= λ n. applied n.0 (reads d named_decl_rest n.1) >>= λ x. Ok (Declared x.0, x.1))
    go true e true f p = two_names d t us e f ∙ rw e refl
    go true e false f p = absurd (no_true false (rw (e, f) at p) refl)
    go false e b f p = absurd (no_true false (rw e at p) refl)

-- ---- declarations in a row

module _ (d : ℕ) where
  comes : (ts : List Tok) → is_decl ts ≡ true → mem (next ts).code (info Production Value heads need early).first ≡ true
  comes ts h = rw early_first (go (mem (next ts).code (code k.Name ∷ [])) refl (mem (next ts).code word_decl_first) refl h)
    where
      go : (a : Bool) → mem (next ts).code (code k.Name ∷ []) ≡ a → (b : Bool) → mem (next ts).code word_decl_first ≡ b → is_decl ts ≡ true → mem (next ts).code (code k.Name ∷ (word_decl_first ++ unnamed_first)) ≡ true
      go true e b f p = rw (is_one (next ts).code (code k.Name) e) refl
      go false e true f p = longer (next ts).code (code k.Name) (word_decl_first ++ unnamed_first) (mem-left (next ts).code word_decl_first unnamed_first f)
      go false e false f p = absurd (no_true false (rw (f, e) at p) refl)

  able_ : reach (least Production Value heads need early) d ≡ true
  able_ = rw early_least refl

  decl_fails : (prefix : List BlockItem) (ts : List Tok) (m : Miss) → is_decl ts ≡ true → reads d early ts ≡ Err m → items_on d false prefix ts ≡ Err m
  decl_fails prefix [] m h e = absurd cc
  decl_fails prefix (t ∷ us) m h e = items_fail Production Value heads need table good is_statement early (Map Made statement) items_fine d false prefix t us m (comes (t ∷ us) h) able_ e

  decl_more : (prefix : List BlockItem) (ts rest : List Tok) (x : stmts.Decl) → is_decl ts ≡ true → reads d early ts ≡ Ok (Declared x, rest) → items_on d false prefix ts ≡ items_on d false (prefix ++ Declared x ∷ []) rest
  decl_more prefix [] rest x h e = absurd cc
  decl_more prefix (t ∷ us) rest x h e = items_more Production Value heads need table good is_statement early (Map Made statement) items_fine d false prefix t us (Declared x, rest) (comes (t ∷ us) h) able_ e

  -- ---- for the loop of the code

  pub items_start : (ts : List Tok) → reads d block_items ts ≡ items_on d false [] ts
  unfolding block_items
  items_start ts = items_is Production Value heads need table good is_statement early (Map Made statement) items_fine d ts

  -- a declaration that can't be read
  pub decls_end : (e : ReadError) (prefix : List BlockItem) (ts : List Tok) (all : Out (List BlockItem)) → is_decl ts ≡ true → Fails e (reads d early ts) → items_on d false prefix ts ≡ all → Fails e all
  decls_end errors.Memory prefix ts all h f told = tt
  decls_end (errors.TooDeep rest) prefix ts all h f told = sym told ∙ decl_fails prefix ts (TooDeep (toks rest.now)) h f
  decls_end (errors.Unexpected rest) prefix ts all h f told = sym told ∙ decl_fails prefix ts (Unexpected (toks rest.now)) h f

  -- a declaration that is read
  pub decls_go_on : (prefix prefix2 : List BlockItem) (ts rest : List Tok) (x : stmts.Decl) (all : Out (List BlockItem)) → is_decl ts ≡ true → reads d early ts ≡ Ok (Declared x, rest) → prefix2 ≡ prefix ++ Declared x ∷ [] → items_on d false prefix ts ≡ all → items_on d false prefix2 rest ≡ all
  decls_go_on prefix prefix2 ts rest x all h e after told = rw after (sym (decl_more prefix ts rest x h e) ∙ told)

  -- fewer tokens are left
  pub decls_shorter : (ts rest : List Token) (x : stmts.Decl) → reads d early (toks ts) ≡ Ok (Declared x, toks rest) → length rest < length ts
  decls_shorter ts rest x e =
      let lt : length (toks rest) < length (toks ts) = item_short Production Value heads need table good is_statement early (Map Made statement) items_fine d false (toks ts) (Declared x, toks rest) able_ e in
      let a : length (toks rest) ≡ length rest = toks_length rest in
      let b : length (toks ts) ≡ length ts = toks_length ts in
      omega arith

  -- ---- where the declarations end

  -- neither a name, nor what begins another statement
  not_stmt : (n : ℕ) → mem n stmt_first ≡ false → (mem n (code k.Name ∷ []) ≡ false) × (mem n unnamed_first ≡ false)
  not_stmt n h = go (n == code k.Name) h
    where
      go : (b : Bool) → cond b true (mem n unnamed_first) ≡ false → (cond b true false ≡ false) × (mem n unnamed_first ≡ false)
      go true h = absurd cc
      go false h = (refl, h)

  not_name : (n : ℕ) (xs : List ℕ) → mem n (code k.Name ∷ []) ≡ false → mem n xs ≡ false → mem n (code k.Name ∷ xs) ≡ false
  not_name n xs h g = go (n == code k.Name) h
    where
      go : (b : Bool) → cond b true false ≡ false → cond b true (mem n xs) ≡ false
      go true h = h
      go false h = g

  stops : (ts : List Tok) → is_decl ts ≡ false → mem (next ts).code stmt_first ≡ false → mem (next ts).code (info Production Value heads need early).first ≡ false
  stops ts h g = let p = not_stmt (next ts).code g in let q = or_parts (mem (next ts).code word_decl_first) (mem (next ts).code (code k.Name ∷ []) && mem (next (drop 1 ts)).code (code k.Name ∷ [])) h in
      rw early_first (not_name (next ts).code (word_decl_first ++ unnamed_first) p.0 (neither (next ts).code word_decl_first unnamed_first q.0 p.1))

  pub items_end : (prefix : List BlockItem) (ts : List Tok) → is_decl ts ≡ false → mem (next ts).code stmt_first ≡ false → items_on d false prefix ts ≡ Ok (prefix, ts)
  items_end prefix ts h g = items_stop Production Value heads need table good is_statement early (Map Made statement) items_fine d false prefix ts (stops ts h g)

-- ---- where no statement fits

-- what follows a name
low_rest : (t : Tok) (us : List Tok) → mem (next us).code (code k.Name ∷ []) ≡ false → applied t (reads 0 early_rest us) ≡ (if mem (next us).code named_first then Err (TooDeep us) else Err (Unexpected us))
low_rest t us h = rw (rest_is 0 us, h) (go (mem (next us).code named_first))
  where
    odd : Bool → Out (Tok → BlockItem)
    odd b = cond b (Err (TooDeep us)) (Err (Unexpected us))

    go : (b : Bool) → applied t (odd b) ≡ cond b (Err (TooDeep us)) (Err (Unexpected us))
    go true = refl
    go false = refl

second_off : (t : Tok) (us : List Tok) → is_decl (t ∷ us) ≡ false → mem t.code (code k.Name ∷ []) ≡ true → mem (next us).code (code k.Name ∷ []) ≡ false
second_off t us h g = let q = or_parts (mem t.code word_decl_first) (mem t.code (code k.Name ∷ []) && mem (next us).code (code k.Name ∷ [])) h in rw g at q.1

low_named : (t : Tok) (us : List Tok) → is_decl (t ∷ us) ≡ false → mem t.code (code k.Name ∷ []) ≡ true → reads 0 early (t ∷ us) ≡ (if mem (next us).code named_first then Err (TooDeep us) else Err (Unexpected us))
low_named t us h g = then_rest 0 (t ∷ us) g ∙ then_is (tok k.Name) early_rest 0 (t ∷ us) ∙ rw g (low_rest t us (second_off t us h g))

-- a name is one of the kinds that begin an item
name_comes : (ts : List Tok) → mem (next ts).code (code k.Name ∷ []) ≡ true → mem (next ts).code (info Production Value heads need early).first ≡ true
name_comes ts h = rw (early_first, is_one (next ts).code (code k.Name) h) refl

pub low_name : (prefix : List BlockItem) (ts : List Tok) → is_decl ts ≡ false → mem (next ts).code (code k.Name ∷ []) ≡ true → items_on 0 false prefix ts ≡ (one_of (code k.Name ∷ []) ts >>= λ t. if mem (next t.1).code named_first then Err (TooDeep t.1) else Err (Unexpected t.1))
low_name prefix [] h g = absurd cc
low_name prefix (t ∷ us) h g = go (mem (next us).code named_first) refl ∙ ap ended (sym (got t us g))
  where
    ended : Out Tok → Out (List BlockItem)
    ended o = o >>= λ t. if mem (next t.1).code named_first then Err (TooDeep t.1) else Err (Unexpected t.1)

    got : (t : Tok) (us : List Tok) → mem t.code (code k.Name ∷ []) ≡ true → one_of (code k.Name ∷ []) (t ∷ us) ≡ Ok (t, us)
    got t us g = rw g refl

    go : (b : Bool) → mem (next us).code named_first ≡ b → items_on 0 false prefix (t ∷ us) ≡ (if mem (next us).code named_first then Err (TooDeep us) else Err (Unexpected us))
    go true e = items_fail Production Value heads need table good is_statement early (Map Made statement) items_fine 0 false prefix t us (TooDeep us) (name_comes (t ∷ us) g) (able_ 0) (low_named t us h g ∙ rw e refl) ∙ rw e refl
    go false e = items_fail Production Value heads need table good is_statement early (Map Made statement) items_fine 0 false prefix t us (Unexpected us) (name_comes (t ∷ us) g) (able_ 0) (low_named t us h g ∙ rw e refl) ∙ rw e refl

-- what begins a statement, but for a name
unnamed_on : (n : ℕ) → mem n (code k.Name ∷ []) ≡ false → mem n stmt_first ≡ true → mem n unnamed_first ≡ true
unnamed_on n h g = go (n == code k.Name) h g
  where
    go : (b : Bool) → cond b true false ≡ false → cond b true (mem n unnamed_first) ≡ true → mem n unnamed_first ≡ true
    go true h g = absurd cc
    go false h g = g

decl_off : (ts : List Tok) → is_decl ts ≡ false → mem (next ts).code word_decl_first ≡ false
decl_off ts h = (or_parts (mem (next ts).code word_decl_first) (mem (next ts).code (code k.Name ∷ []) && mem (next (drop 1 ts)).code (code k.Name ∷ [])) h).0

unnamed_comes : (ts : List Tok) → mem (next ts).code unnamed_first ≡ true → mem (next ts).code (info Production Value heads need early).first ≡ true
unnamed_comes ts h = rw early_first (longer (next ts).code (code k.Name) (word_decl_first ++ unnamed_first) (mem-right (next ts).code word_decl_first unnamed_first h))

pub low_other : (prefix : List BlockItem) (ts : List Tok) → is_decl ts ≡ false → mem (next ts).code (code k.Name ∷ []) ≡ false → mem (next ts).code stmt_first ≡ true → items_on 0 false prefix ts ≡ Err (TooDeep ts)
low_other prefix [] h g e = absurd cc
low_other prefix (t ∷ us) h g e =
    items_fail Production Value heads need table good is_statement early (Map Made statement) items_fine 0 false prefix t us (TooDeep (t ∷ us)) (unnamed_comes (t ∷ us) (unnamed_on t.code g e)) (able_ 0)
    (rw (early_is 0 (t ∷ us), g, decl_off (t ∷ us) h, unnamed_on t.code g e) refl)

-- ---- where a statement fits, the first one is read as the others are

-- a statement, as an item
abbrev as_item : Out stmts.Stmt → Out BlockItem
as_item o = o >>= λ x. Ok (Made x.0, x.1)

late_rest : (d : ℕ) (t : Tok) (us : List Tok) → 0 < d → mem (next us).code (code k.Name ∷ []) ≡ false → applied t (reads d early_rest us) ≡ as_item (applied t (reads (d - 1) named_statement us))
late_rest d t us some h = rw (rest_is d us, h, reach_one d some, inner_is d some Named us) (go (reads (d - 1) named_statement us))
  where
    go : (o : Out (Tok → stmts.Stmt)) → applied t (o >>= λ x. Ok ((λ (w : Tok). Made (x.0 w)), x.1)) ≡ as_item (applied t o)
    go (Ok x) = refl
    go (Err m) = refl

late_named : (d : ℕ) (t : Tok) (us : List Tok) → mem t.code (code k.Name ∷ []) ≡ true → reads d stmt (t ∷ us) ≡ applied t (reads d named_statement us)
late_named d t us g = stmt_named d (t ∷ us) g ∙ rw g refl

name_is_late : (d : ℕ) (t : Tok) (us : List Tok) → 0 < d → is_decl (t ∷ us) ≡ false → mem t.code (code k.Name ∷ []) ≡ true → reads d early (t ∷ us) ≡ as_item (reads (d - 1) stmt (t ∷ us))
name_is_late d t us some h g = then_rest d (t ∷ us) g ∙ then_is (tok k.Name) early_rest d (t ∷ us) ∙ rw g (late_rest d t us some (second_off t us h g) ∙ ap as_item (sym (late_named (d - 1) t us g)))

other_early : (d : ℕ) (ts : List Tok) → 0 < d → is_decl ts ≡ false → mem (next ts).code (code k.Name ∷ []) ≡ false → reads d early ts ≡ (reads (d - 1) unnamed ts >>= λ p. Ok (Made (unlabelled p.0), p.1))
other_early d ts some h g = rw (early_is d ts, g, decl_off ts h, reach_one d some, inner_is d some Unnamed ts) refl

other_is_late : (d : ℕ) (ts : List Tok) → 0 < d → is_decl ts ≡ false → mem (next ts).code (code k.Name ∷ []) ≡ false → reads d early ts ≡ as_item (reads (d - 1) stmt ts)
other_is_late d ts some h g = other_early d ts some h g ∙ go (reads (d - 1) unnamed ts) ∙ ap as_item (sym (stmt_unnamed (d - 1) ts g))
  where
    go : (o : Out Placed) → (o >>= λ p. Ok (Made (unlabelled p.0), p.1)) ≡ as_item (o >>= λ p. Ok (unlabelled p.0, p.1))
    go (Ok p) = refl
    go (Err m) = refl

early_is_late : (d : ℕ) (ts : List Tok) → 0 < d → is_decl ts ≡ false → reads d early ts ≡ as_item (reads d statement ts)
early_is_late d [] some h = other_is_late d [] some h refl ∙ ap as_item (sym (inner_is d some Statement []))
early_is_late d (t ∷ us) some h = go (mem t.code (code k.Name ∷ [])) refl ∙ ap as_item (sym (inner_is d some Statement (t ∷ us)))
  where
    go : (b : Bool) → mem t.code (code k.Name ∷ []) ≡ b → reads d early (t ∷ us) ≡ as_item (reads (d - 1) stmt (t ∷ us))
    go true g = name_is_late d t us some h g
    go false g = other_is_late d (t ∷ us) some h g

-- items after a statement, and statements alone
module _ (d : ℕ) where
  abbrev kinds : Bool → List ℕ
  kinds s = (pick s (info Production Value heads need (Map Made statement)) (info Production Value heads need early)).first

  abbrev able : Bool → Bool
  able s = pick s (reach (least Production Value heads need (Map Made statement)) d) (reach (least Production Value heads need early) d)

  abbrev item : Bool → List Tok → Out BlockItem
  item s r = pick s (reads d (Map Made statement) r) (reads d early r)

  abbrev run : ℕ → Bool → List Tok → Out (List BlockItem)
  run f s ts = run_upto f kinds able (λ s. true) (λ s x. s || is_statement x) item s ts

  abbrev reps : ℕ → List Tok → Out (List stmts.Stmt)
  reps f ts = run_upto f (λ s. (info Production Value heads need statement).first) (λ s. reach (least Production Value heads need statement) d) (λ (s : Unit {0}). true) (λ s x. s) (λ s. reads d statement) tt ts

  abbrev all_made : Out (List stmts.Stmt) → Out (List BlockItem)
  all_made o = o >>= λ ss. Ok (map Made ss.0, ss.1)

  late_run : (f : ℕ) (ts : List Tok) → run f true ts ≡ all_made (reps f ts)
  late_run zero ts = refl
  late_run (suc f) ts = go (late_run f) (mem (next ts).code stmt_first) (reach 1 d) (reads d statement ts)
    where
      again : (s : stmts.Stmt) (o : Out (List stmts.Stmt)) → (all_made o >>= λ y. Ok (Made s ∷ y.0, y.1)) ≡ all_made (o >>= λ y. Ok (s ∷ y.0, y.1))
      again s (Ok y) = refl
      again s (Err m) = refl

      go : ((us : List Tok) → run f true us ≡ all_made (reps f us)) → (b c : Bool) (o : Out stmts.Stmt) →
          cond b (cond c (as_item o >>= λ x. run f true x.1 >>= λ y. Ok (x.0 ∷ y.0, y.1)) (Err (TooDeep ts))) (Ok ([], ts)) ≡ all_made (cond b (cond c (o >>= λ x. reps f x.1 >>= λ y. Ok (x.0 ∷ y.0, y.1)) (Err (TooDeep ts))) (Ok ([], ts)))
      go ih false c o = refl
      go ih true false o = refl
      go ih true true (Err m) = refl
      go ih true true (Ok x) = rw (ih x.1) (again x.0 (reps f x.1))

  -- one turn, by its parts
  turn : ℕ → Bool → List Tok → Bool → Bool → Out BlockItem → Out (List BlockItem)
  turn f s ts b c o = cond b (cond c (o >>= λ x. run f (s || is_statement x.0) x.1 >>= λ y. Ok (x.0 ∷ y.0, y.1)) (Err (TooDeep ts))) (Ok ([], ts))

  same_turn : (f : ℕ) (ts : List Tok) (b : Bool) (o : Out stmts.Stmt) → turn f false ts b true (as_item o) ≡ turn f true ts b true (as_item o)
  unfolding turn
  same_turn f ts false o = refl
  same_turn f ts true (Err m) = refl
  same_turn f ts true (Ok x) = refl

  kinds_same : (ts : List Tok) → is_decl ts ≡ false → mem (next ts).code (info Production Value heads need early).first ≡ mem (next ts).code stmt_first
  kinds_same ts h = go (mem (next ts).code stmt_first) refl (mem (next ts).code (code k.Name ∷ [])) refl
    where
      go : (b : Bool) → mem (next ts).code stmt_first ≡ b → (c : Bool) → mem (next ts).code (code k.Name ∷ []) ≡ c → mem (next ts).code (info Production Value heads need early).first ≡ b
      go false e c f = stops d ts h e
      go true e true f = name_comes ts f
      go true e false f = unnamed_comes ts (unnamed_on (next ts).code f e)

  early_turn : (f : ℕ) (ts : List Tok) → 0 < d → is_decl ts ≡ false → run (suc f) false ts ≡ run (suc f) true ts
  unfolding turn
  early_turn f ts some h =
      let early_so : turn f false ts (mem (next ts).code (info Production Value heads need early).first) (reach (least Production Value heads need early) d) (reads d early ts) ≡ turn f false ts (mem (next ts).code stmt_first) true (as_item (reads d statement ts)) =
      λ i. turn f false ts (kinds_same ts h i) (able_ d i) (early_is_late d ts some h i) in
      let late_so : turn f true ts (mem (next ts).code stmt_first) true (as_item (reads d statement ts)) ≡ turn f true ts (mem (next ts).code stmt_first) (reach 1 d) (as_item (reads d statement ts)) =
      λ i. turn f true ts (mem (next ts).code stmt_first) (sym (reach_one d some) i) (as_item (reads d statement ts)) in
      early_so ∙ same_turn f ts (mem (next ts).code stmt_first) (reads d statement ts) ∙ late_so

  first_run : (ts : List Tok) → 0 < d → is_decl ts ≡ false → run (length ts) false ts ≡ run (length ts) true ts
  first_run [] some h = refl
  first_run (t ∷ us) some h = early_turn (length us) (t ∷ us) some h

  -- after the declarations, what is left are statements
  pub items_late : (prefix : List BlockItem) (ts : List Tok) → 0 < d → is_decl ts ≡ false → items_on d false prefix ts ≡ (reads d (Rep statement) ts >>= λ ss. Ok (prefix ++ map Made ss.0, ss.1))
  unfolding items_from
  items_late prefix ts some h = ap joined (first_run ts some h ∙ late_run (length ts) ts) ∙ go (reads d (Rep statement) ts)
    where
      joined : Out (List BlockItem) → Out (List BlockItem)
      joined o = o >>= λ xs. Ok (prefix ++ xs.0, xs.1)

      go : (o : Out (List stmts.Stmt)) → joined (all_made o) ≡ (o >>= λ ss. Ok (prefix ++ map Made ss.0, ss.1))
      go (Ok ss) = refl
      go (Err m) = refl

-- ---- statements in a row

pub stmts_loop : IsLoop statement stmt_first 1
stmts_loop = record { passes = refl; begins = refl; needs = refl }

pub stmts_are : (d : ℕ) (ts : List Tok) → reads d (Rep statement) ts ≡ from statement d [] ts
stmts_are d ts = loop_is statement stmt_first 1 stmts_loop d ts

pub stmts_stop : (d : ℕ) (prefix : List stmts.Stmt) (ts : List Tok) → mem (next ts).code stmt_first ≡ false → from statement d prefix ts ≡ Ok (prefix, ts)
stmts_stop d prefix ts h = loop_stop statement stmt_first 1 stmts_loop d prefix ts h

pub stmts_deep : (d : ℕ) (prefix : List stmts.Stmt) (ts : List Tok) → mem (next ts).code stmt_first ≡ true → d ≡ 0 → from statement d prefix ts ≡ Err (TooDeep ts)
stmts_deep d prefix ts h none = loop_deep statement stmt_first 1 stmts_loop d prefix ts h (rw none refl)

-- where no statement comes, there are none
no_stmts : (d : ℕ) (ts : List Tok) → mem (next ts).code stmt_first ≡ false → reads d (Rep statement) ts ≡ Ok ([], ts)
no_stmts d ts h = stmts_are d ts ∙ stmts_stop d [] ts h

-- ---- where the declarations end, what is left are statements

pub opens_late : (d : ℕ) (ds : List Decl) (ts rest : List Tok) → is_decl rest ≡ false → items_on d false (map Declared (map decl ds)) rest ≡ reads d block_items ts → 0 < d → reads d block_items ts ≡ (reads d (Rep statement) rest >>= λ ss. Ok (after_decls ds ss.0, ss.1))
opens_late d ds ts rest h told some = sym told ∙ items_late d (map Declared (map decl ds)) rest some h

pub opens_low : (d : ℕ) (ds : List Decl) (ts rest : List Tok) → is_decl rest ≡ false → items_on d false (map Declared (map decl ds)) rest ≡ reads d block_items ts → d ≡ 0 → mem (next rest).code stmt_first ≡ false → reads d block_items ts ≡ (reads d (Rep statement) rest >>= λ ss. Ok (after_decls ds ss.0, ss.1))
opens_low d ds ts rest h told none off =
    sym told ∙ items_end d (map Declared (map decl ds)) rest h off ∙ ap whole (sym (append-nil (map Declared (map decl ds)))) ∙ sym (ap joined (no_stmts d rest off))
  where
    whole : List BlockItem → Out (List BlockItem)
    whole is = Ok (is, rest)

    joined : Out (List stmts.Stmt) → Out (List BlockItem)
    joined o = o >>= λ ss. Ok (after_decls ds ss.0, ss.1)

-- ---- blocks and forks

pub block_is : (d : ℕ) (ts : List Tok) → reads d block ts ≡ (one_of (code k.Begin ∷ []) ts >>= λ t. reads 0 label t.1 >>= λ n. reads d block_items n.1 >>= λ is. ended block_word.Begin t.0.at n.0 is.0 is.1)
unfolding block block_rest
block_is d ts = pair_is (λ t b. placed t.at b) (tok k.Begin) (pair block_of label block_rest) d ts ∙ go (one_of (code k.Begin ∷ []) ts)
  where
    last : (at : Place) (n : Option Name) (is : List BlockItem) (o : Out (Option Name)) → made (placed at) (made (block_of n) (beside is o)) ≡ (o >>= λ e. Ok (placed at (block_of n (is, e.0)), e.1))
    last at n is (Ok e) = refl
    last at n is (Err m) = refl

    third : (at : Place) (n : Option Name) (o : Out (List BlockItem)) → made (placed at) (made (block_of n) (o >>= λ is. beside is.0 (reads d (k.End ▸ label) is.1))) ≡ (o >>= λ is. ended block_word.Begin at n is.0 is.1)
    third at n (Ok is) = last at n is.0 (reads d (k.End ▸ label) is.1)
    third at n (Err m) = refl

    second : (at : Place) (o : Out (Option Name)) → made (placed at) (o >>= λ n. made (block_of n.0) (reads d block_rest n.1)) ≡ (o >>= λ n. reads d block_items n.1 >>= λ is. ended block_word.Begin at n.0 is.0 is.1)
    second at (Ok n) = third at n.0 (reads d block_items n.1)
    second at (Err m) = refl

    go : (o : Out Tok) → (o >>= λ t. made (placed t.0.at) (reads d (pair block_of label block_rest) t.1)) ≡ (o >>= λ t. reads 0 label t.1 >>= λ n. reads d block_items n.1 >>= λ is. ended block_word.Begin t.0.at n.0 is.0 is.1)
    go (Ok t) = ap (made (placed t.0.at)) (pair_is block_of label block_rest d t.1) ∙ second t.0.at (reads d label t.1)
    go (Err m) = refl

pub fork_is : (d : ℕ) (ts : List Tok) → reads d fork ts ≡ (one_of (code k.Fork ∷ []) ts >>= λ t. reads 0 label t.1 >>= λ n. reads d block_items n.1 >>= λ is. ended block_word.Fork t.0.at n.0 is.0 is.1)
unfolding fork fork_rest
fork_is d ts = pair_is (λ t b. placed t.at b) (tok k.Fork) (pair fork_of label fork_rest) d ts ∙ go (one_of (code k.Fork ∷ []) ts)
  where
    last : (at : Place) (n : Option Name) (is : List BlockItem) (j : Tok) (o : Out (Option Name)) → made (placed at) (made (fork_of n) (made (λ e. (is, j, e)) o)) ≡ (o >>= λ e. Ok (placed at (fork_of n (is, j, e.0)), e.1))
    last at n is j (Ok e) = refl
    last at n is j (Err m) = refl

    fourth : (at : Place) (n : Option Name) (is : List BlockItem) (o : Out Tok) → made (placed at) (made (fork_of n) (o >>= λ j. made (λ e. (is, j.0, e)) (reads d label j.1))) ≡ (o >>= λ j. reads 0 label j.1 >>= λ e. Ok (placed at (fork_of n (is, j.0, e.0)), e.1))
    fourth at n is (Ok j) = last at n is j.0 (reads d label j.1)
    fourth at n is (Err m) = refl

    third : (at : Place) (n : Option Name) (o : Out (List BlockItem)) → made (placed at) (made (fork_of n) (o >>= λ is. reads d (word join_words) is.1 >>= λ j. made (λ e. (is.0, j.0, e)) (reads d label j.1))) ≡ (o >>= λ is. ended block_word.Fork at n is.0 is.1)
    third at n (Ok is) = fourth at n is.0 (reads d (word join_words) is.1)
    third at n (Err m) = refl

    second : (at : Place) (o : Out (Option Name)) → made (placed at) (o >>= λ n. made (fork_of n.0) (reads d fork_rest n.1)) ≡ (o >>= λ n. reads d block_items n.1 >>= λ is. ended block_word.Fork at n.0 is.0 is.1)
    second at (Ok n) = ap (λ o. made (placed at) (made (fork_of n.0) o)) (triple_is (λ is j e. (is, j, e)) block_items (word join_words) label d n.1) ∙ third at n.0 (reads d block_items n.1)
    second at (Err m) = refl

    go : (o : Out Tok) → (o >>= λ t. made (placed t.0.at) (reads d (pair fork_of label fork_rest) t.1)) ≡ (o >>= λ t. reads 0 label t.1 >>= λ n. reads d block_items n.1 >>= λ is. ended block_word.Fork t.0.at n.0 is.0 is.1)
    go (Ok t) = ap (made (placed t.0.at)) (pair_is fork_of label fork_rest d t.1) ∙ second t.0.at (reads d label t.1)
    go (Err m) = refl
