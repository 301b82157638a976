-- Instances, and what else begins with a name in a module: how their parts begin and go on.
use Rattle.std.proofs.Common.{◌≡◌, ℕ, true, false, List, [], ◌∷◌, Some, None, Ok, Err, refl, ap, ◌∙◌}
use Rattle.sv_grammar.specs.Tokens.{Tok, next, mem}
use Rattle.sv_grammar.specs.Language.{Out}
use Rattle.sv_grammar.specs.Reading.{◌>>=◌}
use Rattle.sv_grammar.specs.Code.Code.{Map}
use Rattle.sv_tree.specs.declared.kind.Kind.TheVariants as k
use Rattle.sv_tree.specs.declared.word.Name.{Name}
use Rattle.sv_tree.specs.declared.word.Life.TheVariants as life_word
use Rattle.sv_tree.specs.Codes.{code}
use Rattle.sv_tree.specs.Types as types
use Rattle.sv_tree.specs.Stmt as stmts
use Rattle.sv_tree.specs.Units as units
use Rattle.sv_tree.specs.Items as items
use Rattle.sv_tree.specs.Forms.{◌◂◌, pair, comma, commas, name, optional, tok}
use Rattle.sv_tree.specs.ExprGrammar.{expr}
use Rattle.sv_tree.specs.TypeGrammar.{decl_of, more_declarators}
use Rattle.sv_tree.specs.UnitGrammar.{given, dotted, connection, connections, instance, instance_of, instances_of, instances_rest, decl_rest, second_named, valued_instances, named_item_rest, named_item}
use Rattle.sv_tree.specs.Grammar.{reads}
use Rattle.sv_tree.proofs.KnownExprs as known_exprs
use Rattle.sv_tree.proofs.KnownItems as known
use Rattle.sv_parse.specs.Parts.{from}
use Rattle.sv_parse_type.specs.Applied.{applied}
use Rattle.sv_parse_unit.proofs.AppliedLaws.{pair_is, ended_is, then_is}
use Rattle.sv_parse_unit.proofs.ElementLaws.{behind}

-- ---- connections

pub given_written : (d : ℕ) (ts : List Tok) → mem (next ts).code (code k.LeftParenthesis ∷ []) ≡ true → reads d (optional given) ts ≡ reads d (Map Some given) ts
given_written d ts h = rw (known.given_known.info_is, h, known.given_known.low_is) refl

pub given_unwritten : (d : ℕ) (ts : List Tok) → mem (next ts).code (code k.LeftParenthesis ∷ []) ≡ false → reads d (optional given) ts ≡ Ok (None, ts)
given_unwritten d ts h = rw (known.given_known.info_is, h) refl

pub connection_dotted : (d : ℕ) (ts : List Tok) → mem (next ts).code (code k.Dot ∷ []) ≡ true → reads d connection ts ≡ reads d dotted ts
unfolding connection
connection_dotted d ts h = rw (known.dotted_known.info_is, h, known.dotted_known.low_is) refl

pub connection_all : (d : ℕ) (ts : List Tok) → mem (next ts).code (code k.Dot ∷ []) ≡ false → mem (next ts).code (code k.DotStar ∷ []) ≡ true → reads d connection ts ≡ reads d (Map (λ t. units.All t.at) (tok k.DotStar)) ts
unfolding connection
connection_all d ts h g = rw (known.dotted_known.info_is, h, g) refl

pub connection_value : (d : ℕ) (ts : List Tok) → mem (next ts).code (code k.Dot ∷ []) ≡ false → mem (next ts).code (code k.DotStar ∷ []) ≡ false → reads d connection ts ≡ reads d (Map units.Connection.Value expr) ts
unfolding connection
connection_value d ts h g = rw (known.dotted_known.info_is, h, g, known_exprs.expr_known.low_is) refl

-- ---- instances

-- instances behind a first one
abbrev of_instances : List units.Connection → List units.Instance → Name → Name → items.Item
of_instances cs is of first = instances_of of [] (instance_of first cs ∷ is)

pub instances_rest_is : (d : ℕ) (of first : Name) (ts : List Tok) → applied first (applied of (reads d instances_rest ts)) ≡ (reads d connections ts >>= λ cs. from (comma instance) d (instance_of first cs.0 ∷ []) cs.1 >>= λ is. reads d (tok k.Semicolon) is.1 >>= λ t. Ok (instances_of of [] is.0, t.1))
unfolding instances_rest
instances_rest_is d of first ts = ap (λ (o : Out (Name → Name → items.Item)). applied first (applied of o)) (pair_is of_instances connections (commas instance ◂ k.Semicolon) d ts) ∙ go (reads d connections ts)
  where
    last : (cs : List units.Connection) (is : List units.Instance) (o : Out Tok) → applied first (applied of (o >>= λ t. Ok (of_instances cs is, t.1))) ≡ (o >>= λ t. Ok (instances_of of [] (instance_of first cs ∷ is), t.1))
    last cs is (Ok t) = refl
    last cs is (Err m) = refl

    more : (cs : List units.Connection) (o : Out (List units.Instance)) → applied first (applied of (o >>= λ is. reads d (tok k.Semicolon) is.1 >>= λ t. Ok (of_instances cs is.0, t.1))) ≡ ((o >>= λ is. Ok (instance_of first cs ∷ is.0, is.1)) >>= λ is. reads d (tok k.Semicolon) is.1 >>= λ t. Ok (instances_of of [] is.0, t.1))
    more cs (Ok is) = last cs is.0 (reads d (tok k.Semicolon) is.1)
    more cs (Err m) = refl

    same : (o : Out (List units.Instance)) → (o >>= λ y. Ok (y.0, y.1)) ≡ o
    same (Ok y) = refl
    same (Err m) = refl

    go : (o : Out (List units.Connection)) → applied first (applied of (o >>= λ cs. reads d (commas instance ◂ k.Semicolon) cs.1 >>= λ is. Ok (of_instances cs.0 is.0, is.1))) ≡ (o >>= λ cs. from (comma instance) d (instance_of first cs.0 ∷ []) cs.1 >>= λ is. reads d (tok k.Semicolon) is.1 >>= λ t. Ok (instances_of of [] is.0, t.1))
    go (Ok cs) =
        ap (λ (o : Out (Name → Name → items.Item)). applied first (applied of o)) (ended_is (of_instances cs.0) (commas instance) k.Semicolon d cs.1)
        ∙ (more cs.0 (reads d (commas instance) cs.1)
        ∙ ap (λ (o : Out (List units.Instance)). o >>= λ is. reads d (tok k.Semicolon) is.1 >>= λ t. Ok (instances_of of [] is.0, t.1)) (behind (λ is. is) instance d (instance_of first cs.0) cs.1 ∙ same (from (comma instance) d (instance_of first cs.0 ∷ []) cs.1)))
    go (Err m) = refl

-- ---- items that begin with a name

-- a declaration of names of a type that is a name
abbrev of_names : (Name → List stmts.Declarator) → Name → Name → items.Item
of_names f of first = items.Decl (decl_of life_word.Unwritten (types.Named of) (f first))

pub decl_rest_is : (d : ℕ) (of first : Name) (ts : List Tok) → applied first (applied of (reads d decl_rest ts)) ≡ (applied first (reads d more_declarators ts) >>= λ ds. reads d (tok k.Semicolon) ds.1 >>= λ t. Ok (items.Decl (decl_of life_word.Unwritten (types.Named of) ds.0), t.1))
unfolding decl_rest
decl_rest_is d of first ts = ap (λ (o : Out (Name → Name → items.Item)). applied first (applied of o)) (ended_is of_names more_declarators k.Semicolon d ts) ∙ go (reads d more_declarators ts)
  where
    more : (f : Name → List stmts.Declarator) (o : Out Tok) → applied first (applied of (o >>= λ y. Ok (of_names f, y.1))) ≡ (o >>= λ y. Ok (of_names f of first, y.1))
    more f (Ok t) = refl
    more f (Err m) = refl

    go : (o : Out (Name → List stmts.Declarator)) → applied first (applied of (o >>= λ x. reads d (tok k.Semicolon) x.1 >>= λ y. Ok (of_names x.0, y.1))) ≡ (applied first o >>= λ ds. reads d (tok k.Semicolon) ds.1 >>= λ t. Ok (items.Decl (decl_of life_word.Unwritten (types.Named of) ds.0), t.1))
    go (Ok x) = more x.0 (reads d (tok k.Semicolon) x.1)
    go (Err m) = refl

pub second_instance : (d : ℕ) (ts : List Tok) → mem (next ts).code (code k.LeftParenthesis ∷ []) ≡ true → reads d second_named ts ≡ reads d instances_rest ts
unfolding second_named
second_instance d ts h = rw (known.instances_rest_known.info_is, h, known.instances_rest_known.low_is) refl

pub second_decl : (d : ℕ) (ts : List Tok) → mem (next ts).code (code k.LeftParenthesis ∷ []) ≡ false → reads d second_named ts ≡ reads d decl_rest ts
unfolding second_named
second_decl d ts h = rw (known.instances_rest_known.info_is, h, known.decl_rest_known.low_is) refl

pub rest_valued : (d : ℕ) (ts : List Tok) → mem (next ts).code (code k.Hash ∷ []) ≡ true → reads d named_item_rest ts ≡ reads d valued_instances ts
unfolding named_item_rest
rest_valued d ts h = rw (known.valued_instances_known.info_is, h, known.valued_instances_known.low_is) refl

rest_pair : (d : ℕ) (ts : List Tok) → mem (next ts).code (code k.Hash ∷ []) ≡ false → reads d named_item_rest ts ≡ reads d (pair (λ n (f : Name → Name → items.Item) u. f u n) name second_named) ts
unfolding named_item_rest
rest_pair d ts h = rw (known.valued_instances_known.info_is, h, known.second_named_known.low_is) refl

pub rest_named : (d : ℕ) (of : Name) (ts : List Tok) → mem (next ts).code (code k.Hash ∷ []) ≡ false → applied of (reads d named_item_rest ts) ≡ (reads d name ts >>= λ n. applied n.0 (applied of (reads d second_named n.1)))
rest_named d of ts h = ap (applied of) (rest_pair d ts h ∙ pair_is {R = Name → items.Item} (λ n (f : Name → Name → items.Item) u. f u n) name second_named d ts) ∙ go (reads d name ts)
  where
    more : (n : Name) (o : Out (Name → Name → items.Item)) → applied of (o >>= λ f. Ok ((λ u. f.0 u n), f.1)) ≡ applied n (applied of o)
    more n (Ok f) = refl
    more n (Err m) = refl

    go : (o : Out Name) → applied of (o >>= λ n. reads d second_named n.1 >>= λ f. Ok ((λ u. f.0 u n.0), f.1)) ≡ (o >>= λ n. applied n.0 (applied of (reads d second_named n.1)))
    go (Ok n) = more n.0 (reads d second_named n.1)
    go (Err m) = refl

pub named_item_is : (d : ℕ) (ts : List Tok) → reads d named_item ts ≡ (reads d name ts >>= λ n. applied n.0 (reads d named_item_rest n.1))
unfolding named_item
named_item_is d ts = then_is name named_item_rest d ts
