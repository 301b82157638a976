-- Modules, programs and what else stands in a file: what each part begins with.
use Rattle.std.proofs.Common.{◌≡◌, ℕ, Bool, true, false, List, [], ◌∷◌, ◌++◌, Some, None, Ok, Err, refl, ap, ◌∙◌}
use Rattle.sv_grammar.specs.Tokens.{Tok, next, mem}
use Rattle.sv_grammar.specs.Language.{Out}
use Rattle.sv_grammar.specs.Reading.{◌>>=◌}
use Rattle.sv_grammar.specs.Code.{list_from}
use Rattle.sv_grammar.specs.Code.Code.{Map}
use Rattle.sv_tree.specs.declared.kind.Kind.{Kind}
use Rattle.sv_tree.specs.declared.kind.Kind.TheVariants as k
use Rattle.sv_tree.specs.declared.word.ParamWord.TheVariants as param_word
use Rattle.sv_tree.specs.declared.word.Name.{Name}
use Rattle.sv_tree.specs.Codes.{code}
use Rattle.sv_tree.specs.Expr as tree
use Rattle.sv_tree.specs.Types as types
use Rattle.sv_tree.specs.Units as units
use Rattle.sv_tree.specs.Descriptions as descriptions
use Rattle.sv_tree.specs.Items as items
use Rattle.sv_tree.specs.Forms.{C, ◌▸◌, comma, commas, pair, then_, optional, otherwise, tok, word, chosen, kinds_of}
use Rattle.sv_tree.specs.ExprGrammar.{expr}
use Rattle.sv_tree.specs.TypeGrammar.{typed_name}
use Rattle.sv_tree.specs.UnitGrammar.{is_some, param_words, param_of, param_item_of, param_item, param, element_params, port_directions, directed_port, plain_port, next_port, ports, named_items, module_item, program_item, module_element, program_element, description}
use Rattle.sv_tree.specs.Grammar.{reads}
use Rattle.sv_tree.proofs.KnownItems as known
use Rattle.sv_parse.specs.Parts.{from, if_next}
use Rattle.sv_parse_type.specs.Applied.{applied}
use Rattle.sv_parse_unit.specs.Elements.{element_rest}
use Rattle.sv_parse_unit.specs.First.{named_items_first}
use Rattle.sv_parse_unit.proofs.AppliedLaws.{pair_is, quadruple_is, then_is}

-- ---- lists behind a first part

-- what is made of others behind a first one
pub behind : {A R : Type 0} (h : List A → R) (c : C A) (d : ℕ) (x : A) (ts : List Tok) → (reads d (commas c) ts >>= λ y. Ok (h (x ∷ y.0), y.1)) ≡ (from (comma c) d (x ∷ []) ts >>= λ y. Ok (h y.0, y.1))
unfolding list_from
behind {A = A} {R = R} h c d x ts = go (reads d (commas c) ts)
  where
    go : (o : Out (List A)) → (◌>>=◌ {B = R} o (λ y. Ok (h (x ∷ y.0), y.1))) ≡ (◌>>=◌ {B = R} (◌>>=◌ {B = List A} o (λ xs. Ok ((x ∷ []) ++ xs.0, xs.1))) (λ y. Ok (h y.0, y.1)))
    go (Ok y) = refl
    go (Err m) = refl

-- ---- parameters

pub param_is : (d : ℕ) (ts : List Tok) → reads d param ts ≡ (reads d (word param_words) ts >>= λ t. reads d typed_name t.1 >>= λ p. reads d (k.Equals ▸ expr) p.1 >>= λ e. from (comma param_item) d (param_item_of p.0.1 e.0 ∷ []) e.1 >>= λ ps. Ok (param_of (chosen param_word.Localparam param_words t.0.code) p.0.0 ps.0, ps.1))
unfolding param
param_is d ts = quadruple_is (λ t p e ps. param_of (chosen param_word.Localparam param_words t.code) p.0 (param_item_of p.1 e ∷ ps)) (word param_words) typed_name (k.Equals ▸ expr) (commas param_item) d ts ∙ go (reads d (word param_words) ts)
  where
    third : (t : Tok) (p : types.ImpliedType × Name) (o : Out tree.Expr) → (o >>= λ e. reads d (commas param_item) e.1 >>= λ ps. Ok (param_of (chosen param_word.Localparam param_words t.code) p.0 (param_item_of p.1 e.0 ∷ ps.0), ps.1)) ≡ (o >>= λ e. from (comma param_item) d (param_item_of p.1 e.0 ∷ []) e.1 >>= λ ps. Ok (param_of (chosen param_word.Localparam param_words t.code) p.0 ps.0, ps.1))
    third t p (Ok e) = behind (λ ps. param_of (chosen param_word.Localparam param_words t.code) p.0 ps) param_item d (param_item_of p.1 e.0) e.1
    third t p (Err m) = refl

    second : (t : Tok) (o : Out (types.ImpliedType × Name)) → (o >>= λ p. reads d (k.Equals ▸ expr) p.1 >>= λ e. reads d (commas param_item) e.1 >>= λ ps. Ok (param_of (chosen param_word.Localparam param_words t.code) p.0.0 (param_item_of p.0.1 e.0 ∷ ps.0), ps.1)) ≡ (o >>= λ p. reads d (k.Equals ▸ expr) p.1 >>= λ e. from (comma param_item) d (param_item_of p.0.1 e.0 ∷ []) e.1 >>= λ ps. Ok (param_of (chosen param_word.Localparam param_words t.code) p.0.0 ps.0, ps.1))
    second t (Ok p) = third t p.0 (reads d (k.Equals ▸ expr) p.1)
    second t (Err m) = refl

    go : (o : Out Tok) → (o >>= λ t. reads d typed_name t.1 >>= λ p. reads d (k.Equals ▸ expr) p.1 >>= λ e. reads d (commas param_item) e.1 >>= λ ps. Ok (param_of (chosen param_word.Localparam param_words t.0.code) p.0.0 (param_item_of p.0.1 e.0 ∷ ps.0), ps.1)) ≡ (o >>= λ t. reads d typed_name t.1 >>= λ p. reads d (k.Equals ▸ expr) p.1 >>= λ e. from (comma param_item) d (param_item_of p.0.1 e.0 ∷ []) e.1 >>= λ ps. Ok (param_of (chosen param_word.Localparam param_words t.0.code) p.0.0 ps.0, ps.1))
    go (Ok t) = second t.0 (reads d typed_name t.1)
    go (Err m) = refl

pub params_some : (d : ℕ) (ts : List Tok) → mem (next ts).code (code k.Hash ∷ []) ≡ true → reads d (optional element_params) ts ≡ reads d (Map Some element_params) ts
params_some d ts h = rw (known.element_params_known.info_is, h, known.element_params_known.low_is) refl

pub params_none : (d : ℕ) (ts : List Tok) → mem (next ts).code (code k.Hash ∷ []) ≡ false → reads d (optional element_params) ts ≡ Ok (None, ts)
params_none d ts h = rw (known.element_params_known.info_is, h) refl

-- ---- ports

-- a token is written where it is next
pub written : (b : Bool) (ts : List Tok) → is_some (if_next b ts) ≡ b
written true ts = refl
written false ts = refl

pub next_directed : (d : ℕ) (ts : List Tok) → mem (next ts).code (kinds_of port_directions) ≡ true → reads d next_port ts ≡ reads d directed_port ts
unfolding next_port
next_directed d ts h = rw (known.directed_port_known.info_is, h, known.directed_port_known.low_is) refl

pub next_plain : (d : ℕ) (ts : List Tok) → mem (next ts).code (kinds_of port_directions) ≡ false → reads d next_port ts ≡ reads d plain_port ts
unfolding next_port plain_port
next_plain d ts h = rw (known.directed_port_known.info_is, h) refl

pub ports_some : (d : ℕ) (ts : List Tok) → mem (next ts).code (code k.LeftParenthesis ∷ []) ≡ true → reads d (otherwise [] ports) ts ≡ reads d ports ts
ports_some d ts h = rw (known.ports_known.info_is, h, known.ports_known.low_is) refl

pub ports_none : (d : ℕ) (ts : List Tok) → mem (next ts).code (code k.LeftParenthesis ∷ []) ≡ false → reads d (otherwise [] ports) ts ≡ Ok ([], ts)
ports_none d ts h = rw (known.ports_known.info_is, h) refl

-- ports behind a first one
abbrev port_list : C (List units.Port)
port_list = pair (λ p ps. p ∷ ps) directed_port (commas next_port)

port_list_is : (d : ℕ) (ts : List Tok) → reads d port_list ts ≡ (reads d directed_port ts >>= λ p. from (comma next_port) d (p.0 ∷ []) p.1)
port_list_is d ts = pair_is (λ p ps. p ∷ ps) directed_port (commas next_port) d ts ∙ go (reads d directed_port ts)
  where
    same : (o : Out (List units.Port)) → (o >>= λ y. Ok (y.0, y.1)) ≡ o
    same (Ok y) = refl
    same (Err m) = refl

    go : (o : Out units.Port) → (o >>= λ x. reads d (commas next_port) x.1 >>= λ y. Ok (x.0 ∷ y.0, y.1)) ≡ (o >>= λ p. from (comma next_port) d (p.0 ∷ []) p.1)
    go (Ok x) = behind (λ ps. ps) next_port d x.0 x.1 ∙ same (from (comma next_port) d (x.0 ∷ []) x.1)
    go (Err m) = refl

pub list_some : (d : ℕ) (ts : List Tok) → mem (next ts).code (kinds_of port_directions) ≡ true → reads d (otherwise [] port_list) ts ≡ (reads d directed_port ts >>= λ p. from (comma next_port) d (p.0 ∷ []) p.1)
list_some d ts h = some ∙ port_list_is d ts
  where
    some : reads d (otherwise [] port_list) ts ≡ reads d port_list ts
    some = rw (known.directed_port_known.info_is, h, known.directed_port_known.low_is) refl

pub list_none : (d : ℕ) (ts : List Tok) → mem (next ts).code (kinds_of port_directions) ≡ false → reads d (otherwise [] port_list) ts ≡ Ok ([], ts)
list_none d ts h = rw (known.directed_port_known.info_is, h) refl

-- ---- descriptions

-- what is made of a design element, by its word and by what follows that
element_is : {R : Type 0} (h : items.DesignElement → R) (first : Kind) (rest : C (Tok → items.DesignElement)) (d : ℕ) (ts : List Tok) → reads d (Map h (then_ (tok first) rest)) ts ≡ (reads d (tok first) ts >>= λ t. applied t.0 (reads d rest t.1) >>= λ e. Ok (h e.0, e.1))
element_is {R = R} h first rest d ts = ap (λ (o : Out items.DesignElement). ◌>>=◌ {B = R} o (λ e. Ok (h e.0, e.1))) (then_is (tok first) rest d ts) ∙ go (reads d (tok first) ts)
  where
    go : (o : Out Tok) → (◌>>=◌ {B = R} (o >>= λ t. applied t.0 (reads d rest t.1)) (λ e. Ok (h e.0, e.1))) ≡ (o >>= λ t. applied t.0 (reads d rest t.1) >>= λ e. Ok (h e.0, e.1))
    go (Ok t) = refl
    go (Err m) = refl

first_module : (d : ℕ) (ts : List Tok) → mem (next ts).code (code k.Module ∷ []) ≡ true → reads d description ts ≡ reads d (Map descriptions.Module module_element) ts
unfolding description
first_module d ts h = rw (known.module_element_known.info_is, h, known.module_element_known.low_is) refl

first_program : (d : ℕ) (ts : List Tok) → mem (next ts).code (code k.Module ∷ []) ≡ false → mem (next ts).code (code k.Program ∷ []) ≡ true → reads d description ts ≡ reads d (Map descriptions.Program program_element) ts
unfolding description
first_program d ts h g = rw (known.module_element_known.info_is, h, known.program_element_known.info_is, known.program_element_known.low_is, g) refl

pub a_module : (d : ℕ) (ts : List Tok) → mem (next ts).code (code k.Module ∷ []) ≡ true → reads d description ts ≡ (reads d (tok k.Module) ts >>= λ t. applied t.0 (reads d (element_rest module_item k.Endmodule) t.1) >>= λ e. Ok (descriptions.Module e.0, e.1))
unfolding module_element
a_module d ts h = first_module d ts h ∙ element_is descriptions.Module k.Module (element_rest module_item k.Endmodule) d ts

pub a_program : (d : ℕ) (ts : List Tok) → mem (next ts).code (code k.Module ∷ []) ≡ false → mem (next ts).code (code k.Program ∷ []) ≡ true → reads d description ts ≡ (reads d (tok k.Program) ts >>= λ t. applied t.0 (reads d (element_rest program_item k.Endprogram) t.1) >>= λ e. Ok (descriptions.Program e.0, e.1))
unfolding program_element
a_program d ts h g = first_program d ts h g ∙ element_is descriptions.Program k.Program (element_rest program_item k.Endprogram) d ts

pub an_item : (d : ℕ) (ts : List Tok) → mem (next ts).code (code k.Module ∷ []) ≡ false → mem (next ts).code (code k.Program ∷ []) ≡ false → mem (next ts).code named_items_first ≡ true → reads d description ts ≡ reads d (Map descriptions.Item named_items) ts
unfolding description
an_item d ts h g i = rw (known.module_element_known.info_is, h, known.program_element_known.info_is, known.program_element_known.low_is, g, known.named_items_known.info_is, known.named_items_known.low_is, i) refl

pub nothing : (d : ℕ) (ts : List Tok) → mem (next ts).code (code k.Module ∷ []) ≡ false → mem (next ts).code (code k.Program ∷ []) ≡ false → mem (next ts).code named_items_first ≡ false → reads d description ts ≡ reads d (Map (λ t. descriptions.Item items.Null) (tok k.Semicolon)) ts
unfolding description
nothing d ts h g i = rw (known.module_element_known.info_is, h, known.program_element_known.info_is, known.program_element_known.low_is, g, known.named_items_known.info_is, known.named_items_known.low_is, i) refl
