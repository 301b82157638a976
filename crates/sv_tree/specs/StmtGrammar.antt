-- The grammar of statements (IEEE 1800-2017, A.6).
use Rattle.std.specs.Prelude.{Bool, true, false, List, [], ◌∷◌, Option, Some, None}
use Rattle.sv_value.specs.declared.place.Place.{Place}
use Rattle.sv_grammar.specs.Tokens.{Tok}
use Rattle.sv_grammar.specs.Code.Code.{Done, Seq, Map, Alt, Opt, Rep, Items, Inner}
use Rattle.sv_tree.specs.declared.kind.Kind.{Kind}
use Rattle.sv_tree.specs.declared.kind.Kind.TheVariants as k
use Rattle.sv_tree.specs.declared.word.Name.{Name}
use Rattle.sv_tree.specs.declared.word.BinaryWord.{BinaryWord}
use Rattle.sv_tree.specs.declared.word.BinaryWord.TheVariants as binary_word
use Rattle.sv_tree.specs.declared.word.CaseWord.{CaseWord}
use Rattle.sv_tree.specs.declared.word.CaseWord.TheVariants as case_word
use Rattle.sv_tree.specs.declared.word.JoinWord.{JoinWord}
use Rattle.sv_tree.specs.declared.word.JoinWord.TheVariants as join_word
use Rattle.sv_tree.specs.declared.word.EdgeWord.{EdgeWord}
use Rattle.sv_tree.specs.declared.word.EdgeWord.TheVariants as edge_word
use Rattle.sv_tree.specs.declared.word.StepWord.{StepWord}
use Rattle.sv_tree.specs.declared.word.StepWord.TheVariants as step_word
use Rattle.sv_tree.specs.declared.expr.Root.{Root}
use Rattle.sv_tree.specs.declared.expr.Root.TheVariants as root
use Rattle.sv_tree.specs.Expr as tree
use Rattle.sv_tree.specs.Types as types
use Rattle.sv_tree.specs.Stmt as stmts
use Rattle.sv_tree.specs.Forms.{Named, Unnamed, Placed, C, Words, tok, any_of, word, chosen, ◌▸◌, ◌◂◌, pair, triple, quadruple, then_, optional, otherwise, list, in_parentheses, in_brackets, name_of, name, label, statement, stacked, exprs}
use Rattle.sv_tree.specs.ExprGrammar.{expr, lval, targets, suffixes, scoped, named_root, this_post, super_post, system_call, call, maybe_actuals}
use Rattle.sv_tree.specs.TypeGrammar.{word_type, init, word_decl, named_decl_rest}

-- a form, at a place
abbrev pub placed : Place → stmts.Body → Placed
placed at b = record { at = at; body = b }

-- a form that a word begins, at the word
abbrev pub form : Kind → C stmts.Body → C Placed
form t b = pair (λ t b. placed t.at b) (tok t) b

-- ---- parts

-- "(" expr ")", no deeper than what stands in it
unfoldable pub enclosed : C tree.Expr
enclosed = pair (λ t e. tree.Group t.at e) (tok k.LeftParenthesis) (expr ◂ k.RightParenthesis)

-- number | time | id | "(" expr ")"
unfoldable pub amount : C tree.Expr
amount =
    Alt (Map (λ t. tree.Number t.at t.text) (tok k.Number))
    (Alt (Map (λ t. tree.Time t.at t.text) (tok k.TimeLiteral))
    (Alt (Map (λ n. tree.Expr.Post (root.Plain n) tree.NoSuffix) name) enclosed))

-- delay = "#" (number | time | id | "(" expr ")")
unfoldable pub delay : C stmts.Delay
delay = pair (λ t e. record { at = t.at; amount = e }) (tok k.Hash) amount

-- number | id | "(" expr ")"
unfoldable pub cycles_amount : C tree.Expr
cycles_amount =
    Alt (Map (λ t. tree.Number t.at t.text) (tok k.Number))
    (Alt (Map (λ n. tree.Expr.Post (root.Plain n) tree.NoSuffix) name) enclosed)

-- "posedge" | "negedge"
abbrev pub edge_words : Words EdgeWord
edge_words = (k.Posedge, edge_word.Posedge) ∷ (k.Negedge, edge_word.Negedge) ∷ []

-- ["posedge" | "negedge"]
abbrev pub edge : C EdgeWord
edge = otherwise edge_word.Unwritten (Map (λ t. chosen edge_word.Negedge edge_words t.code) (word edge_words))

-- ev = ["posedge" | "negedge"] expr ["iff" expr]
unfoldable pub event_part : C stmts.EventPart
event_part = triple (λ w e c. record { edge = w; expr = e; condition = c }) edge expr (optional (k.Iff ▸ expr))

-- ("or" | ",") ev
unfoldable pub next_event_part : C stmts.EventPart
next_event_part = Map (λ p. p.1) (Seq (any_of (k.Or ∷ k.Comma ∷ [])) event_part)

-- ev {("or" | ",") ev}
unfoldable pub event_parts : C (List stmts.EventPart)
event_parts = pair (λ p ps. p ∷ ps) event_part (Rep next_event_part)

-- "*" ")" | ev {("or" | ",") ev} ")"
unfoldable pub event_list : C stmts.Event
event_list = Alt (Map (λ t. stmts.Star) (tok k.Star ◂ k.RightParenthesis)) (Map stmts.Parts (event_parts ◂ k.RightParenthesis))

-- event = id | "*" | "(" "*" ")" | "(" ev {("or" | ",") ev} ")"
unfoldable pub event : C stmts.Event
event =
    Alt (Map stmts.Event.Named name)
    (Alt (Map (λ t. stmts.Star) (tok k.Star))
    (k.LeftParenthesis ▸ event_list))

-- aop
abbrev pub assign_words : Words BinaryWord
assign_words =
    (k.PlusEquals, binary_word.Plus) ∷ (k.MinusEquals, binary_word.Minus) ∷ (k.StarEquals, binary_word.Multiply) ∷
    (k.SlashEquals, binary_word.Divide) ∷ (k.PercentEquals, binary_word.Remainder) ∷
    (k.AmpersandEquals, binary_word.And) ∷ (k.BarEquals, binary_word.Or) ∷ (k.CaretEquals, binary_word.Xor) ∷
    (k.ShiftLeftEquals, binary_word.ShiftLeft) ∷ (k.ShiftRightEquals, binary_word.ShiftRight) ∷
    (k.ShiftLeftSignedEquals, binary_word.ShiftLeftSigned) ∷ (k.ShiftRightSignedEquals, binary_word.ShiftRightSigned) ∷
    []

-- the operator of an assignment
abbrev pub assign_word : Tok → BinaryWord
assign_word t = chosen binary_word.ShiftRightSigned assign_words t.code

-- an assignment with an operator, of its parts
abbrev pub operated : tree.Lval → Tok → tree.Expr → stmts.OperatorAssignment
operated l t e = record { target = l; word = assign_word t; value = e }

-- "++" | "--"
abbrev pub step_words : Words StepWord
step_words = (k.PlusPlus, step_word.Increment) ∷ (k.MinusMinus, step_word.Decrement) ∷ []

-- the word of a token
abbrev pub step_word_of : Tok → StepWord
step_word_of t = chosen step_word.Decrement step_words t.code

-- ---- assignments and calls

-- "=" [delay] init ";"
unfoldable pub blocking_rest : C (tree.Lval → stmts.Body)
blocking_rest = pair (λ d i l. stmts.Blocking (record { target = l; delay = d; value = i })) (k.Equals ▸ optional delay) (init ◂ k.Semicolon)

-- "<=" [delay] expr ";"
unfoldable pub nonblocking_rest : C (tree.Lval → stmts.Body)
nonblocking_rest = pair (λ d e l. stmts.Nonblocking (record { target = l; delay = d; value = e })) (k.LessEquals ▸ optional delay) (expr ◂ k.Semicolon)

-- aop expr ";"
unfoldable pub operator_rest : C (tree.Lval → stmts.Body)
operator_rest = pair (λ t e l. stmts.Body.Operator (operated l t e)) (word assign_words) (expr ◂ k.Semicolon)

-- ("++" | "--") ";"
unfoldable pub step_after : C (tree.Lval → stmts.Body)
step_after = Map (λ t l. stmts.Body.Step l (step_word_of t)) (word step_words ◂ k.Semicolon)

-- what follows the target of an assignment
unfoldable pub assign_end : C (tree.Lval → stmts.Body)
assign_end = Alt blocking_rest (Alt nonblocking_rest (Alt operator_rest step_after))

-- what follows a name with its suffixes: an assignment to it, or the end of a call
unfoldable pub post_end : C (Root × tree.Suffixes → stmts.Body)
post_end = Alt (Map (λ f p. f (tree.Lval.Post p.0 p.1)) assign_end) (Map (λ t p. stmts.Call (tree.Expr.Post p.0 p.1)) (tok k.Semicolon))

-- what follows the name that an assignment or a call begins with
unfoldable pub named_rest : C (Name → stmts.Body)
named_rest = triple (λ m s f n. f (named_root n m, s)) scoped suffixes post_end

-- "new" [actuals] ";" | id {..} ..
unfoldable pub super_rest : C (Tok → Placed)
super_rest = Alt (pair (λ w a t. placed t.at (stmts.Call (tree.SuperNew t.at w.at a))) (tok k.New) (maybe_actuals ◂ k.Semicolon)) (triple (λ n s f t. placed t.at (f (root.Super t.at n, s))) name suffixes post_end)

-- "super" "." ("new" [actuals] ";" | id {..} ..)
unfoldable pub super_statement : C Placed
super_statement = then_ (tok k.Super ◂ k.Dot) super_rest

-- ---- blocks

-- an item of a block
pub data BlockItem : Type 0 where
  Declared : stmts.Decl → BlockItem
  Made : stmts.Stmt → BlockItem

-- whether an item is a statement
abbrev pub is_statement : BlockItem → Bool
is_statement (Declared d) = false
is_statement (Made s) = true

-- the declarations among items
abbrev pub decls_of : List BlockItem → List stmts.Decl
decls_of [] = []
decls_of (Declared d ∷ is) = d ∷ decls_of is
decls_of (Made s ∷ is) = decls_of is

-- the statements among items
abbrev pub stmts_of : List BlockItem → stmts.Stmts
stmts_of [] = stmts.NoStmt
stmts_of (Declared d ∷ is) = stmts_of is
stmts_of (Made s ∷ is) = stmts.AndStmt s (stmts_of is)

-- a statement without a label
abbrev pub unlabelled : Placed → stmts.Stmt
unlabelled p = stmts.Statement p.at None p.body

-- what follows the name that an item begins with: a name that a name follows is the type of a declaration
unfoldable pub early_rest : C (Tok → BlockItem)
early_rest = Alt (Map (λ f t. Declared (f (name_of t))) named_decl_rest) (Map (λ f t. Made (f t)) (Inner Named))

-- an item before the first statement
unfoldable pub early : C BlockItem
early = Alt (then_ (tok k.Name) early_rest) (Alt (Map Declared word_decl) (Map (λ p. Made (unlabelled p)) (Inner Unnamed)))

-- {decl} {stmt}
unfoldable pub block_items : C (List BlockItem)
block_items = Items is_statement early (Map Made statement)

-- a block of items
abbrev pub block_of : Option Name → List BlockItem × Option Name → stmts.Body
block_of n p = stmts.Block n (decls_of p.0) (stmts_of p.0) p.1

-- {decl} {stmt} "end" [":" id]
unfoldable pub block_rest : C (List BlockItem × Option Name)
block_rest = Seq block_items (k.End ▸ label)

-- "join" | "join_any" | "join_none"
abbrev pub join_words : Words JoinWord
join_words = (k.Join, join_word.All) ∷ (k.JoinAny, join_word.Any) ∷ (k.JoinNone, join_word.None) ∷ []

-- a fork of items
abbrev pub fork_of : Option Name → List BlockItem × Tok × Option Name → stmts.Body
fork_of n p = stmts.Fork n (decls_of p.0) (stmts_of p.0) (chosen join_word.None join_words p.1.code) p.2

-- {decl} {stmt} ("join" | "join_any" | "join_none") [":" id]
unfoldable pub fork_rest : C (List BlockItem × Tok × Option Name)
fork_rest = triple (λ is j e. (is, j, e)) block_items (word join_words) label

-- "begin" [":" id] {decl} {stmt} "end" [":" id]
unfoldable pub block : C Placed
block = form k.Begin (pair block_of label block_rest)

-- "fork" [":" id] {decl} {stmt} ("join" | "join_any" | "join_none") [":" id]
unfoldable pub fork : C Placed
fork = form k.Fork (pair fork_of label fork_rest)

-- ---- choices and loops

-- an else belongs to the nearest if
unfoldable pub else_ : C (tree.Expr → stmts.Stmt → stmts.Body)
else_ = Opt stmts.If (Map (λ r e s. stmts.IfElse e s r) (k.Else ▸ statement))

-- stmt ["else" stmt]
unfoldable pub if_rest : C (tree.Expr → stmts.Body)
if_rest = pair (λ s f e. f e s) statement else_

-- "if" "(" expr ")" stmt ["else" stmt]
unfoldable pub if_ : C Placed
if_ = form k.If (then_ (in_parentheses expr) if_rest)

-- "case" | "casez" | "casex"
abbrev pub case_words : Words CaseWord
case_words = (k.Case, case_word.Exact) ∷ (k.Casez, case_word.Z) ∷ (k.Casex, case_word.X) ∷ []

-- "default" [":"] stmt
unfoldable pub default_item : C (stmts.CaseItems → stmts.CaseItems)
default_item = Map (λ s rest. stmts.Default s rest) (k.Default ▸ Map (λ p. p.1) (Seq (optional (tok k.Colon)) statement))

-- list(expr) ":" stmt
unfoldable pub labelled_item : C (stmts.CaseItems → stmts.CaseItems)
labelled_item = pair (λ es s rest. stmts.Labels (exprs es) s rest) (list expr ◂ k.Colon) statement

-- list(expr) ":" stmt | "default" [":"] stmt
unfoldable pub case_item : C (stmts.CaseItems → stmts.CaseItems)
case_item = Alt default_item labelled_item

-- {list(expr) ":" stmt | "default" [":"] stmt} "endcase"
unfoldable pub case_rest : C stmts.CaseItems
case_rest = Map (stacked stmts.NoCaseItem) (Rep case_item) ◂ k.Endcase

-- ("case" | "casez" | "casex") "(" expr ")" {..} "endcase"
unfoldable pub case_ : C Placed
case_ = triple (λ t e as_. placed t.at (stmts.Case (chosen case_word.X case_words t.code) e as_)) (word case_words) (in_parentheses expr) case_rest

-- step = lval ("=" | aop) expr | lval ("++" | "--") | ("++" | "--") lval
unfoldable pub for_step_rest : C (tree.Lval → Place → stmts.ForStep)
for_step_rest =
    Alt (Map (λ e l at. stmts.ForStep.Assign l e) (k.Equals ▸ expr))
    (Alt (pair (λ t e l at. stmts.ForStep.Operator (operated l t e)) (word assign_words) expr)
    (Map (λ t l at. stmts.ForStep.Step at l (step_word_of t)) (word step_words)))

-- the place of the first token of a target
abbrev pub place_of_target : tree.Lval → Place
place_of_target (tree.Post r s) = tree.place_of_root r
place_of_target (tree.Join at ls) = at

-- ("++" | "--") lval
unfoldable pub for_step_before : C stmts.ForStep
for_step_before = pair (λ t l. stmts.ForStep.Step t.at l (step_word_of t)) (word step_words) lval

-- step
unfoldable pub for_step : C stmts.ForStep
for_step = Alt (pair (λ l f. f l (place_of_target l)) lval for_step_rest) for_step_before

-- what follows the name that it begins with: id "=" expr, or the rest of a target and "=" expr
unfoldable pub for_init_rest : C (Name → stmts.ForInit)
for_init_rest = Alt (pair (λ n e t. stmts.Declare (types.Named t) n e) name (k.Equals ▸ expr)) (triple (λ m s e n. stmts.ForInit.Assign (tree.Lval.Post (named_root n m) s) e) scoped suffixes (k.Equals ▸ expr))

-- a target that begins with no name
unfoldable pub unnamed_lval : C tree.Lval
unnamed_lval = Alt (Map (λ p. tree.Lval.Post p.0 p.1) this_post) (Alt (Map (λ p. tree.Lval.Post p.0 p.1) super_post) targets)

-- type id "=" expr | lval "=" expr
unfoldable pub for_init : C stmts.ForInit
for_init = Alt (then_ name for_init_rest) (Alt (triple stmts.Declare word_type name (k.Equals ▸ expr)) (pair stmts.ForInit.Assign unnamed_lval (k.Equals ▸ expr)))

-- "for" "(" .. ";" expr ";" step ")" stmt
unfoldable pub for_ : C Placed
for_ = form k.For (quadruple stmts.For (k.LeftParenthesis ▸ for_init ◂ k.Semicolon) (expr ◂ k.Semicolon) (for_step ◂ k.RightParenthesis) statement)

-- "while" "(" expr ")" stmt
unfoldable pub while_ : C Placed
while_ = form k.While (pair stmts.While (in_parentheses expr) statement)

-- stmt "while" "(" expr ")" ";"
unfoldable pub do_rest : C stmts.Body
do_rest = pair stmts.Do statement (k.While ▸ in_parentheses expr ◂ k.Semicolon)

-- "do" stmt "while" "(" expr ")" ";"
unfoldable pub do_ : C Placed
do_ = form k.Do do_rest

-- "repeat" "(" expr ")" stmt
unfoldable pub repeat : C Placed
repeat = form k.Repeat (pair stmts.Repeat (in_parentheses expr) statement)

-- "forever" stmt
unfoldable pub forever : C Placed
forever = form k.Forever (Map stmts.Forever statement)

-- "foreach" "(" id "[" id "]" ")" stmt
unfoldable pub foreach : C Placed
foreach = form k.Foreach (triple stmts.Foreach (k.LeftParenthesis ▸ name) (in_brackets name ◂ k.RightParenthesis) statement)

-- delay stmt
unfoldable pub after : C Placed
after = pair (λ d s. placed d.at (stmts.After d s)) delay statement

-- "@" event stmt
unfoldable pub on_event : C Placed
on_event = form k.At (pair stmts.On event statement)

-- "##" (number | id | "(" expr ")") stmt
unfoldable pub cycles : C Placed
cycles = triple (λ t e s. placed t.at (stmts.Cycles t.at e s)) (tok k.HashHash) cycles_amount statement

-- "(" expr ")" stmt | "fork" ";"
unfoldable pub wait_rest : C (Tok → Placed)
wait_rest = Alt (pair (λ e s t. placed t.at (stmts.Wait t.at e s)) (in_parentheses expr) statement) (Map (λ u t. placed t.at stmts.WaitFork) (k.Fork ▸ tok k.Semicolon))

-- "wait" "(" expr ")" stmt | "wait" "fork" ";"
unfoldable pub wait : C Placed
wait = then_ (tok k.Wait) wait_rest

-- "void" "'" "(" call ")" ";"
unfoldable pub ignore : C Placed
ignore = pair (λ t e. placed t.at (stmts.Ignore t.at e)) (tok k.Void ◂ k.Apostrophe) (in_parentheses call ◂ k.Semicolon)

-- "return" [expr] ";"
unfoldable pub return_ : C Placed
return_ = form k.Return (Map stmts.Return (optional expr ◂ k.Semicolon))

-- ";"
unfoldable pub null_statement : C Placed
null_statement = form k.Semicolon (Done stmts.Null)

-- ("++" | "--") lval ";"
unfoldable pub step_statement : C Placed
step_statement = pair (λ t l. placed t.at (stmts.Body.Step l (step_word_of t))) (word step_words) (lval ◂ k.Semicolon)

-- sysname ["(" [list(expr)] ")"] ";"
unfoldable pub system_statement : C Placed
system_statement = Map (λ e. placed (tree.place_of e) (stmts.Call e)) (system_call ◂ k.Semicolon)

-- "this" {..}, and an assignment to it or the end of a call
unfoldable pub this_statement : C Placed
this_statement = pair (λ p f. placed (tree.place_of_root p.0) (f p)) this_post post_end

-- an assignment to targets in braces
unfoldable pub targets_statement : C Placed
targets_statement = pair (λ l f. placed (place_of_target l) (f l)) targets assign_end

-- "disable" "fork" ";"
unfoldable pub disable : C Placed
disable = form k.Disable (Map (λ t. stmts.DisableFork) (k.Fork ▸ tok k.Semicolon))

-- "->" lval ";"
unfoldable pub trigger : C Placed
trigger = form k.Arrow (Map stmts.Trigger (lval ◂ k.Semicolon))

-- "break" ";"
unfoldable pub break_ : C Placed
break_ = form k.Break (Map (λ t. stmts.Break) (tok k.Semicolon))

-- "continue" ";"
unfoldable pub continue_ : C Placed
continue_ = form k.Continue (Map (λ t. stmts.Continue) (tok k.Semicolon))

-- ---- statements

-- a form that begins with no name
unfoldable pub unnamed : C Placed
unnamed =
    Alt null_statement
    (Alt block
    (Alt fork
    (Alt step_statement
    (Alt system_statement
    (Alt super_statement
    (Alt this_statement
    (Alt targets_statement
    (Alt ignore
    (Alt if_
    (Alt case_
    (Alt for_
    (Alt while_
    (Alt do_
    (Alt repeat
    (Alt forever
    (Alt foreach
    (Alt after
    (Alt on_event
    (Alt cycles
    (Alt wait
    (Alt disable
    (Alt trigger
    (Alt break_
    (Alt continue_
    return_))))))))))))))))))))))))

-- a form that begins with a name
abbrev pub named_body : C Placed
named_body = pair (λ t f. placed t.at (f (name_of t))) (tok k.Name) named_rest

-- body
unfoldable pub body : C Placed
body = Alt named_body unnamed

-- the name that a statement begins with is a label, a target or a call
unfoldable pub named_statement : C (Tok → stmts.Stmt)
named_statement = Alt (Map (λ p t. stmts.Statement p.at (Some (name_of t)) p.body) (k.Colon ▸ body)) (Map (λ f t. stmts.Statement t.at None (f (name_of t))) named_rest)

-- stmt = [id ":"] body
unfoldable pub stmt : C stmts.Stmt
stmt = Alt (then_ (tok k.Name) named_statement) (Map unlabelled unnamed)
