-- The grammar of files: descriptions and their items (IEEE 1800-2017, A.1 to A.2 and A.6.11).
use Rattle.std.specs.Prelude.{Bool, true, false, ◌==◌, List, [], ◌∷◌, Option, Some, None, codes}
use Rattle.std.specs.List.{list_any}
use Rattle.sv_value.specs.declared.place.Place.{Place}
use Rattle.sv_grammar.specs.Tokens.{Tok}
use Rattle.sv_grammar.specs.Code.Code.{Seq, Map, Alt, Rep}
use Rattle.sv_tree.specs.declared.kind.Kind.{Kind}
use Rattle.sv_tree.specs.declared.kind.Kind.TheVariants as k
use Rattle.sv_tree.specs.declared.word.Name.{Name}
use Rattle.sv_tree.specs.declared.word.Life.{Life}
use Rattle.sv_tree.specs.declared.word.Life.TheVariants as life_word
use Rattle.sv_tree.specs.declared.word.Direction.{Direction}
use Rattle.sv_tree.specs.declared.word.Direction.TheVariants as direction
use Rattle.sv_tree.specs.declared.word.ParamWord.{ParamWord}
use Rattle.sv_tree.specs.declared.word.ParamWord.TheVariants as param_word
use Rattle.sv_tree.specs.declared.word.PortDirection.{PortDirection}
use Rattle.sv_tree.specs.declared.word.PortDirection.TheVariants as port_direction
use Rattle.sv_tree.specs.declared.word.ProcedureWord.{ProcedureWord}
use Rattle.sv_tree.specs.declared.word.ProcedureWord.TheVariants as procedure_word
use Rattle.sv_tree.specs.declared.class.Qualifiers.{Qualifiers}
use Rattle.sv_tree.specs.Codes.{code}
use Rattle.sv_tree.specs.Expr as tree
use Rattle.sv_tree.specs.Types as types
use Rattle.sv_tree.specs.Stmt as stmts
use Rattle.sv_tree.specs.Units as units
use Rattle.sv_tree.specs.Classes as classes
use Rattle.sv_tree.specs.Items as items
use Rattle.sv_tree.specs.Descriptions as descriptions
use Rattle.sv_tree.specs.Forms.{C, Words, tok, any_of, word, chosen, ◌▸◌, ◌◂◌, pair, triple, quadruple, then_, optional, otherwise, commas, list, list_or_none, in_parentheses, name, label, statement}
use Rattle.sv_tree.specs.ExprGrammar.{expr, lval}
use Rattle.sv_tree.specs.TypeGrammar.{range, sign, type, typed_name, declarators, more_declarators, decl_of, life, word_decl, named_decl_rest}
use Rattle.sv_tree.specs.StmtGrammar.{amount, edge, block_items, decls_of, stmts_of}

-- [life]
abbrev pub maybe_life : C Life
maybe_life = otherwise life_word.Unwritten life

-- ---- parameters and ports

-- parameters of one type
abbrev pub param_of : ParamWord → types.ImpliedType → List units.ParamItem → units.Param
param_of w t ns = record { word = w; of = t; names = ns }

-- a parameter and its value
abbrev pub param_item_of : Name → tree.Expr → units.ParamItem
param_item_of n e = record { name = n; value = e }

-- id "=" expr
unfoldable pub param_item : C units.ParamItem
param_item = pair param_item_of name (k.Equals ▸ expr)

-- "parameter" | "localparam"
abbrev pub param_words : Words ParamWord
param_words = (k.Parameter, param_word.Parameter) ∷ (k.Localparam, param_word.Localparam) ∷ []

-- param = ("parameter" | "localparam") [itype] list(id "=" expr)
unfoldable pub param : C units.Param
param = quadruple (λ t p e ps. param_of (chosen param_word.Localparam param_words t.code) p.0 (param_item_of p.1 e ∷ ps)) (word param_words) typed_name (k.Equals ▸ expr) (commas param_item)

-- ["parameter"] [itype] id "=" expr
unfoldable pub element_param : C units.Param
element_param = triple (λ o p e. param_of param_word.Parameter p.0 (param_item_of p.1 e ∷ [])) (optional (tok k.Parameter)) typed_name (k.Equals ▸ expr)

-- pports = "#" "(" list(["parameter"] [itype] id "=" expr) ")"
unfoldable pub element_params : C (List units.Param)
element_params = k.Hash ▸ in_parentheses (list element_param)

-- "input" | "output"
abbrev pub port_directions : Words PortDirection
port_directions = (k.Input, port_direction.Input) ∷ (k.Output, port_direction.Output) ∷ []

-- "wire" | "tri"
abbrev pub net_words : List Kind
net_words = k.Wire ∷ k.Tri ∷ []

-- whether something is written
abbrev pub is_some : {A : Type 0} → Option A → Bool
is_some None = false
is_some (Some x) = true

-- ("input" | "output") ["wire" | "tri"] [itype] id
unfoldable pub directed_port : C units.Port
directed_port = triple (λ t w p. record { direction = Some (chosen port_direction.Output port_directions t.code); is_net = is_some w; of = p.0; name = p.1 }) (word port_directions) (optional (any_of net_words)) typed_name

-- id
unfoldable pub plain_port : C units.Port
plain_port = Map (λ n. record { direction = None; is_net = false; of = types.Unwritten; name = n }) name

-- a port behind the first
unfoldable pub next_port : C units.Port
next_port = Alt directed_port plain_port

-- ports = "(" [list(port)] ")", where the first port has a direction
unfoldable pub ports : C (List units.Port)
ports = in_parentheses (otherwise [] (pair (λ p ps. p ∷ ps) directed_port (commas next_port)))

-- ---- types and subroutines

-- a name for a type, of its parts
abbrev pub typedef_of : types.WrittenType → Name → units.Typedef
typedef_of t n = record { of = t; name = n }

-- "class" id | type id
unfoldable pub typedef_rest : {R : Type 0} → (units.Typedef → R) → (Name → R) → C R
typedef_rest new announce = Alt (Map announce (k.Class ▸ name)) (pair (λ t n. new (typedef_of t n)) type name)

-- typedef = "typedef" (type id | "class" id) ";"
unfoldable pub typedef : {R : Type 0} → (units.Typedef → R) → (Name → R) → C R
typedef new announce = k.Typedef ▸ typedef_rest new announce ◂ k.Semicolon

-- "input" | "output" | "inout"
abbrev pub argument_directions : Words Direction
argument_directions = (k.Input, direction.Input) ∷ (k.Output, direction.Output) ∷ (k.Inout, direction.Inout) ∷ []

-- [dir] [itype] id ["=" expr]
unfoldable pub argument : C units.Argument
argument = triple (λ d p e. record { direction = d; of = p.0; name = p.1; default = e }) (optional (Map (λ t. chosen direction.Inout argument_directions t.code) (word argument_directions))) typed_name (optional (k.Equals ▸ expr))

-- args = "(" [list([dir] [itype] id ["=" expr])] ")"
unfoldable pub arguments : C (List units.Argument)
arguments = in_parentheses (list_or_none argument)

-- [args]
abbrev pub maybe_arguments : C (List units.Argument)
maybe_arguments = otherwise [] arguments

-- the name of a constructor
abbrev pub new_name : Tok → Name
new_name t = record { at = t.at; text = codes "new" }

-- "new" | ["void" | itype] id
unfoldable pub called : C (units.Returns × Name)
called = Alt (Map (λ t. (units.Returns.Value types.Unwritten, new_name t)) (tok k.New)) (Alt (Map (λ n. (units.Void, n)) (k.Void ▸ name)) (Map (λ p. (units.Returns.Value p.0, p.1)) typed_name))

-- "function" [life] ("new" | ["void" | itype] id) [args]
unfoldable pub function_head : C units.Head
function_head = quadruple (λ t l c as_. record { at = t.at; life = l; returns = c.0; name = c.1; arguments = as_ }) (tok k.Function) maybe_life called maybe_arguments

-- "task" [life] id [args]
unfoldable pub task_head : C units.Head
task_head = quadruple (λ t l n as_. record { at = t.at; life = l; returns = units.Task; name = n; arguments = as_ }) (tok k.Task) maybe_life name maybe_arguments

-- head
unfoldable pub head : C units.Head
head = Alt function_head task_head

-- id | "new"
unfoldable pub routine_name : C Name
routine_name = Alt name (Map new_name (tok k.New))

-- ("endfunction" | "endtask") [":" (id | "new")]
unfoldable pub routine_end : C (Option Name)
routine_end = Map (λ p. p.1) (Seq (any_of (k.Endfunction ∷ k.Endtask ∷ [])) (optional (k.Colon ▸ routine_name)))

-- routine = head ";" {decl} {stmt} ("endfunction" | "endtask") [":" (id | "new")]
unfoldable pub routine : C units.Routine
routine = triple (λ h is l. record { head = h; decls = decls_of is; stmts = stmts_of is; label = l }) (head ◂ k.Semicolon) block_items routine_end

-- ---- clocking blocks

-- number | time | id | "(" expr ")" | "1step"
unfoldable pub skew_rest : C (Tok → units.Skew)
skew_rest = Alt (Map (λ e t. units.Amount t.at e) amount) (Map (λ u t. units.OneStep t.at) (tok k.OneStep))

-- skew = "#" (number | time | id | "(" expr ")") | "#" "1step"
unfoldable pub skew : C units.Skew
skew = then_ (tok k.Hash) skew_rest

-- a direction with its skew
abbrev pub side : Direction → Option units.Skew → units.Sided
side d s = record { direction = d; skew = s }

-- a direction of ports, among those of clocking signals
abbrev pub direction_of : PortDirection → Direction
direction_of port_direction.Input = direction.Input
direction_of port_direction.Output = direction.Output

-- ("input" | "output") skew
unfoldable pub default_skew : C units.Sided
default_skew = pair (λ t s. side (direction_of (chosen port_direction.Output port_directions t.code)) (Some s)) (word port_directions) skew

-- an input alone, or an input and an output
abbrev pub input_and : Option units.Skew → Option (Option units.Skew) → List units.Sided
input_and i None = side direction.Input i ∷ []
input_and i (Some o) = side direction.Input i ∷ side direction.Output o ∷ []

-- "output" [skew]
unfoldable pub output_side : C (Option units.Skew)
output_side = k.Output ▸ optional skew

-- "input" [skew] ["output" [skew]]
unfoldable pub input_side : C (List units.Sided)
input_side = pair input_and (k.Input ▸ optional skew) (optional output_side)

-- "input" [skew] | "output" [skew] | "input" [skew] "output" [skew] | "inout"
unfoldable pub sides : C (List units.Sided)
sides = Alt input_side (Alt (Map (λ o. side direction.Output o ∷ []) output_side) (Map (λ t. side direction.Inout None ∷ []) (tok k.Inout)))

-- "default" {("input" | "output") skew} ";"
unfoldable pub default_skews : C units.ClockingItem
default_skews = Map units.Default (k.Default ▸ Rep default_skew ◂ k.Semicolon)

-- citems
unfoldable pub clocking_item : C units.ClockingItem
clocking_item = Alt default_skews (pair units.Signals sides (list name ◂ k.Semicolon))

-- "@" "(" ["posedge" | "negedge"] id ")" ";" {citems} "endclocking" [":" id]
unfoldable pub clocking_rest : C (Name → Option Place → units.ClockingBlock)
clocking_rest = quadruple (λ w e cs l n d. record { default = d; name = n; edge = w; event = e; items = cs; label = l }) (k.At ▸ k.LeftParenthesis ▸ edge) (name ◂ k.RightParenthesis ◂ k.Semicolon) (Rep clocking_item) (k.Endclocking ▸ label)

-- "clocking" id ..
unfoldable pub plain_clocking : C items.Item
plain_clocking = pair (λ n f. items.Clocking (f n None)) (k.Clocking ▸ name) clocking_rest

-- ";" | "@" ..
unfoldable pub default_rest : C (Name → Place → items.Item)
default_rest = Alt (Map (λ u n at. items.DefaultClocking at n) (tok k.Semicolon)) (Map (λ f n at. items.Clocking (f n (Some at))) clocking_rest)

-- "default" "clocking" id (";" | "@" ..)
unfoldable pub default_clocking : C items.Item
default_clocking = triple (λ t n (f : Name → Place → items.Item). f n t.at) (tok k.Default ◂ k.Clocking) name default_rest

-- clocking = ["default"] "clocking" id .. | "default" "clocking" id ";"
unfoldable pub clocking : C items.Item
clocking = Alt plain_clocking default_clocking

-- ---- classes

-- "local" | "protected" | "static" | "virtual"
abbrev pub qualifier_words : List Kind
qualifier_words = k.Local ∷ k.Protected ∷ k.Static ∷ k.Virtual ∷ []

-- whether a word is among tokens
abbrev pub has_word : Kind → List Tok → Bool
has_word a ts = list_any (λ t. t.code == code a) ts

-- the qualifiers that words stand for
abbrev pub qualifiers_of : List Tok → Qualifiers
qualifiers_of ts = record { is_local = has_word k.Local ts; is_protected = has_word k.Protected ts; is_static = has_word k.Static ts; is_virtual = has_word k.Virtual ts }

-- type list(..) ";", after words
abbrev pub class_typed : Life → C stmts.Decl
class_typed l = pair (decl_of l) type (declarators ◂ k.Semicolon)

-- "automatic" ["var"] type list(..) ";"
unfoldable pub automatic_decl : C stmts.Decl
automatic_decl = triple (λ v t ds. decl_of life_word.Automatic t ds) (k.Automatic ▸ optional (tok k.Var)) type (declarators ◂ k.Semicolon)

-- a declaration in a class, in which "static" is no life
unfoldable pub class_decl : C stmts.Decl
class_decl = Alt automatic_decl (Alt (k.Var ▸ class_typed life_word.Unwritten) (class_typed life_word.Unwritten))

-- decl | routine, after the words before it
unfoldable pub member : C (List Tok → classes.ClassItem)
member = Alt (Map (λ d ts. classes.Property (record { qualifiers = qualifiers_of ts; decl = d })) class_decl) (Map (λ r ts. classes.Method (record { qualifiers = qualifiers_of ts; routine = r })) routine)

-- "pure" "virtual" head ";"
unfoldable pub pure_method : C classes.ClassItem
pure_method = pair (λ t h. classes.Pure (record { at = t.at; head = h })) (tok k.Pure ◂ k.Virtual) (head ◂ k.Semicolon)

-- qualifiers, and decl | routine
unfoldable pub qualified : C classes.ClassItem
qualified = triple (λ t ts f. f (t ∷ ts)) (any_of qualifier_words) (Rep (any_of qualifier_words)) member

-- citem = {"local" | "protected" | "static" | "virtual"} (decl | routine) | "pure" "virtual" head ";" | typedef | ";"
unfoldable pub class_item : C classes.ClassItem
class_item =
    Alt pure_method
    (Alt (typedef classes.Typedef classes.Announce)
    (Alt (Map (λ t. classes.Null) (tok k.Semicolon))
    (Alt qualified (Map (λ f. f []) member))))

-- a class of its parts
abbrev pub class_of : Bool → Tok → Name → Option Name → List classes.ClassItem × Option Name → classes.Class
class_of is_virtual t n base p = record { at = t.at; is_virtual = is_virtual; name = n; base = base; items = p.0; label = p.1 }

-- id ["extends" id] ";" {citem} "endclass" [":" id]
unfoldable pub class_rest : C (Bool → Tok → classes.Class)
class_rest = triple (λ n b p v t. class_of v t n b p) name (optional (k.Extends ▸ name)) (k.Semicolon ▸ Seq (Rep class_item) (k.Endclass ▸ label))

-- "virtual" "class" id ..
unfoldable pub virtual_class : C classes.Class
virtual_class = pair (λ t f. f true t) (tok k.Virtual ◂ k.Class) class_rest

-- "class" id ..
unfoldable pub plain_class : C classes.Class
plain_class = pair (λ t f. f false t) (tok k.Class) class_rest

-- class = ["virtual"] "class" id ..
unfoldable pub class : C classes.Class
class = Alt virtual_class plain_class

-- ---- items

-- what stands in modules, programs and outside both
unfoldable pub named_items : C items.Item
named_items = Alt (typedef items.Typedef items.Announce) (Alt (Map items.Class class) (Alt (Map items.Param (param ◂ k.Semicolon)) (Map items.Routine routine)))

-- a structured procedure of its parts
abbrev pub procedure_of : Tok → ProcedureWord → stmts.Stmt → items.Item
procedure_of t w s = items.Procedure (record { at = t.at; word = w; body = s })

-- "initial" stmt
unfoldable pub initial : C items.Item
initial = pair (λ t s. procedure_of t procedure_word.Initial s) (tok k.Initial) statement

-- common, but for declarations that a name begins
unfoldable pub common : C items.Item
common = Alt (Map items.Decl word_decl) (Alt named_items (Alt clocking (Alt initial (Map (λ t. items.Null) (tok k.Semicolon)))))

-- a declaration that a name begins
unfoldable pub named_decl : C items.Item
named_decl = Map items.Decl (then_ name named_decl_rest)

-- pitem = common
unfoldable pub program_item : C items.Item
program_item = Alt common named_decl

-- conn = expr | "." id ["(" [expr] ")"] | ".*"
abbrev pub given_of : Name → Option (Option tree.Expr) → Tok → units.Connection
given_of n None t = units.Named t.at n
given_of n (Some e) t = units.Given t.at n e

-- "(" [expr] ")"
unfoldable pub given : C (Option tree.Expr)
given = in_parentheses (optional expr)

-- "." id ["(" [expr] ")"]
unfoldable pub dotted : C units.Connection
dotted = then_ (tok k.Dot) (pair given_of name (optional given))

-- conn
unfoldable pub connection : C units.Connection
connection = Alt dotted (Alt (Map (λ t. units.All t.at) (tok k.DotStar)) (Map units.Connection.Value expr))

-- "(" [list(conn)] ")"
unfoldable pub connections : C (List units.Connection)
connections = in_parentheses (list_or_none connection)

-- an instance of its parts
abbrev pub instance_of : Name → List units.Connection → units.Instance
instance_of n cs = record { name = n; connections = cs }

-- id "(" [list(conn)] ")"
unfoldable pub instance : C units.Instance
instance = pair instance_of name connections

-- instances of their parts
abbrev pub instances_of : Name → List units.Connection → List units.Instance → items.Item
instances_of n params is = items.Instances (record { of = n; params = params; list = is })

-- after two names: the connections of an instance, and further instances
unfoldable pub instances_rest : C (Name → Name → items.Item)
instances_rest = pair (λ cs is u n. instances_of u [] (instance_of n cs ∷ is)) connections (commas instance ◂ k.Semicolon)

-- after two names: the rest of a declaration
unfoldable pub decl_rest : C (Name → Name → items.Item)
decl_rest = Map (λ f u n. items.Decl (decl_of life_word.Unwritten (types.Named u) (f n))) (more_declarators ◂ k.Semicolon)

-- after two names: an instance, or a declaration
unfoldable pub second_named : C (Name → Name → items.Item)
second_named = Alt instances_rest decl_rest

-- "#" "(" list(conn) ")" list(id "(" [list(conn)] ")") ";"
unfoldable pub valued_instances : C (Name → items.Item)
valued_instances = pair (λ cs is u. instances_of u cs is) (k.Hash ▸ in_parentheses (list connection)) (list instance ◂ k.Semicolon)

-- what follows the name that an item of a module begins with
unfoldable pub named_item_rest : C (Name → items.Item)
named_item_rest = Alt valued_instances (pair (λ n f u. f u n) name second_named)

-- inst = id ["#" "(" list(conn) ")"] list(id "(" [list(conn)] ")") ";", or a declaration that a name begins
unfoldable pub named_item : C items.Item
named_item = then_ name named_item_rest

-- a net and what drives it
abbrev pub net_item_of : Name → Option tree.Expr → units.NetItem
net_item_of n e = record { name = n; value = e }

-- id ["=" expr]
unfoldable pub net_item : C units.NetItem
net_item = pair net_item_of name (optional (k.Equals ▸ expr))

-- ("wire" | "tri") ["logic"]
unfoldable pub net_word : C Tok
net_word = Map (λ p. p.0) (Seq (any_of net_words) (optional (tok k.Logic)))

-- net = ("wire" | "tri") ["logic"] [sign] [range] list(id ["=" expr]) ";"
unfoldable pub net : C items.Item
net = quadruple (λ t s r ns. items.Net (record { at = t.at; sign = s; range = r; names = ns })) net_word sign (optional range) (list net_item ◂ k.Semicolon)

-- a continuous assignment of its parts
abbrev pub assign_item_of : tree.Lval → tree.Expr → units.AssignItem
assign_item_of l e = record { target = l; value = e }

-- lval "=" expr
unfoldable pub assign_item : C units.AssignItem
assign_item = pair assign_item_of lval (k.Equals ▸ expr)

-- "always" | "always_comb" | "always_ff"
abbrev pub procedure_words : Words ProcedureWord
procedure_words = (k.Always, procedure_word.Always) ∷ (k.AlwaysComb, procedure_word.AlwaysComb) ∷ (k.AlwaysFf, procedure_word.AlwaysFf) ∷ []

-- "assign" list(lval "=" expr) ";"
unfoldable pub assign : C items.Item
assign = Map items.Assign (k.Assign ▸ list assign_item ◂ k.Semicolon)

-- ("always" | "always_comb" | "always_ff") stmt
unfoldable pub always : C items.Item
always = pair (λ t s. procedure_of t (chosen procedure_word.AlwaysFf procedure_words t.code) s) (word procedure_words) statement

-- mitem = common | net | "assign" list(lval "=" expr) ";" | inst | ("always" | "always_comb" | "always_ff") stmt
unfoldable pub module_item : C items.Item
module_item = Alt common (Alt net (Alt assign (Alt always named_item)))

-- ---- descriptions

-- a design element of its parts
abbrev pub element_of : Tok → Life × Name → Option (List units.Param) × List units.Port → List items.Item → Option Name → items.DesignElement
element_of t ln pp is l = record { at = t.at; life = ln.0; name = ln.1; params = pp.0; ports = pp.1; items = is; label = l }

-- [pports] [ports] ";"
unfoldable pub element_head : C (Option (List units.Param) × List units.Port)
element_head = Seq (optional element_params) (otherwise [] ports) ◂ k.Semicolon

-- module = "module" [life] id [pports] [ports] ";" {mitem} "endmodule" [":" id]
unfoldable pub module_element : C items.DesignElement
module_element = pair (λ t (f : Tok → items.DesignElement). f t) (tok k.Module) (quadruple (λ ln pp is l t. element_of t ln pp is l) (Seq maybe_life name) element_head (Rep module_item) (k.Endmodule ▸ label))

-- program = "program" [life] id [pports] [ports] ";" {pitem} "endprogram" [":" id]
unfoldable pub program_element : C items.DesignElement
program_element = pair (λ t (f : Tok → items.DesignElement). f t) (tok k.Program) (quadruple (λ ln pp is l t. element_of t ln pp is l) (Seq maybe_life name) element_head (Rep program_item) (k.Endprogram ▸ label))

-- unit = module | program | class | typedef | param ";" | routine | ";"
unfoldable pub description : C descriptions.Description
description =
    Alt (Map descriptions.Module module_element)
    (Alt (Map descriptions.Program program_element)
    (Alt (Map descriptions.Item named_items)
    (Map (λ t. descriptions.Item items.Null) (tok k.Semicolon))))

-- file = { unit }, and the end
unfoldable pub file : C (List descriptions.Description)
file = Rep description ◂ k.EndOfText
