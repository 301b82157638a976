-- The grammar of types, dimensions and declarations (IEEE 1800-2017, A.2).
use Rattle.std.specs.Prelude.{List, [], ◌∷◌, Option, Some, None}
use Rattle.sv_value.specs.declared.place.Place.{Place}
use Rattle.sv_grammar.specs.Tokens.{Tok}
use Rattle.sv_grammar.specs.Code.Code.{Done, Seq, Map, Alt, Inner}
use Rattle.sv_tree.specs.declared.kind.Kind.TheVariants as k
use Rattle.sv_tree.specs.declared.word.Name.{Name}
use Rattle.sv_tree.specs.declared.word.Sign.{Sign}
use Rattle.sv_tree.specs.declared.word.Sign.TheVariants as sign_word
use Rattle.sv_tree.specs.declared.word.Life.{Life}
use Rattle.sv_tree.specs.declared.word.Life.TheVariants as life_word
use Rattle.sv_tree.specs.declared.word.VectorWord.TheVariants as vector_word
use Rattle.sv_tree.specs.declared.word.AtomWord.TheVariants as atom_word
use Rattle.sv_tree.specs.declared.expr.Root.TheVariants as root
use Rattle.sv_tree.specs.declared.expr.CastType.{CastType}
use Rattle.sv_tree.specs.declared.expr.CastType.TheVariants as cast_type
use Rattle.sv_tree.specs.Expr as tree
use Rattle.sv_tree.specs.Types as types
use Rattle.sv_tree.specs.Stmt as stmts
use Rattle.sv_tree.specs.Forms.{A_type, C, Words, tok, word, chosen, ◌▸◌, ◌◂◌, pair, triple, then_, optional, otherwise, commas, list, list_or_none, in_parentheses, in_brackets, in_braces, name, exprs}
use Rattle.sv_tree.specs.ExprGrammar.{vector_words, atom_words, expr, plain_expr, cast_rest, with_cast}

-- "signed" | "unsigned"
abbrev pub sign_words : Words Sign
sign_words = (k.Signed, sign_word.Signed) ∷ (k.Unsigned, sign_word.Unsigned) ∷ []

-- ["signed" | "unsigned"]
abbrev pub sign : C Sign
sign = otherwise sign_word.Unwritten (Map (λ t. chosen sign_word.Unsigned sign_words t.code) (word sign_words))

-- range = "[" expr ":" expr "]"
unfoldable pub range : C types.Range
range = triple (λ t a b. record { at = t.at; left = a; right = b }) (tok k.LeftBracket) (expr ◂ k.Colon) (expr ◂ k.RightBracket)

-- id ["=" expr]
unfoldable pub enum_item : C types.EnumItem
enum_item = pair (λ n e. record { name = n; value = e }) name (optional (k.Equals ▸ expr))

-- an enumeration, of a base or of none
abbrev pub enum_of : Tok → Option types.WrittenType → List types.EnumItem → types.WrittenType
enum_of t None items = types.Enum t.at items
enum_of t (Some base) items = types.EnumOf t.at base items

-- "enum" [type] "{" list(id ["=" expr]) "}"
unfoldable pub enum : C types.WrittenType
enum = triple enum_of (tok k.Enum) (optional (Inner A_type)) (in_braces (list enum_item))

-- a type of bits
abbrev pub vector_of : Tok → Sign × Option types.Range → types.WrittenType
vector_of t p = types.WrittenType.Vector t.at (chosen vector_word.Reg vector_words t.code) p.0 p.1

-- what follows "bit", "logic" and "reg"
abbrev pub vector_rest : C (Sign × Option types.Range)
vector_rest = Seq sign (optional range)

-- a type with a width of its own
abbrev pub atom_of : Tok → Sign → types.WrittenType
atom_of t s = types.Atom t.at (chosen atom_word.Time atom_words t.code) s

-- ["#" "(" type ")"]
abbrev pub mailbox_rest : C (Option types.WrittenType)
mailbox_rest = optional (k.Hash ▸ in_parentheses (Inner A_type))

-- a mailbox, of an item type or of none
abbrev pub mailbox_of : Tok → Option types.WrittenType → types.WrittenType
mailbox_of t None = types.Mailbox t.at
mailbox_of t (Some u) = types.MailboxOf t.at u

-- ("bit" | "logic" | "reg") [sign] [range]
unfoldable pub vector_type : C types.WrittenType
vector_type = pair vector_of (word vector_words) vector_rest

-- ("byte" | "shortint" | "int" | "longint" | "integer" | "time") [sign]
unfoldable pub atom_type : C types.WrittenType
atom_type = pair atom_of (word atom_words) sign

-- "mailbox" ["#" "(" type ")"]
unfoldable pub mailbox_type : C types.WrittenType
mailbox_type = pair mailbox_of (tok k.Mailbox) mailbox_rest

-- the types that a word begins
unfoldable pub word_type : C types.WrittenType
word_type =
    Alt vector_type
    (Alt atom_type
    (Alt (Map (λ t. types.Text t.at) (tok k.String))
    (Alt (Map (λ t. types.Event t.at) (tok k.Event))
    (Alt (Map (λ t. types.Semaphore t.at) (tok k.Semaphore))
    (Alt mailbox_type enum)))))

-- id
unfoldable pub named_type : C types.WrittenType
named_type = Map types.Named name

-- type
unfoldable pub type : C types.WrittenType
type = Alt word_type named_type

-- a sign without a type word
abbrev pub signed_of : Tok → Option types.Range → types.ImpliedType
signed_of t r = types.ImpliedType.Vector t.at (chosen sign_word.Unsigned sign_words t.code) r

-- itype, but for a name: word_type | sign [range] | range
unfoldable pub unnamed_implied : C types.ImpliedType
unnamed_implied = Alt (Map types.Written word_type) (Alt (pair signed_of (word sign_words) (optional range)) (Map (λ r. types.ImpliedType.Vector r.at sign_word.Unwritten (Some r)) range))

-- the first of two names is a type; one alone has none
abbrev pub names_of : Name → Option Name → types.ImpliedType × Name
names_of n None = (types.Unwritten, n)
names_of n (Some m) = (types.Written (types.Named n), m)

-- id, or a type that is a name, and id
unfoldable pub named_name : C (types.ImpliedType × Name)
named_name = pair names_of name (optional name)

-- [itype] id
unfoldable pub typed_name : C (types.ImpliedType × Name)
typed_name = Alt (Seq unnamed_implied name) named_name

-- ---- dimensions

-- a sign of a queue, a name alone, or a size
abbrev pub size_of : tree.Expr → Place → stmts.Dimension
size_of (tree.Dollar d) at = stmts.Queue at
size_of (tree.Post (root.Plain n) tree.NoSuffix) at = stmts.Dimension.Named at n
size_of e at = stmts.Size at e

-- a dimension of one expression or two
abbrev pub dimension_of : tree.Expr → Option tree.Expr → Place → stmts.Dimension
dimension_of e None at = size_of e at
dimension_of e (Some f) at = stmts.Bounds (record { at = at; left = e; right = f })

-- [":" expr]
abbrev pub upper : C (Option tree.Expr)
upper = optional (k.Colon ▸ expr)

-- what stands in a dimension after a type word: the rest of an expression that is cast to it, or of the type
abbrev pub word_dimension : {R : Type 0} → (Tok → CastType) → (Tok → R → types.WrittenType) → C Tok → C R → C (Place → stmts.Dimension)
word_dimension to make w rest = then_ w (Alt (pair (λ e o t. dimension_of (with_cast (to t) e) o) cast_rest upper) (Map (λ r t at. stmts.Key at (make t r)) rest))

-- nothing
abbrev pub nothing_more : C (Unit {0})
nothing_more = Done tt

-- "[" [expr | expr ":" expr | "$" | type] "]"
unfoldable pub dimension_inside : C (Place → stmts.Dimension)
dimension_inside =
    Alt (word_dimension (λ t. cast_type.Vector t.at (chosen vector_word.Reg vector_words t.code)) vector_of (word vector_words) vector_rest)
    (Alt (word_dimension (λ t. cast_type.Atom t.at (chosen atom_word.Time atom_words t.code)) atom_of (word atom_words) sign)
    (Alt (word_dimension (λ t. cast_type.Text t.at) (λ t r. types.Text t.at) (tok k.String) nothing_more)
    (Alt (word_dimension (λ t. cast_type.Event t.at) (λ t r. types.Event t.at) (tok k.Event) nothing_more)
    (Alt (word_dimension (λ t. cast_type.Semaphore t.at) (λ t r. types.Semaphore t.at) (tok k.Semaphore) nothing_more)
    (Alt (word_dimension (λ t. cast_type.Mailbox t.at) mailbox_of (tok k.Mailbox) mailbox_rest)
    (Alt (Map (λ u at. stmts.Key at u) enum)
    (Alt (pair dimension_of plain_expr upper) (Done stmts.Empty))))))))

-- dim
unfoldable pub dimension : C stmts.Dimension
dimension = pair (λ t f. f t.at) (tok k.LeftBracket) (dimension_inside ◂ k.RightBracket)

-- ---- declarations

-- "new" with arguments
abbrev pub new_with : List tree.Expr → Place → stmts.Init
new_with es at = stmts.New at (tree.Written (exprs es))

-- "new" without brackets
abbrev pub new_alone : Place → stmts.Init
new_alone at = stmts.New at tree.Unwritten

-- init = expr | "new" ["(" [list(expr)] ")"] | "new" id | "new" "[" expr "]" ["(" expr ")"]
unfoldable pub new_rest : C (Place → stmts.Init)
new_rest =
    Alt (Map new_with (in_parentheses (list_or_none expr)))
    (Alt (Map (λ n at. stmts.Copy at n) name)
    (Alt (pair (λ e o at. stmts.Array at e o) (in_brackets expr) (optional (in_parentheses expr)))
    (Done new_alone)))

-- init
unfoldable pub init : C stmts.Init
init = Alt (Map stmts.Value expr) (pair (λ t f. f t.at) (tok k.New) new_rest)

-- a declarator of its parts
abbrev pub declarator_of : Option stmts.Dimension → Option stmts.Init → Name → stmts.Declarator
declarator_of d i n = record { name = n; dimension = d; init = i }

-- [dim] ["=" init]
unfoldable pub declarator_rest : C (Name → stmts.Declarator)
declarator_rest = pair declarator_of (optional dimension) (optional (k.Equals ▸ init))

-- id [dim] ["=" init]
unfoldable pub declarator : C stmts.Declarator
declarator = then_ name declarator_rest

-- list(id [dim] ["=" init])
unfoldable pub declarators : C (List stmts.Declarator)
declarators = list declarator

-- what follows the first name of a list of declarators
unfoldable pub more_declarators : C (Name → List stmts.Declarator)
more_declarators = pair (λ f ds n. f n ∷ ds) declarator_rest (commas declarator)

-- "automatic" | "static"
abbrev pub life_words : Words Life
life_words = (k.Automatic, life_word.Automatic) ∷ (k.Static, life_word.Static) ∷ []

-- life
abbrev pub life : C Life
life = Map (λ t. chosen life_word.Static life_words t.code) (word life_words)

-- a declaration of its parts
abbrev pub decl_of : Life → types.WrittenType → List stmts.Declarator → stmts.Decl
decl_of l t ds = record { life = l; of = t; names = ds }

-- type list(id [dim] ["=" init]) ";", after the words before it
abbrev pub typed : Life → C stmts.Decl
typed l = pair (decl_of l) type (declarators ◂ k.Semicolon)

-- ["var"] type list(..) ";"
abbrev pub var_typed : C (Life → stmts.Decl)
var_typed = triple (λ v t ds l. decl_of l t ds) (optional (tok k.Var)) type (declarators ◂ k.Semicolon)

-- life ["var"] type list(..) ";"
unfoldable pub life_decl : C stmts.Decl
life_decl = then_ life var_typed

-- "var" type list(..) ";"
unfoldable pub var_decl : C stmts.Decl
var_decl = k.Var ▸ typed life_word.Unwritten

-- a type that a word begins, and list(..) ";"
unfoldable pub plain_decl : C stmts.Decl
plain_decl = pair (decl_of life_word.Unwritten) word_type (declarators ◂ k.Semicolon)

-- decl = [life] ["var"] type list(id [dim] ["=" init]) ";", but for those that a name begins
unfoldable pub word_decl : C stmts.Decl
word_decl = Alt life_decl (Alt var_decl plain_decl)

-- what follows a name that is the type of a declaration
unfoldable pub named_decl_rest : C (Name → stmts.Decl)
named_decl_rest = pair (λ n f t. decl_of life_word.Unwritten (types.Named t) (f n)) name (more_declarators ◂ k.Semicolon)
