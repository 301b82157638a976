-- Expressions as they are written, without pointers (IEEE 1800-2017, A.8).
use Rattle.std.specs.Prelude.{ℕ, ◌+◌, List}
use Rattle.sv_value.specs.declared.place.Place.{Place}
use Rattle.sv_tree.specs.declared.word.Name.{Name}
use Rattle.sv_tree.specs.declared.word.UnaryWord.{UnaryWord}
use Rattle.sv_tree.specs.declared.word.BinaryWord.{BinaryWord}
use Rattle.sv_tree.specs.declared.word.PartWord.{PartWord}
use Rattle.sv_tree.specs.declared.expr.Root.{Root}
use Rattle.sv_tree.specs.declared.expr.Root.TheVariants as root
use Rattle.sv_tree.specs.declared.expr.CastType.{CastType}
use Rattle.sv_tree.specs.declared.expr.CastType.TheVariants as cast

mutual
  pub data Expr : Type 0 where
    Number : (at : Place) → (text : List ℕ) → Expr
    Time : (at : Place) → (text : List ℕ) → Expr
    Text : (at : Place) → (text : List ℕ) → Expr
    Null : (at : Place) → Expr
    Dollar : (at : Place) → Expr
    Group : (at : Place) → Expr → Expr
    Post : Root → Suffixes → Expr
    System : Name → Actuals → Expr
    SuperNew : (at : Place) → (new : Place) → (actuals : Actuals) → Expr
    Join : (at : Place) → Exprs → Expr
    Repeat : (at : Place) → (count : Expr) → (inner : Place) → (items : Exprs) → Expr
    Cast : CastType → Expr → Expr
    Unary : (at : Place) → (word : UnaryWord) → (operand : Expr) → Expr
    Binary : (word : BinaryWord) → (at : Place) → (left : Expr) → (right : Expr) → Expr
    Choose : (condition : Expr) → (yes : Expr) → (no : Expr) → Expr

  -- arguments that may be left out with their brackets
  pub data Actuals : Type 0 where
    Unwritten : Actuals
    Written : Exprs → Actuals

  pub data Exprs : Type 0 where
    NoExpr : Exprs
    AndExpr : Expr → Exprs → Exprs

  -- what follows the root of a name
  pub data Suffixes : Type 0 where
    NoSuffix : Suffixes
    Member : Name → Suffixes → Suffixes
    Call : (at : Place) → Exprs → Suffixes → Suffixes
    Select : (at : Place) → Expr → Suffixes → Suffixes
    Part : (at : Place) → (word : PartWord) → (left : Expr) → (right : Expr) → Suffixes → Suffixes

mutual
  -- a target
  pub data Lval : Type 0 where
    Post : Root → Suffixes → Lval
    Join : (at : Place) → Lvals → Lval

  pub data Lvals : Type 0 where
    NoLval : Lvals
    AndLval : Lval → Lvals → Lvals

-- the place of the first token of a root
abbrev pub place_of_root : Root → Place
place_of_root (root.This at) = at
place_of_root (root.Super at name) = at
place_of_root (root.Plain name) = name.at
place_of_root (root.Scoped scope name) = scope.at

-- the place of the first token of a cast
abbrev pub place_of_cast : CastType → Place
place_of_cast (cast.Vector at word) = at
place_of_cast (cast.Atom at word) = at
place_of_cast (cast.Text at) = at
place_of_cast (cast.Event at) = at
place_of_cast (cast.Semaphore at) = at
place_of_cast (cast.Mailbox at) = at
place_of_cast (cast.Named name) = name.at
place_of_cast (cast.Width at text) = at

-- the place of the first token
abbrev pub place_of : Expr → Place
place_of (Number at text) = at
place_of (Time at text) = at
place_of (Text at text) = at
place_of (Null at) = at
place_of (Dollar at) = at
place_of (Group at e) = at
place_of (Post r suffixes) = place_of_root r
place_of (System name a) = name.at
place_of (SuperNew at new a) = at
place_of (Join at es) = at
place_of (Repeat at count inner es) = at
place_of (Cast c e) = place_of_cast c
place_of (Unary at op e) = at
place_of (Binary op at a b) = place_of a
place_of (Choose c a b) = place_of c

-- a measure of trees
abbrev mutual
  pub size : Expr → ℕ
  size (Number at text) = 1
  size (Time at text) = 1
  size (Text at text) = 1
  size (Null at) = 1
  size (Dollar at) = 1
  size (Group at e) = size e + 1
  size (Post r s) = suffix_sizes s + 1
  size (System n a) = actuals_size a + 1
  size (SuperNew at new a) = actuals_size a + 1
  size (Join at es) = sizes es + 1
  size (Repeat at n inner es) = size n + sizes es + 1
  size (Cast c e) = size e + 1
  size (Unary at op e) = size e + 1
  size (Binary op at a b) = size a + size b + 1
  size (Choose c a b) = size c + size a + size b + 1

  pub actuals_size : Actuals → ℕ
  actuals_size Unwritten = 0
  actuals_size (Written es) = sizes es + 1

  pub sizes : Exprs → ℕ
  sizes NoExpr = 0
  sizes (AndExpr e es) = size e + sizes es + 1

  pub suffix_sizes : Suffixes → ℕ
  suffix_sizes NoSuffix = 0
  suffix_sizes (Member n s) = suffix_sizes s + 1
  suffix_sizes (Call at es s) = sizes es + suffix_sizes s + 1
  suffix_sizes (Select at e s) = size e + suffix_sizes s + 1
  suffix_sizes (Part at w a b s) = size a + size b + suffix_sizes s + 1
