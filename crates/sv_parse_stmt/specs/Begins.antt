-- The kinds that begin statements, and parts of them (IEEE 1800-2017, A.6).
use Rattle.std.specs.Prelude.{ℕ, Bool, List, [], ◌∷◌, ◌++◌, ◌&&◌, ◌||◌, drop}
use Rattle.sv_grammar.specs.Tokens.{Tok, next, mem}
use Rattle.sv_tree.specs.declared.kind.Kind.TheVariants as k
use Rattle.sv_tree.specs.Codes.{code}
use Rattle.sv_tree.specs.Forms.{codes_of, kinds_of}
use Rattle.sv_tree.specs.StmtGrammar.{assign_words, step_words}
use Rattle.sv_tree.specs.Grammar.{expr_first, unnamed_first}
use Rattle.sv_parse_type.specs.Begins.{word_decl_first}

-- what follows the target of an assignment (A.6.2)
abbrev pub assignment_first : List ℕ
assignment_first = codes_of (k.Equals ∷ k.LessEquals ∷ []) ++ kinds_of assign_words ++ kinds_of step_words

-- what begins a target (A.8.5)
abbrev pub lval_first : List ℕ
lval_first = codes_of (k.Name ∷ k.This ∷ k.Super ∷ k.LeftBrace ∷ [])

-- what begins a form that always holds a statement, or targets in braces (A.6.4)
abbrev pub holder_first : List ℕ
holder_first = codes_of (k.If ∷ k.For ∷ k.While ∷ k.Do ∷ k.Repeat ∷ k.Forever ∷ k.Foreach ∷ k.Hash ∷ k.At ∷ k.HashHash ∷ k.LeftBrace ∷ [])

-- what begins a statement (A.6.4)
abbrev pub stmt_first : List ℕ
stmt_first = code k.Name ∷ unnamed_first

-- what begins an item of a "case" (A.6.7)
abbrev pub case_item_first : List ℕ
case_item_first = code k.Default ∷ expr_first

-- whether a declaration comes next: a word that begins one, or two names (A.2.8)
abbrev pub is_decl : List Tok → Bool
is_decl ts = mem (next ts).code word_decl_first || (mem (next ts).code (code k.Name ∷ []) && mem (next (drop 1 ts)).code (code k.Name ∷ []))
