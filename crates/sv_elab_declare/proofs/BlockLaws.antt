-- The named blocks of statements, one statement after the other.
use Rattle.std.proofs.Common.{◌≡◌, ℕ, ◌+◌, ◌<◌, List, [], ◌∷◌, ◌++◌, map, length, drop, get_or, refl, sym, ap, ◌∙◌, append-nil}
use Rattle.std.proofs.lemmas.List.{drop_more}
use Rattle.sv_tree.specs.declared.statement.Stmt.{Stmt}
use Rattle.sv_tree.specs.declared.statement.CaseItem.{CaseItem, Labels', Default'}
use Rattle.sv_tree.specs.StmtView.{stmt, stmt_list, body, case_item, case_item_list}
use Rattle.sv_tree.specs.Stmt as tree
use Rattle.sv_names.specs.Entries as entries
use Rattle.sv_names.specs.Entries.{blocks, blocks_of, blocks_of_items, blocks_in}
use Rattle.sv_elab_scope.specs.declared.declared.Entry.{Entry}
use Rattle.sv_elab_scope.specs.Views.{entry_in}
use Rattle.sv_elab_declare.specs.Added.{Added}
use Rattle.sv_elab_declare.proofs.AddedLaws.{turn_added}

-- a list from one of its items on
left_from : {A : Type 0} (xs : List A) (i : ℕ) (x : A) → i < length xs → get_or xs i x ≡ x → drop i xs ≡ x ∷ drop (i + 1) xs
left_from xs i x within is = drop_more xs i x within ∙ ap (λ y. y ∷ drop (i + 1) xs) is

-- an item alone
pub one_item : (es fs : List Entry) (xs : List entries.Entry) → Added es fs xs → Added es fs (xs ++ [])
one_item es fs xs a = a ∙ ap (λ l. map entry_in es ++ l) (sym (append-nil xs))

-- an item and those behind it
item_first : (x : CaseItem) (rest : tree.CaseItems)
    → blocks_of_items (case_item x tree.NoCaseItem) ++ blocks_of_items rest ≡ blocks_of_items (case_item x rest)
item_first (Labels' es p at l b) rest = ap (λ xs. xs ++ blocks_of_items rest) (append-nil (blocks (tree.Statement at l (body b))))
item_first (Default' p at l b) rest = ap (λ xs. xs ++ blocks_of_items rest) (append-nil (blocks (tree.Statement at l (body b))))

-- a turn appends the blocks of an item
pub item_turn : (all : List CaseItem) (i : ℕ) (x : CaseItem) (es fs : List Entry) → i < length all → get_or all i x ≡ x
    → Added es fs (blocks_of_items (case_item x tree.NoCaseItem))
    → map entry_in fs ++ blocks_of_items (case_item_list (drop (i + 1) all)) ≡ map entry_in es ++ blocks_of_items (case_item_list (drop i all))
item_turn all i x es fs within is added =
    turn_added es fs (blocks_of_items (case_item x tree.NoCaseItem)) (blocks_of_items (case_item_list (drop (i + 1) all))) added
    ∙ ap (λ xs. map entry_in es ++ xs) (item_first x (case_item_list (drop (i + 1) all)))
    ∙ ap (λ xs. map entry_in es ++ blocks_of_items (case_item_list xs)) (sym (left_from all i x within is))

-- a turn appends the blocks of a statement
pub stmt_turn : (all : List Stmt) (i : ℕ) (x : Stmt) (es fs : List Entry) → i < length all → get_or all i x ≡ x
    → Added es fs (blocks (stmt x))
    → map entry_in fs ++ blocks_of (stmt_list (drop (i + 1) all)) ≡ map entry_in es ++ blocks_of (stmt_list (drop i all))
stmt_turn all i x es fs within is added =
    turn_added es fs (blocks (stmt x)) (blocks_of (stmt_list (drop (i + 1) all))) added
    ∙ ap (λ xs. map entry_in es ++ blocks_of (stmt_list xs)) (sym (left_from all i x within is))
