-- How many scopes the items of a `case` make, item by item.
use Rattle.std.proofs.Common.{arith, ◌≡◌, ◌∙◌, ℕ, ◌+◌, ◌<◌, ◌≤◌, min, List, length, drop, get_or, sym, ap}
use Rattle.std.proofs.lemmas.List.{drop_all}
use Rattle.sv_tree.specs.declared.statement.CaseItem.{CaseItem, Labels', Default'}
use Rattle.sv_tree.specs.StmtView.{case_item, case_item_list}
use Rattle.sv_tree.specs.Stmt as tree
use Rattle.sv_names.specs.Blocks.{scopes_of_items}
use Rattle.sv_elab_flow.proofs.Left.{first_left}

-- an item before others
pub scopes_before : (x : CaseItem) (rest : tree.CaseItems)
    → scopes_of_items (case_item x rest) ≡ scopes_of_items (case_item x tree.NoCaseItem) + scopes_of_items rest
scopes_before (Labels' es p at l b) rest = omega arith
scopes_before (Default' p at l b) rest = omega arith

-- one item further
pub scopes_next : (m : ℕ) (xs : List CaseItem) (i made next one total : ℕ) (x : CaseItem) → i < length xs → get_or xs i x ≡ x
    → one ≡ min (scopes_of_items (case_item x tree.NoCaseItem)) m → next ≡ min (made + one) m
    → min (made + scopes_of_items (case_item_list (drop i xs))) m ≡ total
    → min (next + scopes_of_items (case_item_list (drop (i + 1) xs))) m ≡ total
scopes_next m xs i made next one total x within is of_one of_next so_far =
    let rest = scopes_of_items (case_item_list (drop (i + 1) xs)) in
    let front : min (made + (scopes_of_items (case_item x tree.NoCaseItem) + rest)) m ≡ total =
    ap (λ (k : ℕ). min (made + k) m) (sym (scopes_before x (case_item_list (drop (i + 1) xs))))
    ∙ sym (ap (λ (ys : List CaseItem). min (made + scopes_of_items (case_item_list ys)) m) (first_left xs i x within is)) ∙ so_far in
    omega (arith, of_one, of_next, front)

-- all items
pub scopes_whole : (m : ℕ) (xs : List CaseItem) (i made total : ℕ) → length xs ≤ i → made ≤ m
    → min (made + scopes_of_items (case_item_list (drop i xs))) m ≡ total → made ≡ total
scopes_whole m xs i made total end small so_far =
    let last : min (made + 0) m ≡ total = sym (ap (λ (ys : List CaseItem). min (made + scopes_of_items (case_item_list ys)) m) (drop_all i xs end)) ∙ so_far in
    omega (arith, last, small)
