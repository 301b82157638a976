-- No reserved word has one byte.
use Rattle.std.proofs.Common.{◌≡◌, ℕ, Bool, true, false, cond, ◌&&◌, ◌||◌, List, [], ◌∷◌, length, refl, ap, ◌∙◌, sym, eqb, arith}
use Rattle.std.proofs.lemmas.Bool.{and_parts, and_right}
use Rattle.std.specs.Prelude.{Some, None, unwrap_or}
use Rattle.std.specs.List.{list_any}
use Rattle.sv_tree.specs.declared.kind.Kind.{Kind}
use Rattle.sv_tree.specs.declared.kind.Kind.TheVariants as kinds
use Rattle.sv_tree.specs.Tokens.{is_word, spelled, words, unused, plain_word, kind_of_name}

-- two bytes or more
abbrev is_long : List ℕ → Bool
is_long (b ∷ d ∷ bs) = true
is_long w = false

abbrev all_long : List (List ℕ × Kind) → Bool
all_long [] = true
all_long (x ∷ xs) = is_long x.0 && all_long xs

abbrev each_long : List (List ℕ) → Bool
each_long [] = true
each_long (x ∷ xs) = is_long x && each_long xs

words_long : all_long words ≡ true
unfolding words
words_long = refl

unused_long : each_long unused ≡ true
unfolding unused
unused_long = refl

not_one : (word : List ℕ) (c : ℕ) → is_long word ≡ true → is_word word (c ∷ []) ≡ false
not_one [] c h = absurd cc
not_one (b ∷ []) c h = absurd cc
not_one (b ∷ d ∷ bs) c h = and_right (eqb b c) false refl

none_spelled : (table : List (List ℕ × Kind)) (c : ℕ) → all_long table ≡ true → spelled table (c ∷ []) ≡ None
unfolding spelled
none_spelled [] c h = refl
none_spelled (x ∷ xs) c h =
    let p = and_parts (is_long x.0) (all_long xs) h in
    ap (λ b. cond b (Some x.1) (spelled xs (c ∷ []))) (not_one x.0 c p.0) ∙ none_spelled xs c p.1

none_any : (xs : List (List ℕ)) (c : ℕ) → each_long xs ≡ true → list_any (λ x. is_word x (c ∷ [])) xs ≡ false
none_any [] c h = refl
none_any (x ∷ xs) c h =
    let p = and_parts (is_long x) (each_long xs) h in
    ap (λ b. b || list_any (λ y. is_word y (c ∷ [])) xs) (not_one x c p.0) ∙ none_any xs c p.1

plain_one : (c : ℕ) → plain_word (c ∷ []) ≡ kinds.Name
unfolding plain_word
plain_one c = ap (λ b. cond b kinds.Reserved kinds.Name) (none_any unused c unused_long)

pub name_of_one : (w : List ℕ) → length w ≡ 1 → kinds.Name ≡ kind_of_name w
unfolding kind_of_name
name_of_one [] h = absurd (omega arith)
name_of_one (c ∷ []) h = sym (ap (λ o. unwrap_or o (plain_word (c ∷ []))) (none_spelled words c words_long) ∙ plain_one c)
name_of_one (c ∷ d ∷ w) h = absurd (omega arith)
