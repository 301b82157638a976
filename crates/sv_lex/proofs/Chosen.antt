-- The longest token, from the longest prefix of each form.
use Rattle.std.proofs.Common.{◌≡◌, ℕ, zero, suc, ◌<◌, ◌≤◌, max, Bool, true, false, cond, ◌||◌, eqb, List, [], ◌∷◌, length, take, refl, sym, ap, ◌∙◌, arith}
use Rattle.std.specs.Prelude.{Option, Some, None, is_some}
use Rattle.sv_tree.specs.declared.kind.Kind.{Kind}
use Rattle.sv_tree.specs.declared.kind.Kind.TheVariants as kinds
use Rattle.sv_tree.specs.Longest.{longest}
use Rattle.sv_tree.specs.Tokens.{is_after, is_plain_number, is_filling_number, is_based_number, is_sized_number, is_name, is_system_name, is_number, is_time, is_one_step, is_string, is_escape, is_spelled, spelled, signs, kind_of, kind_of_name, is_word}
use Rattle.std.specs.Prelude.{if◌then◌else◌, codes, nat_eq}
use Rattle.std.specs.List.{starts_with}
use Rattle.std.proofs.lemmas.Bool.{lt-ltb, le-ltb}
use Rattle.sv_tree.specs.declared.token.Refused.{Refused}
use Rattle.sv_tree.specs.declared.token.Refused.TheVariants as refused
use Rattle.sv_tree.specs.declared.token.Piece.{Piece}
use Rattle.sv_tree.specs.declared.token.Piece.TheVariants as pieces
use Rattle.sv_tree.specs.Directives.{timescale_at, nettype_at}
use Rattle.sv_tree.specs.Lexing.{is_token, is_separator, piece_at, token_piece, directive_piece, no_token}
use Rattle.sv_lex.specs.Choosing.{chosen}
use Rattle.sv_lex.proofs.Prefixes.{longest-same, longest-or, longest-passes}

some_cond : (b : Bool) (k : Kind) (o : Option Kind) (t : Bool) → is_some o ≡ t → is_some (cond b (Some k) o) ≡ (b || t)
some_cond true k o t e = refl
some_cond false k o t e = e

some_spelled : (xs : List (List ℕ × Kind)) (w : List ℕ) → is_some (spelled xs w) ≡ is_spelled xs w
unfolding spelled is_spelled
some_spelled [] w = refl
some_spelled (x ∷ xs) w = some_cond (is_word x.0 w) x.1 (spelled xs w) (is_spelled xs w) (some_spelled xs w)

token_is : (w : List ℕ) → is_token w ≡ (is_name w || (is_system_name w || (is_number w || (is_time w || (is_one_step w || (is_string is_escape w || is_spelled signs w))))))
unfolding is_token kind_of
token_is w =
    some_cond (is_name w) _ _ _ (some_cond (is_system_name w) _ _ _ (some_cond (is_number w) _ _ _ (some_cond (is_time w) _ _ _ (some_cond (is_one_step w) _ _ _
    (some_cond (is_string is_escape w) _ _ _ (some_spelled signs w))))))

pub longest_token : (s : List ℕ)
    → longest is_token s ≡ max (longest is_name s) (max (longest is_system_name s) (max (longest is_number s) (max (longest is_time s) (max (longest is_one_step s)
    (max (longest (is_string is_escape) s) (longest (is_spelled signs) s))))))
longest_token s =
    longest-same is_token (λ w. is_name w || (is_system_name w || (is_number w || (is_time w || (is_one_step w || (is_string is_escape w || is_spelled signs w)))))) token_is s
    ∙ longest-or is_name (λ w. is_system_name w || (is_number w || (is_time w || (is_one_step w || (is_string is_escape w || is_spelled signs w))))) s
    ∙ ap (max (longest is_name s)) (longest-or is_system_name (λ w. is_number w || (is_time w || (is_one_step w || (is_string is_escape w || is_spelled signs w)))) s
    ∙ ap (max (longest is_system_name s)) (longest-or is_number (λ w. is_time w || (is_one_step w || (is_string is_escape w || is_spelled signs w))) s
    ∙ ap (max (longest is_number s)) (longest-or is_time (λ w. is_one_step w || (is_string is_escape w || is_spelled signs w)) s
    ∙ ap (max (longest is_time s)) (longest-or is_one_step (λ w. is_string is_escape w || is_spelled signs w) s
    ∙ ap (max (longest is_one_step s)) (longest-or (is_string is_escape) (is_spelled signs) s)))))

-- the kind of a prefix that is as long as the longest of each form
pub kind_chosen : (s : List ℕ) (n : ℕ) → longest is_token s ≤ n → 0 < n → n ≤ length s
    → kind_of (take n s) ≡ chosen n (take n s) (longest is_name s) (longest is_system_name s) (longest is_number s) (longest is_time s) (longest is_one_step s) (longest (is_string is_escape) s)
unfolding kind_of
kind_chosen s n h k l =
    let most = longest_token s in
    let name = longest-passes is_name s n (omega (arith, most)) k l in
    let system = longest-passes is_system_name s n (omega (arith, most)) k l in
    let number = longest-passes is_number s n (omega (arith, most)) k l in
    let time = longest-passes is_time s n (omega (arith, most)) k l in
    let step = longest-passes is_one_step s n (omega (arith, most)) k l in
    let string = longest-passes (is_string is_escape) s n (omega (arith, most)) k l in
    λ i. cond (name i) (Some (kind_of_name (take n s))) (cond (system i) (Some kinds.SystemName) (cond (number i) (Some kinds.Number) (cond (time i) (Some kinds.TimeLiteral)
    (cond (step i) (Some kinds.OneStep) (cond (string i) (Some kinds.StringLiteral) (spelled signs (take n s)))))))

-- nothing is no token
pub kind_of_nothing : None ≡ kind_of []
unfolding kind_of is_name is_system_name is_after is_number is_plain_number is_filling_number is_based_number is_sized_number is_time is_one_step is_string spelled signs
kind_of_nothing = refl

pub number_of_nothing : false ≡ is_number []
unfolding is_number is_plain_number is_filling_number is_based_number is_sized_number is_after
number_of_nothing = refl

-- ---- the longest piece

pub piece_separator : (s : List ℕ) (n : ℕ) → n ≡ longest is_separator s → 0 < n → pieces.Passed n ≡ piece_at s
unfolding piece_at
piece_separator s n e h =
    ap (λ m. pieces.Passed m) e
    ∙ sym (ap (λ b. cond b (pieces.Passed (longest is_separator s)) (rest_at s)) (lt-ltb 0 (longest is_separator s) (omega arith)))
  where
    rest_at : List ℕ → Piece
    rest_at t =
        if starts_with nat_eq t (codes "/*") then pieces.Nothing refused.OpenComment
        else (if starts_with nat_eq t (codes "`") then directive_piece t (timescale_at t) (nettype_at t)
        else token_piece t (longest is_token t) (kind_of (take (longest is_token t) t)))

after_separator : (s : List ℕ) (n : ℕ) → n ≡ longest is_separator s → n ≤ 0
    → (if starts_with nat_eq s (codes "/*") then pieces.Nothing refused.OpenComment
    else (if starts_with nat_eq s (codes "`") then directive_piece s (timescale_at s) (nettype_at s)
    else token_piece s (longest is_token s) (kind_of (take (longest is_token s) s)))) ≡ piece_at s
unfolding piece_at
after_separator s n e h =
    sym (ap (λ b. cond b (pieces.Passed (longest is_separator s))
    (if starts_with nat_eq s (codes "/*") then pieces.Nothing refused.OpenComment
    else (if starts_with nat_eq s (codes "`") then directive_piece s (timescale_at s) (nettype_at s)
    else token_piece s (longest is_token s) (kind_of (take (longest is_token s) s)))))
    (le-ltb 0 (longest is_separator s) (omega arith)))

pub piece_comment : (s : List ℕ) (n : ℕ) (b : Bool) → n ≡ longest is_separator s → n ≤ 0 → b ≡ starts_with nat_eq s (codes "/*") → b ≡ true → pieces.Nothing refused.OpenComment ≡ piece_at s
piece_comment s n b e h f t =
    sym (ap (λ v. cond v (pieces.Nothing refused.OpenComment)
    (if starts_with nat_eq s (codes "`") then directive_piece s (timescale_at s) (nettype_at s)
    else token_piece s (longest is_token s) (kind_of (take (longest is_token s) s)))) (sym f ∙ t))
    ∙ after_separator s n e h

after_comment : (s : List ℕ) (n : ℕ) (b : Bool) → n ≡ longest is_separator s → n ≤ 0 → b ≡ starts_with nat_eq s (codes "/*") → b ≡ false
    → (if starts_with nat_eq s (codes "`") then directive_piece s (timescale_at s) (nettype_at s)
    else token_piece s (longest is_token s) (kind_of (take (longest is_token s) s))) ≡ piece_at s
after_comment s n b e h f t =
    sym (ap (λ v. cond v (pieces.Nothing refused.OpenComment)
    (if starts_with nat_eq s (codes "`") then directive_piece s (timescale_at s) (nettype_at s)
    else token_piece s (longest is_token s) (kind_of (take (longest is_token s) s)))) (sym f ∙ t))
    ∙ after_separator s n e h

pub piece_directive : (s : List ℕ) (n : ℕ) (b d : Bool) (r : Piece) → n ≡ longest is_separator s → n ≤ 0 → b ≡ starts_with nat_eq s (codes "/*") → b ≡ false
    → d ≡ starts_with nat_eq s (codes "`") → d ≡ true → r ≡ directive_piece s (timescale_at s) (nettype_at s) → r ≡ piece_at s
piece_directive s n b d r e h f t g u k =
    k ∙ sym (ap (λ v. cond v (directive_piece s (timescale_at s) (nettype_at s)) (token_piece s (longest is_token s) (kind_of (take (longest is_token s) s)))) (sym g ∙ u))
    ∙ after_comment s n b e h f t

pub piece_token : (s : List ℕ) (n : ℕ) (b d : Bool) (r : Piece) (m : ℕ) (o : Option Kind) → n ≡ longest is_separator s → n ≤ 0 → b ≡ starts_with nat_eq s (codes "/*") → b ≡ false
    → d ≡ starts_with nat_eq s (codes "`") → d ≡ false → m ≡ longest is_token s → o ≡ kind_of (take m s) → r ≡ token_piece s m o → r ≡ piece_at s
piece_token s n b d r m o e h f t g u x y k =
    k ∙ ap (token_piece s m) y ∙ ap (λ l. token_piece s l (kind_of (take l s))) x
    ∙ sym (ap (λ v. cond v (directive_piece s (timescale_at s) (nettype_at s)) (token_piece s (longest is_token s) (kind_of (take (longest is_token s) s)))) (sym g ∙ u))
    ∙ after_comment s n b e h f t

pub piece_none : (s : List ℕ) (n : ℕ) (b d : Bool) (w : Refused) (m : ℕ) → n ≡ longest is_separator s → n ≤ 0 → b ≡ starts_with nat_eq s (codes "/*") → b ≡ false
    → d ≡ starts_with nat_eq s (codes "`") → d ≡ false → m ≡ longest is_token s → m ≡ 0 → w ≡ no_token s → pieces.Nothing w ≡ piece_at s
unfolding token_piece
piece_none s n b d w m e h f t g u x z k =
    piece_token s n b d (pieces.Nothing w) m None e h f t g u x (kind_of_nothing ∙ ap (λ l. kind_of (take l s)) (sym z)) (ap (λ v. pieces.Nothing v) k)

-- ---- what the code knows of the lengths

pub longest_is : (s : List ℕ) (name system number time step string sign m1 m2 m3 m4 m5 n : ℕ) → name ≡ longest is_name s → system ≡ longest is_system_name s → number ≡ longest is_number s
    → time ≡ longest is_time s → step ≡ longest is_one_step s → string ≡ longest (is_string is_escape) s → sign ≡ longest (is_spelled signs) s
    → m1 ≡ max string sign → m2 ≡ max step m1 → m3 ≡ max time m2 → m4 ≡ max number m3 → m5 ≡ max system m4 → n ≡ max name m5 → n ≡ longest is_token s
longest_is s name system number time step string sign m1 m2 m3 m4 m5 n a b c d e f g h1 h2 h3 h4 h5 h =
    h ∙ ap (max name) (h5 ∙ ap (max system) (h4 ∙ ap (max number) (h3 ∙ ap (max time) (h2 ∙ ap (max step) h1))))
    ∙ (λ i. max (a i) (max (b i) (max (c i) (max (d i) (max (e i) (max (f i) (g i)))))))
    ∙ sym (longest_token s)

some_number : (n : ℕ) → (n ≡ 0 → ⊥) → 0 < n
some_number zero z = absurd (z refl)
some_number (suc n) z = omega arith

pub chosen_is : (s : List ℕ) (n k name system number time step string : ℕ) (o : Option Kind) → name ≡ longest is_name s → system ≡ longest is_system_name s → number ≡ longest is_number s
    → time ≡ longest is_time s → step ≡ longest is_one_step s → string ≡ longest (is_string is_escape) s → n ≡ longest is_token s → (n ≡ 0 → ⊥) → n ≤ length s
    → o ≡ chosen n (take k s) name system number time step string → k ≡ n → o ≡ kind_of (take n s)
chosen_is s n k name system number time step string o a b c d e f m z l h x =
    h ∙ ap (λ j. chosen n (take j s) name system number time step string) x
    ∙ (λ i. chosen n (take n s) (a i) (b i) (c i) (d i) (e i) (f i))
    ∙ sym (kind_chosen s n (omega arith) (some_number n z) l)

pub number_passes : (s : List ℕ) (n number : ℕ) → number ≡ longest is_number s → n ≡ longest is_token s → (n ≡ 0 → ⊥) → n ≤ length s → nat_eq number n ≡ is_number (take n s)
number_passes s n number c m z l = ap (λ j. eqb j n) c ∙ sym (longest-passes is_number s n (omega (arith, longest_token s)) (some_number n z) l)
