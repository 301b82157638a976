-- A stack whose last entry is moved on where it stands.
use Rattle.std.proofs.Common.{ℕ, ◌≡◌, ◌+◌, List, [], ◌∷◌, ◌++◌, Result, Ok, Err, OnOk, ap, sym, ◌∙◌, arith, length, drop, reverse, set, length-append, slice_index_or}
use Rattle.std.proofs.lemmas.List.{get_or_push, reverse-append}
use Rattle.std.proofs.Math.Seq.{set-append_seam}
use Rattle.sv_stack.specs.declared.frames.Frame.{Frame}
use Rattle.sv_stack.specs.Frames.{ends_in, ends_of, passed, passed_in}
use Rattle.sv_stack.proofs.FrameLemmas.{last_of}

-- the entry that stands last comes first, and so does what is put into its place
pub record Replaced (xs : List Frame) (n : ℕ) (f g : Frame) : Type 0 where
  pub before : reverse xs ≡ f ∷ drop 1 (reverse xs)
  pub after : reverse (set xs n g) ≡ g ∷ drop 1 (reverse xs)

pub replaced : (xs : List Frame) (n : ℕ) (f g : Frame) → length xs ≡ n + 1 → f ≡ slice_index_or xs n f → Replaced xs n f g
replaced [] n f g h e = absurd (omega arith)
replaced (x ∷ xs) n f g h e =
    let l = last_of x xs in
    let counted : length (x ∷ xs) ≡ length (l.0 ++ l.1 ∷ []) = ap length l.2 in
    let more : length (l.0 ++ l.1 ∷ []) ≡ length l.0 + 1 = length-append l.0 (l.1 ∷ []) in
    let place : length l.0 ≡ n = omega arith in
    let same : f ≡ l.1 = e ∙ ap (λ u. slice_index_or u n f) l.2 ∙ get_or_push l.0 l.1 f n place in
    let first : (y : Frame) → reverse (l.0 ++ y ∷ []) ≡ y ∷ reverse l.0 = λ y. reverse-append l.0 (y ∷ []) in
    let rest : drop 1 (reverse (x ∷ xs)) ≡ reverse l.0 = ap (λ u. drop 1 (reverse u)) l.2 ∙ ap (drop 1) (first l.1) in
    record {
      before = ap reverse l.2 ∙ first l.1 ∙ ap (λ y. y ∷ reverse l.0) (sym same) ∙ ap (λ u. f ∷ u) (sym rest);
      after =
          ap (λ u. reverse (set u n g)) l.2 ∙ ap (λ k. reverse (set (l.0 ++ l.1 ∷ []) k g)) (sym place)
          ∙ ap reverse (set-append_seam l.0 l.1 [] g) ∙ first g ∙ ap (λ u. g ∷ u) (sym rest);
    }

-- as many entries end calls
pub ends_kept : (xs : List Frame) (n : ℕ) (f g : Frame) → length xs ≡ n + 1 → f ≡ slice_index_or xs n f → ends_in g ≡ ends_in f
    → ends_of (reverse xs) ≡ ends_of (reverse (set xs n g))
ends_kept xs n f g h e same =
    let r = replaced xs n f g h e in
    ap ends_of r.before ∙ ap (λ k. k + ends_of (drop 1 (reverse xs))) (sym same) ∙ sym (ap ends_of r.after)

-- the stack is moved on
pub moved_on : {A E : Type 0} (r : Result A E) (xs : List Frame) (n : ℕ) (f g : Frame) → length xs ≡ n + 1 → f ≡ slice_index_or xs n f → OnOk r (g ≡ passed_in f)
    → OnOk r (reverse (set xs n g) ≡ passed (reverse xs))
moved_on (Ok b) xs n f g h e p =
    let r = replaced xs n f g h e in
    r.after ∙ ap (λ u. u ∷ drop 1 (reverse xs)) p ∙ sym (ap passed r.before)
moved_on (Err m) xs n f g h e p = p
