-- Words, files and limits have one saying.
use Rattle.std.proofs.Common.{ℕ, ◌≡◌, ◌+◌, ◌<◌, ◌≤◌, List, [], ◌∷◌, ◌++◌, Option, Some, None, refl, sym, ap, subst, ◌∙◌, arith}
use Rattle.std.specs.Prelude.{codes, length, map, nat_lt, if◌then◌else◌}
use Rattle.std.proofs.lemmas.Bool.Decides.{nat_tests}
use Rattle.std.proofs.lemmas.List.Sums.{sum_by-cons}
use Rattle.sv_flat.specs.declared.design.Parts.{Parts}
use Rattle.sv_simulate.specs.declared.front.FrontFault.{FrontFault}
use Rattle.sv_words.specs.declared.words.Limits.{Limits}
use Rattle.sv_simulate.specs.Said.{Said, SaysOn, Has, IsTurn, refused, runs, Says, usage, too_long, on_texts, line, refusal, said_of_run, run_of}
use Rattle.sv_simulate.specs.Source.{bytes_of}
use Rattle.sv_words.specs.Words.{Asked, asked}
use Rattle.sv_simulate.proofs.FaultLemmas.{one_fault, fault_or_design}
use Rattle.sv_simulate.proofs.SourceLemmas.{one_design}

module _ (a : Asked) (texts : List (List ℕ)) where
  abbrev refused_with : FrontFault → Said
  refused_with f = record { records = []; closing = refusal a.files f; status = 1 }

  abbrev run_with : Parts → Said
  run_with d = said_of_run a.files a.steps (run_of a.active a.steps d)

  one_on : (s t : Said) → SaysOn a texts s → SaysOn a texts t → s ≡ t
  one_on s t (refused f n e) (refused g m i) = ap refused_with (one_fault texts a.top f g e i n m)
  one_on s t (refused f n e) (runs d p) = absurd (n (fault_or_design texts a.top d f p e))
  one_on s t (runs d p) (refused f n e) = absurd (n (fault_or_design texts a.top d f p e))
  one_on s t (runs d p) (runs e q) = ap run_with (one_design texts a.top d e p q)

-- ---- the first file that is too long

-- a file, behind which so many bytes have been used, where it has this text
abbrev long_at : (limit used : ℕ) → (name : List ℕ) → (text : Option (List ℕ)) → (ℕ → Option (List ℕ)) → Option (List ℕ)
long_at limit used name None others = None
long_at limit used name (Some text) others = if nat_lt limit (used + length text) then Some name else others (used + length text)

goes_on : (limit used : ℕ) (name text : List ℕ) (others : ℕ → Option (List ℕ)) → used + length text ≤ limit
    → long_at limit used name (Some text) others ≡ others (used + length text)
goes_on limit used name text others h = grind (arith, nat_tests)

stops : (limit used : ℕ) (name text : List ℕ) (others : ℕ → Option (List ℕ)) → limit < used + length text
    → long_at limit used name (Some text) others ≡ Some name
stops limit used name text others h = grind (arith, nat_tests)

module _ (limit : ℕ) (files : List ℕ → Option (List ℕ)) where
  -- the first file that is too long, where so many bytes have been used
  abbrev first_long : (used : ℕ) → (names : List (List ℕ)) → Option (List ℕ)
  first_long used [] = None
  first_long used (name ∷ names) = long_at limit used name (files name) (λ more. first_long more names)

  passed : (used : ℕ) (name text : List ℕ) (names : List (List ℕ)) → files name ≡ Some text → used + length text ≤ limit
      → first_long used (name ∷ names) ≡ first_long (used + length text) names
  passed used name text names e h =
      ap (λ (t : Option (List ℕ)). long_at limit used name t (λ more. first_long more names)) e
      ∙ goes_on limit used name text (λ more. first_long more names) h

  -- a file that is too long at its turn
  at_turn : (used : ℕ) (before after fetched : List (List ℕ)) (name text : List ℕ) → map files before ≡ map Some fetched → files name ≡ Some text
      → used + bytes_of fetched ≤ limit → limit < used + bytes_of fetched + length text → first_long used (before ++ name ∷ after) ≡ Some name
  at_turn used [] after [] name text h e le lt =
      ap (λ (t : Option (List ℕ)). long_at limit used name t (λ more. first_long more after)) e
      ∙ stops limit used name text (λ more. first_long more after) (omega (arith, lt))
  at_turn used [] after (t ∷ ts) name text h e le lt = absurd (cc)
  at_turn used (n ∷ ns) after [] name text h e le lt = absurd (cc)
  at_turn used (n ∷ ns) after (t ∷ ts) name text h e le lt =
      let first : files n ≡ Some t = cc in
      let others : map files ns ≡ map Some ts = cc in
      let bytes = sum_by-cons length t ts in
      passed used n t (ns ++ name ∷ after) first (omega (arith, le, bytes))
      ∙ at_turn (used + length t) ns after ts name text others e (omega (arith, le, bytes)) (omega (arith, lt, bytes))

  -- files that are not too long together
  all_short : (used : ℕ) (names texts : List (List ℕ)) → map files names ≡ map Some texts → used + bytes_of texts ≤ limit → first_long used names ≡ None
  all_short used [] ts h le = refl
  all_short used (n ∷ ns) [] h le = absurd (cc)
  all_short used (n ∷ ns) (t ∷ ts) h le =
      let first : files n ≡ Some t = cc in
      let others : map files ns ≡ map Some ts = cc in
      let bytes = sum_by-cons length t ts in
      passed used n t ns first (omega (arith, le, bytes)) ∙ all_short (used + length t) ns ts others (omega (arith, le, bytes))

-- texts under the same names are the same
same_texts : (ts us : List (List ℕ)) → map Some ts ≡ map Some us → ts ≡ us
same_texts [] [] e = refl
same_texts [] (u ∷ us) e = absurd (cc)
same_texts (t ∷ ts) [] e = absurd (cc)
same_texts (t ∷ ts) (u ∷ us) e =
    let first : t ≡ u = cc in
    let others : map Some ts ≡ map Some us = cc in
    λ i. first i ∷ same_texts ts us others i

-- ---- what is said

module _ (l : Limits) (words : List (List ℕ)) (files : List ℕ → Option (List ℕ)) where
  one_asked : (a b : Asked) → asked l words ≡ Some a → asked l words ≡ Some b → a ≡ b
  one_asked a b e f = let both : Some a ≡ Some b = sym e ∙ f in cc

  long_by : (a : Asked) (name text : List ℕ) (turn : IsTurn (Some files) l.bytes a.files name) → files name ≡ Some text
      → l.bytes < bytes_of turn.fetched + length text → first_long l.bytes files 0 a.files ≡ Some name
  long_by a name text turn e h =
      ap (first_long l.bytes files 0) turn.parts
      ∙ at_turn l.bytes files 0 turn.before turn.after turn.fetched name text (turn.has.1 refl) e (omega (arith, turn.short)) (omega (arith, h))

  short_by : (a : Asked) (texts : List (List ℕ)) → Has (Some files) a.files texts → bytes_of texts ≤ l.bytes → first_long l.bytes files 0 a.files ≡ None
  short_by a texts has h = all_short l.bytes files 0 a.files texts (has.1 refl) (omega (arith, h))

  -- no file is too long, where none of them is
  not_long : (a b : Asked) (name : List ℕ) → a ≡ b → first_long l.bytes files 0 a.files ≡ Some name → first_long l.bytes files 0 b.files ≡ None → ⊥
  not_long a b name e f g =
      let no : Some name ≡ None = sym f ∙ ap (λ (x : Asked). first_long l.bytes files 0 x.files) e ∙ g in cc

  abbrev said_long : List ℕ → Said
  said_long name = record { records = []; closing = line (name ++ codes ": too long"); status = 5 }

  one_long : (a b : Asked) (name other : List ℕ) → a ≡ b → first_long l.bytes files 0 a.files ≡ Some name
      → first_long l.bytes files 0 b.files ≡ Some other → said_long name ≡ said_long other
  one_long a b name other e f g =
      let both : Some name ≡ Some other = sym f ∙ ap (λ (x : Asked). first_long l.bytes files 0 x.files) e ∙ g in
      let same : name ≡ other = cc in
      ap said_long same

  -- two lists of texts of the same files are one, and so is what is said on them
  on_one : (s t : Said) (a b : Asked) (texts others : List (List ℕ)) → a ≡ b → Has (Some files) a.files texts → Has (Some files) b.files others
      → SaysOn a texts s → SaysOn b others t → s ≡ t
  on_one s t a b texts others e f g p q =
      let same : texts ≡ others = same_texts texts others (sym (f.1 refl) ∙ ap (λ (x : Asked). map files x.files) e ∙ g.1 refl) in
      one_on b others s t (subst (λ (u : List (List ℕ)). SaysOn b u s) same (subst (λ (x : Asked). SaysOn x texts s) e p)) q

  pub one_said : (s t : Said) → Says l words (Some files) s → Says l words (Some files) t → s ≡ t
  one_said s t (usage e) (usage f) = refl
  one_said s t (usage e) (too_long b name text f w g k) = absurd (let both : None ≡ Some b = sym e ∙ f in cc)
  one_said s t (usage e) (on_texts b others f g k q) = absurd (let both : None ≡ Some b = sym e ∙ f in cc)
  one_said s t (too_long a name text e v h j) (usage f) = absurd (let both : None ≡ Some a = sym f ∙ e in cc)
  one_said s t (too_long a name text e v h j) (too_long b other more f w g k) =
      one_long a b name other (one_asked a b e f) (long_by a name text v (h refl) j) (long_by b other more w (g refl) k)
  one_said s t (too_long a name text e v h j) (on_texts b others f g k q) =
      absurd (not_long a b name (one_asked a b e f) (long_by a name text v (h refl) j) (short_by b others g k))
  one_said s t (on_texts a texts e h j p) (usage f) = absurd (let both : None ≡ Some a = sym f ∙ e in cc)
  one_said s t (on_texts a texts e h j p) (too_long b name text f w g k) =
      absurd (not_long b a name (one_asked b a f e) (long_by b name text w (g refl) k) (short_by a texts h j))
  one_said s t (on_texts a texts e h j p) (on_texts b others f g k q) = on_one s t a b texts others (one_asked a b e f) h g p q
