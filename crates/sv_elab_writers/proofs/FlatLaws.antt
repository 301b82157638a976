-- What is met on the walk as one table and one list of numbered processes.
use Rattle.std.proofs.Common.{◌≡◌, Bor, ℕ, suc, ◌+◌, List, [], ◌∷◌, ◌++◌, length, map, refl, sym, ap, ◌∙◌, append_assoc, append-nil, arith}
use Rattle.std.proofs.lemmas.List.{map-append, length-append, length-map}
use Rattle.sv_names.specs.Types.{Path}
use Rattle.sv_names.specs.Writers.{Touch}
use Rattle.sv_names.specs.Writers as writers
use Rattle.sv_names.specs.Sources as sources
use Rattle.sv_names.specs.Sources.{numbered}
use Rattle.sv_elab_writers.specs.declared.rows.Row.{Row}
use Rattle.sv_elab_writers.specs.declared.rows.Source.{Source}
use Rattle.sv_elab_writers.specs.declared.touch.Process.{Process}
use Rattle.sv_elab_writers.specs.declared.touch.Touch.{Touch as Held}
use Rattle.sv_elab_writers.specs.Views.{touch_in, process_in, row_in, source_in}

-- what is put into the table in a turn is what the rest begins with
pub rows_turn : (rs qs : List Row) (xs ys : List (Path × List Touch)) → map row_in qs ≡ map row_in rs ++ xs
    → map row_in qs ++ ys ≡ map row_in rs ++ (xs ++ ys)
rows_turn rs qs xs ys a = ap (λ l. l ++ ys) a ∙ append_assoc (map row_in rs) xs ys

-- one subroutine more
pub row_turn : (rs qs : List Row) (r : Row) (ys : List (Path × List Touch)) → qs ≡ rs ++ r ∷ []
    → map row_in qs ++ ys ≡ map row_in rs ++ (row_in r ∷ ys)
row_turn rs qs r ys is = rows_turn rs qs (row_in r ∷ []) ys (ap (map row_in) is ∙ map-append row_in rs (r ∷ []))

-- the last turn has put all into the table
pub all_rows : (rs qs : List Row) (xs : List (Path × List Touch)) → map row_in qs ++ [] ≡ map row_in rs ++ xs
    → map row_in qs ≡ map row_in rs ++ xs
all_rows rs qs xs is = sym (append-nil (map row_in qs)) ∙ is

-- processes behind others are numbered behind them
numbered-append : (k : ℕ) (ps qs : List sources.Process) → numbered k (ps ++ qs) ≡ numbered k ps ++ numbered (k + length ps) qs
numbered-append k [] qs = ap (λ n. numbered n qs) (omega arith)
numbered-append k (p ∷ ps) qs =
    ap (λ l. record { process = k; writer = p.writer; touches = p.touches } ∷ l)
    (numbered-append (suc k) ps qs ∙ ap (λ n. numbered (suc k) ps ++ numbered n qs) (omega arith))

length-numbered : (k : ℕ) (ps : List sources.Process) → length (numbered k ps) ≡ length ps
length-numbered k [] = refl
length-numbered k (p ∷ ps) = ap suc (length-numbered (suc k) ps)

-- processes, and those behind them
pub sources_turn : (as' bs : List Source) (ps qs : List sources.Process)
    → map source_in bs ≡ map source_in as' ++ numbered (length as') ps
    → map source_in bs ++ numbered (length bs) qs ≡ map source_in as' ++ numbered (length as') (ps ++ qs)
sources_turn as' bs ps qs is =
    let long : length bs ≡ length as' + length ps =
    sym (length-map bs source_in) ∙ ap length is ∙ length-append (map source_in as') (numbered (length as') ps)
    ∙ (λ i. length-map as' source_in i + length-numbered (length as') ps i) in
    (λ i. is i ++ numbered (long i) qs)
    ∙ append_assoc (map source_in as') (numbered (length as') ps) (numbered (length as' + length ps) qs)
    ∙ ap (λ l. map source_in as' ++ l) (sym (numbered-append (length as') ps qs))

-- a process, and those behind it
pub source_turn : (as' bs : List Source) (s : Source) (p : sources.Process) (qs : List sources.Process)
    → bs ≡ as' ++ s ∷ [] → source_in s ≡ record { process = length as'; writer = p.writer; touches = p.touches }
    → map source_in bs ++ numbered (length bs) qs ≡ map source_in as' ++ numbered (length as') (p ∷ qs)
source_turn as' bs s p qs is told =
    sources_turn as' bs (p ∷ []) qs
    (ap (map source_in) is ∙ map-append source_in as' (s ∷ []) ∙ ap (λ n. map source_in as' ++ n ∷ []) told)

-- a process with its number
pub source_made : (p : Process) (n m : ℕ) (touches : Bor (List Held)) → n ≡ m → touches.now ≡ p.touches
    → source_in (record { process = n; writer = p.writer; touches = touches })
    ≡ record { process = m; writer = (process_in p).writer; touches = (process_in p).touches }
source_made p n m touches number same =
    λ i. record { process = number i; writer = (process_in p).writer; touches = map touch_in (same i) }

-- the last turn has all
pub all_sources : (as' bs : List Source) (xs : List writers.Source) → map source_in bs ++ [] ≡ map source_in as' ++ xs
    → map source_in bs ≡ map source_in as' ++ xs
all_sources as' bs xs is = sym (append-nil (map source_in bs)) ∙ is
