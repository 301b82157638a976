-- What a target writes, where what its selects do stands behind it.
use Rattle.std.proofs.Common.{arith, ◌≡◌, ◌+◌, ◌-◌, List, [], ◌++◌, map, length, take, sym, ap, ◌∙◌}
use Rattle.std.proofs.lemmas.List.{length-map, length-append, take-map}
use Rattle.std.proofs.Math.Seq.{take-append_seam}
use Rattle.sv_names.specs.Writers as writers
use Rattle.sv_elab_writers.specs.declared.touch.Touch.{Touch}
use Rattle.sv_elab_writers.specs.Views.{touch_in}
use Rattle.sv_elab_touch.specs.Touched.{Touched}

-- the first of two parts
pub front_alone : (whole behind : List Touch) (xs ys : List writers.Touch) → Touched [] whole (xs ++ ys) → Touched [] behind ys
    → map touch_in (take (length whole - length behind) whole) ≡ xs
front_alone whole behind xs ys both last =
    let all : length whole ≡ length xs + length ys = sym (length-map whole touch_in) ∙ ap length both ∙ length-append xs ys in
    let rest : length behind ≡ length ys = sym (length-map behind touch_in) ∙ ap length last in
    let count : length whole - length behind ≡ length xs = omega (arith, all, rest) in
    sym (take-map touch_in (length whole - length behind) whole)
    ∙ (λ i. take (count i) (both i))
    ∙ take-append_seam xs ys
