-- The first of several faults does not depend on how they are grouped.
use Rattle.std.proofs.Common.{ℕ, ◌≡◌, Bool, true, false, ◌&&◌, ◌||◌, arith, rules, refl, sym, ◌∙◌}
use Rattle.std.specs.Prelude.{nat_lt, ◌==◌}
use Rattle.sv_names.specs.declared.checked.Fault.{Fault}
use Rattle.sv_names.specs.Checked.{comes_before, earlier}

-- a number, and what decides where it is the same
abbrev lex : ℕ → ℕ → Bool → Bool
lex a b p = nat_lt a b || ((a == b) && p)

lex_both : (a b c : ℕ) (p q r : Bool) → (p ≡ true → q ≡ true → r ≡ true) → lex a b p ≡ true → lex b c q ≡ true → lex a c r ≡ true
lex_both a b c p q r h x y = grind arith

lex_neither : (a b c : ℕ) (p q r : Bool) → (p ≡ false → q ≡ false → r ≡ false) → lex a b p ≡ false → lex b c q ≡ false → lex a c r ≡ false
lex_neither a b c p q r h x y = grind arith

-- the order of faults, one number after another
abbrev by_numbers : (f g : Fault) → Bool
by_numbers f g = lex f.at.file g.at.file (lex f.at.line g.at.line (lex f.at.col g.at.col (nat_lt f.rule g.rule)))

same_order : (f g : Fault) → by_numbers f g ≡ comes_before f g
same_order f g = grind arith

below_both : (a b c : ℕ) → nat_lt a b ≡ true → nat_lt b c ≡ true → nat_lt a c ≡ true
below_both a b c x y = grind arith

below_neither : (a b c : ℕ) → nat_lt a b ≡ false → nat_lt b c ≡ false → nat_lt a c ≡ false
below_neither a b c x y = grind arith

numbers_both : (f g h : Fault) → by_numbers f g ≡ true → by_numbers g h ≡ true → by_numbers f h ≡ true
numbers_both f g h =
    lex_both f.at.file g.at.file h.at.file (lex f.at.line g.at.line (lex f.at.col g.at.col (nat_lt f.rule g.rule)))
    (lex g.at.line h.at.line (lex g.at.col h.at.col (nat_lt g.rule h.rule)))
    (lex f.at.line h.at.line (lex f.at.col h.at.col (nat_lt f.rule h.rule)))
    (lex_both f.at.line g.at.line h.at.line (lex f.at.col g.at.col (nat_lt f.rule g.rule))
    (lex g.at.col h.at.col (nat_lt g.rule h.rule)) (lex f.at.col h.at.col (nat_lt f.rule h.rule))
    (lex_both f.at.col g.at.col h.at.col (nat_lt f.rule g.rule) (nat_lt g.rule h.rule) (nat_lt f.rule h.rule)
    (below_both f.rule g.rule h.rule)))

numbers_neither : (f g h : Fault) → by_numbers f g ≡ false → by_numbers g h ≡ false → by_numbers f h ≡ false
numbers_neither f g h =
    lex_neither f.at.file g.at.file h.at.file (lex f.at.line g.at.line (lex f.at.col g.at.col (nat_lt f.rule g.rule)))
    (lex g.at.line h.at.line (lex g.at.col h.at.col (nat_lt g.rule h.rule)))
    (lex f.at.line h.at.line (lex f.at.col h.at.col (nat_lt f.rule h.rule)))
    (lex_neither f.at.line g.at.line h.at.line (lex f.at.col g.at.col (nat_lt f.rule g.rule))
    (lex g.at.col h.at.col (nat_lt g.rule h.rule)) (lex f.at.col h.at.col (nat_lt f.rule h.rule))
    (lex_neither f.at.col g.at.col h.at.col (nat_lt f.rule g.rule) (nat_lt g.rule h.rule) (nat_lt f.rule h.rule)
    (below_neither f.rule g.rule h.rule)))

-- a fault before another one, which is before a third
both_before : (f g h : Fault) → comes_before f g ≡ true → comes_before g h ≡ true → comes_before f h ≡ true
both_before f g h x y = sym (same_order f h) ∙ numbers_both f g h (same_order f g ∙ x) (same_order g h ∙ y)

neither_before : (f g h : Fault) → comes_before f g ≡ false → comes_before g h ≡ false → comes_before f h ≡ false
neither_before f g h x y = sym (same_order f h) ∙ numbers_neither f g h (same_order f g ∙ x) (same_order g h ∙ y)

-- three faults, by who comes before whom
by_order : (f g h : Fault) (a b c : Bool)
    → comes_before g f ≡ a → comes_before h g ≡ b → comes_before h f ≡ c
    → (b ≡ true → a ≡ true → c ≡ true) → (b ≡ false → a ≡ false → c ≡ false)
    → earlier (earlier f g) h ≡ earlier f (earlier g h)
by_order f g h true true true x y z t n = grind rules
by_order f g h true true false x y z t n = grind rules
by_order f g h true false c x y z t n = grind rules
by_order f g h false true c x y z t n = grind rules
by_order f g h false false true x y z t n = grind rules
by_order f g h false false false x y z t n = grind rules

pub earlier_assoc : (f g h : Fault) → earlier (earlier f g) h ≡ earlier f (earlier g h)
earlier_assoc f g h = by_order f g h (comes_before g f) (comes_before h g) (comes_before h f) refl refl refl (both_before h g f) (neither_before h g f)
