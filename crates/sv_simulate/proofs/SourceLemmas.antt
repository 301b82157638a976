-- Texts have one reading at most, and so one design or one fault.
use Rattle.std.proofs.Common.{ℕ, ◌≡◌, ◌≤◌, ◌+◌, ◌-◌, length, take, drop, get_or, arith, List, [], ◌∷◌, ◌++◌, Option, Result, Ok, Err, refl, sym, ap, subst, ◌∙◌, append_assoc, inl, inr}
use Rattle.sv_value.specs.declared.place.Place.{Place}
use Rattle.std.specs.Prelude.{Vec, IfOk, IfErr, OnOk}
use Rattle.std.specs.Global.{Global}
use Rattle.std.proofs.lemmas.List.{take_rest}
use Rattle.sv_grammar.specs.Language.{Reads, Out}
use Rattle.sv_tree.specs.declared.token.Token.{Token}
use Rattle.sv_tree.specs.Grammar.{texts_of}
use Rattle.sv_tree.specs.Codes.{toks}
use Rattle.sv_tree.specs.Descriptions.{Description}
use Rattle.sv_tree.specs.UnitGrammar as grammar
use Rattle.sv_parse_unit.proofs.Exact.{file_only}
use Rattle.sv_flat.specs.declared.design.Parts.{Parts}
use Rattle.sv_simulate.specs.declared.front.FrontFault.{FrontFault}
use Rattle.sv_simulate.specs.declared.front.FrontFault.TheVariants as front
use Rattle.sv_names.specs.declared.checked.Checked.TheVariants.{Good}
use Rattle.sv_names.specs.Design.{elaborated}
use Rattle.sv_simulate.specs.Source.{IsParsed, AreParsed, FirstUnread, IsSource, IsDesign, Declines, Explains, contents, scales_of}
use Rattle.sv_tree.specs.Depth.{most_depth}

-- the units that are read
abbrev units_read : Out (List Description) → List Description
units_read (Ok x) = x.0
units_read (Err e) = []

-- a text spells one list of units at most
pub one_reading : (file : ℕ) (text : List ℕ) (us vs : List Description) → IsParsed file text us → IsParsed file text vs → us ≡ vs
one_reading file text us vs p q =
    let spells : Reads (texts_of grammar.file) most_depth (toks p.tokens) vs [] = subst (λ (ts : List Token). Reads (texts_of grammar.file) most_depth (toks ts) vs []) (q.lexes.same ∙ sym p.lexes.same) q.spells in
    ap units_read (sym (file_only most_depth us (toks p.tokens) p.spells) ∙ file_only most_depth vs (toks p.tokens) spells)

-- and so do texts
pub one_parse : (file : ℕ) (texts : List (List ℕ)) (us vs : List Description) → AreParsed file texts us → AreParsed file texts vs → us ≡ vs
one_parse file [] us vs p q = p ∙ sym q
one_parse file (text ∷ texts) us vs p q =
    let first = one_reading file text p.0 q.0 p.2 q.2 in
    let others = one_parse (file + 1) texts p.1 q.1 p.3 q.3 in
    p.4 ∙ (λ i. first i ++ others i) ∙ sym q.4

-- the first text, and those behind it
pub first_and_others : (texts : List (Vec ℕ Global)) (text : Vec ℕ Global) → 1 ≤ length texts → text ≡ get_or texts 0 text
    → contents texts ≡ text.items ∷ contents (take (length texts - 1) (drop 1 texts))
first_and_others [] text h e = absurd (omega arith)
first_and_others (t ∷ ts) text h e =
    ap (λ (us : List (Vec ℕ Global)). t.items ∷ contents us) (sym (take_rest (t ∷ ts) 1))
    ∙ ap (λ (u : Vec ℕ Global). u.items ∷ contents (take (length (t ∷ ts) - 1) (drop 1 (t ∷ ts)))) (sym e)

-- one more text before texts that are read
pub more_parsed : (file : ℕ) (texts others : List (List ℕ)) (text : List ℕ) (before between after : List Description) → texts ≡ text ∷ others
    → ((us : List Description) × IsParsed file text us × (between ≡ before ++ us))
    → ((us : List Description) × AreParsed (file + 1) others us × (after ≡ between ++ us))
    → (us : List Description) × AreParsed file texts us × (after ≡ before ++ us)
more_parsed file texts others text before between after e p q =
    subst (λ (ts : List (List ℕ)). (us : List Description) × AreParsed file ts us × (after ≡ before ++ us)) (sym e)
    (p.0 ++ q.0, (p.0, q.0, p.1, q.1, refl), q.2 ∙ ap (λ (us : List Description). us ++ q.0) p.2 ∙ append_assoc before p.0 q.0)

pub on_ok : {T E : Type 0} (r : Result T E) (P Q : Type 0) → (P → Q) → OnOk r P → OnOk r Q
on_ok (Ok x) P Q f p = f p
on_ok (Err e) P Q f p = tt

pub one_design : (texts : List (List ℕ)) (top : Option (List ℕ)) (d e : Parts) → IsSource texts top d → IsSource texts top e → d ≡ e
one_design texts top d e p q =
    let same : Good d ≡ Good e = sym p.design ∙ ap (λ us. elaborated us (scales_of 0 texts) top) (one_parse 0 texts p.units q.units p.parsed q.parsed) ∙ q.design in
    cc

module _ (texts : List (List ℕ)) (top : Option (List ℕ)) (us : List Description) (parsed : AreParsed 0 texts us) where
  -- why the units have no design is why the texts have none
  explained : (e : FrontFault) → Declines (scales_of 0 texts) us top e → Explains texts top e
  explained (front.Lexical at kind) f = absurd f
  explained (front.Syntax at kind) f = absurd f
  explained (front.Rule n at) f = record { units = us; parsed = parsed; fault = f }
  explained front.NotYet f = record { units = us; parsed = parsed; parts = f.0; design = f.1; other = f.2 }
  explained front.Memory f = tt

  -- the design of the units is that of the texts
  designed : (d : Parts) → IsDesign (scales_of 0 texts) us top d → IsSource texts top d
  designed d p = record { units = us; parsed = parsed; design = p.design; built = p.built }

  pub all_designed : (r : Result Parts FrontFault) → IfOk r (IsDesign (scales_of 0 texts) us top) → IfOk r (IsSource texts top)
  all_designed (Ok d) h = designed d h
  all_designed (Err e) h = tt

  pub all_explained : {T : Type 0} (r : Result T FrontFault) → IfErr r (Declines (scales_of 0 texts) us top) → IfErr r (Explains texts top)
  all_explained (Ok x) h = tt
  all_explained (Err e) h = explained e h

-- ---- texts that spell no units

no_unread : (file : ℕ) (texts : List (List ℕ)) (n : ℕ) (at : Place) → FirstUnread file texts (front.Rule n at) → ⊥
no_unread file [] n at u = u
no_unread file (text ∷ texts) n at (inl u) = u
no_unread file (text ∷ texts) n at (inr v) = no_unread (file + 1) texts n at v.2

no_other : (file : ℕ) (texts : List (List ℕ)) → FirstUnread file texts front.NotYet → ⊥
no_other file [] u = u
no_other file (text ∷ texts) (inl u) = u
no_other file (text ∷ texts) (inr v) = no_other (file + 1) texts v.2

-- why the first that spells no units spells none is why the texts have no design
pub unread : (texts : List (List ℕ)) (top : Option (List ℕ)) (e : FrontFault) → FirstUnread 0 texts e → Explains texts top e
unread texts top (front.Lexical at kind) u = u
unread texts top (front.Syntax at kind) u = u
unread texts top (front.Rule n at) u = absurd (no_unread 0 texts n at u)
unread texts top front.NotYet u = absurd (no_other 0 texts u)
unread texts top front.Memory u = tt
