-- What is answered about a file is exact, since what reading gives is.
use Rattle.std.proofs.Common.{◌≡◌, ℕ, Bool, true, false, cond, eqb, List, [], ◌∷◌, ◌++◌, Ok, Err, refl, sym, ap, subst, ◌∙◌, append_assoc, arith}
use Rattle.std.proofs.lemmas.List.{append-nil}
use Rattle.std.proofs.lemmas.Bool.{eqb-true}
use Rattle.sv_grammar.specs.Tokens.{Tok, mem, next}
use Rattle.sv_grammar.specs.Language.{Reads, TooDeep, Unexpected, Out, Answer}
use Rattle.sv_grammar.specs.Code.{info, least, reach}
use Rattle.sv_grammar.proofs.Codes.{exact, grammar}
use Rattle.sv_grammar.proofs.Whole.{complete}
use Rattle.sv_tree.specs.declared.kind.Kind.TheVariants as k
use Rattle.sv_tree.specs.Closed.{IsClosed}
use Rattle.sv_tree.specs.Codes.{code, toks}
use Rattle.sv_tree.specs.Forms.{Production, Value}
use Rattle.sv_tree.specs.Grammar.{heads, need, table, reads, texts_of}
use Rattle.sv_tree.specs.Descriptions.{Description}
use Rattle.sv_tree.specs.UnitGrammar.{file}
use Rattle.sv_tree.proofs.Good.{good, file_fine, file_least}
use Rattle.sv_parse.specs.Outcome.{Fails}
use Rattle.sv_parse.specs.Tells.{Names}
use Rattle.sv_parse.specs.declared.tokens.ReadError.{ReadError}
use Rattle.sv_parse.specs.declared.tokens.ReadError.TheVariants as errors
use Rattle.sv_parse.specs.declared.fault.SyntaxFault.{SyntaxFault}
use Rattle.sv_parse_unit.specs.Files.{AnswersUnits, TellsFault}

is_one : (n m : ℕ) → mem n (m ∷ []) ≡ true → n ≡ m
is_one n m h = go (eqb n m) refl h
  where
    go : (b : Bool) → eqb n m ≡ b → cond b true false ≡ true → n ≡ m
    go true e h = eqb-true n m e
    go false e h = absurd cc

file_exact : (d : ℕ) (ts : List Tok) → Answer (texts_of file) d ts (reads d file ts)
file_exact d ts = exact Production Value heads need table good file file_fine d (omega (arith, file_least)) ts

-- what is spelled is read
pub file_only : (d : ℕ) (us : List Description) (ts : List Tok) → Reads (texts_of file) d ts us [] → reads d file ts ≡ Ok (us, [])
file_only d us ts r = complete (texts_of file) (info Production Value heads need file) (λ e. reach (least Production Value heads need file) e) (grammar Production Value heads need table good file file_fine) d ts (reads d file ts) (file_exact d ts) us r.prefix [] r.parts r.word r.stops

-- ---- nothing follows the end

closed_rest : (f : List Tok) (e : Tok) (rest : List Tok) → e.code ≡ code k.EndOfText → IsClosed (f ++ e ∷ rest) → rest ≡ []
closed_rest [] e [] q c = refl
closed_rest [] e (t ∷ rest) q c = absurd (c.0 q)
closed_rest (t ∷ []) e rest q c = closed_rest [] e rest q c.1
closed_rest (t ∷ u ∷ f) e rest q c = closed_rest (u ∷ f) e rest q c.1

file_ends : (d : ℕ) (us : List Description) (u : List Tok) (n : Tok) → texts_of file d us u n → (f : List Tok) × (e : Tok) × (u ≡ f ++ e ∷ []) × (e.code ≡ code k.EndOfText)
unfolding file
file_ends d us u n w =
    let parts = w.one in
    let last = parts.two in
    let right : parts.right ≡ last.value ∷ [] = last.parts ∙ (ap (λ (v : List Tok). v ++ last.right) last.one.0 ∙ ap (λ (v : List Tok). last.value ∷ v) last.two.1) in
    let left : w.left ≡ parts.left ++ last.value ∷ [] = parts.parts ∙ ap (λ (v : List Tok). parts.left ++ v) right in
    (parts.left, last.value, w.parts ∙ (ap (λ (v : List Tok). w.left ++ v) w.two.1 ∙ (append-nil w.left ∙ left)), is_one last.value.code (code k.EndOfText) last.one.1)

-- units that were read are spelled by all the tokens
pub file_found : (d : ℕ) (us : List Description) (ts rest : List Tok) → IsClosed ts → reads d file ts ≡ Ok (us, rest) → Reads (texts_of file) d ts us []
file_found d us ts rest closed e = go (subst (Answer (texts_of file) d ts) e (file_exact d ts))
  where
    go : Reads (texts_of file) d ts us rest → Reads (texts_of file) d ts us []
    go r =
        let x = file_ends d us r.prefix (next rest) r.word in
        let parts : ts ≡ x.0 ++ x.1 ∷ rest = r.parts ∙ (ap (λ (v : List Tok). v ++ rest) x.2 ∙ append_assoc x.0 (x.1 ∷ []) rest) in
        let nil : rest ≡ [] = closed_rest x.0 x.1 rest x.3 (subst IsClosed parts closed) in
        subst (λ (v : List Tok). Reads (texts_of file) d ts us v) nil r

-- ---- the answers

abbrev pub got : List Description → List Tok → Out (List Description)
got us ts = Ok (us, ts)

-- the units that were read
abbrev pub units_of : Out (List Description) → List Description
units_of (Ok x) = x.0
units_of (Err m) = []

-- there is one reading
pub units_only : (d : ℕ) (us vs : List Description) (ts rest : List Tok) → reads d file ts ≡ Ok (vs, rest) → Reads (texts_of file) d ts us [] → vs ≡ us
units_only d us vs ts rest e r = ap units_of (sym e ∙ file_only d us ts r)

-- a fault has no reading
pub fault_only : (d : ℕ) (us : List Description) (ts : List Tok) (e : ReadError) (fault : SyntaxFault) → Fails e (reads d file ts) → Names e fault → Reads (texts_of file) d ts us [] → AnswersUnits us (Err fault)
fault_only d us ts errors.Memory fault f n r = subst (λ (q : SyntaxFault). AnswersUnits us (Err q)) (sym n) tt
fault_only d us ts (errors.TooDeep rest) fault f n r = absurd (let no : got us [] ≡ Err (TooDeep (toks rest.now)) = sym (file_only d us ts r) ∙ f in cc)
fault_only d us ts (errors.Unexpected rest) fault f n r = absurd (let no : got us [] ≡ Err (Unexpected (toks rest.now)) = sym (file_only d us ts r) ∙ f in cc)

-- a fault is told as it is
pub fault_told : (d : ℕ) (ts : List Tok) (e : ReadError) (fault : SyntaxFault) → Fails e (reads d file ts) → Names e fault → TellsFault d ts (Err fault)
fault_told d ts errors.Memory fault f n = subst (λ (q : SyntaxFault). TellsFault d ts (Err q)) (sym n) tt
fault_told d ts (errors.TooDeep rest) fault f n = subst (λ (q : SyntaxFault). TellsFault d ts (Err q)) (sym n) (toks rest.now, refl, subst (Answer (texts_of file) d ts) f (file_exact d ts))
fault_told d ts (errors.Unexpected rest) fault f n = subst (λ (q : SyntaxFault). TellsFault d ts (Err q)) (sym n) (toks rest.now, refl, subst (Answer (texts_of file) d ts) f (file_exact d ts))
