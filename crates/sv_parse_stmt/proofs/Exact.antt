-- What the code answers is exact, since what reading gives is.
use Rattle.std.proofs.Common.{◌≡◌, ℕ, ◌+◌, ◌-◌, ◌≤◌, true, List, [], length, drop, Ok, Err, refl, sym, ap, subst, ◌∙◌, arith}
use Rattle.std.proofs.Math.Seq.{drop-append_seam}
use Rattle.std.proofs.lemmas.List.{drop-drop, drop-map, length-append, length-drop}
use Rattle.sv_grammar.specs.Tokens.{Tok}
use Rattle.sv_grammar.specs.Language.{Lang, Reads, Out, Answer}
use Rattle.sv_grammar.specs.Code.{fine, info, least, reach}
use Rattle.sv_grammar.proofs.Codes.{exact, grammar}
use Rattle.sv_grammar.proofs.Whole.{complete}
use Rattle.sv_tree.specs.declared.token.Token.{Token}
use Rattle.sv_tree.specs.Codes.{tok, toks}
use Rattle.sv_tree.specs.Forms.{Production, Value, C}
use Rattle.sv_tree.specs.Grammar.{heads, need, table, reads, texts_of}
use Rattle.sv_tree.proofs.Good.{good}
use Rattle.sv_parse.specs.Outcome.{Fails}
use Rattle.sv_parse.specs.Tells.{ReadsTo, Tells, Names}
use Rattle.sv_parse.specs.declared.tokens.ReadError.{ReadError}
use Rattle.sv_parse.specs.declared.tokens.ReadError.TheVariants as errors
use Rattle.sv_parse.specs.declared.fault.SyntaxFault.{SyntaxFault}
use Rattle.sv_parse.proofs.Loops.{toks_length}
use Rattle.sv_parse_expr.specs.Answers.{Answers}

-- a tree that was read ends so many tokens before the end
reads_to : {Y : Type 0} (l : ℕ → Lang Y) (d : ℕ) (ts : List Tok) (from : ℕ) (y : Y) (rest : List Tok) → from ≤ length ts → Answer l d (drop from ts) (Ok (y, rest)) → ReadsTo l d ts from y (length ts - length rest)
reads_to l d ts from y rest le r =
    let parts : length (drop from ts) ≡ length r.prefix + length rest = ap length r.parts ∙ length-append r.prefix rest in
    let all : length (drop from ts) ≡ length ts - from = length-drop from ts in
    let end : length ts - length rest ≡ from + length r.prefix = omega arith in
    let at : drop (length ts - length rest) ts ≡ rest = ap (λ (n : ℕ). drop n ts) end ∙ sym (drop-drop (length r.prefix) from ts) ∙ ap (drop (length r.prefix)) r.parts ∙ drop-append_seam r.prefix rest in
    record {
      after = omega arith;
      within = omega arith;
      reads = subst (λ (v : List Tok). Reads l d (drop from ts) y v) (sym at) r;
    }

-- a fault is told as it is
tells_fault : {X Y : Type 0} (view : X → Y) (l : ℕ → Lang Y) (d : ℕ) (ts : List Tok) (from : ℕ) (e : ReadError) (fault : SyntaxFault) (out : Out Y) → Answer l d (drop from ts) out → Fails e out → Names e fault → Tells view l d ts from (Err fault)
tells_fault view l d ts from errors.Memory fault out a f n = subst (λ (q : SyntaxFault). Tells view l d ts from (Err q)) (sym n) tt
tells_fault view l d ts from (errors.TooDeep rest) fault out a f n = subst (λ (q : SyntaxFault). Tells view l d ts from (Err q)) (sym n) (toks rest.now, refl, subst (Answer l d (drop from ts)) f a)
tells_fault view l d ts from (errors.Unexpected rest) fault out a f n = subst (λ (q : SyntaxFault). Tells view l d ts from (Err q)) (sym n) (toks rest.now, refl, subst (Answer l d (drop from ts)) f a)

-- of a production of which trees fit
module _ {Y : Type 0} (c : C Y) (passes : fine Production Value heads need c ≡ true) (d from : ℕ) (low : least Production Value heads need c ≤ d) (tokens : List Token) where
  code_exact : (ts : List Tok) → Answer (texts_of c) d ts (reads d c ts)
  code_exact ts = exact Production Value heads need table good c passes d low ts

  at_from : toks (drop from tokens) ≡ drop from (toks tokens)
  at_from = sym (drop-map tok from tokens)

  -- a tree that was read ends so many tokens before the end
  pub code_to : (rest : List Token) (y : Y) → from ≤ length tokens → reads d c (toks (drop from tokens)) ≡ Ok (y, toks rest) → ReadsTo (texts_of c) d (toks tokens) from y (length tokens - length rest)
  code_to rest y le e =
      let all : length (toks tokens) ≡ length tokens = toks_length tokens in
      let left : length (toks rest) ≡ length rest = toks_length rest in
      let a : Answer (texts_of c) d (drop from (toks tokens)) (Ok (y, toks rest)) = subst (λ (v : List Tok). Answer (texts_of c) d v (Ok (y, toks rest))) at_from (subst (Answer (texts_of c) d (toks (drop from tokens))) e (code_exact (toks (drop from tokens)))) in
      subst (ReadsTo (texts_of c) d (toks tokens) from y) (ap (λ (n : ℕ). n - length (toks rest)) all ∙ ap (λ (n : ℕ). length tokens - n) left) (reads_to (texts_of c) d (toks tokens) from y (toks rest) (omega arith) a)

  -- no more tokens are left than there were
  pub code_shorter : (rest : List Token) (y : Y) → reads d c (toks (drop from tokens)) ≡ Ok (y, toks rest) → length rest ≤ length tokens
  code_shorter rest y e =
      let r = subst (Answer (texts_of c) d (toks (drop from tokens))) e (code_exact (toks (drop from tokens))) in
      let parts : length (toks (drop from tokens)) ≡ length r.prefix + length (toks rest) = ap length r.parts ∙ length-append r.prefix (toks rest) in
      let all : length (toks (drop from tokens)) ≡ length (drop from tokens) = toks_length (drop from tokens) in
      let some : length (drop from tokens) ≡ length tokens - from = length-drop from tokens in
      let left : length (toks rest) ≡ length rest = toks_length rest in
      omega arith

  -- what stopped the reader is told
  pub code_fault : {X : Type 0} (view : X → Y) (e : ReadError) (fault : SyntaxFault) → Fails e (reads d c (toks (drop from tokens))) → Names e fault → Tells view (texts_of c) d (toks tokens) from (Err fault)
  code_fault view e fault f n = tells_fault view (texts_of c) d (toks tokens) from e fault (reads d c (drop from (toks tokens))) (code_exact (drop from (toks tokens))) (subst (λ (v : List Tok). Fails e (reads d c v)) at_from f) n

  -- ---- what is spelled is answered

  -- it is read
  spelled : (y : Y) (end : ℕ) → ReadsTo (texts_of c) d (toks tokens) from y end → reads d c (toks (drop from tokens)) ≡ Ok (y, drop end (toks tokens))
  spelled y end r =
      ap (reads d c) at_from ∙ complete (texts_of c) (info Production Value heads need c) (λ e. reach (least Production Value heads need c) e) (grammar Production Value heads need table good c passes) d (drop from (toks tokens)) (reads d c (drop from (toks tokens))) (code_exact (drop from (toks tokens))) y r.reads.prefix (drop end (toks tokens)) r.reads.parts r.reads.word r.reads.stops

  abbrev tree_of : Y → Out Y → Y
  tree_of y (Ok x) = x.0
  tree_of y (Err m) = y

  abbrev given : Y × List Tok → Out Y
  given x = Ok x

  abbrev rest_of : Out Y → List Tok
  rest_of (Ok x) = x.1
  rest_of (Err m) = []

  -- it is the tree, up to its end
  pub code_only : (rest : List Token) (x y : Y) (end : ℕ) → reads d c (toks (drop from tokens)) ≡ Ok (x, toks rest) → ReadsTo (texts_of c) d (toks tokens) from y end → (x ≡ y) × (length tokens - length rest ≡ end)
  code_only rest x y end e r =
      let both : given (x, toks rest) ≡ given (y, drop end (toks tokens)) = sym e ∙ spelled y end r in
      let left : length (toks rest) ≡ length (toks tokens) - end = ap (λ (o : Out Y). length (rest_of o)) both ∙ length-drop end (toks tokens) in
      let within : end ≤ length (toks tokens) = r.within in
      let all : length (toks tokens) ≡ length tokens = toks_length tokens in
      let ends : length (toks rest) ≡ length rest = toks_length rest in
      (ap (tree_of x) both, omega arith)

  -- a fault has no reading
  pub no_fault : {X : Type 0} (view : X → Y) (e : ReadError) (fault : SyntaxFault) (y : Y) (end : ℕ) → Fails e (reads d c (toks (drop from tokens))) → Names e fault → ReadsTo (texts_of c) d (toks tokens) from y end → Answers view y end (Err fault)
  no_fault view errors.Memory fault y end f n r = subst (λ (q : SyntaxFault). Answers view y end (Err q)) (sym n) tt
  no_fault view (errors.TooDeep rest) fault y end f n r = absurd (let g = spelled y end r in cc)
  no_fault view (errors.Unexpected rest) fault y end f n r = absurd (let g = spelled y end r in cc)
