-- Loops that read any number of parts.
use Rattle.std.proofs.Common.{◌≡◌, ℕ, suc, ◌<◌, true, false, List, [], ◌∷◌, ◌++◌, length, Ok, Err, refl, sym, ap, ◌∙◌, arith}
use Rattle.sv_grammar.specs.Tokens.{Tok, next, mem}
use Rattle.sv_grammar.specs.Language.{Miss, TooDeep, Unexpected, Out}
use Rattle.sv_grammar.specs.Code.{fine, info, least, reach}
use Rattle.sv_grammar.specs.Code.Code.{Rep}
use Rattle.sv_grammar.proofs.Answers.{no_true}
use Rattle.sv_grammar.proofs.Steps.{list_is, list_stop, list_deep, list_fail, list_more, rep_short, rep_nil}
use Rattle.sv_tree.specs.Codes.{toks}
use Rattle.sv_tree.specs.Forms.{Production, Value, C}
use Rattle.sv_tree.specs.Grammar.{heads, need, table, reads}
use Rattle.sv_tree.specs.declared.token.Token.{Token}
use Rattle.sv_tree.proofs.Good.{good}
use Rattle.sv_parse.specs.Outcome.{Fails}
use Rattle.sv_parse.specs.Parts.{from}
use Rattle.sv_parse.specs.declared.tokens.ReadError.{ReadError}
use Rattle.sv_parse.specs.declared.tokens.ReadError.TheVariants as errors

-- what a loop over parts needs: that they pass the tests, the kinds that begin one, and the least depth of one
pub record IsLoop {A : Type 0} (c : C A) (ks : List ℕ) (n : ℕ) : Type 0 where
  pub passes : fine Production Value heads need (Rep c) ≡ true
  pub begins : (info Production Value heads need c).first ≡ ks
  pub needs : least Production Value heads need c ≡ n

pub toks_length : (ts : List Token) → length (toks ts) ≡ length ts
toks_length [] = refl
toks_length (t ∷ ts) = ap suc (toks_length ts)

module _ {A : Type 0} (c : C A) (ks : List ℕ) (n : ℕ) (is : IsLoop c ks n) (d : ℕ) where
  pub loop_is : (ts : List Tok) → reads d (Rep c) ts ≡ from c d [] ts
  loop_is ts = list_is Production Value heads need table good c is.passes d ts

  pub loop_stop : (prefix : List A) (ts : List Tok) → mem (next ts).code ks ≡ false → from c d prefix ts ≡ Ok (prefix, ts)
  loop_stop prefix ts h = list_stop Production Value heads need table good c is.passes d prefix ts (rw is.begins h)

  has : (t : Tok) → mem t.code ks ≡ true → mem t.code (info Production Value heads need c).first ≡ true
  has t h = rw is.begins h

  none : mem 0 ks ≡ true → ⊥
  none h = no_true (mem 0 (info Production Value heads need c).first) (rw is.begins h) (rep_nil Production Value heads need table good c is.passes d)

  pub loop_deep : (prefix : List A) (ts : List Tok) → mem (next ts).code ks ≡ true → reach n d ≡ false → from c d prefix ts ≡ Err (TooDeep ts)
  loop_deep prefix [] h e = absurd (none h)
  loop_deep prefix (t ∷ ts) h e = list_deep Production Value heads need table good c is.passes d prefix t ts (has t h) (rw is.needs e)

  pub loop_fail : (prefix : List A) (ts : List Tok) (m : Miss) → mem (next ts).code ks ≡ true → reach n d ≡ true → reads d c ts ≡ Err m → from c d prefix ts ≡ Err m
  loop_fail prefix [] m h e q = absurd (none h)
  loop_fail prefix (t ∷ ts) m h e q = list_fail Production Value heads need table good c is.passes d prefix t ts m (has t h) (rw is.needs e) q

  pub loop_more : (prefix : List A) (ts : List Tok) (y : A × List Tok) → mem (next ts).code ks ≡ true → reach n d ≡ true → reads d c ts ≡ Ok y → from c d prefix ts ≡ from c d (prefix ++ y.0 ∷ []) y.1
  loop_more prefix [] y h e q = absurd (none h)
  loop_more prefix (t ∷ ts) y h e q = list_more Production Value heads need table good c is.passes d prefix t ts y (has t h) (rw is.needs e) q

  -- ---- for the loops of the code

  -- a part that can't be read
  pub loop_ends : (e : ReadError) (prefix : List A) (ts : List Tok) (all : Out (List A)) → mem (next ts).code ks ≡ true → reach n d ≡ true → Fails e (reads d c ts) → from c d prefix ts ≡ all → Fails e all
  loop_ends errors.Memory prefix ts all h r f told = tt
  loop_ends (errors.TooDeep rest) prefix ts all h r f told = sym told ∙ loop_fail prefix ts (TooDeep (toks rest.now)) h r f
  loop_ends (errors.Unexpected rest) prefix ts all h r f told = sym told ∙ loop_fail prefix ts (Unexpected (toks rest.now)) h r f

  -- a part that is read
  pub loop_goes_on : (prefix prefix2 : List A) (ts : List Tok) (y : A × List Tok) (all : Out (List A)) → mem (next ts).code ks ≡ true → reach n d ≡ true → reads d c ts ≡ Ok y → prefix2 ≡ prefix ++ y.0 ∷ [] → from c d prefix ts ≡ all → from c d prefix2 y.1 ≡ all
  loop_goes_on prefix prefix2 ts y all h r e after told = rw after (sym (loop_more prefix ts y h r e) ∙ told)

  -- fewer tokens are left
  pub loop_shorter : (ts rest : List Token) (y : A × List Tok) → reach n d ≡ true → reads d c (toks ts) ≡ Ok y → y.1 ≡ toks rest → length rest < length ts
  loop_shorter ts rest y r e after =
      let lt : length y.1 < length (toks ts) = rep_short Production Value heads need table good c is.passes d tt (toks ts) y (rw is.needs r) e in
      let a : length y.1 ≡ length rest = ap length after ∙ toks_length rest in
      let b : length (toks ts) ≡ length ts = toks_length ts in
      omega arith
