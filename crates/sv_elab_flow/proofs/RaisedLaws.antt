-- A statement whose calls stand before it sees all variables one activation further out.
use Rattle.std.proofs.Common.{rules, ◌≡◌, true, false, List, [], ◌∷◌, Result, Ok, Err, sym, subst}
use Rattle.sv_flat.specs.declared.object.DataType.{DataType}
use Rattle.sv_flat.specs.declared.call.Call.{Call}
use Rattle.sv_names.specs.declared.checked.Checked.{Checked}
use Rattle.sv_names.specs.declared.checked.Checked.TheVariants.{Good}
use Rattle.sv_names.specs.declared.hoisted.Hoisted.{Hoisted}
use Rattle.sv_names.specs.declared.refusal.Refusal.{Refusal}
use Rattle.sv_names.specs.declared.refusal.Refusal.TheVariants.{Rule, Memory}
use Rattle.sv_names.specs.Named.{Around, raised}
use Rattle.sv_names.specs.Given.{Gives}
use Rattle.sv_elab_flow.specs.Parts.{has_hidden, some_hidden}

-- a part without hidden variables is as it was
once_good : {A : Type 0} (ar : Around) (go : Around → Checked (Hoisted A)) (ts : List DataType) (cs : List Call) (v : A) → go ar ≡ Good (record { hidden = ts; calls = cs; value = v }) → some_hidden ts ≡ false → raised ar go ≡ Good (record { hidden = ts; calls = cs; value = v })
once_good ar go [] cs v p q = search rules
once_good ar go (t ∷ ts) cs v p q = search rules

-- a part with hidden variables is made once more
again_good : {A : Type 0} (ar : Around) (go : Around → Checked (Hoisted A)) (ts : List DataType) (cs : List Call) (v : A) → go ar ≡ Good (record { hidden = ts; calls = cs; value = v }) → some_hidden ts ≡ true → raised ar go ≡ go (record ar { up = 1 })
again_good ar go [] cs v p q = search rules
again_good ar go (t ∷ ts) cs v p q = search rules

-- a part without hidden variables
pub raised_once : {A : Type 0} (ar : Around) (go : Around → Checked (Hoisted A)) (r : Result (Hoisted A) Refusal) → Gives r (go ar) → has_hidden r ≡ false → Gives r (raised ar go)
raised_once ar go (Ok h) p q = once_good ar go h.hidden h.calls h.value p q
raised_once ar go (Err (Rule n at)) p q = search rules
raised_once ar go (Err Memory) p q = tt

-- a part with hidden variables
pub raised_again : {A : Type 0} (ar : Around) (go : Around → Checked (Hoisted A)) (r s : Result (Hoisted A) Refusal) → Gives r (go ar) → has_hidden r ≡ true → Gives s (go (record ar { up = 1 })) → Gives s (raised ar go)
raised_again {A = A} ar go (Ok h) s p q e =
    let P : Checked (Hoisted A) → Type 0 = λ x. Gives s x in
    subst P (sym (again_good ar go h.hidden h.calls h.value p q)) e
raised_again ar go (Err e) s p q f = search rules
