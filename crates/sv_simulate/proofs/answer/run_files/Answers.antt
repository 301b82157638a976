-- What is said on the texts that were fetched is what is to be said to any words that ask for the files.
use Rattle.std.proofs.Common.{rules, ◌≡◌, ◌≤◌, refl, Err, List, [], ℕ, sym, subst, ap, inl, inr}
use Rattle.std.specs.Prelude.{◌++◌, codes, string_bytes}
use Rattle.sv_kernel.proofs.RunLemmas.{nothing_put}
use Rattle.sv_simulate.specs.declared.answer.FetchFault.{FetchFault}
use Rattle.sv_simulate.specs.declared.answer.FetchFault.TheVariants as fetch
use Rattle.sv_simulate.specs.Answered.{Fetched, shelf_seen}
use Rattle.sv_simulate.specs.Said.{Has, on_texts, too_long, runs, said_of_run, run_of, line}
use Rattle.sv_simulate.specs.Simulated.{IsAllSaid, not_read}
use Rattle.sv_simulate.specs.Source.{bytes_of, contents}
use Rattle.sv_words.specs.Words.{asked_for}
use Rattle.sv_simulate.proofs.SaidLemmas.{if_ok_only, all_of}
use Rattle.sv_simulate.proofs.answer.run_files.Goals as goal

pub returns-in-Ok : goal.returns-in-Ok
returns-in-Ok g c = λ words asks.
    let a = asked_for c.args.simulation in
    let files = g.F.Shelf.files c.args.shelf.now in
    let texts = contents c.deref.result.now in
    let has : Has files a.files texts = subst (λ (ts : List (List ℕ)). Has files a.files ts) (ap contents (sym c.deref.ensures.value)) c.in-Ok.ensures.0 in
    let short : bytes_of texts ≤ c.args.limits.bytes = subst (λ (ts : List (List ℕ)). bytes_of ts ≤ c.args.limits.bytes) (ap contents (sym c.deref.ensures.value)) c.in-Ok.ensures.1 in
    let put = c.run_texts.ensures.put in
    record {
      said = if_ok_only c.run_texts.result _ _ (λ x k. λ _. (k.0, on_texts a texts asks has short k.1, k.2, k.3, k.4)) c.run_texts.ensures.said;
      not_read = search rules;
      shelf = search rules;
      put = (
        put.0,
        elim put.1 [
          | inl e ↦ inl e
          | inr w ↦ inr (said_of_run a.files a.steps (run_of a.active a.steps w.0), on_texts a texts asks has short (runs w.0 w.1), w.2)
        ],
        put.2,
      );
      memory = λ e. let h = c.run_texts.ensures.memory e in (
        h.0,
        elim h.1 [
          | inl x ↦ inl x
          | inr w ↦ inr (
            run_of a.active a.steps w.0,
            record { simulation = a; texts = texts; design = w.0; asks = asks; has = has; short = short; source = w.1; run = refl },
            w.2,
            w.3,
            w.4,
          )
        ],
        h.2,
      );
      all = if_ok_only c.run_texts.result _ _
          (λ x k. all_of c.args.limits words files k.0 _ (g.O.Sink.bytes c.args.out.now) _ (on_texts a texts asks has short k.1) k.3 k.2)
          c.run_texts.ensures.said;
      closed = c.run_texts.ensures.closes;
    }

pub returns-in-Err-Long : goal.returns-in-Err-Long
returns-in-Err-Long g c = λ words asks.
    let a = asked_for c.args.simulation in
    let files = g.F.Shelf.files c.args.shelf.now in
    let seen = shelf_seen g.F.Shelf.files g.F.Shelf.faults g.F.Shelf.failed c.args.shelf.now c.fetch_all.new.shelf in
    let t : Fetched c.args.limits.bytes a.files seen (Err (fetch.Long c.in-Err-Long.name)) =
    subst (λ (fault : FetchFault). Fetched c.args.limits.bytes a.files seen (Err fault)) c.in-Err-Long.field-0-is c.in-Err-Long.ensures in
    let says = too_long a _ t.1 asks t.0 t.2 t.3 in
    record {
      said = λ _. (_, says, nothing_put _, c.in_ok-too_long_line-in-Err-Long.ensures, refl);
      not_read = search rules;
      shelf = search rules;
      put = search rules;
      memory = λ e. absurd (cc e);
      all = all_of c.args.limits words files _ _ (g.O.Sink.bytes c.args.out.now) _ says c.in_ok-too_long_line-in-Err-Long.ensures (nothing_put _);
      closed = search rules;
    }

pub returns-in-Err-Failed : goal.returns-in-Err-Failed
returns-in-Err-Failed g c = λ words asks.
    let a = asked_for c.args.simulation in
    let files = g.F.Shelf.files c.args.shelf.now in
    let seen = shelf_seen g.F.Shelf.files g.F.Shelf.faults g.F.Shelf.failed c.args.shelf.now c.fetch_all.new.shelf in
    let t : Fetched c.args.limits.bytes a.files seen (Err (fetch.Failed c.in-Err-Failed.name)) =
    subst (λ (fault : FetchFault). Fetched c.args.limits.bytes a.files seen (Err fault)) c.in-Err-Failed.field-0-is c.in-Err-Failed.ensures in
    let closing : string_bytes c.in_ok-not_read_line-in-Err-Failed.field-0 ≡ line (c.in-Err-Failed.name.now ++ codes ": not read") = c.in_ok-not_read_line-in-Err-Failed.ensures in
    record {
      said = search rules;
      not_read = λ _. record { name = _; awaits = (a, asks, t.0); failed = t.2; line_is = closing; status_is = refl; nothing = refl };
      shelf = λ _. (t.1, (_, (a, asks, t.0), t.2));
      put = search rules;
      memory = λ e. absurd (cc e);
      all = ([], subst (IsAllSaid c.args.limits words files []) (sym closing) (not_read c.in-Err-Failed.name.now (a, asks, t.0)), nothing_put _);
      closed = search rules;
    }
