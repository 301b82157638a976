use Rattle.std.proofs.Common.{rules, ◌≡◌, ◌∙◌, List, None, sym, refl, ap, map, false, [], ◌∷◌}
use Rattle.std.specs.Prelude.{length, replicate}
use Rattle.std.specs.List.{list_any}
use Rattle.sv_arena.specs.Made.{Made}
use Rattle.sv_flat.specs.declared.process.Process.{Process}
use Rattle.sv_flat.specs.Config.{starts}
use Rattle.sv_flat.specs.Opening.{opening}
use Rattle.sv_flat.specs.State.{World}
use Rattle.sv_sound.proofs.Opening.{opening_only, opening_sound}
use Rattle.sv_stack.specs.declared.frames.Frame.TheVariants.{Rest}
use Rattle.sv_stack.specs.Frames.{todos_of}
use Rattle.sv_machine.specs.Machine.{strobe_at}
use Rattle.sv_machine.specs.Waits.{awaited_at}
use Rattle.sv_machine.specs.Opening.{first_member, first_regions, starter_count}
use Rattle.sv_machine.proofs.OpeningProcesses.{opening_family, opening_rest, opening_made, opening_taken, opening_waits, opening_starters}
use Rattle.sv_machine.proofs.OpeningRegions.{opening_regions}
use Rattle.sv_machine.proofs.opening.opened.Goals as goal

pub returns : goal.returns
returns c =
    let d = c.args.design.now in
    let at : c.processes-processes.result.now ≡ d.processes = c.processes-processes.ensures.processes in
    let store = c.in_ok-first_store.ensures in
    let remaining =
    ap (map (todos_of d)) (c.in_ok-at_beginnings.ensures ∙ ap (λ (fs : List Process). map (λ f. Rest (record { routine = f.body; place = 0 }) None ∷ []) fs) at)
    ∙ opening_rest d d.processes in
    let waiting = ap (map (awaited_at d)) c.in_ok-new-2.ensures.waits ∙ opening_waits d d.processes in
    let family = c.in_ok-first_tree.ensures ∙ ap (λ (fs : List Process). map first_member fs) at ∙ opening_family d d.processes in
    let taken = c.in_ok-never_taken.ensures ∙ ap (λ (fs : List Process). map (λ f. false) fs) at ∙ opening_taken d d.processes in
    let starters = c.starter_count.ensures ∙ ap starter_count at ∙ opening_starters d d.processes in
    let strobes = ap (map (strobe_at d)) c.new-3.ensures.items in
    let regions : c.in_ok-first_regions.field-0 ≡ (opening d).regions =
    c.in_ok-first_regions.ensures
    ∙ (λ i. first_regions ((c.has_starters.ensures ∙ ap (list_any starts) at) i) (at i))
    ∙ sym (opening_regions d) in
    let activations = c.in_ok-new.ensures in
    let made = ap (λ (fs : List Process). replicate (length fs) 0) at ∙ opening_made d d.processes in
    let wheel = c.in_ok-new-3.ensures in
    record {
      sound = opening_sound d c.requires.built;
      going = refl;
      fault = refl;
      stands = record {
        picture = λ i. record {
          time = 0;
          phase = (opening d).phase;
          executed = (opening d).executed;
          finishing = false;
          running = (opening d).running;
          store = store i;
          activations = (ap (λ (a : Made). a.activations) activations ∙ sym (ap (λ (w : World). w.activations) (opening_only d c.requires.built).is)) i;
          made = (ap (λ (a : Made). a.made) activations ∙ made) i;
          family = family i;
          remaining = remaining i;
          waiting = waiting i;
          taken = taken i;
          starters = starters i;
          strobes = strobes i;
          regions = regions i;
          future = (wheel i).events;
          used_active = 0;
          used_reactive = 0;
        };
        covers = c.in_ok-new-2.ensures.covers;
        alive = tt;
        last = search rules;
      };
    }
