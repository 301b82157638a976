use Rattle.std.proofs.Common.{rules, ◌≡◌, List, ◌++◌, ap, subst, ◌∙◌}
use Rattle.std.specs.Prelude.{IfOk, IfErr, map, option_map}
use Rattle.sv_tree.specs.declared.token.Timescale.{Timescale}
use Rattle.sv_tree.specs.declared.unit.Description as tree
use Rattle.sv_tree.specs.Descriptions.{Description}
use Rattle.sv_tree.specs.UnitView.{description}
use Rattle.sv_simulate.specs.Source.{IsDesign, Declines, contents, scales_of}
use Rattle.sv_simulate.proofs.SourceLemmas.{all_designed, all_explained, unread}
use Rattle.sv_simulate.proofs.front.read_design.Goals as goal

pub returns-in_err-read_texts-clause-fault : goal.returns-in_err-read_texts-clause-fault
returns-in_err-read_texts-clause-fault c =
    let explains = unread (contents c.args.texts.now) (option_map (λ x. x.now) c.args.top) _ c.in_err-read_texts.ensures.fault in
    search rules

pub returns-clause-fault : goal.returns-clause-fault
returns-clause-fault c =
    let texts = contents c.args.texts.now in
    let top = option_map (λ x. x.now) c.args.top in
    let read = c.in_ok-read_texts.ensures.units in
    let units : map description c.deref-2.result.now ≡ read.0 =
    ap (map description) c.deref-2.ensures.value ∙ read.2 ∙ ap (λ (us : List tree.Description). map description us ++ read.0) c.new-units.ensures.items in
    let scales : c.deref.result.now ≡ scales_of 0 texts =
    c.deref.ensures.value ∙ c.in_ok-read_texts.ensures.scales ∙ ap (λ (ss : List Timescale). ss ++ scales_of 0 texts) c.new-scales.ensures.items in
    all_explained texts top read.0 read.1 c.design_of.result
    (subst (λ (ss : List Timescale). IfErr c.design_of.result (Declines ss read.0 top)) scales
    (subst (λ (us : List Description). IfErr c.design_of.result (Declines c.deref.result.now us top)) units c.design_of.ensures.none))

pub returns-clause-design : goal.returns-clause-design
returns-clause-design c =
    let texts = contents c.args.texts.now in
    let top = option_map (λ x. x.now) c.args.top in
    let read = c.in_ok-read_texts.ensures.units in
    let units : map description c.deref-2.result.now ≡ read.0 =
    ap (map description) c.deref-2.ensures.value ∙ read.2 ∙ ap (λ (us : List tree.Description). map description us ++ read.0) c.new-units.ensures.items in
    let scales : c.deref.result.now ≡ scales_of 0 texts =
    c.deref.ensures.value ∙ c.in_ok-read_texts.ensures.scales ∙ ap (λ (ss : List Timescale). ss ++ scales_of 0 texts) c.new-scales.ensures.items in
    all_designed texts top read.0 read.1 c.design_of.result
    (subst (λ (ss : List Timescale). IfOk c.design_of.result (IsDesign ss read.0 top)) scales
    (subst (λ (us : List Description). IfOk c.design_of.result (IsDesign c.deref.result.now us top)) units c.design_of.ensures.design))
