use Rattle.std.proofs.Common.{◌∙◌, ap, sym, subst, drop, take_all, List}
use Rattle.std.specs.List.{flat_map}
use Rattle.cm_stream.specs.Release.{conditions_of}
use Rattle.gk_pickle.specs.Scenarios.{pickles_of_one}
use Rattle.gk_pickle.proofs.InTurn.{scenario_by_scenario}
use Rattle.cm_missing.specs.Missing.{AskedPickle, asked_from}
use Rattle.cm_missing.specs.PickleLines.{lines_of_one}
use Rattle.cm_missing.specs.Told.{KeepsMore, pickles_told}
use Rattle.cm_missing.proofs.PickleLemmas.{rest_after}
use Rattle.cm_missing.proofs.ToldLemmas.{one_scenario_more}
use Rattle.cm_missing.proofs.missing.Missing.add_document.Goals as goal

pub loop-scenario-preserved : goal.loop-scenario-preserved
loop-scenario-preserved c =
    let flags = c.args.flags.now in
    let later = c.loop-scenario.later.now in
    let ss = c.as_slice-scenario-items.result.now in
    let i = c.loop-scenario.scenario-index in
    let s = c.scenario-item.result in
    let kept = c.loop-scenario.invariant in
    record {
      kept = one_scenario_more (conditions_of c.args.conditions.now) c.args.path.now flags c.args.self.now c.loop-scenario.self c.add_scenario.new.self
          later ss i s c.loop-scenario-test.true c.scenario-item.is kept.rest kept.kept c.in_ok-count.ensures.told;
      rest = c.flags_after-later.ensures ∙ ap (λ n. drop n later) c.in_ok-count.ensures.count
          ∙ rest_after flags later ss i s c.loop-scenario-test.true c.scenario-item.is kept.rest;
    }

pub returns : goal.returns
returns c =
    let d = c.args.document.now in
    let flags = c.args.flags.now in
    let ss = c.as_slice-scenario-items.result.now in
    let all = take_all c.loop-scenario.scenario-index ss c.loop-scenario-test.false ∙ c.as_slice-scenario-items.ensures.value ∙ c.in_ok-scenarios.ensures in
    let pickles = ap (flat_map pickles_of_one) all ∙ sym (scenario_by_scenario d) in
    let lines = ap (flat_map lines_of_one) all in
    subst (λ (ps : List AskedPickle). KeepsMore c.args.self.now c.loop-scenario.self (pickles_told (conditions_of c.args.conditions.now) c.args.path.now ps))
    (λ j. asked_from flags 0 (pickles j) (lines j)) c.loop-scenario.invariant.kept
