use Rattle.std.proofs.Common.{◌≡◌, ◌∙◌, ◌++◌, ap, sym, append_assoc, arith}
use Rattle.std.specs.List.{sum_by, concat, flat_map}
use Rattle.gk_pickle.specs.Pickles.{pickles}
use Rattle.gk_pickle.specs.Scenarios.{pickles_of_one}
use Rattle.cm_messages.specs.SourceLayout.{source_data}
use Rattle.cm_messages.specs.DocumentLayout.{document_data}
use Rattle.gk_pickle.proofs.InTurn.{scenario_by_scenario}
use Rattle.cm_compile.specs.Compiled.{data_line, id_count, compiled_pickle_lines}
use Rattle.cm_compile.proofs.InTurn.{ids_from_here, one_added, all_added}
use Rattle.cm_compile.proofs.compiled.lines_of_document.Goals as goal

pub add_scenario_lines-requires : goal.add_scenario_lines-requires
add_scenario_lines-requires c =
    let d = c.args.document.now in
    let items = c.as_slice-scenario-items.result.now in
    let i = c.loop-scenario.scenario-index in
    let here = ids_from_here items i c.scenario-item.result c.loop-scenario-test.true c.scenario-item.is in
    let all : flat_map pickles_of_one items ≡ pickles d =
    ap (flat_map pickles_of_one) (c.as_slice-scenario-items.ensures.value ∙ c.in_ok-scenarios.ensures) ∙ sym (scenario_by_scenario d) in
    let sums = ap (sum_by id_count) all in
    omega (arith, here, sums, c.loop-scenario.invariant.ids, c.requires)

pub loop-scenario-preserved : goal.loop-scenario-preserved
loop-scenario-preserved c =
    let items = c.as_slice-scenario-items.result.now in
    let i = c.loop-scenario.scenario-index in
    let here = ids_from_here items i c.scenario-item.result c.loop-scenario-test.true c.scenario-item.is in
    record {
      ids = omega (arith, here, c.in_ok-id.ensures.next, c.loop-scenario.invariant.ids);
      made =
          one_added _ _ _ _ _ items i c.scenario-item.result _ c.in_ok-id.ensures.added c.in_ok-id.ensures.next
          c.loop-scenario-test.true c.scenario-item.is c.loop-scenario.invariant.made;
    }

pub returns : goal.returns
returns c =
    let d = c.args.document.now in
    let uri = c.args.uri.now in
    let items = c.as_slice-scenario-items.result.now in
    let source = data_line (source_data uri c.args.text.now) in
    let document = data_line (document_data uri d) in
    let all : flat_map pickles_of_one items ≡ pickles d =
    ap (flat_map pickles_of_one) (c.as_slice-scenario-items.ensures.value ∙ c.in_ok-scenarios.ensures) ∙ sym (scenario_by_scenario d) in
    all_added _ _ _ items c.loop-scenario.scenario-index _ c.loop-scenario-test.false c.loop-scenario.invariant.made
    ∙ ap (λ ls. ls ++ concat (compiled_pickle_lines uri d.nodes (flat_map pickles_of_one items))) c.in_ok-lines.ensures
    ∙ append_assoc source document (concat (compiled_pickle_lines uri d.nodes (flat_map pickles_of_one items)))
    ∙ ap (λ ps. source ++ (document ++ concat (compiled_pickle_lines uri d.nodes ps))) all
