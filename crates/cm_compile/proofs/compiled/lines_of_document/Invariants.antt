use Rattle.std.proofs.Common.{◌≡◌, ◌++◌, ◌+◌, drop}
use Rattle.std.specs.List.{sum_by, concat, flat_map}
use Rattle.gk_pickle.specs.Scenarios.{pickles_of_one}
use Rattle.cm_compile.specs.Compiled.{id_count, compiled_pickle_lines}
use Rattle.cm_compile.proofs.compiled.lines_of_document.Given as goal

abbrev pub invariant-loop-scenario : goal.invariant-loop-scenario
invariant-loop-scenario l = record {
  ids : l.id + sum_by id_count (flat_map pickles_of_one (drop l.scenario-index l.scenario-items))
      ≡ l.document.nodes + sum_by id_count (flat_map pickles_of_one l.scenario-items);
  made : l.lines.items ++ concat (compiled_pickle_lines l.uri l.id (flat_map pickles_of_one (drop l.scenario-index l.scenario-items)))
      ≡ l.initial.lines.items ++ concat (compiled_pickle_lines l.uri l.document.nodes (flat_map pickles_of_one l.scenario-items));
}
