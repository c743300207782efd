use Rattle.std.proofs.Common.{◌≡◌, ◌++◌, ◌+◌, drop}
use Rattle.std.specs.List.{sum_by, concat}
use Rattle.cm_compile.specs.Compiled.{id_count, compiled_pickle_lines}
use Rattle.cm_compile.proofs.compiled.add_pickle_lines.Given as goal

abbrev pub invariant-pickles : goal.invariant-pickles
invariant-pickles l = record {
  ids : l.id + sum_by id_count (drop l.pickle-index l.pickles) ≡ l.first_id + sum_by id_count l.pickles;
  made : l.lines.items ++ concat (compiled_pickle_lines l.uri l.id (drop l.pickle-index l.pickles))
      ≡ l.initial.lines.items ++ concat (compiled_pickle_lines l.uri l.first_id l.pickles);
}
