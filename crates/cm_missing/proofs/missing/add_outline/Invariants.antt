use Rattle.std.proofs.Common.{◌≡◌, ◌++◌, take}
use Rattle.std.specs.List.{flat_map}
use Rattle.gk_pickle.specs.Counts.{body_rows}
use Rattle.cm_missing.specs.PickleLines.{row_lines}
use Rattle.cm_missing.proofs.missing.add_outline.Given as goal

abbrev pub invariant-loop-block : goal.invariant-loop-block
invariant-loop-block l =
    l.lines.items ≡ l.fn.lines.items ++ flat_map (λ block. row_lines (body_rows block)) (take l.block-index l.examples)
