use Rattle.std.proofs.Common.{◌≡◌, [], find, option_map}
use Rattle.std.specs.Option.{option_or}
use Rattle.cm_state.specs.StateChecks.{lacks_by}
use Rattle.cm_judge.specs.Kept.{kept_row}
use Rattle.cm_source_reasons.proofs.source_reasons.first_incomplete.Given as goal

abbrev pub invariant-loop-uri : goal.invariant-loop-uri
invariant-loop-uri l =
    option_or (option_map (λ e. (e.0.now, e.1.now)) l.found) (find (λ e. lacks_by (kept_row [] e.1)) l.uri-iterator)
    ≡ find (λ e. lacks_by (kept_row [] e.1)) l.fn.sources.entries
