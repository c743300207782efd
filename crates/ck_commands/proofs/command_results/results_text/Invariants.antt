use Rattle.std.proofs.Common.{◌≡◌, map, string_bytes, take}
use Rattle.std.specs.List.{flat_map}
use Rattle.cm_attempt.specs.Results.{result_view}
use Rattle.ck_commands.specs.Results.{result_text}
use Rattle.ck_commands.proofs.command_results.results_text.Given as goal

abbrev pub invariant-loop-case : goal.invariant-loop-case
invariant-loop-case l = string_bytes l.text ≡ flat_map result_text (map result_view (take l.case-index l.case-items))
