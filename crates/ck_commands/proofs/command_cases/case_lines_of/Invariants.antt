use Rattle.std.proofs.Common.{◌≡◌, List, map, string_bytes, take}
use Rattle.std.specs.List.{flat_map}
use Rattle.cm_attempt.specs.Results.{result_view}
use Rattle.cm_cases.specs.Listed.{listing_of}
use Rattle.cm_envelope.specs.declared.envelope.Envelope.{Envelope}
use Rattle.ck_commands.specs.Cases.{case_text}
use Rattle.ck_commands.proofs.command_cases.case_lines_of.Given as goal

abbrev pub invariant-loop-case : goal.invariant-loop-case
invariant-loop-case l =
    (es : List Envelope) → l.places ≡ listing_of es → string_bytes l.text ≡ flat_map (case_text es) (map result_view (take l.case-index l.results))
