-- What one pass over the lines of a text makes of it.
use Rattle.std.specs.Prelude.{◌||◌, nat_lt, Bool, List, length, Option, Some, None, Result, Ok, Err, if◌then◌else◌}
use Rattle.gk_grammar.specs.declared.fault.FaultKind.{FaultKind}
use Rattle.gk_grammar.specs.declared.fault.FaultKind.TheVariants.{UnsupportedLanguage}
use Rattle.gk_grammar.specs.Documents.{lines_read, max_bytes, max_lines}
use Rattle.gk_grammar.specs.Machine.{FlatBlock, State, PlacedFault, run, blocks_at_end, initial_state}
use Rattle.gk_grammar.specs.Assembly.{document_of}
use Rattle.cm_stream.specs.Texts.{Utf8}
use Rattle.cm_stream.specs.Readings.{Reading, Accepted, Refused, OtherLanguage, TooLong}

-- the text has more bytes or lines than the limits allow
abbrev pub passes_limits : Utf8 → Bool
passes_limits text = nat_lt max_bytes (length text) || nat_lt max_lines (length (lines_read text))

abbrev pub reading_of_fault : FaultKind → Reading
reading_of_fault UnsupportedLanguage = OtherLanguage
reading_of_fault _ = Refused

abbrev pub reading_at_end : State → Option (List FlatBlock) → Reading
reading_at_end s None = Refused
reading_at_end s (Some last) = Accepted (document_of s last)

abbrev pub reading_after : Result State PlacedFault → Reading
reading_after (Err b) = reading_of_fault b.kind
reading_after (Ok s) = reading_at_end s (blocks_at_end s.phase)

-- what one pass over the lines of a text makes of it
unfoldable pub reads : Utf8 → Reading
reads text = if passes_limits text then TooLong else reading_after (run initial_state (lines_read text))
