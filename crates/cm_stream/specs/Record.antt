-- The table of the record of attempts after the lines so far.
use Rattle.std.specs.Option.{option_map_or}
use Rattle.std.specs.Prelude.{ℕ, List, fold}
use Rattle.cm_attempt.specs.Table.{Table, table_from}
use Rattle.cm_attempt.specs.Calls.{after_call}
use Rattle.cm_stream.specs.Calls.{call_of}
use Rattle.cm_envelope.specs.declared.envelope.Envelope.{Envelope}

-- the table after the call for a line
abbrev pub table_after_envelope : Table → Envelope → Table
table_after_envelope t e = option_map_or (after_call t) (call_of e) t

-- the table after the calls for the lines, where the attempts of a case are numbered from the first number
abbrev pub table_of_envelopes : (first : ℕ) → List Envelope → Table
table_of_envelopes first es = fold table_after_envelope (table_from first) es
