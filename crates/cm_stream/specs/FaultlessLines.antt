-- Lines without a fault, and the table of the record of attempts after them.
use Rattle.std.specs.Prelude.{◌≡◌, ◌==◌, ℕ, find, is_some, List, [], ◌∷◌, ◌++◌, Some, None}
use Rattle.std.specs.List.{list_all}
use Rattle.std.specs.Str.{bytes_eq}
use Rattle.cm_attempt.specs.declared.status.Settings.{Settings}
use Rattle.cm_attempt.specs.Calls.{table_after}
use Rattle.cm_attempt.specs.Table.{Table, has_text, has_step, find_attempt, open_count, is_good_case as is_good_row}
use Rattle.cm_attempt.specs.declared.status.Policy.{Policy}
use Rattle.cm_stream.specs.Texts.{Utf8}
use Rattle.cm_stream.specs.References.{cases, starts, is_ended, is_good_case}
use Rattle.cm_stream.specs.Checks.{fault_by, steps_of_attempt}
use Rattle.cm_stream.specs.Readings.{Reading, ByTheGrammar}
use Rattle.cm_stream.specs.Calls.{calls_of}
use Rattle.cm_stream.specs.Record.{table_of_envelopes, table_after_envelope}
use Rattle.cm_envelope.specs.declared.envelope.Envelope.{Envelope}

-- the first lines have no fault, each after those before it, where sources' texts are read so
abbrev pub IsFaultlessBy : (Utf8 → Reading) → Settings → List Envelope → Type 0
IsFaultlessBy read settings es =
    (before : List Envelope) (e : Envelope) (after : List Envelope) → es ≡ before ++ e ∷ after
    → fault_by read settings before e ≡ None

-- the table of the lines so far changes by a line as the call for it changes a table
abbrev pub TableSteps : Type 0
TableSteps =
    (first : ℕ) (es : List Envelope) (e : Envelope)
    → table_of_envelopes first (es ++ e ∷ [])
    ≡ table_after_envelope (table_of_envelopes first es) e

-- after lines without a fault no call is refused, and the table is the one that the calls leave
abbrev pub NoneIsRefusedBy : (Utf8 → Reading) → Type 0
NoneIsRefusedBy read =
    (settings : Settings) (es : List Envelope) → IsFaultlessBy read settings es
    → table_after settings.first_attempt (calls_of es)
    ≡ Some (table_of_envelopes settings.first_attempt es)

abbrev pub NoneIsRefused : Type 0
NoneIsRefused = ByTheGrammar NoneIsRefusedBy

-- what the table of the lines says of attempts and cases is what the lines say of them
pub record AgreesWith (es : List Envelope) (t : Table) : Type 0 where
  pub attempts : (a : Utf8) → is_some (find_attempt t a)
      ≡ is_some (find (λ s. bytes_eq a s.id) (starts es))
  pub steps : (a step : Utf8) → has_step t a step ≡ has_text step (steps_of_attempt a es)
  pub none_open : (open_count t == 0) ≡ list_all (λ s. is_ended s.id es) (starts es)
  pub good_cases : (policy : Policy) → list_all (is_good_row policy) t.cases
      ≡ list_all (is_good_case policy es) (cases es)

-- after lines without a fault
abbrev pub TablesAgreeBy : (Utf8 → Reading) → Type 0
TablesAgreeBy read =
    (settings : Settings) (es : List Envelope) → IsFaultlessBy read settings es
    → AgreesWith es (table_of_envelopes settings.first_attempt es)

abbrev pub TablesAgree : Type 0
TablesAgree = ByTheGrammar TablesAgreeBy
