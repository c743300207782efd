-- The sources that an audit keeps, as rows of what it has seen.
use Rattle.std.specs.Prelude.{◌≡◌, List, [], Result, Ok, Err, IfSome, None, true, find, if◌then◌else◌, map}
use Rattle.std.specs.Str.{bytes_eq}
use Rattle.kept_texts.specs.Kept.{bytes_of}
use Rattle.kept_texts.specs.declared.kept_text.KeptText.{KeptText}
use Rattle.cm_stream.specs.Texts.{Utf8}
use Rattle.cm_stream.specs.Readings.{Reading, Accepted, Refused, OtherLanguage, TooLong}
use Rattle.cm_stream.specs.declared.laws.Reason.TheVariants as reason
use Rattle.cm_state.specs.Summary.{SourceRow, new_row}
use Rattle.cm_judge.specs.Due.{left_of}
use Rattle.cm_judge.specs.declared.kept_sources.AcceptedSource.{AcceptedSource}
use Rattle.cm_judge.specs.declared.kept_sources.KeptSource.{KeptSource}
use Rattle.cm_judge.specs.declared.kept_sources.KeptSource.TheVariants as kept
use Rattle.cm_judge.specs.declared.stop.Stop.{Stop}
use Rattle.cm_judge.specs.declared.stop.Stop.TheVariants as stop

abbrev pub accepted_row : Utf8 → AcceptedSource → SourceRow
accepted_row uri a = record {
  uri = uri;
  is_accepted = true;
  awaited = if a.awaits_document then a.document else None;
  ids = a.ids;
  due = left_of a.document a.place;
}

-- of a refused source nothing comes
abbrev pub kept_row : Utf8 → KeptSource → SourceRow
kept_row uri kept.Refused = new_row uri Refused
kept_row uri (kept.Accepted a) = accepted_row uri a

abbrev pub kept_rows : List (KeptText × KeptSource) → List SourceRow
kept_rows = map (λ e. kept_row (bytes_of e.0) e.1)

-- the source of the uri, if there is one, is accepted
abbrev pub IsAcceptedAt : Utf8 → List SourceRow → Type 0
IsAcceptedAt uri rows =
    IfSome (find (λ r. bytes_eq uri r.uri) rows) (λ r. r.is_accepted ≡ true)

-- a text that is accepted or refused is kept so, and another one isn't judged, unless memory was refused
abbrev pub ReadsAs : Reading → Result KeptSource Stop → Type 0
ReadsAs reading (Err stop.Memory) = Unit {0}
ReadsAs (Accepted d) (Ok k) = kept_row [] k ≡ new_row [] (Accepted d)
ReadsAs Refused (Ok k) = kept_row [] k ≡ new_row [] Refused
ReadsAs TooLong (Err (stop.Unsupported reason.SourceTooLong)) = Unit {0}
ReadsAs OtherLanguage (Err (stop.Unsupported reason.Language)) = Unit {0}
ReadsAs reading answer = ⊥
