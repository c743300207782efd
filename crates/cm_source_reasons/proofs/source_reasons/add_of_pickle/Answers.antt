use Rattle.std.proofs.Common.{◌∙◌, sym, ap, append-nil, [], ◌++◌, Option, string_bytes}
use Rattle.std.specs.Prelude.{slice_get}
use Rattle.std.specs.Option.{option_map_or}
use Rattle.cm_cases.proofs.ListingLemmas.{on_ok}
use Rattle.cm_state.specs.Summary.{SourceRow}
use Rattle.cm_judge.specs.State.{summary_of}
use Rattle.cm_judge.proofs.KeptRows.{found_by, found_kept, found_none, moved_row}
use Rattle.cm_source_reasons.specs.SourceReasons.{pickle_reason_text}
use Rattle.cm_source_reasons.proofs.source_reasons.add_of_pickle.Goals as goal

pub returns-in-Some : goal.returns-in-Some
returns-in-Some c =
    let p = c.args.pickle.now in
    let rows = (summary_of c.args.state.now).sources in
    let k = c.in-Some.source in
    let found = found_by c.as_str.result.now p.uri c.find_source.result rows c.as_str.ensures c.find_source.ensures in
    let row = found_kept p.uri c.find_source.result k rows c.in-Some.is found in
    on_ok c.add_next.result c.add_next.ensures
    (λ h es is.
    h es is ∙ ap (λ (r : SourceRow). string_bytes c.args.text.now ++ pickle_reason_text es r.ids (slice_get r.due 0) p) (sym (moved_row p.uri k.now))
    ∙ ap (λ (o : Option SourceRow). string_bytes c.args.text.now ++ option_map_or (λ r. pickle_reason_text es r.ids (slice_get r.due 0) p) o []) row)

pub returns-in-None : goal.returns-in-None
returns-in-None c es is =
    let p = c.args.pickle.now in
    let rows = (summary_of c.args.state.now).sources in
    let found = found_by c.as_str.result.now p.uri c.find_source.result rows c.as_str.ensures c.find_source.ensures in
    let none = found_none p.uri c.find_source.result rows c.in-None.is found in
    sym (append-nil (string_bytes c.args.text.now))
    ∙ ap (λ (o : Option SourceRow). string_bytes c.args.text.now ++ option_map_or (λ r. pickle_reason_text es r.ids (slice_get r.due 0) p) o []) none
