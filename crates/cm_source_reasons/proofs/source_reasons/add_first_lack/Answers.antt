use Rattle.std.proofs.Common.{◌≡◌, ◌∙◌, sym, ap, append-nil, Bor, List, ℕ, [], ◌++◌, Option, Some, None, string_bytes}
use Rattle.std.specs.Prelude.{find, option_map}
use Rattle.std.specs.Option.{option_map_or}
use Rattle.kept_texts.specs.declared.kept_text.KeptText.{KeptText}
use Rattle.cm_cases.proofs.ListingLemmas.{on_ok}
use Rattle.cm_state.specs.StateChecks.{lacks_by}
use Rattle.cm_state.specs.Summary.{SourceRow}
use Rattle.cm_judge.specs.Kept.{kept_row, kept_rows}
use Rattle.cm_judge.specs.declared.kept_sources.KeptSource.{KeptSource}
use Rattle.cm_source_reasons.specs.SourceKept.{lack_lines}
use Rattle.cm_source_reasons.proofs.SourceRows.{entry_row, first_row}
use Rattle.cm_source_reasons.proofs.source_reasons.add_first_lack.Goals as goal

abbrev shown : Option (Bor KeptText × Bor KeptSource) → Option (KeptText × KeptSource)
shown o = option_map (λ (e : Bor KeptText × Bor KeptSource). (e.0.now, e.1.now)) o

pub returns-in-Some : goal.returns-in-Some
returns-in-Some c =
    let entries = c.sources.result.now.entries in
    let k = c.in-Some.source.now in
    let found : find lacks_by (kept_rows entries) ≡ Some (entry_row (c.in-Some.uri.now, k)) =
    first_row entries ∙ ap (option_map entry_row) (sym c.first_incomplete.ensures ∙ ap shown c.in-Some.is) in
    on_ok c.add_lack.result c.add_lack.ensures
    (λ h es is.
    h es is ∙ ap (λ (u : List ℕ). string_bytes c.args.text.now ++ lack_lines es (kept_row u k)) c.as_str.ensures
    ∙ ap (λ (o : Option SourceRow). string_bytes c.args.text.now ++ option_map_or (lack_lines es) o []) (sym found ∙ ap (find lacks_by) c.sources.ensures))

pub returns-in-None : goal.returns-in-None
returns-in-None c es is =
    let entries = c.sources.result.now.entries in
    let none : find lacks_by (kept_rows entries) ≡ None = first_row entries ∙ ap (option_map entry_row) (sym c.first_incomplete.ensures ∙ ap shown c.in-None.is) in
    sym (append-nil (string_bytes c.args.text.now))
    ∙ ap (λ (o : Option SourceRow). string_bytes c.args.text.now ++ option_map_or (lack_lines es) o []) (sym none ∙ ap (find lacks_by) c.sources.ensures)
