use Rattle.std.proofs.Common.{◌≡◌, ◌∙◌, ◌++◌, ap, sym, append_assoc, string_bytes, Bor, List, ℕ, [], Option, Some, None}
use Rattle.std.specs.Prelude.{option_map}
use Rattle.cm_cases.proofs.ListingLemmas.{on_ok}
use Rattle.cm_envelope.specs.declared.envelope.Envelope.{Envelope}
use Rattle.cm_stream.specs.Texts.{Utf8}
use Rattle.gk_document.specs.declared.tree.Document.{Document}
use Rattle.cm_state.specs.Summary.{SourceRow}
use Rattle.cm_judge.specs.Kept.{kept_row}
use Rattle.cm_judge.specs.declared.kept_sources.KeptSource.{KeptSource}
use Rattle.cm_judge.proofs.KeptRows.{moved_row}
use Rattle.cm_source_reasons.specs.SourceKept.{lack_by_document, lack_lines}
use Rattle.cm_source_reasons.specs.SourceReasons.{missing_document, missing_pickles, uri_line}
use Rattle.cm_source_reasons.proofs.source_reasons.add_lack.Goals as goal

module _ (es : List Envelope) (uri : Utf8) (k : KeptSource) where
  abbrev moved : SourceRow
  moved = record (kept_row [] k) { uri = uri }

  by_awaited : (o : Option Document) → o ≡ (kept_row [] k).awaited → uri_line uri ++ lack_by_document es moved o ≡ lack_lines es (kept_row uri k)
  by_awaited o e = ap (λ (x : Option Document). uri_line uri ++ lack_by_document es moved x) e ∙ ap (lack_lines es) (sym (moved_row uri k))

awaited_is : (o : Option (Bor Document)) (x : Bor Document) (a : Option Document) → option_map (λ (d : Bor Document). d.now) o ≡ a → o ≡ Some x → Some x.now ≡ a
awaited_is o x a e is = sym (ap (option_map (λ (d : Bor Document). d.now)) is) ∙ e

none_is : (o : Option (Bor Document)) (a : Option Document) → option_map (λ (d : Bor Document). d.now) o ≡ a → o ≡ None → None ≡ a
none_is o a e is = sym (ap (option_map (λ (d : Bor Document). d.now)) is) ∙ e

pub returns-in-Some : goal.returns-in-Some
returns-in-Some c =
    let old = string_bytes c.args.text.now in
    let uri = c.args.uri.now in
    let k = c.args.source.now in
    on_ok c.add_document.result c.add_document.ensures
    (λ h es is.
    h ∙ ap (λ (l : List ℕ). l ++ missing_document) c.in_ok-add_uri.ensures ∙ append_assoc old (uri_line uri) missing_document
    ∙ ap (λ (l : List ℕ). old ++ l) (by_awaited es uri k _ (awaited_is c.awaited.result _ (kept_row [] k).awaited c.awaited.ensures c.in-Some.is)))

pub returns-in-None : goal.returns-in-None
returns-in-None c =
    let old = string_bytes c.args.text.now in
    let uri = c.args.uri.now in
    let k = c.args.source.now in
    on_ok c.add_pickles.result c.add_pickles.ensures
    (λ h es is.
    let left = missing_pickles es uri (kept_row [] k).ids (kept_row [] k).due in
    h es is ∙ ap (λ (l : List ℕ). l ++ left) c.in_ok-add_uri.ensures ∙ append_assoc old (uri_line uri) left
    ∙ ap (λ (l : List ℕ). old ++ l) (by_awaited es uri k None (none_is c.awaited.result (kept_row [] k).awaited c.awaited.ensures c.in-None.is)))
