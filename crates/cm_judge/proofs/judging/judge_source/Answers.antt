use Rattle.std.proofs.Common.{◌≡◌, ◌∙◌, refl, ap, sym, subst, false, true, not, Err, Ok, [], ◌∷◌, ◌++◌, map}
use Rattle.std.specs.Str.{bytes_eq}
use Rattle.std.proofs.lemmas.List.{map-append}
use Rattle.cm_attempt.specs.Table.{has_text}
use Rattle.cm_refs.proofs.EntryLemmas.{inserted_rows}
use Rattle.cm_envelope.specs.declared.envelope.Envelope.TheVariants.{Source}
use Rattle.cm_stream.specs.OnePass.{reads}
use Rattle.cm_stream.specs.Sources.{plain}
use Rattle.cm_state.specs.Summary.{SourceRow}
use Rattle.cm_state.specs.ByOnePass.{new_source}
use Rattle.cm_judge.specs.Kept.{ReadsAs, kept_row, kept_rows}
use Rattle.cm_judge.specs.State.{summary_of, with_uris}
use Rattle.cm_judge.specs.declared.stop.Stop.TheVariants.{Memory}
use Rattle.cm_judge.proofs.Judged.{kept_source, no_by, source_again, source_fits, source_of_other_media, source_unread, stops, yes_by}
use Rattle.cm_judge.proofs.KeptRows.{key_listed, row_absent, row_says}
use Rattle.cm_judge.proofs.judging.judge_source.Goals as goal

pub returns-then-contains_key : goal.returns-then-contains_key
returns-then-contains_key c =
    let old = c.args.state.now in
    let again = key_listed c.as_str.result.now c.args.source.uri old.sources.entries c.contains_key.result c.as_str.ensures c.contains_key.ensures ∙ c.if-contains_key.true in
    (source_again (summary_of old) c.args.source again, refl)

pub returns-then-ne : goal.returns-then-ne
returns-then-ne c =
    let old = c.args.state.now in
    source_of_other_media (summary_of old) c.args.source
    (key_listed c.as_str.result.now c.args.source.uri old.sources.entries c.contains_key.result c.as_str.ensures c.contains_key.ensures ∙ c.if-contains_key.false)
    (no_by (bytes_eq c.args.source.media_type plain) (ap (λ t. not (bytes_eq t plain)) (sym c.as_str-2.ensures) ∙ sym c.ne.ensures ∙ c.if-ne.true))

pub returns-in_err-kept : goal.returns-in_err-kept
returns-in_err-kept c =
    let old = c.args.state.now in
    let why = c.in_err-kept.field-0.0 in
    let new : has_text c.args.source.uri (summary_of old).declared.sources ≡ false =
    key_listed c.as_str.result.now c.args.source.uri old.sources.entries c.contains_key.result c.as_str.ensures c.contains_key.ensures ∙ c.if-contains_key.false in
    let media : bytes_eq c.args.source.media_type plain ≡ true =
    yes_by (bytes_eq c.args.source.media_type plain) (ap (λ t. not (bytes_eq t plain)) (sym c.as_str-2.ensures) ∙ sym c.ne.ensures ∙ c.if-ne.false) in
    let read : ReadsAs (reads c.args.source.content) (Err why) = subst (λ t. ReadsAs (reads t) (Err why)) c.as_str-3.ensures c.in_err-kept.ensures in
    stops old old (Source c.args.source) c.from_residual.result why c.from_residual.ensures.1
    (source_unread (summary_of old) c.args.source new media why read) refl

pub returns-in_err-insert : goal.returns-in_err-insert
returns-in_err-insert c =
    let old = c.args.state.now in
    stops old (record old { sources = c.insert.new.self }) (Source c.args.source) c.from_residual-in_err-insert.result Memory c.from_residual-in_err-insert.ensures.1 tt
    (λ i.
    let rows = kept_rows (c.in_err-insert.ensures.err i) in
    record (summary_of old) { declared = with_uris rows old.declared; sources = rows })

pub returns : goal.returns
returns c =
    let old = c.args.state.now in
    let uri = c.args.source.uri in
    let kept = c.in_ok-kept.kept in
    let rows = kept_rows old.sources.entries in
    let new : has_text uri (map (λ r. r.uri) rows) ≡ false =
    key_listed c.as_str.result.now uri old.sources.entries c.contains_key.result c.as_str.ensures c.contains_key.ensures ∙ c.if-contains_key.false in
    let media : bytes_eq c.args.source.media_type plain ≡ true =
    yes_by (bytes_eq c.args.source.media_type plain) (ap (λ t. not (bytes_eq t plain)) (sym c.as_str-2.ensures) ∙ sym c.ne.ensures ∙ c.if-ne.false) in
    let read : ReadsAs (reads c.args.source.content) (Ok kept) = subst (λ t. ReadsAs (reads t) (Ok kept)) c.as_str-3.ensures c.in_ok-kept.ensures in
    let grown : kept_rows c.insert.new.self.entries ≡ rows ++ new_source c.args.source ∷ [] =
    ap kept_rows c.in_ok-insert.ensures.entries
    ∙ inserted_rows kept_row uri (λ r. bytes_eq uri r.uri) (row_says uri) c.from-uri.result (c.from-uri.ensures ∙ c.into_string.ensures) old.sources kept (row_absent uri rows new)
    ∙ ap (λ r. rows ++ r ∷ []) (kept_source c.args.source uri kept refl read) in
    let uris : map (λ r. r.uri) (kept_rows c.insert.new.self.entries) ≡ map (λ r. r.uri) rows ++ uri ∷ [] =
    ap (map (λ (r : SourceRow). r.uri)) grown ∙ map-append (λ (r : SourceRow). r.uri) rows (new_source c.args.source ∷ []) in (
      source_fits (summary_of old) c.args.source new media kept read,
      λ i. record (summary_of old) {
        declared = record old.declared { sources = uris i };
        sources = grown i;
      },
    )
