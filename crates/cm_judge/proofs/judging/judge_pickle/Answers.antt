use Rattle.std.proofs.Common.{◌≡◌, ◌∙◌, refl, ap, map}
use Rattle.std.specs.Str.{bytes_eq}
use Rattle.std.specs.String.{string_bytes}
use Rattle.cm_refs.specs.Declarations.{with_pickle}
use Rattle.cm_envelope.specs.declared.envelope.Envelope.TheVariants.{Pickle}
use Rattle.cm_state.specs.Summary.{SourceRow, change_source, one_more}
use Rattle.cm_judge.specs.Kept.{kept_rows}
use Rattle.cm_judge.specs.State.{summary_of}
use Rattle.cm_judge.specs.Stops.{refused_reference}
use Rattle.cm_judge.specs.declared.stop.Stop.TheVariants.{Memory}
use Rattle.cm_judge.proofs.Judged.{pickle_fits, pickle_told, stops}
use Rattle.cm_judge.proofs.KeptRows.{changed_uris}
use Rattle.cm_judge.proofs.judging.judge_pickle.Goals as goal

pub returns-in_err-check_pickle : goal.returns-in_err-check_pickle
returns-in_err-check_pickle c =
    stops c.args.state.now (c.args.state.now) (Pickle c.args.pickle) c.from_residual.result c.in_err-check_pickle.field-0.0 c.from_residual.ensures.1
    c.in_err-check_pickle.ensures.err refl

pub returns-in_err-steps : goal.returns-in_err-steps
returns-in_err-steps c =
    stops c.args.state.now (c.args.state.now) (Pickle c.args.pickle) c.from_residual-in_err-steps.result Memory c.from_residual-in_err-steps.ensures.1 tt refl

pub returns-in_err-declare_pickle : goal.returns-in_err-declare_pickle
returns-in_err-declare_pickle c =
    let fault = c.in_err-declare_pickle.field-0.0 in
    let parts = c.id_uri_steps-id.ensures in
    let same : map string_bytes c.in_ok-steps.steps.items ≡ map (λ s. s.id) c.args.pickle.steps = c.in_ok-steps.ensures ∙ ap (λ p. map (λ s. s.id) p.2) parts in
    let answer = rw (c.into_string.ensures, parts) at c.in_err-declare_pickle.ensures.answer in
    stops c.args.state.now (record (c.args.state.now) { declared = c.declare_pickle.new.self }) (Pickle c.args.pickle)
    c.from_residual-in_err-declare_pickle.result (refused_reference fault) c.from_residual-in_err-declare_pickle.ensures.1
    (pickle_told (summary_of c.args.state.now) c.args.pickle c.in_ok-check_pickle.ensures.known c.in_ok-check_pickle.ensures.next (map string_bytes c.in_ok-steps.steps.items) same fault answer)
    (λ i. summary_of (record (c.args.state.now) { declared = c.in_err-declare_pickle.ensures.err i }))

pub returns : goal.returns
returns c =
    let old = c.args.state.now in
    let uri = c.args.pickle.uri in
    let rows = kept_rows old.sources.entries in
    let parts = c.id_uri_steps-id.ensures in
    let steps = map string_bytes c.in_ok-steps.steps.items in
    let same : steps ≡ map (λ s. s.id) c.args.pickle.steps = c.in_ok-steps.ensures ∙ ap (λ p. map (λ s. s.id) p.2) parts in
    let name : string_bytes c.into_string.result ≡ c.args.pickle.id = c.into_string.ensures ∙ ap (λ p. p.0) parts in
    let answer = rw (c.into_string.ensures, parts) at c.in_ok-declare_pickle.ensures.answer in
    let made : c.declare_pickle.new.self ≡ with_pickle c.args.pickle.id (map (λ s. s.id) c.args.pickle.steps) old.declared =
    c.in_ok-declare_pickle.ensures.ok ∙ (λ i. with_pickle (name i) (same i) old.declared) in
    let changed : kept_rows c.count_pickle.new.sources.entries ≡ change_source uri one_more rows =
    c.count_pickle.ensures ∙ ap (λ t. change_source t one_more rows) (c.as_str.ensures ∙ ap (λ p. p.1) parts) in
    let uris : map (λ r. r.uri) (kept_rows c.count_pickle.new.sources.entries) ≡ map (λ r. r.uri) rows =
    ap (map (λ (r : SourceRow). r.uri)) changed ∙ changed_uris (λ r. bytes_eq uri r.uri) one_more (λ r. refl) rows in (
      pickle_fits (summary_of old) c.args.pickle c.in_ok-check_pickle.ensures.known c.in_ok-check_pickle.ensures.next steps same answer,
      λ i. record (summary_of old) {
        declared = record (made i) { sources = uris i };
        sources = changed i;
      },
    )
