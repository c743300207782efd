use Rattle.std.proofs.Common.{◌≡◌, ◌∙◌, refl, ap, sym, subst, map}
use Rattle.std.specs.Str.{bytes_eq}
use Rattle.cm_attempt.specs.Table.{has_text}
use Rattle.cm_refs.specs.Declarations.{with_document}
use Rattle.cm_refs.specs.declared.fault.RefFault.TheVariants.{DuplicateUri}
use Rattle.cm_envelope.specs.declared.envelope.Envelope.TheVariants.{GherkinDocument}
use Rattle.cm_state.specs.ByOnePass.{plain_finding}
use Rattle.cm_state.specs.Summary.{SourceRow, change_source, with_ids}
use Rattle.cm_judge.specs.Kept.{IsAcceptedAt, kept_rows}
use Rattle.cm_judge.specs.State.{summary_of}
use Rattle.cm_judge.specs.Stops.{refused_reference}
use Rattle.cm_judge.proofs.Judged.{only_memory, stops}
use Rattle.cm_judge.proofs.KeptRows.{changed_uris}
use Rattle.cm_judge.proofs.judging.judge_document.Goals as goal

pub returns-in_err-checked : goal.returns-in_err-checked
returns-in_err-checked c =
    stops c.args.state.now (c.args.state.now) (GherkinDocument c.args.document) c.from_residual.result c.in_err-checked.field-0.0 c.from_residual.ensures.1
    c.in_err-checked.ensures.found refl

pub returns-in_err-declare_document : goal.returns-in_err-declare_document
returns-in_err-declare_document c =
    let fault = c.in_err-declare_document.field-0.0 in
    let answer = rw c.as_str.ensures at c.in_err-declare_document.ensures.answer in
    stops c.args.state.now (record (c.args.state.now) { declared = c.declare_document.new.self }) (GherkinDocument c.args.document)
    c.from_residual-in_err-declare_document.result (refused_reference fault) c.from_residual-in_err-declare_document.ensures.1
    (only_memory (has_text c.args.document.uri c.args.state.now.declared.documents) DuplicateUri fault (plain_finding (summary_of c.args.state.now) (GherkinDocument c.args.document))
    c.in_ok-checked.ensures.first answer)
    (λ i. summary_of (record (c.args.state.now) { declared = c.in_err-declare_document.ensures.err i }))

pub set_ids-requires : goal.set_ids-requires
set_ids-requires c =
    subst (λ t. IsAcceptedAt t (kept_rows c.args.state.now.sources.entries)) (sym c.as_str-2.ensures) c.in_ok-checked.ensures.accepted

pub returns : goal.returns
returns c =
    let old = c.args.state.now in
    let uri = c.args.document.uri in
    let ids = c.args.document.ids in
    let rows = kept_rows old.sources.entries in
    let made : c.declare_document.new.self ≡ with_document uri old.declared =
    c.in_ok-declare_document.ensures.ok ∙ ap (λ t. with_document t old.declared) c.as_str.ensures in
    let changed : kept_rows c.set_ids.new.sources.entries ≡ change_source uri (with_ids ids) rows =
    c.set_ids.ensures ∙ ap (λ t. change_source t (with_ids ids) rows) c.as_str-2.ensures in
    let uris : map (λ r. r.uri) (kept_rows c.set_ids.new.sources.entries) ≡ map (λ r. r.uri) rows =
    ap (map (λ (r : SourceRow). r.uri)) changed ∙ changed_uris (λ r. bytes_eq uri r.uri) (with_ids ids) (λ r. refl) rows in (
      c.in_ok-checked.ensures.found,
      λ i. record (summary_of old) { declared = record (made i) { sources = uris i }; sources = changed i },
    )
