use Rattle.std.proofs.Common.{◌≡◌, ◌∙◌, sym, ap, true, false, Option, Some, None}
use Rattle.std.specs.Prelude.{if◌then◌else◌}
use Rattle.cm_refs.specs.Declarations.{Declarations}
use Rattle.cm_attempt.specs.Table.{has_text}
use Rattle.cm_judge.specs.State.{summary_of}
use Rattle.cm_stream.specs.Texts.{Utf8}
use Rattle.cm_fault_reasons.specs.Unknown.{ToldName, told_uri}
use Rattle.cm_fault_reasons.proofs.UnknownLemmas.{pickle_told, source_known}
use Rattle.cm_fault_reasons.proofs.unknown.unknown_of_pickle.Goals as goal

pub returns-then-not-has_source : goal.returns-then-not-has_source
returns-then-not-has_source c =
    let s = summary_of c.args.state.now in
    let uri = c.args.pickle.now.uri in
    let known = source_known c.args.state.now c.as_str-uri.result.now c.find_source.result c.find_source.ensures in
    let no : false ≡ has_text uri s.declared.sources = sym c.if-not-has_source.true ∙ c.is_some-has_source.ensures ∙ known ∙ ap (λ (t : Utf8). has_text t s.declared.sources) c.as_str-uri.ensures in
    c.uri_unless.ensures ∙ ap (λ (t : Utf8). Some (told_uri t)) c.as_str-uri.ensures ∙ pickle_told s uri false (has_text uri s.declared.documents) no (λ _. has_text uri s.declared.documents)

pub returns : goal.returns
returns c =
    let s = summary_of c.args.state.now in
    let uri = c.args.pickle.now.uri in
    let known = source_known c.args.state.now c.as_str-uri.result.now c.find_source.result c.find_source.ensures in
    let yes : true ≡ has_text uri s.declared.sources = sym c.if-not-has_source.false ∙ c.is_some-has_source.ensures ∙ known ∙ ap (λ (t : Utf8). has_text t s.declared.sources) c.as_str-uri.ensures in
    let same = ap (λ (d : Declarations). has_text c.as_str-uri.result.now d.documents) c.declared.ensures in
    let document = c.has_document.ensures ∙ same ∙ ap (λ (t : Utf8). has_text t s.declared.documents) c.as_str-uri.ensures in
    c.uri_unless-2.ensures ∙ ap (λ (t : Utf8). let o : Option ToldName = if c.has_document.result then None else Some (told_uri t) in o) c.as_str-uri.ensures ∙ pickle_told s uri true c.has_document.result yes document
