use Rattle.std.proofs.Common.{◌≡◌, ◌∙◌, [], refl, ap, sym, true, false, Some, None}
use Rattle.cm_attempt.specs.Table.{has_text, has_repeat}
use Rattle.cm_state.specs.StateChecks.{find_source, is_accepted_by, is_awaited_of}
use Rattle.cm_judge.specs.Kept.{IsAcceptedAt, accepted_row, kept_row, kept_rows}
use Rattle.cm_judge.specs.State.{summary_of}
use Rattle.cm_judge.proofs.Judged.{document_again, document_differs, document_fits, document_of_refused, document_repeats, document_unknown, halts, no_answer}
use Rattle.cm_judge.specs.declared.stop.Stop.TheVariants.{Memory}
use Rattle.cm_envelope.specs.declared.envelope.Envelope.TheVariants.{GherkinDocument}
use Rattle.cm_judge.proofs.KeptRows.{found_by, found_kept, found_none, listed_is}
use Rattle.cm_judge.proofs.judging.check_document.Goals as goal

pub returns-in-None-clause-found : goal.returns-in-None-clause-found
returns-in-None-clause-found c =
    let s = c.args.state.now in
    let x = c.args.document.now in
    let rows = kept_rows s.sources.entries in
    let found = found_by c.as_str-uri.result.now x.uri c.find_source.result rows c.as_str-uri.ensures c.find_source.ensures in
    let row = found_none x.uri c.find_source.result rows c.in-None.is found in
    document_unknown (summary_of s) x (listed_is x.uri rows None row)

pub returns-then-has_document-clause-found : goal.returns-then-has_document-clause-found
returns-then-has_document-clause-found c =
    let s = c.args.state.now in
    let x = c.args.document.now in
    let rows = kept_rows s.sources.entries in
    let found = found_by c.as_str-uri.result.now x.uri c.find_source.result rows c.as_str-uri.ensures c.find_source.ensures in
    let k = c.in-Some.kept in
    let row = found_kept x.uri c.find_source.result k rows c.in-Some.is found in
    let known : has_text x.uri (summary_of s).declared.sources ≡ true = listed_is x.uri rows (Some (kept_row x.uri k.now)) row in
    document_again (summary_of s) x known (ap (λ t. has_text t s.declared.documents) (sym c.as_str-uri.ensures) ∙ sym c.has_document.ensures ∙ c.if-has_document.true)

pub returns-in-Refused-clause-found : goal.returns-in-Refused-clause-found
returns-in-Refused-clause-found c =
    let s = c.args.state.now in
    let x = c.args.document.now in
    let rows = kept_rows s.sources.entries in
    let found = found_by c.as_str-uri.result.now x.uri c.find_source.result rows c.as_str-uri.ensures c.find_source.ensures in
    let k = c.in-Some.kept in
    let row = found_kept x.uri c.find_source.result k rows c.in-Some.is found in
    let known : has_text x.uri (summary_of s).declared.sources ≡ true = listed_is x.uri rows (Some (kept_row x.uri k.now)) row in
    let first : has_text x.uri s.declared.documents ≡ false = ap (λ t. has_text t s.declared.documents) (sym c.as_str-uri.ensures) ∙ sym c.has_document.ensures ∙ c.if-has_document.false in
    let bad : is_accepted_by (summary_of s) x.uri ≡ false = rw (← row, c.in-Refused.is) refl in
    document_of_refused (summary_of s) x known first bad

pub returns-then-not-is_awaited-clause-found : goal.returns-then-not-is_awaited-clause-found
returns-then-not-is_awaited-clause-found c =
    let s = c.args.state.now in
    let x = c.args.document.now in
    let rows = kept_rows s.sources.entries in
    let found = found_by c.as_str-uri.result.now x.uri c.find_source.result rows c.as_str-uri.ensures c.find_source.ensures in
    let k = c.in-Some.kept in
    let row = found_kept x.uri c.find_source.result k rows c.in-Some.is found in
    let known : has_text x.uri (summary_of s).declared.sources ≡ true = listed_is x.uri rows (Some (kept_row x.uri k.now)) row in
    let first : has_text x.uri s.declared.documents ≡ false = ap (λ t. has_text t s.declared.documents) (sym c.as_str-uri.ensures) ∙ sym c.has_document.ensures ∙ c.if-has_document.false in
    let a = c.in-Accepted.accepted in
    let good : find_source (summary_of s) x.uri ≡ Some (accepted_row x.uri a) = sym row ∙ ap (λ k. Some (kept_row x.uri k)) c.in-Accepted.is in
    document_differs (summary_of s) x known first a good (sym c.is_awaited.ensures ∙ c.if-not-is_awaited.true)

pub returns-in_err-have_repeat-clause-found : goal.returns-in_err-have_repeat-clause-found
returns-in_err-have_repeat-clause-found c =
    halts c.args.state.now (GherkinDocument c.args.document.now) c.from_residual.result Memory c.from_residual.ensures.1 tt

pub returns-in_err-have_repeat-clause-first : goal.returns-in_err-have_repeat-clause-first
returns-in_err-have_repeat-clause-first c =
    no_answer c.from_residual.result (λ x. x ≡ Memory) (has_text c.args.document.now.uri c.args.state.now.declared.documents ≡ false) c.from_residual.ensures.1

pub returns-in_err-have_repeat-clause-accepted : goal.returns-in_err-have_repeat-clause-accepted
returns-in_err-have_repeat-clause-accepted c =
    no_answer c.from_residual.result (λ x. x ≡ Memory) (IsAcceptedAt c.args.document.now.uri (kept_rows c.args.state.now.sources.entries)) c.from_residual.ensures.1

pub returns-then-branch-clause-found : goal.returns-then-branch-clause-found
returns-then-branch-clause-found c =
    let s = c.args.state.now in
    let x = c.args.document.now in
    let rows = kept_rows s.sources.entries in
    let found = found_by c.as_str-uri.result.now x.uri c.find_source.result rows c.as_str-uri.ensures c.find_source.ensures in
    let k = c.in-Some.kept in
    let row = found_kept x.uri c.find_source.result k rows c.in-Some.is found in
    let known : has_text x.uri (summary_of s).declared.sources ≡ true = listed_is x.uri rows (Some (kept_row x.uri k.now)) row in
    let first : has_text x.uri s.declared.documents ≡ false = ap (λ t. has_text t s.declared.documents) (sym c.as_str-uri.ensures) ∙ sym c.has_document.ensures ∙ c.if-has_document.false in
    let a = c.in-Accepted.accepted in
    let good : find_source (summary_of s) x.uri ≡ Some (accepted_row x.uri a) = sym row ∙ ap (λ k. Some (kept_row x.uri k)) c.in-Accepted.is in
    let same : is_awaited_of x.document (accepted_row [] a) ≡ true = sym c.is_awaited.ensures ∙ c.if-not-is_awaited.false in
    let repeat = ap has_repeat (sym c.as_slice.ensures) ∙ sym c.in_ok-have_repeat.ensures ∙ c.if-branch.true in
    document_repeats (summary_of s) x known first a good same repeat

pub returns-clause-found : goal.returns-clause-found
returns-clause-found c =
    let s = c.args.state.now in
    let x = c.args.document.now in
    let rows = kept_rows s.sources.entries in
    let found = found_by c.as_str-uri.result.now x.uri c.find_source.result rows c.as_str-uri.ensures c.find_source.ensures in
    let k = c.in-Some.kept in
    let row = found_kept x.uri c.find_source.result k rows c.in-Some.is found in
    let known : has_text x.uri (summary_of s).declared.sources ≡ true = listed_is x.uri rows (Some (kept_row x.uri k.now)) row in
    let first : has_text x.uri s.declared.documents ≡ false = ap (λ t. has_text t s.declared.documents) (sym c.as_str-uri.ensures) ∙ sym c.has_document.ensures ∙ c.if-has_document.false in
    let a = c.in-Accepted.accepted in
    let good : find_source (summary_of s) x.uri ≡ Some (accepted_row x.uri a) = sym row ∙ ap (λ k. Some (kept_row x.uri k)) c.in-Accepted.is in
    let same : is_awaited_of x.document (accepted_row [] a) ≡ true = sym c.is_awaited.ensures ∙ c.if-not-is_awaited.false in
    let repeat = ap has_repeat (sym c.as_slice.ensures) ∙ sym c.in_ok-have_repeat.ensures ∙ c.if-branch.false in
    document_fits (summary_of s) x known first a good same repeat

pub returns-clause-first : goal.returns-clause-first
returns-clause-first c =
    let s = c.args.state.now in
    let x = c.args.document.now in
    let rows = kept_rows s.sources.entries in
    let found = found_by c.as_str-uri.result.now x.uri c.find_source.result rows c.as_str-uri.ensures c.find_source.ensures in
    let k = c.in-Some.kept in
    let row = found_kept x.uri c.find_source.result k rows c.in-Some.is found in
    let known : has_text x.uri (summary_of s).declared.sources ≡ true = listed_is x.uri rows (Some (kept_row x.uri k.now)) row in
    let first : has_text x.uri s.declared.documents ≡ false = ap (λ t. has_text t s.declared.documents) (sym c.as_str-uri.ensures) ∙ sym c.has_document.ensures ∙ c.if-has_document.false in
    first

pub returns-clause-accepted : goal.returns-clause-accepted
returns-clause-accepted c =
    let s = c.args.state.now in
    let x = c.args.document.now in
    let rows = kept_rows s.sources.entries in
    let found = found_by c.as_str-uri.result.now x.uri c.find_source.result rows c.as_str-uri.ensures c.find_source.ensures in
    let k = c.in-Some.kept in
    let row = found_kept x.uri c.find_source.result k rows c.in-Some.is found in
    let known : has_text x.uri (summary_of s).declared.sources ≡ true = listed_is x.uri rows (Some (kept_row x.uri k.now)) row in
    let first : has_text x.uri s.declared.documents ≡ false = ap (λ t. has_text t s.declared.documents) (sym c.as_str-uri.ensures) ∙ sym c.has_document.ensures ∙ c.if-has_document.false in
    let a = c.in-Accepted.accepted in
    let good : find_source (summary_of s) x.uri ≡ Some (accepted_row x.uri a) = sym row ∙ ap (λ k. Some (kept_row x.uri k)) c.in-Accepted.is in
    rw good refl
