use Rattle.std.proofs.Common.{◌≡◌, ◌∙◌, refl, ap, sym, true, false, Some, None, ◌&&◌}
use Rattle.cm_attempt.specs.Table.{has_text}
use Rattle.cm_judge.specs.Kept.{kept_row, kept_rows}
use Rattle.cm_judge.specs.State.{summary_of}
use Rattle.cm_judge.proofs.Judged.{pickle_differs, pickle_unknown}
use Rattle.cm_judge.proofs.KeptRows.{found_by, found_kept, found_none, listed_is, next_bare}
use Rattle.cm_judge.proofs.judging.check_pickle.Goals as goal

pub returns-in-None-clause-err : goal.returns-in-None-clause-err
returns-in-None-clause-err c =
    let s = c.args.state.now in
    let x = c.args.pickle.now in
    let rows = kept_rows s.sources.entries in
    let found = found_by c.as_str-uri.result.now x.uri c.find_source.result rows c.as_str-uri.ensures c.find_source.ensures in
    let row = found_none x.uri c.find_source.result rows c.in-None.is found in
    let source : has_text x.uri (summary_of s).declared.sources ≡ false = listed_is x.uri rows None row in
    pickle_unknown (summary_of s) x (rw source refl)

pub returns-then-not-has_document-clause-err : goal.returns-then-not-has_document-clause-err
returns-then-not-has_document-clause-err c =
    let s = c.args.state.now in
    let x = c.args.pickle.now in
    let rows = kept_rows s.sources.entries in
    let found = found_by c.as_str-uri.result.now x.uri c.find_source.result rows c.as_str-uri.ensures c.find_source.ensures in
    let k = c.in-Some.kept in
    let row = found_kept x.uri c.find_source.result k rows c.in-Some.is found in
    let source : has_text x.uri (summary_of s).declared.sources ≡ true = listed_is x.uri rows (Some (kept_row x.uri k.now)) row in
    let document = ap (λ t. has_text t s.declared.documents) (sym c.as_str-uri.ensures) ∙ sym c.has_document.ensures ∙ c.if-not-has_document.true in
    pickle_unknown (summary_of s) x (rw (source, document) refl)

pub returns-then-not-is_next-clause-err : goal.returns-then-not-is_next-clause-err
returns-then-not-is_next-clause-err c =
    let s = c.args.state.now in
    let x = c.args.pickle.now in
    let rows = kept_rows s.sources.entries in
    let found = found_by c.as_str-uri.result.now x.uri c.find_source.result rows c.as_str-uri.ensures c.find_source.ensures in
    let k = c.in-Some.kept in
    let row = found_kept x.uri c.find_source.result k rows c.in-Some.is found in
    let source : has_text x.uri (summary_of s).declared.sources ≡ true = listed_is x.uri rows (Some (kept_row x.uri k.now)) row in
    let document = ap (λ t. has_text t s.declared.documents) (sym c.as_str-uri.ensures) ∙ sym c.has_document.ensures ∙ c.if-not-has_document.false in
    let known : (has_text x.uri (summary_of s).declared.sources && has_text x.uri s.declared.documents) ≡ true = rw (source, document) refl in
    let next = next_bare x.uri x k.now ∙ sym c.in_ok-is_next.ensures ∙ c.if-not-is_next.true in
    pickle_differs (summary_of s) x known (rw (← row, next) refl)

pub returns-clause-known : goal.returns-clause-known
returns-clause-known c =
    let s = c.args.state.now in
    let x = c.args.pickle.now in
    let rows = kept_rows s.sources.entries in
    let found = found_by c.as_str-uri.result.now x.uri c.find_source.result rows c.as_str-uri.ensures c.find_source.ensures in
    let k = c.in-Some.kept in
    let row = found_kept x.uri c.find_source.result k rows c.in-Some.is found in
    let source : has_text x.uri (summary_of s).declared.sources ≡ true = listed_is x.uri rows (Some (kept_row x.uri k.now)) row in
    let document = ap (λ t. has_text t s.declared.documents) (sym c.as_str-uri.ensures) ∙ sym c.has_document.ensures ∙ c.if-not-has_document.false in
    let known : (has_text x.uri (summary_of s).declared.sources && has_text x.uri s.declared.documents) ≡ true = rw (source, document) refl in
    let next = next_bare x.uri x k.now ∙ sym c.in_ok-is_next.ensures ∙ c.if-not-is_next.false in
    known

pub returns-clause-next : goal.returns-clause-next
returns-clause-next c =
    let s = c.args.state.now in
    let x = c.args.pickle.now in
    let rows = kept_rows s.sources.entries in
    let found = found_by c.as_str-uri.result.now x.uri c.find_source.result rows c.as_str-uri.ensures c.find_source.ensures in
    let k = c.in-Some.kept in
    let row = found_kept x.uri c.find_source.result k rows c.in-Some.is found in
    let source : has_text x.uri (summary_of s).declared.sources ≡ true = listed_is x.uri rows (Some (kept_row x.uri k.now)) row in
    let document = ap (λ t. has_text t s.declared.documents) (sym c.as_str-uri.ensures) ∙ sym c.has_document.ensures ∙ c.if-not-has_document.false in
    let known : (has_text x.uri (summary_of s).declared.sources && has_text x.uri s.declared.documents) ≡ true = rw (source, document) refl in
    let next = next_bare x.uri x k.now ∙ sym c.in_ok-is_next.ensures ∙ c.if-not-is_next.false in
    rw (← row, next) refl
