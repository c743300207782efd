use Rattle.std.proofs.Common.{◌≡◌, ◌∙◌, refl, ap, sym, true, false, None, Some, Bor}
use Rattle.std.specs.Prelude.{find, option_map}
use Rattle.std.specs.Str.{bytes_eq}
use Rattle.cm_state.specs.StateChecks.{is_accepted_by}
use Rattle.cm_judge.specs.Kept.{accepted_row, kept_row, kept_rows}
use Rattle.cm_judge.specs.State.{summary_of}
use Rattle.cm_judge.specs.declared.kept_sources.KeptSource.{KeptSource}
use Rattle.cm_judge.specs.declared.kept_sources.KeptSource.TheVariants.{Refused}
use Rattle.cm_judge.proofs.Judged.{error_fits, error_of_good, error_unknown}
use Rattle.cm_judge.proofs.KeptRows.{found_by, listed_is}
use Rattle.cm_judge.proofs.judging.judge_parse_error.Goals as goal

pub returns-in-None : goal.returns-in-None
returns-in-None c =
    let s = c.args.state.now in
    let uri = c.args.error.now.source.uri in
    let rows = kept_rows s.sources.entries in
    let found = found_by c.as_str.result.now uri c.find_source.result rows c.as_str.ensures c.find_source.ensures in
    let row : None ≡ find (λ r. bytes_eq uri r.uri) rows = sym (ap (option_map (λ (k : Bor KeptSource). kept_row uri k.now)) c.in-None.is) ∙ found in
    (error_unknown (summary_of s) c.args.error.now (listed_is uri rows None row), refl)

pub returns-in-Some-Accepted : goal.returns-in-Some-Accepted
returns-in-Some-Accepted c =
    let s = c.args.state.now in
    let uri = c.args.error.now.source.uri in
    let rows = kept_rows s.sources.entries in
    let a = c.in-Some-Accepted.field-0-0 in
    let found = found_by c.as_str.result.now uri c.find_source.result rows c.as_str.ensures c.find_source.ensures in
    let row : Some (accepted_row uri a) ≡ find (λ r. bytes_eq uri r.uri) rows =
    sym (ap (λ k. Some (kept_row uri k)) c.in-Some-Accepted.field-0-is) ∙ sym (ap (option_map (λ (k : Bor KeptSource). kept_row uri k.now)) c.in-Some-Accepted.is) ∙ found in
    let good : is_accepted_by (summary_of s) uri ≡ true = rw (← row) refl in
    (error_of_good (summary_of s) c.args.error.now (listed_is uri rows (Some (accepted_row uri a)) row) good, refl)

pub returns-in-Some-Refused : goal.returns-in-Some-Refused
returns-in-Some-Refused c =
    let s = c.args.state.now in
    let uri = c.args.error.now.source.uri in
    let rows = kept_rows s.sources.entries in
    let found = found_by c.as_str.result.now uri c.find_source.result rows c.as_str.ensures c.find_source.ensures in
    let row : Some (kept_row uri Refused) ≡ find (λ r. bytes_eq uri r.uri) rows =
    sym (ap (λ k. Some (kept_row uri k)) c.in-Some-Refused.field-0-is) ∙ sym (ap (option_map (λ (k : Bor KeptSource). kept_row uri k.now)) c.in-Some-Refused.is) ∙ found in
    let good : is_accepted_by (summary_of s) uri ≡ false = rw (← row) refl in (
      error_fits (summary_of s) c.args.error.now (listed_is uri rows (Some (kept_row uri Refused)) row) good,
      refl,
    )
