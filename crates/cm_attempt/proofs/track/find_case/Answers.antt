use Rattle.std.proofs.Common.{◌∙◌, ap, refl}
use Rattle.std.specs.Prelude.{option_map}
use Rattle.std.specs.Str.{bytes_eq}
use Rattle.cm_attempt.specs.Rows.{case_row}
use Rattle.cm_refs.proofs.EntryLemmas.{found_entry}
use Rattle.cm_attempt.proofs.track.find_case.Goals as goal

pub returns-clause-row : goal.returns-clause-row
returns-clause-row c =
    ap (option_map (case_row c.args.id.now)) c.in_ok-place.ensures.value
    ∙ found_entry case_row c.args.id.now (λ r. bytes_eq c.args.id.now r.id) (λ t v. refl) c.args.cases.now.entries

pub returns-in_err-place-clause-row : goal.returns-in_err-place-clause-row
returns-in_err-place-clause-row c =
    rw (c.from_residual.ensures)
    (ap (option_map (case_row c.args.id.now)) c.in_err-place.ensures.value
    ∙ found_entry case_row c.args.id.now (λ r. bytes_eq c.args.id.now r.id) (λ t v. refl) c.args.cases.now.entries)
