use Rattle.std.proofs.Common.{ap, ◌∙◌, refl}
use Rattle.std.specs.Str.{bytes_eq}
use Rattle.cm_attempt.specs.Rows.{attempt_row, attempt_rows}
use Rattle.cm_refs.proofs.EntryLemmas.{absent_get, inserted_rows}
use Rattle.cm_attempt.proofs.track.add_attempt.Goals as goal

pub returns-clause-ok : goal.returns-clause-ok
returns-clause-ok c =
    ap attempt_rows c.in_ok-insert.ensures.entries
    ∙ inserted_rows attempt_row c.args.id.now (λ r. bytes_eq c.args.id.now r.id) (λ t v. refl) c.in_ok-id.id c.in_ok-id.ensures c.args.attempts.now _ c.requires
    ∙ rw (c.in_ok-case_id.ensures) refl

pub returns-clause-len : goal.returns-clause-len
returns-clause-len c =
    let got = absent_get attempt_row c.args.id.now (λ r. bytes_eq c.args.id.now r.id) (λ t v. refl) c.in_ok-id.id c.in_ok-id.ensures c.args.attempts.now.entries c.requires in
    rw (c.in_ok-insert.ensures.len, c.in_ok-insert.ensures.old, got) refl
