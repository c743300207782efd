use Rattle.std.proofs.Common.{arith, ap, ◌∙◌, ◌≤◌, refl}
use Rattle.std.specs.Str.{bytes_eq}
use Rattle.cm_attempt.specs.Rows.{case_row, case_rows}
use Rattle.cm_refs.proofs.EntryLemmas.{inserted_rows}
use Rattle.cm_attempt.proofs.EntryLemmas.{few_inserted}
use Rattle.cm_attempt.proofs.track.add_case.Goals as goal

pub returns-clause-ok : goal.returns-clause-ok
returns-clause-ok c =
    ap case_rows c.in_ok-insert.ensures.entries
    ∙ inserted_rows case_row c.args.id.now (λ r. bytes_eq c.args.id.now r.id) (λ t v. refl) c.in_ok-id.id c.in_ok-id.ensures c.args.cases.now _ c.requires.new

pub returns-clause-few : goal.returns-clause-few
returns-clause-few c =
    rw (c.in_ok-insert.ensures.entries)
    (few_inserted case_row c.args.id.now (λ r. bytes_eq c.args.id.now r.id) (λ t v. refl) c.in_ok-id.id c.in_ok-id.ensures c.args.cases.now _ c.requires.new (λ x. x.attempts ≤ c.args.most) c.requires.few (omega arith))
