use Rattle.std.proofs.Common.{arith, sym, refl, ◌<◌, ◌≤◌}
use Rattle.std.specs.Str.{bytes_eq}
use Rattle.cm_attempt.specs.Rows.{case_row}
use Rattle.cm_attempt.specs.Table.{with_open_attempt}
use Rattle.cm_refs.proofs.EntryLemmas.{first_entry}
use Rattle.cm_attempt.proofs.EntryLemmas.{few_after}
use Rattle.cm_attempt.proofs.track.open_case.Goals as goal

pub returns-clause-rows : goal.returns-clause-rows
returns-clause-rows c id here =
    let at = first_entry case_row id (λ r. bytes_eq id r.id) (λ t v. refl) c.args.cases.now.entries
    c.args.place c.index_mut-case.result.now here c.index_mut-case.ensures.value in
    sym (at.changed with_open_attempt _ refl)

pub returns-clause-few : goal.returns-clause-few
returns-clause-few c =
    few_after (λ x. x.attempts < c.args.most) (λ x. x.attempts ≤ c.args.most) (λ x h. omega (arith, h)) c.args.cases.now.entries
    c.args.place c.index_mut-case.result.now _ c.requires.few c.index_mut-case.ensures.value (λ h. omega (arith, h))
