use Rattle.std.proofs.Common.{rules, arith, ◌∙◌, sym, refl, ◌≤◌}
use Rattle.std.specs.Str.{bytes_eq}
use Rattle.cm_attempt.specs.Rows.{case_row}
use Rattle.cm_attempt.specs.Table.{with_last}
use Rattle.cm_refs.proofs.EntryLemmas.{first_entry}
use Rattle.cm_attempt.proofs.EntryLemmas.{few_after, nowhere}
use Rattle.cm_attempt.proofs.track.close_case.Goals as goal

pub returns-in-Some-clause-rows : goal.returns-in-Some-clause-rows
returns-in-Some-clause-rows c id here =
    let at = first_entry case_row id (λ r. bytes_eq id r.id) (λ t v. refl) c.args.cases.now.entries
    c.in-Some.at c.index_mut-case.result.now (here ∙ c.in-Some.is) c.index_mut-case.ensures.value in
    sym (at.changed (with_last c.args.last) _ refl)

pub returns-in_default-clause-rows : goal.returns-in_default-clause-rows
returns-in_default-clause-rows c id here =
    sym (nowhere case_row id (λ r. bytes_eq id r.id) (λ t v. refl) c.args.cases.now.entries (here ∙ search rules) (with_last c.args.last))

pub returns-in-Some-clause-few : goal.returns-in-Some-clause-few
returns-in-Some-clause-few c =
    few_after (λ x. x.attempts ≤ c.args.most) (λ x. x.attempts ≤ c.args.most) (λ x h. omega (arith, h)) c.args.cases.now.entries
    c.in-Some.at c.index_mut-case.result.now _ c.requires.few c.index_mut-case.ensures.value (λ h. omega (arith, h))
