use Rattle.std.proofs.Common.{◌∙◌, ap, List, Some, None, take_all}
use Rattle.cm_cases.specs.Firsts.{value_at}
use Rattle.cm_cases.proofs.FirstLemmas.{got_same}
use Rattle.cm_release.specs.Counts.{attempts_in, case_in, some_or_more}
use Rattle.cm_release.specs.declared.tally.StartEntry.{StartEntry}
use Rattle.cm_release.proofs.CountLemmas.{attempt_noted, attempt_passed}
use Rattle.cm_release.proofs.counts.attempts_of.Goals as goal
use Rattle.cm_release.proofs.counts.attempts_of.Goals.{in-Some+in_ok-count_again, in_default}

pub loop-start-preserved : goal.loop-start-preserved
loop-start-preserved c =
    elim c.match-get.branch [
      | in-Some+in_ok-count_again w ↦ λ pickle.
          let found = got_same (λ x. x.now) (λ x. x.id) c.as_slice.result.now c.in_ok-cases.cases c.as_str.result.now (Some w.in-Some.case.now) c.in_ok-cases.ensures w.in-Some.ensures.value in
          ap (λ m. value_at m pickle) w.seen-is
          ∙ attempt_noted c.args.kept.now.cases c.as_slice-start-items.result.now c.loop-start.start-index c.start-item.result w.in-Some.case.now.now w.as_str-in-Some.result.now c.loop-start.seen w.count_again.new.seen
          c.loop-start-test.true c.start-item.is (found ∙ (λ j. case_in (c.as_slice.ensures j) (c.as_str.ensures j))) w.as_str-in-Some.ensures c.loop-start.invariant w.in_ok-count_again.ensures pickle
      | in_default w ↦ λ pickle.
          let found = got_same (λ x. x.now) (λ x. x.id) c.as_slice.result.now c.in_ok-cases.cases c.as_str.result.now None c.in_ok-cases.ensures w.in_default.ensures.value in
          ap (λ m. value_at m pickle) w.seen-is
          ∙ attempt_passed c.args.kept.now.cases c.as_slice-start-items.result.now c.loop-start.start-index c.start-item.result c.loop-start.seen
          c.loop-start-test.true c.start-item.is (found ∙ (λ j. case_in (c.as_slice.ensures j) (c.as_str.ensures j))) c.loop-start.invariant pickle
    ]

pub returns : goal.returns
returns c pickle =
    c.loop-start.invariant pickle
    ∙ ap (λ (l : List StartEntry). some_or_more (attempts_in c.args.kept.now.cases pickle l))
    (take_all c.loop-start.start-index c.as_slice-start-items.result.now c.loop-start-test.false ∙ c.as_slice-start-items.ensures)
