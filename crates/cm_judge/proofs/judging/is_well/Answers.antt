use Rattle.std.proofs.Common.{◌≡◌, ◌∙◌, sym, false, true}
use Rattle.std.specs.List.{list_all}
use Rattle.std.specs.Prelude.{unwrap_or}
use Rattle.cm_attempt.specs.Table.{is_good_case, is_good_status}
use Rattle.cm_attempt.specs.declared.status.Status.TheVariants.{Passed}
use Rattle.cm_judge.proofs.Runs.{rows_accepted}
use Rattle.cm_judge.proofs.judging.is_well.Goals as goal
use Rattle.cm_judge.proofs.judging.is_well.Goals.{then-all_good_with, else-all_good_with}

pub returns-then-are_hooks_good : goal.returns-then-are_hooks_good
returns-then-are_hooks_good c =
    elim c.if-all_good_with.branch [
      | then-all_good_with w ↦
          let cases : list_all (is_good_case c.args.policy) c.args.state.now.track.cases ≡ true = sym c.all_good_with.ensures ∙ w.if-all_good_with.true in
          let are_good : w.are_hooks_good.result ≡ true = cc in
          let hooks : is_good_status c.args.policy (unwrap_or c.args.state.now.hooks_worst Passed) ≡ true = sym w.are_hooks_good.ensures ∙ are_good in
          rw (cases, hooks, rows_accepted c.args.state.now.sources.entries) c.are_accepted.ensures
      | else-all_good_with w ↦ let no : false ≡ true = cc in cc
    ]
