use Rattle.std.proofs.Common.{◌∙◌, [], ap, append-nil, map, refl, sym, take}
use Rattle.cm_stream.specs.Release.{conditions_of}
use Rattle.ck_commands.specs.Judged.{added_counts, counts_made, run_report}
use Rattle.ck_commands.specs.Runs.{status_after}
use Rattle.ck_commands.proofs.JudgedLemmas.{nothing_ran, runs_push}
use Rattle.ck_commands.proofs.RunsLemmas.{names_more}
use Rattle.ck_commands.proofs.command_gate.judge_runs.Goals as goal

pub loop-run-init : goal.loop-run-init
loop-run-init g c = record {
  judged = record {
    report = record {
      noted = [];
      opened = sym (append-nil _);
      readings = [];
      read = (refl, refl);
      reports = [];
      each = tt;
      joined = cc;
    };
    texts = refl;
    done = λ done. record { streams = []; are = tt; marked = nothing_ran c.args.marks.now; rows = λ whole. whole; counted = c.none-counts.ensures };
  };
  looks = refl;
}

pub loop-run-preserved : goal.loop-run-preserved
loop-run-preserved g c =
    let one = c.judge_run-judged.ensures.judged in
    let total = c.with-counts.ensures ∙ ap (added_counts c.loop-run.counts) c.gate_counts_of_run.ensures in
    record {
      judged = rw (names_more c.args.runs.now c.loop-run.run-index (record { ref_ptr = (0, 0); now = [] }) c.loop-run-test.true, c.gate_status_of_runs-status.ensures ∙ ap (status_after c.loop-run.status) c.gate_status_of_run.ensures, total)
          (runs_push c.args.settings (conditions_of c.args.conditions.now) (map (λ run. run.now) (take c.loop-run.run-index c.args.runs.now)) _ _ _ _ one.0 _ _ _ _ _ _ one.1 _ _ _ _ (run_report c.judge_run-judged.result) (counts_made c.judge_run-judged.result) c.loop-run.invariant.judged one.2 one.3 one.4 c.in_ok-add_gate_run.ensures);
      looks = c.judge_run-judged.ensures.looks ∙ c.loop-run.invariant.looks;
    }
