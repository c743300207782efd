use Rattle.std.proofs.Common.{◌≡◌, map, string_bytes, take}
use Rattle.cm_stream.specs.Release.{conditions_of}
use Rattle.ck_commands.specs.Judged.{JudgesRuns}
use Rattle.ck_commands.proofs.command_gate.judge_runs.Given as goal

abbrev pub invariant-loop-run : goal.invariant-loop-run
invariant-loop-run g l = record {
  judged : JudgesRuns (record {
    settings = l.settings;
    asked = conditions_of l.conditions;
    runs = map (λ run. run.now) (take l.run-index l.runs);
  }) (g.F.Files.openings l.fn.files) (g.F.Files.openings l.files) (g.R.ByteSource.input l.fn.source) (g.R.ByteSource.input l.source)
      l.fn.marks l.marks (record { text = string_bytes l.text; status = l.status }) l.counts;
  looks : g.F.Files.looks l.files ≡ g.F.Files.looks l.fn.files;
}
