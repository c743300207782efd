use Rattle.std.proofs.Common.{map}
use Rattle.cm_stream.specs.Release.{conditions_of}
use Rattle.ck_command_line.specs.CommandLine.{FeaturesGate}
use Rattle.ck_commands.specs.FilesAsked.{IsFeaturesReport}
use Rattle.ck_commands.proofs.FilesTold.{made_or_memory}
use Rattle.ck_commands.proofs.command_gate_features.print_features.Goals as goal

pub returns : goal.returns
returns g c =
    let gate : FeaturesGate = record {
      settings = c.args.settings;
      asked = conditions_of c.args.conditions.now;
      features = map (λ path. path.now) c.args.features.now;
      runs = map (λ run. run.now) c.args.runs.now;
    } in
    let report = c.features_report-report in (
      _,
      made_or_memory (IsFeaturesReport gate (g.F.Files.openings c.args.files.now) (g.F.Files.openings report.new.files) (g.F.Files.looks c.args.files.now) (g.F.Files.looks report.new.files)
          (g.R.ByteSource.input c.args.source.now) (g.R.ByteSource.input report.new.source)) report.result report.ensures,
      c.write_report.ensures,
    )
