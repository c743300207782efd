use Rattle.std.proofs.Common.{map}
use Rattle.std.proofs.lemmas.Result.{IfOk-weaker}
use Rattle.cm_stream.specs.Release.{conditions_of}
use Rattle.ck_command_line.specs.CommandLine.{FeaturesGate}
use Rattle.ck_commands.proofs.FilesTold.{features_told}
use Rattle.ck_commands.proofs.command_gate_features.features_report.Goals as goal

pub returns-in-Ok : goal.returns-in-Ok
returns-in-Ok g c =
    let gate : FeaturesGate = record {
      settings = c.args.settings;
      asked = conditions_of c.args.conditions.now;
      features = map (λ path. path.now) c.args.features.now;
      runs = map (λ run. run.now) c.args.runs.now;
    } in
    IfOk-weaker c.asked_features_report.result _ _ (λ report is. features_told gate c.in-Ok.found.items c.as_slice-found.result.now c.as_slice-found.ensures.value _ _ _ _ _ _ _ _ _ c.in-Ok.ensures.files c.asked_features_report.ensures.looks is) c.asked_features_report.ensures.report
