use Rattle.std.proofs.Common.{◌∙◌, ap, map, sym}
use Rattle.std.proofs.lemmas.Result.{IfOk-weaker}
use Rattle.cm_stream.specs.Release.{conditions_of}
use Rattle.ck_commands.specs.Judged.{added_counts}
use Rattle.ck_commands.specs.declared.command_gate.GateCounts.{GateCounts}
use Rattle.ck_commands.proofs.FilesTold.{names_count, parts_named, parts_unnamed}
use Rattle.ck_commands.proofs.command_gate_features.judge_runs_for_features.Goals as goal

pub returns-then-not-is_empty-clause-judged : goal.returns-then-not-is_empty-clause-judged
returns-then-not-is_empty-clause-judged g c =
    let some = names_count c.args.runs.now _ (sym c.is_empty.ensures ∙ c.if-not-is_empty.true) in
    IfOk-weaker c.judge_runs.result _ _ (λ all h. parts_named c.args.settings (conditions_of c.args.conditions.now) (map (λ run. run.now) c.args.runs.now) some _ _ _ _ _ _ _ _ h) c.judge_runs.ensures.judged

pub returns-clause-judged : goal.returns-clause-judged
returns-clause-judged g c =
    let none = names_count c.args.runs.now _ (sym c.is_empty.ensures ∙ c.if-not-is_empty.false) in
    let total = c.with-counts.ensures ∙ ap (λ (k : GateCounts). added_counts k c.in_ok-report.field-0.counts) c.none.ensures in
    parts_unnamed c.args.settings (conditions_of c.args.conditions.now) (map (λ run. run.now) c.args.runs.now) none _ _ _ _ _ _ _ _ total c.in_ok-report.ensures
