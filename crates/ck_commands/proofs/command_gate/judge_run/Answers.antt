use Rattle.std.proofs.Common.{◌∙◌, [], append-nil, sym}
use Rattle.cm_stream.specs.Release.{conditions_of}
use Rattle.ck_commands.specs.Runs.{heard}
use Rattle.ck_commands.proofs.JudgedLemmas.{heard_run}
use Rattle.ck_commands.proofs.RunsReleased.{reads_standard}
use Rattle.ck_commands.proofs.command_gate.judge_run.Goals as goal

pub returns-then-eq-clause-judged : goal.returns-then-eq-clause-judged
returns-then-eq-clause-judged g c = ([], heard _ _, sym (append-nil _), reads_standard c.args.name.now _ _ (sym c.eq.ensures ∙ c.if-eq.true), heard_run c.args.settings (conditions_of c.args.conditions.now) _ _ _ _ _ _ c.judge_opened_run.ensures)
