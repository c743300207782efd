use Rattle.ck_commands.proofs.Compiles.{on_text_fault}
use Rattle.ck_commands.proofs.command_feature.read_document.Goals as goal

pub returns-in_err-text-clause-feature : goal.returns-in_err-text-clause-feature
returns-in_err-text-clause-feature g c = on_text_fault _ c.from_residual.result _ _ c.from_residual.ensures.1 c.in_err-text.ensures.fault
