use Rattle.std.proofs.Common.{◌∙◌, sym, append_assoc}
use Rattle.ck_commands.proofs.command_gate_features.features_text.Goals as goal

pub returns : goal.returns
returns c = c.in_ok-text.ensures.ok ∙ sym (simp append_assoc)
