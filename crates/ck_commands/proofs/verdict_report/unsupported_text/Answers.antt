use Rattle.std.proofs.Common.{◌∙◌, sym, refl, append_assoc}
use Rattle.ck_commands.proofs.verdict_report.unsupported_text.Goals as goal

pub returns : goal.returns
returns c = c.in_ok-text.ensures.ok ∙ sym (simp (append_assoc, c.verdict_reason_name-label.ensures) refl)
