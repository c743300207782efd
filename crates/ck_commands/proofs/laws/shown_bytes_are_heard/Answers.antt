use Rattle.ck_commands.proofs.Shown.{shown_are_heard, shown_are_reported}
use Rattle.ck_commands.proofs.laws.shown_bytes_are_heard.Goals as goal

pub returns-clause-heard : goal.returns-clause-heard
returns-clause-heard c = shown_are_heard

pub returns-clause-reported : goal.returns-clause-reported
returns-clause-reported c = shown_are_reported
