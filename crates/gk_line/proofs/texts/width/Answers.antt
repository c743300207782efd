use Rattle.std.proofs.Common.{sym, ap, length}
use Rattle.std.proofs.lemmas.Str.{chars-IsAscii}
use Rattle.gk_line.proofs.texts.width.Goals as goal

pub returns-then-is_ascii-clause-value : goal.returns-then-is_ascii-clause-value
returns-then-is_ascii-clause-value c = ap length (sym (chars-IsAscii c.args.text.now (c.requires.ascii c.if-is_ascii.true)))
