use Rattle.std.proofs.Common.{sym, ap, ◌∙◌}
use Rattle.std.specs.Str.{chars}
use Rattle.gk_line.proofs.UnitLemmas.{plain_means}
use Rattle.gk_line.proofs.rows.unescape_cell.Goals as goal

pub returns : goal.returns
returns c = ap chars c.in_ok-value.ensures.ok ∙ sym (plain_means (chars c.args.text.now) (c.requires c.if-not-plain.false))
