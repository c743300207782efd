use Rattle.std.proofs.Common.{sym, ◌∙◌}
use Rattle.gk_parts.specs.Parts.{part_view}
use Rattle.cm_differs.proofs.PartTexts.{alone_text, part_plain}
use Rattle.cm_differs.proofs.difference.part_text.Goals as goal

pub returns : goal.returns
returns c = c.in_ok-text.ensures (part_plain (part_view c.args.part.now)) ∙ sym (alone_text (part_view c.args.part.now))
