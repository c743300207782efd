use Rattle.std.proofs.Common.{◌∙◌}
use Rattle.cm_ran.proofs.MarkLemmas.{text_found}
use Rattle.cm_ran.proofs.marks.Marks.has_text.Goals as goal

pub returns : goal.returns
returns c = c.contains_key.ensures ∙ text_found c.args.self.now.rows c.args.text.now
