use Rattle.gk_line.proofs.TextLemmas.{chars-trim_start}
use Rattle.gk_line.proofs.texts.trim_start_by_characters.Goals as goal

pub returns-clause-value : goal.returns-clause-value
returns-clause-value c = chars-trim_start c.args.text.now c.trim_start.result.now c.trim_start.utf8 c.trim_start.ensures.trim
