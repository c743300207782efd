use Rattle.std.proofs.Common.{rules}
use Rattle.gk_line.proofs.tags_and_comments.is_tags.Goals as goal

pub returns : goal.returns
returns c = search rules
