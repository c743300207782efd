use Rattle.std.specs.Str.{chars}
use Rattle.gk_line.proofs.CommentLemmas.{uncommented-none}
use Rattle.gk_line.proofs.tags_and_comments.without_comment.Goals as goal

pub returns-in-None-clause-value : goal.returns-in-None-clause-value
returns-in-None-clause-value c = uncommented-none (chars c.args.text.now) c.in-None.ensures.place
