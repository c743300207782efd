use Rattle.std.proofs.Common.{length}
use Rattle.gk_line.proofs.CommentLemmas.{Plain}
use Rattle.gk_line.proofs.tags_and_comments.before_comment.Given as goal

abbrev pub decreases-loop-next : goal.decreases-loop-next
decreases-loop-next l = length l.rest

abbrev pub invariant-loop-next : goal.invariant-loop-next
invariant-loop-next l = Plain l.text l.rest
