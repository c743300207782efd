use Rattle.std.proofs.Common.{sym, ◌∙◌}
use Rattle.std.specs.Str.{chars}
use Rattle.gk_line.proofs.TextLemmas.{TakesFirst-chars}
use Rattle.gk_line.proofs.CommentLemmas.{Plain-nil, Plain-end, Plain-cut, Plain-next, Plain-boundary, TakesFirst-shorter}
use Rattle.gk_line.proofs.tags_and_comments.before_comment.Goals as goal

pub loop-next-init : goal.loop-next-init
loop-next-init c = Plain-nil c.args.text.now c.utf8.text

pub range-requires-clause-end_boundary : goal.range-requires-clause-end_boundary
range-requires-clause-end_boundary c = Plain-boundary c.args.text.now c.loop-next.rest.now c.loop-next.invariant

pub returns-then-begins_comment-clause-value : goal.returns-then-begins_comment-clause-value
returns-then-begins_comment-clause-value c =
    let test = c.begins_comment.ensures c.in-Some.ensures.character (chars c.in-Some.next.now) (TakesFirst-chars c.loop-next.rest.now c.in-Some.next.now c.in-Some.ensures) in
    Plain-cut c.args.text.now c.loop-next.rest.now c.in-Some.next.now c.range.result.now c.loop-next.invariant c.in-Some.ensures (sym test ∙ c.if-begins_comment.true) c.range.ensures.value

pub loop-next-smaller : goal.loop-next-smaller
loop-next-smaller c = TakesFirst-shorter c.loop-next.rest.now c.in-Some.next.now c.in-Some.ensures

pub loop-next-preserved : goal.loop-next-preserved
loop-next-preserved c =
    let test = c.begins_comment.ensures c.in-Some.ensures.character (chars c.in-Some.next.now) (TakesFirst-chars c.loop-next.rest.now c.in-Some.next.now c.in-Some.ensures) in
    Plain-next c.args.text.now c.loop-next.rest.now c.in-Some.next.now c.loop-next.invariant c.in-Some.ensures (sym test ∙ c.if-begins_comment.false)

pub returns-clause-value : goal.returns-clause-value
returns-clause-value c = Plain-end c.args.text.now c.loop-next.rest.now c.loop-next.invariant c.in_default.ensures
