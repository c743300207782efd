use Rattle.std.proofs.Common.{sym, ap, ◌∙◌, ◌∷◌, ◌++◌, [], length, length-append, refl, arith, ◌+◌}
use Rattle.std.specs.Prelude.{map, filter, find, ◌==◌}
use Rattle.std.specs.List.{slice_split}
use Rattle.std.specs.Str.{chars}
use Rattle.gk_line.specs.Tags.{pieces_from, piece_at, is_tag, has_space, tags_of, spaced_piece}
use Rattle.gk_line.specs.Views.{tag_word}
use Rattle.gk_line.specs.Texts.{text_after_indent}
use Rattle.gk_line.proofs.ColumnLemmas.{tags-place}
use Rattle.gk_line.proofs.TagLemmas.{tags_begin, tags_init, turn_tags, turn_spaced, fault_first, pieces-cut, pieces-none, carried}
use Rattle.gk_line.proofs.tags_and_comments.tags.Goals as goal
use Rattle.gk_line.specs.Characters.{at_sign}

pub returns-in_default-clause-value : goal.returns-in_default-clause-value
returns-in_default-clause-value c =
    absurd (tags_begin (chars c.args.line.text.now) (chars c.trim_start.result.now) c.requires.tags (c.trim_start.ensures.value ∙ ap text_after_indent c.without_comment-text.ensures.value) c.in_default.ensures.value)

pub returns-in_default-clause-plain : goal.returns-in_default-clause-plain
returns-in_default-clause-plain c =
    absurd (tags_begin (chars c.args.line.text.now) (chars c.trim_start.result.now) c.requires.tags (c.trim_start.ensures.value ∙ ap text_after_indent c.without_comment-text.ensures.value) c.in_default.ensures.value)

pub loop-piece-init : goal.loop-piece-init
unfolding tags_of spaced_piece
loop-piece-init c =
    let left = tags_init (chars c.args.line.text.now) (chars c.without_comment-text.result.now) (chars c.trim_start.result.now) (chars c.in-Some.rest.now) c.leading_space-column.result
    c.without_comment-text.ensures.value c.trim_start.ensures.value c.in-Some.ensures.value c.leading_space-column.ensures.value in (
      c.in-Some.ensures.utf8,
      omega (arith, c.in-Some.ensures.bound, c.trim_start.ensures.bound, c.without_comment-text.ensures.bound, c.leading_space-column.ensures.bound, c.requires.short),
      rw c.new-tags.ensures.items (ap (filter is_tag) left),
      sym (ap (find has_space) left),
      rw c.new-tags.ensures.items tt,
    )

pub loop-piece-preserved : goal.loop-piece-preserved
loop-piece-preserved c =
    let text = chars c.loop-piece.rest.now in
    let front = chars c.in-Some-cut.piece.now in
    let rest = chars c.in-Some-cut.next.now in (
      c.in-Some-cut.ensures.rest_utf8,
      omega (arith, c.loop-piece.invariant.1, ap length c.in-Some-cut.ensures.bytes, length-append c.in-Some-cut.piece.now (at_sign ∷ c.in-Some-cut.next.now), c.count.ensures.bound),
      turn_tags c.loop-piece.tags.items c.add_piece.new.tags.items c.loop-piece.column c.count.result text front rest _ c.in-Some-cut.ensures.place c.in_ok-add_piece.ensures.value c.count.ensures.value c.loop-piece.invariant.2,
      turn_spaced c.loop-piece.column c.count.result text front rest _ c.in-Some-cut.ensures.place c.in_ok-add_piece.ensures.plain c.count.ensures.value c.loop-piece.invariant.3,
      c.in_ok-add_piece.ensures.utf8 c.loop-piece.invariant.4,
    )

pub returns-clause-value : goal.returns-clause-value
returns-clause-value c =
    c.in_ok-add_piece-2.ensures.value
    ∙ ap (λ q. map tag_word c.loop-piece.tags.items ++ filter is_tag q) (sym (pieces-none c.loop-piece.column (chars c.loop-piece.rest.now) c.in_default-cut.ensures.place))
    ∙ c.loop-piece.invariant.2

pub returns-clause-place : goal.returns-clause-place
returns-clause-place c = tags-place c.add_piece-2.new.tags.items (chars c.args.line.text.now) (returns-clause-value c)

pub returns-clause-plain : goal.returns-clause-plain
returns-clause-plain c =
    c.loop-piece.invariant.3 ∙ ap (find has_space) (pieces-none c.loop-piece.column (chars c.loop-piece.rest.now) c.in_default-cut.ensures.place)
    ∙ rw c.in_ok-add_piece-2.ensures.plain refl

pub returns-in_err-add_piece-clause-fault : goal.returns-in_err-add_piece-clause-fault
returns-in_err-add_piece-clause-fault c =
    let text = chars c.loop-piece.rest.now in
    let front = chars c.in-Some-cut.piece.now in
    let rest = chars c.in-Some-cut.next.now in
    carried c.from_residual.result c.in_err-add_piece.field-0.0 _ c.from_residual.ensures.1
    (fault_first c.in_err-add_piece.field-0.0 (piece_at c.loop-piece.column front) (pieces_from (c.loop-piece.column + length front + 1) (slice_split (λ b. b == at_sign) rest)) _ c.in_err-add_piece.ensures.fault
    (c.loop-piece.invariant.3 ∙ ap (find has_space) (pieces-cut c.loop-piece.column text front rest c.in-Some-cut.ensures.place)))

pub returns-in_err-add_piece-2-clause-fault : goal.returns-in_err-add_piece-2-clause-fault
returns-in_err-add_piece-2-clause-fault c =
    let text = chars c.loop-piece.rest.now in
    carried c.from_residual-in_err-add_piece-2.result c.in_err-add_piece-2.field-0.0 _ c.from_residual-in_err-add_piece-2.ensures.1
    (fault_first c.in_err-add_piece-2.field-0.0 (piece_at c.loop-piece.column text) [] _ c.in_err-add_piece-2.ensures.fault
    (c.loop-piece.invariant.3 ∙ ap (find has_space) (pieces-none c.loop-piece.column text c.in_default-cut.ensures.place)))
