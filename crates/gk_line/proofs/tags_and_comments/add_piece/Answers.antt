use Rattle.std.proofs.Common.{ap, ◌∙◌}
use Rattle.std.specs.Prelude.{not}
use Rattle.std.specs.Str.{chars}
use Rattle.gk_line.specs.Tags.{piece_at}
use Rattle.gk_line.proofs.TagLemmas.{pushed_tag, skipped_tag, is_tag-trim}
use Rattle.gk_line.proofs.tags_and_comments.add_piece.Goals as goal

pub returns-in_ok-push_tag-clause-value : goal.returns-in_ok-push_tag-clause-value
returns-in_ok-push_tag-clause-value c =
    let is = is_tag-trim c.trim-word.result.now (chars c.args.piece.now) c.args.column c.is_empty.result c.trim-word.utf8 c.trim-word.ensures c.is_empty.ensures ∙ ap not c.if-not-is_empty.true in
    pushed_tag c.args.tags.now.items c.push_tag.new.tags.items _ (piece_at c.args.column (chars c.args.piece.now)) is
    (ap (λ w. record { word = w; column = c.args.column }) c.trim-word.ensures) c.in_ok-push_tag.ensures

pub returns-else-not-is_empty-clause-value : goal.returns-else-not-is_empty-clause-value
returns-else-not-is_empty-clause-value c =
    let is = is_tag-trim c.trim-word.result.now (chars c.args.piece.now) c.args.column c.is_empty.result c.trim-word.utf8 c.trim-word.ensures c.is_empty.ensures ∙ ap not c.if-not-is_empty.false in
    skipped_tag c.args.tags.now.items (piece_at c.args.column (chars c.args.piece.now)) is
