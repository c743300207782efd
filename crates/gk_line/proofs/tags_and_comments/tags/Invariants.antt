use Rattle.std.proofs.Common.{◌≡◌, ◌≤◌, ◌+◌, ◌++◌, length}
use denote.Text.{Utf8}
use denote.Shadow.{shadow}
use Rattle.std.specs.Prelude.{map, filter, find, ◌==◌}
use Rattle.std.specs.List.{slice_split, AllByRecursion}
use Rattle.std.specs.Str.{chars, IsUtf8}
use Rattle.gk_line.specs.Tags.{pieces_from, is_tag, has_space, tags_of, spaced_piece}
use Rattle.gk_line.specs.Views.{tag_word}
use Rattle.gk_line.proofs.tags_and_comments.tags.Given as goal
use Rattle.gk_line.specs.Characters.{at_sign}

abbrev pub decreases-loop-piece : goal.decreases-loop-piece
decreases-loop-piece l = length l.rest

abbrev pub invariant-loop-piece : goal.invariant-loop-piece
invariant-loop-piece l =
    let left = pieces_from l.column (slice_split (λ c. c == at_sign) (chars l.rest)) in
    shadow (Utf8 l.rest) × (l.column + length l.rest ≤ 33_554_434)
    × (map tag_word l.tags.items ++ filter is_tag left ≡ tags_of (chars l.line.text.now))
    × (spaced_piece (chars l.line.text.now) ≡ find has_space left)
    × AllByRecursion (λ tag. IsUtf8 tag.word.now) l.tags.items
