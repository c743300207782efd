use Rattle.std.proofs.Common.{◌≡◌, ◌≤◌, length, take}
use Rattle.std.specs.Str.{chars, drop_trailing_whitespace, IsUtf8}
use Rattle.gk_line.proofs.texts.before_ascii_spaces.Given as goal

abbrev pub invariant-loop-end : goal.invariant-loop-end
invariant-loop-end l =
    (l.end ≤ length l.text) × IsUtf8 (take l.end l.text)
    × (drop_trailing_whitespace (chars (take l.end l.text)) ≡ drop_trailing_whitespace (chars l.text))

abbrev pub decreases-loop-end : goal.decreases-loop-end
decreases-loop-end l = l.end
