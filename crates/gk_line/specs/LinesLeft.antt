-- What an iterator over lines still has to give.
use Rattle.std.specs.Prelude.{ℕ, ◌≤◌, List, Option, length, IfSome}
use Rattle.std.specs.Iterator.{YieldsFirstBy}
use Rattle.std.specs.Str.{chars, IsUtf8}
use Rattle.gk_line.specs.Lines.{numbered_lines}
use Rattle.gk_line.specs.Views.{numbered_line}
use Rattle.gk_line.specs.declared.limit.TheConstants.{FEATURE_LIMIT}
use Rattle.gk_line.specs.declared.line_ends.Lines.{Lines}
use Rattle.gk_line.specs.declared.tokens.Line.{Line}

abbrev pub lines_left : Lines → List (ℕ × List ℕ)
lines_left s = numbered_lines s.number (chars s.rest.now)

-- the line is UTF-8, and its length in bytes and its number are at most that of a text's bytes
abbrev pub IsWithinLimits : Line → Type 0
IsWithinLimits line =
    (length line.text.now ≤ FEATURE_LIMIT) × IsUtf8 line.text.now
    × (1 ≤ line.number) × (line.number ≤ FEATURE_LIMIT)

-- a step gives the first line that is left, and leaves the others
abbrev pub GivesLine : Lines → Option Line → Lines → Type 0
GivesLine s line t = YieldsFirstBy numbered_line lines_left s line t × IfSome line IsWithinLimits
