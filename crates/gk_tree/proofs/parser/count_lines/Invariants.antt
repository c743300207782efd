use Rattle.std.proofs.Common.{◌≡◌, ◌≤◌, ◌+◌, length}
use Rattle.std.specs.Str.{chars, IsUtf8}
use Rattle.std.specs.Str.Lines.{lines}
use Rattle.gk_line.specs.Lines.{without_mark}
use Rattle.gk_tree.proofs.parser.count_lines.Given as goal

abbrev pub decreases-loop-end : goal.decreases-loop-end
decreases-loop-end l = length l.rest

abbrev pub invariant-loop-end : goal.invariant-loop-end
invariant-loop-end l = record {
  utf8 : IsUtf8 l.rest;
  short : l.count + length l.rest ≤ 16_777_216;
  counted : l.count + length (lines (chars l.rest)) ≡ length (lines (without_mark (chars l.text)));
}
