use Rattle.std.proofs.Common.{◌≡◌, ◌+◌, length, drop}
use Rattle.std.specs.Str.{chars}
use Rattle.gk_line.specs.Texts.{text_after_indent}
use Rattle.gk_line.specs.Tokens.{indent_of}
use Rattle.gk_tree.proofs.line_tokens.line_head.Given as goal

abbrev pub invariant-loop-c : goal.invariant-loop-c
invariant-loop-c l = record {
  counted : l.indent ≡ length l.yielded;
  passed : indent_of (chars l.text) ≡ length l.yielded + indent_of (drop (length l.yielded) (chars l.text));
  left : text_after_indent (chars l.text) ≡ text_after_indent (drop (length l.yielded) (chars l.text));
}
