use Rattle.std.proofs.Common.{◌≡◌, take}
use Rattle.std.specs.Prelude.{map}
use Rattle.std.specs.String.{string_bytes}
use Rattle.std.specs.List.{join_with_byte}
use Rattle.gk_grammar.specs.Grammar.{content_line}
use Rattle.gk_tree.specs.Views.{kept_line}
use Rattle.gk_tree.proofs.doc_string.doc_string_content.Given as goal

abbrev pub invariant-loop-i : goal.invariant-loop-i
invariant-loop-i l = string_bytes l.text ≡ join_with_byte 10 (map (content_line l.fence l.indent) (map kept_line (take l.i l.lines)))
