use Rattle.std.proofs.Common.{◌≡◌, drop}
use Rattle.std.specs.Prelude.{map}
use Rattle.gk_grammar.specs.Grammar.{from_text}
use Rattle.gk_tree.specs.Views.{kept_line}
use Rattle.gk_tree.proofs.description.without_first_blanks.Given as goal

abbrev pub invariant-loop-i : goal.invariant-loop-i
invariant-loop-i l = from_text (map kept_line (drop l.i l.lines)) ≡ from_text (map kept_line l.lines)
