use Rattle.std.proofs.Common.{◌≡◌, ◌≤◌, take, length}
use Rattle.std.specs.Prelude.{map, reverse}
use Rattle.gk_grammar.specs.Grammar.{from_text}
use Rattle.gk_tree.specs.Views.{kept_line}
use Rattle.gk_tree.proofs.description.without_last_blanks.Given as goal

abbrev pub decreases-loop-end : goal.decreases-loop-end
decreases-loop-end l = l.end

abbrev pub invariant-loop-end : goal.invariant-loop-end
invariant-loop-end l = record {
  within : l.end ≤ length l.lines;
  same : from_text (reverse (map kept_line (take l.end l.lines))) ≡ from_text (reverse (map kept_line l.lines));
}
