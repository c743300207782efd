use Rattle.std.proofs.Common.{◌≡◌, take}
use Rattle.std.specs.Prelude.{map, filter, not}
use Rattle.gk_grammar.specs.Token.{is_comment}
use Rattle.gk_tree.specs.Views.{kept_line}
use Rattle.gk_tree.proofs.description.without_comments.Given as goal

abbrev pub invariant-loop-line : goal.invariant-loop-line
invariant-loop-line l = map kept_line l.kept.items ≡ filter (λ x. not (is_comment x)) (map kept_line (take l.line-index l.lines))
