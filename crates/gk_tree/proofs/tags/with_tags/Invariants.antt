use Rattle.std.proofs.Common.{◌≡◌, ◌+◌, ◌++◌, take}
use Rattle.std.specs.Prelude.{map}
use Rattle.gk_grammar.specs.Machine.{tags_from}
use Rattle.gk_tree.specs.Views.{word_of}
use Rattle.gk_tree.proofs.tags.with_tags.Given as goal

abbrev pub invariant-loop-word : goal.invariant-loop-word
invariant-loop-word l = record {
  count : l.next ≡ l.node + l.word-index;
  tags : l.all ≡ l.fn.tags ++ tags_from l.number l.node (map word_of (take l.word-index l.words));
}
