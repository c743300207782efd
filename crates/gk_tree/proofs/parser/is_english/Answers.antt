use Rattle.std.proofs.Common.{List, ℕ, sym, ap, ◌∙◌}
use Rattle.std.proofs.lemmas.Str.{encodes-chars}
use Rattle.gk_grammar.specs.Grammar.{english}
use Rattle.gk_grammar.specs.Machine.{same_text}
use Rattle.gk_grammar.proofs.Sound.{same_text_pointwise}
use Rattle.gk_tree.proofs.parser.is_english.Goals as goal

pub returns : goal.returns
returns c =
    c.eq.ensures
    ∙ same_text_pointwise c.args.word.now english
    ∙ ap (λ (z : List ℕ). same_text z english) (sym (encodes-chars c.args.word.now c.utf8.word))
