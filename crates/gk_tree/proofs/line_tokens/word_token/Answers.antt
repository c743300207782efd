use Rattle.std.proofs.Common.{sym, ap}
use Rattle.gk_line.specs.Views.{line_chars}
use Rattle.gk_grammar.specs.Token as read
use Rattle.gk_tree.specs.Views.{token_view}
use Rattle.gk_tree.proofs.HeadLemmas.{step_word, fence_word}
use Rattle.gk_tree.proofs.line_tokens.word_token.Goals as goal

pub returns-in-Some : goal.returns-in-Some
returns-in-Some c =
    ap read.token_or_other (sym (step_word (line_chars c.args.line) (token_view c.in-Some.token) (sym c.in-Some.ensures)))

pub returns-in-Some-fence_token : goal.returns-in-Some-fence_token
returns-in-Some-fence_token c =
    ap read.token_or_other (sym (fence_word (line_chars c.args.line) (token_view c.in-Some-fence_token.token) (sym c.in_default.ensures) (sym c.in-Some-fence_token.ensures)))
