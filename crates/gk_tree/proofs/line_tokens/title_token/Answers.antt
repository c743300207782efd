use Rattle.std.proofs.Common.{◌∙◌, sym, ap, Option}
use Rattle.std.specs.Option.{option_map}
use Rattle.gk_line.specs.Tokens.{TitleText}
use Rattle.gk_line.specs.Views.{line_chars}
use Rattle.gk_line.specs.declared.tokens.Block.{Block}
use Rattle.gk_grammar.specs.Token.{title_token}
use Rattle.gk_tree.specs.declared.token.Token.{Token}
use Rattle.gk_tree.specs.Views.{token_view}
use Rattle.gk_tree.proofs.HeadLemmas.{first_title}
use Rattle.gk_tree.proofs.line_tokens.title_token.Goals as goal

pub returns-in_err-block : goal.returns-in_err-block
returns-in_err-block c =
    ap (λ (o : Option Token). option_map token_view o) c.from_residual.ensures
    ∙ ap (λ (o : Option (Block × TitleText)). option_map (λ (p : Block × TitleText). title_token p.0 p.1) o) c.in_err-block.ensures.value
    ∙ sym (first_title (line_chars c.args.line))

pub returns : goal.returns
returns c =
    ap (λ (o : Option (Block × TitleText)). option_map (λ (p : Block × TitleText). title_token p.0 p.1) o) c.in_ok-block.ensures.value
    ∙ sym (first_title (line_chars c.args.line))
