use Rattle.std.proofs.Common.{◌≡◌, true, sym, refl, ap, ◌∙◌, subst, Some, rules}
use denote.Enum.Bare.{sameb, same_true}
use Rattle.std.proofs.lemmas.Bool.{false≢true}
use Rattle.std.specs.Option.{option_map}
use Rattle.std.specs.Str.{chars}
use Rattle.gk_line.specs.Tokens.{title_of}
use Rattle.gk_line.specs.Views.{title_text}
use Rattle.gk_line.proofs.TitleLemmas.{block_title-is, block_title-misses, block_title-other}
use Rattle.gk_line.specs.declared.tokens.Block.{Block}
use Rattle.gk_line.specs.declared.tokens.Block.TheVariants.{Feature, Rule, Background, Scenario, Examples}
use Rattle.gk_line.specs.contracts.tokens.Block.{the_type}
use Rattle.gk_line.proofs.keyword_lines.title.Goals as goal

same_block : (block : Block) → sameb the_type block block ≡ true
same_block Feature = refl
same_block Rule = refl
same_block Background = refl
same_block Scenario = refl
same_block Examples = refl

pub returns-in_err-found-clause-value : goal.returns-in_err-found-clause-value
returns-in_err-found-clause-value c =
    ap (option_map title_text) c.from_residual.ensures
    ∙ sym (block_title-misses (chars c.args.line.text.now) (sym c.in_err-found.ensures.value) c.args.block)

pub returns-then-eq-clause-value : goal.returns-then-eq-clause-value
returns-then-eq-clause-value c =
    let is = block_title-is (chars c.args.line.text.now) _ (sym c.in_ok-found.ensures.value) in
    let same = same_true the_type (search rules) _ _ (sym c.eq.ensures ∙ c.if-eq.true) in
    sym (subst (λ b. title_of b (chars c.args.line.text.now) ≡ Some (title_text c.in_ok-found.title)) same is)

pub returns-else-eq-clause-value : goal.returns-else-eq-clause-value
returns-else-eq-clause-value c =
    sym (block_title-other (chars c.args.line.text.now) _ c.args.block (sym c.in_ok-found.ensures.value) (λ e. false≢true (sym (sym c.eq.ensures ∙ c.if-eq.false) ∙ ap (λ b. sameb the_type b c.args.block) e ∙ same_block c.args.block)))
