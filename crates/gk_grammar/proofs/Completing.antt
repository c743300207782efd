-- The lines that complete what is open, as they are read.
use Rattle.std.proofs.Common.{◌≡◌, ℕ, [], ◌∷◌, refl}
use Rattle.std.specs.Prelude.{codes}
use Rattle.gk_line.specs.Tokens as tokens
use Rattle.gk_line.specs.Texts as texts
use Rattle.gk_line.specs.declared.tokens.Block.TheVariants as block
use Rattle.gk_document.specs.declared.tree.Fence.TheVariants as fence
use Rattle.gk_grammar.specs.Token.{line, token_of, Title, Fenced}
use Rattle.gk_grammar.specs.Place.{ByFeature, ByScenario, ByQuotes, ByBackticks, completion_lines}

pub by_feature : (n : ℕ) → completion_lines ByFeature n ≡ line n (codes "Feature:") 0 (Title block.Feature (codes "Feature") []) ∷ []
unfolding token_of tokens.is_blank_line tokens.begins_by texts.after texts.text_after_indent texts.first_some tokens.title_of tokens.indent_of lib.Utf8.encode texts.trimmed_text
by_feature n = refl

pub by_scenario : (n : ℕ) → completion_lines ByScenario n ≡ line n (codes "Scenario:") 0 (Title block.Scenario (codes "Scenario") []) ∷ []
unfolding token_of tokens.is_blank_line tokens.begins_by texts.after texts.text_after_indent texts.first_some tokens.title_of tokens.indent_of lib.Utf8.encode texts.trimmed_text
by_scenario n = refl

pub by_quotes : (n : ℕ) → completion_lines ByQuotes n ≡ line n (codes "\"\"\"") 0 (Fenced fence.Quotes []) ∷ []
unfolding token_of tokens.is_blank_line tokens.begins_by texts.after texts.text_after_indent texts.first_some tokens.title_of tokens.step_of tokens.fence_of tokens.indent_of lib.Utf8.encode texts.trimmed_text
by_quotes n = refl

pub by_backticks : (n : ℕ) → completion_lines ByBackticks n ≡ line n (codes "```") 0 (Fenced fence.Backticks []) ∷ []
unfolding token_of tokens.is_blank_line tokens.begins_by texts.after texts.text_after_indent texts.first_some tokens.title_of tokens.step_of tokens.fence_of tokens.indent_of lib.Utf8.encode texts.trimmed_text
by_backticks n = refl
