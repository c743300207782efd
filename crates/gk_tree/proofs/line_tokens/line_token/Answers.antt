use Rattle.std.proofs.Common.{◌∙◌, ℕ, Some, sym, ap, refl}
use Rattle.gk_line.specs.Views.{line_chars}
use Rattle.gk_tree.proofs.HeadLemmas.{blank_token, first_begins, first_token, other_first}
use Rattle.gk_tree.proofs.line_tokens.line_token.Goals as goal

pub returns-in-None : goal.returns-in-None
returns-in-None c = sym (blank_token (line_chars c.args.line) (sym c.requires.first ∙ c.in-None.is))

pub returns-in-Some-eq35 : goal.returns-in-Some-eq35
returns-in-Some-eq35 c =
    let hash = sym c.requires.first ∙ c.in-Some-eq35.is ∙ ap (λ (z : ℕ). Some z) (sym c.in-Some-eq35.field-0-is ∙ c.in-Some-eq35.field-0-test) in
    c.comment_token.ensures ∙ sym (first_token 35 (line_chars c.args.line) hash)

pub tag_token-requires-clause-tags : goal.tag_token-requires-clause-tags
tag_token-requires-clause-tags c =
    let at_sign = sym c.requires.first ∙ c.in-Some-eq64.is ∙ ap (λ (z : ℕ). Some z) (sym c.in-Some-eq64.field-0-is ∙ c.in-Some-eq64.field-0-test) in
    first_begins 64 64 (line_chars c.args.line) at_sign

pub returns-in-Some-eq64 : goal.returns-in-Some-eq64
returns-in-Some-eq64 c =
    let at_sign = sym c.requires.first ∙ c.in-Some-eq64.is ∙ ap (λ (z : ℕ). Some z) (sym c.in-Some-eq64.field-0-is ∙ c.in-Some-eq64.field-0-test) in
    rw (first_token 64 (line_chars c.args.line) at_sign) c.tag_token.ensures

pub row_cells-requires-clause-row : goal.row_cells-requires-clause-row
row_cells-requires-clause-row c =
    let bar = sym c.requires.first ∙ c.in-Some-eq124.is ∙ ap (λ (z : ℕ). Some z) (sym c.in-Some-eq124.field-0-is ∙ c.in-Some-eq124.field-0-test) in
    first_begins 124 124 (line_chars c.args.line) bar

pub returns-in_ok-row_cells-in-Some-eq124 : goal.returns-in_ok-row_cells-in-Some-eq124
returns-in_ok-row_cells-in-Some-eq124 c =
    let bar = sym c.requires.first ∙ c.in-Some-eq124.is ∙ ap (λ (z : ℕ). Some z) (sym c.in-Some-eq124.field-0-is ∙ c.in-Some-eq124.field-0-test) in
    rw (first_token 124 (line_chars c.args.line) bar, c.in_ok-row_cells-in-Some-eq124.ensures) refl

pub returns-in-Some : goal.returns-in-Some
returns-in-Some c =
    let first = sym c.requires.first ∙ c.in-Some.is in
    let tests = rw c.in-Some.is at c.in-Some.field-0-test in
    c.word_token.ensures ∙ sym (other_first c.in-Some.field-0 (line_chars c.args.line) first tests.0.0.1 tests.0.1 tests.1)
