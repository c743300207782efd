use Rattle.std.proofs.Common.{◌≡◌, sym, ap, ◌∙◌, subst, Some, codes}
use Rattle.std.specs.Prelude.{◌==◌, nat_eq}
use Rattle.std.specs.List.{list_any}
use Rattle.std.specs.Option.{option_map}
use Rattle.std.specs.Str.{chars, NonePass}
use Rattle.gk_line.specs.Texts.{IsCutAt}
use Rattle.gk_line.specs.Tokens.{TitleText}
use Rattle.gk_line.specs.Views.{title_text}
use Rattle.gk_line.specs.declared.tokens.Block.{Block}
use Rattle.gk_line.specs.declared.tokens.Title.{Title}
use Rattle.gk_line.proofs.PlaceLemmas.{title-placed}
use Rattle.gk_line.proofs.TitleLemmas.{title-letter, title-none, title_at, block_title-none, block_title-cut, block_title-is}
use Rattle.gk_line.proofs.keyword_lines.block_title.Goals as goal
use Rattle.gk_line.specs.Characters.{colon}

pub returns-then-not-begins_title-clause-value : goal.returns-then-not-begins_title-clause-value
returns-then-not-begins_title-clause-value c =
    let line = chars c.args.line.text.now in
    sym (block_title-none line (λ block. title-letter block line c.trim_start-body.result.now c.trim_start-body.utf8 c.trim_start-body.ensures.value
    (ap (λ n. list_any (nat_eq n) (codes "ABEFRS")) (sym c.first_byte.ensures) ∙ sym c.begins_title.ensures ∙ c.if-not-begins_title.true)))

pub returns-in_err-keyword-clause-value : goal.returns-in_err-keyword-clause-value
returns-in_err-keyword-clause-value c =
    let line = chars c.args.line.text.now in
    ap (option_map (λ (found : Block × Title). (found.0, title_text found.1))) c.from_residual.ensures
    ∙ sym (block_title-none line (λ block. title-none block line (subst (NonePass (λ d. d == colon)) c.trim_start-body.ensures.value c.in_err-keyword.ensures.place)))

pub returns-in_err-block-clause-value : goal.returns-in_err-block-clause-value
returns-in_err-block-clause-value c =
    let line = chars c.args.line.text.now in
    let read = block_title-cut line c.in_ok-keyword.keyword.now (chars c.in_ok-keyword.rest.now) c.in_ok-keyword.ensures.utf8
    (subst (λ body. IsCutAt colon body (chars c.in_ok-keyword.keyword.now) (chars c.in_ok-keyword.rest.now)) c.trim_start-body.ensures.value c.in_ok-keyword.ensures.place) in
    ap (option_map (λ (found : Block × Title). (found.0, title_text found.1))) c.from_residual-in_err-block.ensures
    ∙ ap (option_map (λ (block : Block). (block, title_at line (chars c.in_ok-keyword.keyword.now) (chars c.in_ok-keyword.rest.now)))) c.in_err-block.ensures ∙ sym read

pub returns-clause-value : goal.returns-clause-value
returns-clause-value c =
    let line = chars c.args.line.text.now in
    let read = block_title-cut line c.in_ok-keyword.keyword.now (chars c.in_ok-keyword.rest.now) c.in_ok-keyword.ensures.utf8
    (subst (λ body. IsCutAt colon body (chars c.in_ok-keyword.keyword.now) (chars c.in_ok-keyword.rest.now)) c.trim_start-body.ensures.value c.in_ok-keyword.ensures.place) in
    let title : title_text record { keyword = c.in_ok-keyword.keyword; name = c.trim.result; column = c.column.result } ≡ title_at line (chars c.in_ok-keyword.keyword.now) (chars c.in_ok-keyword.rest.now) =
    λ i. record { keyword = chars c.in_ok-keyword.keyword.now; name = c.trim.ensures i; column = c.column.ensures.value i } in
    ap (λ (t : TitleText). Some (c.in_ok-block.block, t)) title
    ∙ ap (option_map (λ (block : Block). (block, title_at line (chars c.in_ok-keyword.keyword.now) (chars c.in_ok-keyword.rest.now)))) c.in_ok-block.ensures ∙ sym read

pub returns-clause-place : goal.returns-clause-place
returns-clause-place c =
    let title : TitleText = title_text record { keyword = c.in_ok-keyword.keyword; name = c.trim.result; column = c.column.result } in
    title-placed c.in_ok-block.block (chars c.args.line.text.now) title (block_title-is (chars c.args.line.text.now) (c.in_ok-block.block, title) (sym (returns-clause-value c)))
