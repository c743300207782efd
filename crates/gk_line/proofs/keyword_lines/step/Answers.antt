use Rattle.std.proofs.Common.{sym, ap, ◌∙◌, subst, arith}
use Rattle.std.proofs.lemmas.Grind.{common_steps}
use Rattle.std.specs.Prelude.{◌==◌, nat_eq, codes}
use Rattle.std.specs.List.{list_any}
use Rattle.std.specs.Option.{option_map}
use Rattle.std.specs.Str.{chars, NonePass}
use Rattle.gk_line.specs.Texts.{IsCutAt}
use Rattle.gk_line.specs.Views.{step_text}
use Rattle.gk_line.proofs.PlaceLemmas.{step-placed}
use Rattle.gk_line.proofs.TitleLemmas.{step-letter, step-none, step-found, step-missed, step_keyword, cut_after_space}
use Rattle.gk_line.proofs.keyword_lines.step.Goals as goal
use Rattle.gk_line.specs.Characters.{plain_space}

pub returns-then-not-begins_step-clause-value : goal.returns-then-not-begins_step-clause-value
returns-then-not-begins_step-clause-value c =
    sym (step-letter (chars c.args.line.text.now) c.trim_start-body.result.now c.trim_start-body.utf8 c.trim_start-body.ensures.value
    (ap (λ n. list_any (nat_eq n) (codes "*ABGTW")) (sym c.first_byte.ensures) ∙ sym c.begins_step.ensures ∙ c.if-not-begins_step.true))

pub returns-in_err-word-clause-value : goal.returns-in_err-word-clause-value
returns-in_err-word-clause-value c =
    ap (option_map step_text) c.from_residual.ensures
    ∙ sym (step-none (chars c.args.line.text.now) (subst (NonePass (λ d. d == plain_space)) c.trim_start-body.ensures.value c.in_err-word.ensures.place))

pub returns-in_err-kind-clause-value : goal.returns-in_err-kind-clause-value
returns-in_err-kind-clause-value c =
    let read = step-missed (chars c.args.line.text.now) c.in_ok-word.word.now (chars c.in_ok-word.text.now) c.in_ok-word.ensures.utf8
    (subst (λ body. IsCutAt plain_space body (chars c.in_ok-word.word.now) (chars c.in_ok-word.text.now)) c.trim_start-body.ensures.value c.in_ok-word.ensures.place) c.in_err-kind.ensures in
    ap (option_map step_text) c.from_residual-in_err-kind.ensures ∙ sym read

pub range-requires-clause-end_boundary : goal.range-requires-clause-end_boundary
range-requires-clause-end_boundary c =
    cut_after_space c.trim_start-body.result.now c.in_ok-word.word.now c.in_ok-word.text.now c.trim_start-body.utf8 c.in_ok-word.ensures.bytes

pub returns-clause-value : goal.returns-clause-value
returns-clause-value c =
    let read = step-found (chars c.args.line.text.now) c.in_ok-word.word.now (chars c.in_ok-word.text.now) c.in_ok-kind.kind c.in_ok-word.ensures.utf8
    (subst (λ body. IsCutAt plain_space body (chars c.in_ok-word.word.now) (chars c.in_ok-word.text.now)) c.trim_start-body.ensures.value c.in_ok-word.ensures.place) c.in_ok-kind.ensures in
    let keyword = step_keyword c.trim_start-body.result.now c.in_ok-word.word.now c.in_ok-word.text.now c.range.result.now c.in_ok-kind.kind c.in_ok-kind.ensures c.in_ok-word.ensures.bytes c.range.ensures.value in
    grind (arith, common_steps)

pub returns-clause-place : goal.returns-clause-place
returns-clause-place c = step-placed (chars c.args.line.text.now) (record { keyword = chars c.range.result.now; kind = c.in_ok-kind.kind; text = chars c.trim.result.now; column = c.column.result }) (sym (returns-clause-value c))
