use Rattle.std.proofs.Common.{sym, ap, ◌∙◌, ◌∷◌, []}
use Rattle.std.specs.Prelude.{nat_eq}
use Rattle.std.specs.List.{list_any}
use Rattle.std.specs.Str.{chars}
use Rattle.gk_document.specs.Fences.{fence_characters}
use Rattle.gk_document.specs.declared.tree.Fence.TheVariants.{Quotes, Backticks}
use Rattle.gk_line.proofs.PlaceLemmas.{placed-read}
use Rattle.gk_line.proofs.TitleLemmas.{fence-letter}
use Rattle.gk_line.specs.Characters.{quotation_mark, backtick}
use Rattle.gk_line.proofs.doc_strings.fence.Goals as goal

pub returns-then-not-begins_fence-clause-value : goal.returns-then-not-begins_fence-clause-value
returns-then-not-begins_fence-clause-value c =
    sym (fence-letter (chars c.args.line.text.now) c.trim_start-body.result.now c.trim_start-body.utf8 c.trim_start-body.ensures.value
    (ap (λ n. list_any (nat_eq n) (quotation_mark ∷ backtick ∷ [])) (sym c.first_byte.ensures) ∙ sym c.begins_fence.ensures ∙ c.if-not-begins_fence.true))

pub returns-in-Some-clause-place : goal.returns-in-Some-clause-place
returns-in-Some-clause-place c =
    placed-read (chars c.args.line.text.now) (chars c.trim_start-body.result.now) (fence_characters Quotes) (chars c.in-Some.rest.now) (chars c.trim.result.now) c.column.result
    c.trim_start-body.ensures.value c.in-Some.ensures.value c.trim.ensures c.column.ensures.value

pub returns-clause-place : goal.returns-clause-place
returns-clause-place c =
    placed-read (chars c.args.line.text.now) (chars c.trim_start-body.result.now) (fence_characters Backticks) (chars c.in_ok-rest.rest.now) (chars c.trim-2.result.now) c.column-2.result
    c.trim_start-body.ensures.value c.in_ok-rest.ensures.value c.trim-2.ensures c.column-2.ensures.value
