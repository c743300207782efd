use Rattle.std.proofs.Common.{ap, sym, subst, ◌∙◌, ◌+◌}
use Rattle.std.proofs.lemmas.Str.{IsUtf8-string_bytes}
use Rattle.std.specs.Str.{chars, IsUtf8, NonePass}
use Rattle.std.specs.Prelude.{◌==◌}
use Rattle.gk_line.specs.Characters.{backslash}
use Rattle.gk_line.proofs.RowLemmas.{trimmed-plain}
use Rattle.gk_line.specs.Cells.{units, meanings}
use Rattle.gk_line.proofs.UnitLemmas.{units-trimmed, leading-units}
use Rattle.gk_line.proofs.rows.cell.Goals as goal

pub returns-clause-value : goal.returns-clause-value
returns-clause-value c =
    let value = ap chars c.from.ensures ∙ c.in_ok-unescape_cell.ensures ∙ ap (λ q. meanings (units q)) c.trim.ensures ∙ ap meanings (units-trimmed (chars c.args.part.now)) in
    let space = c.leading_space.ensures.value ∙ leading-units (chars c.args.part.now) in
    λ i. record { value = value i; column = c.args.column + space i }

pub returns-clause-utf8 : goal.returns-clause-utf8
returns-clause-utf8 c = subst IsUtf8 (sym c.from.ensures) (IsUtf8-string_bytes c.in_ok-unescape_cell.field-0)

pub unescape_cell-requires : goal.unescape_cell-requires
unescape_cell-requires c = λ is.
    subst (NonePass (λ q. q == backslash)) (sym c.trim.ensures) (trimmed-plain (chars c.args.part.now) (c.requires.plain is))
