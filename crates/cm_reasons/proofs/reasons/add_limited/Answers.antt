use Rattle.std.proofs.Common.{◌∙◌, ap, ◌++◌, append_assoc, List, ℕ, ◌-◌, arith, length, length-take, map, string_bytes, take}
use Rattle.cm_cases.proofs.ListingLemmas.{on_ok}
use Rattle.cm_reasons.specs.Lines.{text_of_lines, more_text}
use Rattle.cm_reasons.proofs.LineLemmas.{few, many}
use Rattle.cm_reasons.proofs.reasons.add_limited.Goals as goal

pub returns-then-count-le-MOST_LINES : goal.returns-then-count-le-MOST_LINES
returns-then-count-le-MOST_LINES g c =
    on_ok c.add_each.result c.add_each.ensures
    (λ added es of. added es of ∙ ap (λ (t : List ℕ). string_bytes c.args.text.now ++ t) (few (g.L.AddLine.line c.args.lines.now es) c.args.items.now c.if-count-le-MOST_LINES.true))

pub slice_bounds-add_each-end : goal.slice_bounds-add_each-end
slice_bounds-add_each-end g c = omega (arith, length-take 100 c.args.items.now)

pub returns : goal.returns
returns g c =
    on_ok c.add_more.result c.add_more.ensures
    (λ more es of.
    more ∙ ap (λ (t : List ℕ). t ++ more_text (length c.args.items.now - 100)) (c.in_ok-add_each.ensures es of)
    ∙ append_assoc (string_bytes c.args.text.now) (text_of_lines (map (g.L.AddLine.line c.args.lines.now es) (take 100 c.args.items.now))) (more_text (length c.args.items.now - 100))
    ∙ ap (λ (t : List ℕ). string_bytes c.args.text.now ++ t) (many (g.L.AddLine.line c.args.lines.now es) c.args.items.now))
