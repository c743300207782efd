use Rattle.std.proofs.Common.{◌∙◌}
use Rattle.cm_cases.proofs.FirstLemmas.{one_more}
use Rattle.cm_cases.proofs.ListingLemmas.{on_ok}
use Rattle.cm_cases.proofs.places.add_document_places.Goals as goal

pub returns : goal.returns
returns c =
    on_ok c.add_first.result c.add_first.ensures
    (λ added before has. one_more (λ lines. lines) (λ d. d.places) (λ d. d.uri) before c.args.entry.now c.args.map.now c.add_first.new.map c.as_str.result.now c.in_ok-lines.lines
    c.as_str.ensures (c.in_ok-lines.ensures ∙ c.as_slice.ensures) has added)
