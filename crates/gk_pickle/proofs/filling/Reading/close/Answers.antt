use Rattle.std.proofs.Common.{◌+◌, ◌∙◌, Some, ap, drop}
use Rattle.gk_pickle.proofs.Opens.{popped, cut_past, starts_plain}
use Rattle.gk_pickle.proofs.Parts.{closes}
use Rattle.gk_pickle.proofs.filling.Reading.close.Goals as goal

pub range_from-name-requires : goal.range_from-name-requires
range_from-name-requires c =
    λ _. cut_past _ _ c.in-Some.open _ c.as_str.ensures.value c.as_str.utf8 (popped _ _ _ _ c.in-Some.ensures.items c.self.invariant)

pub truncate-requires : goal.truncate-requires
truncate-requires c =
    λ _. let plain = starts_plain _ c.in-Some.open _ (popped _ _ _ _ c.in-Some.ensures.items c.self.invariant) in
    (plain.0, λ _ _. plain.1)

pub returns-in-Some-replacement-clause-found : goal.returns-in-Some-replacement-clause-found
returns-in-Some-replacement-clause-found c =
    let name = c.range_from-name.ensures.value ∙ ap (drop (c.in-Some.open.start + 1)) c.as_str.ensures.value in
    rw (← c.self.view_is)
    (closes c.args.columns.now c.args.row.now c.args.done _ c.self.inside.opens.items c.pop.new.self.items c.in-Some.open c.max.result c.range_from-name.result.now
    (Some (c.in-Some-replacement.column, c.in-Some-replacement.cell.now)) c.in-Some.ensures.items c.max.ensures name c.in-Some-replacement.ensures.found).0

pub returns-in-Some-replacement-clause-left : goal.returns-in-Some-replacement-clause-left
returns-in-Some-replacement-clause-left c =
    let name = c.range_from-name.ensures.value ∙ ap (drop (c.in-Some.open.start + 1)) c.as_str.ensures.value in
    rw (← c.self.view_is, c.truncate.ensures.bytes, c.raise_placeholder.ensures)
    (closes c.args.columns.now c.args.row.now c.args.done _ c.self.inside.opens.items c.pop.new.self.items c.in-Some.open c.max.result c.range_from-name.result.now
    (Some (c.in-Some-replacement.column, c.in-Some-replacement.cell.now)) c.in-Some.ensures.items c.max.ensures name c.in-Some-replacement.ensures.found).1
