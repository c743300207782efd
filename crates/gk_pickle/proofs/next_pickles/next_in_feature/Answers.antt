use Rattle.std.proofs.Common.{◌∙◌, arith, length, sym}
use Rattle.std.proofs.lemmas.Option.{slice_get_within}
use Rattle.gk_pickle.specs.Rest.{groups}
use Rattle.gk_pickle.proofs.PlaceLemmas.{behind_groups, fewer_left, first_of_group, none_of_group}
use Rattle.gk_pickle.proofs.next_pickles.next_in_feature.Goals as goal

pub returns-then-is_some : goal.returns-then-is_some
returns-then-is_some c =
    let place = c.loop-group.place in
    rw (← c.loop-group.invariant, c.next_in_group-found.ensures.group)
    (first_of_group (groups c.args.feature.now) place.group _ (sym c.in-Some.ensures.found) place.scenario place.block place.row _ _ _
    c.next_in_group-found.result c.is_some.result c.is_some.ensures c.if-is_some.true c.next_in_group-found.ensures.next)

pub overflow_add-place : goal.overflow_add-place
overflow_add-place c = omega (arith, c.next_in_group-found.ensures.group, c.in-Some.ensures.few)

pub loop-group-smaller : goal.loop-group-smaller
loop-group-smaller c =
    let place = c.loop-group.place in
    rw c.next_in_group-found.ensures.group (fewer_left (length (groups c.args.feature.now)) place.group (slice_get_within (groups c.args.feature.now) place.group _ (sym c.in-Some.ensures.found)))

pub loop-group-preserved : goal.loop-group-preserved
loop-group-preserved c =
    let place = c.loop-group.place in
    rw (← c.loop-group.invariant, c.next_in_group-found.ensures.group)
    (none_of_group (groups c.args.feature.now) place.group _ (sym c.in-Some.ensures.found) place.scenario place.block place.row _ _ _
    c.next_in_group-found.result c.is_some.result c.is_some.ensures c.if-is_some.false c.next_in_group-found.ensures.next)

pub returns : goal.returns
returns c =
    let place = c.loop-group.place in
    let none = behind_groups (groups c.args.feature.now) place.group place.scenario place.block place.row (sym c.in_default.ensures.found) in
    (sym c.loop-group.invariant ∙ none, none)
