use Rattle.std.proofs.Common.{◌∙◌, ap, sym, map, option_map}
use Rattle.serde_json.specs.View.{view, members_view}
use Rattle.serde_json.proofs.Views.{Entry}
use Rattle.cm_reading.specs.Members.{as_named, with_value}
use Rattle.cm_reading.proofs.Walking.{past_all, walk_starts, walk_goes_on, walk_ends, nothing_found, all_found}
use Rattle.cm_reading.proofs.member.find.Goals as goal

pub loop-name-init : goal.loop-name-init
loop-name-init c =
    ap (λ es. map (past_all es) (map as_named c.args.members.now)) (c.into_iter-name-iterator.ensures.into_iter_gives ∙ c.iter-name-items.ensures.rest)
    ∙ walk_starts (view c.args.object.now) c.in-Some.entries.now.entries (sym c.as_object.ensures ∙ ap (option_map (λ m. members_view m.now.entries)) c.in-Some.is) c.iter-name-items.ensures.ordered (map as_named c.args.members.now)

pub loop-name-preserved-then-not-is_null : goal.loop-name-preserved-then-not-is_null
loop-name-preserved-then-not-is_null c =
    let e : Entry = (c.in-Some-2.name.now, c.in-Some-2.value.now) in
    walk_goes_on _ _ _ c.loop-name.invariant e _ _ c.in-Some-2.ensures.steps (sym c.is_null.ensures ∙ c.if-not-is_null.true)
    (c.note_member.ensures ∙ ap (λ name. map (with_value name (view e.1)) (map as_named c.loop-name.members)) c.as_str.ensures.value)

pub returns-in-None : goal.returns-in-None
returns-in-None c = all_found _ _ _ (walk_ends _ _ _ c.loop-name.invariant c.in-None.ensures.steps.0)

pub returns-in_default : goal.returns-in_default
returns-in_default c = all_found _ _ _ (nothing_found (view c.args.object.now) (sym c.as_object.ensures ∙ ap (option_map (λ m. members_view m.now.entries)) c.in_default.is) (map as_named c.args.members.now))
