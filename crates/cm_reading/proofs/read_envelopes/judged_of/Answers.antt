use Rattle.std.proofs.Common.{◌∙◌, ℕ, List, ap, sym, option_map, option_and_then}
use Rattle.serde_json.specs.View.{view}
use Rattle.serde_json.proofs.Views.{Entry}
use Rattle.cm_envelope.specs.Member.{unless_null}
use Rattle.cm_envelope.specs.Reading.{kind_named, the_one}
use Rattle.cm_reading.proofs.Judged.{first_taken, judged_members, none_left, passed, second_taken, walked}
use Rattle.cm_reading.proofs.read_envelopes.judged_of.Goals as goal

pub loop-name-init : goal.loop-name-init
loop-name-init c =
    ap (λ es. the_one (judged_members es)) (c.into_iter-name-iterator.ensures.into_iter_gives ∙ c.iter-name-items.ensures.rest) ∙ walked c.args.members.now.entries c.iter-name-items.ensures.ordered

pub returns-then-is_some : goal.returns-then-is_some
returns-then-is_some c =
    let e : Entry = (c.in-Some.name.now, c.in-Some.value.now) in
    let kind = ap (λ (name : List ℕ). option_and_then (λ v. kind_named name) (unless_null (view e.1))) (sym c.as_str.ensures.value) ∙ sym c.judged_kind.ensures ∙ c.in-Some-judged_kind.is in
    second_taken c.loop-name.found _ _ c.loop-name.invariant e _ (c.in-Some-judged_kind.kind, view e.1) (sym c.is_some.ensures ∙ c.if-is_some.true) c.in-Some.ensures.steps (ap (option_map (λ k. (k, view e.1))) kind)

pub loop-name-preserved-in-Some-judged_kind : goal.loop-name-preserved-in-Some-judged_kind
loop-name-preserved-in-Some-judged_kind c =
    let e : Entry = (c.in-Some.name.now, c.in-Some.value.now) in
    let kind = ap (λ (name : List ℕ). option_and_then (λ v. kind_named name) (unless_null (view e.1))) (sym c.as_str.ensures.value) ∙ sym c.judged_kind.ensures ∙ c.in-Some-judged_kind.is in
    first_taken c.loop-name.found _ _ c.loop-name.invariant e _ (c.in-Some-judged_kind.kind, view e.1) (sym c.is_some.ensures ∙ c.if-is_some.false) c.in-Some.ensures.steps (ap (option_map (λ k. (k, view e.1))) kind)

pub loop-name-preserved : goal.loop-name-preserved
loop-name-preserved c =
    let e : Entry = (c.in-Some.name.now, c.in-Some.value.now) in
    let kind = ap (λ (name : List ℕ). option_and_then (λ v. kind_named name) (unless_null (view e.1))) (sym c.as_str.ensures.value) ∙ sym c.judged_kind.ensures ∙ c.in_default.is in
    passed c.loop-name.found _ _ c.loop-name.invariant e _ c.in-Some.ensures.steps (ap (option_map (λ k. (k, view e.1))) kind)

pub returns : goal.returns
returns c = none_left c.loop-name.found _ _ c.loop-name.invariant c.in-None.ensures.steps.0
