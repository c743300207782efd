use Rattle.std.proofs.Common.{◌≡◌, ◌∙◌, ◌++◌, ◌∷◌, ◌||◌, [], ap, sym, true, false, map, map-id, rules}
use Rattle.std.specs.String.{string_bytes}
use Rattle.std.proofs.lemmas.List.{map-append}
use Rattle.std.proofs.lemmas.Iterator.Adapters.{YieldsList-from_vec}
use Rattle.std.proofs.lemmas.Iterator.Consumers.{YieldsList-so_far, YieldsList-turn}
use Rattle.cm_refs.specs.Declarations.{has_repeat, has_text}
use Rattle.cm_refs.proofs.RepeatLemmas.{has_repeat-push, repeat_after}
use Rattle.cm_refs.proofs.declared.distinct_few.Goals as goal

pub returns-then-contains-clause-repeated : goal.returns-then-contains-clause-repeated
returns-then-contains-clause-repeated c =
    let all = c.args.texts.items in
    let yielded = c.loop-text.yielded in
    let text = c.in-Some.text in
    let gives = YieldsList-from_vec {s = c.into_iter-text-iterator.result} all (search rules) (search rules) in
    let turn = YieldsList-turn gives yielded c.loop-text.text-iterator c.loop-text.yielded_by c.next.result c.next.new.self text c.in-Some.is c.next.ensures.steps in
    let there : has_text (string_bytes text) (map string_bytes yielded) ≡ true =
    ap (has_text (string_bytes text)) (sym c.loop-text.invariant.0) ∙ search rules in
    sym (repeat_after all yielded text (sym (map-id yielded) ∙ YieldsList-so_far gives yielded c.loop-text.text-iterator c.loop-text.yielded_by) turn.0 turn.1 there)

pub loop-text-preserved : goal.loop-text-preserved
loop-text-preserved c =
    let yielded = c.loop-text.yielded in
    let text = c.in-Some.text in
    let new : has_text (string_bytes text) (map string_bytes yielded) ≡ false =
    ap (has_text (string_bytes text)) (sym c.loop-text.invariant.0) ∙ search rules in
    let texts = map-append string_bytes yielded (text ∷ []) in (
      search rules ∙ ap (λ l. l ++ string_bytes text ∷ []) c.loop-text.invariant.0 ∙ sym texts,
      ap has_repeat texts ∙ has_repeat-push (map string_bytes yielded) (string_bytes text) ∙ (λ j. new j || c.loop-text.invariant.1 j),
    )
