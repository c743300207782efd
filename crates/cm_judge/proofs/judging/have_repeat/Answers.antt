use Rattle.std.proofs.Common.{◌≡◌, ◌∙◌, ap, sym, false, true, get_or, map, rules, take, Bor}
use Rattle.cm_attempt.specs.Table.{Utf8, has_text}
use Rattle.cm_refs.proofs.RepeatLemmas.{no_repeat_at, repeat_at}
use Rattle.cm_judge.proofs.Repeats.{has_text_before, inserted_texts}
use Rattle.cm_judge.proofs.judging.have_repeat.Goals as goal

pub returns-then-not-is_new : goal.returns-then-not-is_new
returns-then-not-is_new c =
    let texts = c.args.texts.now in
    let i = c.loop-text.text-index in
    let text = c.text-item.result in
    let there : has_text (get_or texts i text) (take i texts) ≡ true =
    has_text_before c.loop-text.set.keys texts i text c.loop-text.invariant.0 c.text-item.is true (rw (← c.as_str.ensures) (search rules)) in
    sym (repeat_at texts i text c.loop-text-test.true there)

pub loop-text-preserved : goal.loop-text-preserved
loop-text-preserved c =
    let texts = c.args.texts.now in
    let i = c.loop-text.text-index in
    let text = c.text-item.result in
    let new : has_text (get_or texts i text) (take i texts) ≡ false =
    has_text_before c.loop-text.set.keys texts i text c.loop-text.invariant.0 c.text-item.is false (rw (← c.as_str.ensures) (search rules)) in (
      ap (map (λ (k : Bor Utf8). k.now)) c.in_ok-is_new.ensures.keys
          ∙ inserted_texts c.loop-text.set.keys texts i text c.loop-text.invariant.0 c.text-item.is c.as_str.result c.as_str.ensures c.loop-text-test.true new,
      no_repeat_at texts i text c.loop-text-test.true new c.loop-text.invariant.1,
    )
