use Rattle.std.proofs.Common.{◌≡◌, ◌∙◌, ap, sym, false, true, ◌<◌, get_or, length, map, take, rules, arith, Bor, Some, refl, []}
use Rattle.std.proofs.lemmas.List.{length-map}
use Rattle.cm_attempt.specs.Table.{Utf8, has_text}
use Rattle.cm_judge.proofs.Repeats.{has_text_before, inserted_texts}
use Rattle.cm_fault_reasons.proofs.DuplicateLemmas.{stands_before, stands_first, text_at}
use Rattle.cm_fault_reasons.proofs.duplicate.first_repeat.Goals as goal

pub returns-then-not-is_new : goal.returns-then-not-is_new
returns-then-not-is_new c =
    let texts = map (λ (t : Bor Utf8). t.now) c.args.ids.now in
    let i = c.loop-id.id-index in
    let item : Bor Utf8 = get_or c.args.ids.now i (record { ref_ptr = (0, 0); now = [] }) in
    let here : item.now ≡ get_or texts i item.now = text_at c.args.ids.now i (record { ref_ptr = (0, 0); now = [] }) item.now c.loop-id-test.true in
    let less : i < length texts = let long = length-map c.args.ids.now (λ (t : Bor Utf8). t.now) in omega (arith, long, c.loop-id-test.true) in
    let there : has_text (get_or texts i item.now) (take i texts) ≡ true = has_text_before c.loop-id.seen.keys texts i item.now c.loop-id.invariant.0 here true (search rules) in
    ap Some here ∙ sym (c.loop-id.invariant.1 ∙ stands_before texts i item.now less there)

pub loop-id-preserved : goal.loop-id-preserved
loop-id-preserved c =
    let texts = map (λ (t : Bor Utf8). t.now) c.args.ids.now in
    let i = c.loop-id.id-index in
    let item : Bor Utf8 = get_or c.args.ids.now i (record { ref_ptr = (0, 0); now = [] }) in
    let here : item.now ≡ get_or texts i item.now = text_at c.args.ids.now i (record { ref_ptr = (0, 0); now = [] }) item.now c.loop-id-test.true in
    let less : i < length texts = let long = length-map c.args.ids.now (λ (t : Bor Utf8). t.now) in omega (arith, long, c.loop-id-test.true) in
    let new : has_text (get_or texts i item.now) (take i texts) ≡ false = has_text_before c.loop-id.seen.keys texts i item.now c.loop-id.invariant.0 here false (search rules) in (
      ap (map (λ (k : Bor Utf8). k.now)) c.in_ok-is_new.ensures.keys ∙ inserted_texts c.loop-id.seen.keys texts i item.now c.loop-id.invariant.0 here item refl less new,
      c.loop-id.invariant.1 ∙ stands_first texts i item.now less new,
    )
