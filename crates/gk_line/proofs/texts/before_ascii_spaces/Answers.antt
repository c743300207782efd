use Rattle.std.proofs.Common.{sym, ap, ◌∙◌, arith, true, ◌≡◌}
use Rattle.std.specs.Prelude.{slice_index, ◌-◌}
use Rattle.std.proofs.lemmas.Str.{IsCharBoundary-from_take}
use Rattle.gk_line.specs.Texts.{is_ascii_space}
use Rattle.gk_line.proofs.EndLemmas.{back-turn}
use Rattle.gk_line.proofs.texts.before_ascii_spaces.Goals as goal

pub loop-end-preserved : goal.loop-end-preserved
loop-end-preserved c =
    let space : is_ascii_space (slice_index c.args.text.now (c.loop-end.end - 1)) ≡ true =
    ap (λ bytes. is_ascii_space (slice_index bytes (c.loop-end.end - 1))) (sym c.as_bytes.ensures.value) ∙ sym c.is_ascii_space.ensures ∙ c.if-is_ascii_space.true in
    let turn = back-turn c.args.text.now c.loop-end.end (omega arith) c.loop-end.invariant.0 space c.loop-end.invariant.1 in
    (omega (arith, c.loop-end.invariant.0), turn.0, turn.1 ∙ c.loop-end.invariant.2)

pub range-requires-clause-end_boundary : goal.range-requires-clause-end_boundary
range-requires-clause-end_boundary c =
    IsCharBoundary-from_take c.args.text.now c.loop-end.end c.utf8.text c.loop-end.invariant.0 c.loop-end.invariant.1
