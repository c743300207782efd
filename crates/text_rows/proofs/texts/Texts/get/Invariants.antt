use Rattle.std.proofs.Common.{◌≡◌, ◌-◌, slice_get}
use Rattle.text_rows.proofs.texts.Texts.get.Given as goal

abbrev pub invariant-loop-passed : goal.invariant-loop-passed
invariant-loop-passed l = slice_get l.left (l.place - l._passed) ≡ slice_get l.self l.place
