use Rattle.std.proofs.Common.{◌≡◌, List, ℕ, take}
use Rattle.cm_cases.specs.Firsts.{count_at, times_in}
use Rattle.cm_cases.proofs.json_lines.counts_of.Given as goal

abbrev pub invariant-loop-text : goal.invariant-loop-text
invariant-loop-text l = (text : List ℕ) → count_at l.counts text ≡ times_in (take l.text-index l.texts) text
