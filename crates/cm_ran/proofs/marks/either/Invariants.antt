use Rattle.std.proofs.Common.{◌≡◌, ◌||◌, ℕ, ◌<◌, false, get_or, length}
use Rattle.cm_ran.proofs.marks.either.Given as goal

abbrev pub invariant-loop-place : goal.invariant-loop-place
invariant-loop-place l = record {
  long : length l.row.items ≡ l.place;
  each : (k : ℕ) → k < l.place → get_or l.row.items k false ≡ (get_or l.first k false || get_or l.second k false);
}
