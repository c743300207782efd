use Rattle.std.proofs.Common.{◌≡◌, ◌≤◌, ◌<◌, ◌+◌, ◌*◌, ◌↔◌, ℕ, List, map, length, take, drop}
use Rattle.gk_grammar.specs.Token.{Line}
use Rattle.gk_plain.specs.Plain.{kind_of, Is, Cut}
use Rattle.gk_plain.proofs.PlainRanks.{rank}
use Rattle.gk_plain.proofs.plain.+belongs.Given as goal

abbrev pub decreases-belongs : goal.decreases-belongs
decreases-belongs l = 64 * length l.lines.now + rank l.part

abbrev pub invariant-loop-cut : goal.invariant-loop-cut
invariant-loop-cut l = record {
  least : l.least ≤ l.cut;
  first : rank l.first < rank l.fn.part;
  second : rank l.second < rank l.fn.part + l.least;
  cuts : (ls : List Line) → map kind_of ls ≡ l.lines → (Is l.fn.part ls ↔ Cut l.least (Is l.first) (Is l.second) ls);
  none_yet : (ls : List Line) → map kind_of ls ≡ l.lines → (k : ℕ) → l.least ≤ k → k < l.cut → Is l.first (take k ls) → Is l.second (drop k ls) → ⊥;
}
