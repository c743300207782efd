use Rattle.std.proofs.Common.{◌≡◌, ◌≤◌, ℕ, List, map, take}
use Rattle.gk_grammar.specs.Token.{Line}
use Rattle.gk_grammar.specs.Place.{IsFront}
use Rattle.gk_plain.specs.Plain.{kind_of}
use Rattle.gk_plain.proofs.plain.first_bad.Given as goal

abbrev pub invariant-loop-before : goal.invariant-loop-before
invariant-loop-before l = (ls : List Line) → map kind_of ls ≡ l.lines → (m : ℕ) → 1 ≤ m → m ≤ l.before → IsFront (take m ls)
