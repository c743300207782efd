use Rattle.std.proofs.Common.{◌≡◌, map, take}
use Rattle.cm_cases.specs.Listed.{both_texts}
use Rattle.cm_ran.specs.Compiled.{HasCompiled}
use Rattle.cm_ran.specs.Marks.{AlsoRan, HasWholeRows, marked_texts}
use Rattle.cm_ran.specs.Rows.{is_set_at}
use Rattle.cm_ran.proofs.marks.Marks.mark_sources.Given as goal

abbrev pub invariant-loop-source : goal.invariant-loop-source
invariant-loop-source l = record {
  texts : marked_texts l.self ≡ marked_texts l.initial.self;
  also : AlsoRan l.initial.self l.self (is_set_at l.rows (map both_texts (take l.source-index l.sources)));
  rows : HasCompiled l.rows (map both_texts l.sources) → HasWholeRows l.initial.self → HasWholeRows l.self;
}
