use Rattle.std.proofs.Common.{◌≡◌, ◌++◌, drop}
use Rattle.cm_differs.specs.DuePickles.{due_pickle_steps}
use Rattle.cm_differs.proofs.difference.due_pickle_steps.Given as goal

abbrev pub invariant-loop-i : goal.invariant-loop-i
invariant-loop-i l = l.steps ++ due_pickle_steps l.ids (drop l.i l.beside) (drop l.i l.due) ≡ due_pickle_steps l.ids l.beside l.due
