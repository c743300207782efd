use Rattle.std.proofs.Common.{◌≡◌, drop}
use Rattle.cm_stream.specs.Texts.{same_list}
use Rattle.cm_judge.proofs.due.all_fit.Given as goal

-- what is left decides
abbrev pub invariant-loop-i : goal.invariant-loop-i
invariant-loop-i g l =
    let is_due = g.Part.Fits.is_due l.ids in
    same_list is_due (drop l.i l.parts) (drop l.i l.due) ≡ same_list is_due l.parts l.due
