use Rattle.std.proofs.Common.{◌≡◌, ◌++◌, map, drop}
use Rattle.cm_differs.specs.DuePickles.{due_tag}
use Rattle.cm_differs.proofs.difference.due_tags.Given as goal

abbrev pub invariant-loop-tag : goal.invariant-loop-tag
invariant-loop-tag l = l.tags ++ map (due_tag l.ids) (drop l.tag-index l.due) ≡ map (due_tag l.ids) l.due
