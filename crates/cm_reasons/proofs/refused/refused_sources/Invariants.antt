use Rattle.std.proofs.Common.{map, take}
use Rattle.cm_reasons.specs.RunKept.{AreEntryLines, refused_source_line}
use Rattle.cm_reasons.proofs.refused.refused_sources.Given as goal

abbrev pub invariant-loop-source : goal.invariant-loop-source
invariant-loop-source l = AreEntryLines (take l.source-index l.sources) (map refused_source_line l.refused.items)
