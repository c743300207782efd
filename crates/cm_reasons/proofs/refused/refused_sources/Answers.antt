use Rattle.std.proofs.Common.{ap}
use Rattle.cm_stream.specs.Texts.{Utf8}
use Rattle.cm_reasons.specs.RunKept.{fault_line}
use Rattle.cm_reasons.proofs.Refusals.{refused_none, refused_one}
use Rattle.cm_reasons.proofs.refused.refused_sources.Goals as goal
use Rattle.cm_reasons.proofs.refused.refused_sources.Goals.{in-Some+in_ok-push, in_default}

pub loop-source-preserved : goal.loop-source-preserved
loop-source-preserved c =
    let item = c.source-item.result in
    elim c.match-branch-2.branch [
      | in-Some+in_ok-push w ↦ rw w.refused-is
          (refused_one c.args.sources.now c.loop-source.source-index item c.as_str.result.now c.in_ok-fault.field-0 c.loop-source.refused.items c.loop-source-test.true c.source-item.is c.as_str.ensures
          c.in_ok-fault.ensures c.loop-source.invariant w.in-Some.fault w.push.new.self.items _ w.in-Some.is w.in_ok-push.ensures.items (ap (λ (u : Utf8). fault_line u w.in-Some.fault) w.as_str-uri.ensures))
      | in_default w ↦ rw w.refused-is
          (refused_none c.args.sources.now c.loop-source.source-index item c.as_str.result.now c.in_ok-fault.field-0 c.loop-source.refused.items c.loop-source-test.true c.source-item.is c.as_str.ensures
          c.in_ok-fault.ensures c.loop-source.invariant w.in_default.is)
    ]
