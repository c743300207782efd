use Rattle.std.proofs.Common.{rules, ◌∙◌, refl, Ok, Err, Some, None, arith}
use Rattle.cm_envelope.specs.Feeds.{Leaves, GivesLine}
use Rattle.cm_audit.proofs.Taking.{begins, ends, goes_on, stops, troubled}
use Rattle.cm_audit.proofs.auditing.take_lines.Goals as goal

pub lines-init : goal.lines-init
lines-init g c = record {
  open_still = rw c.new-feed.ensures refl;
  line_limit = rw c.new-feed.ensures refl;
  stream_limit = rw c.new-feed.ensures refl;
  counted = omega arith;
  few = rw c.new-feed.ensures (omega arith);
  ends = rw c.new-feed.ensures (λ ended. cc);
  taken = begins g.T.TakeLines.takes c.args.taker.now c.new-feed.result c.new-feed.ensures (g.R.ByteSource.input c.args.source.now);
  no_failure = refl;
}

pub lines-preserved : goal.lines-preserved
lines-preserved g c =
    let later = c.next_line.follows.lender-at-none in
    let line = c.in-Ok-Some.line.now in
    let leaves : Leaves c.lines.feed later (g.R.ByteSource.input c.lines.source) (g.R.ByteSource.input c.next_line.new.source) (Ok (Some line)) = search rules in
    let given : GivesLine c.lines.feed later line = leaves.line c.lines.invariant.open_still in
    record {
      open_still = leaves.over;
      line_limit = leaves.line_limit ∙ c.lines.invariant.line_limit;
      stream_limit = leaves.stream_limit ∙ c.lines.invariant.stream_limit;
      counted = omega (arith, c.lines.invariant.counted, given.some);
      few = omega (arith, given.fits, c.lines.invariant.stream_limit);
      ends = leaves.source c.lines.invariant.ends;
      taken = goes_on g.T.TakeLines.takes c.args.taker.now c.lines.feed later c.lines.number c.lines.taker c.take_line.new.self line _ _ _ c.lines.invariant.taken c.lines.invariant.open_still leaves given c.in-Ok.ensures;
      no_failure = search rules;
    }

pub returns-in-Err-take_line-clause-taken : goal.returns-in-Err-take_line-clause-taken
returns-in-Err-take_line-clause-taken g c =
    let later = c.next_line.follows.lender-at-none in
    let line = c.in-Ok-Some.line.now in
    let leaves : Leaves c.lines.feed later (g.R.ByteSource.input c.lines.source) (g.R.ByteSource.input c.next_line.new.source) (Ok (Some line)) = search rules in
    rw c.audited_at.ensures
    (stops g.T.TakeLines.takes c.args.taker.now c.lines.feed later c.lines.number c.lines.taker c.take_line.new.self line _ _ _ c.lines.invariant.taken c.lines.invariant.open_still c.lines.invariant.ends leaves c.in-Err-take_line.stop c.in-Err-take_line.ensures)

pub returns-in-Ok-None-clause-taken : goal.returns-in-Ok-None-clause-taken
returns-in-Ok-None-clause-taken g c =
    let later = c.next_line.follows.lender-at-none in
    let leaves : Leaves c.lines.feed later (g.R.ByteSource.input c.lines.source) (g.R.ByteSource.input c.next_line.new.source) (Ok None) = search rules in
    ends g.T.TakeLines.takes c.args.taker.now c.lines.feed later c.lines.number c.lines.taker _ _ _ c.lines.invariant.taken c.lines.invariant.open_still c.lines.invariant.ends leaves

pub returns-in-Err-clause-taken : goal.returns-in-Err-clause-taken
returns-in-Err-clause-taken g c =
    let later = c.next_line.follows.lender-at-none in
    let leaves : Leaves c.lines.feed later (g.R.ByteSource.input c.lines.source) (g.R.ByteSource.input c.next_line.new.source) (Err c.in-Err.trouble) = search rules in
    troubled g.T.TakeLines.takes c.args.taker.now c.lines.feed later c.lines.number c.lines.taker _ _ _ c.lines.invariant.taken c.lines.invariant.open_still c.lines.invariant.ends c.lines.invariant.line_limit c.lines.invariant.stream_limit c.in-Err.trouble leaves
