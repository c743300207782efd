use Rattle.std.proofs.Common.{◌≡◌, ◌≤◌, ◌-◌, None}
use Rattle.cm_envelope.specs.Feeds.{EndsWithSource}
use Rattle.cm_envelope.proofs.Sources.{HasReadSo}
use Rattle.cm_audit.proofs.Taking.{HasTaken}
use Rattle.cm_audit.proofs.auditing.take_lines.Given as goal

abbrev pub invariant-lines : goal.invariant-lines
invariant-lines g l = record {
  open_still : l.feed.over ≡ None;
  line_limit : l.feed.line_limit ≡ 67108864;
  stream_limit : l.feed.stream_limit ≡ 1073741824;
  counted : l.number ≤ l.feed.given;
  few : l.feed.given ≤ 1073741824;
  ends : EndsWithSource l.feed (g.R.ByteSource.input l.source);
  taken : HasReadSo l.feed (g.R.ByteSource.input l.fn.source) (g.R.ByteSource.input l.source) (λ xs ys. HasTaken g.T.TakeLines.takes l.fn.taker xs ys l.feed l.number l.taker);
  no_failure : (g.R.ByteSource.input l.source).failed_calls ≡ (g.R.ByteSource.input l.fn.source).failed_calls;
}

abbrev pub decreases-lines : goal.decreases-lines
decreases-lines g l = 1073741824 - l.feed.given
