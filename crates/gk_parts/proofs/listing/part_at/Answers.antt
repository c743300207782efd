use Rattle.std.proofs.Common.{◌+◌, drop, map}
use Rattle.gk_parts.specs.Parts.{part_view_alone}
use Rattle.gk_parts.proofs.Differences.{next_at}
use Rattle.gk_parts.proofs.listing.part_at.Goals as goal

pub returns-then-place-listed : goal.returns-then-place-listed
returns-then-place-listed c = (
  map part_view_alone (drop (c.args.place + 1) c.args.listed.now),
  next_at part_view_alone _ _ _ c.if-place-listed.true c.index-listed-place.is,
)
