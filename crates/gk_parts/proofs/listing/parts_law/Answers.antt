use Rattle.gk_parts.proofs.Skeletons.{parts_show_skeleton}
use Rattle.gk_parts.proofs.listing.parts_law.Goals as goal

pub returns : goal.returns
returns c = parts_show_skeleton
