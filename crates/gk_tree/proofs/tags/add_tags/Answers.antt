use Rattle.std.proofs.Common.{refl}
use Rattle.std.proofs.lemmas.List.{length-map}
use Rattle.gk_tree.proofs.tags.add_tags.Goals as goal

pub returns : goal.returns
returns c = rw (c.len.ensures, ← c.deref.ensures.len, c.in_ok-tags.ensures, c.deref.ensures.value, length-map) refl
