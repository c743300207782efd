use Rattle.std.proofs.Common.{◌∙◌, ◌∷◌, List, ℕ, ap, map, string_bytes, sym}
use Rattle.feature_paths.proofs.WalkLemmas.{sees_more}
use Rattle.feature_paths.proofs.paths.walk.Goals as goal

pub walk-preserved : goal.walk-preserved
walk-preserved g c = record {
  seen = sees_more _ _ _ _ _ _ _ _ _ _ _ _ _ c.walk.invariant.seen
      (ap (map string_bytes) c.in-Some.ensures.items
      ∙ ap (λ (p : List ℕ). p ∷ map string_bytes c.pop_front.new.self.items) (sym c.as_str-folder.ensures.value))
      c.in_ok-look.ensures.noted c.in_ok-take_look.ensures.files c.in_ok-take_look.ensures.faults c.in_ok-take_look.ensures.folders;
  openings = c.in_ok-look.ensures.openings ∙ c.walk.invariant.openings;
}
