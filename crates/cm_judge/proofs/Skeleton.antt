-- The test of skeletons of `gk_document` is that of the checks.
use Rattle.std.proofs.Common.{◌≡◌, ◌∙◌, refl, sym, ap, Bool, true, false, IsTrue, Bor, Option, Some}
use Rattle.std.specs.Prelude.{◌↔◌, option_map}
use Rattle.std.specs.Option.{option_map_or}
use Rattle.gk_document.specs.declared.tree.Document.{Document}
use Rattle.gk_document.specs.Skeleton.{skeleton}
use Rattle.cm_stream.specs.Skeleton.{same_skeleton}
use Rattle.cm_stream.proofs.Skeletons.{skeletons_are, same_skeletons}

pub one_skeleton : (r : Bool) (a b : Document) → IsTrue r ↔ (skeleton a ≡ skeleton b) → r ≡ same_skeleton a b
one_skeleton true a b h = sym (same_skeletons a b (h.0 refl))
one_skeleton false a b h = go (same_skeleton a b) refl
  where
    go : (x : Bool) → same_skeleton a b ≡ x → false ≡ same_skeleton a b
    go true e = let wrong : false ≡ true = h.1 (skeletons_are a b e) in cc
    go false e = sym e

-- of the document that is awaited
pub awaited_skeleton : (r : Bool) (d : Document) (o : Option (Bor Document)) (a : Bor Document) (kept : Option Document) → o ≡ Some a
    → option_map (λ (x : Bor Document). x.now) o ≡ kept → IsTrue r ↔ (skeleton d ≡ skeleton a.now) → r ≡ option_map_or (same_skeleton d) kept false
awaited_skeleton r d o a kept is same h =
    one_skeleton r d a.now h ∙ ap (λ (x : Option Document). option_map_or (same_skeleton d) x false) (ap (option_map (λ (x : Bor Document). x.now)) (sym is) ∙ same)
