-- What the lists of parts show of their documents.
use Rattle.std.proofs.Common.{◌≡◌, ◌∙◌, List, Option, Some, None, ap, sym, refl, map, option_map, subst₂}
use Rattle.std.specs.Prelude.{◌↔◌, MatchOption, IfSome}
use Rattle.std.specs.Option.{IsNone}
use Rattle.std.proofs.lemmas.Bool.{false≢true}
use Rattle.std.proofs.lemmas.Simd.{map-map}
use Rattle.gk_document.specs.declared.tree.Document.{Document}
use Rattle.gk_document.specs.Skeleton.{skeleton}
use Rattle.gk_parts.specs.declared.listing.Part.{Part as DeclaredPart}
use Rattle.gk_parts.specs.declared.listing.FirstDifference.{FirstDifference}
use Rattle.gk_parts.specs.Parts.{part_view, part_alone, part_view_alone, parts, parts_alone}
use Rattle.gk_parts.specs.FirstDifference.{IsFirstDifference}
use Rattle.gk_parts.proofs.Differences.{unequal}
use Rattle.gk_parts.proofs.Skeletons.{parts_show_skeleton}

pub parts_shown : (items listed : List DeclaredPart) (d : Document) → listed ≡ items → map part_view items ≡ parts d → map part_view_alone listed ≡ parts_alone d
parts_shown items listed d same e = ap (map part_view_alone) same ∙ sym (map-map part_alone part_view items) ∙ ap (map part_alone) e

module _ (expected found : List DeclaredPart) (a b : Document) (e : map part_view_alone expected ≡ parts_alone a) (e' : map part_view_alone found ≡ parts_alone b) where
  abbrev Answer : Option FirstDifference → Type 0
  Answer r = MatchOption r (map part_view_alone expected ≡ map part_view_alone found)
      (λ d. IsFirstDifference (map part_view_alone expected) (map part_view_alone found) (option_map part_view_alone d.expected) (option_map part_view_alone d.found))

  pub none_found : (r : Option FirstDifference) → Answer r → IsNone r ↔ (skeleton a ≡ skeleton b)
  none_found None same = (λ _. (parts_show_skeleton a b).0 (sym e ∙ same ∙ e'), λ _. refl)
  none_found (Some d) first = (
    λ none. absurd (false≢true (sym none)),
    λ same. absurd (unequal _ _ _ _ first (e ∙ (parts_show_skeleton a b).1 same ∙ sym e')),
  )

  pub first_found : (r : Option FirstDifference) → Answer r
      → IfSome r (λ d. IsFirstDifference (parts_alone a) (parts_alone b) (option_map part_view_alone d.expected) (option_map part_view_alone d.found))
  first_found None same = tt
  first_found (Some d) first =
      subst₂ (λ xs ys. IsFirstDifference xs ys (option_map part_view_alone d.expected) (option_map part_view_alone d.found)) e e' first
