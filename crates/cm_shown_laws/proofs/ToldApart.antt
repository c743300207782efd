-- What differs is shown unlike.
use Rattle.std.proofs.Common.{◌≡◌, ◌∙◌, true, false, ℕ, List, [], ◌∷◌, Option, Some, None, map, refl, sym, ap, subst}
use Rattle.std.specs.Prelude.{codes, option_map}
use Rattle.std.specs.List.{AllByRecursion}
use Rattle.std.proofs.lemmas.Bool.{false≢true}
use Rattle.serde_json.proofs.OnLiterals.{serde_json_on_literals}
use Rattle.serde_json.specs.Data.{Data}
use Rattle.serde_json.specs.Read.{read}
use Rattle.serde_json.specs.Written.{compact_text}
use Rattle.gk_document.specs.declared.tree.Document.{Document}
use Rattle.gk_parts.specs.FirstDifference.{HasNext}
use Rattle.gk_parts.specs.Parts.{Part, part_alone, parts, parts_alone}
use Rattle.cm_envelope.specs.declared.pickle.Pickle.{Pickle}
use Rattle.cm_envelope.specs.declared.pickle.PickleStep.{PickleStep}
use Rattle.cm_stream.specs.Sources.{DuePickle, DueStep, is_due}
use Rattle.cm_stream.proofs.Lists.{all_here}
use Rattle.cm_stream.specs.Texts.{Utf8}
use Rattle.cm_cases.specs.Shown.{shown_json}
use Rattle.cm_cases_read_back.proofs.Values.{shown_have_lines}
use Rattle.cm_differs.proofs.DueEqual.{due_is_equal}
use Rattle.cm_differs.specs.Differences.{IsTreeDifference, pickle_difference}
use Rattle.cm_differs.specs.declared.difference.Difference.{Difference}
use Rattle.cm_differs.specs.DuePickles.{due_pickle, due_pickle_step, due_pickle_steps, without_id, without_ids}
use Rattle.cm_differs.specs.PartData.{part_data, part_text}
use Rattle.cm_differs.specs.PickleData.{bare_pickle_data}
use Rattle.cm_shown_laws.specs.Differences.{IsPlainPart, IsPlainPickle, IsSayable, IsToldApart, UnlikePartsAreShownUnlike, UnlikePicklesAreShownUnlike, UnlikeValuesAreShownUnlike, shown_side}
use Rattle.cm_shown_laws.proofs.Parts.{part_in_order, part_shallow, same_parts}
use Rattle.cm_shown_laws.proofs.PickleTexts.{pickle_in_order, pickle_shallow, same_pickles}

-- ---- values

is_same : {A : Type 0} (x y : A) → Some x ≡ Some y → x ≡ y
is_same x y e = cc

pub values_unlike : UnlikeValuesAreShownUnlike
values_unlike d e h k same =
    is_same d e (sym ((shown_have_lines d h.plain h.ordered).1 h.shallow) ∙ ap read same ∙ (shown_have_lines e k.plain k.ordered).1 k.shallow)

-- no value is shown as the word for none
nothing_unread : read (codes "nothing") ≡ None
unfolding serde_json_on_literals
nothing_unread = refl

not_nothing : (d : Data) → IsSayable d → shown_json (compact_text d) ≡ codes "nothing" → ⊥
not_nothing d h same =
    let wrong : Some d ≡ None = sym ((shown_have_lines d h.plain h.ordered).1 h.shallow) ∙ ap read same ∙ nothing_unread in
    cc

-- ---- parts

part_sayable : (p : Part) → IsPlainPart p → IsSayable (part_data p)
part_sayable p h = record { plain = h; ordered = part_in_order p; shallow = part_shallow p }

pub parts_unlike : UnlikePartsAreShownUnlike
parts_unlike p q h k same = same_parts p q (values_unlike (part_data (part_alone p)) (part_data (part_alone q)) (part_sayable (part_alone p) h) (part_sayable (part_alone q) k) same)

-- the part is one that stands alone
abbrev IsAlone : Part → Type 0
IsAlone p = (whole : Part) × (p ≡ part_alone whole)

are_alone : (ps : List Part) → AllByRecursion IsAlone (map part_alone ps)
are_alone [] = tt
are_alone (p ∷ ps) = ((p, refl), are_alone ps)

alone_unlike : (p q : Part) → IsAlone p → IsAlone q → IsPlainPart p → IsPlainPart q → shown_json (part_text p) ≡ shown_json (part_text q) → p ≡ q
alone_unlike p q a b h k same =
    let said = values_unlike (part_data p) (part_data q) (part_sayable p h) (part_sayable q k) same in
    a.1 ∙ same_parts a.0 b.0 (ap part_data (sym a.1) ∙ said ∙ ap part_data b.1) ∙ sym b.1

-- what is printed of a part, where there is one
shown_part : Option Part → List ℕ
shown_part o = shown_side (option_map part_text o)

part_stands : (p : Part) → IsPlainPart p → shown_json (part_text p) ≡ codes "nothing" → ⊥
part_stands p h = not_nothing (part_data p) (part_sayable p h)

module _ (xs ys : List Part) (x_alone : AllByRecursion IsAlone xs) (y_alone : AllByRecursion IsAlone ys) (x_plain : AllByRecursion IsPlainPart xs) (y_plain : AllByRecursion IsPlainPart ys) where
  same_next : (front : List Part) (p q : Option Part) → HasNext front xs p → HasNext front ys q → shown_part p ≡ shown_part q → p ≡ q
  unfolding shown_part
  same_next front None None h k same = refl
  same_next front None (Some q) h k same = absurd (part_stands q (all_here IsPlainPart front q k.0 (subst (AllByRecursion IsPlainPart) k.1 y_plain)) (sym same))
  same_next front (Some p) None h k same = absurd (part_stands p (all_here IsPlainPart front p h.0 (subst (AllByRecursion IsPlainPart) h.1 x_plain)) same)
  same_next front (Some p) (Some q) h k same =
      ap Some (alone_unlike p q
      (all_here IsAlone front p h.0 (subst (AllByRecursion IsAlone) h.1 x_alone))
      (all_here IsAlone front q k.0 (subst (AllByRecursion IsAlone) k.1 y_alone))
      (all_here IsPlainPart front p h.0 (subst (AllByRecursion IsPlainPart) h.1 x_plain))
      (all_here IsPlainPart front q k.0 (subst (AllByRecursion IsPlainPart) k.1 y_plain))
      same)

-- where two documents with plain parts first differ
pub trees_apart : (uri : Utf8) (due found : Document) (d : Difference) → IsTreeDifference uri due found d → AllByRecursion IsPlainPart (parts_alone due) → AllByRecursion IsPlainPart (parts_alone found) → IsToldApart d
unfolding shown_part
trees_apart uri due found d h x_plain y_plain = λ same.
    let shown : shown_part h.due_part ≡ shown_part h.found_part = ap shown_side (sym h.expected_is) ∙ same ∙ ap shown_side h.found_is in
    h.first.differ (same_next (parts_alone due) (parts_alone found) (are_alone (parts due)) (are_alone (parts found)) x_plain y_plain h.first.front h.due_part h.found_part h.first.expected h.first.found shown)

-- ---- pickles

pickle_sayable : (p : Pickle) → IsPlainPickle p → IsSayable (bare_pickle_data p)
pickle_sayable p h = record { plain = h; ordered = pickle_in_order p; shallow = pickle_shallow p }

pub pickles_unlike : UnlikePicklesAreShownUnlike
pickles_unlike p q h k same = same_pickles p q (values_unlike (bare_pickle_data p) (bare_pickle_data q) (pickle_sayable p h) (pickle_sayable q k) same)

-- a step that is due has no id
steps_without : (ids : List Utf8) (beside : List PickleStep) (ds : List DueStep) → map without_id (due_pickle_steps ids beside ds) ≡ due_pickle_steps ids beside ds
steps_without ids beside [] = refl
steps_without ids [] (d ∷ ds) = ap (λ (l : List PickleStep). due_pickle_step ids None d ∷ l) (steps_without ids [] ds)
steps_without ids (s ∷ ss) (d ∷ ds) = ap (λ (l : List PickleStep). due_pickle_step ids (Some s) d ∷ l) (steps_without ids ss ds)

due_without : (uri : Utf8) (ids : List Utf8) (beside : List PickleStep) (due : DuePickle) → without_ids (due_pickle uri ids beside due) ≡ due_pickle uri ids beside due
due_without uri ids beside due = ap (λ (l : List PickleStep). record (due_pickle uri ids beside due) { steps = l }) (steps_without ids beside due.steps)

-- a plain pickle that isn't the plain one that is due, and one where none is due
pub pickles_apart : (ids : List Utf8) (due : DuePickle) (found : Pickle) → is_due ids found due ≡ false → IsPlainPickle found → IsPlainPickle (due_pickle found.uri ids found.steps due) → IsToldApart (pickle_difference ids (Some due) found)
pickles_apart ids due found differs h k = λ same.
    let expected = due_pickle found.uri ids found.steps due in
    let equal = sym (pickles_unlike expected found k h same) ∙ due_without found.uri ids found.steps due in
    let is = (due_is_equal ids found due).1 equal in
    let no_way : false ≡ true = sym differs ∙ is in
    false≢true no_way

pub none_apart : (ids : List Utf8) (found : Pickle) → IsPlainPickle found → IsToldApart (pickle_difference ids None found)
none_apart ids found h = λ same. not_nothing (bare_pickle_data found) (pickle_sayable found h) (sym same)
