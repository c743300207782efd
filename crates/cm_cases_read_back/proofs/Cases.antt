-- The object of a case is plain, and has its six values alone.
use Rattle.std.proofs.Common.{◌≡◌, ◌≤◌, ◌∙◌, ℕ, List, [], ◌∷◌, true, map, refl, sym, ap, arith}
use Rattle.std.specs.List.{AllByRecursion}
use Rattle.std.specs.Prelude.{codes}
use Rattle.std.specs.Str.{IsUtf8}
use Rattle.json.proofs.Printed.Utf8.{IsUtf8-are_ascii}
use Rattle.serde_json.specs.Data.{Data, Items, array, depth, item, items_depth, member, no_members, number, object, string, unsigned}
use Rattle.serde_json.specs.Read.{max_depth}
use Rattle.serde_json.specs.View.{items_of}
use Rattle.cm_cases.specs.JsonLines.{CaseValues, case_data}
use Rattle.cm_read_back.specs.Values.{IsPlain, ItemsArePlain, in_order, items_in_order}
use Rattle.cm_cases_read_back.specs.Laws.{CasesAreReadBack, IsPlainCase}
use Rattle.cm_cases_read_back.proofs.Values.{shown_have_lines}

texts_plain : (ts : List (List ℕ)) → AllByRecursion IsUtf8 ts → ItemsArePlain (items_of (map string ts))
texts_plain [] h = tt
texts_plain (t ∷ ts) h = (h.0, texts_plain ts h.1)

texts_in_order : (ts : List (List ℕ)) → items_in_order (items_of (map string ts)) ≡ true
texts_in_order [] = refl
texts_in_order (t ∷ ts) = texts_in_order ts

texts_flat : (ts : List (List ℕ)) → items_depth (items_of (map string ts)) ≡ 0
texts_flat [] = refl
texts_flat (t ∷ ts) = rw (texts_flat ts) refl

case_is_plain : (v : CaseValues) → IsPlainCase v → IsPlain (case_data v)
case_is_plain v h = (
  IsUtf8-are_ascii (codes "attempts") refl,
  h.attempts,
  (
    IsUtf8-are_ascii (codes "line") refl,
    h.line,
    (
      IsUtf8-are_ascii (codes "name") refl,
      h.name,
      (
        IsUtf8-are_ascii (codes "status") refl,
        h.status,
        (IsUtf8-are_ascii (codes "tags") refl, texts_plain v.tags h.tags, (IsUtf8-are_ascii (codes "uri") refl, h.uri, tt)),
      ),
    ),
  ),
)

case_in_order : (v : CaseValues) → in_order (case_data v) ≡ true
case_in_order v = rw (texts_in_order v.tags) refl

case_is_shallow : (v : CaseValues) → depth (case_data v) ≤ max_depth
case_is_shallow v = rw (texts_flat v.tags) (omega arith)

-- ---- the values of an object

abbrev texts_in : Items → List (List ℕ)
texts_in (item (string s) ds) = s ∷ texts_in ds
texts_in _ = []

abbrev nothing : CaseValues
nothing = record { attempts = 0; line = 0; name = []; status = []; tags = []; uri = [] }

abbrev values_in : Data → CaseValues
values_in (object (member a (number (unsigned attempts)) (member l (number (unsigned line)) (member n (string name) (member s (string status) (member t (array tags) (member u (string uri) no_members))))))) =
    record { attempts = attempts; line = line; name = name; status = status; tags = texts_in tags; uri = uri }
values_in _ = nothing

texts_back : (ts : List (List ℕ)) → texts_in (items_of (map string ts)) ≡ ts
texts_back [] = refl
texts_back (t ∷ ts) = ap (λ us. t ∷ us) (texts_back ts)

values_back : (v : CaseValues) → values_in (case_data v) ≡ v
values_back v = ap (λ (ts : List (List ℕ)). record v { tags = ts }) (texts_back v.tags)

pub cases_are_back : CasesAreReadBack
cases_are_back v h =
    let line = shown_have_lines (case_data v) (case_is_plain v h) (case_in_order v) in
    record { utf8 = line.0; value = line.1 (case_is_shallow v); only = λ w same. sym (values_back w) ∙ ap values_in same ∙ values_back v }
