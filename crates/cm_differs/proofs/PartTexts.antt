-- A part alone has the text of the part, and no text has a float.
use Rattle.std.proofs.Common.{◌≡◌, ℕ, List, [], ◌∷◌, map, false, Option, Some, None, codes, refl, ap}
use Rattle.std.specs.Prelude.{option_map}
use Rattle.serde_json.specs.Data.{Data, Members, array, object, put, string}
use Rattle.serde_json.specs.View.{items_of}
use Rattle.serde_json.specs.Written.{compact_text, has_float}
use Rattle.cm_messages.specs.Layout.{list_data, members_of, object_of}
use Rattle.cm_messages.proofs.Plain.{ArePlain, IsPlain, plain_list, plain_map, plain_object, plain_put, plain_put_some}
use Rattle.gk_document.specs.Skeleton.{bare_argument, bare_cell, bare_row, bare_step, bare_tag}
use Rattle.gk_document.specs.declared.tree.Argument.{Argument}
use Rattle.gk_document.specs.declared.tree.Argument.TheVariants.{Table, Text}
use Rattle.gk_document.specs.declared.tree.DocString.{DocString}
use Rattle.gk_document.specs.declared.tree.Feature.{Feature}
use Rattle.gk_document.specs.declared.tree.Location.{Location}
use Rattle.gk_document.specs.declared.tree.Row.{Row}
use Rattle.gk_document.specs.declared.tree.Step.{Step}
use Rattle.gk_document.specs.declared.tree.Tag.{Tag}
use Rattle.gk_parts.specs.Parts.{Part, FeaturePart, RulePart, BackgroundPart, ScenarioPart, StepPart, ExamplesPart, HeaderPart, RowPart, part_alone, part_view}
use Rattle.gk_parts.specs.declared.listing.Part.{Part as DeclaredPart}
use Rattle.cm_differs.specs.PartData.{cell_data, doc_string_data, feature_data, location_data, part_data, part_text, row_data, step_data, table_data, tag_data, tagged_data, with_argument}

-- ---- parts alone

maps_same : {X : Type 0} (json : X → Data) (bare : X → X) → ((x : X) → json (bare x) ≡ json x) → (xs : List X) → map json (map bare xs) ≡ map json xs
maps_same json bare h [] = refl
maps_same json bare h (x ∷ xs) =
    let first = h x in
    let rest = maps_same json bare h xs in
    λ i. first i ∷ rest i

list_same : {X : Type 0} (json : X → Data) (bare : X → X) → ((x : X) → json (bare x) ≡ json x) → (xs : List X) → list_data json (map bare xs) ≡ list_data json xs
list_same json bare h xs = ap (λ ds. array (items_of ds)) (maps_same json bare h xs)

row_same : (r : Row) → row_data (bare_row r) ≡ row_data r
row_same r = ap (λ d. object_of ((codes "cells", d) ∷ (codes "location", location_data r.location) ∷ [])) (list_same cell_data bare_cell (λ c. refl) r.cells)

argument_same : (o : Option Argument) (ms : Members) → with_argument (option_map bare_argument o) ms ≡ with_argument o ms
argument_same None ms = refl
argument_same (Some (Table rows)) ms = ap (λ d. put (codes "dataTable") (object_of ((codes "rows", d) ∷ [])) ms) (list_same row_data bare_row row_same rows)
argument_same (Some (Text d)) ms = refl

step_same : (s : Step) → step_data (bare_step s) ≡ step_data s
step_same s =
    ap object (argument_same s.argument (members_of ((codes "keyword", string s.keyword) ∷ (codes "location", location_data s.location) ∷ (codes "text", string s.text) ∷ [])))

tagged_same : (keyword : List ℕ) (location : Location) (name : List ℕ) (tags : List Tag) → tagged_data keyword location name (map bare_tag tags) ≡ tagged_data keyword location name tags
tagged_same keyword location name tags =
    ap (λ d. object_of ((codes "keyword", string keyword) ∷ (codes "location", location_data location) ∷ (codes "name", string name) ∷ (codes "tags", d) ∷ [])) (list_same tag_data bare_tag (λ t. refl) tags)

feature_same : (f : Feature) → part_data (part_alone (FeaturePart f)) ≡ part_data (FeaturePart f)
feature_same f =
    ap (λ d. object_of ((
      codes "feature",
      object_of ((codes "keyword", string f.keyword) ∷ (codes "language", string f.language) ∷ (codes "location", location_data f.location) ∷ (codes "name", string f.name) ∷ (codes "tags", d) ∷ []),
    ) ∷ [])) (list_same tag_data bare_tag (λ t. refl) f.tags)

alone_same : (p : Part) → part_data (part_alone p) ≡ part_data p
alone_same (FeaturePart f) = feature_same f
alone_same (RulePart r) = ap (λ d. object_of ((codes "rule", d) ∷ [])) (tagged_same r.keyword r.location r.name r.tags)
alone_same (BackgroundPart b) = refl
alone_same (ScenarioPart s) = ap (λ d. object_of ((codes "scenario", d) ∷ [])) (tagged_same s.keyword s.location s.name s.tags)
alone_same (StepPart s) = ap (λ d. object_of ((codes "step", d) ∷ [])) (step_same s)
alone_same (ExamplesPart x) = ap (λ d. object_of ((codes "examples", d) ∷ [])) (tagged_same x.keyword x.location x.name x.tags)
alone_same (HeaderPart r) = ap (λ d. object_of ((codes "tableHeader", d) ∷ [])) (row_same r)
alone_same (RowPart r) = ap (λ d. object_of ((codes "tableRow", d) ∷ [])) (row_same r)

pub alone_text : (p : Part) → part_text (part_alone p) ≡ part_text p
alone_text p = ap compact_text (alone_same p)

-- ---- no floats

row_plain : (r : Row) → IsPlain (row_data r)
row_plain r = plain_object (row_data r) (plain_list cell_data (λ c. refl) r.cells, (refl, tt))

table_plain : (rows : List Row) → IsPlain (table_data rows)
table_plain rows = plain_object (table_data rows) (plain_list row_data row_plain rows, tt)

doc_string_plain : (d : DocString) → IsPlain (doc_string_data d)
doc_string_plain d = plain_object (doc_string_data d) (plain_put_some (codes "mediaType") (option_map string d.media) _ (plain_map string (λ t. refl) d.media) (refl, (refl, tt)))

argument_plain : (o : Option Argument) (ms : Members) → ArePlain ms → ArePlain (with_argument o ms)
argument_plain None ms h = h
argument_plain (Some (Table rows)) ms h = plain_put (codes "dataTable") (table_data rows) ms (table_plain rows) h
argument_plain (Some (Text d)) ms h = plain_put (codes "docString") (doc_string_data d) ms (doc_string_plain d) h

step_plain : (s : Step) → IsPlain (step_data s)
step_plain s = plain_object (step_data s) (argument_plain s.argument _ (refl, (refl, (refl, tt))))

tagged_plain : (keyword : List ℕ) (location : Location) (name : List ℕ) (tags : List Tag) → IsPlain (tagged_data keyword location name tags)
tagged_plain keyword location name tags = plain_object (tagged_data keyword location name tags) (refl, (refl, (refl, (plain_list tag_data (λ t. refl) tags, tt))))

feature_plain : (f : Feature) → IsPlain (feature_data f)
feature_plain f = plain_object (feature_data f) (refl, (refl, (refl, (refl, (plain_list tag_data (λ t. refl) f.tags, tt)))))

pub part_plain : (p : Part) → has_float (part_data p) ≡ false
part_plain (FeaturePart f) = plain_object (part_data (FeaturePart f)) (feature_plain f, tt)
part_plain (RulePart r) = plain_object (part_data (RulePart r)) (tagged_plain r.keyword r.location r.name r.tags, tt)
part_plain (BackgroundPart b) = refl
part_plain (ScenarioPart s) = plain_object (part_data (ScenarioPart s)) (tagged_plain s.keyword s.location s.name s.tags, tt)
part_plain (StepPart s) = plain_object (part_data (StepPart s)) (step_plain s, tt)
part_plain (ExamplesPart x) = plain_object (part_data (ExamplesPart x)) (tagged_plain x.keyword x.location x.name x.tags, tt)
part_plain (HeaderPart r) = plain_object (part_data (HeaderPart r)) (row_plain r, tt)
part_plain (RowPart r) = plain_object (part_data (RowPart r)) (row_plain r, tt)

pub parts_plain : (ps : List Part) → has_float (list_data part_data ps) ≡ false
parts_plain ps = plain_list part_data part_plain ps

-- parts as the code holds them
pub list_of_seen : (ps : List DeclaredPart) → list_data (λ p. part_data (part_view p)) ps ≡ list_data part_data (map part_view ps)
list_of_seen ps = ap (λ ds. array (items_of ds)) (datas ps)
  where
    datas : (ps : List DeclaredPart) → map (λ p. part_data (part_view p)) ps ≡ map part_data (map part_view ps)
    datas [] = refl
    datas (p ∷ ps) = ap (λ ds. part_data (part_view p) ∷ ds) (datas ps)
