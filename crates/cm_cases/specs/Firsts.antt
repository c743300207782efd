-- The first of some values with each text, as a map has them, and what is shown of what a listing keeps.
use Rattle.std.specs.Prelude.{◌≡◌, ℕ, not, Bool, List, [], ◌∷◌, ◌++◌, Option, Some, None, codes, count_by, decimal, find, option_map}
use Rattle.std.specs.List.{filter, flat_map, list_any}
use Rattle.std.specs.Option.{option_and_then, option_map_or}
use Rattle.std.specs.Map.{lookup}
use Rattle.std.specs.Str.{bytes_eq}
use Rattle.std.proofs.Common.{Bor}
use Rattle.indexmap.specs.IndexMap.{IndexMap}
use Rattle.cm_envelope.specs.Lines.{line_feed}
use Rattle.cm_stream.specs.References.{if_any}
use Rattle.cm_stream.specs.Texts.{Utf8}
use Rattle.cm_cases.specs.JsonLines.{CaseValues, json_line}
use Rattle.cm_cases.specs.Shown.{shown_text}
use Rattle.cm_cases.specs.declared.json_lines.CaseJson.{CaseJson}
use Rattle.cm_cases.specs.declared.listing.Listing.{Listing}
use Rattle.cm_cases.specs.declared.listing.PickleEntry.{PickleEntry}

-- ---- a map by texts

module _ {V S : Type 0} where
  -- what a map has for a text
  abbrev pub value_at : IndexMap (Bor Utf8) V S → Utf8 → Option V
  value_at m text = lookup (λ k. bytes_eq text k.now) m.entries

  -- the first of the values whose text this is, in other words
  abbrev pub HasFirsts : {X Y : Type 0} → (V → Y) → (X → Y) → (X → Utf8) → List X
      → IndexMap (Bor Utf8) V S → Type 0
  HasFirsts seen kept key xs m =
      (text : Utf8) → option_map seen (value_at m text)
      ≡ option_map kept (find (λ x. bytes_eq text (key x)) xs)

module _ {S : Type 0} where
  -- the count that a map has for a text, and 0 where it has none
  abbrev pub count_at : IndexMap (Bor Utf8) ℕ S → Utf8 → ℕ
  count_at m text = option_map_or (λ n. n) (value_at m text) 0

-- one value, or else another
abbrev pub or_else : {V : Type 0} → Option V → Option V → Option V
or_else (Some v) other = Some v
or_else None other = other

-- ---- the lines of a listing

abbrev pub line_at_in : Listing → (uri node : Utf8) → ℕ
line_at_in l uri node =
    option_map_or (λ x. x.line)
    (find (λ x. bytes_eq node x.id)
    (option_map_or (λ d. d.places) (find (λ d. bytes_eq uri d.uri) l.documents) [])) 0

abbrev pub line_in : Listing → PickleEntry → ℕ
line_in l p = line_at_in l p.uri p.node

abbrev pub scenario_in : Listing → (uri name node : Utf8) → List ℕ
scenario_in l uri name node =
    codes " " ++ shown_text uri ++ codes ":" ++ decimal (line_at_in l uri node) ++ codes " "
    ++ shown_text name

abbrev pub entry_scenario : Listing → PickleEntry → List ℕ
entry_scenario l p = scenario_in l p.uri p.name p.node

abbrev pub entry_text : Listing → PickleEntry → List ℕ
entry_text l p = entry_scenario l p ++ line_feed ∷ []

abbrev pub entry_of : Listing → Utf8 → Option PickleEntry
entry_of l id =
    option_and_then (λ c. find (λ p. bytes_eq c.pickle_id p.id) l.pickles)
    (find (λ c. bytes_eq id c.id) l.cases)

abbrev pub case_place_text : Listing → Utf8 → List ℕ
case_place_text l id = flat_map (entry_text l) (if_any (entry_of l id))

abbrev pub is_named : Listing → PickleEntry → Bool
is_named l p = list_any (λ c. bytes_eq p.id c.pickle_id) l.cases

abbrev pub unrun_entries_text : Listing → List ℕ
unrun_entries_text l =
    flat_map (λ p. codes "UNRUN" ++ entry_text l p) (filter (λ p. not (is_named l p)) l.pickles)

-- ---- the same as JSON

abbrev pub times_in : List Utf8 → Utf8 → ℕ
times_in texts text = count_by (bytes_eq text) texts

-- what the code says in a line
abbrev pub values_in : CaseJson → CaseValues
values_in c = record {
  attempts = c.attempts;
  line = c.line;
  name = c.pickle.now.name;
  status = c.status.now;
  tags = c.pickle.now.tags;
  uri = c.pickle.now.uri;
}

abbrev pub entry_values : Listing → (attempts : ℕ) → (status : Utf8) → PickleEntry → CaseValues
entry_values l attempts status p = record {
  attempts = attempts;
  line = line_in l p;
  name = p.name;
  status = status;
  tags = p.tags;
  uri = p.uri;
}

abbrev pub case_json_text : Listing → (test_case status : Utf8) → List ℕ
case_json_text l id status =
    flat_map (λ p. json_line (entry_values l (times_in l.starts id) status p))
    (if_any (entry_of l id))

abbrev pub unrun_json_text : Listing → List ℕ
unrun_json_text l =
    flat_map (λ p. json_line (entry_values l 0 (codes "UNRUN") p))
    (filter (λ p. not (is_named l p)) l.pickles)
