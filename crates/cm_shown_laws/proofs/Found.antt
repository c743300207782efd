-- The pickles and the test cases of a good stream are found.
use Rattle.std.proofs.Common.{◌≡◌, ◌∙◌, ℕ, ◌==◌, Bool, true, false, cond, ◌&&◌, ◌||◌, List, [], ◌∷◌, ◌++◌, Option, Some, None, length, map, flat_map, refl, sym, ap, ap₂, subst, append-nil}
use Rattle.std.specs.Prelude.{find, is_some, slice_get, unwrap_or}
use Rattle.std.specs.List.{AllByRecursion, filter, filter_map, list_any}
use Rattle.std.specs.Option.{option_and_then, option_map, option_map_or}
use Rattle.std.specs.Str.{bytes_eq}
use Rattle.std.proofs.lemmas.Bool.{eq-eqb, eqb-true, or_right}
use Rattle.gk_document.specs.declared.tree.Tag.{Tag}
use Rattle.gk_document.specs.declared.tree.Row.{Row}
use Rattle.gk_document.specs.declared.tree.ExampleTable.{ExampleTable}
use Rattle.gk_document.specs.declared.tree.Examples.{Examples}
use Rattle.gk_document.specs.declared.tree.Scenario.{Scenario}
use Rattle.gk_document.specs.declared.tree.Rule.{Rule}
use Rattle.gk_document.specs.declared.tree.Feature.{Feature}
use Rattle.gk_document.specs.declared.tree.Document.{Document}
use Rattle.gk_grammar.specs.Grammar.{feature_nodes}
use Rattle.gk_grammar.proofs.LawLemmas.{numbered_in_order_holds}
use Rattle.gk_pickle.specs.Inheritance.{Inheritance}
use Rattle.gk_pickle.specs.Pickles.{examples_pickles, feature_pickles, in_feature, in_rule, outline_pickles, pickles as compiled, pickles_in, rule_pickles, scenario_pickles, table_pickles}
use Rattle.cm_attempt.specs.Calls.{last_of}
use Rattle.cm_attempt.specs.declared.status.Settings.{Settings}
use Rattle.cm_envelope.specs.declared.envelope.Envelope.{Envelope}
use Rattle.cm_envelope.specs.declared.envelope.Envelope.TheVariants as envelope
use Rattle.cm_envelope.specs.declared.envelope.GherkinDocument.{GherkinDocument}
use Rattle.cm_envelope.specs.declared.envelope.Source.{Source}
use Rattle.cm_envelope.specs.declared.envelope.TestCase.{TestCase}
use Rattle.cm_envelope.specs.declared.pickle.Pickle.{Pickle}
use Rattle.cm_stream.specs.Good.{Good, HasDocument, MeetsSource}
use Rattle.cm_stream.specs.OnePass.{reads}
use Rattle.cm_stream.specs.Readings.{Reading, Accepted, Refused, OtherLanguage, TooLong, IsReading}
use Rattle.cm_stream.specs.References.{as_case, as_document, as_pickle, cases, documents_of, find_case, find_pickle, if_any, pickles, pickles_of}
use Rattle.cm_stream.specs.Sources.{DuePickle, english, ids_at, is_due, is_due_step, is_due_tag}
use Rattle.cm_stream.specs.Texts.{Utf8, same_list, same_texts}
use Rattle.cm_stream.proofs.Declared.{case_is, document_is, pickle_is}
use Rattle.cm_stream.proofs.Documents.{documents_both, has_source}
use Rattle.cm_stream.proofs.Found.{bytes_same, each_found}
use Rattle.cm_stream.proofs.Lists.{all_here, and_true, found_any, found_cut}
use Rattle.cm_stream.proofs.NoFault.{good_have_no_fault}
use Rattle.cm_stream.proofs.OnePass.{is_read}
use Rattle.cm_stream.proofs.OneRow.{OnlyOne, one_case, only_here}
use Rattle.cm_stream.proofs.Passing.{AllPass, plain_passes}
use Rattle.cm_stream.proofs.Parts.{texts_are}
use Rattle.cm_cases.specs.Places.{example_rows, last_node, pickle_of, place, places_at, places_of, rows_of, scenario_places, scenario_text, scenarios_of}
use Rattle.cm_cases.specs.declared.listing.Place.{Place}
use Rattle.cm_shown_laws.specs.Scenarios.{HasPlace, HasScenario, ScenariosAreFound}
use Rattle.cm_shown_laws.proofs.Numbered.{IsCounted}
use Rattle.cm_shown_laws.proofs.Spots.{Spot, from_range, row_spot, same_spots, scenario_spots, spots_in, spots_of}
use Rattle.cm_shown_laws.proofs.Streams.{InOrder, read_in_order}

-- ---- each pickle that is due has its spot

abbrev is_at : ℕ → Spot → Bool
is_at n x = x.0 == n

-- the last of the nodes is a scenario or a row
abbrev Stands : List Spot → DuePickle → Type 0
Stands spots due = (n : ℕ) × (last_of due.nodes ≡ Some n) × (list_any (is_at n) spots ≡ true)

any_left : {A : Type 0} (q : A → Bool) (xs ys : List A) → list_any q xs ≡ true → list_any q (xs ++ ys) ≡ true
any_left q [] ys h = cc
any_left {A} q (x ∷ xs) ys h = go (q x) refl (any_left q xs ys)
  where
    go : (b : Bool) → q x ≡ b → (list_any q xs ≡ true → list_any q (xs ++ ys) ≡ true) → (q x || list_any q (xs ++ ys)) ≡ true
    go true e later = rw e refl
    go false e later = rw e (later (rw e at h))

any_right : {A : Type 0} (q : A → Bool) (xs ys : List A) → list_any q ys ≡ true → list_any q (xs ++ ys) ≡ true
any_right q [] ys h = h
any_right {A} q (x ∷ xs) ys h = go (q x) refl (any_right q xs ys h)
  where
    go : (b : Bool) → q x ≡ b → list_any q (xs ++ ys) ≡ true → (q x || list_any q (xs ++ ys)) ≡ true
    go true e later = rw e refl
    go false e later = rw e later

all_so : {A : Type 0} (P Q : A → Type 0) → ((x : A) → P x → Q x) → (xs : List A) → AllByRecursion P xs → AllByRecursion Q xs
all_so P Q f [] h = tt
all_so P Q f (x ∷ xs) h = (f x h.0, all_so P Q f xs h.1)

all_both : {A : Type 0} (P : A → Type 0) (xs ys : List A) → AllByRecursion P xs → AllByRecursion P ys → AllByRecursion P (xs ++ ys)
all_both P [] ys h k = k
all_both P (x ∷ xs) ys h k = (h.0, all_both P xs ys h.1 k)

to_left : (xs ys : List Spot) (ds : List DuePickle) → AllByRecursion (Stands xs) ds → AllByRecursion (Stands (xs ++ ys)) ds
to_left xs ys ds h = all_so (Stands xs) (Stands (xs ++ ys)) (λ due k. (k.0, k.1, any_left (is_at k.0) xs ys k.2)) ds h

to_right : (xs ys : List Spot) (ds : List DuePickle) → AllByRecursion (Stands ys) ds → AllByRecursion (Stands (xs ++ ys)) ds
to_right xs ys ds h = all_so (Stands ys) (Stands (xs ++ ys)) (λ due k. (k.0, k.1, any_right (is_at k.0) xs ys k.2)) ds h

-- the pickles of each part have their spots among those of each part
each_part : {A : Type 0} (made : A → List DuePickle) (spots : A → List Spot) → ((x : A) → AllByRecursion (Stands (spots x)) (made x)) → (xs : List A) → AllByRecursion (Stands (flat_map spots xs)) (flat_map made xs)
each_part made spots one [] = tt
each_part made spots one (x ∷ xs) =
    all_both (Stands (spots x ++ flat_map spots xs)) (made x) (flat_map made xs) (to_left (spots x) (flat_map spots xs) (made x) (one x)) (to_right (spots x) (flat_map spots xs) (flat_map made xs) (each_part made spots one xs))

is_itself : (n : ℕ) → (n == n) ≡ true
is_itself n = eq-eqb n n refl

module _ (inherited : Inheritance) (s : Scenario) where
  rows_stand : (tags : List Tag) (header : Row) (before rows : List Row) → AllByRecursion (Stands (map row_spot (before ++ rows))) (table_pickles inherited s tags (Some (record { header = header; body = rows })))
  rows_stand tags header before [] = tt
  rows_stand tags header before (r ∷ rows) =
      ((r.node, refl, here before), subst (λ (all : List Row). AllByRecursion (Stands (map row_spot all)) (table_pickles inherited s tags (Some (record { header = header; body = rows })))) (one_on before) (rows_stand tags header (before ++ r ∷ []) rows))
    where
      here : (before : List Row) → list_any (is_at r.node) (map row_spot (before ++ r ∷ rows)) ≡ true
      here [] = rw (is_itself r.node) refl
      here (x ∷ xs) = any_right (is_at r.node) (row_spot x ∷ []) (map row_spot (xs ++ r ∷ rows)) (here xs)

      one_on : (before : List Row) → (before ++ r ∷ []) ++ rows ≡ before ++ r ∷ rows
      one_on [] = refl
      one_on (x ∷ xs) = ap (λ (l : List Row). x ∷ l) (one_on xs)

  table_stands : (tags : List Tag) (o : Option ExampleTable) → AllByRecursion (Stands (map row_spot (example_rows o))) (table_pickles inherited s tags o)
  table_stands tags None = tt
  table_stands tags (Some t) = rows_stand tags t.header [] t.body

  blocks_stand : (es : List Examples) → AllByRecursion (Stands (map row_spot (flat_map (λ (x : Examples). example_rows x.table) es))) (flat_map (examples_pickles inherited s) es)
  blocks_stand [] = tt
  blocks_stand (e ∷ es) =
      let here = map row_spot (example_rows e.table) in
      let more = map row_spot (flat_map (λ (x : Examples). example_rows x.table) es) in
      subst (λ (l : List Spot). AllByRecursion (Stands l) (examples_pickles inherited s e ++ flat_map (examples_pickles inherited s) es)) (sym (mapped (example_rows e.table) (flat_map (λ (x : Examples). example_rows x.table) es)))
      (all_both (Stands (here ++ more)) (examples_pickles inherited s e) (flat_map (examples_pickles inherited s) es) (to_left here more _ (table_stands e.tags e.table)) (to_right here more _ (blocks_stand es)))
    where
      mapped : (xs ys : List Row) → map row_spot (xs ++ ys) ≡ map row_spot xs ++ map row_spot ys
      mapped [] ys = refl
      mapped (x ∷ xs) ys = ap (λ (l : List Spot). row_spot x ∷ l) (mapped xs ys)

  outline_stands : (es : List Examples) → AllByRecursion (Stands ((s.node, s.location.line) ∷ map row_spot (flat_map (λ (x : Examples). example_rows x.table) es))) (outline_pickles inherited s es)
  outline_stands [] = ((s.node, refl, rw (is_itself s.node) refl), tt)
  outline_stands (e ∷ es) = to_right ((s.node, s.location.line) ∷ []) (map row_spot (flat_map (λ (x : Examples). example_rows x.table) (e ∷ es))) _ (blocks_stand (e ∷ es))

  scenario_stands : AllByRecursion (Stands (scenario_spots s)) (scenario_pickles inherited s)
  scenario_stands = outline_stands s.examples

rule_stands : (f : Feature) (r : Rule) → AllByRecursion (Stands (flat_map scenario_spots r.scenarios)) (rule_pickles f r)
rule_stands f r = each_part (scenario_pickles (in_rule f r)) scenario_spots (scenario_stands (in_rule f r)) r.scenarios

feature_stands : (f : Feature) → AllByRecursion (Stands (flat_map scenario_spots f.scenarios ++ flat_map (λ (r : Rule). flat_map scenario_spots r.scenarios) f.rules)) (feature_pickles f)
feature_stands f =
    let own = flat_map scenario_spots f.scenarios in
    let below = flat_map (λ (r : Rule). flat_map scenario_spots r.scenarios) f.rules in
    all_both (Stands (own ++ below)) (flat_map (scenario_pickles (in_feature f)) f.scenarios) (flat_map (rule_pickles f) f.rules)
    (to_left own below _ (each_part (scenario_pickles (in_feature f)) scenario_spots (scenario_stands (in_feature f)) f.scenarios))
    (to_right own below _ (each_part (rule_pickles f) (λ (r : Rule). flat_map scenario_spots r.scenarios) (rule_stands f) f.rules))

each_stands : (o : Option Feature) → AllByRecursion (Stands (flat_map scenario_spots (option_map_or (λ (f : Feature). f.scenarios ++ flat_map (λ (r : Rule). r.scenarios) f.rules) o []))) (pickles_in o)
each_stands None = tt
each_stands (Some f) = subst (λ (l : List Spot). AllByRecursion (Stands l) (feature_pickles f)) (sym (spots_in f)) (feature_stands f)

all_stand : (d : Document) → AllByRecursion (Stands (spots_of d)) (compiled d)
unfolding compiled
all_stand d = each_stands d.feature

-- ---- the places of a document are its spots

spot_place : List Utf8 → Spot → Place
spot_place ids x = record { id = unwrap_or (slice_get ids x.0) []; line = x.1 }

module _ (ids : List Utf8) where
  row_places : (rs : List Row) → map (λ (r : Row). place ids r.node r.location) rs ≡ map (spot_place ids) (map row_spot rs)
  unfolding spot_place
  row_places [] = refl
  row_places (r ∷ rs) = ap (λ (l : List Place). place ids r.node r.location ∷ l) (row_places rs)

  each_place : (ss : List Scenario) → flat_map (scenario_places ids) ss ≡ map (spot_place ids) (flat_map scenario_spots ss)
  unfolding spot_place
  each_place [] = refl
  each_place (s ∷ ss) =
      ap₂ (λ (a b : List Place). (place ids s.node s.location ∷ a) ++ b) (row_places (rows_of s)) (each_place ss) ∙ sym (mapped (scenario_spots s) (flat_map scenario_spots ss))
    where
      mapped : (xs ys : List Spot) → map (spot_place ids) (xs ++ ys) ≡ map (spot_place ids) xs ++ map (spot_place ids) ys
      mapped [] ys = refl
      mapped (x ∷ xs) ys = ap (λ (l : List Place). spot_place ids x ∷ l) (mapped xs ys)

  id_of : ℕ → Utf8
  id_of n = unwrap_or (slice_get ids n) []

  spot_there : (n : ℕ) (xs : List Spot) → list_any (is_at n) xs ≡ true → list_any (λ (x : Place). bytes_eq (id_of n) x.id) (map (spot_place ids) xs) ≡ true
  unfolding spot_place id_of
  spot_there n [] h = cc
  spot_there n (x ∷ xs) h = go (x.0 == n) refl (spot_there n xs)
    where
      go : (b : Bool) → (x.0 == n) ≡ b → (list_any (is_at n) xs ≡ true → list_any (λ (y : Place). bytes_eq (id_of n) y.id) (map (spot_place ids) xs) ≡ true)
          → (bytes_eq (id_of n) (id_of x.0) || list_any (λ (y : Place). bytes_eq (id_of n) y.id) (map (spot_place ids) xs)) ≡ true
      go true e later = let same : x.0 ≡ n = eqb-true x.0 n e in rw (ap (λ (k : ℕ). bytes_eq (id_of n) (id_of k)) same ∙ bytes_same (id_of n)) refl
      go false e later = or_right (bytes_eq (id_of n) (id_of x.0)) _ (later (rw e at h))

  last_at : (nodes : List ℕ) (n : ℕ) → last_of nodes ≡ Some n → last_of (ids_at ids nodes) ≡ Some (id_of n)
  unfolding id_of
  last_at [] n e = cc
  last_at (x ∷ []) n e = let same : x ≡ n = cc in ap (λ (k : ℕ). Some (unwrap_or (slice_get ids k) [])) same
  last_at (x ∷ y ∷ more) n e = last_at (y ∷ more) n e

-- the nodes of a pickle are those of the one that is due
nodes_are : (ids : List Utf8) (p : Pickle) (due : DuePickle) → is_due ids p due ≡ true → p.ast_node_ids ≡ ids_at ids due.nodes
nodes_are ids p due h =
    let front = bytes_eq p.language english && bytes_eq p.name due.name in
    let nodes = same_texts p.ast_node_ids (ids_at ids due.nodes) in
    let tags = same_list (is_due_tag ids) p.tags due.tags in
    let steps = same_list (is_due_step ids) p.steps due.steps in
    texts_are p.ast_node_ids (ids_at ids due.nodes) (and_true front nodes (and_true (front && nodes) tags (and_true (front && nodes && tags) steps h).0).0).1

-- the pickle's last node is the id of one of the places
abbrev IsPlaced : List Place → Pickle → Type 0
IsPlaced places p = list_any (λ x. bytes_eq (last_node p) x.id) places ≡ true

placed : (ids : List Utf8) (spots : List Spot) (p : Pickle) (due : DuePickle) → is_due ids p due ≡ true → Stands spots due → IsPlaced (map (spot_place ids) spots) p
unfolding id_of
placed ids spots p due h stands =
    let last : last_node p ≡ id_of ids stands.0 = ap (λ (l : List Utf8). unwrap_or (last_of l) []) (nodes_are ids p due h) ∙ ap (λ (o : Option Utf8). unwrap_or o []) (last_at ids due.nodes stands.0 stands.1) in
    ap (λ (id : Utf8). list_any (λ x. bytes_eq id x.id) (map (spot_place ids) spots)) last ∙ spot_there ids stands.0 spots stands.2

each_placed : (ids : List Utf8) (spots : List Spot) (ps : List Pickle) (ds : List DuePickle) → same_list (is_due ids) ps ds ≡ true → AllByRecursion (Stands spots) ds → AllByRecursion (IsPlaced (map (spot_place ids) spots)) ps
each_placed ids spots [] [] h all = tt
each_placed ids spots [] (d ∷ ds) h all = cc
each_placed ids spots (p ∷ ps) [] h all = cc
each_placed ids spots (p ∷ ps) (d ∷ ds) h all =
    let both = and_true (is_due ids p d) (same_list (is_due ids) ps ds) h in
    (placed ids spots p d both.0 all.0, each_placed ids spots ps ds both.1 all.1)

-- ---- what is found

some_found : {A : Type 0} (o : Option A) → is_some o ≡ true → (x : A) × (o ≡ Some x)
some_found None h = cc
some_found (Some x) h = (x, refl)

has_place : (es : List Envelope) (p : Pickle) → IsPlaced (places_at p.uri es) p → HasPlace es p
has_place es p h =
    let q = λ (x : Place). bytes_eq (last_node p) x.id in
    let at = some_found (find q (places_at p.uri es)) (found_any q (places_at p.uri es) ∙ h) in
    record { place = at.0; found = at.1; line = ap (λ (o : Option Place). option_map_or (λ (x : Place). x.line) o 0) at.1 }

the_first : {A : Type 0} (q : A → Bool) (xs : List A) (x : A) → filter q xs ≡ x ∷ [] → find q xs ≡ Some x
the_first q [] x e = cc
the_first {A} q (y ∷ ys) x e = go (q y) refl (the_first q ys x)
  where
    go : (b : Bool) → q y ≡ b → (filter q ys ≡ x ∷ [] → find q ys ≡ Some x) → find q (y ∷ ys) ≡ Some x
    go true k later = let at : y ∷ filter q ys ≡ x ∷ [] = rw k at e in let same : y ≡ x = cc in rw k (ap Some same)
    go false k later = let at : filter q ys ≡ x ∷ [] = rw k at e in rw k (later at)

all_kept : {A : Type 0} (P : A → Type 0) (q : A → Bool) (xs : List A) → AllByRecursion P xs → AllByRecursion P (filter q xs)
all_kept P q [] h = tt
all_kept {A} P q (x ∷ xs) h = go (q x) (all_kept P q xs h.1)
  where
    go : (b : Bool) → AllByRecursion P (filter q xs) → AllByRecursion P (cond b (x ∷ filter q xs) (filter q xs))
    go true later = (h.0, later)
    go false later = later

-- what holds of each that is kept holds of one that passes
kept_here : {A : Type 0} (P : A → Type 0) (q : A → Bool) (front : List A) (x : A) (back : List A) → q x ≡ true → AllByRecursion P (filter q (front ++ x ∷ back)) → P x
kept_here P q [] x back k h = go (q x) k h
  where
    go : (b : Bool) → b ≡ true → AllByRecursion P (cond b (x ∷ filter q back) (filter q back)) → P x
    go true e h = h.0
    go false e h = cc
kept_here {A} P q (y ∷ ys) x back k h = go (q y) h (kept_here P q ys x back k)
  where
    go : (b : Bool) → AllByRecursion P (cond b (y ∷ filter q (ys ++ x ∷ back)) (filter q (ys ++ x ∷ back))) → (AllByRecursion P (filter q (ys ++ x ∷ back)) → P x) → P x
    go true h later = later h.1
    go false h later = later h

module _ (es : List Envelope) (in_order : AllByRecursion InOrder es) (settings : Settings) (good : Good settings es) where
  document_counted : AllByRecursion IsCounted (filter_map as_document es)
  document_counted = each_found as_document IsCounted es
      (λ front here back g cut is. subst InOrder (document_is here g is) (all_here InOrder front here back (subst (AllByRecursion InOrder) cut in_order)))

  module _ (front back : List Envelope) (p : Pickle) (cut : es ≡ front ++ envelope.Pickle p ∷ back) where
    all_pickles : pickles es ≡ pickles front ++ p ∷ pickles back
    all_pickles = ap pickles cut ∙ found_cut as_pickle front (envelope.Pickle p) back p refl

    -- the pickle is among those of its uri
    among : (uri : Utf8) → uri ≡ p.uri → (P : Pickle → Type 0) → AllByRecursion P (pickles_of uri es) → P p
    among uri same P h =
        let q = λ (x : Pickle). bytes_eq uri x.uri in
        kept_here P q (pickles front) p (pickles back) (ap (λ (u : Utf8). bytes_eq u p.uri) same ∙ bytes_same p.uri) (subst (λ (ps : List Pickle). AllByRecursion P (filter q ps)) all_pickles h)

    by_document : (s : Source) → s.uri ≡ p.uri → (before after : List Envelope) → es ≡ before ++ envelope.Source s ∷ after → (text : Document) → IsReading s.content (Accepted text) → HasDocument es before s after text → HasPlace es p
    by_document s same before after whole text read h =
        let g = h.document in
        let one : documents_of s.uri es ≡ g ∷ [] = ap (documents_of s.uri) whole ∙ documents_both s.uri before (envelope.Source s ∷ after) ∙ ap (λ (ds : List GherkinDocument). ds ++ documents_of s.uri after) h.none_before ∙ h.one_after in
        let q = λ (d : GherkinDocument). bytes_eq s.uri d.uri in
        let counted = (subst (AllByRecursion IsCounted) one (all_kept IsCounted q (filter_map as_document es) document_counted)).0 in
        let own = from_range (feature_nodes text.feature) 0 text.nodes (numbered_in_order_holds s.content text read.1) in
        let spots : spots_of g.document ≡ spots_of text = same_spots g.document text h.same_skeleton (length g.ids) own.0 counted own.1 in
        let all = each_placed g.ids (spots_of text) (pickles_of s.uri es) (compiled text) h.same_pickles (all_stand text) in
        let mine = among s.uri same (IsPlaced (map (spot_place g.ids) (spots_of text))) all in
        let places : places_at p.uri es ≡ map (spot_place g.ids) (spots_of text) =
        ap (λ (u : Utf8). places_at u es) (sym same) ∙ ap (λ (o : Option GherkinDocument). option_map_or places_of o []) (the_first q (filter_map as_document es) g one) ∙ each_place g.ids (scenarios_of g.document) ∙ ap (map (spot_place g.ids)) spots in
        has_place es p (subst (λ (l : List Place). IsPlaced l p) (sym places) mine)

    by_reading : (s : Source) → s.uri ≡ p.uri → (before after : List Envelope) → es ≡ before ++ envelope.Source s ∷ after → (r : Reading) → IsReading s.content r → MeetsSource es before s after r → HasPlace es p
    by_reading s same before after whole (Accepted text) read h = by_document s same before after whole text read h
    by_reading s same before after whole Refused read h = absurd (among s.uri same (λ x. ⊥) (subst (AllByRecursion (λ x. ⊥)) (sym h.no_pickle) tt))
    by_reading s same before after whole OtherLanguage read h = absurd h
    by_reading s same before after whole TooLong read h = absurd h

    pickle_placed : HasPlace es p
    pickle_placed =
        let names = good.sound.references front (envelope.Pickle p) back cut in
        let source = has_source es front (envelope.Pickle p) back good.sound cut p.uri names.0 in
        by_reading source.source source.uri source.front (source.back ++ envelope.Pickle p ∷ back) source.cut (reads source.source.content) (is_read source.source.content) source.meets

  pickles_placed : AllByRecursion (HasPlace es) (pickles es)
  pickles_placed = each_found as_pickle (HasPlace es) es (λ front here back p cut is. pickle_placed front back p (cut ∙ ap (λ (x : Envelope). front ++ x ∷ back) (pickle_is here p is)))

  pass : AllPass es
  pass = plain_passes settings es (good_have_no_fault settings es good).lines

  case_there : (front back : List Envelope) (c : TestCase) → cases es ≡ cases front ++ c ∷ cases back → find_case c.id es ≡ Some c
  case_there front back c all =
      let q = λ (x : TestCase). bytes_eq c.id x.id in
      ap (find q) all ∙ only_here q (cases front) c (cases back) (subst (OnlyOne q) all (one_case es pass c.id)) (bytes_same c.id)

  found_so : {A : Type 0} (P : A → Type 0) (q : A → Bool) (xs : List A) (x : A) → AllByRecursion P xs → find q xs ≡ Some x → P x
  found_so P q [] x all e = cc
  found_so {A} P q (y ∷ ys) x all e = go (q y) refl (found_so P q ys x all.1)
    where
      go : (b : Bool) → q y ≡ b → (find q ys ≡ Some x → P x) → P x
      go true k later = let at : Some y ≡ Some x = rw k at e in let same : y ≡ x = cc in subst P same all.0
      go false k later = later (rw k at e)

  was_some : {A B : Type 0} (f : A → B) (o : Option A) (y : B) → option_map f o ≡ Some y → (x : A) × (o ≡ Some x)
  was_some f None y h = cc
  was_some f (Some x) y h = (x, refl)

  case_found : (front back : List Envelope) (c : TestCase) → es ≡ front ++ envelope.TestCase c ∷ back → HasScenario es c
  case_found front back c cut =
      let all : cases es ≡ cases front ++ c ∷ cases back = ap cases cut ∙ found_cut as_case front (envelope.TestCase c) back c refl in
      let its = was_some (λ (x : Pickle). map (λ s. s.id) x.steps) (find_pickle c.pickle_id es) _ (good.sound.cases front (envelope.TestCase c) back cut) in
      let found : pickle_of es c.id ≡ Some its.0 = ap (option_and_then (λ (x : TestCase). find_pickle x.pickle_id es)) (case_there front back c all) ∙ its.1 in
      record {
        pickle = its.0;
        is_its = found;
        place = found_so (HasPlace es) (λ (x : Pickle). bytes_eq c.pickle_id x.id) (pickles es) its.0 pickles_placed its.1;
        shown = ap (λ (o : Option Pickle). flat_map (scenario_text es) (if_any o)) found ∙ append-nil (scenario_text es its.0);
      }

  cases_found : AllByRecursion (HasScenario es) (cases es)
  cases_found = each_found as_case (HasScenario es) es (λ front here back c cut is. case_found front back c (cut ∙ ap (λ (x : Envelope). front ++ x ∷ back) (case_is here c is)))

pub scenarios_found : ScenariosAreFound
scenarios_found settings bytes counts success run =
    let in_order = read_in_order settings bytes run.judged run.read in
    (pickles_placed run.judged in_order settings run.good, cases_found run.judged in_order settings run.good)
