-- Two documents of one skeleton, whose nodes are numbered in order, have the same scenarios and rows at the same lines.
use Rattle.std.proofs.Common.{◌≡◌, ◌∙◌, ℕ, zero, suc, ◌+◌, List, [], ◌∷◌, ◌++◌, Option, Some, None, map, flat_map, refl, sym, ap, ap₂, subst, append_assoc}
use Rattle.std.specs.Prelude.{option_map}
use Rattle.std.specs.List.{range_with_len}
use Rattle.std.specs.Option.{option_map_or}
use Rattle.gk_document.specs.declared.tree.Tag.{Tag}
use Rattle.gk_document.specs.declared.tree.Row.{Row}
use Rattle.gk_document.specs.declared.tree.Argument.{Argument}
use Rattle.gk_document.specs.declared.tree.Argument.TheVariants.{Table, Text}
use Rattle.gk_document.specs.declared.tree.Step.{Step}
use Rattle.gk_document.specs.declared.tree.Background.{Background}
use Rattle.gk_document.specs.declared.tree.ExampleTable.{ExampleTable}
use Rattle.gk_document.specs.declared.tree.Examples.{Examples}
use Rattle.gk_document.specs.declared.tree.Scenario.{Scenario}
use Rattle.gk_document.specs.declared.tree.Rule.{Rule}
use Rattle.gk_document.specs.declared.tree.Feature.{Feature}
use Rattle.gk_document.specs.declared.tree.Document.{Document}
use Rattle.gk_document.specs.Skeleton.{bare_tag, bare_row, bare_argument, bare_step, bare_background, bare_table, bare_examples, bare_scenario, bare_rule, bare_feature, skeleton}
use Rattle.gk_grammar.specs.Grammar.{Node, node_of_tag, tag_nodes, node_of_row, row_nodes, argument_nodes, step_nodes, background_nodes, table_rows, examples_nodes, scenario_nodes, rule_nodes, feature_nodes}
use Rattle.cm_cases.specs.Places.{example_rows, rows_of, scenarios_of}

-- ---- numbers in order

-- the numbers of the nodes are n, n + 1, .. up to m, which isn't among them
abbrev pub CountsTo : ℕ → List Node → ℕ → Type 0
CountsTo n [] m = n ≡ m
CountsTo n (x ∷ xs) m = (x.1 ≡ n) × CountsTo (n + 1) xs m

pub split : (n m : ℕ) (xs ys : List Node) → CountsTo n (xs ++ ys) m → (k : ℕ) × CountsTo n xs k × CountsTo k ys m
split n m [] ys h = (n, refl, h)
split n m (x ∷ xs) ys h = let r = split (n + 1) m xs ys h.1 in (r.0, (h.0, r.1), r.2)

pub joined : (n k m : ℕ) (xs ys : List Node) → CountsTo n xs k → CountsTo k ys m → CountsTo n (xs ++ ys) m
joined n k m [] ys e h = subst (λ (z : ℕ). CountsTo z ys m) (sym e) h
joined n k m (x ∷ xs) ys e h = (e.0, joined (n + 1) k m xs ys e.1 h)

pub cons_parts : {A : Type 0} (x y : A) (xs ys : List A) → x ∷ xs ≡ y ∷ ys → (x ≡ y) × (xs ≡ ys)
cons_parts x y xs ys e = (cc, cc)

pub from_range : (xs : List Node) (n count : ℕ) → map (λ (x : Node). x.1) xs ≡ range_with_len n count → (m : ℕ) × CountsTo n xs m
from_range [] n count e = (n, refl)
from_range (x ∷ xs) n zero e = cc
from_range (x ∷ xs) n (suc count) e =
    let parts = cons_parts x.1 n (map (λ (y : Node). y.1) xs) (range_with_len (n + 1) count) e in
    let later = from_range xs (n + 1) count parts.1 in
    (later.0, (parts.0, later.1))

-- ---- the scenarios and rows of a document

-- the number of a scenario or of a row of examples, and its line
abbrev pub Spot : Type 0
Spot = ℕ × ℕ

abbrev pub row_spot : Row → Spot
row_spot r = (r.node, r.location.line)

abbrev pub scenario_spots : Scenario → List Spot
scenario_spots s = (s.node, s.location.line) ∷ map row_spot (rows_of s)

abbrev pub spots_of : Document → List Spot
spots_of d = flat_map scenario_spots (scenarios_of d)

abbrev tag_spot : Tag → Spot
tag_spot t = (t.node, t.location.line)

abbrev examples_spots : Examples → List Spot
examples_spots e = map row_spot (example_rows e.table)

abbrev rule_spots : Rule → List Spot
rule_spots r = flat_map scenario_spots r.scenarios

-- ---- parts of one skeleton

abbrev no_spots : {A : Type 0} → A → List Spot
no_spots a = []

module _ {A : Type 0} (bare : A → A) (nodes : A → List Node) (spots : A → List Spot) where
  -- where the numbers begin alike they end alike, and the spots are the same
  abbrev Same : A → A → Type 0
  Same a b = bare a ≡ bare b → (n m k : ℕ) → CountsTo n (nodes a) m → CountsTo n (nodes b) k → (m ≡ k) × (spots a ≡ spots b)

  each_same : ((a b : A) → Same a b) → (xs ys : List A) → map bare xs ≡ map bare ys → (n m k : ℕ) → CountsTo n (flat_map nodes xs) m → CountsTo n (flat_map nodes ys) k → (m ≡ k) × (flat_map spots xs ≡ flat_map spots ys)
  each_same one [] [] e n m k h j = (sym h ∙ j, refl)
  each_same one [] (y ∷ ys) e n m k h j = cc
  each_same one (x ∷ xs) [] e n m k h j = cc
  each_same one (x ∷ xs) (y ∷ ys) e n m k h j =
      let parts = cons_parts (bare x) (bare y) (map bare xs) (map bare ys) e in
      let a = split n m (nodes x) (flat_map nodes xs) h in
      let b = split n k (nodes y) (flat_map nodes ys) j in
      let first = one x y parts.0 n a.0 b.0 a.1 b.1 in
      let others = each_same one xs ys parts.1 b.0 m k (subst (λ (z : ℕ). CountsTo z (flat_map nodes xs) m) first.0 a.2) b.2 in
      (others.0, ap₂ (λ (p q : List Spot). p ++ q) first.1 others.1)

module _ {A : Type 0} (bare : A → A) (node : A → Node) (spot : A → Spot) (same : (a b : A) → bare a ≡ bare b → (node a).1 ≡ (node b).1 → spot a ≡ spot b) where
  singles_same : (xs ys : List A) → map bare xs ≡ map bare ys → (n m k : ℕ) → CountsTo n (map node xs) m → CountsTo n (map node ys) k → (m ≡ k) × (map spot xs ≡ map spot ys)
  singles_same [] [] e n m k h j = (sym h ∙ j, refl)
  singles_same [] (y ∷ ys) e n m k h j = cc
  singles_same (x ∷ xs) [] e n m k h j = cc
  singles_same (x ∷ xs) (y ∷ ys) e n m k h j =
      let parts = cons_parts (bare x) (bare y) (map bare xs) (map bare ys) e in
      let others = singles_same xs ys parts.1 (n + 1) m k h.1 j.1 in
      (others.0, ap₂ (λ (p : Spot) (q : List Spot). p ∷ q) (same x y parts.0 (h.0 ∙ sym j.0)) others.1)

tags_same : (xs ys : List Tag) → map bare_tag xs ≡ map bare_tag ys → (n m k : ℕ) → CountsTo n (tag_nodes xs) m → CountsTo n (tag_nodes ys) k → m ≡ k
tags_same xs ys e n m k h j =
    (singles_same bare_tag node_of_tag tag_spot (λ a b same number. ap₂ (λ (p q : ℕ). (p, q)) number (ap (λ (t : Tag). t.location.line) same)) xs ys e n m k h j).0

rows_same : (xs ys : List Row) → map bare_row xs ≡ map bare_row ys → (n m k : ℕ) → CountsTo n (row_nodes xs) m → CountsTo n (row_nodes ys) k → (m ≡ k) × (map row_spot xs ≡ map row_spot ys)
rows_same xs ys e n m k h j =
    singles_same bare_row node_of_row row_spot (λ a b same number. ap₂ (λ (p q : ℕ). (p, q)) number (ap (λ (r : Row). r.location.line) same)) xs ys e n m k h j

rows_in : Option Argument → List Row
rows_in None = []
rows_in (Some (Table rows)) = rows
rows_in (Some (Text d)) = []

argument_same : (a b : Option Argument) → option_map bare_argument a ≡ option_map bare_argument b → (n m k : ℕ) → CountsTo n (argument_nodes a) m → CountsTo n (argument_nodes b) k → m ≡ k
unfolding rows_in
argument_same None None e n m k h j = sym h ∙ j
argument_same None (Some b) e n m k h j = cc
argument_same (Some a) None e n m k h j = cc
argument_same (Some (Table xs)) (Some (Table ys)) e n m k h j = (rows_same xs ys (ap rows_in e) n m k h j).0
argument_same (Some (Table xs)) (Some (Text d)) e n m k h j = cc
argument_same (Some (Text d)) (Some (Table ys)) e n m k h j = cc
argument_same (Some (Text c)) (Some (Text d)) e n m k h j = sym h ∙ j

step_same : (a b : Step) → Same bare_step step_nodes no_spots a b
step_same a b e n m k h j = (argument_same a.argument b.argument (ap (λ (s : Step). s.argument) e) (n + 1) m k h.1 j.1, refl)

steps_same : (xs ys : List Step) → map bare_step xs ≡ map bare_step ys → (n m k : ℕ) → CountsTo n (flat_map step_nodes xs) m → CountsTo n (flat_map step_nodes ys) k → m ≡ k
steps_same xs ys e n m k h j = (each_same bare_step step_nodes no_spots step_same xs ys e n m k h j).0

steps_in : Option Background → List Step
steps_in None = []
steps_in (Some b) = b.steps

background_same : (a b : Option Background) → option_map bare_background a ≡ option_map bare_background b → (n m k : ℕ) → CountsTo n (background_nodes a) m → CountsTo n (background_nodes b) k → m ≡ k
unfolding steps_in
background_same None None e n m k h j = sym h ∙ j
background_same None (Some b) e n m k h j = cc
background_same (Some a) None e n m k h j = cc
background_same (Some a) (Some b) e n m k h j = steps_same a.steps b.steps (ap steps_in e) (n + 1) m k h.1 j.1

body_in : Option ExampleTable → List Row
body_in None = []
body_in (Some t) = t.body

table_same : (a b : Option ExampleTable) → option_map bare_table a ≡ option_map bare_table b → (n m k : ℕ) → CountsTo n (row_nodes (table_rows a)) m → CountsTo n (row_nodes (table_rows b)) k
    → (m ≡ k) × (map row_spot (example_rows a) ≡ map row_spot (example_rows b))
unfolding body_in
table_same None None e n m k h j = (sym h ∙ j, refl)
table_same None (Some b) e n m k h j = cc
table_same (Some a) None e n m k h j = cc
table_same (Some a) (Some b) e n m k h j = rows_same a.body b.body (ap body_in e) (n + 1) m k h.1 j.1

-- after the tags: the node's own number, and where what is below it begins
record BelowTags (tags more : List Tag) (x y : Node) (xs ys : List Node) (m k : ℕ) : Type 0 where
  at : ℕ
  own : x.1 ≡ y.1
  first : CountsTo at xs m
  second : CountsTo at ys k

below_tags : (tags more : List Tag) (x y : Node) (xs ys : List Node) → map bare_tag tags ≡ map bare_tag more → (n m k : ℕ) → CountsTo n (tag_nodes tags ++ x ∷ xs) m → CountsTo n (tag_nodes more ++ y ∷ ys) k
    → BelowTags tags more x y xs ys m k
below_tags tags more x y xs ys e n m k h j =
    let a = split n m (tag_nodes tags) (x ∷ xs) h in
    let b = split n k (tag_nodes more) (y ∷ ys) j in
    let same = tags_same tags more e n a.0 b.0 a.1 b.1 in
    record { at = b.0 + 1; own = a.2.0 ∙ same ∙ sym b.2.0; first = subst (λ (z : ℕ). CountsTo (z + 1) xs m) same a.2.1; second = b.2.1 }

examples_same : (a b : Examples) → Same bare_examples examples_nodes examples_spots a b
examples_same a b e n m k h j =
    let below = below_tags a.tags b.tags (a.location, a.node) (b.location, b.node) (row_nodes (table_rows a.table)) (row_nodes (table_rows b.table)) (ap (λ (x : Examples). x.tags) e) n m k h j in
    table_same a.table b.table (ap (λ (x : Examples). x.table) e) below.at m k below.first below.second

map_flat : {A B C : Type 0} (f : B → C) (g : A → List B) (xs : List A) → map f (flat_map g xs) ≡ flat_map (λ x. map f (g x)) xs
map_flat f g [] = refl
map_flat {A} {B} {C} f g (x ∷ xs) = both (g x) (flat_map g xs) ∙ ap (λ (l : List C). map f (g x) ++ l) (map_flat f g xs)
  where
    both : (ys zs : List B) → map f (ys ++ zs) ≡ map f ys ++ map f zs
    both [] zs = refl
    both (y ∷ ys) zs = ap (λ (l : List C). f y ∷ l) (both ys zs)

row_spots : (s : Scenario) → map row_spot (rows_of s) ≡ flat_map examples_spots s.examples
row_spots s = map_flat row_spot (λ (x : Examples). example_rows x.table) s.examples

spots_begin : (a b : Scenario) → a.node ≡ b.node → a.location.line ≡ b.location.line → map row_spot (rows_of a) ≡ map row_spot (rows_of b) → scenario_spots a ≡ scenario_spots b
spots_begin a b own line rows = λ i. (own i, line i) ∷ rows i

scenario_same : (a b : Scenario) → Same bare_scenario scenario_nodes scenario_spots a b
scenario_same a b e n m k h j =
    let below = below_tags a.tags b.tags (a.location, a.node) (b.location, b.node) (flat_map step_nodes a.steps ++ flat_map examples_nodes a.examples) (flat_map step_nodes b.steps ++ flat_map examples_nodes b.examples)
    (ap (λ (x : Scenario). x.tags) e) n m k h j in
    let first = split below.at m (flat_map step_nodes a.steps) (flat_map examples_nodes a.examples) below.first in
    let second = split below.at k (flat_map step_nodes b.steps) (flat_map examples_nodes b.examples) below.second in
    let steps = steps_same a.steps b.steps (ap (λ (x : Scenario). x.steps) e) below.at first.0 second.0 first.1 second.1 in
    let blocks = each_same bare_examples examples_nodes examples_spots examples_same a.examples b.examples (ap (λ (x : Scenario). x.examples) e) second.0 m k
    (subst (λ (z : ℕ). CountsTo z (flat_map examples_nodes a.examples) m) steps first.2) second.2 in
    let rows = row_spots a ∙ blocks.1 ∙ sym (row_spots b) in
    (blocks.0, spots_begin a b below.own (ap (λ (x : Scenario). x.location.line) e) rows)

scenarios_same : (xs ys : List Scenario) → map bare_scenario xs ≡ map bare_scenario ys → (n m k : ℕ) → CountsTo n (flat_map scenario_nodes xs) m → CountsTo n (flat_map scenario_nodes ys) k
    → (m ≡ k) × (flat_map scenario_spots xs ≡ flat_map scenario_spots ys)
scenarios_same xs ys e n m k h j = each_same bare_scenario scenario_nodes scenario_spots scenario_same xs ys e n m k h j

rule_same : (a b : Rule) → Same bare_rule rule_nodes rule_spots a b
rule_same a b e n m k h j =
    let below = below_tags a.tags b.tags (a.location, a.node) (b.location, b.node) (background_nodes a.background ++ flat_map scenario_nodes a.scenarios) (background_nodes b.background ++ flat_map scenario_nodes b.scenarios)
    (ap (λ (x : Rule). x.tags) e) n m k h j in
    let first = split below.at m (background_nodes a.background) (flat_map scenario_nodes a.scenarios) below.first in
    let second = split below.at k (background_nodes b.background) (flat_map scenario_nodes b.scenarios) below.second in
    let steps = background_same a.background b.background (ap (λ (x : Rule). x.background) e) below.at first.0 second.0 first.1 second.1 in
    scenarios_same a.scenarios b.scenarios (ap (λ (x : Rule). x.scenarios) e) second.0 m k (subst (λ (z : ℕ). CountsTo z (flat_map scenario_nodes a.scenarios) m) steps first.2) second.2

-- ---- features

abbrev feature_spots : Feature → List Spot
feature_spots f = flat_map scenario_spots f.scenarios ++ flat_map rule_spots f.rules

tags_in : Option Feature → List Tag
tags_in None = []
tags_in (Some f) = f.tags

background_in : Option Feature → Option Background
background_in None = None
background_in (Some f) = f.background

scenarios_in : Option Feature → List Scenario
scenarios_in None = []
scenarios_in (Some f) = f.scenarios

rules_in : Option Feature → List Rule
rules_in None = []
rules_in (Some f) = f.rules

feature_same : (a b : Feature) → Some (bare_feature a) ≡ Some (bare_feature b) → (n m k : ℕ) → CountsTo n (feature_nodes (Some a)) m → CountsTo n (feature_nodes (Some b)) k → feature_spots a ≡ feature_spots b
unfolding tags_in background_in scenarios_in rules_in
feature_same a b e n m k h j =
    let rest_a = flat_map scenario_nodes a.scenarios ++ flat_map rule_nodes a.rules in
    let rest_b = flat_map scenario_nodes b.scenarios ++ flat_map rule_nodes b.rules in
    let tags_a = split n m (tag_nodes a.tags) (background_nodes a.background ++ rest_a) h in
    let tags_b = split n k (tag_nodes b.tags) (background_nodes b.background ++ rest_b) j in
    let tags = tags_same a.tags b.tags (ap tags_in e) n tags_a.0 tags_b.0 tags_a.1 tags_b.1 in
    let first_a = split tags_b.0 m (background_nodes a.background) rest_a (subst (λ (z : ℕ). CountsTo z (background_nodes a.background ++ rest_a) m) tags tags_a.2) in
    let first_b = split tags_b.0 k (background_nodes b.background) rest_b tags_b.2 in
    let first = background_same a.background b.background (ap background_in e) tags_b.0 first_a.0 first_b.0 first_a.1 first_b.1 in
    let parts_a = split first_b.0 m (flat_map scenario_nodes a.scenarios) (flat_map rule_nodes a.rules) (subst (λ (z : ℕ). CountsTo z rest_a m) first first_a.2) in
    let parts_b = split first_b.0 k (flat_map scenario_nodes b.scenarios) (flat_map rule_nodes b.rules) first_b.2 in
    let own = scenarios_same a.scenarios b.scenarios (ap scenarios_in e) first_b.0 parts_a.0 parts_b.0 parts_a.1 parts_b.1 in
    let below = each_same bare_rule rule_nodes rule_spots rule_same a.rules b.rules (ap rules_in e) parts_b.0 m k (subst (λ (z : ℕ). CountsTo z (flat_map rule_nodes a.rules) m) own.0 parts_a.2) parts_b.2 in
    ap₂ (λ (p q : List Spot). p ++ q) own.1 below.1

flat_both : {A B : Type 0} (f : A → List B) (xs ys : List A) → flat_map f (xs ++ ys) ≡ flat_map f xs ++ flat_map f ys
flat_both f [] ys = refl
flat_both {A} {B} f (x ∷ xs) ys = ap (λ (l : List B). f x ++ l) (flat_both f xs ys) ∙ sym (append_assoc (f x) (flat_map f xs) (flat_map f ys))

flat_twice : {A B C : Type 0} (f : B → List C) (g : A → List B) (xs : List A) → flat_map f (flat_map g xs) ≡ flat_map (λ x. flat_map f (g x)) xs
flat_twice f g [] = refl
flat_twice {A} {B} {C} f g (x ∷ xs) = flat_both f (g x) (flat_map g xs) ∙ ap (λ (l : List C). flat_map f (g x) ++ l) (flat_twice f g xs)

pub spots_in : (f : Feature) → flat_map scenario_spots (f.scenarios ++ flat_map (λ (r : Rule). r.scenarios) f.rules) ≡ flat_map scenario_spots f.scenarios ++ flat_map (λ (r : Rule). flat_map scenario_spots r.scenarios) f.rules
spots_in f = flat_both scenario_spots f.scenarios _ ∙ ap (λ (l : List Spot). flat_map scenario_spots f.scenarios ++ l) (flat_twice scenario_spots (λ (r : Rule). r.scenarios) f.rules)

-- the spots of a document, by its feature
abbrev spots_from : Option Feature → List Spot
spots_from o = flat_map scenario_spots (option_map_or (λ (f : Feature). f.scenarios ++ flat_map (λ (r : Rule). r.scenarios) f.rules) o [])

features_same : (a b : Option Feature) → option_map bare_feature a ≡ option_map bare_feature b → (n m k : ℕ) → CountsTo n (feature_nodes a) m → CountsTo n (feature_nodes b) k → spots_from a ≡ spots_from b
features_same None None e n m k h j = refl
features_same None (Some b) e n m k h j = cc
features_same (Some a) None e n m k h j = cc
features_same (Some a) (Some b) e n m k h j = spots_in a ∙ feature_same a b e n m k h j ∙ sym (spots_in b)

pub same_spots : (a b : Document) → skeleton a ≡ skeleton b → (m k : ℕ) → CountsTo 0 (feature_nodes a.feature) m → CountsTo 0 (feature_nodes b.feature) k → spots_of a ≡ spots_of b
same_spots a b e m k h j = features_same a.feature b.feature (ap (λ (d : Document). d.feature) e) 0 m k h j
