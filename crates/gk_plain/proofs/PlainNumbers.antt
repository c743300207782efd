-- A feature with other node numbers has the same lines, and some numbers are right.
use Rattle.std.proofs.Common.{◌≡◌, ◌↔◌, ◌⊎◌, inl, inr, ℕ, ◌+◌, Bool, true, false, cond, List, [], ◌∷◌, ◌++◌, map, Option, Some, None, Ok, Err, length, count_by, refl, sym, ap, subst, ◌∙◌}
use Rattle.std.proofs.lemmas.List.{map-append}
use Rattle.std.proofs.lemmas.List.Sums.{sum_by-cons}
use Rattle.std.specs.Prelude.{IsTrue}
use Rattle.std.specs.Option.{option_map}
use Rattle.std.specs.List.{AllByRecursion, flat_map}
use Rattle.gk_grammar.specs.Token.{Utf8, Tags, Step, Row, Line, line}
use Rattle.gk_grammar.specs.Tree as tree
use Rattle.gk_grammar.specs.Tree.{Location, Tag, Argument, Background, ExampleTable, Examples, Scenario, Rule, Feature}
use Rattle.gk_document.specs.declared.tree.Argument.TheVariants.{Table, Text as Quoted}
use Rattle.gk_grammar.specs.Grammar.{Piece, Each, AtMostOne, OneLine, place_and_name, IsTagLine, TagLines, IsRow, IsTable, IsArgument, IsStepLine, IsStep, IsBackground, IsExampleTable, IsExamples, IsScenario, IsRule, IsFeature, IsFeatureText, english, Node, tag_nodes, row_nodes, argument_nodes, step_nodes, background_nodes, table_rows, examples_nodes, scenario_nodes, rule_nodes, feature_nodes, stands_before, AreNumbered}
use Rattle.gk_grammar.specs.Place.{IsText}
use Rattle.gk_grammar.proofs.Trees.{both}
use Rattle.gk_plain.specs.declared.plain.Part.TheVariants as part
use Rattle.gk_plain.specs.Plain.{Is}

-- ---- other numbers

abbrev Numbers : Type 0
Numbers = Location → ℕ

abbrev tag_by : Numbers → Tag → Tag
tag_by g t = record t { node = g t.location }

abbrev row_by : Numbers → tree.Row → tree.Row
row_by g r = record r { node = g r.location }

abbrev argument_by : Numbers → Argument → Argument
argument_by g (Table rows) = Table (map (row_by g) rows)
argument_by g (Quoted d) = Quoted d

abbrev step_by : Numbers → tree.Step → tree.Step
step_by g s = record s { node = g s.location; argument = option_map (argument_by g) s.argument }

abbrev background_by : Numbers → Background → Background
background_by g b = record b { node = g b.location; steps = map (step_by g) b.steps }

abbrev table_by : Numbers → ExampleTable → ExampleTable
table_by g t = record { header = row_by g t.header; body = map (row_by g) t.body }

abbrev examples_by : Numbers → Examples → Examples
examples_by g e = record e { node = g e.location; tags = map (tag_by g) e.tags; table = option_map (table_by g) e.table }

abbrev scenario_by : Numbers → Scenario → Scenario
scenario_by g s = record s { node = g s.location; tags = map (tag_by g) s.tags; steps = map (step_by g) s.steps; examples = map (examples_by g) s.examples }

abbrev rule_by : Numbers → Rule → Rule
rule_by g r = record r { node = g r.location; tags = map (tag_by g) r.tags; background = option_map (background_by g) r.background; scenarios = map (scenario_by g) r.scenarios }

abbrev feature_by : Numbers → Feature → Feature
feature_by g f = record f { language = english; tags = map (tag_by g) f.tags; background = option_map (background_by g) f.background; scenarios = map (scenario_by g) f.scenarios; rules = map (rule_by g) f.rules }

-- ---- the same lines

each_by : {A : Type 0} (P : A → Piece) (h : A → A) → ((x : A) (ls : List Line) (cs : List tree.Comment) → P x ls cs → P (h x) ls cs) → (xs : List A) (ls : List Line) (cs : List tree.Comment) → Each P xs ls cs → Each P (map h xs) ls cs
each_by P h f [] ls cs t = t
each_by P h f (x ∷ xs) ls cs t = record {
  front = t.front;
  back = t.back;
  front_comments = t.front_comments;
  back_comments = t.back_comments;
  cut = t.cut;
  comments = t.comments;
  first = f x t.front t.front_comments t.first;
  second = each_by P h f xs t.back t.back_comments t.second;
}

optional_by : {A : Type 0} (P : A → Piece) (h : A → A) → ((x : A) (ls : List Line) (cs : List tree.Comment) → P x ls cs → P (h x) ls cs) → (o : Option A) (ls : List Line) (cs : List tree.Comment) → AtMostOne P o ls cs → AtMostOne P (option_map h o) ls cs
optional_by P h f None ls cs t = t
optional_by P h f (Some x) ls cs t = f x ls cs t

names_by : (g : Numbers) (tags : List Tag) → map place_and_name (map (tag_by g) tags) ≡ map place_and_name tags
names_by g [] = refl
names_by g (t ∷ ts) = ap (λ (z : List (Location × Utf8)). place_and_name t ∷ z) (names_by g ts)

tag_line_by : (g : Numbers) (tags : List Tag) (ls : List Line) (cs : List tree.Comment) → OneLine (IsTagLine tags) ls cs → OneLine (IsTagLine (map (tag_by g) tags)) ls cs
tag_line_by g tags [] cs h = h
tag_line_by g tags (line n t i (Tags (Ok ws)) ∷ gap) cs h = (names_by g tags ∙ h.0, h.1)
tag_line_by g tags (line n t i (Tags (Err c)) ∷ gap) cs h = absurd h.0
tag_line_by g tags (line n t i _ ∷ gap) cs h = absurd h.0

flat_by : (h : Tag → Tag) (xs : List (List Tag)) → map h (flat_map (λ (ts : List Tag). ts) xs) ≡ flat_map (λ (ts : List Tag). ts) (map (λ (ts : List Tag). map h ts) xs)
flat_by h [] = refl
flat_by h (x ∷ xs) = map-append h x (flat_map (λ (ts : List Tag). ts) xs) ∙ ap (λ (z : List Tag). map h x ++ z) (flat_by h xs)

tag_lines_by : (g : Numbers) (tags : List Tag) (ls : List Line) (cs : List tree.Comment) → TagLines tags ls cs → TagLines (map (tag_by g) tags) ls cs
tag_lines_by g tags ls cs t = (
  map (λ (ts : List Tag). map (tag_by g) ts) t.0,
  ap (λ (z : List Tag). map (tag_by g) z) t.1 ∙ flat_by (tag_by g) t.0,
  each_by (λ (ts : List Tag). OneLine (IsTagLine ts)) (λ (ts : List Tag). map (tag_by g) ts) (λ ts us ds h. tag_line_by g ts us ds h) t.0 ls cs t.2,
)

row_line_by : (g : Numbers) (r : tree.Row) (ls : List Line) (cs : List tree.Comment) → OneLine (IsRow r) ls cs → OneLine (IsRow (row_by g r)) ls cs
row_line_by g r [] cs h = h
row_line_by g r (line n t i (Row cells) ∷ gap) cs h = h
row_line_by g r (line n t i _ ∷ gap) cs h = absurd h.0

counts_by : (g : Numbers) (n : ℕ) (rs : List tree.Row) → AllByRecursion (λ (x : tree.Row). length x.cells ≡ n) rs → AllByRecursion (λ (x : tree.Row). length x.cells ≡ n) (map (row_by g) rs)
counts_by g n [] h = h
counts_by g n (r ∷ rs) h = (h.0, counts_by g n rs h.1)

rows_by : (g : Numbers) (rows : List tree.Row) (ls : List Line) (cs : List tree.Comment) → IsTable rows ls cs → IsTable (map (row_by g) rows) ls cs
rows_by g [] ls cs t = t
rows_by g (r ∷ rs) ls cs t = (counts_by g (length r.cells) rs t.0, each_by (λ (x : tree.Row). OneLine (IsRow x)) (row_by g) (row_line_by g) (r ∷ rs) ls cs t.1)

argument_lines_by : (g : Numbers) (a : Argument) (ls : List Line) (cs : List tree.Comment) → IsArgument a ls cs → IsArgument (argument_by g a) ls cs
argument_lines_by g (Table rows) ls cs t = rows_by g rows ls cs t
argument_lines_by g (Quoted d) ls cs t = t

step_line_by : (g : Numbers) (s : tree.Step) (ls : List Line) (cs : List tree.Comment) → OneLine (IsStepLine s) ls cs → OneLine (IsStepLine (step_by g s)) ls cs
step_line_by g s [] cs h = h
step_line_by g s (line n t i (Step k y m) ∷ gap) cs h = h
step_line_by g s (line n t i _ ∷ gap) cs h = absurd h.0

step_lines_by : (g : Numbers) (s : tree.Step) (ls : List Line) (cs : List tree.Comment) → IsStep s ls cs → IsStep (step_by g s) ls cs
step_lines_by g s = both _ _ _ _ (step_line_by g s) (optional_by IsArgument (argument_by g) (argument_lines_by g) s.argument)

steps_lines_by : (g : Numbers) (steps : List tree.Step) (ls : List Line) (cs : List tree.Comment) → Each IsStep steps ls cs → Each IsStep (map (step_by g) steps) ls cs
steps_lines_by g = each_by IsStep (step_by g) (step_lines_by g)

background_lines_by : (g : Numbers) (b : Background) (ls : List Line) (cs : List tree.Comment) → IsBackground b ls cs → IsBackground (background_by g b) ls cs
background_lines_by g b = both _ _ _ _ (λ us ds h. h) (steps_lines_by g b.steps)

table_lines_by : (g : Numbers) (t : ExampleTable) (ls : List Line) (cs : List tree.Comment) → IsExampleTable t ls cs → IsExampleTable (table_by g t) ls cs
table_lines_by g t ls cs h = rows_by g (t.header ∷ t.body) ls cs h

examples_lines_by : (g : Numbers) (e : Examples) (ls : List Line) (cs : List tree.Comment) → IsExamples e ls cs → IsExamples (examples_by g e) ls cs
examples_lines_by g e = both _ _ _ _ (tag_lines_by g e.tags) (both _ _ _ _ (λ us ds h. h) (optional_by IsExampleTable (table_by g) (table_lines_by g) e.table))

scenario_lines_by : (g : Numbers) (s : Scenario) (ls : List Line) (cs : List tree.Comment) → IsScenario s ls cs → IsScenario (scenario_by g s) ls cs
scenario_lines_by g s = both _ _ _ _ (tag_lines_by g s.tags) (both _ _ _ _ (λ us ds h. h) (both _ _ _ _ (steps_lines_by g s.steps) (each_by IsExamples (examples_by g) (examples_lines_by g) s.examples)))

rule_lines_by : (g : Numbers) (r : Rule) (ls : List Line) (cs : List tree.Comment) → IsRule r ls cs → IsRule (rule_by g r) ls cs
rule_lines_by g r = both _ _ _ _ (tag_lines_by g r.tags) (both _ _ _ _ (λ us ds h. h) (both _ _ _ _ (optional_by IsBackground (background_by g) (background_lines_by g) r.background) (each_by IsScenario (scenario_by g) (scenario_lines_by g) r.scenarios)))

feature_lines_by : (g : Numbers) (f : Feature) (ls : List Line) (cs : List tree.Comment) → IsFeature f ls cs → IsFeature (feature_by g f) ls cs
feature_lines_by g f = both _ _ _ _ (tag_lines_by g f.tags) (both _ _ _ _ (λ us ds h. h) (both _ _ _ _ (optional_by IsBackground (background_by g) (background_lines_by g) f.background) (both _ _ _ _ (each_by IsScenario (scenario_by g) (scenario_lines_by g) f.scenarios) (each_by IsRule (rule_by g) (rule_lines_by g) f.rules))))

-- ---- the same places

abbrev node_by : Numbers → Node → Node
node_by g x = (x.0, g x.0)

joined_by : (g : Numbers) (us vs xs ys : List Node) → us ≡ map (node_by g) xs → vs ≡ map (node_by g) ys → us ++ vs ≡ map (node_by g) (xs ++ ys)
joined_by g us vs xs ys e f = ap (λ (z : List Node). z ++ vs) e ∙ ap (λ (z : List Node). map (node_by g) xs ++ z) f ∙ sym (map-append (node_by g) xs ys)

flat_nodes_by : {A : Type 0} (f : A → List Node) (h : A → A) (g : Numbers) → ((x : A) → f (h x) ≡ map (node_by g) (f x)) → (xs : List A) → flat_map f (map h xs) ≡ map (node_by g) (flat_map f xs)
flat_nodes_by f h g e [] = refl
flat_nodes_by f h g e (x ∷ xs) = joined_by g (f (h x)) (flat_map f (map h xs)) (f x) (flat_map f xs) (e x) (flat_nodes_by f h g e xs)

tag_nodes_by : (g : Numbers) (tags : List Tag) → tag_nodes (map (tag_by g) tags) ≡ map (node_by g) (tag_nodes tags)
tag_nodes_by g [] = refl
tag_nodes_by g (t ∷ ts) = ap (λ (z : List Node). (t.location, g t.location) ∷ z) (tag_nodes_by g ts)

row_nodes_by : (g : Numbers) (rows : List tree.Row) → row_nodes (map (row_by g) rows) ≡ map (node_by g) (row_nodes rows)
row_nodes_by g [] = refl
row_nodes_by g (r ∷ rs) = ap (λ (z : List Node). (r.location, g r.location) ∷ z) (row_nodes_by g rs)

argument_nodes_by : (g : Numbers) (o : Option Argument) → argument_nodes (option_map (argument_by g) o) ≡ map (node_by g) (argument_nodes o)
argument_nodes_by g None = refl
argument_nodes_by g (Some (Table rows)) = row_nodes_by g rows
argument_nodes_by g (Some (Quoted d)) = refl

step_nodes_by : (g : Numbers) (s : tree.Step) → step_nodes (step_by g s) ≡ map (node_by g) (step_nodes s)
step_nodes_by g s = ap (λ (z : List Node). (s.location, g s.location) ∷ z) (argument_nodes_by g s.argument)

background_nodes_by : (g : Numbers) (o : Option Background) → background_nodes (option_map (background_by g) o) ≡ map (node_by g) (background_nodes o)
background_nodes_by g None = refl
background_nodes_by g (Some b) = ap (λ (z : List Node). (b.location, g b.location) ∷ z) (flat_nodes_by step_nodes (step_by g) g (step_nodes_by g) b.steps)

table_nodes_by : (g : Numbers) (o : Option ExampleTable) → row_nodes (table_rows (option_map (table_by g) o)) ≡ map (node_by g) (row_nodes (table_rows o))
table_nodes_by g None = refl
table_nodes_by g (Some t) = row_nodes_by g (t.header ∷ t.body)

examples_nodes_by : (g : Numbers) (e : Examples) → examples_nodes (examples_by g e) ≡ map (node_by g) (examples_nodes e)
examples_nodes_by g e = joined_by g _ _ _ _ (tag_nodes_by g e.tags) (ap (λ (z : List Node). (e.location, g e.location) ∷ z) (table_nodes_by g e.table))

scenario_nodes_by : (g : Numbers) (s : Scenario) → scenario_nodes (scenario_by g s) ≡ map (node_by g) (scenario_nodes s)
scenario_nodes_by g s = joined_by g _ _ _ _ (tag_nodes_by g s.tags) (ap (λ (z : List Node). (s.location, g s.location) ∷ z) (joined_by g _ _ _ _ (flat_nodes_by step_nodes (step_by g) g (step_nodes_by g) s.steps) (flat_nodes_by examples_nodes (examples_by g) g (examples_nodes_by g) s.examples)))

rule_nodes_by : (g : Numbers) (r : Rule) → rule_nodes (rule_by g r) ≡ map (node_by g) (rule_nodes r)
rule_nodes_by g r = joined_by g _ _ _ _ (tag_nodes_by g r.tags) (ap (λ (z : List Node). (r.location, g r.location) ∷ z) (joined_by g _ _ _ _ (background_nodes_by g r.background) (flat_nodes_by scenario_nodes (scenario_by g) g (scenario_nodes_by g) r.scenarios)))

feature_nodes_by : (g : Numbers) (f : Feature) → feature_nodes (Some (feature_by g f)) ≡ map (node_by g) (feature_nodes (Some f))
feature_nodes_by g f = joined_by g _ _ _ _ (tag_nodes_by g f.tags) (joined_by g _ _ _ _ (background_nodes_by g f.background) (joined_by g _ _ _ _ (flat_nodes_by scenario_nodes (scenario_by g) g (scenario_nodes_by g) f.scenarios) (flat_nodes_by rule_nodes (rule_by g) g (rule_nodes_by g) f.rules)))

-- ---- the right numbers

-- how many nodes are before a place
abbrev count_before : List Node → Location → ℕ
count_before nodes p = count_by (λ (y : Node). stands_before y.0 p) nodes

count_by_same : (g : Numbers) (nodes : List Node) (p : Location) → count_before (map (node_by g) nodes) p ≡ count_before nodes p
count_by_same g [] p = refl
count_by_same g (x ∷ xs) p =
    sum_by-cons (λ (y : Node). cond (stands_before y.0 p) 1 0) (node_by g x) (map (node_by g) xs)
    ∙ ap (λ (n : ℕ). cond (stands_before x.0 p) 1 0 + n) (count_by_same g xs p)
    ∙ sym (sum_by-cons (λ (y : Node). cond (stands_before y.0 p) 1 0) x xs)

all_numbered : (all xs : List Node) → AllByRecursion (λ (x : Node). x.1 ≡ count_before (map (node_by (count_before all)) all) x.0) (map (node_by (count_before all)) xs)
all_numbered all [] = tt
all_numbered all (x ∷ xs) = (sym (count_by_same (count_before all) all x.0), all_numbered all xs)

-- a feature after its opening makes a text
with_numbers : (f : Feature) (ls : List Line) (cs : List tree.Comment) → IsFeatureText (Some (record f { language = english })) ls cs → IsText ls
with_numbers f ls cs t =
    let g : Numbers = count_before (feature_nodes (Some f)) in (
      record { feature = Some (feature_by g f); comments = cs; nodes = length (feature_nodes (Some (feature_by g f))) },
      record {
        text = (refl, both _ _ _ _ (λ us ds h. h) (feature_lines_by g f) ls cs t.1);
        numbers = subst AreNumbered (sym (feature_nodes_by g f)) (all_numbered (feature_nodes (Some f)) (feature_nodes (Some f)));
        count = refl;
      },
    )

-- a text is comments and blank lines, or a feature after its opening
pub text_parts : (ls : List Line) → IsText ls ↔ (Is part.PlainGap ls ⊎ Is part.FeatureText ls)
text_parts ls = (λ h. there h.0.feature h.0.comments h.1.text, here)
  where
    there : (o : Option Feature) (cs : List tree.Comment) → IsFeatureText o ls cs → Is part.PlainGap ls ⊎ Is part.FeatureText ls
    there None cs t = inl (tt, cs, t)
    there (Some f) cs t = inr (f, cs, t.1)

    here : Is part.PlainGap ls ⊎ Is part.FeatureText ls → IsText ls
    here (inl h) = (record { feature = None; comments = h.1; nodes = 0 }, record { text = h.2; numbers = tt; count = refl })
    here (inr h) = with_numbers h.0 ls h.1 (refl, h.2)

-- and so the plain program finds it
pub tells_text : (ls : List Line) (gap feature : Bool) → (IsTrue gap ↔ Is part.PlainGap ls) → (IsTrue feature ↔ Is part.FeatureText ls) → gap ≡ false → (IsTrue feature ↔ IsText ls)
tells_text ls gap feature h k e = (λ i. (text_parts ls).1 (inr (k.0 i)), λ i. go ((text_parts ls).0 i))
  where
    go : Is part.PlainGap ls ⊎ Is part.FeatureText ls → feature ≡ true
    go (inl i) = absurd (let f = h.1 i in cc)
    go (inr i) = k.1 i
