-- What is kept of the document of a text has the document's skeleton.
use Rattle.std.proofs.Common.{◌≡◌, List, [], ◌∷◌, map, Option, Some, None, refl, sym, ap, ◌∙◌}
use Rattle.std.specs.Prelude.{option_map, option_and_then}
use Rattle.std.specs.List.{AllByRecursion}
use Rattle.gk_document.specs.declared.tree.Cell.{Cell}
use Rattle.gk_document.specs.declared.tree.Argument.TheVariants.{Table, Text as Quoted}
use Rattle.gk_document.specs.Skeleton.{bare_tag, bare_cell, bare_row, bare_doc_string, bare_argument, bare_step, bare_background, bare_table, bare_examples, bare_scenario, bare_rule, bare_feature}
use Rattle.gk_document.specs.MediaType.{unless_empty as media_of}
use Rattle.gk_grammar.specs.Token.{Utf8, Fenced, Line, line}
use Rattle.gk_grammar.specs.Tree as tree
use Rattle.gk_grammar.specs.Tree.{Tag, DocString, Argument, Background, ExampleTable, Examples, Scenario, Rule, Feature}
use Rattle.gk_grammar.specs.Grammar.{Piece, Each, AtMostOne, IsDocString, IsArgument, IsStep, IsBackground, IsScenario, IsRule, IsFeature, IsFeatureText}
use Rattle.gk_grammar.specs.Documents.{lines_read}
use Rattle.gk_document.specs.MediaType.{unless_empty as media_type}
use Rattle.cm_read_back.specs.Documents.{tag_kept, row_kept, doc_string_kept, argument_kept, step_kept, background_kept, table_kept, examples_kept, scenario_kept, rule_kept, feature_kept}
use Rattle.cm_read_back.specs.Laws.{ParsedHaveSkeletons}

-- the two steps do what the second does alone
maps_same : {A B : Type 0} (f : A → A) (g : A → B) (xs : List A) → AllByRecursion (λ x. g (f x) ≡ g x) xs → map g (map f xs) ≡ map g xs
maps_same f g [] h = refl
maps_same f g (x ∷ xs) h = let first = h.0 in let others = maps_same f g xs h.1 in λ i. first i ∷ others i

always : {A : Type 0} (P : A → Type 0) → ((x : A) → P x) → (xs : List A) → AllByRecursion P xs
always P one [] = tt
always P one (x ∷ xs) = (one x, always P one xs)

tags_same : (ts : List Tag) → map bare_tag (map tag_kept ts) ≡ map bare_tag ts
tags_same ts = maps_same tag_kept bare_tag ts (always (λ t. bare_tag (tag_kept t) ≡ bare_tag t) (λ t. refl) ts)

row_same : (r : tree.Row) → bare_row (row_kept r) ≡ bare_row r
row_same r = let cells = maps_same bare_cell bare_cell r.cells (always (λ (c : Cell). bare_cell (bare_cell c) ≡ bare_cell c) (λ c. refl) r.cells) in λ i. record (bare_row r) { cells = cells i }

rows_same : (rs : List tree.Row) → map bare_row (map row_kept rs) ≡ map bare_row rs
rows_same rs = maps_same row_kept bare_row rs (always (λ r. bare_row (row_kept r) ≡ bare_row r) row_same rs)

-- ---- doc strings: the grammar's media types aren't empty

media_same : (media : Utf8) → option_and_then media_type (media_of media) ≡ media_of media
media_same [] = refl
media_same (c ∷ cs) = refl

-- what is of a piece has what is in X
abbrev Gives : Piece → Type 0 → Type 0
Gives P X = (ls : List Line) (cs : List tree.Comment) → P ls cs → X

gives_each : {A : Type 0} (P : A → Piece) (X : A → Type 0) → ((x : A) → Gives (P x) (X x)) → (xs : List A) → Gives (Each P xs) (AllByRecursion X xs)
gives_each P X one [] ls cs t = tt
gives_each P X one (x ∷ xs) ls cs t = (one x t.front t.front_comments t.first, gives_each P X one xs t.back t.back_comments t.second)

doc_string_same : (d : DocString) → Gives (IsDocString d) (bare_doc_string (doc_string_kept d) ≡ bare_doc_string d)
doc_string_same d [] cs t = absurd t
doc_string_same d (line n u i (Fenced f media) ∷ ls) cs t =
    let e : option_and_then media_type d.media ≡ d.media = ap (option_and_then media_type) t.2 ∙ media_same media ∙ sym t.2 in
    λ j. record (bare_doc_string d) { media = e j }
doc_string_same d (line n u i _ ∷ ls) cs t = absurd t

argument_same : (a : Option Argument) → Gives (AtMostOne IsArgument a) (option_map bare_argument (option_map argument_kept a) ≡ option_map bare_argument a)
argument_same None ls cs t = refl
argument_same (Some (Table rows)) ls cs t = let e = rows_same rows in λ i. Some (Table (e i))
argument_same (Some (Quoted d)) ls cs t = let e = doc_string_same d ls cs t in λ i. Some (Quoted (e i))

step_same : (s : tree.Step) → Gives (IsStep s) (bare_step (step_kept s) ≡ bare_step s)
step_same s ls cs t = let e = argument_same s.argument t.back t.back_comments t.second in λ i. record (bare_step s) { argument = e i }

steps_same : (ss : List tree.Step) → Gives (Each IsStep ss) (map bare_step (map step_kept ss) ≡ map bare_step ss)
steps_same ss ls cs t = maps_same step_kept bare_step ss (gives_each IsStep (λ s. bare_step (step_kept s) ≡ bare_step s) step_same ss ls cs t)

-- ---- blocks

background_same : (b : Option Background) → Gives (AtMostOne IsBackground b) (option_map bare_background (option_map background_kept b) ≡ option_map bare_background b)
background_same None ls cs t = refl
background_same (Some b) ls cs t = let e = steps_same b.steps t.back t.back_comments t.second in λ i. Some (record (bare_background b) { steps = e i })

table_same : (t : Option ExampleTable) → option_map bare_table (option_map table_kept t) ≡ option_map bare_table t
table_same None = refl
table_same (Some t) = let header = row_same t.header in let body = rows_same t.body in λ i. Some (record { header = header i; body = body i })

examples_same : (e : Examples) → bare_examples (examples_kept e) ≡ bare_examples e
examples_same e = let tags = tags_same e.tags in let table = table_same e.table in λ i. record (bare_examples e) { tags = tags i; table = table i }

scenario_same : (s : Scenario) → Gives (IsScenario s) (bare_scenario (scenario_kept s) ≡ bare_scenario s)
scenario_same s ls cs t =
    let below = t.second.second in
    let tags = tags_same s.tags in
    let steps = steps_same s.steps below.front below.front_comments below.first in
    let examples = maps_same examples_kept bare_examples s.examples (always (λ e. bare_examples (examples_kept e) ≡ bare_examples e) examples_same s.examples) in
    λ i. record (bare_scenario s) { tags = tags i; steps = steps i; examples = examples i }

scenarios_same : (ss : List Scenario) → Gives (Each IsScenario ss) (map bare_scenario (map scenario_kept ss) ≡ map bare_scenario ss)
scenarios_same ss ls cs t = maps_same scenario_kept bare_scenario ss (gives_each IsScenario (λ s. bare_scenario (scenario_kept s) ≡ bare_scenario s) scenario_same ss ls cs t)

rule_same : (r : Rule) → Gives (IsRule r) (bare_rule (rule_kept r) ≡ bare_rule r)
rule_same r ls cs t =
    let below = t.second.second in
    let tags = tags_same r.tags in
    let first = background_same r.background below.front below.front_comments below.first in
    let scenarios = scenarios_same r.scenarios below.back below.back_comments below.second in
    λ i. record (bare_rule r) { tags = tags i; background = first i; scenarios = scenarios i }

feature_same : (f : Feature) → Gives (IsFeature f) (bare_feature (feature_kept f) ≡ bare_feature f)
feature_same f ls cs t =
    let below = t.second.second in
    let parts = below.second in
    let tags = tags_same f.tags in
    let first = background_same f.background below.front below.front_comments below.first in
    let scenarios = scenarios_same f.scenarios parts.front parts.front_comments parts.first in
    let rules = maps_same rule_kept bare_rule f.rules (gives_each IsRule (λ r. bare_rule (rule_kept r) ≡ bare_rule r) rule_same f.rules parts.back parts.back_comments parts.second) in
    λ i. record (bare_feature f) { tags = tags i; background = first i; scenarios = scenarios i; rules = rules i }

text_same : (f : Option Feature) → Gives (IsFeatureText f) (option_map bare_feature (option_map feature_kept f) ≡ option_map bare_feature f)
text_same None ls cs t = refl
text_same (Some f) ls cs t = let e = feature_same f t.1.back t.1.back_comments t.1.second in λ i. Some (e i)

pub skeletons_same : ParsedHaveSkeletons
skeletons_same text d is = let e = text_same d.feature (lines_read text) d.comments is.text in λ i. record { feature = e i; comments = []; nodes = 0 }
