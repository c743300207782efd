-- The nodes of a text are at places of its lines, in order.
use Rattle.std.proofs.Common.{◌≡◌, ℕ, ◌+◌, ◌≤◌, List, [], ◌∷◌, ◌++◌, Option, Some, None, Ok, Err, refl, sym, ap, subst, ◌∙◌, append-nil, arith, inl}
use Rattle.std.proofs.lemmas.List.{map-append}
use Rattle.std.proofs.lemmas.Grind.{flat_map-append}
use Rattle.std.specs.Prelude.{map}
use Rattle.std.specs.List.{AllByRecursion, flat_map}
use Rattle.gk_line.specs.declared.tokens.Block.{Block}
use Rattle.gk_line.specs.declared.tokens.Block.TheVariants as block
use Rattle.gk_document.specs.declared.tree.Argument.TheVariants.{Table, Text as Quoted}
use Rattle.gk_grammar.specs.Token.{Utf8, TagText, Blank, Tags, Title, Step, Row, Line, line, number}
use Rattle.gk_grammar.specs.Tree as tree
use Rattle.gk_grammar.specs.Tree.{Location, Tag, Argument, Background, ExampleTable, Examples, Scenario, Rule, Feature}
use Rattle.gk_grammar.specs.Grammar.{Piece, Then, ◌⨾◌, Nothing, Each, AtMostOne, OneLine, at, place_and_name, tag_at, IsTagLine, TagLines, TitleAndDescription, IsRow, IsTable, IsDocString, IsArgument, IsStepLine, IsStep, IsBackground, IsExampleTable, IsExamples, IsScenario, IsRule, IsFeature, IsOpening, IsFeatureText, Node, tag_nodes, node_of_tag, row_nodes, argument_nodes, step_nodes, background_nodes, table_rows, examples_nodes, scenario_nodes, rule_nodes, feature_nodes}
use Rattle.gk_grammar.proofs.Numbers.{InOrder}
use Rattle.gk_grammar.proofs.Order.{Rise, rise_both, all_both, all_weaker, StandAt, stand_both, stand_in_order, before_by_line}

-- the places at which a line may have nodes
abbrev pub line_places : Line → List Location
line_places (line n t i (Tags (Ok words))) = map (λ (w : TagText). at n w.column) words
line_places (line n t i (Title b k m)) = at n (i + 1) ∷ []
line_places (line n t i (Step k y m)) = at n (i + 1) ∷ []
line_places (line n t i (Row cells)) = at n (i + 1) ∷ []
line_places _ = []

abbrev pub places : List Line → List Location
places ls = flat_map line_places ls

-- the nodes are at places of the piece's lines
abbrev pub NodesOf : Piece → List Node → Type 0
NodesOf P nodes = (ls : List Line) (cs : List tree.Comment) → P ls cs → StandAt nodes (places ls)

no_nodes : (P : Piece) → NodesOf P []
no_nodes P ls cs h = tt

nodes_then : (P Q : Piece) (xs ys : List Node) → NodesOf P xs → NodesOf Q ys → NodesOf (Then P Q) (xs ++ ys)
nodes_then P Q xs ys f g ls cs t =
    subst (λ (z : List Location). StandAt (xs ++ ys) z) (sym (ap places t.cut ∙ flat_map-append line_places t.front t.back))
    (stand_both xs ys (places t.front) (places t.back) (f t.front t.front_comments t.first) (g t.back t.back_comments t.second))

nodes_each : {A : Type 0} (P : A → Piece) (nodes : A → List Node) → ((x : A) → NodesOf (P x) (nodes x)) → (xs : List A) → NodesOf (Each P xs) (flat_map nodes xs)
nodes_each P nodes f [] ls cs t = tt
nodes_each P nodes f (x ∷ xs) ls cs t = nodes_then (P x) (Each P xs) (nodes x) (flat_map nodes xs) (f x) (λ us vs h. nodes_each P nodes f xs us vs h) ls cs t

-- the nodes of the first line
nodes_line : (P : Line → Type 0) (nodes : List Node) → ((l : Line) → P l → StandAt nodes (line_places l)) → NodesOf (OneLine P) nodes
nodes_line P nodes f [] cs h = absurd h
nodes_line P nodes f (l ∷ ls) cs h = subst (λ (z : List Node). StandAt z (places (l ∷ ls))) (append-nil nodes) (stand_both nodes [] (line_places l) (places ls) (f l h.0) tt)

-- ---- headers

tags_stand : (tags : List Tag) (n : ℕ) (words : List TagText) → map place_and_name tags ≡ map (tag_at n) words → StandAt (tag_nodes tags) (map (λ (w : TagText). at n w.column) words)
tags_stand [] n words e = tt
tags_stand (g ∷ gs) n [] e = absurd cc
tags_stand (g ∷ gs) n (w ∷ ws) e =
    let head : place_and_name g ≡ tag_at n w = cc in
    let others : map place_and_name gs ≡ map (tag_at n) ws = cc in
    inl (ap (λ (z : Location × Utf8). z.0) head, tags_stand gs n ws others)

tag_line_nodes : (tags : List Tag) (l : Line) → IsTagLine tags l → StandAt (tag_nodes tags) (line_places l)
tag_line_nodes tags (line n t i (Tags (Ok words))) h = tags_stand tags n words h
tag_line_nodes tags (line n t i (Tags (Err c))) h = absurd h
tag_line_nodes tags (line n t i _) h = absurd h

tags_of_lines : (parts : List (List Tag)) → tag_nodes (flat_map (λ z. z) parts) ≡ flat_map tag_nodes parts
tags_of_lines [] = refl
tags_of_lines (ts ∷ parts) = map-append node_of_tag ts (flat_map (λ z. z) parts) ∙ ap (λ (z : List Node). tag_nodes ts ++ z) (tags_of_lines parts)

tag_lines_nodes : (tags : List Tag) → NodesOf (TagLines tags) (tag_nodes tags)
tag_lines_nodes tags ls cs h =
    subst (λ (z : List Node). StandAt z (places ls)) (sym (ap tag_nodes h.1 ∙ tags_of_lines h.0))
    (nodes_each (λ ts. OneLine (IsTagLine ts)) tag_nodes (λ ts. nodes_line (IsTagLine ts) (tag_nodes ts) (tag_line_nodes ts)) h.0 ls cs h.2)

title_nodes : (b : Block) (p : Location) (n : ℕ) (k m d : Utf8) → NodesOf (TitleAndDescription b p k m d) ((p, n) ∷ [])
title_nodes b p n k m d [] cs h = absurd h
title_nodes b p n k m d (line x t i (Title c y z) ∷ ls) cs h = inl (h.0.1, tt)
title_nodes b p n k m d (line x t i Blank ∷ ls) cs h = absurd h.0
title_nodes b p n k m d (line x t i _ ∷ ls) cs h = absurd h.0

-- ---- steps

row_stands : (r : tree.Row) (l : Line) → IsRow r l → StandAt ((r.location, r.node) ∷ []) (line_places l)
row_stands r (line n t i (Row cells)) h = inl (h.0, tt)
row_stands r (line n t i _) h = absurd h

rows_nodes : (rows : List tree.Row) → row_nodes rows ≡ flat_map (λ (r : tree.Row). (r.location, r.node) ∷ []) rows
rows_nodes [] = refl
rows_nodes (r ∷ rs) = ap (λ (z : List Node). (r.location, r.node) ∷ z) (rows_nodes rs)

table_nodes : (rows : List tree.Row) → NodesOf (IsTable rows) (row_nodes rows)
table_nodes [] ls cs h = absurd h
table_nodes (r ∷ rs) ls cs h =
    subst (λ (z : List Node). StandAt z (places ls)) (sym (rows_nodes (r ∷ rs)))
    (nodes_each (λ x. OneLine (IsRow x)) (λ (x : tree.Row). (x.location, x.node) ∷ []) (λ x. nodes_line (IsRow x) ((x.location, x.node) ∷ []) (row_stands x)) (r ∷ rs) ls cs h.1)

argument_stands : (a : Option Argument) → NodesOf (AtMostOne IsArgument a) (argument_nodes a)
argument_stands None = no_nodes Nothing
argument_stands (Some (Table rows)) = table_nodes rows
argument_stands (Some (Quoted d)) = no_nodes (IsDocString d)

step_stands : (s : tree.Step) (l : Line) → IsStepLine s l → StandAt ((s.location, s.node) ∷ []) (line_places l)
step_stands s (line n t i (Step k y m)) h = inl (h.0, tt)
step_stands s (line n t i _) h = absurd h

steps_stand : (s : tree.Step) → NodesOf (IsStep s) (step_nodes s)
steps_stand s =
    nodes_then (OneLine (IsStepLine s)) (AtMostOne IsArgument s.argument) ((s.location, s.node) ∷ []) (argument_nodes s.argument)
    (nodes_line (IsStepLine s) ((s.location, s.node) ∷ []) (step_stands s)) (argument_stands s.argument)

-- ---- blocks

background_stands : (o : Option Background) → NodesOf (AtMostOne IsBackground o) (background_nodes o)
background_stands None = no_nodes Nothing
background_stands (Some b) =
    nodes_then (TitleAndDescription block.Background b.location b.keyword b.name b.description) (Each IsStep b.steps) ((b.location, b.node) ∷ []) (flat_map step_nodes b.steps)
    (title_nodes block.Background b.location b.node b.keyword b.name b.description) (nodes_each IsStep step_nodes steps_stand b.steps)

example_table_stands : (o : Option ExampleTable) → NodesOf (AtMostOne IsExampleTable o) (row_nodes (table_rows o))
example_table_stands None = no_nodes Nothing
example_table_stands (Some t) = table_nodes (t.header ∷ t.body)

-- a header, and what is below it
header_stands : (b : Block) (p : Location) (n : ℕ) (tags : List Tag) (k m d : Utf8) (Q : Piece) (below : List Node) → NodesOf Q below →
    NodesOf (TagLines tags ⨾ TitleAndDescription b p k m d ⨾ Q) (tag_nodes tags ++ (p, n) ∷ below)
header_stands b p n tags k m d Q below f =
    nodes_then (TagLines tags) (TitleAndDescription b p k m d ⨾ Q) (tag_nodes tags) ((p, n) ∷ below) (tag_lines_nodes tags)
    (nodes_then (TitleAndDescription b p k m d) Q ((p, n) ∷ []) below (title_nodes b p n k m d) f)

examples_stand : (e : Examples) → NodesOf (IsExamples e) (examples_nodes e)
examples_stand e = header_stands block.Examples e.location e.node e.tags e.keyword e.name e.description (AtMostOne IsExampleTable e.table) (row_nodes (table_rows e.table)) (example_table_stands e.table)

scenario_stands : (s : Scenario) → NodesOf (IsScenario s) (scenario_nodes s)
scenario_stands s =
    header_stands block.Scenario s.location s.node s.tags s.keyword s.name s.description (Each IsStep s.steps ⨾ Each IsExamples s.examples) (flat_map step_nodes s.steps ++ flat_map examples_nodes s.examples)
    (nodes_then (Each IsStep s.steps) (Each IsExamples s.examples) (flat_map step_nodes s.steps) (flat_map examples_nodes s.examples)
    (nodes_each IsStep step_nodes steps_stand s.steps) (nodes_each IsExamples examples_nodes examples_stand s.examples))

rule_stands : (r : Rule) → NodesOf (IsRule r) (rule_nodes r)
rule_stands r =
    header_stands block.Rule r.location r.node r.tags r.keyword r.name r.description (AtMostOne IsBackground r.background ⨾ Each IsScenario r.scenarios) (background_nodes r.background ++ flat_map scenario_nodes r.scenarios)
    (nodes_then (AtMostOne IsBackground r.background) (Each IsScenario r.scenarios) (background_nodes r.background) (flat_map scenario_nodes r.scenarios)
    (background_stands r.background) (nodes_each IsScenario scenario_nodes scenario_stands r.scenarios))

feature_stands : (f : Feature) → NodesOf (IsFeature f) (feature_nodes (Some f))
feature_stands f =
    nodes_then (TagLines f.tags) (TitleAndDescription block.Feature f.location f.keyword f.name f.description ⨾ AtMostOne IsBackground f.background ⨾ Each IsScenario f.scenarios ⨾ Each IsRule f.rules)
    (tag_nodes f.tags) (background_nodes f.background ++ (flat_map scenario_nodes f.scenarios ++ flat_map rule_nodes f.rules)) (tag_lines_nodes f.tags)
    (nodes_then (TitleAndDescription block.Feature f.location f.keyword f.name f.description) (AtMostOne IsBackground f.background ⨾ Each IsScenario f.scenarios ⨾ Each IsRule f.rules)
    [] (background_nodes f.background ++ (flat_map scenario_nodes f.scenarios ++ flat_map rule_nodes f.rules)) (no_nodes (TitleAndDescription block.Feature f.location f.keyword f.name f.description))
    (nodes_then (AtMostOne IsBackground f.background) (Each IsScenario f.scenarios ⨾ Each IsRule f.rules) (background_nodes f.background) (flat_map scenario_nodes f.scenarios ++ flat_map rule_nodes f.rules)
    (background_stands f.background)
    (nodes_then (Each IsScenario f.scenarios) (Each IsRule f.rules) (flat_map scenario_nodes f.scenarios) (flat_map rule_nodes f.rules)
    (nodes_each IsScenario scenario_nodes scenario_stands f.scenarios) (nodes_each IsRule rule_nodes rule_stands f.rules))))

pub text_stands : (f : Option Feature) → NodesOf (IsFeatureText f) (feature_nodes f)
text_stands None ls cs h = tt
text_stands (Some f) ls cs h = nodes_then IsOpening (IsFeature f) [] (feature_nodes (Some f)) (no_nodes IsOpening) (feature_stands f) ls cs h.1

-- ---- lines in order

-- the lines are numbered from n on, and the places of each rise
abbrev pub AreNumberedFrom : ℕ → List Line → Type 0
AreNumberedFrom n [] = Unit {0}
AreNumberedFrom n (l ∷ ls) = (number l ≡ n) × Rise (line_places l) × AreNumberedFrom (n + 1) ls

words_on : (n : ℕ) (words : List TagText) → AllByRecursion (λ (p : Location). p.line ≡ n) (map (λ (w : TagText). at n w.column) words)
words_on n [] = tt
words_on n (w ∷ ws) = (refl, words_on n ws)

places_on : (l : Line) → AllByRecursion (λ (p : Location). p.line ≡ number l) (line_places l)
places_on (line n t i (Tags (Ok words))) = words_on n words
places_on (line n t i (Tags (Err c))) = tt
places_on (line n t i (Title b k m)) = (refl, tt)
places_on (line n t i (Step k y m)) = (refl, tt)
places_on (line n t i (Row cells)) = (refl, tt)
places_on (line n t i _) = tt

places_from : (n : ℕ) (ls : List Line) → AreNumberedFrom n ls → AllByRecursion (λ (p : Location). n ≤ p.line) (places ls)
places_from n [] h = tt
places_from n (l ∷ ls) h =
    all_both (λ (p : Location). n ≤ p.line) (line_places l) (places ls)
    (all_weaker (λ (p : Location). p.line ≡ number l) (λ (p : Location). n ≤ p.line) (λ p e. let f = h.0 in omega arith) (line_places l) (places_on l))
    (all_weaker (λ (p : Location). n + 1 ≤ p.line) (λ (p : Location). n ≤ p.line) (λ p e. omega arith) (places ls) (places_from (n + 1) ls h.2))

pub places_rise : (n : ℕ) (ls : List Line) → AreNumberedFrom n ls → Rise (places ls)
places_rise n [] h = tt
places_rise n (l ∷ ls) h =
    rise_both (line_places l) (places ls) h.1 (places_rise (n + 1) ls h.2)
    (all_weaker (λ (p : Location). p.line ≡ number l) (λ (p : Location). AllByRecursion (λ (q : Location). _) (places ls))
    (λ p e. all_weaker (λ (q : Location). n + 1 ≤ q.line) _ (λ q f. before_by_line p q (let g = h.0 in omega arith)) (places ls) (places_from (n + 1) ls h.2)) (line_places l) (places_on l))

-- the nodes of a text are in order
pub text_in_order : (f : Option Feature) (n : ℕ) (ls : List Line) (cs : List tree.Comment) → AreNumberedFrom n ls → IsFeatureText f ls cs → InOrder (feature_nodes f)
text_in_order f n ls cs a h = stand_in_order (feature_nodes f) (places ls) (places_rise n ls a) (text_stands f ls cs h)
