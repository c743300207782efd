-- The nodes of a text's document are at lines of the text.
use Rattle.std.proofs.Common.{◌≡◌, ℕ, ◌+◌, ◌^◌, ◌<◌, ◌≤◌, List, [], ◌∷◌, ◌++◌, length, map, Option, Some, None, Ok, Err, sym, ap, subst, arith, flat_map, inr}
use Rattle.std.specs.List.{AllByRecursion}
use Rattle.gk_line.specs.declared.tokens.Block.{Block}
use Rattle.gk_line.specs.declared.tokens.Block.TheVariants as block
use Rattle.gk_document.specs.declared.tree.Argument.TheVariants.{Table, Text as Quoted}
use Rattle.gk_grammar.specs.Token.{Utf8, TagText, Tags, Title, Step, Row, Fenced, Line, line, number}
use Rattle.gk_grammar.specs.Tree as tree
use Rattle.gk_grammar.specs.Tree.{Location, Tag, DocString, Argument, Background, ExampleTable, Examples, Scenario, Rule, Feature}
use Rattle.gk_grammar.specs.Grammar.{Piece, Then, ◌⨾◌, Each, AtMostOne, OneLine, place_and_name, tag_at, IsTagLine, TagLines, TitleAndDescription, IsRow, IsTable, IsDocString, IsArgument, IsStepLine, IsStep, IsBackground, IsExampleTable, IsExamples, IsScenario, IsRule, IsFeature, IsOpening, IsFeatureText}
use Rattle.gk_grammar.specs.Documents.{lines_read, max_lines}
use Rattle.gk_grammar.proofs.Places.{AreNumberedFrom}
use Rattle.gk_grammar.proofs.Reading.{read_are_lines}
use Rattle.gk_grammar.proofs.LawLemmas.{numbered_in_order_holds}
use Rattle.cm_read_back.specs.Documents.{HasLine}
use Rattle.cm_read_back.proofs.Places.{all_apart, feature_to, TagsHaveLines, RowsHaveLines, ArgumentHasLines, StepHasLines, BackgroundHasLines, TableHasLines, ExamplesHaveLines, ScenarioHasLines, RuleHasLines, FeatureHasLines}
use Rattle.cm_read_back.specs.Laws.{ParsedAreReadable}

-- ---- lines

abbrev Fits : Line → Type 0
Fits l = (0 < number l) × (number l < 2 ^ 32)

lines_fit : (n : ℕ) (ls : List Line) → AreNumberedFrom n ls → 0 < n → n + length ls ≤ 2 ^ 32 → AllByRecursion Fits ls
lines_fit n [] a h k = tt
lines_fit n (l ∷ ls) a h k = let e = a.0 in ((omega arith, omega arith), lines_fit (n + 1) ls a.2 (omega arith) (omega arith))

-- a piece of lines that fit has what is in X
abbrev Gives : Piece → Type 0 → Type 0
Gives P X = (ls : List Line) (cs : List tree.Comment) → P ls cs → AllByRecursion Fits ls → X

gives_then : (P Q : Piece) (X Y : Type 0) → Gives P X → Gives Q Y → Gives (Then P Q) (X × Y)
gives_then P Q X Y p q ls cs t h =
    let parts = all_apart Fits t.front t.back (subst (AllByRecursion Fits) t.cut h) in
    (p t.front t.front_comments t.first parts.0, q t.back t.back_comments t.second parts.1)

gives_each : {A : Type 0} (P : A → Piece) (X : A → Type 0) → ((x : A) → Gives (P x) (X x)) → (xs : List A) → Gives (Each P xs) (AllByRecursion X xs)
gives_each P X one [] ls cs t h = tt
gives_each P X one (x ∷ xs) ls cs t h = gives_then (P x) (Each P xs) (X x) (AllByRecursion X xs) (one x) (λ us vs k. gives_each P X one xs us vs k) ls cs t h

gives_line : (P : Line → Type 0) (X : Type 0) → ((l : Line) → P l → Fits l → X) → Gives (OneLine P) X
gives_line P X one [] cs t h = absurd t
gives_line P X one (l ∷ ls) cs t h = one l t.0 h.0

-- ---- headers

tags_fit : (tags : List Tag) (n : ℕ) (words : List TagText) → map place_and_name tags ≡ map (tag_at n) words → (0 < n) × (n < 2 ^ 32) → TagsHaveLines tags
tags_fit [] n words e h = tt
tags_fit (g ∷ gs) n [] e h = absurd cc
tags_fit (g ∷ gs) n (w ∷ ws) e h =
    let head : place_and_name g ≡ tag_at n w = cc in
    let others : map place_and_name gs ≡ map (tag_at n) ws = cc in
    (subst HasLine (sym (ap (λ (z : Location × Utf8). z.0) head)) h, tags_fit gs n ws others h)

tag_line_fits : (tags : List Tag) (l : Line) → IsTagLine tags l → Fits l → TagsHaveLines tags
tag_line_fits tags (line n t i (Tags (Ok words))) e h = tags_fit tags n words e h
tag_line_fits tags (line n t i (Tags (Err c))) e h = absurd e
tag_line_fits tags (line n t i _) e h = absurd e

all_lists : (parts : List (List Tag)) → AllByRecursion TagsHaveLines parts → TagsHaveLines (flat_map (λ z. z) parts)
all_lists [] h = tt
all_lists (ts ∷ parts) h = all_more ts (flat_map (λ z. z) parts) h.0 (all_lists parts h.1)
  where
    all_more : (xs ys : List Tag) → TagsHaveLines xs → TagsHaveLines ys → TagsHaveLines (xs ++ ys)
    all_more [] ys h k = k
    all_more (x ∷ xs) ys h k = (h.0, all_more xs ys h.1 k)

tag_lines_fit : (tags : List Tag) → Gives (TagLines tags) (TagsHaveLines tags)
tag_lines_fit tags ls cs t h =
    subst TagsHaveLines (sym t.1) (all_lists t.0 (gives_each (λ ts. OneLine (IsTagLine ts)) TagsHaveLines (λ ts. gives_line (IsTagLine ts) (TagsHaveLines ts) (tag_line_fits ts)) t.0 ls cs t.2 h))

title_fits : (b : Block) (p : Location) (k m d : Utf8) → Gives (TitleAndDescription b p k m d) (HasLine p)
title_fits b p k m d [] cs t h = absurd t
title_fits b p k m d (line x u i (Title c y z) ∷ ls) cs t h = subst HasLine (sym t.0.1) h.0
title_fits b p k m d (line x u i _ ∷ ls) cs t h = absurd t.0

-- ---- steps

row_fits : (r : tree.Row) (l : Line) → IsRow r l → Fits l → HasLine r.location
row_fits r (line n t i (Row cells)) e h = subst HasLine (sym e.0) h
row_fits r (line n t i _) e h = absurd e

table_fits : (rows : List tree.Row) → Gives (IsTable rows) (RowsHaveLines rows)
table_fits [] ls cs t h = absurd t
table_fits (r ∷ rs) ls cs t h =
    gives_each (λ x. OneLine (IsRow x)) (λ (x : tree.Row). HasLine x.location) (λ x. gives_line (IsRow x) (HasLine x.location) (row_fits x)) (r ∷ rs) ls cs t.1 h

doc_string_fits : (d : DocString) → Gives (IsDocString d) (HasLine d.location)
doc_string_fits d [] cs t h = absurd t
doc_string_fits d (line n u i (Fenced f media) ∷ ls) cs t h = subst HasLine (sym t.0) h.0
doc_string_fits d (line n u i _ ∷ ls) cs t h = absurd t

argument_fits : (a : Option Argument) → Gives (AtMostOne IsArgument a) (ArgumentHasLines a)
argument_fits None ls cs t h = tt
argument_fits (Some (Table rows)) ls cs t h = table_fits rows ls cs t h
argument_fits (Some (Quoted d)) ls cs t h = doc_string_fits d ls cs t h

step_fits : (s : tree.Step) (l : Line) → IsStepLine s l → Fits l → HasLine s.location
step_fits s (line n t i (Step k y m)) e h = subst HasLine (sym e.0) h
step_fits s (line n t i _) e h = absurd e

steps_fit : (s : tree.Step) → Gives (IsStep s) (StepHasLines s)
steps_fit s =
    gives_then (OneLine (IsStepLine s)) (AtMostOne IsArgument s.argument) (HasLine s.location) (ArgumentHasLines s.argument)
    (gives_line (IsStepLine s) (HasLine s.location) (step_fits s)) (argument_fits s.argument)

-- ---- blocks

background_fits : (o : Option Background) → Gives (AtMostOne IsBackground o) (BackgroundHasLines o)
background_fits None ls cs t h = tt
background_fits (Some b) ls cs t h =
    gives_then (TitleAndDescription block.Background b.location b.keyword b.name b.description) (Each IsStep b.steps) (HasLine b.location) (AllByRecursion StepHasLines b.steps)
    (title_fits block.Background b.location b.keyword b.name b.description) (gives_each IsStep StepHasLines steps_fit b.steps) ls cs t h

example_table_fits : (o : Option ExampleTable) → Gives (AtMostOne IsExampleTable o) (TableHasLines o)
example_table_fits None ls cs t h = tt
example_table_fits (Some x) ls cs t h = table_fits (x.header ∷ x.body) ls cs t h

-- a header, and what is below it
header_fits : (b : Block) (p : Location) (tags : List Tag) (k m d : Utf8) (Q : Piece) (X : Type 0) → Gives Q X → Gives (TagLines tags ⨾ TitleAndDescription b p k m d ⨾ Q) (TagsHaveLines tags × (HasLine p × X))
header_fits b p tags k m d Q X q =
    gives_then (TagLines tags) (TitleAndDescription b p k m d ⨾ Q) (TagsHaveLines tags) (HasLine p × X) (tag_lines_fit tags) (gives_then (TitleAndDescription b p k m d) Q (HasLine p) X (title_fits b p k m d) q)

examples_fit : (e : Examples) → Gives (IsExamples e) (ExamplesHaveLines e)
examples_fit e ls cs t h =
    let x = header_fits block.Examples e.location e.tags e.keyword e.name e.description (AtMostOne IsExampleTable e.table) (TableHasLines e.table) (example_table_fits e.table) ls cs t h in
    (x.1.0, x.0, x.1.1)

scenario_fits : (s : Scenario) → Gives (IsScenario s) (ScenarioHasLines s)
scenario_fits s ls cs t h =
    let x = header_fits block.Scenario s.location s.tags s.keyword s.name s.description (Each IsStep s.steps ⨾ Each IsExamples s.examples) (AllByRecursion StepHasLines s.steps × AllByRecursion ExamplesHaveLines s.examples)
    (gives_then (Each IsStep s.steps) (Each IsExamples s.examples) (AllByRecursion StepHasLines s.steps) (AllByRecursion ExamplesHaveLines s.examples)
    (gives_each IsStep StepHasLines steps_fit s.steps) (gives_each IsExamples ExamplesHaveLines examples_fit s.examples)) ls cs t h in
    (x.1.0, x.0, x.1.1.0, x.1.1.1)

rule_fits : (r : Rule) → Gives (IsRule r) (RuleHasLines r)
rule_fits r ls cs t h =
    let x = header_fits block.Rule r.location r.tags r.keyword r.name r.description (AtMostOne IsBackground r.background ⨾ Each IsScenario r.scenarios) (BackgroundHasLines r.background × AllByRecursion ScenarioHasLines r.scenarios)
    (gives_then (AtMostOne IsBackground r.background) (Each IsScenario r.scenarios) (BackgroundHasLines r.background) (AllByRecursion ScenarioHasLines r.scenarios)
    (background_fits r.background) (gives_each IsScenario ScenarioHasLines scenario_fits r.scenarios)) ls cs t h in
    (x.1.0, x.0, x.1.1.0, x.1.1.1)

feature_fits : (f : Feature) → Gives (IsFeature f) (FeatureHasLines (Some f))
feature_fits f ls cs t h =
    let rest = Each IsScenario f.scenarios ⨾ Each IsRule f.rules in
    let Rest = AllByRecursion ScenarioHasLines f.scenarios × AllByRecursion RuleHasLines f.rules in
    let x = header_fits block.Feature f.location f.tags f.keyword f.name f.description (AtMostOne IsBackground f.background ⨾ rest) (BackgroundHasLines f.background × Rest)
    (gives_then (AtMostOne IsBackground f.background) rest (BackgroundHasLines f.background) Rest (background_fits f.background)
    (gives_then (Each IsScenario f.scenarios) (Each IsRule f.rules) (AllByRecursion ScenarioHasLines f.scenarios) (AllByRecursion RuleHasLines f.rules)
    (gives_each IsScenario ScenarioHasLines scenario_fits f.scenarios) (gives_each IsRule RuleHasLines rule_fits f.rules))) ls cs t h in
    (x.1.0, x.0, x.1.1.0, x.1.1.1.0, x.1.1.1.1)

text_fits : (f : Option Feature) → Gives (IsFeatureText f) (FeatureHasLines f)
text_fits None ls cs t h = tt
text_fits (Some f) ls cs t h = (gives_then IsOpening (IsFeature f) (Unit {0}) (FeatureHasLines (Some f)) (λ us vs x k. tt) (feature_fits f) ls cs t.1 h).1

within_limit : (n : ℕ) → (max_lines < n → ⊥) → n ≤ max_lines
within_limit n h = omega arith

pub parsed_are_readable : ParsedAreReadable
parsed_are_readable text d is short =
    let few : length (lines_read text) ≤ max_lines = within_limit (length (lines_read text)) (λ h. short (inr h)) in
    let fit = text_fits d.feature (lines_read text) d.comments is.text (lines_fit 1 (lines_read text) (read_are_lines text) (omega arith) (omega arith)) in
    let parts = feature_to d.feature fit in
    record { numbered = numbered_in_order_holds text d is; feature = parts.0; nodes = parts.1; doc_strings = parts.2 }
