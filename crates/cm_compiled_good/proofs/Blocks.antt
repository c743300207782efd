-- The blocks of a parsed document have texts of UTF-8 and places of 64 bits.
use Rattle.std.proofs.Common.{◌≡◌, ℕ, ◌<◌, ◌≤◌, List, ◌∷◌, length, map, Option, Some, None, IsUtf8, codes, inl, inr, refl, sym, ◌∙◌, subst, arith}
use Rattle.std.specs.Prelude.{⊤}
use Rattle.std.specs.List.{AllByRecursion, enumerate_from}
use Rattle.std.specs.Str.{chars}
use Rattle.std.specs.Str.Lines.{lines}
use Rattle.std.proofs.lemmas.List.{length-map}
use Rattle.std.proofs.lemmas.List.FromFn.{length-enumerate_from}
use Rattle.json.proofs.Printed.Utf8.{IsUtf8-are_ascii}
use Rattle.gk_line.specs.Lines.{lines_of, numbered_lines, without_mark}
use Rattle.gk_line.specs.declared.tokens.Block.{Block}
use Rattle.gk_line.specs.declared.tokens.Block.TheVariants as block
use Rattle.gk_grammar.specs.Token.{Utf8, line_of}
use Rattle.gk_grammar.specs.Tree.{Location, Tag, Background, ExampleTable, Examples, Scenario, Rule, Feature, Document}
use Rattle.gk_grammar.specs.Grammar.{Piece, ◌⨾◌, Each, AtMostOne, OneLine, TagLines, TitleAndDescription, IsStep, IsBackground, IsExampleTable, IsExamples, IsScenario, IsRule, IsFeature, IsPlainGap, IsEnglish, IsOpening, IsFeatureText}
use Rattle.gk_grammar.specs.Documents.{lines_read, IsDocumentOf, IsTooLong}
use Rattle.cm_compiled_good.proofs.Clean.{CommentOk, Gives, TitleParts, gap_comments, gives_then, gives_each, gives_line, tag_lines_ok, title_ok, table_ok, step_ok, none_there}
use Rattle.cm_compiled_good.proofs.Fine.{clean, TagOf, StepOf, BackgroundOf, TableOf, ExamplesOf, ScenarioOf, RuleOf, FeatureOf}
use Rattle.cm_compiled_good.proofs.Scalars.{scalars_of, chars_fewer, text_lines_fit}
use Rattle.cm_compiled_good.proofs.Tokens.{LineOk, lines_ok}

-- ---- blocks

background_ok : (o : Option Background) → Gives (AtMostOne IsBackground o) (BackgroundOf clean o)
background_ok None ls cs t h = (tt, none_there cs t.1)
background_ok (Some b) ls cs t h =
    let k = gives_then (TitleAndDescription block.Background b.location b.keyword b.name b.description) (Each IsStep b.steps) (TitleParts b.location b.keyword b.name b.description) (AllByRecursion (StepOf clean) b.steps)
    (title_ok block.Background b.location b.keyword b.name b.description) (gives_each IsStep (StepOf clean) step_ok b.steps) ls cs t h in
    let title = k.0.0 in
    ((tt, title.0, title.1, title.2, title.3, k.0.1), k.1)

example_table_ok : (o : Option ExampleTable) → Gives (AtMostOne IsExampleTable o) (TableOf clean o)
example_table_ok None ls cs t h = (tt, none_there cs t.1)
example_table_ok (Some x) ls cs t h = let k = table_ok (x.header ∷ x.body) ls cs t h in ((k.0.0, k.0.1), k.1)

-- a header, and what is below it
header_ok : (b : Block) (p : Location) (tags : List Tag) (k m d : Utf8) (Q : Piece) (X : Type 0) → Gives Q X
    → Gives (TagLines tags ⨾ TitleAndDescription b p k m d ⨾ Q) (AllByRecursion (TagOf clean) tags × (TitleParts p k m d × X))
header_ok b p tags k m d Q X q =
    gives_then (TagLines tags) (TitleAndDescription b p k m d ⨾ Q) (AllByRecursion (TagOf clean) tags) (TitleParts p k m d × X) (tag_lines_ok tags)
    (gives_then (TitleAndDescription b p k m d) Q (TitleParts p k m d) X (title_ok b p k m d) q)

examples_ok : (e : Examples) → Gives (IsExamples e) (ExamplesOf clean e)
examples_ok e ls cs t h =
    let x = header_ok block.Examples e.location e.tags e.keyword e.name e.description (AtMostOne IsExampleTable e.table) (TableOf clean e.table) (example_table_ok e.table) ls cs t h in
    let title = x.0.1.0 in
    ((x.0.0, tt, title.0, title.1, title.2, title.3, x.0.1.1), x.1)

scenario_ok : (s : Scenario) → Gives (IsScenario s) (ScenarioOf clean s)
scenario_ok s ls cs t h =
    let Steps = AllByRecursion (StepOf clean) s.steps in
    let Blocks = AllByRecursion (ExamplesOf clean) s.examples in
    let x = header_ok block.Scenario s.location s.tags s.keyword s.name s.description (Each IsStep s.steps ⨾ Each IsExamples s.examples) (Steps × Blocks)
    (gives_then (Each IsStep s.steps) (Each IsExamples s.examples) Steps Blocks (gives_each IsStep (StepOf clean) step_ok s.steps) (gives_each IsExamples (ExamplesOf clean) examples_ok s.examples)) ls cs t h in
    let title = x.0.1.0 in
    ((x.0.0, tt, title.0, title.1, title.2, title.3, x.0.1.1.0, x.0.1.1.1), x.1)

rule_ok : (r : Rule) → Gives (IsRule r) (RuleOf clean r)
rule_ok r ls cs t h =
    let Scenarios = AllByRecursion (ScenarioOf clean) r.scenarios in
    let x = header_ok block.Rule r.location r.tags r.keyword r.name r.description (AtMostOne IsBackground r.background ⨾ Each IsScenario r.scenarios) (BackgroundOf clean r.background × Scenarios)
    (gives_then (AtMostOne IsBackground r.background) (Each IsScenario r.scenarios) (BackgroundOf clean r.background) Scenarios (background_ok r.background) (gives_each IsScenario (ScenarioOf clean) scenario_ok r.scenarios)) ls cs t h in
    let title = x.0.1.0 in
    ((x.0.0, tt, title.0, title.1, title.2, title.3, x.0.1.1.0, x.0.1.1.1), x.1)

-- ---- the whole

gap_ok : Gives IsPlainGap ⊤
gap_ok ls cs t h = (tt, gap_comments ls cs t.1.1 h)

opening_ok : Gives IsOpening ⊤
opening_ok ls cs (inl t) h = gap_ok ls cs t h
opening_ok ls cs (inr t) h = let k = gives_then IsPlainGap (OneLine IsEnglish) ⊤ ⊤ gap_ok (gives_line IsEnglish ⊤ (λ l e g. tt)) ls cs t h in (tt, k.1)

feature_ok : (f : Feature) → f.language ≡ codes "en" → Gives (IsFeature f) (FeatureOf clean (Some f))
feature_ok f english ls cs t h =
    let Scenarios = AllByRecursion (ScenarioOf clean) f.scenarios in
    let Rules = AllByRecursion (RuleOf clean) f.rules in
    let rest = Each IsScenario f.scenarios ⨾ Each IsRule f.rules in
    let x = header_ok block.Feature f.location f.tags f.keyword f.name f.description (AtMostOne IsBackground f.background ⨾ rest) (BackgroundOf clean f.background × (Scenarios × Rules))
    (gives_then (AtMostOne IsBackground f.background) rest (BackgroundOf clean f.background) (Scenarios × Rules) (background_ok f.background)
    (gives_then (Each IsScenario f.scenarios) (Each IsRule f.rules) Scenarios Rules (gives_each IsScenario (ScenarioOf clean) scenario_ok f.scenarios) (gives_each IsRule (RuleOf clean) rule_ok f.rules))) ls cs t h in
    let title = x.0.1.0 in
    ((x.0.0, title.0, title.1, title.2, title.3, subst IsUtf8 (sym english) (IsUtf8-are_ascii (codes "en") refl), x.0.1.1.0, x.0.1.1.1.0, x.0.1.1.1.1), x.1)

text_ok : (f : Option Feature) → Gives (IsFeatureText f) (FeatureOf clean f)
text_ok None ls cs t h = gap_ok ls cs t h
text_ok (Some f) ls cs t h =
    let k = gives_then IsOpening (IsFeature f) ⊤ (FeatureOf clean (Some f)) opening_ok (feature_ok f t.0) ls cs t.1 h in
    (k.0.1, k.1)

within : (n m : ℕ) → (m < n → ⊥) → n ≤ m
within n m h = omega (arith, h)

lines_are_ok : (text : List ℕ) → IsUtf8 text → (IsTooLong text → ⊥) → AllByRecursion LineOk (lines_read text)
unfolding lines_read lines_of numbered_lines
lines_are_ok text u short =
    let ts = lines (without_mark (chars text)) in
    let bytes : length text ≤ 16777216 = within (length text) 16777216 (λ h. short (inl h)) in
    let fewer : length (chars text) ≤ length text = chars_fewer text u in
    let count : length (map line_of (enumerate_from 1 ts)) ≤ 1000000 = within _ 1000000 (λ h. short (inr h)) in
    let same : length (map line_of (enumerate_from 1 ts)) ≡ length ts = length-map (enumerate_from 1 ts) line_of ∙ length-enumerate_from 1 ts in
    lines_ok 16777216 1 ts (text_lines_fit 16777216 (chars text) (scalars_of text u) (omega arith)) (omega arith) (omega arith)

pub parsed_clean : (text : List ℕ) (d : Document) → IsUtf8 text → IsDocumentOf text d → (IsTooLong text → ⊥) → FeatureOf clean d.feature × AllByRecursion CommentOk d.comments
parsed_clean text d u is short = text_ok d.feature (lines_read text) d.comments is.text (lines_are_ok text u short)
