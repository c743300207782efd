-- The parts of a text, each with the grammar's rule of it, and the rules as a table.
use Rattle.std.specs.Prelude.{◌≡◌, ◌≤◌, ◌⊎◌, ℕ, List, [], ◌∷◌, ◌++◌, length, Option, Ok, Err, if◌then◌else◌}
use Rattle.gk_line.specs.declared.tokens.Block.{Block}
use Rattle.gk_line.specs.declared.tokens.Block.TheVariants as block
use Rattle.gk_grammar.specs.Token.{Utf8, Token, Blank, Comment, Language, Tags, Title, Step, Row, Fenced, Other, Line, line}
use Rattle.gk_grammar.specs.Tree as tree
use Rattle.gk_grammar.specs.Tree.{Location, Argument, Background, ExampleTable, Examples, Scenario, Rule, Feature}
use Rattle.gk_grammar.specs.Machine.{same_text}
use Rattle.gk_grammar.specs.Grammar.{Piece, ◌⨾◌, Each, AtMostOne, OneLine, IsPlainGap, IsEnglish, IsTagLine, TagLines, TitleAndDescription, IsRow, IsTable, IsDocString, IsArgument, IsStepLine, IsStep, IsExampleTable, IsExamples, IsScenario, IsBackground, IsRule, IsFeature, IsOpening, english}
use Rattle.gk_plain.specs.declared.plain.Kind.{Kind}
use Rattle.gk_plain.specs.declared.plain.Kind.TheVariants as kind
use Rattle.gk_plain.specs.declared.plain.Part.{Part}
use Rattle.gk_plain.specs.declared.plain.Part.TheVariants as part
use Rattle.gk_plain.specs.declared.plain.Production.{Production}
use Rattle.gk_plain.specs.declared.plain.Production.TheVariants as rule

-- ---- lines

-- what a token is, without its words
abbrev pub kind_of_token : Token → Kind
kind_of_token Blank = kind.Blank
kind_of_token Comment = kind.Comment
kind_of_token (Language word) = if same_text word english then kind.English else kind.OtherLanguage
kind_of_token (Tags (Ok words)) = kind.Tags
kind_of_token (Tags (Err column)) = kind.SpacedTag column
kind_of_token (Title b k m) = kind.Title b
kind_of_token (Step k y m) = kind.Step
kind_of_token (Row cells) = kind.Row (length cells)
kind_of_token (Fenced f media) = kind.Fenced f
kind_of_token Other = kind.Other

-- what a line is
abbrev pub kind_of : Line → Kind
kind_of (line n t i token) = kind_of_token token

-- ---- parts

-- the lines are those of some part
abbrev pub Has : {A : Type 0} → (A → Piece) → List Line → Type 0
Has {A} P ls = (x : A) × (cs : List tree.Comment) × P x ls cs

-- a title line's place, keyword and name, and the description
abbrev pub Heading : Type 0
Heading = Location × Utf8 × Utf8 × Utf8

abbrev pub IsHeading : Block → Heading → Piece
IsHeading b h = TitleAndDescription b h.0 h.1 h.2 h.3

-- a row of so many cells
abbrev pub IsRowOf : ℕ → tree.Row → Piece
IsRowOf count r = OneLine (λ l. (length r.cells ≡ count) × IsRow r l)

-- a piece that has no value
abbrev pub Bare : Piece → Unit {0} → Piece
Bare P u = P

-- the blocks without their tags, and without their title lines and descriptions
abbrev pub IsUntaggedExamples : Heading × Option ExampleTable → Piece
IsUntaggedExamples x = IsHeading block.Examples x.0 ⨾ AtMostOne IsExampleTable x.1

abbrev pub IsBelowScenario : List tree.Step × List Examples → Piece
IsBelowScenario x = Each IsStep x.0 ⨾ Each IsExamples x.1

abbrev pub IsUntaggedScenario : Heading × (List tree.Step × List Examples) → Piece
IsUntaggedScenario x = IsHeading block.Scenario x.0 ⨾ Each IsStep x.1.0 ⨾ Each IsExamples x.1.1

abbrev pub IsBelowRule : Option Background × List Scenario → Piece
IsBelowRule x = AtMostOne IsBackground x.0 ⨾ Each IsScenario x.1

abbrev pub IsUntaggedRule : Heading × (Option Background × List Scenario) → Piece
IsUntaggedRule x = IsHeading block.Rule x.0 ⨾ AtMostOne IsBackground x.1.0 ⨾ Each IsScenario x.1.1

abbrev pub AreScenariosAndRules : List Scenario × List Rule → Piece
AreScenariosAndRules x = Each IsScenario x.0 ⨾ Each IsRule x.1

abbrev pub IsBelowFeature : Option Background × (List Scenario × List Rule) → Piece
IsBelowFeature x = AtMostOne IsBackground x.0 ⨾ Each IsScenario x.1.0 ⨾ Each IsRule x.1.1

abbrev pub IsUntaggedFeature : Heading × (Option Background × (List Scenario × List Rule)) → Piece
IsUntaggedFeature x =
    IsHeading block.Feature x.0 ⨾ AtMostOne IsBackground x.1.0
    ⨾ Each IsScenario x.1.1.0 ⨾ Each IsRule x.1.1.1

-- the front of a text up to the language line, and a feature after its opening
abbrev pub IsSpokenGap : Unit {0} → Piece
IsSpokenGap u = IsPlainGap ⨾ OneLine IsEnglish

abbrev pub IsWithFeature : Feature → Piece
IsWithFeature f = IsOpening ⨾ IsFeature f

-- the lines are those of the part
abbrev pub Is : Part → List Line → Type 0
Is part.PlainGap = Has (Bare IsPlainGap)
Is part.EnglishLine = Has (Bare (OneLine IsEnglish))
Is part.TagLine = Has (λ tags. OneLine (IsTagLine tags))
Is part.StepLine = Has (λ s. OneLine (IsStepLine s))
Is (part.Row count) = Has (IsRowOf count)
Is (part.Heading b) = Has (IsHeading b)
Is part.DocString = Has IsDocString
Is (part.Rows count) = Has (Each (IsRowOf count))
Is part.Table = Has IsTable
Is part.Argument = Has IsArgument
Is part.MaybeArgument = Has (AtMostOne IsArgument)
Is part.Step = Has IsStep
Is part.Steps = Has (Each IsStep)
Is part.TagLines = Has TagLines
Is part.MaybeTable = Has (AtMostOne IsExampleTable)
Is part.UntaggedExamples = Has IsUntaggedExamples
Is part.Examples = Has IsExamples
Is part.ExamplesBlocks = Has (Each IsExamples)
Is part.BelowScenario = Has IsBelowScenario
Is part.UntaggedScenario = Has IsUntaggedScenario
Is part.Scenario = Has IsScenario
Is part.Scenarios = Has (Each IsScenario)
Is part.Background = Has IsBackground
Is part.MaybeBackground = Has (AtMostOne IsBackground)
Is part.BelowRule = Has IsBelowRule
Is part.UntaggedRule = Has IsUntaggedRule
Is part.Rule = Has IsRule
Is part.Rules = Has (Each IsRule)
Is part.ScenariosAndRules = Has AreScenariosAndRules
Is part.BelowFeature = Has IsBelowFeature
Is part.UntaggedFeature = Has IsUntaggedFeature
Is part.Feature = Has IsFeature
Is part.SpokenGap = Has IsSpokenGap
Is part.Opening = Has (Bare IsOpening)
Is part.FeatureText = Has IsWithFeature

-- ---- rules

-- how the lines of a part are cut
abbrev pub rule_of : Part → Production
rule_of part.PlainGap = rule.Lines
rule_of part.EnglishLine = rule.Lines
rule_of part.TagLine = rule.Lines
rule_of part.StepLine = rule.Lines
rule_of (part.Row count) = rule.Lines
rule_of (part.Heading b) = rule.Lines
rule_of part.DocString = rule.Lines
rule_of (part.Rows count) = rule.Many (part.Row count)
rule_of part.Table = rule.EqualRows
rule_of part.Argument = rule.Either part.Table part.DocString
rule_of part.MaybeArgument = rule.Maybe part.Argument
rule_of part.Step = rule.Both part.StepLine part.MaybeArgument
rule_of part.Steps = rule.Many part.Step
rule_of part.TagLines = rule.Many part.TagLine
rule_of part.MaybeTable = rule.Maybe part.Table
rule_of part.UntaggedExamples = rule.Both (part.Heading block.Examples) part.MaybeTable
rule_of part.Examples = rule.Both part.TagLines part.UntaggedExamples
rule_of part.ExamplesBlocks = rule.Many part.Examples
rule_of part.BelowScenario = rule.Both part.Steps part.ExamplesBlocks
rule_of part.UntaggedScenario = rule.Both (part.Heading block.Scenario) part.BelowScenario
rule_of part.Scenario = rule.Both part.TagLines part.UntaggedScenario
rule_of part.Scenarios = rule.Many part.Scenario
rule_of part.Background = rule.Both (part.Heading block.Background) part.Steps
rule_of part.MaybeBackground = rule.Maybe part.Background
rule_of part.BelowRule = rule.Both part.MaybeBackground part.Scenarios
rule_of part.UntaggedRule = rule.Both (part.Heading block.Rule) part.BelowRule
rule_of part.Rule = rule.Both part.TagLines part.UntaggedRule
rule_of part.Rules = rule.Many part.Rule
rule_of part.ScenariosAndRules = rule.Both part.Scenarios part.Rules
rule_of part.BelowFeature = rule.Both part.MaybeBackground part.ScenariosAndRules
rule_of part.UntaggedFeature = rule.Both (part.Heading block.Feature) part.BelowFeature
rule_of part.Feature = rule.Both part.TagLines part.UntaggedFeature
rule_of part.SpokenGap = rule.Both part.PlainGap part.EnglishLine
rule_of part.Opening = rule.Either part.PlainGap part.SpokenGap
rule_of part.FeatureText = rule.Both part.Opening part.Feature

-- The lines of a rule's parts: how long the front is at least, the front, and the rest.
pub record Cut (least : ℕ) (P Q : List Line → Type 0) (ls : List Line) : Type 0 where
  pub front : List Line
  pub back : List Line
  pub cut : ls ≡ front ++ back
  pub long : least ≤ length front
  pub first : P front
  pub second : Q back

-- the first line is a row of so many cells
abbrev pub BeginsWithRow : ℕ → List Line → Type 0
BeginsWithRow count [] = ⊥
BeginsWithRow count (l ∷ ls) = kind_of l ≡ kind.Row count

-- what a rule says of the lines of a part
abbrev pub Means : Part → Production → List Line → Type 0
Means p rule.Lines ls = Is p ls
Means p (rule.Either a b) ls = Is a ls ⊎ Is b ls
Means p (rule.Maybe a) ls = (ls ≡ []) ⊎ Is a ls
Means p (rule.Both a b) ls = Cut 0 (Is a) (Is b) ls
Means p (rule.Many a) ls = (ls ≡ []) ⊎ Cut 1 (Is a) (Is p) ls
Means p rule.EqualRows ls = (count : ℕ) × BeginsWithRow count ls × Is (part.Rows count) ls
