-- The measure of the plain program: a part's rule names parts of lower rank.
use Rattle.std.proofs.Common.{◌<◌, ℕ, lit<}
use Rattle.gk_plain.specs.declared.plain.Part.{Part}
use Rattle.gk_plain.specs.declared.plain.Part.TheVariants as part
use Rattle.gk_plain.specs.declared.plain.Production.{Production}
use Rattle.gk_plain.specs.declared.plain.Production.TheVariants as rule
use Rattle.gk_plain.specs.Plain.{rule_of}

abbrev pub rank : Part → ℕ
rank part.PlainGap = 0
rank part.EnglishLine = 1
rank part.TagLine = 2
rank part.StepLine = 3
rank (part.Row x) = 4
rank (part.Heading x) = 5
rank part.DocString = 6
rank (part.Rows x) = 7
rank part.Table = 8
rank part.Argument = 9
rank part.MaybeArgument = 10
rank part.Step = 11
rank part.Steps = 12
rank part.TagLines = 13
rank part.MaybeTable = 14
rank part.UntaggedExamples = 15
rank part.Examples = 16
rank part.ExamplesBlocks = 17
rank part.BelowScenario = 18
rank part.UntaggedScenario = 19
rank part.Scenario = 20
rank part.Scenarios = 21
rank part.Background = 22
rank part.MaybeBackground = 23
rank part.BelowRule = 24
rank part.UntaggedRule = 25
rank part.Rule = 26
rank part.Rules = 27
rank part.ScenariosAndRules = 28
rank part.BelowFeature = 29
rank part.UntaggedFeature = 30
rank part.Feature = 31
rank part.SpokenGap = 32
rank part.Opening = 33
rank part.FeatureText = 34

-- the parts that a rule names are of lower rank
abbrev pub Falls : ℕ → Production → Type 0
Falls n rule.Lines = Unit {0}
Falls n (rule.Either a b) = (rank a < n) × (rank b < n)
Falls n (rule.Maybe a) = rank a < n
Falls n (rule.Both a b) = (rank a < n) × (rank b < n)
Falls n (rule.Many a) = rank a < n
Falls n rule.EqualRows = (count : ℕ) → rank (part.Rows count) < n

pub falls : (p : Part) → Falls (rank p) (rule_of p)
falls part.PlainGap = tt
falls part.EnglishLine = tt
falls part.TagLine = tt
falls part.StepLine = tt
falls (part.Row x) = tt
falls (part.Heading x) = tt
falls part.DocString = tt
falls (part.Rows x) = lit< tt
falls part.Table = λ count. lit< tt
falls part.Argument = (lit< tt, lit< tt)
falls part.MaybeArgument = lit< tt
falls part.Step = (lit< tt, lit< tt)
falls part.Steps = lit< tt
falls part.TagLines = lit< tt
falls part.MaybeTable = lit< tt
falls part.UntaggedExamples = (lit< tt, lit< tt)
falls part.Examples = (lit< tt, lit< tt)
falls part.ExamplesBlocks = lit< tt
falls part.BelowScenario = (lit< tt, lit< tt)
falls part.UntaggedScenario = (lit< tt, lit< tt)
falls part.Scenario = (lit< tt, lit< tt)
falls part.Scenarios = lit< tt
falls part.Background = (lit< tt, lit< tt)
falls part.MaybeBackground = lit< tt
falls part.BelowRule = (lit< tt, lit< tt)
falls part.UntaggedRule = (lit< tt, lit< tt)
falls part.Rule = (lit< tt, lit< tt)
falls part.Rules = lit< tt
falls part.ScenariosAndRules = (lit< tt, lit< tt)
falls part.BelowFeature = (lit< tt, lit< tt)
falls part.UntaggedFeature = (lit< tt, lit< tt)
falls part.Feature = (lit< tt, lit< tt)
falls part.SpokenGap = (lit< tt, lit< tt)
falls part.Opening = (lit< tt, lit< tt)
falls part.FeatureText = (lit< tt, lit< tt)
