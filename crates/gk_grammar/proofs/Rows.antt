-- Small texts, computed: what the grammar says in situations that are easy to get wrong.
use Rattle.std.proofs.Common.{◌≡◌, ℕ, List, [], ◌∷◌, ◌++◌, Option, Some, None, Result, Ok, Err, refl}
use Rattle.std.specs.Prelude.{map}
use Rattle.gk_document.specs.declared.tree.Cell.{Cell}
use Rattle.gk_line.specs.declared.tokens.Block.{Block}
use Rattle.gk_line.specs.declared.tokens.Block.TheVariants as block
use Rattle.gk_document.specs.declared.tree.Fence.TheVariants as fence
use Rattle.gk_document.specs.declared.tree.Fence.{Fence}
use Rattle.gk_grammar.specs.declared.fault.FaultKind.{FaultKind}
use Rattle.gk_grammar.specs.declared.fault.FaultKind.TheVariants as kind
use Rattle.gk_document.specs.declared.tree.KeywordType.TheVariants as keyword_type
use Rattle.gk_grammar.specs.Token.{Utf8, TagText, Blank, Comment, Language, Tags, Title, Step, Row, Fenced, Line, line}
use Rattle.gk_grammar.specs.Machine.{FlatBlock, State, PlacedFault, run, blocks_at_end, initial_state}

abbrev title : ℕ → ℕ → Block → Line
title n i b = line n [] i (Title b [] [])

abbrev a_step : ℕ → ℕ → Line
a_step n i = line n (71 ∷ []) i (Step (71 ∷ []) keyword_type.Context [])

abbrev a_row : ℕ → ℕ → List Cell → Line
a_row n i cells = line n (124 ∷ []) i (Row cells)

abbrev a_cell : Cell
a_cell = record { value = []; column = 1 }

abbrev a_tag : ℕ → TagText
a_tag c = record { word = 116 ∷ []; column = c }

-- what is seen of a run: the number of nodes, whether it is whole, the blocks with their numbers
data Seen : Type 0 where
  Whole : ℕ → List (Block × ℕ) → Seen
  Cut : ℕ → Seen
  Fault : FaultKind → (line column : ℕ) → Seen

abbrev seen_end : State → Option (List FlatBlock) → Seen
seen_end s (Some last) = Whole s.nodes (map (λ (c : FlatBlock). (c.block, c.node)) (s.flat_blocks ++ last))
seen_end s None = Cut s.nodes

abbrev seen : Result State PlacedFault → Seen
seen (Ok s) = seen_end s (blocks_at_end s.phase)
seen (Err b) = Fault b.kind b.line b.column

abbrev of : List Line → Seen
of ls = seen (run initial_state ls)

-- a tagged feature with a rule, its background, an outline with two tags and an examples table: twelve nodes
outline : of (
    line 1 [] 0 (Tags (Ok (a_tag 1 ∷ []))) ∷ title 2 0 block.Feature ∷ title 3 2 block.Rule ∷ title 4 4 block.Background ∷ a_step 5 6
    ∷ line 6 [] 4 (Tags (Ok (a_tag 5 ∷ a_tag 8 ∷ []))) ∷ title 7 4 block.Scenario ∷ a_step 8 6 ∷ line 9 [] 6 (Tags (Ok (a_tag 7 ∷ []))) ∷ title 10 6 block.Examples
    ∷ a_row 11 8 (a_cell ∷ []) ∷ a_row 12 8 (a_cell ∷ []) ∷ [])
    ≡ Whole 12 ((block.Feature, 1) ∷ (block.Rule, 1) ∷ (block.Background, 2) ∷ (block.Scenario, 6) ∷ (block.Examples, 9) ∷ [])
outline = refl

-- a step and a row in a feature's description
step_in_description : of (title 1 0 block.Feature ∷ a_step 2 2 ∷ a_row 3 2 (a_cell ∷ []) ∷ []) ≡ Whole 0 ((block.Feature, 0) ∷ [])
step_in_description = refl

-- a step first
too_early : of (a_step 1 0 ∷ title 2 0 block.Feature ∷ []) ≡ Fault kind.Unexpected 1 1
too_early = refl

-- a background in a scenario's description, and after its steps
background_text : of (title 1 0 block.Feature ∷ title 2 2 block.Scenario ∷ title 3 2 block.Background ∷ []) ≡ Whole 1 ((block.Feature, 0) ∷ (block.Scenario, 0) ∷ [])
background_text = refl

background_late : of (title 1 0 block.Feature ∷ title 2 2 block.Scenario ∷ a_step 3 4 ∷ title 4 2 block.Background ∷ []) ≡ Fault kind.Unexpected 4 3
background_late = refl

-- a fence after a table
fence_late : of (title 1 0 block.Feature ∷ title 2 2 block.Scenario ∷ a_step 3 4 ∷ a_row 4 4 (a_cell ∷ []) ∷ line 5 [] 4 (Fenced fence.Quotes []) ∷ []) ≡ Fault kind.Unexpected 5 5
fence_late = refl

-- cells
counts_differ : of (title 1 0 block.Feature ∷ title 2 2 block.Scenario ∷ a_step 3 4 ∷ a_row 4 6 (a_cell ∷ a_cell ∷ []) ∷ a_row 5 6 (a_cell ∷ a_cell ∷ a_cell ∷ []) ∷ []) ≡ Fault kind.CellCount 5 7
counts_differ = refl

-- a language line after tags is a comment, another language than English is refused, one alone is cut
tags_first : of (line 1 [] 0 (Tags (Ok (a_tag 1 ∷ []))) ∷ line 2 [] 0 (Language (102 ∷ 114 ∷ [])) ∷ title 3 0 block.Feature ∷ []) ≡ Whole 1 ((block.Feature, 1) ∷ [])
tags_first = refl

french : of (line 1 [] 0 (Language (102 ∷ 114 ∷ [])) ∷ title 2 0 block.Feature ∷ []) ≡ Fault kind.UnsupportedLanguage 1 1
french = refl

english_alone : of (line 1 [] 0 (Language (101 ∷ 110 ∷ [])) ∷ []) ≡ Cut 0
english_alone = refl

tags_last : of (title 1 0 block.Feature ∷ title 2 2 block.Scenario ∷ line 3 [] 0 (Tags (Ok (a_tag 1 ∷ []))) ∷ []) ≡ Cut 2
tags_last = refl

-- ---- tags

abbrev tags : ℕ → List TagText → Line
tags n words = line n [] 0 (Tags (Ok words))

abbrev spaced : ℕ → ℕ → Line
spaced n column = line n [] 0 (Tags (Err column))

abbrev comment : ℕ → Line
comment n = line n (35 ∷ []) 0 Comment

abbrev blank : ℕ → Line
blank n = line n [] 0 Blank

abbrev language : ℕ → Utf8 → Line
language n word = line n [] 0 (Language word)

abbrev fence_line : ℕ → Fence → Line
fence_line n f = line n [] 0 (Fenced f [])

-- a feature, a scenario and a step
abbrev scenario_with_step : List Line
scenario_with_step = title 1 0 block.Feature ∷ title 2 2 block.Scenario ∷ a_step 3 4 ∷ []

abbrev feature_and_scenario : List (Block × ℕ)
feature_and_scenario = (block.Feature, 0) ∷ (block.Scenario, 0) ∷ []

-- tag lines, comments and blank lines may come between tags and their block
tags_and_gap : of (title 1 0 block.Feature ∷ tags 2 (a_tag 1 ∷ []) ∷ comment 3 ∷ blank 4 ∷ tags 5 (a_tag 1 ∷ []) ∷ title 6 0 block.Scenario ∷ []) ≡ Whole 3 ((block.Feature, 0) ∷ (block.Scenario, 2) ∷ [])
tags_and_gap = refl

-- a background has no tags, and neither has a step
tagged_background : of (title 1 0 block.Feature ∷ tags 2 (a_tag 1 ∷ []) ∷ title 3 0 block.Background ∷ []) ≡ Fault kind.Unexpected 3 1
tagged_background = refl

tagged_step : of (title 1 0 block.Feature ∷ title 2 0 block.Scenario ∷ tags 3 (a_tag 1 ∷ []) ∷ a_step 4 2 ∷ []) ≡ Fault kind.Unexpected 4 3
tagged_step = refl

-- a tag line without tags is a tag line: it ends a description, and no background may follow it
no_tags_then_background : of (title 1 0 block.Feature ∷ tags 2 [] ∷ title 3 0 block.Background ∷ []) ≡ Fault kind.Unexpected 3 1
no_tags_then_background = refl

no_tags_last : of (title 1 0 block.Feature ∷ tags 2 [] ∷ []) ≡ Cut 0
no_tags_last = refl

-- white space in a tag, in a description and in a doc string
spaced_in_description : of (title 1 0 block.Feature ∷ spaced 2 3 ∷ []) ≡ Fault kind.TagSpace 2 3
spaced_in_description = refl

spaced_in_doc_string : of (scenario_with_step ++ fence_line 4 fence.Quotes ∷ spaced 5 3 ∷ fence_line 6 fence.Quotes ∷ []) ≡ Whole 2 feature_and_scenario
spaced_in_doc_string = refl

-- examples belong to a scenario alone
background_examples : of (title 1 0 block.Feature ∷ title 2 0 block.Background ∷ tags 3 (a_tag 1 ∷ []) ∷ title 4 0 block.Examples ∷ []) ≡ Fault kind.Unexpected 4 1
background_examples = refl

examples_as_text : of (title 1 0 block.Feature ∷ title 2 0 block.Background ∷ title 3 0 block.Examples ∷ []) ≡ Whole 1 ((block.Feature, 0) ∷ (block.Background, 0) ∷ [])
examples_as_text = refl

examples_after_background : of (title 1 0 block.Feature ∷ title 2 0 block.Background ∷ a_step 3 2 ∷ title 4 0 block.Examples ∷ []) ≡ Fault kind.Unexpected 4 1
examples_after_background = refl

-- ---- steps

-- comments and blank lines may come between the rows of a table
rows_and_gap : of (scenario_with_step ++ a_row 4 4 (a_cell ∷ []) ∷ comment 5 ∷ blank 6 ∷ a_row 7 4 (a_cell ∷ []) ∷ []) ≡ Whole 4 feature_and_scenario
rows_and_gap = refl

row_after_doc_string : of (scenario_with_step ++ fence_line 4 fence.Quotes ∷ fence_line 5 fence.Quotes ∷ a_row 6 4 (a_cell ∷ []) ∷ []) ≡ Fault kind.Unexpected 6 5
row_after_doc_string = refl

-- the other fence, tags and language lines inside a doc string are its content
content : of (scenario_with_step ++ fence_line 4 fence.Quotes ∷ fence_line 5 fence.Backticks ∷ tags 6 (a_tag 1 ∷ []) ∷ language 7 (102 ∷ 114 ∷ []) ∷ fence_line 8 fence.Quotes ∷ []) ≡ Whole 2 feature_and_scenario
content = refl

open_doc_string : of (scenario_with_step ++ fence_line 4 fence.Quotes ∷ fence_line 5 fence.Backticks ∷ []) ≡ Cut 2
open_doc_string = refl

-- ---- features and languages

feature_as_text : of (title 1 0 block.Feature ∷ title 2 0 block.Feature ∷ []) ≡ Whole 0 ((block.Feature, 0) ∷ [])
feature_as_text = refl

second_feature : of (scenario_with_step ++ title 4 0 block.Feature ∷ []) ≡ Fault kind.Unexpected 4 1
second_feature = refl

-- a language line after the feature line, and one after the language line, are comments
french_after_feature : of (title 1 0 block.Feature ∷ language 2 (102 ∷ 114 ∷ []) ∷ []) ≡ Whole 0 ((block.Feature, 0) ∷ [])
french_after_feature = refl

french_after_english : of (language 1 (101 ∷ 110 ∷ []) ∷ language 2 (102 ∷ 114 ∷ []) ∷ title 3 0 block.Feature ∷ []) ≡ Whole 0 ((block.Feature, 0) ∷ [])
french_after_english = refl

french_after_comment : of (comment 1 ∷ blank 2 ∷ language 3 (102 ∷ 114 ∷ []) ∷ []) ≡ Fault kind.UnsupportedLanguage 3 1
french_after_comment = refl

-- no feature at all
only_comments : of (comment 1 ∷ blank 2 ∷ []) ≡ Whole 0 []
only_comments = refl
