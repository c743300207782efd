-- Small texts from their characters to their trees and faults, computed.
use Rattle.std.proofs.Common.{◌≡◌, ℕ, ◌+◌, List, [], ◌∷◌, length, Option, Some, None, Result, Ok, Err, refl}
use Rattle.std.specs.Prelude.{codes, map}
use Rattle.std.specs.List.{flat_map}
use Rattle.std.specs.Str as str
use Rattle.gk_line.specs.Lines as lines
use Rattle.gk_line.specs.Tokens as tokens
use Rattle.gk_line.specs.Texts as texts
use Rattle.gk_line.specs.Cells as cells
use Rattle.gk_line.specs.Tags as tags
use Rattle.gk_line.specs.DocStrings as doc_strings
use Rattle.gk_document.specs.declared.tree.Argument.TheVariants.{Text as Quoted}
use Rattle.gk_grammar.specs.declared.fault.FaultKind.{FaultKind}
use Rattle.gk_grammar.specs.declared.fault.FaultKind.TheVariants as kind
use Rattle.gk_grammar.specs.Token.{Utf8, token_of}
use Rattle.gk_grammar.specs.Tree as tree
use Rattle.gk_grammar.specs.Grammar.{at, Node, feature_nodes}
use Rattle.gk_grammar.specs.Documents as documents
use Rattle.gk_grammar.specs.Machine.{FlatBlock, State, PlacedFault, run, blocks_at_end, initial_state}
use Rattle.gk_grammar.specs.Assembly.{document_of}

-- what a text comes to: its nodes with their places, and the places of its comments; or its fault
data Outcome : Type 0 where
  Whole : List Node → List tree.Location → Outcome
  Fault : FaultKind → (line column : ℕ) → Outcome

abbrev ended : State → (lines : ℕ) → Option (List FlatBlock) → Outcome
ended s n None = Fault kind.UnexpectedEnd (n + 1) 1
ended s n (Some last) = Whole (feature_nodes (document_of s last).feature) (map (λ (c : tree.Comment). c.location) s.comments)

abbrev seen : (lines : ℕ) → Result State PlacedFault → Outcome
seen n (Ok s) = ended s n (blocks_at_end s.phase)
seen n (Err b) = Fault b.kind b.line b.column

abbrev outcome : List ℕ → Outcome
outcome text = seen (length (documents.lines_read text)) (run initial_state (documents.lines_read text))

-- the feature of a text, where it has one
abbrev option_list : {A : Type 0} → Option A → List A
option_list None = []
option_list (Some x) = x ∷ []

abbrev last_feature : State → Option (List FlatBlock) → List tree.Feature
last_feature s None = []
last_feature s (Some last) = option_list (document_of s last).feature

abbrev run_features : Result State PlacedFault → List tree.Feature
run_features (Ok s) = last_feature s (blocks_at_end s.phase)
run_features (Err b) = []

abbrev features : List ℕ → List tree.Feature
features text = run_features (run initial_state (documents.lines_read text))

-- the contents of its doc strings below scenarios
abbrev argument_content : Option tree.Argument → List Utf8
argument_content (Some (Quoted d)) = d.content ∷ []
argument_content _ = []

abbrev contents : List ℕ → List Utf8
contents text = flat_map (λ (f : tree.Feature). flat_map (λ (s : tree.Scenario). flat_map (λ (t : tree.Step). argument_content t.argument) s.steps) f.scenarios) (features text)

-- the empty text
empty : outcome (codes "") ≡ Whole [] []
unfolding documents.lines_read lines.lines_of lines.numbered_lines lines.without_mark str.chars token_of tokens.is_blank_line tokens.begins_by texts.after texts.text_after_indent texts.first_some tokens.title_of tokens.step_of tokens.fence_of tokens.language_of tokens.indent_of lib.Utf8.encode texts.trimmed_text cells.cells_of cells.units tags.tags_of tags.tag_pieces tags.spaced_piece tags.uncommented_line doc_strings.doc_line_of doc_strings.outdented_line
empty = refl

-- another language than English
other_language : outcome (codes "# language: fr\nFeature: x") ≡ Fault kind.UnsupportedLanguage 1 1
unfolding documents.lines_read lines.lines_of lines.numbered_lines lines.without_mark str.chars token_of tokens.is_blank_line tokens.begins_by texts.after texts.text_after_indent texts.first_some tokens.title_of tokens.step_of tokens.fence_of tokens.language_of tokens.indent_of lib.Utf8.encode texts.trimmed_text cells.cells_of cells.units tags.tags_of tags.tag_pieces tags.spaced_piece tags.uncommented_line doc_strings.doc_line_of doc_strings.outdented_line
other_language = refl

-- a language line after the feature line is a comment
language_after_feature : outcome (codes "Feature: x\n# language: fr") ≡ Whole [] (at 2 1 ∷ [])
unfolding documents.lines_read lines.lines_of lines.numbered_lines lines.without_mark str.chars token_of tokens.is_blank_line tokens.begins_by texts.after texts.text_after_indent texts.first_some tokens.title_of tokens.step_of tokens.fence_of tokens.language_of tokens.indent_of lib.Utf8.encode texts.trimmed_text cells.cells_of cells.units tags.tags_of tags.tag_pieces tags.spaced_piece tags.uncommented_line doc_strings.doc_line_of doc_strings.outdented_line
language_after_feature = refl

-- the language line that counts is no comment
language_that_counts : outcome (codes "# language: en\nFeature: f") ≡ Whole [] []
unfolding documents.lines_read lines.lines_of lines.numbered_lines lines.without_mark str.chars token_of tokens.is_blank_line tokens.begins_by texts.after texts.text_after_indent texts.first_some tokens.title_of tokens.step_of tokens.fence_of tokens.language_of tokens.indent_of lib.Utf8.encode texts.trimmed_text cells.cells_of cells.units tags.tags_of tags.tag_pieces tags.spaced_piece tags.uncommented_line doc_strings.doc_line_of doc_strings.outdented_line
language_that_counts = refl

-- a language line alone
language_alone : outcome (codes "# language: en") ≡ Fault kind.UnexpectedEnd 2 1
unfolding documents.lines_read lines.lines_of lines.numbered_lines lines.without_mark str.chars token_of tokens.is_blank_line tokens.begins_by texts.after texts.text_after_indent texts.first_some tokens.title_of tokens.step_of tokens.fence_of tokens.language_of tokens.indent_of lib.Utf8.encode texts.trimmed_text cells.cells_of cells.units tags.tags_of tags.tag_pieces tags.spaced_piece tags.uncommented_line doc_strings.doc_line_of doc_strings.outdented_line
language_alone = refl

-- a step and a row in the description of a feature are text
text_in_description : map (λ (f : tree.Feature). f.description) (features (codes "Feature: f\n  Given x\n  | a |")) ≡ codes "  Given x\n  | a |" ∷ []
unfolding documents.lines_read lines.lines_of lines.numbered_lines lines.without_mark str.chars token_of tokens.is_blank_line tokens.begins_by texts.after texts.text_after_indent texts.first_some tokens.title_of tokens.step_of tokens.fence_of tokens.language_of tokens.indent_of lib.Utf8.encode texts.trimmed_text cells.cells_of cells.units tags.tags_of tags.tag_pieces tags.spaced_piece tags.uncommented_line doc_strings.doc_line_of doc_strings.outdented_line
text_in_description = refl

-- a step before the feature
step_first : outcome (codes "Given x\nFeature: f") ≡ Fault kind.Unexpected 1 1
unfolding documents.lines_read lines.lines_of lines.numbered_lines lines.without_mark str.chars token_of tokens.is_blank_line tokens.begins_by texts.after texts.text_after_indent texts.first_some tokens.title_of tokens.step_of tokens.fence_of tokens.language_of tokens.indent_of lib.Utf8.encode texts.trimmed_text cells.cells_of cells.units tags.tags_of tags.tag_pieces tags.spaced_piece tags.uncommented_line doc_strings.doc_line_of doc_strings.outdented_line
step_first = refl

-- a background, its steps and a scenario
background_numbers : outcome (codes "Feature: f\n  Background:\n    Given a\n    And b\n  Scenario: s") ≡ Whole ((at 2 3, 0) ∷ (at 3 5, 1) ∷ (at 4 5, 2) ∷ (at 5 3, 3) ∷ []) []
unfolding documents.lines_read lines.lines_of lines.numbered_lines lines.without_mark str.chars token_of tokens.is_blank_line tokens.begins_by texts.after texts.text_after_indent texts.first_some tokens.title_of tokens.step_of tokens.fence_of tokens.language_of tokens.indent_of lib.Utf8.encode texts.trimmed_text cells.cells_of cells.units tags.tags_of tags.tag_pieces tags.spaced_piece tags.uncommented_line doc_strings.doc_line_of doc_strings.outdented_line
background_numbers = refl

-- tags at the end, also a tag line without a tag
tag_alone : outcome (codes "Feature: f\n  Scenario: s\n@t") ≡ Fault kind.UnexpectedEnd 4 1
unfolding documents.lines_read lines.lines_of lines.numbered_lines lines.without_mark str.chars token_of tokens.is_blank_line tokens.begins_by texts.after texts.text_after_indent texts.first_some tokens.title_of tokens.step_of tokens.fence_of tokens.language_of tokens.indent_of lib.Utf8.encode texts.trimmed_text cells.cells_of cells.units tags.tags_of tags.tag_pieces tags.spaced_piece tags.uncommented_line doc_strings.doc_line_of doc_strings.outdented_line
tag_alone = refl

-- a tag line without a tag is allowed where a tag line is
at_sign_alone : outcome (codes "Feature: f\n@") ≡ Fault kind.UnexpectedEnd 3 1
unfolding documents.lines_read lines.lines_of lines.numbered_lines lines.without_mark str.chars token_of tokens.is_blank_line tokens.begins_by texts.after texts.text_after_indent texts.first_some tokens.title_of tokens.step_of tokens.fence_of tokens.language_of tokens.indent_of lib.Utf8.encode texts.trimmed_text cells.cells_of cells.units tags.tags_of tags.tag_pieces tags.spaced_piece tags.uncommented_line doc_strings.doc_line_of doc_strings.outdented_line
at_sign_alone = refl

-- white space in a tag
space_in_tag : outcome (codes "  @a b\nFeature: f") ≡ Fault kind.TagSpace 1 3
unfolding documents.lines_read lines.lines_of lines.numbered_lines lines.without_mark str.chars token_of tokens.is_blank_line tokens.begins_by texts.after texts.text_after_indent texts.first_some tokens.title_of tokens.step_of tokens.fence_of tokens.language_of tokens.indent_of lib.Utf8.encode texts.trimmed_text cells.cells_of cells.units tags.tags_of tags.tag_pieces tags.spaced_piece tags.uncommented_line doc_strings.doc_line_of doc_strings.outdented_line
space_in_tag = refl

-- a row of another count than the first
other_count : outcome (codes "Feature: f\n  Scenario: s\n    Given t\n      | a | b |\n      | a | b | c |") ≡ Fault kind.CellCount 5 7
unfolding documents.lines_read lines.lines_of lines.numbered_lines lines.without_mark str.chars token_of tokens.is_blank_line tokens.begins_by texts.after texts.text_after_indent texts.first_some tokens.title_of tokens.step_of tokens.fence_of tokens.language_of tokens.indent_of lib.Utf8.encode texts.trimmed_text cells.cells_of cells.units tags.tags_of tags.tag_pieces tags.spaced_piece tags.uncommented_line doc_strings.doc_line_of doc_strings.outdented_line
other_count = refl

-- the content of a doc string, with a line of less indent and escaped fences
doc_string_content : contents (codes "Feature: f\n  Scenario: s\n    Given d\n    \"\"\"\n  x\n    y \\\"\\\"\\\" z\n      w\n    \"\"\"") ≡ codes "x\ny \"\"\" z\n  w" ∷ []
unfolding documents.lines_read lines.lines_of lines.numbered_lines lines.without_mark str.chars token_of tokens.is_blank_line tokens.begins_by texts.after texts.text_after_indent texts.first_some tokens.title_of tokens.step_of tokens.fence_of tokens.language_of tokens.indent_of lib.Utf8.encode texts.trimmed_text cells.cells_of cells.units tags.tags_of tags.tag_pieces tags.spaced_piece tags.uncommented_line doc_strings.doc_line_of doc_strings.outdented_line
doc_string_content = refl

-- a doc string that isn't closed
open_doc_string : outcome (codes "Feature: f\n  Scenario: s\n    Given d\n    \"\"\"\n  x\n    y \\\"\\\"\\\" z\n      w") ≡ Fault kind.UnexpectedEnd 8 1
unfolding documents.lines_read lines.lines_of lines.numbered_lines lines.without_mark str.chars token_of tokens.is_blank_line tokens.begins_by texts.after texts.text_after_indent texts.first_some tokens.title_of tokens.step_of tokens.fence_of tokens.language_of tokens.indent_of lib.Utf8.encode texts.trimmed_text cells.cells_of cells.units tags.tags_of tags.tag_pieces tags.spaced_piece tags.uncommented_line doc_strings.doc_line_of doc_strings.outdented_line
open_doc_string = refl

-- tags, a rule with a background, and an outline: twelve nodes
rule_with_outline : outcome (codes "@f\nFeature: f\n  Rule: r\n    Background:\n      Given b\n    @s @s\n    Scenario Outline: <n> o\n      And c\n      @e\n      Examples:\n        | n |\n        | 1 |") ≡ Whole ((at 1 1, 0) ∷ (at 3 3, 1) ∷ (at 4 5, 2) ∷ (at 5 7, 3) ∷ (at 6 5, 4) ∷ (at 6 8, 5) ∷ (at 7 5, 6) ∷ (at 8 7, 7) ∷ (at 9 7, 8) ∷ (at 10 7, 9) ∷ (at 11 9, 10) ∷ (at 12 9, 11) ∷ []) []
unfolding documents.lines_read lines.lines_of lines.numbered_lines lines.without_mark str.chars token_of tokens.is_blank_line tokens.begins_by texts.after texts.text_after_indent texts.first_some tokens.title_of tokens.step_of tokens.fence_of tokens.language_of tokens.indent_of lib.Utf8.encode texts.trimmed_text cells.cells_of cells.units tags.tags_of tags.tag_pieces tags.spaced_piece tags.uncommented_line doc_strings.doc_line_of doc_strings.outdented_line
rule_with_outline = refl
