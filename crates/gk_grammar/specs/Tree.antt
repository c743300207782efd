-- The types of a tree, as they are declared, under one name: `tree.Row` is no token.
use Rattle.gk_document.specs.declared.tree.Location as declared_location
use Rattle.gk_document.specs.declared.tree.Tag as declared_tag
use Rattle.gk_document.specs.declared.tree.Row as declared_row
use Rattle.gk_document.specs.declared.tree.DocString as declared_docstring
use Rattle.gk_document.specs.declared.tree.Argument as declared_argument
use Rattle.gk_document.specs.declared.tree.Step as declared_step
use Rattle.gk_document.specs.declared.tree.Background as declared_background
use Rattle.gk_document.specs.declared.tree.ExampleTable as declared_exampletable
use Rattle.gk_document.specs.declared.tree.Examples as declared_examples
use Rattle.gk_document.specs.declared.tree.Scenario as declared_scenario
use Rattle.gk_document.specs.declared.tree.Rule as declared_rule
use Rattle.gk_document.specs.declared.tree.Feature as declared_feature
use Rattle.gk_document.specs.declared.tree.Comment as declared_comment
use Rattle.gk_document.specs.declared.tree.Document as declared_document

abbrev pub Location : Type 0
Location = declared_location.Location

abbrev pub Tag : Type 0
Tag = declared_tag.Tag

abbrev pub Row : Type 0
Row = declared_row.Row

abbrev pub DocString : Type 0
DocString = declared_docstring.DocString

abbrev pub Argument : Type 0
Argument = declared_argument.Argument

abbrev pub Step : Type 0
Step = declared_step.Step

abbrev pub Background : Type 0
Background = declared_background.Background

abbrev pub ExampleTable : Type 0
ExampleTable = declared_exampletable.ExampleTable

abbrev pub Examples : Type 0
Examples = declared_examples.Examples

abbrev pub Scenario : Type 0
Scenario = declared_scenario.Scenario

abbrev pub Rule : Type 0
Rule = declared_rule.Rule

abbrev pub Feature : Type 0
Feature = declared_feature.Feature

abbrev pub Comment : Type 0
Comment = declared_comment.Comment

abbrev pub Document : Type 0
Document = declared_document.Document
