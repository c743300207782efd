-- Two documents of one skeleton, compared part by part: lines, language, keywords, names, texts of steps, names of tags,
-- values of cells, and contents and media types of doc strings.
use Rattle.std.specs.Prelude.{◌==◌, ◌&&◌, Bool, false}
use Rattle.std.specs.Str.{bytes_eq}
use Rattle.gk_document.specs.declared.tree.Cell.{Cell}
use Rattle.gk_document.specs.declared.tree.Location.{Location}
use Rattle.gk_document.specs.declared.tree.Tag.{Tag}
use Rattle.gk_document.specs.declared.tree.Row.{Row}
use Rattle.gk_document.specs.declared.tree.DocString.{DocString}
use Rattle.gk_document.specs.declared.tree.Argument.{Argument}
use Rattle.gk_document.specs.declared.tree.Argument.TheVariants.{Table, Text}
use Rattle.gk_document.specs.declared.tree.Step.{Step}
use Rattle.gk_document.specs.declared.tree.Background.{Background}
use Rattle.gk_document.specs.declared.tree.ExampleTable.{ExampleTable}
use Rattle.gk_document.specs.declared.tree.Examples.{Examples}
use Rattle.gk_document.specs.declared.tree.Scenario.{Scenario}
use Rattle.gk_document.specs.declared.tree.Rule.{Rule}
use Rattle.gk_document.specs.declared.tree.Feature.{Feature}
use Rattle.gk_document.specs.declared.tree.Document.{Document}
use Rattle.cm_stream.specs.Texts.{same_list, same_option}

abbrev pub same_line : Location → Location → Bool
same_line a b = a.line == b.line

abbrev pub same_tag : Tag → Tag → Bool
same_tag a b = same_line a.location b.location && bytes_eq a.name b.name

abbrev pub same_cell : Cell → Cell → Bool
same_cell a b = bytes_eq a.value b.value

abbrev pub same_row : Row → Row → Bool
same_row a b = same_line a.location b.location && same_list same_cell a.cells b.cells

abbrev pub same_doc_string : DocString → DocString → Bool
same_doc_string a b =
    same_line a.location b.location && same_option bytes_eq a.media b.media
    && bytes_eq a.content b.content

abbrev pub same_step_argument : Argument → Argument → Bool
same_step_argument (Table a) (Table b) = same_list same_row a b
same_step_argument (Text a) (Text b) = same_doc_string a b
same_step_argument _ _ = false

abbrev pub same_step : Step → Step → Bool
same_step a b =
    same_line a.location b.location && bytes_eq a.keyword b.keyword && bytes_eq a.text b.text
    && same_option same_step_argument a.argument b.argument

abbrev pub same_background : Background → Background → Bool
same_background a b =
    same_line a.location b.location && bytes_eq a.keyword b.keyword && bytes_eq a.name b.name
    && same_list same_step a.steps b.steps

abbrev pub same_table : ExampleTable → ExampleTable → Bool
same_table a b = same_row a.header b.header && same_list same_row a.body b.body

abbrev pub same_examples : Examples → Examples → Bool
same_examples a b =
    same_line a.location b.location && same_list same_tag a.tags b.tags
    && bytes_eq a.keyword b.keyword && bytes_eq a.name b.name
    && same_option same_table a.table b.table

abbrev pub same_scenario : Scenario → Scenario → Bool
same_scenario a b =
    same_line a.location b.location && same_list same_tag a.tags b.tags
    && bytes_eq a.keyword b.keyword && bytes_eq a.name b.name
    && same_list same_step a.steps b.steps && same_list same_examples a.examples b.examples

abbrev pub same_rule : Rule → Rule → Bool
same_rule a b =
    same_line a.location b.location && same_list same_tag a.tags b.tags
    && bytes_eq a.keyword b.keyword && bytes_eq a.name b.name
    && same_option same_background a.background b.background
    && same_list same_scenario a.scenarios b.scenarios

abbrev pub same_feature : Feature → Feature → Bool
same_feature a b =
    same_line a.location b.location && same_list same_tag a.tags b.tags
    && bytes_eq a.language b.language && bytes_eq a.keyword b.keyword && bytes_eq a.name b.name
    && same_option same_background a.background b.background
    && same_list same_scenario a.scenarios b.scenarios && same_list same_rule a.rules b.rules

unfoldable pub same_skeleton : Document → Document → Bool
same_skeleton a b = same_option same_feature a.feature b.feature
