-- Comparing part by part comes to equal skeletons.
use Rattle.std.proofs.Common.{◌≡◌, ℕ, refl, ap, [], true, ◌==◌, map, arith}
use Rattle.std.specs.Str.{bytes_eq}
use Rattle.std.proofs.lemmas.Bool.Decides.{nat_tests}
use Rattle.std.proofs.lemmas.Bool.{eqb-true}
use Rattle.gk_document.specs.declared.tree.Cell.{Cell}
use Rattle.gk_document.specs.declared.tree.Fence.TheVariants.{Quotes}
use Rattle.gk_document.specs.declared.tree.KeywordType.TheVariants.{Unknown}
use Rattle.gk_document.specs.declared.tree.Location.{Location}
use Rattle.gk_document.specs.declared.tree.Tag.{Tag}
use Rattle.gk_document.specs.declared.tree.Row.{Row}
use Rattle.gk_document.specs.declared.tree.DocString.{DocString}
use Rattle.gk_document.specs.declared.tree.Argument.{Argument}
use Rattle.gk_document.specs.declared.tree.Argument.TheVariants.{Table, Text as Quoted}
use Rattle.gk_document.specs.declared.tree.Step.{Step}
use Rattle.gk_document.specs.declared.tree.Background.{Background}
use Rattle.gk_document.specs.declared.tree.ExampleTable.{ExampleTable}
use Rattle.gk_document.specs.declared.tree.Examples.{Examples}
use Rattle.gk_document.specs.declared.tree.Scenario.{Scenario}
use Rattle.gk_document.specs.declared.tree.Rule.{Rule}
use Rattle.gk_document.specs.declared.tree.Feature.{Feature}
use Rattle.gk_document.specs.declared.tree.Document.{Document}
use Rattle.gk_document.specs.Skeleton.{line_alone, bare_tag, bare_cell, bare_row, bare_doc_string, bare_argument, bare_step, bare_background, bare_table, bare_examples, bare_scenario, bare_rule, bare_feature, skeleton}
use Rattle.cm_stream.specs.Texts.{same_list, same_option}
use Rattle.cm_stream.specs.Skeleton.{same_line, same_tag, same_cell, same_row, same_doc_string, same_step_argument, same_step, same_background, same_table, same_examples, same_scenario, same_rule, same_feature, same_skeleton}
use Rattle.cm_stream.proofs.Lists.{and_true}
use Rattle.cm_stream.proofs.Found.{bytes_are}
use Rattle.cm_stream.proofs.Tells.{Tells, eight, five, four, lists, maybe_texts, options, six, texts, three}

number_same : (m n : ℕ) → m ≡ n → (m == n) ≡ true
number_same m n e = grind (arith, nat_tests, e)

lines : Tells same_line line_alone line_alone
lines = record { is = λ a b h. let l = eqb-true a.line b.line h in λ i. record { line = l i; column = 0 }; by = λ a b e. number_same a.line b.line (ap (λ (x : Location). x.line) e) }

-- ---- the parts of a tree

tags : Tells same_tag bare_tag bare_tag
tags = record {
  is = λ a b h. let k = and_true (same_line a.location b.location) (bytes_eq a.name b.name) h in let l = lines.is a.location b.location k.0 in let n = bytes_are a.name b.name k.1 in λ i. record { node = 0; location = l i; name = n i };
  by = λ a b e. rw (lines.by a.location b.location (ap (λ (x : Tag). x.location) e), texts.by a.name b.name (ap (λ (x : Tag). x.name) e)) refl;
}

cells : Tells same_cell bare_cell bare_cell
cells = record {
  is = λ a b h. let v = bytes_are a.value b.value h in λ i. record { value = v i; column = 0 };
  by = λ a b e. texts.by a.value b.value (ap (λ (x : Cell). x.value) e);
}

rows : Tells same_row bare_row bare_row
rows = record {
  is = λ a b h.
      let k = and_true (same_line a.location b.location) (same_list same_cell a.cells b.cells) h in
      let l = lines.is a.location b.location k.0 in
      let c = (lists cells).is a.cells b.cells k.1 in
      λ i. record { node = 0; location = l i; cells = c i };
  by = λ a b e. rw (lines.by a.location b.location (ap (λ (x : Row). x.location) e), (lists cells).by a.cells b.cells (ap (λ (x : Row). x.cells) e)) refl;
}

doc_strings : Tells same_doc_string bare_doc_string bare_doc_string
doc_strings = record {
  is = λ a b h.
      let k = three (same_line a.location b.location) (same_option bytes_eq a.media b.media) (bytes_eq a.content b.content) h in
      let l = lines.is a.location b.location k.0 in
      let t = maybe_texts.is a.media b.media k.1 in
      let c = bytes_are a.content b.content k.2 in
      λ i. record { location = l i; media = t i; content = c i; fence = Quotes };
  by = λ a b e. rw (
    lines.by a.location b.location (ap (λ (x : DocString). x.location) e),
    maybe_texts.by a.media b.media (ap (λ (x : DocString). x.media) e),
    texts.by a.content b.content (ap (λ (x : DocString). x.content) e),
  ) refl;
}

arguments : Tells same_step_argument bare_argument bare_argument
arguments = record { is = are; by = back }
  where
    are : (a b : Argument) → same_step_argument a b ≡ true → bare_argument a ≡ bare_argument b
    are (Table a) (Table b) h = ap Table ((lists rows).is a b h)
    are (Quoted a) (Quoted b) h = ap Quoted (doc_strings.is a b h)
    are (Table a) (Quoted b) h = cc
    are (Quoted a) (Table b) h = cc

    back : (a b : Argument) → bare_argument a ≡ bare_argument b → same_step_argument a b ≡ true
    back (Table a) (Table b) e = let first : map bare_row a ≡ map bare_row b = cc in (lists rows).by a b first
    back (Quoted a) (Quoted b) e = let first : bare_doc_string a ≡ bare_doc_string b = cc in doc_strings.by a b first
    back (Table a) (Quoted b) e = cc
    back (Quoted a) (Table b) e = cc

steps : Tells same_step bare_step bare_step
steps = record {
  is = λ a b h.
      let k = four (same_line a.location b.location) (bytes_eq a.keyword b.keyword) (bytes_eq a.text b.text) (same_option same_step_argument a.argument b.argument) h in
      let l = lines.is a.location b.location k.0 in
      let w = bytes_are a.keyword b.keyword k.1 in
      let t = bytes_are a.text b.text k.2 in
      let g = (options arguments).is a.argument b.argument k.3 in
      λ i. record { node = 0; location = l i; keyword = w i; kind = Unknown; text = t i; argument = g i };
  by = λ a b e. rw (
    lines.by a.location b.location (ap (λ (x : Step). x.location) e),
    texts.by a.keyword b.keyword (ap (λ (x : Step). x.keyword) e),
    texts.by a.text b.text (ap (λ (x : Step). x.text) e),
    (options arguments).by a.argument b.argument (ap (λ (x : Step). x.argument) e),
  ) refl;
}

backgrounds : Tells same_background bare_background bare_background
backgrounds = record {
  is = λ a b h.
      let k = four (same_line a.location b.location) (bytes_eq a.keyword b.keyword) (bytes_eq a.name b.name) (same_list same_step a.steps b.steps) h in
      let l = lines.is a.location b.location k.0 in
      let w = bytes_are a.keyword b.keyword k.1 in
      let n = bytes_are a.name b.name k.2 in
      let s = (lists steps).is a.steps b.steps k.3 in
      λ i. record { node = 0; location = l i; keyword = w i; name = n i; description = []; steps = s i };
  by = λ a b e. rw (
    lines.by a.location b.location (ap (λ (x : Background). x.location) e),
    texts.by a.keyword b.keyword (ap (λ (x : Background). x.keyword) e),
    texts.by a.name b.name (ap (λ (x : Background). x.name) e),
    (lists steps).by a.steps b.steps (ap (λ (x : Background). x.steps) e),
  ) refl;
}

tables : Tells same_table bare_table bare_table
tables = record {
  is = λ a b h.
      let k = and_true (same_row a.header b.header) (same_list same_row a.body b.body) h in
      let r = rows.is a.header b.header k.0 in
      let s = (lists rows).is a.body b.body k.1 in
      λ i. record { header = r i; body = s i };
  by = λ a b e. rw (rows.by a.header b.header (ap (λ (x : ExampleTable). x.header) e), (lists rows).by a.body b.body (ap (λ (x : ExampleTable). x.body) e)) refl;
}

blocks : Tells same_examples bare_examples bare_examples
blocks = record {
  is = λ a b h.
      let k = five (same_line a.location b.location) (same_list same_tag a.tags b.tags) (bytes_eq a.keyword b.keyword) (bytes_eq a.name b.name) (same_option same_table a.table b.table) h in
      let l = lines.is a.location b.location k.0 in
      let g = (lists tags).is a.tags b.tags k.1 in
      let w = bytes_are a.keyword b.keyword k.2 in
      let n = bytes_are a.name b.name k.3 in
      let t = (options tables).is a.table b.table k.4 in
      λ i. record { node = 0; location = l i; tags = g i; keyword = w i; name = n i; description = []; table = t i };
  by = λ a b e. rw (
    lines.by a.location b.location (ap (λ (x : Examples). x.location) e),
    (lists tags).by a.tags b.tags (ap (λ (x : Examples). x.tags) e),
    texts.by a.keyword b.keyword (ap (λ (x : Examples). x.keyword) e),
    texts.by a.name b.name (ap (λ (x : Examples). x.name) e),
    (options tables).by a.table b.table (ap (λ (x : Examples). x.table) e),
  ) refl;
}

scenarios : Tells same_scenario bare_scenario bare_scenario
scenarios = record {
  is = λ a b h.
      let k = six (same_line a.location b.location) (same_list same_tag a.tags b.tags) (bytes_eq a.keyword b.keyword) (bytes_eq a.name b.name) (same_list same_step a.steps b.steps) (same_list same_examples a.examples b.examples) h in
      let l = lines.is a.location b.location k.0 in
      let g = (lists tags).is a.tags b.tags k.1 in
      let w = bytes_are a.keyword b.keyword k.2 in
      let n = bytes_are a.name b.name k.3 in
      let s = (lists steps).is a.steps b.steps k.4 in
      let x = (lists blocks).is a.examples b.examples k.5 in
      λ i. record { node = 0; location = l i; tags = g i; keyword = w i; name = n i; description = []; steps = s i; examples = x i };
  by = λ a b e. rw (
    lines.by a.location b.location (ap (λ (x : Scenario). x.location) e),
    (lists tags).by a.tags b.tags (ap (λ (x : Scenario). x.tags) e),
    texts.by a.keyword b.keyword (ap (λ (x : Scenario). x.keyword) e),
    texts.by a.name b.name (ap (λ (x : Scenario). x.name) e),
    (lists steps).by a.steps b.steps (ap (λ (x : Scenario). x.steps) e),
    (lists blocks).by a.examples b.examples (ap (λ (x : Scenario). x.examples) e),
  ) refl;
}

rules : Tells same_rule bare_rule bare_rule
rules = record {
  is = λ a b h.
      let k = six (same_line a.location b.location) (same_list same_tag a.tags b.tags) (bytes_eq a.keyword b.keyword) (bytes_eq a.name b.name) (same_option same_background a.background b.background) (same_list same_scenario a.scenarios b.scenarios) h in
      let l = lines.is a.location b.location k.0 in
      let g = (lists tags).is a.tags b.tags k.1 in
      let w = bytes_are a.keyword b.keyword k.2 in
      let n = bytes_are a.name b.name k.3 in
      let p = (options backgrounds).is a.background b.background k.4 in
      let s = (lists scenarios).is a.scenarios b.scenarios k.5 in
      λ i. record { node = 0; location = l i; tags = g i; keyword = w i; name = n i; description = []; background = p i; scenarios = s i };
  by = λ a b e. rw (
    lines.by a.location b.location (ap (λ (x : Rule). x.location) e),
    (lists tags).by a.tags b.tags (ap (λ (x : Rule). x.tags) e),
    texts.by a.keyword b.keyword (ap (λ (x : Rule). x.keyword) e),
    texts.by a.name b.name (ap (λ (x : Rule). x.name) e),
    (options backgrounds).by a.background b.background (ap (λ (x : Rule). x.background) e),
    (lists scenarios).by a.scenarios b.scenarios (ap (λ (x : Rule). x.scenarios) e),
  ) refl;
}

features : Tells same_feature bare_feature bare_feature
features = record {
  is = λ a b h.
      let k = eight (same_line a.location b.location) (same_list same_tag a.tags b.tags) (bytes_eq a.language b.language) (bytes_eq a.keyword b.keyword) (bytes_eq a.name b.name)
      (same_option same_background a.background b.background) (same_list same_scenario a.scenarios b.scenarios) (same_list same_rule a.rules b.rules) h in
      let l = lines.is a.location b.location k.0 in
      let g = (lists tags).is a.tags b.tags k.1 in
      let o = bytes_are a.language b.language k.2 in
      let w = bytes_are a.keyword b.keyword k.3 in
      let n = bytes_are a.name b.name k.4 in
      let p = (options backgrounds).is a.background b.background k.5 in
      let s = (lists scenarios).is a.scenarios b.scenarios k.6 in
      let r = (lists rules).is a.rules b.rules k.7 in
      λ i. record { location = l i; tags = g i; language = o i; keyword = w i; name = n i; description = []; background = p i; scenarios = s i; rules = r i };
  by = λ a b e. rw (
    lines.by a.location b.location (ap (λ (x : Feature). x.location) e),
    (lists tags).by a.tags b.tags (ap (λ (x : Feature). x.tags) e),
    texts.by a.language b.language (ap (λ (x : Feature). x.language) e),
    texts.by a.keyword b.keyword (ap (λ (x : Feature). x.keyword) e),
    texts.by a.name b.name (ap (λ (x : Feature). x.name) e),
    (options backgrounds).by a.background b.background (ap (λ (x : Feature). x.background) e),
    (lists scenarios).by a.scenarios b.scenarios (ap (λ (x : Feature). x.scenarios) e),
    (lists rules).by a.rules b.rules (ap (λ (x : Feature). x.rules) e),
  ) refl;
}

pub skeletons_are : (a b : Document) → same_skeleton a b ≡ true → skeleton a ≡ skeleton b
unfolding same_skeleton
skeletons_are a b h = let f = (options features).is a.feature b.feature h in λ i. record { feature = f i; comments = []; nodes = 0 }

pub same_skeletons : (a b : Document) → skeleton a ≡ skeleton b → same_skeleton a b ≡ true
unfolding same_skeleton
same_skeletons a b e = (options features).by a.feature b.feature (ap (λ (x : Document). x.feature) e)
