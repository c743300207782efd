-- Reading a feature's tree, in which the nodes have ids (Messages: GherkinDocument and its parts). A reading takes the ids
-- of the nodes before it, and gives what was read and the ids up to its end: a node's number is how many ids are before
-- its own. Columns aren't read, and are 0; nor are descriptions, comments, fences and keyword types.
use Rattle.std.specs.Prelude.{ℕ, ◌^◌, List, [], ◌∷◌, ◌++◌, length, Bool, true, false, not, ◌&&◌, ◌||◌, if◌then◌else◌, nat_lt, nat_le, max, unwrap_or, option_map, Option, Some, None, is_some, option_and_then, Result, Ok, codes}
use Rattle.serde_json.specs.Data.{Data, Items, no_items, item}
use Rattle.serde_json.specs.Find.{as_str, as_object}
use Rattle.gk_document.specs.declared.tree.Cell.{Cell}
use Rattle.gk_document.specs.declared.tree.Fence.TheVariants.{Quotes}
use Rattle.gk_document.specs.declared.tree.KeywordType.TheVariants as keyword_type
use Rattle.gk_document.specs.declared.tree.Location.{Location}
use Rattle.gk_document.specs.declared.tree.Tag.{Tag}
use Rattle.gk_document.specs.declared.tree.Row.{Row}
use Rattle.gk_document.specs.declared.tree.DocString.{DocString}
use Rattle.gk_document.specs.declared.tree.Argument.{Argument}
use Rattle.gk_document.specs.declared.tree.Argument.TheVariants.{Table, Text}
use Rattle.gk_document.specs.declared.tree.Step.{Step}
use Rattle.gk_document.specs.declared.tree.Background.{Background}
use Rattle.gk_document.specs.declared.tree.ExampleTable.{ExampleTable}
use Rattle.gk_document.specs.declared.tree.Examples.{Examples}
use Rattle.gk_document.specs.declared.tree.Scenario.{Scenario}
use Rattle.gk_document.specs.declared.tree.Rule.{Rule}
use Rattle.gk_document.specs.declared.tree.Feature.{Feature}
use Rattle.cm_envelope.specs.declared.envelope.GherkinDocument.{GherkinDocument}
use Rattle.cm_envelope.specs.declared.parts.DataTable.{DataTable}
use Rattle.cm_envelope.specs.declared.parts.Mark.{Mark}
use Rattle.cm_envelope.specs.declared.parts.Title.{Title}
use Rattle.cm_envelope.specs.declared.parts.Heading.{Heading}
use Rattle.cm_envelope.specs.declared.parts.TaggedHeading.{TaggedHeading}
use Rattle.cm_envelope.specs.declared.parts.Body.{Body}
use Rattle.cm_envelope.specs.declared.parts.FeatureHeading.{FeatureHeading}
use Rattle.cm_envelope.specs.declared.parts.FeatureBody.{FeatureBody}
use Rattle.cm_envelope.specs.Member.{◌>>=◌, NamedMember, member_of, all_items, good, required_in, required_member, nested_in, nested_member, optional_nested_in, list_of, items_in, present_member, rule, media_type_member, as_whole_number}

abbrev pub Ids : Type 0
Ids = List (List ℕ)

-- what was read, and the ids up to its end
abbrev pub NodeRead : Type 0 → Type 0
NodeRead A = Result (A × Ids) (List ℕ)

-- ---- nodes and lists of them

abbrev pub node_in : {A : Type 0} → List ℕ → (Ids → Data → NodeRead A) → Ids → Data → NodeRead A
node_in name read ids d = good name (as_object d) >>= λ members. read ids d

abbrev pub optional_node_in : {A : Type 0} → (Ids → Data → NodeRead A) → List ℕ → Ids → Option Data
    → NodeRead (Option A)
optional_node_in read name ids None = Ok (None, ids)
optional_node_in read name ids (Some d) = do
  found ← node_in name read ids d
  Ok (Some found.0, found.1)

abbrev pub optional_node : {A : Type 0} → (Ids → Data → NodeRead A) → List ℕ → Ids → Data
    → NodeRead (Option A)
optional_node read name ids d = optional_node_in read name ids (present_member name d)

abbrev pub each_node : {A : Type 0} → (Ids → Data → NodeRead A) → Ids → Items → NodeRead (List A)
each_node read ids no_items = Ok ([], ids)
each_node read ids (item d ds) = do
  first ← read ids d
  others ← each_node read first.1 ds
  Ok (first.0 ∷ others.0, others.1)

abbrev pub nodes_in : {A : Type 0} → (Ids → Data → NodeRead A) → List ℕ → Ids → Option Data
    → NodeRead (List A)
nodes_in read name ids d = items_in name d >>= each_node (node_in name read) ids

abbrev pub nodes_of : {A : Type 0} → (Ids → Data → NodeRead A) → List ℕ → Ids → Data
    → NodeRead (List A)
nodes_of read name ids d = nodes_in read name ids (present_member name d)

-- ---- the children of a feature and of a rule

abbrev pub before_items : Option Data → Items → Items
before_items None ds = ds
before_items (Some d) ds = item d ds

-- the children of one kind, in order: the items that have the member
abbrev pub children_of : List ℕ → Items → Items
children_of name no_items = no_items
children_of name (item d ds) = before_items (present_member name d) (children_of name ds)

-- the background, which is the first child where there is one
abbrev pub background_in : Items → Option Data
background_in no_items = None
background_in (item d ds) = present_member (codes "background") d

-- a child's place in the order of children, where it has exactly one of the three members
abbrev pub rank_if : Bool → Bool → Bool → Option ℕ
rank_if true false false = Some 0
rank_if false true false = Some 1
rank_if false false true = Some 2
rank_if a b c = None

-- In a rule's child, `rule` is an unknown member.
abbrev pub rank_of : Bool → Data → Option ℕ
rank_of in_feature d =
    rank_if (is_some (present_member (codes "background") d))
    (is_some (present_member (codes "scenario") d))
    (in_feature && is_some (present_member (codes "rule") d))

-- at most one background, then scenarios, then rules: no child's rank is below least, nor the later ones' below its own or 1
abbrev pub are_in_order : Bool → ℕ → Items → Bool
are_in_order in_feature least no_items = true
are_in_order in_feature least (item d ds) =
    unwrap_or (option_map (λ r. nat_le least r && are_in_order in_feature (max r 1) ds)
    (rank_of in_feature d)) false

-- the children, once each has its kind and they are in order
abbrev pub ordered_children : Bool → NamedMember → Result Items (List ℕ)
ordered_children in_feature m = do
  children ← items_in m.0 m.1
  checked ← rule m.0 (are_in_order in_feature 0 children)
  Ok children

abbrev pub children_in : Bool → Data → Result Items (List ℕ)
children_in in_feature d = ordered_children in_feature (member_of (codes "children") d)

-- ---- places, cells and doc strings

abbrev pub line_of : ℕ → Option ℕ
line_of n = if nat_lt 0 n && nat_lt n (2 ^ 32) then Some n else None

abbrev pub as_line : Data → Option ℕ
as_line d = option_and_then line_of (as_whole_number d)

abbrev pub location : Data → Result Location (List ℕ)
location d = do
  line ← required_member as_line (codes "line") d
  Ok (record { line = line; column = 0 })

abbrev pub cell : Data → Result Cell (List ℕ)
cell d = do
  value ← required_member as_str (codes "value") d
  Ok (record { value = value; column = 0 })

abbrev pub doc_string : Data → Result DocString (List ℕ)
doc_string d = do
  place ← nested_member location (codes "location") d
  content ← required_member as_str (codes "content") d
  media ← media_type_member d
  Ok (record { location = place; media = media; content = content; fence = Quotes })

-- ---- nodes

-- what a node that has an id begins with
abbrev pub mark_in : NamedMember → NamedMember → Result Mark (List ℕ)
mark_in own_id at = do
  id ← required_in as_str own_id.0 own_id.1
  place ← nested_in location at.0 at.1
  Ok (record { id = id; location = place })

abbrev pub mark : Data → Result Mark (List ℕ)
mark d = mark_in (member_of (codes "id") d) (member_of (codes "location") d)

-- the number of the node that has this id
abbrev pub node_number : List ℕ → Ids → NodeRead ℕ
node_number id ids = Ok (length ids, ids ++ id ∷ [])

abbrev pub tag : Ids → Data → NodeRead Tag
tag ids d = do
  own ← mark d
  name ← required_member as_str (codes "name") d
  node ← node_number own.id ids
  Ok (record { node = node.0; location = own.location; name = name }, node.1)

abbrev pub row : Ids → Data → NodeRead Row
row ids d = do
  own ← mark d
  cells ← list_of cell (codes "cells") d
  node ← node_number own.id ids
  Ok (record { node = node.0; location = own.location; cells = cells }, node.1)

-- without rows it is a table all the same
abbrev pub data_table : Ids → Data → NodeRead DataTable
data_table ids d = do
  rows ← nodes_of row (codes "rows") ids d
  Ok (record { rows = rows.0 }, rows.1)

abbrev pub argument_of : Option DataTable → Option DocString → Option Argument
argument_of (Some table) text = Some (Table table.rows)
argument_of None (Some text) = Some (Text text)
argument_of None None = None

-- the argument of a step
abbrev pub argument_in : NamedMember → NamedMember → Ids → NodeRead (Option Argument)
argument_in of_table of_text ids = do
  table ← optional_node_in data_table of_table.0 ids of_table.1
  checked ← rule of_text.0 (not (is_some of_table.1 && is_some of_text.1))
  content ← optional_nested_in doc_string of_text.0 of_text.1
  Ok (argument_of table.0 content, table.1)

abbrev pub argument : Ids → Data → NodeRead (Option Argument)
argument ids d = argument_in (member_of (codes "dataTable") d) (member_of (codes "docString") d) ids

-- the keyword, and the name or a step's text
abbrev pub title_in : NamedMember → NamedMember → Result Title (List ℕ)
title_in of_keyword of_text = do
  keyword ← required_in as_str of_keyword.0 of_keyword.1
  text ← required_in as_str of_text.0 of_text.1
  Ok (record { keyword = keyword; text = text })

abbrev pub title : List ℕ → Data → Result Title (List ℕ)
title name d = title_in (member_of (codes "keyword") d) (member_of name d)

-- what a step and a background begin with
abbrev pub heading_in : NamedMember → NamedMember → NamedMember → NamedMember → Ids → NodeRead Heading
heading_in own_id at of_keyword of_text ids = do
  own ← mark_in own_id at
  words ← title_in of_keyword of_text
  node ← node_number own.id ids
  Ok (record { node = node.0; location = own.location; title = words }, node.1)

abbrev pub heading : List ℕ → Ids → Data → NodeRead Heading
heading name ids d =
    heading_in (member_of (codes "id") d) (member_of (codes "location") d)
    (member_of (codes "keyword") d) (member_of name d) ids

abbrev pub step : Ids → Data → NodeRead Step
step ids d = do
  head ← heading (codes "text") ids d
  below ← argument head.1 d
  Ok (
    record {
      node = head.0.node;
      location = head.0.location;
      keyword = head.0.title.keyword;
      kind = keyword_type.Unknown;
      text = head.0.title.text;
      argument = below.0;
    },
    below.1,
  )

abbrev pub background : Ids → Data → NodeRead Background
background ids d = do
  head ← heading (codes "name") ids d
  steps ← nodes_of step (codes "steps") head.1 d
  Ok (
    record {
      node = head.0.node;
      location = head.0.location;
      keyword = head.0.title.keyword;
      name = head.0.title.text;
      description = [];
      steps = steps.0;
    },
    steps.1,
  )

abbrev pub is_empty : Items → Bool
is_empty no_items = true
is_empty (item d ds) = false

abbrev pub table_of_rows : Option Row → List Row → Option ExampleTable
table_of_rows None body = None
table_of_rows (Some header) body = Some (record { header = header; body = body })

abbrev pub is_object : Data → Bool
is_object d = is_some (as_object d)

-- Each element of the body is an object, and a body that isn't empty needs a header.
abbrev pub body_rows_in : Bool → NamedMember → Result Items (List ℕ)
body_rows_in has_header m = do
  rows ← items_in m.0 m.1
  objects ← rule m.0 (all_items is_object rows)
  checked ← rule m.0 (has_header || is_empty rows)
  Ok rows

abbrev pub body_rows : Bool → Data → Result Items (List ℕ)
body_rows has_header d = body_rows_in has_header (member_of (codes "tableBody") d)

abbrev pub example_table_in : NamedMember → NamedMember → Ids → NodeRead (Option ExampleTable)
example_table_in of_header of_body ids = do
  header ← optional_node_in row of_header.0 ids of_header.1
  rows ← body_rows_in (is_some header.0) of_body
  body ← each_node (node_in of_body.0 row) header.1 rows
  Ok (table_of_rows header.0 body.0, body.1)

abbrev pub example_table : Ids → Data → NodeRead (Option ExampleTable)
example_table ids d =
    example_table_in (member_of (codes "tableHeader") d) (member_of (codes "tableBody") d) ids

-- what an examples block, a scenario and a rule begin with
abbrev pub tagged_heading_in : NamedMember → NamedMember → NamedMember → NamedMember → NamedMember → Ids
    → NodeRead TaggedHeading
tagged_heading_in own_id at of_tags of_keyword of_name ids = do
  own ← mark_in own_id at
  tags ← nodes_in tag of_tags.0 ids of_tags.1
  words ← title_in of_keyword of_name
  node ← node_number own.id tags.1
  Ok (
    record { node = node.0; location = own.location; tags = tags.0; title = words },
    node.1,
  )

abbrev pub tagged_heading : Ids → Data → NodeRead TaggedHeading
tagged_heading ids d =
    tagged_heading_in (member_of (codes "id") d) (member_of (codes "location") d)
    (member_of (codes "tags") d) (member_of (codes "keyword") d) (member_of (codes "name") d) ids

abbrev pub examples : Ids → Data → NodeRead Examples
examples ids d = do
  head ← tagged_heading ids d
  table ← example_table head.1 d
  Ok (
    record {
      node = head.0.node;
      location = head.0.location;
      tags = head.0.tags;
      keyword = head.0.title.keyword;
      name = head.0.title.text;
      description = [];
      table = table.0;
    },
    table.1,
  )

abbrev pub scenario : Ids → Data → NodeRead Scenario
scenario ids d = do
  head ← tagged_heading ids d
  steps ← nodes_of step (codes "steps") head.1 d
  blocks ← nodes_of examples (codes "examples") steps.1 d
  Ok (
    record {
      node = head.0.node;
      location = head.0.location;
      tags = head.0.tags;
      keyword = head.0.title.keyword;
      name = head.0.title.text;
      description = [];
      steps = steps.0;
      examples = blocks.0;
    },
    blocks.1,
  )

-- the background and the scenarios among the children of a feature or a rule
abbrev pub body : Ids → Items → NodeRead Body
body ids children = do
  first ← optional_node_in background (codes "background") ids (background_in children)
  scenarios ← each_node (node_in (codes "scenario") scenario) first.1
      (children_of (codes "scenario") children)
  Ok (record { background = first.0; scenarios = scenarios.0 }, scenarios.1)

abbrev pub rule_node : Ids → Data → NodeRead Rule
rule_node ids d = do
  head ← tagged_heading ids d
  children ← children_in false d
  parts ← body head.1 children
  Ok (
    record {
      node = head.0.node;
      location = head.0.location;
      tags = head.0.tags;
      keyword = head.0.title.keyword;
      name = head.0.title.text;
      description = [];
      background = parts.0.background;
      scenarios = parts.0.scenarios;
    },
    parts.1,
  )

-- what a feature begins with, which has no id
abbrev pub feature_heading_in : NamedMember → NamedMember → NamedMember → NamedMember → NamedMember → Ids
    → NodeRead FeatureHeading
feature_heading_in at of_tags of_language of_keyword of_name ids = do
  place ← nested_in location at.0 at.1
  tags ← nodes_in tag of_tags.0 ids of_tags.1
  language ← required_in as_str of_language.0 of_language.1
  words ← title_in of_keyword of_name
  Ok (
    record { location = place; tags = tags.0; language = language; title = words },
    tags.1,
  )

abbrev pub feature_heading : Ids → Data → NodeRead FeatureHeading
feature_heading ids d =
    feature_heading_in (member_of (codes "location") d) (member_of (codes "tags") d)
    (member_of (codes "language") d) (member_of (codes "keyword") d) (member_of (codes "name") d)
    ids

-- the children of a feature, by kind
abbrev pub feature_body_in : NamedMember → Ids → NodeRead FeatureBody
feature_body_in m ids = do
  children ← ordered_children true m
  parts ← body ids children
  rules ← each_node (node_in (codes "rule") rule_node) parts.1
      (children_of (codes "rule") children)
  Ok (record { body = parts.0; rules = rules.0 }, rules.1)

abbrev pub feature_body : Ids → Data → NodeRead FeatureBody
feature_body ids d = feature_body_in (member_of (codes "children") d) ids

abbrev pub feature : Ids → Data → NodeRead Feature
feature ids d = do
  head ← feature_heading ids d
  below ← feature_body head.1 d
  Ok (
    record {
      location = head.0.location;
      tags = head.0.tags;
      language = head.0.language;
      keyword = head.0.title.keyword;
      name = head.0.title.text;
      description = [];
      background = below.0.body.background;
      scenarios = below.0.body.scenarios;
      rules = below.0.rules;
    },
    below.1,
  )

-- the tree and the ids of its nodes in their order
abbrev pub gherkin_document : Data → Result GherkinDocument (List ℕ)
gherkin_document d = do
  uri ← required_member as_str (codes "uri") d
  top ← optional_node feature (codes "feature") [] d
  Ok (record {
    uri = uri;
    document = record {
      feature = top.0;
      comments = [];
      nodes = length top.1;
    };
    ids = top.1;
  })
