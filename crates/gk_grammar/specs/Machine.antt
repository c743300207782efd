-- How one pass over the lines goes: a state that is finite but for the tree under construction. The grammar needs none of
-- this; a parser is proved to take these steps, and these steps to take exactly the texts of the grammar.
use Rattle.std.specs.Prelude.{ℕ, ◌+◌, Bool, true, false, List, [], ◌∷◌, ◌++◌, map, length, Option, Some, None, Result, Ok, Err, ◌==◌, if◌then◌else◌, codes}
use Rattle.gk_line.specs.Characters.{line_feed}
use Rattle.gk_document.specs.declared.tree.Cell.{Cell}
use Rattle.gk_line.specs.declared.tokens.Block.{Block}
use Rattle.gk_line.specs.declared.tokens.Block.TheVariants as block
use Rattle.gk_document.specs.MediaType.{unless_empty}
use Rattle.gk_document.specs.declared.tree.Fence.{Fence}
use Rattle.gk_document.specs.declared.tree.KeywordType.{KeywordType}
use Rattle.gk_grammar.specs.declared.fault.FaultKind.{FaultKind}
use Rattle.gk_grammar.specs.declared.fault.FaultKind.TheVariants as kind
use Rattle.gk_grammar.specs.Token.{Utf8, TagText, Blank, Comment, Language, Tags, Title, Step, Row, Fenced, Line, line}
use Rattle.gk_grammar.specs.Tree as tree
use Rattle.gk_grammar.specs.Tree.{Location, Tag, DocString, Argument}
use Rattle.gk_document.specs.declared.tree.Argument.TheVariants.{Table, Text as Quoted}
use Rattle.gk_grammar.specs.Grammar.{at, comments_of, stops, description_of, is_fence, content_line, english}
use Rattle.std.specs.List.{join_with_byte}

-- what is below the description of a block
pub data Body : Type 0 where
  Bare : Body
  Steps : List tree.Step → Body
  Rows : List tree.Row → Body

-- a block without the blocks below it
pub record FlatBlock : Type 0 where
  pub block : Block
  pub node : ℕ
  pub place : Location
  pub tags : List Tag
  pub keyword : Utf8
  pub name : Utf8
  pub description : Utf8
  pub body : Body

-- an open doc string
pub record OpenDocString : Type 0 where
  pub place : Location
  pub fence : Fence
  pub media : Utf8
  pub indent : ℕ

pub data Phase : Type 0 where
  -- before the first tag line or feature line; no language line yet
  Start : Phase
  -- the same, after the language line
  AfterLanguage : Phase
  -- after tag lines; which block is before them
  AfterTags : (before : Option Block) → List Tag → Phase
  -- in the description of a block, with its lines so far that aren't comments
  InDescription : FlatBlock → List Line → Phase
  -- after steps: those before the last, and the last
  AfterStep : FlatBlock → List tree.Step → tree.Step → Phase
  -- in the doc string of the last step, with its lines so far
  InDocString : FlatBlock → List tree.Step → tree.Step → OpenDocString → List Line → Phase
  -- after rows of an examples table
  InExamplesTable : FlatBlock → List tree.Row → Phase

-- the state between two lines: what was made of the lines so far, and where the pass is
pub record State : Type 0 where
  pub comments : List tree.Comment
  pub nodes : ℕ
  pub flat_blocks : List FlatBlock
  pub phase : Phase

-- the fault at which the pass stops
pub record PlacedFault : Type 0 where
  pub kind : FaultKind
  pub line : ℕ
  pub column : ℕ

-- which block may follow which
abbrev pub follows : Option Block → Block → Bool
follows None block.Feature = true
follows (Some block.Feature) block.Background = true
follows (Some block.Rule) block.Background = true
follows (Some block.Scenario) block.Examples = true
follows (Some block.Examples) block.Examples = true
follows (Some b) block.Scenario = true
follows (Some b) block.Rule = true
follows _ _ = false

-- a background has no tags
abbrev pub takes_tags : Block → Bool
takes_tags block.Background = false
takes_tags _ = true

-- the number of nodes of a block's own line
abbrev pub title_node_count : Block → ℕ
title_node_count block.Feature = 0
title_node_count _ = 1

-- the tags of these words in the line of this number, numbered from this node on
abbrev pub tags_from : ℕ → ℕ → List TagText → List Tag
tags_from number node [] = []
tags_from number node (w ∷ ws) =
    record { node = node; location = at number w.column; name = codes "@" ++ w.word }
    ∷ tags_from number (node + 1) ws

-- line n, whose indent is i, is not allowed here
abbrev unexpected : ℕ → ℕ → Result State PlacedFault
unexpected number indent =
    Err (record { kind = kind.Unexpected; line = number; column = indent + 1 })

-- a tag line with white space in the tag at this column
abbrev spaced_tag : ℕ → ℕ → Result State PlacedFault
spaced_tag number column = Err (record { kind = kind.TagSpace; line = number; column = column })

-- a comment or a blank line
abbrev pub pass_over : State → Phase → Line → State
pass_over s p l = record s { comments = s.comments ++ comments_of (l ∷ []); phase = p }

-- what a block has below its description at first
abbrev pub empty_body : Block → Body
empty_body block.Feature = Bare
empty_body block.Rule = Bare
empty_body block.Background = Steps []
empty_body block.Scenario = Steps []
empty_body block.Examples = Rows []

-- the block of a title line, without its description and what is below it
abbrev pub new_block : ℕ → Block → List Tag → ℕ → ℕ → (keyword name : Utf8) → FlatBlock
new_block node b tags number indent keyword name = record {
  block = b;
  node = node;
  place = at number (indent + 1);
  tags = tags;
  keyword = keyword;
  name = name;
  description = [];
  body = empty_body b;
}

-- a title line
abbrev pub open_block : State → Block → List Tag → ℕ → ℕ → (keyword name : Utf8) → State
open_block s b tags number indent keyword name = record s {
  nodes = s.nodes + title_node_count b;
  phase = InDescription (new_block s.nodes b tags number indent keyword name) [];
}

-- a tag line
abbrev pub add_tags : State → Option Block → List Tag → ℕ → List TagText → State
add_tags s before tags number words = record s {
  nodes = s.nodes + length words;
  phase = AfterTags before (tags ++ tags_from number s.nodes words);
}

-- a block that is whole
abbrev pub add_block : State → FlatBlock → State
add_block s c = record s { flat_blocks = s.flat_blocks ++ c ∷ [] }

-- a line of one node, and the phase after it
abbrev pub add_node : State → Phase → State
add_node s phase = record s { nodes = s.nodes + 1; phase = phase }

-- a line after a whole block, which isn't part of it
abbrev pub close_block : State → FlatBlock → Line → Result State PlacedFault
close_block s c (line number characters indent (Tags (Ok words))) =
    Ok (add_tags (add_block s c) (Some c.block) [] number words)
close_block s c (line number characters indent (Tags (Err column))) = spaced_tag number column
close_block s c (line number characters indent (Title b keyword name)) =
    if follows (Some c.block) b then Ok (open_block (add_block s c) b [] number indent keyword name)
    else unexpected number indent
close_block s c (line number characters indent _) = unexpected number indent

-- the step of a step line
abbrev pub step_at : State → ℕ → ℕ → (keyword : Utf8) → KeywordType → (text : Utf8) → tree.Step
step_at s number indent keyword type text = record {
  node = s.nodes;
  location = at number (indent + 1);
  keyword = keyword;
  kind = type;
  text = text;
  argument = None;
}

-- the row of a table line
abbrev pub row_at : State → ℕ → ℕ → List Cell → tree.Row
row_at s number indent cells =
    record { node = s.nodes; location = at number (indent + 1); cells = cells }

-- the block with its description, and with what is below it
abbrev pub with_description : FlatBlock → List Line → FlatBlock
with_description c ls = record c { description = description_of ls }

-- the first line after a description
abbrev pub after_description : State → FlatBlock → Line → Result State PlacedFault
after_description s c (line number characters indent (Step keyword type text)) =
    Ok (add_node s (AfterStep c [] (step_at s number indent keyword type text)))
after_description s c (line number characters indent (Row cells)) =
    Ok (add_node s (InExamplesTable c (row_at s number indent cells ∷ [])))
after_description s c l = close_block s c l

abbrev pub with_steps : FlatBlock → List tree.Step → FlatBlock
with_steps c steps = record c { body = Steps steps }

abbrev pub with_rows : FlatBlock → List tree.Row → FlatBlock
with_rows c rows = record c { body = Rows rows }

-- the cells of the first row
abbrev pub count_of : List tree.Row → ℕ
count_of [] = 0
count_of (r ∷ rs) = length r.cells

-- a row after rows
abbrev pub another_row : State → (List tree.Row → Phase) → List tree.Row
    → ℕ → ℕ → List Cell → Result State PlacedFault
another_row s phase rows number indent cells =
    if length cells == count_of rows
    then Ok (add_node s (phase (rows ++ row_at s number indent cells ∷ [])))
    else Err (record { kind = kind.CellCount; line = number; column = indent + 1 })

abbrev pub with_table : tree.Step → List tree.Row → tree.Step
with_table last rows = record last { argument = Some (Table rows) }

-- a row after a step
abbrev pub step_row : State → FlatBlock → List tree.Step → tree.Step → Option Argument
    → ℕ → ℕ → List Cell → Result State PlacedFault
step_row s c before last None number indent cells =
    Ok (add_node s (AfterStep c before (with_table last (row_at s number indent cells ∷ []))))
step_row s c before last (Some (Table rows)) number indent cells =
    another_row s (λ rs. AfterStep c before (with_table last rs)) rows number indent cells
step_row s c before last (Some (Quoted d)) number indent cells = unexpected number indent

abbrev pub open_doc_string : ℕ → ℕ → Fence → Utf8 → OpenDocString
open_doc_string number indent f media =
    record { place = at number (indent + 1); fence = f; media = media; indent = indent }

-- a fence after a step
abbrev pub step_fence : State → FlatBlock → List tree.Step → tree.Step → Option Argument
    → ℕ → ℕ → Fence → Utf8 → Result State PlacedFault
step_fence s c before last None number indent f media =
    Ok (record s { phase = InDocString c before last (open_doc_string number indent f media) [] })
step_fence s c before last (Some a) number indent f media = unexpected number indent

-- the doc string with these lines inside
abbrev pub doc_string : OpenDocString → List Line → DocString
doc_string q inside = record {
  location = q.place;
  media = unless_empty q.media;
  content = join_with_byte line_feed (map (content_line q.fence q.indent) inside);
  fence = q.fence;
}

abbrev pub with_doc_string : tree.Step → OpenDocString → List Line → tree.Step
with_doc_string last q inside = record last { argument = Some (Quoted (doc_string q inside)) }

-- a line after steps
abbrev pub after_step : State → FlatBlock → List tree.Step → tree.Step → Line
    → Result State PlacedFault
after_step s c before last (line number characters indent (Step keyword type text)) =
    Ok (add_node s (AfterStep c (before ++ last ∷ []) (step_at s number indent keyword type text)))
after_step s c before last (line number characters indent (Row cells)) =
    step_row s c before last last.argument number indent cells
after_step s c before last (line number characters indent (Fenced f media)) =
    step_fence s c before last last.argument number indent f media
after_step s c before last (line number characters indent Blank) =
    Ok (pass_over s (AfterStep c before last) (line number characters indent Blank))
after_step s c before last (line number characters indent Comment) =
    Ok (pass_over s (AfterStep c before last) (line number characters indent Comment))
after_step s c before last (line number characters indent (Language w)) =
    Ok (pass_over s (AfterStep c before last) (line number characters indent (Language w)))
after_step s c before last l = close_block s (with_steps c (before ++ last ∷ [])) l

-- a line after rows of an examples table
abbrev pub in_examples_table : State → FlatBlock → List tree.Row → Line → Result State PlacedFault
in_examples_table s c rows (line number characters indent (Row cells)) =
    another_row s (λ rs. InExamplesTable c rs) rows number indent cells
in_examples_table s c rows (line number characters indent Blank) =
    Ok (pass_over s (InExamplesTable c rows) (line number characters indent Blank))
in_examples_table s c rows (line number characters indent Comment) =
    Ok (pass_over s (InExamplesTable c rows) (line number characters indent Comment))
in_examples_table s c rows (line number characters indent (Language w)) =
    Ok (pass_over s (InExamplesTable c rows) (line number characters indent (Language w)))
in_examples_table s c rows l = close_block s (with_rows c rows) l

-- before the first tag line or feature line
abbrev pub before_first_block : State → Phase → Line → Result State PlacedFault
before_first_block s p (line number characters indent Blank) =
    Ok (pass_over s p (line number characters indent Blank))
before_first_block s p (line number characters indent Comment) =
    Ok (pass_over s p (line number characters indent Comment))
before_first_block s p (line number characters indent (Tags (Ok words))) =
    Ok (add_tags s None [] number words)
before_first_block s p (line number characters indent (Tags (Err column))) =
    spaced_tag number column
before_first_block s p (line number characters indent (Title block.Feature keyword name)) =
    Ok (open_block s block.Feature [] number indent keyword name)
before_first_block s p (line number characters indent _) = unexpected number indent

abbrev pub same_text : Utf8 → Utf8 → Bool
same_text [] [] = true
same_text (x ∷ xs) (y ∷ ys) = if x == y then same_text xs ys else false
same_text _ _ = false

-- where a language line still counts
abbrev pub at_start : State → Line → Result State PlacedFault
at_start s (line number characters indent (Language w)) =
    if same_text w english then Ok (record s { phase = AfterLanguage })
    else Err (record { kind = kind.UnsupportedLanguage; line = number; column = indent + 1 })
at_start s l = before_first_block s Start l

-- after the language line
abbrev pub after_language : State → Line → Result State PlacedFault
after_language s (line number characters indent (Language w)) =
    Ok (pass_over s AfterLanguage (line number characters indent (Language w)))
after_language s l = before_first_block s AfterLanguage l

-- a line after tag lines
abbrev pub after_tags : State → Option Block → List Tag → Line → Result State PlacedFault
after_tags s before tags (line number characters indent Blank) =
    Ok (pass_over s (AfterTags before tags) (line number characters indent Blank))
after_tags s before tags (line number characters indent Comment) =
    Ok (pass_over s (AfterTags before tags) (line number characters indent Comment))
after_tags s before tags (line number characters indent (Language w)) =
    Ok (pass_over s (AfterTags before tags) (line number characters indent (Language w)))
after_tags s before tags (line number characters indent (Tags (Ok words))) =
    Ok (add_tags s before tags number words)
after_tags s before tags (line number characters indent (Tags (Err column))) =
    spaced_tag number column
after_tags s before tags (line number characters indent (Title b keyword name)) =
    if follows before b
    then (if takes_tags b then Ok (open_block s b tags number indent keyword name)
    else unexpected number indent)
    else unexpected number indent
after_tags s before tags (line number characters indent _) = unexpected number indent

-- one line
abbrev pub at_phase : State → Phase → Line → Result State PlacedFault
at_phase s Start l = at_start s l
at_phase s AfterLanguage l = after_language s l
at_phase s (AfterTags before tags) l = after_tags s before tags l
at_phase s (InDescription c ls) l =
    if stops c.block l then after_description s (with_description c ls) l
    else Ok (pass_over s (InDescription c (ls ++ l ∷ [])) l)
at_phase s (AfterStep c before last) l = after_step s c before last l
at_phase s (InDocString c before last q inside) l =
    if is_fence q.fence l
    then Ok (record s { phase = AfterStep c before (with_doc_string last q inside) })
    else Ok (record s { phase = InDocString c before last q (inside ++ l ∷ []) })
at_phase s (InExamplesTable c rows) l = in_examples_table s c rows l

abbrev pub next : State → Line → Result State PlacedFault
next s l = at_phase s s.phase l

-- the whole flat blocks at the end, or none where something is open
abbrev pub blocks_at_end : Phase → Option (List FlatBlock)
blocks_at_end Start = Some []
blocks_at_end AfterLanguage = None
blocks_at_end (AfterTags before tags) = None
blocks_at_end (InDescription c ls) = Some (with_description c ls ∷ [])
blocks_at_end (AfterStep c before last) = Some (with_steps c (before ++ last ∷ []) ∷ [])
blocks_at_end (InDocString c before last q inside) = None
blocks_at_end (InExamplesTable c rows) = Some (with_rows c rows ∷ [])

infixl 10 ◌>>=◌
abbrev pub ◌>>=◌ : {A B : Type 0} → Result A PlacedFault → (A → Result B PlacedFault)
    → Result B PlacedFault
(Ok x) >>= f = f x
(Err e) >>= f = Err e

-- the state after some lines
abbrev pub run : State → List Line → Result State PlacedFault
run s [] = Ok s
run s (l ∷ ls) = next s l >>= λ x. run x ls

abbrev pub initial_state : State
initial_state = record { comments = []; nodes = 0; flat_blocks = []; phase = Start }
