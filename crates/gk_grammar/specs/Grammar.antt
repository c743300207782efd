-- Which lists of lines are texts, and of which tree: the rules of `gherkin.berp`, and the Cucumber Gherkin reference. Each
-- rule says how a list of lines is cut into the lines of its parts. A line that is no text of a description and no content
-- of a doc string has after it the comments and blank lines that follow it; a description has those among its lines.
use Rattle.std.specs.Prelude.{◌≡◌, ℕ, ◌+◌, Bool, true, false, not, ◌||◌, ◌&&◌, List, [], ◌∷◌, ◌++◌, map, reverse, length, Option, Some, None, Ok, ◌==◌, nat_lt, codes, if◌then◌else◌, IsTrue, IsFalse, ◌⊎◌}
use Rattle.std.specs.List.{AllByRecursion, count_by, filter, flat_map, join_with_byte}
use Rattle.std.specs.Str.{encode_utf8_all}
use Rattle.gk_line.specs.Characters.{line_feed}
use Rattle.gk_line.specs.DocStrings.{doc_line_of}
use Rattle.gk_document.specs.MediaType.{unless_empty}
use Rattle.gk_line.specs.declared.tokens.Block.{Block}
use Rattle.gk_line.specs.declared.tokens.Block.TheVariants as block
use Rattle.gk_document.specs.declared.tree.Fence.{Fence}
use Rattle.gk_document.specs.declared.tree.Fence.TheVariants as fence
use Rattle.gk_grammar.specs.Token.{Utf8, TagText, Language, Tags, Title, Step, Row, Fenced, Line, line, text, bytes, is_comment, is_language, is_blank, is_gap}
use Rattle.gk_grammar.specs.Tree as tree
use Rattle.gk_grammar.specs.Tree.{Location, Tag, DocString, Argument, Background, ExampleTable, Examples, Scenario, Rule, Feature, Document}
use Rattle.gk_document.specs.declared.tree.Argument.TheVariants.{Table, Text as Quoted}

-- ---- ways to cut

-- a list of lines, and the comments among them
abbrev pub Piece : Type 1
Piece = List Line → List tree.Comment → Type 0

-- the lines of the one, and then those of the other
pub record Then (P Q : Piece) (ls : List Line) (cs : List tree.Comment) : Type 0 where
  pub front : List Line
  pub back : List Line
  pub front_comments : List tree.Comment
  pub back_comments : List tree.Comment
  pub cut : ls ≡ front ++ back
  pub comments : cs ≡ front_comments ++ back_comments
  pub first : P front front_comments
  pub second : Q back back_comments

infixr 5 ◌⨾◌
abbrev pub ◌⨾◌ : Piece → Piece → Piece
P ⨾ Q = Then P Q

-- no line
abbrev pub Nothing : Piece
Nothing ls cs = (ls ≡ []) × (cs ≡ [])

-- the lines of each, one after another
abbrev pub Each : {A : Type 0} → (A → Piece) → List A → Piece
Each P [] = Nothing
Each P (x ∷ xs) = P x ⨾ Each P xs

-- at most once
abbrev pub AtMostOne : {A : Type 0} → (A → Piece) → Option A → Piece
AtMostOne P None = Nothing
AtMostOne P (Some x) = P x

-- ---- comments and blank lines

-- the place at this line and column
abbrev pub at : (line column : ℕ) → Location
at n c = record { line = n; column = c }

-- a comment is the whole line (`gherkin.berp`: Comment)
abbrev pub comment_of : Line → tree.Comment
comment_of (line number characters _ _) =
    record { location = at number 1; text = encode_utf8_all characters }

-- the comments among the lines
abbrev pub comments_of : List Line → List tree.Comment
comments_of ls = map comment_of (filter is_comment ls)

-- comments and blank lines
abbrev pub IsGap : Piece
IsGap ls cs = AllByRecursion (λ l. IsTrue (is_gap l)) ls × (cs ≡ comments_of ls)

-- one line, with the comments and blank lines after it
abbrev pub OneLine : (Line → Type 0) → Piece
OneLine P [] cs = ⊥
OneLine P (l ∷ gap) cs = P l × IsGap gap cs

-- ---- headers

-- a tag without its number
abbrev pub place_and_name : Tag → Location × Utf8
place_and_name g = (g.location, g.name)

-- the tag of a word in the line of this number: its name has the `@`
abbrev pub tag_at : ℕ → TagText → Location × Utf8
tag_at number w = (at number w.column, codes "@" ++ w.word)

-- the tags of a tag line, in order
abbrev pub IsTagLine : List Tag → Line → Type 0
IsTagLine tags (line number _ _ (Tags (Ok words))) =
    map place_and_name tags ≡ map (tag_at number) words
IsTagLine tags _ = ⊥

-- tag lines, whose tags together are these (`gherkin.berp`: Tags)
abbrev pub TagLines : List Tag → Piece
TagLines tags ls cs =
    (lines : List (List Tag)) × (tags ≡ flat_map (λ ts. ts) lines)
    × Each (λ ts. OneLine (IsTagLine ts)) lines ls cs

-- The lines that end a block's description. All others are text, even where they look like steps or rows.
abbrev pub stops : Block → Line → Bool
stops b (line _ _ _ (Tags _)) = true
stops b (line _ _ _ (Title block.Feature _ _)) = false
stops b (line _ _ _ (Title block.Rule _ _)) = true
stops b (line _ _ _ (Title block.Scenario _ _)) = true
stops block.Feature (line _ _ _ (Title block.Background _ _)) = true
stops block.Rule (line _ _ _ (Title block.Background _ _)) = true
stops block.Scenario (line _ _ _ (Title block.Examples _ _)) = true
stops block.Examples (line _ _ _ (Title block.Examples _ _)) = true
stops block.Background (line _ _ _ (Step _ _ _)) = true
stops block.Scenario (line _ _ _ (Step _ _ _)) = true
stops block.Examples (line _ _ _ (Row _)) = true
stops _ _ = false

-- blank lines at the front dropped
abbrev pub from_text : List Line → List Line
from_text [] = []
from_text (l ∷ ls) = if is_blank l then from_text ls else l ∷ ls

-- The text of a description (`gherkin.berp`: Description), of which comments are no part, and which they don't end: its lines
-- without comments, without blank lines at both ends
abbrev pub description_of : List Line → Utf8
description_of ls =
    join_with_byte line_feed (map bytes
    (reverse (from_text (reverse (from_text (filter (λ l. not (is_comment l)) ls))))))

-- the title line of a block
abbrev pub IsTitle : Block → Location → (keyword name : Utf8) → Line → Type 0
IsTitle b place keyword name (line number _ indent (Title other its_keyword its_name)) =
    (other ≡ b) × (place ≡ at number (indent + 1)) × (keyword ≡ its_keyword) × (name ≡ its_name)
IsTitle b place keyword name _ = ⊥

-- a title line and the description after it
abbrev pub TitleAndDescription : Block → Location → (keyword name description : Utf8) → Piece
TitleAndDescription b place keyword name description [] cs = ⊥
TitleAndDescription b place keyword name description (l ∷ ls) cs =
    IsTitle b place keyword name l × AllByRecursion (λ x. IsFalse (stops b x)) ls
    × (description ≡ description_of ls) × (cs ≡ comments_of ls)

-- ---- steps

-- a row of a table (`gherkin.berp`: TableRow)
abbrev pub IsRow : tree.Row → Line → Type 0
IsRow r (line number _ indent (Row cells)) =
    (r.location ≡ at number (indent + 1)) × (r.cells ≡ cells)
IsRow r _ = ⊥

-- all with the cell count of the first
abbrev pub HaveEqualCounts : List tree.Row → Type 0
HaveEqualCounts [] = Unit {0}
HaveEqualCounts (r ∷ rs) = AllByRecursion (λ (x : tree.Row). length x.cells ≡ length r.cells) rs

-- one row or more (`gherkin.berp`: DataTable, ExamplesTable)
abbrev pub IsTable : List tree.Row → Piece
IsTable [] ls cs = ⊥
IsTable (r ∷ rs) ls cs = HaveEqualCounts (r ∷ rs) × Each (λ x. OneLine (IsRow x)) (r ∷ rs) ls cs

-- a line that begins with the fence
abbrev pub is_fence : Fence → Line → Bool
is_fence fence.Quotes (line _ _ _ (Fenced fence.Quotes _)) = true
is_fence fence.Backticks (line _ _ _ (Fenced fence.Backticks _)) = true
is_fence _ _ = false

-- what a line says inside a doc string whose opening line has this indent
abbrev pub content_line : Fence → (indent : ℕ) → Line → Utf8
content_line f indent l = encode_utf8_all (doc_line_of f indent (text l))

-- the lines after the opening one: the content, in which no line starts with the fence, and one that does
pub record Closes (f : Fence) (n : ℕ) (content : Utf8)
    (ls : List Line) (cs : List tree.Comment) : Type 0 where
  pub inside : List Line
  pub close : Line
  pub gap : List Line
  pub cut : ls ≡ inside ++ close ∷ gap
  pub open_yet : AllByRecursion (λ l. IsFalse (is_fence f l)) inside
  pub closed : IsTrue (is_fence f close)
  pub value : content ≡ join_with_byte line_feed (map (content_line f n) inside)
  pub gap_after : IsGap gap cs

-- an opening line, and what closes it (`gherkin.berp`: DocString)
abbrev pub IsDocString : DocString → Piece
IsDocString d [] cs = ⊥
IsDocString d (line number _ indent (Fenced f media) ∷ ls) cs =
    (d.location ≡ at number (indent + 1)) × (d.fence ≡ f) × (d.media ≡ unless_empty media)
    × Closes f indent d.content ls cs
IsDocString d _ cs = ⊥

-- what may be below a step line
abbrev pub IsArgument : Argument → Piece
IsArgument (Table rows) = IsTable rows
IsArgument (Quoted d) = IsDocString d

-- the line of a step
abbrev pub IsStepLine : tree.Step → Line → Type 0
IsStepLine s (line number _ indent (Step its_keyword type its_text)) =
    (s.location ≡ at number (indent + 1)) × (s.keyword ≡ its_keyword) × (s.kind ≡ type)
    × (s.text ≡ its_text)
IsStepLine s _ = ⊥

-- a step line, and a table or a doc string or neither (`gherkin.berp`: Step)
abbrev pub IsStep : tree.Step → Piece
IsStep s = OneLine (IsStepLine s) ⨾ AtMostOne IsArgument s.argument

-- ---- blocks

-- a title, a description and steps (`gherkin.berp`: Background)
abbrev pub IsBackground : Background → Piece
IsBackground b =
    TitleAndDescription block.Background b.location b.keyword b.name b.description ⨾ Each IsStep b.steps

-- a table whose header is the first row
abbrev pub IsExampleTable : ExampleTable → Piece
IsExampleTable t = IsTable (t.header ∷ t.body)

-- tags, a title, a description, and a table at most once (`gherkin.berp`: ExamplesDefinition)
abbrev pub IsExamples : Examples → Piece
IsExamples e =
    TagLines e.tags ⨾ TitleAndDescription block.Examples e.location e.keyword e.name e.description
    ⨾ AtMostOne IsExampleTable e.table

-- tags, a title, a description, steps, and examples blocks (`gherkin.berp`: ScenarioDefinition)
abbrev pub IsScenario : Scenario → Piece
IsScenario s =
    TagLines s.tags ⨾ TitleAndDescription block.Scenario s.location s.keyword s.name s.description
    ⨾ Each IsStep s.steps ⨾ Each IsExamples s.examples

-- tags, a title, a description, a background at most once, and scenarios (`gherkin.berp`: Rule)
abbrev pub IsRule : Rule → Piece
IsRule r =
    TagLines r.tags ⨾ TitleAndDescription block.Rule r.location r.keyword r.name r.description
    ⨾ AtMostOne IsBackground r.background ⨾ Each IsScenario r.scenarios

-- tags, a title, a description, a background at most once, scenarios, and rules (`gherkin.berp`: Feature)
abbrev pub IsFeature : Feature → Piece
IsFeature f =
    TagLines f.tags ⨾ TitleAndDescription block.Feature f.location f.keyword f.name f.description
    ⨾ AtMostOne IsBackground f.background ⨾ Each IsScenario f.scenarios ⨾ Each IsRule f.rules

-- ---- documents

-- comments and blank lines, no language line among them
abbrev pub IsPlainGap : Piece
IsPlainGap ls cs = AllByRecursion (λ l. IsFalse (is_language l)) ls × IsGap ls cs

-- the one language
abbrev pub english : Utf8
english = codes "en"

-- a language line, whose word is `en`
abbrev pub IsEnglish : Line → Type 0
IsEnglish (line _ _ _ (Language word)) = word ≡ english
IsEnglish _ = ⊥

-- The lines before the first tag line or feature line. The first language line counts, and those after it are comments.
abbrev pub IsOpening : Piece
IsOpening ls cs = IsPlainGap ls cs ⊎ (IsPlainGap ⨾ OneLine IsEnglish) ls cs

-- a feature after its opening, or comments and blank lines alone (`gherkin.berp`: GherkinDocument)
abbrev pub IsFeatureText : Option Feature → Piece
IsFeatureText None ls cs = IsPlainGap ls cs
IsFeatureText (Some f) ls cs = (f.language ≡ english) × (IsOpening ⨾ IsFeature f) ls cs

-- ---- node numbers

-- the place and the number of a node
abbrev pub Node : Type 0
Node = Location × ℕ

-- the nodes of each part, in the order of the tree: the tags of an element, the element, and then what is below it
abbrev pub node_of_tag : Tag → Node
node_of_tag t = (t.location, t.node)

abbrev pub tag_nodes : List Tag → List Node
tag_nodes tags = map node_of_tag tags

abbrev pub node_of_row : tree.Row → Node
node_of_row r = (r.location, r.node)

abbrev pub row_nodes : List tree.Row → List Node
row_nodes rows = map node_of_row rows

abbrev pub argument_nodes : Option Argument → List Node
argument_nodes None = []
argument_nodes (Some (Table rows)) = row_nodes rows
argument_nodes (Some (Quoted d)) = []

abbrev pub step_nodes : tree.Step → List Node
step_nodes s = (s.location, s.node) ∷ argument_nodes s.argument

abbrev pub background_nodes : Option Background → List Node
background_nodes None = []
background_nodes (Some b) = (b.location, b.node) ∷ flat_map step_nodes b.steps

-- the rows of an examples block, none where it has no table
abbrev pub table_rows : Option ExampleTable → List tree.Row
table_rows None = []
table_rows (Some t) = t.header ∷ t.body

abbrev pub examples_nodes : Examples → List Node
examples_nodes e = tag_nodes e.tags ++ (e.location, e.node) ∷ row_nodes (table_rows e.table)

abbrev pub scenario_nodes : Scenario → List Node
scenario_nodes s =
    tag_nodes s.tags ++ (s.location, s.node)
    ∷ (flat_map step_nodes s.steps ++ flat_map examples_nodes s.examples)

abbrev pub rule_nodes : Rule → List Node
rule_nodes r =
    tag_nodes r.tags ++ (r.location, r.node)
    ∷ (background_nodes r.background ++ flat_map scenario_nodes r.scenarios)

abbrev pub feature_nodes : Option Feature → List Node
feature_nodes None = []
feature_nodes (Some f) =
    tag_nodes f.tags ++ (background_nodes f.background
    ++ (flat_map scenario_nodes f.scenarios ++ flat_map rule_nodes f.rules))

-- the one place comes before the other, by line and column
abbrev pub stands_before : Location → Location → Bool
stands_before a b = nat_lt a.line b.line || (a.line == b.line && nat_lt a.column b.column)

-- a node's number is how many nodes are before it
abbrev pub AreNumbered : List Node → Type 0
AreNumbered nodes =
    AllByRecursion
    (λ (x : Node). x.1 ≡ count_by (λ (y : Node). stands_before y.0 x.0) nodes) nodes

-- the lines are a text of the grammar, and this is its document
pub record Doc (ls : List Line) (d : Document) : Type 0 where
  pub text : IsFeatureText d.feature ls d.comments
  pub numbers : AreNumbered (feature_nodes d.feature)
  pub count : d.nodes ≡ length (feature_nodes d.feature)
