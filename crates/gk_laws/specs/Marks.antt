-- Where the parts of a document stand in the lines of its text: each at its location, as it says.
use Rattle.std.specs.Prelude.{◌≡◌, ⊤, ℕ, ◌+◌, List, [], ◌∷◌, ◌++◌, map, length, codes, Option, Some, None, IsTrue}
use Rattle.std.specs.List.{AllByRecursion, flat_map}
use Rattle.std.specs.Str.{encode_utf8_all}
use Rattle.gk_document.specs.declared.tree.Argument.TheVariants.{Table, Text as Quoted}
use Rattle.gk_document.specs.Fences.{fence_characters}
use Rattle.gk_grammar.specs.Token.{Utf8}
use Rattle.gk_grammar.specs.Tree as tree
use Rattle.gk_grammar.specs.Tree.{Location, Tag, Argument, Background, Examples, Scenario, Rule, Feature, Document}
use Rattle.gk_grammar.specs.Grammar.{Doc, stands_before, table_rows}
use Rattle.gk_laws.specs.Documents.{read_lines}
use Rattle.gk_laws.specs.Trimming.{IsSpace}

-- ---- what stands at a place

-- what a part of a document is written as: a keyword, a bar or a fence as it is; or a tag, whose name is `@` and a word
pub data Writing : Type 0 where
  Exactly : Utf8 → Writing
  AsTag : (name : Utf8) → Writing

-- these characters write it; between the `@` of a tag and its word white space may stand
abbrev pub Writes : Writing → List ℕ → Type 0
Writes (Exactly word) characters = word ≡ encode_utf8_all characters
Writes (AsTag name) characters =
    (space : List ℕ) × (word : List ℕ) × IsSpace space × (characters ≡ codes "@" ++ (space ++ word))
    × (name ≡ codes "@" ++ encode_utf8_all word)

-- it stands in the text at this column, counted in characters from 1
pub record StandsIn (text : List ℕ) (column : ℕ) (what : Writing) : Type 0 where
  pub before : List ℕ
  pub characters : List ℕ
  pub later : List ℕ
  pub cut : text ≡ before ++ (characters ++ later)
  pub at_column : column ≡ length before + 1
  pub writes : Writes what characters

-- a place, and what stands there
abbrev pub Mark : Type 0
Mark = Location × Writing

-- it stands in the line of the place, counted from 1, at its column
pub record StandsAt (texts : List (List ℕ)) (mark : Mark) : Type 0 where
  pub earlier : List (List ℕ)
  pub text : List ℕ
  pub later : List (List ℕ)
  pub lines : texts ≡ earlier ++ text ∷ later
  pub number : mark.0.line ≡ length earlier + 1
  pub stands : StandsIn text mark.0.column mark.1

-- ---- the parts of a document, in the order of the tree

abbrev pub tag_mark : Tag → Mark
tag_mark t = (t.location, AsTag t.name)

abbrev pub tag_marks : List Tag → List Mark
tag_marks = map tag_mark

-- a row begins with a bar
abbrev pub row_mark : tree.Row → Mark
row_mark r = (r.location, Exactly (codes "|"))

abbrev pub row_marks : List tree.Row → List Mark
row_marks = map row_mark

abbrev pub argument_marks : Option Argument → List Mark
argument_marks None = []
argument_marks (Some (Table rows)) = row_marks rows
argument_marks (Some (Quoted d)) = (d.location, Exactly (fence_characters d.fence)) ∷ []

abbrev pub step_marks : tree.Step → List Mark
step_marks s = (s.location, Exactly s.keyword) ∷ argument_marks s.argument

abbrev pub background_marks : Option Background → List Mark
background_marks None = []
background_marks (Some b) = (b.location, Exactly b.keyword) ∷ flat_map step_marks b.steps

abbrev pub examples_marks : Examples → List Mark
examples_marks e =
    tag_marks e.tags ++ (e.location, Exactly e.keyword) ∷ row_marks (table_rows e.table)

abbrev pub scenario_marks : Scenario → List Mark
scenario_marks s =
    tag_marks s.tags ++ (s.location, Exactly s.keyword)
    ∷ (flat_map step_marks s.steps ++ flat_map examples_marks s.examples)

abbrev pub rule_marks : Rule → List Mark
rule_marks r =
    tag_marks r.tags ++ (r.location, Exactly r.keyword)
    ∷ (background_marks r.background ++ flat_map scenario_marks r.scenarios)

abbrev pub feature_marks : Option Feature → List Mark
feature_marks None = []
feature_marks (Some f) =
    tag_marks f.tags ++ (f.location, Exactly f.keyword)
    ∷ (background_marks f.background
    ++ (flat_map scenario_marks f.scenarios ++ flat_map rule_marks f.rules))

-- ---- the laws

-- each part of the document of these lines stands at its location
abbrev pub PartsStandAtTheirPlaces : Type 0
PartsStandAtTheirPlaces =
    (texts : List (List ℕ)) (d : Document) → Doc (read_lines texts) d
    → AllByRecursion (StandsAt texts) (feature_marks d.feature)

-- each place is before all those after it, by line and column
abbrev pub ComeInOrder : List Location → Type 0
ComeInOrder [] = ⊤
ComeInOrder (p ∷ ps) = AllByRecursion (λ q. IsTrue (stands_before p q)) ps × ComeInOrder ps

-- the parts of the document come in the order of the file
abbrev pub PartsComeInOrder : Type 0
PartsComeInOrder =
    (texts : List (List ℕ)) (d : Document) → Doc (read_lines texts) d
    → ComeInOrder (map (λ (m : Mark). m.0) (feature_marks d.feature))
