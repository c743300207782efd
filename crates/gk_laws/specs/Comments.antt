-- Which comments a document has.
use Rattle.std.specs.Prelude.{◌≡◌, ◌⊎◌, ℕ, List, [], ◌∷◌, ◌++◌, Option, Some, None, IsTrue, IsFalse}
use Rattle.std.specs.List.{AllByRecursion, flat_map}
use Rattle.gk_document.specs.declared.tree.Argument.TheVariants.{Text as Quoted}
use Rattle.gk_grammar.specs.Token.{Line, number, is_gap, is_language}
use Rattle.gk_grammar.specs.Tree as tree
use Rattle.gk_grammar.specs.Tree.{DocString, Background, Scenario, Rule, Feature, Document}
use Rattle.gk_grammar.specs.Grammar.{Doc, comments_of, is_fence}
use Rattle.gk_laws.specs.Documents.{read_lines}

-- ---- the doc strings of a document, in the order of the tree

abbrev pub argument_doc_strings : Option tree.Argument → List DocString
argument_doc_strings (Some (Quoted d)) = d ∷ []
argument_doc_strings _ = []

abbrev pub step_doc_strings : tree.Step → List DocString
step_doc_strings s = argument_doc_strings s.argument

abbrev pub background_doc_strings : Option Background → List DocString
background_doc_strings None = []
background_doc_strings (Some b) = flat_map step_doc_strings b.steps

abbrev pub scenario_doc_strings : Scenario → List DocString
scenario_doc_strings s = flat_map step_doc_strings s.steps

abbrev pub rule_doc_strings : Rule → List DocString
rule_doc_strings r =
    background_doc_strings r.background ++ flat_map scenario_doc_strings r.scenarios

abbrev pub doc_strings : Option Feature → List DocString
doc_strings None = []
doc_strings (Some f) =
    background_doc_strings f.background
    ++ (flat_map scenario_doc_strings f.scenarios ++ flat_map rule_doc_strings f.rules)

-- ---- the lines outside them

-- The lines are cut at a doc string: those before it, its opening line, at its location, the lines inside, none of which
-- begins with its fence, the line that closes it, and those after it.
pub record IsCutAtDocString (d : DocString) (ls before after : List Line) (opening closing : Line)
    : Type 0 where
  pub inside : List Line
  pub cut : ls ≡ before ++ opening ∷ (inside ++ closing ∷ after)
  pub place : number opening ≡ d.location.line
  pub opens : IsTrue (is_fence d.fence opening)
  pub open_yet : AllByRecursion (λ l. IsFalse (is_fence d.fence l)) inside
  pub closes : IsTrue (is_fence d.fence closing)

-- the lines without those inside these doc strings
abbrev pub AreOutside : List DocString → (ls outside : List Line) → Type 0
AreOutside [] ls outside = outside ≡ ls
AreOutside (d ∷ ds) ls outside =
    (before : List Line) × (after : List Line) × (opening : Line) × (closing : Line)
    × IsCutAtDocString d ls before after opening closing
    × (more : List Line) × AreOutside ds after more × (outside ≡ before ++ opening ∷ closing ∷ more)

-- ---- the language line that counts

-- a language line with nothing before it but comments and blank lines that are none
abbrev pub IsFirstLanguage : (before : List Line) → Line → Type 0
IsFirstLanguage before l =
    AllByRecursion (λ x. IsTrue (is_gap x) × IsFalse (is_language x)) before
    × IsTrue (is_language l)

-- the comments of a document whose feature has no such line are all those outside doc strings; else all others
abbrev pub HasComments : (outside : List Line) → List tree.Comment → Type 0
HasComments outside comments =
    ((comments ≡ comments_of outside)
    × ((before : List Line) (l : Line) (after : List Line) → outside ≡ before ++ l ∷ after
    → IsFirstLanguage before l → ⊥))
    ⊎ ((before : List Line) × (l : Line) × (after : List Line)
    × (outside ≡ before ++ l ∷ after) × IsFirstLanguage before l
    × (comments ≡ comments_of (before ++ after)))

-- the comments of a document are the comment lines outside its doc strings but the language line that counts
abbrev pub CommentsAreOutside : Type 0
CommentsAreOutside =
    (texts : List (List ℕ)) (d : Document) → Doc (read_lines texts) d
    → (outside : List Line) × AreOutside (doc_strings d.feature) (read_lines texts) outside
    × HasComments outside d.comments
