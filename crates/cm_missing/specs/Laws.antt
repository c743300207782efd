-- What holds of the lines that tell what is missing.
use Rattle.std.specs.Prelude.{◌≡◌, ◌↔◌, ℕ, List, []}
use Rattle.std.specs.List.{AllByRecursion}
use Rattle.cm_stream.specs.Release.{Conditions}
use Rattle.cm_missing.specs.Missing.{AreMissingLines, AskedFile, IsComplete, IsScenarioCount, IsUnrunCount}

-- files have one list of lines
abbrev pub OneMissingList : Type 0
OneMissingList =
    (asked : Conditions) (files : List AskedFile) (a b : List (List ℕ))
    → AreMissingLines asked files a → AreMissingLines asked files b → a ≡ b

-- It is empty exactly where the text of each file is of the grammar, and each pickle that one compiles to ran or may be left
-- out.
abbrev pub NothingIsMissing : Type 0
NothingIsMissing =
    (asked : Conditions) (files : List AskedFile)
    → AreMissingLines asked files [] ↔ AllByRecursion (IsComplete asked) files

-- files have one count of pickles, and one of those that are left out
abbrev pub OneScenarioCount : Type 0
OneScenarioCount =
    (files : List AskedFile) (a b : ℕ) → IsScenarioCount files a → IsScenarioCount files b → a ≡ b

abbrev pub OneUnrunCount : Type 0
OneUnrunCount =
    (asked : Conditions) (files : List AskedFile) (a b : ℕ)
    → IsUnrunCount asked files a → IsUnrunCount asked files b → a ≡ b
