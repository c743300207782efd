-- What a text is read as, by the grammar of feature files (the Gherkin reference, `gherkin.berp`).
use Rattle.std.specs.Prelude.{◌≡◌, ◌≢◌, ℕ}
use Rattle.gk_document.specs.declared.tree.Document.{Document}
use Rattle.gk_grammar.specs.declared.fault.FaultKind.{FaultKind}
use Rattle.gk_grammar.specs.declared.fault.FaultKind.TheVariants.{UnsupportedLanguage}
use Rattle.gk_grammar.specs.Documents.{IsDocumentOf, HasFault, IsTooLong}
use Rattle.cm_stream.specs.Texts.{Utf8}

-- What a text is: of the grammar, with its document; not of it; in another language; or too long to be read.
pub data Reading : Type 0 where
  Accepted : Document → Reading
  Refused : Reading
  OtherLanguage : Reading
  TooLong : Reading

-- it has a fault of another kind than the language
pub record IsRefused (text : Utf8) : Type 0 where
  pub kind : FaultKind
  pub line : ℕ
  pub column : ℕ
  pub fault : HasFault text kind line column
  pub other : kind ≢ UnsupportedLanguage

-- its fault is a language line that names another language than English
pub record IsInOtherLanguage (text : Utf8) : Type 0 where
  pub line : ℕ
  pub column : ℕ
  pub fault : HasFault text UnsupportedLanguage line column

-- Within the limits, a text is accepted with its document, or refused for the fault that it has. The grammar is that of
-- the Gherkin reference and `gherkin.berp`; the limits are those of a feature file.
abbrev pub IsReading : Utf8 → Reading → Type 0
IsReading text (Accepted d) = (IsTooLong text → ⊥) × IsDocumentOf text d
IsReading text Refused = (IsTooLong text → ⊥) × IsRefused text
IsReading text OtherLanguage = (IsTooLong text → ⊥) × IsInOtherLanguage text
IsReading text TooLong = IsTooLong text

-- a text is accepted with one document, refused, in another language, or too long
abbrev pub SomeReading : Type 0
SomeReading = (text : Utf8) → (r : Reading) × IsReading text r

-- and never two of these
abbrev pub OneReading : Type 0
OneReading = (text : Utf8) (a b : Reading) → IsReading text a → IsReading text b → a ≡ b

-- the function gives of each text its reading; by the two laws above there is exactly one such function
abbrev pub ReadsByTheGrammar : (Utf8 → Reading) → Type 0
ReadsByTheGrammar read = (text : Utf8) → IsReading text (read text)

-- it holds of the function that reads texts by the grammar
abbrev pub ByTheGrammar : ((Utf8 → Reading) → Type 0) → Type 0
ByTheGrammar P = (read : Utf8 → Reading) → ReadsByTheGrammar read → P read
