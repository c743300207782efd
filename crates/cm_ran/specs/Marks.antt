-- Which scenarios of some texts are marked.
use Rattle.std.specs.Prelude.{◌≡◌, ◌⊎◌, ◌||◌, ◌++◌, ◌∷◌, [], ℕ, Bool, true, List, if◌then◌else◌, length, map}
use Rattle.indexmap.specs.IndexMap.{keys}
use Rattle.cm_attempt.specs.Table.{has_text}
use Rattle.cm_envelope.specs.declared.envelope.Envelope.{Envelope}
use Rattle.cm_stream.specs.Readings.{Accepted, IsReading}
use Rattle.cm_stream.specs.ReleasedRuns.{EachSourceIsCompiled}
use Rattle.cm_stream.specs.Texts.{Utf8}
use Rattle.gk_document.specs.declared.tree.Document.{Document}
use Rattle.gk_pickle.specs.Pickles.{pickles as compiled}
use Rattle.cm_ran.specs.Rows.{flag_at, row_at}
use Rattle.cm_ran.specs.RunAt.{is_run_at}
use Rattle.cm_ran.specs.declared.marks.Marks.{Marks}

-- the texts, in the order in which they were added
abbrev pub marked_texts : Marks → List Utf8
marked_texts m = map (λ text. text.now) (keys m.rows)

-- the scenario at this place of the text, from 0, is marked; of a text that isn't there none is
abbrev pub has_run : Marks → (text : Utf8) → (place : ℕ) → Bool
has_run m text place = flag_at m.rows text place

-- one text more, which stands there once
abbrev pub with_text : Utf8 → List Utf8 → List Utf8
with_text text texts = if has_text text texts then texts else texts ++ text ∷ []

-- no scenario is marked that wasn't, and none is lost
abbrev pub HasSameFlags : (old new : Marks) → Type 0
HasSameFlags old new = (text : Utf8) (place : ℕ) → has_run new text place ≡ has_run old text place

-- of the texts that are there, those scenarios are marked that were, and those that ran too
abbrev pub AlsoRan : (old new : Marks) → (did_run : (text : Utf8) → (place : ℕ) → Bool) → Type 0
AlsoRan old new did_run =
    (text : Utf8) (place : ℕ) → has_text text (marked_texts old) ≡ true
    → has_run new text place ≡ (has_run old text place || did_run text place)

-- The text is of the grammar, and compiles to so many pickles.
pub record CompilesTo (text : Utf8) (count : ℕ) : Type 0 where
  pub document : Document
  pub accepted : IsReading text (Accepted document)
  pub as_many : length (compiled document) ≡ count

-- a row has no flag, or one for each pickle that its text compiles to
abbrev pub IsWholeRow : (text : Utf8) → List Bool → Type 0
IsWholeRow text row = (row ≡ []) ⊎ CompilesTo text (length row)

abbrev pub HasWholeRows : Marks → Type 0
HasWholeRows m = (text : Utf8) → IsWholeRow text (row_at m.rows text)

-- The texts stay, and the scenarios are marked that were, and those that ran in the stream of these envelopes. Rows stay whole
-- where the stream has the pickles that its sources compile to.
pub record MarksWhatRan (es : List Envelope) (old new : Marks) : Type 0 where
  pub texts : marked_texts new ≡ marked_texts old
  pub flags : AlsoRan old new (is_run_at es)
  pub rows : EachSourceIsCompiled es → HasWholeRows old → HasWholeRows new
