-- The lines of a stream, taken one after another, and how that ends.
use Rattle.std.specs.Prelude.{◌≡◌, ◌⊎◌, ◌+◌, ⊤, Bool, false, ℕ, List, [], ◌∷◌, ◌++◌, Some, None, Result, Ok, Err, length}
use Rattle.cm_envelope.specs.Feeds.{ShowNothing, is_failed_read}
use Rattle.cm_envelope.specs.Lines.{Line, max_line_bytes, max_stream_bytes}
use Rattle.cm_envelope.specs.declared.feed.Trouble.{Trouble}
use Rattle.cm_envelope.specs.declared.feed.Trouble.TheVariants.{ReadFailed, Memory}
use Rattle.cm_stream.specs.Stream.{feed_of}
use Rattle.cm_stream.specs.declared.laws.Audited.{Audited}
use Rattle.cm_audit.specs.Audit.{Begins, ReadsNoFurther, all_written, audited_at, contents}
use Rattle.cm_judge.specs.declared.stop.Stop.{Stop}

-- what is made of a line: from one state, by the line, with a result, to another state
abbrev pub Taking : Type 0 → Type 1
Taking T = T → List ℕ → Result ⊤ Stop → T → Type 0

-- the lines are taken one after another, and none of them stops it
abbrev pub TakesEach : {T : Type 0} → Taking T → (old : T) → List (List ℕ) → (new : T) → Type 0
TakesEach takes old [] new = new ≡ old
TakesEach {T} takes old (line ∷ lines) new =
    (next : T) × takes old line (Ok tt) next × TakesEach takes next lines new

-- All lines of the bytes are taken, and there are so many.
pub record TakesAll {T : Type 0} (takes : Taking T) (old new : T) (n : ℕ) (bytes : List ℕ)
    : Type 0 where
  pub taken : TakesEach takes old (feed_of bytes).lines new
  pub whole : (feed_of bytes).trouble ≡ None
  pub count : n ≡ length (feed_of bytes).lines

-- The lines before this one are taken, and this one stops it. The answer is that at this line, and no more is read than up to
-- it, and a piece.
pub record StopsAtLine {T : Type 0} (takes : Taking T) (old new : T)
    (answer : Result Audited Trouble) (bytes rest : List ℕ) : Type 0 where
  pub before : List (List ℕ)
  pub line : List ℕ
  pub after : List (List ℕ)
  pub cut : (feed_of bytes).lines ≡ before ++ line ∷ after
  pub last : T
  pub taken : TakesEach takes old before last
  pub why : Stop
  pub stopped : takes last line (Err why) new
  pub answers : answer ≡ audited_at (length before + 1) why
  pub no_further : ReadsNoFurther (length before + 1) bytes rest

-- These lines are taken, and then a read fails, after `ahead`, which is no whole line and passes no limit.
pub record TakesUntilFailure {T : Type 0} (takes : Taking T) (old new : T) (bytes rest : List ℕ)
    : Type 0 where
  pub lines : List Line
  pub ahead : List ℕ
  pub begins : Begins bytes lines ahead rest
  pub taken : TakesEach takes old (contents lines) new
  pub nothing : ShowNothing max_line_bytes max_stream_bytes (length (all_written lines)) ahead

-- The first lines of the bytes are taken.
pub record TakesFirst {T : Type 0} (takes : Taking T) (old new : T) (bytes : List ℕ)
    : Type 0 where
  pub lines : List (List ℕ)
  pub more : List (List ℕ)
  pub first : (feed_of bytes).lines ≡ lines ++ more
  pub taken : TakesEach takes old lines new

-- the lines are taken, and then there is this trouble
abbrev pub TakesUntil : {T : Type 0} → Taking T → (old new : T) → Trouble
    → (bytes rest : List ℕ) → Type 0
TakesUntil takes old new ReadFailed bytes rest = TakesUntilFailure takes old new bytes rest
TakesUntil takes old new Memory bytes rest = TakesFirst takes old new bytes
TakesUntil takes old new trouble bytes rest =
    TakesEach takes old (feed_of bytes).lines new × ((feed_of bytes).trouble ≡ Some trouble)

-- how many lines there were, where all are taken; or the answer at a line, or for a trouble
abbrev pub TakesStream : {T : Type 0} → Taking T → (old new : T)
    → Result ℕ (Result Audited Trouble) → (bytes rest : List ℕ) → Type 0
TakesStream takes old new (Ok n) bytes rest = TakesAll takes old new n bytes
TakesStream takes old new (Err answer) bytes rest =
    StopsAtLine takes old new answer bytes rest
    ⊎ ((trouble : Trouble) × (answer ≡ Err trouble)
    × TakesUntil takes old new trouble bytes rest)

-- it is that a read failed
abbrev pub is_failed_taking : Result ℕ (Result Audited Trouble) → Bool
is_failed_taking (Ok n) = false
is_failed_taking (Err answer) = is_failed_read answer
