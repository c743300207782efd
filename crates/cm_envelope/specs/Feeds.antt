-- What a feed stores between two calls, and what one call does to it.
use Rattle.std.specs.Prelude.{ℕ, ◌≡◌, ◌+◌, ◌<◌, ◌≤◌, ◌⊎◌, ⊤, Bool, true, false, not, IsTrue, ◌||◌, ◌==◌, List, [], ◌∷◌, ◌++◌, length, Option, Some, None, Result, Ok, Err, IsSome, if◌then◌else◌}
use Rattle.cm_envelope.specs.Device.{Hears, Input}
use Rattle.cm_envelope.specs.Lines.{Line, FeedAnswers, size, line_feed, lines_of, feed_lines, max_piece_bytes, trouble_of, nothing, trouble_alone, line_then}
use Rattle.cm_envelope.specs.declared.feed.Trouble.{Trouble}
use Rattle.cm_envelope.specs.declared.feed.Trouble.TheVariants.{ReadFailed, LineTooLong, StreamTooLong, Memory}
use Rattle.cm_envelope.specs.declared.feed.Over.{Over}
use Rattle.cm_envelope.specs.declared.feed.Over.TheVariants.{Ended, Failed}
use denote.Ref.{Bor}

-- what a feed stores
pub record FeedState : Type 0 where
  pub line_limit : ℕ
  pub stream_limit : ℕ
  -- the bytes read and not yet given
  pub held : List ℕ
  -- how many bytes were given, their LFs included
  pub given : ℕ
  -- whether the end was read
  pub is_ended : Bool
  -- the end or the trouble, once answered
  pub over : Option Over

-- a new feed
abbrev pub new_feed : ℕ → ℕ → FeedState
new_feed line_limit stream_limit =
    record {
      line_limit = line_limit;
      stream_limit = stream_limit;
      held = [];
      given = 0;
      is_ended = false;
      over = None;
    }

-- what a call gives: a line, the end, or a trouble
abbrev pub NextLine : Type 0
NextLine = Result (Option (List ℕ)) Trouble

-- the answer, by the bytes that it lends
abbrev pub answer_of : Result (Option (Bor (List ℕ))) Trouble → NextLine
answer_of (Ok (Some line)) = Ok (Some line.now)
answer_of (Ok None) = Ok None
answer_of (Err t) = Err t

-- what is answered for good
abbrev pub last_answer : Over → NextLine
last_answer Ended = Ok None
last_answer (Failed t) = Err t

-- what a call leaves as answered for good
abbrev pub over_after : NextLine → Option Over
over_after (Ok (Some line)) = None
over_after (Ok None) = Some Ended
over_after (Err t) = Some (Failed t)

-- these bytes have a LF
abbrev pub has_line_feed : List ℕ → Bool
has_line_feed [] = false
has_line_feed (b ∷ bs) = (b == line_feed) || has_line_feed bs

-- a line's bytes with its LF
abbrev pub bytes_with_end : Line → List ℕ
bytes_with_end l = l.bytes ++ (if l.has_end then line_feed ∷ [] else [])

-- a call finds its answer without a read: it was answered for good, the end was read, or a whole line is held
abbrev pub NeedsNoRead : FeedState → Type 0
NeedsNoRead s = IsSome s.over ⊎ (IsTrue s.is_ended ⊎ IsTrue (has_line_feed s.held))

-- it is that a read failed
abbrev pub is_failed_read : {A : Type 0} → Result A Trouble → Bool
is_failed_read (Err ReadFailed) = true
is_failed_read _ = false

-- the bytes not yet given: those held, and those to come where the end wasn't read yet
abbrev pub not_given : FeedState → List ℕ → List ℕ
not_given s to_come = if s.is_ended then s.held else s.held ++ to_come

-- what is left to answer
abbrev pub feed_left : FeedState → List ℕ → FeedAnswers
feed_left s to_come =
    feed_lines s.line_limit s.stream_limit s.given (lines_of (not_given s to_come))

-- the first of some lines, or where there is none their trouble or the end
abbrev pub first_answer : List (List ℕ) → Option Trouble → NextLine
first_answer (line ∷ more) trouble = Ok (Some line)
first_answer [] (Some t) = Err t
first_answer [] None = Ok None

-- the answer is the first of what is left, unless a read failed or memory was refused
abbrev pub AnswersFirst : FeedAnswers → NextLine → Type 0
AnswersFirst fed (Err ReadFailed) = ⊤
AnswersFirst fed (Err Memory) = ⊤
AnswersFirst fed answer = answer ≡ first_answer fed.lines fed.trouble

-- a line has no LF, and no more bytes than the limit
abbrev pub IsLineWithin : ℕ → List ℕ → Type 0
IsLineWithin limit line = (has_line_feed line ≡ false) × (length line ≤ limit)

-- where the feed has read the end, the source's last answer was the end
abbrev pub EndsWithSource : FeedState → Input → Type 0
EndsWithSource s input = s.is_ended ≡ true → input.is_over ≡ true

-- these bytes are no whole line, and no limit is passed in them
pub record ShowNothing (line_limit stream_limit before : ℕ) (bytes : List ℕ) : Type 0 where
  pub no_end : has_line_feed bytes ≡ false
  pub no_trouble : trouble_of line_limit stream_limit before
      (record { bytes = bytes; has_end = false }) ≡ None

-- a line that was given: a LF ends it, unless the end was read
abbrev pub given_line : FeedState → List ℕ → Line
given_line new line = record { bytes = line; has_end = not new.is_ended }

-- what giving a line leaves, of any source
pub record GivesLine (old new : FeedState) (line : List ℕ) : Type 0 where
  -- it is a line, and passes no limit
  pub clean : has_line_feed line ≡ false
  pub no_trouble : trouble_of old.line_limit old.stream_limit old.given (given_line new line) ≡ None
  -- it and its LF are counted, and at least one byte was given
  pub given : new.given ≡ old.given + size (given_line new line)
  pub some : old.given < new.given
  pub fits : new.given ≤ old.stream_limit
  -- at most one piece past the line and its LF has been read
  pub ahead : length new.held ≤ max_piece_bytes

-- the line is the first of what was left, and the others are left
pub record IsNextLine (old new : FeedState) (before after line : List ℕ) : Type 0 where
  pub first : feed_left old before ≡ line_then line (feed_left new after)
  pub bytes : not_given old before ≡ bytes_with_end (given_line new line) ++ not_given new after

-- what a feed that wasn't over answers, with these bytes to come before and after
abbrev pub GivesNext : (old new : FeedState) (before after : List ℕ) → NextLine → Type 0
GivesNext old new before after (Ok (Some line)) = IsNextLine old new before after line
GivesNext old new before after (Ok None) = feed_left old before ≡ nothing
GivesNext old new before after (Err ReadFailed) =
    (not_given old before ≡ new.held ++ after) × (new.given ≡ old.given)
    × ShowNothing old.line_limit old.stream_limit old.given new.held
GivesNext old new before after (Err LineTooLong) = feed_left old before ≡ trouble_alone LineTooLong
GivesNext old new before after (Err StreamTooLong) =
    feed_left old before ≡ trouble_alone StreamTooLong
GivesNext old new before after (Err Memory) = ⊤

-- any bytes may come after a call, but none where the call read the end
abbrev pub MayBeLeft : (old new : FeedState) → List ℕ → Type 0
MayBeLeft old new rest = old.is_ended ≡ false → new.is_ended ≡ true → rest ≡ []

-- P of the line, where one is answered
abbrev pub OnLine : NextLine → (List ℕ → Type 0) → Type 0
OnLine (Ok (Some line)) P = P line
OnLine (Ok None) P = ⊤
OnLine (Err t) P = ⊤

-- what one call leaves
pub record Leaves (old new : FeedState) (before after : Input) (answer : NextLine) : Type 0 where
  -- the limits stay
  pub line_limit : new.line_limit ≡ old.line_limit
  pub stream_limit : new.stream_limit ≡ old.stream_limit
  -- the end and a trouble are answered for good, and the end only once it was read
  pub over : new.over ≡ over_after answer
  pub ended : answer ≡ Ok None → new.is_ended ≡ true
  -- once the feed has read the end, it is the source's last answer
  pub source : EndsWithSource old before → EndsWithSource new after
  -- the bytes heard of the source, which are none once the end was read
  pub read : List ℕ
  pub heard : Hears before after read
  pub past : old.is_ended ≡ true → (read ≡ []) × (new.is_ended ≡ true)
  -- what is counted and held after a line, and what is left to answer after any call
  pub line : old.over ≡ None → OnLine answer (λ line. GivesLine old new line)
  pub gives : old.over ≡ None → (rest : List ℕ) → MayBeLeft old new rest
      → GivesNext old new (read ++ rest) rest answer
