-- The lines of some bytes (NDJSON: a line is ended by LF), and what a feed of them answers under two limits.
use Rattle.std.specs.Prelude.{ℕ, ◌+◌, ◌==◌, ◌&&◌, ◌||◌, nat_lt, Bool, true, false, List, [], ◌∷◌, length, Option, Some, None, if◌then◌else◌}
use Rattle.std.specs.List.{list_all}
pub use Rattle.gk_document.specs.Texts.{line_feed, carriage_return}
use Rattle.cm_envelope.specs.declared.feed.Trouble.{Trouble}
use Rattle.cm_envelope.specs.declared.feed.Trouble.TheVariants.{LineTooLong, StreamTooLong}

abbrev pub tab : ℕ
tab = 9

abbrev pub space : ℕ
space = 32

-- the most bytes that a line may have without its LF, and that a stream may have with all LFs
abbrev pub max_line_bytes : ℕ
max_line_bytes = 67_108_864

abbrev pub max_stream_bytes : ℕ
max_stream_bytes = 1_073_741_824

-- the most bytes that are read at a time
abbrev pub max_piece_bytes : ℕ
max_piece_bytes = 65_536

-- blank: no byte, or spaces, tabs and CRs alone
abbrev pub is_blank : List ℕ → Bool
is_blank line =
    list_all (λ byte. (byte == space) || (byte == tab) || (byte == carriage_return)) line

-- a line: its bytes without the LF, and whether a LF ends it
pub record Line : Type 0 where
  pub bytes : List ℕ
  pub has_end : Bool

-- how many bytes a line takes, its LF included
abbrev pub size : Line → ℕ
size l = length l.bytes + (if l.has_end then 1 else 0)

-- a byte that is no LF begins the first of these lines; before none it is a line alone, which no LF ends
abbrev pub begin_with : ℕ → List Line → List Line
begin_with b [] = record { bytes = b ∷ []; has_end = false } ∷ []
begin_with b (l ∷ ls) = record { bytes = b ∷ l.bytes; has_end = l.has_end } ∷ ls

-- the lines: the parts between LFs, the part after the last LF only if it isn't empty
abbrev pub lines_of : List ℕ → List Line
lines_of [] = []
lines_of (b ∷ bs) =
    if b == line_feed then record { bytes = []; has_end = true } ∷ lines_of bs
    else begin_with b (lines_of bs)

-- The trouble of a line that begins after `before` bytes of the stream. Counted from 0, the first byte beyond the line
-- limit is byte `before + line_limit` of the stream, and the first beyond the stream limit is byte `stream_limit`, which
-- may be the LF. The one that comes first decides; at one byte it is the stream's.
abbrev pub trouble_of : (line_limit stream_limit before : ℕ) → Line → Option Trouble
trouble_of line_limit stream_limit before l =
    if nat_lt line_limit (length l.bytes) && nat_lt (before + line_limit) stream_limit
    then Some LineTooLong
    else if nat_lt stream_limit (before + size l) then Some StreamTooLong
    else None

-- what a feed answers: lines, and then a trouble or the end
pub record FeedAnswers : Type 0 where
  pub lines : List (List ℕ)
  pub trouble : Option Trouble

-- no line, and the end
abbrev pub nothing : FeedAnswers
nothing = record { lines = []; trouble = None }

-- no line, and a trouble
abbrev pub trouble_alone : Trouble → FeedAnswers
trouble_alone t = record { lines = []; trouble = Some t }

-- a line, and then the others
abbrev pub line_then : List ℕ → FeedAnswers → FeedAnswers
line_then l fed = record { lines = l ∷ fed.lines; trouble = fed.trouble }

-- a line's trouble alone, or the line and then the others
abbrev pub unless_trouble : Option Trouble → List ℕ → FeedAnswers → FeedAnswers
unless_trouble (Some t) l fed = trouble_alone t
unless_trouble None l fed = line_then l fed

-- the lines before the first that is too long, and then that line's trouble, where `before` bytes are before them
abbrev pub feed_lines : (line_limit stream_limit before : ℕ) → List Line → FeedAnswers
feed_lines line_limit stream_limit before [] = nothing
feed_lines line_limit stream_limit before (l ∷ ls) =
    unless_trouble (trouble_of line_limit stream_limit before l) l.bytes
    (feed_lines line_limit stream_limit (before + size l) ls)

-- what a feed of these bytes answers
abbrev pub feed : List ℕ → (line_limit stream_limit : ℕ) → FeedAnswers
feed bytes line_limit stream_limit = feed_lines line_limit stream_limit 0 (lines_of bytes)
