-- What a line makes of an audit, and what is answered once lines were judged one by one.
use Rattle.std.proofs.Common.{◌≡◌, ℕ, ◌+◌, refl, sym, ap, ◌∙◌, subst, List, [], ◌∷◌, ◌++◌, Option, Some, None, Result, Ok, Err, false, inr, append-nil, length, arith}
use Rattle.cm_envelope.specs.Lines.{is_blank}
use Rattle.cm_envelope.specs.Reading.{LineFault, FailsAtLine, envelope_of_line}
use Rattle.cm_envelope.specs.declared.fault.EnvelopeFault.{EnvelopeFault}
use Rattle.cm_envelope.specs.declared.fault.EnvelopeFault.TheVariants as shape
use Rattle.cm_envelope.specs.declared.envelope.Envelope.{Envelope}
use Rattle.cm_envelope.specs.declared.feed.Trouble.{Trouble}
use Rattle.cm_envelope.specs.declared.feed.Trouble.TheVariants.{ReadFailed, LineTooLong, StreamTooLong, Memory}
use Rattle.cm_attempt.specs.declared.status.Settings.{Settings}
use Rattle.cm_stream.specs.Findings.{IsBad, stream_fault_named, NoEnvelope}
use Rattle.cm_stream.specs.Stream.{Answer, Found, feed_of, verdict_in}
use Rattle.cm_stream.specs.declared.laws.Audited.{Audited}
use Rattle.cm_state.specs.ByOnePass.{answer_of_line, answer_of_lines}
use Rattle.cm_state.specs.StateChecks.{line_judged_by}
use Rattle.cm_state.specs.Summary.{Summary, empty_summary}
use Rattle.cm_audit.specs.Audit.{AnswersAs, ReadsNoFurther, ReadsUpTo, TakesLine, audited_at, contents, judged_line}
use Rattle.cm_audit.specs.Judging.{HoldNoFault, JudgesAs, JudgesLine, UnlessNoMemory, answer_of_bytes, answer_from_first}
use Rattle.cm_judge.specs.Stops.{unread_line}
use Rattle.cm_judge.specs.State.{summary_of}
use Rattle.cm_audit.specs.Taking.{StopsAtLine, TakesEach, TakesUntil}
use Rattle.cm_judge.specs.Deciding.{envelope_in}
use Rattle.cm_audit.specs.declared.auditing.Judging.{Judging}
use Rattle.cm_judge.specs.declared.state.State.{State}
use Rattle.cm_judge.specs.declared.stop.Stop.{Stop}
use Rattle.cm_judge.specs.declared.stop.Stop.TheVariants as stop

-- ---- a line that is taken

taken : (settings : Settings) (old new : State) (n : ℕ) (r : Option (Result Envelope LineFault)) (more : Summary → Answer) → TakesLine settings old new r (Ok tt)
    → answer_of_line settings (summary_of old) n r more ≡ more (summary_of new)
taken settings old new n None more k = ap more (sym k)
taken settings old new n (Some (Err b)) more k = absurd k
taken settings old new n (Some (Ok e)) more k = rw k.0 (ap more (sym k.1))

-- ---- a line that isn't taken

-- a line that isn't read
unread : (settings : Settings) (old : State) (fault : EnvelopeFault) (r : Result Envelope LineFault) → FailsAtLine fault r → TakesLine settings old old (line_judged_by settings (summary_of old) (Some r)) (Err (unread_line fault))
unread settings old (shape.Line line) r h = rw h (refl, refl)
unread settings old shape.Memory (Ok e) h = refl
unread settings old shape.Memory (Err b) h = refl

pub not_read : (settings : Settings) (old : State) (line : List ℕ) → is_blank line ≡ false → (fault : EnvelopeFault) → FailsAtLine fault (envelope_of_line line) → (why : Stop) → why ≡ unread_line fault → TakesLine settings old old (judged_line settings old line) (Err why)
not_read settings old line filled fault h why e = rw (filled, e) (unread settings old fault (envelope_of_line line) h)

-- nothing more is followed
followed_unread : (follows : List Envelope → Type 0) (settings : Settings) (s : Summary) (fault : EnvelopeFault) (r : Result Envelope LineFault) → FailsAtLine fault r
    → UnlessNoMemory (Err (unread_line fault)) ((es : List Envelope) → follows es → follows (es ++ envelope_in (line_judged_by settings s (Some r))))
followed_unread follows settings s (shape.Line line) r h = rw h (λ es f. subst follows (sym (append-nil es)) f)
followed_unread follows settings s shape.Memory r h = tt

pub not_followed : (follows : List Envelope → Type 0) (settings : Settings) (old : State) (line : List ℕ) → is_blank line ≡ false → (fault : EnvelopeFault) → FailsAtLine fault (envelope_of_line line) → (why : Stop) → why ≡ unread_line fault
    → UnlessNoMemory (Err why) ((es : List Envelope) → follows es → follows (es ++ envelope_in (judged_line settings old line)))
not_followed follows settings old line filled fault h why e = rw (filled, e) (followed_unread follows settings (summary_of old) fault (envelope_of_line line) h)

found : (settings : Settings) (old new : State) (n : ℕ) (r : Option (Result Envelope LineFault)) (more : Summary → Answer) (why : Stop) → UnlessNoMemory (Err why) (TakesLine settings old new r (Err why))
    → AnswersAs (answer_of_line settings (summary_of old) n r more) (audited_at n why)
found settings old new n None more (stop.Bad f) k = absurd k
found settings old new n None more (stop.Unsupported r) k = absurd k
found settings old new n None more stop.Memory k = tt
found settings old new n (Some (Err b)) more (stop.Bad f) k = let told = k.0 in let same : IsBad (NoEnvelope b) ≡ IsBad (stream_fault_named f) = cc in ap (Found n) (sym same)
found settings old new n (Some (Err b)) more (stop.Unsupported r) k = cc
found settings old new n (Some (Err b)) more stop.Memory k = tt
found settings old new n (Some (Ok e)) more (stop.Bad f) k = rw k.0 refl
found settings old new n (Some (Ok e)) more (stop.Unsupported r) k = rw k refl
found settings old new n (Some (Ok e)) more stop.Memory k = tt

pub never_failed : (n : ℕ) (why : Stop) → audited_at n why ≡ Err ReadFailed → ⊥
never_failed n (stop.Bad b) e = cc
never_failed n (stop.Unsupported r) e = cc
never_failed n stop.Memory e = cc

up_to : (n : ℕ) (why : Stop) (xs zs : List ℕ) → ReadsNoFurther n xs zs → ReadsUpTo (verdict_in (audited_at n why)) xs zs
up_to n (stop.Bad b) xs zs r = inr r
up_to n (stop.Unsupported u) xs zs r = r
up_to n stop.Memory xs zs r = tt

-- ---- lines that are judged one by one

module _ {W : Type 0} (follows : W → List Envelope → Type 0) where
  -- the settings stay
  pub same_settings : (old new : Judging W) (lines : List (List ℕ)) → TakesEach (JudgesLine follows) old lines new → new.settings ≡ old.settings
  same_settings old new [] h = ap (λ (j : Judging W). j.settings) h
  same_settings old new (l ∷ ls) h = same_settings h.0 new ls h.2 ∙ h.1.settings

  -- what is answered of the lines after them, from line m on
  judges_each : (settings : Settings) (old new : Judging W) (n m : ℕ) (lines more : List (List ℕ)) (t : Option Trouble) → old.settings ≡ settings → m ≡ n + length lines → TakesEach (JudgesLine follows) old lines new
      → answer_of_lines settings (summary_of old.state) n (lines ++ more) t ≡ answer_of_lines settings (summary_of new.state) m more t
  judges_each settings old new n m [] more t own count h =
      let here : n ≡ m = omega (arith, count) in
      ap (λ (j : Judging W). answer_of_lines settings (summary_of j.state) n more t) (sym h) ∙ ap (λ k. answer_of_lines settings (summary_of new.state) k more t) here
  judges_each settings old new n m (l ∷ ls) more t own count h =
      let k : TakesLine settings old.state h.0.state (judged_line settings old.state l) (Ok tt) = subst (λ (s : Settings). TakesLine s old.state h.0.state (judged_line s old.state l) (Ok tt)) own h.1.taken in
      taken settings old.state h.0.state n (judged_line settings old.state l) (λ (now : Summary). answer_of_lines settings now (n + 1) (ls ++ more) t) k
      ∙ judges_each settings h.0 new (n + 1) m ls more t (h.1.settings ∙ own) (omega (arith, count)) h.2

  module _ (first : Judging W) (nothing : summary_of first.state ≡ empty_summary first.settings.first_attempt) where
    judges_first : (now : Judging W) (lines more : List (List ℕ)) (t : Option Trouble) → TakesEach (JudgesLine follows) first lines now
        → answer_from_first first.settings (lines ++ more) t ≡ answer_of_lines first.settings (summary_of now.state) (length lines + 1) more t
    judges_first now lines more t h =
        ap (λ (s : Summary). answer_of_lines first.settings s 1 (lines ++ more) t) (sym nothing)
        ∙ judges_each first.settings first now 1 (length lines + 1) lines more t refl (omega arith) h

    -- what is answered of bytes that have these lines first
    pub judged_after : (now : Judging W) (bytes : List ℕ) (lines more : List (List ℕ)) (t : Option Trouble) → (feed_of bytes).lines ≡ lines ++ more → (feed_of bytes).trouble ≡ t → TakesEach (JudgesLine follows) first lines now
        → answer_of_bytes first.settings bytes ≡ answer_of_lines first.settings (summary_of now.state) (length lines + 1) more t
    judged_after now bytes lines more t cut trouble h =
        ap (λ (ls : List (List ℕ)). answer_from_first first.settings ls (feed_of bytes).trouble) cut
        ∙ ap (answer_from_first first.settings (lines ++ more)) trouble
        ∙ judges_first now lines more t h

    -- and no more lines
    pub judged_all : (now : Judging W) (bytes : List ℕ) (t : Option Trouble) → (feed_of bytes).trouble ≡ t → TakesEach (JudgesLine follows) first (feed_of bytes).lines now
        → answer_of_bytes first.settings bytes ≡ answer_of_lines first.settings (summary_of now.state) (length (feed_of bytes).lines + 1) [] t
    judged_all now bytes t trouble h = judged_after now bytes (feed_of bytes).lines [] t (sym (append-nil (feed_of bytes).lines)) trouble h

    -- ---- a line that stops it

    pub stops_at : (new : Judging W) (answer : Result Audited Trouble) (bytes rest : List ℕ) (h : StopsAtLine (JudgesLine follows) first new answer bytes rest)
        → UnlessNoMemory (Err h.why) (TakesLine first.settings h.last.state new.state (judged_line first.settings h.last.state h.line) (Err h.why)) → JudgesAs first.settings (audited_at (length h.before + 1) h.why) bytes rest
    stops_at new answer bytes rest h k =
        let n = length h.before + 1 in
        let left : answer_of_bytes first.settings bytes ≡ answer_of_lines first.settings (summary_of h.last.state) n (h.line ∷ h.after) (feed_of bytes).trouble = judged_after h.last bytes h.before (h.line ∷ h.after) (feed_of bytes).trouble h.cut refl h.taken in
        record {
          told = rw left (found first.settings h.last.state new.state n (judged_line first.settings h.last.state h.line) (λ (now : Summary). answer_of_lines first.settings now (n + 1) h.after (feed_of bytes).trouble) h.why k);
          read_failed = λ e. absurd (never_failed n h.why e);
          ahead = up_to n h.why bytes rest h.no_further;
        }

    -- ---- a trouble

    trouble_told : (now : Judging W) (t : Trouble) (bytes rest : List ℕ) → TakesUntil (JudgesLine follows) first now t bytes rest → AnswersAs (answer_of_bytes first.settings bytes) (Err t)
    trouble_told now ReadFailed bytes rest h = tt
    trouble_told now LineTooLong bytes rest h = sym (judged_all now bytes (Some LineTooLong) h.1 h.0)
    trouble_told now StreamTooLong bytes rest h = sym (judged_all now bytes (Some StreamTooLong) h.1 h.0)
    trouble_told now Memory bytes rest h = tt

    trouble_held : (now : Judging W) (t : Trouble) (bytes rest : List ℕ) → TakesUntil (JudgesLine follows) first now t bytes rest → t ≡ ReadFailed → HoldNoFault first.settings bytes rest
    trouble_held now ReadFailed bytes rest h e = record {
      lines = h.lines;
      ahead = h.ahead;
      begins = h.begins;
      faultless = ap (λ (ls : List (List ℕ)). answer_from_first first.settings ls (Some ReadFailed)) (sym (append-nil (contents h.lines))) ∙ judges_first now (contents h.lines) [] (Some ReadFailed) h.taken;
      nothing = h.nothing;
    }
    trouble_held now LineTooLong bytes rest h e = cc
    trouble_held now StreamTooLong bytes rest h e = cc
    trouble_held now Memory bytes rest h e = cc

    same_trouble : (t u : Trouble) → (let answer : Result Audited Trouble = Err t in answer) ≡ Err u → t ≡ u
    same_trouble t u e = cc

    pub troubled : (now : Judging W) (t : Trouble) (bytes rest : List ℕ) → TakesUntil (JudgesLine follows) first now t bytes rest → JudgesAs first.settings (Err t) bytes rest
    troubled now t bytes rest h = record {
      told = trouble_told now t bytes rest h;
      read_failed = λ e. trouble_held now t bytes rest h (same_trouble t ReadFailed e);
      ahead = tt;
    }
