-- What goes along with an audit is what it has to be after the stream's envelopes, and at the line that has a fault.
use Rattle.std.proofs.Common.{◌≡◌, ℕ, ◌+◌, refl, sym, ap, ◌∙◌, subst, List, [], ◌∷◌, ◌++◌, Option, Some, None, Result, Ok, Err, Bool, true, false, inl, inr, append-nil, append_assoc, length, map, arith, ◌<◌}
use Rattle.std.specs.Prelude.{IfOk, IfSome, ⊤}
use Rattle.std.proofs.lemmas.List.{length-append}
use Rattle.cm_envelope.specs.Device.{Input, OfReads}
use Rattle.cm_envelope.specs.Feeds.{is_failed_read}
use Rattle.cm_envelope.specs.Lines.{is_blank}
use Rattle.cm_envelope.specs.Reading.{LineFault, envelope_of_line}
use Rattle.cm_envelope.specs.declared.envelope.Envelope.{Envelope}
use Rattle.cm_envelope.specs.declared.feed.Trouble.{Trouble}
use Rattle.cm_envelope.specs.declared.feed.Trouble.TheVariants.{ReadFailed, LineTooLong, StreamTooLong, Memory}
use Rattle.cm_envelope.proofs.Sources.{reads_weaker}
use Rattle.cm_attempt.specs.Results.{case_results}
use Rattle.cm_attempt.specs.Table.{Table}
use Rattle.cm_attempt.specs.declared.status.Settings.{Settings}
use Rattle.cm_stream.specs.ByOnePass.{fault, IsFaultless}
use Rattle.cm_stream.specs.Findings.{Finding, IsBad, IsUnsupported, NoEnvelope, stream_fault_named}
use Rattle.cm_stream.specs.Record.{table_of_envelopes}
use Rattle.cm_stream.specs.Redeclared.{judged_after, judged_as, line_judged_as}
use Rattle.cm_stream.specs.Stream.{IsGoodRun, as_read, envelopes, feed_of, nonblank_lines, read_line, envelope_unless_blank}
use Rattle.cm_stream.specs.declared.laws.Audited.{Audited}
use Rattle.cm_stream.specs.declared.laws.Counts.{Counts}
use Rattle.cm_stream.specs.declared.laws.StreamFault.{StreamFault}
use Rattle.cm_stream.specs.declared.laws.StreamFault.TheVariants as bad
use Rattle.cm_stream.specs.declared.laws.Verdict.TheVariants as verdict
use Rattle.cm_stream.proofs.NoFault.{good_have_no_fault}
use Rattle.cm_stream.proofs.Streams.{answers_are_right}
use Rattle.cm_stream.proofs.TableSteps.{none_is_refused}
use Rattle.cm_stream.proofs.Tables.{tables_have_results}
use Rattle.cm_state.specs.Laws.{answer_at_end}
use Rattle.cm_state.specs.StateChecks.{finding_at_end, line_judged_by}
use Rattle.cm_state.specs.Summary.{Summary, counts_in, empty_summary}
use Rattle.cm_state.specs.ByOnePass.{finding, summary_after_line, summary_of_lines}
use Rattle.cm_state.proofs.Checked.{findings_are_faults}
use Rattle.cm_state.proofs.Judged.{judged_is_told, none_yet, one_more_line, same_line}
use Rattle.cm_state.proofs.Steps.{summaries_step}
use Rattle.cm_audit.specs.Audit.{AnswersAs, GoodAtEnd, IsAuditOf, TakesLine, audited_at, judged_line, unsuccessful}
use Rattle.cm_audit.specs.Judging.{DecidesAnswer, FollowsAnswer, JudgesLine, JudgesWith, RereadsLast, RereadsLine, UnlessNoMemory, answer_of_bytes}
use Rattle.cm_audit.specs.Taking.{StopsAtLine, TakesEach, TakesStream}
use Rattle.cm_stream.specs.OnePass.{reads}
use Rattle.cm_stream.proofs.OnePass.{is_read as reads_by_the_grammar}
use Rattle.cm_judge.specs.Deciding.{HasLast, IsDecidedAt, envelope_in, envelopes_in, is_of_envelope, judged_in}
use Rattle.cm_audit.specs.Watched.{IsFollowed, IsWatchedAuditOf, audit_in, with_watch}
use Rattle.cm_judge.specs.State.{summary_of}
use Rattle.cm_audit.specs.declared.auditing.Judging.{Judging}
use Rattle.cm_audit.specs.declared.auditing.WatchedAudit.{WatchedAudit}
use Rattle.cm_judge.specs.declared.state.State.{State}
use Rattle.cm_judge.specs.declared.stop.Stop.{Stop}
use Rattle.cm_judge.specs.declared.stop.Stop.TheVariants as stop
use Rattle.cm_audit.proofs.Answering.{judged_all, same_settings, stops_at, troubled}
use Rattle.cm_audit.proofs.Verdicts.{audit_of, none_at_end}

-- ---- the envelopes of lines

-- lines that are read as envelopes are read as these
read_all : (n : ℕ) (ls : List (List ℕ)) (lines : List (ℕ × Envelope)) → map read_line (nonblank_lines n ls) ≡ map as_read lines → envelopes lines ≡ envelopes_in ls
read_all n [] [] read = refl
read_all n [] (x ∷ lines) read = cc
read_all n (l ∷ ls) lines read = go (is_blank l) refl (read_all (n + 1) ls)
  where
    filled : is_blank l ≡ false → (lines : List (ℕ × Envelope)) → (n, envelope_of_line l) ∷ map read_line (nonblank_lines (n + 1) ls) ≡ map as_read lines
        → ((more : List (ℕ × Envelope)) → map read_line (nonblank_lines (n + 1) ls) ≡ map as_read more → envelopes more ≡ envelopes_in ls) → envelopes lines ≡ envelopes_in (l ∷ ls)
    filled is [] read rec = cc
    filled is (x ∷ lines) read rec =
        let first : ◌≡◌ {A = ℕ × Result Envelope LineFault} (n, envelope_of_line l) (as_read x) = cc in
        let more : map read_line (nonblank_lines (n + 1) ls) ≡ map as_read lines = cc in
        let here : envelope_of_line l ≡ Ok x.1 = ap (λ (r : ℕ × Result Envelope LineFault). r.1) first in
        rw (is, here) (ap (λ es. x.1 ∷ es) (rec lines more))

    go : (b : Bool) → is_blank l ≡ b → ((more : List (ℕ × Envelope)) → map read_line (nonblank_lines (n + 1) ls) ≡ map as_read more → envelopes more ≡ envelopes_in ls) → envelopes lines ≡ envelopes_in (l ∷ ls)
    go true e rec = rw e (rec lines (rw e at read))
    go false e rec = filled e lines (rw e at read) rec

-- ---- what is kept

kept_next : (settings : Settings) (old new : State) (r : Option (Result Envelope LineFault)) (es : List Envelope) → TakesLine settings old new r (Ok tt) → IsFaultless settings es
    → summary_of old ≡ summary_of_lines settings.first_attempt es → IsFaultless settings (es ++ envelope_in r) × (summary_of new ≡ summary_of_lines settings.first_attempt (es ++ envelope_in r))
kept_next settings old new None es k none h =
    let same : es ≡ es ++ [] = sym (append-nil es) in
    (subst (IsFaultless settings) same none, k ∙ h ∙ ap (summary_of_lines settings.first_attempt) same)
kept_next settings old new (Some (Err b)) es k none h = absurd k
kept_next settings old new (Some (Ok e)) es k none h =
    let found : fault settings es e ≡ None = sym (findings_are_faults settings es e none) ∙ ap (λ (s : Summary). finding settings s e) (sym h) ∙ k.0 in
    let more : IsFaultless settings (es ++ e ∷ []) = one_more_line settings es e none found in
    (more, k.1 ∙ ap (λ (s : Summary). summary_after_line s e) h ∙ sym (summaries_step settings es e more))

-- what one line and the rest are judged as
judged_next : (settings : Settings) (o : Option (Result Envelope LineFault)) (es rest : List Envelope) → es ++ judged_after settings es (envelope_in o ++ rest) ≡ (es ++ envelope_in (line_judged_as settings es o)) ++ judged_after settings (es ++ envelope_in (line_judged_as settings es o)) rest
judged_next settings None es rest = ap (λ (xs : List Envelope). xs ++ judged_after settings xs rest) (sym (append-nil es))
judged_next settings (Some (Err b)) es rest = ap (λ (xs : List Envelope). xs ++ judged_after settings xs rest) (sym (append-nil es))
judged_next settings (Some (Ok e)) es rest =
    let said = judged_as settings es e in
    sym (append_assoc es (said ∷ []) (judged_after settings (es ++ said ∷ []) rest))

-- a line that isn't an envelope has no fault of one
not_of_envelope : (b : StreamFault) (f : LineFault) → Some (IsBad (NoEnvelope f)) ≡ Some (IsBad (stream_fault_named b)) → is_of_envelope b ≡ true → ⊥
not_of_envelope (bad.NoEnvelope x) f e some = cc
not_of_envelope _ f e some = cc

-- `follows` holds of these envelopes, which have no fault, and what is kept is what they leave
record HasFollowed {W : Type 0} (settings : Settings) (follows : W → List Envelope → Type 0) (es : List Envelope) (now : Judging W) : Type 0 where
  pub followed : follows now.watch es
  pub faultless : IsFaultless settings es
  pub kept : summary_of now.state ≡ summary_of_lines settings.first_attempt es

module _ {W : Type 0} (settings : Settings) (follows : W → List Envelope → Type 0) where
  follows_next : (old new : Judging W) (l : List ℕ) (es : List Envelope) → old.settings ≡ settings → JudgesLine follows old l (Ok tt) new → HasFollowed settings follows es old → HasFollowed settings follows (es ++ envelope_in (line_judged_as settings es (envelope_unless_blank l))) new
  follows_next old new l es own k h =
      let o = envelope_unless_blank l in
      let same : judged_line old.settings old.state l ≡ line_judged_as settings es o = ap (λ (s : Settings). judged_line s old.state l) own ∙ ap (λ (s : Summary). line_judged_by settings s o) h.kept ∙ same_line settings es o in
      let judged : TakesLine old.settings old.state new.state (line_judged_as settings es o) (Ok tt) = subst (λ (r : Option (Result Envelope LineFault)). TakesLine old.settings old.state new.state r (Ok tt)) same k.taken in
      let taken : TakesLine settings old.state new.state (line_judged_as settings es o) (Ok tt) = subst (λ (s : Settings). TakesLine s old.state new.state (line_judged_as settings es o) (Ok tt)) own judged in
      let kept = kept_next settings old.state new.state (line_judged_as settings es o) es taken h.faultless h.kept in
      record { followed = subst (λ (r : Option (Result Envelope LineFault)). follows new.watch (es ++ envelope_in r)) same (k.followed es h.followed); faultless = kept.0; kept = kept.1 }

  follows_each : (old new : Judging W) (lines : List (List ℕ)) (es : List Envelope) → old.settings ≡ settings → TakesEach (JudgesLine follows) old lines new → HasFollowed settings follows es old → HasFollowed settings follows (es ++ judged_after settings es (envelopes_in lines)) new
  follows_each old new [] es own k h =
      subst (HasFollowed settings follows (es ++ [])) (sym k) (subst (λ (xs : List Envelope). HasFollowed settings follows xs old) (sym (append-nil es)) h)
  follows_each old new (l ∷ ls) es own k h =
      let e = envelope_in (line_judged_as settings es (envelope_unless_blank l)) in
      subst (λ (xs : List Envelope). HasFollowed settings follows xs new) (sym (judged_next settings (envelope_unless_blank l) es (envelopes_in ls)))
      (follows_each k.0 new ls (es ++ e) (k.1.settings ∙ own) k.2 (follows_next old k.0 l es own k.1 h))

-- ---- the answer

module _ (settings : Settings) (follows : List Envelope → Type 0) where
  -- a good stream's lines were all read
  followed_good : (bytes : List ℕ) (s : Summary) (counts : Counts) (success : Bool) (ls : List (List ℕ)) → AnswersAs (answer_of_bytes settings bytes) (Ok (record { verdict = verdict.Good counts; success = success }))
      → (feed_of bytes).lines ≡ ls → follows (judged_in settings ls) → s.table ≡ table_of_envelopes settings.first_attempt (judged_in settings ls) → IsFollowed settings follows s.table bytes
  followed_good bytes s counts success ls told all follow table =
      let answer : Result Audited Trouble = Ok (record { verdict = verdict.Good counts; success = success }) in
      let run : IsGoodRun settings bytes counts success = (answers_are_right settings bytes answer (told ∙ judged_is_told settings (feed_of bytes).lines (feed_of bytes).trouble)).good in
      let es = run.judged in
      let said : envelopes run.read.lines ≡ envelopes_in ls = read_all 1 (feed_of bytes).lines run.read.lines run.read.read.read ∙ ap envelopes_in all in
      let same : es ≡ judged_in settings ls = run.read.judged ∙ ap (judged_after settings []) said in
      let here : s.table ≡ table_of_envelopes settings.first_attempt es = table ∙ ap (table_of_envelopes settings.first_attempt) (sym same) in
      let accepted = none_is_refused settings es (good_have_no_fault settings es run.good).lines in
      record {
        judged = run.judged;
        read = run.read;
        good = run.good;
        followed = subst follows (sym same) follow;
        kept = here;
        results = ap case_results here ∙ (tables_have_results settings.first_attempt es (table_of_envelopes settings.first_attempt es) accepted).1;
      }

not_followed : (settings : Settings) (follows : List Envelope → Type 0) (table : Table) (n : ℕ) (why : Stop) (xs : List ℕ) → FollowsAnswer settings follows table xs (audited_at n why)
not_followed settings follows table n (stop.Bad b) xs = tt
not_followed settings follows table n (stop.Unsupported r) xs = tt
not_followed settings follows table n stop.Memory xs = tt

module _ {W : Type 0} (follows : W → List Envelope → Type 0) (first : Judging W) (nothing : summary_of first.state ≡ empty_summary first.settings.first_attempt) (start : follows first.watch []) where
  -- the lines so far were followed
  so_far : (now : Judging W) (lines : List (List ℕ)) → TakesEach (JudgesLine follows) first lines now → HasFollowed first.settings follows (judged_in first.settings lines) now
  so_far now lines k = follows_each first.settings follows first now lines [] refl k (record { followed = start; faultless = none_yet first.settings; kept = nothing })

  -- what was read once more is what the line is read as
  same_envelope : (line : List ℕ) (said e : Envelope) (b : Bool) → is_blank line ≡ b → envelope_unless_blank line ≡ Some (Ok said) → envelope_of_line line ≡ Ok e → envelope_unless_blank line ≡ Some (Ok e)
  same_envelope line said e true blank is again = let no : (let nothing : Option (Result Envelope LineFault) = None in nothing) ≡ Some (Ok said) = rw blank at is in cc
  same_envelope line said e false blank is again = rw (blank, again) refl

  decided_at : (new : Judging W) (answer : Result Audited Trouble) (xs zs : List ℕ) (h : StopsAtLine (JudgesLine follows) first new answer xs zs) (why : Stop) (f : Finding) (left : Summary → Type 0)
      → ((x : Envelope) → TakesLine first.settings h.last.state new.state (Some (Ok x)) (Err why) → (finding first.settings (summary_of h.last.state) x ≡ Some f) × left (summary_of h.last.state))
      → ((b : LineFault) → TakesLine first.settings h.last.state new.state (Some (Err b)) (Err why) → ⊥)
      → TakesLine first.settings h.last.state new.state (judged_line first.settings h.last.state h.line) (Err why)
      → ((es : List Envelope) → follows h.last.watch es → follows new.watch (es ++ envelope_in (judged_line first.settings h.last.state h.line)))
      → (last : Option Envelope) → IfSome last (λ e. envelope_of_line h.line ≡ Ok e) → IfSome last (IsDecidedAt first.settings (follows new.watch) left xs (length h.before + 1) f)
  decided_at new answer xs zs h why f left found none k goes None again = tt
  decided_at new answer xs zs h why f left found none k goes (Some e) again = go (envelope_unless_blank h.line) refl
    where
      es : List Envelope
      es = judged_in first.settings h.before

      x : Envelope
      x = judged_as first.settings es e

      kept : HasFollowed first.settings follows es h.last
      kept = so_far h.last h.before h.taken

      judged_so : (o : Option (Result Envelope LineFault)) → envelope_unless_blank h.line ≡ o → judged_line first.settings h.last.state h.line ≡ line_judged_as first.settings es o
      judged_so o is = ap (line_judged_by first.settings (summary_of h.last.state)) is ∙ ap (λ (s : Summary). line_judged_by first.settings s o) kept.kept ∙ same_line first.settings es o

      said : (raw : Envelope) → envelope_unless_blank h.line ≡ Some (Ok raw) → IsDecidedAt first.settings (follows new.watch) left xs (length h.before + 1) f e
      said raw is =
          let read : envelope_unless_blank h.line ≡ Some (Ok e) = same_envelope h.line raw e (is_blank h.line) refl is again in
          let here : judged_line first.settings h.last.state h.line ≡ Some (Ok x) = judged_so (Some (Ok e)) read in
          let taken = subst (λ (r : Option (Result Envelope LineFault)). TakesLine first.settings h.last.state new.state r (Err why)) here k in
          record {
            read = reads;
            by_the_grammar = reads_by_the_grammar;
            before = h.before;
            line = h.line;
            after = h.after;
            cut = h.cut;
            count = refl;
            is_read = read;
            faultless = kept.faultless;
            why = sym (findings_are_faults first.settings es x kept.faultless) ∙ ap (λ (s : Summary). finding first.settings s x) (sym kept.kept) ∙ (found x taken).0;
            leaves = subst left kept.kept (found x taken).1;
            followed = subst (λ (r : Option (Result Envelope LineFault)). follows new.watch (es ++ envelope_in r)) here (goes es kept.followed);
          }

      go : (o : Option (Result Envelope LineFault)) → envelope_unless_blank h.line ≡ o → IsDecidedAt first.settings (follows new.watch) left xs (length h.before + 1) f e
      go None is = absurd (subst (λ (r : Option (Result Envelope LineFault)). TakesLine first.settings h.last.state new.state r (Err why)) (judged_so None is) k)
      go (Some (Err b)) is = absurd (none b (subst (λ (r : Option (Result Envelope LineFault)). TakesLine first.settings h.last.state new.state r (Err why)) (judged_so (Some (Err b)) is) k))
      go (Some (Ok raw)) is = said raw is

  -- a line isn't past the last one
  within : (before after : List (List ℕ)) (line : List ℕ) (lines : List (List ℕ)) → lines ≡ before ++ line ∷ after → length lines < length before + 1 → ⊥
  within before after line lines cut less = let count = ap length cut ∙ length-append before (line ∷ after) in omega (arith, count, less)

  -- what was read once more is the envelope of the line
  read_so : (is_wanted : Bool) (last : Option Envelope) (line : List ℕ) → RereadsLine is_wanted last line → IfSome last (λ e. envelope_of_line line ≡ Ok e)
  read_so true (Some e) line again = again
  read_so true None line again = tt
  read_so false (Some e) line again = cc
  read_so false None line again = tt

  decided_by : (new : Judging W) (answer : Result Audited Trouble) (xs zs : List ℕ) (h : StopsAtLine (JudgesLine follows) first new answer xs zs) (why : Stop)
      → UnlessNoMemory (Err why) (TakesLine first.settings h.last.state new.state (judged_line first.settings h.last.state h.line) (Err why))
      → UnlessNoMemory (Err why) ((es : List Envelope) → follows h.last.watch es → follows new.watch (es ++ envelope_in (judged_line first.settings h.last.state h.line)))
      → RereadsLast h.last.wants_last new.last h.line (Err why) → DecidesAnswer first.settings (follows new.watch) new.last (summary_of new.state) xs (audited_at (length h.before + 1) why)
  decided_by new answer xs zs h (stop.Bad b) k goes again = (
    λ some. decided_at new answer xs zs h (stop.Bad b) (IsBad (stream_fault_named b)) (λ s. summary_of new.state ≡ s) (λ x t. t) (λ fault t. not_of_envelope b fault t.0 some) k goes new.last (read_so h.last.wants_last new.last h.line again),
    λ less. absurd (within h.before h.after h.line (feed_of xs).lines h.cut less),
  )
  decided_by new answer xs zs h (stop.Unsupported r) k goes again =
      decided_at new answer xs zs h (stop.Unsupported r) (IsUnsupported r) (λ s. ⊤) (λ x t. (t, tt)) (λ fault t. cc) k goes new.last (read_so h.last.wants_last new.last h.line again)
  decided_by new answer xs zs h stop.Memory k goes again = tt

  -- a line that was read once more, and is none, has no fault of an envelope
  lacks_none : (old new : State) (line : List ℕ) (why : Stop) (fault : LineFault) → envelope_of_line line ≡ Err fault → TakesLine first.settings old new (judged_line first.settings old line) (Err why) → TakesLine first.settings old new (Some (Err fault)) (Err why)
  lacks_none old new line why fault is k = go (is_blank line) refl
    where
      go : (b : Bool) → is_blank line ≡ b → TakesLine first.settings old new (Some (Err fault)) (Err why)
      go true blank = absurd (rw blank at k)
      go false blank = rw (blank, is) at k

  -- the envelope of the line that stops it is there, where that is wanted
  has_last : (n : ℕ) (old new : State) (line : List ℕ) (last : Option Envelope) (why : Stop) → UnlessNoMemory (Err why) (TakesLine first.settings old new (judged_line first.settings old line) (Err why)) → RereadsLast true last line (Err why)
      → IfOk (audited_at n why) (λ (a : Audited). HasLast last a.verdict)
  has_last n old new line (Some e) (stop.Bad b) k again = λ some. refl
  has_last n old new line None (stop.Bad b) k again = λ some. absurd (not_of_envelope b again.0 (lacks_none old new line (stop.Bad b) again.0 again.1 k).0 some)
  has_last n old new line (Some e) (stop.Unsupported r) k again = refl
  has_last n old new line None (stop.Unsupported r) k again = let no = lacks_none old new line (stop.Unsupported r) again.0 again.1 k in absurd cc
  has_last n old new line last stop.Memory k again = tt

  same_wants : (old new : Judging W) (lines : List (List ℕ)) → TakesEach (JudgesLine follows) old lines new → new.wants_last ≡ old.wants_last
  same_wants old new [] h = ap (λ (j : Judging W). j.wants_last) h
  same_wants old new (l ∷ ls) h = same_wants h.0 new ls h.2 ∙ h.1.wants_last

  last_there : (new : Judging W) (answer : Result Audited Trouble) (xs zs : List ℕ) → first.wants_last ≡ true → TakesStream (JudgesLine follows) first new (Err answer) xs zs → IfOk answer (λ (a : Audited). HasLast new.last a.verdict)
  last_there new answer xs zs wants (inl h) =
      let own : h.last.settings ≡ first.settings = same_settings follows first h.last h.before h.taken in
      let k = subst (λ (s : Settings). UnlessNoMemory (let stopped : Result ⊤ Stop = Err h.why in stopped) (TakesLine s h.last.state new.state (judged_line s h.last.state h.line) (Err h.why))) own h.stopped.taken in
      let again = subst (λ (b : Bool). RereadsLast b new.last h.line (Err h.why)) (same_wants first h.last h.before h.taken ∙ wants) h.stopped.again in
      subst (λ (a : Result Audited Trouble). IfOk a (λ (x : Audited). HasLast new.last x.verdict)) (sym h.answers) (has_last (length h.before + 1) h.last.state new.state h.line new.last h.why k again)
  last_there new answer xs zs wants (inr h) = subst (λ (a : Result Audited Trouble). IfOk a (λ (x : Audited). HasLast new.last x.verdict)) (sym h.1) tt

  pub last_is_there : (new : Judging W) (answer : Result Audited Trouble) (a c : Input) → OfReads a c (TakesStream (JudgesLine follows) first new (Err answer)) → first.wants_last ≡ true → IfOk answer (λ (x : Audited). HasLast new.last x.verdict)
  last_is_there new answer a c p wants = last_there new answer (p.0 ++ []) [] wants (p.2 [] (λ over. refl))

  stops_with : (new : Judging W) (answer : Result Audited Trouble) (xs zs : List ℕ) → StopsAtLine (JudgesLine follows) first new answer xs zs → JudgesWith first.settings (follows new.watch) new.last (summary_of new.state) answer xs zs
  stops_with new answer xs zs h =
      let own : h.last.settings ≡ first.settings = same_settings follows first h.last h.before h.taken in
      let k = subst (λ (s : Settings). UnlessNoMemory (let stopped : Result ⊤ Stop = Err h.why in stopped) (TakesLine s h.last.state new.state (judged_line s h.last.state h.line) (Err h.why))) own h.stopped.taken in
      let goes = subst (λ (s : Settings). UnlessNoMemory (let stopped : Result ⊤ Stop = Err h.why in stopped) ((es : List Envelope) → follows h.last.watch es → follows new.watch (es ++ envelope_in (judged_line s h.last.state h.line)))) own h.stopped.followed in
      subst (λ (a : Result Audited Trouble). JudgesWith first.settings (follows new.watch) new.last (summary_of new.state) a xs zs) (sym h.answers)
      (record {
        judges = stops_at follows first nothing new answer xs zs h k;
        follows_it = not_followed first.settings (follows new.watch) (summary_of new.state).table (length h.before + 1) h.why xs;
        decided = decided_by new answer xs zs h h.why k goes h.stopped.again;
      })

  ended_with : (new : Judging W) (answer : Result Audited Trouble) (xs zs : List ℕ) → TakesStream (JudgesLine follows) first new (Err answer) xs zs → JudgesWith first.settings (follows new.watch) new.last (summary_of new.state) answer xs zs
  ended_with new answer xs zs (inl h) = stops_with new answer xs zs h
  ended_with new answer xs zs (inr h) =
      subst (λ (a : Result Audited Trouble). JudgesWith first.settings (follows new.watch) new.last (summary_of new.state) a xs zs) (sym h.1)
      (record { judges = troubled follows first nothing new h.0 xs zs h.2; follows_it = tt; decided = tt })

  -- the answer at a line, or for a trouble
  pub answers_with : (new : Judging W) (answer : Result Audited Trouble) (a c : Input) → OfReads a c (TakesStream (JudgesLine follows) first new (Err answer)) → OfReads a c (JudgesWith first.settings (follows new.watch) new.last (summary_of new.state) answer)
  answers_with new answer a c p =
      reads_weaker {P = TakesStream (JudgesLine follows) first new (Err answer)} {Q = JudgesWith first.settings (follows new.watch) new.last (summary_of new.state) answer} a c p (ended_with new answer)

  -- the end, before the run is over
  pub ends_early_with : (new : Judging W) (n : ℕ) (a c : Input) → new.state.is_finished ≡ false → OfReads a c (TakesStream (JudgesLine follows) first new (Ok n))
      → OfReads a c (JudgesWith first.settings (follows new.watch) new.last (summary_of new.state) (Ok (unsuccessful (verdict.Bad (n + 1) bad.NoRunFinished))))
  ends_early_with new n a c e p =
      let answer : Result Audited Trouble = Ok (unsuccessful (verdict.Bad (n + 1) bad.NoRunFinished)) in
      reads_weaker {P = TakesStream (JudgesLine follows) first new (Ok n)} {Q = JudgesWith first.settings (follows new.watch) new.last (summary_of new.state) answer} a c p
      (λ xs zs h. record {
        judges = record {
          told = let end : answer_of_bytes first.settings xs ≡ answer_at_end (length (feed_of xs).lines + 1) (summary_of new.state) (finding_at_end (summary_of new.state)) = judged_all follows first nothing new xs None h.whole h.taken in
              sym (end ∙ rw (e, ← h.count) refl);
          read_failed = λ failed. cc;
          ahead = inl (omega (arith, h.count));
        };
        follows_it = tt;
        decided = (
          λ some. absurd cc,
          λ less.
              let followed = so_far new (feed_of xs).lines h.taken in
              record { read = reads; by_the_grammar = reads_by_the_grammar; whole = h.whole; faultless = followed.faultless; followed = followed.followed; left = followed.kept },
        );
      })

  -- the end, once the run is over
  pub ends_well_with : (new : Judging W) (n : ℕ) (a c : Input) → new.state.is_finished ≡ true → OfReads a c (TakesStream (JudgesLine follows) first new (Ok n))
      → OfReads a c (JudgesWith first.settings (follows new.watch) new.last (summary_of new.state) (Ok (record { verdict = verdict.Good (counts_in (summary_of new.state)); success = new.state.success })))
  ends_well_with new n a c e p =
      let s = summary_of new.state in
      let answer : Result Audited Trouble = Ok (record { verdict = verdict.Good (counts_in s); success = s.success }) in
      reads_weaker {P = TakesStream (JudgesLine follows) first new (Ok n)} {Q = JudgesWith first.settings (follows new.watch) new.last s answer} a c p
      (λ xs zs h.
      let lines = (feed_of xs).lines in
      let end : answer_at_end (length lines + 1) s (finding_at_end s) ≡ answer_at_end (length lines + 1) s None = rw e refl in
      let told : AnswersAs (answer_of_bytes first.settings xs) answer = sym (judged_all follows first nothing new xs None h.whole h.taken ∙ end) in
      let followed = so_far new lines h.taken in
      record {
        judges = record { told = told; read_failed = λ failed. cc; ahead = tt };
        follows_it = followed_good first.settings (follows new.watch) xs s (counts_in s) s.success lines told refl followed.followed (ap (λ (u : Summary). u.table) followed.kept);
        decided = tt;
      })

  -- no answer at a line or for a trouble is Good
  not_good : (new : Judging W) (answer : Result Audited Trouble) (after : Input) (xs zs : List ℕ) → TakesStream (JudgesLine follows) first new (Err answer) xs zs → GoodAtEnd after answer
  not_good new answer after xs zs (inl h) = subst (GoodAtEnd after) (sym h.answers) (none_at_end after (length h.before + 1) h.why)
  not_good new answer after xs zs (inr h) = subst (GoodAtEnd after) (sym h.1) tt

  pub not_good_with : (new : Judging W) (answer : Result Audited Trouble) (a c : Input) → OfReads a c (TakesStream (JudgesLine follows) first new (Err answer)) → GoodAtEnd c answer
  not_good_with new answer a c p = not_good new answer c (p.0 ++ []) [] (p.2 [] (λ over. refl))

-- ---- the audit

module _ {W : Type 0} (settings : Settings) (follows : W → List Envelope → Type 0) where
  watched : (watch : W) (last : Option Envelope) (state : State) (answer : Result Audited Trouble) (xs ys : List ℕ) → JudgesWith settings (follows watch) last (summary_of state) answer xs ys
      → IsWatchedAuditOf settings follows (with_watch watch last state answer) xs ys
  watched watch last state (Ok audited) xs ys h = record { audit = audit_of settings (Ok audited) xs ys h.judges; followed = h.follows_it; decided = h.decided }
  watched watch last state (Err t) xs ys h = record { audit = audit_of settings (Err t) xs ys h.judges; followed = tt; decided = tt }

  -- what was judged line by line is an audit that was watched
  pub watched_audit : (watch : W) (last : Option Envelope) (state : State) (answer : Result Audited Trouble) (a b : Input) → OfReads a b (JudgesWith settings (follows watch) last (summary_of state) answer)
      → OfReads a b (IsWatchedAuditOf settings follows (with_watch watch last state answer))
  watched_audit watch last state answer a b p =
      reads_weaker {P = JudgesWith settings (follows watch) last (summary_of state) answer} {Q = IsWatchedAuditOf settings follows (with_watch watch last state answer)} a b p (watched watch last state answer)

  -- the audit alone
  pub audit_alone : (answer : Result (WatchedAudit W) Trouble) (a b : Input) → OfReads a b (IsWatchedAuditOf settings follows answer) → OfReads a b (IsAuditOf settings (audit_in answer))
  audit_alone answer a b p = reads_weaker {P = IsWatchedAuditOf settings follows answer} {Q = IsAuditOf settings (audit_in answer)} a b p (λ xs ys h. h.audit)

pub at_end_with : {W : Type 0} (after : Input) (answer : Result Audited Trouble) (watch : W) (last : Option Envelope) (state : State) → GoodAtEnd after answer → GoodAtEnd after (audit_in (with_watch watch last state answer))
at_end_with after (Ok audited) watch last state over = over
at_end_with after (Err t) watch last state over = tt

-- a read failed in the audit alone where one failed in the watched one
pub failed_alone : {W : Type 0} (answer : Result (WatchedAudit W) Trouble) → is_failed_read (audit_in answer) ≡ is_failed_read answer
failed_alone (Ok w) = refl
failed_alone (Err ReadFailed) = refl
failed_alone (Err LineTooLong) = refl
failed_alone (Err StreamTooLong) = refl
failed_alone (Err Memory) = refl

pub failed_with : {W : Type 0} (answer : Result Audited Trouble) (watch : W) (last : Option Envelope) (state : State) → is_failed_read (with_watch watch last state answer) ≡ is_failed_read answer
failed_with (Ok a) watch last state = refl
failed_with (Err ReadFailed) watch last state = refl
failed_with (Err LineTooLong) watch last state = refl
failed_with (Err StreamTooLong) watch last state = refl
failed_with (Err Memory) watch last state = refl

-- the last envelope is there after the audit with its watch
pub last_with : {W : Type 0} (answer : Result Audited Trouble) (watch : W) (last : Option Envelope) (state : State) → IfOk answer (λ (a : Audited). HasLast last a.verdict)
    → IfOk (with_watch watch last state answer) (λ (w : WatchedAudit W). HasLast w.last w.audited.verdict)
last_with (Ok a) watch last state has = has
last_with (Err t) watch last state has = tt
