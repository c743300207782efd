-- What the lines that were taken make of the record of attempts, and what is answered then.
use Rattle.std.proofs.Common.{◌≡◌, ◌∙◌, ℕ, ◌+◌, List, [], ◌∷◌, ◌++◌, Option, Some, None, Result, Ok, Err, Bool, true, false, inl, inr, refl, sym, ap, subst, append-nil, length, arith}
use Rattle.std.specs.Prelude.{option_and_then, if◌then◌else◌}
use Rattle.cm_envelope.specs.Device.{Input, OfInput, OfReads}
use Rattle.cm_envelope.specs.Feeds.{is_failed_read}
use Rattle.cm_envelope.specs.Lines.{is_blank}
use Rattle.cm_envelope.specs.Reading.{LineFault, envelope_of_line}
use Rattle.cm_envelope.specs.declared.envelope.Envelope.{Envelope}
use Rattle.cm_envelope.specs.declared.feed.Trouble.{Trouble}
use Rattle.cm_envelope.specs.declared.feed.Trouble.TheVariants.{ReadFailed, LineTooLong, StreamTooLong, Memory}
use Rattle.cm_envelope.proofs.Sources.{of_reads, reads_weaker}
use Rattle.cm_attempt.specs.Calls.{table_after}
use Rattle.cm_attempt.specs.Table.{Table, table_from}
use Rattle.cm_audit.specs.Audit.{audited_at, contents}
use Rattle.cm_audit.specs.Taking.{TakesEach, TakesStream, TakesUntil, Taking}
use Rattle.cm_judge.specs.declared.stop.Stop.{Stop}
use Rattle.cm_judge.specs.declared.stop.Stop.TheVariants as stop
use Rattle.cm_stream.specs.Calls.{calls_of}
use Rattle.cm_stream.specs.CallFaults.{call_fault_of_envelope, call_fault_finding}
use Rattle.cm_stream.specs.Findings.{Finding, IsBad, NoEnvelope}
use Rattle.cm_stream.specs.Record.{table_after_envelope}
use Rattle.cm_stream.specs.Results.{results_fault, first_results_fault, first_results_fault_line, first_results_fault_of}
use Rattle.cm_stream.specs.Stream.{At, FirstFault, Troubled, at_line, feed_of}
use Rattle.cm_stream.specs.declared.laws.Audited.{Audited}
use Rattle.cm_stream.proofs.Tables.{refused_for_faults, tables_change, tables_have_results}
use Rattle.ck_commands.specs.Reading.{HasOutcome, LeavesTable, after_envelope, after_line, fault_answer, is_failed_attempts_read, report_of_read, unless_found}
use Rattle.ck_commands.specs.Results.{ResultsShowNoFault}
use Rattle.ck_commands.specs.declared.command_results.Attempts.{Attempts}
use Rattle.ck_commands.specs.declared.report.ExitStatus.TheVariants.{Done}
use Rattle.ck_commands.proofs.ResultsPrinted.{not_good_at}

-- what a line makes of the record
abbrev pub TakesCall : Taking Attempts
TakesCall = λ old line result new. LeavesTable (after_line old.track line) new.track result

-- ---- lines that are taken

-- what is told goes on at the line with the number n, after envelopes whose calls leave this table
abbrev GoesOn : (first n : ℕ) → List (List ℕ) → Option Trouble → FirstFault → Table → Type 0
GoesOn first n lines end told t =
    (now : List Envelope) × (table_after first (calls_of now) ≡ Some t) × (told ≡ first_results_fault_of first now n lines end)

-- a line that is taken
passed : (first : ℕ) (before : List Envelope) (n : ℕ) (t u : Table) (l : List ℕ) (ls : List (List ℕ)) (end : Option Trouble) → table_after first (calls_of before) ≡ Some t → after_line t l ≡ Ok u
    → GoesOn first (n + 1) ls end (first_results_fault_of first before n (l ∷ ls) end) u
passed first before n t u l ls end taken done = go (is_blank l) refl done
  where
    on_fault : (e : Envelope) (o : Option Finding) → results_fault first before e ≡ o → unless_found o (table_after_envelope t e) ≡ Ok u
        → GoesOn first (n + 1) ls end (at_line n (results_fault first before e) (first_results_fault_of first (before ++ e ∷ []) (n + 1) ls end)) u
    on_fault e (Some f) k done = cc
    on_fault e None k done =
        let same : table_after_envelope t e ≡ u = cc in
        (before ++ e ∷ [], tables_change first before t taken e k ∙ ap Some same, rw k refl)

    on_read : (r : Result Envelope LineFault) → after_envelope t r ≡ Ok u
        → GoesOn first (n + 1) ls end (first_results_fault_line first before n (Some r) (λ (now : List Envelope). first_results_fault_of first now (n + 1) ls end)) u
    on_read (Err b) done = cc
    on_read (Ok e) done = on_fault e (option_and_then call_fault_finding (call_fault_of_envelope t e)) (sym (refused_for_faults first before t taken e)) done

    go : (b : Bool) → is_blank l ≡ b → (if b then Ok t else after_envelope t (envelope_of_line l)) ≡ Ok u → GoesOn first (n + 1) ls end (first_results_fault_of first before n (l ∷ ls) end) u
    go true k done = let same : t ≡ u = cc in (before, taken ∙ ap Some same, rw k refl)
    go false k done = rw k (on_read (envelope_of_line l) done)

-- lines that are taken one after another
each_passed : (first : ℕ) (before : List Envelope) (n m : ℕ) (old new : Attempts) (lines more : List (List ℕ)) (end : Option Trouble) → m ≡ n + length lines
    → table_after first (calls_of before) ≡ Some old.track → TakesEach TakesCall old lines new → GoesOn first m more end (first_results_fault_of first before n (lines ++ more) end) new.track
each_passed first before n m old new [] more end count taken h =
    let here : n ≡ m = omega (arith, count) in
    (before, taken ∙ ap (λ (a : Attempts). Some a.track) (sym h), ap (λ k. first_results_fault_of first before k more end) here)
each_passed first before n m old new (l ∷ ls) more end count taken h =
    let here = passed first before n old.track h.0.track l (ls ++ more) end taken h.1 in
    let there = each_passed first here.0 (n + 1) m h.0 new ls more end (omega (arith, count)) here.1 h.2 in
    (there.0, there.1, here.2 ∙ there.2)

-- ---- a line at which something is found

found_at : (first : ℕ) (before : List Envelope) (n : ℕ) (t : Table) (f : Finding) (l : List ℕ) (ls : List (List ℕ)) (end : Option Trouble) → table_after first (calls_of before) ≡ Some t
    → after_line t l ≡ Err f → first_results_fault_of first before n (l ∷ ls) end ≡ At n f
found_at first before n t f l ls end taken found = go (is_blank l) refl found
  where
    on_fault : (e : Envelope) (o : Option Finding) → results_fault first before e ≡ o → unless_found o (table_after_envelope t e) ≡ Err f
        → at_line n (results_fault first before e) (first_results_fault_of first (before ++ e ∷ []) (n + 1) ls end) ≡ At n f
    on_fault e (Some g) k found = let same : g ≡ f = cc in rw k (ap (At n) same)
    on_fault e None k found = cc

    on_read : (r : Result Envelope LineFault) → after_envelope t r ≡ Err f
        → first_results_fault_line first before n (Some r) (λ (now : List Envelope). first_results_fault_of first now (n + 1) ls end) ≡ At n f
    on_read (Err b) found = let same : IsBad (NoEnvelope b) ≡ f = cc in ap (At n) same
    on_read (Ok e) found = on_fault e (option_and_then call_fault_finding (call_fault_of_envelope t e)) (sym (refused_for_faults first before t taken e)) found

    go : (b : Bool) → is_blank l ≡ b → (if b then Ok t else after_envelope t (envelope_of_line l)) ≡ Err f → first_results_fault_of first before n (l ∷ ls) end ≡ At n f
    go true k found = cc
    go false k found = rw k (on_read (envelope_of_line l) found)

-- the outcome at a line that stops the reading
at_stop : (n : ℕ) (told : FirstFault) (after : Result Table Finding) (new : Table) (why : Stop) → LeavesTable after new (Err why) → ((f : Finding) → after ≡ Err f → told ≡ At n f) → HasOutcome told (Err (audited_at n why))
at_stop n told after new (stop.Bad fault) h stops = ap fault_answer (stops _ h)
at_stop n told after new (stop.Unsupported reason) h stops = ap fault_answer (stops _ h)
at_stop n told after new stop.Memory h stops = tt

-- ---- the outcome

module _ (first_attempt : ℕ) (first : Attempts) (starts : first.track ≡ table_from first_attempt) where
  taken_before : (now : Attempts) (lines more : List (List ℕ)) (end : Option Trouble) → TakesEach TakesCall first lines now
      → GoesOn first_attempt (length lines + 1) more end (first_results_fault_of first_attempt [] 1 (lines ++ more) end) now.track
  taken_before now lines more end h = each_passed first_attempt [] 1 (length lines + 1) first now lines more end (omega arith) (ap Some (sym starts)) h

  taken_all : (now : Attempts) (lines : List (List ℕ)) (end : Option Trouble) → TakesEach TakesCall first lines now
      → GoesOn first_attempt (length lines + 1) [] end (first_results_fault_of first_attempt [] 1 lines end) now.track
  taken_all now lines end h =
      let all = taken_before now lines [] end h in
      (all.0, all.1, ap (λ ls. first_results_fault_of first_attempt [] 1 ls end) (sym (append-nil lines)) ∙ all.2)

  -- after all these lines there is this trouble
  troubled_after : (now : Attempts) (lines : List (List ℕ)) (why : Trouble) → TakesEach TakesCall first lines now → first_results_fault_of first_attempt [] 1 lines (Some why) ≡ Troubled why
  troubled_after now lines why h = let all = taken_all now lines (Some why) h in all.2

  in_trouble : (now : Attempts) (why : Trouble) (bytes rest : List ℕ) → TakesUntil TakesCall first now why bytes rest → HasOutcome (first_results_fault first_attempt bytes) (Err (Err why))
  in_trouble now ReadFailed bytes rest h = tt
  in_trouble now LineTooLong bytes rest h =
      ap fault_answer (ap (first_results_fault_of first_attempt [] 1 (feed_of bytes).lines) h.1 ∙ troubled_after now (feed_of bytes).lines LineTooLong h.0)
  in_trouble now StreamTooLong bytes rest h =
      ap fault_answer (ap (first_results_fault_of first_attempt [] 1 (feed_of bytes).lines) h.1 ∙ troubled_after now (feed_of bytes).lines StreamTooLong h.0)
  in_trouble now Memory bytes rest h = tt

  answered : (now : Attempts) (answer : Result Audited Trouble) (bytes rest : List ℕ) → TakesStream TakesCall first now (Err answer) bytes rest → HasOutcome (first_results_fault first_attempt bytes) (Err answer)
  answered now answer bytes rest (inl h) =
      let end = (feed_of bytes).trouble in
      let front = taken_before h.last h.before (h.line ∷ h.after) end h.taken in
      let told : first_results_fault first_attempt bytes ≡ first_results_fault_of first_attempt front.0 (length h.before + 1) (h.line ∷ h.after) end =
      ap (λ ls. first_results_fault_of first_attempt [] 1 ls end) h.cut ∙ front.2
      in
      subst (λ (a : Result Audited Trouble). HasOutcome (first_results_fault first_attempt bytes) (Err a)) (sym h.answers)
      (at_stop (length h.before + 1) (first_results_fault first_attempt bytes) (after_line h.last.track h.line) now.track h.why h.stopped
      (λ f found. told ∙ found_at first_attempt front.0 (length h.before + 1) h.last.track f h.line h.after end front.1 found))
  answered now answer bytes rest (inr h) = subst (λ (a : Result Audited Trouble). HasOutcome (first_results_fault first_attempt bytes) (Err a)) (sym h.1) (in_trouble now h.0 bytes rest h.2)

  pub answers : (now : Attempts) (answer : Result Audited Trouble) (a b : Input) → OfReads a b (TakesStream TakesCall first now (Err answer)) → OfInput a b (λ bytes. HasOutcome (first_results_fault first_attempt bytes) (Err answer))
  answers now answer a b p = of_reads {P = TakesStream TakesCall first now (Err answer)} {Q = λ bytes. HasOutcome (first_results_fault first_attempt bytes) (Err answer)} a b p (answered now answer)

  -- all lines of the bytes are taken
  whole : (now : Attempts) (bytes : List ℕ) → TakesEach TakesCall first (feed_of bytes).lines now → (feed_of bytes).trouble ≡ None → HasOutcome (first_results_fault first_attempt bytes) (Ok now.track)
  whole now bytes h e =
      let all = taken_all now (feed_of bytes).lines None h in
      (all.0, ap (first_results_fault_of first_attempt [] 1 (feed_of bytes).lines) e ∙ all.2, (tables_have_results first_attempt all.0 now.track all.1).1)

  pub ends : (now : Attempts) (n : ℕ) (a b : Input) → OfReads a b (TakesStream TakesCall first now (Ok n)) → OfInput a b (λ bytes. HasOutcome (first_results_fault first_attempt bytes) (Ok now.track))
  ends now n a b p = of_reads {P = TakesStream TakesCall first now (Ok n)} {Q = λ bytes. HasOutcome (first_results_fault first_attempt bytes) (Ok now.track)} a b p (λ bytes rest h. whole now bytes h.taken h.whole)

-- ---- no fault

-- the answer at a line is no failed read
no_failed_read : (n : ℕ) (why : Stop) → (let answer : Result Table (Result Audited Trouble) = Err (audited_at n why) in answer) ≡ Err (Err ReadFailed) → ⊥
no_failed_read n (stop.Bad fault) e = cc
no_failed_read n (stop.Unsupported reason) e = cc
no_failed_read n stop.Memory e = cc

module _ (first_attempt : ℕ) (first : Attempts) (starts : first.track ≡ table_from first_attempt) where
  until_failure : (now : Attempts) (why : Trouble) (bytes rest : List ℕ) → TakesUntil TakesCall first now why bytes rest → why ≡ ReadFailed → ResultsShowNoFault first_attempt bytes rest
  until_failure now ReadFailed bytes rest h e = record {
    lines = h.lines;
    ahead = h.ahead;
    begins = h.begins;
    faultless = troubled_after first_attempt first starts now (contents h.lines) ReadFailed h.taken;
    nothing = h.nothing;
  }
  until_failure now LineTooLong bytes rest h e = cc
  until_failure now StreamTooLong bytes rest h e = cc
  until_failure now Memory bytes rest h e = cc

  same_trouble : (why : Trouble) (answer : Result Audited Trouble) → answer ≡ Err why → (let held : Result Table (Result Audited Trouble) = Err answer in held) ≡ Err (Err ReadFailed) → why ≡ ReadFailed
  same_trouble why answer is failed = cc

  shown : (now : Attempts) (answer : Result Audited Trouble) → (let held : Result Table (Result Audited Trouble) = Err answer in held) ≡ Err (Err ReadFailed) → (bytes rest : List ℕ) → TakesStream TakesCall first now (Err answer) bytes rest → ResultsShowNoFault first_attempt bytes rest
  shown now answer failed bytes rest (inl h) = absurd (no_failed_read (length h.before + 1) h.why (rw (← h.answers) failed))
  shown now answer failed bytes rest (inr h) = until_failure now h.0 bytes rest h.2 (same_trouble h.0 answer h.1 failed)

  pub shows_no_fault : (now : Attempts) (answer : Result Audited Trouble) (a b : Input) → OfReads a b (TakesStream TakesCall first now (Err answer)) → (let held : Result Table (Result Audited Trouble) = Err answer in held) ≡ Err (Err ReadFailed) → OfReads a b (ResultsShowNoFault first_attempt)
  shows_no_fault now answer a b p failed = reads_weaker {P = TakesStream TakesCall first now (Err answer)} {Q = ResultsShowNoFault first_attempt} a b p (shown now answer failed)

-- ---- no answer at a line or for a trouble is Good

not_done_for : (why : Trouble) → (let held : Result Table (Result Audited Trouble) = Err (Err why) in (report_of_read held).status) ≡ Done → ⊥
not_done_for why e = cc

not_good : (first now : Attempts) (answer : Result Audited Trouble) (bytes rest : List ℕ) → TakesStream TakesCall first now (Err answer) bytes rest → (let held : Result Table (Result Audited Trouble) = Err answer in (report_of_read held).status) ≡ Done → ⊥
not_good first now answer bytes rest (inl h) done = not_good_at (length h.before + 1) h.why (rw (← h.answers) done)
not_good first now answer bytes rest (inr h) done =
    not_done_for h.0 (subst (λ (a : Result Audited Trouble). (let held : Result Table (Result Audited Trouble) = Err a in (report_of_read held).status) ≡ Done) h.1 done)

pub not_done : (first now : Attempts) (answer : Result Audited Trouble) (a b : Input) → OfReads a b (TakesStream TakesCall first now (Err answer)) → (let held : Result Table (Result Audited Trouble) = Err answer in (report_of_read held).status) ≡ Done → ⊥
not_done first now answer a b p done = not_good first now answer (p.0 ++ []) [] (p.2 [] (λ over. refl)) done

-- a read failed where that is the answer
pub same_failure : (answer : Result Audited Trouble) → (let held : Result Table (Result Audited Trouble) = Err answer in is_failed_attempts_read held) ≡ is_failed_read answer
same_failure (Ok a) = refl
same_failure (Err ReadFailed) = refl
same_failure (Err LineTooLong) = refl
same_failure (Err StreamTooLong) = refl
same_failure (Err Memory) = refl
