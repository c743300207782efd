-- Runs that are judged, one after another.
use Rattle.std.proofs.Common.{◌≡◌, ◌∙◌, ◌∷◌, ◌++◌, ◌||◌, [], ℕ, List, Option, Some, None, Result, Ok, Err, Bool, true, refl, sym, ap, string_bytes, subst, append_assoc, append-nil}
use Rattle.std.proofs.Math.Bool.{or-false, or_assoc}
use Rattle.std.proofs.lemmas.List.Folds.{list_any-append}
use Rattle.std.proofs.lemmas.List.Sums.{fold-append}
use Rattle.std.specs.Prelude.{IfOk}
use Rattle.std.specs.declared.alloc.AllocError.{AllocError}
use Rattle.cm_attempt.specs.Table.{has_text}
use Rattle.cm_attempt.specs.declared.status.Settings.{Settings}
use Rattle.cm_envelope.specs.Device.{Input, OfReads, OfWhole}
use Rattle.cm_envelope.proofs.Sources.{whole_of}
use Rattle.cm_envelope.specs.declared.envelope.Envelope.{Envelope}
use Rattle.cm_envelope.specs.declared.feed.Trouble.{Trouble}
use Rattle.cm_envelope.specs.declared.feed.Trouble.TheVariants.{Memory}
use Rattle.cm_stream.specs.Release.{Conditions, release_counts_of}
use Rattle.cm_stream.specs.Stream.{GoodRunIn}
use Rattle.cm_stream.specs.declared.laws.ReleaseCounts.{ReleaseCounts}
use Rattle.cm_stream.specs.declared.laws.Counts.{Counts}
use Rattle.cm_stream.specs.declared.laws.Hold.{Hold}
use Rattle.cm_stream.specs.declared.laws.Verdict.{Verdict}
use Rattle.cm_stream.specs.declared.laws.Verdict.TheVariants as verdict
use Rattle.cm_stream.specs.ReleasedRuns.{EachSourceIsCompiled}
use Rattle.cm_stream.proofs.Released.{released_is_not_held, released_ran}
use Rattle.cm_stream.proofs.Streams.{read_is_told}
use Rattle.cm_audit.specs.Audit.{GoodAtEnd}
use Rattle.cm_ran.specs.Marks.{AlsoRan, MarksWhatRan, marked_texts, has_run}
use Rattle.cm_ran.specs.RunAt.{is_run_at}
use Rattle.cm_ran.specs.declared.marks.Marks.{Marks}
use Rattle.cm_audit_release.specs.PartAudit.{IsMarkedBy, IsPartAuditOf, is_unheld}
use Rattle.cm_audit_release.specs.ReleaseAudit.{CountsGood, audited_in}
use Rattle.cm_audit_release.specs.declared.audited_release.AuditedRelease.{AuditedRelease}
use Rattle.files.specs.Openings.{IsFresh, Opening}
use Rattle.ck_command_line.specs.CommandLine.{ask_gate}
use Rattle.ck_commands.specs.Gate.{ReportsHeld, ReportsRelease}
use Rattle.ck_commands.specs.Judged.{AreStreams, IsReleasedAs, JudgesStream, JudgesRun, JudgesRuns, MarksStream, MarksStreams, ReleasedAs, added_counts, counted_by, counted_in, counts_made, is_run_in, no_counts, run_counts, run_report}
use Rattle.ck_commands.specs.Output.{Report, report_made, trouble_report}
use Rattle.ck_commands.specs.Runs.{OfHeard, Reading, ReadsRun, heard, named_text, named_texts, status_after, status_of_all, unnoted, unopened, unread_input}
use Rattle.ck_commands.specs.declared.command_gate.JudgedRun as made_run
use Rattle.ck_commands.specs.declared.command_gate.GateCounts.{GateCounts}
use Rattle.ck_commands.specs.declared.report.ExitStatus.{ExitStatus}
use Rattle.ck_commands.specs.declared.report.ExitStatus.TheVariants as exit
use Rattle.ck_commands.specs.declared.report.Report as made
use Rattle.ck_commands.proofs.GatePrinted.{done_at_end}
use Rattle.ck_commands.proofs.RunsReleased.{from_fresh, from_fresh_whole}
use Rattle.ck_commands.proofs.RunsLemmas.{both_done, each_push, reads_push, status_push, texts_push}

-- ---- one run

no_trouble : (t : Trouble) (r : Report) → r ≡ trouble_report t → r.status ≡ exit.Done → ⊥
no_trouble t r is done = let no : exit.Trouble ≡ exit.Done = sym (ap (λ (x : Report). x.status) is) ∙ done in cc

-- the counts are those that were given, where there is a report
pub counts_given : (m : Result made_run.JudgedRun AllocError) (counts : GateCounts) → IfOk m (λ run. run.counts ≡ counts) → (run_report m).status ≡ exit.Done → counts_made m ≡ counts
counts_given (Ok run) counts is done = is
counts_given (Err e) counts is done = absurd (no_trouble Memory (trouble_report Memory) refl done)

module _ (s : Settings) (asked : Conditions) (old new : Marks) where
  -- the bytes are a released stream, whose envelopes are marked and counted
  abbrev IsMarkedStream : GateCounts → List ℕ → Type 0
  IsMarkedStream counts xs = (es : List Envelope) × IsReleasedAs s asked es xs × MarksWhatRan es old new × (counts ≡ run_counts asked s.policy es)

  of_good : (xs : List ℕ) (success : Bool) (found : ReleaseCounts) (held : Option Hold) (reasons : List ℕ) (counts : Counts) → held ≡ None → CountsGood s asked success found held reasons xs (verdict.Good counts)
      → GoodRunIn s xs (verdict.Good counts) success → IsMarkedBy s old new xs → IsMarkedStream (counted_by found (verdict.Good counts)) xs
  of_good xs success found held reasons counts none c run m =
      let here = read_is_told s xs c.judged c.read c.good in
      let there = read_is_told s xs run.judged run.read run.good in
      let same : c.judged ≡ run.judged = cc in
      let counted : found ≡ release_counts_of asked s.policy run.judged = c.is.counted ∙ ap (release_counts_of asked s.policy) same in
      let r = (released_is_not_held s asked xs counts found success run counted).0 (sym c.is.first ∙ none) in
      let of_marks = read_is_told s xs m.judged m.read m.good in
      let of_release = read_is_told s xs r.judged r.read r.good in
      let marked_same : m.judged ≡ r.judged = cc in (
        r.judged,
        (counts, found, r, refl),
        subst (λ (es : List Envelope). MarksWhatRan es old new) marked_same m.marked,
        λ i. record {
          cases = (ap (λ (k : Counts). k.cases) r.exact) i;
          retried = (r.found_exact i).retried;
          skipped = (r.found_exact i).skipped;
        },
      )

  of_verdict : (xs : List ℕ) (success : Bool) (found : ReleaseCounts) (held : Option Hold) (reasons : List ℕ) (v : Verdict) (x : made.Report) → ReportsHeld asked.is_part found held reasons (record { verdict = v; success = success }) v x
      → x.status ≡ exit.Done → CountsGood s asked success found held reasons xs v → GoodRunIn s xs v success → (is_unheld v held ≡ true → IsMarkedBy s old new xs) → IsMarkedStream (counted_by found v) xs
  of_verdict xs success found None reasons (verdict.Good counts) x is done c run m = of_good xs success found None reasons counts refl c run (m refl)
  of_verdict xs success found (Some h) reasons (verdict.Good counts) x is done c run m = let no : exit.Held ≡ exit.Done = sym is.1 ∙ done in cc
  of_verdict xs success found held reasons (verdict.Bad n b) x is done c run m = let no : exit.Refused ≡ exit.Done = sym is.1 ∙ done in cc
  of_verdict xs success found held reasons (verdict.Unsupported n u) x is done c run m = let no : exit.Unsupported ≡ exit.Done = sym is.1 ∙ done in cc

  pub judged_done : (answer : Result AuditedRelease Trouble) (m : Result made.Report AllocError) (i j : Input) → IfOk m (ReportsRelease asked.is_part answer) → (report_made m).status ≡ exit.Done
      → OfReads i j (IsPartAuditOf s asked old new answer) → GoodAtEnd j (audited_in answer) → OfWhole i j (IsMarkedStream (counted_in answer))
  judged_done (Ok a) (Ok x) i j is done h end =
      whole_of (IsPartAuditOf s asked old new (Ok a)) (IsMarkedStream (counted_in (Ok a))) i j h (done_at_end s asked a.found a.hold (string_bytes a.reasons) j a.audited.success a.audited.verdict x is end done)
      (λ xs p. of_verdict xs a.audited.success a.found a.hold (string_bytes a.reasons) a.audited.verdict x is done p.release.counted p.release.audit.good p.marked.0)
  judged_done (Ok a) (Err e) i j is done h end = absurd (no_trouble Memory (trouble_report Memory) refl done)
  judged_done (Err t) (Ok x) i j is done h end = let no : exit.Trouble ≡ exit.Done = sym is.1 ∙ done in cc
  judged_done (Err t) (Err e) i j is done h end = absurd (no_trouble Memory (trouble_report Memory) refl done)

  -- where standard input or a file was judged
  pub heard_run : (i j : Input) (r : Report) (counts : GateCounts) → JudgesStream s asked i j old new r counts → JudgesRun s asked (heard i j) old new r counts
  heard_run i j r counts h = record {
    reports = h.reported;
    texts = h.texts;
    done = λ done. let m = h.done done in record { es = m.es; gives = m.gives; marked = m.marked; counted = m.counted };
  }

-- a file of which nothing was read before was judged
pub fresh_run : (s : Settings) (asked : Conditions) (old new : Marks) (i j : Input) (r : Report) (counts : GateCounts) → IsFresh i → JudgesStream s asked i j old new r counts → JudgesRun s asked (heard unread_input j) old new r counts
fresh_run s asked old new i j r counts fresh h = record {
  reports = from_fresh (ask_gate s asked) r i j fresh h.reported;
  texts = h.texts;
  done = λ done. let m = h.done done in record { es = m.es; gives = from_fresh_whole (IsReleasedAs s asked m.es) i j fresh m.gives; marked = m.marked; counted = m.counted };
}

-- a run of which nothing is noted, since there is no memory
pub memory_run : (s : Settings) (asked : Conditions) (old new : Marks) → marked_texts new ≡ marked_texts old → JudgesRun s asked unnoted old new (trouble_report Memory) no_counts
memory_run s asked old new texts = record { reports = refl; texts = texts; done = λ done. absurd (no_trouble Memory (trouble_report Memory) refl done) }

-- ---- marks

pub nothing_ran : (m : Marks) → AlsoRan m m (is_run_in [])
nothing_ran m text place there = sym (or-false (has_run m text place))

-- one stream more
ran_more : (old mid new : Marks) (streams : List (List Envelope)) (es : List Envelope) → marked_texts mid ≡ marked_texts old → AlsoRan old mid (is_run_in streams) → MarksWhatRan es mid new → AlsoRan old new (is_run_in (streams ++ es ∷ []))
ran_more old mid new streams es texts so_far m text place there =
    let also = so_far text place there in
    let before : Bool = has_run old text place in
    let earlier : Bool = is_run_in streams text place in
    let here : Bool = is_run_at es text place in
    m.flags text place (ap (has_text text) texts ∙ there)
    ∙ ap (λ (b : Bool). b || here) also
    ∙ or_assoc before earlier here
    ∙ ap (λ (b : Bool). before || b) (ap (λ (b : Bool). earlier || b) (sym (or-false here)) ∙ sym (list_any-append (λ (xs : List Envelope). is_run_at xs text place) streams (es ∷ [])))

streams_push : (s : Settings) (asked : Conditions) (readings : List Reading) (streams : List (List Envelope)) (reading : Reading) (es : List Envelope) → AreStreams s asked readings streams → OfHeard (ReleasedAs s asked es) reading
    → AreStreams s asked (readings ++ reading ∷ []) (streams ++ es ∷ [])
streams_push s asked [] [] reading es are is = (is, tt)
streams_push s asked [] (x ∷ xs) reading es are is = absurd are
streams_push s asked (r ∷ rs) [] reading es are is = absurd are
streams_push s asked (r ∷ rs) (x ∷ xs) reading es are is = (are.0, streams_push s asked rs xs reading es are.1 is)

-- the sources of a released run compile to the stream's pickles
heard_compiled : (s : Settings) (asked : Conditions) (es : List Envelope) (reading : Reading) → OfHeard (ReleasedAs s asked es) reading → EachSourceIsCompiled es
heard_compiled s asked es unopened gives = absurd gives
heard_compiled s asked es unnoted gives = absurd gives
heard_compiled s asked es (heard i j) gives =
    let is = gives.3 in
    subst EachSourceIsCompiled is.3 (released_ran s asked gives.0 is.0 is.1 is.2).0.each_source

pub marks_push : (s : Settings) (asked : Conditions) (readings : List Reading) (reading : Reading) (old mid new : Marks) (total counts : GateCounts) → marked_texts mid ≡ marked_texts old → MarksStreams s asked readings old mid total
    → MarksStream s asked mid new counts (λ es. OfHeard (ReleasedAs s asked es) reading) → MarksStreams s asked (readings ++ reading ∷ []) old new (added_counts total counts)
marks_push s asked readings reading old mid new total counts texts all one = record {
  streams = all.streams ++ one.es ∷ [];
  are = streams_push s asked readings all.streams reading one.es all.are one.gives;
  marked = ran_more old mid new all.streams one.es texts all.marked one.marked;
  rows = λ whole. one.marked.rows (heard_compiled s asked one.es reading one.gives) (all.rows whole);
  counted = (λ i. added_counts (all.counted i) (one.counted i))
      ∙ sym (fold-append (λ (k : GateCounts) (es : List Envelope). added_counts k (run_counts asked s.policy es)) no_counts all.streams (one.es ∷ []));
}

-- no run yet
pub none_judged : (s : Settings) (asked : Conditions) (old : List Opening) (i : Input) (m : Marks) → JudgesRuns (record { settings = s; asked = asked; runs = [] }) old old i i m m (record { text = []; status = exit.Done }) no_counts
none_judged s asked old i m = record {
  report = record {
    noted = [];
    opened = sym (append-nil old);
    readings = [];
    read = (refl, refl);
    reports = [];
    each = tt;
    joined = refl;
  };
  texts = refl;
  done = λ done. record { streams = []; are = tt; marked = nothing_ran m; rows = λ whole. whole; counted = refl };
}

-- one run more
pub runs_push : (s : Settings) (asked : Conditions) (names : List (List ℕ)) (name : List ℕ) (old mid new noted : List Opening) (i k j : Input) (before between after : Marks) (reading : Reading) (text later : List ℕ) (status : ExitStatus) (total : GateCounts) (r : Report) (counts : GateCounts)
    → JudgesRuns (record { settings = s; asked = asked; runs = names }) old mid i k before between (record { text = text; status = status }) total → new ≡ mid ++ noted → ReadsRun name noted k j reading → JudgesRun s asked reading between after r counts
    → later ≡ text ++ named_text name r.text
    → JudgesRuns (record { settings = s; asked = asked; runs = names ++ name ∷ [] }) old new i j before after (record { text = later; status = status_after status r.status }) (added_counts total counts)
runs_push s asked names name old mid new noted i k j before between after reading text later status total r counts all opened reads one added =
    let runs = all.report in
    let was : text ≡ named_texts names runs.reports = ap (λ (x : Report). x.text) runs.joined in
    let had : status ≡ status_of_all runs.reports = ap (λ (x : Report). x.status) runs.joined in
    let texts = texts_push s asked names runs.noted i k runs.readings runs.reports name r runs.read runs.each in
    record {
      report = record {
        noted = runs.noted ++ noted;
        opened = opened ∙ ap (λ (l : List Opening). l ++ noted) runs.opened ∙ append_assoc old runs.noted noted;
        readings = runs.readings ++ reading ∷ [];
        read = reads_push names runs.noted i k runs.readings name noted j reading runs.read reads;
        reports = runs.reports ++ r ∷ [];
        each = each_push s asked runs.readings runs.reports reading r runs.each one.reports;
        joined = λ h. record {
          text = (added ∙ ap (λ (l : List ℕ). l ++ named_text name r.text) was ∙ sym texts) h;
          status = (ap (λ (x : ExitStatus). status_after x r.status) had ∙ sym (status_push runs.reports r)) h;
        };
      };
      texts = one.texts ∙ all.texts;
      done = λ done. let both = both_done status r.status done in marks_push s asked runs.readings reading before between after total counts all.texts (all.done both.0) (one.done both.1);
    }
