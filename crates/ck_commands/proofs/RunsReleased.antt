-- What status 0 of a gate over named runs says of each.
use Rattle.std.proofs.Common.{◌≡◌, ◌≢◌, ◌∙◌, ◌⊎◌, ◌∷◌, ◌++◌, [], ℕ, List, Some, None, Bool, true, false, inl, inr, refl, sym, ap, subst, length}
use Rattle.cm_envelope.specs.Device.{Input, OfReads, OfWhole, Output}
use Rattle.cm_envelope.proofs.Sources.{whole_of}
use Rattle.cm_envelope.specs.declared.feed.Trouble.TheVariants.{Memory, ReadFailed}
use Rattle.cm_attempt.specs.declared.status.Settings.{Settings}
use Rattle.cm_stream.specs.Release.{Conditions, IsReleasedStream}
use Rattle.cm_stream.specs.declared.laws.ReleaseCounts.{ReleaseCounts}
use Rattle.cm_stream.specs.declared.laws.Counts.{Counts}
use Rattle.files.specs.Openings.{IsFresh, NotesOpening, Opening}
use Rattle.files.specs.declared.files.FileTrouble.{FileTrouble}
use Rattle.files.specs.declared.files.FileTrouble.TheVariants as trouble
use Rattle.ck_command_line.specs.CommandLine.{Command, RunsGate, ask_gate, is_input}
use Rattle.cm_envelope.specs.declared.envelope.Envelope.{Envelope}
use Rattle.ck_commands.specs.Asked.{EachReleased, EachReleasedAs, HearsReleasedStream, ReleasedBy, ReleasesEach}
use Rattle.ck_commands.specs.Judged.{AreStreams, ReleasedAs}
use Rattle.ck_commands.specs.Output.{NoneFailed, Prints, Report, code_of, trouble_report}
use Rattle.ck_commands.specs.Run.{IsReportOf, Reports, ShowsNone, Tells}
use Rattle.ck_commands.specs.Runs.{GatesRuns, IsRunsReport, OfHeard, Reading, ReadsBy, ReadsRun, ReadsRuns, ReportEach, ReportsRun, heard, status_of_all, unnoted, unopened, unread_input}
use Rattle.ck_commands.specs.Standard.{GaveReleasedEach}
use Rattle.ck_commands.specs.declared.report.ExitStatus.TheVariants as exit
use Rattle.ck_commands.proofs.Ran.{done_of, is_done, not_both, was_printed}
use Rattle.ck_commands.proofs.RunsLemmas.{both_done}

is_no_trouble : (r : Report) → r.status ≡ exit.Done → r.status ≡ exit.Trouble → ⊥
is_no_trouble r done trouble = let no : exit.Done ≡ exit.Trouble = sym done ∙ trouble in cc

no_trouble_done : (r : Report) → (r ≡ trouble_report ReadFailed) ⊎ (r ≡ trouble_report Memory) → r.status ≡ exit.Done → ⊥
no_trouble_done r (inl e) done = is_no_trouble r done (ap (λ (x : Report). x.status) e)
no_trouble_done r (inr e) done = is_no_trouble r done (ap (λ (x : Report). x.status) e)

abbrev nothing_taken : Output
nothing_taken = record { taken = []; flushed = 0; shown = None; failed_calls = 0 }

abbrev taken_whole : List ℕ → Output
taken_whole text = record { taken = text; flushed = length text; shown = None; failed_calls = 0 }

-- a report whose status is 0, as if it was printed
as_printed : (r : Report) → r.status ≡ exit.Done → Prints r 0 nothing_taken (taken_whole r.text)
as_printed r done = record {
  status = sym (ap code_of done);
  written = record { taken = refl; shown = tt };
  flushed = refl;
}

pub released_of : (s : Settings) (asked : Conditions) (r : Report) (i j : Input) → IsReportOf (ask_gate s asked) r i j → r.status ≡ exit.Done → HearsReleasedStream s asked i j
released_of s asked r i j reported done =
    whole_of (λ bytes rest. Tells (ask_gate s asked) bytes rest r) (λ bytes. (counts : Counts) × (found : ReleaseCounts) × IsReleasedStream s asked bytes counts found) i j
    (reported.tells (is_no_trouble r done)) (reported.over done)
    (λ xs t. let p = done_of (ask_gate s asked) xs [] r 0 nothing_taken (taken_whole r.text) t (as_printed r done) refl in (p.0, p.1, p.2))

-- what was read of one run, and of the others
pub by_reading : (standard : Bool) (R : Input → Input → Type 0) (P : (noted : List Opening) → (i : Input) → Type 0) (name : List ℕ) (first others : List Opening) (i k : Input) (reading : Reading)
    → ReadsBy standard name first i k reading → OfHeard R reading → P others k → ReleasedBy standard R P name (first ++ others) i
by_reading true R P name first others i k reading reads is rest = (
  k,
  subst (OfHeard R) reads.1 is,
  subst (λ (l : List Opening). P l k) (sym (ap (λ (l : List Opening). l ++ others) reads.0)) rest,
)
by_reading false R P name first others i k unopened reads is rest = absurd is
by_reading false R P name first others i k unnoted reads is rest = absurd is
by_reading false R P name first others i k (heard before after) reads is rest = (
  after,
  others,
  ap (λ (l : List Opening). l ++ others) reads.1.1,
  subst (λ (x : Input). R x after) reads.1.0 is,
  subst (λ (x : Input). P others x) reads.0 rest,
)

module _ (s : Settings) (asked : Conditions) where
  heard_released : (reading : Reading) (r : Report) → ReportsRun s asked reading r → r.status ≡ exit.Done → OfHeard (HearsReleasedStream s asked) reading
  heard_released unopened r reports done = absurd (no_trouble_done r reports done)
  heard_released unnoted r reports done = absurd (no_trouble_done r (inr reports) done)
  heard_released (heard before after) r reports done = released_of s asked r before after reports done

  pub each_released : (names : List (List ℕ)) (noted : List Opening) (i j : Input) (readings : List Reading) (reports : List Report) → ReadsRuns names noted i j readings → ReportEach s asked readings reports
      → status_of_all reports ≡ exit.Done → EachReleased s asked names noted i j
  each_released [] noted i j [] reports runs each done = runs
  each_released [] noted i j (x ∷ xs) reports runs each done = absurd runs
  each_released (n ∷ ns) noted i j [] reports runs each done = absurd runs
  each_released (n ∷ ns) noted i j (x ∷ xs) [] runs each done = absurd each
  each_released (n ∷ ns) noted i j (x ∷ xs) (r ∷ rs) runs each done =
      let both = both_done r.status (status_of_all rs) done in
      subst (λ (l : List Opening). ReleasedBy (is_input n) (HearsReleasedStream s asked) (λ more m. EachReleased s asked ns more m j) n l i) (sym runs.3)
      (by_reading (is_input n) (HearsReleasedStream s asked) (λ more m. EachReleased s asked ns more m j) n runs.0 runs.1 i runs.2 x runs.4 (heard_released x r each.0 both.0) (each_released ns runs.1 runs.2 j xs rs runs.5 each.1 both.1))

  -- the same of runs whose streams are known
  pub each_released_as : (names : List (List ℕ)) (streams : List (List Envelope)) (noted : List Opening) (i j : Input) (readings : List Reading) → ReadsRuns names noted i j readings → AreStreams s asked readings streams
      → EachReleasedAs s asked names streams noted i j
  each_released_as [] [] noted i j [] runs each = runs
  each_released_as [] (es ∷ streams) noted i j [] runs each = absurd each
  each_released_as [] streams noted i j (x ∷ xs) runs each = absurd runs
  each_released_as (n ∷ ns) streams noted i j [] runs each = absurd runs
  each_released_as (n ∷ ns) [] noted i j (x ∷ xs) runs each = absurd each
  each_released_as (n ∷ ns) (es ∷ streams) noted i j (x ∷ xs) runs each =
      subst (λ (l : List Opening). ReleasedBy (is_input n) (ReleasedAs s asked es) (λ more m. EachReleasedAs s asked ns streams more m j) n l i) (sym runs.3)
      (by_reading (is_input n) (ReleasedAs s asked es) (λ more m. EachReleasedAs s asked ns streams more m j) n runs.0 runs.1 i runs.2 x runs.4 each.0 (each_released_as ns streams runs.1 runs.2 j xs runs.5 each.1))

  -- no read of standard input failed
  kept_by : (standard : Bool) (name : List ℕ) (first : List Opening) (i k : Input) (reading : Reading) (r : Report) → ReadsBy standard name first i k reading → ReportsRun s asked reading r → r.status ≡ exit.Done
      → k.failed_calls ≡ i.failed_calls
  kept_by true name first i k reading r reads reports done =
      let reported : IsReportOf (ask_gate s asked) r i k = subst (λ (x : Reading). ReportsRun s asked x r) reads.1 reports in
      reported.unread done
  kept_by false name first i k reading r reads reports done = ap (λ (x : Input). x.failed_calls) reads.0

  pub none_failed_in : (names : List (List ℕ)) (noted : List Opening) (i j : Input) (readings : List Reading) (reports : List Report) → ReadsRuns names noted i j readings → ReportEach s asked readings reports
      → status_of_all reports ≡ exit.Done → j.failed_calls ≡ i.failed_calls
  none_failed_in [] noted i j [] reports runs each done = ap (λ (x : Input). x.failed_calls) runs.1
  none_failed_in [] noted i j (x ∷ xs) reports runs each done = absurd runs
  none_failed_in (n ∷ ns) noted i j [] reports runs each done = absurd runs
  none_failed_in (n ∷ ns) noted i j (x ∷ xs) [] runs each done = absurd each
  none_failed_in (n ∷ ns) noted i j (x ∷ xs) (r ∷ rs) runs each done =
      let both = both_done r.status (status_of_all rs) done in
      none_failed_in ns runs.1 runs.2 j xs rs runs.5 each.1 both.1 ∙ kept_by (is_input n) n runs.0 i runs.2 x r runs.4 each.0 both.0

-- ---- files

-- nothing is noted where there is no memory
pub unnoted_opening : (old new : List Opening) (name : List ℕ) (t : FileTrouble) → t ≡ trouble.Memory → NotesOpening old new name (Some t) → new ≡ old
unnoted_opening old new name t is noted = subst (λ (x : FileTrouble). NotesOpening old new name (Some x)) is noted

-- standard input is read where it is named
pub reads_standard : (name : List ℕ) (i j : Input) → is_input name ≡ true → ReadsRun name [] i j (heard i j)
reads_standard name i j is = subst (λ (b : Bool). ReadsBy b name [] i j (heard i j)) (sym is) (refl, refl)

-- what is heard of a file that wasn't read is heard from nothing on
pub from_fresh_reads : (P : List ℕ → List ℕ → Type 0) (i j : Input) → IsFresh i → OfReads i j P → OfReads unread_input j P
from_fresh_reads P i j fresh h = (
  h.0,
  record {
    heard = h.1.heard ∙ ap (λ (l : List ℕ). l ++ h.0) fresh.unheard;
    shown = tt;
    ends = λ was. h.1.ends (λ over. let no : false ≡ true = sym fresh.before_end ∙ over in cc);
  },
  h.2,
)

pub from_fresh_whole : (P : List ℕ → Type 0) (i j : Input) → IsFresh i → OfWhole i j P → OfWhole unread_input j P
from_fresh_whole P i j fresh h = (
  h.0,
  record {
    heard = h.1.heard ∙ ap (λ (l : List ℕ). l ++ h.0) fresh.unheard;
    shown = tt;
    ends = λ was. h.1.ends (λ over. let no : false ≡ true = sym fresh.before_end ∙ over in cc);
  },
  h.2,
  h.3,
)

pub from_fresh : (c : Command) (r : Report) (i j : Input) → IsFresh i → IsReportOf c r i j → IsReportOf c r unread_input j
from_fresh c r i j fresh h = record {
  answer = λ none. from_fresh_reads (λ bytes rest. Reports c bytes r ⊎ (r ≡ trouble_report Memory)) i j fresh (h.answer (subst (λ (n : ℕ). NoneFailed n j.failed_calls) (sym fresh.unfailed) none));
  tells = λ other. from_fresh_reads (λ bytes rest. Tells c bytes rest r) i j fresh (h.tells other);
  over = h.over;
  no_fault = λ other. from_fresh_reads (ShowsNone c) i j fresh (h.no_fault (subst (λ (n : ℕ). j.failed_calls ≢ n) (sym fresh.unfailed) other));
  read_failed = λ other. h.read_failed (subst (λ (n : ℕ). j.failed_calls ≢ n) (sym fresh.unfailed) other);
  unread = λ done. h.unread done ∙ fresh.unfailed;
}

-- ---- a run

module _ (g : RunsGate) (old new : List Opening) (i j : Input) (before after : Output) (code : ℕ) where
  -- with status 0 the report of all runs was printed, and its status is that of what was done
  zero_is_all : GatesRuns g code old new i j before after → code ≡ 0 → (r : Report) × IsRunsReport g old new i j r × (r.status ≡ exit.Done)
  zero_is_all (r, which, delivered) zero =
      let p = was_printed r code before after delivered (λ e. not_both 3 0 code e zero (λ x. cc)) in
      let done = is_done r.status (sym p.status ∙ zero) in
      go which done
    where
      go : IsRunsReport g old new i j r ⊎ (r ≡ trouble_report Memory) → r.status ≡ exit.Done → (x : Report) × IsRunsReport g old new i j x × (x.status ≡ exit.Done)
      go (inl is) done = (r, is, done)
      go (inr e) done = absurd (no_trouble_done r (inr e) done)

  pub releases_each : GatesRuns g code old new i j before after → code ≡ 0 → ReleasesEach g old new i j
  releases_each gates zero =
      let all = zero_is_all gates zero in
      let is = all.1 in
      (is.noted, is.opened, each_released g.settings g.asked g.runs is.noted i j is.readings is.reports is.read is.each (ap (λ (x : Report). x.status) (sym is.joined) ∙ all.2))

  pub runs_unread : GatesRuns g code old new i j before after → code ≡ 0 → j.failed_calls ≡ i.failed_calls
  runs_unread gates zero =
      let all = zero_is_all gates zero in
      let is = all.1 in
      none_failed_in g.settings g.asked g.runs is.noted i j is.readings is.reports is.read is.each (ap (λ (x : Report). x.status) (sym is.joined) ∙ all.2)

-- of a reader of which nothing was heard before
pub each_from_start : (g : RunsGate) (old new : List Opening) (i j : Input) → i.heard ≡ [] → i.is_over ≡ false → i.failed_calls ≡ 0 → ReleasesEach g old new i j → GaveReleasedEach g old new j
each_from_start g old new i j unheard before unfailed each = (
  i.to_come,
  subst (λ (x : Input). ReleasesEach g old new x j) (λ h. record { heard = unheard h; is_over = before h; to_come = i.to_come; failed_calls = unfailed h }) each,
)
