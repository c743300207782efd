-- What is told of feature files below the reports of the runs.
use Rattle.std.proofs.Common.{◌≡◌, ◌∙◌, ◌⊎◌, ◌∷◌, ◌++◌, ◌==◌, [], ℕ, zero, suc, List, Result, Ok, Err, Bool, true, false, true≢false, inl, inr, refl, sym, ap, subst, arith, length, map}
use Rattle.std.proofs.lemmas.Bool.Decides.{nat_tests}
use Rattle.std.proofs.lemmas.List.{length-map}
use Rattle.std.specs.Borrow.{Bor}
use Rattle.std.specs.Prelude.{IfOk, codes}
use Rattle.std.specs.declared.alloc.AllocError.{AllocError}
use Rattle.cm_attempt.specs.declared.status.Settings.{Settings}
use Rattle.cm_envelope.specs.Device.{Input}
use Rattle.cm_envelope.specs.declared.feed.Trouble.TheVariants.{Memory}
use Rattle.cm_missing.specs.Missing.{AreMissingLines, AskedFile, IsMissingOf, IsScenarioCount, IsUnrunCount, scenarios_in, unrun_in}
use Rattle.cm_missing.specs.declared.missing.Missing.{Missing}
use Rattle.cm_reasons.specs.Lines.{limited_text}
use Rattle.cm_ran.specs.declared.marks.Marks.{Marks}
use Rattle.cm_stream.specs.Release.{Conditions}
use Rattle.cm_stream.specs.Texts.{Utf8}
use Rattle.ck_command_line.specs.CommandLine.{FeaturesGate}
use Rattle.feature_paths.specs.FeaturePaths.{FindsFiles}
use Rattle.feature_paths.specs.Shown.{faulty}
use Rattle.feature_paths.specs.declared.paths.FaultyPath.{FaultyPath}
use Rattle.feature_paths.specs.declared.paths.PathTrouble.TheVariants as trouble
use Rattle.files.specs.Looks.{PathLook}
use Rattle.files.specs.Openings.{Opening}
use Rattle.ck_commands.specs.FeatureFiles.{FeatureFile, ReadsFiles, asked_once, faulty_report}
use Rattle.ck_commands.specs.FilesAsked.{AsksFiles, IsFeaturesReport, files_text, last_report}
use Rattle.ck_commands.specs.FilesKept.{AddsLast, HasTexts, IsUnmarked, GivesFeatures, JudgesParts, ReportsAsked, TellsFeatures, asked_by, file_of}
use Rattle.ck_commands.specs.Judged.{JudgesStream, JudgesRuns, MarksStreams, added_counts, no_counts}
use Rattle.ck_commands.specs.Output.{Report, report_made, trouble_report}
use Rattle.ck_commands.specs.Runs.{Reading, heard}
use Rattle.ck_commands.specs.declared.command_gate_features.FeatureFile as made
use Rattle.ck_commands.specs.declared.command_gate.GateCounts.{GateCounts}
use Rattle.ck_commands.specs.declared.report.ExitStatus.TheVariants as exit
use Rattle.ck_commands.specs.declared.report.Report as output
use Rattle.ck_commands.proofs.JudgedLemmas.{marks_push, nothing_ran}
use Rattle.ck_commands.proofs.AskedLemmas.{flags_told}

-- ---- what is told last

-- a number that isn't zero
pub some_cases : (n : ℕ) → (n ≡ 0 → ⊥) → (n == 0) ≡ false
some_cases zero some = absurd (some refl)
some_cases (suc n) some = grind (arith, nat_tests)

pub some_not_none : (b : Bool) → b ≡ false → b ≡ true → ⊥
some_not_none b some none = let no : false ≡ true = sym some ∙ none in cc

module _ (asked : Conditions) (fs : List AskedFile) (m : Missing) (is : IsMissingOf asked fs m) (files : ℕ) (counts : GateCounts) (old new : List ℕ) where
  abbrev scenario_count : ℕ
  scenario_count = scenarios_in is.reads

  abbrev unrun_count : ℕ
  unrun_count = unrun_in asked is.reads

  pub told_missing : (lines : List (List ℕ)) → AreMissingLines asked fs lines → (AreMissingLines asked fs [] → ⊥) → new ≡ old ++ (codes "stop Missing" ++ 10 ∷ limited_text lines) → AddsLast asked fs files counts old new exit.Held
  told_missing [] are some grown = absurd (some are)
  told_missing (line ∷ lines) are some grown = record {
    lines = line ∷ lines;
    missing = are;
    scenarios = scenario_count;
    are_scenarios = (is.reads, is.are_read, refl);
    unrun = unrun_count;
    are_unrun = (is.reads, is.are_read, refl);
    text = grown;
    is = refl;
  }

  empty_is : (counts.cases == 0) ≡ true → last_report [] files scenario_count unrun_count counts ≡ record { text = codes "stop Empty" ++ 10 ∷ []; status = exit.Held }
  empty_is e = rw e refl

  well_is : (scenarios unrun : ℕ) → (counts.cases == 0) ≡ false → last_report [] files scenarios unrun counts ≡ record { text = files_text files scenarios unrun counts; status = exit.Done }
  well_is scenarios unrun e = rw e refl

  -- nothing is missing
  pub told_empty : AreMissingLines asked fs [] → (counts.cases == 0) ≡ true → new ≡ old ++ (codes "stop Empty" ++ 10 ∷ []) → AddsLast asked fs files counts old new exit.Held
  told_empty are empty grown = record {
    lines = [];
    missing = are;
    scenarios = scenario_count;
    are_scenarios = (is.reads, is.are_read, refl);
    unrun = unrun_count;
    are_unrun = (is.reads, is.are_read, refl);
    text = grown ∙ ap (λ (r : Report). old ++ r.text) (sym (empty_is empty));
    is = ap (λ (r : Report). r.status) (sym (empty_is empty));
  }

  pub told_well : (scenarios unrun : ℕ) → AreMissingLines asked fs [] → (counts.cases == 0) ≡ false → IsScenarioCount fs scenarios → IsUnrunCount asked fs unrun → new ≡ old ++ files_text files scenarios unrun counts → AddsLast asked fs files counts old new exit.Done
  told_well scenarios unrun are some of_scenarios of_unrun grown = record {
    lines = [];
    missing = are;
    scenarios = scenarios;
    are_scenarios = of_scenarios;
    unrun = unrun;
    are_unrun = of_unrun;
    text = grown ∙ ap (λ (r : Report). old ++ r.text) (sym (well_is scenarios unrun some));
    is = ap (λ (r : Report). r.status) (sym (well_is scenarios unrun some));
  }

-- what is told below the report of released runs
pub asks_files : (s : Settings) (asked : Conditions) (files : List FeatureFile) (readings : List Reading) (old new : Marks) (parts r : Report) (counts : GateCounts) → IsUnmarked old → HasTexts old (asked_once files) → MarksStreams s asked readings old new counts
    → AddsLast asked (map (asked_by new) (asked_once files)) (length files) counts parts.text r.text r.status → AsksFiles s asked files readings parts r
asks_files s asked files readings old new parts r counts unmarked has marks last = record {
  streams = marks.streams;
  are = marks.are;
  asked_files = map (asked_by new) (asked_once files);
  are_asked = flags_told new old marks.streams unmarked marks.marked (asked_once files) has;
  lines = last.lines;
  missing = last.missing;
  scenarios = last.scenarios;
  are_scenarios = last.are_scenarios;
  unrun = last.unrun;
  are_unrun = last.are_unrun;
  told = λ i. record {
    text = (last.text ∙ ap (λ (k : GateCounts). parts.text ++ (last_report last.lines (length files) last.scenarios last.unrun k).text) marks.counted) i;
    status = (last.is ∙ ap (λ (k : GateCounts). (last_report last.lines (length files) last.scenarios last.unrun k).status) marks.counted) i;
  };
}

-- the one run that standard input gives
pub one_part : (s : Settings) (asked : Conditions) (before : List Opening) (i j : Input) (old new : Marks) (r : Report) (counts total : GateCounts) → total ≡ added_counts no_counts counts → JudgesStream s asked i j old new r counts
    → JudgesParts s asked [] before before i j old new r total
one_part s asked before i j old new r counts total is h = record {
  readings = heard i j ∷ [];
  report = (refl, refl, h.reported);
  texts = h.texts;
  done = λ done.
      let one = h.done done in
      let all = marks_push s asked [] (heard i j) old old new no_counts counts refl (record { streams = []; are = tt; marked = nothing_ran old; rows = λ whole. whole; counted = refl }) (record { es = one.es; gives = one.gives; marked = one.marked; counted = one.counted }) in
      subst (MarksStreams s asked (heard i j ∷ []) old new) (sym is) all;
}

-- the runs that are named
pub named_parts : (s : Settings) (asked : Conditions) (run : Utf8) (runs : List Utf8) (before after : List Opening) (i j : Input) (old new : Marks) (r : Report) (total : GateCounts)
    → JudgesRuns (record { settings = s; asked = asked; runs = run ∷ runs }) before after i j old new r total → JudgesParts s asked (run ∷ runs) before after i j old new r total
named_parts s asked run runs before after i j old new r total h = record {
  readings = h.report.readings;
  report = (h.report, refl);
  texts = h.texts;
  done = h.done;
}

-- whether runs are named is told by their count
pub parts_named : (s : Settings) (asked : Conditions) (names : List Utf8) → (length names == 0) ≡ false → (before after : List Opening) (i j : Input) (old new : Marks) (r : Report) (total : GateCounts)
    → JudgesRuns (record { settings = s; asked = asked; runs = names }) before after i j old new r total → JudgesParts s asked names before after i j old new r total
parts_named s asked names some = go names some
  where
    IsNamed : List Utf8 → Type 0
    IsNamed ns = (before after : List Opening) (i j : Input) (old new : Marks) (r : Report) (total : GateCounts) → JudgesRuns (record { settings = s; asked = asked; runs = ns }) before after i j old new r total → JudgesParts s asked ns before after i j old new r total

    go : (ns : List Utf8) → (length ns == 0) ≡ false → IsNamed ns
    go [] none = absurd (true≢false none)
    go (n ∷ ns) more = named_parts s asked n ns

pub parts_unnamed : (s : Settings) (asked : Conditions) (names : List Utf8) → (length names == 0) ≡ true → (before : List Opening) (i j : Input) (old new : Marks) (r : Report) (counts total : GateCounts) → total ≡ added_counts no_counts counts → JudgesStream s asked i j old new r counts
    → JudgesParts s asked names before before i j old new r total
parts_unnamed s asked [] none before i j old new r counts total is h = one_part s asked before i j old new r counts total is h
parts_unnamed s asked (name ∷ names) none before i j old new r counts total is h = let some : (suc (length names) == 0) ≡ false = grind (arith, nat_tests) in let no : false ≡ true = sym some ∙ none in cc

-- as many names as runs
pub names_count : (runs : List (Bor Utf8)) (empty : Bool) → (length runs == 0) ≡ empty → (length (map (λ run. run.now) runs) == 0) ≡ empty
names_count runs empty is = ap (λ (n : ℕ). n == 0) (length-map runs (λ (run : Bor Utf8). run.now)) ∙ is

-- ---- the report

-- the files that are asked, by what is marked of them
pub asked_map : (m : Marks) (asked : List (Bor made.FeatureFile)) → map (λ f. asked_by m (file_of f.now)) asked ≡ map (asked_by m) (map (λ f. file_of f.now) asked)
asked_map m [] = refl
asked_map m (f ∷ fs) = ap (λ (l : List AskedFile). asked_by m (file_of f.now) ∷ l) (asked_map m fs)

-- the runs aren't released
pub reports_held : (s : Settings) (asked : Conditions) (found : List FeatureFile) (runs : List Utf8) (before after : List Opening) (i j : Input) (old new : Marks) (r : Report) (counts : GateCounts) → JudgesParts s asked runs before after i j old new r counts
    → (r.status ≡ exit.Done → ⊥) → ReportsAsked s asked found runs before after i j r
reports_held s asked found runs before after i j old new r counts h held = (h.readings, r, h.report, inl (held, refl))

-- they are, and this stands below
pub reports_asked : (s : Settings) (asked : Conditions) (found : List FeatureFile) (runs : List Utf8) (before after : List Opening) (i j : Input) (old new : Marks) (parts r : Report) (counts : GateCounts) → JudgesParts s asked runs before after i j old new parts counts
    → parts.status ≡ exit.Done → IsUnmarked old → HasTexts old (asked_once found) → AddsLast asked (map (asked_by new) (asked_once found)) (length found) counts parts.text r.text r.status → ReportsAsked s asked found runs before after i j r
reports_asked s asked found runs before after i j old new parts r counts h done unmarked has last =
    (h.readings, parts, h.report, inr (done, asks_files s asked found h.readings old new parts r counts unmarked has (h.done done) last))

-- the files were found and read, and this is reported of them
pub features_told : (g : FeaturesGate) (read found : List made.FeatureFile) → found ≡ read → (old mid new : List Opening) (seen between later : List PathLook) (i j : Input) (r : Report) → GivesFeatures g.features old mid seen between (map file_of read) → later ≡ between
    → ReportsAsked g.settings g.asked (map file_of found) g.runs mid new i j r → IsFeaturesReport g old new seen later i j r
features_told g read found are old mid new seen between later i j r gives same reports = inr (
  gives.0,
  subst (λ (l : List PathLook). FindsFiles g.features seen l gives.0) (sym same) gives.1,
  inr (record {
    files = map file_of found;
    between = mid;
    read = subst (λ (fs : List made.FeatureFile). ReadsFiles gives.0 old mid (map file_of fs)) (sym are) gives.2;
    readings = reports.0;
    parts = reports.1;
    judged = reports.2;
    told = reports.3;
  }),
)

-- they weren't, and no run was read
pub faulty_told : (g : FeaturesGate) (wrong : FaultyPath) (old new : List Opening) (seen later : List PathLook) (i : Input) (r : Report) → TellsFeatures g.features old new seen later (trouble.Faulty wrong) → r ≡ faulty_report (faulty wrong)
    → IsFeaturesReport g old new seen later i i r
faulty_told g wrong old new seen later i r (inl h) is = inl (record {
  wrong = faulty wrong;
  finds = h.0;
  unopened = h.1;
  unread = refl;
  told = is;
})
faulty_told g wrong old new seen later i r (inr h) is = inr (h.0, h.1, inl (record { wrong = faulty wrong; fails = h.2; unread = refl; told = is }))

-- the report that was made, or that of no memory
pub made_or_memory : (P : Report → Type 0) (m : Result output.Report AllocError) → IfOk m (λ report. P (report_made (Ok report))) → P (report_made m) ⊎ (report_made m ≡ trouble_report Memory)
made_or_memory P (Ok report) is = inl is
made_or_memory P (Err refused) is = inr refl
