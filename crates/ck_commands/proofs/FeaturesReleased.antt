-- What status 0 of a gate over feature files says of them and of the runs.
use Rattle.std.proofs.Common.{◌≡◌, ◌∙◌, ◌⊎◌, ◌∷◌, ◌++◌, [], ℕ, List, Option, Some, None, Bool, true, false, Contains, IfSome, inl, inr, refl, sym, ap, subst, append-nil, slice_get, arith, if◌then◌else◌, length}
use Rattle.std.proofs.lemmas.List.Elements.{Contains-append_right, Contains-get_or}
use Rattle.std.proofs.lemmas.Slice.Eq.{bytes_eq-Decides}
use Rattle.std.specs.List.{AllByRecursion}
use Rattle.std.specs.Option.{option_map_or}
use Rattle.std.specs.Prelude.{codes, fold}
use Rattle.std.specs.Str.{bytes_eq}
use Rattle.cm_attempt.specs.declared.status.Settings.{Settings}
use Rattle.cm_envelope.specs.Device.{Input, Output}
use Rattle.cm_envelope.specs.declared.envelope.Envelope.{Envelope}
use Rattle.cm_envelope.specs.declared.feed.Trouble.TheVariants.{Memory}
use Rattle.cm_missing.specs.Missing.{AreMissingLines, AskedFile, IsComplete, flag_at}
use Rattle.cm_missing.proofs.LawLemmas.{nothing_is_missing}
use Rattle.cm_ran.specs.RunAt.{ScenarioRanAt, is_run_at}
use Rattle.cm_ran.proofs.RunLaws.{ran_at}
use Rattle.cm_stream.specs.Release.{Conditions}
use Rattle.cm_stream.specs.ReleasedRuns.{may_be_left_out}
use Rattle.cm_stream.specs.Sources.{DuePickle}
use Rattle.cm_stream.specs.Texts.{Utf8}
use Rattle.cm_stream.proofs.Lists.{all_here}
use Rattle.cm_stream.proofs.Refuted.{cut_at}
use Rattle.feature_paths.specs.FeaturePaths.{FindsFiles}
use Rattle.files.specs.Looks.{PathLook}
use Rattle.files.specs.Openings.{Opening}
use Rattle.gk_pickle.specs.Pickles.{pickles as compiled}
use Rattle.ck_command_line.specs.CommandLine.{FeaturesGate}
use Rattle.ck_commands.specs.Asked.{EachReleasedAs, IsCovered, RanInOne, ReleasesFeatures, runs_read}
use Rattle.ck_commands.specs.FeatureFiles.{FeatureFile, add_asked, asked_once, faulty_report, is_text_of_one}
use Rattle.ck_commands.specs.FilesAsked.{AreAsked, AsksFiles, GatesFeatures, HasFlags, IsAsked, IsFeaturesReport, IsPartsReport, ReportsFiles, ToldOfFiles, last_report}
use Rattle.ck_commands.specs.Judged.{AreStreams, IsReleasedAs, ReleasedAs, counts_of_all, is_run_in}
use Rattle.ck_commands.specs.Output.{Report, trouble_report}
use Rattle.ck_commands.specs.Runs.{OfHeard, Reading, heard, unnoted, unopened}
use Rattle.ck_commands.specs.Standard.{GaveFeatures}
use Rattle.ck_commands.specs.declared.command_gate.GateCounts.{GateCounts}
use Rattle.ck_commands.specs.declared.report.ExitStatus.TheVariants as exit
use Rattle.ck_commands.proofs.Ran.{is_done, not_both, was_printed}
use Rattle.ck_commands.proofs.RunsReleased.{each_released_as, none_failed_in, reads_standard}

undone : (r x : Report) → r ≡ x → x.status ≡ exit.Trouble → r.status ≡ exit.Done → ⊥
undone r x is trouble done = let no : exit.Trouble ≡ exit.Done = sym trouble ∙ sym (ap (λ (y : Report). y.status) is) ∙ done in cc

-- ---- what is told of the files

held_or_done : (empty : Bool) (held done : Report) → held.status ≡ exit.Held → (if empty then held else done).status ≡ exit.Done → empty ≡ false
held_or_done true held done is e = let no : exit.Held ≡ exit.Done = sym is ∙ e in cc
held_or_done false held done is e = refl

-- nothing is missing
none_missing : (lines : List (List ℕ)) (files scenarios unrun : ℕ) (counts : GateCounts) → (last_report lines files scenarios unrun counts).status ≡ exit.Done → lines ≡ []
none_missing [] files scenarios unrun counts done = refl
none_missing (line ∷ lines) files scenarios unrun counts done = let no : exit.Held ≡ exit.Done = done in cc

module _ (s : Settings) (asked : Conditions) where
  abbrev IsOfRun : List Envelope → Type 0
  IsOfRun es = (bytes : List ℕ) × IsReleasedAs s asked es bytes

  stream_of : (es : List Envelope) (reading : Reading) → OfHeard (ReleasedAs s asked es) reading → IsOfRun es
  stream_of es unopened h = absurd h
  stream_of es unnoted h = absurd h
  stream_of es (heard before after) h = (h.0, h.3)

  all_streams : (readings : List Reading) (streams : List (List Envelope)) → AreStreams s asked readings streams → AllByRecursion IsOfRun streams
  all_streams [] [] are = tt
  all_streams [] (es ∷ streams) are = absurd are
  all_streams (x ∷ xs) [] are = absurd are
  all_streams (x ∷ xs) (es ∷ streams) are = (stream_of es x are.0, all_streams xs streams are.1)

  contains_here : (xs : List (List Envelope)) (x : List Envelope) (ys : List (List Envelope)) → Contains (xs ++ x ∷ ys) x
  contains_here xs x ys = Contains-append_right xs (x ∷ ys) x (Contains-get_or (x ∷ ys) 0 x (omega arith))

  released_at : (es : List Envelope) (text : Utf8) (place : ℕ) → IsOfRun es → is_run_at es text place ≡ true → ScenarioRanAt s.policy es text place
  released_at es text place (bytes, (counts, found, r, same)) runs =
      subst (λ (x : List Envelope). ScenarioRanAt s.policy x text place) same
      (ran_at s asked bytes counts found r text place (ap (λ (x : List Envelope). is_run_at x text place) same ∙ runs))

  -- what ran in one of the streams ran there
  ran_in_one : (streams : List (List Envelope)) (text : Utf8) (place : ℕ) → AllByRecursion IsOfRun streams → is_run_in streams text place ≡ true → RanInOne s.policy streams text place
  ran_in_one streams text place all runs =
      let at = cut_at (λ (es : List Envelope). is_run_at es text place) streams runs in
      record {
        es = at.here;
        is_one = subst (λ (xs : List (List Envelope)). Contains xs at.here) (sym at.cut) (contains_here at.front at.here at.back);
        ran = released_at at.here text place (all_here IsOfRun at.front at.here at.back (subst (AllByRecursion IsOfRun) at.cut all)) at.passes;
      }

  module _ (streams : List (List Envelope)) (all : AllByRecursion IsOfRun streams) where
    abbrev Covered : FeatureFile → Type 0
    Covered f = IsCovered asked s.policy streams f

    scenario : (text : Utf8) (place : ℕ) (flag : Bool) (o : Option DuePickle) → flag ≡ is_run_in streams text place → IfSome o (λ due. (flag ≡ true) ⊎ (may_be_left_out asked due ≡ true))
        → IfSome o (λ due. RanInOne s.policy streams text place ⊎ (may_be_left_out asked due ≡ true))
    scenario text place flag None same h = tt
    scenario text place flag (Some due) same (inl ran) = inl (ran_in_one streams text place all (sym same ∙ ran))
    scenario text place flag (Some due) same (inr left) = inr left

    -- of a file whose flags say which of its scenarios ran
    covered_by : (f : FeatureFile) (a : AskedFile) (o : Option Utf8) → f.text ≡ o → IsAsked streams f a → IsComplete asked a → Covered f
    covered_by f a None none is h = let no : None ≡ Some h.text = sym none ∙ sym is.text ∙ h.is_text in cc
    covered_by f a (Some text) some is h =
        let same : Some text ≡ Some h.text = sym some ∙ sym is.text ∙ h.is_text in
        let texts : text ≡ h.text = cc in
        let flags = subst (λ (o : Option Utf8). HasFlags streams o a) some is.flags in
        record {
          text = h.text;
          is_text = some ∙ same;
          document = h.document;
          accepted = h.accepted;
          each = λ place. scenario h.text place (flag_at a.flags place) (slice_get (compiled h.document) place) (flags place ∙ ap (λ (t : Utf8). is_run_in streams t place) texts) (h.each place);
        }

    covered : (fs : List FeatureFile) (others : List AskedFile) → AreAsked streams fs others → AllByRecursion (IsComplete asked) others → AllByRecursion Covered fs
    covered [] [] are h = tt
    covered [] (a ∷ others) are h = absurd are
    covered (f ∷ fs) [] are h = absurd are
    covered (f ∷ fs) (a ∷ others) are h = (covered_by f a f.text refl are.0 h.0, covered fs others are.1 h.1)

    by_text : (f h : FeatureFile) → h.text ≡ f.text → Covered f → Covered h
    by_text f h same c = record { text = c.text; is_text = same ∙ c.is_text; document = c.document; accepted = c.accepted; each = c.each }

    same_text : (text : Utf8) (o : Option Utf8) → option_map_or (bytes_eq text) o false ≡ true → o ≡ Some text
    same_text text None h = cc
    same_text text (Some other) h = ap (λ (t : Utf8). Some t) (sym ((bytes_eq-Decides text other).0 h))

    -- a file whose text one of the files has
    found_one : (o : Option Utf8) (f : FeatureFile) (seen : List FeatureFile) → f.text ≡ o → is_text_of_one o seen ≡ true → AllByRecursion Covered seen → Covered f
    found_one None f seen is there h = cc
    found_one (Some text) f seen is there h =
        let at = cut_at (λ (x : FeatureFile). option_map_or (bytes_eq text) x.text false) seen there in
        by_text at.here f (is ∙ sym (same_text text at.here.text at.passes)) (all_here Covered at.front at.here at.back (subst (AllByRecursion Covered) at.cut h))

    cut_last : (seen : List FeatureFile) (f : FeatureFile) → AllByRecursion Covered (seen ++ f ∷ []) → AllByRecursion Covered seen × Covered f
    cut_last [] f h = (tt, h.0)
    cut_last (x ∷ xs) f h = let k = cut_last xs f h.1 in ((h.0, k.0), k.1)

    one_more : (there : Bool) (seen : List FeatureFile) (f : FeatureFile) → is_text_of_one f.text seen ≡ there → AllByRecursion Covered (if there then seen else seen ++ f ∷ []) → AllByRecursion Covered seen × Covered f
    one_more true seen f is h = (h, found_one f.text f seen refl is h)
    one_more false seen f is h = cut_last seen f h

    -- if it holds of the files that are asked, it holds of all
    of_all : (seen files : List FeatureFile) → AllByRecursion Covered (fold add_asked seen files) → AllByRecursion Covered seen × AllByRecursion Covered files
    of_all seen [] h = (h, tt)
    of_all seen (f ∷ fs) h =
        let k = of_all (add_asked seen f) fs h in
        let one = one_more (is_text_of_one f.text seen) seen f refl k.0 in (one.0, (one.1, k.1))

  pub each_covered : (files : List FeatureFile) (readings : List Reading) (parts r : Report) → (h : AsksFiles s asked files readings parts r) → r.status ≡ exit.Done → AllByRecursion (IsCovered asked s.policy h.streams) files
  each_covered files readings parts r h done =
      let last = last_report h.lines (length files) h.scenarios h.unrun (counts_of_all asked s.policy h.streams) in
      let none = none_missing h.lines (length files) h.scenarios h.unrun (counts_of_all asked s.policy h.streams) (sym (ap (λ (x : Report). x.status) h.told) ∙ done) in
      let all = all_streams readings h.streams h.are in
      let complete = (nothing_is_missing asked h.asked_files).0 (subst (AreMissingLines asked h.asked_files) none h.missing) in
      (of_all h.streams all [] files (covered h.streams all (asked_once files) h.asked_files h.are_asked complete)).1

-- ---- the runs

module _ (s : Settings) (asked : Conditions) where
  runs_as : (runs : List Utf8) (old new : List Opening) (i j : Input) (readings : List Reading) (streams : List (List Envelope)) (r : Report) → IsPartsReport s asked runs old new i j readings r → AreStreams s asked readings streams
      → (noted : List Opening) × (new ≡ old ++ noted) × EachReleasedAs s asked (runs_read runs) streams noted i j
  runs_as [] old new i j readings streams r h are = (
    [],
    h.0 ∙ sym (append-nil old),
    each_released_as s asked (codes "-" ∷ []) streams [] i j (heard i j ∷ []) ([], [], j, refl, reads_standard (codes "-") i j refl, (refl, refl)) (subst (λ (xs : List Reading). AreStreams s asked xs streams) h.1 are),
  )
  runs_as (run ∷ runs) old new i j readings streams r h are =
      let all = h.0 in
      (all.noted, all.opened, each_released_as s asked (run ∷ runs) streams all.noted i j all.readings all.read (subst (λ (xs : List Reading). AreStreams s asked xs streams) h.1 are))

  runs_kept : (runs : List Utf8) (old new : List Opening) (i j : Input) (readings : List Reading) (r : Report) → IsPartsReport s asked runs old new i j readings r → r.status ≡ exit.Done → j.failed_calls ≡ i.failed_calls
  runs_kept [] old new i j readings r h done = h.2.unread done
  runs_kept (run ∷ runs) old new i j readings r h done =
      let all = h.0 in
      none_failed_in s asked (run ∷ runs) all.noted i j all.readings all.reports all.read all.each (ap (λ (x : Report). x.status) (sym all.joined) ∙ done)

-- ---- the command

module _ (g : FeaturesGate) (code : ℕ) (old new : List Opening) (seen later : List PathLook) (i j : Input) (before after : Output) where
  -- with status 0 the files were read, and all runs were released
  zero_is_asked : GatesFeatures g code old new seen later i j before after → code ≡ 0 → (r : Report) × IsFeaturesReport g old new seen later i j r × (r.status ≡ exit.Done)
  zero_is_asked (r, which, delivered) zero =
      let p = was_printed r code before after delivered (λ e. not_both 3 0 code e zero (λ x. cc)) in
      let done = is_done r.status (sym p.status ∙ zero) in
      go which done
    where
      go : IsFeaturesReport g old new seen later i j r ⊎ (r ≡ trouble_report Memory) → r.status ≡ exit.Done → (x : Report) × IsFeaturesReport g old new seen later i j x × (x.status ≡ exit.Done)
      go (inl is) done = (r, is, done)
      go (inr e) done = absurd (undone r (trouble_report Memory) e refl done)

  was_asked : (s : Settings) (asked : Conditions) (files : List FeatureFile) (readings : List Reading) (parts r : Report) → ToldOfFiles s asked files readings parts r → r.status ≡ exit.Done → (parts.status ≡ exit.Done) × AsksFiles s asked files readings parts r
  was_asked s asked files readings parts r (inl (held, same)) done = absurd (held (ap (λ (x : Report). x.status) (sym same) ∙ done))
  was_asked s asked files readings parts r (inr asks) done = asks

  of_found : (paths : List Utf8) (r : Report) → FindsFiles g.features seen later paths → ReportsFiles g paths old new i j r → r.status ≡ exit.Done → ReleasesFeatures g old new seen later i j
  of_found paths r found h done =
      let asks = (was_asked g.settings g.asked h.files h.readings h.parts r h.told done).1 in
      let runs = runs_as g.settings g.asked g.runs h.between new i j h.readings asks.streams h.parts h.judged asks.are in
      record {
        paths = paths;
        found = found;
        files = h.files;
        between = h.between;
        read = h.read;
        noted = runs.0;
        opened = runs.1;
        streams = asks.streams;
        runs = runs.2;
        each = each_covered g.settings g.asked h.files h.readings h.parts r asks done;
      }

  releases_of : (r : Report) → IsFeaturesReport g old new seen later i j r → r.status ≡ exit.Done → ReleasesFeatures g old new seen later i j
  releases_of r (inl faulty) done = absurd (undone r (faulty_report faulty.wrong) faulty.told refl done)
  releases_of r (inr (paths, found, inl faulty)) done = absurd (undone r (faulty_report faulty.wrong) faulty.told refl done)
  releases_of r (inr (paths, found, inr h)) done = of_found paths r found h done

  pub releases_features : GatesFeatures g code old new seen later i j before after → code ≡ 0 → ReleasesFeatures g old new seen later i j
  releases_features gates zero = let all = zero_is_asked gates zero in releases_of all.0 all.1 all.2

  kept_of : (r : Report) → IsFeaturesReport g old new seen later i j r → r.status ≡ exit.Done → j.failed_calls ≡ i.failed_calls
  kept_of r (inl faulty) done = ap (λ (x : Input). x.failed_calls) faulty.unread
  kept_of r (inr (paths, found, inl faulty)) done = ap (λ (x : Input). x.failed_calls) faulty.unread
  kept_of r (inr (paths, found, inr h)) done =
      let asks = was_asked g.settings g.asked h.files h.readings h.parts r h.told done in
      runs_kept g.settings g.asked g.runs h.between new i j h.readings h.parts h.judged asks.0

  pub features_unread : GatesFeatures g code old new seen later i j before after → code ≡ 0 → j.failed_calls ≡ i.failed_calls
  features_unread gates zero = let all = zero_is_asked gates zero in kept_of all.0 all.1 all.2

-- of a reader of which nothing was heard before
pub features_from_start : (g : FeaturesGate) (old new : List Opening) (seen later : List PathLook) (i j : Input) → i.heard ≡ [] → i.is_over ≡ false → i.failed_calls ≡ 0 → ReleasesFeatures g old new seen later i j
    → GaveFeatures g old new seen later j
features_from_start g old new seen later i j unheard before unfailed each = (
  i.to_come,
  subst (λ (x : Input). ReleasesFeatures g old new seen later x j) (λ h. record { heard = unheard h; is_over = before h; to_come = i.to_come; failed_calls = unfailed h }) each,
)
