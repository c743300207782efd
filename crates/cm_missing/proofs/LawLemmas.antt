-- What holds of the lines that tell what is missing.
use Rattle.std.proofs.Common.{◌≡◌, ◌∙◌, ap, sym, refl, subst, inl, inr, ◌⊎◌, ℕ, zero, suc, ◌+◌, Bool, true, false, List, [], ◌∷◌, ◌++◌, Option, None, Some, add-zero, arith, drop, get_or, length, map}
use Rattle.std.specs.Prelude.{IfSome, slice_get}
use Rattle.std.specs.List.{AllByRecursion, filter}
use Rattle.cm_stream.specs.Release.{Conditions}
use Rattle.cm_stream.specs.ReleasedRuns.{may_be_left_out}
use Rattle.cm_stream.specs.Sources.{DuePickle}
use Rattle.cm_stream.specs.Texts.{Utf8}
use Rattle.gk_pickle.specs.Pickles.{pickles as compiled}
use Rattle.gk_pickle.specs.Scenarios.{scenarios_of}
use Rattle.std.specs.List.{flat_map}
use Rattle.cm_missing.specs.Laws.{NothingIsMissing, OneMissingList, OneScenarioCount, OneUnrunCount}
use Rattle.cm_missing.specs.Missing.{Accepted, AreMissingLines, AreReadAs, AskedFile, AskedPickle, FileReading, IsComplete, IsFileReading, ReadFile, Refused, asked_from, file_lines, flag_at, is_missing, lines_of, missing_line, scenarios_in, unrun_in}
use Rattle.cm_missing.specs.PickleLines.{lines_of_one}
use Rattle.cm_missing.proofs.FileLemmas.{as_many, file_of}
use Rattle.cm_missing.proofs.PickleLemmas.{asked_at}
use Rattle.cm_missing.proofs.Readings.{one_file_reading}

-- ---- files are read as one

abbrev AllRead : List ReadFile → Type 0
AllRead reads = AllByRecursion (λ r. IsFileReading r.file.text r.reading) reads

nothing : {X : Type 0} (x : X) (xs : List X) → [] ≡ x ∷ xs → ⊥
nothing x xs e = cc

same_reads : (a b : List ReadFile) → map file_of a ≡ map file_of b → AllRead a → AllRead b → a ≡ b
same_reads [] [] e x y = refl
same_reads [] (s ∷ b) e x y = absurd (nothing s.file (map file_of b) e)
same_reads (r ∷ a) [] e x y = absurd (nothing r.file (map file_of a) (sym e))
same_reads (r ∷ a) (s ∷ b) e x y =
    let file : r.file ≡ s.file = ap (λ (fs : List AskedFile). get_or fs 0 r.file) e in
    let reading : r.reading ≡ s.reading = one_file_reading r.file.text r.reading s.reading x.0 (subst (λ (f : AskedFile). IsFileReading f.text s.reading) (sym file) y.0) in
    let later : a ≡ b = same_reads a b (ap (λ (fs : List AskedFile). drop 1 fs) e) x.1 y.1 in
    λ j. record { file = file j; reading = reading j } ∷ later j

one_read : (files : List AskedFile) (a b : List ReadFile) → AreReadAs files a → AreReadAs files b → a ≡ b
one_read files a b x y = same_reads a b (x.0 ∙ sym y.0) x.1 y.1

pub one_missing_list : OneMissingList
one_missing_list asked files a b (reads, are, e) (others, too, h) = e ∙ ap (lines_of asked) (one_read files reads others are too) ∙ sym h

pub one_scenario_count : OneScenarioCount
one_scenario_count files a b (reads, are, e) (others, too, h) = e ∙ ap scenarios_in (one_read files reads others are too) ∙ sym h

pub one_unrun_count : OneUnrunCount
one_unrun_count asked files a b (reads, are, e) (others, too, h) = e ∙ ap (unrun_in asked) (one_read files reads others are too) ∙ sym h

-- ---- no line

nil_parts : {X : Type 0} (xs ys : List X) → [] ≡ xs ++ ys → ([] ≡ xs) × ([] ≡ ys)
nil_parts [] ys e = (refl, e)
nil_parts (x ∷ xs) ys e = absurd (nothing x (xs ++ ys) e)

nil_map : {X Y : Type 0} (f : X → Y) (xs : List X) → [] ≡ map f xs → [] ≡ xs
nil_map f [] e = refl
nil_map f (x ∷ xs) e = absurd (nothing (f x) (map f xs) e)

module _ (asked : Conditions) where
  abbrev MayMiss : List Bool → ℕ → DuePickle → Type 0
  MayMiss flags place due = (flag_at flags place ≡ true) ⊎ (may_be_left_out asked due ≡ true)

  abbrev missing_from : List Bool → ℕ → List DuePickle → List ℕ → List AskedPickle
  missing_from flags place ps ls = filter (is_missing asked) (asked_from flags place ps ls)

  -- the first of them isn't missing
  module _ (flags : List Bool) (place : ℕ) (p : DuePickle) (l : ℕ) (ps : List DuePickle) (ls : List ℕ) where
    later_missing : MayMiss flags place p → missing_from flags place (p ∷ ps) (l ∷ ls) ≡ missing_from flags (suc place) ps ls
    later_missing (inl run) = rw run refl
    later_missing (inr left) = go (flag_at flags place) refl
      where
        go : (b : Bool) → flag_at flags place ≡ b → missing_from flags place (p ∷ ps) (l ∷ ls) ≡ missing_from flags (suc place) ps ls
        go true e = rw e refl
        go false e = rw (e, left) refl

    not_missing : [] ≡ missing_from flags place (p ∷ ps) (l ∷ ls) → MayMiss flags place p
    not_missing none = go (flag_at flags place) (may_be_left_out asked p) refl refl
      where
        go : (b m : Bool) → flag_at flags place ≡ b → may_be_left_out asked p ≡ m → MayMiss flags place p
        go true m e h = inl e
        go false true e h = inr h
        go false false e h =
            let first : missing_from flags place (p ∷ ps) (l ∷ ls) ≡ asked_at flags place p l ∷ missing_from flags (suc place) ps ls = rw (e, h) refl in
            absurd (nothing _ _ (none ∙ first))

  each_there : (flags : List Bool) (place : ℕ) (ps : List DuePickle) (ls : List ℕ) → length ls ≡ length ps → [] ≡ missing_from flags place ps ls
      → (i : ℕ) → IfSome (slice_get ps i) (MayMiss flags (place + i))
  each_there flags place [] ls e none i = tt
  each_there flags place (p ∷ ps) [] e none i = absurd (omega arith)
  each_there flags place (p ∷ ps) (l ∷ ls) e none zero = subst (λ k. MayMiss flags k p) (sym (add-zero place)) (not_missing flags place p l ps ls none)
  each_there flags place (p ∷ ps) (l ∷ ls) e none (suc i) =
      let next : suc place + i ≡ place + suc i = omega arith in
      subst (λ k. IfSome (slice_get ps i) (MayMiss flags k)) next
      (each_there flags (suc place) ps ls (omega arith) (none ∙ later_missing flags place p l ps ls (not_missing flags place p l ps ls none)) i)

  none_there : (flags : List Bool) (place : ℕ) (ps : List DuePickle) (ls : List ℕ) → ((i : ℕ) → IfSome (slice_get ps i) (MayMiss flags (place + i)))
      → [] ≡ missing_from flags place ps ls
  none_there flags place [] ls each = refl
  none_there flags place (p ∷ ps) [] each = refl
  none_there flags place (p ∷ ps) (l ∷ ls) each =
      let first : MayMiss flags place p = subst (λ k. MayMiss flags k p) (add-zero place) (each 0) in
      none_there flags (suc place) ps ls
      (λ i. let next : place + suc i ≡ suc place + i = omega arith in subst (λ k. IfSome (slice_get ps i) (MayMiss flags k)) next (each (suc i)))
      ∙ sym (later_missing flags place p l ps ls first)

  complete_one : (f : AskedFile) (reading : FileReading) → IsFileReading f.text reading → [] ≡ file_lines asked f reading → IsComplete asked f
  complete_one f (Refused k i j) is none = absurd (nothing _ _ none)
  complete_one f (Accepted d) is none = go f.text refl is
    where
      go : (o : Option Utf8) → f.text ≡ o → IsFileReading o (Accepted d) → IsComplete asked f
      go None e x = absurd cc
      go (Some text) e x = record {
        text = text;
        is_text = e;
        document = d;
        accepted = x;
        each = λ place. subst (λ k. IfSome (slice_get (compiled d) place) (MayMiss f.flags k)) (omega arith)
            (each_there f.flags 0 (compiled d) (flat_map lines_of_one (scenarios_of d)) (as_many d) (nil_map (missing_line f.path) _ none) place);
      }

  complete : (reads : List ReadFile) → AllRead reads → [] ≡ lines_of asked reads → AllByRecursion (IsComplete asked) (map file_of reads)
  complete [] all none = tt
  complete (r ∷ reads) all none =
      let parts = nil_parts (file_lines asked r.file r.reading) (lines_of asked reads) none in
      (complete_one r.file r.reading all.0 parts.0, complete reads all.1 parts.1)

  nothing_missing : (files : List AskedFile) → AllByRecursion (IsComplete asked) files → AreMissingLines asked files []
  nothing_missing [] all = ([], (refl, tt), refl)
  nothing_missing (f ∷ files) all =
      let c = all.0 in
      let later = nothing_missing files all.1 in
      let r : ReadFile = record { file = f; reading = Accepted c.document } in
      let is : IsFileReading f.text (Accepted c.document) = subst (λ (o : Option Utf8). IsFileReading o (Accepted c.document)) (sym c.is_text) c.accepted in
      let none : [] ≡ missing_from f.flags 0 (compiled c.document) (flat_map lines_of_one (scenarios_of c.document)) =
      none_there f.flags 0 (compiled c.document) (flat_map lines_of_one (scenarios_of c.document))
      (λ place. subst (λ k. IfSome (slice_get (compiled c.document) place) (MayMiss f.flags k)) (omega arith) (c.each place)) in
      (r ∷ later.0, (ap (λ (fs : List AskedFile). f ∷ fs) later.1.0, (is, later.1.1)), later.2 ∙ ap (λ (ms : List AskedPickle). map (missing_line f.path) ms ++ lines_of asked later.0) none)

pub nothing_is_missing : NothingIsMissing
nothing_is_missing asked files = (
  λ (reads, are, none). subst (AllByRecursion (IsComplete asked)) are.0 (complete asked reads are.1 none),
  nothing_missing asked files,
)
