-- One file more.
use Rattle.std.proofs.Common.{◌≡◌, ◌∙◌, ap, sym, ℕ, ◌+◌, List, [], ◌∷◌, ◌++◌, append-nil, length, take, zero-add}
use Rattle.std.specs.List.{AllByRecursion, flat_map}
use Rattle.std.proofs.lemmas.List.{map-append}
use Rattle.std.proofs.lemmas.List.Concat.{flat_map-append}
use Rattle.std.proofs.lemmas.List.Sums.{sum_by-append}
use Rattle.cm_reasons.specs.Lines.{text_of_lines}
use Rattle.cm_stream.specs.Release.{Conditions}
use Rattle.gk_document.specs.declared.tree.Document.{Document}
use Rattle.gk_pickle.specs.Pickles.{pickles as compiled}
use Rattle.gk_pickle.specs.Scenarios.{scenarios_of}
use Rattle.gk_pickle.proofs.InTurn.{scenario_by_scenario}
use Rattle.cm_missing.specs.Missing.{Accepted, AskedFile, FileReading, IsFileReading, IsMissingOf, ReadFile, asked_pickles, file_lines, file_scenarios, file_unrun, lines_of, scenarios_in, unrun_in}
use Rattle.cm_missing.specs.PickleLines.{lines_of_one}
use Rattle.cm_missing.specs.Told.{Keeps, KeepsMore, CountedLines, and_then, file_told, pickles_told}
use Rattle.cm_missing.specs.declared.missing.Missing.{Missing}
use Rattle.cm_missing.proofs.LineLemmas.{lines_for_each}
use Rattle.cm_missing.proofs.PickleLemmas.{length-asked}

all_push : {X : Type 0} (P : X → Type 0) (xs : List X) (x : X) → AllByRecursion P xs → P x → AllByRecursion P (xs ++ x ∷ [])
all_push P [] x all h = (h, tt)
all_push P (y ∷ ys) x all h = (all.0, all_push P ys x all.1 h)

abbrev pub file_of : ReadFile → AskedFile
file_of r = r.file

pub as_many : (d : Document) → length (flat_map lines_of_one (scenarios_of d)) ≡ length (compiled d)
as_many d = lines_for_each (scenarios_of d) ∙ ap length (sym (scenario_by_scenario d))

-- an accepted file is told by its pickles
pub told_by_pickles : (asked : Conditions) (f : AskedFile) (d : Document) → pickles_told asked f.path (asked_pickles f.flags d) ≡ file_told asked f (Accepted d)
told_by_pickles asked f d = λ j. record (file_told asked f (Accepted d)) {
  scenarios = length-asked f.flags 0 (compiled d) (flat_map lines_of_one (scenarios_of d)) (as_many d) j;
}

module _ (asked : Conditions) (files : List AskedFile) (f : AskedFile) (reading : FileReading) (old new : Missing) (is : IsFileReading f.text reading) (more : KeepsMore old new (file_told asked f reading)) where
  pub one_file : IsMissingOf asked files old → IsMissingOf asked (files ++ f ∷ []) new
  one_file m =
      let r : ReadFile = record { file = f; reading = reading } in
      let t : CountedLines = record { lines = lines_of asked m.reads; scenarios = scenarios_in m.reads; unrun = unrun_in asked m.reads } in
      let k : Keeps new (and_then t (file_told asked f reading)) = more t (record { text = m.text; count = m.count; scenarios = m.scenarios; unrun = m.unrun }) in
      let lines : lines_of asked m.reads ++ file_lines asked f reading ≡ lines_of asked (m.reads ++ r ∷ []) =
      ap (λ (ls : List (List ℕ)). lines_of asked m.reads ++ ls) (sym (append-nil (file_lines asked f reading)))
      ∙ sym (flat_map-append (λ (r : ReadFile). file_lines asked r.file r.reading) m.reads (r ∷ [])) in
      let scenarios : scenarios_in m.reads + file_scenarios reading ≡ scenarios_in (m.reads ++ r ∷ []) =
      ap (λ n. scenarios_in m.reads + n) (sym (zero-add (file_scenarios reading)))
      ∙ sym (sum_by-append (λ (r : ReadFile). file_scenarios r.reading) m.reads (r ∷ [])) in
      let unrun : unrun_in asked m.reads + file_unrun asked f reading ≡ unrun_in asked (m.reads ++ r ∷ []) =
      ap (λ n. unrun_in asked m.reads + n) (sym (zero-add (file_unrun asked f reading)))
      ∙ sym (sum_by-append (λ (r : ReadFile). file_unrun asked r.file r.reading) m.reads (r ∷ [])) in
      record {
        reads = m.reads ++ r ∷ [];
        are_read = (
          map-append file_of m.reads (r ∷ []) ∙ ap (λ (fs : List AskedFile). fs ++ f ∷ []) m.are_read.0,
          all_push (λ (r : ReadFile). IsFileReading r.file.text r.reading) m.reads r m.are_read.1 is,
        );
        text = k.text ∙ ap (λ (ls : List (List ℕ)). text_of_lines (take 100 ls)) lines;
        count = k.count ∙ ap length lines;
        scenarios = k.scenarios ∙ scenarios;
        unrun = k.unrun ∙ unrun;
      }
