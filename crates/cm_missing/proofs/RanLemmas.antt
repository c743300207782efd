-- A file all of whose scenarios ran.
use Rattle.std.proofs.Common.{◌≡◌, ◌∙◌, ap, sym, refl, subst, ℕ, zero, suc, ◌<◌, ◌+◌, Bool, true, false, List, [], ◌∷◌, ◌++◌, Option, Some, add-zero, append-nil, arith, cond, count_by, length, map, string_bytes, take}
use Rattle.std.specs.List.{filter, flat_map}
use Rattle.cm_reasons.specs.Lines.{text_of_lines}
use Rattle.cm_stream.specs.Release.{Conditions}
use Rattle.cm_stream.specs.Sources.{DuePickle}
use Rattle.cm_stream.specs.Texts.{Utf8}
use Rattle.gk_pickle.specs.Pickles.{pickles as compiled}
use Rattle.gk_pickle.specs.Scenarios.{scenarios_of}
use Rattle.cm_missing.specs.PickleLines.{lines_of_one}
use Rattle.cm_missing.specs.Missing.{Accepted, AllScenariosRan, AskedFile, AskedPickle, IsFileReading, IsMissingOf, asked_from, asked_pickles, flag_at, is_left_out, is_missing, missing_line}
use Rattle.cm_missing.specs.Told.{Keeps, KeepsMore, CountedLines, and_then, file_told}
use Rattle.cm_missing.specs.declared.missing.Missing.{Missing}
use Rattle.cm_missing.proofs.FileLemmas.{one_file}

module _ (asked : Conditions) (flags : List Bool) where
  abbrev AllSet : ℕ → Type 0
  AllSet count = (place : ℕ) → place < count → flag_at flags place ≡ true

  none_missing : (place : ℕ) (dues : List DuePickle) (lines : List ℕ) → AllSet (place + length dues) → filter (is_missing asked) (asked_from flags place dues lines) ≡ []
  none_missing place [] lines all = refl
  none_missing place (due ∷ dues) [] all = refl
  none_missing place (due ∷ dues) (line ∷ lines) all = rw (all place (omega arith), none_missing (suc place) dues lines (λ i l. all i (omega (arith, l)))) refl

  none_left_out : (place : ℕ) (dues : List DuePickle) (lines : List ℕ) → AllSet (place + length dues) → count_by (is_left_out asked) (asked_from flags place dues lines) ≡ 0
  none_left_out place [] lines all = refl
  none_left_out place (due ∷ dues) [] all = refl
  none_left_out place (due ∷ dues) (line ∷ lines) all = rw (all place (omega arith), none_left_out (suc place) dues lines (λ i l. all i (omega (arith, l)))) refl

-- so many pickles are told, and no line
abbrev pub counted : ℕ → CountedLines
counted count = record { lines = []; scenarios = count; unrun = 0 }

whole_told : (asked : Conditions) (f : AskedFile) (count : ℕ) (a : AllScenariosRan f count) → file_told asked f (Accepted a.document) ≡ counted count
whole_told asked f count a =
    let all : (place : ℕ) → place < 0 + length (compiled a.document) → flag_at f.flags place ≡ true = λ place l. a.each place (omega (arith, l, a.as_many)) in
    let lines = flat_map lines_of_one (scenarios_of a.document) in
    λ j. record {
      lines = ap (λ (ps : List AskedPickle). map (missing_line f.path) ps) (none_missing asked f.flags 0 (compiled a.document) lines all) j;
      scenarios = a.as_many j;
      unrun = none_left_out asked f.flags 0 (compiled a.document) lines all j;
    }

keeps_counted : (old new : Missing) (count : ℕ) → new ≡ record old { scenarios = old.scenarios + count } → KeepsMore old new (counted count)
keeps_counted old new count is t k = record {
  text = ap (λ (m : Missing). string_bytes m.text) is ∙ k.text ∙ ap (λ (ls : List (List ℕ)). text_of_lines (take 100 ls)) (sym (append-nil t.lines));
  count = ap (λ (m : Missing). m.count) is ∙ k.count ∙ ap length (sym (append-nil t.lines));
  scenarios = ap (λ (m : Missing). m.scenarios) is ∙ ap (λ n. n + count) k.scenarios;
  unrun = ap (λ (m : Missing). m.unrun) is ∙ k.unrun ∙ sym (add-zero t.unrun);
}

pub whole_added : (asked : Conditions) (files : List AskedFile) (f : AskedFile) (count : ℕ) (old new : Missing) → new ≡ record old { scenarios = old.scenarios + count } → AllScenariosRan f count → IsMissingOf asked files old → IsMissingOf asked (files ++ f ∷ []) new
whole_added asked files f count old new is a =
    let reading : IsFileReading f.text (Accepted a.document) = subst (λ (t : Option Utf8). IsFileReading t (Accepted a.document)) (sym a.is_text) a.accepted in
    one_file asked files f (Accepted a.document) old new reading (subst (KeepsMore old new) (sym (whole_told asked f count a)) (keeps_counted old new count is))
