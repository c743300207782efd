-- Feature files that are read, one after another.
use Rattle.std.proofs.Common.{◌≡◌, ◌≢◌, ◌∙◌, ◌∷◌, ◌++◌, ◌<◌, ◌+◌, [], ℕ, List, Option, Some, Result, Ok, Err, true, String, inr, refl, sym, ap, subst, append_assoc, drop, get_or, length, map, option_map, string_bytes, take}
use Rattle.std.proofs.lemmas.List.{drop_more, map-append, take-append-drop, take_more}
use Rattle.std.specs.Prelude.{IfErr, IfOk}
use Rattle.std.specs.declared.alloc.Global.{Global}
use Rattle.cm_envelope.specs.Device.{CountsFailure, Input, OfInput, OfWhole}
use Rattle.cm_stream.specs.Texts.{Utf8}
use Rattle.feature_paths.specs.declared.paths.Fault.{Fault}
use Rattle.feature_paths.specs.declared.paths.Fault.TheVariants.{NotUtf8, ReadFailed}
use Rattle.files.specs.Openings.{IsFresh, Opening}
use Rattle.gk_grammar.specs.Documents.{max_bytes}
use Rattle.ck_commands.specs.FeatureFiles.{FailsAtFile, FailsToRead, FeatureFile, ReadsFiles, WasRead, WereRead}
use Rattle.ck_commands.specs.Features.{IsNoText}
use Rattle.ck_commands.specs.FilesKept.{AsFileText, FailsFor, ReadsText, TellsFile, file_of, path_trouble}
use Rattle.ck_commands.specs.TextInput.{HasTextFault, IsTextOf, is_failed_text_read}
use Rattle.ck_commands.specs.declared.command_gate_features.FeatureFile as made
use Rattle.ck_commands.specs.declared.command_gate_features.FileFault.{FileFault}
use Rattle.ck_commands.specs.declared.command_gate_features.FileFault.TheVariants as fault
use Rattle.ck_commands.specs.declared.text_input.TextFault.{TextFault}
use Rattle.ck_commands.specs.declared.text_input.TextFault.TheVariants as text
use Rattle.ck_commands.proofs.RunsReleased.{from_fresh_reads, from_fresh_whole}

-- ---- one file

-- what its reads left, from a file of which nothing was read
pub record Gave (i j : Input) (read : Result (String Global) TextFault) : Type 0 where
  pub fresh : IsFresh i
  pub text : IfOk read (λ t. OfWhole i j (λ bytes. IsTextOf bytes (string_bytes t)))
  pub wrong : IfErr read (λ f. OfInput i j (λ bytes. HasTextFault bytes f))
  pub failures : CountsFailure (is_failed_text_read read) i.failed_calls j.failed_calls

module _ (path : Utf8) (old new : List Opening) (i j : Input) (noted : new ≡ old ++ record { name = path; input = Some j } ∷ []) where
  abbrev opening : Opening
  opening = record { name = path; input = Some j }

  pub read_told : (read : Result (String Global) TextFault) (answer : Result (Option (String Global)) FileFault) → Gave i j read → AsFileText read answer → IfOk answer (λ t. ReadsText path old new (option_map string_bytes t))
  read_told (Ok t) answer gave is =
      subst (λ (a : Result (Option (String Global)) FileFault). IfOk a (λ t. ReadsText path old new (option_map string_bytes t))) (sym is)
      (opening, noted, (j, refl, from_fresh_whole (λ bytes. IsTextOf bytes (string_bytes t)) i j gave.fresh gave.text))
  read_told (Err text.TooLong) answer gave is =
      subst (λ (a : Result (Option (String Global)) FileFault). IfOk a (λ t. ReadsText path old new (option_map string_bytes t))) (sym is)
      (opening, noted, (j, refl, from_fresh_reads (λ bytes rest. max_bytes < length bytes) i j gave.fresh gave.wrong))
  read_told (Err text.ReadFailed) answer gave is = rw is tt
  read_told (Err text.NotUtf8) answer gave is = rw is tt
  read_told (Err text.Memory) answer gave is = rw is tt

  failed_so : CountsFailure true i.failed_calls j.failed_calls → i.failed_calls ≡ 0 → j.failed_calls ≢ 0
  failed_so counts none same = let one : j.failed_calls ≡ 1 = counts ∙ (rw none refl) in let no : 1 ≡ 0 = sym one ∙ same in cc

  pub fault_told : (read : Result (String Global) TextFault) (answer : Result (Option (String Global)) FileFault) → Gave i j read → AsFileText read answer → IfErr answer (FailsFor path old new)
  fault_told (Ok t) answer gave is = rw is tt
  fault_told (Err text.TooLong) answer gave is = rw is tt
  fault_told (Err text.ReadFailed) answer gave is =
      subst (λ (a : Result (Option (String Global)) FileFault). IfErr a (FailsFor path old new)) (sym is)
      (opening ∷ [], noted, inr (j, refl, failed_so gave.failures gave.fresh.unfailed))
  fault_told (Err text.NotUtf8) answer gave is =
      subst (λ (a : Result (Option (String Global)) FileFault). IfErr a (FailsFor path old new)) (sym is)
      (opening ∷ [], noted, (j, refl, from_fresh_reads (λ bytes rest. IsNoText bytes) i j gave.fresh gave.wrong))
  fault_told (Err text.Memory) answer gave is = rw is tt

-- ---- all files

were_push : (f : FeatureFile) (o : Opening) → WasRead f o → (fs : List FeatureFile) (os : List Opening) → WereRead fs os → WereRead (fs ++ f ∷ []) (os ++ o ∷ [])
were_push f o one [] [] h = (one, tt)
were_push f o one [] (x ∷ xs) h = absurd h
were_push f o one (g ∷ gs) [] h = absurd h
were_push f o one (g ∷ gs) (x ∷ xs) h = (h.0, were_push f o one gs xs h.1)

pub read_push : (paths : List Utf8) (old mid new : List Opening) (files : List FeatureFile) (path : Utf8) (found : Option Utf8) → ReadsFiles paths old mid files → ReadsText path mid new found
    → ReadsFiles (paths ++ path ∷ []) old new (files ++ record { path = path; text = found } ∷ [])
read_push paths old mid new files path found all one =
    let f : FeatureFile = record { path = path; text = found } in
    record {
      of_paths = map-append (λ (g : FeatureFile). g.path) files (f ∷ []) ∙ ap (λ (l : List Utf8). l ++ path ∷ []) all.of_paths;
      noted = all.noted ++ one.0 ∷ [];
      opened = one.1 ∙ ap (λ (l : List Opening). l ++ one.0 ∷ []) all.opened ∙ append_assoc old all.noted (one.0 ∷ []);
      each = were_push f one.0 one.2 files all.noted all.each;
    }

module _ (xs : List (String Global)) (i : ℕ) (x : String Global) (below : i < length xs) (at : x ≡ get_or xs i x) where
  paths_more : map string_bytes (take (i + 1) xs) ≡ map string_bytes (take i xs) ++ string_bytes x ∷ []
  paths_more = ap (map string_bytes) (take_more xs i x below ∙ ap (λ (y : String Global). take i xs ++ y ∷ []) (sym at)) ∙ map-append string_bytes (take i xs) (x ∷ [])

  paths_cut : map string_bytes xs ≡ map string_bytes (take i xs) ++ string_bytes x ∷ map string_bytes (drop (i + 1) xs)
  paths_cut =
      ap (map string_bytes) (sym (take-append-drop i xs) ∙ ap (λ (ys : List (String Global)). take i xs ++ ys) (drop_more xs i x below ∙ ap (λ (y : String Global). y ∷ drop (i + 1) xs) (sym at)))
      ∙ map-append string_bytes (take i xs) (x ∷ drop (i + 1) xs)

  -- the next of the paths was read
  pub read_on : (old mid new : List Opening) (found all : List made.FeatureFile) (path : String Global) (text : Option (String Global)) → string_bytes path ≡ string_bytes x → ReadsFiles (map string_bytes (take i xs)) old mid (map file_of found)
      → ReadsText (string_bytes path) mid new (option_map string_bytes text) → all ≡ found ++ record { path = path; text = text } ∷ [] → ReadsFiles (map string_bytes (take (i + 1) xs)) old new (map file_of all)
  read_on old mid new found all path text same w one joined =
      subst (λ (ps : List Utf8). ReadsFiles ps old new (map file_of all)) (sym (paths_more ∙ ap (λ (p : Utf8). map string_bytes (take i xs) ++ p ∷ []) (sym same)))
      (subst (ReadsFiles (map string_bytes (take i xs) ++ string_bytes path ∷ []) old new) (sym (ap (map file_of) joined ∙ map-append file_of found (record { path = path; text = text } ∷ [])))
      (read_push (map string_bytes (take i xs)) old mid new (map file_of found) (string_bytes path) (option_map string_bytes text) w one))

  -- the next of the paths can't be read
  fails_with : (old mid new : List Opening) (files : List FeatureFile) (path : String Global) (why : Fault) → string_bytes path ≡ string_bytes x → ReadsFiles (map string_bytes (take i xs)) old mid files
      → (noted : List Opening) → new ≡ mid ++ noted → FailsToRead (string_bytes path) noted why → FailsAtFile (map string_bytes xs) old new (record { path = string_bytes path; fault = why })
  fails_with old mid new files path why same w noted opened fails = record {
    before = map string_bytes (take i xs);
    after = map string_bytes (drop (i + 1) xs);
    cut = paths_cut ∙ ap (λ (p : Utf8). map string_bytes (take i xs) ++ p ∷ map string_bytes (drop (i + 1) xs)) (sym same);
    files = files;
    between = mid;
    read = w;
    noted = noted;
    opened = opened;
    fails = fails;
  }

  pub fails_on : (old mid new : List Opening) (files : List FeatureFile) (path : String Global) (why : FileFault) → string_bytes path ≡ string_bytes x → ReadsFiles (map string_bytes (take i xs)) old mid files
      → FailsFor (string_bytes path) mid new why → TellsFile (map string_bytes xs) old new (path_trouble path why)
  fails_on old mid new files path fault.ReadFailed same w h = fails_with old mid new files path ReadFailed same w h.0 h.1 h.2
  fails_on old mid new files path fault.NotUtf8 same w h = fails_with old mid new files path NotUtf8 same w h.0 h.1 h.2
  fails_on old mid new files path fault.Memory same w h = tt
