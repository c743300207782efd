-- The first reference that isn't declared, by what an audit keeps.
use Rattle.std.proofs.Common.{◌≡◌, ◌∙◌, refl, sym, ap, ℕ, ◌+◌, ◌<◌, Bool, true, false, not, ◌&&◌, List, [], ◌∷◌, ◌++◌, append-nil, get_or, length, map, take, drop, Option, Some, None, Bor}
use Rattle.std.specs.Prelude.{find, if◌then◌else◌, is_some, option_map}
use Rattle.std.specs.List.{flat_map}
use Rattle.std.proofs.lemmas.Grind.{flat_map-append}
use Rattle.std.proofs.lemmas.List.{take-append-drop, take_more}
use Rattle.std.specs.Str.{bytes_eq}
use Rattle.cm_refs.proofs.EntryLemmas.{list_any-map}
use Rattle.cm_attempt.specs.Table.{has_text}
use Rattle.cm_envelope.specs.declared.envelope.TestStep.{TestStep}
use Rattle.cm_state.specs.StateChecks.{find_source}
use Rattle.cm_state.specs.Summary.{SourceRow, Summary}
use Rattle.cm_stream.specs.References.{Definition, DocumentOf, Name, SourceOf, test_step_names}
use Rattle.cm_stream.specs.Texts.{Utf8}
use Rattle.cm_stream.proofs.CallWords.{some_mapped}
use Rattle.cm_stream.proofs.Lists.{found_any}
use Rattle.cm_judge.specs.Kept.{kept_row}
use Rattle.cm_judge.specs.State.{summary_of}
use Rattle.cm_judge.specs.declared.kept_sources.KeptSource.{KeptSource}
use Rattle.cm_judge.specs.declared.state.State.{State}
use Rattle.cm_fault_reasons.specs.Unknown.{ToldName, told_id, told_name, told_uri}
use Rattle.cm_fault_reasons.specs.UnknownKept.{knows, unknown_among}

-- the first of two
abbrev pub or_first : Option ToldName → Option ToldName → Option ToldName
or_first None later = later
or_first (Some t) later = Some t

module _ (s : Summary) where
  -- of one list and then of another
  pub among_both : (xs ys : List Name) → unknown_among s (xs ++ ys) ≡ or_first (unknown_among s xs) (unknown_among s ys)
  among_both [] ys = refl
  among_both (x ∷ xs) ys = go (knows s x) (among_both xs ys)
    where
      go : (b : Bool) → option_map told_name (find (λ n. not (knows s n)) (xs ++ ys)) ≡ or_first (unknown_among s xs) (unknown_among s ys)
          → option_map told_name (if not b then Some x else find (λ n. not (knows s n)) (xs ++ ys)) ≡ or_first (option_map told_name (if not b then Some x else find (λ n. not (knows s n)) xs)) (unknown_among s ys)
      go true rec = rec
      go false rec = refl

  pub source_told : (uri : Utf8) (b : Bool) → b ≡ has_text uri s.declared.sources → (if b then None else Some (told_uri uri)) ≡ unknown_among s (SourceOf uri ∷ [])
  source_told uri true e = rw (← e) refl
  source_told uri false e = rw (← e) refl

  pub pickle_told : (uri : Utf8) (a b : Bool) → a ≡ has_text uri s.declared.sources → b ≡ has_text uri s.declared.documents
      → (if a && b then None else Some (told_uri uri)) ≡ unknown_among s (SourceOf uri ∷ DocumentOf uri ∷ [])
  pickle_told uri true true e f = rw (← e, ← f) refl
  pickle_told uri true false e f = rw (← e, ← f) refl
  pickle_told uri false b e f = rw (← e) refl

  -- the first of these definitions that isn't declared
  pub definition_told : (ids : List Utf8) → option_map told_id (find (λ id. not (has_text id s.declared.definitions)) ids) ≡ unknown_among s (map Definition ids)
  definition_told [] = refl
  definition_told (id ∷ ids) = go (has_text id s.declared.definitions) (definition_told ids)
    where
      go : (b : Bool) → option_map told_id (find (λ id. not (has_text id s.declared.definitions)) ids) ≡ unknown_among s (map Definition ids)
          → option_map told_id (if not b then Some id else find (λ id. not (has_text id s.declared.definitions)) ids) ≡ option_map told_name (if not b then Some (Definition id) else find (λ n. not (knows s n)) (map Definition ids))
      go true rec = rec
      go false rec = refl

  -- ---- the steps of a test case

  abbrev names : Utf8 → TestStep → List Name
  names = test_step_names

  pub step_more : (pickle : Utf8) (steps : List TestStep) (i : ℕ) (step : TestStep) (o : Option ToldName) → i < length steps → step ≡ get_or steps i step → unknown_among s (flat_map (names pickle) (take i steps)) ≡ None
      → o ≡ unknown_among s (names pickle step) → unknown_among s (flat_map (names pickle) (take (i + 1) steps)) ≡ o
  step_more pickle steps i step o less at none is =
      let front : take (i + 1) steps ≡ take i steps ++ step ∷ [] = take_more steps i step less ∙ ap (λ (x : TestStep). take i steps ++ x ∷ []) (sym at) in
      ap (λ (ts : List TestStep). unknown_among s (flat_map (names pickle) ts)) front
      ∙ ap (unknown_among s) (flat_map-append (names pickle) (take i steps) (step ∷ []))
      ∙ among_both (flat_map (names pickle) (take i steps)) (names pickle step ++ [])
      ∙ ap (λ (t : Option ToldName). or_first t (unknown_among s (names pickle step ++ []))) none
      ∙ ap (unknown_among s) (append-nil (names pickle step)) ∙ sym is

  pub steps_told : (pickle : Utf8) (steps : List TestStep) (n : ℕ) (t : ToldName) → unknown_among s (flat_map (names pickle) (take n steps)) ≡ Some t → Some t ≡ unknown_among s (flat_map (names pickle) steps)
  steps_told pickle steps n t is =
      sym (ap (λ (ts : List TestStep). unknown_among s (flat_map (names pickle) ts)) (sym (take-append-drop n steps))
      ∙ ap (unknown_among s) (flat_map-append (names pickle) (take n steps) (drop n steps))
      ∙ among_both (flat_map (names pickle) (take n steps)) (flat_map (names pickle) (drop n steps))
      ∙ ap (λ (o : Option ToldName). or_first o (unknown_among s (flat_map (names pickle) (drop n steps)))) is)

-- ---- sources

pub source_known : (state : State) (uri : Utf8) (o : Option (Bor KeptSource)) → option_map (λ (k : Bor KeptSource). kept_row uri k.now) o ≡ find_source (summary_of state) uri → is_some o ≡ has_text uri (summary_of state).declared.sources
source_known state uri o is =
    let rows = (summary_of state).sources in
    sym (some_mapped (λ (k : Bor KeptSource). kept_row uri k.now) o) ∙ ap is_some is ∙ found_any (λ (r : SourceRow). bytes_eq uri r.uri) rows ∙ sym (list_any-map (bytes_eq uri) (λ (r : SourceRow). r.uri) rows)
