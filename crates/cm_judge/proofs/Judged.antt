-- What is found at a line, by the tests that its judge makes in order.
use Rattle.std.proofs.Common.{◌≡◌, ◌∙◌, refl, sym, ap, subst, inl, inr, Bool, true, false, not, ◌&&◌, ◌||◌, List, [], map, Option, Some, None, Result, Ok, Err, if◌then◌else◌}
use Rattle.std.specs.Prelude.{◌⊎◌, ⊤, IsErrAnd, IsOk, MatchOption, OnOk, is_some, is_none}
use Rattle.std.specs.Option.{option_map_or, option_or}
use Rattle.std.specs.Str.{bytes_eq}
use Rattle.cm_attempt.specs.Table.{has_text, has_repeat}
use Rattle.cm_refs.specs.declared.fault.RefFault.{RefFault}
use Rattle.cm_refs.specs.declared.fault.RefFault.TheVariants as reference
use Rattle.cm_refs.specs.Declarations.{RunHookRow, find_pickle, find_run_hook, finish_fault_at, pickle_fault}
use Rattle.cm_stream.specs.Texts.{Utf8}
use Rattle.cm_stream.specs.Readings.{Reading, Accepted, Refused, OtherLanguage, TooLong}
use Rattle.cm_stream.specs.OnePass.{reads}
use Rattle.cm_stream.specs.Sources.{plain}
use Rattle.cm_stream.specs.Checks.{is_too_long, is_other_language}
use Rattle.cm_stream.specs.Findings as bad
use Rattle.cm_stream.specs.Findings.{Finding, IsBad, IsUnsupported}
use Rattle.cm_stream.specs.declared.laws.Reason.TheVariants as reason
use Rattle.cm_envelope.specs.declared.envelope.Envelope.{Envelope}
use Rattle.cm_envelope.specs.declared.envelope.Envelope.TheVariants as envelope
use Rattle.cm_envelope.specs.declared.envelope.Source.{Source}
use Rattle.cm_envelope.specs.declared.envelope.GherkinDocument.{GherkinDocument}
use Rattle.cm_envelope.specs.declared.envelope.ParseError.{ParseError}
use Rattle.cm_envelope.specs.declared.envelope.TestRunHookStarted.{TestRunHookStarted}
use Rattle.cm_envelope.specs.declared.pickle.Pickle.{Pickle}
use Rattle.cm_state.specs.Summary.{Summary, new_row}
use Rattle.cm_state.specs.StateChecks.{find_source, is_accepted_by, is_awaited_of, is_next_by, knows_run_hook}
use Rattle.cm_state.specs.ByOnePass.{new_source, plain_finding}
use Rattle.cm_judge.specs.Kept.{ReadsAs, accepted_row, kept_row}
use Rattle.cm_judge.specs.State.{Checks, Judges, Refuses, summary_of}
use Rattle.cm_judge.specs.Stops.{StopsFor, refused_reference}
use Rattle.cm_judge.specs.declared.kept_sources.AcceptedSource.{AcceptedSource}
use Rattle.cm_judge.specs.declared.kept_sources.KeptSource.{KeptSource}
use Rattle.cm_judge.specs.declared.state.State.{State}
use Rattle.cm_judge.specs.declared.stop.Stop.{Stop}
use Rattle.cm_judge.specs.declared.stop.Stop.TheVariants as stop
use Rattle.cm_judge.proofs.KeptRows.{moved_row}

-- the finding is reported, and what is kept is as it was
pub refuses : (f : Option Finding) (old new : State) (why : Stop) → StopsFor f why → summary_of new ≡ summary_of old → Refuses f old new why
refuses f old new (stop.Bad b) told same = (told, same)
refuses f old new (stop.Unsupported r) told same = told
refuses f old new stop.Memory told same = same

-- an answer that is a stop
pub stops : (old new : State) (e : Envelope) (r : Result ⊤ Stop) (why : Stop) → IsErrAnd r (λ x. x ≡ why) → StopsFor (plain_finding (summary_of old) e) why → summary_of new ≡ summary_of old → Judges old new e r
stops old new e (Ok done) why h told same = absurd h
stops old new e (Err x) why h told same = subst (Refuses (plain_finding (summary_of old) e) old new) (sym h) (refuses (plain_finding (summary_of old) e) old new why told same)

pub halts : (s : State) (e : Envelope) (r : Result ⊤ Stop) (why : Stop) → IsErrAnd r (λ x. x ≡ why) → StopsFor (plain_finding (summary_of s) e) why → Checks s e r
halts s e (Ok done) why h told = absurd h
halts s e (Err x) why h told = subst (StopsFor (plain_finding (summary_of s) e)) (sym h) told

pub no_answer : (r : Result ⊤ Stop) (Q : Stop → Type 0) (P : Type 0) → IsErrAnd r Q → OnOk r P
no_answer (Ok done) Q P h = absurd h
no_answer (Err x) Q P h = tt

pub no_by : (b : Bool) → not b ≡ true → b ≡ false
no_by true h = cc
no_by false h = refl

pub yes_by : (b : Bool) → not b ≡ false → b ≡ true
yes_by true h = refl
yes_by false h = cc

-- ---- a name that is declared, or refused

abbrev pub failed : RefFault → Result ⊤ RefFault
failed f = Err f

abbrev pub done : Result ⊤ RefFault
done = Ok tt

pub told_by : (b : Bool) (f : RefFault) → MatchOption (if b then Some reference.DuplicateId else None) (f ≡ reference.Memory) (λ fault. failed f ≡ failed fault)
    → StopsFor (option_or (if b then Some (IsBad bad.DuplicateId) else None) None) (refused_reference f)
told_by true f a = let same : f ≡ reference.DuplicateId = cc in rw same refl
told_by false f a = rw a tt

-- a name that is new is refused only for memory
pub only_memory : (b : Bool) (taken f : RefFault) (found : Option Finding) → b ≡ false → MatchOption (if b then Some taken else None) (f ≡ reference.Memory) (λ fault. failed f ≡ failed fault)
    → StopsFor found (refused_reference f)
only_memory true taken f found e a = cc
only_memory false taken f found e a = rw a tt

pub free_by : (b : Bool) → MatchOption (if b then Some reference.DuplicateId else None) ⊤ (λ fault. done ≡ failed fault) → b ≡ false
free_by true a = cc
free_by false a = refl

-- ---- a source

module _ (s : Summary) (x : Source) where
  pub source_again : has_text x.uri s.declared.sources ≡ true → plain_finding s (envelope.Source x) ≡ Some (IsBad bad.DuplicateUri)
  source_again e = rw e refl

  module _ (new : has_text x.uri s.declared.sources ≡ false) where
    pub source_of_other_media : bytes_eq x.media_type plain ≡ false → plain_finding s (envelope.Source x) ≡ Some (IsUnsupported reason.MediaType)
    source_of_other_media e = rw (new, e) refl

    module _ (media : bytes_eq x.media_type plain ≡ true) where
      of_reading : Reading → Option Finding
      of_reading r = option_or (if is_too_long r then Some (IsUnsupported reason.SourceTooLong) else (if is_other_language r then Some (IsUnsupported reason.Language) else None)) None

      unread : (r : Reading) (why : Stop) → ReadsAs r (Err why) → StopsFor (of_reading r) why
      unfolding of_reading
      unread r stop.Memory h = tt
      unread TooLong (stop.Unsupported reason.SourceTooLong) h = refl
      unread TooLong (stop.Unsupported r) h = absurd h
      unread OtherLanguage (stop.Unsupported reason.Language) h = refl
      unread OtherLanguage (stop.Unsupported r) h = absurd h
      unread (Accepted d) (stop.Unsupported r) h = absurd h
      unread Refused (stop.Unsupported r) h = absurd h
      unread TooLong (stop.Bad b) h = absurd h
      unread OtherLanguage (stop.Bad b) h = absurd h
      unread (Accepted d) (stop.Bad b) h = absurd h
      unread Refused (stop.Bad b) h = absurd h

      pub source_unread : (why : Stop) → ReadsAs (reads x.content) (Err why) → StopsFor (plain_finding s (envelope.Source x)) why
      unfolding of_reading
      source_unread why h = rw (new, media) (unread (reads x.content) why h)

      pub source_fits : (k : KeptSource) → ReadsAs (reads x.content) (Ok k) → plain_finding s (envelope.Source x) ≡ None
      unfolding of_reading
      source_fits k h = rw (new, media) (fits (reads x.content) h)
        where
          fits : (r : Reading) → ReadsAs r (Ok k) → of_reading r ≡ None
          fits (Accepted d) h = refl
          fits Refused h = refl
          fits TooLong h = absurd h
          fits OtherLanguage h = absurd h

row_read : (r : Reading) (k : KeptSource) → ReadsAs r (Ok k) → kept_row [] k ≡ new_row [] r
row_read (Accepted d) k h = h
row_read Refused k h = h
row_read TooLong k h = absurd h
row_read OtherLanguage k h = absurd h

pub kept_source : (x : Source) (uri : Utf8) (k : KeptSource) → uri ≡ x.uri → ReadsAs (reads x.content) (Ok k) → kept_row uri k ≡ new_source x
kept_source x uri k e h = moved_row uri k ∙ (λ i. record (row_read (reads x.content) k h i) { uri = e i })

-- ---- a parse error

module _ (s : Summary) (p : ParseError) where
  pub error_unknown : has_text p.source.uri s.declared.sources ≡ false → plain_finding s (envelope.ParseError p) ≡ Some (IsBad bad.UnknownReference)
  error_unknown e = rw e refl

  module _ (known : has_text p.source.uri s.declared.sources ≡ true) where
    pub error_of_good : is_accepted_by s p.source.uri ≡ true → plain_finding s (envelope.ParseError p) ≡ Some (IsBad bad.ParseErrorOfGoodSource)
    error_of_good e = rw (known, e) refl

    pub error_fits : is_accepted_by s p.source.uri ≡ false → plain_finding s (envelope.ParseError p) ≡ None
    error_fits e = rw (known, e) refl

-- ---- a document

module _ (s : Summary) (d : GherkinDocument) where
  pub document_unknown : has_text d.uri s.declared.sources ≡ false → plain_finding s (envelope.GherkinDocument d) ≡ Some (IsBad bad.UnknownReference)
  document_unknown e = rw e refl

  module _ (known : has_text d.uri s.declared.sources ≡ true) where
    pub document_again : has_text d.uri s.declared.documents ≡ true → plain_finding s (envelope.GherkinDocument d) ≡ Some (IsBad bad.DuplicateUri)
    document_again e = rw (known, e) refl

    module _ (first : has_text d.uri s.declared.documents ≡ false) where
      pub document_of_refused : is_accepted_by s d.uri ≡ false → plain_finding s (envelope.GherkinDocument d) ≡ Some (IsBad bad.DocumentOfRefusedSource)
      document_of_refused e = rw (known, first, e) refl

      module _ (a : AcceptedSource) (row : find_source s d.uri ≡ Some (accepted_row d.uri a)) where
        pub document_differs : is_awaited_of d.document (accepted_row [] a) ≡ false → plain_finding s (envelope.GherkinDocument d) ≡ Some (IsBad bad.TreeDiffers)
        document_differs e = rw (known, first, row, e) refl

        module _ (same : is_awaited_of d.document (accepted_row [] a) ≡ true) where
          pub document_repeats : has_repeat d.ids ≡ true → plain_finding s (envelope.GherkinDocument d) ≡ Some (IsBad bad.DuplicateId)
          document_repeats e = rw (known, first, row, same, e) refl

          pub document_fits : has_repeat d.ids ≡ false → plain_finding s (envelope.GherkinDocument d) ≡ None
          document_fits e = rw (known, first, row, same, e) refl

-- ---- a pickle

told_pickle : (b : Bool) (f : RefFault) → MatchOption (if b then Some reference.DuplicateId else None) (f ≡ reference.Memory) (λ fault. (f ≡ fault) ⊎ (f ≡ reference.Memory))
    → StopsFor (option_or (if is_some (if b then Some reference.DuplicateId else None) then Some (IsBad bad.DuplicateId) else None) None) (refused_reference f)
told_pickle true f (inl e) = rw e refl
told_pickle true f (inr e) = rw e tt
told_pickle false f e = rw e tt

free_pickle : (b : Bool) → MatchOption (if b then Some reference.DuplicateId else None) ⊤ (λ fault. ⊥)
    → option_or (if is_some (if b then Some reference.DuplicateId else None) then Some (IsBad bad.DuplicateId) else None) None ≡ None
free_pickle true h = absurd h
free_pickle false h = refl

module _ (s : Summary) (p : Pickle) where
  pub pickle_unknown : (has_text p.uri s.declared.sources && has_text p.uri s.declared.documents) ≡ false → plain_finding s (envelope.Pickle p) ≡ Some (IsBad bad.UnknownReference)
  pickle_unknown e = rw e refl

  module _ (known : (has_text p.uri s.declared.sources && has_text p.uri s.declared.documents) ≡ true) where
    pub pickle_differs : is_next_by s p ≡ false → plain_finding s (envelope.Pickle p) ≡ Some (IsBad bad.PickleDiffers)
    pickle_differs e = rw (known, e) refl

    module _ (next : is_next_by s p ≡ true) (steps : List Utf8) (same : steps ≡ map (λ x. x.id) p.steps) where
      pub pickle_told : (f : RefFault) → MatchOption (pickle_fault s.declared p.id steps) (f ≡ reference.Memory) (λ fault. (f ≡ fault) ⊎ (f ≡ reference.Memory))
          → StopsFor (plain_finding s (envelope.Pickle p)) (refused_reference f)
      pickle_told f h = rw (known, next) (told_pickle (is_some (find_pickle s.declared p.id) || has_repeat (map (λ x. x.id) p.steps)) f (rw same at h))

      pub pickle_fits : MatchOption (pickle_fault s.declared p.id steps) ⊤ (λ fault. ⊥) → plain_finding s (envelope.Pickle p) ≡ None
      pickle_fits h = rw (known, next) (free_pickle (is_some (find_pickle s.declared p.id) || has_repeat (map (λ x. x.id) p.steps)) (rw same at h))

-- ---- the start of a run hook

pub is_there : {X : Type 0} (o : Option X) (b : Bool) → is_some o ≡ not b → b ≡ false → is_none o ≡ false
is_there None b h e = let both : false ≡ true = h ∙ ap not e in cc
is_there (Some x) b h e = refl

module _ (s : Summary) (x : TestRunHookStarted) where
  module _ (inside : is_none s.run ≡ false) where
    module _ (known : knows_run_hook s x ≡ true) where
      pub hook_told : (f : RefFault) → MatchOption (if is_some (find_run_hook s.declared x.id) then Some reference.DuplicateId else None) (f ≡ reference.Memory) (λ fault. failed f ≡ failed fault)
          → StopsFor (plain_finding s (envelope.TestRunHookStarted x)) (refused_reference f)
      hook_told f h = rw (inside, known) (told_by (is_some (find_run_hook s.declared x.id)) f h)

      pub hook_fits : is_some (find_run_hook s.declared x.id) ≡ false → plain_finding s (envelope.TestRunHookStarted x) ≡ None
      hook_fits e = rw (inside, known, e) refl

-- ---- the end of a run hook

-- what is found at an end, by what is kept of the run hook and whether the status is unknown
abbrev pub end_found : Option RunHookRow → Bool → Option Finding
end_found row unknown =
    option_or (if not (is_some row) then Some (IsBad bad.UnknownReference)
    else (if option_map_or (λ r. r.is_finished) row false then Some (IsBad bad.RunHookTwice)
    else (if unknown then Some (IsUnsupported reason.UnknownStatus) else None))) None

marked_told : (b unknown : Bool) (f : RefFault) → MatchOption (if b then Some reference.RunHookTwice else None) (IsOk (failed f)) (λ fault. failed f ≡ failed fault)
    → StopsFor (option_or (if b then Some (IsBad bad.RunHookTwice) else (if unknown then Some (IsUnsupported reason.UnknownStatus) else None)) None) (refused_reference f)
marked_told true unknown f a = let same : f ≡ reference.RunHookTwice = cc in rw same refl
marked_told false unknown f a = cc

pub end_told : (row : Option RunHookRow) (unknown : Bool) (f : RefFault) → MatchOption (finish_fault_at row) (IsOk (failed f)) (λ fault. failed f ≡ failed fault)
    → StopsFor (end_found row unknown) (refused_reference f)
end_told None unknown f a = let same : f ≡ reference.UnknownRunHook = cc in rw same refl
end_told (Some r) unknown f a = marked_told r.is_finished unknown f a

marked_fits : (b unknown : Bool) → MatchOption (if b then Some reference.RunHookTwice else None) (IsOk done) (λ fault. done ≡ failed fault) → b ≡ false
marked_fits true unknown a = cc
marked_fits false unknown a = refl

found_first : (b unknown : Bool) → b ≡ false → option_or (if b then Some (IsBad bad.RunHookTwice) else (if unknown then Some (IsUnsupported reason.UnknownStatus) else None)) None
    ≡ (if unknown then Some (IsUnsupported reason.UnknownStatus) else None)
found_first b true e = rw e refl
found_first b false e = rw e refl

pub end_found_is : (row : Option RunHookRow) (unknown : Bool) → MatchOption (finish_fault_at row) (IsOk done) (λ fault. done ≡ failed fault)
    → end_found row unknown ≡ (if unknown then Some (IsUnsupported reason.UnknownStatus) else None)
end_found_is None unknown a = cc
end_found_is (Some r) unknown a = found_first r.is_finished unknown (marked_fits r.is_finished unknown a)
