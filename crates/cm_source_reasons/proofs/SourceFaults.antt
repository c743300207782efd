-- What is told at a fault against a source by what is kept of the lines is what is told over all of them.
use Rattle.std.proofs.Common.{◌≡◌, ℕ, refl, sym, ap, ◌∙◌, subst, Bool, true, false, not, ◌&&◌, ◌==◌, List, [], ◌∷◌, ◌++◌, drop, length, map, Option, Some, None}
use Rattle.std.proofs.Math.Path.{fun_ext}
use Rattle.std.specs.Prelude.{IsSomeAnd, codes, decimal, find, if◌then◌else◌, is_none, is_some, option_map, slice_get}
use Rattle.std.specs.List.{filter_map, list_any}
use Rattle.std.specs.Option.{option_map_or, option_or}
use Rattle.std.specs.Str.{bytes_eq}
use Rattle.gk_document.specs.declared.tree.Document.{Document}
use Rattle.gk_pickle.specs.Pickles.{pickles as compiled}
use Rattle.cm_envelope.specs.declared.envelope.Envelope.{Envelope}
use Rattle.cm_envelope.specs.declared.envelope.Envelope.TheVariants as envelope
use Rattle.cm_envelope.specs.declared.envelope.GherkinDocument.{GherkinDocument}
use Rattle.cm_envelope.specs.declared.envelope.Source.{Source}
use Rattle.cm_envelope.specs.declared.envelope.TestRunFinished.{TestRunFinished}
use Rattle.cm_envelope.specs.declared.pickle.Pickle.{Pickle}
use Rattle.cm_refs.specs.Declarations.{open_count as open_hook_count, pickle_fault}
use Rattle.cm_refs.proofs.EntryLemmas.{list_any-map}
use Rattle.cm_attempt.specs.Table.{has_repeat, has_text, open_count}
use Rattle.cm_attempt.specs.declared.status.Settings.{Settings}
use Rattle.cm_attempt.proofs.Growing.{find_passes}
use Rattle.cm_stream.specs.ByOnePass.{IsFaultless, checks, fault, is_incomplete, next_pickle, reading_of}
use Rattle.cm_stream.specs.Checks.{Check, ◌if◌, document_ids, due_pickles, fault_by, first_failed, first_ids, lacks, same_flag}
use Rattle.cm_stream.specs.FaultlessLines.{IsFaultlessBy}
use Rattle.cm_stream.specs.Findings as bad
use Rattle.cm_stream.specs.Findings.{Fault, Finding, IsBad, stream_fault_named}
use Rattle.cm_stream.specs.OnePass.{reads}
use Rattle.cm_stream.specs.Readings.{Reading, Accepted}
use Rattle.cm_stream.specs.References.{as_document, documents_of, has_run_finished, is_accepted, pickles_of, sources}
use Rattle.cm_stream.specs.Skeleton.{same_skeleton}
use Rattle.cm_stream.specs.Sources.{DuePickle}
use Rattle.cm_stream.specs.Texts.{Utf8}
use Rattle.cm_stream.specs.declared.laws.StreamFault.{StreamFault}
use Rattle.cm_stream.specs.declared.laws.StreamFault.TheVariants as reported
use Rattle.cm_stream.proofs.ByGrammar.{same_reads}
use Rattle.cm_stream.proofs.Found.{bytes_are}
use Rattle.cm_stream.proofs.Lists.{find_map, found_any, found_more, or_false}
use Rattle.cm_state.specs.StateChecks.{find_source, is_accepted_by, is_awaited_by, is_awaited_of, is_next_by, is_well, knows_run, lacks_by}
use Rattle.cm_state.specs.Summary.{SourceRow, Summary, awaited_of, row_of, summary_of_lines_by}
use Rattle.cm_state.specs.ByOnePass.{summary_of_lines, source_row}
use Rattle.cm_state.proofs.Checked.{findings_are_faults}
use Rattle.cm_state.proofs.SourceTests.{first_left, no_document, not_zero, same_lack}
use Rattle.cm_cases.specs.Places.{last_node, places_of, scenario_at}
use Rattle.cm_cases.specs.Shown.{shown_text}
use Rattle.cm_reasons.specs.Lines.{limited_text}
use Rattle.cm_reasons.specs.declared.trail.Trail.{Trail}
use Rattle.cm_differs.specs.Differences.{IsTreeDifference, pickle_difference}
use Rattle.cm_differs.specs.DuePickles.{due_pickle}
use Rattle.cm_differs.specs.declared.difference.Difference.{Difference}
use Rattle.cm_judge.proofs.Judged.{no_by, yes_by}
use Rattle.cm_source_reasons.specs.Deciding.{IsDeciding}
use Rattle.cm_source_reasons.specs.SourceKept.{TellsAtTree, TellsKept, TellsTree, difference_lines, lack_lines, lack_lines_by, lines_at_pickle, pickle_reason_text_by}
use Rattle.cm_source_reasons.specs.SourceReasons.{IsLackReason, IsPickleReason, IsSourceReason, IsTreeReason, due_line, due_scenario, missing_document, missing_lines, missing_pickles, pickle_reason_text, sides_text, uri_line}

some_then : {X : Type 0} (P Q : X → Type 0) (o : Option X) → ((x : X) → P x → Q x) → IsSomeAnd o P → IsSomeAnd o Q
some_then P Q None f h = absurd h
some_then P Q (Some x) f h = f x h

-- ---- which envelopes have such a fault

abbrev is_tree : Finding → Bool
is_tree (IsBad bad.TreeDiffers) = true
is_tree _ = false

abbrev is_pickle : Finding → Bool
is_pickle (IsBad bad.PickleDiffers) = true
is_pickle _ = false

abbrev is_lack : Finding → Bool
is_lack (IsBad bad.SourceIncomplete) = true
is_lack _ = false

-- a finding that no check reports isn't found
never : (p : Finding → Bool) (cs : List Check) (f : Finding) → list_any (λ c. p c.finding) cs ≡ false → p f ≡ true → first_failed cs ≡ Some f → ⊥
never p [] f none holds h = cc
never p (c ∷ cs) f none holds h = go c.fails h (never p cs f)
  where
    here : (p c.finding ≡ false) × (list_any (λ x. p x.finding) cs ≡ false)
    here = or_false (p c.finding) (list_any (λ x. p x.finding) cs) none

    go : (b : Bool) → (if b then Some c.finding else first_failed cs) ≡ Some f → (list_any (λ x. p x.finding) cs ≡ false → p f ≡ true → first_failed cs ≡ Some f → ⊥) → ⊥
    go true h rec =
        let same : c.finding ≡ f = cc in
        let both : false ≡ true = sym here.0 ∙ ap p same ∙ holds in
        cc
    go false h rec = rec here.1 holds h

-- ---- the checks before it

abbrev after_end : Bool → Option Finding → Option Finding
after_end a o = if a then Some (IsBad bad.AfterRunFinished) else o

tree_checks : (a b c d e f : Bool)
    → after_end a (option_or (option_or (first_failed (bad.UnknownReference if b ∷ bad.DuplicateUri if c ∷ bad.DocumentOfRefusedSource if d ∷ bad.TreeDiffers if e ∷ bad.DuplicateId if f ∷ [])) None) None) ≡ Some (IsBad bad.TreeDiffers)
    → (c ≡ false) × (d ≡ false) × (e ≡ true)
tree_checks true b c d e f h = absurd cc
tree_checks false true c d e f h = absurd cc
tree_checks false false true d e f h = absurd cc
tree_checks false false false true e f h = absurd cc
tree_checks false false false false true f h = (refl, refl, refl)
tree_checks false false false false false true h = absurd cc
tree_checks false false false false false false h = absurd cc

pickle_checks : (a b c d : Bool) → after_end a (option_or (option_or (first_failed (bad.UnknownReference if b ∷ bad.PickleDiffers if c ∷ bad.DuplicateId if d ∷ [])) None) None) ≡ Some (IsBad bad.PickleDiffers) → (b ≡ false) × (c ≡ true)
pickle_checks true b c d h = absurd cc
pickle_checks false true c d h = absurd cc
pickle_checks false false true d h = (refl, refl)
pickle_checks false false false true h = absurd cc
pickle_checks false false false false h = absurd cc

lack_checks : (a b c d e f g : Bool)
    → after_end a (option_or (option_or (first_failed (bad.OutsideRun if b ∷ bad.UnknownReference if c ∷ bad.AttemptOpen if d ∷ bad.RunHookOpen if e ∷ bad.SourceIncomplete if f ∷ [])) None) (first_failed (bad.SuccessDiffers if g ∷ []))) ≡ Some (IsBad bad.SourceIncomplete)
    → f ≡ true
lack_checks true b c d e f g h = cc
lack_checks false true c d e f g h = cc
lack_checks false false true d e f g h = cc
lack_checks false false false true e f g h = cc
lack_checks false false false false true f g h = cc
lack_checks false false false false false true g h = refl
lack_checks false false false false false false true h = cc
lack_checks false false false false false false false h = cc

both_left : (a b : Bool) → (a && b) ≡ true → a ≡ true
both_left true b h = refl
both_left false b h = h

-- ---- scenarios, by the documents alone

module _ (upto es : List Envelope) (same : filter_map as_document upto ≡ filter_map as_document es) where
  same_scenario : (uri name node : Utf8) → scenario_at upto uri name node ≡ scenario_at es uri name node
  same_scenario uri name node =
      ap
      (λ (docs : List GherkinDocument). codes " " ++ shown_text uri ++ codes ":" ++ decimal (option_map_or (λ x. x.line) (find (λ x. bytes_eq node x.id) (option_map_or places_of (find (λ d. bytes_eq uri d.uri) docs) [])) 0) ++ codes " " ++ shown_text name)
      same

  same_due : (uri : Utf8) (ids : List Utf8) (d : DuePickle) → due_scenario upto uri ids d ≡ due_scenario es uri ids d
  same_due uri ids d = same_scenario uri d.name (last_node (due_pickle uri ids [] d))

  same_line : (uri : Utf8) (ids : List Utf8) (due : Option DuePickle) → due_line upto uri ids due ≡ due_line es uri ids due
  same_line uri ids (Some d) = ap (λ (t : List ℕ). codes "due" ++ t ++ 10 ∷ []) (same_due uri ids d)
  same_line uri ids None = refl

  same_missing : (uri : Utf8) (ids : List Utf8) (due : List DuePickle) → missing_pickles upto uri ids due ≡ missing_pickles es uri ids due
  same_missing uri ids due = ap (λ (f : DuePickle → List ℕ). limited_text (map f due)) (fun_ext (λ d. ap (λ (t : List ℕ). codes "missing" ++ t) (same_due uri ids d)))

  -- what a source lacks, by its row and by the lines
  lack_in : (uri : Utf8) (r : Reading) → lacks es uri r ≡ true → lack_lines upto (row_of uri r (documents_of uri es) (pickles_of uri es)) ≡ uri_line uri ++ missing_lines es uri r
  lack_in uri (Accepted due) h = go (documents_of uri es) refl
    where
      left : List DuePickle
      left = drop (length (pickles_of uri es)) (compiled due)

      by_row : List GherkinDocument → List ℕ
      by_row docs = lack_lines upto (row_of uri (Accepted due) docs (pickles_of uri es))

      chosen : List Utf8 → Bool → List ℕ
      chosen ids b = uri_line uri ++ (if b then missing_document else missing_pickles es uri ids left)

      by_lines : List GherkinDocument → List ℕ
      by_lines docs = uri_line uri ++ (if length docs == 0 then missing_document else missing_pickles es uri (first_ids docs) left)

      go : (docs : List GherkinDocument) → documents_of uri es ≡ docs → by_row (documents_of uri es) ≡ by_lines (documents_of uri es)
      go [] e = ap by_row e ∙ sym (ap by_lines e)
      go (x ∷ docs) e = ap by_row e ∙ ap (λ (t : List ℕ). uri_line uri ++ t) (same_missing uri x.ids left) ∙ sym (ap by_lines e ∙ ap (chosen x.ids) (not_zero (length docs)))
  lack_in uri _ h = absurd cc

-- ---- at a fault

abbrev of_uri : Utf8 → Source → Bool
of_uri uri s = bytes_eq uri s.uri

module _ (settings : Settings) (es : List Envelope) (none : IsFaultless settings es) where
  abbrev now : Summary
  now = summary_of_lines settings.first_attempt es

  row_is : (uri : Utf8) → find_source now uri ≡ option_map (source_row es) (find (of_uri uri) (sources es))
  row_is uri = find_map (λ r. bytes_eq uri r.uri) (source_row es) (sources es)

  uri_is : (uri : Utf8) (s : Source) → find (of_uri uri) (sources es) ≡ Some s → s.uri ≡ uri
  uri_is uri s e = sym (bytes_are uri s.uri (find_passes (of_uri uri) (sources es) s e))

  reading_is : (uri : Utf8) (s : Source) → find (of_uri uri) (sources es) ≡ Some s → reading_of uri es ≡ Some (reads s.content)
  reading_is uri s e = ap (option_map (λ (x : Source). reads x.content)) e

  -- the document's source is read so, and the documents differ so
  abbrev TreeIn : GherkinDocument → Difference → Type 0
  TreeIn x d = (due : Document) × (reading_of x.uri es ≡ Some (Accepted due)) × IsTreeDifference x.uri due x.document d

  told_tree : (x : GherkinDocument) (o : Option Difference) (lines : List ℕ) → IsSomeAnd o (TreeIn x) → lines ≡ difference_lines o → IsTreeReason reads es (envelope.GherkinDocument x) lines
  told_tree x None lines h told = absurd h
  told_tree x (Some d) lines h told = record { document = x; is_document = refl; due = h.0; is_due = h.1; difference = d; differs = h.2; told = told }

  tree_of : (d : GherkinDocument) (lines : List ℕ) → fault settings es (envelope.GherkinDocument d) ≡ Some (IsBad bad.TreeDiffers) → TellsTree now d lines → IsTreeReason reads es (envelope.GherkinDocument d) lines
  tree_of d lines why tells = told_tree d tells.0 lines (go (find (of_uri d.uri) (sources es)) refl) tells.2
    where
      Found : Type 0
      Found = IsSomeAnd tells.0 (TreeIn d)

      passed : (has_text d.uri now.declared.documents ≡ false) × (not (is_accepted_by now d.uri) ≡ false) × (not (is_awaited_by now d) ≡ true)
      passed = tree_checks (has_run_finished es) (not (has_text d.uri now.declared.sources)) (has_text d.uri now.declared.documents) (not (is_accepted_by now d.uri)) (not (is_awaited_by now d)) (has_repeat d.ids)
          (findings_are_faults settings es (envelope.GherkinDocument d) none ∙ why)

      accepted : is_accepted_by now d.uri ≡ true
      accepted = yes_by (is_accepted_by now d.uri) passed.1

      other : is_awaited_by now d ≡ false
      other = no_by (is_awaited_by now d) passed.2

      by : (s : Source) → find (of_uri d.uri) (sources es) ≡ Some s → (r : Reading) → reads s.content ≡ r → is_accepted r ≡ true → is_awaited_of d.document (source_row es s) ≡ false → Found
      by s e (Accepted due) is holds wrong =
          let none_came : documents_of s.uri es ≡ [] = ap (λ u. documents_of u es) (uri_is d.uri s e) ∙ no_document es d.uri passed.0 in
          let awaited : (source_row es s).awaited ≡ Some due = ap (λ r. awaited_of r (documents_of s.uri es)) is ∙ ap (awaited_of (Accepted due)) none_came in
          let unlike : same_skeleton d.document due ≡ false = ap (λ x. option_map_or (same_skeleton d.document) x false) (sym awaited) ∙ wrong in
          let row : find_source now d.uri ≡ Some (source_row es s) = row_is d.uri ∙ ap (option_map (source_row es)) e in
          some_then (IsTreeDifference d.uri due d.document) (TreeIn d) tells.0 (λ x h. (due, reading_is d.uri s e ∙ ap Some is, h)) (tells.1 (source_row es s) row due awaited unlike)
      by s e _ is holds wrong = absurd cc

      go : (found : Option Source) → find (of_uri d.uri) (sources es) ≡ found → Found
      go None e =
          let wrong : false ≡ true = ap (λ r. option_map_or (λ (x : SourceRow). x.is_accepted) r false) (sym (row_is d.uri ∙ ap (option_map (source_row es)) e)) ∙ accepted in
          absurd cc
      go (Some s) e =
          let row : find_source now d.uri ≡ Some (source_row es s) = row_is d.uri ∙ ap (option_map (source_row es)) e in
          by s e (reads s.content) refl (ap (λ r. option_map_or (λ (x : SourceRow). x.is_accepted) r false) (sym row) ∙ accepted) (ap (λ r. option_map_or (is_awaited_of d.document) r false) (sym row) ∙ other)

  pickle_of : (p : Pickle) (lines : List ℕ) → fault settings es (envelope.Pickle p) ≡ Some (IsBad bad.PickleDiffers) → lines ≡ pickle_reason_text_by now (es ++ envelope.Pickle p ∷ []) p → IsPickleReason reads es (envelope.Pickle p) lines
  pickle_of p lines why told = go (find (of_uri p.uri) (sources es)) refl
    where
      Found : Type 0
      Found = IsPickleReason reads es (envelope.Pickle p) lines

      upto : List Envelope
      upto = es ++ envelope.Pickle p ∷ []

      known : Bool
      known = has_text p.uri now.declared.sources && has_text p.uri now.declared.documents

      passed : (not known ≡ false) × (not (is_next_by now p) ≡ true)
      passed = pickle_checks (has_run_finished es) (not known) (not (is_next_by now p)) (is_some (pickle_fault now.declared p.id (map (λ x. x.id) p.steps)))
          (findings_are_faults settings es (envelope.Pickle p) none ∙ why)

      some_source : is_some (find (of_uri p.uri) (sources es)) ≡ true
      some_source =
          found_any (of_uri p.uri) (sources es) ∙ sym (list_any-map (bytes_eq p.uri) (λ (s : Source). s.uri) (sources es))
          ∙ both_left (has_text p.uri now.declared.sources) (has_text p.uri now.declared.documents) (yes_by known passed.0)

      by : (s : Source) → find (of_uri p.uri) (sources es) ≡ Some s → lines ≡ pickle_reason_text upto (source_row es s).ids (slice_get (source_row es s).due 0) p → Found
      by s e is =
          let uri = uri_is p.uri s e in
          let ids : (source_row es s).ids ≡ document_ids p.uri es = ap (λ u. document_ids u es) uri in
          let count : length (pickles_of s.uri es) ≡ length (pickles_of p.uri es) = ap (λ u. length (pickles_of u es)) uri in
          let due : slice_get (source_row es s).due 0 ≡ next_pickle p.uri es =
          first_left (due_pickles (Some (reads s.content))) (length (pickles_of s.uri es)) ∙ ap (slice_get (due_pickles (Some (reads s.content)))) count
          ∙ ap (λ r. slice_get (due_pickles r) (length (pickles_of p.uri es))) (sym (reading_is p.uri s e)) in
          record {
            pickle = p;
            is_pickle = refl;
            told = is ∙ (λ i. pickle_reason_text upto (ids i) (due i) p)
                ∙ ap (λ (t : List ℕ). t ++ sides_text (pickle_difference (document_ids p.uri es) (next_pickle p.uri es) p)) (same_line upto es (found_more as_document es (envelope.Pickle p) refl) p.uri (document_ids p.uri es) (next_pickle p.uri es));
          }

      go : (found : Option Source) → find (of_uri p.uri) (sources es) ≡ found → Found
      go None e = let wrong : false ≡ true = ap is_some (sym e) ∙ some_source in absurd cc
      go (Some s) e =
          let row : find_source now p.uri ≡ Some (source_row es s) = row_is p.uri ∙ ap (option_map (source_row es)) e in
          by s e (told ∙ ap (λ (o : Option SourceRow). option_map_or (λ r. pickle_reason_text upto r.ids (slice_get r.due 0) p) o []) row)

  lack_of : (f : TestRunFinished) (lines : List ℕ) → fault settings es (envelope.TestRunFinished f) ≡ Some (IsBad bad.SourceIncomplete) → lines ≡ lack_lines_by now (es ++ envelope.TestRunFinished f ∷ []) → IsLackReason reads es lines
  lack_of f lines why told = go (find (is_incomplete es) (sources es)) refl
    where
      Found : Type 0
      Found = IsLackReason reads es lines

      upto : List Envelope
      upto = es ++ envelope.TestRunFinished f ∷ []

      some_lack : list_any lacks_by now.sources ≡ true
      some_lack =
          lack_checks (has_run_finished es) (is_none now.run) (not (knows_run now f.test_run_started_id)) (not (open_count now.table == 0)) (not (open_hook_count now.declared == 0)) (list_any lacks_by now.sources)
          (not (same_flag f.success (is_well settings.policy now && not f.has_exception)))
          (findings_are_faults settings es (envelope.TestRunFinished f) none ∙ why)

      row_lacks : find lacks_by now.sources ≡ option_map (source_row es) (find (is_incomplete es) (sources es))
      row_lacks = find_map lacks_by (source_row es) (sources es) ∙ ap (λ q. option_map (source_row es) (find q (sources es))) (fun_ext (λ s. same_lack es s (reads s.content)))

      go : (found : Option Source) → find (is_incomplete es) (sources es) ≡ found → Found
      go None e =
          let wrong : false ≡ true = ap is_some (sym (row_lacks ∙ ap (option_map (source_row es)) e)) ∙ found_any lacks_by now.sources ∙ some_lack in
          absurd cc
      go (Some s) e =
          let row : find lacks_by now.sources ≡ Some (source_row es s) = row_lacks ∙ ap (option_map (source_row es)) e in
          record {
            source = s;
            is_first = e;
            told = told ∙ ap (λ (o : Option SourceRow). option_map_or (lack_lines upto) o []) row
                ∙ lack_in upto es (found_more as_document es (envelope.TestRunFinished f) refl) s.uri (reads s.content) (find_passes (is_incomplete es) (sources es) s e);
          }

  -- ---- of any envelope

  tree_reason : (e : Envelope) (lines : List ℕ) → fault settings es e ≡ Some (IsBad bad.TreeDiffers) → TellsAtTree now e lines → IsTreeReason reads es e lines
  tree_reason (envelope.GherkinDocument d) lines why tells = tree_of d lines why tells
  tree_reason e lines why tells = absurd (never is_tree (checks settings es e) (IsBad bad.TreeDiffers) refl refl why)

  pickle_reason : (e : Envelope) (lines : List ℕ) → fault settings es e ≡ Some (IsBad bad.PickleDiffers) → lines ≡ lines_at_pickle now (es ++ e ∷ []) e → IsPickleReason reads es e lines
  pickle_reason (envelope.Pickle p) lines why told = pickle_of p lines why told
  pickle_reason e lines why told = absurd (never is_pickle (checks settings es e) (IsBad bad.PickleDiffers) refl refl why)

  lack_reason : (e : Envelope) (lines : List ℕ) → fault settings es e ≡ Some (IsBad bad.SourceIncomplete) → lines ≡ lack_lines_by now (es ++ e ∷ []) → IsLackReason reads es lines
  lack_reason (envelope.TestRunFinished f) lines why told = lack_of f lines why told
  lack_reason e lines why told = absurd (never is_lack (checks settings es e) (IsBad bad.SourceIncomplete) refl refl why)

  kept_reason : (e : Envelope) (b : StreamFault) (lines : List ℕ) → fault settings es e ≡ Some (IsBad (stream_fault_named b)) → TellsKept now (es ++ e ∷ []) e b lines → IsSourceReason reads es e b lines
  kept_reason e reported.TreeDiffers lines why tells = tree_reason e lines why tells
  kept_reason e reported.PickleDiffers lines why tells = pickle_reason e lines why tells
  kept_reason e reported.SourceIncomplete lines why tells = lack_reason e lines why tells
  kept_reason e _ lines why tells = tells

-- where texts are read by the grammar, they are read in one pass
pub source_reason : (settings : Settings) (s : Summary) (trail : Trail) (before : List Envelope) (e : Envelope) (b : StreamFault) (d : IsDeciding settings s trail before e (IsBad (stream_fault_named b))) (lines : List ℕ)
    → TellsKept s (before ++ e ∷ []) e b lines → IsSourceReason d.read before e b lines
source_reason settings s trail before e b d lines tells =
    let one : d.read ≡ reads = sym (same_reads d.read d.by_the_grammar) in
    let faultless = subst (λ (z : Utf8 → Reading). IsFaultlessBy z settings before) one d.faultless in
    let why = subst (λ (z : Utf8 → Reading). fault_by z settings before e ≡ Some (IsBad (stream_fault_named b))) one d.why in
    let left : s ≡ summary_of_lines settings.first_attempt before = d.left ∙ ap (λ (z : Utf8 → Reading). summary_of_lines_by z settings.first_attempt before) one in
    let kept = subst (λ (z : Summary). TellsKept z (before ++ e ∷ []) e b lines) left tells in
    subst (λ (z : Utf8 → Reading). IsSourceReason z before e b lines) (sym one) (kept_reason settings before faultless e b lines why kept)
