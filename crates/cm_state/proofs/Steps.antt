-- What is kept of the lines so far changes by a line as an audit changes it.
use Rattle.std.proofs.Common.{◌≡◌, ℕ, refl, ap, ◌∙◌, List, [], ◌∷◌, ◌++◌, Option, Some, None, true, false, Bool, ◌||◌, map}
use Rattle.std.specs.List.{filter_map}
use Rattle.std.specs.Option.{option_map}
use Rattle.std.proofs.lemmas.List.Folds.{list_any-append}
use Rattle.cm_refs.specs.Declarations.{Declarations}
use Rattle.cm_stream.specs.Texts.{Utf8}
use Rattle.cm_stream.specs.References.{as_source, as_document, as_pickle, as_case, as_run_hook_end, sources, pickles, cases, is_run_finished, has_run_finished, says_success, run_succeeded}
use Rattle.cm_stream.specs.Record.{table_after_envelope}
use Rattle.cm_envelope.specs.declared.envelope.Envelope.{Envelope}
use Rattle.cm_envelope.specs.declared.envelope.Envelope.TheVariants as envelope
use Rattle.cm_envelope.specs.declared.envelope.Source.{Source}
use Rattle.cm_envelope.specs.declared.envelope.GherkinDocument.{GherkinDocument}
use Rattle.cm_envelope.specs.declared.envelope.TestCase.{TestCase}
use Rattle.cm_envelope.specs.declared.envelope.TestRunStarted.{TestRunStarted}
use Rattle.cm_stream.proofs.Passing.{LinePasses, AllPass, plain_passes, last_passes}
use Rattle.cm_stream.proofs.TableSteps.{table_steps}
use Rattle.cm_state.specs.Summary.{SourceRow, Summary, as_definition, as_hook, as_run, first_of, pickle_row, declarations_in, with_name, with_ids, one_more, change_source}
use Rattle.cm_state.specs.ByOnePass.{summary_of_lines, new_source, summary_after_line}
use Rattle.cm_stream.specs.OnePass.{reads}
use Rattle.cm_stream.proofs.ByGrammar.{by_the_grammar}
use Rattle.cm_state.specs.Laws.{SummariesStep, SummariesStepBy}
use Rattle.cm_state.proofs.OneMore.{push_if, found_after, map_after}
use Rattle.cm_state.proofs.Rows.{rows, other_rows, source_rows, document_rows, pickle_rows}
use Rattle.cm_state.proofs.RunHooks.{hook_rows_after, hook_rows_step, hooks_worst_after, hooks_worst_step}
use Rattle.cm_state.proofs.Unrun.{named_by, one_more_named}
use Rattle.cm_state.proofs.Tests.{no_run}
use Rattle.cm_stream.proofs.Lists.{or_no, found_more, found_push}

-- ---- each of what is kept

abbrev declared_after : Declarations → Envelope → Declarations
declared_after d e = record {
  sources = push_if d.sources (option_map (λ s. s.uri) (as_source e));
  documents = push_if d.documents (option_map (λ x. x.uri) (as_document e));
  pickles = push_if d.pickles (option_map pickle_row (as_pickle e));
  definitions = push_if d.definitions (as_definition e);
  hooks = push_if d.hooks (as_hook e);
  run_hooks = hook_rows_after d.run_hooks e;
}

declared_step : (es : List Envelope) (e : Envelope) → AllPass (es ++ e ∷ []) → declarations_in (es ++ e ∷ []) ≡ declared_after (declarations_in es) e
declared_step es e h = λ i. record {
  sources = (ap (map (λ (s : Source). s.uri)) (found_after as_source es e) ∙ map_after (λ (s : Source). s.uri) (sources es) (as_source e)) i;
  documents = (ap (map (λ (d : GherkinDocument). d.uri)) (found_after as_document es e) ∙ map_after (λ (d : GherkinDocument). d.uri) (filter_map as_document es) (as_document e)) i;
  pickles = (ap (map pickle_row) (found_after as_pickle es e) ∙ map_after pickle_row (pickles es) (as_pickle e)) i;
  definitions = found_after as_definition es e i;
  hooks = found_after as_hook es e i;
  run_hooks = hook_rows_step es e h i;
}

abbrev rows_after : List SourceRow → Envelope → List SourceRow
rows_after rs (envelope.Source s) = rs ++ new_source s ∷ []
rows_after rs (envelope.GherkinDocument d) = change_source d.uri (with_ids d.ids) rs
rows_after rs (envelope.Pickle p) = change_source p.uri one_more rs
rows_after rs _ = rs

rows_step : (es : List Envelope) (e : Envelope) → AllPass (es ++ e ∷ []) → rows (es ++ e ∷ []) ≡ rows_after (rows es) e
rows_step es (envelope.Source s) h = source_rows es s h
rows_step es (envelope.GherkinDocument d) h = document_rows es d h
rows_step es (envelope.Pickle p) h = pickle_rows es p h
rows_step es e h = other_rows es e refl refl refl

abbrev named_after : List Utf8 → Option TestCase → List Utf8
named_after names None = names
named_after names (Some c) = with_name names c.pickle_id

named_step : (es : List Envelope) (e : Envelope) → named_by (cases (es ++ e ∷ [])) ≡ named_after (named_by (cases es)) (as_case e)
named_step es e = ap named_by (found_after as_case es e) ∙ go (as_case e)
  where
    go : (o : Option TestCase) → named_by (push_if (cases es) o) ≡ named_after (named_by (cases es)) o
    go None = refl
    go (Some c) = one_more_named (cases es) c

abbrev run_after : Option TestRunStarted → Option TestRunStarted → Option TestRunStarted
run_after run None = run
run_after run (Some r) = Some r

run_step : (es : List Envelope) (e : Envelope) → LinePasses es e → first_of (filter_map as_run (es ++ e ∷ [])) ≡ run_after (first_of (filter_map as_run es)) (as_run e)
run_step es (envelope.TestRunStarted r) h = ap first_of (found_push as_run es (envelope.TestRunStarted r) r refl ∙ ap (λ rs. rs ++ r ∷ []) (no_run es h.passes.0))
run_step es e h = ap first_of (found_more as_run es e refl)

abbrev finished_after : Bool → (is_end : Bool) → Bool
finished_after b true = true
finished_after b false = b

finished_step : (es : List Envelope) (e : Envelope) → has_run_finished (es ++ e ∷ []) ≡ finished_after (has_run_finished es) (is_run_finished e)
finished_step es e = list_any-append is_run_finished es (e ∷ []) ∙ go (has_run_finished es) (is_run_finished e)
  where
    go : (a b : Bool) → (a || (b || false)) ≡ finished_after a b
    go true true = refl
    go true false = refl
    go false true = refl
    go false false = refl

abbrev success_after : Bool → Envelope → Bool
success_after b (envelope.TestRunFinished f) = f.success
success_after b _ = b

-- before the run finishes no success is said
none_said : (es : List Envelope) → has_run_finished es ≡ false → run_succeeded es ≡ false
none_said [] h = refl
none_said (envelope.TestRunFinished f ∷ es) h = cc
none_said (_ ∷ es) h = none_said es h

success_step : (es : List Envelope) (e : Envelope) → LinePasses es e → run_succeeded (es ++ e ∷ []) ≡ success_after (run_succeeded es) e
success_step es (envelope.TestRunFinished f) h =
    list_any-append says_success es (envelope.TestRunFinished f ∷ []) ∙ ap (λ b. b || (f.success || false)) (none_said es h.inside) ∙ or_no f.success
success_step es e h = list_any-append says_success es (e ∷ []) ∙ or_no (run_succeeded es)

-- ---- all of it

abbrev kept_after : Summary → Envelope → Summary
kept_after s e = record {
  declared = declared_after s.declared e;
  table = table_after_envelope s.table e;
  sources = rows_after s.sources e;
  named = named_after s.named (as_case e);
  run = run_after s.run (as_run e);
  is_finished = finished_after s.is_finished (is_run_finished e);
  success = success_after s.success e;
  hooks_worst = hooks_worst_after s.hooks_worst (as_run_hook_end e);
}

after_is : (s : Summary) (e : Envelope) → kept_after s e ≡ summary_after_line s e
after_is s (envelope.Source x) = refl
after_is s (envelope.GherkinDocument d) = refl
after_is s (envelope.Pickle p) = refl
after_is s (envelope.StepDefinition d) = refl
after_is s (envelope.Hook h) = refl
after_is s (envelope.TestCase c) = refl
after_is s (envelope.TestRunStarted r) = refl
after_is s (envelope.TestCaseStarted x) = refl
after_is s (envelope.TestRunHookStarted x) = refl
after_is s (envelope.TestRunHookFinished f) = refl
after_is s (envelope.TestRunFinished f) = refl
after_is s e = refl

pub summaries_step : SummariesStepBy reads
summaries_step settings es e none = all ∙ after_is (summary_of_lines first es) e
  where
    first : ℕ
    first = settings.first_attempt

    h : AllPass (es ++ e ∷ [])
    h = plain_passes settings (es ++ e ∷ []) none

    all : summary_of_lines first (es ++ e ∷ []) ≡ kept_after (summary_of_lines first es) e
    all = λ i. record {
      declared = declared_step es e h i;
      table = table_steps first es e i;
      sources = rows_step es e h i;
      named = named_step es e i;
      run = run_step es e (last_passes es e h) i;
      is_finished = finished_step es e i;
      success = success_step es e (last_passes es e h) i;
      hooks_worst = hooks_worst_step es e i;
    }

pub summaries_step_law : SummariesStep
summaries_step_law = by_the_grammar SummariesStepBy summaries_step
