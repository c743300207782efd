-- In lines without a fault each source is accepted or refused, and each run hook that ended was started.
use Rattle.std.proofs.Common.{◌≡◌, ◌∙◌, refl, sym, ap, subst, Bool, true, false, not, ◌==◌, List, [], ◌∷◌, ◌++◌, Some, ◌⊎◌, inl, inr}
use Rattle.std.specs.Prelude.{find, is_some}
use Rattle.std.specs.List.{AllByRecursion, list_any}
use Rattle.std.specs.Str.{bytes_eq}
use Rattle.std.proofs.lemmas.List.Elements.{filter_map-append}
use Rattle.std.proofs.lemmas.Bool.{not-false}
use Rattle.cm_envelope.specs.declared.envelope.Envelope.{Envelope}
use Rattle.cm_envelope.specs.declared.envelope.Envelope.TheVariants as envelope
use Rattle.cm_envelope.specs.declared.envelope.Source.{Source}
use Rattle.cm_envelope.specs.declared.envelope.TestRunHookFinished.{TestRunHookFinished}
use Rattle.cm_envelope.specs.declared.envelope.TestRunHookStarted.{TestRunHookStarted}
use Rattle.cm_stream.specs.Checks.{is_other_language, is_too_long, refers_to_unknown}
use Rattle.cm_stream.specs.Good.{IsAccepted}
use Rattle.cm_stream.specs.OnePass.{reads}
use Rattle.cm_stream.specs.Readings.{Reading, Accepted, Refused, OtherLanguage, TooLong, IsReading}
use Rattle.cm_stream.specs.References.{RunHook, as_run_hook, as_run_hook_end, as_source, run_hook_ends, run_hooks, sources, times_declared}
use Rattle.cm_stream.proofs.ByGrammar.{by_the_grammar}
use Rattle.cm_stream.proofs.Declared.{declares_run_hook, known, source_is}
use Rattle.cm_stream.proofs.Found.{each_found}
use Rattle.cm_stream.proofs.Lists.{found_any, found_more, or_no}
use Rattle.cm_stream.proofs.OnePass.{is_read}
use Rattle.cm_stream.proofs.Passing.{AllPass, LinePasses, no_unknown, plain_passes}
use Rattle.cm_causes.specs.Laws.{EndsAreKnown, FaultlessAreKnown, FaultlessAreKnownBy}
use Rattle.cm_causes.proofs.CauseLists.{any_more}

-- a text that is neither too long nor in another language
accepted_or_refused : (s : Source) → is_too_long (reads s.content) ≡ false → is_other_language (reads s.content) ≡ false → IsAccepted s ⊎ IsReading s.content Refused
accepted_or_refused s = go (reads s.content) (is_read s.content)
  where
    go : (r : Reading) → IsReading s.content r → is_too_long r ≡ false → is_other_language r ≡ false → IsAccepted s ⊎ IsReading s.content Refused
    go (Accepted d) i long other = inl (d, i)
    go Refused i long other = inr i
    go OtherLanguage i long other = let never : ⊥ = cc in absurd never
    go TooLong i long other = let never : ⊥ = cc in absurd never

at_source : (before : List Envelope) (s : Source) → LinePasses before (envelope.Source s) → IsAccepted s ⊎ IsReading s.content Refused
at_source before s h = accepted_or_refused s h.passes.1.1.0 h.passes.1.1.1.0

known_sources : (es : List Envelope) → AllPass es → AllByRecursion (λ s. IsAccepted s ⊎ IsReading s.content Refused) (sources es)
known_sources es pass =
    each_found as_source (λ s. IsAccepted s ⊎ IsReading s.content Refused) es
    (λ front here back s cut is. at_source front s (subst (LinePasses front) (source_is here s is) (pass front here back cut)))

end_is : (e : Envelope) (f : TestRunHookFinished) → as_run_hook_end e ≡ Some f → e ≡ envelope.TestRunHookFinished f
end_is (envelope.TestRunHookFinished y) f h = cc
end_is _ f h = cc

-- the run hook of an end
abbrev its_start : TestRunHookFinished → TestRunHookStarted → Bool
its_start f s = bytes_eq f.test_run_hook_started_id s.id

at_end : (before : List Envelope) (f : TestRunHookFinished) → LinePasses before (envelope.TestRunHookFinished f) → list_any (its_start f) (run_hooks before) ≡ true
at_end before f h =
    let id = f.test_run_hook_started_id in
    let unknown : refers_to_unknown before (envelope.TestRunHookFinished f) ≡ false = no_unknown before (envelope.TestRunHookFinished f) h in
    let k = known (RunHook id) as_run_hook (its_start f) (declares_run_hook id) before in
    let there : not (is_some (find (its_start f) (run_hooks before))) ≡ false = sym k.0 ∙ sym (or_no (times_declared (RunHook id) before == 0)) ∙ unknown in
    sym (found_any (its_start f) (run_hooks before)) ∙ not-false (is_some (find (its_start f) (run_hooks before))) there

known_ends : (es : List Envelope) → AllPass es → AllByRecursion (λ f. list_any (its_start f) (run_hooks es) ≡ true) (run_hook_ends es)
known_ends es pass =
    each_found as_run_hook_end (λ f. list_any (its_start f) (run_hooks es) ≡ true) es
    (λ front here back f cut is.
    ap (λ xs. list_any (its_start f) (run_hooks xs)) cut
    ∙ ap (list_any (its_start f)) (filter_map-append as_run_hook front (here ∷ back))
    ∙ any_more (its_start f) (run_hooks front) (run_hooks (here ∷ back)) (at_end front f (subst (LinePasses front) (end_is here f is) (pass front here back cut))))

pub faultless_known : FaultlessAreKnownBy reads
faultless_known settings es h =
    let pass = plain_passes settings es h in
    record { each_source = known_sources es pass; each_end = known_ends es pass }

pub faultless_are_known : FaultlessAreKnown
faultless_are_known = by_the_grammar FaultlessAreKnownBy faultless_known

pub ends_are_known : EndsAreKnown
ends_are_known es f h =
    let e = envelope.TestRunFinished f in
    let same_sources : sources es ≡ sources (es ++ e ∷ []) = sym (found_more as_source es e refl) in
    let same_ends : run_hook_ends es ≡ run_hook_ends (es ++ e ∷ []) = sym (found_more as_run_hook_end es e refl) in
    let same_hooks : run_hooks es ≡ run_hooks (es ++ e ∷ []) = sym (found_more as_run_hook es e refl) in
    record {
      each_source = subst (AllByRecursion (λ (s : Source). IsAccepted s ⊎ IsReading s.content Refused)) same_sources h.each_source;
      each_end = subst (λ (hs : List TestRunHookStarted). AllByRecursion (λ (x : TestRunHookFinished). list_any (its_start x) hs ≡ true) (run_hook_ends (es ++ e ∷ []))) same_hooks
          (subst (AllByRecursion (λ (x : TestRunHookFinished). list_any (its_start x) (run_hooks es) ≡ true)) same_ends h.each_end);
    }
