-- What is told where a run says of its success what isn't so.
use Rattle.std.proofs.Common.{◌≡◌, ◌∙◌, refl, sym, ap, List, [], ◌∷◌, ◌++◌, None, Some, Bool, true, false, not, ◌&&◌, ⊎_elim}
use Rattle.std.specs.Prelude.{◌↔◌}
use Rattle.std.specs.List.{AllByRecursion}
use Rattle.std.proofs.lemmas.Bool.{cases_Bool}
use Rattle.cm_attempt.specs.declared.status.Policy.{Policy}
use Rattle.cm_envelope.specs.declared.envelope.Envelope.{Envelope}
use Rattle.cm_envelope.specs.declared.envelope.Envelope.TheVariants as envelope
use Rattle.cm_envelope.specs.declared.envelope.TestRunFinished.{TestRunFinished}
use Rattle.cm_stream.specs.ByOnePass.{all_well, plain_checks}
use Rattle.cm_stream.specs.Checks.{Check, first_failed, same_flag, ◌if◌}
use Rattle.cm_stream.specs.Findings.{Finding, IsBad, SuccessDiffers}
use Rattle.cm_stream.specs.Good.{AllWell}
use Rattle.cm_stream.specs.OnePass.{reads}
use Rattle.cm_stream.proofs.ByGrammar.{by_the_grammar}
use Rattle.cm_stream.proofs.Ends.{EndsRun, same_well}
use Rattle.cm_stream.proofs.Readings.{success_is}
use Rattle.cm_causes.specs.Laws.{TruthIsTold, TruthIsToldBy}
use Rattle.cm_causes.proofs.Known.{ends_are_known, faultless_known}
use Rattle.cm_causes.proofs.NothingFailed.{nothing_failed_law}

-- a finding that no check before the last one has is that of the last
last_fails : (cs : List Check) (c : Check) (x : Finding) → AllByRecursion (λ (d : Check). d.finding ≡ x → ⊥) cs → first_failed (cs ++ c ∷ []) ≡ Some x → c.fails ≡ true
last_fails [] c x others h = ⊎_elim (λ yes. yes) (λ no. let none : None ≡ Some x = rw no at h in let never : ⊥ = cc in absurd never) (cases_Bool c.fails)
last_fails (d ∷ ds) c x others h =
    ⊎_elim (λ yes. let its : Some d.finding ≡ Some x = rw yes at h in let same : d.finding ≡ x = cc in absurd (others.0 same))
    (λ no. let later : first_failed (ds ++ c ∷ []) ≡ Some x = rw no at h in last_fails ds c x others.1 later) (cases_Bool d.fails)

-- all is well by what one pass makes of the texts
well_is : (policy : Policy) (es : List Envelope) (f : TestRunFinished) → ((all_well policy es && not f.has_exception) ≡ true) ↔ AllWell policy es f
well_is policy es f =
    let said : TestRunFinished = record f { success = all_well policy es && not f.has_exception } in
    let k = success_is policy es said refl in (
      (λ h. let w = k.0 h in record { each_case = w.each_case; each_hook = w.each_hook; each_source = w.each_source; no_exception = w.no_exception }),
      (λ w. k.1 (record { each_case = w.each_case; each_hook = w.each_hook; each_source = w.each_source; no_exception = w.no_exception })),
    )

not_said : (success well : Bool) → not (same_flag success well) ≡ true → well ≡ true → success ≡ false
not_said true true h w = cc
not_said true false h w = cc
not_said false well h w = refl

is_so : (success well : Bool) → not (same_flag success well) ≡ true → success ≡ false → well ≡ true
is_so true well h s = cc
is_so false true h s = refl
is_so false false h s = cc

truth_is_told : TruthIsToldBy reads
truth_is_told settings es f text faultless fault told =
    let e = envelope.TestRunFinished f in
    let upto = es ++ e ∷ [] in
    let run : EndsRun upto es f [] = record { cut = refl; none = refl } in
    let before : Bool = all_well settings.policy es && not f.has_exception in
    let same : (all_well settings.policy upto && not f.has_exception) ≡ before = ap (λ b. b && not f.has_exception) (same_well upto es f [] run settings.policy) in
    let law = nothing_failed_law settings.policy upto f text (ends_are_known es f (faultless_known settings es faultless)) told in
    let well = well_is settings.policy upto f in
    let differs : not (same_flag f.success before) ≡ true =
    last_fails (plain_checks settings.first_attempt es e) (SuccessDiffers if not (same_flag f.success before)) (IsBad SuccessDiffers)
    ((λ h. cc), ((λ h. cc), ((λ h. cc), ((λ h. cc), ((λ h. cc), ((λ h. cc), tt)))))) fault in
    ((λ h. not_said f.success before differs (sym same ∙ well.1 (law.0 h))), (λ h. law.1 (well.0 (same ∙ is_so f.success before differs h))))

pub truth_is_told_law : TruthIsTold
truth_is_told_law = by_the_grammar TruthIsToldBy truth_is_told
