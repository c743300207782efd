-- What it says of each line that it passes its checks.
use Rattle.std.proofs.Common.{◌≡◌, ℕ, refl, sym, ap, ◌∙◌, List, [], ◌∷◌, ◌++◌, Some, None, true, false, Bool, ◌&&◌, append_assoc, append-nil, subst}
use Rattle.std.specs.List.{AllByRecursion}
use Rattle.cm_stream.specs.Checks.{Check, first_failed, refers_to_unknown}
use Rattle.cm_attempt.specs.declared.status.Policy.{Policy}
use Rattle.cm_attempt.specs.declared.status.Settings.{Settings}
use Rattle.cm_stream.specs.References.{is_judged, has_run_finished}
use Rattle.cm_stream.specs.ByOnePass.{checks_of, success_check, plain_checks, checks, IsFaultless, HasNoFault}
use Rattle.cm_envelope.specs.declared.envelope.Envelope.{Envelope}
use Rattle.cm_envelope.specs.declared.envelope.Envelope.TheVariants as envelope

abbrev pub Passes : List Check → Type 0
Passes cs = AllByRecursion (λ (c : Check). c.fails ≡ false) cs

pub passed : (cs : List Check) → first_failed cs ≡ None → Passes cs
passed [] h = tt
passed (c ∷ cs) h = go c.fails refl (passed cs)
  where
    go : (b : Bool) → c.fails ≡ b → (first_failed cs ≡ None → Passes cs) → Passes (c ∷ cs)
    go true e rec = let no : Some c.finding ≡ None = rw e at h in cc
    go false e rec = let rest : first_failed cs ≡ None = rw e at h in (e, rec rest)

pub none_failed : (cs : List Check) → Passes cs → first_failed cs ≡ None
none_failed [] h = refl
none_failed (c ∷ cs) h = rw (h.0) (none_failed cs h.1)

-- the line passes its checks, where the attempts of a case are numbered from some number
pub record LinePasses (before : List Envelope) (e : Envelope) : Type 0 where
  pub first : ℕ
  pub inside : (is_judged e && has_run_finished before) ≡ false
  pub passes : Passes (checks_of first before e)

-- each line passes its checks
abbrev pub AllPass : List Envelope → Type 0
AllPass es = (before : List Envelope) (e : Envelope) (after : List Envelope) → es ≡ before ++ e ∷ after → LinePasses before e

-- the checks before others, and those after
pub front_of : (cs ds : List Check) → Passes (cs ++ ds) → Passes cs
front_of [] ds h = tt
front_of (c ∷ cs) ds h = (h.0, front_of cs ds h.1)

pub back_of : (cs ds : List Check) → Passes (cs ++ ds) → Passes ds
back_of [] ds h = h
back_of (c ∷ cs) ds h = back_of cs ds h.1

pub both_pass : (cs ds : List Check) → Passes cs → Passes ds → Passes (cs ++ ds)
both_pass [] ds h k = k
both_pass (c ∷ cs) ds h k = (h.0, both_pass cs ds h.1 k)

-- the checks that are made whatever statuses are good, and the last one
pub plain_pass : (settings : Settings) (es : List Envelope) → IsFaultless settings es → (before : List Envelope) (e : Envelope) (after : List Envelope) → es ≡ before ++ e ∷ after → Passes (plain_checks settings.first_attempt before e)
plain_pass settings es h before e after cut = front_of (plain_checks settings.first_attempt before e) (success_check settings.policy before e) (passed (checks settings before e) (h before e after cut))

pub plain_passes : (settings : Settings) (es : List Envelope) → IsFaultless settings es → AllPass es
plain_passes settings es h before e after cut =
    let all = plain_pass settings es h before e after cut in
    record { first = settings.first_attempt; inside = all.0; passes = all.1 }

-- each line passes the check on success
abbrev pub SuccessPasses : Policy → List Envelope → Type 0
SuccessPasses policy es = (before : List Envelope) (e : Envelope) (after : List Envelope) → es ≡ before ++ e ∷ after → Passes (success_check policy before e)

pub success_passes : (settings : Settings) (es : List Envelope) → HasNoFault settings es → SuccessPasses settings.policy es
success_passes settings es h before e after cut = back_of (plain_checks settings.first_attempt before e) (success_check settings.policy before e) (passed (checks settings before e) (h.lines before e after cut))

pub front_passes : (xs ys : List Envelope) → AllPass (xs ++ ys) → AllPass xs
front_passes xs ys h before e after cut = h before e (after ++ ys) (ap (λ zs. zs ++ ys) cut ∙ append_assoc before (e ∷ after) ys)

pub last_passes : (xs : List Envelope) (e : Envelope) → AllPass (xs ++ e ∷ []) → LinePasses xs e
last_passes xs e h = h xs e [] refl

-- what a line that passes leaves true holds of all
pub by_lines : (P : List Envelope → Type 0) → P [] → ((xs : List Envelope) (e : Envelope) → AllPass (xs ++ e ∷ []) → P xs → P (xs ++ e ∷ [])) → (es : List Envelope) → AllPass es → P es
by_lines P start step es pass = go [] es pass start
  where
    go : (done rest : List Envelope) → AllPass (done ++ rest) → P done → P (done ++ rest)
    go done [] h p = subst P (sym (append-nil done)) p
    go done (e ∷ rest) h p =
        let again : AllPass ((done ++ e ∷ []) ++ rest) = subst AllPass (sym (append_assoc done (e ∷ []) rest)) h in
        subst P (append_assoc done (e ∷ []) rest) (go (done ++ e ∷ []) rest again (step done e (front_passes (done ++ e ∷ []) rest again) p))

pub no_unknown : (before : List Envelope) (e : Envelope) → LinePasses before e → refers_to_unknown before e ≡ false
no_unknown before (envelope.Source s) h = refl
no_unknown before (envelope.GherkinDocument d) h = h.passes.0
no_unknown before (envelope.ParseError p) h = h.passes.0
no_unknown before (envelope.Pickle p) h = h.passes.0
no_unknown before (envelope.StepDefinition d) h = refl
no_unknown before (envelope.Hook x) h = refl
no_unknown before (envelope.TestCase c) h = h.passes.0
no_unknown before (envelope.TestRunStarted r) h = refl
no_unknown before (envelope.TestCaseStarted s) h = (h.passes.1).0
no_unknown before (envelope.TestStepStarted s) h = h.passes.0
no_unknown before (envelope.TestStepFinished s) h = h.passes.0
no_unknown before (envelope.TestCaseFinished f) h = h.passes.0
no_unknown before (envelope.TestRunFinished f) h = (h.passes.1).0
no_unknown before (envelope.Attachment a) h = h.passes.0
no_unknown before (envelope.TestRunHookStarted s) h = (h.passes.1).0
no_unknown before (envelope.TestRunHookFinished f) h = h.passes.0
no_unknown before envelope.Other h = refl
