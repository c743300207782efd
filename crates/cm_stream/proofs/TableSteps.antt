-- The table of the lines so far is what their calls leave where the lines have no fault, and it refuses a line for the first
-- failed of the checks that are the call's own.
use Rattle.std.proofs.Common.{◌≡◌, ℕ, refl, sym, ap, ◌∙◌, subst, List, [], ◌∷◌, ◌++◌, append-nil, append_assoc, Some, None}
use Rattle.std.specs.Option.{option_and_then}
use Rattle.std.proofs.lemmas.List.Sums.{fold_push}
use Rattle.cm_attempt.specs.Table.{table_from}
use Rattle.cm_attempt.specs.Calls.{table_after}
use Rattle.cm_attempt.specs.declared.status.Settings.{Settings}
use Rattle.cm_stream.specs.Calls.{calls_of}
use Rattle.cm_stream.specs.Checks.{first_failed}
use Rattle.cm_stream.specs.CallFaults.{call_fault_finding, call_fault_of_envelope, own_checks}
use Rattle.cm_stream.specs.Record.{table_of_envelopes, table_after_envelope}
use Rattle.cm_stream.specs.FaultlessLines.{TableSteps, NoneIsRefusedBy}
use Rattle.cm_stream.specs.ByOnePass.{checks_of, IsFaultless, CallFaultsAre}
use Rattle.cm_stream.specs.OnePass.{reads}
use Rattle.cm_envelope.specs.declared.envelope.Envelope.{Envelope}
use Rattle.cm_stream.proofs.Passing.{Passes, plain_pass, front_of, back_of, none_failed}
use Rattle.cm_stream.proofs.CallChecks.{own_are_checks, faults_are_checks}
use Rattle.cm_stream.proofs.Tables.{refused_for_faults, tables_change}

pub table_steps : TableSteps
table_steps first es e = fold_push table_after_envelope (table_from first) es e

-- ---- the calls of lines without a fault

-- the calls of the lines are accepted, and leave their table
abbrev pub AreAccepted : (first : ℕ) → List Envelope → Type 0
AreAccepted first es = table_after first (calls_of es) ≡ Some (table_of_envelopes first es)

-- a line that passes its checks passes those that its call makes
own_pass : (first : ℕ) (es : List Envelope) (e : Envelope) → Passes (checks_of first es e) → first_failed (own_checks first es e) ≡ None
own_pass first es e h =
    let among = own_are_checks reads first es e in
    let parts : Passes (among.front ++ own_checks first es e ++ among.rest) = subst Passes among.cut h in
    none_failed (own_checks first es e) (back_of among.front (own_checks first es e) (front_of (among.front ++ own_checks first es e) among.rest parts))

one_more : (settings : Settings) (es : List Envelope) (e : Envelope) → IsFaultless settings (es ++ e ∷ []) → AreAccepted settings.first_attempt es → AreAccepted settings.first_attempt (es ++ e ∷ [])
one_more settings es e h accepted =
    let first = settings.first_attempt in
    let own = own_pass first es e (plain_pass settings (es ++ e ∷ []) h es e [] refl).1 in
    tables_change first es (table_of_envelopes first es) accepted e (faults_are_checks first es (table_of_envelopes first es) accepted e ∙ own)
    ∙ ap (λ t. Some t) (sym (table_steps first es e))

pub none_is_refused : NoneIsRefusedBy reads
none_is_refused settings es none = go [] es none refl
  where
    first : ℕ
    first = settings.first_attempt

    go : (done rest : List Envelope) → IsFaultless settings (done ++ rest) → AreAccepted first done → AreAccepted first (done ++ rest)
    go done [] h so_far = subst (AreAccepted first) (sym (append-nil done)) so_far
    go done (e ∷ rest) h so_far =
        let again : IsFaultless settings ((done ++ e ∷ []) ++ rest) = subst (IsFaultless settings) (sym (append_assoc done (e ∷ []) rest)) h in
        let here : IsFaultless settings (done ++ e ∷ []) = λ before x after cut. again before x (after ++ rest) (ap (λ zs. zs ++ rest) cut ∙ append_assoc before (x ∷ after) rest) in
        subst (AreAccepted first) (append_assoc done (e ∷ []) rest) (go (done ++ e ∷ []) rest again (one_more settings done e here so_far))

-- ---- what is refused

pub own_refused : (first : ℕ) (es : List Envelope) (e : Envelope) → AreAccepted first es → option_and_then call_fault_finding (call_fault_of_envelope (table_of_envelopes first es) e) ≡ first_failed (own_checks first es e)
own_refused first es e accepted = refused_for_faults first es (table_of_envelopes first es) accepted e ∙ faults_are_checks first es (table_of_envelopes first es) accepted e

pub call_faults_are_told : (e : Envelope) → CallFaultsAre e
call_faults_are_told e settings es none = own_refused settings.first_attempt es e (none_is_refused settings es none)
