-- The step that the record of attempts has due, after lines without a fault, is what the attempt has to go through next by the lines.
use Rattle.std.proofs.Common.{◌≡◌, ◌∙◌, refl, sym, ap, Bool, true, false, List, [], ◌∷◌, Option, length}
use Rattle.std.specs.Prelude.{slice_get, option_map}
use Rattle.std.specs.Option.{option_and_then}
use Rattle.cm_attempt.specs.Calls as call
use Rattle.cm_attempt.specs.Calls.{Call, Move, all_moves}
use Rattle.cm_attempt.specs.Due.{due_at, due_of, due_step}
use Rattle.cm_attempt.specs.Table.{Table, Utf8}
use Rattle.cm_attempt.specs.declared.track.Cursor.{Cursor}
use Rattle.cm_attempt.specs.declared.status.Settings.{Settings}
use Rattle.cm_attempt.proofs.Accepted.{its_steps, tracked}
use Rattle.cm_attempt.proofs.Growing.{at_end}
use Rattle.cm_attempt.proofs.NextCall.{steps_are}
use Rattle.cm_attempt.proofs.Standing.{Stands, between, inside, left_is, over, rest_of}
use Rattle.cm_attempt.proofs.Tracked.{AttemptIs, Tracked, begun, unstarted}
use Rattle.cm_envelope.specs.declared.envelope.Envelope.{Envelope}
use Rattle.cm_stream.specs.ByOnePass.{IsFaultless}
use Rattle.cm_stream.specs.Calls.{calls_of}
use Rattle.cm_stream.specs.Record.{table_of_envelopes}
use Rattle.cm_stream.proofs.CallWords.{attempt_steps_told, moves_told}
use Rattle.cm_stream.proofs.TableSteps.{none_is_refused}
use Rattle.cm_fault_reasons.specs.NextMove.{next_step, step_in}

step_left : (steps : List Utf8) (ms : List Move) (rs : List Bool) (o : Option Cursor) → (st : Stands steps ms rs o) → option_and_then (λ c. due_of c steps) o ≡ option_and_then step_in (slice_get (rest_of steps ms rs o st) 0)
step_left steps ms rs o (between done [] a b c d) =
    ap (option_and_then (λ (k : Cursor). due_of k steps)) d ∙ ap (λ z. option_map (λ step. record { step = step; is_running = false }) (slice_get z (length done))) a ∙ ap (option_map (λ step. record { step = step; is_running = false })) (at_end done [])
step_left steps ms rs o (between done (x ∷ more) a b c d) =
    ap (option_and_then (λ (k : Cursor). due_of k steps)) d ∙ ap (λ z. option_map (λ step. record { step = step; is_running = false }) (slice_get z (length done))) a ∙ ap (option_map (λ step. record { step = step; is_running = false })) (at_end done (x ∷ more))
step_left steps ms rs o (inside done x more a b c d) =
    ap (option_and_then (λ (k : Cursor). due_of k steps)) d ∙ ap (λ z. option_map (λ step. record { step = step; is_running = true }) (slice_get z (length done))) a ∙ ap (option_map (λ step. record { step = step; is_running = true })) (at_end done (x ∷ more))
step_left steps ms rs o (over r a b c) = ap (option_and_then (λ (k : Cursor). due_of k steps)) c

-- what an attempt has to go through next, by the calls
abbrev next_in : List Call → Utf8 → Option Move
next_in calls a = slice_get (all_moves (call.steps_of_attempt a calls)) (length (call.moves a calls))

left_next : (calls : List Call) (a : Utf8) (steps : List Utf8) (rs : List Bool) (o : Option Cursor) → (st : Stands steps (call.moves a calls) rs o) → call.steps_of_attempt a calls ≡ steps → next_in calls a ≡ slice_get (rest_of steps (call.moves a calls) rs o st) 0
left_next calls a steps rs o st same =
    ap (λ z. slice_get z (length (call.moves a calls))) (ap all_moves same ∙ left_is steps (call.moves a calls) rs o st)
    ∙ at_end (call.moves a calls) (rest_of steps (call.moves a calls) rs o st)

due_by_row : (calls : List Call) (t : Table) → Tracked calls t → (a : Utf8) → AttemptIs calls t a → due_step t a ≡ option_and_then step_in (next_in calls a)
due_by_row calls t h a (unstarted n u) = rw (n, u.moves) refl
due_by_row calls t h a (begun row f b) =
    ap (option_and_then (due_at t)) f
    ∙ ap (λ steps. option_and_then (λ (k : Cursor). due_of k steps) row.cursor) (steps_are calls t a row b)
    ∙ step_left b.its_case.steps (call.moves a calls) (call.ends_of a calls) row.cursor b.stands
    ∙ sym (ap (option_and_then step_in) (left_next calls a b.its_case.steps (call.ends_of a calls) row.cursor b.stands (its_steps calls t h a row b)))

pub due_same : (settings : Settings) (es : List Envelope) → IsFaultless settings es → (attempt : Utf8) → due_step (table_of_envelopes settings.first_attempt es) attempt ≡ next_step attempt es
due_same settings es none attempt =
    let t = table_of_envelopes settings.first_attempt es in
    let h = tracked settings.first_attempt (calls_of es) t (none_is_refused settings es none) in
    due_by_row (calls_of es) t h attempt (h.of_attempts attempt)
    ∙ (λ i. option_and_then step_in (slice_get (all_moves (attempt_steps_told attempt es i)) (length (moves_told attempt es i))))
