-- A step in order is one of the steps.
use Rattle.std.proofs.Common.{◌≡◌, if◌then◌else◌, refl, ℕ, zero, suc, Bool, true, false, List, [], ◌∷◌, ◌&&◌, not, Option, None, Some}
use Rattle.std.proofs.lemmas.Bool.{or_right}
use Rattle.std.specs.Prelude.{slice_get}
use Rattle.std.specs.Option.{option_map_or}
use Rattle.std.specs.Str.{bytes_eq}
use Rattle.cm_attempt.specs.Table.{Utf8, has_text, is_next, may_finish, may_start, step_fault_of}
use Rattle.cm_attempt.specs.declared.track.Cursor.{Cursor}

and_second : (a b : Bool) → (a && b) ≡ true → b ≡ true
and_second true b h = h
and_second false b h = cc

known_at : (step : Utf8) (steps : List Utf8) (n : ℕ) → option_map_or (bytes_eq step) (slice_get steps n) false ≡ true → has_text step steps ≡ true
known_at step [] n h = cc
known_at step (s ∷ steps) zero h = rw h refl
known_at step (s ∷ steps) (suc n) h = or_right (bytes_eq step s) (has_text step steps) (known_at step steps n h)

in_order : (known ordered : Bool) → ordered ≡ true → known ≡ true → step_fault_of known ordered ≡ None
in_order known ordered o k = rw (k, o) refl

-- a step that may start isn't refused
pub start_passes : (step : Utf8) (cursor : Option Cursor) (steps : List Utf8) → may_start step cursor steps ≡ true → step_fault_of (has_text step steps) (may_start step cursor steps) ≡ None
start_passes step None steps h = cc
start_passes step (Some c) steps h = in_order (has_text step steps) (may_start step (Some c) steps) h (known_at step steps c.finished (and_second (not c.is_running) (is_next c steps step) h))

-- nor one that may finish
pub finish_passes : (step : Utf8) (cursor : Option Cursor) (steps : List Utf8) → may_finish step cursor steps ≡ true → step_fault_of (has_text step steps) (may_finish step cursor steps) ≡ None
finish_passes step None steps h = cc
finish_passes step (Some c) steps h = in_order (has_text step steps) (may_finish step (Some c) steps) h (known_at step steps c.finished (and_second c.is_running (is_next c steps step) h))

pub chosen : (b : Bool) (o : Option Cursor) (next : Cursor) → (if b then o else None) ≡ Some next → b ≡ true
chosen true o next e = refl
chosen false o next e = cc
