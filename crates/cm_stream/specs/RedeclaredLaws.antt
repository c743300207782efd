-- What a good stream says of its own envelopes, where hooks and step definitions may be declared again.
use Rattle.std.specs.Prelude.{◌≡◌, ◌<◌, ℕ, Bool, true, false, List, []}
use Rattle.std.specs.List.{AllByRecursion}
use Rattle.cm_attempt.specs.declared.status.Settings.{Settings}
use Rattle.cm_envelope.specs.declared.envelope.Envelope.{Envelope}
use Rattle.cm_stream.specs.Good.{Everywhere}
use Rattle.cm_stream.specs.Redeclared.{judged_after}
use Rattle.cm_stream.specs.References.{Name, Definition, HookNamed, refers, times_declared}
use Rattle.cm_stream.specs.Stream.{IsGoodRun, envelopes}
use Rattle.cm_stream.specs.declared.laws.Counts.{Counts}

-- hooks and step definitions may be declared again where the settings allow it
abbrev pub may_be_redeclared : Settings → Name → Bool
may_be_redeclared settings (HookNamed id) = settings.allows_redeclared
may_be_redeclared settings (Definition id) = settings.allows_redeclared
may_be_redeclared settings _ = false

-- a name that may be declared again is declared so often, or one that may not be
abbrev pub AreEnough : (may_be_again : Bool) → (times : ℕ) → Type 0
AreEnough true times = 0 < times
AreEnough false times = times ≡ 1

-- these envelopes declare the name exactly once, or, where it may be declared again, at least once
abbrev pub IsDeclared : Settings → List Envelope → Name → Type 0
IsDeclared settings before name =
    AreEnough (may_be_redeclared settings name) (times_declared name before)

-- Each reference of a good stream's envelopes, as they stand in its lines, names something that earlier ones declare so.
abbrev pub ReferencesDeclared : Type 0
ReferencesDeclared =
    (settings : Settings) (bytes : List ℕ) (counts : Counts) (success : Bool)
    (run : IsGoodRun settings bytes counts success)
    → Everywhere (λ before e after. AllByRecursion (IsDeclared settings before) (refers before e))
    (envelopes run.read.lines)

-- where nothing may be declared again, the envelopes are judged as they are
abbrev pub NothingIsPassedOver : Type 0
NothingIsPassedOver =
    (settings : Settings) (es : List Envelope) → settings.allows_redeclared ≡ false
    → judged_after settings [] es ≡ es
