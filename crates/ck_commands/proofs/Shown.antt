-- The bytes that a source shows to come.
use Rattle.std.proofs.Common.{◌≡◌, ◌∙◌, ◌++◌, [], ℕ, List, Option, Some, None, refl, sym, ap, subst}
use Rattle.std.specs.Io.KnownBytes.{Consumes, IsAtEnd}
use Rattle.cm_envelope.specs.Device.{Input, OfWhole, Output}
use Rattle.cm_attempt.specs.declared.status.Settings.{Settings}
use Rattle.cm_stream.specs.Release.{Conditions, IsReleasedStream}
use Rattle.ck_commands.specs.Gate.{PrintsReleased}
use Rattle.ck_commands.specs.Laws.{ShownAreHeard, ShownAreReported}
use Rattle.ck_commands.specs.Run.{Reports, Tells}
use Rattle.ck_commands.specs.Standard.{GaveReleased}

split : (old new : Option (List ℕ)) (read bytes : List ℕ) → Consumes old new read → old ≡ Some bytes → (rest : List ℕ) × (new ≡ Some rest) × (bytes ≡ read ++ rest)
split None new read bytes k is = cc
split (Some xs) None read bytes k is = absurd k
split (Some xs) (Some ys) read bytes k is =
    let same : bytes ≡ xs = cc in
    (ys, refl, same ∙ k)

pub shown_are_heard : ShownAreHeard
shown_are_heard before after read bytes heard ends is =
    let parts = split before.to_come after.to_come read bytes heard.shown is in
    (parts.0, parts.1, parts.2, λ over. subst IsAtEnd parts.1 (heard.ends ends over))

pub shown_are_reported : ShownAreReported
shown_are_reported c r before after bytes ends is = (
  λ h.
      let parts = shown_are_heard before after h.0 bytes h.1 ends is in
      subst (λ (l : List ℕ). Reports c l r) (sym parts.2) (h.2 parts.0 parts.3),
  λ h.
      let parts = shown_are_heard before after h.0 bytes h.1 ends is in
      (parts.0, parts.1, subst (λ (l : List ℕ). Tells c l parts.0 r) (sym parts.2) (h.2 parts.0 parts.3)),
)

-- the bytes heard of a source from its first call on
pub gave_released : (settings : Settings) (asked : Conditions) (i j : Input) (before after : Output) → i.heard ≡ [] → OfWhole i j (PrintsReleased settings asked before after) → GaveReleased settings asked j
gave_released settings asked i j before after new h =
    let all : j.heard ≡ h.0 = h.1.heard ∙ ap (λ l. l ++ h.0) new in
    (h.2, (h.3.0, h.3.1, subst (λ l. IsReleasedStream settings asked l h.3.0 h.3.1) (sym all) h.3.2))
