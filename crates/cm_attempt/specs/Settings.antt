-- By what a stream is judged where nothing but the policy is asked for.
use Rattle.std.specs.Prelude.{false}
use Rattle.cm_attempt.specs.declared.status.Policy.{Policy}
use Rattle.cm_attempt.specs.declared.status.Settings.{Settings}

-- the policy, attempts counted from 0, and nothing declared again
abbrev pub settings_of : Policy → Settings
settings_of policy =
    record { policy = policy; first_attempt = 0; allows_redeclared = false }
