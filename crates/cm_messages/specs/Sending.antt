-- What a value sends to a serializer.
use Rattle.std.specs.Prelude.{◌≡◌, ℕ, List, Option, Some, None}
use Rattle.serde.specs.Event.{Log, Logs, field_key}
use Rattle.serde.specs.declared.name.Case.TheVariants.{AsIs}
use Rattle.serde_json.specs.Data.{Data}
use Rattle.serde_json.specs.Events.{SendsValue}

-- a member of an object: its name, and then its value
abbrev pub SendsMember : List ℕ → Data → Log → Log → Type 0
SendsMember name d old new =
    (named : Log) × Logs old named (field_key name AsIs) × SendsValue d named new

-- a member that may be absent
abbrev pub SendsOptional : List ℕ → Option Data → Log → Log → Type 0
SendsOptional name None old new = new ≡ old
SendsOptional name (Some d) old new = SendsMember name d old new

-- how many values there are
abbrev pub option_count : {A : Type 0} → Option A → ℕ
option_count None = 0
option_count (Some x) = 1
