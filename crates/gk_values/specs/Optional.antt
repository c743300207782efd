-- A member that may be absent, of an object that is there.
use Rattle.std.specs.Prelude.{ℕ, List, Option}
use Rattle.serde_json.specs.Data.{Data, object}
use Rattle.cm_messages.specs.Layout.{put_some}

abbrev pub with_some : List ℕ → Option Data → Data → Data
with_some name value (object ms) = object (put_some name value ms)
with_some name value d = d
