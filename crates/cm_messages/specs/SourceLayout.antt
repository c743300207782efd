-- What is written for a source (Cucumber Messages, `Source.json`).
use Rattle.std.specs.Prelude.{ℕ, List, [], ◌∷◌, codes}
use Rattle.serde_json.specs.Data.{Data, string}
use Rattle.cm_messages.specs.Layout.{object_of}

-- the source's line
unfoldable pub source_data : List ℕ → List ℕ → Data
source_data uri text = object_of ((
  codes "source",
  object_of ((codes "data", string text)
      ∷ (codes "mediaType", string (codes "text/x.cucumber.gherkin+plain"))
      ∷ (codes "uri", string uri) ∷ []),
) ∷ [])
