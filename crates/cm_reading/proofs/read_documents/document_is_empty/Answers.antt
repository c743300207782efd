use Rattle.std.proofs.Common.{◌≡◌, ◌≤◌, List, [], ◌∷◌, length, false, refl, arith}
use Rattle.serde_json.specs.View.{items_view}
use Rattle.serde_json.specs.declared.value.Value.{Value}
use Rattle.cm_envelope.specs.Documents.{is_empty}
use Rattle.cm_reading.proofs.read_documents.document_is_empty.Goals as goal

some_items : (vs : List Value) → 1 ≤ length vs → false ≡ is_empty (items_view vs)
some_items [] some = absurd (omega (arith, some))
some_items (v ∷ vs) some = refl

pub returns-in-len1-up : goal.returns-in-len1-up
returns-in-len1-up c = some_items c.args.values.now (omega arith)
