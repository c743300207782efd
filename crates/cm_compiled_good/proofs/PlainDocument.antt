-- What is written of a document is plain.
use Rattle.std.proofs.Common.{ℕ, List, [], ◌∷◌, map, Option, Some, None, IsUtf8, refl}
use Rattle.std.specs.List.{AllByRecursion}
use Rattle.std.specs.Option.{option_to_list}
use Rattle.json.proofs.Printed.Utf8.{IsUtf8-are_ascii}
use Rattle.serde_json.specs.Data.{Data}
use Rattle.serde_json.specs.View.{items_of}
use Rattle.gk_document.specs.declared.tree.Background.{Background}
use Rattle.gk_document.specs.declared.tree.ExampleTable.{ExampleTable}
use Rattle.gk_document.specs.declared.tree.Examples.{Examples}
use Rattle.gk_document.specs.declared.tree.Scenario.{Scenario}
use Rattle.gk_document.specs.declared.tree.Rule.{Rule}
use Rattle.gk_document.specs.declared.tree.Feature.{Feature}
use Rattle.gk_document.specs.declared.tree.Document.{Document}
use Rattle.cm_messages.specs.DocumentLayout.{comment_data, background_data, examples_data, scenario_data, background_child, scenario_child, children_data, rule_data, rule_child, feature_data, document_data}
use Rattle.cm_read_back.specs.Values.{IsPlain, ItemsArePlain}
use Rattle.cm_compiled_good.proofs.Clean.{CommentOk}
use Rattle.cm_compiled_good.proofs.Compiling.{all_joined, all_mapped}
use Rattle.cm_compiled_good.proofs.Fine.{clean, BackgroundOf, ExamplesOf, ScenarioOf, RuleOf, FeatureOf}
use Rattle.cm_compiled_good.proofs.Plain.{decimal_utf8, items_plain}
use Rattle.cm_compiled_good.proofs.PlainSteps.{place_plain, row_plain, tags_plain, rows_plain, comment_plain, steps_plain}

-- ---- blocks

background_plain : (b : Background) → BackgroundOf clean (Some b) → IsPlain (background_data b)
background_plain b h = (
  IsUtf8-are_ascii _ refl,
  h.4,
  (
    IsUtf8-are_ascii _ refl,
    decimal_utf8 b.node,
    (IsUtf8-are_ascii _ refl, h.2, (IsUtf8-are_ascii _ refl, place_plain b.location h.1, (IsUtf8-are_ascii _ refl, h.3, (IsUtf8-are_ascii _ refl, steps_plain b.steps h.5, tt)))),
  ),
)

examples_at : (e : Examples) (t : Option ExampleTable) → ExamplesOf clean (record e { table = t }) → IsPlain (examples_data (record e { table = t }))
examples_at e None h = (
  IsUtf8-are_ascii _ refl,
  h.5,
  (
    IsUtf8-are_ascii _ refl,
    decimal_utf8 e.node,
    (
      IsUtf8-are_ascii _ refl,
      h.3,
      (IsUtf8-are_ascii _ refl, place_plain e.location h.2, (IsUtf8-are_ascii _ refl, h.4, (IsUtf8-are_ascii _ refl, tt, (IsUtf8-are_ascii _ refl, tags_plain e.tags h.0, tt)))),
    ),
  ),
)
examples_at e (Some t) h =
    let table = h.6 in (
      IsUtf8-are_ascii _ refl,
      h.5,
      (
        IsUtf8-are_ascii _ refl,
        decimal_utf8 e.node,
        (
          IsUtf8-are_ascii _ refl,
          h.3,
          (
            IsUtf8-are_ascii _ refl,
            place_plain e.location h.2,
            (
              IsUtf8-are_ascii _ refl,
              h.4,
              (IsUtf8-are_ascii _ refl, rows_plain t.body table.1, (IsUtf8-are_ascii _ refl, row_plain t.header table.0, (IsUtf8-are_ascii _ refl, tags_plain e.tags h.0, tt))),
            ),
          ),
        ),
      ),
    )

examples_plain : (e : Examples) → ExamplesOf clean e → IsPlain (examples_data e)
examples_plain e h = examples_at e e.table h

scenario_plain : (s : Scenario) → ScenarioOf clean s → IsPlain (scenario_data s)
scenario_plain s h = (
  IsUtf8-are_ascii _ refl,
  h.5,
  (
    IsUtf8-are_ascii _ refl,
    items_plain (ExamplesOf clean) examples_data examples_plain s.examples h.7,
    (
      IsUtf8-are_ascii _ refl,
      decimal_utf8 s.node,
      (
        IsUtf8-are_ascii _ refl,
        h.3,
        (
          IsUtf8-are_ascii _ refl,
          place_plain s.location h.2,
          (IsUtf8-are_ascii _ refl, h.4, (IsUtf8-are_ascii _ refl, steps_plain s.steps h.6, (IsUtf8-are_ascii _ refl, tags_plain s.tags h.0, tt))),
        ),
      ),
    ),
  ),
)

-- ---- children

all_items : (ds : List Data) → AllByRecursion IsPlain ds → ItemsArePlain (items_of ds)
all_items [] h = tt
all_items (d ∷ ds) h = (h.0, all_items ds h.1)

backgrounds_plain : (b : Option Background) → BackgroundOf clean b → AllByRecursion IsPlain (map background_child (option_to_list b))
backgrounds_plain None h = tt
backgrounds_plain (Some b) h = ((IsUtf8-are_ascii _ refl, background_plain b h, tt), tt)

scenario_child_plain : (s : Scenario) → ScenarioOf clean s → IsPlain (scenario_child s)
scenario_child_plain s h = (IsUtf8-are_ascii _ refl, scenario_plain s h, tt)

children_plain : (b : Option Background) (ss : List Scenario) → BackgroundOf clean b → AllByRecursion (ScenarioOf clean) ss → AllByRecursion IsPlain (children_data b ss)
children_plain b ss h k =
    all_joined IsPlain (map background_child (option_to_list b)) (map scenario_child ss) (backgrounds_plain b h) (all_mapped (ScenarioOf clean) IsPlain scenario_child scenario_child_plain ss k)

rule_plain : (r : Rule) → RuleOf clean r → IsPlain (rule_data r)
rule_plain r h = (
  IsUtf8-are_ascii _ refl,
  all_items (children_data r.background r.scenarios) (children_plain r.background r.scenarios h.6 h.7),
  (
    IsUtf8-are_ascii _ refl,
    h.5,
    (
      IsUtf8-are_ascii _ refl,
      decimal_utf8 r.node,
      (IsUtf8-are_ascii _ refl, h.3, (IsUtf8-are_ascii _ refl, place_plain r.location h.2, (IsUtf8-are_ascii _ refl, h.4, (IsUtf8-are_ascii _ refl, tags_plain r.tags h.0, tt)))),
    ),
  ),
)

rule_child_plain : (r : Rule) → RuleOf clean r → IsPlain (rule_child r)
rule_child_plain r h = (IsUtf8-are_ascii _ refl, rule_plain r h, tt)

feature_plain : (f : Feature) → FeatureOf clean (Some f) → IsPlain (feature_data f)
feature_plain f h = (
  IsUtf8-are_ascii _ refl,
  all_items _
      (all_joined IsPlain (children_data f.background f.scenarios) (map rule_child f.rules) (children_plain f.background f.scenarios h.6 h.7) (all_mapped (RuleOf clean) IsPlain rule_child rule_child_plain f.rules h.8)),
  (
    IsUtf8-are_ascii _ refl,
    h.4,
    (
      IsUtf8-are_ascii _ refl,
      h.2,
      (IsUtf8-are_ascii _ refl, h.5, (IsUtf8-are_ascii _ refl, place_plain f.location h.1, (IsUtf8-are_ascii _ refl, h.3, (IsUtf8-are_ascii _ refl, tags_plain f.tags h.0, tt)))),
    ),
  ),
)

document_at : (uri : List ℕ) (d : Document) (f : Option Feature) → IsUtf8 uri → FeatureOf clean f → AllByRecursion CommentOk d.comments → IsPlain (document_data uri (record d { feature = f }))
unfolding document_data
document_at uri d None u h k =
    (IsUtf8-are_ascii _ refl, (IsUtf8-are_ascii _ refl, items_plain CommentOk comment_data comment_plain d.comments k, (IsUtf8-are_ascii _ refl, u, tt)), tt)
document_at uri d (Some f) u h k = (
  IsUtf8-are_ascii _ refl,
  (
    IsUtf8-are_ascii _ refl,
    items_plain CommentOk comment_data comment_plain d.comments k,
    (IsUtf8-are_ascii _ refl, feature_plain f h, (IsUtf8-are_ascii _ refl, u, tt)),
  ),
  tt,
)

pub document_plain : (uri : List ℕ) (d : Document) → IsUtf8 uri → FeatureOf clean d.feature → AllByRecursion CommentOk d.comments → IsPlain (document_data uri d)
document_plain uri d u h k = document_at uri d d.feature u h k
