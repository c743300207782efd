-- The steps of pickles are the document's, in its order.
use Rattle.std.specs.Prelude.{◌≡◌, ⊤, ℕ, List, [], ◌∷◌, ◌++◌, map, Option, Some, None}
use Rattle.std.specs.List.{flat_map, AllByRecursion}
use Rattle.gk_document.specs.declared.tree.Step.{Step}
use Rattle.gk_document.specs.declared.tree.Background.{Background}
use Rattle.gk_document.specs.declared.tree.Scenario.{Scenario}
use Rattle.gk_document.specs.declared.tree.Rule.{Rule}
use Rattle.gk_document.specs.declared.tree.Feature.{Feature}
use Rattle.gk_document.specs.declared.tree.Document.{Document}
use Rattle.gk_pickle.specs.declared.pickles.Pickle.{Pickle}
use Rattle.gk_pickle.specs.Pickles.{background_steps, pickles}

-- the steps of a background and of the scenarios that follow it
abbrev pub steps_under : Option Background → List Scenario → List Step
steps_under background scenarios = background_steps background ++ flat_map (λ s. s.steps) scenarios

abbrev pub rule_steps : Rule → List Step
rule_steps r = steps_under r.background r.scenarios

abbrev pub feature_steps : Feature → List Step
feature_steps f = steps_under f.background f.scenarios ++ flat_map rule_steps f.rules

-- all steps of a document, in its order
abbrev pub document_steps : Option Feature → List Step
document_steps None = []
document_steps (Some f) = feature_steps f

-- each of the first steps is in the others after the one before it
abbrev pub IsSubsequence : List Step → List Step → Type 0
IsSubsequence [] all = ⊤
IsSubsequence (s ∷ ss) all =
    (before rest : List Step) × (all ≡ before ++ s ∷ rest) × IsSubsequence ss rest

-- the node that a step of a pickle names first
abbrev pub first_node : List ℕ → Option ℕ
first_node [] = None
first_node (node ∷ others) = Some node

-- the steps of a pickle name, one by one, steps that are in these in order
abbrev pub ComesFrom : List Step → Pickle → Type 0
ComesFrom all p =
    (steps : List Step) × IsSubsequence steps all
    × (map (λ s. first_node s.nodes) p.steps ≡ map (λ s. Some s.node) steps)

abbrev pub StepsInDocumentOrder : Type 0
StepsInDocumentOrder =
    (d : Document) → AllByRecursion (ComesFrom (document_steps d.feature)) (pickles d)
