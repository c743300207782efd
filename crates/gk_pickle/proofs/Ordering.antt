-- The steps of pickles are the document's, in its order.
use Rattle.std.proofs.Common.{◌≡◌, ℕ, List, [], ◌∷◌, ◌++◌, map, Option, Some, None, refl, sym, ap, ◌∙◌, subst, append_assoc}
use Rattle.std.specs.List.{flat_map, AllByRecursion}
use Rattle.std.proofs.lemmas.List.{map-append}
use Rattle.gk_document.specs.declared.tree.KeywordType.{KeywordType}
use Rattle.gk_document.specs.declared.tree.Tag.{Tag}
use Rattle.gk_document.specs.declared.tree.Step.{Step}
use Rattle.gk_document.specs.declared.tree.Row.{Row}
use Rattle.gk_document.specs.declared.tree.ExampleTable.{ExampleTable}
use Rattle.gk_document.specs.declared.tree.Examples.{Examples}
use Rattle.gk_document.specs.declared.tree.Scenario.{Scenario}
use Rattle.gk_document.specs.declared.tree.Rule.{Rule}
use Rattle.gk_document.specs.declared.tree.Feature.{Feature}
use Rattle.gk_pickle.specs.declared.pickles.PickleStep.{PickleStep}
use Rattle.gk_pickle.specs.Inheritance.{Inheritance, Filling, no_filling}
use Rattle.gk_pickle.specs.Steps.{steps_after, keyword_types, pickle_steps}
use Rattle.gk_pickle.specs.Pickles.{pickle_of, row_filling, table_pickles, examples_pickles, outline_pickles, scenario_pickles, background_steps, in_feature, in_rule, rule_pickles, pickles_in, pickles}
use Rattle.gk_pickle.specs.Order.{rule_steps, document_steps, IsSubsequence, first_node, ComesFrom, StepsInDocumentOrder}

pub front : (xs ys all : List Step) → IsSubsequence (xs ++ ys) all → IsSubsequence xs all
front [] ys all h = tt
front (x ∷ xs) ys all h = (h.0, h.1, h.2, front xs ys h.1 h.3)

pub same : (xs : List Step) → IsSubsequence xs xs
same [] = tt
same (x ∷ xs) = ([], xs, refl, same xs)

pub later : (before xs all : List Step) → IsSubsequence xs all → IsSubsequence xs (before ++ all)
later before [] all h = tt
later before (x ∷ xs) all h = (before ++ h.0, h.1, ap (λ l. before ++ l) h.2 ∙ sym (append_assoc before h.0 (x ∷ h.1)), h.3)

past : (before xs all : List Step) → IsSubsequence (before ++ xs) all → IsSubsequence xs all
past [] xs all h = h
past (b ∷ bs) xs all h =
    let P : List Step → Type 0 = IsSubsequence xs in
    subst P (append_assoc h.0 (b ∷ []) h.1 ∙ sym h.2) (later (h.0 ++ b ∷ []) xs h.1 (past bs xs h.1 h.3))

pub through : (xs ys all : List Step) → IsSubsequence xs ys → IsSubsequence ys all → IsSubsequence xs all
through [] ys all h k = tt
through (x ∷ xs) ys all h k =
    let P : List Step → Type 0 = λ l. IsSubsequence l all in
    let here : IsSubsequence (x ∷ h.1) all = past h.0 (x ∷ h.1) all (subst P h.2 k) in
    (here.0, here.1, here.2, through xs h.1 here.1 h.3 here.3)

pub kept : (xs ys zs : List Step) → IsSubsequence ys zs → IsSubsequence (xs ++ ys) (xs ++ zs)
kept [] ys zs h = h
kept (x ∷ xs) ys zs h = ([], xs ++ zs, refl, kept xs ys zs h)

module _ {A : Type 0} (P : A → Type 0) where
  pub of_parts : (xs ys : List A) → AllByRecursion P xs → AllByRecursion P ys → AllByRecursion P (xs ++ ys)
  of_parts [] ys h k = k
  of_parts (x ∷ xs) ys h k = (h.0, of_parts xs ys h.1 k)

  of_map : {X : Type 0} (f : X → A) (xs : List X) → ((x : X) → P (f x)) → AllByRecursion P (map f xs)
  of_map f [] h = tt
  of_map f (x ∷ xs) h = (h x, of_map f xs h)

  of_flat_map : {X : Type 0} (f : X → List A) (xs : List X) → ((x : X) → AllByRecursion P (f x)) → AllByRecursion P (flat_map f xs)
  of_flat_map f [] h = tt
  of_flat_map f (x ∷ xs) h = of_parts (f x) (flat_map f xs) (h x) (of_flat_map f xs h)

abbrev named : PickleStep → Option ℕ
named s = first_node s.nodes

abbrev node : Step → Option ℕ
node s = Some s.node

abbrev own_steps : Scenario → List Step
own_steps s = s.steps

nodes_of : (k : List KeywordType) (f : Filling) (xs : List Step) → map named (steps_after k f xs) ≡ map node xs
nodes_of k f [] = refl
nodes_of k f (x ∷ xs) = ap (λ l. node x ∷ l) (nodes_of (k ++ x.kind ∷ []) f xs)

from_steps : (background own all : List Step) (f : Filling) → IsSubsequence (background ++ own) all
    → (steps : List Step) × IsSubsequence steps all × (map named (pickle_steps background f own) ≡ map node steps)
from_steps background [] all f h = ([], tt, refl)
from_steps background (s ∷ ss) all f h = (
  background ++ s ∷ ss,
  h,
  map-append named (steps_after [] no_filling background) (steps_after (keyword_types background) f (s ∷ ss))
      ∙ ap (λ l. l ++ map named (steps_after (keyword_types background) f (s ∷ ss))) (nodes_of [] no_filling background)
      ∙ ap (λ l. map node background ++ l) (nodes_of (keyword_types background) f (s ∷ ss))
      ∙ sym (map-append node background (s ∷ ss)),
)

module _ (inherited : Inheritance) (s : Scenario) (all : List Step) (h : IsSubsequence (inherited.steps ++ s.steps) all) where
  from_pickle : (tags : List Tag) (f : Filling) → ComesFrom all (pickle_of inherited s tags f)
  from_pickle tags f = from_steps inherited.steps s.steps all f h

  from_table : (tags : List Tag) (table : Option ExampleTable) → AllByRecursion (ComesFrom all) (table_pickles inherited s tags table)
  from_table tags None = tt
  from_table tags (Some table) = of_map (ComesFrom all) (λ (row : Row). pickle_of inherited s tags (row_filling table.header row)) table.body (λ row. from_pickle tags (row_filling table.header row))

  from_outline : (blocks : List Examples) → AllByRecursion (ComesFrom all) (outline_pickles inherited s blocks)
  from_outline [] = (from_pickle [] no_filling, tt)
  from_outline (e ∷ es) = of_flat_map (ComesFrom all) (examples_pickles inherited s) (e ∷ es) (λ block. from_table block.tags block.table)

from_scenarios : (inherited : Inheritance) (ss : List Scenario) (all : List Step) → IsSubsequence (inherited.steps ++ flat_map own_steps ss) all
    → AllByRecursion (ComesFrom all) (flat_map (scenario_pickles inherited) ss)
from_scenarios inherited [] all h = tt
from_scenarios inherited (s ∷ ss) all h =
    let before = inherited.steps in
    let rest = flat_map own_steps ss in
    of_parts (ComesFrom all) (scenario_pickles inherited s) (flat_map (scenario_pickles inherited) ss)
    (from_outline inherited s all (through (before ++ s.steps) (before ++ (s.steps ++ rest)) all (kept before s.steps (s.steps ++ rest) (front s.steps rest (s.steps ++ rest) (same (s.steps ++ rest)))) h) s.examples)
    (from_scenarios inherited ss all (through (before ++ rest) (before ++ (s.steps ++ rest)) all (kept before rest (s.steps ++ rest) (later s.steps rest rest (same rest))) h))

from_rules : (f : Feature) (rs : List Rule) (all : List Step) → IsSubsequence (background_steps f.background ++ flat_map rule_steps rs) all
    → AllByRecursion (ComesFrom all) (flat_map (rule_pickles f) rs)
from_rules f [] all h = tt
from_rules f (r ∷ rs) all h =
    let before = background_steps f.background in
    let inner = background_steps r.background in
    let own = flat_map own_steps r.scenarios in
    let rest = flat_map rule_steps rs in
    let P : List Step → Type 0 = λ l. IsSubsequence l all in
    of_parts (ComesFrom all) (rule_pickles f r) (flat_map (rule_pickles f) rs)
    (from_scenarios (in_rule f r) r.scenarios all
    (subst P (sym (append_assoc before inner own))
    (through (before ++ (inner ++ own)) (before ++ ((inner ++ own) ++ rest)) all (kept before (inner ++ own) ((inner ++ own) ++ rest) (front (inner ++ own) rest ((inner ++ own) ++ rest) (same ((inner ++ own) ++ rest)))) h)))
    (from_rules f rs all (through (before ++ rest) (before ++ ((inner ++ own) ++ rest)) all (kept before rest ((inner ++ own) ++ rest) (later (inner ++ own) rest rest (same rest))) h))

from_feature : (o : Option Feature) → AllByRecursion (ComesFrom (document_steps o)) (pickles_in o)
from_feature None = tt
from_feature (Some f) =
    let before = background_steps f.background in
    let own = flat_map own_steps f.scenarios in
    let rules = flat_map rule_steps f.rules in
    let all = (before ++ own) ++ rules in
    let P : List Step → Type 0 = λ l. IsSubsequence (before ++ rules) l in
    of_parts (ComesFrom all) (flat_map (scenario_pickles (in_feature f)) f.scenarios) (flat_map (rule_pickles f) f.rules)
    (from_scenarios (in_feature f) f.scenarios all (front (before ++ own) rules all (same all)))
    (from_rules f f.rules all (subst P (sym (append_assoc before own rules)) (kept before rules (own ++ rules) (later own rules rules (same rules)))))

pub steps_in_document_order : StepsInDocumentOrder
unfolding pickles
steps_in_document_order d = from_feature d.feature
