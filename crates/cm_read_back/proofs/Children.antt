-- The children of a feature and of a rule are read by kind.
use Rattle.std.proofs.Common.{◌≡◌, ℕ, List, [], ◌∷◌, ◌++◌, Bool, true, false, map, Option, Some, None, refl, sym, ap, ◌∙◌, append-nil, codes}
use Rattle.std.specs.Prelude.{option_map, nat_le}
use Rattle.serde_json.specs.Data.{Data, no_items, item}
use Rattle.serde_json.specs.View.{items_of}
use Rattle.gk_document.specs.declared.tree.Background.{Background}
use Rattle.gk_document.specs.declared.tree.Scenario.{Scenario}
use Rattle.gk_document.specs.declared.tree.Rule.{Rule}
use Rattle.cm_messages.specs.DocumentLayout.{background_data, scenario_data, scenario_child, children_data, rule_data, rule_child}
use Rattle.cm_envelope.specs.Documents.{children_of, background_in, are_in_order}

-- ---- their order

rules_after : (n : ℕ) → nat_le n 2 ≡ true → (rs : List Rule) → are_in_order true n (items_of (map rule_child rs)) ≡ true
rules_after n h [] = refl
rules_after n h (r ∷ rs) = rw (h, rules_after 2 refl rs) refl

scenarios_after : (in_feature : Bool) (n : ℕ) → nat_le n 1 ≡ true → (more : List Data) → are_in_order in_feature n (items_of more) ≡ true → are_in_order in_feature 1 (items_of more) ≡ true →
    (ss : List Scenario) → are_in_order in_feature n (items_of (map scenario_child ss ++ more)) ≡ true
scenarios_after in_feature n h more here later [] = here
scenarios_after true n h more here later (s ∷ ss) = rw (h, scenarios_after true 1 refl more later later ss) refl
scenarios_after false n h more here later (s ∷ ss) = rw (h, scenarios_after false 1 refl more later later ss) refl

pub feature_in_order : (b : Option Background) (ss : List Scenario) (rs : List Rule) → are_in_order true 0 (items_of (children_data b ss ++ map rule_child rs)) ≡ true
feature_in_order None ss rs = scenarios_after true 0 refl (map rule_child rs) (rules_after 0 refl rs) (rules_after 1 refl rs) ss
feature_in_order (Some b) ss rs = scenarios_after true 1 refl (map rule_child rs) (rules_after 1 refl rs) (rules_after 1 refl rs) ss

rule_in_order_more : (b : Option Background) (ss : List Scenario) → are_in_order false 0 (items_of (children_data b ss ++ [])) ≡ true
rule_in_order_more None ss = scenarios_after false 0 refl [] refl refl ss
rule_in_order_more (Some b) ss = scenarios_after false 1 refl [] refl refl ss

pub rule_in_order : (b : Option Background) (ss : List Scenario) → are_in_order false 0 (items_of (children_data b ss)) ≡ true
rule_in_order b ss = ap (λ ds. are_in_order false 0 (items_of ds)) (sym (append-nil (children_data b ss))) ∙ rule_in_order_more b ss

-- ---- the background

background_of : (ss : List Scenario) (rs : List Rule) → background_in (items_of (map scenario_child ss ++ map rule_child rs)) ≡ None
background_of [] [] = refl
background_of [] (r ∷ rs) = refl
background_of (s ∷ ss) rs = refl

pub feature_background : (b : Option Background) (ss : List Scenario) (rs : List Rule) → background_in (items_of (children_data b ss ++ map rule_child rs)) ≡ option_map background_data b
feature_background None ss rs = background_of ss rs
feature_background (Some b) ss rs = refl

pub rule_background : (b : Option Background) (ss : List Scenario) → background_in (items_of (children_data b ss)) ≡ option_map background_data b
rule_background b ss = ap (λ ds. background_in (items_of ds)) (sym (append-nil (children_data b ss))) ∙ feature_background b ss []

-- ---- the scenarios

no_scenarios : (rs : List Rule) → children_of (codes "scenario") (items_of (map rule_child rs)) ≡ no_items
no_scenarios [] = refl
no_scenarios (r ∷ rs) = no_scenarios rs

scenarios_of : (ss : List Scenario) (rs : List Rule) → children_of (codes "scenario") (items_of (map scenario_child ss ++ map rule_child rs)) ≡ items_of (map scenario_data ss)
scenarios_of [] rs = no_scenarios rs
scenarios_of (s ∷ ss) rs = ap (item (scenario_data s)) (scenarios_of ss rs)

pub feature_scenarios : (b : Option Background) (ss : List Scenario) (rs : List Rule) → children_of (codes "scenario") (items_of (children_data b ss ++ map rule_child rs)) ≡ items_of (map scenario_data ss)
feature_scenarios None ss rs = scenarios_of ss rs
feature_scenarios (Some b) ss rs = scenarios_of ss rs

pub rule_scenarios : (b : Option Background) (ss : List Scenario) → children_of (codes "scenario") (items_of (children_data b ss)) ≡ items_of (map scenario_data ss)
rule_scenarios b ss = ap (λ ds. children_of (codes "scenario") (items_of ds)) (sym (append-nil (children_data b ss))) ∙ feature_scenarios b ss []

-- ---- the rules

rules_of_rules : (rs : List Rule) → children_of (codes "rule") (items_of (map rule_child rs)) ≡ items_of (map rule_data rs)
rules_of_rules [] = refl
rules_of_rules (r ∷ rs) = ap (item (rule_data r)) (rules_of_rules rs)

rules_of : (ss : List Scenario) (rs : List Rule) → children_of (codes "rule") (items_of (map scenario_child ss ++ map rule_child rs)) ≡ items_of (map rule_data rs)
rules_of [] rs = rules_of_rules rs
rules_of (s ∷ ss) rs = rules_of ss rs

pub feature_rules : (b : Option Background) (ss : List Scenario) (rs : List Rule) → children_of (codes "rule") (items_of (children_data b ss ++ map rule_child rs)) ≡ items_of (map rule_data rs)
feature_rules None ss rs = rules_of ss rs
feature_rules (Some b) ss rs = rules_of ss rs
