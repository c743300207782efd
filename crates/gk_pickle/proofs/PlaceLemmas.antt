-- What is left of the pickles of a document, from place to place.
use Rattle.std.proofs.Common.{◌≡◌, ◌∙◌, ℕ, ◌+◌, ◌-◌, ◌<◌, ◌≤◌, ◌⊎◌, inl, inr, List, [], ◌∷◌, ◌++◌, Option, Some, None, ap, sym, refl, drop, get_or, length, map, option_map, suc, true, false, is_some, Bool, nat_lt, arith}
use Rattle.std.proofs.lemmas.List.{at_drop_all, drop_more}
use Rattle.std.proofs.lemmas.Option.{get_or_from_slice_get, slice_get-map, slice_get_cases, slice_get_read, slice_get_within}
use Rattle.std.proofs.lemmas.Bool.{ltb-true}
use Rattle.std.specs.List.{flat_map, drop-map, slice_get}
use Rattle.gk_document.specs.declared.tree.Tag.{Tag}
use Rattle.gk_document.specs.declared.tree.Row.{Row}
use Rattle.gk_document.specs.declared.tree.ExampleTable.{ExampleTable}
use Rattle.gk_document.specs.declared.tree.Examples.{Examples}
use Rattle.gk_document.specs.declared.tree.Scenario.{Scenario}
use Rattle.gk_document.specs.declared.tree.Rule.{Rule}
use Rattle.gk_document.specs.declared.tree.Feature.{Feature}
use Rattle.gk_pickle.specs.Inheritance.{Inheritance}
use Rattle.gk_pickle.specs.Pickles.{pickle_of, row_filling, examples_pickles, outline_pickles, scenario_pickles, rule_pickles, pickles_in}
use Rattle.gk_pickle.specs.Rest.{IsNext, from_block, from_row, from_scenario, group_pickles, groups, inherited_at, of_outline, rest_in, rest_of_group, rest_of_scenario, scenarios_at}
use Rattle.gk_pickle.specs.Spot.{Group, Spot, spot_pickle}

-- the next value of a list that is made of another
pub next_made : {X Y : Type 0} (f : X → Y) (xs : List X) (i : ℕ) (x : X) (v : Y) → i < length xs → x ≡ get_or xs i x → v ≡ f x
    → drop i (map f xs) ≡ v ∷ drop (i + 1) (map f xs)
next_made f xs i x v l e is =
    drop-map f i xs ∙ ap (map f) (drop_more xs i x l ∙ ap (λ y. y ∷ drop (i + 1) xs) (sym e))
    ∙ ap (λ y. y ∷ map f (drop (i + 1) xs)) (sym is) ∙ ap (λ ys. v ∷ ys) (sym (drop-map f (i + 1) xs))

-- the next pickle of a block's table
pub next_row : (inherited : Inheritance) (s : Scenario) (e : Examples) (table : ExampleTable) (rows : List Row) (i : ℕ) (row : Row) (tags : List Tag)
    → e.table ≡ Some table → rows ≡ table.body → i < length rows → row ≡ get_or rows i row → tags ≡ e.tags
    → drop i (examples_pickles inherited s e) ≡ pickle_of inherited s tags (row_filling table.header row) ∷ drop (i + 1) (examples_pickles inherited s e)
next_row inherited s e table rows i row tags is same l at are =
    rw (is, are) (rw (← same) (next_made (λ (row : Row). pickle_of inherited s e.tags (row_filling table.header row)) rows i row _ l at refl))

-- a scenario from its first row on
pub whole_scenario : (inherited : Inheritance) (s : Scenario) → rest_of_scenario inherited s 0 0 ≡ scenario_pickles inherited s
whole_scenario inherited s = go s.examples
  where
    go : (es : List Examples) → of_outline inherited s es 0 0 ≡ outline_pickles inherited s es
    go [] = refl
    go (e ∷ es) = refl

pub whole_scenarios : (inherited : Inheritance) (ss : List Scenario) → from_block inherited ss 0 0 ≡ flat_map (scenario_pickles inherited) ss
whole_scenarios inherited [] = refl
whole_scenarios inherited (s ∷ ss) = ap (λ ps. ps ++ flat_map (scenario_pickles inherited) ss) (whole_scenario inherited s)

pub whole_blocks : (inherited : Inheritance) (s : Scenario) (es : List Examples) → from_row inherited s es 0 ≡ flat_map (examples_pickles inherited s) es
whole_blocks inherited s [] = refl
whole_blocks inherited s (e ∷ es) = refl

pub whole_groups : (gs : List Group) → from_scenario gs 0 0 0 ≡ flat_map group_pickles gs
whole_groups [] = refl
whole_groups (g ∷ gs) = ap (λ ps. ps ++ flat_map group_pickles gs) (whole_scenarios (inherited_at g) (scenarios_at g))

of_rules : (f : Feature) (rs : List Rule) → flat_map group_pickles (map (λ r. record { feature = f; rule = Some r }) rs) ≡ flat_map (rule_pickles f) rs
of_rules f [] = refl
of_rules f (r ∷ rs) = ap (λ ps. rule_pickles f r ++ ps) (of_rules f rs)

pub whole_feature : (o : Option Feature) → rest_in o (record { group = 0; scenario = 0; block = 0; row = 0 }) ≡ pickles_in o
whole_feature None = refl
whole_feature (Some f) =
    whole_groups (groups f) ∙ ap (λ ps. group_pickles (record { feature = f; rule = None }) ++ ps) (of_rules f f.rules)

pub found_at : {X : Type 0} (xs : List X) (i : ℕ) (x : X) → true ≡ nat_lt i (length xs) → x ≡ get_or xs i x → slice_get xs i ≡ Some x
found_at xs i x l e = slice_get_read xs (length xs) i x refl (ltb-true i (length xs) (sym l)) e

-- the group of a rule
abbrev group_of : Feature → Rule → Group
group_of f r = record { feature = f; rule = Some r }

pub rule_group_at : (f : Feature) (rules : List Rule) (i j : ℕ) (r : Rule) → rules ≡ f.rules → i ≡ suc j → slice_get rules j ≡ Some r
    → Some (record { feature = f; rule = Some r }) ≡ slice_get (groups f) i
rule_group_at f rules i j r same next at =
    let there : slice_get f.rules j ≡ Some r = rw (← same) at in
    rw next (sym (slice_get-map (group_of f) f.rules j ∙ ap (option_map (group_of f)) there))

-- a group of those that are left
at_group : (gs : List Group) (i : ℕ) (g : Group) → slice_get gs i ≡ Some g → drop i gs ≡ g ∷ drop (i + 1) gs
at_group gs i g at = drop_more gs i g (slice_get_within gs i g at) ∙ ap (λ h. h ∷ drop (i + 1) gs) (get_or_from_slice_get gs i g g at)

module _ (gs : List Group) (i : ℕ) (g : Group) (at : slice_get gs i ≡ Some g) (s b r s' b' r' : ℕ) where
  from_here : (s b r : ℕ) → from_scenario (drop i gs) s b r ≡ rest_of_group g s b r ++ flat_map group_pickles (drop (i + 1) gs)
  from_here s b r = ap (λ left. from_scenario left s b r) (at_group gs i g at)

  -- the first pickle of a group is the first of all that is left
  pub first_of_group : (found : Option Spot) (some : Bool) → some ≡ is_some found → some ≡ true → IsNext (rest_of_group g s b r) (rest_of_group g s' b' r') (option_map spot_pickle found)
      → IsNext (from_scenario (drop i gs) s b r) (from_scenario (drop i gs) s' b' r') (option_map spot_pickle found)
  first_of_group None some is true_is h = cc
  first_of_group (Some p) some is true_is h =
      from_here s b r ∙ ap (λ ps. ps ++ flat_map group_pickles (drop (i + 1) gs)) h ∙ ap (λ ps. spot_pickle p ∷ ps) (sym (from_here s' b' r'))

  -- where a group has none, they are those of the groups after it
  pub none_of_group : (found : Option Spot) (some : Bool) → some ≡ is_some found → some ≡ false → IsNext (rest_of_group g s b r) (rest_of_group g s' b' r') (option_map spot_pickle found)
      → from_scenario (drop (i + 1) gs) 0 0 0 ≡ from_scenario (drop i gs) s b r
  none_of_group None some is false_is h =
      whole_groups (drop (i + 1) gs) ∙ sym (from_here s b r ∙ ap (λ ps. ps ++ flat_map group_pickles (drop (i + 1) gs)) h.0)
  none_of_group (Some p) some is false_is h = cc

-- behind the last group nothing is left
pub behind_groups : (gs : List Group) (i s b r : ℕ) → slice_get gs i ≡ None → from_scenario (drop i gs) s b r ≡ []
behind_groups gs i s b r none = go (slice_get_cases gs i).1
  where
    go : ((g : Group) × (i < length gs) × (slice_get gs i ≡ Some g) × (get_or gs i g ≡ g)) ⊎ ((length gs ≤ i) × (slice_get gs i ≡ None))
        → from_scenario (drop i gs) s b r ≡ []
    go (inl h) = cc
    go (inr h) = at_drop_all (λ left. from_scenario left s b r) gs i h.0

pub fewer_left : (n i : ℕ) → i < n → n - (i + 1) < n - i
fewer_left n i l = omega (arith, l)
