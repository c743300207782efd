-- Each pickle is of a scenario of the document, and its steps are made of the scenario's.
use Rattle.std.proofs.Common.{◌≡◌, List, [], ◌∷◌, ◌++◌, map, Option, Some, None, unwrap_or, append-nil, refl, sym, ap, ◌∙◌, subst, append_assoc, inl, inr}
use Rattle.std.specs.Prelude.{Contains}
use Rattle.std.specs.List.{flat_map, filter_map, AllByRecursion}
use Rattle.std.proofs.lemmas.List.{map-append}
use Rattle.std.proofs.lemmas.List.Elements.{filter_map-append, All-contains, All-contains_itself, All-from_recursion, recursion_from_All}
use Rattle.gk_document.specs.declared.tree.KeywordType.{KeywordType}
use Rattle.gk_document.specs.declared.tree.KeywordType.TheVariants as keyword
use Rattle.gk_document.specs.declared.tree.Tag.{Tag}
use Rattle.gk_document.specs.declared.tree.Step.{Step}
use Rattle.gk_document.specs.declared.tree.Row.{Row}
use Rattle.gk_document.specs.declared.tree.ExampleTable.{ExampleTable}
use Rattle.gk_document.specs.declared.tree.Examples.{Examples}
use Rattle.gk_document.specs.declared.tree.Scenario.{Scenario}
use Rattle.gk_document.specs.declared.tree.Rule.{Rule}
use Rattle.gk_document.specs.declared.tree.Feature.{Feature}
use Rattle.gk_document.specs.declared.tree.Document.{Document}
use Rattle.gk_pickle.specs.declared.pickles.StepType.{StepType}
use Rattle.gk_pickle.specs.declared.pickles.StepType.TheVariants.{Unknown}
use Rattle.gk_pickle.specs.declared.pickles.PickleStep.{PickleStep}
use Rattle.gk_pickle.specs.Inheritance.{Inheritance, Filling, no_filling}
use Rattle.gk_pickle.specs.Steps.{own_type, last_or, type_of, keyword_types, filled_by, filled_step, steps_after, pickle_steps}
use Rattle.gk_pickle.specs.Pickles.{pickle_of, row_filling, table_pickles, examples_pickles, outline_pickles, scenario_pickles, background_steps, in_feature, in_rule, rule_pickles, pickles_in, pickles}
use Rattle.gk_pickle.specs.Order.{rule_steps, feature_steps, document_steps, IsSubsequence}
use Rattle.gk_pickle.proofs.Ordering.{front, same, later, through, kept, of_parts}
use Rattle.gk_laws.specs.Pickles.{IsScenarioOf, IsFillingOf, types_after, argument_by, AreMadeOf, AreStepsOf, IsOfScenario, PicklesAreMade}

-- ---- types

last_more : {X : Type 0} (other : X) (xs : List X) (x : X) → last_or other (xs ++ x ∷ []) ≡ x
last_more other [] x = refl
last_more other (y ∷ ys) x = last_more y ys x

-- the type of a step by the type before it
type_more : (earlier : List KeywordType) (k : KeywordType) → type_of (earlier ++ k ∷ []) ≡ unwrap_or (own_type k) (type_of earlier)
type_more earlier k = ap (last_or Unknown) (filter_map-append own_type earlier (k ∷ [])) ∙ go k
  where
    go : (k : KeywordType) → last_or Unknown (filter_map own_type earlier ++ filter_map own_type (k ∷ [])) ≡ unwrap_or (own_type k) (type_of earlier)
    go keyword.Unknown = last_more Unknown (filter_map own_type earlier) _
    go keyword.Context = last_more Unknown (filter_map own_type earlier) _
    go keyword.Action = last_more Unknown (filter_map own_type earlier) _
    go keyword.Outcome = last_more Unknown (filter_map own_type earlier) _
    go keyword.Conjunction = ap (last_or Unknown) (append-nil (filter_map own_type earlier))

abbrev kind_in : PickleStep → StepType
kind_in p = p.kind

kinds_of : (k : List KeywordType) (f : Filling) (ss : List Step) → map kind_in (steps_after k f ss) ≡ types_after (type_of k) (keyword_types ss)
kinds_of k f [] = refl
kinds_of k f (s ∷ ss) =
    let next : List KeywordType = k ++ s.kind ∷ [] in
    ap (λ (t : StepType). t ∷ map kind_in (steps_after next f ss)) (type_more k s.kind)
    ∙ ap (λ (l : List StepType). unwrap_or (own_type s.kind) (type_of k) ∷ l)
    (kinds_of next f ss ∙ ap (λ (t : StepType). types_after t (keyword_types ss)) (type_more k s.kind))

kinds_both : (k : List KeywordType) (f : Filling) (bs ss : List Step) → map kind_in (steps_after k no_filling bs ++ steps_after (k ++ keyword_types bs) f ss) ≡ types_after (type_of k) (keyword_types (bs ++ ss))
kinds_both k f [] ss = ap (λ (z : List KeywordType). map kind_in (steps_after z f ss)) (append-nil k) ∙ kinds_of k f ss
kinds_both k f (b ∷ bs) ss =
    let next : List KeywordType = k ++ b.kind ∷ [] in
    ap (λ (z : List KeywordType). type_of next ∷ map kind_in (steps_after next no_filling bs ++ steps_after z f ss)) (sym (append_assoc k (b.kind ∷ []) (keyword_types bs)))
    ∙ ap (λ (t : StepType). t ∷ map kind_in (steps_after next no_filling bs ++ steps_after (next ++ keyword_types bs) f ss)) (type_more k b.kind)
    ∙ ap (λ (l : List StepType). unwrap_or (own_type b.kind) (type_of k) ∷ l)
    (kinds_both next f bs ss ∙ ap (λ (t : StepType). types_after t (keyword_types (bs ++ ss))) (type_more k b.kind))

-- ---- texts, nodes and arguments

module _ {A : Type 0} (g : PickleStep → A) where
  each_made : (f : Filling) (h : Step → A) → ((t : StepType) (s : Step) → g (filled_step f t s) ≡ h s) → (k : List KeywordType) (ss : List Step) → map g (steps_after k f ss) ≡ map h ss
  each_made f h same k [] = refl
  each_made f h same k (s ∷ ss) =
      let next : List KeywordType = k ++ s.kind ∷ [] in
      ap (λ (x : A). x ∷ map g (steps_after next f ss)) (same (type_of next) s) ∙ ap (λ (l : List A). h s ∷ l) (each_made f h same next ss)

  both_made : (f : Filling) (h : Step → A) (other : Step → A) → ((t : StepType) (s : Step) → g (filled_step no_filling t s) ≡ other s) → ((t : StepType) (s : Step) → g (filled_step f t s) ≡ h s)
      → (k : List KeywordType) (bs ss : List Step) → map g (steps_after [] no_filling bs ++ steps_after k f ss) ≡ map other bs ++ map h ss
  both_made f h other first second k bs ss =
      map-append g (steps_after [] no_filling bs) (steps_after k f ss)
      ∙ ap (λ (l : List A). l ++ map g (steps_after k f ss)) (each_made no_filling other first [] bs)
      ∙ ap (λ (l : List A). map other bs ++ l) (each_made f h second k ss)

made : (bs own : List Step) (f : Filling) → AreMadeOf bs own f (steps_after [] no_filling bs ++ steps_after (keyword_types bs) f own)
made bs own f = record {
  texts = both_made (λ p. p.text) f (λ s. filled_by f s.text) (λ s. s.text) (λ t s. refl) (λ t s. refl) (keyword_types bs) bs own;
  kinds = kinds_both [] f bs own;
  nodes = both_made (λ p. p.nodes) f (λ s. s.node ∷ f.rows) (λ s. s.node ∷ []) (λ t s. refl) (λ t s. refl) (keyword_types bs) bs own;
  arguments = both_made (λ p. p.argument) f (argument_by f) (argument_by no_filling) (λ t s. refl) (λ t s. refl) (keyword_types bs) bs own;
}

steps_made : (bs own : List Step) (f : Filling) → AreStepsOf bs own f (pickle_steps bs f own)
steps_made bs [] f = refl
steps_made bs (s ∷ ss) f = made bs (s ∷ ss) f

-- ---- elements

module _ {X : Type 0} where
  all_weaker : (P Q : X → Type 0) → ((x : X) → P x → Q x) → (xs : List X) → AllByRecursion P xs → AllByRecursion Q xs
  all_weaker P Q f [] a = tt
  all_weaker P Q f (x ∷ xs) a = (f x a.0, all_weaker P Q f xs a.1)

  -- what holds of each element holds of all
  all_elements : (P : X → Type 0) (xs : List X) → ((x : X) → Contains xs x → P x) → AllByRecursion P xs
  all_elements P xs f = all_weaker (Contains xs) P f xs (recursion_from_All (Contains xs) xs (All-contains_itself xs))

  of_each_map : {A : Type 0} (P : A → Type 0) (f : X → A) (xs : List X) → AllByRecursion (λ x. P (f x)) xs → AllByRecursion P (map f xs)
  of_each_map P f [] a = tt
  of_each_map P f (x ∷ xs) a = (a.0, of_each_map P f xs a.1)

  of_each_flat_map : {A : Type 0} (P : A → Type 0) (f : X → List A) (xs : List X) → AllByRecursion (λ x. AllByRecursion P (f x)) xs → AllByRecursion P (flat_map f xs)
  of_each_flat_map P f [] a = tt
  of_each_flat_map P f (x ∷ xs) a = of_parts P (f x) (flat_map f xs) a.0 (of_each_flat_map P f xs a.1)

  each_among : (g : X → List Step) (xs : List X) → AllByRecursion (λ x. IsSubsequence (g x) (flat_map g xs)) xs
  each_among g [] = tt
  each_among g (x ∷ xs) = (
    front (g x) (flat_map g xs) (g x ++ flat_map g xs) (same (g x ++ flat_map g xs)),
    all_weaker (λ y. IsSubsequence (g y) (flat_map g xs)) (λ y. IsSubsequence (g y) (g x ++ flat_map g xs)) (λ y h. later (g x) (g y) (flat_map g xs) h) xs (each_among g xs),
  )

  -- the steps of an element are among those of all
  among : (g : X → List Step) (xs : List X) (x : X) → Contains xs x → IsSubsequence (g x) (flat_map g xs)
  among g xs x c = All-contains (λ y. IsSubsequence (g y) (flat_map g xs)) xs x (All-from_recursion (λ y. IsSubsequence (g y) (flat_map g xs)) xs (each_among g xs)) c

-- ---- order

abbrev own_steps : Scenario → List Step
own_steps s = s.steps

ordered : (f : Feature) (tags : List Tag) (background : List Step) (s : Scenario) → IsScenarioOf f tags background s → IsSubsequence (background ++ s.steps) (feature_steps f)
ordered f tags background s (inl h) =
    let b : List Step = background_steps f.background in
    let own : List Step = flat_map own_steps f.scenarios in
    let rules : List Step = flat_map rule_steps f.rules in
    let all : List Step = (b ++ own) ++ rules in
    let P : List Step → Type 0 = λ z. IsSubsequence (z ++ s.steps) all in
    subst P (sym h.2) (through (b ++ s.steps) (b ++ own) all (kept b s.steps own (among own_steps f.scenarios s h.0)) (front (b ++ own) rules all (same all)))
ordered f tags background s (inr h) =
    let r : Rule = h.0 in
    let b : List Step = background_steps f.background in
    let c : List Step = background_steps r.background in
    let own : List Step = flat_map own_steps f.scenarios in
    let rules : List Step = flat_map rule_steps f.rules in
    let inner : IsSubsequence (c ++ s.steps) (rule_steps r) = kept c s.steps (flat_map own_steps r.scenarios) (among own_steps r.scenarios s h.2) in
    let outer : IsSubsequence (c ++ s.steps) rules = through (c ++ s.steps) (rule_steps r) rules inner (among rule_steps f.rules r h.1) in
    let whole : IsSubsequence (b ++ (c ++ s.steps)) (b ++ (own ++ rules)) = kept b (c ++ s.steps) (own ++ rules) (later own (c ++ s.steps) rules outer) in
    let P : List Step → Type 0 = λ z. IsSubsequence z ((b ++ own) ++ rules) in
    let Q : List Step → Type 0 = λ z. IsSubsequence (b ++ (c ++ s.steps)) z in
    subst P (sym (append_assoc b c s.steps) ∙ ap (λ (z : List Step). z ++ s.steps) (sym h.4)) (subst Q (sym (append_assoc b own rules)) whole)

-- ---- pickles

module _ (d : Document) (f : Feature) (is : d.feature ≡ Some f) where
  of_pickle : (inherited : Inheritance) (s : Scenario) (tags : List Tag) (filling : Filling) → IsScenarioOf f inherited.tags inherited.steps s → IsFillingOf s tags filling → IsOfScenario d (pickle_of inherited s tags filling)
  of_pickle inherited s tags filling h k = record {
    feature = f;
    scenario = s;
    inherited = inherited.tags;
    added = tags;
    background = inherited.steps;
    filling = filling;
    in_document = is;
    in_feature = h;
    filled = k;
    in_order = subst (λ (o : Option Feature). IsSubsequence (inherited.steps ++ s.steps) (document_steps o)) (sym is) (ordered f inherited.tags inherited.steps s h);
    nodes = refl;
    name = refl;
    tags = refl;
    steps = steps_made inherited.steps s.steps filling;
  }

  of_table : (inherited : Inheritance) (s : Scenario) (e : Examples) (o : Option ExampleTable) → IsScenarioOf f inherited.tags inherited.steps s → Contains s.examples e → e.table ≡ o → AllByRecursion (IsOfScenario d) (table_pickles inherited s e.tags o)
  of_table inherited s e None h c same = tt
  of_table inherited s e (Some table) h c same =
      of_each_map (IsOfScenario d) (λ (row : Row). pickle_of inherited s e.tags (row_filling table.header row)) table.body
      (all_elements (λ (row : Row). IsOfScenario d (pickle_of inherited s e.tags (row_filling table.header row))) table.body
      (λ row k. of_pickle inherited s e.tags (row_filling table.header row) h (inr (e, table, row, c, same, k, refl, refl))))

  of_outline : (inherited : Inheritance) (s : Scenario) (blocks : List Examples) → IsScenarioOf f inherited.tags inherited.steps s → s.examples ≡ blocks → AllByRecursion (IsOfScenario d) (outline_pickles inherited s blocks)
  of_outline inherited s [] h same = (of_pickle inherited s [] no_filling h (inl (same, refl, refl)), tt)
  of_outline inherited s (e ∷ es) h same =
      of_each_flat_map (IsOfScenario d) (examples_pickles inherited s) (e ∷ es)
      (all_elements (λ (b : Examples). AllByRecursion (IsOfScenario d) (examples_pickles inherited s b)) (e ∷ es)
      (λ b c. of_table inherited s b b.table h (subst (λ (l : List Examples). Contains l b) (sym same) c) refl))

  of_scenarios : (inherited : Inheritance) (ss : List Scenario) → ((s : Scenario) → Contains ss s → IsScenarioOf f inherited.tags inherited.steps s) → AllByRecursion (IsOfScenario d) (flat_map (scenario_pickles inherited) ss)
  of_scenarios inherited ss h =
      of_each_flat_map (IsOfScenario d) (scenario_pickles inherited) ss
      (all_elements (λ (s : Scenario). AllByRecursion (IsOfScenario d) (scenario_pickles inherited s)) ss (λ s c. of_outline inherited s s.examples (h s c) refl))

  of_feature : AllByRecursion (IsOfScenario d) (pickles_in (Some f))
  of_feature =
      of_parts (IsOfScenario d) (flat_map (scenario_pickles (in_feature f)) f.scenarios) (flat_map (rule_pickles f) f.rules)
      (of_scenarios (in_feature f) f.scenarios (λ s c. inl (c, refl, refl)))
      (of_each_flat_map (IsOfScenario d) (rule_pickles f) f.rules
      (all_elements (λ (r : Rule). AllByRecursion (IsOfScenario d) (rule_pickles f r)) f.rules
      (λ r c. of_scenarios (in_rule f r) r.scenarios (λ s b. inr (r, c, b, refl, refl)))))

each_pickle : (d : Document) (o : Option Feature) → d.feature ≡ o → AllByRecursion (IsOfScenario d) (pickles_in o)
each_pickle d None is = tt
each_pickle d (Some f) is = of_feature d f is

pub pickles_are_made_holds : PicklesAreMade
unfolding pickles
pickles_are_made_holds d = each_pickle d d.feature refl
