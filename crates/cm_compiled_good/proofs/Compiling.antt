-- What is asked holds in the pickles of a document in which it holds.
use Rattle.std.proofs.Common.{ℕ, List, [], ◌∷◌, ◌++◌, Option, Some, None, map}
use Rattle.std.specs.List.{AllByRecursion, flat_map}
use Rattle.std.specs.Option.{option_map, option_and_then}
use Rattle.gk_document.specs.declared.tree.Cell.{Cell}
use Rattle.gk_document.specs.declared.tree.KeywordType.{KeywordType}
use Rattle.gk_document.specs.declared.tree.Tag.{Tag}
use Rattle.gk_document.specs.declared.tree.Row.{Row}
use Rattle.gk_document.specs.declared.tree.Argument.{Argument}
use Rattle.gk_document.specs.declared.tree.Argument.TheVariants.{Table, Text}
use Rattle.gk_document.specs.declared.tree.Step.{Step}
use Rattle.gk_document.specs.declared.tree.Background.{Background}
use Rattle.gk_document.specs.declared.tree.ExampleTable.{ExampleTable}
use Rattle.gk_document.specs.declared.tree.Examples.{Examples}
use Rattle.gk_document.specs.declared.tree.Scenario.{Scenario}
use Rattle.gk_document.specs.declared.tree.Rule.{Rule}
use Rattle.gk_document.specs.declared.tree.Feature.{Feature}
use Rattle.gk_document.specs.declared.tree.Document.{Document}
use Rattle.gk_pickle.specs.Inheritance.{Inheritance, Filling, no_filling}
use Rattle.gk_pickle.specs.Fill.{filled_text}
use Rattle.gk_document.specs.MediaType.{unless_empty as media_type}
use Rattle.gk_pickle.specs.Steps.{filled_by, filled_row, filled_argument, steps_after, keyword_types, pickle_steps}
use Rattle.gk_pickle.specs.Pickles.{pickle_tag, pickle_of, row_filling, table_pickles, examples_pickles, outline_pickles, scenario_pickles, background_steps, in_feature, in_rule, rule_pickles, pickles_in, pickles}
use Rattle.cm_compiled_good.proofs.Fine.{Wanted, TagFine, MediaFine, ArgumentFine, StepFine, PickleFine, TagOf, CellOf, RowOf, MediaOf, ArgumentOf, StepOf, BackgroundOf, TableOf, ExamplesOf, ScenarioOf, RuleOf, FeatureOf}

-- ---- lists

pub all_joined : {A : Type 0} (P : A → Type 0) (xs ys : List A) → AllByRecursion P xs → AllByRecursion P ys → AllByRecursion P (xs ++ ys)
all_joined P [] ys h k = k
all_joined P (x ∷ xs) ys h k = (h.0, all_joined P xs ys h.1 k)

pub all_mapped : {A B : Type 0} (P : A → Type 0) (Q : B → Type 0) (f : A → B) → ((x : A) → P x → Q (f x)) → (xs : List A) → AllByRecursion P xs → AllByRecursion Q (map f xs)
all_mapped P Q f one [] h = tt
all_mapped P Q f one (x ∷ xs) h = (one x h.0, all_mapped P Q f one xs h.1)

pub all_flat : {A B : Type 0} (P : A → Type 0) (Q : B → Type 0) (f : A → List B) → ((x : A) → P x → AllByRecursion Q (f x)) → (xs : List A) → AllByRecursion P xs → AllByRecursion Q (flat_map f xs)
all_flat P Q f one [] h = tt
all_flat P Q f one (x ∷ xs) h = all_joined Q (f x) (flat_map f xs) (one x h.0) (all_flat P Q f one xs h.1)

-- ---- filling

abbrev pub ValueOf : Wanted → Cell → Type 0
ValueOf w c = w.text c.value

-- a text that is filled is one that is asked for
abbrev pub Fills : Wanted → Type 0
Fills w = (text : List ℕ) (header cells : List Cell) → w.text text → AllByRecursion (ValueOf w) header → AllByRecursion (ValueOf w) cells → w.text (filled_text text header cells)

pub record FillingOf (w : Wanted) (f : Filling) : Type 0 where
  pub header : AllByRecursion (ValueOf w) f.header
  pub cells : AllByRecursion (ValueOf w) f.cells
  pub rows : AllByRecursion w.node f.rows

none_filled : (w : Wanted) → FillingOf w no_filling
none_filled w = record { header = tt; cells = tt; rows = tt }

text_filled : (w : Wanted) → Fills w → (f : Filling) → FillingOf w f → (text : List ℕ) → w.text text → w.text (filled_by f text)
text_filled w fills f g text h = fills text f.header f.cells h g.header g.cells

values : (w : Wanted) (line : ℕ) (cs : List Cell) → AllByRecursion (CellOf w line) cs → AllByRecursion (ValueOf w) cs
values w line [] h = tt
values w line (c ∷ cs) h = (h.0.0, values w line cs h.1)

-- ---- steps

row_filled : (w : Wanted) → Fills w → (f : Filling) → FillingOf w f → (r : Row) → RowOf w r → AllByRecursion w.text (filled_row f r)
row_filled w fills f g r h = all_mapped (CellOf w r.location.line) w.text (λ c. filled_by f c.value) (λ c k. text_filled w fills f g c.value k.0) r.cells h.2

media_kept : (w : Wanted) (m : List ℕ) → w.text m → MediaFine w (media_type m)
media_kept w [] h = tt
media_kept w (b ∷ bs) h = h

media_filled : (w : Wanted) → Fills w → (f : Filling) → FillingOf w f → (m : Option (List ℕ)) → MediaOf w m → MediaFine w (option_and_then (λ x. media_type (filled_by f x)) m)
media_filled w fills f g None h = tt
media_filled w fills f g (Some m) h = media_kept w (filled_by f m) (text_filled w fills f g m h)

argument_filled : (w : Wanted) → Fills w → (f : Filling) → FillingOf w f → (a : Option Argument) → ArgumentOf w a → ArgumentFine w (option_map (filled_argument f) a)
argument_filled w fills f g None h = tt
argument_filled w fills f g (Some (Table rows)) h = all_mapped (RowOf w) (AllByRecursion w.text) (filled_row f) (row_filled w fills f g) rows h
argument_filled w fills f g (Some (Text d)) h = (media_filled w fills f g d.media h.1, text_filled w fills f g d.content h.2)

steps_filled : (w : Wanted) → Fills w → (earlier : List KeywordType) (f : Filling) → FillingOf w f → (ss : List Step) → AllByRecursion (StepOf w) ss → AllByRecursion (StepFine w) (steps_after earlier f ss)
steps_filled w fills earlier f g [] h = tt
steps_filled w fills earlier f g (s ∷ ss) h =
    let step = h.0 in
    ((text_filled w fills f g s.text step.3, (step.0, g.rows), argument_filled w fills f g s.argument step.4), steps_filled w fills (earlier ++ s.kind ∷ []) f g ss h.1)

all_steps : (w : Wanted) → Fills w → (background : List Step) (f : Filling) → FillingOf w f → (ss : List Step) → AllByRecursion (StepOf w) background → AllByRecursion (StepOf w) ss
    → AllByRecursion (StepFine w) (pickle_steps background f ss)
all_steps w fills background f g [] b h = tt
all_steps w fills background f g (s ∷ ss) b h =
    all_joined (StepFine w) (steps_after [] no_filling background) (steps_after (keyword_types background) f (s ∷ ss)) (steps_filled w fills [] no_filling (none_filled w) background b)
    (steps_filled w fills (keyword_types background) f g (s ∷ ss) h)

-- ---- pickles

pub record InheritedOf (w : Wanted) (a : Inheritance) : Type 0 where
  pub tags : AllByRecursion (TagOf w) a.tags
  pub steps : AllByRecursion (StepOf w) a.steps

pickle_fine : (w : Wanted) → Fills w → (a : Inheritance) → InheritedOf w a → (s : Scenario) → ScenarioOf w s → (tags : List Tag) → AllByRecursion (TagOf w) tags → (f : Filling) → FillingOf w f
    → PickleFine w (pickle_of a s tags f)
pickle_fine w fills a inherited s h tags t f g = (
  text_filled w fills f g s.name h.4,
  (h.1, g.rows),
  all_mapped (TagOf w) (TagFine w) pickle_tag (λ x k. (k.0, k.1)) ((a.tags ++ s.tags) ++ tags) (all_joined (TagOf w) (a.tags ++ s.tags) tags (all_joined (TagOf w) a.tags s.tags inherited.tags h.0) t),
  all_steps w fills a.steps f g s.steps inherited.steps h.6,
)

table_fine : (w : Wanted) → Fills w → (a : Inheritance) → InheritedOf w a → (s : Scenario) → ScenarioOf w s → (tags : List Tag) → AllByRecursion (TagOf w) tags → (t : Option ExampleTable) → TableOf w t
    → AllByRecursion (PickleFine w) (table_pickles a s tags t)
table_fine w fills a inherited s h tags t None k = tt
table_fine w fills a inherited s h tags t (Some table) k =
    all_mapped (RowOf w) (PickleFine w) (λ row. pickle_of a s tags (row_filling table.header row))
    (λ row r. pickle_fine w fills a inherited s h tags t (row_filling table.header row)
    (record { header = values w table.header.location.line table.header.cells k.0.2; cells = values w row.location.line row.cells r.2; rows = (r.0, tt) })) table.body k.1

outline_fine : (w : Wanted) → Fills w → (a : Inheritance) → InheritedOf w a → (s : Scenario) → ScenarioOf w s → (es : List Examples) → AllByRecursion (ExamplesOf w) es → AllByRecursion (PickleFine w) (outline_pickles a s es)
outline_fine w fills a inherited s h [] k = (pickle_fine w fills a inherited s h [] tt no_filling (none_filled w), tt)
outline_fine w fills a inherited s h (e ∷ es) k =
    all_flat (ExamplesOf w) (PickleFine w) (examples_pickles a s) (λ x g. table_fine w fills a inherited s h x.tags g.0 x.table g.6) (e ∷ es) k

scenarios_fine : (w : Wanted) → Fills w → (a : Inheritance) → InheritedOf w a → (ss : List Scenario) → AllByRecursion (ScenarioOf w) ss → AllByRecursion (PickleFine w) (flat_map (scenario_pickles a) ss)
scenarios_fine w fills a inherited ss h = all_flat (ScenarioOf w) (PickleFine w) (scenario_pickles a) (λ s k. outline_fine w fills a inherited s k s.examples k.7) ss h

background_fine : (w : Wanted) (b : Option Background) → BackgroundOf w b → AllByRecursion (StepOf w) (background_steps b)
background_fine w None h = tt
background_fine w (Some b) h = h.5

rule_fine : (w : Wanted) → Fills w → (f : Feature) → FeatureOf w (Some f) → (r : Rule) → RuleOf w r → AllByRecursion (PickleFine w) (rule_pickles f r)
rule_fine w fills f h r k = scenarios_fine w fills (in_rule f r) (record {
  tags = all_joined (TagOf w) f.tags r.tags h.0 k.0;
  steps = all_joined (StepOf w) (background_steps f.background) (background_steps r.background) (background_fine w f.background h.6) (background_fine w r.background k.6);
}) r.scenarios k.7

feature_fine : (w : Wanted) → Fills w → (o : Option Feature) → FeatureOf w o → AllByRecursion (PickleFine w) (pickles_in o)
feature_fine w fills None h = tt
feature_fine w fills (Some f) h =
    all_joined (PickleFine w) (flat_map (scenario_pickles (in_feature f)) f.scenarios) (flat_map (rule_pickles f) f.rules)
    (scenarios_fine w fills (in_feature f) (record { tags = h.0; steps = background_fine w f.background h.6 }) f.scenarios h.7)
    (all_flat (RuleOf w) (PickleFine w) (rule_pickles f) (rule_fine w fills f h) f.rules h.8)

pub pickles_fine : (w : Wanted) → Fills w → (d : Document) → FeatureOf w d.feature → AllByRecursion (PickleFine w) (pickles d)
unfolding pickles
pickles_fine w fills d h = feature_fine w fills d.feature h
