-- Reading the parts of a document back, from the last to the first, gives the document's feature.
use Rattle.std.proofs.Common.{◌≡◌, ◌∙◌, List, [], ◌∷◌, ◌++◌, Option, Some, None, ap, sym, refl, map, append-nil}
use Rattle.std.specs.List.{flat_map}
use Rattle.std.specs.Option.{option_to_list}
use Rattle.gk_document.specs.declared.tree.Row.{Row}
use Rattle.gk_document.specs.declared.tree.Step.{Step}
use Rattle.gk_document.specs.declared.tree.Background.{Background}
use Rattle.gk_document.specs.declared.tree.ExampleTable.{ExampleTable}
use Rattle.gk_document.specs.declared.tree.Examples.{Examples}
use Rattle.gk_document.specs.declared.tree.Scenario.{Scenario}
use Rattle.gk_document.specs.declared.tree.Rule.{Rule}
use Rattle.gk_document.specs.declared.tree.Feature.{Feature}
use Rattle.gk_document.specs.declared.tree.Document.{Document}
use Rattle.gk_parts.specs.Parts.{Part, FeaturePart, RulePart, BackgroundPart, ScenarioPart, StepPart, ExamplesPart, HeaderPart, RowPart}
use Rattle.gk_parts.specs.Parts.{background_parts, table_parts, examples_parts, scenario_parts, children_parts, rule_parts, feature_parts, parts, outer_part}

-- what has been read, and is inside a part that is still to come
record Read : Type 0 where
  pub rows : List Row
  pub table : Option ExampleTable
  pub examples : List Examples
  pub steps : List Step
  pub background : Option Background
  pub scenarios : List Scenario
  pub rules : List Rule
  pub feature : Option Feature

abbrev nothing : Read
nothing = record { rows = []; table = None; examples = []; steps = []; background = None; scenarios = []; rules = []; feature = None }

-- a part takes what is inside it
abbrev with_part : Part → Read → Read
with_part (RowPart x) r = record r { rows = x ∷ r.rows }
with_part (HeaderPart x) r = record r { rows = []; table = Some (record { header = x; body = r.rows }) }
with_part (ExamplesPart x) r = record r { table = None; examples = record x { table = r.table } ∷ r.examples }
with_part (StepPart x) r = record r { steps = x ∷ r.steps }
with_part (ScenarioPart x) r =
    record r { examples = []; steps = []; scenarios = record x { steps = r.steps; examples = r.examples } ∷ r.scenarios }
with_part (BackgroundPart x) r = record r { steps = []; background = Some (record x { steps = r.steps }) }
with_part (RulePart x) r =
    record r { background = None; scenarios = []; rules = record x { background = r.background; scenarios = r.scenarios } ∷ r.rules }
with_part (FeaturePart x) r =
    record r {
      background = None;
      scenarios = [];
      rules = [];
      feature = Some (record x { background = r.background; scenarios = r.scenarios; rules = r.rules });
    }

abbrev read_back : Read → List Part → Read
read_back r [] = r
read_back r (p ∷ ps) = with_part p (read_back r ps)

in_two : (r : Read) (ps qs : List Part) → read_back r (ps ++ qs) ≡ read_back (read_back r qs) ps
in_two r [] qs = refl
in_two r (p ∷ ps) qs = ap (with_part p) (in_two r ps qs)

rows_back : (r : Read) (xs : List Row) → read_back r (map RowPart xs) ≡ record r { rows = xs ++ r.rows }
rows_back r [] = refl
rows_back r (x ∷ xs) = ap (with_part (RowPart x)) (rows_back r xs)

steps_back : (r : Read) (xs : List Step) → read_back r (map StepPart xs) ≡ record r { steps = xs ++ r.steps }
steps_back r [] = refl
steps_back r (x ∷ xs) = ap (with_part (StepPart x)) (steps_back r xs)

-- of lists that are read back one item at a time
module _ {X : Type 0} (f : X → List Part) (start : List X → Read) (one : (x : X) (xs : List X) → read_back (start xs) (f x) ≡ start (x ∷ xs)) where
  all_back : (xs : List X) → read_back (start []) (flat_map f xs) ≡ start xs
  all_back [] = refl
  all_back (x ∷ xs) = in_two (start []) (f x) (flat_map f xs) ∙ ap (λ r. read_back r (f x)) (all_back xs) ∙ one x xs

-- of an option
module _ {X : Type 0} (f : X → List Part) (start : Option X → Read) (one : (x : X) → read_back (start None) (f x) ≡ start (Some x)) where
  option_back : (o : Option X) → read_back (start None) (flat_map f (option_to_list o)) ≡ start o
  option_back None = refl
  option_back (Some x) = ap (read_back (start None)) (append-nil (f x)) ∙ one x

table_back : (r : Read) (t : ExampleTable) → read_back (record r { rows = []; table = None }) (table_parts t) ≡ record r { rows = []; table = Some t }
table_back r t =
    ap (with_part (HeaderPart t.header)) (rows_back (record r { rows = []; table = None }) t.body)
    ∙ ap (λ (body : List Row). record r { rows = []; table = Some (record t { body = body }) }) (append-nil t.body)

-- what was read before a part of an examples block
abbrev below_examples : Read → List Examples → Read
below_examples r xs = record r { rows = []; table = None; examples = xs }

examples_back : (r : Read) (e : Examples) (xs : List Examples) → read_back (below_examples r xs) (examples_parts e) ≡ below_examples r (e ∷ xs)
examples_back r e xs =
    ap (with_part (ExamplesPart e))
    (option_back table_parts (λ t. record r { rows = []; table = t; examples = xs }) (table_back (record r { examples = xs })) e.table)

abbrev below_scenario : Read → List Scenario → Read
below_scenario r xs = record r { rows = []; table = None; examples = []; steps = []; scenarios = xs }

scenario_back : (r : Read) (s : Scenario) (xs : List Scenario) → read_back (below_scenario r xs) (scenario_parts s) ≡ below_scenario r (s ∷ xs)
scenario_back r s xs =
    ap (with_part (ScenarioPart s))
    (in_two (below_scenario r xs) (map StepPart s.steps) (flat_map examples_parts s.examples)
    ∙ ap (λ read. read_back read (map StepPart s.steps)) (all_back examples_parts (below_examples (below_scenario r xs)) (examples_back (below_scenario r xs)) s.examples)
    ∙ steps_back (below_examples (below_scenario r xs) s.examples) s.steps)
    ∙ ap (λ (steps : List Step). below_scenario r (record s { steps = steps } ∷ xs)) (append-nil s.steps)

abbrev below_children : Read → Option Background → List Scenario → Read
below_children r b xs = record (below_scenario r xs) { background = b }

background_back : (r : Read) (xs : List Scenario) (b : Background) → read_back (below_children r None xs) (background_parts b) ≡ below_children r (Some b) xs
background_back r xs b =
    ap (with_part (BackgroundPart b)) (steps_back (below_children r None xs) b.steps)
    ∙ ap (λ (steps : List Step). below_children r (Some (record b { steps = steps })) xs) (append-nil b.steps)

children_back : (r : Read) (b : Option Background) (ss : List Scenario) → read_back (below_children r None []) (children_parts b ss) ≡ below_children r b ss
children_back r b ss =
    in_two (below_children r None []) (flat_map background_parts (option_to_list b)) (flat_map scenario_parts ss)
    ∙ ap (λ read. read_back read (flat_map background_parts (option_to_list b)))
    (all_back scenario_parts (below_children r None) (scenario_back (record r { background = None })) ss)
    ∙ option_back background_parts (λ o. below_children r o ss) (background_back r ss) b

abbrev below_rule : Read → List Rule → Read
below_rule r xs = record (below_children r None []) { rules = xs }

rule_back : (r : Read) (x : Rule) (xs : List Rule) → read_back (below_rule r xs) (rule_parts x) ≡ below_rule r (x ∷ xs)
rule_back r x xs = ap (with_part (RulePart x)) (children_back (record r { rules = xs }) x.background x.scenarios)

feature_back : (f : Feature) → read_back nothing (feature_parts f) ≡ record nothing { feature = Some f }
feature_back f =
    ap (with_part (FeaturePart f))
    (in_two nothing (children_parts f.background f.scenarios) (flat_map rule_parts f.rules)
    ∙ ap (λ read. read_back read (children_parts f.background f.scenarios)) (all_back rule_parts (below_rule nothing) (rule_back nothing) f.rules)
    ∙ children_back (record nothing { rules = f.rules }) f.background f.scenarios)

parts_back : (d : Document) → read_back nothing (parts d) ≡ record nothing { feature = d.feature }
parts_back d = option_back feature_parts (λ f. record nothing { feature = f }) feature_back d.feature

-- a part takes what is inside it in the place of what it had
outer_taken : (p : Part) (r : Read) → with_part (outer_part p) r ≡ with_part p r
outer_taken (FeaturePart x) r = refl
outer_taken (RulePart x) r = refl
outer_taken (BackgroundPart x) r = refl
outer_taken (ScenarioPart x) r = refl
outer_taken (StepPart x) r = refl
outer_taken (ExamplesPart x) r = refl
outer_taken (HeaderPart x) r = refl
outer_taken (RowPart x) r = refl

outer_back : (r : Read) (ps : List Part) → read_back r (map outer_part ps) ≡ read_back r ps
outer_back r [] = refl
outer_back r (p ∷ ps) = outer_taken p (read_back r (map outer_part ps)) ∙ ap (with_part p) (outer_back r ps)

-- so documents whose parts are equal, but for what is inside them, have one feature
pub one_feature : (a b : Document) → map outer_part (parts a) ≡ map outer_part (parts b) → a.feature ≡ b.feature
one_feature a b same =
    ap (λ (r : Read). r.feature)
    (sym (outer_back nothing (parts a) ∙ parts_back a) ∙ ap (read_back nothing) same ∙ outer_back nothing (parts b) ∙ parts_back b)
