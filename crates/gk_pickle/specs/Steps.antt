-- The steps of a pickle (Cucumber Messages, `Pickle.json`, `PickleStep`).
use Rattle.std.specs.Prelude.{ℕ, List, [], ◌∷◌, ◌++◌, map, Option, Some, None, option_map, option_and_then}
use Rattle.std.specs.List.{filter_map}
use Rattle.gk_document.specs.MediaType.{unless_empty}
use Rattle.gk_document.specs.declared.tree.KeywordType.{KeywordType}
use Rattle.gk_document.specs.declared.tree.KeywordType.TheVariants as keyword
use Rattle.gk_document.specs.declared.tree.Argument.{Argument}
use Rattle.gk_document.specs.declared.tree.Argument.TheVariants as argument
use Rattle.gk_document.specs.declared.tree.Row.{Row}
use Rattle.gk_document.specs.declared.tree.Step.{Step}
use Rattle.gk_pickle.specs.declared.pickles.StepType.{StepType}
use Rattle.gk_pickle.specs.declared.pickles.StepType.TheVariants as kind
use Rattle.gk_pickle.specs.declared.pickles.PickleArgument.{PickleArgument}
use Rattle.gk_pickle.specs.declared.pickles.PickleArgument.TheVariants as value
use Rattle.gk_pickle.specs.declared.pickles.PickleStep.{PickleStep}
use Rattle.gk_pickle.specs.Inheritance.{Filling, no_filling}
use Rattle.gk_pickle.specs.Fill.{filled_text}

-- a keyword's own type, which a conjunction (`And`, `But`) has not
abbrev pub own_type : KeywordType → Option StepType
own_type keyword.Unknown = Some kind.Unknown
own_type keyword.Context = Some kind.Context
own_type keyword.Action = Some kind.Action
own_type keyword.Outcome = Some kind.Outcome
own_type keyword.Conjunction = None

-- the last of a list, or another value where it is empty
abbrev pub last_or : {X : Type 0} → X → List X → X
last_or other [] = other
last_or other (x ∷ xs) = last_or x xs

-- the type of the last of these keywords that is no conjunction, Unknown if there is none
abbrev pub type_of : List KeywordType → StepType
type_of keyword_types = last_or kind.Unknown (filter_map own_type keyword_types)

abbrev pub filled_by : Filling → List ℕ → List ℕ
filled_by f text = filled_text text f.header f.cells

abbrev pub filled_row : Filling → Row → List (List ℕ)
filled_row f row = map (λ c. filled_by f c.value) row.cells

abbrev pub filled_argument : Filling → Argument → PickleArgument
filled_argument f (argument.Table rows) = value.Table (map (filled_row f) rows)
filled_argument f (argument.Text d) = value.Text (record {
  media = option_and_then (λ m. unless_empty (filled_by f m)) d.media;
  content = filled_by f d.content;
})

-- a step of a pickle: it names its step, and the row that fills it
abbrev pub filled_step : Filling → StepType → Step → PickleStep
filled_step f t s = record {
  text = filled_by f s.text;
  kind = t;
  nodes = s.node ∷ f.rows;
  argument = option_map (filled_argument f) s.argument;
}

-- steps that come after those with the earlier keywords: a step's type is that of the last step at or before it that is
-- no conjunction
abbrev pub steps_after : List KeywordType → Filling → List Step → List PickleStep
steps_after earlier f [] = []
steps_after earlier f (s ∷ ss) =
    filled_step f (type_of (earlier ++ s.kind ∷ [])) s ∷ steps_after (earlier ++ s.kind ∷ []) f ss

-- the keyword types of steps
abbrev pub keyword_types : List Step → List KeywordType
keyword_types steps = map (λ s. s.kind) steps

-- the backgrounds' steps, which nothing fills, and then the scenario's own; a scenario with no steps of its own has none
abbrev pub pickle_steps : List Step → Filling → List Step → List PickleStep
pickle_steps background f [] = []
pickle_steps background f (s ∷ ss) =
    steps_after [] no_filling background ++ steps_after (keyword_types background) f (s ∷ ss)
