-- What a stream has declared, and what each declaration makes of it.
--
-- The kinds are those of Cucumber Messages: `source` and `gherkinDocument` by their `uri`; `pickle`,
-- `stepDefinition`, `hook` and `testRunHookStarted` by their `id`, a pickle with the ids of its steps, a run hook with whether its
-- `testRunHookFinished` came.
use Rattle.std.specs.Prelude.{◌||◌, ℕ, Bool, false, true, not, List, [], ◌∷◌, ◌++◌, Option, None, Some, is_some, if◌then◌else◌, find, count_by}
use Rattle.std.specs.List.{list_any}
use Rattle.std.specs.Option.{option_map_or}
use Rattle.std.specs.Str.{bytes_eq}
pub use Rattle.gk_document.specs.Texts.{Utf8}
use Rattle.cm_refs.specs.declared.fault.RefFault.{RefFault}
use Rattle.cm_refs.specs.declared.fault.RefFault.TheVariants as fault

-- a pickle, with the ids of its steps
pub record PickleRow : Type 0 where
  pub id : Utf8
  pub steps : List Utf8

-- a run hook that was started, and whether it is finished
pub record RunHookRow : Type 0 where
  pub id : Utf8
  pub is_finished : Bool

-- one list a kind, in the order of declaration
pub record Declarations : Type 0 where
  pub sources : List Utf8
  pub documents : List Utf8
  pub pickles : List PickleRow
  pub definitions : List Utf8
  pub hooks : List Utf8
  pub run_hooks : List RunHookRow

abbrev pub no_declarations : Declarations
no_declarations = record {
  sources = [];
  documents = [];
  pickles = [];
  definitions = [];
  hooks = [];
  run_hooks = [];
}

-- ---- look-ups

abbrev pub has_text : Utf8 → List Utf8 → Bool
has_text text = list_any (bytes_eq text)

-- two of the texts are equal
abbrev pub has_repeat : List Utf8 → Bool
has_repeat [] = false
has_repeat (text ∷ rest) = has_text text rest || has_repeat rest

abbrev pub find_pickle : Declarations → Utf8 → Option PickleRow
find_pickle d id = find (λ p. bytes_eq id p.id) d.pickles

-- the ids of the pickle's steps, and none of a pickle that isn't declared
abbrev pub steps_of : Declarations → Utf8 → List Utf8
steps_of d id = option_map_or (λ p. p.steps) (find_pickle d id) []

abbrev pub find_run_hook : Declarations → Utf8 → Option RunHookRow
find_run_hook d id = find (λ r. bytes_eq id r.id) d.run_hooks

-- how many run hooks are started and not finished
abbrev pub open_count : Declarations → ℕ
open_count d = count_by (λ r. not r.is_finished) d.run_hooks

-- ---- faults

-- a name that is in its kind's list is refused
abbrev pub name_fault : RefFault → Utf8 → List Utf8 → Option RefFault
name_fault taken name names = if has_text name names then Some taken else None

-- a pickle whose id is in the list, or of which two steps have one id, is refused
abbrev pub pickle_fault : Declarations → Utf8 → List Utf8 → Option RefFault
pickle_fault d id steps =
    if is_some (find_pickle d id) || has_repeat steps then Some fault.DuplicateId else None

-- a run hook whose id is in the list doesn't start
abbrev pub run_hook_fault : Declarations → Utf8 → Option RefFault
run_hook_fault d id = if is_some (find_run_hook d id) then Some fault.DuplicateId else None

-- a run hook finishes once, and only where it was started
abbrev pub finish_fault_at : Option RunHookRow → Option RefFault
finish_fault_at None = Some fault.UnknownRunHook
finish_fault_at (Some r) = if r.is_finished then Some fault.RunHookTwice else None

abbrev pub finish_fault : Declarations → Utf8 → Option RefFault
finish_fault d id = finish_fault_at (find_run_hook d id)

-- ---- declarations

abbrev pub with_source : Utf8 → Declarations → Declarations
with_source uri d = record d { sources = d.sources ++ uri ∷ [] }

abbrev pub with_document : Utf8 → Declarations → Declarations
with_document uri d = record d { documents = d.documents ++ uri ∷ [] }

abbrev pub with_pickle : Utf8 → List Utf8 → Declarations → Declarations
with_pickle id steps d = record d { pickles = d.pickles ++ record { id = id; steps = steps } ∷ [] }

abbrev pub with_definition : Utf8 → Declarations → Declarations
with_definition id d = record d { definitions = d.definitions ++ id ∷ [] }

abbrev pub with_hook : Utf8 → Declarations → Declarations
with_hook id d = record d { hooks = d.hooks ++ id ∷ [] }

abbrev pub new_run_hook : Utf8 → RunHookRow
new_run_hook id = record { id = id; is_finished = false }

abbrev pub with_run_hook : Utf8 → Declarations → Declarations
with_run_hook id d = record d { run_hooks = d.run_hooks ++ new_run_hook id ∷ [] }

-- the list with f at the first element that passes
abbrev pub change_first : {X : Type 0} → (X → Bool) → (X → X) → List X → List X
change_first p f [] = []
change_first p f (x ∷ xs) = if p x then f x ∷ xs else (x ∷ change_first p f xs)

abbrev pub finished_run_hook : RunHookRow → RunHookRow
finished_run_hook r = record r { is_finished = true }

-- the run hook is finished; nothing else changes
abbrev pub with_finished_run_hook : Utf8 → Declarations → Declarations
with_finished_run_hook id d =
    record d { run_hooks = change_first (λ r. bytes_eq id r.id) finished_run_hook d.run_hooks }
