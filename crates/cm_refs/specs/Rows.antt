-- The rows of pickles and of run hooks, as the entries of their maps have them.
use Rattle.std.specs.Prelude.{Bool, List, map}
use Rattle.kept_texts.specs.Kept.{bytes_of}
use Rattle.kept_texts.specs.declared.kept_text.KeptText.{KeptText}
use Rattle.cm_refs.specs.Declarations.{PickleRow, RunHookRow, Utf8}
use Rattle.cm_refs.specs.StepIds.{ids_in}
use Rattle.cm_refs.specs.declared.declared.StepIds.{StepIds}

abbrev pub pickle_row : Utf8 → StepIds → PickleRow
pickle_row id steps = record { id = id; steps = ids_in steps }

abbrev pub pickle_rows : List (KeptText × StepIds) → List PickleRow
pickle_rows = map (λ e. pickle_row (bytes_of e.0) e.1)

abbrev pub run_hook_row : Utf8 → Bool → RunHookRow
run_hook_row id is_finished = record { id = id; is_finished = is_finished }

abbrev pub run_hook_rows : List (KeptText × Bool) → List RunHookRow
run_hook_rows = map (λ e. run_hook_row (bytes_of e.0) e.1)
