-- The lines of sources that are refused and of run hooks, by what is kept of the envelopes.
use Rattle.std.specs.Prelude.{◌≡◌, ◌≢◌, ◌⊎◌, ℕ, not, Bool, List, [], ◌∷◌, Option, Some, None, find, map, option_map}
use Rattle.std.specs.List.{filter, filter_map, list_any}
use Rattle.std.specs.Str.{bytes_eq}
use Rattle.cm_attempt.specs.Table.{is_good_status}
use Rattle.cm_attempt.specs.declared.status.Policy.{Policy}
use Rattle.cm_attempt.specs.declared.status.Status.{Status}
use Rattle.cm_stream.specs.Readings.{IsReading, Refused}
use Rattle.cm_stream.specs.Texts.{Utf8}
use Rattle.gk_grammar.specs.Documents.{HasFault, IsTooLong}
use Rattle.gk_grammar.specs.declared.fault.FaultKind.TheVariants.{UnsupportedLanguage}
use Rattle.gk_tree.specs.declared.fault.ParseFault.{ParseFault}
use Rattle.cm_reasons.specs.RunReasons.{bad_hook_line, refused_line}
use Rattle.cm_reasons.specs.declared.refused.RefusedSource.{RefusedSource}
use Rattle.cm_reasons.specs.declared.run_hooks.BadHook.{BadHook}
use Rattle.cm_reasons.specs.declared.run_listing.RunHookEnd.{RunHookEnd}
use Rattle.cm_reasons.specs.declared.run_listing.RunHookEntry.{RunHookEntry}
use Rattle.cm_reasons.specs.declared.run_listing.RunListing.{RunListing}
use Rattle.cm_reasons.specs.declared.run_listing.SourceEntry.{SourceEntry}
use Rattle.cm_steps.specs.Steps.{hook_text}

-- ---- sources

-- the fault for which a text is refused, if it is
abbrev pub IsRefusalOf : Utf8 → Option ParseFault → Type 0
IsRefusalOf text (Some f) =
    (IsTooLong text → ⊥) × HasFault text f.kind f.line f.column × (f.kind ≢ UnsupportedLanguage)
IsRefusalOf text None = IsReading text Refused → ⊥

abbrev pub fault_line : Utf8 → ParseFault → List ℕ
fault_line uri f = refused_line uri f.kind f.line f.column

abbrev pub refused_source_line : RefusedSource → List ℕ
refused_source_line r = fault_line r.uri.now r.fault

abbrev pub AreEntryLines : List SourceEntry → List (List ℕ) → Type 0
AreEntryLines [] lines = lines ≡ []
AreEntryLines (s ∷ later) lines =
    ((f : ParseFault) × IsRefusalOf s.content (Some f) × (rest : List (List ℕ))
    × (lines ≡ fault_line s.uri f ∷ rest) × AreEntryLines later rest)
    ⊎ (IsRefusalOf s.content None × AreEntryLines later lines)

-- ---- run hooks

abbrev pub entry_line : RunHookEntry → List ℕ
entry_line h = hook_text h.hook_id

abbrev pub is_finished_in : RunListing → RunHookEntry → Bool
is_finished_in l h = list_any (λ e. bytes_eq h.id e.run_hook) l.ends

abbrev pub open_entries : RunListing → List RunHookEntry
open_entries l = filter (λ h. not (is_finished_in l h)) l.hooks

-- the first status of the ends of the run hook that isn't good
abbrev pub bad_end_in : Policy → List RunHookEnd → Utf8 → Option Status
bad_end_in policy ends id =
    find (λ status. not (is_good_status policy status))
    (map (λ e. e.status) (filter (λ e. bytes_eq id e.run_hook) ends))

abbrev pub bad_line : BadHook → List ℕ
bad_line b = bad_hook_line b.hook.now.hook_id b.status

abbrev pub bad_entry_lines : Policy → List RunHookEnd → List RunHookEntry → List (List ℕ)
bad_entry_lines policy ends hooks =
    filter_map (λ h. option_map (bad_hook_line h.hook_id) (bad_end_in policy ends h.id)) hooks
