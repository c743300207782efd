-- Which runs and which feature files a gate is asked for over.
use Rattle.std.proofs.Common.{◌≡◌, ◌∙◌, Bool, true, false, List, [], ◌∷◌, Option, Some, None, option_map, refl, subst}
use Rattle.std.specs.Prelude.{◌≢◌, ⊤, codes, if◌then◌else◌}
use Rattle.std.specs.Str.{bytes_eq}
use Rattle.clap.specs.Words.{Kinds, Row, Text, all_of, fault_of, first_of, subcommand_of}
use Rattle.cm_attempt.specs.declared.status.Settings.{Settings}
use Rattle.cm_stream.specs.Release.{Conditions}
use Rattle.ck_command_line.specs.CommandLine.{Request, Command, ask_audit, ask_cases, ask_compile, ask_gate, ask_results, asked_of, command_app, command_named, over_features, over_input, over_runs}
use Rattle.ck_command_line.specs.CommandLine.{conditions_by, conditions_in, features_in, features_named, first_attempt_in, form_in, gate_asked, has_flag, has_two_inputs, runs_in, runs_named, settings_in, subcommand_named, tags_allowed, where_none}
use Rattle.ck_command_line.specs.Asked.{FeaturesAreNamed, IsOverFeatures, RunsAreNamed, RunsAreWhole}

-- If runs are asked for, there is one, and no two are standard input; only with feature files is a run a part.
abbrev Named : Option Request → Type 0
Named None = ⊤
Named (Some (over_input (ask_gate settings asked))) = asked.is_part ≡ false
Named (Some (over_input command)) = ⊤
Named (Some (over_runs gate)) = (gate.runs ≢ []) × (has_two_inputs gate.runs ≡ false) × (gate.asked.is_part ≡ false)
Named (Some (over_features gate)) = IsOverFeatures gate

-- ---- what each part of a gate is, where it has no mistake

-- the conditions of a whole run, which let each pickle be unrun where the flag does
abbrev AreWhole : (unrun : Bool) → Option Conditions → Type 0
AreWhole unrun None = ⊤
AreWhole unrun (Some asked) = (asked.is_part ≡ false) × (asked.allows_unrun ≡ unrun)

whole : (unrun four retries skips stepless undefined : Bool) (tags : Option (List Text)) → AreWhole unrun (option_map (conditions_by unrun four retries skips stepless undefined) tags)
whole unrun four retries skips stepless undefined None = tt
whole unrun four retries skips stepless undefined (Some tags) = (refl, refl)

conditions_whole : (rows : List Row) → AreWhole (has_flag (codes "allow-unrun") rows) (conditions_in rows)
conditions_whole rows =
    whole (has_flag (codes "allow-unrun") rows) (has_flag (codes "strict") rows) (has_flag (codes "no-retries") rows) (has_flag (codes "no-skips") rows)
    (has_flag (codes "no-stepless") rows) (has_flag (codes "no-undefined") rows) (tags_allowed (has_flag (codes "allow-unrun") rows) (all_of (codes "allow-unrun-tagged") rows))

abbrev HaveOneInput : Option (List Text) → Type 0
HaveOneInput None = ⊤
HaveOneInput (Some runs) = has_two_inputs runs ≡ false

one_input : (found : Option (List Text)) → HaveOneInput (runs_named found)
one_input None = refl
one_input (Some runs) = go (has_two_inputs runs) refl
  where
    go : (two : Bool) → has_two_inputs runs ≡ two → HaveOneInput (if two then None else Some runs)
    go true e = tt
    go false e = e

-- where there is a path, the flag doesn't let each pickle be unrun
abbrev LetNone : (unrun : Bool) → Option (List Text) → Type 0
LetNone unrun None = ⊤
LetNone unrun (Some []) = ⊤
LetNone unrun (Some (path ∷ paths)) = unrun ≡ false

let_none : (unrun : Bool) (found : Option (List Text)) → LetNone unrun (features_named unrun found)
let_none unrun None = tt
let_none true (Some paths) = tt
let_none false (Some []) = tt
let_none false (Some (path ∷ paths)) = refl

gate_named : (unrun : Bool) (settings : Option Settings) (asked : Option Conditions) (runs paths : Option (List Text)) → AreWhole unrun asked → HaveOneInput runs → LetNone unrun paths
    → Named (gate_asked settings asked runs paths)
gate_named unrun settings None runs paths whole one none = tt
gate_named unrun settings (Some c) None paths whole one none = tt
gate_named unrun settings (Some c) (Some runs) None whole one none = tt
gate_named unrun None (Some c) (Some runs) (Some paths) whole one none = tt
gate_named unrun (Some s) (Some c) (Some []) (Some []) whole one none = whole.0
gate_named unrun (Some s) (Some c) (Some (run ∷ runs)) (Some []) whole one none = (λ same. cc, one, whole.0)
gate_named unrun (Some s) (Some c) (Some runs) (Some (path ∷ paths)) whole one none = record { some_path = λ same. cc; one_input = one; each_is_part = refl; none_unrun = whole.1 ∙ none }

-- ---- what words ask for

of_input : {A : Type 0} (f : A → Command) → ((x : A) → Named (Some (over_input (f x)))) → (o : Option A) → Named (option_map (λ x. over_input (f x)) o)
of_input f each None = tt
of_input f each (Some x) = each x

either : (here : Bool) (x y : Option Request) → Named x → Named y → Named (if here then x else y)
either true x y a b = a
either false x y a b = b

by_name : (name : Text) (rows : List Row) → Named (command_named name rows)
by_name name rows =
    either (bytes_eq name (codes "parse")) _ _ tt
    (
    either (bytes_eq name (codes "compile")) _ _ (of_input ask_compile (λ uri. tt) (first_of (codes "uri") rows))
    (
    either (bytes_eq name (codes "audit")) _ _ (of_input ask_audit (λ s. tt) (settings_in rows))
    (
    either (bytes_eq name (codes "gate")) _ _ (
    gate_named (has_flag (codes "allow-unrun") rows) (settings_in rows) (conditions_in rows) (runs_in rows) (features_in rows) (conditions_whole rows) (one_input (all_of (codes "run") rows))
    (let_none (has_flag (codes "allow-unrun") rows) (all_of (codes "features") rows))
    )
    (
    either (bytes_eq name (codes "results")) _ _ (of_input ask_results (λ n. tt) (first_attempt_in rows))
    (either (bytes_eq name (codes "cases")) _ _ (of_input (λ s. ask_cases s (form_in rows)) (λ s. tt) (settings_in rows)) tt)
    )
    )
    )
    )

by_subcommand : (kinds : Kinds) (sub : Option (Text × List Row)) → Named (where_none kinds (subcommand_named sub))
by_subcommand [] None = tt
by_subcommand [] (Some s) = by_name s.0 s.1
by_subcommand (k ∷ ks) sub = tt

by_words : (words : List Text) → Named (asked_of words)
unfolding asked_of
by_words words = by_subcommand (fault_of command_app words) (subcommand_of command_app words)

pub runs_are_named : RunsAreNamed
runs_are_named words gate asks = let named = subst Named asks (by_words _) in (named.0, named.1)

pub features_are_named : FeaturesAreNamed
features_are_named words gate asks = subst Named asks (by_words _)

pub runs_are_whole : RunsAreWhole
runs_are_whole = record {
  input = λ words settings asked asks. subst Named asks (by_words _);
  runs = λ words gate asks. (subst Named asks (by_words _)).2;
}
