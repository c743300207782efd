-- `gate` asks for gates, and no other word does.
use Rattle.std.proofs.Common.{◌≡◌, ◌∙◌, Bool, true, false, List, [], ◌∷◌, Option, Some, None, fold, map, option_map, refl, ap, subst, sym}
use Rattle.std.proofs.lemmas.Slice.Eq.{bytes_eq-Decides}
use Rattle.std.specs.Prelude.{⊤, ℕ, codes, ◌==◌, slice_get}
use Rattle.std.specs.Str.{bytes_eq, chars}
use Rattle.clap.proofs.OnLiterals.{clap_on_literals}
use Rattle.clap.specs.Words.{Kinds, Row, Text, fault_of, first_of, subcommand_of}
use Rattle.clap.specs.Lexer.{long_of, short_of}
use Rattle.clap.specs.Walk.{Held, Waiting, bundle_met, idle, nothing_held, rows_after, walked}
use Rattle.clap.specs.Simple.{entered, names_of}
use Rattle.clap.specs.Faults.{defaults_fault, flags_fault, walk_fault}
use Rattle.cm_attempt.specs.declared.status.Settings.{Settings}
use Rattle.cm_stream.specs.Release.{Conditions}
use Rattle.ck_command_line.specs.CommandLine.{Request, Command, ask_audit, ask_cases, ask_compile, ask_results, asked_of, command_app, conditions_in, features_in, first_attempt_in, form_in, gate_asked, gate_over, over_input}
use Rattle.ck_command_line.specs.CommandLine.{audit_command, cases_command, compile_command, gate_command, results_command, runs_in, settings_in, subcommand_named, where_none}
use Rattle.ck_command_line.specs.Asked.{GateAsksForGates, IsGate, OnlyGateAsksForGates}
use Rattle.ck_command_line.proofs.Leaves.{audit_rows, cases_rows, compile_rows, gate_rows, leaf, parse_rows, program, results_rows}

-- what holds where nothing is asked for, and of what a command asks with the values after it
module _ (P : Option Request → Type 0) (of_none : P None) where
  unless_fault : (kinds : Kinds) (asked : Option Request) → P asked → P (where_none kinds asked)
  unless_fault [] asked p = p
  unless_fault (k ∷ ks) asked p = of_none

  by_command : (words : List Text) (sub : Option (Text × List Row)) → subcommand_of command_app words ≡ sub → P (subcommand_named sub) → P (asked_of words)
  unfolding asked_of
  by_command words sub is p = unless_fault (fault_of command_app words) _ (subst (λ (s : Option (Text × List Row)). P (subcommand_named s)) (sym is) p)

-- ---- what `gate` asks for

abbrev IsGateIfAny : Option Request → Type 0
IsGateIfAny None = ⊤
IsGateIfAny (Some asked) = IsGate asked

over_is_gate : (settings : Settings) (asked : Conditions) (runs paths : List Text) → IsGate (gate_over settings asked runs paths)
over_is_gate settings asked [] [] = tt
over_is_gate settings asked (run ∷ runs) [] = tt
over_is_gate settings asked runs (path ∷ paths) = tt

asked_is_gate : (settings : Option Settings) (asked : Option Conditions) (runs paths : Option (List Text)) → IsGateIfAny (gate_asked settings asked runs paths)
asked_is_gate settings None runs paths = tt
asked_is_gate settings (Some c) None paths = tt
asked_is_gate settings (Some c) (Some runs) None = tt
asked_is_gate None (Some c) (Some runs) (Some paths) = tt
asked_is_gate (Some s) (Some c) (Some runs) (Some paths) = over_is_gate s c runs paths

by_gate : (others : List Text) → IsGateIfAny (asked_of (codes "cukecheck" ∷ codes "gate" ∷ others))
by_gate others =
    let rows = rows_after (leaf gate_command).rules [] others in
    by_command IsGateIfAny tt _ _ (gate_rows others) (asked_is_gate (settings_in rows) (conditions_in rows) (runs_in rows) (features_in rows))

pub gate_asks_for_gates : GateAsksForGates
gate_asks_for_gates words others asked first asks =
    subst IsGateIfAny (sym (ap (λ (texts : List Text). asked_of (codes "cukecheck" ∷ texts)) first) ∙ asks) (by_gate others)

-- ---- what other words ask for

abbrev IsNoGate : Option Request → Type 0
IsNoGate None = ⊤
IsNoGate (Some asked) = IsGate asked → ⊥

of_input : {A : Type 0} (f : A → Command) → ((x : A) → IsGate (over_input (f x)) → ⊥) → (o : Option A) → IsNoGate (option_map (λ x. over_input (f x)) o)
of_input f each None = tt
of_input f each (Some x) = each x

-- `--` names no command, whatever follows
no_command : (words : List Text) (held : Held) (waiting : Waiting)
    → (fold (walked program.top.rules (names_of program)) (record { held = held; waiting = waiting; position = 1; is_trailing = true; stopped = None }) words).stopped ≡ None
unfolding walked
no_command [] held waiting = refl
no_command (word ∷ words) held waiting = no_command words held waiting

module _ (others : List Text) where
  abbrev After : Text → Type 0
  After word = IsNoGate (asked_of (codes "cukecheck" ∷ word ∷ others))

  after_audit : After (codes "audit")
  after_audit = by_command IsNoGate tt _ _ (audit_rows others) (of_input ask_audit (λ s never. never) (settings_in (rows_after (leaf audit_command).rules [] others)))

  after_cases : After (codes "cases")
  after_cases =
      let rows = rows_after (leaf cases_command).rules [] others in
      by_command IsNoGate tt _ _ (cases_rows others) (of_input (λ s. ask_cases s (form_in rows)) (λ s never. never) (settings_in rows))

  after_results : After (codes "results")
  after_results = by_command IsNoGate tt _ _ (results_rows others) (of_input ask_results (λ n never. never) (first_attempt_in (rows_after (leaf results_command).rules [] others)))

  after_parse : After (codes "parse")
  after_parse = by_command IsNoGate tt _ _ (parse_rows others) (λ never. never)

  after_compile : After (codes "compile")
  after_compile = by_command IsNoGate tt _ _ (compile_rows others) (of_input ask_compile (λ uri never. never) (first_of (codes "uri") (rows_after (leaf compile_command).rules [] others)))

  after_help : After (codes "help")
  unfolding asked_of bundle_met walked flags_fault walk_fault defaults_fault
  after_help = tt

  dashes_rows : subcommand_of command_app (codes "cukecheck" ∷ codes "--" ∷ others) ≡ None
  unfolding walked
  dashes_rows = ap (λ (stopped : Option (Text × List Text)). entered program stopped) (no_command others nothing_held idle)

  after_dashes : After (codes "--")
  after_dashes = by_command IsNoGate tt _ _ dashes_rows tt

  -- a word that is none of these
  module _ (word : Text) (g : bytes_eq (codes "gate") word ≡ false) (a : bytes_eq (codes "audit") word ≡ false) (k : bytes_eq (codes "cases") word ≡ false)
      (r : bytes_eq (codes "results") word ≡ false) (p : bytes_eq (codes "parse") word ≡ false) (c : bytes_eq (codes "compile") word ≡ false)
      (h : bytes_eq (codes "help") word ≡ false) (d : bytes_eq word (codes "--") ≡ false) where
    long_word : (name : Text) (value : Option Text) (help version : Bool) → long_of word ≡ Some (name, value) → bytes_eq (codes "help") name ≡ help → bytes_eq (codes "version") name ≡ version → After word
    unfolding asked_of bundle_met walked flags_fault walk_fault defaults_fault
    long_word name None true version long eh ev = rw (g, a, k, r, p, c, h, d, long, eh) tt
    long_word name (Some value) true version long eh ev = rw (g, a, k, r, p, c, h, d, long, eh) tt
    long_word name None false true long eh ev = rw (g, a, k, r, p, c, h, d, long, eh, ev) tt
    long_word name (Some value) false true long eh ev = rw (g, a, k, r, p, c, h, d, long, eh, ev) tt
    long_word name value false false long eh ev = rw (g, a, k, r, p, c, h, d, long, eh, ev) tt

    plain_word : long_of word ≡ None → short_of word ≡ None → After word
    unfolding asked_of bundle_met walked flags_fault walk_fault defaults_fault
    plain_word long short = rw (g, a, k, r, p, c, h, d, long, short) tt

    -- `h` is 104 and `V` is 86
    flag_word : (x : ℕ) (flags : Text) (f : ℕ) (help version : Bool) → long_of word ≡ None → short_of word ≡ Some (f ∷ flags) → slice_get (chars (f ∷ flags)) 0 ≡ Some x
        → (104 == x) ≡ help → (86 == x) ≡ version → After word
    unfolding asked_of bundle_met walked flags_fault walk_fault defaults_fault
    flag_word x flags f true version long short first eh ev = rw (g, a, k, r, p, c, h, d, long, short, first, eh) tt
    flag_word x flags f false true long short first eh ev = rw (g, a, k, r, p, c, h, d, long, short, first, eh, ev) tt
    flag_word x flags f false false long short first eh ev = rw (g, a, k, r, p, c, h, d, long, short, first, eh, ev) tt

    no_flag : (flags : Text) (f : ℕ) → long_of word ≡ None → short_of word ≡ Some (f ∷ flags) → slice_get (chars (f ∷ flags)) 0 ≡ None → After word
    unfolding asked_of bundle_met walked flags_fault walk_fault defaults_fault
    no_flag flags f long short first = rw (g, a, k, r, p, c, h, d, long, short, first) tt

    empty_word : long_of word ≡ None → short_of word ≡ Some [] → After word
    unfolding asked_of bundle_met walked flags_fault walk_fault defaults_fault
    empty_word long short = rw (g, a, k, r, p, c, h, d, long, short) tt

    flags_word : (flags : Text) (f : ℕ) → long_of word ≡ None → short_of word ≡ Some (f ∷ flags) → After word
    flags_word flags f long short = go (slice_get (chars (f ∷ flags)) 0) refl
      where
        go : (first : Option ℕ) → slice_get (chars (f ∷ flags)) 0 ≡ first → After word
        go None e = no_flag flags f long short e
        go (Some x) e = flag_word x flags f (104 == x) (86 == x) long short e refl refl

    short_word : (short : Option Text) → long_of word ≡ None → short_of word ≡ short → After word
    short_word None long e = plain_word long e
    short_word (Some []) long e = empty_word long e
    short_word (Some (f ∷ flags)) long e = flags_word flags f long e

    other_word : (long : Option (Text × Option Text)) → long_of word ≡ long → After word
    other_word None e = short_word (short_of word) e refl
    other_word (Some (name, value)) e = long_word name value (bytes_eq (codes "help") name) (bytes_eq (codes "version") name) e refl refl

  module _ (word : Text) where
    same : (name : Text) → bytes_eq name word ≡ true → After name → After word
    same name e = subst After ((bytes_eq-Decides name word).0 e)

    after_word : bytes_eq (codes "gate") word ≡ false → After word
    after_word g =
        go (bytes_eq (codes "audit") word) (bytes_eq (codes "cases") word) (bytes_eq (codes "results") word) (bytes_eq (codes "parse") word) (bytes_eq (codes "compile") word)
        (bytes_eq (codes "help") word) (bytes_eq word (codes "--")) refl refl refl refl refl refl refl
      where
        go : (is_audit is_cases is_results is_parse is_compile is_help is_dashes : Bool)
            → bytes_eq (codes "audit") word ≡ is_audit → bytes_eq (codes "cases") word ≡ is_cases → bytes_eq (codes "results") word ≡ is_results → bytes_eq (codes "parse") word ≡ is_parse
            → bytes_eq (codes "compile") word ≡ is_compile → bytes_eq (codes "help") word ≡ is_help → bytes_eq word (codes "--") ≡ is_dashes → After word
        go true _ _ _ _ _ _ a k r p c h d = same (codes "audit") a after_audit
        go false true _ _ _ _ _ a k r p c h d = same (codes "cases") k after_cases
        go false false true _ _ _ _ a k r p c h d = same (codes "results") r after_results
        go false false false true _ _ _ a k r p c h d = same (codes "parse") p after_parse
        go false false false false true _ _ a k r p c h d = same (codes "compile") c after_compile
        go false false false false false true _ a k r p c h d = same (codes "help") h after_help
        go false false false false false false true a k r p c h d = subst After (sym ((bytes_eq-Decides word (codes "--")).0 d)) after_dashes
        go false false false false false false false a k r p c h d = other_word word g a k r p c h d (long_of word) refl

no_word : IsNoGate (asked_of (codes "cukecheck" ∷ []))
unfolding asked_of clap_on_literals
no_word = tt

-- texts that ask for a gate begin with `gate`
begins : (texts : List Text) (asked : Request) → asked_of (codes "cukecheck" ∷ texts) ≡ Some asked → IsGate asked → (others : List Text) × (texts ≡ codes "gate" ∷ others)
begins [] asked asks is = absurd (subst IsNoGate asks no_word is)
begins (word ∷ others) asked asks is = go (bytes_eq (codes "gate") word) refl
  where
    go : (here : Bool) → bytes_eq (codes "gate") word ≡ here → (rest : List Text) × (word ∷ others ≡ codes "gate" ∷ rest)
    go true e = (others, ap (λ (w : Text). w ∷ others) (sym ((bytes_eq-Decides (codes "gate") word).0 e)))
    go false e = absurd (subst IsNoGate asks (after_word others word e) is)

pub only_gate_asks_for_gates : OnlyGateAsksForGates
only_gate_asks_for_gates words asked asks is = begins (map (λ w. w.now) words) asked asks is
