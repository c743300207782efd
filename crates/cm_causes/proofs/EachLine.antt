-- Each test case that isn't good, each run hook that didn't end so, each refused source and an exception has its line.
use Rattle.std.proofs.Common.{◌≡◌, sym, ap, subst, ℕ, not, List, [], ◌∷◌, ◌++◌, ⊎_elim}
use Rattle.std.specs.Prelude.{option_map}
use Rattle.std.specs.List.{Contains}
use Rattle.cm_envelope.specs.declared.envelope.Source.{Source}
use Rattle.cm_stream.specs.Readings.{IsReading, Refused}
use Rattle.cm_stream.specs.References.{cases, is_good_case, run_hooks}
use Rattle.cm_reasons.specs.Lines.{limited_text}
use Rattle.cm_reasons.specs.RunReasons.{AreRefusedLines, bad_end, bad_hook_line, hook_causes, line_of_refused}
use Rattle.cm_causes.specs.Causes.{case_causes, cause_of_case}
use Rattle.cm_causes.specs.Laws.{CasesHaveLines, ExceptionsHaveLines, HooksHaveLines, SourcesHaveLines}
use Rattle.cm_causes.proofs.CauseLists.{contains_cases, contains_here, contains_none, contains_there, given_in, kept_in}

pub cases_have_lines : CasesHaveLines
cases_have_lines policy es c within bad = kept_in (cause_of_case es) (λ x. not (is_good_case policy es x)) (cases es) c within (ap not bad)

pub hooks_have_lines : HooksHaveLines
hooks_have_lines policy es s status within is =
    given_in (λ x. option_map (bad_hook_line x.hook_id) (bad_end policy es x)) (run_hooks es) s (bad_hook_line s.hook_id status) within (ap (option_map (bad_hook_line s.hook_id)) is)

-- a line of the source is among these
abbrev HasLine : List (List ℕ) → Source → Type 0
HasLine lines s = (refused : IsReading s.content Refused) × Contains lines (line_of_refused s refused.1)

-- what is so of a source that is refused before others
abbrev IsFirst : Source → List Source → List (List ℕ) → Type 0
IsFirst x later lines = (r : IsReading x.content Refused) × (rest : List (List ℕ)) × (lines ≡ line_of_refused x r.1 ∷ rest) × AreRefusedLines later rest

its_own : (x : Source) (later : List Source) (lines : List (List ℕ)) → IsFirst x later lines → HasLine lines x
its_own x later lines r =
    let line = line_of_refused x r.0.1 in
    (r.0, subst (λ (ls : List (List ℕ)). Contains ls line) (sym r.2) (contains_here line r.1))

after_it : (x : Source) (later : List Source) (lines : List (List ℕ)) (s : Source) (r : IsFirst x later lines) → HasLine r.1 s → HasLine lines s
after_it x later lines s r found =
    let line = line_of_refused s found.0.1 in
    (found.0, subst (λ (ls : List (List ℕ)). Contains ls line) (sym r.2) (contains_there (line_of_refused x r.0.1) r.1 line found.1))

pub sources_have_lines : SourcesHaveLines
sources_have_lines [] lines are s within refused = absurd (contains_none s within)
sources_have_lines (x ∷ later) lines are s within refused =
    ⊎_elim
    (λ same. subst (HasLine lines) same (⊎_elim (its_own x later lines) (λ a. absurd (a.0 (subst (λ (y : Source). IsReading y.content Refused) (sym same) refused))) are))
    (λ k. ⊎_elim (λ r. after_it x later lines s r (sources_have_lines later r.1 r.3 s k refused)) (λ a. sources_have_lines later lines a.1 s k refused) are)
    (contains_cases x later s within)

pub exceptions_have_lines : ExceptionsHaveLines
exceptions_have_lines policy es text are = (limited_text (case_causes policy es) ++ limited_text (hook_causes policy es) ++ limited_text are.refused, are.all)
