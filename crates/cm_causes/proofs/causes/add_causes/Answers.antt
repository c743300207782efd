use Rattle.std.proofs.Common.{◌≡◌, ◌∙◌, refl, ap, ◌++◌, append_assoc, List, ℕ, string_bytes}
use Rattle.cm_cases.proofs.ListingLemmas.{on_ok}
use Rattle.cm_reasons.specs.Lines.{limited_text}
use Rattle.cm_reasons.specs.RunReasons.{hook_causes}
use Rattle.cm_causes.specs.Causes.{case_causes, exception_line}
use Rattle.cm_causes.proofs.causes.add_causes.Goals as goal

grouped : (o a b c d : List ℕ) → (((o ++ a) ++ b) ++ c) ++ d ≡ o ++ (((a ++ b) ++ c) ++ d)
grouped o a b c d = simp append_assoc

pub returns : goal.returns
returns c =
    on_ok c.add_exception.result c.add_exception.ensures
    (λ added es is same.
    let r = c.in_ok-add_refused.ensures es is in
    let a = limited_text (case_causes c.args.policy es) in
    let b = limited_text (hook_causes c.args.policy es) in
    let d = exception_line c.args.has_exception in (
      a ++ b ++ limited_text r.0 ++ d,
      record { refused = r.0; are_refused = r.1; all = refl },
      added
          ∙ ap (λ (t : List ℕ). t ++ d) (r.2 ∙ ap (λ (t : List ℕ). t ++ limited_text r.0) (c.in_ok-add_hook_causes.ensures es is ∙ ap (λ (t : List ℕ). t ++ b) (c.in_ok-add_case_causes.ensures es is same)))
          ∙ grouped (string_bytes c.args.text.now) a b (limited_text r.0) d,
    ))
