use Rattle.std.proofs.Common.{◌∙◌, ap, ◌++◌, List, ℕ, map, string_bytes}
use Rattle.cm_cases.proofs.ListingLemmas.{on_ok}
use Rattle.cm_reasons.specs.Lines.{limited_text}
use Rattle.cm_reasons.specs.RunKept.{bad_line}
use Rattle.cm_reasons.specs.declared.run_hooks.BadHook.{BadHook}
use Rattle.cm_reasons.specs.declared.trail.Trail.{Trail}
use Rattle.cm_reasons.proofs.RunHookLemmas.{cause_lines}
use Rattle.cm_reasons.proofs.run_hooks.add_hook_causes.Goals as goal

pub returns : goal.returns
returns c =
    on_ok c.add_limited.result c.add_limited.ensures
    (λ added es is.
    added es tt
    ∙ ap (λ (bs : List BadHook). string_bytes c.args.text.now ++ limited_text (map bad_line bs)) c.as_slice.ensures.value
    ∙ ap (λ (ls : List (List ℕ)). string_bytes c.args.text.now ++ limited_text ls) (c.in_ok-bad.ensures ∙ cause_lines c.args.policy c.args.trail.now.run es (ap (λ (t : Trail). t.run) is)))
