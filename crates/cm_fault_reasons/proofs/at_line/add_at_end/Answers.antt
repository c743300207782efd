use Rattle.std.proofs.Common.{◌∙◌, ap, refl, ◌++◌, List, ℕ, append_assoc, string_bytes}
use Rattle.cm_cases.proofs.ListingLemmas.{on_ok}
use Rattle.cm_reasons.specs.Lines.{limited_text}
use Rattle.cm_fault_reasons.specs.RunLines.{open_case_lines}
use Rattle.cm_fault_reasons.proofs.at_line.add_at_end.Goals as goal

pub returns : goal.returns
returns c =
    on_ok c.add_open_cases.result c.add_open_cases.ensures
    (λ left es is.
    let refused = c.in_ok-add_refused.ensures es is in (
      limited_text refused.0 ++ open_case_lines es,
      (refused.0, refused.1, refl),
      left es is ∙ ap (λ (text : List ℕ). text ++ open_case_lines es) refused.2
          ∙ append_assoc (string_bytes c.args.text.now) (limited_text refused.0) (open_case_lines es),
    ))
