use Rattle.std.proofs.Common.{◌∙◌, ap, sym, map, ◌++◌, List, ℕ}
use Rattle.std.specs.String.{string_bytes}
use Rattle.cm_attempt.specs.Table.{has_text}
use Rattle.cm_cases.proofs.ListingLemmas.{on_ok}
use Rattle.cm_release.specs.Kept.{all_unmatched}
use Rattle.cm_release.proofs.KeptLemmas.{case_added, more_added}
use Rattle.cm_release.proofs.tally.Keeping.note_case.Goals as goal

pub returns-clause-unmatched : goal.returns-clause-unmatched
returns-clause-unmatched c =
    let cases = c.args.self.now.kept.cases in
    on_ok c.push.result c.push.ensures.ok
    (λ pushed before text.
    c.in_ok-add_ids.ensures text
    ∙ more_added (map string_bytes c.args.self.now.unmatched.keys) (all_unmatched cases) c.as_slice.result.now text (before text)
    ∙ ap (has_text text)
    (ap (λ (l : List (List ℕ)). all_unmatched cases ++ l) c.as_slice.ensures ∙ case_added cases c.in_ok-entry.entry ∙ ap all_unmatched (sym pushed)))
