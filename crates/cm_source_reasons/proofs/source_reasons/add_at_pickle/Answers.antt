use Rattle.std.proofs.Common.{◌∙◌, sym, ap, append-nil, string_bytes, ◌++◌, List, ℕ}
use Rattle.cm_cases.proofs.ListingLemmas.{on_ok}
use Rattle.cm_judge.specs.State.{summary_of}
use Rattle.cm_source_reasons.proofs.SourceArms.{no_pickle}
use Rattle.cm_source_reasons.proofs.source_reasons.add_at_pickle.Goals as goal

pub returns-in-Pickle : goal.returns-in-Pickle
returns-in-Pickle c = on_ok c.add_pickle.result c.add_pickle.ensures (λ h es is. rw c.in-Pickle.is (h es is))

pub returns-in_default : goal.returns-in_default
returns-in_default c es is =
    sym (append-nil (string_bytes c.args.text.now))
    ∙ ap (λ (l : List ℕ). string_bytes c.args.text.now ++ l) (sym (no_pickle (summary_of c.args.state.now) es c.args.envelope.now c.in_default.not-Pickle))
