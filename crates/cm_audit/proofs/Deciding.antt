-- What is answered of a good stream, and of one that isn't judged.
use Rattle.std.proofs.Common.{◌≡◌, sym, ap, ◌∙◌, subst, ℕ, List, Result, Ok, Err, Bool}
use Rattle.cm_envelope.specs.declared.feed.Trouble.{Trouble}
use Rattle.cm_attempt.specs.declared.status.Settings.{Settings}
use Rattle.cm_stream.specs.Findings.{IsUnsupported}
use Rattle.cm_stream.specs.Stream.{FirstFault, At, Troubled, NoFault, IsFirstFault, Found, answer_for, answer_in, verdict_in}
use Rattle.cm_stream.specs.declared.laws.Audited.{Audited}
use Rattle.cm_stream.specs.declared.laws.Reason.{Reason}
use Rattle.cm_stream.specs.declared.laws.Verdict.{Verdict}
use Rattle.cm_stream.specs.declared.laws.Verdict.TheVariants as verdict
use Rattle.cm_stream.proofs.ByGrammar.{reported}
use Rattle.cm_stream.proofs.Reasons.{reasons_are_shown}
use Rattle.cm_stream.proofs.Streams.{run_is_told}
use Rattle.cm_audit.specs.Audit.{AnswersAs, AnswersTold, DecidesGood, ShowsUnsupported}

module _ (settings : Settings) (bytes : List ℕ) where
  pub decides_good : (answer : Result Audited Trouble) → AnswersTold settings bytes answer → DecidesGood settings bytes answer
  decides_good answer h counts success run = subst (λ a. AnswersAs a answer) (ap answer_for (sym (reported settings bytes h.first h.is_first)) ∙ run_is_told settings bytes counts success run) h.answers

  found_at : (f : FirstFault) (n : ℕ) (r : Reason) → Found n (IsUnsupported r) ≡ answer_for f → f ≡ At n (IsUnsupported r)
  found_at (At m g) n r e =
      let here : m ≡ n = cc in
      let its : g ≡ IsUnsupported r = cc in
      ap (λ k. At k g) here ∙ ap (At n) its
  found_at (Troubled t) n r e = absurd cc
  found_at (NoFault es) n r e = absurd cc

  shown_by : (v : Verdict) (success : Bool) (f : FirstFault) → IsFirstFault settings bytes f → answer_in v success ≡ answer_for f → ShowsUnsupported bytes (Ok v)
  shown_by (verdict.Good counts) success f first e = tt
  shown_by (verdict.Bad n b) success f first e = tt
  shown_by (verdict.Unsupported n r) success f first e = reasons_are_shown settings bytes n r (subst (IsFirstFault settings bytes) (found_at f n r e) first)

  pub shows_unsupported : (answer : Result Audited Trouble) → AnswersTold settings bytes answer → ShowsUnsupported bytes (verdict_in answer)
  shows_unsupported (Ok a) h = shown_by a.verdict a.success h.first h.is_first h.answers
  shows_unsupported (Err t) h = tt
