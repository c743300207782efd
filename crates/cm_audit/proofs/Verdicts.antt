-- What is judged line by line is what is reported of the stream, so the verdict is right.
use Rattle.std.proofs.Common.{◌≡◌, refl, sym, ap, ◌∙◌, ℕ, List, Some, Result, Ok, Err, Bool, map}
use Rattle.cm_envelope.specs.Device.{Input, OfReads}
use Rattle.cm_envelope.specs.Lines.{Line}
use Rattle.cm_envelope.proofs.Sources.{whole_of}
use Rattle.cm_envelope.specs.declared.feed.Trouble.{Trouble}
use Rattle.cm_envelope.specs.declared.feed.Trouble.TheVariants.{ReadFailed, LineTooLong, StreamTooLong, Memory}
use Rattle.cm_attempt.specs.declared.status.Settings.{Settings}
use Rattle.cm_stream.specs.Stream.{IsGoodRun, FirstFault, At, Troubled, NoFault, Failed, answer_for, feed_of, verdict_in, GoodRunsOnly, NoneIsGood}
use Rattle.cm_stream.specs.ByOnePass.{first_fault}
use Rattle.cm_stream.specs.declared.laws.Audited.{Audited}
use Rattle.cm_stream.specs.declared.laws.Verdict.{Verdict}
use Rattle.cm_stream.specs.declared.laws.Verdict.TheVariants as verdict
use Rattle.cm_stream.proofs.ByGrammar.{is_first, is_first_of}
use Rattle.cm_stream.proofs.Streams.{answers_are_right}
use Rattle.cm_state.proofs.Judged.{judged_is_told}
use Rattle.cm_audit.specs.Audit.{AnswersAs, AnswersTold, GoodAtEnd, GoodAtEndIn, GoodHeard, GoodHeardIn, IsAuditOf, ShowNoFault, audited_at}
use Rattle.cm_audit.specs.Judging.{answer_of_bytes, HoldNoFault, JudgesAs}
use Rattle.cm_judge.specs.declared.stop.Stop.{Stop}
use Rattle.cm_judge.specs.declared.stop.Stop.TheVariants as stop
use Rattle.cm_audit.proofs.Deciding.{decides_good, shows_unsupported}

-- ---- a failed read

is_troubled : (w : FirstFault) (t : Trouble) → answer_for w ≡ Failed t → w ≡ Troubled t
is_troubled (At n f) t h = cc
is_troubled (Troubled u) t h = let same_trouble : u ≡ t = cc in ap Troubled same_trouble
is_troubled (NoFault es) t h = cc

shown : (settings : Settings) (before after : List ℕ) → HoldNoFault settings before after → ShowNoFault settings before after
shown settings before after h = record {
  lines = h.lines;
  ahead = h.ahead;
  begins = h.begins;
  faultless = is_first_of settings _ _ (Troubled ReadFailed) (is_troubled _ ReadFailed (sym (judged_is_told settings (map (λ (l : Line). l.bytes) h.lines) (Some ReadFailed)) ∙ h.faultless));
  nothing = h.nothing;
}

-- ---- the audit

module _ (settings : Settings) where
  same : (bytes : List ℕ) → answer_of_bytes settings bytes ≡ answer_for (first_fault settings bytes)
  same bytes = judged_is_told settings (feed_of bytes).lines (feed_of bytes).trouble

  as_reported : (bytes : List ℕ) (answer : Result Audited Trouble) → AnswersAs (answer_of_bytes settings bytes) answer → AnswersAs (answer_for (first_fault settings bytes)) answer
  as_reported bytes (Ok v) h = h ∙ same bytes
  as_reported bytes (Err ReadFailed) h = tt
  as_reported bytes (Err LineTooLong) h = h ∙ same bytes
  as_reported bytes (Err StreamTooLong) h = h ∙ same bytes
  as_reported bytes (Err Memory) h = tt

  as_told : (bytes : List ℕ) (answer : Result Audited Trouble) → AnswersAs (answer_of_bytes settings bytes) answer → AnswersTold settings bytes answer
  as_told bytes answer h = record { first = first_fault settings bytes; is_first = is_first settings bytes (first_fault settings bytes) refl; answers = as_reported bytes answer h }

  good_run : (bytes : List ℕ) (answer : Result Audited Trouble) → AnswersAs (answer_of_bytes settings bytes) answer → GoodRunsOnly settings bytes answer
  good_run bytes (Ok v) h = (answers_are_right settings bytes (Ok v) (h ∙ same bytes)).good
  good_run bytes (Err t) h = tt

  none_good : (bytes : List ℕ) (answer : Result Audited Trouble) → AnswersAs (answer_of_bytes settings bytes) answer → NoneIsGood settings bytes (verdict_in answer)
  none_good bytes (Ok v) h = (answers_are_right settings bytes (Ok v) (h ∙ same bytes)).bad
  none_good bytes (Err t) h = tt

-- what was judged line by line is an audit of the bytes
pub audit_of : (settings : Settings) (answer : Result Audited Trouble) (bytes rest : List ℕ) → JudgesAs settings answer bytes rest → IsAuditOf settings answer bytes rest
audit_of settings answer bytes rest h = record {
  good = good_run settings bytes answer h.told;
  bad = none_good settings bytes answer h.told;
  told = as_told settings bytes answer h.told;
  decided = decides_good settings bytes answer (as_told settings bytes answer h.told);
  unsupported = shows_unsupported settings bytes answer (as_told settings bytes answer h.told);
  read_failed = λ e. shown settings bytes rest (h.read_failed e);
  ahead = h.ahead;
}

-- ---- the end of the source

pub none_at_end : (after : Input) (n : ℕ) (why : Stop) → GoodAtEnd after (audited_at n why)
none_at_end after n (stop.Bad b) = tt
none_at_end after n (stop.Unsupported r) = tt
none_at_end after n stop.Memory = tt

good_in : (settings : Settings) (before after : Input) (v : Verdict) (success : Bool) → OfReads before after (IsAuditOf settings (Ok (record { verdict = v; success = success })))
    → GoodAtEndIn after v → GoodHeardIn settings before after v success
good_in settings before after (verdict.Good counts) success heard over =
    whole_of (IsAuditOf settings (Ok (record { verdict = verdict.Good counts; success = success }))) (λ bytes. IsGoodRun settings bytes counts success) before after heard over (λ xs h. h.good)
good_in settings before after (verdict.Bad n b) success heard over = tt
good_in settings before after (verdict.Unsupported n r) success heard over = tt

pub good_heard : (settings : Settings) (answer : Result Audited Trouble) (before after : Input) → OfReads before after (IsAuditOf settings answer) → GoodAtEnd after answer → GoodHeard settings before after answer
good_heard settings (Ok a) before after heard over = good_in settings before after a.verdict a.success heard over
good_heard settings (Err t) before after heard over = tt
