-- What the status of a run says, from the report that was delivered.
use Rattle.std.proofs.Common.{◌≡◌, ◌∙◌, ◌⊎◌, ◌++◌, [], ℕ, List, Option, Some, None, Result, Ok, Err, Bool, inl, inr, refl, sym, ap, subst}
use Rattle.cm_envelope.specs.Device.{Input, Output, Writes}
use Rattle.cm_envelope.proofs.Sources.{input_weaker, of_any, of_reads, reads_weaker, whole_of}
use Rattle.cm_envelope.specs.declared.feed.Trouble.TheVariants.{Memory}
use Rattle.cm_attempt.specs.declared.status.Settings.{Settings}
use Rattle.gk_grammar.specs.Tree.{Document}
use Rattle.cm_stream.specs.Findings.{IsBad, IsUnsupported}
use Rattle.cm_stream.specs.Release.{Conditions, hold_of, release_counts_of}
use Rattle.cm_stream.specs.Results.{first_results_fault}
use Rattle.cm_stream.specs.Stream.{At, FirstFault, GoodRunIn, NoFault, NoneIsGood, Troubled, answer_of_audit}
use Rattle.cm_stream.specs.declared.laws.Audited.{Audited}
use Rattle.cm_stream.specs.declared.laws.Hold.{Hold}
use Rattle.cm_stream.specs.declared.laws.Verdict.{Verdict}
use Rattle.cm_stream.specs.declared.laws.Verdict.TheVariants as verdict
use Rattle.cm_stream.proofs.Released.{released_is_not_held}
use Rattle.ck_command_line.specs.CommandLine.{Command, ask_audit, ask_cases, ask_compile, ask_gate, ask_parse, ask_results}
use Rattle.ck_command_line.specs.declared.command_line.CaseForm.{CaseForm}
use Rattle.ck_commands.specs.Cases.{ListsOrTells, PrintsListed}
use Rattle.ck_commands.specs.Features.{IsFeatureOf, fault_report, parse_report}
use Rattle.ck_commands.specs.Gate.{PrintsBadWhy, PrintsReleased, ReleasesOrTells, held_status, second_line}
use Rattle.ck_commands.specs.Output.{Breaks, Delivers, DeliversOne, Prints, Report, code_of, trouble_report}
use Rattle.ck_commands.specs.Results.{results_report}
use Rattle.ck_commands.specs.Run.{IsBadFor, IsDone, PrintsCompiled, PrintsDocument, PrintsFault, PrintsRefused, PrintsResults, IsReportOf, Reports, ReportsCompiled, Runs, Tells}
use Rattle.ck_commands.specs.Verdicts.{PrintsBad, PrintsGood, counts_text, verdict_report}
use Rattle.ck_commands.specs.declared.command_feature.FeatureFault.{FeatureFault}
use Rattle.ck_commands.specs.declared.command_feature.FeatureFault.TheVariants as fault
use Rattle.ck_commands.specs.declared.report.ExitStatus.{ExitStatus}
use Rattle.ck_commands.specs.declared.report.ExitStatus.TheVariants as exit

pub not_both : (m n k : ℕ) → k ≡ m → k ≡ n → (m ≡ n → ⊥) → ⊥
not_both m n k is other differ = differ (sym is ∙ other)

pub is_done : (s : ExitStatus) → code_of s ≡ 0 → s ≡ exit.Done
is_done exit.Done e = refl
is_done exit.Refused e = cc
is_done exit.Usage e = cc
is_done exit.Trouble e = cc
is_done exit.Unsupported e = cc
is_done exit.Held e = cc

-- a report that was delivered, with a code other than that of trouble
pub was_printed : (r : Report) (code : ℕ) (before after : Output) → Delivers r code before after → (code ≡ 3 → ⊥) → Prints r code before after
was_printed r code before after d other = go d.one
  where
    go : Prints r code before after ⊎ Breaks r.text code before after → Prints r code before after
    go (inl p) = p
    go (inr b) = absurd (other b.status)

not_trouble : (r : Report) (code : ℕ) (before after : Output) → Prints r code before after → (code ≡ 3 → ⊥) → r.status ≡ exit.Trouble → ⊥
not_trouble r code before after p other is = other (p.status ∙ ap code_of is)

-- ---- audits

module _ (settings : Settings) (code : ℕ) (before after : Output) where
  good : (bytes : List ℕ) (v : Verdict) (success : Bool) → GoodRunIn settings bytes v success → Prints (verdict_report (answer_of_audit (Ok (record { verdict = v; success = success })))) code before after
      → code ≡ 0 → PrintsGood settings before after bytes
  good bytes (verdict.Good counts) success run p zero = (counts, (success, run), p.written)
  good bytes (verdict.Bad n b) success run p zero = absurd (not_both 1 0 code p.status zero (λ e. cc))
  good bytes (verdict.Unsupported n r) success run p zero = absurd (not_both 4 0 code p.status zero (λ e. cc))

  bad : (bytes : List ℕ) (v : Verdict) (success : Bool) → NoneIsGood settings bytes (Ok v) → Prints (verdict_report (answer_of_audit (Ok (record { verdict = v; success = success })))) code before after
      → code ≡ 1 → PrintsBad settings before after bytes
  bad bytes (verdict.Good counts) success none p one = absurd (not_both 0 1 code p.status one (λ e. cc))
  bad bytes (verdict.Bad n b) success none p one = (n, b, none, p.written)
  bad bytes (verdict.Unsupported n r) success none p one = absurd (not_both 4 1 code p.status one (λ e. cc))

-- ---- released runs

not_held : (h : Option Hold) → code_of (held_status h) ≡ 0 → h ≡ None
not_held None e = refl
not_held (Some h) e = cc

held_or_done : (h : Option Hold) → code_of (held_status h) ≡ 1 → ⊥
held_or_done None e = cc
held_or_done (Some h) e = cc

module _ (settings : Settings) (asked : Conditions) (code : ℕ) (before after : Output) where
  released : (bytes : List ℕ) (a : Audited) (v : Verdict) (r : Report) → a.verdict ≡ v → ReleasesOrTells settings asked bytes a v r → Prints r code before after → code ≡ 0 → PrintsReleased settings asked before after bytes
  released bytes a (verdict.Good counts) r is h p zero =
      let found = release_counts_of asked settings.policy h.0.judged in
      let none = not_held (hold_of asked a.success counts found) (sym (p.status ∙ ap (λ (x : Report). code_of x.status) h.1.2) ∙ zero) in (
        counts,
        found,
        (released_is_not_held settings asked bytes counts found a.success h.0 refl).0 none,
        subst (Writes before after) (ap (λ (x : Report). x.text) h.1.2 ∙ ap (λ (o : Option Hold). counts_text counts ++ second_line asked.is_part o counts found h.1.0) none) p.written,
      )
  released bytes a (verdict.Bad n b) r is h p zero = absurd (not_both 1 0 code (p.status ∙ ap (λ (x : Report). code_of x.status) h.2) zero (λ e. cc))
  released bytes a (verdict.Unsupported n u) r is h p zero = absurd (not_both 4 0 code (p.status ∙ ap (λ (x : Report). code_of x.status) h.2) zero (λ e. cc))

  not_released : (bytes : List ℕ) (a : Audited) (v : Verdict) (r : Report) → a.verdict ≡ v → ReleasesOrTells settings asked bytes a v r → NoneIsGood settings bytes (Ok v) → Prints r code before after → code ≡ 1 → PrintsBadWhy settings before after bytes
  not_released bytes a (verdict.Good counts) r is h none p one = absurd (held_or_done (hold_of asked a.success counts (release_counts_of asked settings.policy h.0.judged)) (sym (p.status ∙ ap (λ (x : Report). code_of x.status) h.1.2) ∙ one))
  not_released bytes a (verdict.Bad n b) r is h none p one = (n, b, none, h.0, h.1, subst (Writes before after) (ap (λ (x : Report). x.text) h.2) p.written)
  not_released bytes a (verdict.Unsupported n u) r is h none p one = absurd (not_both 4 1 code (p.status ∙ ap (λ (x : Report). code_of x.status) h.2) one (λ e. cc))

-- ---- the lines of cases

module _ (settings : Settings) (code : ℕ) (before after : Output) where
  listed : (form : CaseForm) (bytes : List ℕ) (a : Audited) (v : Verdict) (r : Report) → a.verdict ≡ v → ListsOrTells settings form bytes a v r → Prints r code before after → code ≡ 0 → PrintsListed settings form before after bytes
  listed form bytes a (verdict.Good counts) r is h p zero = (h.0, h.1, h.2, subst (λ (x : Report). Writes before after x.text) h.3 p.written)
  listed form bytes a (verdict.Bad n b) r is h p zero = absurd (not_both 1 0 code (p.status ∙ ap (λ (x : Report). code_of x.status) h ∙ rw is refl) zero (λ e. cc))
  listed form bytes a (verdict.Unsupported n u) r is h p zero = absurd (not_both 4 0 code (p.status ∙ ap (λ (x : Report). code_of x.status) h ∙ rw is refl) zero (λ e. cc))

  not_listed : (form : CaseForm) (bytes : List ℕ) (a : Audited) (v : Verdict) (r : Report) → a.verdict ≡ v → ListsOrTells settings form bytes a v r → NoneIsGood settings bytes (Ok v) → Prints r code before after → code ≡ 1 → PrintsBad settings before after bytes
  not_listed form bytes a (verdict.Good counts) r is h none p one = absurd (not_both 0 1 code (p.status ∙ ap (λ (x : Report). code_of x.status) h.3) one (λ e. cc))
  not_listed form bytes a (verdict.Bad n b) r is h none p one = (n, b, none, subst (Writes before after) (ap (λ (x : Report). x.text) h ∙ rw is refl) p.written)
  not_listed form bytes a (verdict.Unsupported n u) r is h none p one = absurd (not_both 4 1 code (p.status ∙ ap (λ (x : Report). code_of x.status) h ∙ rw is refl) one (λ e. cc))

-- ---- features and results

module _ (code : ℕ) (before after : Output) where
  document : (bytes : List ℕ) (feature : Result Document FeatureFault) → IsFeatureOf bytes feature → Prints (parse_report feature) code before after → code ≡ 0 → PrintsDocument before after bytes
  document bytes (Ok d) is p zero = (d, is.0, is.1, p.written)
  document bytes (Err (fault.Refused f)) is p zero = absurd (not_both 1 0 code p.status zero (λ e. cc))
  document bytes (Err fault.ReadFailed) is p zero = absurd is
  document bytes (Err fault.NotUtf8) is p zero = absurd (not_both 3 0 code p.status zero (λ e. cc))
  document bytes (Err fault.Memory) is p zero = absurd (not_both 3 0 code p.status zero (λ e. cc))

  no_document : (bytes : List ℕ) (feature : Result Document FeatureFault) → IsFeatureOf bytes feature → Prints (parse_report feature) code before after → code ≡ 1 → PrintsRefused before after bytes
  no_document bytes (Ok d) is p one = absurd (not_both 0 1 code p.status one (λ e. cc))
  no_document bytes (Err (fault.Refused f)) is p one = (f, is, p.written)
  no_document bytes (Err fault.ReadFailed) is p one = absurd is
  no_document bytes (Err fault.NotUtf8) is p one = absurd (not_both 3 1 code p.status one (λ e. cc))
  no_document bytes (Err fault.Memory) is p one = absurd (not_both 3 1 code p.status one (λ e. cc))

  compiled : (uri bytes : List ℕ) (r : Report) → ReportsCompiled uri bytes r → Prints r code before after → code ≡ 0 → PrintsCompiled uri before after bytes
  compiled uri bytes r (inl h) p zero = (h.0, h.1, h.2, subst (λ (x : Report). Writes before after x.text) h.3 p.written)
  compiled uri bytes r (inr h) p zero =
      let q = document bytes (Err h.0) h.1 (subst (λ (x : Report). Prints x code before after) h.2 p) zero in
      absurd (never h.0 h.1 (subst (λ (x : Report). Prints x code before after) h.2 p))
    where
      never : (f : FeatureFault) → IsFeatureOf bytes (Err f) → Prints (fault_report f) code before after → ⊥
      never (fault.Refused f) is p = not_both 1 0 code p.status zero (λ e. cc)
      never fault.ReadFailed is p = absurd is
      never fault.NotUtf8 is p = not_both 3 0 code p.status zero (λ e. cc)
      never fault.Memory is p = not_both 3 0 code p.status zero (λ e. cc)

  not_compiled : (uri bytes : List ℕ) (r : Report) → ReportsCompiled uri bytes r → Prints r code before after → code ≡ 1 → PrintsRefused before after bytes
  not_compiled uri bytes r (inl h) p one = absurd (not_both 0 1 code (p.status ∙ ap (λ (x : Report). code_of x.status) h.3) one (λ e. cc))
  not_compiled uri bytes r (inr h) p one = no_document bytes (Err h.0) h.1 (subst (λ (x : Report). Prints x code before after) h.2 p) one

  results : (first : ℕ) (bytes : List ℕ) (f : FirstFault) → first_results_fault first bytes ≡ f → Prints (results_report f) code before after → code ≡ 0 → PrintsResults first before after bytes
  results first bytes (NoFault es) is p zero = (es, is, p.written)
  results first bytes (At n (IsBad b)) is p zero = absurd (not_both 1 0 code p.status zero (λ e. cc))
  results first bytes (At n (IsUnsupported r)) is p zero = absurd (not_both 4 0 code p.status zero (λ e. cc))
  results first bytes (Troubled t) is p zero = absurd (not_both 3 0 code p.status zero (λ e. cc))

  no_results : (first : ℕ) (bytes : List ℕ) (f : FirstFault) → first_results_fault first bytes ≡ f → Prints (results_report f) code before after → code ≡ 1 → PrintsFault first before after bytes
  no_results first bytes (NoFault es) is p one = absurd (not_both 0 1 code p.status one (λ e. cc))
  no_results first bytes (At n (IsBad b)) is p one = (n, b, is, p.written)
  no_results first bytes (At n (IsUnsupported r)) is p one = absurd (not_both 4 1 code p.status one (λ e. cc))
  no_results first bytes (Troubled t) is p one = absurd (not_both 3 1 code p.status one (λ e. cc))

-- ---- each command

abbrev Printed : ℕ → Output → Output → Report → Type 0
Printed code before after r = Prints r code before after

pub done_of : (c : Command) (bytes rest : List ℕ) (r : Report) (code : ℕ) (before after : Output) → Tells c bytes rest r → Prints r code before after → code ≡ 0 → IsDone c before after bytes
done_of ask_parse bytes rest r code before after t p zero = document code before after bytes t.0 t.1 (subst (Printed code before after) t.2 p) zero
done_of (ask_compile uri) bytes rest r code before after t p zero = compiled code before after uri bytes r t p zero
done_of (ask_audit s) bytes rest r code before after t p zero = good s code before after bytes t.0.verdict t.0.success t.1.good (subst (Printed code before after) t.2 p) zero
done_of (ask_gate s asked) bytes rest r code before after t p zero = released s asked code before after bytes t.0 t.0.verdict r refl t.2 p zero
done_of (ask_results n) bytes rest r code before after t p zero = results code before after n bytes (first_results_fault n bytes) refl (subst (Printed code before after) t p) zero
done_of (ask_cases s form) bytes rest r code before after t p zero = listed s code before after form bytes t.0 t.0.verdict r refl t.2 p zero

bad_of : (c : Command) (bytes rest : List ℕ) (r : Report) (code : ℕ) (before after : Output) → Tells c bytes rest r → Prints r code before after → code ≡ 1 → IsBadFor c before after bytes
bad_of ask_parse bytes rest r code before after t p one = no_document code before after bytes t.0 t.1 (subst (Printed code before after) t.2 p) one
bad_of (ask_compile uri) bytes rest r code before after t p one = not_compiled code before after uri bytes r t p one
bad_of (ask_audit s) bytes rest r code before after t p one = bad s code before after bytes t.0.verdict t.0.success t.1.bad (subst (Printed code before after) t.2 p) one
bad_of (ask_gate s asked) bytes rest r code before after t p one = not_released s asked code before after bytes t.0 t.0.verdict r refl t.2 t.1.bad p one
bad_of (ask_results n) bytes rest r code before after t p one = no_results code before after n bytes (first_results_fault n bytes) refl (subst (Printed code before after) t p) one
bad_of (ask_cases s form) bytes rest r code before after t p one = not_listed s code before after form bytes t.0 t.0.verdict r refl t.2 t.1.bad p one

-- ---- a run

pub runs_of : (c : Command) (r : Report) (code : ℕ) (i j : Input) (before after : Output) → Delivers r code before after → IsReportOf c r i j → Runs c code i j before after
runs_of c r code i j before after d h =
    record {
      answer = λ reads. input_weaker {P = λ bytes. Reports c bytes r ⊎ (r ≡ trouble_report Memory)} {Q = λ bytes. DeliversOne (Reports c bytes) code before after} i j (h.answer reads) (λ xs one. (r, one, d));
      status = record {
        done = λ zero.
            let p = was_printed r code before after d (λ e. not_both 3 0 code e zero (λ x. cc)) in
            whole_of (λ bytes rest. Tells c bytes rest r) (IsDone c before after) i j
            (h.tells (not_trouble r code before after p (λ e. not_both 3 0 code e zero (λ x. cc)))) (h.over (is_done r.status (sym p.status ∙ zero)))
            (λ xs t. done_of c xs [] r code before after t p zero);
        refused = λ one.
            let p = was_printed r code before after d (λ e. not_both 3 1 code e one (λ x. cc)) in
            of_reads {P = λ bytes rest. Tells c bytes rest r} {Q = IsBadFor c before after} i j
            (h.tells (not_trouble r code before after p (λ e. not_both 3 1 code e one (λ x. cc))))
            (λ xs ys t. bad_of c xs ys r code before after t p one);
        told = λ other.
            let p = was_printed r code before after d other in
            reads_weaker {P = λ bytes rest. Tells c bytes rest r} {Q = λ bytes rest. (x : Report) × Tells c bytes rest x × Prints x code before after} i j
            (h.tells (not_trouble r code before after p other)) (λ xs ys t. (r, t, p));
      };
      no_fault = h.no_fault;
      read_failed = λ other. (r, h.read_failed other, d);
      unread = λ zero.
          let p = was_printed r code before after d (λ e. not_both 3 0 code e zero (λ x. cc)) in
          h.unread (is_done r.status (sym p.status ∙ zero));
      unwritten = λ other. (d.broken other).status;
    }

-- where there was no memory, and nothing was read
pub without_memory : (c : Command) (i : Input) → IsReportOf c (trouble_report Memory) i i
without_memory c i = record {
  answer = λ none. of_any {P = λ bytes. Reports c bytes (trouble_report Memory) ⊎ (trouble_report Memory ≡ trouble_report Memory)} i (λ xs. inr refl);
  tells = λ other. absurd (other refl);
  over = λ e. cc;
  no_fault = λ other. absurd (other refl);
  read_failed = λ other. absurd (other refl);
  unread = λ e. cc;
}
