-- What the commands on feature files report.
use Rattle.std.proofs.Common.{◌≡◌, ◌∙◌, ◌⊎◌, ℕ, List, Result, Ok, Err, true, false, inl, inr, refl, sym, ap, subst, IsUtf8}
use Rattle.std.specs.Prelude.{OnOk}
use Rattle.std.specs.Result.{IsErrAnd}
use Rattle.cm_envelope.specs.Device.{CountsFailure, Hears, Input, OfInput, OfWhole, Output}
use Rattle.cm_envelope.proofs.Sources.{input_weaker, reads_weaker}
use Rattle.cm_envelope.specs.declared.feed.Trouble.TheVariants as trouble
use Rattle.gk_grammar.specs.Tree.{Document}
use Rattle.gk_tree.specs.declared.fault.ParseFault.{ParseFault}
use Rattle.cm_compile.specs.Faults.{IsRefusedWith}
use Rattle.ck_command_line.specs.CommandLine.{ask_compile, ask_parse}
use Rattle.ck_commands.specs.Features.{IsFaultOf, IsFeatureOf, IsRefusedFeature, fault_report, is_failed_feature_read, feature_fault_of_text, parse_report}
use Rattle.ck_commands.specs.Output.{DeliversOne, Report, trouble_report}
use Rattle.ck_commands.specs.Run.{Reports, ReportsCompiled}
use Rattle.ck_commands.specs.TextInput.{HasTextFault, IsTextOf, is_failed_text_read as text_failed}
use Rattle.ck_commands.specs.declared.report.ExitStatus.TheVariants as exit
use Rattle.ck_commands.specs.declared.text_input.TextFault.{TextFault}
use Rattle.ck_commands.specs.declared.text_input.TextFault.TheVariants as text
use Rattle.ck_commands.specs.declared.command_feature.FeatureFault.{FeatureFault}
use Rattle.ck_commands.specs.declared.command_feature.FeatureFault.TheVariants.{Memory, NotUtf8, ReadFailed, Refused}
use Rattle.ck_commands.proofs.Printing.{IsOne, none_failed, some_failed}
use Rattle.ck_commands.specs.Run.{IsReportOf}
use Rattle.ck_commands.proofs.TextLemmas.{failed_fault, input_of_whole, other_fault}

-- the parser's refusal of a text is that of its bytes
pub refused_of : (text : List ℕ) (f : ParseFault) → IsUtf8 text → IsRefusedWith text f → IsRefusedFeature text f
refused_of text f utf8 (inl h) = inl (inr (utf8, h.0), h.1)
refused_of text f utf8 (inr h) = inr (record { utf8 = utf8; short = h.0 }, h.1)

-- a fault that is printed is why there are no lines
fault_reported : (uri bytes : List ℕ) (f : FeatureFault) (r : Report) → IsFaultOf bytes f → IsOne (fault_report f) r → ReportsCompiled uri bytes r ⊎ (r ≡ trouble_report trouble.Memory)
fault_reported uri bytes f r is (inl e) = inl (inr (f, is, e))
fault_reported uri bytes f r is (inr e) = inr e

pub fault_delivered : (uri bytes : List ℕ) (f : FeatureFault) (code : ℕ) (before after : Output) → IsFaultOf bytes f → DeliversOne (λ r. r ≡ fault_report f) code before after
    → DeliversOne (ReportsCompiled uri bytes) code before after
fault_delivered uri bytes f code before after is d = (d.0, fault_reported uri bytes f d.0 is d.1, d.2)

-- ---- `compile`

-- with another status than that of trouble there was memory
made : (P : Type 0) (r : Report) → P ⊎ (r ≡ trouble_report trouble.Memory) → (r.status ≡ exit.Trouble → ⊥) → P
made P r (inl h) other = h
made P r (inr e) other = absurd (other (ap (λ (x : Report). x.status) e))

pub text_is_reported : (uri t : List ℕ) (r : Report) (i j : Input) → OfWhole i j (λ bytes. IsTextOf bytes t) → j.failed_calls ≡ i.failed_calls
    → ReportsCompiled uri t r ⊎ (r ≡ trouble_report trouble.Memory) → IsReportOf (ask_compile uri) r i j
text_is_reported uri t r i j is none one =
    let heard = input_of_whole {P = λ bytes. IsTextOf bytes t} i j is in
    record {
      answer = λ all.
          input_weaker {P = λ bytes. IsTextOf bytes t} {Q = λ bytes. ReportsCompiled uri bytes r ⊎ (r ≡ trouble_report trouble.Memory)} i j heard
          (λ xs h. subst (λ bytes. ReportsCompiled uri bytes r ⊎ (r ≡ trouble_report trouble.Memory)) h.same one);
      tells = λ other.
          reads_weaker {P = λ bytes rest. IsTextOf bytes t} {Q = λ bytes rest. ReportsCompiled uri bytes r} i j heard
          (λ xs ys h. subst (λ bytes. ReportsCompiled uri bytes r) h.same (made (ReportsCompiled uri t r) r one other));
      over = λ done. is.2;
      no_fault = λ more. absurd (more none);
      read_failed = λ more. absurd (more none);
      unread = λ done. none;
    }

-- why a source gives no text is why it gives no document
text_fault : (bytes : List ℕ) (f : TextFault) → HasTextFault bytes f → (f ≡ text.ReadFailed → ⊥) → IsFaultOf bytes (feature_fault_of_text f)
text_fault bytes text.ReadFailed h other = absurd (other refl)
text_fault bytes text.TooLong h other = inl (inl h, refl)
text_fault bytes text.NotUtf8 h other = h
text_fault bytes text.Memory h other = tt

-- a fault of the text that is passed on
pub on_text_fault : (f : TextFault) (r : Result Document FeatureFault) (i j : Input) → IsErrAnd r (λ e. e ≡ feature_fault_of_text f) → OfInput i j (λ bytes. HasTextFault bytes f) → is_failed_feature_read r ≡ false
    → OfInput i j (λ bytes. IsFeatureOf bytes r)
on_text_fault f (Ok d) i j h is none = absurd h
on_text_fault f (Err e) i j h is none =
    input_weaker {P = λ bytes. HasTextFault bytes f} {Q = λ bytes. IsFaultOf bytes e} i j is (λ xs t. subst (IsFaultOf xs) (sym h) (text_fault xs f t (λ read. other e (h ∙ ap feature_fault_of_text read) none)))
  where
    other : (e : FeatureFault) → e ≡ ReadFailed → is_failed_feature_read {A = Document} (Err e) ≡ false → ⊥
    other ReadFailed is none = cc
    other (Refused g) is none = cc
    other NotUtf8 is none = cc
    other Memory is none = cc

no_read : (f : TextFault) (r : Report) → IsOne (fault_report (feature_fault_of_text f)) r → (r.status ≡ exit.Trouble → ⊥) → f ≡ text.ReadFailed → ⊥
no_read f r one other is = other (ap (λ (x : Report). x.status) (made (r ≡ fault_report (feature_fault_of_text f)) r one other) ∙ ap (λ (g : TextFault). (fault_report (feature_fault_of_text g)).status) is)

fault_not_done : (f : FeatureFault) (r : Report) → IsOne (fault_report f) r → r.status ≡ exit.Done → ⊥
fault_not_done f r (inr e) done = let no : exit.Trouble ≡ exit.Done = sym (ap (λ (x : Report). x.status) e) ∙ done in cc
fault_not_done (Refused g) r (inl e) done = let no : exit.Refused ≡ exit.Done = sym (ap (λ (x : Report). x.status) e) ∙ done in cc
fault_not_done ReadFailed r (inl e) done = let no : exit.Trouble ≡ exit.Done = sym (ap (λ (x : Report). x.status) e) ∙ done in cc
fault_not_done NotUtf8 r (inl e) done = let no : exit.Trouble ≡ exit.Done = sym (ap (λ (x : Report). x.status) e) ∙ done in cc
fault_not_done Memory r (inl e) done = let no : exit.Trouble ≡ exit.Done = sym (ap (λ (x : Report). x.status) e) ∙ done in cc

pub fault_is_reported : (uri : List ℕ) (f : TextFault) (r : Report) (i j : Input) → OfInput i j (λ bytes. HasTextFault bytes f) → CountsFailure (text_failed {A = ℕ} (Err f)) i.failed_calls j.failed_calls
    → IsOne (fault_report (feature_fault_of_text f)) r → IsReportOf (ask_compile uri) r i j
fault_is_reported uri f r i j is counts one = record {
  answer = λ all.
      input_weaker {P = λ bytes. HasTextFault bytes f} {Q = λ bytes. ReportsCompiled uri bytes r ⊎ (r ≡ trouble_report trouble.Memory)} i j is
      (λ xs h. fault_reported uri xs (feature_fault_of_text f) r (text_fault xs f h (other_fault ℕ f (none_failed _ _ _ counts all))) one);
  tells = λ other.
      reads_weaker {P = λ bytes rest. HasTextFault bytes f} {Q = λ bytes rest. ReportsCompiled uri bytes r} i j is
      (λ xs ys h. inr (feature_fault_of_text f, text_fault xs f h (no_read f r one other), made (r ≡ fault_report (feature_fault_of_text f)) r one other));
  over = λ done. absurd (fault_not_done (feature_fault_of_text f) r one done);
  no_fault = λ more. (is.0, is.1, λ rest may. tt);
  read_failed = λ more. failed (failed_fault ℕ f (some_failed _ _ _ counts more)) one;
  unread = λ done. absurd (fault_not_done (feature_fault_of_text f) r one done);
}
  where
    failed : f ≡ text.ReadFailed → IsOne (fault_report (feature_fault_of_text f)) r → IsOne (trouble_report trouble.ReadFailed) r
    failed is (inl e) = inl (e ∙ ap (λ (g : TextFault). fault_report (feature_fault_of_text g)) is)
    failed is (inr e) = inr e

-- ---- `parse`

pub if_ok : {P : Type 0} (feature : Result Document FeatureFault) → OnOk feature P → (d : Document) → feature ≡ Ok d → P
if_ok (Ok d) h e is = h
if_ok (Err f) h e is = cc

feature_reported : (bytes : List ℕ) (feature : Result Document FeatureFault) (r : Report) → IsFeatureOf bytes feature → IsOne (parse_report feature) r → Reports ask_parse bytes r ⊎ (r ≡ trouble_report trouble.Memory)
feature_reported bytes feature r is (inl e) = inl (feature, is, e)
feature_reported bytes feature r is (inr e) = inr e

failed_feature : (feature : Result Document FeatureFault) → is_failed_feature_read feature ≡ true → parse_report feature ≡ trouble_report trouble.ReadFailed
failed_feature (Ok d) e = cc
failed_feature (Err (Refused f)) e = cc
failed_feature (Err ReadFailed) e = refl
failed_feature (Err NotUtf8) e = cc
failed_feature (Err Memory) e = cc

failed_report : (feature : Result Document FeatureFault) (r : Report) → is_failed_feature_read feature ≡ true → IsOne (parse_report feature) r → IsOne (trouble_report trouble.ReadFailed) r
failed_report feature r failed (inl e) = inl (e ∙ failed_feature feature failed)
failed_report feature r failed (inr e) = inr e

-- with another status than that of trouble no read failed
was_read : (feature : Result Document FeatureFault) (r : Report) → r ≡ parse_report feature → (r.status ≡ exit.Trouble → ⊥) → is_failed_feature_read feature ≡ false
was_read (Ok d) r e other = refl
was_read (Err (Refused f)) r e other = refl
was_read (Err ReadFailed) r e other = absurd (other (ap (λ (x : Report). x.status) e))
was_read (Err NotUtf8) r e other = refl
was_read (Err Memory) r e other = refl

module _ (feature : Result Document FeatureFault) (r : Report) (i j : Input) where
  ended : ((d : Document) → feature ≡ Ok d → j.is_over ≡ true) → IsOne (parse_report feature) r → r.status ≡ exit.Done → j.is_over ≡ true
  ended over one done = go feature refl one
    where
      go : (f : Result Document FeatureFault) → feature ≡ f → IsOne (parse_report f) r → j.is_over ≡ true
      go (Ok d) is one = over d is
      go (Err f) is one = absurd (fault_not_done f r one done)

  not_counted : CountsFailure (is_failed_feature_read feature) i.failed_calls j.failed_calls → IsOne (parse_report feature) r → r.status ≡ exit.Done → j.failed_calls ≡ i.failed_calls
  not_counted counts one done = go feature counts one
    where
      go : (f : Result Document FeatureFault) → CountsFailure (is_failed_feature_read f) i.failed_calls j.failed_calls → IsOne (parse_report f) r → j.failed_calls ≡ i.failed_calls
      go (Ok d) counts one = counts
      go (Err f) counts one = absurd (fault_not_done f r one done)

  pub feature_is_reported : (is_failed_feature_read feature ≡ false → OfInput i j (λ bytes. IsFeatureOf bytes feature)) → ((d : Document) → feature ≡ Ok d → j.is_over ≡ true)
      → ((read : List ℕ) × Hears i j read) → CountsFailure (is_failed_feature_read feature) i.failed_calls j.failed_calls → IsOne (parse_report feature) r → IsReportOf ask_parse r i j
  feature_is_reported is over heard counts one = record {
    answer = λ all.
        input_weaker {P = λ bytes. IsFeatureOf bytes feature} {Q = λ bytes. Reports ask_parse bytes r ⊎ (r ≡ trouble_report trouble.Memory)} i j (is (none_failed _ _ _ counts all))
        (λ xs h. feature_reported xs feature r h one);
    tells = λ other.
        let e = made (r ≡ parse_report feature) r one other in
        reads_weaker {P = λ bytes rest. IsFeatureOf bytes feature} {Q = λ bytes rest. Reports ask_parse bytes r} i j (is (was_read feature r e other)) (λ xs ys h. (feature, h, e));
    over = ended over one;
    no_fault = λ more. (heard.0, heard.1, λ rest may. tt);
    read_failed = λ more. failed_report feature r (some_failed _ _ _ counts more) one;
    unread = not_counted counts one;
  }
