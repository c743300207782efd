-- What holds where texts are read in one pass holds of the grammar: the one pass is the one function that reads texts by it.
use Rattle.std.proofs.Common.{◌≡◌, refl, sym, ap, ◌∙◌, subst, ℕ, List, [], Option}
use Rattle.std.proofs.Math.Path.{fun_ext}
use Rattle.cm_envelope.specs.declared.envelope.Envelope.{Envelope}
use Rattle.cm_envelope.specs.declared.feed.Trouble.{Trouble}
use Rattle.cm_attempt.specs.declared.status.Settings.{Settings}
use Rattle.cm_stream.specs.Texts.{Utf8}
use Rattle.cm_stream.specs.Readings.{Reading, ReadsByTheGrammar, ByTheGrammar}
use Rattle.cm_stream.specs.OnePass.{reads}
use Rattle.cm_stream.specs.FaultlessLines.{NoneIsRefused, NoneIsRefusedBy, TablesAgree, TablesAgreeBy}
use Rattle.cm_stream.specs.Laws.{GoodHaveNoFault, GoodHaveNoFaultBy, FaultlessAreGood, FaultlessAreGoodBy}
use Rattle.cm_stream.specs.CallFaults.{CallFaultsAreBy, CallFaultsAreTold}
use Rattle.cm_stream.specs.Stream.{FirstFault, NoFault, Troubled, IsFirstFault, IsFirstFaultOf, first_fault_of_by, answer_for}
use Rattle.cm_stream.specs.StreamLaws.{OneFirstFault, NoFaultIsGood, GoodIsNoFault, NoneBeginsSo, FoundIsNotGood, AnswersAreRight}
use Rattle.cm_stream.specs.ByOnePass.{first_fault, first_fault_of}
use Rattle.cm_stream.proofs.OnePass.{is_read, reads_it}
use Rattle.cm_stream.proofs.NoFault.{good_have_no_fault}
use Rattle.cm_stream.proofs.FaultlessGood.{faultless_are_good}
use Rattle.cm_stream.proofs.TableSteps.{none_is_refused, call_faults_are_told}
use Rattle.cm_stream.proofs.TableWords.{lines_agree}
use Rattle.cm_stream.proofs.Streams.{good_only, good_is_told, none_is_good, not_good, answers_are_right}

pub same_reads : (read : Utf8 → Reading) → ReadsByTheGrammar read → reads ≡ read
same_reads read by = fun_ext (λ text. reads_it text (read text) (by text))

pub by_the_grammar : (P : (Utf8 → Reading) → Type 0) → P reads → ByTheGrammar P
by_the_grammar P h read by = subst P (same_reads read by) h

-- ---- the first fault

pub reported_of : (settings : Settings) (lines : List (List ℕ)) (t : Option Trouble) (f : FirstFault) → IsFirstFaultOf settings lines t f → first_fault_of settings [] 1 lines t ≡ f
reported_of settings lines t f h = ap (λ read. first_fault_of_by read settings [] 1 lines t) (same_reads h.read h.by_the_grammar) ∙ sym h.first

pub is_first_of : (settings : Settings) (lines : List (List ℕ)) (t : Option Trouble) (f : FirstFault) → first_fault_of settings [] 1 lines t ≡ f → IsFirstFaultOf settings lines t f
is_first_of settings lines t f e = record { read = reads; by_the_grammar = is_read; first = sym e }

pub reported : (settings : Settings) (bytes : List ℕ) (f : FirstFault) → IsFirstFault settings bytes f → first_fault settings bytes ≡ f
reported settings bytes f h = reported_of settings _ _ f h

pub is_first : (settings : Settings) (bytes : List ℕ) (f : FirstFault) → first_fault settings bytes ≡ f → IsFirstFault settings bytes f
is_first settings bytes f e = is_first_of settings _ _ f e

pub one_first_fault : OneFirstFault
one_first_fault = record {
  some = λ settings bytes. (first_fault settings bytes, is_first settings bytes (first_fault settings bytes) refl);
  one = λ settings bytes f g x y. sym (reported settings bytes f x) ∙ reported settings bytes g y;
}

-- ---- the laws

pub good_have_no_fault_law : GoodHaveNoFault
good_have_no_fault_law = by_the_grammar GoodHaveNoFaultBy good_have_no_fault

pub faultless_are_good_law : FaultlessAreGood
faultless_are_good_law = by_the_grammar FaultlessAreGoodBy faultless_are_good

pub none_is_refused_law : NoneIsRefused
none_is_refused_law = by_the_grammar NoneIsRefusedBy none_is_refused

pub tables_agree_law : TablesAgree
tables_agree_law = by_the_grammar TablesAgreeBy lines_agree

pub call_faults_are_told_law : CallFaultsAreTold
call_faults_are_told_law = by_the_grammar (λ read. (e : Envelope) → CallFaultsAreBy read e) call_faults_are_told

pub no_fault_is_good : NoFaultIsGood
no_fault_is_good settings bytes es h = good_only settings bytes es (reported settings bytes (NoFault es) h)

pub good_is_no_fault : GoodIsNoFault
good_is_no_fault settings bytes counts good =
    let told = good_is_told settings bytes counts good in
    (told.0, is_first settings bytes (NoFault told.0) told.1, told.2)

pub none_begins_so : NoneBeginsSo
none_begins_so settings bytes other n f counts h = none_is_good settings bytes other n f counts (reported settings bytes _ h)

pub found_is_not_good : FoundIsNotGood
found_is_not_good = record {
  found = λ settings bytes n f counts h. not_good settings bytes n f counts (reported settings bytes _ h);
  troubled = λ settings bytes t counts h good.
      let told_good = (good_is_told settings bytes counts good).1 in
      let told = reported settings bytes (Troubled t) h in
      cc;
}

pub answers_are_right_law : AnswersAreRight
answers_are_right_law settings bytes f answer h e = answers_are_right settings bytes answer (e ∙ ap answer_for (sym (reported settings bytes f h)))
