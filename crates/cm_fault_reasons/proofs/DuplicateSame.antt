-- The id that makes an envelope a second declaration, by what is kept of lines without a fault, is the one over all of them.
use Rattle.std.proofs.Common.{◌≡◌, ◌∙◌, refl, ap, List, map, Option, Some}
use Rattle.std.specs.Prelude.{if◌then◌else◌, is_some}
use Rattle.std.specs.Str.{bytes_eq}
use Rattle.cm_refs.specs.Declarations.{find_pickle}
use Rattle.cm_attempt.specs.declared.status.Settings.{Settings}
use Rattle.cm_envelope.specs.declared.envelope.Envelope.{Envelope}
use Rattle.cm_envelope.specs.declared.envelope.Envelope.TheVariants as envelope
use Rattle.cm_state.specs.ByOnePass.{summary_of_lines}
use Rattle.cm_state.specs.Summary.{declarations_in, pickle_row}
use Rattle.cm_stream.specs.ByOnePass.{IsFaultless}
use Rattle.cm_stream.specs.References.{find_pickle as pickle_in, pickles}
use Rattle.cm_stream.specs.Texts.{Utf8}
use Rattle.cm_stream.proofs.CallWords.{some_mapped}
use Rattle.cm_stream.proofs.Lists.{find_map}
use Rattle.cm_stream.proofs.Passing.{plain_passes}
use Rattle.cm_stream.proofs.TableSteps.{none_is_refused}
use Rattle.cm_fault_reasons.specs.Duplicate.{duplicate_of, first_repeat}
use Rattle.cm_fault_reasons.specs.DuplicateKept.{duplicate_by}
use Rattle.cm_fault_reasons.proofs.UnknownSame.{case_known}

pickle_known : (es : List Envelope) (id : Utf8) → is_some (find_pickle (declarations_in es) id) ≡ is_some (pickle_in id es)
pickle_known es id = ap is_some (find_map (λ r. bytes_eq id r.id) pickle_row (pickles es)) ∙ some_mapped pickle_row (pickle_in id es)

pub duplicate_same : (settings : Settings) (es : List Envelope) → IsFaultless settings es → (e : Envelope) → duplicate_by (summary_of_lines settings.first_attempt es) e ≡ duplicate_of es e
duplicate_same settings es none (envelope.Pickle p) = ap (λ b. let o : Option Utf8 = if b then Some p.id else first_repeat (map (λ x. x.id) p.steps) in o) (pickle_known es p.id)
duplicate_same settings es none (envelope.TestCase c) =
    ap (λ b. let o : Option Utf8 = if b then Some c.id else first_repeat (map (λ x. x.id) c.test_steps) in o)
    (case_known settings.first_attempt es (plain_passes settings es none) (none_is_refused settings es none) c.id)
duplicate_same settings es none _ = refl
