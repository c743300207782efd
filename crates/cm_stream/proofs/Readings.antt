-- Sources by the grammar, and by what one pass makes of their texts.
use Rattle.std.proofs.Common.{◌≡◌, refl, sym, ap, subst, ◌∙◌, List, [], ◌∷◌, true, false, Bool, not, ◌&&◌}
use Rattle.std.proofs.lemmas.Bool.{not-true}
use Rattle.std.specs.Prelude.{◌↔◌}
use Rattle.std.specs.List.{AllByRecursion, list_any, list_all}
use Rattle.cm_stream.specs.Readings.{Reading, Accepted, Refused, OtherLanguage, TooLong, IsReading}
use Rattle.cm_stream.specs.OnePass.{reads}
use Rattle.cm_stream.specs.References.{sources, cases, hook_statuses, is_accepted, is_good_case}
use Rattle.cm_stream.specs.ByOnePass.{all_well}
use Rattle.cm_attempt.specs.Table.{is_good_status}
use Rattle.cm_attempt.specs.declared.status.Policy.{Policy}
use Rattle.cm_stream.specs.Good.{SourceGood, MeetsSource, IsAccepted, AllWell}
use Rattle.cm_envelope.specs.declared.envelope.Envelope.{Envelope}
use Rattle.cm_envelope.specs.declared.envelope.Envelope.TheVariants as envelope
use Rattle.cm_envelope.specs.declared.envelope.Source.{Source}
use Rattle.cm_envelope.specs.declared.envelope.TestRunFinished.{TestRunFinished}
use Rattle.cm_stream.proofs.Lists.{and_true, each_true, all_true}
use Rattle.cm_stream.proofs.OnePass.{is_read, reads_it}

-- a good source meets what one pass makes of its text
pub source_meets : (es before : List Envelope) (s : Source) (after : List Envelope) → SourceGood es before (envelope.Source s) after → MeetsSource es before s after (reads s.content)
source_meets es before s after g = subst (MeetsSource es before s after) (sym (reads_it s.content g.reading g.is_read)) g.meets

pub accepted_read : (s : Source) → is_accepted (reads s.content) ≡ true → IsAccepted s
accepted_read s = go (reads s.content) (is_read s.content)
  where
    go : (r : Reading) → IsReading s.content r → is_accepted r ≡ true → IsAccepted s
    go (Accepted d) i h = (d, i)
    go Refused i h = cc
    go OtherLanguage i h = cc
    go TooLong i h = cc

pub read_accepted : (s : Source) → IsAccepted s → is_accepted (reads s.content) ≡ true
read_accepted s h = ap is_accepted (reads_it s.content (Accepted h.0) h.1)

pub not_accepted : (s : Source) → (IsAccepted s → ⊥) → is_accepted (reads s.content) ≡ false
not_accepted s never = go (is_accepted (reads s.content)) refl
  where
    go : (b : Bool) → is_accepted (reads s.content) ≡ b → is_accepted (reads s.content) ≡ false
    go true e = absurd (never (accepted_read s e))
    go false e = e

pub none_accepted : (ss : List Source) → AllByRecursion (λ s. IsAccepted s → ⊥) ss → list_any (λ s. is_accepted (reads s.content)) ss ≡ false
none_accepted [] h = refl
none_accepted (s ∷ ss) h = rw (not_accepted s h.0, none_accepted ss h.1) refl

pub each_refused : (ss : List Source) → AllByRecursion (λ s. is_accepted (reads s.content) ≡ false) ss → AllByRecursion (λ s. IsAccepted s → ⊥) ss
each_refused [] h = tt
each_refused (s ∷ ss) h = (λ a. let yes_too = read_accepted s a in let no_way = h.0 in cc, each_refused ss h.1)

each_accepted : (ss : List Source) → AllByRecursion (λ s. is_accepted (reads s.content) ≡ true) ss → AllByRecursion IsAccepted ss
each_accepted [] h = tt
each_accepted (s ∷ ss) h = (accepted_read s h.0, each_accepted ss h.1)

all_read : (ss : List Source) → AllByRecursion IsAccepted ss → AllByRecursion (λ s. is_accepted (reads s.content) ≡ true) ss
all_read [] h = tt
all_read (s ∷ ss) h = (read_accepted s h.0, all_read ss h.1)

-- ---- success

well_is : (policy : Policy) (es : List Envelope) (f : TestRunFinished) → (all_well policy es && not f.has_exception) ≡ true → AllWell policy es f
well_is policy es f h =
    let both = and_true (all_well policy es) (not f.has_exception) h in
    let parts = and_true (list_all (is_good_case policy es) (cases es) && list_all (is_good_status policy) (hook_statuses es)) (list_all (λ s. is_accepted (reads s.content)) (sources es)) both.0 in
    let ran = and_true (list_all (is_good_case policy es) (cases es)) (list_all (is_good_status policy) (hook_statuses es)) parts.0 in
    record {
      each_case = each_true (is_good_case policy es) (cases es) ran.0;
      each_hook = each_true (is_good_status policy) (hook_statuses es) ran.1;
      each_source = each_accepted (sources es) (each_true (λ s. is_accepted (reads s.content)) (sources es) parts.1);
      no_exception = not-true f.has_exception both.1;
    }

is_well : (policy : Policy) (es : List Envelope) (f : TestRunFinished) → AllWell policy es f → (all_well policy es && not f.has_exception) ≡ true
is_well policy es f w =
    rw (all_true (is_good_case policy es) (cases es) w.each_case, all_true (is_good_status policy) (hook_statuses es) w.each_hook, all_true (λ s. is_accepted (reads s.content)) (sources es) (all_read (sources es) w.each_source), w.no_exception) refl

pub success_is : (policy : Policy) (es : List Envelope) (f : TestRunFinished) → f.success ≡ (all_well policy es && not f.has_exception) → (f.success ≡ true) ↔ AllWell policy es f
success_is policy es f e = (λ yes_too. well_is policy es f (sym e ∙ yes_too), λ w. e ∙ is_well policy es f w)

pub success_by : (policy : Policy) (es : List Envelope) (f : TestRunFinished) → (f.success ≡ true) ↔ AllWell policy es f → f.success ≡ (all_well policy es && not f.has_exception)
success_by policy es f h = go f.success refl (all_well policy es && not f.has_exception) refl
  where
    go : (a : Bool) → f.success ≡ a → (b : Bool) → (all_well policy es && not f.has_exception) ≡ b → f.success ≡ (all_well policy es && not f.has_exception)
    go true e b k = e ∙ sym (is_well policy es f (h.0 e))
    go false e false k = e ∙ sym k
    go false e true k = let yes_too = h.1 (well_is policy es f k) in cc
