-- Lines that pass their checks come in order.
use Rattle.std.proofs.Common.{◌≡◌, ◌+◌, ◌≤◌, refl, sym, ap, ◌∙◌, List, [], ◌∷◌, ◌++◌, Some, None, true, false, Bool, append_assoc, ◌&&◌, ◌||◌, arith}
use Rattle.std.proofs.lemmas.Bool.{not-false}
use Rattle.std.specs.Prelude.{count_by}
use Rattle.std.specs.List.{list_any}
use Rattle.cm_stream.specs.References.{is_run_started, is_run_finished, is_judged, has_run_started, has_run_finished}
use Rattle.cm_stream.specs.Good.{OrderGood, StartsInside, NothingAfter}
use Rattle.cm_stream.specs.Checks.{fault_at_end}
use Rattle.cm_envelope.specs.declared.envelope.Envelope.{Envelope}
use Rattle.cm_envelope.specs.declared.envelope.Envelope.TheVariants as envelope
use Rattle.cm_envelope.specs.declared.envelope.TestRunFinished.{TestRunFinished}
use Rattle.cm_stream.proofs.Lists.{or_false, none_counted, count_cut, count_past}
use Rattle.cm_stream.proofs.Refuted.{cut_at}
use Rattle.cm_stream.proofs.Ends.{EndsRun, unjudged_is}
use Rattle.cm_stream.proofs.Passing.{LinePasses, AllPass, by_lines, last_passes}

-- what fails at each place fails everywhere
pub everywhere_none : {X : Type 0} (p : X → Bool) (xs : List X) → ((before : List X) (x : X) (after : List X) → xs ≡ before ++ x ∷ after → p x ≡ false) → list_any p xs ≡ false
everywhere_none p [] f = refl
everywhere_none p (x ∷ xs) f = rw (f [] x xs refl, everywhere_none p xs (λ before y after c. f (x ∷ before) y after (ap (λ ys. x ∷ ys) c))) refl

finished_is : (e : Envelope) → is_run_finished e ≡ true → (f : TestRunFinished) × (e ≡ envelope.TestRunFinished f)
finished_is (envelope.TestRunFinished f) h = (f, refl)
finished_is _ h = cc

-- nothing judged comes after the end of the run
pub after_end : (es : List Envelope) → AllPass es → (before : List Envelope) (f : TestRunFinished) (after : List Envelope) → es ≡ before ++ envelope.TestRunFinished f ∷ after → list_any is_judged after ≡ false
after_end es pass before f after cut = everywhere_none is_judged after each
  where
    each : (b : List Envelope) (x : Envelope) (a : List Envelope) → after ≡ b ++ x ∷ a → is_judged x ≡ false
    each b x a c =
        let its_cut : es ≡ (before ++ envelope.TestRunFinished f ∷ b) ++ x ∷ a = cut ∙ ap (λ xs. before ++ envelope.TestRunFinished f ∷ xs) c ∙ sym (append_assoc before (envelope.TestRunFinished f ∷ b) (x ∷ a)) in
        go (is_judged x) refl (pass (before ++ envelope.TestRunFinished f ∷ b) x a its_cut).inside
      where
        ended : (xs ys : List Envelope) → has_run_finished (xs ++ envelope.TestRunFinished f ∷ ys) ≡ true
        ended [] ys = refl
        ended (y ∷ xs) ys = or_true (is_run_finished y) (ended xs ys)
          where
            or_true : (p : Bool) {q : Bool} → q ≡ true → (p || q) ≡ true
            or_true true h = refl
            or_true false h = h

        go : (j : Bool) → is_judged x ≡ j → (is_judged x && has_run_finished (before ++ envelope.TestRunFinished f ∷ b)) ≡ false → is_judged x ≡ false
        go false e h = e
        go true e h =
            let no : (true && has_run_finished (before ++ envelope.TestRunFinished f ∷ b)) ≡ false = rw e at h in
            let yes = ended before b in
            cc

-- where the run ends
pub record TheEnd (es : List Envelope) : Type 0 where
  pub before : List Envelope
  pub end : TestRunFinished
  pub after : List Envelope
  pub run : EndsRun es before end after
  pub line : LinePasses before (envelope.TestRunFinished end)
  pub first : has_run_finished before ≡ false

pub the_end : (es : List Envelope) → AllPass es → fault_at_end es ≡ None → TheEnd es
the_end es pass none = go (has_run_finished es) refl
  where
    go : (b : Bool) → has_run_finished es ≡ b → TheEnd es
    go false e = let no : Some _ ≡ None = rw e at none in cc
    go true e =
        let at = cut_at is_run_finished es e in
        let is = finished_is at.here at.passes in
        let cut : es ≡ at.front ++ envelope.TestRunFinished is.0 ∷ at.back = at.cut ∙ ap (λ x. at.front ++ x ∷ at.back) is.1 in
        let line = pass at.front (envelope.TestRunFinished is.0) at.back cut in
        record {
          before = at.front;
          end = is.0;
          after = at.back;
          run = record { cut = cut; none = after_end es pass at.front is.0 at.back cut };
          line = line;
          first = line.inside;
        }

unjudged_none : (p : Envelope → Bool) → p envelope.Other ≡ false → (xs : List Envelope) → list_any is_judged xs ≡ false → list_any p xs ≡ false
unjudged_none p other [] h = refl
unjudged_none p other (x ∷ xs) h =
    let k = or_false (is_judged x) (list_any is_judged xs) h in
    rw (unjudged_is x k.0, other, unjudged_none p other xs k.1) refl

one_finish : (es : List Envelope) → TheEnd es → count_by is_run_finished es ≡ 1
one_finish es end =
    let many = count_cut is_run_finished end.before (envelope.TestRunFinished end.end) end.after refl in
    let front = none_counted is_run_finished end.before end.first in
    let back = none_counted is_run_finished end.after (unjudged_none is_run_finished refl end.after end.run.none) in
    ap (count_by is_run_finished) end.run.cut ∙ omega (arith, many, front, back)

new_start : (before : List Envelope) (e : Envelope) → LinePasses before e → is_run_started e ≡ true → has_run_started before ≡ false
new_start before (envelope.TestRunStarted r) h is = h.passes.0
new_start before _ h is = cc

few_starts : (es : List Envelope) → AllPass es → count_by is_run_started es ≤ 1
few_starts es pass = by_lines (λ xs. count_by is_run_started xs ≤ 1) (omega arith) step es pass
  where
    step : (xs : List Envelope) (e : Envelope) → AllPass (xs ++ e ∷ []) → count_by is_run_started xs ≤ 1 → count_by is_run_started (xs ++ e ∷ []) ≤ 1
    step xs e h rec = go (is_run_started e) refl
      where
        go : (b : Bool) → is_run_started e ≡ b → count_by is_run_started (xs ++ e ∷ []) ≤ 1
        go true is =
            let many = count_cut is_run_started xs e [] is in
            let front = none_counted is_run_started xs (new_start xs e (last_passes xs e h) is) in
            let back = none_counted is_run_started [] refl in
            omega (arith, many, front, back)
        go false is =
            let same = count_past is_run_started xs e [] is in
            let back = none_counted is_run_started [] refl in
            omega (arith, same, back, rec)

pub in_order : (es : List Envelope) → AllPass es → TheEnd es → OrderGood es
in_order es pass end = record {
  one_start = one_start;
  one_finish = one_finish es end;
  starts_inside = λ before e after cut. inside before e (pass before e after cut);
  finish_last = λ before e after cut. last before e after cut;
}
  where
    one_start : count_by is_run_started es ≡ 1
    one_start =
        let at = cut_at is_run_started end.before (not-false (has_run_started end.before) end.line.passes.0) in
        let many : count_by is_run_started end.before ≡ count_by is_run_started at.front + 1 + count_by is_run_started at.back = ap (count_by is_run_started) at.cut ∙ count_cut is_run_started at.front at.here at.back at.passes in
        let all : count_by is_run_started es ≡ count_by is_run_started end.before + count_by is_run_started end.after = ap (count_by is_run_started) end.run.cut ∙ count_past is_run_started end.before (envelope.TestRunFinished end.end) end.after refl in
        omega (arith, many, all, few_starts es pass)

    inside : (before : List Envelope) (e : Envelope) → LinePasses before e → StartsInside before e
    inside before (envelope.TestCaseStarted s) h = not-false (has_run_started before) h.passes.0
    inside before (envelope.TestRunHookStarted s) h = not-false (has_run_started before) h.passes.0
    inside before _ h = tt

    last : (before : List Envelope) (e : Envelope) (after : List Envelope) → es ≡ before ++ e ∷ after → NothingAfter e after
    last before (envelope.TestRunFinished f) after cut = after_end es pass before f after cut
    last before _ after cut = tt
