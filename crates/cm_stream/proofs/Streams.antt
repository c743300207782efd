-- What is reported of a stream, and good streams.
use Rattle.std.proofs.Common.{◌≡◌, ℕ, ◌+◌, ◌<◌, ◌≤◌, refl, sym, ap, ◌∙◌, List, [], ◌∷◌, ◌++◌, Option, Some, None, Result, Ok, Err, true, false, Bool, append_assoc, append-nil, map, length, arith, subst}
use Rattle.cm_attempt.specs.declared.status.Settings.{Settings}
use Rattle.cm_stream.specs.Checks.{fault_at_end}
use Rattle.cm_stream.specs.declared.laws.Audited.{Audited}
use Rattle.cm_stream.specs.declared.laws.Verdict.{Verdict}
use Rattle.cm_stream.specs.declared.laws.Verdict.TheVariants as verdict
use Rattle.cm_stream.specs.Findings.{Finding}
use Rattle.cm_stream.specs.StreamLaws.{IsRightAnswer}
use Rattle.cm_stream.specs.Good.{Good}
use Rattle.cm_stream.specs.References.{run_succeeded}
use Rattle.cm_stream.specs.Redeclared.{judged_as, judged_after, line_judged_as}
use Rattle.cm_stream.specs.Stream.{FirstFault, Troubled, GoodWith, answer_in, answer_of_audit, answer_for, GoodRunIn, NoneIsGood, feed_of, nonblank_lines, read_line, as_read, envelopes, counts_of, IsReadAs, IsGoodStream, IsGoodRun, At, NoFault, at_end, at_line, envelope_unless_blank, HaveFirstLines}
use Rattle.cm_stream.specs.ByOnePass.{fault, HasNoFault, first_fault_line, first_fault_of, first_fault}
use Rattle.cm_envelope.specs.declared.envelope.Envelope.{Envelope}
use Rattle.cm_envelope.specs.Lines.{is_blank}
use Rattle.cm_envelope.specs.Reading.{LineFault, envelope_of_line}
use Rattle.cm_envelope.specs.declared.feed.Trouble.{Trouble}
use Rattle.cm_stream.specs.declared.laws.Counts.{Counts}
use Rattle.cm_stream.proofs.NoFault.{good_have_no_fault}
use Rattle.cm_stream.proofs.FaultlessGood.{faultless_are_good}

module _ (settings : Settings) where
  -- what lines that are read so are judged as, after these envelopes
  abbrev judged_lines : List Envelope → List (ℕ × Envelope) → List Envelope
  judged_lines before lines = judged_after settings before (envelopes lines)

  -- lines from the number n on that have no fault after these envelopes
  record Clean (before : List Envelope) (n : ℕ) (ls : List (List ℕ)) (t : Option Trouble) (es : List Envelope) : Type 0 where
    lines : List (ℕ × Envelope)
    no_trouble : t ≡ None
    read : map read_line (nonblank_lines n ls) ≡ map as_read lines
    all : es ≡ before ++ judged_lines before lines
    none : (b : List Envelope) (e : Envelope) (a : List Envelope) → judged_lines before lines ≡ b ++ e ∷ a → fault settings (before ++ b) e ≡ None
    end : fault_at_end es ≡ None

  empty_isnt : {X : Type 0} (b : List X) (e : X) (a : List X) → [] ≡ b ++ e ∷ a → ⊥
  empty_isnt [] e a h = cc
  empty_isnt (x ∷ b) e a h = cc

  clean : (before : List Envelope) (n : ℕ) (ls : List (List ℕ)) (t : Option Trouble) (es : List Envelope) → first_fault_of settings before n ls t ≡ NoFault es → Clean before n ls t es
  clean before n [] (Some t) es h = cc
  clean before n [] None es h = go (fault_at_end before) refl h
    where
      go : (o : Option Finding) → fault_at_end before ≡ o → at_end n before o ≡ NoFault es → Clean before n [] None es
      go (Some f) e k = cc
      go None e k =
          let same : before ≡ es = cc in
          record { lines = []; no_trouble = refl; read = refl; all = sym same ∙ sym (append-nil before); none = λ b x a c. absurd (empty_isnt b x a c); end = ap fault_at_end (sym same) ∙ e }
  clean before n (l ∷ ls) t es h = go (is_blank l) refl (clean before (n + 1) ls t es) (λ e. clean (before ++ e ∷ []) (n + 1) ls t es)
    where
      line : (e : Envelope) → is_blank l ≡ false → envelope_of_line l ≡ Ok e → fault settings before (judged_as settings before e) ≡ None → Clean (before ++ judged_as settings before e ∷ []) (n + 1) ls t es → Clean before n (l ∷ ls) t es
      line e filled is passes c = record {
        lines = (n, e) ∷ c.lines;
        no_trouble = c.no_trouble;
        read = rw (filled, is, c.read) refl;
        all = c.all ∙ append_assoc before (said ∷ []) later;
        none = each;
        end = c.end;
      }
        where
          said : Envelope
          said = judged_as settings before e

          later : List Envelope
          later = judged_lines (before ++ judged_as settings before e ∷ []) c.lines

          each : (b : List Envelope) (x : Envelope) (a : List Envelope) → said ∷ later ≡ b ++ x ∷ a → fault settings (before ++ b) x ≡ None
          each [] x a k = let same : said ≡ x = cc in ap (λ bs. fault settings bs x) (append-nil before) ∙ ap (fault settings before) (sym same) ∙ passes
          each (y ∷ b) x a k =
              let first : said ≡ y = cc in
              let rest : later ≡ b ++ x ∷ a = cc in
              ap (λ bs. fault settings bs x) (ap (λ z. before ++ z ∷ b) (sym first) ∙ sym (append_assoc before (said ∷ []) b)) ∙ c.none b x a rest

      on_fault : (e : Envelope) → is_blank l ≡ false → envelope_of_line l ≡ Ok e → (o : Option Finding) → fault settings before (judged_as settings before e) ≡ o → at_line n o (first_fault_of settings (before ++ judged_as settings before e ∷ []) (n + 1) ls t) ≡ NoFault es
          → (first_fault_of settings (before ++ judged_as settings before e ∷ []) (n + 1) ls t ≡ NoFault es → Clean (before ++ judged_as settings before e ∷ []) (n + 1) ls t es) → Clean before n (l ∷ ls) t es
      on_fault e filled is (Some f) k told rec = cc
      on_fault e filled is None k told rec = line e filled is k (rec told)

      on_read : is_blank l ≡ false → (r : Result Envelope LineFault) → envelope_of_line l ≡ r → first_fault_line settings before n (line_judged_as settings before (Some r)) (λ (now : List Envelope). first_fault_of settings now (n + 1) ls t) ≡ NoFault es
          → ((e : Envelope) → first_fault_of settings (before ++ e ∷ []) (n + 1) ls t ≡ NoFault es → Clean (before ++ e ∷ []) (n + 1) ls t es) → Clean before n (l ∷ ls) t es
      on_read filled (Err b) is told rec = cc
      on_read filled (Ok e) is told rec = on_fault e filled is (fault settings before (judged_as settings before e)) refl told (rec (judged_as settings before e))

      go : (b : Bool) → is_blank l ≡ b → (first_fault_of settings before (n + 1) ls t ≡ NoFault es → Clean before (n + 1) ls t es)
          → ((e : Envelope) → first_fault_of settings (before ++ e ∷ []) (n + 1) ls t ≡ NoFault es → Clean (before ++ e ∷ []) (n + 1) ls t es) → Clean before n (l ∷ ls) t es
      go true e skip rec =
          let c = skip (rw e at h) in
          record { lines = c.lines; no_trouble = c.no_trouble; read = rw e c.read; all = c.all; none = c.none; end = c.end }
      go false e skip rec = on_read e (envelope_of_line l) refl (rw e at h) rec

  -- Good only for good streams, which say this of success
  good_run : (bytes : List ℕ) (es : List Envelope) → first_fault settings bytes ≡ NoFault es → IsGoodRun settings bytes (counts_of es) (run_succeeded es)
  good_run bytes es h =
      let c = clean [] 1 (feed_of bytes).lines (feed_of bytes).trouble es h in
      let judged = judged_lines [] c.lines in
      let faultless : HasNoFault settings judged = record { lines = λ b e a cut. c.none b e a cut; end = ap fault_at_end (sym c.all) ∙ c.end } in
      record {
        judged = judged;
        read = record { lines = c.lines; read = record { no_trouble = c.no_trouble; read = c.read }; judged = refl };
        good = faultless_are_good settings judged faultless;
        exact = ap counts_of c.all;
        said = ap run_succeeded c.all;
      }

  -- the stream of a run
  pub stream_of : (bytes : List ℕ) (counts : Counts) (success : Bool) → IsGoodRun settings bytes counts success → IsGoodStream settings bytes counts
  stream_of bytes counts success r = (success, r)

  pub good_only : (bytes : List ℕ) (es : List Envelope) → first_fault settings bytes ≡ NoFault es → IsGoodStream settings bytes (counts_of es)
  good_only bytes es h = stream_of bytes (counts_of es) (run_succeeded es) (good_run bytes es h)

  -- where that is answered, it is so
  pub run_if_told : (bytes : List ℕ) (counts : Counts) (success : Bool) → answer_for (first_fault settings bytes) ≡ GoodWith counts success → IsGoodRun settings bytes counts success
  run_if_told bytes counts success told = go (first_fault settings bytes) refl told
    where
      go : (t : FirstFault) → first_fault settings bytes ≡ t → answer_for t ≡ GoodWith counts success → IsGoodRun settings bytes counts success
      go (NoFault es) h e =
          let same : counts ≡ counts_of es = cc in
          let said : success ≡ run_succeeded es = cc in
          subst (λ b. IsGoodRun settings bytes counts b) (sym said) (subst (λ n. IsGoodRun settings bytes n (run_succeeded es)) (sym same) (good_run bytes es h))
      go (At n f) h e = absurd cc
      go (Troubled t) h e = absurd cc

  -- ---- the other direction

  told_good : (before : List Envelope) (n : ℕ) (ls : List (List ℕ)) (lines : List (ℕ × Envelope)) → map read_line (nonblank_lines n ls) ≡ map as_read lines
      → ((b : List Envelope) (e : Envelope) (a : List Envelope) → judged_lines before lines ≡ b ++ e ∷ a → fault settings (before ++ b) e ≡ None) → fault_at_end (before ++ judged_lines before lines) ≡ None
      → first_fault_of settings before n ls None ≡ NoFault (before ++ judged_lines before lines)
  told_good before n [] [] read none end =
      let here : fault_at_end before ≡ None = ap fault_at_end (sym (append-nil before)) ∙ end in
      rw here (ap NoFault (sym (append-nil before)))
  told_good before n [] (x ∷ lines) read none end = cc
  told_good before n (l ∷ ls) lines read none end = go (is_blank l) refl (told_good before (n + 1) ls lines) (λ e more. told_good (before ++ e ∷ []) (n + 1) ls more)
    where
      filled : is_blank l ≡ false → (lines : List (ℕ × Envelope)) → (n, envelope_of_line l) ∷ map read_line (nonblank_lines (n + 1) ls) ≡ map as_read lines
          → ((b : List Envelope) (e : Envelope) (a : List Envelope) → judged_lines before lines ≡ b ++ e ∷ a → fault settings (before ++ b) e ≡ None) → fault_at_end (before ++ judged_lines before lines) ≡ None
          → ((e : Envelope) (more : List (ℕ × Envelope)) → map read_line (nonblank_lines (n + 1) ls) ≡ map as_read more
          → ((b : List Envelope) (x : Envelope) (a : List Envelope) → judged_lines (before ++ e ∷ []) more ≡ b ++ x ∷ a → fault settings ((before ++ e ∷ []) ++ b) x ≡ None) → fault_at_end ((before ++ e ∷ []) ++ judged_lines (before ++ e ∷ []) more) ≡ None
          → first_fault_of settings (before ++ e ∷ []) (n + 1) ls None ≡ NoFault ((before ++ e ∷ []) ++ judged_lines (before ++ e ∷ []) more))
          → first_fault_of settings before n (l ∷ ls) None ≡ NoFault (before ++ judged_lines before lines)
      filled is [] read none end rec = cc
      filled is (x ∷ lines) read none end rec =
          let first : ◌≡◌ {A = ℕ × Result Envelope LineFault} (n, envelope_of_line l) (as_read x) = cc in
          let more : map read_line (nonblank_lines (n + 1) ls) ≡ map as_read lines = cc in
          let here : envelope_of_line l ≡ Ok x.1 = ap (λ (r : ℕ × Result Envelope LineFault). r.1) first in
          let said = judged_as settings before x.1 in
          let later = judged_lines (before ++ said ∷ []) lines in
          let passes : fault settings before said ≡ None = ap (λ bs. fault settings bs said) (sym (append-nil before)) ∙ none [] said later refl in
          let rest = rec said lines more (λ b e a c. ap (λ bs. fault settings bs e) (append_assoc before (said ∷ []) b) ∙ none (said ∷ b) e a (ap (λ ys. said ∷ ys) c))
          (ap fault_at_end (append_assoc before (said ∷ []) later) ∙ end) in
          rw (is, here, passes) (rest ∙ ap NoFault (append_assoc before (said ∷ []) later))

      go : (b : Bool) → is_blank l ≡ b
          → (map read_line (nonblank_lines (n + 1) ls) ≡ map as_read lines → ((b : List Envelope) (e : Envelope) (a : List Envelope) → judged_lines before lines ≡ b ++ e ∷ a → fault settings (before ++ b) e ≡ None)
          → fault_at_end (before ++ judged_lines before lines) ≡ None → first_fault_of settings before (n + 1) ls None ≡ NoFault (before ++ judged_lines before lines))
          → ((e : Envelope) (more : List (ℕ × Envelope)) → map read_line (nonblank_lines (n + 1) ls) ≡ map as_read more
          → ((b : List Envelope) (x : Envelope) (a : List Envelope) → judged_lines (before ++ e ∷ []) more ≡ b ++ x ∷ a → fault settings ((before ++ e ∷ []) ++ b) x ≡ None) → fault_at_end ((before ++ e ∷ []) ++ judged_lines (before ++ e ∷ []) more) ≡ None
          → first_fault_of settings (before ++ e ∷ []) (n + 1) ls None ≡ NoFault ((before ++ e ∷ []) ++ judged_lines (before ++ e ∷ []) more))
          → first_fault_of settings before n (l ∷ ls) None ≡ NoFault (before ++ judged_lines before lines)
      go true e skip rec = rw e (skip (rw e at read) none end)
      go false e skip rec = filled e lines (rw e at read) none end rec

  -- A good list of lines is reported as such.
  pub read_is_told : (bytes : List ℕ) (judged : List Envelope) → IsReadAs settings bytes judged → Good settings judged → first_fault settings bytes ≡ NoFault judged
  read_is_told bytes judged said good =
      let lines = said.lines in
      let faultless = good_have_no_fault settings (judged_lines [] lines) (subst (Good settings) said.judged good) in
      let here : first_fault_of settings [] 1 (feed_of bytes).lines None ≡ NoFault (judged_lines [] lines) = told_good [] 1 (feed_of bytes).lines lines said.read.read (λ b e a c. faultless.lines b e a c) faultless.end in
      ap (first_fault_of settings [] 1 (feed_of bytes).lines) said.read.no_trouble ∙ here ∙ ap NoFault (sym said.judged)

  pub good_is_told : (bytes : List ℕ) (counts : Counts) → IsGoodStream settings bytes counts → (es : List Envelope) × (first_fault settings bytes ≡ NoFault es) × (counts ≡ counts_of es)
  good_is_told bytes counts g = let r = g.1 in (r.judged, read_is_told bytes r.judged r.read r.good, r.exact)

  -- the answer for a good run
  pub run_is_told : (bytes : List ℕ) (counts : Counts) (success : Bool) → IsGoodRun settings bytes counts success → answer_for (first_fault settings bytes) ≡ GoodWith counts success
  run_is_told bytes counts success r =
      let here = read_is_told bytes r.judged r.read r.good in
      let exact = r.exact in
      let said = r.said in
      cc

  -- ---- a finding is read from the lines up to its own

  at_is_after : (before : List Envelope) (n : ℕ) (ls : List (List ℕ)) (t : Option Trouble) (m : ℕ) (f : Finding) → first_fault_of settings before n ls t ≡ At m f → n ≤ m
  at_is_after before n [] (Some t) m f h = cc
  at_is_after before n [] None m f h = go (fault_at_end before) h
    where
      go : (o : Option Finding) → at_end n before o ≡ At m f → n ≤ m
      go None k = cc
      go (Some g) k = let same : n ≡ m = cc in omega arith
  at_is_after before n (l ∷ ls) t m f h = go (line_judged_as settings before (envelope_unless_blank l)) h (at_is_after before (n + 1) ls t m f) (λ e. at_is_after (before ++ e ∷ []) (n + 1) ls t m f)
    where
      on_fault : (e : Envelope) (o : Option Finding) → at_line n o (first_fault_of settings (before ++ e ∷ []) (n + 1) ls t) ≡ At m f → (first_fault_of settings (before ++ e ∷ []) (n + 1) ls t ≡ At m f → n + 1 ≤ m) → n ≤ m
      on_fault e None k rec = let later = rec k in omega arith
      on_fault e (Some g) k rec = let same : n ≡ m = cc in omega arith

      go : (o : Option (Result Envelope LineFault)) → first_fault_line settings before n o (λ (now : List Envelope). first_fault_of settings now (n + 1) ls t) ≡ At m f → (first_fault_of settings before (n + 1) ls t ≡ At m f → n + 1 ≤ m)
          → ((e : Envelope) → first_fault_of settings (before ++ e ∷ []) (n + 1) ls t ≡ At m f → n + 1 ≤ m) → n ≤ m
      go None k skip rec = let later = skip k in omega arith
      go (Some (Err b)) k skip rec = let same : n ≡ m = cc in omega arith
      go (Some (Ok e)) k skip rec = on_fault e (fault settings before e) k (rec e)

  told_by_front : (before : List Envelope) (n : ℕ) (front later more : List (List ℕ)) (t u : Option Trouble) (m : ℕ) (f : Finding) → first_fault_of settings before n (front ++ later) t ≡ At m f → m < n + length front
      → first_fault_of settings before n (front ++ more) u ≡ At m f
  told_by_front before n [] later more t u m f h lt = let le = at_is_after before n later t m f h in absurd (omega arith)
  told_by_front before n (l ∷ front) later more t u m f h lt =
      go (line_judged_as settings before (envelope_unless_blank l)) h (λ k. told_by_front before (n + 1) front later more t u m f k (omega arith)) (λ e k. told_by_front (before ++ e ∷ []) (n + 1) front later more t u m f k (omega arith))
    where
      on_fault : (e : Envelope) (o : Option Finding) → at_line n o (first_fault_of settings (before ++ e ∷ []) (n + 1) (front ++ later) t) ≡ At m f
          → (first_fault_of settings (before ++ e ∷ []) (n + 1) (front ++ later) t ≡ At m f → first_fault_of settings (before ++ e ∷ []) (n + 1) (front ++ more) u ≡ At m f) → at_line n o (first_fault_of settings (before ++ e ∷ []) (n + 1) (front ++ more) u) ≡ At m f
      on_fault e None k rec = rec k
      on_fault e (Some g) k rec = k

      go : (o : Option (Result Envelope LineFault)) → first_fault_line settings before n o (λ (now : List Envelope). first_fault_of settings now (n + 1) (front ++ later) t) ≡ At m f
          → (first_fault_of settings before (n + 1) (front ++ later) t ≡ At m f → first_fault_of settings before (n + 1) (front ++ more) u ≡ At m f)
          → ((e : Envelope) → first_fault_of settings (before ++ e ∷ []) (n + 1) (front ++ later) t ≡ At m f → first_fault_of settings (before ++ e ∷ []) (n + 1) (front ++ more) u ≡ At m f)
          → first_fault_line settings before n o (λ (now : List Envelope). first_fault_of settings now (n + 1) (front ++ more) u) ≡ At m f
      go None k skip rec = skip k
      go (Some (Err b)) k skip rec = k
      go (Some (Ok e)) k skip rec = on_fault e (fault settings before e) k (rec e)

  -- No good stream has the lines up to a finding.
  pub none_is_good : (bytes other : List ℕ) (n : ℕ) (f : Finding) (counts : Counts) → first_fault settings bytes ≡ At n f → HaveFirstLines n bytes other → IsGoodStream settings other counts → ⊥
  none_is_good bytes other n f counts h begins good =
      let more = begins.other_rest in
      let front = begins.first in
      let later = begins.rest in
      let mine : first_fault_of settings [] 1 (front ++ later) (feed_of bytes).trouble ≡ At n f = ap (λ ls. first_fault_of settings [] 1 ls (feed_of bytes).trouble) (sym begins.here) ∙ h in
      let long : length front ≡ n = begins.count in
      let its : first_fault_of settings [] 1 (front ++ more) (feed_of other).trouble ≡ At n f = told_by_front [] 1 front later more (feed_of bytes).trouble (feed_of other).trouble n f mine (omega arith) in
      let told_other : first_fault settings other ≡ At n f = ap (λ ls. first_fault_of settings [] 1 ls (feed_of other).trouble) begins.there ∙ its in
      let good_other = (good_is_told other counts good).1 in
      cc

  pub not_good : (bytes : List ℕ) (n : ℕ) (f : Finding) (counts : Counts) → first_fault settings bytes ≡ At n f → IsGoodStream settings bytes counts → ⊥
  not_good bytes n f counts h good = let told_good = (good_is_told bytes counts good).1 in cc

  -- ---- answers

  right_so : (bytes : List ℕ) (v : Verdict) (success : Bool) (t : FirstFault) → first_fault settings bytes ≡ t → answer_in v success ≡ answer_for t → GoodRunIn settings bytes v success × NoneIsGood settings bytes (Ok v)
  right_so bytes (verdict.Good counts) success t h e = (run_if_told bytes counts success (ap answer_for h ∙ sym e), tt)
  right_so bytes (verdict.Bad n b) success (At m f) h e =
      let same : n ≡ m = cc in
      let here : first_fault settings bytes ≡ At n f = h ∙ ap (λ z. At z f) (sym same) in
      (tt, (λ other counts begins good. none_is_good bytes other n f counts here begins good, λ counts good. not_good bytes n f counts here good))
  right_so bytes (verdict.Bad n b) success (NoFault es) h e = absurd cc
  right_so bytes (verdict.Bad n b) success (Troubled t) h e = absurd cc
  right_so bytes (verdict.Unsupported n r) success t h e = (tt, tt)

-- an audit that answers what is reported is right
pub answers_are_right : (settings : Settings) (bytes : List ℕ) (answer : Result Audited Trouble) → answer_of_audit answer ≡ answer_for (first_fault settings bytes) → IsRightAnswer settings bytes answer
answers_are_right settings bytes (Ok a) e =
    let both = right_so settings bytes a.verdict a.success (first_fault settings bytes) refl e in
    record { good = both.0; bad = both.1; decided = λ counts success run. e ∙ run_is_told settings bytes counts success run }
answers_are_right settings bytes (Err t) e = record { good = tt; bad = tt; decided = λ counts success run. e ∙ run_is_told settings bytes counts success run }
