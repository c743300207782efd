-- What is reported of a stream's attempts is right.
use Rattle.std.proofs.Common.{◌≡◌, ℕ, ◌+◌, refl, sym, ap, ◌∙◌, subst, List, [], ◌∷◌, ◌++◌, Option, Some, None, Result, Ok, Err, true, false, Bool, append_assoc, append-nil, map}
use Rattle.cm_attempt.specs.Table.{table_from}
use Rattle.cm_envelope.specs.Lines.{is_blank}
use Rattle.cm_envelope.specs.Reading.{LineFault, envelope_of_line}
use Rattle.cm_envelope.specs.declared.envelope.Envelope.{Envelope}
use Rattle.cm_envelope.specs.declared.feed.Trouble.{Trouble}
use Rattle.cm_stream.specs.Findings.{Finding, IsBad, NoEnvelope}
use Rattle.cm_stream.specs.Stream.{At, Troubled, NoFault, at_line, feed_of, nonblank_lines, read_line, as_read, envelopes}
use Rattle.cm_stream.specs.Results.{AreWellOrdered, results_fault, first_results_fault_line, first_results_fault_of, first_results_fault, IsWell, FaultOf, NoFaultIsExact, FaultsAreFirst, TroublesAreLast}
use Rattle.cm_stream.proofs.Tables.{tables_have_results, fronts_are_well_ordered, faults_are_exact}

none_well : (first : ℕ) → AreWellOrdered first []
none_well first = (tables_have_results first [] (table_from first) refl).0

-- ---- no fault

record Clean (first : ℕ) (before : List Envelope) (n : ℕ) (ls : List (List ℕ)) (t : Option Trouble) (es : List Envelope) : Type 0 where
  lines : List (ℕ × Envelope)
  no_trouble : t ≡ None
  read : map read_line (nonblank_lines n ls) ≡ map as_read lines
  all : es ≡ before ++ envelopes lines
  well : AreWellOrdered first es

clean : (first : ℕ) (before : List Envelope) (n : ℕ) (ls : List (List ℕ)) (t : Option Trouble) (es : List Envelope) → AreWellOrdered first before → first_results_fault_of first before n ls t ≡ NoFault es → Clean first before n ls t es
clean first before n [] (Some t) es well h = cc
clean first before n [] None es well h =
    let same : before ≡ es = cc in
    record { lines = []; no_trouble = refl; read = refl; all = sym same ∙ sym (append-nil before); well = subst (AreWellOrdered first) same well }
clean first before n (l ∷ ls) t es well h = go (is_blank l) refl (clean first before (n + 1) ls t es well) (λ e. clean first (before ++ e ∷ []) (n + 1) ls t es)
  where
    on_fault : (e : Envelope) → is_blank l ≡ false → envelope_of_line l ≡ Ok e → (o : Option Finding) → results_fault first before e ≡ o → at_line n o (first_results_fault_of first (before ++ e ∷ []) (n + 1) ls t) ≡ NoFault es
        → (AreWellOrdered first (before ++ e ∷ []) → first_results_fault_of first (before ++ e ∷ []) (n + 1) ls t ≡ NoFault es → Clean first (before ++ e ∷ []) (n + 1) ls t es) → Clean first before n (l ∷ ls) t es
    on_fault e filled is (Some f) k told rec = cc
    on_fault e filled is None k told rec =
        let c = rec ((faults_are_exact first before well e).0 k) told in
        record { lines = (n, e) ∷ c.lines; no_trouble = c.no_trouble; read = rw (filled, is, c.read) refl; all = c.all ∙ append_assoc before (e ∷ []) (envelopes c.lines); well = c.well }

    on_read : is_blank l ≡ false → (r : Result Envelope LineFault) → envelope_of_line l ≡ r → first_results_fault_line first before n (Some r) (λ (now : List Envelope). first_results_fault_of first now (n + 1) ls t) ≡ NoFault es
        → ((e : Envelope) → AreWellOrdered first (before ++ e ∷ []) → first_results_fault_of first (before ++ e ∷ []) (n + 1) ls t ≡ NoFault es → Clean first (before ++ e ∷ []) (n + 1) ls t es) → Clean first before n (l ∷ ls) t es
    on_read filled (Err b) is told rec = cc
    on_read filled (Ok e) is told rec = on_fault e filled is (results_fault first before e) refl told (rec e)

    go : (b : Bool) → is_blank l ≡ b → (first_results_fault_of first before (n + 1) ls t ≡ NoFault es → Clean first before (n + 1) ls t es)
        → ((e : Envelope) → AreWellOrdered first (before ++ e ∷ []) → first_results_fault_of first (before ++ e ∷ []) (n + 1) ls t ≡ NoFault es → Clean first (before ++ e ∷ []) (n + 1) ls t es) → Clean first before n (l ∷ ls) t es
    go true e skip rec =
        let c = skip (rw e at h) in
        record { lines = c.lines; no_trouble = c.no_trouble; read = rw e c.read; all = c.all; well = c.well }
    go false e skip rec = on_read e (envelope_of_line l) refl (rw e at h) rec

is_well : (first : ℕ) (bytes : List ℕ) (es : List Envelope) → first_results_fault first bytes ≡ NoFault es → IsWell first bytes es
is_well first bytes es h =
    let c = clean first [] 1 (feed_of bytes).lines (feed_of bytes).trouble es (none_well first) h in
    record { lines = c.lines; read = record { no_trouble = c.no_trouble; read = c.read }; all = c.all; well = c.well }

-- ---- the other direction

told_well : (first : ℕ) (before : List Envelope) (n : ℕ) (ls : List (List ℕ)) (lines : List (ℕ × Envelope)) → map read_line (nonblank_lines n ls) ≡ map as_read lines → AreWellOrdered first (before ++ envelopes lines) → first_results_fault_of first before n ls None ≡ NoFault (before ++ envelopes lines)
told_well first before n [] [] read well = ap NoFault (sym (append-nil before))
told_well first before n [] (x ∷ lines) read well = cc
told_well first before n (l ∷ ls) lines read well = go (is_blank l) refl (told_well first before (n + 1) ls lines) (λ e more. told_well first (before ++ e ∷ []) (n + 1) ls more)
  where
    filled : is_blank l ≡ false → (lines : List (ℕ × Envelope)) → (n, envelope_of_line l) ∷ map read_line (nonblank_lines (n + 1) ls) ≡ map as_read lines → AreWellOrdered first (before ++ envelopes lines)
        → ((e : Envelope) (more : List (ℕ × Envelope)) → map read_line (nonblank_lines (n + 1) ls) ≡ map as_read more → AreWellOrdered first ((before ++ e ∷ []) ++ envelopes more) → first_results_fault_of first (before ++ e ∷ []) (n + 1) ls None ≡ NoFault ((before ++ e ∷ []) ++ envelopes more))
        → first_results_fault_of first before n (l ∷ ls) None ≡ NoFault (before ++ envelopes lines)
    filled is [] read well rec = cc
    filled is (x ∷ lines) read well rec =
        let here_read : ◌≡◌ {A = ℕ × Result Envelope LineFault} (n, envelope_of_line l) (as_read x) = cc in
        let more : map read_line (nonblank_lines (n + 1) ls) ≡ map as_read lines = cc in
        let here : envelope_of_line l ≡ Ok x.1 = ap (λ (r : ℕ × Result Envelope LineFault). r.1) here_read in
        let again : AreWellOrdered first ((before ++ x.1 ∷ []) ++ envelopes lines) = subst (AreWellOrdered first) (sym (append_assoc before (x.1 ∷ []) (envelopes lines))) well in
        let passes : results_fault first before x.1 ≡ None = (faults_are_exact first before (fronts_are_well_ordered first before (x.1 ∷ envelopes lines) well) x.1).1 (fronts_are_well_ordered first (before ++ x.1 ∷ []) (envelopes lines) again) in
        rw (is, here, passes) (rec x.1 lines more again ∙ ap NoFault (append_assoc before (x.1 ∷ []) (envelopes lines)))

    go : (b : Bool) → is_blank l ≡ b
        → (map read_line (nonblank_lines (n + 1) ls) ≡ map as_read lines → AreWellOrdered first (before ++ envelopes lines) → first_results_fault_of first before (n + 1) ls None ≡ NoFault (before ++ envelopes lines))
        → ((e : Envelope) (more : List (ℕ × Envelope)) → map read_line (nonblank_lines (n + 1) ls) ≡ map as_read more → AreWellOrdered first ((before ++ e ∷ []) ++ envelopes more) → first_results_fault_of first (before ++ e ∷ []) (n + 1) ls None ≡ NoFault ((before ++ e ∷ []) ++ envelopes more))
        → first_results_fault_of first before n (l ∷ ls) None ≡ NoFault (before ++ envelopes lines)
    go true e skip rec = rw e (skip (rw e at read) well)
    go false e skip rec = filled e lines (rw e at read) well rec

is_told : (first : ℕ) (bytes : List ℕ) (es : List Envelope) → IsWell first bytes es → first_results_fault first bytes ≡ NoFault es
is_told first bytes es w =
    ap (first_results_fault_of first [] 1 (feed_of bytes).lines) w.read.no_trouble ∙ told_well first [] 1 (feed_of bytes).lines w.lines w.read.read (subst (AreWellOrdered first) w.all w.well) ∙ ap NoFault (sym w.all)

pub no_fault_is_exact : NoFaultIsExact
no_fault_is_exact = record { well = is_well; exact = is_told }

-- ---- a fault

record First (first : ℕ) (before : List Envelope) (n : ℕ) (ls : List (List ℕ)) (m : ℕ) (f : Finding) : Type 0 where
  front : List (ℕ × List ℕ)
  line : List ℕ
  rest : List (ℕ × List ℕ)
  read_as : List (ℕ × Envelope)
  cut : nonblank_lines n ls ≡ front ++ (m, line) ∷ rest
  read : map read_line front ≡ map as_read read_as
  well : AreWellOrdered first (before ++ envelopes read_as)
  why : FaultOf first (before ++ envelopes read_as) (envelope_of_line line) f

first_of : (first : ℕ) (before : List Envelope) (n : ℕ) (ls : List (List ℕ)) (t : Option Trouble) (m : ℕ) (f : Finding) → AreWellOrdered first before → first_results_fault_of first before n ls t ≡ At m f → First first before n ls m f
first_of first before n [] (Some t) m f well h = cc
first_of first before n [] None m f well h = cc
first_of first before n (l ∷ ls) t m f well h = go (is_blank l) refl (first_of first before (n + 1) ls t m f well) (λ e. first_of first (before ++ e ∷ []) (n + 1) ls t m f)
  where
    here : is_blank l ≡ false → n ≡ m → FaultOf first before (envelope_of_line l) f → First first before n (l ∷ ls) m f
    here filled same why = record {
      front = [];
      line = l;
      rest = nonblank_lines (n + 1) ls;
      read_as = [];
      cut = rw filled (ap (λ k. (k, l) ∷ nonblank_lines (n + 1) ls) same);
      read = refl;
      well = subst (AreWellOrdered first) (sym (append-nil before)) well;
      why = subst (λ es. FaultOf first es (envelope_of_line l) f) (sym (append-nil before)) why;
    }

    on_fault : (e : Envelope) → is_blank l ≡ false → envelope_of_line l ≡ Ok e → (o : Option Finding) → results_fault first before e ≡ o → at_line n o (first_results_fault_of first (before ++ e ∷ []) (n + 1) ls t) ≡ At m f
        → (AreWellOrdered first (before ++ e ∷ []) → first_results_fault_of first (before ++ e ∷ []) (n + 1) ls t ≡ At m f → First first (before ++ e ∷ []) (n + 1) ls m f) → First first before n (l ∷ ls) m f
    on_fault e filled is (Some g) k told rec =
        let same : n ≡ m = cc in
        let its : g ≡ f = cc in
        let failed : results_fault first before e ≡ Some f = k ∙ ap Some its in
        here filled same (rw is (failed, λ more. let none : None ≡ Some f = sym ((faults_are_exact first before well e).1 more) ∙ failed in cc))
    on_fault e filled is None k told rec =
        let w = rec ((faults_are_exact first before well e).0 k) told in
        let all : (before ++ e ∷ []) ++ envelopes w.read_as ≡ before ++ e ∷ envelopes w.read_as = append_assoc before (e ∷ []) (envelopes w.read_as) in
        record {
          front = (n, l) ∷ w.front;
          line = w.line;
          rest = w.rest;
          read_as = (n, e) ∷ w.read_as;
          cut = rw filled (ap (λ ls. (n, l) ∷ ls) w.cut);
          read = rw (is, w.read) refl;
          well = subst (AreWellOrdered first) all w.well;
          why = subst (λ es. FaultOf first es (envelope_of_line w.line) f) all w.why;
        }

    on_read : is_blank l ≡ false → (r : Result Envelope LineFault) → envelope_of_line l ≡ r → first_results_fault_line first before n (Some r) (λ (now : List Envelope). first_results_fault_of first now (n + 1) ls t) ≡ At m f
        → ((e : Envelope) → AreWellOrdered first (before ++ e ∷ []) → first_results_fault_of first (before ++ e ∷ []) (n + 1) ls t ≡ At m f → First first (before ++ e ∷ []) (n + 1) ls m f) → First first before n (l ∷ ls) m f
    on_read filled (Err b) is told rec =
        let same : n ≡ m = cc in
        let its : IsBad (NoEnvelope b) ≡ f = cc in
        here filled same (rw is (sym its))
    on_read filled (Ok e) is told rec = on_fault e filled is (results_fault first before e) refl told (rec e)

    go : (b : Bool) → is_blank l ≡ b → (first_results_fault_of first before (n + 1) ls t ≡ At m f → First first before (n + 1) ls m f)
        → ((e : Envelope) → AreWellOrdered first (before ++ e ∷ []) → first_results_fault_of first (before ++ e ∷ []) (n + 1) ls t ≡ At m f → First first (before ++ e ∷ []) (n + 1) ls m f) → First first before n (l ∷ ls) m f
    go true e skip rec =
        let w = skip (rw e at h) in
        record { front = w.front; line = w.line; rest = w.rest; read_as = w.read_as; cut = rw e w.cut; read = w.read; well = w.well; why = w.why }
    go false e skip rec = on_read e (envelope_of_line l) refl (rw e at h) rec

pub faults_are_first : FaultsAreFirst
faults_are_first first bytes n f h =
    let w = first_of first [] 1 (feed_of bytes).lines (feed_of bytes).trouble n f (none_well first) h in
    record { front = w.front; line = w.line; rest = w.rest; before = w.read_as; cut = w.cut; read = w.read; well = w.well; why = w.why }

-- ---- a trouble

record Cut (first : ℕ) (before : List Envelope) (n : ℕ) (ls : List (List ℕ)) (t : Option Trouble) (u : Trouble) : Type 0 where
  lines : List (ℕ × Envelope)
  read : map read_line (nonblank_lines n ls) ≡ map as_read lines
  well : AreWellOrdered first (before ++ envelopes lines)
  end : t ≡ Some u

cut_off : (first : ℕ) (before : List Envelope) (n : ℕ) (ls : List (List ℕ)) (t : Option Trouble) (u : Trouble) → AreWellOrdered first before → first_results_fault_of first before n ls t ≡ Troubled u → Cut first before n ls t u
cut_off first before n [] None u well h = cc
cut_off first before n [] (Some t) u well h =
    let same : t ≡ u = cc in
    record { lines = []; read = refl; well = subst (AreWellOrdered first) (sym (append-nil before)) well; end = ap Some same }
cut_off first before n (l ∷ ls) t u well h = go (is_blank l) refl (cut_off first before (n + 1) ls t u well) (λ e. cut_off first (before ++ e ∷ []) (n + 1) ls t u)
  where
    on_fault : (e : Envelope) → is_blank l ≡ false → envelope_of_line l ≡ Ok e → (o : Option Finding) → results_fault first before e ≡ o → at_line n o (first_results_fault_of first (before ++ e ∷ []) (n + 1) ls t) ≡ Troubled u
        → (AreWellOrdered first (before ++ e ∷ []) → first_results_fault_of first (before ++ e ∷ []) (n + 1) ls t ≡ Troubled u → Cut first (before ++ e ∷ []) (n + 1) ls t u) → Cut first before n (l ∷ ls) t u
    on_fault e filled is (Some f) k told rec = cc
    on_fault e filled is None k told rec =
        let c = rec ((faults_are_exact first before well e).0 k) told in
        record { lines = (n, e) ∷ c.lines; read = rw (filled, is, c.read) refl; well = subst (AreWellOrdered first) (append_assoc before (e ∷ []) (envelopes c.lines)) c.well; end = c.end }

    on_read : is_blank l ≡ false → (r : Result Envelope LineFault) → envelope_of_line l ≡ r → first_results_fault_line first before n (Some r) (λ (now : List Envelope). first_results_fault_of first now (n + 1) ls t) ≡ Troubled u
        → ((e : Envelope) → AreWellOrdered first (before ++ e ∷ []) → first_results_fault_of first (before ++ e ∷ []) (n + 1) ls t ≡ Troubled u → Cut first (before ++ e ∷ []) (n + 1) ls t u) → Cut first before n (l ∷ ls) t u
    on_read filled (Err b) is told rec = cc
    on_read filled (Ok e) is told rec = on_fault e filled is (results_fault first before e) refl told (rec e)

    go : (b : Bool) → is_blank l ≡ b → (first_results_fault_of first before (n + 1) ls t ≡ Troubled u → Cut first before (n + 1) ls t u)
        → ((e : Envelope) → AreWellOrdered first (before ++ e ∷ []) → first_results_fault_of first (before ++ e ∷ []) (n + 1) ls t ≡ Troubled u → Cut first (before ++ e ∷ []) (n + 1) ls t u) → Cut first before n (l ∷ ls) t u
    go true e skip rec =
        let c = skip (rw e at h) in
        record { lines = c.lines; read = rw e c.read; well = c.well; end = c.end }
    go false e skip rec = on_read e (envelope_of_line l) refl (rw e at h) rec

pub troubles_are_last : TroublesAreLast
troubles_are_last first bytes t h =
    let c = cut_off first [] 1 (feed_of bytes).lines (feed_of bytes).trouble t (none_well first) h in
    record { lines = c.lines; read = c.read; well = c.well; end = c.end }
