-- The machine stops at the place of the fault.
use Rattle.std.proofs.Common.{◌≡◌, ℕ, suc, ◌+◌, Bool, true, false, List, [], ◌∷◌, ◌++◌, length, take, drop, Option, Some, None, Result, Ok, Err, refl, sym, ap, subst, ◌∙◌, arith, inl, inr, length-append}
use Rattle.std.proofs.lemmas.List.{take-append-drop, take-append-le}
use Rattle.std.proofs.Math.Seq.{take-append-add}
use Rattle.std.proofs.lemmas.Bool.{ltb-true, ltb-false}
use Rattle.std.proofs.Math.Dec.{ltb}
use Rattle.gk_grammar.specs.Token.{Blank, Comment, Language, Tags, Title, Step, Row, Fenced, Other, Line, line, number}
use Rattle.gk_grammar.specs.Machine.{FlatBlock, State, PlacedFault, run, blocks_at_end, initial_state, next, ◌>>=◌}
use Rattle.gk_grammar.specs.Place.{Completion, ByNothing, ByFeature, ByScenario, ByQuotes, ByBackticks, completion_lines, IsText, IsFront, IsFirstBad, IsOpenAtEnd, IsFault, IsFaultAt, DiffersFromTable}
use Rattle.gk_grammar.specs.declared.fault.FaultKind.{FaultKind}
use Rattle.gk_grammar.specs.declared.fault.FaultKind.TheVariants as kind
use Rattle.gk_grammar.proofs.TableFaults.{stop_is_fault}
use Rattle.std.specs.Prelude.{◌⊎◌}
use Rattle.gk_grammar.proofs.Live.{run-append}
use Rattle.gk_grammar.proofs.Final.{live_completes, dead_stays}
use Rattle.gk_grammar.proofs.Places.{AreNumberedFrom}
use Rattle.gk_grammar.proofs.Reading.{line_rises}
use Rattle.gk_grammar.proofs.Accepted.{accepted, doc_taken}

-- the machine takes the lines whole
pub record Whole (ls : List Line) : Type 0 where
  pub end : State
  pub last : List FlatBlock
  pub runs : run initial_state ls ≡ Ok end
  pub ends : blocks_at_end end.phase ≡ Some last

-- where a run stopped
pub record Stops (s : State) (ls : List Line) (b : PlacedFault) : Type 0 where
  pub before : List Line
  pub at : Line
  pub later : List Line
  pub state : State
  pub cut : ls ≡ before ++ at ∷ later
  pub came : run s before ≡ Ok state
  pub stopped : next state at ≡ Err b

pub stops_at : (s : State) (ls : List Line) (b : PlacedFault) → run s ls ≡ Err b → Stops s ls b
stops_at s [] b e = absurd cc
stops_at s (l ∷ ls) b e = go (next s l) refl e (λ x. stops_at x ls b)
  where
    go : (r : Result State PlacedFault) → next s l ≡ r → (r >>= λ x. run x ls) ≡ Err b → ((x : State) → run x ls ≡ Err b → Stops x ls b) → Stops s (l ∷ ls) b
    go (Err c) f g h = record { before = []; at = l; later = ls; state = s; cut = refl; came = refl; stopped = f ∙ g }
    go (Ok x) f g h =
        let t = h x g in
        record {
          before = l ∷ t.before;
          at = t.at;
          later = t.later;
          state = t.state;
          cut = ap (λ (z : List Line). l ∷ z) t.cut;
          came = ap (λ (r : Result State PlacedFault). r >>= λ y. run y t.before) f ∙ t.came;
          stopped = t.stopped;
        }

-- a front of lines that were read was read
front_read : (ls more : List Line) (s : State) → run initial_state (ls ++ more) ≡ Ok s → (t : State) × (run initial_state ls ≡ Ok t)
front_read ls more s e = go (run initial_state ls) refl (sym (run-append initial_state ls more) ∙ e)
  where
    go : (r : Result State PlacedFault) → run initial_state ls ≡ r → (r >>= λ x. run x more) ≡ Ok s → (t : State) × (run initial_state ls ≡ Ok t)
    go (Ok t) f g = (t, f)
    go (Err b) f g = absurd cc

-- ---- lines in order

are_more : (n : ℕ) (xs ys : List Line) → AreNumberedFrom n xs → AreNumberedFrom (n + length xs) ys → AreNumberedFrom n (xs ++ ys)
are_more n [] ys a b = subst (λ (z : ℕ). AreNumberedFrom z ys) (omega arith) b
are_more n (x ∷ xs) ys a b = (a.0, a.1, are_more (n + 1) xs ys a.2 (subst (λ (z : ℕ). AreNumberedFrom z ys) (omega arith) b))

are_fewer : (n : ℕ) (xs ys : List Line) → AreNumberedFrom n (xs ++ ys) → AreNumberedFrom n xs
are_fewer n [] ys a = tt
are_fewer n (x ∷ xs) ys a = (a.0, a.1, are_fewer (n + 1) xs ys a.2)

pub are_first : (m : ℕ) (ls : List Line) → AreNumberedFrom 1 ls → AreNumberedFrom 1 (take m ls)
are_first m ls a = are_fewer 1 (take m ls) (drop m ls) (subst (AreNumberedFrom 1) (sym (take-append-drop m ls)) a)

completing_are : (how : Completion) (n : ℕ) → AreNumberedFrom n (completion_lines how n)
completing_are ByNothing n = tt
completing_are ByFeature n = (refl, line_rises n _, tt)
completing_are ByScenario n = (refl, line_rises n _, tt)
completing_are ByQuotes n = (refl, line_rises n _, tt)
completing_are ByBackticks n = (refl, line_rises n _, tt)

completed_are : (ls : List Line) (how : Completion) → AreNumberedFrom 1 ls → AreNumberedFrom 1 (ls ++ completion_lines how (length ls + 1))
completed_are ls how a = are_more 1 ls (completion_lines how (length ls + 1)) a (subst (λ (z : ℕ). AreNumberedFrom z (completion_lines how (length ls + 1))) (omega arith) (completing_are how (length ls + 1)))

-- ---- the machine takes exactly the texts

pub sound : (ls : List Line) → AreNumberedFrom 1 ls → Whole ls → IsText ls
sound ls a w = (_, (accepted ls w.end w.last a w.runs w.ends).doc)

pub complete : (ls : List Line) → AreNumberedFrom 1 ls → IsText ls → Whole ls
complete ls a t = let k = doc_taken ls t.0 a t.1 in record { end = k.end; last = k.last; runs = k.runs; ends = k.ends }

read_is_front : (ls : List Line) (s : State) → AreNumberedFrom 1 ls → run initial_state ls ≡ Ok s → IsFront ls
read_is_front ls s a e = let c = live_completes ls s e in (c.0, sound (ls ++ completion_lines c.0 (length ls + 1)) (completed_are ls c.0 a) (record { end = c.1; last = c.2; runs = c.3; ends = c.4 }))

stopped_is_no_front : (ls : List Line) (b : PlacedFault) → AreNumberedFrom 1 ls → run initial_state ls ≡ Err b → IsFront ls → ⊥
stopped_is_no_front ls b a e f =
    let w = complete (ls ++ completion_lines f.0 (length ls + 1)) (completed_are ls f.0 a) f.1 in
    let d = dead_stays ls (completion_lines f.0 (length ls + 1)) b e in
    let r = w.runs in
    cc

pub fronts_read : (ls : List Line) (s : State) → AreNumberedFrom 1 ls → run initial_state ls ≡ Ok s → (m : ℕ) → IsFront (take m ls)
fronts_read ls s a e m =
    let f = front_read (take m ls) (drop m ls) s (ap (λ (z : List Line). run initial_state z) (take-append-drop m ls) ∙ e) in
    read_is_front (take m ls) f.0 (are_first m ls a) f.1

-- where the machine ends at a phase that isn't closed, the lines are no text
pub open_is_no_text : (ls : List Line) (s : State) → AreNumberedFrom 1 ls → run initial_state ls ≡ Ok s → blocks_at_end s.phase ≡ None → IsText ls → ⊥
open_is_no_text ls s a e c t = let w = complete ls a t in let r = w.runs in let same : s ≡ w.end = cc in let k : blocks_at_end s.phase ≡ Some w.last = ap (λ (z : State). blocks_at_end z.phase) same ∙ w.ends in cc

-- the place is the line at which the machine stops
pub stop_is_place : (ls : List Line) (b : PlacedFault) → AreNumberedFrom 1 ls → (t : Stops initial_state ls b) → IsFirstBad ls (length t.before + 1)
stop_is_place ls b a t =
    let front : take (length t.before + 1) ls ≡ t.before ++ t.at ∷ [] = ap (λ (z : List Line). take (length t.before + 1) z) t.cut ∙ take-append-add t.before (t.at ∷ t.later) 1 in
    let long : length ls ≡ length t.before + length (t.at ∷ t.later) = ap (λ (z : List Line). length z) t.cut ∙ length-append t.before (t.at ∷ t.later) in
    let first : AreNumberedFrom 1 t.before = are_fewer 1 t.before (t.at ∷ t.later) (subst (AreNumberedFrom 1) t.cut a) in
    record {
      from_one = omega arith;
      within = omega arith;
      bad = λ f. stopped_is_no_front (t.before ++ t.at ∷ []) b (subst (AreNumberedFrom 1) front (are_first (length t.before + 1) ls a)) (run-append initial_state t.before (t.at ∷ []) ∙ ap (λ (r : Result State PlacedFault). r >>= λ x. run x (t.at ∷ [])) t.came ∙ ap (λ (r : Result State PlacedFault). r >>= λ x. Ok x) t.stopped) (subst IsFront front f);
      least = λ m one below. subst IsFront (sym (ap (λ (z : List Line). take m z) t.cut ∙ take-append-le m t.before (t.at ∷ t.later) (omega arith))) (fronts_read t.before t.state first t.came m);
    }

-- where it stops nowhere and the lines are no text, they are open at the end
pub open_is_place : (ls : List Line) (s : State) → AreNumberedFrom 1 ls → run initial_state ls ≡ Ok s → blocks_at_end s.phase ≡ None → IsOpenAtEnd ls (length ls + 1)
open_is_place ls s a e c = record {
  past_end = refl;
  fronts = λ m one below. fronts_read ls s a e m;
  open_yet = open_is_no_text ls s a e c;
}

-- ---- the fault of a text

number_at : (n : ℕ) (before : List Line) (at : Line) (later : List Line) → AreNumberedFrom n (before ++ at ∷ later) → number at ≡ n + length before
number_at n [] at later a = a.0 ∙ omega arith
number_at n (l ∷ ls) at later a = number_at (n + 1) ls at later a.2 ∙ omega arith

-- where the machine stops, its fault is that of the lines
pub stop_has_fault : (ls : List Line) (b : PlacedFault) → AreNumberedFrom 1 ls → run initial_state ls ≡ Err b → IsFault ls b.kind b.line b.column
stop_has_fault ls b a e =
    let t = stops_at initial_state ls b e in
    let f = stop_is_fault t.before t.at t.state b t.came t.stopped in
    let n : length t.before + 1 ≡ b.line = let m = number_at 1 t.before t.at t.later (subst (AreNumberedFrom 1) t.cut a) in let g = f.0 in omega arith in
    inl (record { place = subst (IsFirstBad ls) n (stop_is_place ls b a t); before = t.before; at = t.at; later = t.later; cut = t.cut; here = n; what = f.1 })

-- where it is at a phase that isn't closed, the lines end where more must come
pub open_has_fault : (ls : List Line) (s : State) → AreNumberedFrom 1 ls → run initial_state ls ≡ Ok s → blocks_at_end s.phase ≡ None → IsFault ls kind.UnexpectedEnd (length ls + 1) 1
open_has_fault ls s a e c = inr (record { place = open_is_place ls s a e c; what = refl; first_column = refl })

-- a text of the grammar is a front in each of its first lines
pub text_is_front : (ls : List Line) → AreNumberedFrom 1 ls → IsText ls → (m : ℕ) → IsFront (take m ls)
text_is_front ls a t m = let w = complete ls a t in fronts_read ls w.end a w.runs m

-- lines with a fault are no text
pub fault_is_no_text : (ls : List Line) (k : FaultKind) (n column : ℕ) → AreNumberedFrom 1 ls → IsFault ls k n column → IsText ls → ⊥
fault_is_no_text ls k n column a (inl f) t = f.place.bad (text_is_front ls a t n)
fault_is_no_text ls k n column a (inr f) t = f.place.open_yet t

-- lines are a text of the grammar, or have a fault
pub text_or_fault : (ls : List Line) → AreNumberedFrom 1 ls → IsText ls ⊎ ((k : FaultKind) × (n : ℕ) × (column : ℕ) × IsFault ls k n column)
text_or_fault ls a = go (run initial_state ls) refl
  where
    ended : (s : State) (o : Option (List FlatBlock)) → run initial_state ls ≡ Ok s → blocks_at_end s.phase ≡ o → IsText ls ⊎ ((k : FaultKind) × (n : ℕ) × (column : ℕ) × IsFault ls k n column)
    ended s (Some last) e c = inl (sound ls a (record { end = s; last = last; runs = e; ends = c }))
    ended s None e c = inr (kind.UnexpectedEnd, length ls + 1, 1, open_has_fault ls s a e c)

    go : (r : Result State PlacedFault) → run initial_state ls ≡ r → IsText ls ⊎ ((k : FaultKind) × (n : ℕ) × (column : ℕ) × IsFault ls k n column)
    go (Ok s) e = ended s (blocks_at_end s.phase) e refl
    go (Err b) e = inr (b.kind, b.line, b.column, stop_has_fault ls b a e)

-- ---- one fault at most

pub same_front : (xs ys : List Line) (x y : Line) (us vs : List Line) → length xs ≡ length ys → xs ++ x ∷ us ≡ ys ++ y ∷ vs → (xs ≡ ys) × (x ≡ y)
same_front [] [] x y us vs l e = (refl, cc)
same_front [] (b ∷ bs) x y us vs l e = absurd (let z : 0 ≡ suc (length bs) = l in omega arith)
same_front (a ∷ as1) [] x y us vs l e = absurd (let z : suc (length as1) ≡ 0 = l in omega arith)
same_front (a ∷ as1) (b ∷ bs) x y us vs l e =
    let head : a ≡ b = cc in
    let tail : as1 ++ x ∷ us ≡ bs ++ y ∷ vs = cc in
    let r = same_front as1 bs x y us vs (omega arith) tail in
    let same : as1 ≡ bs = r.0 in
    (cc, r.1)

-- the kind and the column of a fault at a line are settled
one_kind : (before : List Line) (at : Line) (k l : FaultKind) (c d : ℕ) → IsFaultAt before at k c → IsFaultAt before at l d → (k ≡ l) × (c ≡ d)
one_kind before (line n t i (Tags (Err column))) k l c d f g = (f.0 ∙ sym g.0, f.1 ∙ sym g.1)
one_kind before (line n t i (Language w)) k l c d f g = (f.1 ∙ sym g.1, f.2 ∙ sym g.2)
one_kind before (line n t i (Row cells)) k l c d f g = (go f.0 g.0, f.1 ∙ sym g.1)
  where
    go : (DiffersFromTable before cells × (k ≡ kind.CellCount)) ⊎ ((DiffersFromTable before cells → ⊥) × (k ≡ kind.Unexpected)) →
        (DiffersFromTable before cells × (l ≡ kind.CellCount)) ⊎ ((DiffersFromTable before cells → ⊥) × (l ≡ kind.Unexpected)) → k ≡ l
    go (inl x) (inl y) = x.1 ∙ sym y.1
    go (inl x) (inr y) = absurd (y.0 x.0)
    go (inr x) (inl y) = absurd (x.0 y.0)
    go (inr x) (inr y) = x.1 ∙ sym y.1
one_kind before (line n t i (Tags (Ok words))) k l c d f g = (f.0 ∙ sym g.0, f.1 ∙ sym g.1)
one_kind before (line n t i Blank) k l c d f g = (f.0 ∙ sym g.0, f.1 ∙ sym g.1)
one_kind before (line n t i Comment) k l c d f g = (f.0 ∙ sym g.0, f.1 ∙ sym g.1)
one_kind before (line n t i (Title b w m)) k l c d f g = (f.0 ∙ sym g.0, f.1 ∙ sym g.1)
one_kind before (line n t i (Step w y m)) k l c d f g = (f.0 ∙ sym g.0, f.1 ∙ sym g.1)
one_kind before (line n t i (Fenced q m)) k l c d f g = (f.0 ∙ sym g.0, f.1 ∙ sym g.1)
one_kind before (line n t i Other) k l c d f g = (f.0 ∙ sym g.0, f.1 ∙ sym g.1)

-- of two places the first one is no front, and where it isn't the other it is one
pub one_place : (ls : List Line) (m n : ℕ) → IsFirstBad ls m → IsFirstBad ls n → m ≡ n
one_place ls m n f g = go (ltb m n) refl (ltb n m) refl
  where
    go : (a : Bool) → ltb m n ≡ a → (b : Bool) → ltb n m ≡ b → m ≡ n
    go true e b h = absurd (f.bad (g.least m f.from_one (ltb-true _ _ e)))
    go false e true h = absurd (g.bad (f.least n g.from_one (ltb-true _ _ h)))
    go false e false h = let x = ltb-false m n e in let y = ltb-false n m h in omega arith

pub one_fault : (ls : List Line) (k l : FaultKind) (m n c d : ℕ) → IsFault ls k m c → IsFault ls l n d → (k ≡ l) × (m ≡ n) × (c ≡ d)
one_fault ls k l m n c d (inl f) (inl g) =
    let same = one_place ls m n f.place g.place in
    let front = same_front f.before g.before f.at g.at f.later g.later (let x = f.here in let y = g.here in omega arith) (sym f.cut ∙ g.cut) in
    let r = one_kind g.before g.at k l c d (subst (λ (z : Line). IsFaultAt g.before z k c) front.1 (subst (λ (z : List Line). IsFaultAt z f.at k c) front.0 f.what)) g.what in
    (r.0, same, r.1)
one_fault ls k l m n c d (inl f) (inr g) = absurd (f.place.bad (g.place.fronts m f.place.from_one f.place.within))
one_fault ls k l m n c d (inr f) (inl g) = absurd (g.place.bad (f.place.fronts n g.place.from_one g.place.within))
one_fault ls k l m n c d (inr f) (inr g) = (f.what ∙ sym g.what, f.place.past_end ∙ sym g.place.past_end, f.first_column ∙ sym g.first_column)
