-- The parts of a document stand at their places in its lines, in order.
use Rattle.std.proofs.Common.{◌≡◌, ℕ, ◌+◌, ◌≤◌, true, List, [], ◌∷◌, ◌++◌, length, Ok, Err, refl, sym, subst, append_assoc, arith, inl, inr}
use Rattle.std.proofs.lemmas.List.{length-append}
use Rattle.std.specs.Prelude.{codes, map, IsTrue}
use Rattle.std.specs.List.{AllByRecursion, enumerate_from}
use Rattle.gk_grammar.specs.Token.{TagText, Tags, Title, Step, Row, Fenced, Line, line, line_of, number}
use Rattle.gk_grammar.specs.Tree.{Location}
use Rattle.gk_grammar.specs.Grammar.{at, stands_before}
use Rattle.gk_grammar.proofs.Order.{Rise, all_both, all_weaker, before_by_line}
use Rattle.gk_grammar.proofs.Places.{AreNumberedFrom, line_places}
use Rattle.gk_laws.specs.Documents.{read_lines}
use Rattle.gk_laws.specs.Marks.{AsTag, Mark, StandsAt, feature_marks, ComeInOrder, PartsStandAtTheirPlaces, PartsComeInOrder}
use Rattle.gk_laws.proofs.LineDocuments.{are_lines}
use Rattle.gk_laws.proofs.LineMarks.{IsIn, line_marks, line_marks_stand}
use Rattle.gk_laws.proofs.DocumentMarks.{Among, all_among, marks_in, text_marks}

-- ---- places

-- the lines after these
abbrev lines_after : List (List ℕ) → List (List ℕ) → List Line
lines_after done rest = map line_of (enumerate_from (length done + 1) rest)

stands_at : (done : List (List ℕ)) (t : List ℕ) (rest : List (List ℕ)) (m : Mark)
    → IsIn (length done + 1) t m → StandsAt (done ++ t ∷ rest) m
stands_at done t rest m h = record {
  earlier = done;
  text = t;
  later = rest;
  lines = refl;
  number = h.0;
  stands = h.1;
}

lines_stand : (done rest : List (List ℕ))
    → AllByRecursion (StandsAt (done ++ rest)) (marks_in (lines_after done rest))
lines_stand done [] = tt
lines_stand done (t ∷ rest) =
    let n = length done + 1 in
    let whole : List (List ℕ) = done ++ t ∷ rest in
    let next : length (done ++ t ∷ []) + 1 ≡ n + 1 = omega (arith, length-append done (t ∷ [])) in
    let moved : (done ++ t ∷ []) ++ rest ≡ whole = append_assoc done (t ∷ []) rest in
    all_both (StandsAt whole) (line_marks (line_of (n, t)))
    (marks_in (map line_of (enumerate_from (n + 1) rest)))
    (all_weaker (IsIn n t) (StandsAt whole) (stands_at done t rest) (line_marks (line_of (n, t)))
    (line_marks_stand n t))
    (subst (λ (z : ℕ). AllByRecursion (StandsAt whole) (marks_in (map line_of (enumerate_from z rest))))
    next
    (subst (λ (z : List (List ℕ)). AllByRecursion (StandsAt z) (marks_in (lines_after (done ++ t ∷ []) rest)))
    moved (lines_stand (done ++ t ∷ []) rest)))

pub parts_stand_holds : PartsStandAtTheirPlaces
parts_stand_holds texts d h =
    all_among (StandsAt texts) (feature_marks d.feature) (marks_in (read_lines texts))
    (text_marks d.feature (read_lines texts) d.comments h.text) (lines_stand [] texts)

-- ---- order

abbrev place_of : Mark → Location
place_of m = m.0

-- each place is before those of all marks after it
abbrev MarksRise : List Mark → Type 0
MarksRise [] = Unit {0}
MarksRise (m ∷ ms) =
    AllByRecursion (λ (x : Mark). stands_before m.0 x.0 ≡ true) ms × MarksRise ms

tags_after : (n : ℕ) (p : Location) (ws : List TagText)
    → AllByRecursion (λ (q : Location). stands_before p q ≡ true) (map (λ (w : TagText). at n w.column) ws)
    → AllByRecursion (λ (x : Mark). stands_before p x.0 ≡ true)
    (map (λ (w : TagText). (at n w.column, AsTag (codes "@" ++ w.word))) ws)
tags_after n p [] h = tt
tags_after n p (w ∷ ws) h = (h.0, tags_after n p ws h.1)

tags_rise : (n : ℕ) (ws : List TagText) → Rise (map (λ (w : TagText). at n w.column) ws)
    → MarksRise (map (λ (w : TagText). (at n w.column, AsTag (codes "@" ++ w.word))) ws)
tags_rise n [] h = tt
tags_rise n (w ∷ ws) h = (tags_after n (at n w.column) ws h.0, tags_rise n ws h.1)

line_rises : (l : Line) → Rise (line_places l) → MarksRise (line_marks l)
line_rises (line n t i (Tags (Ok words))) h = tags_rise n words h
line_rises (line n t i (Tags (Err c))) h = tt
line_rises (line n t i (Title b k m)) h = (tt, tt)
line_rises (line n t i (Step k y m)) h = (tt, tt)
line_rises (line n t i (Row cells)) h = (tt, tt)
line_rises (line n t i (Fenced f m)) h = (tt, tt)
line_rises (line n t i _) h = tt

words_on : (n : ℕ) (ws : List TagText)
    → AllByRecursion (λ (x : Mark). x.0.line ≡ n)
    (map (λ (w : TagText). (at n w.column, AsTag (codes "@" ++ w.word))) ws)
words_on n [] = tt
words_on n (w ∷ ws) = (refl, words_on n ws)

marks_on : (l : Line) → AllByRecursion (λ (x : Mark). x.0.line ≡ number l) (line_marks l)
marks_on (line n t i (Tags (Ok words))) = words_on n words
marks_on (line n t i (Tags (Err c))) = tt
marks_on (line n t i (Title b k m)) = (refl, tt)
marks_on (line n t i (Step k y m)) = (refl, tt)
marks_on (line n t i (Row cells)) = (refl, tt)
marks_on (line n t i (Fenced f m)) = (refl, tt)
marks_on (line n t i _) = tt

marks_from : (n : ℕ) (ls : List Line) → AreNumberedFrom n ls
    → AllByRecursion (λ (x : Mark). n ≤ x.0.line) (marks_in ls)
marks_from n [] h = tt
marks_from n (l ∷ ls) h =
    all_both (λ (x : Mark). n ≤ x.0.line) (line_marks l) (marks_in ls)
    (all_weaker (λ (x : Mark). x.0.line ≡ number l) (λ (x : Mark). n ≤ x.0.line)
    (λ x e. let f = h.0 in omega arith) (line_marks l) (marks_on l))
    (all_weaker (λ (x : Mark). n + 1 ≤ x.0.line) (λ (x : Mark). n ≤ x.0.line)
    (λ x e. omega arith) (marks_in ls) (marks_from (n + 1) ls h.2))

both_rise : (xs ys : List Mark) → MarksRise xs → MarksRise ys
    → AllByRecursion (λ (x : Mark). AllByRecursion (λ (y : Mark). stands_before x.0 y.0 ≡ true) ys) xs
    → MarksRise (xs ++ ys)
both_rise [] ys a b h = b
both_rise (x ∷ xs) ys a b h =
    (all_both (λ (y : Mark). stands_before x.0 y.0 ≡ true) xs ys a.0 h.0, both_rise xs ys a.1 b h.1)

marks_rise : (n : ℕ) (ls : List Line) → AreNumberedFrom n ls → MarksRise (marks_in ls)
marks_rise n [] h = tt
marks_rise n (l ∷ ls) h =
    both_rise (line_marks l) (marks_in ls) (line_rises l h.1) (marks_rise (n + 1) ls h.2)
    (all_weaker (λ (x : Mark). x.0.line ≡ number l)
    (λ (x : Mark). AllByRecursion (λ (y : Mark). stands_before x.0 y.0 ≡ true) (marks_in ls))
    (λ x e. all_weaker (λ (y : Mark). n + 1 ≤ y.0.line) (λ (y : Mark). stands_before x.0 y.0 ≡ true)
    (λ y f. before_by_line x.0 y.0 (let g = h.0 in omega arith)) (marks_in ls) (marks_from (n + 1) ls h.2))
    (line_marks l) (marks_on l))

in_order : (xs ys : List Mark) → Among xs ys → MarksRise ys → ComeInOrder (map place_of xs)
in_order [] ys h r = tt
in_order (x ∷ xs) [] h r = absurd h
in_order (x ∷ xs) (y ∷ ys) (inl h) r = (
  on_places xs (subst (λ (z : Mark). AllByRecursion (λ (q : Mark). stands_before z.0 q.0 ≡ true) xs)
      (sym h.0) (all_among (λ (q : Mark). stands_before y.0 q.0 ≡ true) xs ys h.1 r.0)),
  in_order xs ys h.1 r.1,
)
  where
    on_places : (zs : List Mark) → AllByRecursion (λ (q : Mark). stands_before x.0 q.0 ≡ true) zs
        → AllByRecursion (λ (q : Location). IsTrue (stands_before x.0 q)) (map place_of zs)
    on_places [] a = tt
    on_places (z ∷ zs) a = (a.0, on_places zs a.1)
in_order (x ∷ xs) (y ∷ ys) (inr h) r = in_order (x ∷ xs) ys h r.1

pub parts_in_order_holds : PartsComeInOrder
parts_in_order_holds texts d h =
    in_order (feature_marks d.feature) (marks_in (read_lines texts))
    (text_marks d.feature (read_lines texts) d.comments h.text)
    (marks_rise 1 (read_lines texts) (are_lines texts))
