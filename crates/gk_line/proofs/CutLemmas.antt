-- A text as its lines and their ends.
use Rattle.std.proofs.Common.{◌≡◌, ◌≢◌, ℕ, zero, suc, ◌<◌, ◌≤◌, false, List, [], ◌∷◌, ◌++◌, length, sym, refl, ap, ◌∙◌, subst, arith, length-append, inl, inr}
use Rattle.std.specs.Prelude.{◌==◌, ◌⊎◌}
use Rattle.std.specs.List.{AllByRecursion, enumerate_from}
use Rattle.std.specs.Str.{NonePass}
use Rattle.std.specs.Str.Lines.{lines}
use Rattle.std.proofs.lemmas.Grind.{common_steps}
use Rattle.std.proofs.lemmas.List.{append_assoc, append-nil}
use Rattle.std.proofs.lemmas.Bool.{eqb-true}
use Rattle.gk_line.specs.Characters.{line_feed, carriage_return}
use Rattle.gk_line.specs.Lines.{without_mark, lines_of, numbered_lines}
use Rattle.gk_line.specs.LineEnds.{LineEnd, joined_lines, EndsFit, AreLines, line_texts, LinesAreCut, CutIsOne}
use Rattle.gk_line.specs.LineEnds.LineEnd.{EndOfText, LineFeed, ReturnAndFeed}
use Rattle.gk_line.proofs.LineLemmas.{lines-first, lines-last, stripped-append, stripped-other}
use Rattle.gk_line.proofs.TagLemmas.{test_cases}

nonempty : (line : List ℕ) → line ≢ [] → 0 < length line
nonempty [] h = absurd (h refl)
nonempty (c ∷ cs) h = omega arith

none-append : (front back : List ℕ) → NonePass (λ c. c == line_feed) front → NonePass (λ c. c == line_feed) back → NonePass (λ c. c == line_feed) (front ++ back)
none-append [] back h k = k
none-append (c ∷ front) back h k = (h.0, none-append front back h.1 k)

-- the lines that are written are the lines of the text
lines-written : (cuts : List (List ℕ × LineEnd)) → AllByRecursion (λ cut. NonePass (λ c. c == line_feed) cut.0) cuts → EndsFit cuts → lines (joined_lines cuts) ≡ line_texts cuts
lines-written [] none fit = refl
lines-written ((line, EndOfText) ∷ rest) none fit =
    let text : joined_lines ((line, EndOfText) ∷ rest) ≡ line = ap (λ q. line ++ joined_lines q) fit.0.1 ∙ append-nil line in
    ap lines text ∙ lines-last line (nonempty line fit.0.0) none.0 ∙ ap (λ q. line ∷ line_texts q) (sym fit.0.1)
lines-written ((line, LineFeed) ∷ rest) none fit =
    lines-first line (joined_lines rest) none.0 ∙ ap (λ q. q ∷ lines (joined_lines rest)) (stripped-other line fit.0) ∙ ap (λ q. line ∷ q) (lines-written rest none.1 fit.1)
lines-written ((line, ReturnAndFeed) ∷ rest) none fit =
    let text : joined_lines ((line, ReturnAndFeed) ∷ rest) ≡ (line ++ carriage_return ∷ []) ++ line_feed ∷ joined_lines rest = sym (append_assoc line (carriage_return ∷ []) (line_feed ∷ joined_lines rest)) in
    ap lines text ∙ lines-first (line ++ carriage_return ∷ []) (joined_lines rest) (none-append line (carriage_return ∷ []) none.0 (refl, tt))
    ∙ ap (λ q. q ∷ lines (joined_lines rest)) (stripped-append line) ∙ ap (λ q. line ∷ q) (lines-written rest none.1 fit.1)

pub cut_is_one : CutIsOne
unfolding lines_of numbered_lines
cut_is_one text cuts are = ap (enumerate_from 1) (ap lines are.whole ∙ lines-written cuts are.no_line_feed are.ends)

-- a text up to its first line feed
abbrev FirstFeed : List ℕ → Type 0
FirstFeed text = NonePass (λ c. c == line_feed) text ⊎ ((front : List ℕ) × (back : List ℕ) × (text ≡ front ++ line_feed ∷ back) × NonePass (λ c. c == line_feed) front)

first_feed : (text : List ℕ) → FirstFeed text
first_feed [] = inl tt
first_feed (c ∷ cs) =
    test_cases (c == line_feed)
    (λ e. inr ([], cs, ap (λ q. q ∷ cs) (eqb-true c line_feed e), tt))
    (λ e. onto e (first_feed cs)) where
      onto : (c == line_feed) ≡ false → FirstFeed cs → FirstFeed (c ∷ cs)
      onto e (inl none) = inl (e, none)
      onto e (inr (front, back, parts, none)) = inr (c ∷ front, back, ap (λ q. c ∷ q) parts, (e, none))

-- a text ends in a carriage return or not
ends_in_return : (text : List ℕ) → ((front : List ℕ) × (text ≡ front ++ carriage_return ∷ [])) ⊎ ((front : List ℕ) → text ≢ front ++ carriage_return ∷ [])
ends_in_return [] = inr (λ front e. absurd (omega (arith, ap length e, length-append front (carriage_return ∷ []))))
ends_in_return (c ∷ []) =
    test_cases (c == carriage_return)
    (λ e. inl ([], ap (λ q. q ∷ []) (eqb-true c carriage_return e)))
    (λ e. inr (λ front is. one front is e)) where
      one : (front : List ℕ) → c ∷ [] ≡ front ++ carriage_return ∷ [] → (c == carriage_return) ≡ false → ⊥
      one [] is e = grind (arith, common_steps)
      one (d ∷ front) is e = absurd (omega (arith, ap length is, length-append front (carriage_return ∷ [])))
ends_in_return (c ∷ d ∷ cs) = onto (ends_in_return (d ∷ cs)) where
  onto : ((front : List ℕ) × (d ∷ cs ≡ front ++ carriage_return ∷ [])) ⊎ ((front : List ℕ) → d ∷ cs ≢ front ++ carriage_return ∷ []) → ((front : List ℕ) × (c ∷ d ∷ cs ≡ front ++ carriage_return ∷ [])) ⊎ ((front : List ℕ) → c ∷ d ∷ cs ≢ front ++ carriage_return ∷ [])
  onto (inl (front, e)) = inl (c ∷ front, ap (λ q. c ∷ q) e)
  onto (inr other) = inr (λ front e. later front e) where
    later : (front : List ℕ) → c ∷ d ∷ cs ≢ front ++ carriage_return ∷ []
    later [] e = cc
    later (f ∷ front) e = other front (cc)

none-front : (front back : List ℕ) → NonePass (λ c. c == line_feed) (front ++ back) → NonePass (λ c. c == line_feed) front
none-front [] back h = tt
none-front (c ∷ front) back h = (h.0, none-front front back h.1)

abbrev Cuts : List ℕ → Type 0
Cuts text = (cuts : List (List ℕ × LineEnd)) × AreLines text cuts

-- one more line in front
before_rest : (text front back : List ℕ) → text ≡ front ++ line_feed ∷ back → NonePass (λ c. c == line_feed) front → Cuts back → Cuts text
before_rest text front back parts none (cuts, are) = by_end (ends_in_return front) where
  by_end : ((line : List ℕ) × (front ≡ line ++ carriage_return ∷ [])) ⊎ ((line : List ℕ) → front ≢ line ++ carriage_return ∷ []) → Cuts text
  by_end (inl (line, e)) =
      let whole : text ≡ line ++ carriage_return ∷ line_feed ∷ back = parts ∙ ap (λ q. q ++ line_feed ∷ back) e ∙ append_assoc line (carriage_return ∷ []) (line_feed ∷ back) in (
        (line, ReturnAndFeed) ∷ cuts,
        record {
          whole = whole ∙ ap (λ q. line ++ carriage_return ∷ line_feed ∷ q) are.whole;
          no_line_feed = (none-front line (carriage_return ∷ []) (subst (NonePass (λ c. c == line_feed)) e none), are.no_line_feed);
          ends = (tt, are.ends);
        },
      )
  by_end (inr other) = (
    (front, LineFeed) ∷ cuts,
    record {
      whole = parts ∙ ap (λ q. front ++ line_feed ∷ q) are.whole;
      no_line_feed = (none, are.no_line_feed);
      ends = (other, are.ends);
    },
  )

cut_within : (bound : ℕ) (text : List ℕ) → length text ≤ bound → Cuts text
cut_within bound [] l = ([], record { whole = refl; no_line_feed = tt; ends = tt })
cut_within zero (c ∷ cs) l = absurd (omega arith)
cut_within (suc bound) (c ∷ cs) l = by_feed (first_feed (c ∷ cs)) (cut_within bound) where
  by_feed : FirstFeed (c ∷ cs) → ((text : List ℕ) → length text ≤ bound → Cuts text) → Cuts (c ∷ cs)
  by_feed (inl none) rest = ((c ∷ cs, EndOfText) ∷ [], record { whole = sym (append-nil (c ∷ cs)); no_line_feed = (none, tt); ends = ((λ e. cc, refl), tt) })
  by_feed (inr (front, back, parts, none)) rest = before_rest (c ∷ cs) front back parts none (rest back (omega (arith, ap length parts, length-append front (line_feed ∷ back))))

pub lines_are_cut : LinesAreCut
lines_are_cut text =
    let cut = cut_within (length (without_mark text)) (without_mark text) (omega arith) in
    (cut.0, cut.1, cut_is_one text cut.0 cut.1)
