-- What is kept of one after another.
use Rattle.std.proofs.Common.{◌≡◌, ◌∙◌, ap, sym, refl, subst, inl, inr, ◌⊎◌, ℕ, ◌<◌, ◌≤◌, ◌+◌, false, Bool, List, [], ◌∷◌, ◌++◌, add-zero, add_assoc, append-nil, append_assoc, arith, cond, drop, get_or, length, map, string_bytes, take}
use Rattle.std.specs.List.{filter, flat_map}
use Rattle.std.proofs.lemmas.List.{get_or_default, length-append, length_push, map-append}
use Rattle.std.proofs.lemmas.List.Elements.{filter-append}
use Rattle.std.proofs.lemmas.List.Sums.{sum_by-append}
use Rattle.cm_reasons.specs.Lines.{text_of_lines}
use Rattle.cm_stream.specs.Release.{Conditions}
use Rattle.cm_stream.specs.ReleasedRuns.{may_be_left_out}
use Rattle.cm_stream.specs.Sources.{DuePickle}
use Rattle.cm_stream.specs.Texts.{Utf8}
use Rattle.gk_pickle.specs.InFeature.{ScenarioInFeature}
use Rattle.gk_pickle.specs.Scenarios.{pickles_of_one}
use Rattle.cm_missing.specs.PickleLines.{lines_of_one}
use Rattle.cm_missing.specs.Missing.{AskedPickle, asked_from, flag_at, is_left_out, is_missing, missing_line}
use Rattle.cm_missing.specs.Told.{Keeps, KeepsMore, CountedLines, and_then, line_told, pickles_told}
use Rattle.cm_missing.specs.declared.missing.Missing.{Missing}
use Rattle.cm_missing.proofs.LineLemmas.{none_shown, one_shown}
use Rattle.cm_missing.proofs.PickleLemmas.{one_asked, scenario_asked}

and_then_assoc : (a b c : CountedLines) → and_then (and_then a b) c ≡ and_then a (and_then b c)
and_then_assoc a b c = λ j. record {
  lines = append_assoc a.lines b.lines c.lines j;
  scenarios = add_assoc a.scenarios b.scenarios c.scenarios j;
  unrun = add_assoc a.unrun b.unrun c.unrun j;
}

pub keeps_both : (a b c : Missing) (x y z : CountedLines) → KeepsMore a b x → KeepsMore b c y → and_then x y ≡ z → KeepsMore a c z
keeps_both a b c x y z f g e t k = subst (Keeps c) (and_then_assoc t x y ∙ ap (and_then t) e) (g (and_then t x) (f t k))

pub keeps_none : (a b : Missing) (asked : Conditions) (path : Utf8) → b ≡ a → KeepsMore a b (pickles_told asked path [])
keeps_none a b asked path e t k =
    let same : t ≡ and_then t (pickles_told asked path []) =
    λ j. record { lines = sym (append-nil t.lines) j; scenarios = sym (add-zero t.scenarios) j; unrun = sym (add-zero t.unrun) j } in
    subst (λ (m : Missing). Keeps m (and_then t (pickles_told asked path []))) (sym e) (subst (Keeps a) same k)

pub pickles_append : (asked : Conditions) (path : Utf8) (xs ys : List AskedPickle)
    → and_then (pickles_told asked path xs) (pickles_told asked path ys) ≡ pickles_told asked path (xs ++ ys)
pickles_append asked path xs ys =
    let lines = sym (ap (map (missing_line path)) (filter-append (is_missing asked) xs ys) ∙ map-append (missing_line path) (filter (is_missing asked) xs) (filter (is_missing asked) ys)) in
    λ j. record {
      lines = lines j;
      scenarios = sym (length-append xs ys) j;
      unrun = sym (sum_by-append (λ (p : AskedPickle). cond (is_left_out asked p) 1 0) xs ys) j;
    }

-- ---- one finding, and one pickle

-- what the code changes where it adds a line
pub record AddsLine (old new : Missing) (line : List ℕ) : Type 0 where
  pub count : new.count ≡ old.count + 1
  pub scenarios : new.scenarios ≡ old.scenarios
  pub unrun : new.unrun ≡ old.unrun
  pub text : ((old.count < 100) × (string_bytes new.text ≡ string_bytes old.text ++ line ++ 10 ∷ []))
      ⊎ ((100 ≤ old.count) × (string_bytes new.text ≡ string_bytes old.text))

pub keeps_line : (old new : Missing) (line : List ℕ) → AddsLine old new line → KeepsMore old new (line_told line)
keeps_line old new line a t k = record {
  text = text a.text;
  count = a.count ∙ ap (λ n. n + 1) k.count ∙ sym (length_push t.lines line);
  scenarios = a.scenarios ∙ k.scenarios ∙ sym (add-zero t.scenarios);
  unrun = a.unrun ∙ k.unrun ∙ sym (add-zero t.unrun);
}
  where
    text : ((old.count < 100) × (string_bytes new.text ≡ string_bytes old.text ++ line ++ 10 ∷ [])) ⊎ ((100 ≤ old.count) × (string_bytes new.text ≡ string_bytes old.text))
        → string_bytes new.text ≡ text_of_lines (take 100 (t.lines ++ line ∷ []))
    text (inl (few, e)) = one_shown t.lines line (string_bytes old.text) (string_bytes old.text ++ line) (string_bytes new.text) (omega (arith, few, k.count)) k.text refl e
    text (inr (many, e)) = none_shown t.lines line (string_bytes old.text) (string_bytes new.text) (omega (arith, many, k.count)) k.text e

module _ (asked : Conditions) (path : Utf8) (p : AskedPickle) (old new : Missing) where
  abbrev one : CountedLines
  one = pickles_told asked path (p ∷ [])

  -- it is missing
  pub keeps_missing : (mid : Missing) (line : List ℕ) → p.has_run ≡ false → may_be_left_out asked p.due ≡ false → mid.text ≡ old.text → mid.count ≡ old.count → mid.scenarios ≡ old.scenarios + 1 → mid.unrun ≡ old.unrun
      → line ≡ missing_line path p → KeepsMore mid new (line_told line) → KeepsMore old new one
  keeps_missing mid line run left text count scenarios unrun is more t k =
      let s : CountedLines = record { lines = t.lines; scenarios = t.scenarios + 1; unrun = t.unrun } in
      let kept : Keeps mid s = record {
        text = ap string_bytes text ∙ k.text;
        count = count ∙ k.count;
        scenarios = scenarios ∙ ap (λ n. n + 1) k.scenarios;
        unrun = unrun ∙ k.unrun;
      } in
      let this : one ≡ record { lines = missing_line path p ∷ []; scenarios = 1; unrun = 0 } = rw (run, left) refl in
      let same : and_then s (line_told line) ≡ and_then t one =
      (λ j. record { lines = t.lines ++ is j ∷ []; scenarios = add-zero (t.scenarios + 1) j; unrun = t.unrun + 0 }) ∙ ap (and_then t) (sym this) in
      subst (Keeps new) same (more s kept)

-- ---- one pickle more, and one scenario more

module _ (asked : Conditions) (path : Utf8) (flags : List Bool) (old mid new : Missing) where
  pub one_pickle_more : (ps : List DuePickle) (ls : List ℕ) (i : ℕ) (p : DuePickle) (has_run : Bool) → length ls ≡ length ps → i < length ps → p ≡ get_or ps i p → has_run ≡ flag_at flags i
      → KeepsMore old mid (pickles_told asked path (asked_from flags 0 (take i ps) (take i ls)))
      → KeepsMore mid new (pickles_told asked path (record { due = p; line = get_or ls i 0; has_run = has_run } ∷ []))
      → KeepsMore old new (pickles_told asked path (asked_from flags 0 (take (i + 1) ps) (take (i + 1) ls)))
  one_pickle_more ps ls i p has_run same lt at run f g =
      let before = asked_from flags 0 (take i ps) (take i ls) in
      let l = get_or ls i 0 in
      let this : AskedPickle = record { due = p; line = l; has_run = has_run } in
      let more : before ++ this ∷ [] ≡ asked_from flags 0 (take (i + 1) ps) (take (i + 1) ls) =
      ap (λ (b : Bool). before ++ record { due = p; line = l; has_run = b } ∷ []) run ∙ sym (one_asked flags ps ls i p l same lt at (get_or_default ls i 0 l (omega arith))) in
      keeps_both old mid new (pickles_told asked path before) (pickles_told asked path (this ∷ [])) (pickles_told asked path (asked_from flags 0 (take (i + 1) ps) (take (i + 1) ls))) f g
      (pickles_append asked path before (this ∷ []) ∙ ap (pickles_told asked path) more)

  pub one_scenario_more : (later : List Bool) (ss : List ScenarioInFeature) (i : ℕ) (s : ScenarioInFeature) → i < length ss → s ≡ get_or ss i s
      → later ≡ drop (length (flat_map pickles_of_one (take i ss))) flags
      → KeepsMore old mid (pickles_told asked path (asked_from flags 0 (flat_map pickles_of_one (take i ss)) (flat_map lines_of_one (take i ss))))
      → KeepsMore mid new (pickles_told asked path (asked_from later 0 (pickles_of_one s) (lines_of_one s)))
      → KeepsMore old new (pickles_told asked path (asked_from flags 0 (flat_map pickles_of_one (take (i + 1) ss)) (flat_map lines_of_one (take (i + 1) ss))))
  one_scenario_more later ss i s lt at rest f g =
      let before = asked_from flags 0 (flat_map pickles_of_one (take i ss)) (flat_map lines_of_one (take i ss)) in
      let these = asked_from later 0 (pickles_of_one s) (lines_of_one s) in
      let all = asked_from flags 0 (flat_map pickles_of_one (take (i + 1) ss)) (flat_map lines_of_one (take (i + 1) ss)) in
      keeps_both old mid new (pickles_told asked path before) (pickles_told asked path these) (pickles_told asked path all) f g
      (pickles_append asked path before these ∙ ap (pickles_told asked path) (sym (scenario_asked flags later ss i s lt at rest)))
