-- The pickles that are asked for, one after another.
use Rattle.std.proofs.Common.{◌≡◌, ◌∙◌, ap, sym, refl, ℕ, suc, ◌<◌, ◌+◌, Bool, false, List, [], ◌∷◌, ◌++◌, add-zero, append-nil, arith, drop, get_or, length, take}
use Rattle.std.specs.List.{flat_map}
use Rattle.std.proofs.lemmas.List.{drop-drop, get_or-drop, length-append, length-take, take_more}
use Rattle.std.proofs.lemmas.List.Concat.{flat_map-append}
use Rattle.std.proofs.lemmas.Option.{unwrap_or-slice_get}
use Rattle.cm_stream.specs.Sources.{DuePickle}
use Rattle.gk_pickle.specs.InFeature.{ScenarioInFeature}
use Rattle.gk_pickle.specs.Scenarios.{pickles_of_one}
use Rattle.cm_missing.specs.PickleLines.{lines_of_one}
use Rattle.cm_missing.proofs.LineLemmas.{lines_for_each}
use Rattle.cm_missing.specs.Missing.{AskedPickle, asked_from, flag_at}

abbrev pub asked_at : List Bool → ℕ → DuePickle → ℕ → AskedPickle
asked_at flags place due line = record { due = due; line = line; has_run = flag_at flags place }

pub asked_append : (flags : List Bool) (place : ℕ) (ps qs : List DuePickle) (ls ms : List ℕ) → length ls ≡ length ps
    → asked_from flags place (ps ++ qs) (ls ++ ms) ≡ asked_from flags place ps ls ++ asked_from flags (place + length ps) qs ms
asked_append flags place [] qs [] ms e = ap (λ k. asked_from flags k qs ms) (sym (add-zero place))
asked_append flags place [] qs (l ∷ ls) ms e = absurd (omega arith)
asked_append flags place (p ∷ ps) qs [] ms e = absurd (omega arith)
asked_append flags place (p ∷ ps) qs (l ∷ ls) ms e =
    let next : suc place + length ps ≡ place + suc (length ps) = omega arith in
    ap (λ (xs : List AskedPickle). asked_at flags place p l ∷ xs)
    (asked_append flags (suc place) ps qs ls ms (omega arith) ∙ ap (λ k. asked_from flags (suc place) ps ls ++ asked_from flags k qs ms) next)

pub length-asked : (flags : List Bool) (place : ℕ) (ps : List DuePickle) (ls : List ℕ) → length ls ≡ length ps → length (asked_from flags place ps ls) ≡ length ps
length-asked flags place [] [] e = refl
length-asked flags place [] (l ∷ ls) e = refl
length-asked flags place (p ∷ ps) [] e = absurd (omega arith)
length-asked flags place (p ∷ ps) (l ∷ ls) e = ap suc (length-asked flags (suc place) ps ls (omega arith))

-- ---- flags after the first ones

flag_after : (flags : List Bool) (count place : ℕ) → flag_at (drop count flags) place ≡ flag_at flags (count + place)
flag_after flags count place =
    unwrap_or-slice_get (drop count flags) place false ∙ get_or-drop count flags place false ∙ sym (unwrap_or-slice_get flags (count + place) false)

pub asked_after : (flags : List Bool) (count place from : ℕ) (ps : List DuePickle) (ls : List ℕ) → from ≡ count + place
    → asked_from (drop count flags) place ps ls ≡ asked_from flags from ps ls
asked_after flags count place from [] ls e = refl
asked_after flags count place from (p ∷ ps) [] e = refl
asked_after flags count place from (p ∷ ps) (l ∷ ls) e =
    let later = asked_after flags count (suc place) (suc from) ps ls (omega arith) in
    let flag : flag_at (drop count flags) place ≡ flag_at flags from = flag_after flags count place ∙ ap (flag_at flags) (sym e) in
    λ j. record { due = p; line = l; has_run = flag j } ∷ later j

-- ---- one pickle more

pub one_asked : (flags : List Bool) (ps : List DuePickle) (ls : List ℕ) (i : ℕ) (p : DuePickle) (l : ℕ) → length ls ≡ length ps → i < length ps → p ≡ get_or ps i p → l ≡ get_or ls i l
    → asked_from flags 0 (take (i + 1) ps) (take (i + 1) ls) ≡ asked_from flags 0 (take i ps) (take i ls) ++ asked_at flags i p l ∷ []
one_asked flags ps ls i p l same lt ip il =
    let more : take (i + 1) ps ≡ take i ps ++ p ∷ [] = take_more ps i p lt ∙ ap (λ y. take i ps ++ y ∷ []) (sym ip) in
    let line : take (i + 1) ls ≡ take i ls ++ l ∷ [] = take_more ls i l (omega arith) ∙ ap (λ y. take i ls ++ y ∷ []) (sym il) in
    let long : length (take i ls) ≡ length (take i ps) = omega (arith, length-take i ls, length-take i ps) in
    let place : 0 + length (take i ps) ≡ i = omega (arith, length-take i ps) in
    (λ j. asked_from flags 0 (more j) (line j)) ∙ asked_append flags 0 (take i ps) (p ∷ []) (take i ls) (l ∷ []) long
    ∙ ap (λ k. asked_from flags 0 (take i ps) (take i ls) ++ asked_at flags k p l ∷ []) place

-- ---- one scenario more

module _ (flags later : List Bool) (ss : List ScenarioInFeature) (i : ℕ) (s : ScenarioInFeature) (lt : i < length ss) (at : s ≡ get_or ss i s)
    (rest : later ≡ drop (length (flat_map pickles_of_one (take i ss))) flags) where
  abbrev before : List ScenarioInFeature
  before = take i ss

  abbrev made : List DuePickle
  made = flat_map pickles_of_one before

  one_more : take (i + 1) ss ≡ before ++ s ∷ []
  one_more = take_more ss i s lt ∙ ap (λ (y : ScenarioInFeature). before ++ y ∷ []) (sym at)

  of_more : {A : Type 0} (f : ScenarioInFeature → List A) → flat_map f (take (i + 1) ss) ≡ flat_map f before ++ f s
  of_more f = ap (flat_map f) one_more ∙ flat_map-append f before (s ∷ []) ∙ ap (λ ys. flat_map f before ++ ys) (append-nil (f s))

  pub scenario_asked : asked_from flags 0 (flat_map pickles_of_one (take (i + 1) ss)) (flat_map lines_of_one (take (i + 1) ss))
      ≡ asked_from flags 0 made (flat_map lines_of_one before) ++ asked_from later 0 (pickles_of_one s) (lines_of_one s)
  scenario_asked =
      (λ j. asked_from flags 0 (of_more pickles_of_one j) (of_more lines_of_one j))
      ∙ asked_append flags 0 made (pickles_of_one s) (flat_map lines_of_one before) (lines_of_one s) (lines_for_each before)
      ∙ ap (λ (ps : List AskedPickle). asked_from flags 0 made (flat_map lines_of_one before) ++ ps)
      (sym (ap (λ (fs : List Bool). asked_from fs 0 (pickles_of_one s) (lines_of_one s)) rest
      ∙ asked_after flags (length made) 0 (0 + length made) (pickles_of_one s) (lines_of_one s) (omega arith)))

  pub rest_after : drop (length (pickles_of_one s)) later ≡ drop (length (flat_map pickles_of_one (take (i + 1) ss))) flags
  rest_after =
      ap (drop (length (pickles_of_one s))) rest ∙ drop-drop (length (pickles_of_one s)) (length made) flags
      ∙ ap (λ n. drop n flags) (sym (ap length (of_more pickles_of_one) ∙ length-append made (pickles_of_one s)))
