-- Fronts of a text, by the kinds of their lines.
use Rattle.std.proofs.Common.{◌≡◌, ◌≤◌, ◌<◌, ◌+◌, ◌↔◌, ℕ, Bool, true, false, List, [], ◌∷◌, ◌++◌, map, length, take, refl, sym, ap, subst, ◌∙◌, arith, append-nil, ltb}
use Rattle.std.specs.Prelude.{IsTrue}
use Rattle.std.proofs.lemmas.Bool.{ltb-true, ltb-false}
use Rattle.std.proofs.lemmas.List.{map-append, take-map, length-map}
use Rattle.gk_line.specs.declared.tokens.Block.TheVariants as block
use Rattle.gk_document.specs.declared.tree.Fence.TheVariants as fence
use Rattle.gk_grammar.specs.Token.{Line}
use Rattle.gk_grammar.specs.Place.{IsText, IsFront, Completion, ByNothing, ByFeature, ByScenario, ByQuotes, ByBackticks, completion_lines, IsFirstBad}
use Rattle.gk_grammar.proofs.Completing.{by_feature, by_scenario, by_quotes, by_backticks}
use Rattle.gk_plain.specs.declared.plain.Kind.{Kind}
use Rattle.gk_plain.specs.declared.plain.Kind.TheVariants as kind
use Rattle.gk_plain.specs.Plain.{kind_of}

-- the kind of the line that completes
abbrev pub closing : Completion → List Kind
closing ByNothing = []
closing ByFeature = kind.Title block.Feature ∷ []
closing ByScenario = kind.Title block.Scenario ∷ []
closing ByQuotes = kind.Fenced fence.Quotes ∷ []
closing ByBackticks = kind.Fenced fence.Backticks ∷ []

closing_kinds : (c : Completion) (n : ℕ) → map kind_of (completion_lines c n) ≡ closing c
closing_kinds ByNothing n = refl
closing_kinds ByFeature n = ap (λ (z : List Line). map kind_of z) (by_feature n)
closing_kinds ByScenario n = ap (λ (z : List Line). map kind_of z) (by_scenario n)
closing_kinds ByQuotes n = ap (λ (z : List Line). map kind_of z) (by_quotes n)
closing_kinds ByBackticks n = ap (λ (z : List Line). map kind_of z) (by_backticks n)

-- the kinds of the lines and of the one that completes
completed : (c : Completion) (ls : List Line) (ks : List Kind) → map kind_of ls ≡ ks → map kind_of (ls ++ completion_lines c (length ls + 1)) ≡ ks ++ closing c
completed c ls ks m =
    map-append kind_of ls (completion_lines c (length ls + 1)) ∙ ap (λ (z : List Kind). z ++ map kind_of (completion_lines c (length ls + 1))) m
    ∙ ap (λ (z : List Kind). ks ++ z) (closing_kinds c (length ls + 1))

-- an answer says whether lines of these kinds are a text
abbrev pub Tells : Bool → List Kind → Type 0
Tells b ks = (ls : List Line) → map kind_of ls ≡ ks → IsTrue b ↔ IsText ls

-- an answer for the lines with one more decides whether they are a front
pub told_front : (c : Completion) (b : Bool) (ks : List Kind) → Tells b (ks ++ closing c) → b ≡ true → (ls : List Line) → map kind_of ls ≡ ks → IsFront ls
told_front c b ks h t ls m = (c, (h (ls ++ completion_lines c (length ls + 1)) (completed c ls ks m)).0 t)

front_told : (c : Completion) (b : Bool) (ks : List Kind) → Tells b (ks ++ closing c) → (ls : List Line) → map kind_of ls ≡ ks → IsText (ls ++ completion_lines c (length ls + 1)) → b ≡ true
front_told c b ks h ls m i = (h (ls ++ completion_lines c (length ls + 1)) (completed c ls ks m)).1 i

-- where four answers are no, the last one says whether the lines are a front
pub last_tells : (ks : List Kind) (b0 b1 b2 b3 b4 : Bool) → Tells b0 ks → Tells b1 (ks ++ closing ByFeature) → Tells b2 (ks ++ closing ByScenario) → Tells b3 (ks ++ closing ByQuotes) → Tells b4 (ks ++ closing ByBackticks) →
    b0 ≡ false → b1 ≡ false → b2 ≡ false → b3 ≡ false → (ls : List Line) → map kind_of ls ≡ ks → IsTrue b4 ↔ IsFront ls
last_tells ks b0 b1 b2 b3 b4 h0 h1 h2 h3 h4 f0 f1 f2 f3 ls m = (λ t. told_front ByBackticks b4 ks h4 t ls m, λ i. go i.0 i.1)
  where
    go : (c : Completion) → IsText (ls ++ completion_lines c (length ls + 1)) → b4 ≡ true
    go ByNothing i = absurd (let t = (h0 ls m).1 (subst IsText (append-nil ls) i) in cc)
    go ByFeature i = absurd (let t = front_told ByFeature b1 ks h1 ls m i in cc)
    go ByScenario i = absurd (let t = front_told ByScenario b2 ks h2 ls m i in cc)
    go ByQuotes i = absurd (let t = front_told ByQuotes b3 ks h3 ls m i in cc)
    go ByBackticks i = front_told ByBackticks b4 ks h4 ls m i

pub take_kinds : (ls : List Line) (ks fs : List Kind) (k : ℕ) → map kind_of ls ≡ ks → fs ≡ take k ks → map kind_of (take k ls) ≡ fs
take_kinds ls ks fs k m e = sym (take-map kind_of k ls) ∙ ap (λ (z : List Kind). take k z) m ∙ sym e

-- one front more
pub fronts_more : (n : ℕ) (ls : List Line) → ((m : ℕ) → 1 ≤ m → m ≤ n → IsFront (take m ls)) → IsFront (take (n + 1) ls) → (m : ℕ) → 1 ≤ m → m ≤ n + 1 → IsFront (take m ls)
fronts_more n ls h i m a b = go (ltb m (n + 1)) refl
  where
    go : (v : Bool) → ltb m (n + 1) ≡ v → IsFront (take m ls)
    go true e = h m a (let f = ltb-true m (n + 1) e in omega arith)
    go false e = let same : n + 1 ≡ m = let f = ltb-false m (n + 1) e in omega arith in subst (λ (z : ℕ). IsFront (take z ls)) same i

-- where the first lines are no front, and those before them are
pub first_bad_here : (n : ℕ) (ls : List Line) (ks : List Kind) → map kind_of ls ≡ ks → n < length ks → ((m : ℕ) → 1 ≤ m → m ≤ n → IsFront (take m ls)) → (IsFront (take (n + 1) ls) → ⊥) → IsFirstBad ls (n + 1)
first_bad_here n ls ks m within fronts bad =
    let e : length ls ≡ length ks = sym (length-map ls kind_of) ∙ ap (λ (z : List Kind). length z) m in
    record { from_one = omega arith; within = omega arith; bad = bad; least = λ k a b. fronts k a (omega arith) }
