-- What the rules say of the parts, as the plain program asks it.
use Rattle.std.proofs.Common.{◌≡◌, ◌≤◌, ◌<◌, ◌+◌, ◌↔◌, ◌⊎◌, inl, inr, ℕ, Bool, true, false, List, [], ◌∷◌, map, Some, length, take, drop, refl, sym, ap, subst, ◌∙◌, arith, length-append, ltb}
use Rattle.std.specs.Prelude.{IsTrue, ◌==◌}
use Rattle.std.proofs.lemmas.Bool.{eqb-true, ltb-true, ltb-false}
use Rattle.std.proofs.lemmas.List.{take-append-drop, take-map, drop-map, length-map, length-take-le}
use Rattle.std.proofs.Math.Seq.{take-append_seam, drop-append_seam}
use Rattle.gk_grammar.specs.Token.{Line}
use Rattle.gk_plain.specs.declared.plain.Kind.{Kind}
use Rattle.gk_plain.specs.declared.plain.Kind.TheVariants as kind
use Rattle.gk_plain.specs.declared.plain.Part.{Part}
use Rattle.gk_plain.specs.declared.plain.Part.TheVariants as part
use Rattle.gk_plain.specs.declared.plain.Production.{Production}
use Rattle.gk_plain.specs.declared.plain.Production.TheVariants as rule
use Rattle.gk_plain.specs.PlainLines.{row_count}
use Rattle.gk_plain.specs.Plain.{kind_of, Is, rule_of, Cut, BeginsWithRow, Means}
use Rattle.gk_plain.proofs.PlainCuts.{is_means, means_is}
use Rattle.gk_plain.proofs.PlainRanks.{rank, Falls, falls}

-- a part and its rule
by_rule : (p : Part) (r : Production) → rule_of p ≡ r → (ls : List Line) → Is p ls ↔ Means p r ls
by_rule p r e ls = (λ h. subst (λ (z : Production). Means p z ls) e (is_means p ls h), λ h. means_is p ls (subst (λ (z : Production). Means p z ls) (sym e) h))

pub either_begins : (p one other : Part) → rule_of p ≡ rule.Either one other → (a : Bool) (ls : List Line) → IsTrue a ↔ Is one ls → a ≡ true → IsTrue a ↔ Is p ls
either_begins p one other e a ls h t = (λ i. (by_rule p _ e ls).1 (inl (h.0 i)), λ i. t)

pub either_ends : (p one other : Part) → rule_of p ≡ rule.Either one other → (a b : Bool) (ls : List Line) → IsTrue a ↔ Is one ls → IsTrue b ↔ Is other ls → a ≡ false → IsTrue b ↔ Is p ls
either_ends p one other e a b ls h k f = (λ i. (by_rule p _ e ls).1 (inr (k.0 i)), λ i. go ((by_rule p _ e ls).0 i))
  where
    go : Is one ls ⊎ Is other ls → IsTrue b
    go (inl i) = absurd (let t = h.1 i in cc)
    go (inr i) = k.1 i

pub maybe_ends : (p one : Part) → rule_of p ≡ rule.Maybe one → (b : Bool) (ls : List Line) (ks : List Kind) → map kind_of ls ≡ ks → (ks ≡ [] → ⊥) → IsTrue b ↔ Is one ls → IsTrue b ↔ Is p ls
maybe_ends p one e b ls ks m n k = (λ i. (by_rule p _ e ls).1 (inr (k.0 i)), λ i. go ((by_rule p _ e ls).0 i))
  where
    go : (ls ≡ []) ⊎ Is one ls → IsTrue b
    go (inl i) = absurd (n (sym m ∙ ap (λ (z : List Line). map kind_of z) i))
    go (inr i) = k.1 i

no_kinds : (ls : List Line) → map kind_of ls ≡ [] → ls ≡ []
no_kinds [] m = refl
no_kinds (l ∷ ls) m = absurd cc

pub many_begins : (p one : Part) → rule_of p ≡ rule.Many one → (ls : List Line) → map kind_of ls ≡ [] → Is p ls
many_begins p one e ls m = (by_rule p _ e ls).1 (inl (no_kinds ls m))

pub either_falls : (p one other : Part) → rule_of p ≡ rule.Either one other → rank other < rank p
either_falls p one other e = (subst (λ (z : Production). Falls (rank p) z) e (falls p)).1

-- ---- rows

begins_so : (n : ℕ) (ls : List Line) → row_count (map kind_of ls) ≡ Some n → BeginsWithRow n ls
begins_so n [] m = absurd cc
begins_so n (l ∷ ls) m = go (kind_of l) refl m
  where
    go : (k : Kind) → kind_of l ≡ k → row_count (k ∷ map kind_of ls) ≡ Some n → kind_of l ≡ kind.Row n
    go (kind.Row o) e m = cc
    go _ e m = absurd cc

so_begins : (n : ℕ) (ls : List Line) → BeginsWithRow n ls → row_count (map kind_of ls) ≡ Some n
so_begins n [] h = absurd h
so_begins n (l ∷ ls) h = ap (λ (k : Kind). row_count (k ∷ map kind_of ls)) h

pub rows_begin : (p : Part) → rule_of p ≡ rule.EqualRows → (n : ℕ) (b : Bool) (ls : List Line) (ks : List Kind) → map kind_of ls ≡ ks → row_count ks ≡ Some n → IsTrue b ↔ Is (part.Rows n) ls → IsTrue b ↔ Is p ls
rows_begin p e n b ls ks m r k = (λ i. (by_rule p _ e ls).1 (n, begins_so n ls (ap row_count m ∙ r), k.0 i), λ i. k.1 (go ((by_rule p _ e ls).0 i)))
  where
    go : Means p rule.EqualRows ls → Is (part.Rows n) ls
    go h = let same : h.0 ≡ n = let f = so_begins h.0 ls h.1 in let g = ap row_count m in cc in subst (λ (z : ℕ). Is (part.Rows z) ls) same h.2

-- ---- cuts

pub cut_here : (least : ℕ) (P Q : List Line → Type 0) (ls : List Line) (k : ℕ) → least ≤ length (take k ls) → P (take k ls) → Q (drop k ls) → Cut least P Q ls
cut_here least P Q ls k h p q = record { front = take k ls; back = drop k ls; cut = sym (take-append-drop k ls); long = h; first = p; second = q }

pub no_cut : (least : ℕ) (P Q : List Line → Type 0) (ls : List Line) → ((k : ℕ) → least ≤ k → k < length ls + 1 → P (take k ls) → Q (drop k ls) → ⊥) → Cut least P Q ls → ⊥
no_cut least P Q ls none c =
    let n = length c.front in
    let within : n < length ls + 1 = let e = ap (λ (z : List Line). length z) c.cut ∙ length-append c.front c.back in omega arith in
    let front : take n ls ≡ c.front = ap (λ (z : List Line). take n z) c.cut ∙ take-append_seam c.front c.back in
    let back : drop n ls ≡ c.back = ap (λ (z : List Line). drop n z) c.cut ∙ drop-append_seam c.front c.back in
    none n c.long within (subst P (sym front) c.first) (subst Q (sym back) c.second)

-- the two parts and the least cut of the loop, by the rule
pub data Choice (p : Part) (ks : List Kind) (t : Part × Part × ℕ) : Type 0 where
  by_both : (a b : Part) → rule_of p ≡ rule.Both a b → t ≡ (a, b, 0) → Choice p ks t
  by_many : (a : Part) → rule_of p ≡ rule.Many a → (ks ≡ [] → ⊥) → t ≡ (a, p, 1) → Choice p ks t

pub choice_first : (p : Part) (ks : List Kind) (t : Part × Part × ℕ) → Choice p ks t → rank t.0 < rank p
choice_first p ks t (by_both a b e f) = subst (λ (z : Part × Part × ℕ). rank z.0 < rank p) (sym f) (subst (λ (z : Production). Falls (rank p) z) e (falls p)).0
choice_first p ks t (by_many a e n f) = subst (λ (z : Part × Part × ℕ). rank z.0 < rank p) (sym f) (subst (λ (z : Production). Falls (rank p) z) e (falls p))

pub choice_second : (p : Part) (ks : List Kind) (t : Part × Part × ℕ) → Choice p ks t → rank t.1 < rank p + t.2
choice_second p ks t (by_both a b e f) = subst (λ (z : Part × Part × ℕ). rank z.1 < rank p + z.2) (sym f) (let h = (subst (λ (z : Production). Falls (rank p) z) e (falls p)).1 in omega arith)
choice_second p ks t (by_many a e n f) = subst (λ (z : Part × Part × ℕ). rank z.1 < rank p + z.2) (sym f) (omega arith)

pub choice_cuts : (p : Part) (ks : List Kind) (t : Part × Part × ℕ) → Choice p ks t → (ls : List Line) → map kind_of ls ≡ ks → Is p ls ↔ Cut t.2 (Is t.0) (Is t.1) ls
choice_cuts p ks t (by_both a b e f) ls m = subst (λ (z : Part × Part × ℕ). Is p ls ↔ Cut z.2 (Is z.0) (Is z.1) ls) (sym f) (by_rule p _ e ls)
choice_cuts p ks t (by_many a e n f) ls m = subst (λ (z : Part × Part × ℕ). Is p ls ↔ Cut z.2 (Is z.0) (Is z.1) ls) (sym f) (λ i. go ((by_rule p _ e ls).0 i), λ i. (by_rule p _ e ls).1 (inr i))
  where
    go : (ls ≡ []) ⊎ Cut 1 (Is a) (Is p) ls → Cut 1 (Is a) (Is p) ls
    go (inl i) = absurd (n (sym m ∙ ap (λ (z : List Line). map kind_of z) i))
    go (inr i) = i

-- ---- no line

pub not_empty : (ks : List Kind) → false ≡ (length ks == 0) → ks ≡ [] → ⊥
not_empty [] h e = cc
not_empty (k ∷ ks) h e = cc

pub empty_so : (ks : List Kind) → true ≡ (length ks == 0) → ks ≡ []
empty_so [] h = refl
empty_so (k ∷ ks) h = absurd (let e = eqb-true (length (k ∷ ks)) 0 (sym h) in omega arith)

-- ---- the loop over the cuts

-- one cut more that is none
pub none_more : (p q : Part) (ls : List Line) (ks : List Kind) (least cut : ℕ) → map kind_of ls ≡ ks → ((k : ℕ) → least ≤ k → k < cut → Is p (take k ls) → Is q (drop k ls) → ⊥) →
    (Is p (take cut ls) → Is q (drop cut ls) → ⊥) → (k : ℕ) → least ≤ k → k < cut + 1 → Is p (take k ls) → Is q (drop k ls) → ⊥
none_more p q ls ks least cut m none here k h within = go (ltb k cut) refl
  where
    go : (b : Bool) → ltb k cut ≡ b → Is p (take k ls) → Is q (drop k ls) → ⊥
    go true e = none k h (ltb-true k cut e)
    go false e = let same : cut ≡ k = let f = ltb-false k cut e in omega arith in subst (λ (z : ℕ). Is p (take z ls) → Is q (drop z ls) → ⊥) same here

-- the parts of a cut of the kinds are those of a cut of the lines
pub front_kinds : (ls : List Line) (ks fs : List Kind) (k : ℕ) → map kind_of ls ≡ ks → fs ≡ take k ks → map kind_of (take k ls) ≡ fs
front_kinds ls ks fs k m e = sym (take-map kind_of k ls) ∙ ap (λ (z : List Kind). take k z) m ∙ sym e

pub back_kinds : (ls : List Line) (ks bs : List Kind) (k : ℕ) → map kind_of ls ≡ ks → bs ≡ drop k ks → map kind_of (drop k ls) ≡ bs
back_kinds ls ks bs k m e = sym (drop-map kind_of k ls) ∙ ap (λ (z : List Kind). drop k z) m ∙ sym e

pub front_long : (ls : List Line) (ks : List Kind) (k least : ℕ) → map kind_of ls ≡ ks → k ≤ length ks → least ≤ k → least ≤ length (take k ls)
front_long ls ks k least m within h =
    let e : length ls ≡ length ks = sym (length-map ls kind_of) ∙ ap (λ (z : List Kind). length z) m in
    let f : length (take k ls) ≡ k = length-take-le k ls (omega arith) in
    omega arith

-- where no cut was found
pub no_part : (least : ℕ) (p q r : Part) (ls : List Line) (ks : List Kind) (cut : ℕ) → map kind_of ls ≡ ks → (Is r ls ↔ Cut least (Is p) (Is q) ls) → length ks < cut →
    ((k : ℕ) → least ≤ k → k < cut → Is p (take k ls) → Is q (drop k ls) → ⊥) → Is r ls → ⊥
no_part least p q r ls ks cut m cuts beyond none i =
    let e : length ls ≡ length ks = sym (length-map ls kind_of) ∙ ap (λ (z : List Kind). length z) m in
    no_cut least (Is p) (Is q) ls (λ k h w. none k h (omega arith)) (cuts.0 i)
