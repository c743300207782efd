-- The units of a text, written again.
use Rattle.std.proofs.Common.{◌≡◌, ℕ, Bool, true, false, cond, List, [], ◌∷◌, ◌++◌, Option, Some, None, sym, refl, ap, ◌∙◌, subst, inl, inr}
use Rattle.std.specs.Prelude.{◌==◌, ◌⊎◌, if◌then◌else◌}
use Rattle.std.specs.List.{AllByRecursion, flat_map}
use Rattle.std.proofs.lemmas.Bool.{eqb-true, false≢true}
use Rattle.gk_line.specs.Cells.{CellUnit, plain_unit, pair_unit, escape_meaning, unit_or, units}
use Rattle.gk_line.specs.Characters.{backslash, letter_n, line_feed, vertical_bar}
use Rattle.gk_laws.specs.Rows.{unit_text, IsUnit, MakesPair, AreUnits, UnitsWriteTexts}

-- what the first two characters of a text mean, if they are a pair
abbrev pair_of : ℕ → ℕ → Option ℕ
pair_of c d = if c == backslash then escape_meaning d else None

abbrev choice : Bool → Bool → Bool → Bool → Option ℕ
choice w x y z = cond w (cond x (Some vertical_bar) (cond y (Some backslash) (cond z (Some line_feed) None))) None

pair_is : (c d m : ℕ) → pair_of c d ≡ Some m → (c ≡ backslash) × (unit_text (pair_unit m) ≡ backslash ∷ d ∷ []) × IsUnit (pair_unit m)
pair_is c d m h = by_test (c == backslash) (d == vertical_bar) (d == backslash) (d == letter_n) refl refl refl refl h where
  by_test : (w x y z : Bool) → (c == backslash) ≡ w → (d == vertical_bar) ≡ x → (d == backslash) ≡ y → (d == letter_n) ≡ z
      → choice w x y z ≡ Some m → (c ≡ backslash) × (unit_text (pair_unit m) ≡ backslash ∷ d ∷ []) × IsUnit (pair_unit m)
  by_test false x y z p q r s e = absurd (cc)
  by_test true true y z p q r s e =
      let is : vertical_bar ≡ m = cc in
      subst (λ m. (c ≡ backslash) × (unit_text (pair_unit m) ≡ backslash ∷ d ∷ []) × IsUnit (pair_unit m)) is
      (eqb-true c backslash p, ap (λ n. backslash ∷ n ∷ []) (sym (eqb-true d vertical_bar q)), λ _. inl refl)
  by_test true false true z p q r s e =
      let is : backslash ≡ m = cc in
      subst (λ m. (c ≡ backslash) × (unit_text (pair_unit m) ≡ backslash ∷ d ∷ []) × IsUnit (pair_unit m)) is
      (eqb-true c backslash p, ap (λ n. backslash ∷ n ∷ []) (sym (eqb-true d backslash r)), λ _. inr (inl refl))
  by_test true false false true p q r s e =
      let is : line_feed ≡ m = cc in
      subst (λ m. (c ≡ backslash) × (unit_text (pair_unit m) ≡ backslash ∷ d ∷ []) × IsUnit (pair_unit m)) is
      (eqb-true c backslash p, ap (λ n. backslash ∷ n ∷ []) (sym (eqb-true d letter_n s)), λ _. inr (inr refl))
  by_test true false false false p q r s e = absurd (cc)

-- a backslash before a character that makes a pair of it is of a pair
no_pair : (c d : ℕ) → c ≡ backslash → MakesPair d → pair_of c d ≡ None → ⊥
no_pair c d is makes none = by_character makes (ap (λ b. pair_of b d) (sym is) ∙ none) where
  by_character : MakesPair d → pair_of backslash d ≡ None → ⊥
  by_character (inl e) n = let other : Some vertical_bar ≡ None = ap (pair_of backslash) (sym e) ∙ n in cc
  by_character (inr (inl e)) n = let other : Some backslash ≡ None = ap (pair_of backslash) (sym e) ∙ n in cc
  by_character (inr (inr e)) n = let other : Some line_feed ≡ None = ap (pair_of backslash) (sym e) ∙ n in cc

-- where a backslash isn't before such a character, it is by itself
alone : (c d : ℕ) → (c ≡ backslash → MakesPair d → ⊥) → pair_of c d ≡ None
alone c d apart = by_test (c == backslash) (d == vertical_bar) (d == backslash) (d == letter_n) refl refl refl refl where
  by_test : (w x y z : Bool) → (c == backslash) ≡ w → (d == vertical_bar) ≡ x → (d == backslash) ≡ y → (d == letter_n) ≡ z
      → choice w x y z ≡ None
  by_test false x y z p q r s = refl
  by_test true true y z p q r s = absurd (apart (eqb-true c backslash p) (inl (eqb-true d vertical_bar q)))
  by_test true false true z p q r s = absurd (apart (eqb-true c backslash p) (inr (inl (eqb-true d backslash r))))
  by_test true false false true p q r s = absurd (apart (eqb-true c backslash p) (inr (inr (eqb-true d letter_n s))))
  by_test true false false false p q r s = refl

pub writes : (text : List ℕ) → flat_map unit_text (units text) ≡ text
unfolding units
writes [] = refl
writes (c ∷ []) = refl
writes (c ∷ d ∷ cs) = by_pair (pair_of c d) refl (writes (d ∷ cs)) (writes cs) where
  by_pair : (o : Option ℕ) → pair_of c d ≡ o → flat_map unit_text (units (d ∷ cs)) ≡ d ∷ cs → flat_map unit_text (units cs) ≡ cs → flat_map unit_text (unit_or o (plain_unit c ∷ units (d ∷ cs)) (units cs)) ≡ c ∷ d ∷ cs
  by_pair None is later past = ap (λ q. c ∷ q) later
  by_pair (Some m) is later past =
      let found = pair_is c d m is in
      ap (λ q. q ++ flat_map unit_text (units cs)) found.1 ∙ ap (λ q. backslash ∷ d ∷ q) past ∙ ap (λ q. q ∷ d ∷ cs) (sym found.0)

-- ---- sound units: each is one, and a backslash by itself isn't before a character that makes a pair of it

abbrev IsAlone : CellUnit → List CellUnit → Type 0
IsAlone u us = (c : ℕ) (rest : List ℕ) → u ≡ plain_unit backslash → flat_map unit_text us ≡ c ∷ rest → MakesPair c → ⊥

abbrev AreSound : List CellUnit → Type 0
AreSound [] = Unit {0}
AreSound (u ∷ us) = IsUnit u × IsAlone u us × AreSound us

plain_is_unit : (c : ℕ) → IsUnit (plain_unit c)
plain_is_unit c e = absurd (false≢true e)

sound : (text : List ℕ) → AreSound (units text)
unfolding units
sound [] = tt
sound (c ∷ []) = (plain_is_unit c, (λ d rest is e makes. cc), tt)
sound (c ∷ d ∷ cs) = by_pair (pair_of c d) refl (sound (d ∷ cs)) (sound cs) where
  by_pair : (o : Option ℕ) → pair_of c d ≡ o → AreSound (units (d ∷ cs)) → AreSound (units cs) → AreSound (unit_or o (plain_unit c ∷ units (d ∷ cs)) (units cs))
  by_pair None is later past = (
    plain_is_unit c,
    (λ x rest one e makes.
        let same : d ∷ cs ≡ x ∷ rest = sym (writes (d ∷ cs)) ∙ e in
        let first : x ≡ d = cc in
        no_pair c d (ap (λ u. u.meaning) one) (subst MakesPair first makes) is),
    later,
  )
  by_pair (Some m) is later past =
      ((pair_is c d m is).2, (λ x rest one e makes. false≢true (sym (ap (λ u. u.is_pair) one))), past)

written_pair : (m : ℕ) → IsUnit (pair_unit m) → escape_meaning (if m == line_feed then letter_n else m) ≡ Some m
written_pair m is = by_meaning (is refl) where
  by_meaning : (m ≡ vertical_bar) ⊎ (m ≡ backslash) ⊎ (m ≡ line_feed) → escape_meaning (if m == line_feed then letter_n else m) ≡ Some m
  by_meaning (inl e) = subst (λ m. escape_meaning (if m == line_feed then letter_n else m) ≡ Some m) (sym e) refl
  by_meaning (inr (inl e)) = subst (λ m. escape_meaning (if m == line_feed then letter_n else m) ≡ Some m) (sym e) refl
  by_meaning (inr (inr e)) = subst (λ m. escape_meaning (if m == line_feed then letter_n else m) ≡ Some m) (sym e) refl

abbrev unit : Bool → ℕ → CellUnit
unit b m = record { meaning = m; is_pair = b }

read_unit : (b : Bool) (m : ℕ) (us : List CellUnit) → IsUnit (unit b m) → IsAlone (unit b m) us → units (flat_map unit_text us) ≡ us → units (unit_text (unit b m) ++ flat_map unit_text us) ≡ unit b m ∷ us
unfolding units
read_unit true m us is apart later =
    let text = flat_map unit_text us in
    let letter = if m == line_feed then letter_n else m in
    ap (λ o. unit_or o (plain_unit backslash ∷ units (letter ∷ text)) (units text)) (written_pair m is) ∙ ap (λ q. pair_unit m ∷ q) later
read_unit false m us is apart later = by_text (flat_map unit_text us) refl later where
  by_text : (text : List ℕ) → flat_map unit_text us ≡ text → units text ≡ us → units (m ∷ text) ≡ plain_unit m ∷ us
  by_text [] e later = ap (λ q. plain_unit m ∷ q) later
  by_text (d ∷ ds) e later =
      ap (λ o. unit_or o (plain_unit m ∷ units (d ∷ ds)) (units ds)) (alone m d (λ slash makes. apart d ds (ap plain_unit slash) e makes))
      ∙ ap (λ q. plain_unit m ∷ q) later

read_again : (us : List CellUnit) → AreSound us → units (flat_map unit_text us) ≡ us
unfolding units
read_again [] h = refl
read_again (u ∷ us) h = read_unit u.is_pair u.meaning us h.0 h.1 (read_again us h.2)

-- ---- sound units are those of a text

abbrev NoPairLeft : List CellUnit → Type 0
NoPairLeft us =
    (front back : List CellUnit) (c : ℕ) (rest : List ℕ)
    → us ≡ front ++ plain_unit backslash ∷ back → flat_map unit_text back ≡ c ∷ rest → MakesPair c → ⊥

sound_from : (us : List CellUnit) → AllByRecursion IsUnit us → NoPairLeft us → AreSound us
sound_from [] each apart = tt
sound_from (u ∷ us) each apart = (
  each.0,
  (λ c rest is e makes. apart [] us c rest (ap (λ q. q ∷ us) is) e makes),
  sound_from us each.1 (λ front back c rest is e makes. apart (u ∷ front) back c rest (ap (λ q. u ∷ q) is) e makes),
)

each_unit : (us : List CellUnit) → AreSound us → AllByRecursion IsUnit us
each_unit [] h = tt
each_unit (u ∷ us) h = (h.0, each_unit us h.2)

no_pair_left : (us : List CellUnit) → AreSound us → NoPairLeft us
no_pair_left [] h [] back c rest is e makes = cc
no_pair_left [] h (f ∷ front) back c rest is e makes = cc
no_pair_left (u ∷ us) h [] back c rest is e makes =
    let here : u ≡ plain_unit backslash = cc in
    let later : us ≡ back = cc in
    h.1 c rest here (ap (flat_map unit_text) later ∙ e) makes
no_pair_left (u ∷ us) h (f ∷ front) back c rest is e makes =
    let later : us ≡ front ++ plain_unit backslash ∷ back = cc in
    no_pair_left us h.2 front back c rest later e makes

are_units : (text : List ℕ) → AreUnits text (units text)
are_units text = record {
  whole = sym (writes text);
  each = each_unit (units text) (sound text);
  no_pair_is_left = no_pair_left (units text) (sound text);
}

pub units_write_texts : UnitsWriteTexts
units_write_texts text us = (
  (λ e. subst (AreUnits text) e (are_units text)),
  (λ are. ap units are.whole ∙ read_again us (sound_from us are.each are.no_pair_is_left)),
)
