-- Lists without what passes a test at both ends.
use Rattle.std.proofs.Common.{◌≡◌, ◌+◌, Bool, true, false, cond, List, [], ◌∷◌, ◌++◌, length, sym, refl, ap, ◌∙◌, subst, arith}
use Rattle.std.specs.Prelude.{◌==◌, ◌&&◌}
use Rattle.std.specs.List.{list_all, prefix_len}
use Rattle.std.proofs.lemmas.Bool.{eqb-true, ne_eqb, false≢true}
use Rattle.gk_line.proofs.TagLemmas.{test_cases}
use Rattle.gk_line.proofs.TextLemmas.{and_true}
use Rattle.gk_laws.specs.Trimming.{IsTrimmed}

no_elements : {X : Type 0} (xs : List X) → (length xs == 0) ≡ true → xs ≡ []
no_elements [] h = refl
no_elements (x ∷ xs) h = absurd (omega (arith, eqb-true (length (x ∷ xs)) 0 h))

module _ {X : Type 0} (p : X → Bool) where
  -- the list without its first elements, and without its last elements, that pass
  abbrev pub skip : List X → List X
  skip [] = []
  skip (x ∷ xs) = cond (p x) (skip xs) (x ∷ xs)

  abbrev pub drop_end : List X → List X
  drop_end [] = []
  drop_end (x ∷ xs) = cond (p x && length (drop_end xs) == 0) [] (x ∷ drop_end xs)

  -- ---- what is left is trimmed

  pub front_split : (xs : List X) → (front : List X) × (xs ≡ front ++ skip xs) × (list_all p front ≡ true) × (length front ≡ prefix_len p xs)
  front_split [] = ([], refl, refl, refl)
  front_split (x ∷ xs) =
      test_cases (p x)
      (λ e. let more = front_split xs in
      let long : length (x ∷ more.0) ≡ 1 + prefix_len p xs = omega (arith, more.3) in (
        x ∷ more.0,
        ap (λ q. x ∷ q) more.1 ∙ ap (λ b. (x ∷ more.0) ++ cond b (skip xs) (x ∷ xs)) (sym e),
        ap (λ b. b && list_all p more.0) e ∙ more.2,
        long ∙ sym (ap (λ b. cond b (1 + prefix_len p xs) 0) e),
      ))
      (λ e. (
        [],
        ap (λ b. cond b (skip xs) (x ∷ xs)) (sym e),
        refl,
        sym (ap (λ b. cond b (1 + prefix_len p xs) 0) e),
      ))

  back_split : (xs : List X) → (back : List X) × (xs ≡ drop_end xs ++ back) × (list_all p back ≡ true)
  back_split [] = ([], refl, refl)
  back_split (x ∷ xs) =
      let kept = drop_end xs in
      let more = back_split xs in
      test_cases (p x && length kept == 0)
      (λ e.
      let both = and_true _ _ e in
      let rest : xs ≡ more.0 = more.1 ∙ ap (λ q. q ++ more.0) (no_elements kept both.1) in (
        x ∷ xs,
        ap (λ b. cond b [] (x ∷ kept) ++ (x ∷ xs)) (sym e),
        ap (λ b. b && list_all p xs) both.0 ∙ subst (λ q. list_all p q ≡ true) (sym rest) more.2,
      ))
      (λ e. (more.0, ap (λ q. x ∷ q) more.1 ∙ ap (λ b. cond b [] (x ∷ kept) ++ more.0) (sym e), more.2))

  skip_first : (xs : List X) (x : X) (more : List X) → skip xs ≡ x ∷ more → p x ≡ false
  skip_first [] x more e = absurd (cc)
  skip_first (y ∷ xs) x more e =
      test_cases (p y)
      (λ t. skip_first xs x more (sym (ap (λ b. cond b (skip xs) (y ∷ xs)) t) ∙ e))
      (λ f. let whole : y ∷ xs ≡ x ∷ more = sym (ap (λ b. cond b (skip xs) (y ∷ xs)) f) ∙ e in
      let same : y ≡ x = cc in
      subst (λ x. p x ≡ false) same f)

  drop_last : (xs more : List X) (x : X) → drop_end xs ≡ more ++ x ∷ [] → p x ≡ false
  drop_last [] [] x e = absurd (cc)
  drop_last [] (m ∷ more) x e = absurd (cc)
  drop_last (y ∷ xs) more x e =
      let kept = drop_end xs in
      test_cases (p y && length kept == 0)
      (λ t. absurd (nothing more (sym (ap (λ b. cond b [] (y ∷ kept)) t) ∙ e)))
      (λ f. by_front more f (sym (ap (λ b. cond b [] (y ∷ kept)) f) ∙ e) (drop_last xs)) where
        nothing : (more : List X) → [] ≡ more ++ x ∷ [] → ⊥
        nothing [] e = cc
        nothing (m ∷ more) e = cc

        by_front : (more : List X) → (p y && length (drop_end xs) == 0) ≡ false → y ∷ drop_end xs ≡ more ++ x ∷ [] → ((more : List X) (x : X) → drop_end xs ≡ more ++ x ∷ [] → p x ≡ false) → p x ≡ false
        by_front [] f e later =
            let same : y ≡ x = cc in
            let end : drop_end xs ≡ [] = cc in
            subst (λ x. p x ≡ false) same (one (p y) (ap (λ q. p y && length q == 0) (sym end) ∙ f)) where
              one : (b : Bool) → (b && true) ≡ false → b ≡ false
              one true e = e
              one false e = refl
        by_front (m ∷ more) f e later = later more x (cc)

  pub is_trimmed : (xs : List X) → IsTrimmed p xs (front_split xs).0 (drop_end (skip xs))
  is_trimmed xs =
      let front = front_split xs in
      let body = skip xs in
      let end = back_split body in
      record {
        back = end.0;
        parts = front.1 ∙ ap (λ q. front.0 ++ q) end.1;
        spaces = (front.2, end.2);
        first = λ x more e. skip_first xs x (more ++ end.0) (end.1 ∙ ap (λ q. q ++ end.0) e);
        last = drop_last body;
        no_back = λ e. by_back end.0 end.2 (end.1 ∙ ap (λ q. q ++ end.0) e);
      } where
        by_back : (back : List X) → list_all p back ≡ true → skip xs ≡ back → back ≡ []
        by_back [] h e = refl
        by_back (x ∷ back) h e = absurd (false≢true (sym (skip_first xs x back e) ∙ (and_true _ _ h).0))

  -- ---- what is trimmed is what is left

  front_skipped : (front more : List X) → list_all p front ≡ true → skip (front ++ more) ≡ skip more
  front_skipped [] more h = refl
  front_skipped (x ∷ front) more h =
      let both = and_true _ _ h in
      ap (λ b. cond b (skip (front ++ more)) (x ∷ front ++ more)) both.0 ∙ front_skipped front more both.1

  pub front_length : (front more : List X) → list_all p front ≡ true → prefix_len p (front ++ more) ≡ length front + prefix_len p more
  front_length [] more h = omega arith
  front_length (x ∷ front) more h =
      let both = and_true (p x) (list_all p front) h in
      omega (arith, ap (λ b. cond b (1 + prefix_len p (front ++ more)) 0) both.0, front_length front more both.1)

  -- no first element passes
  abbrev BeginsOtherwise : List X → Type 0
  BeginsOtherwise xs = (skip xs ≡ xs) × (prefix_len p xs ≡ 0)

  begins_otherwise : (kept back : List X) → ((x : X) (more : List X) → kept ≡ x ∷ more → p x ≡ false) → (kept ≡ [] → back ≡ []) → BeginsOtherwise (kept ++ back)
  begins_otherwise [] back first no_back = subst BeginsOtherwise (sym (no_back refl)) (refl, refl)
  begins_otherwise (x ∷ kept) back first no_back =
      let e = first x kept refl in (
        ap (λ b. cond b (skip (kept ++ back)) (x ∷ kept ++ back)) e,
        ap (λ b. cond b (1 + prefix_len p (kept ++ back)) 0) e,
      )

  all_dropped : (back : List X) → list_all p back ≡ true → drop_end back ≡ []
  all_dropped [] h = refl
  all_dropped (x ∷ back) h =
      let both = and_true (p x) (list_all p back) h in
      rw (all_dropped back both.1, both.0) refl

  kept_element : (x : X) (kept : List X) → (kept ≡ [] → p x ≡ false) → cond (p x && length kept == 0) [] (x ∷ kept) ≡ x ∷ kept
  kept_element x [] last = ap (λ b. cond (b && true) [] (x ∷ [])) (last refl)
  kept_element x (y ∷ kept) last =
      let some : (length (y ∷ kept) == 0) ≡ false = ne_eqb (length (y ∷ kept)) 0 (λ e. absurd (omega (arith, e))) in
      ap (λ b. cond (p x && b) [] (x ∷ y ∷ kept)) some ∙ by_test (p x) where
        by_test : (b : Bool) → cond (b && false) [] (x ∷ y ∷ kept) ≡ x ∷ y ∷ kept
        by_test true = refl
        by_test false = refl

  back_dropped : (kept back : List X) → ((more : List X) (x : X) → kept ≡ more ++ x ∷ [] → p x ≡ false) → list_all p back ≡ true → drop_end (kept ++ back) ≡ kept
  back_dropped [] back last h = all_dropped back h
  back_dropped (x ∷ kept) back last h =
      ap (λ q. cond (p x && length q == 0) [] (x ∷ q)) (back_dropped kept back (λ more y e. last (x ∷ more) y (ap (λ q. x ∷ q) e)) h)
      ∙ kept_element x kept (λ e. last [] x (ap (λ q. x ∷ q) e))

  -- what is kept, and how much is in front of it
  pub trimmed_is : (whole front kept : List X) → IsTrimmed p whole front kept → (drop_end (skip whole) ≡ kept) × (prefix_len p whole ≡ length front)
  trimmed_is whole front kept t =
      let begins = begins_otherwise kept t.back t.first t.no_back in
      let body : skip whole ≡ kept ++ t.back = ap skip t.parts ∙ front_skipped front (kept ++ t.back) t.spaces.0 ∙ begins.0 in
      let leading = front_length front (kept ++ t.back) t.spaces.0 in
      let none = begins.1 in (
        ap drop_end body ∙ back_dropped kept t.back t.last t.spaces.1,
        ap (prefix_len p) t.parts ∙ omega (arith, leading, none),
      )
