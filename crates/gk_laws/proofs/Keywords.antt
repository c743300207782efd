-- Lines that begin with a keyword or a fence.
use Rattle.std.proofs.Common.{◌≡◌, ℕ, zero, suc, ◌+◌, Bool, true, false, cond, List, [], ◌∷◌, ◌++◌, Option, Some, None, sym, refl, ap, ◌∙◌, subst, ◌⊎◌, inl, inr, arith, codes}
use Rattle.std.specs.Prelude.{◌==◌, ◌&&◌, not}
use Rattle.std.specs.Char.{is_whitespace}
use Rattle.std.specs.List.{Contains, list_all, prefix_len}
use Rattle.std.specs.Option.{option_map}
use Rattle.std.specs.Str.{skip_leading_whitespace}
use Rattle.std.proofs.lemmas.Bool.{eq-eqb, false≢true}
use Rattle.gk_document.specs.declared.tree.Fence.{Fence}
use Rattle.gk_document.specs.declared.tree.Fence.TheVariants.{Quotes, Backticks}
use Rattle.gk_document.specs.declared.tree.KeywordType.{KeywordType}
use Rattle.gk_document.specs.Fences.{fence_characters}
use Rattle.gk_line.specs.Texts.{after, text_after_indent, first_some, or_else, trimmed_text}
use Rattle.gk_line.specs.Tokens.{TitleText, StepText, FenceText, fence_of, fences, indent_of, title_keywords, step_of, step_words, title_of}
use Rattle.gk_line.specs.declared.tokens.Block.{Block}
use Rattle.gk_line.specs.declared.tokens.Block.TheVariants.{Feature, Rule, Background, Scenario, Examples}
use Rattle.gk_line.proofs.PlaceLemmas.{skip-split}
use Rattle.gk_line.proofs.TextLemmas.{and_true, after-some}
use Rattle.gk_laws.specs.KeywordLines.{IsMarkedLine, TitlesAreMarked, StepsAreMarked, FencesAreMarked}
use Rattle.gk_laws.specs.Trimming.{IsTrimmed}
use Rattle.gk_laws.proofs.TextParts.{after_front, skip_gap, trimmed_ends}
use Rattle.gk_laws.proofs.Trims.{front_split, front_length, is_trimmed, trimmed_is}

-- what a line reads as after its indent and a mark
pub marked : (line mark rest : List ℕ) → after mark (text_after_indent line) ≡ Some rest → IsMarkedLine line mark (trimmed_text rest) (indent_of line + 1)
unfolding text_after_indent indent_of
marked line mark rest e =
    let front = skip-split line in
    record {
      indent = front.0;
      front = (front_split is_whitespace rest).0;
      rest = rest;
      whole = front.1 ∙ ap (λ q. front.0 ++ q) (after-some mark (skip_leading_whitespace line) rest e);
      is_indent = front.2;
      is_text = subst (IsTrimmed is_whitespace rest (front_split is_whitespace rest).0) (sym (trimmed_ends rest)) (is_trimmed is_whitespace rest);
      is_column = omega (arith, front.3);
    }

-- the mark's first character is no white space
abbrev begins_black : List ℕ → Bool
begins_black [] = false
begins_black (c ∷ cs) = not (is_whitespace c)

black : (b : Bool) → not b ≡ true → b ≡ false
black true h = absurd (false≢true h)
black false h = refl

read_mark : (line mark text : List ℕ) (column : ℕ) → begins_black mark ≡ true → (m : IsMarkedLine line mark text column) → (after mark (text_after_indent line) ≡ Some m.rest) × (trimmed_text m.rest ≡ text) × (indent_of line + 1 ≡ column)
unfolding text_after_indent indent_of
read_mark line [] text column h m = absurd (false≢true h)
read_mark line (c ∷ mark) text column h m =
    let plain = black (is_whitespace c) h in
    let body : skip_leading_whitespace line ≡ c ∷ mark ++ m.rest = ap skip_leading_whitespace m.whole ∙ skip_gap m.indent c (mark ++ m.rest) m.is_indent plain in
    let long = front_length is_whitespace m.indent (c ∷ mark ++ m.rest) m.is_indent in
    let none : prefix_len is_whitespace (c ∷ mark ++ m.rest) ≡ 0 = ap (λ b. cond b (1 + prefix_len is_whitespace (mark ++ m.rest)) 0) plain in
    let whole = ap (prefix_len is_whitespace) m.whole in
    let place = m.is_column in (
      ap (after (c ∷ mark)) body ∙ after_front (c ∷ mark) m.rest,
      trimmed_ends m.rest ∙ (trimmed_is is_whitespace m.rest m.front text m.is_text).0,
      omega arith,
    )

-- ---- one mark of several

contains_first : {X : Type 0} (x : X) (xs : List X) → Contains (x ∷ xs) x
contains_first x xs = (0, omega arith, refl)

contains_later : {X : Type 0} (x y : X) (xs : List X) → Contains xs y → Contains (x ∷ xs) y
contains_later x y xs (k, l, e) = (suc k, omega arith, e)

contains_cases : {X : Type 0} (x y : X) (xs : List X) → Contains (x ∷ xs) y → (x ≡ y) ⊎ Contains xs y
contains_cases x y xs (zero, l, e) = inl e
contains_cases x y xs (suc k, l, e) = inr (k, omega arith, e)

contains_none : {X : Type 0} (y : X) → Contains [] y → ⊥
contains_none y (k, l, e) = absurd (omega arith)

each_passes : {X : Type 0} (test : X → Bool) (xs : List X) (y : X) → list_all test xs ≡ true → Contains xs y → test y ≡ true
each_passes test [] y h c = absurd (contains_none y c)
each_passes {X} test (x ∷ xs) y h c = by_cases (contains_cases x y xs c) (each_passes test xs y (and_true _ _ h).1) where
  by_cases : (x ≡ y) ⊎ Contains xs y → (Contains xs y → test y ≡ true) → test y ≡ true
  by_cases (inl e) later = subst (λ y. test y ≡ true) e (and_true _ _ h).0
  by_cases (inr c) later = later c

-- one of the two is a front of the other
abbrev agree : List ℕ → List ℕ → Bool
agree [] q = true
agree (x ∷ p) [] = true
agree (x ∷ p) (y ∷ q) = x == y && agree p q

fronts_agree : (p q r s : List ℕ) → p ++ r ≡ q ++ s → agree p q ≡ true
fronts_agree [] q r s e = refl
fronts_agree (x ∷ p) [] r s e = refl
fronts_agree (x ∷ p) (y ∷ q) r s e =
    let first : x ≡ y = cc in
    let later : p ++ r ≡ q ++ s = cc in
    ap (λ b. b && agree p q) (eq-eqb x y first) ∙ fronts_agree p q r s later

module _ {A B : Type 0} (key : A → List ℕ) (value : A → List ℕ → B) where
  abbrev pub found : List ℕ → List A → Option B
  found body xs = first_some (λ x. option_map (value x) (after (key x) body)) xs

  -- no mark is a front of another
  abbrev apart : List A → Bool
  apart [] = true
  apart (x ∷ xs) = list_all (λ y. not (agree (key x) (key y))) xs && apart xs

  abbrev pub IsFound : List ℕ → List A → B → Type 0
  IsFound body xs z = (x : A) × Contains xs x × (rest : List ℕ) × (after (key x) body ≡ Some rest) × (z ≡ value x rest)

  pub is_found : (body : List ℕ) (xs : List A) (z : B) → found body xs ≡ Some z → IsFound body xs z
  unfolding first_some
  is_found body [] z e = absurd (cc)
  is_found body (x ∷ xs) z e = by_first (after (key x) body) refl e (is_found body xs z) where
    by_first : (o : Option (List ℕ)) → after (key x) body ≡ o → or_else (option_map (value x) o) (found body xs) ≡ Some z → (found body xs ≡ Some z → IsFound body xs z) → IsFound body (x ∷ xs) z
    by_first (Some rest) is e later = (x, contains_first x xs, rest, is, cc)
    by_first None is e later = let more = later e in (more.0, contains_later x more.0 xs more.1, more.2, more.3, more.4)

  pub finds : (body : List ℕ) (xs : List A) (x : A) (rest : List ℕ) → apart xs ≡ true → Contains xs x → after (key x) body ≡ Some rest → found body xs ≡ Some (value x rest)
  unfolding first_some
  finds body [] x rest h c e = absurd (contains_none x c)
  finds body (y ∷ xs) x rest h c e = by_cases (contains_cases y x xs c) (finds body xs x rest (and_true _ _ h).1) where
    missed : Contains xs x → after (key y) body ≡ None
    missed c = by_option (after (key y) body) refl where
      by_option : (o : Option (List ℕ)) → after (key y) body ≡ o → o ≡ None
      by_option None is = refl
      by_option (Some other) is =
          let both : agree (key y) (key x) ≡ true = fronts_agree (key y) (key x) other rest (sym (after-some (key y) body other is) ∙ after-some (key x) body rest e) in
          let differ : not (agree (key y) (key x)) ≡ true = each_passes (λ z. not (agree (key y) (key z))) xs x (and_true _ _ h).0 c in
          absurd (false≢true (sym (ap not both) ∙ differ))

    by_cases : (y ≡ x) ⊎ Contains xs x → (Contains xs x → after (key x) body ≡ Some rest → found body xs ≡ Some (value x rest)) → or_else (option_map (value y) (after (key y) body)) (found body xs) ≡ Some (value x rest)
    by_cases (inl is) later =
        ap (λ z. or_else (option_map (value z) (after (key z) body)) (found body xs)) is ∙ ap (λ o. or_else (option_map (value x) o) (found body xs)) e
    by_cases (inr c) later = ap (λ o. or_else (option_map (value y) o) (found body xs)) (missed c) ∙ later c e

-- ---- titles

abbrev pub title_key : List ℕ → List ℕ
title_key keyword = keyword ++ codes ":"

abbrev pub title_at : List ℕ → List ℕ → List ℕ → TitleText
title_at line keyword rest = record { keyword = keyword; name = trimmed_text rest; column = indent_of line + 1 }

keywords_apart : (block : Block) → apart title_key (title_at []) (title_keywords block) ≡ true
keywords_apart Feature = refl
keywords_apart Rule = refl
keywords_apart Background = refl
keywords_apart Scenario = refl
keywords_apart Examples = refl

keywords_black : (block : Block) → list_all (λ k. begins_black (title_key k)) (title_keywords block) ≡ true
keywords_black Feature = refl
keywords_black Rule = refl
keywords_black Background = refl
keywords_black Scenario = refl
keywords_black Examples = refl

same_title : (k n m : List ℕ) (c d : ℕ) → n ≡ m → c ≡ d → ◌≡◌ {A = TitleText} (record { keyword = k; name = n; column = c }) (record { keyword = k; name = m; column = d })
same_title k n m c d e f = ap (λ n. record { keyword = k; name = n; column = c }) e ∙ ap (λ c. record { keyword = k; name = m; column = c }) f

pub titles_are_marked : TitlesAreMarked
unfolding title_of
titles_are_marked block line t = (
  (λ e.
      let f = is_found title_key (title_at line) (text_after_indent line) (title_keywords block) t e in
      subst (λ (t : TitleText). Contains (title_keywords block) t.keyword × IsMarkedLine line (t.keyword ++ codes ":") t.name t.column) (sym f.4)
      (f.1, marked line (title_key f.0) f.2 f.3)),
  (λ (among, m).
      let black_mark = each_passes (λ k. begins_black (title_key k)) (title_keywords block) t.keyword (keywords_black block) among in
      let read = read_mark line (title_key t.keyword) t.name t.column black_mark m in
      finds title_key (title_at line) (text_after_indent line) (title_keywords block) t.keyword m.rest (keywords_apart block) among read.0
      ∙ ap (λ t. Some t) (same_title t.keyword (trimmed_text m.rest) t.name (indent_of line + 1) t.column read.1 read.2)),
)

-- ---- steps

abbrev pub step_key : List ℕ × KeywordType → List ℕ
step_key entry = entry.0 ++ codes " "

abbrev pub step_at : List ℕ → List ℕ × KeywordType → List ℕ → StepText
step_at line entry rest = record { keyword = step_key entry; kind = entry.1; text = trimmed_text rest; column = indent_of line + 1 }

same_step : (k l n m : List ℕ) (t : KeywordType) (c d : ℕ) → k ≡ l → n ≡ m → c ≡ d → ◌≡◌ {A = StepText} (record { keyword = k; kind = t; text = n; column = c }) (record { keyword = l; kind = t; text = m; column = d })
same_step k l n m t c d g e f =
    ap (λ k. record { keyword = k; kind = t; text = n; column = c }) g
    ∙ ap (λ n. record { keyword = l; kind = t; text = n; column = c }) e ∙ ap (λ c. record { keyword = l; kind = t; text = m; column = c }) f

pub steps_are_marked : StepsAreMarked
unfolding step_of
steps_are_marked line s = (
  (λ e.
      let f = is_found step_key (step_at line) (text_after_indent line) step_words s e in
      subst (λ (s : StepText). (word : List ℕ) × Contains step_words (word, s.kind) × (s.keyword ≡ word ++ codes " ") × IsMarkedLine line s.keyword s.text s.column) (sym f.4)
      (f.0.0, f.1, refl, marked line (step_key f.0) f.2 f.3)),
  (λ (word, among, is, m).
      let black_mark : begins_black s.keyword ≡ true = ap begins_black is ∙ each_passes (λ w. begins_black (step_key w)) step_words (word, s.kind) refl among in
      let read = read_mark line s.keyword s.text s.column black_mark m in
      finds step_key (step_at line) (text_after_indent line) step_words (word, s.kind) m.rest refl among (ap (λ k. after k (text_after_indent line)) (sym is) ∙ read.0)
      ∙ ap (λ s. Some s) (same_step (word ++ codes " ") s.keyword (trimmed_text m.rest) s.text s.kind (indent_of line + 1) s.column (sym is) read.1 read.2)),
)

-- ---- fences

abbrev pub fence_key : List ℕ × Fence → List ℕ
fence_key entry = entry.0

abbrev pub fence_at : List ℕ → List ℕ × Fence → List ℕ → FenceText
fence_at line entry rest = record { fence = entry.1; media = trimmed_text rest; column = indent_of line + 1 }

-- each fence is listed with its characters
pub listed : (x : List ℕ × Fence) → Contains fences x → x.0 ≡ fence_characters x.1
listed x c = by_first (contains_cases (fence_characters Quotes, Quotes) x ((fence_characters Backticks, Backticks) ∷ []) c) where
  by_second : ((fence_characters Backticks, Backticks) ≡ x) ⊎ Contains [] x → x.0 ≡ fence_characters x.1
  by_second (inl e) = subst (λ (x : List ℕ × Fence). x.0 ≡ fence_characters x.1) e refl
  by_second (inr c) = absurd (contains_none x c)

  by_first : ((fence_characters Quotes, Quotes) ≡ x) ⊎ Contains ((fence_characters Backticks, Backticks) ∷ []) x → x.0 ≡ fence_characters x.1
  by_first (inl e) = subst (λ (x : List ℕ × Fence). x.0 ≡ fence_characters x.1) e refl
  by_first (inr c) = by_second (contains_cases (fence_characters Backticks, Backticks) x [] c)

is_listed : (fence : Fence) → Contains fences (fence_characters fence, fence)
is_listed Quotes = contains_first (fence_characters Quotes, Quotes) ((fence_characters Backticks, Backticks) ∷ [])
is_listed Backticks = contains_later (fence_characters Quotes, Quotes) (fence_characters Backticks, Backticks) ((fence_characters Backticks, Backticks) ∷ []) (contains_first (fence_characters Backticks, Backticks) [])

fence_black : (fence : Fence) → begins_black (fence_characters fence) ≡ true
fence_black Quotes = refl
fence_black Backticks = refl

same_fence : (f : Fence) (n m : List ℕ) (c d : ℕ) → n ≡ m → c ≡ d → ◌≡◌ {A = FenceText} (record { fence = f; media = n; column = c }) (record { fence = f; media = m; column = d })
same_fence f n m c d e g = ap (λ n. record { fence = f; media = n; column = c }) e ∙ ap (λ c. record { fence = f; media = m; column = c }) g

pub fences_are_marked : FencesAreMarked
unfolding fence_of
fences_are_marked line f = (
  (λ e.
      let found = is_found fence_key (fence_at line) (text_after_indent line) fences f e in
      subst (λ (f : FenceText). IsMarkedLine line (fence_characters f.fence) f.media f.column) (sym found.4)
      (subst (λ mark. IsMarkedLine line mark (trimmed_text found.2) (indent_of line + 1)) (listed found.0 found.1) (marked line found.0.0 found.2 found.3))),
  (λ m.
      let read = read_mark line (fence_characters f.fence) f.media f.column (fence_black f.fence) m in
      finds fence_key (fence_at line) (text_after_indent line) fences (fence_characters f.fence, f.fence) m.rest refl (is_listed f.fence) read.0
      ∙ ap (λ f. Some f) (same_fence f.fence (trimmed_text m.rest) f.media (indent_of line + 1) f.column read.1 read.2)),
)
