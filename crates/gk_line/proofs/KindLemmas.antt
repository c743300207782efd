-- Kinds of a line: what each begins with, after the indent, is no front of what another begins with.
use Rattle.std.proofs.Common.{◌≡◌, ℕ, Bool, true, false, cond, List, [], ◌∷◌, ◌++◌, Option, Some, None, sym, refl, ap, ◌∙◌, subst, codes, inl, inr, ⊎_elim}
use Rattle.std.specs.Prelude.{◌&&◌, ◌||◌, ◌==◌, not, map, is_some, if◌then◌else◌, ◌⊎◌}
use Rattle.std.specs.Char.{is_whitespace}
use Rattle.std.specs.List.{list_all, list_any, AllByRecursion}
use Rattle.std.specs.Option.{option_map, option_and_then}
use Rattle.std.specs.Str.{skip_leading_whitespace}
use Rattle.std.proofs.lemmas.Bool.{eqb-true, eq-eqb, false≢true}
use Rattle.gk_line.specs.Texts.{after, text_after_indent, first_some, or_else}
use Rattle.gk_line.specs.Tokens.{title_keywords, step_words, fences, begins_by, is_blank_line, title_of, step_of, fence_of, language_of}
use Rattle.gk_line.specs.Kinds.{Kind, is_of_kind, KindsExclude, LanguageIsComment}
use Rattle.gk_line.specs.Kinds.Kind.{Blank, Comment, TagLine, Row, TitleLine, Step, DocStringFence}
use Rattle.gk_line.specs.declared.tokens.Block.TheVariants.{Feature, Rule, Background, Scenario, Examples}
use Rattle.gk_line.proofs.TextLemmas.{and_true}
use Rattle.gk_line.proofs.TagLemmas.{test_cases}

-- what the lines of a kind begin with
abbrev fronts : Kind → List (List ℕ)
fronts Blank = []
fronts Comment = codes "#" ∷ []
fronts TagLine = codes "@" ∷ []
fronts Row = codes "|" ∷ []
fronts (TitleLine block) = map (λ k. k ++ codes ":") (title_keywords block)
fronts Step = map (λ w. w.0 ++ codes " ") step_words
fronts DocStringFence = map (λ w. w.0) fences

-- one of these fronts is in the text
abbrev begins : List (List ℕ) → List ℕ → Bool
begins ps text = list_any (λ p. is_some (after p text)) ps

-- one of the two is a front of the other
abbrev agree : List ℕ → List ℕ → Bool
agree [] q = true
agree (x ∷ p) [] = true
agree (x ∷ p) (y ∷ q) = x == y && agree p q

abbrev differ : List (List ℕ) → List (List ℕ) → Bool
differ ps qs = list_all (λ p. list_all (λ q. not (agree p q)) qs) ps

abbrev number : Kind → ℕ
number Blank = 0
number Comment = 1
number TagLine = 2
number Row = 3
number (TitleLine Feature) = 4
number (TitleLine Rule) = 5
number (TitleLine Background) = 6
number (TitleLine Scenario) = 7
number (TitleLine Examples) = 8
number Step = 9
number DocStringFence = 10

abbrev kinds : List Kind
kinds =
    Blank ∷ Comment ∷ TagLine ∷ Row ∷ TitleLine Feature ∷ TitleLine Rule ∷ TitleLine Background ∷ TitleLine Scenario
    ∷ TitleLine Examples ∷ Step ∷ DocStringFence ∷ []

abbrev kind_at : List Kind → ℕ → Kind
kind_at [] n = Blank
kind_at (k ∷ ks) n = cond (number k == n) k (kind_at ks n)

kind_at-number : (k : Kind) → kind_at kinds (number k) ≡ k
kind_at-number Blank = refl
kind_at-number Comment = refl
kind_at-number TagLine = refl
kind_at-number Row = refl
kind_at-number (TitleLine Feature) = refl
kind_at-number (TitleLine Rule) = refl
kind_at-number (TitleLine Background) = refl
kind_at-number (TitleLine Scenario) = refl
kind_at-number (TitleLine Examples) = refl
kind_at-number Step = refl
kind_at-number DocStringFence = refl

and_left : (a b : Bool) → (a && b) ≡ true → a ≡ true
and_left a b h = (and_true a b h).0

and_right : (a b : Bool) → (a && b) ≡ true → b ≡ true
and_right a b h = (and_true a b h).1

all-each : {X : Type 0} (P : X → Bool) (xs : List X) → list_all P xs ≡ true → AllByRecursion (λ x. P x ≡ true) xs
all-each P [] h = tt
all-each P (x ∷ xs) h = (and_left _ _ h, all-each P xs (and_right _ _ h))

-- what holds of each in the list of all kinds holds of each kind
each_kind : (P : Kind → Bool) → AllByRecursion (λ k. P k ≡ true) kinds → (k : Kind) → P k ≡ true
each_kind P h Blank = h.0
each_kind P h Comment = h.1.0
each_kind P h TagLine = h.1.1.0
each_kind P h Row = h.1.1.1.0
each_kind P h (TitleLine Feature) = h.1.1.1.1.0
each_kind P h (TitleLine Rule) = h.1.1.1.1.1.0
each_kind P h (TitleLine Background) = h.1.1.1.1.1.1.0
each_kind P h (TitleLine Scenario) = h.1.1.1.1.1.1.1.0
each_kind P h (TitleLine Examples) = h.1.1.1.1.1.1.1.1.0
each_kind P h Step = h.1.1.1.1.1.1.1.1.1.0
each_kind P h DocStringFence = h.1.1.1.1.1.1.1.1.1.1.0

abbrev apart : Kind → Kind → Bool
apart k l = number k == number l || differ (fronts k) (fronts l)

all_apart : list_all (λ k. list_all (apart k) kinds) kinds ≡ true
all_apart = refl

kinds_apart : (k l : Kind) → apart k l ≡ true
kinds_apart k l = each_kind (apart k) (all-each (apart k) kinds (each_kind (λ k. list_all (apart k) kinds) (all-each (λ k. list_all (apart k) kinds) kinds all_apart) k)) l

after-agree : (p q text : List ℕ) → is_some (after p text) ≡ true → is_some (after q text) ≡ true → agree p q ≡ true
unfolding after
after-agree [] q text h k = refl
after-agree (x ∷ p) [] text h k = refl
after-agree (x ∷ p) (y ∷ q) [] h k = absurd (false≢true h)
after-agree (x ∷ p) (y ∷ q) (c ∷ cs) h k =
    let left = some_if (c == x) (after p cs) h in
    let right = some_if (c == y) (after q cs) k in
    rw (sym (eqb-true c x left.0), eqb-true c y right.0) (ap (λ b. b && agree p q) (same y) ∙ after-agree p q cs left.1 right.1) where
      some_if : (b : Bool) (o : Option (List ℕ)) → is_some (if b then o else None) ≡ true → (b ≡ true) × (is_some o ≡ true)
      some_if true o h = (refl, h)
      some_if false o h = absurd (false≢true h)

      same : (y : ℕ) → (y == y) ≡ true
      same y = eq-eqb y y refl

begins-one : (p : List ℕ) (qs : List (List ℕ)) (text : List ℕ) → list_all (λ q. not (agree p q)) qs ≡ true → is_some (after p text) ≡ true → begins qs text ≡ true → ⊥
begins-one p [] text d h k = false≢true k
begins-one p (q ∷ qs) text d h k =
    test_cases (is_some (after q text))
    (λ e. false≢true (ap not (sym (after-agree p q text h e)) ∙ and_left _ _ d))
    (λ e. begins-one p qs text (and_right _ _ d) h (ap (λ b. b || begins qs text) (sym e) ∙ k))

begins-both : (ps qs : List (List ℕ)) (text : List ℕ) → differ ps qs ≡ true → begins ps text ≡ true → begins qs text ≡ true → ⊥
begins-both [] qs text d h k = false≢true h
begins-both (p ∷ ps) qs text d h k =
    test_cases (is_some (after p text))
    (λ e. begins-one p qs text (and_left _ _ d) e k)
    (λ e. begins-both ps qs text (and_right _ _ d) (ap (λ b. b || begins ps text) (sym e) ∙ h) k)

-- a token is there where one of its fronts is
first_some-begins : {A B : Type 0} (key : A → List ℕ) (g : A → List ℕ → B) (text : List ℕ) (xs : List A) → is_some (first_some (λ x. option_map (g x) (after (key x) text)) xs) ≡ begins (map key xs) text
unfolding first_some
first_some-begins key g text [] = refl
first_some-begins {A} {B} key g text (x ∷ xs) = by_option (after (key x) text) (first_some-begins key g text xs) where
  by_option : (o : Option (List ℕ)) → is_some (first_some (λ x. option_map (g x) (after (key x) text)) xs) ≡ begins (map key xs) text → is_some (or_else (option_map (g x) o) (first_some (λ x. option_map (g x) (after (key x) text)) xs)) ≡ (is_some o || begins (map key xs) text)
  by_option None e = e
  by_option (Some rest) e = refl

one_front : (p text : List ℕ) → is_some (after p text) ≡ begins (p ∷ []) text
one_front p text = by_test (is_some (after p text)) where
  by_test : (b : Bool) → b ≡ (b || false)
  by_test true = refl
  by_test false = refl

-- a blank line has no body
blank_body : (line : List ℕ) → list_all is_whitespace line ≡ true → skip_leading_whitespace line ≡ []
blank_body [] h = refl
blank_body (c ∷ cs) h = ap (λ b. cond b (skip_leading_whitespace cs) (c ∷ cs)) (and_left _ _ h) ∙ blank_body cs (and_right _ _ h)

-- a line of a kind that isn't blank begins with a front of that kind
kind_begins : (k : Kind) (line : List ℕ) → is_of_kind k line ≡ true → (k ≡ Blank) ⊎ (begins (fronts k) (text_after_indent line) ≡ true)
unfolding begins_by title_of step_of fence_of
kind_begins Blank line h = inl refl
kind_begins Comment line h = inr (sym (one_front (codes "#") (text_after_indent line)) ∙ h)
kind_begins TagLine line h = inr (sym (one_front (codes "@") (text_after_indent line)) ∙ h)
kind_begins Row line h = inr (sym (one_front (codes "|") (text_after_indent line)) ∙ h)
kind_begins (TitleLine block) line h = inr (sym (first_some-begins (λ k. k ++ codes ":") _ (text_after_indent line) (title_keywords block)) ∙ h)
kind_begins Step line h = inr (sym (first_some-begins (λ w. w.0 ++ codes " ") _ (text_after_indent line) step_words) ∙ h)
kind_begins DocStringFence line h = inr (sym (first_some-begins (λ w. w.0) _ (text_after_indent line) fences) ∙ h)

-- no front is in an empty text
nothing_begins : (k : Kind) → begins (fronts k) [] ≡ false
unfolding after
nothing_begins Blank = refl
nothing_begins Comment = refl
nothing_begins TagLine = refl
nothing_begins Row = refl
nothing_begins (TitleLine Feature) = refl
nothing_begins (TitleLine Rule) = refl
nothing_begins (TitleLine Background) = refl
nothing_begins (TitleLine Scenario) = refl
nothing_begins (TitleLine Examples) = refl
nothing_begins Step = refl
nothing_begins DocStringFence = refl

blank_alone : (k : Kind) (line : List ℕ) → is_of_kind Blank line ≡ true → is_of_kind k line ≡ true → k ≡ Blank
unfolding is_blank_line text_after_indent
blank_alone k line b h =
    ⊎_elim (λ e. e) (λ is. absurd (false≢true (sym (nothing_begins k) ∙ ap (begins (fronts k)) (sym (blank_body line b)) ∙ is))) (kind_begins k line h)

pub kinds_exclude : KindsExclude
kinds_exclude line k l h m =
    ⊎_elim (λ e. e ∙ sym (blank_alone l line (subst (λ k. is_of_kind k line ≡ true) e h) m))
    (λ left. ⊎_elim (λ e. blank_alone k line (subst (λ l. is_of_kind l line ≡ true) e m) h ∙ sym e)
    (λ right. test_cases (number k == number l)
    (λ same. sym (kind_at-number k) ∙ ap (kind_at kinds) (eqb-true (number k) (number l) same) ∙ kind_at-number l)
    (λ other. absurd (begins-both (fronts k) (fronts l) (text_after_indent line) (ap (λ b. b || differ (fronts k) (fronts l)) (sym other) ∙ kinds_apart k l) left right)))
    (kind_begins l line m))
    (kind_begins k line h)

some_front : {A B : Type 0} (g : A → Option B) (o : Option A) → is_some (option_and_then g o) ≡ true → is_some o ≡ true
some_front g None h = h
some_front g (Some a) h = refl

pub language_is_comment : LanguageIsComment
unfolding language_of begins_by
language_is_comment line h = some_front _ _ (some_front _ _ (some_front _ _ h))
