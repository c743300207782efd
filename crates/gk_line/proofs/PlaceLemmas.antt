-- Where the texts of titles, steps, fences and language lines are.
use Rattle.std.proofs.Common.{◌≡◌, ℕ, ◌+◌, true, cond, List, [], ◌∷◌, ◌++◌, length, Option, Some, None, sym, refl, ap, ◌∙◌, subst, arith, length-append, codes}
use Rattle.std.specs.Prelude.{◌&&◌, ◌==◌}
use Rattle.std.specs.Char.{is_whitespace}
use Rattle.std.specs.List.{list_all, prefix_len}
use Rattle.std.specs.Option.{option_map}
use Rattle.std.specs.Str.{skip_leading_whitespace, drop_trailing_whitespace}
use Rattle.std.proofs.lemmas.List.{append_assoc}
use Rattle.gk_line.specs.Texts.{after, text_after_indent, trimmed_text, first_some, or_else}
use Rattle.gk_line.specs.Tokens.{TitleText, StepText, title_of, step_of, title_keywords, step_words, indent_of}
use Rattle.gk_line.specs.Places.{IsAtColumn}
use Rattle.gk_line.specs.declared.tokens.Block.{Block}
use Rattle.gk_line.proofs.TextLemmas.{after-some}
use Rattle.gk_line.proofs.TagLemmas.{test_cases}

-- a text is the white space at its start and what follows
pub skip-split : (text : List ℕ) → (gap : List ℕ) × (text ≡ gap ++ skip_leading_whitespace text) × (list_all is_whitespace gap ≡ true) × (length gap ≡ prefix_len is_whitespace text)
skip-split [] = ([], refl, refl, refl)
skip-split (c ∷ cs) =
    test_cases (is_whitespace c)
    (λ e. let more = skip-split cs in
    let long : length (c ∷ more.0) ≡ 1 + prefix_len is_whitespace cs = omega (arith, more.3) in (
      c ∷ more.0,
      ap (λ q. c ∷ q) more.1 ∙ ap (λ b. (c ∷ more.0) ++ cond b (skip_leading_whitespace cs) (c ∷ cs)) (sym e),
      ap (λ b. b && list_all is_whitespace more.0) e ∙ more.2,
      long ∙ sym (ap (λ b. cond b (1 + prefix_len is_whitespace cs) 0) e),
    ))
    (λ e. (
      [],
      ap (λ b. cond b (skip_leading_whitespace cs) (c ∷ cs)) (sym e),
      refl,
      sym (ap (λ b. cond b (1 + prefix_len is_whitespace cs) 0) e),
    ))

drop-split : (text : List ℕ) → (back : List ℕ) × (text ≡ drop_trailing_whitespace text ++ back)
drop-split [] = ([], refl)
drop-split (c ∷ cs) =
    test_cases (is_whitespace c && length (drop_trailing_whitespace cs) == 0)
    (λ e. (c ∷ cs, ap (λ b. cond b [] (c ∷ drop_trailing_whitespace cs) ++ (c ∷ cs)) (sym e)))
    (λ e. let more = drop-split cs in
    (more.0, ap (λ q. c ∷ q) more.1 ∙ ap (λ b. cond b [] (c ∷ drop_trailing_whitespace cs) ++ more.0) (sym e)))

-- a text is white space, what is left of it without that at its ends, and more
pub trimmed-split : (text : List ℕ) → (gap : List ℕ) × (back : List ℕ) × (text ≡ gap ++ (trimmed_text text ++ back)) × (list_all is_whitespace gap ≡ true)
unfolding trimmed_text
trimmed-split text =
    let front = skip-split text in
    let end = drop-split (skip_leading_whitespace text) in
    (front.0, end.0, front.1 ∙ ap (λ q. front.0 ++ q) end.1, front.2)

-- the mark that a line begins with, and the text after it
pub placed-body : (line mark rest : List ℕ) → after mark (text_after_indent line) ≡ Some rest → IsAtColumn line mark (trimmed_text rest) (indent_of line + 1)
unfolding text_after_indent indent_of
placed-body line mark rest e =
    let front = skip-split line in
    let text = trimmed-split rest in
    record {
      front = front.0;
      gap = text.0;
      back = text.1;
      parts = front.1 ∙ ap (λ q. front.0 ++ q) (after-some mark (skip_leading_whitespace line) rest e ∙ ap (λ q. mark ++ q) text.2);
      is_gap = text.3;
      is_column = omega (arith, front.3);
    }

-- the same of what was read
pub placed-read : (line body mark rest text : List ℕ) (column : ℕ) → body ≡ text_after_indent line → Some rest ≡ after mark body → text ≡ trimmed_text rest → column ≡ indent_of line + 1 → IsAtColumn line mark text column
placed-read line body mark rest text column is_body is_rest is_text is_column =
    rw (is_text, is_column) (placed-body line mark rest (ap (after mark) (sym is_body) ∙ sym is_rest))

-- after more text the columns are higher
placed-after : (line front part mark text : List ℕ) (column : ℕ) → line ≡ front ++ part → IsAtColumn part mark text column → IsAtColumn line mark text (length front + column)
placed-after line front part mark text column e s = record {
  front = front ++ s.front;
  gap = s.gap;
  back = s.back;
  parts = e ∙ ap (λ q. front ++ q) s.parts ∙ sym (append_assoc front s.front (mark ++ (s.gap ++ (text ++ s.back))));
  is_gap = s.is_gap;
  is_column = omega (arith, s.is_column, length-append front s.front);
}

-- what follows the mark that a text begins with, after its indent
after-split : (text body mark rest : List ℕ) → body ≡ text_after_indent text → Some rest ≡ after mark body → (front : List ℕ) × (text ≡ front ++ rest)
unfolding text_after_indent
after-split text body mark rest is e =
    let front = skip-split text in
    (front.0 ++ mark, front.1 ∙ ap (λ q. front.0 ++ q) (sym is ∙ after-some mark body rest (sym e)) ∙ sym (append_assoc front.0 mark rest))

-- the word of a language line, after its colon
pub language-placed : (line line_body mark mark_body name name_body rest word : List ℕ) → line_body ≡ text_after_indent line → Some mark ≡ after (codes "#") line_body → mark_body ≡ text_after_indent mark → Some name ≡ after (codes "language") mark_body → name_body ≡ text_after_indent name → Some rest ≡ after (codes ":") name_body → word ≡ trimmed_text rest → (column : ℕ) × IsAtColumn line (codes ":") word column
language-placed line line_body mark mark_body name name_body rest word is_line is_mark is_mark_body is_name is_name_body is_rest is_word =
    let first = after-split line line_body (codes "#") mark is_line is_mark in
    let second = after-split mark mark_body (codes "language") name is_mark_body is_name in
    let whole : line ≡ (first.0 ++ second.0) ++ name = first.1 ∙ ap (λ q. first.0 ++ q) second.1 ∙ sym (append_assoc first.0 second.0 name) in
    (length (first.0 ++ second.0) + (indent_of name + 1), placed-after line (first.0 ++ second.0) name (codes ":") word _ whole (placed-read name name_body (codes ":") rest word _ is_name_body is_rest is_word refl))

none-some : {T : Type 0} {x : T} → None ≡ Some x → ⊥
none-some e = cc

some-same : {T : Type 0} {x y : T} → Some x ≡ Some y → x ≡ y
some-same e = cc

-- what the first element gives that gives anything
pub first_some-found : {A B : Type 0} (P : B → Type 0) (f : A → Option B) (xs : List A) → ((x : A) (y : B) → f x ≡ Some y → P y) → (y : B) → first_some f xs ≡ Some y → P y
unfolding first_some
first_some-found P f [] h y e = absurd (none-some e)
first_some-found {A} {B} P f (x ∷ xs) h y e = by_first (f x) refl e (first_some-found P f xs h y) where
  by_first : (o : Option B) → f x ≡ o → or_else o (first_some f xs) ≡ Some y → (first_some f xs ≡ Some y → P y) → P y
  by_first None is e later = later e
  by_first (Some z) is e later = h x y (is ∙ e)

pub option_map-found : {A B : Type 0} (P : B → Type 0) (g : A → B) (o : Option A) → ((a : A) → o ≡ Some a → P (g a)) → (y : B) → option_map g o ≡ Some y → P y
option_map-found P g None h y e = absurd (none-some e)
option_map-found P g (Some a) h y e = subst P (some-same e) (h a refl)

pub title-placed : (block : Block) (line : List ℕ) (t : TitleText) → title_of block line ≡ Some t → IsAtColumn line (t.keyword ++ codes ":") t.name t.column
unfolding title_of
title-placed block line t e =
    first_some-found (λ (t : TitleText). IsAtColumn line (t.keyword ++ codes ":") t.name t.column) _ (title_keywords block)
    (λ k y h. option_map-found (λ (t : TitleText). IsAtColumn line (t.keyword ++ codes ":") t.name t.column) _ (after (k ++ codes ":") (text_after_indent line)) (λ rest is. placed-body line (k ++ codes ":") rest is) y h)
    t e

pub step-placed : (line : List ℕ) (s : StepText) → step_of line ≡ Some s → IsAtColumn line s.keyword s.text s.column
unfolding step_of
step-placed line s e =
    first_some-found (λ (s : StepText). IsAtColumn line s.keyword s.text s.column) _ step_words
    (λ w y h. option_map-found (λ (s : StepText). IsAtColumn line s.keyword s.text s.column) _ (after (w.0 ++ codes " ") (text_after_indent line)) (λ rest is. placed-body line (w.0 ++ codes " ") rest is) y h)
    s e
