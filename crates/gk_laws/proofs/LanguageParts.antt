-- A language line and its parts.
use Rattle.std.proofs.Common.{◌≡◌, ℕ, Bool, true, false, List, [], ◌∷◌, ◌++◌, Option, Some, None, sym, refl, ap, ◌∙◌, subst, arith}
use Rattle.std.specs.Prelude.{codes, if◌then◌else◌}
use Rattle.std.specs.Char.{is_whitespace}
use Rattle.std.specs.List.{list_all}
use Rattle.std.specs.Option.{option_and_then}
use Rattle.std.specs.Str.{skip_leading_whitespace, drop_trailing_whitespace}
use Rattle.std.proofs.lemmas.Bool.{false≢true}
use Rattle.std.proofs.lemmas.Grind.{common_steps}
use Rattle.gk_line.specs.Texts.{after, text_after_indent, trimmed_text}
use Rattle.gk_line.specs.Tokens.{is_language_word, is_word_character, language_of}
use Rattle.gk_line.proofs.PlaceLemmas.{skip-split}
use Rattle.gk_line.proofs.TextLemmas.{and_true, after-some}
use Rattle.gk_laws.specs.LanguageLines.{IsLanguageLine, LanguageLinesHaveParts}
use Rattle.gk_laws.specs.Trimming.{IsSpace}
use Rattle.gk_laws.proofs.TextParts.{after_front, skip_gap, trimmed_ends}
use Rattle.gk_laws.proofs.Trims.{front_split, is_trimmed}

-- ---- a language line has its parts

and_then_some : {A B : Type 0} (g : A → Option B) (o : Option A) (y : B) → option_and_then g o ≡ Some y → (x : A) × (o ≡ Some x) × (g x ≡ Some y)
and_then_some g None y e = absurd (cc)
and_then_some g (Some x) y e = (x, refl, e)

the_word : (t word : List ℕ) → (if is_language_word t then Some t else None) ≡ Some word → (is_language_word word ≡ true) × (t ≡ word)
the_word t word h = by_test (is_language_word t) refl h where
  by_test : (b : Bool) → is_language_word t ≡ b → (if b then Some t else None) ≡ Some word → (is_language_word word ≡ true) × (t ≡ word)
  by_test true is e = let same : t ≡ word = cc in (subst (λ w. is_language_word w ≡ true) same is, same)
  by_test false is e = absurd (cc)

-- the text is white space, a text without any at its ends, and white space
trimmed_split : (text : List ℕ) → (gap : List ℕ) × (back : List ℕ) × (text ≡ gap ++ (trimmed_text text ++ back)) × IsSpace gap × IsSpace back
trimmed_split text =
    let t = is_trimmed is_whitespace text in
    let gap = (front_split is_whitespace text).0 in
    (gap, t.back, t.parts ∙ ap (λ q. gap ++ (q ++ t.back)) (sym (trimmed_ends text)), t.spaces.0, t.spaces.1)

-- white space and a mark come first in the text
mark_split : (text mark rest : List ℕ) → after mark (text_after_indent text) ≡ Some rest → (gap : List ℕ) × (text ≡ gap ++ (mark ++ rest)) × IsSpace gap
unfolding text_after_indent
mark_split text mark rest e =
    let front = skip-split text in
    (front.0, front.1 ∙ ap (λ q. front.0 ++ q) (after-some mark (skip_leading_whitespace text) rest e), front.2)

has_parts : (line word : List ℕ) → language_of line ≡ Some word → IsLanguageLine line word
unfolding language_of
has_parts line word h =
    let last = and_then_some _ _ word h in
    let third = and_then_some _ _ last.0 last.1 in
    let second = and_then_some _ _ third.0 third.1 in
    let first = mark_split line (codes "#") second.0 second.1 in
    let name = mark_split second.0 (codes "language") third.0 second.2 in
    let colon = mark_split third.0 (codes ":") last.0 third.2 in
    let end = trimmed_split last.0 in
    let is = the_word (trimmed_text last.0) word last.2 in
    record {
      indent = first.0;
      after_mark = name.0;
      after_name = colon.0;
      after_colon = end.0;
      after_word = end.1;
      whole = first.1
          ∙ ap (λ q. first.0 ++ (codes "#" ++ q))
          (name.1 ∙ ap (λ q. name.0 ++ (codes "language" ++ q))
          (colon.1 ∙ ap (λ q. colon.0 ++ (codes ":" ++ q))
          (end.2 ∙ ap (λ w. end.0 ++ (w ++ end.1)) is.1)));
      spaces = (first.2, name.2, colon.2, end.3, end.4);
      is_word = is.0;
    }

-- ---- a line with the parts is a language line

-- past white space and a mark, whose first character is none
past_mark : (gap : List ℕ) (c : ℕ) (mark rest : List ℕ) → IsSpace gap → is_whitespace c ≡ false → after (c ∷ mark) (text_after_indent (gap ++ ((c ∷ mark) ++ rest))) ≡ Some rest
unfolding text_after_indent
past_mark gap c mark rest h e = ap (after (c ∷ mark)) (skip_gap gap c (mark ++ rest) h e) ∙ after_front (c ∷ mark) rest

no_space : (c : ℕ) → is_word_character c ≡ true → is_whitespace c ≡ false
no_space c h = grind (arith, common_steps)

drop_space : (back : List ℕ) → IsSpace back → drop_trailing_whitespace back ≡ []
drop_space [] h = refl
drop_space (c ∷ back) h =
    let both = and_true (is_whitespace c) (list_all is_whitespace back) h in
    rw (drop_space back both.1, both.0) refl

drop_after_word : (word back : List ℕ) → list_all is_word_character word ≡ true → IsSpace back → drop_trailing_whitespace (word ++ back) ≡ word
drop_after_word [] back h e = drop_space back e
drop_after_word (c ∷ word) back h e =
    let both = and_true (is_word_character c) (list_all is_word_character word) h in
    rw (no_space c both.0) (ap (λ q. c ∷ q) (drop_after_word word back both.1 e))

trimmed_word : (gap word back : List ℕ) → IsSpace gap → IsSpace back → is_language_word word ≡ true → trimmed_text (gap ++ (word ++ back)) ≡ word
unfolding trimmed_text
trimmed_word gap [] back hg hb h = absurd (false≢true h)
trimmed_word gap (c ∷ word) back hg hb h =
    let word_all = (and_true _ _ h).1 in
    ap drop_trailing_whitespace (skip_gap gap c (word ++ back) hg (no_space c (and_true _ _ word_all).0)) ∙ drop_after_word (c ∷ word) back word_all hb

is_language : (line word : List ℕ) → IsLanguageLine line word → language_of line ≡ Some word
unfolding language_of
is_language line word l =
    let end = l.after_colon ++ (word ++ l.after_word) in
    let colon = l.after_name ++ (codes ":" ++ end) in
    let name = l.after_mark ++ (codes "language" ++ colon) in
    let to_word = λ (rest : List ℕ). if is_language_word (trimmed_text rest) then Some (trimmed_text rest) else None in
    let to_colon = λ (rest : List ℕ). after (codes ":") (text_after_indent rest) in
    let to_name = λ (rest : List ℕ). after (codes "language") (text_after_indent rest) in
    ap language_of l.whole
    ∙ ap (λ o. option_and_then to_word (option_and_then to_colon (option_and_then to_name o))) (past_mark l.indent 35 [] name l.spaces.0 refl)
    ∙ ap (λ o. option_and_then to_word (option_and_then to_colon o)) (past_mark l.after_mark 108 (codes "anguage") colon l.spaces.1 refl)
    ∙ ap (λ o. option_and_then to_word o) (past_mark l.after_name 58 [] end l.spaces.2 refl)
    ∙ ap (λ t. if is_language_word t then Some t else None) (trimmed_word l.after_colon word l.after_word l.spaces.3 l.spaces.4 l.is_word)
    ∙ ap (λ b. if b then Some word else None) l.is_word

pub language_lines_have_parts : LanguageLinesHaveParts
language_lines_have_parts line word = (has_parts line word, is_language line word)
