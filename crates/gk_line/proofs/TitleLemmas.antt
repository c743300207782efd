-- A title and a step, read by a cut at the character that ends the keyword.
use Rattle.std.proofs.Common.{◌≡◌, ℕ, ◌+◌, Bool, true, false, cond, List, [], ◌∷◌, ◌++◌, Option, Some, None, sym, refl, ap, ◌∙◌, codes}
use Rattle.std.specs.Prelude.{◌==◌, nat_eq, if◌then◌else◌, find, is_some, slice_index}
use Rattle.std.specs.Char.{is_ascii}
use Rattle.std.specs.List.{list_all, list_any, AllByRecursion}
use Rattle.std.specs.Option.{option_map}
use Rattle.std.specs.Str.{chars, bytes_eq, NonePass, IsUtf8}
use Rattle.gk_line.specs.Texts.{text_after_indent, trimmed_text, first_some, or_else, IsCutAt}
use Rattle.gk_line.specs.Tokens.{TitleText, StepText, fence_of, title_of, block_title_of, blocks, step_of, title_keywords, step_words, indent_of}
use Rattle.gk_line.specs.declared.tokens.Block.{Block}
use Rattle.gk_line.specs.declared.tokens.Block.TheVariants.{Feature, Rule, Background, Scenario, Examples}
use Rattle.gk_document.specs.declared.tree.KeywordType.{KeywordType}
use Rattle.std.proofs.Common.{subst}
use Rattle.std.proofs.lemmas.Slice.Eq.{bytes_eq-Decides}
use Rattle.std.proofs.Common.{length, ◌<◌, get_or, length-append, append_assoc, take, arith}
use Rattle.std.proofs.Math.Seq.{take-append_seam}
use native.Mathlib.Nat.{sub-zero}
use Rattle.std.specs.Prelude.{slice_range}
use Rattle.std.specs.Str.{IsCharBoundary}
use Rattle.std.proofs.lemmas.Grind.{common_steps}
use Rattle.std.proofs.lemmas.Str.{chars-IsAscii, IsAscii-append, IsCharBoundary-after_ascii}
use Rattle.gk_line.proofs.TextLemmas.{find-chars, list_any-chars, and_true, ascii_bytes}
use Rattle.gk_line.proofs.KeywordLemmas.{lacks, after_letter, begins_in, keyed_letter, keyed_none, keyed_cut, find_same}
use Rattle.gk_line.proofs.PlaceLemmas.{first_some-found, option_map-found}
use Rattle.gk_line.specs.Kinds.Kind.{TitleLine}
use Rattle.gk_line.proofs.KindLemmas.{kinds_exclude}
use Rattle.gk_line.specs.Characters.{colon, plain_space, quotation_mark, backtick}

keywords_plain : (block : Block) → list_all (λ k. lacks colon k) (title_keywords block) ≡ true
keywords_plain Feature = refl
keywords_plain Rule = refl
keywords_plain Background = refl
keywords_plain Scenario = refl
keywords_plain Examples = refl

keywords_ascii : (block : Block) → list_all (λ k. list_all is_ascii k) (title_keywords block) ≡ true
keywords_ascii Feature = refl
keywords_ascii Rule = refl
keywords_ascii Background = refl
keywords_ascii Scenario = refl
keywords_ascii Examples = refl

abbrev pub title_at : List ℕ → List ℕ → List ℕ → TitleText
title_at line keyword rest = record { keyword = keyword; name = trimmed_text rest; column = indent_of line + 1 }

pub title-none : (block : Block) (line : List ℕ) → NonePass (λ d. d == colon) (text_after_indent line) → title_of block line ≡ None
unfolding title_of
title-none block line h = keyed_none colon (λ k. k) (title_at line) (text_after_indent line) (title_keywords block) h

pub title-cut : (block : Block) (line w rest : List ℕ) → IsUtf8 w → IsCutAt colon (text_after_indent line) (chars w) rest → title_of block line ≡ (if list_any (bytes_eq w) (title_keywords block) then Some (title_at line (chars w) rest) else None)
unfolding title_of
title-cut block line w rest u cut =
    rw (cut.parts, list_any-chars (title_keywords block) w u (keywords_ascii block))
    (keyed_cut colon (λ k. k) (title_at line) (chars w) rest (title_keywords block) (keywords_plain block) cut.first ∙ find_same (λ k. title_at line k rest) (chars w) (title_keywords block))

title_letters : (block : Block) → list_all (begins_in (codes "ABEFRS")) (title_keywords block) ≡ true
title_letters Feature = refl
title_letters Rule = refl
title_letters Background = refl
title_letters Scenario = refl
title_letters Examples = refl

-- a line whose body begins with no letter of a block's keyword
pub title-letter : (block : Block) (line body : List ℕ) → IsUtf8 body → chars body ≡ text_after_indent line → list_any (nat_eq (slice_index body 0)) (codes "ABEFRS") ≡ false → title_of block line ≡ None
unfolding title_of
title-letter block line body u is h =
    rw (sym is) (keyed_letter colon (λ k. k) (title_at line) (codes "ABEFRS") body (title_keywords block) u h (title_letters block))

-- the line is the title of no block
pub block_title-none : (line : List ℕ) → ((block : Block) → title_of block line ≡ None) → block_title_of line ≡ None
unfolding first_some
block_title-none line h = rw (h Feature, h Rule, h Background, h Scenario, h Examples) refl

abbrev titled : Block → TitleText → Block × TitleText
titled block title = (block, title)

-- a line with a colon is the title of the block that the word before it is a keyword of
pub block_title-cut : (line w rest : List ℕ) → IsUtf8 w → IsCutAt colon (text_after_indent line) (chars w) rest → block_title_of line ≡ option_map (λ block. titled block (title_at line (chars w) rest)) (find (λ block. list_any (bytes_eq w) (title_keywords block)) blocks)
unfolding first_some
block_title-cut line w rest u cut = of_blocks blocks where
  by_test : (t : Bool) (b : Block) (o : Option (Block × TitleText)) (found : Option Block) → o ≡ option_map (λ block. titled block (title_at line (chars w) rest)) found → or_else (option_map (titled b) (if t then Some (title_at line (chars w) rest) else None)) o ≡ option_map (λ block. titled block (title_at line (chars w) rest)) (cond t (Some b) found)
  by_test true b o found e = refl
  by_test false b o found e = e

  of_blocks : (bs : List Block) → first_some (λ block. option_map (titled block) (title_of block line)) bs ≡ option_map (λ block. titled block (title_at line (chars w) rest)) (find (λ block. list_any (bytes_eq w) (title_keywords block)) bs)
  of_blocks [] = refl
  of_blocks (b ∷ bs) = rw (title-cut b line w rest u cut) (by_test (list_any (bytes_eq w) (title_keywords b)) b _ _ (of_blocks bs))

abbrev pub step_at : List ℕ → (List ℕ × KeywordType) → List ℕ → StepText
step_at line entry rest = record { keyword = entry.0 ++ codes " "; kind = entry.1; text = trimmed_text rest; column = indent_of line + 1 }

pub step-none : (line : List ℕ) → NonePass (λ d. d == plain_space) (text_after_indent line) → step_of line ≡ None
unfolding step_of
step-none line h = keyed_none plain_space (λ entry. entry.0) (step_at line) (text_after_indent line) step_words h

-- a line whose body begins with no letter of a step's keyword
pub step-letter : (line body : List ℕ) → IsUtf8 body → chars body ≡ text_after_indent line → list_any (nat_eq (slice_index body 0)) (codes "*ABGTW") ≡ false → step_of line ≡ None
unfolding step_of
step-letter line body u is h =
    rw (sym is) (keyed_letter plain_space (λ entry. entry.0) (step_at line) (codes "*ABGTW") body step_words u h refl)

pub step-cut : (line w rest : List ℕ) → IsUtf8 w → IsCutAt plain_space (text_after_indent line) (chars w) rest → step_of line ≡ option_map (λ entry. step_at line entry rest) (find (λ entry. bytes_eq w entry.0) step_words)
unfolding step_of
step-cut line w rest u cut =
    rw (cut.parts, find-chars (λ entry. entry.0) step_words w u refl)
    (keyed_cut plain_space (λ entry. entry.0) (step_at line) (chars w) rest step_words refl cut.first)

pair_same : {A B : Type 0} {a c : A} {b d : B} → c ≡ a → b ≡ d → ◌≡◌ {A = A × B} (a, b) (c, d)
pair_same e f = cc

found_entry : {T : Type 0} (w : List ℕ) (kind : T) (xs : List (List ℕ × T)) → option_map (λ (e : List ℕ × T). e.1) (find (λ e. bytes_eq w e.0) xs) ≡ Some kind → find (λ e. bytes_eq w e.0) xs ≡ Some (w, kind)
found_entry w kind [] h = cc
found_entry {T} w kind (x ∷ xs) h = by_test (bytes_eq w x.0) (bytes_eq-Decides w x.0).0 _ (found_entry w kind xs) h where
  by_test : (b : Bool) → (b ≡ true → w ≡ x.0) → (more : Option (List ℕ × T)) → (option_map (λ (e : List ℕ × T). e.1) more ≡ Some kind → more ≡ Some (w, kind)) → option_map (λ (e : List ℕ × T). e.1) (cond b (Some x) more) ≡ Some kind → cond b (Some x) more ≡ Some (w, kind)
  by_test true same more next e = let is : x.1 ≡ kind = cc in ap (λ p. Some p) (pair_same (same refl) is)
  by_test false same more next e = next e

missed_entry : {T : Type 0} (w : List ℕ) (xs : List (List ℕ × T)) → option_map (λ (e : List ℕ × T). e.1) (find (λ e. bytes_eq w e.0) xs) ≡ None → find (λ e. bytes_eq w e.0) xs ≡ None
missed_entry w xs h = by_option (find (λ e. bytes_eq w e.0) xs) h where
  by_option : {T : Type 0} (o : Option (List ℕ × T)) → option_map (λ (e : List ℕ × T). e.1) o ≡ None → o ≡ None
  by_option None e = refl
  by_option (Some x) e = absurd (cc)

pub step-found : (line w rest : List ℕ) (kind : KeywordType) → IsUtf8 w → IsCutAt plain_space (text_after_indent line) (chars w) rest → Some kind ≡ option_map (λ (e : List ℕ × KeywordType). e.1) (find (λ e. bytes_eq w e.0) step_words) → step_of line ≡ Some (step_at line (w, kind) rest)
step-found line w rest kind u cut h =
    step-cut line w rest u cut ∙ ap (option_map (λ entry. step_at line entry rest)) (found_entry w kind step_words (sym h))

pub step-missed : (line w rest : List ℕ) → IsUtf8 w → IsCutAt plain_space (text_after_indent line) (chars w) rest → None ≡ option_map (λ (e : List ℕ × KeywordType). e.1) (find (λ e. bytes_eq w e.0) step_words) → step_of line ≡ None
step-missed line w rest u cut h =
    step-cut line w rest u cut ∙ ap (option_map (λ entry. step_at line entry rest)) (missed_entry w step_words (sym h))

-- the word that was found is written in ASCII
found_ascii : {T : Type 0} (w : List ℕ) (kind : T) (xs : List (List ℕ × T)) → list_all (λ (e : List ℕ × T). list_all is_ascii e.0) xs ≡ true → find (λ e. bytes_eq w e.0) xs ≡ Some (w, kind) → list_all is_ascii w ≡ true
found_ascii w kind [] a h = absurd (cc)
found_ascii {T} w kind (x ∷ xs) a h =
    by_test (bytes_eq w x.0) (bytes_eq-Decides w x.0).0 _ (and_true _ _ a).0 (found_ascii w kind xs (and_true _ _ a).1) h where
      by_test : (b : Bool) → (b ≡ true → w ≡ x.0) → (more : Option (List ℕ × T)) → list_all is_ascii x.0 ≡ true → (more ≡ Some (w, kind) → list_all is_ascii w ≡ true) → cond b (Some x) more ≡ Some (w, kind) → list_all is_ascii w ≡ true
      by_test true same more ascii next e = subst (λ k. list_all is_ascii k ≡ true) (sym (same refl)) ascii
      by_test false same more ascii next e = next e

-- the first n elements, where n counts those before b and b itself
pub take_with : (w : List ℕ) (b : ℕ) (text : List ℕ) → take (length w + 1) (w ++ b ∷ text) ≡ w ++ b ∷ []
take_with w b text =
    let long : length w + 1 ≡ length (w ++ b ∷ []) = sym (length-append w (b ∷ [])) in
    let whole : w ++ b ∷ text ≡ (w ++ b ∷ []) ++ text = sym (append_assoc w (b ∷ []) text) in
    rw long (rw whole (take-append_seam (w ++ b ∷ []) text))

-- the front of a line up to the space after its keyword
pub step_keyword : (body w text front : List ℕ) (kind : KeywordType) → Some kind ≡ option_map (λ (e : List ℕ × KeywordType). e.1) (find (λ e. bytes_eq w e.0) step_words) → body ≡ w ++ plain_space ∷ text → front ≡ slice_range body 0 (length w + 1) → chars front ≡ w ++ plain_space ∷ []
step_keyword body w text front kind h parts is =
    let ascii = ascii_bytes w (found_ascii w kind step_words refl (found_entry w kind step_words (sym h))) in
    let cut : front ≡ w ++ plain_space ∷ [] = is ∙ rw parts (rw sub-zero (take_with w plain_space text)) in
    rw cut (chars-IsAscii (w ++ plain_space ∷ []) (IsAscii-append w (plain_space ∷ []) ascii (ascii_bytes (plain_space ∷ []) refl)))

-- a text may be cut after the first space
pub cut_after_space : (body w text : List ℕ) → IsUtf8 body → body ≡ w ++ plain_space ∷ text → IsCharBoundary body (length w + 1)
cut_after_space body w text u parts =
    let inside : length w < length body = omega (arith, ap length parts, length-append w (plain_space ∷ text)) in
    let space : get_or body (length w) 0 ≡ plain_space = rw parts (grind (arith, common_steps)) in
    IsCharBoundary-after_ascii body (length w) u inside (omega (arith, space))

-- the line is the title of that block
pub block_title-is : (line : List ℕ) (found : Block × TitleText) → block_title_of line ≡ Some found → title_of found.0 line ≡ Some found.1
block_title-is line found e =
    first_some-found (λ (found : Block × TitleText). title_of found.0 line ≡ Some found.1) (λ b. option_map (titled b) (title_of b line)) blocks
    (λ b y h. option_map-found (λ (found : Block × TitleText). title_of found.0 line ≡ Some found.1) (titled b) (title_of b line) (λ t is. is) y h)
    found e

first_some-none : {A B : Type 0} (f : A → Option B) (xs : List A) → first_some f xs ≡ None → AllByRecursion (λ x. f x ≡ None) xs
unfolding first_some
first_some-none f [] e = tt
first_some-none {A} {B} f (x ∷ xs) e = by_first (f x) refl e (first_some-none f xs) where
  by_first : (o : Option B) → f x ≡ o → or_else o (first_some f xs) ≡ None → (first_some f xs ≡ None → AllByRecursion (λ x. f x ≡ None) xs) → AllByRecursion (λ x. f x ≡ None) (x ∷ xs)
  by_first None is h later = (is, later h)
  by_first (Some y) is h later = absurd (cc)

option_map-none : {A B : Type 0} (g : A → B) (o : Option A) → option_map g o ≡ None → o ≡ None
option_map-none g None e = refl
option_map-none g (Some a) e = absurd (cc)

-- a line that is the title of no block is none of each
pub block_title-misses : (line : List ℕ) → block_title_of line ≡ None → (block : Block) → title_of block line ≡ None
block_title-misses line e block = option_map-none (titled block) (title_of block line) (at block (first_some-none (λ b. option_map (titled b) (title_of b line)) blocks e)) where
  at : (b : Block) → AllByRecursion (λ b. option_map (titled b) (title_of b line) ≡ None) blocks → option_map (titled b) (title_of b line) ≡ None
  at Feature h = h.0
  at Rule h = h.1.0
  at Background h = h.1.1.0
  at Scenario h = h.1.1.1.0
  at Examples h = h.1.1.1.1.0

-- a line that is the title of one block is that of no other
pub block_title-other : (line : List ℕ) (found : Block × TitleText) (block : Block) → block_title_of line ≡ Some found → (found.0 ≡ block → ⊥) → title_of block line ≡ None
block_title-other line found block e other = by_option (title_of block line) refl where
  same_block : TitleLine found.0 ≡ TitleLine block → found.0 ≡ block
  same_block e = cc

  by_option : (o : Option TitleText) → title_of block line ≡ o → o ≡ None
  by_option None is = refl
  by_option (Some t) is = absurd (other (same_block (kinds_exclude line (TitleLine found.0) (TitleLine block) (ap is_some (block_title-is line found e)) (ap is_some is))))

-- a line whose body begins with no character of a fence
pub fence-letter : (line body : List ℕ) → IsUtf8 body → chars body ≡ text_after_indent line → list_any (nat_eq (slice_index body 0)) (quotation_mark ∷ backtick ∷ []) ≡ false → fence_of line ≡ None
unfolding fence_of first_some
fence-letter line body u is h =
    let marks : List ℕ = quotation_mark ∷ backtick ∷ [] in
    rw (sym is, after_letter marks (quotation_mark ∷ []) (quotation_mark ∷ quotation_mark ∷ []) body u h refl, after_letter marks (backtick ∷ []) (backtick ∷ backtick ∷ []) body u h refl) refl
