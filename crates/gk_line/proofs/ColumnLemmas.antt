-- The places of tags in their line, and the columns of tags and cells.
use Rattle.std.proofs.Common.{◌≡◌, ℕ, ◌+◌, ◌≤◌, ◌<◌, Bool, true, false, cond, List, [], ◌∷◌, ◌++◌, length, sym, refl, ap, ◌∙◌, subst, arith, length-append, codes}
use Rattle.std.specs.Prelude.{◌&&◌, ◌==◌, not, map, filter, is_some}
use Rattle.std.specs.Char.{is_whitespace}
use Rattle.std.specs.List.{slice_split, onto_first, prefix_len, AllByRecursion}
use Rattle.std.specs.Str.{chars}
use Rattle.std.proofs.lemmas.List.{append_assoc}
use Rattle.std.proofs.lemmas.List.Splits.{length-slice_split}
use Rattle.std.proofs.lemmas.Bool.{eqb-true, false≢true}
use Rattle.gk_line.specs.Characters.{at_sign, vertical_bar}
use Rattle.gk_line.specs.Texts.{after, trimmed_text}
use Rattle.gk_line.specs.Cells.{CellUnit, CellText, units, width, widths, is_bar, is_space, cells_from, cells_of, without_first}
use Rattle.gk_line.specs.Tags.{uncommented_line, pieces_from, tag_pieces, tags_of, is_tag}
use Rattle.gk_line.specs.Places.{IsAtColumn, RiseWithin}
use Rattle.gk_line.specs.Columns.{TagColumnsRise, CellColumnsRise}
use Rattle.gk_line.specs.Views.{tag_word}
use Rattle.gk_line.specs.declared.tags_and_comments.TagText.{TagText}
use Rattle.gk_line.proofs.TagLemmas.{test_cases}
use Rattle.gk_line.proofs.PlaceLemmas.{trimmed-split}
use Rattle.gk_line.proofs.UnitLemmas.{widths-units}

-- pieces, each after the character that it was cut at
abbrev pub joined : ℕ → List (List ℕ) → List ℕ
joined at [] = []
joined at (piece ∷ pieces) = at ∷ (piece ++ joined at pieces)

onto_first-cons : {X : Type 0} (p : X → Bool) (x : X) (xs : List X) (first : List X) (rest : List (List X)) → p x ≡ false → slice_split p xs ≡ first ∷ rest → slice_split p (x ∷ xs) ≡ (x ∷ first) ∷ rest
onto_first-cons p x xs first rest e h = rw (e, h) refl

split-joined : (at : ℕ) (xs : List ℕ) → (first : List ℕ) × (rest : List (List ℕ)) × (slice_split (λ c. c == at) xs ≡ first ∷ rest) × (xs ≡ first ++ joined at rest)
split-joined at [] = ([], [], refl, refl)
split-joined at (c ∷ cs) =
    let more = split-joined at cs in
    test_cases (c == at)
    (λ e. ([], more.0 ∷ more.1, rw (e, more.2) refl, ap (λ q. q ∷ cs) (eqb-true c at e) ∙ ap (λ q. at ∷ q) more.3))
    (λ e. (c ∷ more.0, more.1, onto_first-cons (λ d. d == at) c cs more.0 more.1 e more.2, ap (λ q. c ∷ q) more.3))

-- each piece comes after its `@`
pieces-placed : (line front back : List ℕ) (pieces : List (List ℕ)) → line ≡ front ++ (joined at_sign pieces ++ back) → AllByRecursion (λ tag. IsAtColumn line (codes "@") tag.word tag.column) (pieces_from (length front + 1) pieces)
pieces-placed line front back [] e = tt
pieces-placed line front back (piece ∷ pieces) e =
    let text = trimmed-split piece in
    let rest = joined at_sign pieces ++ back in
    let inner : (piece ++ joined at_sign pieces) ++ back ≡ text.0 ++ (trimmed_text piece ++ (text.1 ++ rest)) =
    append_assoc piece (joined at_sign pieces) back ∙ ap (λ q. q ++ rest) text.2 ∙ append_assoc text.0 (trimmed_text piece ++ text.1) rest ∙ ap (λ q. text.0 ++ q) (append_assoc (trimmed_text piece) text.1 rest) in
    let next : line ≡ (front ++ at_sign ∷ piece) ++ rest =
    e ∙ ap (λ q. front ++ at_sign ∷ q) (append_assoc piece (joined at_sign pieces) back) ∙ sym (append_assoc front (at_sign ∷ piece) rest) in
    let column : length (front ++ at_sign ∷ piece) + 1 ≡ length front + 1 + length piece + 1 = omega (arith, length-append front (at_sign ∷ piece)) in (
      record {
        front = front;
        gap = text.0;
        back = text.1 ++ rest;
        parts = e ∙ ap (λ q. front ++ at_sign ∷ q) inner;
        is_gap = text.3;
        is_column = refl;
      },
      subst (λ n. AllByRecursion (λ tag. IsAtColumn line (codes "@") tag.word tag.column) (pieces_from n pieces)) column (pieces-placed line (front ++ at_sign ∷ piece) back pieces next),
    )

uncommented-split : (line : List ℕ) → (back : List ℕ) × (line ≡ uncommented_line line ++ back)
unfolding uncommented_line
uncommented-split [] = ([], refl)
uncommented-split (c ∷ cs) =
    test_cases (is_whitespace c && is_some (after (codes "#") cs))
    (λ e. (c ∷ cs, ap (λ b. cond b [] (c ∷ uncommented_line cs) ++ (c ∷ cs)) (sym e)))
    (λ e. let more = uncommented-split cs in
    (more.0, ap (λ q. c ∷ q) more.1 ∙ ap (λ b. cond b [] (c ∷ uncommented_line cs) ++ more.0) (sym e)))

-- the pieces of a tag line, cut
tag_pieces-cut : (line : List ℕ) → (front : List ℕ) × (pieces : List (List ℕ)) × (back : List ℕ) × (tag_pieces line ≡ pieces_from (length front + 1) pieces) × (line ≡ front ++ (joined at_sign pieces ++ back))
unfolding tag_pieces
tag_pieces-cut line =
    let cut = split-joined at_sign (uncommented_line line) in
    let whole = uncommented-split line in (
      cut.0,
      cut.1,
      whole.0,
      ap (λ q. without_first (pieces_from 0 q)) cut.2 ∙ ap (λ n. pieces_from n cut.1) (omega arith),
      whole.1 ∙ ap (λ q. q ++ whole.0) cut.3 ∙ append_assoc cut.0 (joined at_sign cut.1) whole.0,
    )

filter-all : {X : Type 0} (P : X → Type 0) (test : X → Bool) (xs : List X) → AllByRecursion P xs → AllByRecursion P (filter test xs)
filter-all P test [] h = tt
filter-all P test (x ∷ xs) h =
    test_cases (test x)
    (λ e. subst (λ b. AllByRecursion P (cond b (x ∷ filter test xs) (filter test xs))) (sym e) (h.0, filter-all P test xs h.1))
    (λ e. subst (λ b. AllByRecursion P (cond b (x ∷ filter test xs) (filter test xs))) (sym e) (filter-all P test xs h.1))

pub tags-placed : (line : List ℕ) → AllByRecursion (λ tag. IsAtColumn line (codes "@") tag.word tag.column) (tags_of line)
unfolding tags_of
tags-placed line =
    let cut = tag_pieces-cut line in
    filter-all _ is_tag (tag_pieces line) (subst (AllByRecursion (λ tag. IsAtColumn line (codes "@") tag.word tag.column)) (sym cut.3) (pieces-placed line cut.0 cut.2 cut.1 cut.4))

-- the same of what the code returns
pub tags-place : (tags : List TagText) (line : List ℕ) → map tag_word tags ≡ tags_of line → AllByRecursion (λ tag. IsAtColumn line (codes "@") (chars tag.word.now) tag.column) tags
tags-place tags line e = each tags (subst (AllByRecursion (λ tag. IsAtColumn line (codes "@") tag.word tag.column)) (sym e) (tags-placed line)) where
  each : (tags : List TagText) → AllByRecursion (λ tag. IsAtColumn line (codes "@") tag.word tag.column) (map tag_word tags) → AllByRecursion (λ tag. IsAtColumn line (codes "@") (chars tag.word.now) tag.column) tags
  each [] h = tt
  each (tag ∷ tags) h = (h.0, each tags h.1)

-- ---- columns that rise

rise-from : (low less high : ℕ) (ns : List ℕ) → less ≤ low → RiseWithin low high ns → RiseWithin less high ns
rise-from low less high [] l h = tt
rise-from low less high (n ∷ ns) l h = (omega (arith, h.0), h.1, h.2)

pieces-rise : (low high column : ℕ) (pieces : List (List ℕ)) → low ≤ column → column + length (joined at_sign pieces) ≤ high + 1 → RiseWithin low high (map (λ tag. tag.column) (pieces_from column pieces))
pieces-rise low high column [] l h = tt
pieces-rise low high column (piece ∷ pieces) l h =
    let long = length-append piece (joined at_sign pieces) in
    (l, omega (arith, long), pieces-rise (column + 1) high (column + length piece + 1) pieces (omega arith) (omega (arith, long)))

filter-rise : {X : Type 0} (n : X → ℕ) (test : X → Bool) (low less high : ℕ) (xs : List X) → less ≤ low → RiseWithin low high (map n xs) → RiseWithin less high (map n (filter test xs))
filter-rise n test low less high [] l h = tt
filter-rise n test low less high (x ∷ xs) l h =
    test_cases (test x)
    (λ e. subst (λ b. RiseWithin less high (map n (cond b (x ∷ filter test xs) (filter test xs)))) (sym e) (omega (arith, h.0), h.1, filter-rise n test (n x + 1) (n x + 1) high xs (omega arith) h.2))
    (λ e. subst (λ b. RiseWithin less high (map n (cond b (x ∷ filter test xs) (filter test xs)))) (sym e) (filter-rise n test (n x + 1) less high xs (omega (arith, h.0)) h.2))

pub tag_columns_rise : TagColumnsRise
unfolding tags_of
tag_columns_rise line =
    let cut = tag_pieces-cut line in
    let long : length line ≡ length cut.0 + (length (joined at_sign cut.1) + length cut.2) =
    ap length cut.4 ∙ length-append cut.0 (joined at_sign cut.1 ++ cut.2) ∙ ap (λ n. length cut.0 + n) (length-append (joined at_sign cut.1) cut.2) in
    let pieces = pieces-rise 1 (length line) (length cut.0 + 1) cut.1 (omega arith) (omega (arith, long)) in
    filter-rise (λ tag. tag.column) is_tag 1 1 (length line) (tag_pieces line) (omega arith) (subst (λ q. RiseWithin 1 (length line) (map (λ tag. tag.column) q)) (sym cut.3) pieces)

-- how far the parts of a row reach, each with the bar after it
abbrev pub reach : List (List CellUnit) → ℕ
reach [] = 0
reach (part ∷ parts) = widths part + 1 + reach parts

space-width : (part : List CellUnit) → prefix_len is_space part ≤ widths part
space-width [] = omega arith
space-width (u ∷ us) = by_pair u.is_pair (is_space u) refl (space-width us) where
  by_pair : (p s : Bool) → u.is_pair ≡ p → prefix_len is_space us ≤ widths us → cond s (1 + prefix_len is_space us) 0 ≤ cond p 2 1 + widths us
  by_pair p true e l = by_width p l where
    by_width : (p : Bool) → prefix_len is_space us ≤ widths us → 1 + prefix_len is_space us ≤ cond p 2 1 + widths us
    by_width true l = omega arith
    by_width false l = omega arith
  by_pair p false e l = omega arith

cells-rise : (low high column : ℕ) (parts : List (List CellUnit)) → low ≤ column → column + reach parts ≤ high + 2 → RiseWithin low high (map (λ cell. cell.column) (cells_from column parts))
cells-rise low high column [] l h = tt
cells-rise low high column (part ∷ []) l h = tt
cells-rise low high column (part ∷ next ∷ more) l h =
    let within = space-width part in (
      omega arith,
      omega arith,
      rise-from (column + widths part + 1) (column + prefix_len is_space part + 1) high _ (omega arith) (cells-rise (column + widths part + 1) high (column + widths part + 1) (next ∷ more) (omega arith) (omega arith)),
    )

bar-width : (u : CellUnit) → is_bar u ≡ true → widths (u ∷ []) ≡ 1
bar-width u e = by_pair u.is_pair refl where
  by_pair : (p : Bool) → u.is_pair ≡ p → widths (u ∷ []) ≡ 1
  by_pair true is = absurd (false≢true (sym (ap (λ p. not p && u.meaning == vertical_bar) is) ∙ e))
  by_pair false is = ap (λ p. cond p 2 1 + 0) is

reach-split : (us : List CellUnit) → reach (slice_split is_bar us) ≡ widths us + 1
reach-split [] = refl
reach-split (u ∷ us) =
    test_cases (is_bar u)
    (λ e. ap (λ b. reach (cond b ([] ∷ slice_split is_bar us) (onto_first u (slice_split is_bar us)))) e ∙ omega (arith, reach-split us, bar-width u e))
    (λ e. ap (λ b. reach (cond b ([] ∷ slice_split is_bar us) (onto_first u (slice_split is_bar us)))) e ∙ onto (slice_split is_bar us) (omega (arith, length-slice_split is_bar us)) ∙ omega (arith, reach-split us)) where
      onto : (parts : List (List CellUnit)) → 0 < length parts → reach (onto_first u parts) ≡ width u + reach parts
      onto [] l = absurd (omega arith)
      onto (part ∷ parts) l = omega arith

without_first-rise : (low high : ℕ) (cells : List CellText) → RiseWithin low high (map (λ cell. cell.column) cells) → RiseWithin low high (map (λ cell. cell.column) (without_first cells))
without_first-rise low high [] h = tt
without_first-rise low high (cell ∷ cells) h = rise-from (cell.column + 1) low high _ (omega (arith, h.0)) h.2

pub cell_columns_rise : CellColumnsRise
unfolding cells_of
cell_columns_rise line =
    let long : 1 + reach (slice_split is_bar (units line)) ≡ length line + 2 = omega (arith, reach-split (units line), widths-units line) in
    without_first-rise 1 (length line) _ (cells-rise 1 (length line) 1 (slice_split is_bar (units line)) (omega arith) (omega (arith, long)))
