-- The pieces of a tag line.
use Rattle.std.proofs.Common.{◌≡◌, ℕ, ◌+◌, Bool, true, false, cond, List, [], ◌∷◌, ◌++◌, length, Option, Some, None, sym, refl, ap, ◌∙◌, subst, arith}
use Rattle.std.specs.Prelude.{◌==◌, ◌&&◌, not, map, filter, find, codes, is_some, if◌then◌else◌, Result, Ok, Err, IsErrAnd, IfErr}
use Rattle.std.specs.Char.{is_whitespace}
use Rattle.std.specs.List.{slice_split, prefix_len}
use Rattle.std.specs.Option.{option_map}
use Rattle.std.specs.Str.{chars, IsUtf8, NonePass, skip_leading_whitespace}
use Rattle.std.proofs.lemmas.Bool.{ne_eqb, eqb-true, false≢true}
use Rattle.std.proofs.lemmas.List.{append_assoc, append-nil}
use Rattle.gk_line.specs.Texts.{after, text_after_indent, trimmed_text, IsCutAt}
use Rattle.gk_line.specs.Tokens.{indent_of, begins_by}
use Rattle.gk_line.specs.Cells.{without_first}
use Rattle.gk_line.specs.Tags.{uncommented_line, TagWord, piece_at, pieces_from, tag_pieces, is_tag, has_space}
use Rattle.gk_line.specs.Views.{tag_word, IsTagFault}
use Rattle.gk_line.specs.declared.tags_and_comments.TagText.{TagText}
use Rattle.gk_line.specs.declared.tags_and_comments.TagFault.{TagFault}
use Rattle.gk_line.specs.declared.tags_and_comments.TagFault.TheVariants.{TagSpace, Memory}
use Rattle.gk_line.proofs.TextLemmas.{is_empty_chars, after-some}
use Rattle.gk_line.proofs.LineLemmas.{split_at, split_none}
use Rattle.gk_line.specs.Characters.{at_sign, number_sign}

words-append : (old : List TagText) (tag : TagText) → map tag_word (old ++ tag ∷ []) ≡ map tag_word old ++ tag_word tag ∷ []
words-append [] tag = refl
words-append (o ∷ old) tag = ap (λ q. tag_word o ∷ q) (words-append old tag)

pub pushed_tag : (old new : List TagText) (tag : TagText) (piece : TagWord) → is_tag piece ≡ true → tag_word tag ≡ piece → new ≡ old ++ tag ∷ [] → map tag_word new ≡ map tag_word old ++ filter is_tag (piece ∷ [])
pushed_tag old new tag piece is same grown =
    ap (map tag_word) grown ∙ words-append old tag ∙ ap (λ q. map tag_word old ++ q) (ap (λ q. q ∷ []) same ∙ sym (ap (λ b. cond b (piece ∷ []) []) is))

pub skipped_tag : (old : List TagText) (piece : TagWord) → is_tag piece ≡ false → map tag_word old ≡ map tag_word old ++ filter is_tag (piece ∷ [])
skipped_tag old piece is = sym (append-nil (map tag_word old)) ∙ ap (λ q. map tag_word old ++ q) (sym (ap (λ b. cond b (piece ∷ []) []) is))

pub is_tag-trim : (t piece : List ℕ) (column : ℕ) (b : Bool) → IsUtf8 t → chars t ≡ trimmed_text piece → b ≡ (length t == 0) → is_tag (piece_at column piece) ≡ not b
is_tag-trim t piece column b u same is = ap (λ q. not (length q == 0)) (sym same) ∙ ap not (is_empty_chars t u ∙ sym is)

pub test_cases : {A : Type 0} (b : Bool) → (b ≡ true → A) → (b ≡ false → A) → A
test_cases true t f = t refl
test_cases false t f = f refl

-- the pieces at the first `@`
pub pieces-cut : (column : ℕ) (text front rest : List ℕ) → IsCutAt at_sign text front rest → pieces_from column (slice_split (λ c. c == at_sign) text) ≡ piece_at column front ∷ pieces_from (column + length front + 1) (slice_split (λ c. c == at_sign) rest)
pieces-cut column text front rest cut =
    ap (λ q. pieces_from column (slice_split (λ c. c == at_sign) q)) cut.parts ∙ ap (pieces_from column) (split_at front rest at_sign cut.first)

pub pieces-none : (column : ℕ) (text : List ℕ) → NonePass (λ c. c == at_sign) text → pieces_from column (slice_split (λ c. c == at_sign) text) ≡ piece_at column text ∷ []
pieces-none column text h = ap (pieces_from column) (split_none text at_sign h)

-- an indent and what follows it
indent_split : (b : ℕ) (line rest : List ℕ) → is_whitespace b ≡ false → skip_leading_whitespace line ≡ b ∷ rest → (space : List ℕ) × (line ≡ space ++ b ∷ rest) × (length space ≡ prefix_len is_whitespace line) × NonePass (λ c. c == b) space
indent_split b [] rest w h = absurd (cc)
indent_split b (c ∷ cs) rest w h =
    test_cases (is_whitespace c)
    (λ e. let more = indent_split b cs rest w (ap (λ q. cond q (skip_leading_whitespace cs) (c ∷ cs)) (sym e) ∙ h) in
    let long : length (c ∷ more.0) ≡ 1 + prefix_len is_whitespace cs = omega (arith, more.2) in
    (c ∷ more.0, ap (λ q. c ∷ q) more.1, long ∙ sym (ap (λ q. cond q (1 + prefix_len is_whitespace cs) 0) e), (ne_eqb c b (λ is. absurd (false≢true (sym w ∙ ap is_whitespace (sym is) ∙ e))), more.3)))
    (λ e. ([], ap (λ q. cond q (skip_leading_whitespace cs) (c ∷ cs)) (sym e) ∙ h, sym (ap (λ q. cond q (1 + prefix_len is_whitespace cs) 0) e), tt))

none-some : {T : Type 0} {x : T} → None ≡ Some x → ⊥
none-some e = cc

and_no : (a b : Bool) → b ≡ false → (a && b) ≡ false
and_no true b e = e
and_no false b e = refl

no_and : (a b : Bool) → a ≡ false → (a && b) ≡ false
no_and true b e = absurd (cc)
no_and false b e = refl

no_mark : (cs rest : List ℕ) → skip_leading_whitespace cs ≡ at_sign ∷ rest → is_some (after (codes "#") cs) ≡ false
unfolding after
no_mark [] rest h = refl
no_mark (d ∷ ds) rest h =
    test_cases (d == number_sign)
    (λ e. let is : d ≡ number_sign = eqb-true d number_sign e in
    let first : d ∷ ds ≡ at_sign ∷ rest = ap (λ q. cond q (skip_leading_whitespace ds) (d ∷ ds)) (sym (ap is_whitespace is)) ∙ h in
    let other : d ≡ at_sign = cc in
    absurd (omega arith))
    (λ e. ap (λ q. is_some (if q then Some ds else None)) e)

-- the comment of a tag line begins after its first `@`
uncommented_body : (line rest : List ℕ) → skip_leading_whitespace line ≡ at_sign ∷ rest → (more : List ℕ) × (skip_leading_whitespace (uncommented_line line) ≡ at_sign ∷ more)
unfolding uncommented_line
uncommented_body [] rest h = absurd (cc)
uncommented_body (c ∷ cs) rest h =
    let kept : (is_whitespace c && is_some (after (codes "#") cs)) ≡ false → uncommented_line (c ∷ cs) ≡ c ∷ uncommented_line cs = λ e. ap (λ q. if q then [] else c ∷ uncommented_line cs) e in
    test_cases (is_whitespace c)
    (λ e. let below = ap (λ q. cond q (skip_leading_whitespace cs) (c ∷ cs)) (sym e) ∙ h in
    let more = uncommented_body cs rest below in
    (more.0, ap skip_leading_whitespace (kept (and_no (is_whitespace c) _ (no_mark cs rest below))) ∙ ap (λ q. cond q (skip_leading_whitespace (uncommented_line cs)) (c ∷ uncommented_line cs)) e ∙ more.1))
    (λ e. let first : c ∷ cs ≡ at_sign ∷ rest = ap (λ q. cond q (skip_leading_whitespace cs) (c ∷ cs)) (sym e) ∙ h in
    let same : c ≡ at_sign = cc in
    (uncommented_line cs, ap skip_leading_whitespace (kept (no_and (is_whitespace c) _ e)) ∙ ap (λ q. cond q (skip_leading_whitespace (uncommented_line cs)) (c ∷ uncommented_line cs)) e ∙ ap (λ q. q ∷ uncommented_line cs) same))

pub tags_start : (line rest : List ℕ) → text_after_indent (uncommented_line line) ≡ at_sign ∷ rest → tag_pieces line ≡ pieces_from (indent_of (uncommented_line line) + 1) (slice_split (λ c. c == at_sign) rest)
unfolding tag_pieces text_after_indent indent_of
tags_start line rest h =
    let parts = indent_split at_sign (uncommented_line line) rest refl h in
    let cut : IsCutAt at_sign (uncommented_line line) parts.0 rest = record { parts = parts.1; first = parts.3 } in
    let column : 0 + length parts.0 + 1 ≡ prefix_len is_whitespace (uncommented_line line) + 1 = omega (arith, parts.2) in
    ap without_first (pieces-cut 0 (uncommented_line line) parts.0 rest cut) ∙ ap (λ n. pieces_from n (slice_split (λ c. c == at_sign) rest)) column

-- a tag line without its comment begins with `@` too
pub tags_begin : (line trim : List ℕ) → begins_by (codes "@") line ≡ true → trim ≡ text_after_indent (uncommented_line line) → None ≡ after (codes "@") trim → ⊥
unfolding begins_by text_after_indent after
tags_begin line trim tagged is none = by_option (after (codes "@") (skip_leading_whitespace line)) refl tagged where
  by_option : (o : Option (List ℕ)) → after (codes "@") (skip_leading_whitespace line) ≡ o → is_some o ≡ true → ⊥
  by_option None e t = false≢true t
  by_option (Some rest) e t =
      let begun = uncommented_body line rest (after-some (codes "@") (skip_leading_whitespace line) rest e) in
      none-some (none ∙ ap (after (codes "@")) (is ∙ begun.1))

pub tags_init : (line text trim rest : List ℕ) (column : ℕ) → text ≡ uncommented_line line → trim ≡ text_after_indent text → Some rest ≡ after (codes "@") trim → column ≡ prefix_len is_whitespace text → pieces_from (column + 1) (slice_split (λ c. c == at_sign) rest) ≡ tag_pieces line
unfolding indent_of
tags_init line text trim rest column is body some indent =
    let begun = sym (body ∙ ap text_after_indent is) ∙ after-some (codes "@") trim rest (sym some) in
    ap (λ n. pieces_from (n + 1) (slice_split (λ c. c == at_sign) rest)) (indent ∙ ap (prefix_len is_whitespace) is) ∙ sym (tags_start line rest begun)

filter-cons : (p : TagWord) (ps : List TagWord) → filter is_tag (p ∷ ps) ≡ filter is_tag (p ∷ []) ++ filter is_tag ps
filter-cons p ps = by_test (is_tag p) where
  by_test : (b : Bool) → cond b (p ∷ filter is_tag ps) (filter is_tag ps) ≡ cond b (p ∷ []) [] ++ filter is_tag ps
  by_test true = refl
  by_test false = refl

-- a turn of the loop over the pieces
pub turn_tags : (old new : List TagText) (column count : ℕ) (text front rest : List ℕ) (whole : List TagWord) → IsCutAt at_sign text front rest → map tag_word new ≡ map tag_word old ++ filter is_tag (piece_at column front ∷ []) → count ≡ length front → map tag_word old ++ filter is_tag (pieces_from column (slice_split (λ c. c == at_sign) text)) ≡ whole → map tag_word new ++ filter is_tag (pieces_from (column + (count + 1)) (slice_split (λ c. c == at_sign) rest)) ≡ whole
turn_tags old new column count text front rest whole cut grown long inv =
    let later = pieces_from (column + length front + 1) (slice_split (λ c. c == at_sign) rest) in
    let next : column + (count + 1) ≡ column + length front + 1 = omega (arith, long) in
    ap (λ n. map tag_word new ++ filter is_tag (pieces_from n (slice_split (λ c. c == at_sign) rest))) next
    ∙ ap (λ q. q ++ filter is_tag later) grown ∙ append_assoc (map tag_word old) (filter is_tag (piece_at column front ∷ [])) (filter is_tag later)
    ∙ ap (λ q. map tag_word old ++ q) (sym (filter-cons (piece_at column front) later) ∙ ap (filter is_tag) (sym (pieces-cut column text front rest cut))) ∙ inv

pub turn_spaced : (column count : ℕ) (text front rest : List ℕ) (o : Option TagWord) → IsCutAt at_sign text front rest → has_space (piece_at column front) ≡ false → count ≡ length front → o ≡ find has_space (pieces_from column (slice_split (λ c. c == at_sign) text)) → o ≡ find has_space (pieces_from (column + (count + 1)) (slice_split (λ c. c == at_sign) rest))
turn_spaced column count text front rest o cut plain long inv =
    let later = pieces_from (column + length front + 1) (slice_split (λ c. c == at_sign) rest) in
    let next : column + length front + 1 ≡ column + (count + 1) = omega (arith, long) in
    inv ∙ ap (find has_space) (pieces-cut column text front rest cut) ∙ ap (λ b. cond b (Some (piece_at column front)) (find has_space later)) plain
    ∙ ap (λ n. find has_space (pieces_from n (slice_split (λ c. c == at_sign) rest))) next

-- a fault of the first piece is the line's
pub fault_first : (fault : TagFault) (p : TagWord) (ps : List TagWord) (o : Option TagWord) → IsTagFault fault (find has_space (p ∷ [])) → o ≡ find has_space (p ∷ ps) → IsTagFault fault o
fault_first Memory p ps o h e = tt
fault_first (TagSpace column) p ps o h e = ap (option_map (λ q. q.column)) e ∙ by_test (has_space p) h where
  by_test : (b : Bool) → option_map (λ q. q.column) (cond b (Some p) None) ≡ Some column → option_map (λ q. q.column) (cond b (Some p) (find has_space ps)) ≡ Some column
  by_test true h = h
  by_test false h = absurd (cc)

pub carried : {T : Type 0} (r : Result T TagFault) (e : TagFault) (o : Option TagWord) → IsErrAnd r (λ f. f ≡ e) → IsTagFault e o → IfErr r (λ f. IsTagFault f o)
carried (Ok v) e o h t = tt
carried (Err f) e o h t = subst (λ q. IsTagFault q o) (sym h) t
