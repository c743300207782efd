-- The white space at a text's start, by its bytes.
use Rattle.std.proofs.Common.{◌≡◌, ℕ, zero, suc, ◌+◌, ◌-◌, ◌<◌, ◌≤◌, Bool, true, false, cond, List, [], ◌∷◌, ◌++◌, length, drop, sym, refl, ap, ◌∙◌, subst, arith, length-drop}
use Rattle.std.specs.Prelude.{◌&&◌, ◌==◌, nat_lt, not, slice_index, is_some, if◌then◌else◌, Some, None}
use Rattle.std.specs.Char.{is_ascii, is_whitespace}
use Rattle.std.specs.List.{prefix_len, list_all, list_any}
use Rattle.std.specs.Str.{chars, IsUtf8, IsCharBoundary, skip_leading_whitespace, encode_utf8_all}
use Rattle.std.proofs.lemmas.Grind.{common_steps}
use Rattle.std.proofs.lemmas.List.Sums.{prefix_len-le-length}
use Rattle.std.proofs.lemmas.Bool.{eqb-true, eq-eqb, ne_eqb, false≢true}
use Rattle.std.proofs.lemmas.Str.{chars-nil, encode_ascii, encodes-chars, byte_from_char, char_from_byte, IsUtf8-past_char, IsCharBoundary-from_drop}
use Rattle.gk_line.specs.Texts.{is_ascii_space, is_visible_ascii, text_after_indent, after}
use Rattle.gk_line.specs.Tokens.{is_blank_line, indent_of}
use Rattle.gk_line.specs.DocStrings.{outdented_line}
use Rattle.gk_line.proofs.TextLemmas.{and_true}
use Rattle.gk_line.proofs.TagLemmas.{test_cases}

pub ascii_small : (b : ℕ) → is_ascii b ≡ true → b < 128
ascii_small b h = grind (arith, common_steps)

-- an ASCII byte is a character
pub chars-ascii : (b : ℕ) (bs : List ℕ) → is_ascii b ≡ true → chars (b ∷ bs) ≡ b ∷ chars bs
unfolding chars
chars-ascii b [] h = rw h refl
chars-ascii b (c ∷ bs) h = rw h refl

IsUtf8-past_ascii : (b : ℕ) (bs : List ℕ) → is_ascii b ≡ true → IsUtf8 (b ∷ bs) → IsUtf8 bs
IsUtf8-past_ascii b bs h u = IsUtf8-past_char (b ∷ bs) bs b u (ap (λ q. q ++ bs) (sym (encode_ascii b (ascii_small b h))))

-- what follows the ASCII white space at the start
abbrev pub past : List ℕ → List ℕ
past bs = drop (prefix_len is_ascii_space bs) bs

drop_more : (n b : ℕ) (bs : List ℕ) → drop (1 + n) (b ∷ bs) ≡ drop n bs
drop_more n b bs = grind (arith, common_steps)

past-space : (b : ℕ) (bs : List ℕ) → is_ascii_space b ≡ true → past (b ∷ bs) ≡ past bs
past-space b bs e = rw e (drop_more (prefix_len is_ascii_space bs) b bs)

past-other : (b : ℕ) (bs : List ℕ) → is_ascii_space b ≡ false → past (b ∷ bs) ≡ b ∷ bs
past-other b bs e = rw e refl

pub past-skip : (bs : List ℕ) → skip_leading_whitespace (chars bs) ≡ skip_leading_whitespace (chars (past bs))
past-skip [] = refl
past-skip (b ∷ bs) =
    test_cases (is_ascii_space b)
    (λ e. let both = and_true (is_ascii b) (is_whitespace b) e in rw (past-space b bs e, chars-ascii b bs both.0, both.1) (past-skip bs))
    (λ e. rw (past-other b bs e) refl)

prefix-space : (b : ℕ) (bs : List ℕ) → is_ascii_space b ≡ true → (prefix_len is_ascii_space (b ∷ bs) ≡ 1 + prefix_len is_ascii_space bs) × (prefix_len is_whitespace (chars (b ∷ bs)) ≡ 1 + prefix_len is_whitespace (chars bs))
prefix-space b bs e =
    let both = and_true (is_ascii b) (is_whitespace b) e in
    (ap (λ t. cond t (1 + prefix_len is_ascii_space bs) 0) e, rw (chars-ascii b bs both.0, both.1) refl)

pub past-leading : (bs : List ℕ) → prefix_len is_whitespace (chars bs) ≡ prefix_len is_ascii_space bs + prefix_len is_whitespace (chars (past bs))
past-leading [] = omega arith
past-leading (b ∷ bs) =
    test_cases (is_ascii_space b)
    (λ e. rw (past-space b bs e) (omega (arith, past-leading bs, prefix-space b bs e)))
    (λ e. rw (past-other b bs e) (omega (arith, ap (λ t. cond t (1 + prefix_len is_ascii_space bs) 0) e)))

pub past-stops : (bs : List ℕ) → prefix_len is_ascii_space (past bs) ≡ 0
past-stops [] = refl
past-stops (b ∷ bs) =
    test_cases (is_ascii_space b)
    (λ e. rw (past-space b bs e) (past-stops bs))
    (λ e. rw (past-other b bs e, e) refl)

past-IsUtf8 : (bs : List ℕ) → IsUtf8 bs → IsUtf8 (past bs)
past-IsUtf8 [] u = u
past-IsUtf8 (b ∷ bs) u =
    test_cases (is_ascii_space b)
    (λ e. subst IsUtf8 (sym (past-space b bs e)) (past-IsUtf8 bs (IsUtf8-past_ascii b bs (and_true (is_ascii b) (is_whitespace b) e).0 u)))
    (λ e. subst IsUtf8 (sym (past-other b bs e)) u)

pub past-boundary : (bs : List ℕ) → IsUtf8 bs → IsCharBoundary bs (prefix_len is_ascii_space bs)
past-boundary bs u = IsCharBoundary-from_drop bs (prefix_len is_ascii_space bs) (prefix_len-le-length is_ascii_space bs) (past-IsUtf8 bs u)

pub past-length : (bs : List ℕ) → length bs - length (past bs) ≡ prefix_len is_ascii_space bs
past-length bs = omega (arith, length-drop (prefix_len is_ascii_space bs) bs, prefix_len-le-length is_ascii_space bs)

-- a text that begins with no ASCII white space, but in ASCII, begins with no white space
settled : (bs : List ℕ) → prefix_len is_ascii_space bs ≡ 0 → is_ascii (slice_index bs 0) ≡ true → (skip_leading_whitespace (chars bs) ≡ chars bs) × (prefix_len is_whitespace (chars bs) ≡ 0)
settled [] s a = rw chars-nil (refl, refl)
settled (b ∷ bs) s a = by_tests (is_ascii b) (is_whitespace b) refl refl s a where
  by_tests : (x y : Bool) → is_ascii b ≡ x → is_whitespace b ≡ y → cond (x && y) (1 + prefix_len is_ascii_space bs) 0 ≡ 0 → x ≡ true → (skip_leading_whitespace (chars (b ∷ bs)) ≡ chars (b ∷ bs)) × (prefix_len is_whitespace (chars (b ∷ bs)) ≡ 0)
  by_tests false y h k s a = absurd (cc)
  by_tests true true h k s a = absurd (omega (arith, s))
  by_tests true false h k s a = rw (chars-ascii b bs h, k) (refl, refl)

pub settled_body : (bs rest : List ℕ) → rest ≡ past bs → is_ascii (slice_index rest 0) ≡ true → chars rest ≡ text_after_indent (chars bs)
unfolding text_after_indent
settled_body bs rest e a =
    let alone = settled rest (ap (prefix_len is_ascii_space) e ∙ past-stops bs) a in
    sym alone.0 ∙ ap (λ q. skip_leading_whitespace (chars q)) e ∙ sym (past-skip bs)

pub settled_leading : (bs rest : List ℕ) → rest ≡ past bs → is_ascii (slice_index rest 0) ≡ true → prefix_len is_whitespace (chars bs) ≡ prefix_len is_ascii_space bs
settled_leading bs rest e a =
    let alone = settled rest (ap (prefix_len is_ascii_space) e ∙ past-stops bs) a in
    let none : prefix_len is_whitespace (chars (past bs)) ≡ 0 = ap (λ q. prefix_len is_whitespace (chars q)) (sym e) ∙ alone.1 in
    past-leading bs ∙ omega (arith, none)

pub body-past : (bs : List ℕ) → text_after_indent (chars bs) ≡ text_after_indent (chars (past bs))
unfolding text_after_indent
body-past bs = past-skip bs

found_test : (n : ℕ) (x : Bool) (cs : List ℕ) → is_some (if x then Some cs else None) ≡ (not (suc n == 0) && x)
found_test n true cs = grind (arith, common_steps)
found_test n false cs = grind (arith, common_steps)

-- a text begins with an ASCII character just where it begins with that byte
pub first-byte : (bs : List ℕ) (c : ℕ) → c < 128 → IsUtf8 bs → is_some (after (c ∷ []) (chars bs)) ≡ (not (length bs == 0) && slice_index bs 0 == c)
unfolding after
first-byte [] c h u = rw chars-nil refl
first-byte (b ∷ bs) c h u = by_chars (chars (b ∷ bs)) (encodes-chars (b ∷ bs) u) where
  by_chars : (cs : List ℕ) → encode_utf8_all cs ≡ b ∷ bs → is_some (after (c ∷ []) cs) ≡ (not (length (b ∷ bs) == 0) && b == c)
  by_chars [] e = absurd (cc)
  by_chars (d ∷ cs) e =
      let same : (d == c) ≡ (b == c) = test_cases (d == c)
      (λ is. is ∙ sym (eq-eqb b c (byte_from_char (b ∷ bs) (encode_utf8_all cs) d (sym e) (subst (λ n. n < 128) (sym (eqb-true d c is)) h) ∙ eqb-true d c is)))
      (λ other. other ∙ sym (ne_eqb b c (λ is. absurd (false≢true (sym other ∙ eq-eqb d c (char_from_byte (b ∷ bs) (encode_utf8_all cs) d (sym e) (subst (λ n. n < 128) (sym is) h) (omega arith) ∙ is)))))) in
      rw same (found_test (length bs) (b == c) cs)

-- a line is blank just where it has no body
pub blank-body : (line : List ℕ) → list_all is_whitespace line ≡ (length (skip_leading_whitespace line) == 0)
blank-body [] = refl
blank-body (c ∷ cs) = test_cases (is_whitespace c)
    (λ e. rw e (blank-body cs))
    (λ e. rw e (grind (arith, common_steps)))

pub blank-line : (line : List ℕ) → is_blank_line line ≡ (length (text_after_indent line) == 0)
unfolding is_blank_line text_after_indent
blank-line line = blank-body line

-- the first n bytes, where they are ASCII white space, are the first n characters
pub spaces-dropped : (n : ℕ) (bs : List ℕ) → n ≤ prefix_len is_ascii_space bs → IsUtf8 bs → (chars (drop n bs) ≡ drop n (chars bs)) × (n ≤ prefix_len is_whitespace (chars bs)) × IsUtf8 (drop n bs)
spaces-dropped zero bs l u = (refl, omega arith, u)
spaces-dropped (suc n) [] l u = absurd (omega arith)
spaces-dropped (suc n) (b ∷ bs) l u =
    test_cases (is_ascii_space b)
    (λ e. let both = and_true (is_ascii b) (is_whitespace b) e in
    let more = prefix-space b bs e in
    let below = spaces-dropped n bs (omega (arith, l, more.0)) (IsUtf8-past_ascii b bs both.0 u) in
    (below.0 ∙ ap (λ q. drop (suc n) q) (sym (chars-ascii b bs both.0)), omega (arith, below.1, more.1), below.2))
    (λ e. absurd (omega (arith, l, ap (λ t. cond t (1 + prefix_len is_ascii_space bs) 0) e)))

pub outdented-spaces : (n : ℕ) (bs : List ℕ) → n ≤ prefix_len is_ascii_space bs → IsUtf8 bs → chars (drop n bs) ≡ outdented_line n (chars bs)
unfolding outdented_line indent_of
outdented-spaces n bs l u =
    let all = spaces-dropped n bs l u in
    let none : nat_lt (prefix_len is_whitespace (chars bs)) n ≡ false = grind (arith, common_steps, all.1) in
    rw none all.0

pub spaces-boundary : (n : ℕ) (bs : List ℕ) → n ≤ prefix_len is_ascii_space bs → IsUtf8 bs → IsCharBoundary bs n
spaces-boundary n bs l u = IsCharBoundary-from_drop bs n (omega (arith, l, prefix_len-le-length is_ascii_space bs)) (spaces-dropped n bs l u).2

visible_alone : (b : ℕ) → is_visible_ascii b ≡ true → (is_ascii b ≡ true) × (is_whitespace b ≡ false)
visible_alone b h = (grind (arith, common_steps), grind (arith, common_steps))

-- a text of visible ASCII characters has no white space
pub visible-none : (bs : List ℕ) → list_all is_visible_ascii bs ≡ true → list_any is_whitespace (chars bs) ≡ false
visible-none [] h = rw chars-nil refl
visible-none (b ∷ bs) h =
    let both = and_true (is_visible_ascii b) (list_all is_visible_ascii bs) h in
    let alone = visible_alone b both.0 in
    rw (chars-ascii b bs alone.0, alone.1) (visible-none bs both.1)
