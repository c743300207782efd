-- A tag line cut at its comment, and at each `@`.
use Rattle.std.proofs.Common.{◌≡◌, ℕ, ◌+◌, ◌≤◌, Bool, true, false, List, [], ◌∷◌, ◌++◌, length, take, Option, Some, None, sym, refl, ap, ◌∙◌, subst, ◌⊎◌, inl, inr, arith, length-append, append-nil}
use Rattle.std.specs.Prelude.{◌==◌, ◌&&◌, codes, is_some, if◌then◌else◌}
use Rattle.std.specs.Char.{is_whitespace}
use Rattle.std.specs.List.{AllByRecursion, flat_map, slice_split}
use Rattle.std.proofs.Math.Seq.{take-append_seam}
use Rattle.std.proofs.lemmas.Bool.{eqb-true, false≢true}
use Rattle.gk_line.specs.Cells.{without_first}
use Rattle.gk_line.specs.Characters.{at_sign, number_sign}
use Rattle.gk_line.specs.Tags.{TagWord, piece_at, pieces_from, tag_pieces, uncommented_line}
use Rattle.gk_line.specs.Texts.{after}
use Rattle.gk_line.proofs.TagLemmas.{pieces-cut, pieces-none, test_cases}
use Rattle.gk_line.proofs.TextLemmas.{and_true, after-some}
use Rattle.gk_laws.specs.TagLines.{BeginsComment, IsUncommented, HasNoMark, after_mark, IsTagged, words_after, CommentsAreCut, PiecesAreCut}

-- ---- the comment

abbrev begins_comment : ℕ → List ℕ → Bool
begins_comment c cs = is_whitespace c && is_some (after (codes "#") cs)

begins : (c : ℕ) (cs : List ℕ) → begins_comment c cs ≡ true → BeginsComment (c ∷ cs)
begins c cs h = by_option (after (codes "#") cs) refl (and_true _ _ h).1 where
  by_option : (o : Option (List ℕ)) → after (codes "#") cs ≡ o → is_some o ≡ true → BeginsComment (c ∷ cs)
  by_option None is e = absurd (false≢true e)
  by_option (Some more) is e = (c, more, ap (λ q. c ∷ q) (after-some (codes "#") cs more is), (and_true _ _ h).0)

begins_not : (c : ℕ) (cs : List ℕ) → begins_comment c cs ≡ false → BeginsComment (c ∷ cs) → ⊥
unfolding after
begins_not c cs h (d, more, is, space) =
    let first : c ≡ d = cc in
    let later : cs ≡ number_sign ∷ more = cc in
    let test : begins_comment c cs ≡ true = ap (begins_comment c) later ∙ ap (λ b. b && true) (ap is_whitespace first ∙ space) in
    false≢true (sym h ∙ test)

is_uncommented : (line : List ℕ) → IsUncommented line (uncommented_line line)
unfolding uncommented_line
is_uncommented [] = record { comment = []; whole = refl; is_comment = inl refl; first = λ before after e b. omega arith }
is_uncommented (c ∷ cs) = by_test (begins_comment c cs) refl (is_uncommented cs) where
  by_test : (b : Bool) → begins_comment c cs ≡ b → IsUncommented cs (uncommented_line cs) → IsUncommented (c ∷ cs) (if b then [] else c ∷ uncommented_line cs)
  by_test true e later = record { comment = c ∷ cs; whole = refl; is_comment = inr (begins c cs e); first = λ before after is b. omega arith }
  by_test false e later = record {
    comment = later.comment;
    whole = ap (λ q. c ∷ q) later.whole;
    is_comment = later.is_comment;
    first = first;
  } where
    first : (before after : List ℕ) → c ∷ cs ≡ before ++ after → BeginsComment after → length (c ∷ uncommented_line cs) ≤ length before
    first [] after is b = absurd (begins_not c cs e (subst BeginsComment (sym is) b))
    first (d ∷ before) after is b =
        let rest : cs ≡ before ++ after = cc in
        let less = later.first before after rest b in
        omega arith

no_longer : (line a b : List ℕ) → IsUncommented line a → IsUncommented line b → length b ≤ length a
no_longer line a b ua ub = by_comment ua.is_comment where
  by_comment : (ua.comment ≡ []) ⊎ BeginsComment ua.comment → length b ≤ length a
  by_comment (inl e) = omega (arith, ap length ua.whole, ap length ub.whole, length-append a ua.comment, length-append b ub.comment, ap length e)
  by_comment (inr begins) = ub.first a ua.comment ua.whole begins

same_front : (line a b x y : List ℕ) → line ≡ a ++ x → line ≡ b ++ y → length a ≡ length b → a ≡ b
same_front line a b x y p q long =
    sym (ap (take (length a)) p ∙ take-append_seam a x) ∙ ap (λ n. take n line) long ∙ ap (take (length b)) q ∙ take-append_seam b y

pub comments_are_cut : CommentsAreCut
comments_are_cut line kept = (
  (λ e. subst (IsUncommented line) e (is_uncommented line)),
  (λ u.
      let own = is_uncommented line in
      let most = no_longer line (uncommented_line line) kept own u in
      let least = no_longer line kept (uncommented_line line) u own in
      same_front line (uncommented_line line) kept own.comment u.comment own.whole u.whole (omega arith)),
)

-- ---- the pieces

abbrev HasPieces : List ℕ → Type 0
HasPieces text = (before : List ℕ) × (pieces : List (List ℕ)) × IsTagged text before pieces

has_pieces : (text : List ℕ) → HasPieces text
has_pieces [] = ([], [], record { whole = refl; no_mark_before = tt; no_mark_in_pieces = tt })
has_pieces (c ∷ cs) = test_cases (c == at_sign) (λ e. starts (eqb-true c at_sign e) (has_pieces cs)) (λ e. grows e (has_pieces cs)) where
  starts : c ≡ at_sign → HasPieces cs → HasPieces (c ∷ cs)
  starts is (before, pieces, t) = (
    [],
    before ∷ pieces,
    record {
      whole = ap (λ q. q ∷ cs) is ∙ ap (λ q. at_sign ∷ q) t.whole;
      no_mark_before = tt;
      no_mark_in_pieces = (t.no_mark_before, t.no_mark_in_pieces);
    },
  )

  grows : (c == at_sign) ≡ false → HasPieces cs → HasPieces (c ∷ cs)
  grows e (before, pieces, t) = (
    c ∷ before,
    pieces,
    record {
      whole = ap (λ q. c ∷ q) t.whole;
      no_mark_before = (e, t.no_mark_before);
      no_mark_in_pieces = t.no_mark_in_pieces;
    },
  )

-- the pieces from a column on
abbrev words_at : ℕ → List (List ℕ) → List TagWord
words_at column [] = []
words_at column (piece ∷ pieces) = piece_at column piece ∷ words_at (column + length piece + 1) pieces

pieces_cut : (column : ℕ) (before : List ℕ) (pieces : List (List ℕ)) → HasNoMark before → AllByRecursion HasNoMark pieces
    → pieces_from column (slice_split (λ c. c == at_sign) (before ++ flat_map after_mark pieces)) ≡ piece_at column before ∷ words_at (column + length before + 1) pieces
pieces_cut column before [] nb np =
    ap (λ q. pieces_from column (slice_split (λ c. c == at_sign) q)) (append-nil before) ∙ pieces-none column before nb
pieces_cut column before (piece ∷ pieces) nb np =
    let rest = piece ++ flat_map after_mark pieces in
    pieces-cut column (before ++ at_sign ∷ rest) before rest (record { parts = refl; first = nb })
    ∙ ap (λ q. piece_at column before ∷ q) (pieces_cut (column + length before + 1) piece pieces np.0 np.1)

words_after_at : (before : List ℕ) (pieces : List (List ℕ)) → words_after before pieces ≡ words_at (length before + 1) pieces
words_after_at before [] = refl
words_after_at before (piece ∷ pieces) =
    let next : length (before ++ after_mark piece) + 1 ≡ length before + 1 + length piece + 1 = omega (arith, length-append before (after_mark piece)) in
    ap (λ q. piece_at (length before + 1) piece ∷ q) (words_after_at (before ++ after_mark piece) pieces ∙ ap (λ n. words_at n pieces) next)

words_cut : (line kept before : List ℕ) (pieces : List (List ℕ)) → uncommented_line line ≡ kept → IsTagged kept before pieces → tag_pieces line ≡ words_after before pieces
unfolding tag_pieces
words_cut line kept before pieces is t =
    let start : 0 + length before + 1 ≡ length before + 1 = omega arith in
    ap (λ q. without_first (pieces_from 0 (slice_split (λ c. c == at_sign) q))) (is ∙ t.whole)
    ∙ ap without_first (pieces_cut 0 before pieces t.no_mark_before t.no_mark_in_pieces)
    ∙ ap (λ n. words_at n pieces) start ∙ sym (words_after_at before pieces)

pub pieces_are_cut : PiecesAreCut
pieces_are_cut line words = (
  (λ e.
      let cut = has_pieces (uncommented_line line) in
      (uncommented_line line, cut.0, cut.1, is_uncommented line, cut.2, sym e ∙ words_cut line (uncommented_line line) cut.0 cut.1 refl cut.2)),
  (λ (kept, before, pieces, u, t, is). words_cut line kept before pieces ((comments_are_cut line kept).1 u) t ∙ sym is),
)
