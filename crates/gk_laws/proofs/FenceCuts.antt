-- A doc string's line without the indent, and cut at escaped fences.
use Rattle.std.proofs.Common.{◌≡◌, ℕ, zero, suc, ◌+◌, ◌<◌, ◌≤◌, Bool, true, false, cond, List, [], ◌∷◌, ◌++◌, length, take, drop, Option, Some, None, sym, refl, ap, ◌∙◌, ◌⊎◌, inl, inr, arith, le_refl, take-append-drop, subst}
use Rattle.std.specs.Prelude.{◌&&◌, is_some, if◌then◌else◌, nat_lt}
use Rattle.std.specs.Char.{is_whitespace}
use Rattle.std.specs.List.{list_all, prefix_len}
use Rattle.std.specs.Str.{skip_leading_whitespace}
use Rattle.std.proofs.lemmas.Bool.{ltb-true, ltb-false}
use Rattle.std.proofs.Math.Seq.{drop-append_seam}
use Rattle.gk_line.specs.Characters.{backslash}
use Rattle.gk_document.specs.Fences.{fence_mark}
use Rattle.gk_line.specs.DocStrings.{doc_line_of, escaped_mark, fences_unescaped, outdented_line}
use Rattle.gk_line.specs.Texts.{after, text_after_indent}
use Rattle.gk_line.specs.Tokens.{indent_of}
use Rattle.gk_line.proofs.PlaceLemmas.{skip-split}
use Rattle.gk_line.proofs.TagLemmas.{test_cases}
use Rattle.gk_line.proofs.TextLemmas.{and_true, after-some}
use Rattle.gk_pickle.specs.Cut.{Lacks, IsFirst, IsCut, joined_parts}
use Rattle.gk_pickle.proofs.Cutting.{cut_exists}
use Rattle.gk_laws.specs.Fences.{escaped_fence, IsOutdented, FencesCutTexts, IndentIsLost, DocLinesAreRead}
use Rattle.gk_laws.proofs.TextParts.{after_front}
use Rattle.gk_laws.proofs.Trims.{front_length}

module _ (mark : ℕ) where
  abbrev fence : List ℕ
  fence = mark ∷ mark ∷ mark ∷ []

  abbrev escaped : List ℕ
  escaped = escaped_mark mark

  abbrev unescaped : List ℕ → List ℕ
  unescaped text = fences_unescaped mark 0 text

  at_escaped : (rest : List ℕ) → unescaped (escaped ++ rest) ≡ fence ++ unescaped rest
  at_escaped rest =
      ap (λ o. if is_some o then fence ++ unescaped rest else backslash ∷ unescaped (mark ∷ backslash ∷ mark ∷ backslash ∷ mark ∷ rest)) (after_front escaped rest)

  at_other : (c : ℕ) (cs : List ℕ) → after escaped (c ∷ cs) ≡ None → unescaped (c ∷ cs) ≡ c ∷ unescaped cs
  at_other c cs miss = ap (λ o. if is_some o then mark ∷ mark ∷ mark ∷ fences_unescaped mark 5 cs else c ∷ unescaped cs) miss

  not_first : (text : List ℕ) → ((rest : List ℕ) → text ≡ escaped ++ rest → ⊥) → after escaped text ≡ None
  not_first text other = by_option (after escaped text) refl where
    by_option : (o : Option (List ℕ)) → after escaped text ≡ o → o ≡ None
    by_option None e = refl
    by_option (Some rest) e = absurd (other rest (after-some escaped text rest e))

  lacking : (text : List ℕ) → Lacks escaped text → unescaped text ≡ text
  lacking [] lacks = refl
  lacking (c ∷ cs) lacks =
      at_other c cs (not_first (c ∷ cs) (λ rest e. lacks [] rest e))
      ∙ ap (λ q. c ∷ q) (lacking cs (λ front back e. lacks (c ∷ front) back (ap (λ q. c ∷ q) e)))

  up_to : (front back : List ℕ) → IsFirst escaped (front ++ (escaped ++ back)) front → unescaped (front ++ (escaped ++ back)) ≡ front ++ (fence ++ unescaped back)
  up_to [] back first = at_escaped back
  up_to (c ∷ front) back first =
      at_other c (front ++ (escaped ++ back)) (not_first (c ∷ front ++ (escaped ++ back)) (λ rest e. let none = first [] rest e in absurd (omega arith)))
      ∙ ap (λ q. c ∷ q) (up_to front back (λ before past e. let less = first (c ∷ before) past (ap (λ q. c ∷ q) e) in omega arith))

  -- what the parts are joined to
  pub read_parts : (text part : List ℕ) (others : List (List ℕ)) → IsCut escaped text part others → unescaped text ≡ joined_parts fence part others
  read_parts text part [] cut = lacking text cut.1 ∙ cut.0
  read_parts text part (next ∷ others) cut =
      ap unescaped cut.1 ∙ up_to part cut.0 (subst (λ t. IsFirst escaped t part) cut.1 cut.2)
      ∙ ap (λ q. part ++ (fence ++ q)) (read_parts cut.0 next others cut.3)

pub fences_cut_texts : FencesCutTexts
fences_cut_texts fence text said = (
  (λ e.
      let cut = cut_exists (escaped_fence fence) (omega arith) (length text) text (le_refl (length text)) in
      record {
        part = cut.0;
        others = cut.1;
        is_cut = cut.2;
        is_joined = sym e ∙ read_parts (fence_mark fence) text cut.0 cut.1 cut.2;
      }),
  (λ u. read_parts (fence_mark fence) text u.part u.others u.is_cut ∙ sym u.is_joined),
)

-- ---- the indent

no_indent : (text : List ℕ) → prefix_len is_whitespace (skip_leading_whitespace text) ≡ 0
no_indent [] = refl
no_indent (c ∷ cs) =
    test_cases (is_whitespace c)
    (λ e. ap (λ b. prefix_len is_whitespace (cond b (skip_leading_whitespace cs) (c ∷ cs))) e ∙ no_indent cs)
    (λ e. ap (λ b. prefix_len is_whitespace (cond b (skip_leading_whitespace cs) (c ∷ cs))) e ∙ ap (λ b. cond b (1 + prefix_len is_whitespace cs) 0) e)

nothing_skipped : (text : List ℕ) → prefix_len is_whitespace text ≡ 0 → skip_leading_whitespace text ≡ text
nothing_skipped [] h = refl
nothing_skipped (c ∷ cs) h =
    test_cases (is_whitespace c)
    (λ e. absurd (omega (arith, h, ap (λ b. cond b (1 + prefix_len is_whitespace cs) 0) e)))
    (λ e. ap (λ b. cond b (skip_leading_whitespace cs) (c ∷ cs)) e)

space_skipped : (lost kept : List ℕ) → list_all is_whitespace lost ≡ true → skip_leading_whitespace (lost ++ kept) ≡ skip_leading_whitespace kept
space_skipped [] kept h = refl
space_skipped (c ∷ lost) kept h =
    let both = and_true _ _ h in
    ap (λ b. cond b (skip_leading_whitespace (lost ++ kept)) (c ∷ lost ++ kept)) both.0 ∙ space_skipped lost kept both.1

space_taken : (n : ℕ) (line : List ℕ) → n ≤ prefix_len is_whitespace line → (list_all is_whitespace (take n line) ≡ true) × (length (take n line) ≡ n)
space_taken zero line l = (refl, refl)
space_taken (suc n) [] l = absurd (omega arith)
space_taken (suc n) (c ∷ cs) l =
    test_cases (is_whitespace c)
    (λ e.
    let more = space_taken n cs (omega (arith, ap (λ b. cond b (1 + prefix_len is_whitespace cs) 0) e)) in
    (ap (λ b. b && list_all is_whitespace (take n cs)) e ∙ more.0, ap suc more.1))
    (λ e. absurd (omega (arith, ap (λ b. cond b (1 + prefix_len is_whitespace cs) 0) e)))

abbrev left_of : Bool → ℕ → List ℕ → List ℕ
left_of b indent line = if b then skip_leading_whitespace line else drop indent line

is_outdented : (indent : ℕ) (line kept : List ℕ) (b : Bool) → nat_lt (prefix_len is_whitespace line) indent ≡ b → kept ≡ left_of b indent line → IsOutdented indent line kept
unfolding indent_of
is_outdented indent line kept true less e =
    let front = skip-split line in
    let short = ltb-true (prefix_len is_whitespace line) indent less in
    record {
      lost = front.0;
      whole = front.1 ∙ ap (λ q. front.0 ++ q) (sym e);
      is_space = front.2;
      at_most = omega (arith, front.3);
      no_less = inr (ap (prefix_len is_whitespace) e ∙ no_indent line);
    }
is_outdented indent line kept false less e =
    let long = ltb-false (prefix_len is_whitespace line) indent less in
    let taken = space_taken indent line long in
    record {
      lost = take indent line;
      whole = sym (take-append-drop indent line) ∙ ap (λ q. take indent line ++ q) (sym e);
      is_space = taken.0;
      at_most = omega (arith, taken.1);
      no_less = inl taken.1;
    }

all_lost : (lost kept : List ℕ) (indent : ℕ) → length lost ≡ indent → kept ≡ drop indent (lost ++ kept)
all_lost lost kept indent e = sym (ap (λ n. drop n (lost ++ kept)) (sym e) ∙ drop-append_seam lost kept)

outdented_is : (indent : ℕ) (line kept : List ℕ) (b : Bool) → nat_lt (prefix_len is_whitespace line) indent ≡ b → IsOutdented indent line kept → kept ≡ left_of b indent line
unfolding indent_of
outdented_is indent line kept true less o =
    let short = ltb-true (prefix_len is_whitespace line) indent less in
    let long = front_length is_whitespace o.lost kept o.is_space in
    let parts = ap (prefix_len is_whitespace) o.whole in
    by_end o.no_less short long parts where
      by_end : (length o.lost ≡ indent) ⊎ (prefix_len is_whitespace kept ≡ 0) → prefix_len is_whitespace line < indent → prefix_len is_whitespace (o.lost ++ kept) ≡ length o.lost + prefix_len is_whitespace kept
          → prefix_len is_whitespace line ≡ prefix_len is_whitespace (o.lost ++ kept) → kept ≡ skip_leading_whitespace line
      by_end (inl e) short long parts = absurd (omega arith)
      by_end (inr e) short long parts = sym (ap skip_leading_whitespace o.whole ∙ space_skipped o.lost kept o.is_space ∙ nothing_skipped kept e)
outdented_is indent line kept false less o =
    let enough = ltb-false (prefix_len is_whitespace line) indent less in
    let long = front_length is_whitespace o.lost kept o.is_space in
    let parts = ap (prefix_len is_whitespace) o.whole in
    all_lost o.lost kept indent (by_end o.no_less enough long parts o.at_most) ∙ ap (drop indent) (sym o.whole) where
      by_end : (length o.lost ≡ indent) ⊎ (prefix_len is_whitespace kept ≡ 0) → indent ≤ prefix_len is_whitespace line → prefix_len is_whitespace (o.lost ++ kept) ≡ length o.lost + prefix_len is_whitespace kept
          → prefix_len is_whitespace line ≡ prefix_len is_whitespace (o.lost ++ kept) → length o.lost ≤ indent → length o.lost ≡ indent
      by_end (inl e) enough long parts most = e
      by_end (inr e) enough long parts most = omega arith

pub indent_is_lost : IndentIsLost
unfolding outdented_line text_after_indent indent_of
indent_is_lost indent line kept = (
  (λ e. is_outdented indent line kept (nat_lt (prefix_len is_whitespace line) indent) refl (sym e)),
  (λ o. sym (outdented_is indent line kept (nat_lt (prefix_len is_whitespace line) indent) refl o)),
)

pub doc_lines_are_read : DocLinesAreRead
unfolding doc_line_of
doc_lines_are_read fence indent line said = (
  (λ e. (outdented_line indent line, (indent_is_lost indent line (outdented_line indent line)).0 refl, (fences_cut_texts fence (outdented_line indent line) said).0 e)),
  (λ read. ap (fences_unescaped (fence_mark fence) 0) ((indent_is_lost indent line read.0).1 read.1) ∙ (fences_cut_texts fence read.0 said).1 read.2),
)
