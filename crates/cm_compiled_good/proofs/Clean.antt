-- The texts of a parsed document are UTF-8, and its places are of 64 bits.
use mathlib.Core.List.{reverse_aux}
use Rattle.std.proofs.Common.{◌≡◌, ℕ, ◌+◌, List, [], ◌∷◌, Bool, true, false, cond, not, map, Option, Some, None, Ok, Err, IsUtf8, codes, flat_map, refl, sym, ap, subst, arith}
use Rattle.std.specs.Prelude.{reverse}
use Rattle.std.specs.List.{AllByRecursion, filter, join_with_byte}
use Rattle.std.proofs.lemmas.Str.{IsUtf8-append, IsUtf8-nil}
use Rattle.json.proofs.Printed.Utf8.{IsUtf8-are_ascii}
use Rattle.gk_line.specs.declared.tokens.Block.{Block}
use Rattle.gk_document.specs.declared.tree.Cell.{Cell}
use Rattle.gk_document.specs.declared.tree.Fence.{Fence}
use Rattle.gk_document.specs.declared.tree.Argument.TheVariants.{Table, Text as Quoted}
use Rattle.gk_document.specs.MediaType.{unless_empty as media_of}
use Rattle.gk_grammar.specs.Token.{Utf8, TagText, Tags, Title, Step, Row, Fenced, Line, line, bytes, is_blank, is_comment}
use Rattle.gk_grammar.specs.Tree as tree
use Rattle.gk_grammar.specs.Tree.{Location, Tag, DocString, Argument}
use Rattle.gk_grammar.specs.Grammar.{Piece, Then, Each, AtMostOne, OneLine, comment_of, comments_of, place_and_name, tag_at, IsTagLine, TagLines, TitleAndDescription, from_text, description_of, IsRow, IsTable, content_line, IsDocString, IsArgument, IsStepLine, IsStep}
use Rattle.cm_compiled_good.proofs.Fine.{Fits64, clean, TagOf, CellOf, RowOf, MediaOf, DocStringOf, ArgumentOf, StepOf}
use Rattle.cm_compiled_good.proofs.Scalars.{encoded, doc_line_fits}
use Rattle.cm_compiled_good.proofs.Tokens.{WordOk, CellOk, LineOk}
use Rattle.cm_read_back.proofs.Places.{all_apart}
use Rattle.cm_compiled_good.proofs.Compiling.{all_joined, all_mapped}

abbrev pub CommentOk : tree.Comment → Type 0
CommentOk c = IsUtf8 c.text × Fits64 c.location.line × Fits64 c.location.column

-- a piece of good lines has good comments, and what is in X
abbrev pub Gives : Piece → Type 0 → Type 0
Gives P X = (ls : List Line) (cs : List tree.Comment) → P ls cs → AllByRecursion LineOk ls → X × AllByRecursion CommentOk cs

-- ---- comments

comment_ok : (l : Line) → LineOk l → CommentOk (comment_of l)
comment_ok (line n t i k) h = (encoded t h.1, h.0, omega arith)

kept : {A : Type 0} (P : A → Type 0) (q : A → Bool) (xs : List A) → AllByRecursion P xs → AllByRecursion P (filter q xs)
kept P q [] h = tt
kept {A} P q (x ∷ xs) h = go (q x) (kept P q xs h.1)
  where
    go : (b : Bool) → AllByRecursion P (filter q xs) → AllByRecursion P (cond b (x ∷ filter q xs) (filter q xs))
    go true k = (h.0, k)
    go false k = k

comments_ok : (ls : List Line) → AllByRecursion LineOk ls → AllByRecursion CommentOk (comments_of ls)
comments_ok ls h = all_mapped LineOk CommentOk comment_of comment_ok (filter is_comment ls) (kept LineOk is_comment ls h)

pub gap_comments : (ls : List Line) (cs : List tree.Comment) → cs ≡ comments_of ls → AllByRecursion LineOk ls → AllByRecursion CommentOk cs
gap_comments ls cs e h = subst (AllByRecursion CommentOk) (sym e) (comments_ok ls h)

pub none_there : (cs : List tree.Comment) → cs ≡ [] → AllByRecursion CommentOk cs
none_there cs e = subst (AllByRecursion CommentOk) (sym e) tt

-- ---- pieces

pub gives_then : (P Q : Piece) (X Y : Type 0) → Gives P X → Gives Q Y → Gives (Then P Q) (X × Y)
gives_then P Q X Y p q ls cs t h =
    let parts = all_apart LineOk t.front t.back (subst (AllByRecursion LineOk) t.cut h) in
    let one = p t.front t.front_comments t.first parts.0 in
    let two = q t.back t.back_comments t.second parts.1 in
    ((one.0, two.0), subst (AllByRecursion CommentOk) (sym t.comments) (all_joined CommentOk t.front_comments t.back_comments one.1 two.1))

pub gives_each : {A : Type 0} (P : A → Piece) (X : A → Type 0) → ((x : A) → Gives (P x) (X x)) → (xs : List A) → Gives (Each P xs) (AllByRecursion X xs)
gives_each P X one [] ls cs t h = (tt, none_there cs t.1)
gives_each P X one (x ∷ xs) ls cs t h =
    let k = gives_then (P x) (Each P xs) (X x) (AllByRecursion X xs) (one x) (λ us vs z. gives_each P X one xs us vs z) ls cs t h in
    ((k.0.0, k.0.1), k.1)

pub gives_line : (P : Line → Type 0) (X : Type 0) → ((l : Line) → P l → LineOk l → X) → Gives (OneLine P) X
gives_line P X one [] cs t h = absurd t
gives_line P X one (l ∷ ls) cs t h = (one l t.0 h.0, gap_comments ls cs t.1.1 h.1)

-- ---- headers

tags_ok : (tags : List Tag) (n : ℕ) (words : List TagText) → map place_and_name tags ≡ map (tag_at n) words → Fits64 n → AllByRecursion WordOk words → AllByRecursion (TagOf clean) tags
tags_ok [] n words e h k = tt
tags_ok (g ∷ gs) n [] e h k = absurd cc
tags_ok (g ∷ gs) n (w ∷ ws) e h k =
    let head : place_and_name g ≡ tag_at n w = cc in
    let others : map place_and_name gs ≡ map (tag_at n) ws = cc in
    let place = ap (λ (z : Location × Utf8). z.0) head in
    let name = ap (λ (z : Location × Utf8). z.1) head in
    let is_name : IsUtf8 g.name = subst IsUtf8 (sym name) (IsUtf8-append (codes "@") w.word (IsUtf8-are_ascii (codes "@") refl) k.0.0) in
    let is_place : Fits64 g.location.line × Fits64 g.location.column = subst (λ (l : Location). Fits64 l.line × Fits64 l.column) (sym place) (h, k.0.1) in
    ((tt, is_name, is_place), tags_ok gs n ws others h k.1)

tag_line_ok : (tags : List Tag) (l : Line) → IsTagLine tags l → LineOk l → AllByRecursion (TagOf clean) tags
tag_line_ok tags (line n t i (Tags (Ok words))) e h = tags_ok tags n words e h.0 h.3
tag_line_ok tags (line n t i (Tags (Err c))) e h = absurd e
tag_line_ok tags (line n t i _) e h = absurd e

all_lists : (parts : List (List Tag)) → AllByRecursion (AllByRecursion (TagOf clean)) parts → AllByRecursion (TagOf clean) (flat_map (λ z. z) parts)
all_lists [] h = tt
all_lists (ts ∷ parts) h = all_joined (TagOf clean) ts (flat_map (λ z. z) parts) h.0 (all_lists parts h.1)

pub tag_lines_ok : (tags : List Tag) → Gives (TagLines tags) (AllByRecursion (TagOf clean) tags)
tag_lines_ok tags ls cs t h =
    let k = gives_each (λ ts. OneLine (IsTagLine ts)) (AllByRecursion (TagOf clean)) (λ ts. gives_line (IsTagLine ts) (AllByRecursion (TagOf clean) ts) (tag_line_ok ts)) t.0 ls cs t.2 h in
    (subst (AllByRecursion (TagOf clean)) (sym t.1) (all_lists t.0 k.0), k.1)

-- ---- titles

line_utf8 : (l : Line) → LineOk l → IsUtf8 (bytes l)
line_utf8 (line n t i k) h = encoded t h.1

pub joined_utf8 : (ps : List (List ℕ)) → AllByRecursion IsUtf8 ps → IsUtf8 (join_with_byte 10 ps)
joined_utf8 [] h = IsUtf8-nil
joined_utf8 (p ∷ []) h = h.0
joined_utf8 (p ∷ q ∷ more) h =
    IsUtf8-append p (10 ∷ join_with_byte 10 (q ∷ more)) h.0 (IsUtf8-append (10 ∷ []) (join_with_byte 10 (q ∷ more)) (IsUtf8-are_ascii (10 ∷ []) refl) (joined_utf8 (q ∷ more) h.1))

turned_onto : {A : Type 0} (P : A → Type 0) (xs ys : List A) → AllByRecursion P xs → AllByRecursion P ys → AllByRecursion P (reverse_aux xs ys)
turned_onto P [] ys h k = k
turned_onto P (x ∷ xs) ys h k = turned_onto P xs (x ∷ ys) h.1 (h.0, k)

turned : {A : Type 0} (P : A → Type 0) (xs : List A) → AllByRecursion P xs → AllByRecursion P (reverse xs)
turned P xs h = turned_onto P xs [] h tt

from_text_ok : (ls : List Line) → AllByRecursion LineOk ls → AllByRecursion LineOk (from_text ls)
from_text_ok [] h = tt
from_text_ok (l ∷ ls) h = go (is_blank l) (from_text_ok ls h.1)
  where
    go : (b : Bool) → AllByRecursion LineOk (from_text ls) → AllByRecursion LineOk (cond b (from_text ls) (l ∷ ls))
    go true k = k
    go false k = h

description_ok : (ls : List Line) → AllByRecursion LineOk ls → IsUtf8 (description_of ls)
description_ok ls h =
    let front = from_text (filter (λ l. not (is_comment l)) ls) in
    let one = from_text_ok (filter (λ l. not (is_comment l)) ls) (kept LineOk (λ l. not (is_comment l)) ls h) in
    let two = turned LineOk (from_text (reverse front)) (from_text_ok (reverse front) (turned LineOk front one)) in
    joined_utf8 _ (all_mapped LineOk IsUtf8 bytes line_utf8 (reverse (from_text (reverse front))) two)

abbrev Placed : Location → Type 0
Placed l = Fits64 l.line × Fits64 l.column

place_ok : (p : Location) (n i : ℕ) → p ≡ record { line = n; column = i + 1 } → Fits64 n → Fits64 (i + 1) → Placed p
place_ok p n i e h k = subst Placed (sym e) (h, k)

abbrev pub TitleParts : Location → (keyword name description : Utf8) → Type 0
TitleParts p k m d = Placed p × IsUtf8 k × IsUtf8 m × IsUtf8 d

pub title_ok : (b : Block) (p : Location) (k m d : Utf8) → Gives (TitleAndDescription b p k m d) (TitleParts p k m d)
title_ok b p k m d [] cs t h = absurd t
title_ok b p k m d (line n u i (Title c y z) ∷ ls) cs t h =
    let texts = h.0.3 in (
      (place_ok p n i t.0.1 h.0.0 h.0.2, subst IsUtf8 (sym t.0.2) texts.0, subst IsUtf8 (sym t.0.3) texts.1, subst IsUtf8 (sym t.2) (description_ok ls h.1)),
      gap_comments ls cs t.3 h.1,
    )
title_ok b p k m d (line n u i _ ∷ ls) cs t h = absurd t.0

-- ---- steps

cells_placed : (n : ℕ) (cells : List Cell) → Fits64 n → AllByRecursion CellOk cells → AllByRecursion (CellOf clean n) cells
cells_placed n [] h k = tt
cells_placed n (c ∷ cells) h k = ((k.0.0, (h, k.0.1)), cells_placed n cells h k.1)

row_ok : (r : tree.Row) (l : Line) → IsRow r l → LineOk l → RowOf clean r
row_ok r (line n t i (Row cells)) e h =
    let place = place_ok r.location n i e.0 h.0 h.2 in
    (tt, place, subst (AllByRecursion (CellOf clean r.location.line)) (sym e.1) (cells_placed r.location.line cells place.0 h.3))
row_ok r (line n t i _) e h = absurd e

pub table_ok : (rows : List tree.Row) → Gives (IsTable rows) (AllByRecursion (RowOf clean) rows)
table_ok [] ls cs t h = absurd t
table_ok (r ∷ rs) ls cs t h = gives_each (λ x. OneLine (IsRow x)) (RowOf clean) (λ x. gives_line (IsRow x) (RowOf clean x) (row_ok x)) (r ∷ rs) ls cs t.1 h

media_ok : (m : Utf8) → IsUtf8 m → MediaOf clean (media_of m)
media_ok [] h = tt
media_ok (c ∷ cs) h = h

content_ok : (f : Fence) (n : ℕ) (l : Line) → LineOk l → IsUtf8 (content_line f n l)
content_ok f n (line k t i x) h = encoded _ (doc_line_fits f n t h.1)

doc_string_ok : (d : DocString) → Gives (IsDocString d) (DocStringOf clean d)
doc_string_ok d [] cs t h = absurd t
doc_string_ok d (line n u i (Fenced f media) ∷ ls) cs t h =
    let closes = t.3 in
    let parts = all_apart LineOk closes.inside (closes.close ∷ closes.gap) (subst (AllByRecursion LineOk) closes.cut h.1) in
    let content : IsUtf8 d.content = subst IsUtf8 (sym closes.value) (joined_utf8 _ (all_mapped LineOk IsUtf8 (content_line f i) (content_ok f i) closes.inside parts.0)) in (
      (place_ok d.location n i t.0 h.0.0 h.0.2, subst (MediaOf clean) (sym t.2) (media_ok media h.0.3), content),
      gap_comments closes.gap cs closes.gap_after.1 parts.1.1,
    )
doc_string_ok d (line n u i _ ∷ ls) cs t h = absurd t

argument_ok : (a : Option Argument) → Gives (AtMostOne IsArgument a) (ArgumentOf clean a)
argument_ok None ls cs t h = (tt, none_there cs t.1)
argument_ok (Some (Table rows)) ls cs t h = table_ok rows ls cs t h
argument_ok (Some (Quoted d)) ls cs t h = doc_string_ok d ls cs t h

abbrev StepParts : tree.Step → Type 0
StepParts s = Placed s.location × IsUtf8 s.keyword × IsUtf8 s.text

step_line_ok : (s : tree.Step) (l : Line) → IsStepLine s l → LineOk l → StepParts s
step_line_ok s (line n t i (Step k y m)) e h = let texts = h.3 in (place_ok s.location n i e.0 h.0 h.2, subst IsUtf8 (sym e.1) texts.0, subst IsUtf8 (sym e.3) texts.1)
step_line_ok s (line n t i _) e h = absurd e

pub step_ok : (s : tree.Step) → Gives (IsStep s) (StepOf clean s)
step_ok s ls cs t h =
    let k = gives_then (OneLine (IsStepLine s)) (AtMostOne IsArgument s.argument) (StepParts s) (ArgumentOf clean s.argument) (gives_line (IsStepLine s) (StepParts s) (step_line_ok s)) (argument_ok s.argument) ls cs t h in
    ((tt, k.0.0.0, k.0.0.1, k.0.0.2, k.0.1), k.1)
