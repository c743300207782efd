-- The kinds of the lines say what the grammar says of the lines.
use Rattle.std.proofs.Common.{◌≡◌, ◌↔◌, ℕ, Bool, true, false, cond, List, [], ◌∷◌, ◌++◌, ◌+◌, map, None, Ok, Err, length, refl, sym, ap, subst, ◌∙◌}
use Rattle.std.specs.Prelude.{IsTrue, IsFalse, not, ◌&&◌}
use Rattle.std.proofs.lemmas.Bool.{eqb-true, eq-eqb}
use Rattle.std.specs.List.{AllByRecursion, list_all, join_with_byte}
use Rattle.gk_line.specs.Characters.{line_feed}
use Rattle.gk_line.specs.declared.tokens.Block.{Block}
use Rattle.gk_line.specs.declared.tokens.Block.TheVariants as block
use Rattle.gk_document.specs.declared.tree.Cell.{Cell}
use Rattle.gk_document.specs.declared.tree.Fence.{Fence}
use Rattle.gk_document.specs.declared.tree.Fence.TheVariants as fence
use Rattle.gk_document.specs.MediaType.{unless_empty}
use Rattle.gk_grammar.specs.Token.{Utf8, TagText, Blank, Comment, Language, Tags, Title, Step, Row, Fenced, Other, Line, line}
use Rattle.gk_grammar.specs.Token as read
use Rattle.gk_grammar.specs.Tree as tree
use Rattle.gk_grammar.specs.Tree.{Location, Tag, DocString}
use Rattle.gk_grammar.specs.Machine.{same_text, tags_from}
use Rattle.gk_grammar.specs.Grammar as grammar
use Rattle.gk_grammar.specs.Grammar.{OneLine, IsGap, IsPlainGap, IsEnglish, IsTagLine, IsTitle, IsRow, IsDocString, IsStepLine, Closes, at, tag_at, place_and_name, english, comments_of, description_of, content_line}
use Rattle.gk_grammar.proofs.Sound.{same_text_is}
use Rattle.gk_plain.specs.declared.plain.Kind.{Kind}
use Rattle.gk_plain.specs.declared.plain.Kind.TheVariants as kind
use Rattle.gk_plain.specs.declared.plain.Part.{Part}
use Rattle.gk_plain.specs.declared.plain.Part.TheVariants as part
use Rattle.gk_plain.specs.declared.plain.Production.TheVariants as rule
use Rattle.gk_plain.specs.PlainLines as spec
use Rattle.gk_plain.specs.PlainLines.{is_line, is_heading, closes, is_doc_string, are_lines, begins, same_block}
use Rattle.gk_plain.specs.Plain.{kind_of, Has, IsHeading, Is, rule_of}

-- ---- both

pub and_apart : (a b : Bool) → (a && b) ≡ true → (a ≡ true) × (b ≡ true)
and_apart true b e = (refl, e)
and_apart false b e = absurd cc

pub and_together : (a b : Bool) → a ≡ true → b ≡ true → (a && b) ≡ true
and_together true b e f = f
and_together false b e f = absurd cc

pub not_true : (b : Bool) → not b ≡ true → b ≡ false
not_true true e = absurd cc
not_true false e = refl

pub not_false : (b : Bool) → b ≡ false → not b ≡ true
not_false true e = absurd cc
not_false false e = refl

-- ---- all lines

pub all_from : (P : Line → Type 0) (t : Kind → Bool) → ((l : Line) → t (kind_of l) ≡ true → P l) → (ls : List Line) → list_all t (map kind_of ls) ≡ true → AllByRecursion P ls
all_from P t f [] e = tt
all_from P t f (l ∷ ls) e = let b = and_apart (t (kind_of l)) (list_all t (map kind_of ls)) e in (f l b.0, all_from P t f ls b.1)

pub all_to : (P : Line → Type 0) (t : Kind → Bool) → ((l : Line) → P l → t (kind_of l) ≡ true) → (ls : List Line) → AllByRecursion P ls → list_all t (map kind_of ls) ≡ true
all_to P t f [] a = refl
all_to P t f (l ∷ ls) a = and_together (t (kind_of l)) (list_all t (map kind_of ls)) (f l a.0) (all_to P t f ls a.1)

-- a test of a language line
pub language_test : (t : Kind → Bool) (b : Bool) (word : Utf8) → t kind.English ≡ b → t kind.OtherLanguage ≡ b → t (cond (same_text word english) kind.English kind.OtherLanguage) ≡ b
language_test t b word e f = go (same_text word english)
  where
    go : (c : Bool) → t (cond c kind.English kind.OtherLanguage) ≡ b
    go true = e
    go false = f

gap_same : (l : Line) → spec.is_gap_kind (kind_of l) ≡ read.is_gap l
gap_same (line n t i Blank) = refl
gap_same (line n t i Comment) = refl
gap_same (line n t i (Tags (Ok ws))) = refl
gap_same (line n t i (Tags (Err column))) = refl
gap_same (line n t i (Title b k m)) = refl
gap_same (line n t i (Step k y m)) = refl
gap_same (line n t i (Row cells)) = refl
gap_same (line n t i (Fenced f media)) = refl
gap_same (line n t i Other) = refl
gap_same (line n t i (Language w)) = language_test spec.is_gap_kind true w refl refl

plain_same : (l : Line) → spec.is_plain (kind_of l) ≡ (not (read.is_language l) && read.is_gap l)
plain_same (line n t i Blank) = refl
plain_same (line n t i Comment) = refl
plain_same (line n t i (Tags (Ok ws))) = refl
plain_same (line n t i (Tags (Err column))) = refl
plain_same (line n t i (Title b k m)) = refl
plain_same (line n t i (Step k y m)) = refl
plain_same (line n t i (Row cells)) = refl
plain_same (line n t i (Fenced f media)) = refl
plain_same (line n t i Other) = refl
plain_same (line n t i (Language w)) = language_test spec.is_plain false w refl refl

stops_same : (b : Block) (l : Line) → spec.kind_stops b (kind_of l) ≡ grammar.stops b l
stops_same block.Feature (line n t i Blank) = refl
stops_same block.Feature (line n t i Comment) = refl
stops_same block.Feature (line n t i (Tags (Ok ws))) = refl
stops_same block.Feature (line n t i (Tags (Err column))) = refl
stops_same block.Feature (line n t i (Title block.Feature k m)) = refl
stops_same block.Feature (line n t i (Title block.Rule k m)) = refl
stops_same block.Feature (line n t i (Title block.Background k m)) = refl
stops_same block.Feature (line n t i (Title block.Scenario k m)) = refl
stops_same block.Feature (line n t i (Title block.Examples k m)) = refl
stops_same block.Feature (line n t i (Step k y m)) = refl
stops_same block.Feature (line n t i (Row cells)) = refl
stops_same block.Feature (line n t i (Fenced f media)) = refl
stops_same block.Feature (line n t i Other) = refl
stops_same block.Feature (line n t i (Language w)) = language_test (spec.kind_stops block.Feature) false w refl refl
stops_same block.Rule (line n t i Blank) = refl
stops_same block.Rule (line n t i Comment) = refl
stops_same block.Rule (line n t i (Tags (Ok ws))) = refl
stops_same block.Rule (line n t i (Tags (Err column))) = refl
stops_same block.Rule (line n t i (Title block.Feature k m)) = refl
stops_same block.Rule (line n t i (Title block.Rule k m)) = refl
stops_same block.Rule (line n t i (Title block.Background k m)) = refl
stops_same block.Rule (line n t i (Title block.Scenario k m)) = refl
stops_same block.Rule (line n t i (Title block.Examples k m)) = refl
stops_same block.Rule (line n t i (Step k y m)) = refl
stops_same block.Rule (line n t i (Row cells)) = refl
stops_same block.Rule (line n t i (Fenced f media)) = refl
stops_same block.Rule (line n t i Other) = refl
stops_same block.Rule (line n t i (Language w)) = language_test (spec.kind_stops block.Rule) false w refl refl
stops_same block.Background (line n t i Blank) = refl
stops_same block.Background (line n t i Comment) = refl
stops_same block.Background (line n t i (Tags (Ok ws))) = refl
stops_same block.Background (line n t i (Tags (Err column))) = refl
stops_same block.Background (line n t i (Title block.Feature k m)) = refl
stops_same block.Background (line n t i (Title block.Rule k m)) = refl
stops_same block.Background (line n t i (Title block.Background k m)) = refl
stops_same block.Background (line n t i (Title block.Scenario k m)) = refl
stops_same block.Background (line n t i (Title block.Examples k m)) = refl
stops_same block.Background (line n t i (Step k y m)) = refl
stops_same block.Background (line n t i (Row cells)) = refl
stops_same block.Background (line n t i (Fenced f media)) = refl
stops_same block.Background (line n t i Other) = refl
stops_same block.Background (line n t i (Language w)) = language_test (spec.kind_stops block.Background) false w refl refl
stops_same block.Scenario (line n t i Blank) = refl
stops_same block.Scenario (line n t i Comment) = refl
stops_same block.Scenario (line n t i (Tags (Ok ws))) = refl
stops_same block.Scenario (line n t i (Tags (Err column))) = refl
stops_same block.Scenario (line n t i (Title block.Feature k m)) = refl
stops_same block.Scenario (line n t i (Title block.Rule k m)) = refl
stops_same block.Scenario (line n t i (Title block.Background k m)) = refl
stops_same block.Scenario (line n t i (Title block.Scenario k m)) = refl
stops_same block.Scenario (line n t i (Title block.Examples k m)) = refl
stops_same block.Scenario (line n t i (Step k y m)) = refl
stops_same block.Scenario (line n t i (Row cells)) = refl
stops_same block.Scenario (line n t i (Fenced f media)) = refl
stops_same block.Scenario (line n t i Other) = refl
stops_same block.Scenario (line n t i (Language w)) = language_test (spec.kind_stops block.Scenario) false w refl refl
stops_same block.Examples (line n t i Blank) = refl
stops_same block.Examples (line n t i Comment) = refl
stops_same block.Examples (line n t i (Tags (Ok ws))) = refl
stops_same block.Examples (line n t i (Tags (Err column))) = refl
stops_same block.Examples (line n t i (Title block.Feature k m)) = refl
stops_same block.Examples (line n t i (Title block.Rule k m)) = refl
stops_same block.Examples (line n t i (Title block.Background k m)) = refl
stops_same block.Examples (line n t i (Title block.Scenario k m)) = refl
stops_same block.Examples (line n t i (Title block.Examples k m)) = refl
stops_same block.Examples (line n t i (Step k y m)) = refl
stops_same block.Examples (line n t i (Row cells)) = refl
stops_same block.Examples (line n t i (Fenced f media)) = refl
stops_same block.Examples (line n t i Other) = refl
stops_same block.Examples (line n t i (Language w)) = language_test (spec.kind_stops block.Examples) false w refl refl

fence_same : (f : Fence) (l : Line) → spec.is_fence_kind f (kind_of l) ≡ grammar.is_fence f l
fence_same fence.Quotes (line n t i Blank) = refl
fence_same fence.Quotes (line n t i Comment) = refl
fence_same fence.Quotes (line n t i (Tags (Ok ws))) = refl
fence_same fence.Quotes (line n t i (Tags (Err column))) = refl
fence_same fence.Quotes (line n t i (Title b k m)) = refl
fence_same fence.Quotes (line n t i (Step k y m)) = refl
fence_same fence.Quotes (line n t i (Row cells)) = refl
fence_same fence.Quotes (line n t i (Fenced fence.Quotes media)) = refl
fence_same fence.Quotes (line n t i (Fenced fence.Backticks media)) = refl
fence_same fence.Quotes (line n t i Other) = refl
fence_same fence.Quotes (line n t i (Language w)) = language_test (spec.is_fence_kind fence.Quotes) false w refl refl
fence_same fence.Backticks (line n t i Blank) = refl
fence_same fence.Backticks (line n t i Comment) = refl
fence_same fence.Backticks (line n t i (Tags (Ok ws))) = refl
fence_same fence.Backticks (line n t i (Tags (Err column))) = refl
fence_same fence.Backticks (line n t i (Title b k m)) = refl
fence_same fence.Backticks (line n t i (Step k y m)) = refl
fence_same fence.Backticks (line n t i (Row cells)) = refl
fence_same fence.Backticks (line n t i (Fenced fence.Quotes media)) = refl
fence_same fence.Backticks (line n t i (Fenced fence.Backticks media)) = refl
fence_same fence.Backticks (line n t i Other) = refl
fence_same fence.Backticks (line n t i (Language w)) = language_test (spec.is_fence_kind fence.Backticks) false w refl refl

same_block_is : (b c : Block) → same_block b c ≡ true → b ≡ c
same_block_is block.Feature block.Feature e = refl
same_block_is block.Feature block.Rule e = absurd cc
same_block_is block.Feature block.Background e = absurd cc
same_block_is block.Feature block.Scenario e = absurd cc
same_block_is block.Feature block.Examples e = absurd cc
same_block_is block.Rule block.Feature e = absurd cc
same_block_is block.Rule block.Rule e = refl
same_block_is block.Rule block.Background e = absurd cc
same_block_is block.Rule block.Scenario e = absurd cc
same_block_is block.Rule block.Examples e = absurd cc
same_block_is block.Background block.Feature e = absurd cc
same_block_is block.Background block.Rule e = absurd cc
same_block_is block.Background block.Background e = refl
same_block_is block.Background block.Scenario e = absurd cc
same_block_is block.Background block.Examples e = absurd cc
same_block_is block.Scenario block.Feature e = absurd cc
same_block_is block.Scenario block.Rule e = absurd cc
same_block_is block.Scenario block.Background e = absurd cc
same_block_is block.Scenario block.Scenario e = refl
same_block_is block.Scenario block.Examples e = absurd cc
same_block_is block.Examples block.Feature e = absurd cc
same_block_is block.Examples block.Rule e = absurd cc
same_block_is block.Examples block.Background e = absurd cc
same_block_is block.Examples block.Scenario e = absurd cc
same_block_is block.Examples block.Examples e = refl

same_block_refl : (b : Block) → same_block b b ≡ true
same_block_refl block.Feature = refl
same_block_refl block.Rule = refl
same_block_refl block.Background = refl
same_block_refl block.Scenario = refl
same_block_refl block.Examples = refl

tags_read : (n node : ℕ) (words : List TagText) → map place_and_name (tags_from n node words) ≡ map (tag_at n) words
tags_read n node [] = refl
tags_read n node (w ∷ ws) = ap (λ (r : List (Location × Utf8)). tag_at n w ∷ r) (tags_read n (node + 1) ws)

same_text_refl : (a : Utf8) → same_text a a ≡ true
same_text_refl [] = refl
same_text_refl (x ∷ xs) = ap (λ (b : Bool). cond b (same_text xs xs) false) (eq-eqb x x refl) ∙ same_text_refl xs

-- ---- gaps

gap_from : (ls : List Line) → list_all spec.is_gap_kind (map kind_of ls) ≡ true → IsGap ls (comments_of ls)
gap_from ls e = (all_from (λ l. IsTrue (read.is_gap l)) spec.is_gap_kind (λ l h. sym (gap_same l) ∙ h) ls e, refl)

gap_to : (ls : List Line) (cs : List tree.Comment) → IsGap ls cs → list_all spec.is_gap_kind (map kind_of ls) ≡ true
gap_to ls cs h = all_to (λ l. IsTrue (read.is_gap l)) spec.is_gap_kind (λ l g. gap_same l ∙ g) ls h.0

plain_from : (ls : List Line) → list_all spec.is_plain (map kind_of ls) ≡ true → IsPlainGap ls (comments_of ls)
plain_from ls e = (
  all_from (λ l. IsFalse (read.is_language l)) spec.is_plain (λ l h. not_true (read.is_language l) (and_apart (not (read.is_language l)) (read.is_gap l) (sym (plain_same l) ∙ h)).0) ls e,
  (all_from (λ l. IsTrue (read.is_gap l)) spec.is_plain (λ l h. (and_apart (not (read.is_language l)) (read.is_gap l) (sym (plain_same l) ∙ h)).1) ls e, refl),
)

plain_to : (ls : List Line) → AllByRecursion (λ l. IsFalse (read.is_language l)) ls → AllByRecursion (λ l. IsTrue (read.is_gap l)) ls → list_all spec.is_plain (map kind_of ls) ≡ true
plain_to [] a b = refl
plain_to (l ∷ ls) a b = and_together (spec.is_plain (kind_of l)) (list_all spec.is_plain (map kind_of ls)) (plain_same l ∙ and_together (not (read.is_language l)) (read.is_gap l) (not_false (read.is_language l) a.0) b.0) (plain_to ls a.1 b.1)

-- ---- parts of one line

line_from : {A : Type 0} (P : A → Line → Type 0) (p : Part) → ((l : Line) → begins p (kind_of l) ≡ true → (x : A) × P x l) → (ls : List Line) → is_line p (map kind_of ls) ≡ true → Has (λ (x : A). OneLine (P x)) ls
line_from P p f [] e = absurd cc
line_from P p f (l ∷ ls) e =
    let b = and_apart (begins p (kind_of l)) (list_all spec.is_gap_kind (map kind_of ls)) e in
    let x = f l b.0 in
    (x.0, comments_of ls, (x.1, gap_from ls b.1))

line_to : {A : Type 0} (P : A → Line → Type 0) (p : Part) → ((x : A) (l : Line) → P x l → begins p (kind_of l) ≡ true) → (ls : List Line) (x : A) (cs : List tree.Comment) → OneLine (P x) ls cs → is_line p (map kind_of ls) ≡ true
line_to P p f [] x cs h = absurd h
line_to P p f (l ∷ ls) x cs h = and_together (begins p (kind_of l)) (list_all spec.is_gap_kind (map kind_of ls)) (f x l h.0) (gap_to ls cs h.1)

english_from : (l : Line) → begins part.EnglishLine (kind_of l) ≡ true → (u : Unit {0}) × IsEnglish l
english_from (line n t i (Language w)) e = go (same_text w english) refl e
  where
    go : (b : Bool) → same_text w english ≡ b → begins part.EnglishLine (cond b kind.English kind.OtherLanguage) ≡ true → (u : Unit {0}) × (w ≡ english)
    go true h e = (tt, same_text_is w english h)
    go false h e = absurd cc
english_from (line n t i (Tags (Ok ws))) e = absurd cc
english_from (line n t i (Tags (Err column))) e = absurd cc
english_from (line n t i _) e = absurd cc

english_to : (u : Unit {0}) (l : Line) → IsEnglish l → begins part.EnglishLine (kind_of l) ≡ true
english_to u (line n t i (Language w)) h = ap (λ (b : Bool). begins part.EnglishLine (cond b kind.English kind.OtherLanguage)) (ap (λ (z : Utf8). same_text z english) h ∙ same_text_refl english)
english_to u (line n t i _) h = absurd h

language_begins_not : (p : Part) (w : Utf8) → begins p kind.English ≡ false → begins p kind.OtherLanguage ≡ false → begins p (cond (same_text w english) kind.English kind.OtherLanguage) ≡ true → ⊥
language_begins_not p w e f h = let g = language_test (begins p) false w e f in cc

tags_from_kind : (l : Line) → begins part.TagLine (kind_of l) ≡ true → (tags : List Tag) × IsTagLine tags l
tags_from_kind (line n t i (Tags (Ok ws))) e = (tags_from n 0 ws, tags_read n 0 ws)
tags_from_kind (line n t i (Tags (Err column))) e = absurd cc
tags_from_kind (line n t i (Language w)) e = absurd (language_begins_not part.TagLine w refl refl e)
tags_from_kind (line n t i _) e = absurd cc

tags_to_kind : (tags : List Tag) (l : Line) → IsTagLine tags l → begins part.TagLine (kind_of l) ≡ true
tags_to_kind tags (line n t i (Tags (Ok ws))) h = refl
tags_to_kind tags (line n t i (Tags (Err column))) h = absurd h
tags_to_kind tags (line n t i _) h = absurd h

step_from : (l : Line) → begins part.StepLine (kind_of l) ≡ true → (s : tree.Step) × IsStepLine s l
step_from (line n t i (Step k y m)) e = (record { node = 0; location = at n (i + 1); keyword = k; kind = y; text = m; argument = None }, (refl, refl, refl, refl))
step_from (line n t i (Tags (Ok ws))) e = absurd cc
step_from (line n t i (Tags (Err column))) e = absurd cc
step_from (line n t i (Language w)) e = absurd (language_begins_not part.StepLine w refl refl e)
step_from (line n t i _) e = absurd cc

step_to : (s : tree.Step) (l : Line) → IsStepLine s l → begins part.StepLine (kind_of l) ≡ true
step_to s (line n t i (Step k y m)) h = refl
step_to s (line n t i _) h = absurd h

row_from : (count : ℕ) (l : Line) → begins (part.Row count) (kind_of l) ≡ true → (r : tree.Row) × ((length r.cells ≡ count) × IsRow r l)
row_from count (line n t i (Row cells)) e = (record { node = 0; location = at n (i + 1); cells = cells }, (eqb-true (length cells) count e, (refl, refl)))
row_from count (line n t i (Tags (Ok ws))) e = absurd cc
row_from count (line n t i (Tags (Err column))) e = absurd cc
row_from count (line n t i (Language w)) e = absurd (language_begins_not (part.Row count) w refl refl e)
row_from count (line n t i _) e = absurd cc

row_to : (count : ℕ) (r : tree.Row) (l : Line) → (length r.cells ≡ count) × IsRow r l → begins (part.Row count) (kind_of l) ≡ true
row_to count r (line n t i (Row cells)) h = eq-eqb (length cells) count (ap (λ (z : List Cell). length z) (sym h.1.1) ∙ h.0)
row_to count r (line n t i _) h = absurd h.1

-- ---- headings

title_from : (b : Block) (l : Line) → spec.is_title b (kind_of l) ≡ true → (x : tree.Location × Utf8 × Utf8) × IsTitle b x.0 x.1 x.2 l
title_from b (line n t i (Title c k m)) e = ((at n (i + 1), k, m), (same_block_is c b e, refl, refl, refl))
title_from b (line n t i (Tags (Ok ws))) e = absurd cc
title_from b (line n t i (Tags (Err column))) e = absurd cc
title_from b (line n t i (Language w)) e = absurd (let g = language_test (spec.is_title b) false w refl refl in cc)
title_from b (line n t i _) e = absurd cc

title_to : (b : Block) (p : tree.Location) (k m : Utf8) (l : Line) → IsTitle b p k m l → spec.is_title b (kind_of l) ≡ true
title_to b p k m (line n t i (Title c x y)) h = subst (λ (z : Block). same_block z b ≡ true) (sym h.0) (same_block_refl b)
title_to b p k m (line n t i _) h = absurd h

heading_from : (b : Block) (ls : List Line) → is_heading b (map kind_of ls) ≡ true → Has (IsHeading b) ls
heading_from b [] e = absurd cc
heading_from b (l ∷ ls) e =
    let a = and_apart (spec.is_title b (kind_of l)) (list_all (spec.is_text b) (map kind_of ls)) e in
    let x = title_from b l a.0 in
    ((x.0.0, x.0.1, x.0.2, description_of ls), comments_of ls, (x.1, all_from (λ y. IsFalse (grammar.stops b y)) (spec.is_text b) (λ y h. sym (stops_same b y) ∙ not_true (spec.kind_stops b (kind_of y)) h) ls a.1, refl, refl))

heading_to : (b : Block) (ls : List Line) → Has (IsHeading b) ls → is_heading b (map kind_of ls) ≡ true
heading_to b [] h = absurd h.2
heading_to b (l ∷ ls) h = and_together (spec.is_title b (kind_of l)) (list_all (spec.is_text b) (map kind_of ls)) (title_to b h.0.0 h.0.1 h.0.2 l h.2.0) (all_to (λ y. IsFalse (grammar.stops b y)) (spec.is_text b) (λ y f. not_false (spec.kind_stops b (kind_of y)) (stops_same b y ∙ f)) ls h.2.1)

-- ---- doc strings

abbrev IsClosed : Fence → ℕ → List Line → Type 0
IsClosed f n ls = (content : Utf8) × (cs : List tree.Comment) × Closes f n content ls cs

closes_later : (f : Fence) (n : ℕ) (l : Line) (ls : List Line) → spec.is_fence_kind f (kind_of l) ≡ false → IsClosed f n ls → IsClosed f n (l ∷ ls)
closes_later f n l ls h c = (
  join_with_byte line_feed (map (content_line f n) (l ∷ c.2.inside)),
  c.1,
  record {
    inside = l ∷ c.2.inside;
    close = c.2.close;
    gap = c.2.gap;
    cut = ap (λ (z : List Line). l ∷ z) c.2.cut;
    open_yet = (sym (fence_same f l) ∙ h, c.2.open_yet);
    closed = c.2.closed;
    value = refl;
    gap_after = c.2.gap_after;
  },
)

closes_from : (f : Fence) (n : ℕ) (ls : List Line) → closes f (map kind_of ls) ≡ true → IsClosed f n ls
closes_from f n [] e = absurd cc
closes_from f n (l ∷ ls) e = go (spec.is_fence_kind f (kind_of l)) refl (closes_from f n ls) e
  where
    go : (b : Bool) → spec.is_fence_kind f (kind_of l) ≡ b → (closes f (map kind_of ls) ≡ true → IsClosed f n ls) → cond b (list_all spec.is_gap_kind (map kind_of ls)) (closes f (map kind_of ls)) ≡ true → IsClosed f n (l ∷ ls)
    go true h more e = (
      join_with_byte line_feed [],
      comments_of ls,
      record {
        inside = [];
        close = l;
        gap = ls;
        cut = refl;
        open_yet = tt;
        closed = sym (fence_same f l) ∙ h;
        value = refl;
        gap_after = gap_from ls e;
      },
    )
    go false h more e = closes_later f n l ls h (more e)

closes_to : (f : Fence) (inside : List Line) (close : Line) (gap : List Line) (cs : List tree.Comment) → AllByRecursion (λ l. IsFalse (grammar.is_fence f l)) inside → IsTrue (grammar.is_fence f close) → IsGap gap cs →
    closes f (map kind_of (inside ++ close ∷ gap)) ≡ true
closes_to f [] close gap cs a h g = ap (λ (b : Bool). cond b (list_all spec.is_gap_kind (map kind_of gap)) (closes f (map kind_of gap))) (fence_same f close ∙ h) ∙ gap_to gap cs g
closes_to f (l ∷ ls) close gap cs a h g = ap (λ (b : Bool). cond b (list_all spec.is_gap_kind (map kind_of (ls ++ close ∷ gap))) (closes f (map kind_of (ls ++ close ∷ gap)))) (fence_same f l ∙ a.0) ∙ closes_to f ls close gap cs a.1 h g

doc_string_from : (ls : List Line) → is_doc_string (map kind_of ls) ≡ true → Has IsDocString ls
doc_string_from [] e = absurd cc
doc_string_from (line n t i (Fenced f media) ∷ ls) e =
    let c = closes_from f i ls e in
    (record { location = at n (i + 1); media = unless_empty media; content = c.0; fence = f }, c.1, (refl, refl, refl, c.2))
doc_string_from (line n t i (Tags (Ok ws)) ∷ ls) e = absurd cc
doc_string_from (line n t i (Tags (Err column)) ∷ ls) e = absurd cc
doc_string_from (line n t i (Language w) ∷ ls) e = absurd (let g = language_test (λ (k : Kind). is_doc_string (k ∷ map kind_of ls)) false w refl refl in cc)
doc_string_from (line n t i _ ∷ ls) e = absurd cc

doc_string_to : (ls : List Line) (d : DocString) (cs : List tree.Comment) → IsDocString d ls cs → is_doc_string (map kind_of ls) ≡ true
doc_string_to [] d cs h = absurd h
doc_string_to (line n t i (Fenced f media) ∷ ls) d cs h =
    let c = h.3 in
    ap (λ (z : List Line). closes f (map kind_of z)) c.cut ∙ closes_to f c.inside c.close c.gap cs c.open_yet c.closed c.gap_after
doc_string_to (line n t i _ ∷ ls) d cs h = absurd h

-- ---- the parts that are cut no further

pub lines_are : (p : Part) → rule_of p ≡ rule.Lines → (ls : List Line) (ks : List Kind) → map kind_of ls ≡ ks → (b : Bool) → b ≡ are_lines p ks → IsTrue b ↔ Is p ls
lines_are p e ls ks m b r = (λ i. from p e (ap (are_lines p) m ∙ sym r ∙ i), λ i. r ∙ ap (are_lines p) (sym m) ∙ to p e i)
  where
    from : (p : Part) → rule_of p ≡ rule.Lines → are_lines p (map kind_of ls) ≡ true → Is p ls
    from part.PlainGap e h = (tt, comments_of ls, plain_from ls h)
    from part.EnglishLine e h = line_from (λ (u : Unit {0}). IsEnglish) part.EnglishLine english_from ls h
    from part.TagLine e h = line_from IsTagLine part.TagLine tags_from_kind ls h
    from part.StepLine e h = line_from IsStepLine part.StepLine step_from ls h
    from (part.Row count) e h = line_from (λ (r : tree.Row) l. (length r.cells ≡ count) × IsRow r l) (part.Row count) (row_from count) ls h
    from (part.Heading b) e h = heading_from b ls h
    from part.DocString e h = doc_string_from ls h
    from _ e h = absurd cc

    to : (p : Part) → rule_of p ≡ rule.Lines → Is p ls → are_lines p (map kind_of ls) ≡ true
    to part.PlainGap e h = plain_to ls h.2.0 h.2.1.0
    to part.EnglishLine e h = line_to (λ (u : Unit {0}). IsEnglish) part.EnglishLine english_to ls h.0 h.1 h.2
    to part.TagLine e h = line_to IsTagLine part.TagLine tags_to_kind ls h.0 h.1 h.2
    to part.StepLine e h = line_to IsStepLine part.StepLine step_to ls h.0 h.1 h.2
    to (part.Row count) e h = line_to (λ (r : tree.Row) l. (length r.cells ≡ count) × IsRow r l) (part.Row count) (row_to count) ls h.0 h.1 h.2
    to (part.Heading b) e h = heading_to b ls h
    to part.DocString e h = doc_string_to ls h.0 h.1 h.2
    to _ e h = absurd cc
