-- What the machine takes is a text of the grammar.
use Rattle.std.proofs.Common.{◌≡◌, ℕ, Bool, true, false, eqb, List, [], ◌∷◌, ◌++◌, Option, Some, None, Result, Ok, Err, refl, sym, ap, ◌∙◌, append_assoc, append-nil, inl, inr}
use Rattle.std.proofs.lemmas.Bool.{eqb-true}
use Rattle.std.specs.Prelude.{IfOk, IsTrue, IsFalse, cond, ◌==◌, ◌&&◌}
use Rattle.std.specs.Cmp.Lexicographic.{pointwise}
use Rattle.gk_line.specs.declared.tokens.Block.{Block}
use Rattle.gk_line.specs.declared.tokens.Block.TheVariants as block
use Rattle.gk_grammar.specs.Token.{Utf8, Blank, Comment, Language, Tags, Title, Step, Row, Fenced, Other, Line, line, is_gap, is_language}
use Rattle.gk_grammar.specs.Tree as tree
use Rattle.gk_grammar.specs.Tree.{Tag}
use Rattle.gk_grammar.specs.Grammar.{Then, Each, OneLine, comments_of, TagLines, TitleAndDescription, stops, description_of, IsStep, IsTable, IsPlainGap, IsOpening, IsEnglish, english}
use Rattle.gk_grammar.specs.Machine.{FlatBlock, Phase, Start, AfterLanguage, AfterTags, InDescription, AfterStep, InDocString, InExamplesTable, State, PlacedFault, next, at_phase, run, ◌>>=◌, initial_state, blocks_at_end, with_description, after_description, empty_body, step_at, row_at, same_text, before_first_block, at_start, after_language, after_tags, pass_over, follows, takes_tags}
use Rattle.gk_grammar.proofs.Pieces.{extended, mapped, joined, then_empty, with_line, lengthened, gap_takes, one_line_takes, all_more, comments_of-append}
use Rattle.gk_grammar.proofs.Open.{IsBody, has_steps, IsHead, IsFlatBlock, TitledYet, IsOpen, IsDone, Holds, StateHolds, step_line, one_row, cond_ok, FlatBlockTags, flat_block_tags, SomeTagLines, some_are, tags_take, no_tags, title_opens, tags_open, leaving_holds, stepping_holds, quoting_holds, listing_holds}

-- ---- after a title line

head_is : (c : FlatBlock) (lines : List Line) (ls : List Line) (cs : List tree.Comment) → Then (FlatBlockTags c.block c.tags) (TitledYet c lines) ls cs → IsHead (with_description c lines) ls cs
head_is c lines ls cs t = mapped (FlatBlockTags c.block c.tags) (TitledYet c lines) (TitleAndDescription c.block c.place c.keyword c.name (description_of lines)) (λ xs ys q. go xs ys q) ls cs t
  where
    go : (xs : List Line) (ys : List tree.Comment) → TitledYet c lines xs ys → TitleAndDescription c.block c.place c.keyword c.name (description_of lines) xs ys
    go [] ys q = absurd q
    go (x ∷ xs) ys q = (q.0, q.1, ap description_of q.2, q.3)

titled_more : (c : FlatBlock) (lines : List Line) (l : Line) → IsFalse (stops c.block l) →
    (xs : List Line) (ys : List tree.Comment) → TitledYet c lines xs ys → TitledYet c (lines ++ l ∷ []) (xs ++ l ∷ []) (ys ++ comments_of (l ∷ []))
titled_more c lines l h [] ys q = absurd q
titled_more c lines l h (x ∷ xs) ys q =
    (q.0, all_more (λ z. IsFalse (stops c.block z)) xs l q.1 h, ap (λ (z : List Line). z ++ l ∷ []) q.2, ap (λ (z : List tree.Comment). z ++ comments_of (l ∷ [])) q.3 ∙ sym (comments_of-append xs (l ∷ [])))

step_stops : (b : Block) (n i : ℕ) (t k m : Utf8) (y : _) → stops b (line n t i (Step k y m)) ≡ true → IsTrue (has_steps b)
step_stops block.Background n i t k m y e = refl
step_stops block.Scenario n i t k m y e = refl
step_stops block.Feature n i t k m y e = absurd cc
step_stops block.Rule n i t k m y e = absurd cc
step_stops block.Examples n i t k m y e = absurd cc

row_stops : (b : Block) (n i : ℕ) (t : Utf8) (cells : _) → stops b (line n t i (Row cells)) ≡ true → b ≡ block.Examples
row_stops block.Examples n i t cells e = refl
row_stops block.Background n i t cells e = absurd cc
row_stops block.Scenario n i t cells e = absurd cc
row_stops block.Feature n i t cells e = absurd cc
row_stops block.Rule n i t cells e = absurd cc

no_body : (b : Block) → IsBody b (empty_body b) [] []
no_body block.Feature = (refl, refl)
no_body block.Rule = (refl, refl)
no_body block.Background = (refl, refl)
no_body block.Scenario = (refl, refl)
no_body block.Examples = (refl, refl)

-- a block that ends with its description
pub description_closes : (s : State) (c : FlatBlock) (lines ls : List Line) →
    Then (IsDone s.flat_blocks) (IsOpen (InDescription c lines)) ls s.comments → Then (IsDone s.flat_blocks) (IsFlatBlock (with_description c lines)) ls s.comments
description_closes s c lines ls h =
    mapped (IsDone s.flat_blocks) (IsOpen (InDescription c lines)) (IsFlatBlock (with_description c lines))
    (λ xs ys q. then_empty (IsHead (with_description c lines)) (IsBody c.block c.body) xs ys (head_is c lines xs ys q.1) (rw q.0 (no_body c.block))) ls s.comments h

entering_holds : (s : State) (c : FlatBlock) (lines : List Line) (l : Line) (ls : List Line) → stops c.block l ≡ true →
    Then (IsDone s.flat_blocks) (IsOpen (InDescription c lines)) ls s.comments → IfOk (after_description s (with_description c lines) l) (StateHolds (ls ++ l ∷ []))
entering_holds s c lines (line n t i (Step k y m)) ls e h =
    lengthened (IsDone s.flat_blocks) (IsOpen (InDescription c lines)) (IsOpen (AfterStep (with_description c lines) [] (step_at s n i k y m))) (line n t i (Step k y m))
    (λ xs ys q. (
      step_stops c.block n i t k m y e,
      joined (IsHead (with_description c lines)) (Then (Each IsStep []) (IsStep (step_at s n i k y m))) xs (line n t i (Step k y m) ∷ []) ys []
          (head_is c lines xs ys q.1) (joined (Each IsStep []) (IsStep (step_at s n i k y m)) [] (line n t i (Step k y m) ∷ []) [] [] (refl, refl) (step_line (step_at s n i k y m) (line n t i (Step k y m)) (refl, refl, refl, refl) refl)),
    )) ls s.comments h
entering_holds s c lines (line n t i (Row cells)) ls e h =
    lengthened (IsDone s.flat_blocks) (IsOpen (InDescription c lines)) (IsOpen (InExamplesTable (with_description c lines) (row_at s n i cells ∷ []))) (line n t i (Row cells))
    (λ xs ys q. (
      row_stops c.block n i t cells e,
      joined (IsHead (with_description c lines)) (IsTable (row_at s n i cells ∷ [])) xs (line n t i (Row cells) ∷ []) ys []
          (head_is c lines xs ys q.1) (one_row (row_at s n i cells) (line n t i (Row cells)) (refl, refl)),
    )) ls s.comments h
entering_holds s c lines (line n t i Blank) ls e h = tt
entering_holds s c lines (line n t i Comment) ls e h = tt
entering_holds s c lines (line n t i (Language w)) ls e h = tt
entering_holds s c lines (line n t i (Tags r)) ls e h = leaving_holds s (with_description c lines) (line n t i (Tags r)) ls (description_closes s c lines ls h)
entering_holds s c lines (line n t i (Title b k m)) ls e h = leaving_holds s (with_description c lines) (line n t i (Title b k m)) ls (description_closes s c lines ls h)
entering_holds s c lines (line n t i (Fenced f m)) ls e h = tt
entering_holds s c lines (line n t i Other) ls e h = tt

described_holds : (s : State) (c : FlatBlock) (lines : List Line) (l : Line) (ls : List Line) →
    Then (IsDone s.flat_blocks) (IsOpen (InDescription c lines)) ls s.comments → IfOk (at_phase s (InDescription c lines) l) (StateHolds (ls ++ l ∷ []))
described_holds s c lines l ls h =
    cond_ok (StateHolds (ls ++ l ∷ [])) (stops c.block l) _ _
    (λ test. entering_holds s c lines l ls test h)
    (λ test. extended (IsDone s.flat_blocks) (IsOpen (InDescription c lines)) (IsOpen (InDescription c (lines ++ l ∷ []))) (l ∷ []) (comments_of (l ∷ []))
    (λ xs ys q. (q.0, extended (FlatBlockTags c.block c.tags) (TitledYet c lines) (TitledYet c (lines ++ l ∷ [])) (l ∷ []) (comments_of (l ∷ [])) (λ us vs r. titled_more c lines l test us vs r) xs ys q.1)) ls s.comments h)

-- ---- after tag lines

tags_gap : (s : State) (before : Option Block) (tags : List Tag) (l : Line) → IsTrue (is_gap l) → (ls : List Line) →
    Then (IsDone s.flat_blocks) (IsOpen (AfterTags before tags)) ls s.comments → StateHolds (ls ++ l ∷ []) (pass_over s (AfterTags before tags) l)
tags_gap s before tags l g ls h = extended (IsDone s.flat_blocks) (SomeTagLines tags) (SomeTagLines tags) (l ∷ []) (comments_of (l ∷ [])) (λ xs ys q. tags_take tags xs ys l g q) ls s.comments h

some_tags : (s : State) (tags : List Tag) (ls : List Line) → Then (IsDone s.flat_blocks) (SomeTagLines tags) ls s.comments → Then (IsDone s.flat_blocks) (TagLines tags) ls s.comments
some_tags s tags ls h = mapped (IsDone s.flat_blocks) (SomeTagLines tags) (TagLines tags) (λ xs ys q. some_are tags xs ys q) ls s.comments h

after_tags_holds : (s : State) (before : Option Block) (tags : List Tag) (l : Line) (ls : List Line) →
    Then (IsDone s.flat_blocks) (SomeTagLines tags) ls s.comments → IfOk (after_tags s before tags l) (StateHolds (ls ++ l ∷ []))
after_tags_holds s before tags (line n t i Blank) ls h = tags_gap s before tags (line n t i Blank) refl ls h
after_tags_holds s before tags (line n t i Comment) ls h = tags_gap s before tags (line n t i Comment) refl ls h
after_tags_holds s before tags (line n t i (Language w)) ls h = tags_gap s before tags (line n t i (Language w)) refl ls h
after_tags_holds s before tags (line n t i (Tags (Ok words))) ls h = tags_open s s.flat_blocks before tags n i t words ls (some_tags s tags ls h)
after_tags_holds s before tags (line n t i (Tags (Err column))) ls h = tt
after_tags_holds s before tags (line n t i (Title b k m)) ls h =
    cond_ok (StateHolds (ls ++ line n t i (Title b k m) ∷ [])) (follows before b) _ _
    (λ _. cond_ok (StateHolds (ls ++ line n t i (Title b k m) ∷ [])) (takes_tags b) _ _ (λ takes. title_opens s s.flat_blocks b tags n i t k m ls (mapped (IsDone s.flat_blocks) (TagLines tags) (FlatBlockTags b tags) (λ xs ys q. flat_block_tags b tags takes xs ys q) ls s.comments (some_tags s tags ls h))) (λ _. tt)) (λ _. tt)
after_tags_holds s before tags (line n t i _) ls h = tt

-- ---- before the feature

-- texts of the same bytes, as std compares lists
pub same_text_pointwise : (a b : List ℕ) → pointwise eqb a b ≡ same_text a b
same_text_pointwise [] [] = refl
same_text_pointwise [] (y ∷ ys) = refl
same_text_pointwise (x ∷ xs) [] = refl
same_text_pointwise (x ∷ xs) (y ∷ ys) = go (eqb x y) (same_text_pointwise xs ys)
  where
    go : (b : Bool) → pointwise eqb xs ys ≡ same_text xs ys → (b && pointwise eqb xs ys) ≡ cond b (same_text xs ys) false
    go true h = h
    go false h = refl

pub same_text_is : (a b : Utf8) → same_text a b ≡ true → a ≡ b
same_text_is [] [] e = refl
same_text_is [] (y ∷ ys) e = absurd cc
same_text_is (x ∷ xs) [] e = absurd cc
same_text_is (x ∷ xs) (y ∷ ys) e = go (x == y) refl e (same_text_is xs ys)
  where
    go : (t : Bool) → (x == y) ≡ t → cond t (same_text xs ys) false ≡ true → (same_text xs ys ≡ true → xs ≡ ys) → (x ∷ xs) ≡ (y ∷ ys)
    go true p q h = let first : x ≡ y = eqb-true x y p in let others : xs ≡ ys = h q in cc
    go false p q h = absurd cc

plain_takes : (l : Line) → IsTrue (is_gap l) → IsFalse (is_language l) → (xs : List Line) (ys : List tree.Comment) → IsPlainGap xs ys → IsPlainGap (xs ++ l ∷ []) (ys ++ comments_of (l ∷ []))
plain_takes l g h xs ys q = (all_more (λ z. IsFalse (is_language z)) xs l q.0 h, gap_takes xs ys l g q.1)

-- nothing but the lines before the feature
opening_done : (flat_blocks : List FlatBlock) → flat_blocks ≡ [] → (ls : List Line) (cs : List tree.Comment) → IsOpening ls cs → Then (IsDone flat_blocks) (TagLines []) ls cs
opening_done flat_blocks e ls cs h = then_empty (IsDone flat_blocks) (TagLines []) ls cs (then_empty IsOpening (Each IsFlatBlock flat_blocks) ls cs h (rw e (refl, refl))) no_tags

beginning_holds : (s : State) (p : Phase) (l : Line) (ls : List Line) → s.flat_blocks ≡ [] → IsOpening ls s.comments →
    (IsTrue (is_gap l) → IsFalse (is_language l) → StateHolds (ls ++ l ∷ []) (pass_over s p l)) → IfOk (before_first_block s p l) (StateHolds (ls ++ l ∷ []))
beginning_holds s p (line n t i Blank) ls e h g = g refl refl
beginning_holds s p (line n t i Comment) ls e h g = g refl refl
beginning_holds s p (line n t i (Tags (Ok words))) ls e h g = tags_open s s.flat_blocks None [] n i t words ls (opening_done s.flat_blocks e ls s.comments h)
beginning_holds s p (line n t i (Tags (Err column))) ls e h g = tt
beginning_holds s p (line n t i (Title block.Feature k m)) ls e h g = title_opens s s.flat_blocks block.Feature [] n i t k m ls (opening_done s.flat_blocks e ls s.comments h)
beginning_holds s p (line n t i (Title _ k m)) ls e h g = tt
beginning_holds s p (line n t i _) ls e h g = tt

before_holds : (s : State) (l : Line) (ls : List Line) → s.flat_blocks ≡ [] → IsPlainGap ls s.comments → IfOk (at_start s l) (StateHolds (ls ++ l ∷ []))
before_holds s (line n t i (Language w)) ls e h =
    cond_ok (StateHolds (ls ++ line n t i (Language w) ∷ [])) (same_text w english) _ _
    (λ test. (e, with_line IsPlainGap (OneLine IsEnglish) (line n t i (Language w)) (same_text_is w english test, (tt, refl)) ls s.comments h))
    (λ _. tt)
before_holds s (line n t i k) ls e h = beginning_holds s Start (line n t i k) ls e (inl h) (λ g f. (e, plain_takes (line n t i k) g f ls s.comments h))

spoken_gap : (s : State) (l : Line) → IsTrue (is_gap l) → (ls : List Line) → s.flat_blocks ≡ [] → Then IsPlainGap (OneLine IsEnglish) ls s.comments → StateHolds (ls ++ l ∷ []) (pass_over s AfterLanguage l)
spoken_gap s l g ls e h = (e, extended IsPlainGap (OneLine IsEnglish) (OneLine IsEnglish) (l ∷ []) (comments_of (l ∷ [])) (λ xs ys q. one_line_takes IsEnglish xs ys l g q) ls s.comments h)

spoken_holds : (s : State) (l : Line) (ls : List Line) → s.flat_blocks ≡ [] → Then IsPlainGap (OneLine IsEnglish) ls s.comments → IfOk (after_language s l) (StateHolds (ls ++ l ∷ []))
spoken_holds s (line n t i (Language w)) ls e h = spoken_gap s (line n t i (Language w)) refl ls e h
spoken_holds s (line n t i k) ls e h = beginning_holds s AfterLanguage (line n t i k) ls e (inr h) (λ g f. spoken_gap s (line n t i k) g ls e h)

-- ---- any line

at_phase_holds : (s : State) (p : Phase) (l : Line) (ls : List Line) → Holds p s.flat_blocks ls s.comments → IfOk (at_phase s p l) (StateHolds (ls ++ l ∷ []))
at_phase_holds s Start l ls h = before_holds s l ls h.0 h.1
at_phase_holds s AfterLanguage l ls h = spoken_holds s l ls h.0 h.1
at_phase_holds s (AfterTags before tags) l ls h = after_tags_holds s before tags l ls h
at_phase_holds s (InDescription c lines) l ls h = described_holds s c lines l ls h
at_phase_holds s (AfterStep c before last) l ls h = stepping_holds s c before last l ls h
at_phase_holds s (InDocString c before last q inside) l ls h = quoting_holds s c before last q inside l ls h
at_phase_holds s (InExamplesTable c rows) l ls h = listing_holds s c rows l ls h

pub run_holds : (ls : List Line) (s : State) (read : List Line) → StateHolds read s → IfOk (run s ls) (StateHolds (read ++ ls))
run_holds [] s read h = rw append-nil h
run_holds (l ∷ ls) s read h = go (λ x q. run_holds ls x (read ++ l ∷ []) q) (next s l) (at_phase_holds s s.phase l read h)
  where
    go : ((x : State) → StateHolds (read ++ l ∷ []) x → IfOk (run x ls) (StateHolds ((read ++ l ∷ []) ++ ls))) →
        (r : Result State PlacedFault) → IfOk r (StateHolds (read ++ l ∷ [])) → IfOk (r >>= λ x. run x ls) (StateHolds (read ++ l ∷ ls))
    go f (Ok x) q = rw append_assoc at (f x q)
    go f (Err e) q = tt

-- at the start
pub starts : StateHolds [] initial_state
starts = (refl, (tt, (tt, refl)))

-- ---- the end

pub ended : State → List FlatBlock → Type 0
ended s last = blocks_at_end s.phase ≡ Some last
