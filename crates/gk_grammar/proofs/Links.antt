-- The flat blocks that the machine makes follow one another.
use Rattle.std.proofs.Common.{◌≡◌, ℕ, true, List, [], ◌∷◌, ◌++◌, length, Option, Some, None, Ok, Err, refl, ap, ◌∙◌}
use Rattle.std.specs.Prelude.{IfOk, ◌==◌}
use Rattle.gk_document.specs.declared.tree.Cell.{Cell}
use Rattle.gk_line.specs.declared.tokens.Block.{Block}
use Rattle.gk_line.specs.declared.tokens.Block.TheVariants as block
use Rattle.gk_grammar.specs.Token.{Utf8, Blank, Comment, Language, Tags, Title, Step, Row, Fenced, Other, Line, line}
use Rattle.gk_grammar.specs.Tree as tree
use Rattle.gk_grammar.specs.Tree.{Tag, Argument}
use Rattle.gk_document.specs.declared.tree.Argument.TheVariants.{Table, Text as Quoted}
use Rattle.gk_grammar.specs.Grammar.{stops, is_fence, english}
use Rattle.gk_grammar.specs.Machine.{FlatBlock, Phase, Start, AfterLanguage, AfterTags, InDescription, AfterStep, InDocString, InExamplesTable, State, follows, takes_tags, at_phase, close_block, after_step, in_examples_table, after_description, after_tags, before_first_block, at_start, after_language, same_text, step_row, step_fence, count_of, with_description, with_steps, with_rows}
use Rattle.gk_grammar.proofs.Open.{cond_ok}
use Rattle.gk_grammar.proofs.Whole.{Linked}

-- the block of the last flat block
abbrev pub last_of : Option Block → List FlatBlock → Option Block
last_of before [] = before
last_of before (c ∷ cs) = last_of (Some c.block) cs

pub linked_more : (before : Option Block) (cs : List FlatBlock) (c : FlatBlock) → Linked before cs → follows (last_of before cs) c.block ≡ true → Linked before (cs ++ c ∷ []) × (last_of before (cs ++ c ∷ []) ≡ Some c.block)
linked_more before [] c l f = ((f, tt), refl)
linked_more before (x ∷ xs) c l f = let r = linked_more (Some x.block) xs c l.1 f in ((l.0, r.0), r.1)

abbrev pub PhaseFollows : List FlatBlock → Phase → Type 0
PhaseFollows cs Start = last_of None cs ≡ None
PhaseFollows cs AfterLanguage = last_of None cs ≡ None
PhaseFollows cs (AfterTags before tags) = last_of None cs ≡ before
PhaseFollows cs (InDescription c ls) = follows (last_of None cs) c.block ≡ true
PhaseFollows cs (AfterStep c before last) = follows (last_of None cs) c.block ≡ true
PhaseFollows cs (InDocString c before last q inside) = follows (last_of None cs) c.block ≡ true
PhaseFollows cs (InExamplesTable c rows) = follows (last_of None cs) c.block ≡ true

abbrev pub StateFollows : State → Type 0
StateFollows s = Linked None s.flat_blocks × PhaseFollows s.flat_blocks s.phase

leaving_follows : (s : State) (c : FlatBlock) (l : Line) → Linked None s.flat_blocks → follows (last_of None s.flat_blocks) c.block ≡ true → IfOk (close_block s c l) StateFollows
leaving_follows s c (line n t i (Tags (Ok words))) h f = linked_more None s.flat_blocks c h f
leaving_follows s c (line n t i (Tags (Err column))) h f = tt
leaving_follows s c (line n t i (Title b k m)) h f =
    let r = linked_more None s.flat_blocks c h f in
    cond_ok StateFollows (follows (Some c.block) b) _ _ (λ e. (r.0, ap (λ (z : Option Block). follows z b) r.1 ∙ e)) (λ _. tt)
leaving_follows s c (line n t i _) h f = tt

row_follows : (s : State) (c : FlatBlock) (before : List tree.Step) (last : tree.Step) (a : Option Argument) (n i : ℕ) (cells : List Cell) → Linked None s.flat_blocks → follows (last_of None s.flat_blocks) c.block ≡ true → IfOk (step_row s c before last a n i cells) StateFollows
row_follows s c before last None n i cells h f = (h, f)
row_follows s c before last (Some (Table rows)) n i cells h f = cond_ok StateFollows (length cells == count_of rows) _ _ (λ _. (h, f)) (λ _. tt)
row_follows s c before last (Some (Quoted d)) n i cells h f = tt

fence_follows : (s : State) (c : FlatBlock) (before : List tree.Step) (last : tree.Step) (a : Option Argument) (n i : ℕ) (q : _) (media : Utf8) → Linked None s.flat_blocks → follows (last_of None s.flat_blocks) c.block ≡ true → IfOk (step_fence s c before last a n i q media) StateFollows
fence_follows s c before last None n i q media h f = (h, f)
fence_follows s c before last (Some a) n i q media h f = tt

stepping_follows : (s : State) (c : FlatBlock) (before : List tree.Step) (last : tree.Step) (l : Line) → Linked None s.flat_blocks → follows (last_of None s.flat_blocks) c.block ≡ true → IfOk (after_step s c before last l) StateFollows
stepping_follows s c before last (line n t i (Step k y m)) h f = (h, f)
stepping_follows s c before last (line n t i (Row cells)) h f = row_follows s c before last last.argument n i cells h f
stepping_follows s c before last (line n t i (Fenced q media)) h f = fence_follows s c before last last.argument n i q media h f
stepping_follows s c before last (line n t i Blank) h f = (h, f)
stepping_follows s c before last (line n t i Comment) h f = (h, f)
stepping_follows s c before last (line n t i (Language w)) h f = (h, f)
stepping_follows s c before last (line n t i (Tags r)) h f = leaving_follows s (with_steps c (before ++ last ∷ [])) (line n t i (Tags r)) h f
stepping_follows s c before last (line n t i (Title b k m)) h f = leaving_follows s (with_steps c (before ++ last ∷ [])) (line n t i (Title b k m)) h f
stepping_follows s c before last (line n t i Other) h f = tt

listing_follows : (s : State) (c : FlatBlock) (rows : List tree.Row) (l : Line) → Linked None s.flat_blocks → follows (last_of None s.flat_blocks) c.block ≡ true → IfOk (in_examples_table s c rows l) StateFollows
listing_follows s c rows (line n t i (Row cells)) h f = cond_ok StateFollows (length cells == count_of rows) _ _ (λ _. (h, f)) (λ _. tt)
listing_follows s c rows (line n t i Blank) h f = (h, f)
listing_follows s c rows (line n t i Comment) h f = (h, f)
listing_follows s c rows (line n t i (Language w)) h f = (h, f)
listing_follows s c rows (line n t i (Tags r)) h f = leaving_follows s (with_rows c rows) (line n t i (Tags r)) h f
listing_follows s c rows (line n t i (Title b k m)) h f = leaving_follows s (with_rows c rows) (line n t i (Title b k m)) h f
listing_follows s c rows (line n t i _) h f = tt

entering_follows : (s : State) (c : FlatBlock) (l : Line) → Linked None s.flat_blocks → follows (last_of None s.flat_blocks) c.block ≡ true → IfOk (after_description s c l) StateFollows
entering_follows s c (line n t i (Step k y m)) h f = (h, f)
entering_follows s c (line n t i (Row cells)) h f = (h, f)
entering_follows s c (line n t i (Tags r)) h f = leaving_follows s c (line n t i (Tags r)) h f
entering_follows s c (line n t i (Title b k m)) h f = leaving_follows s c (line n t i (Title b k m)) h f
entering_follows s c (line n t i _) h f = tt

after_tags_follows : (s : State) (before : Option Block) (tags : List Tag) (l : Line) → Linked None s.flat_blocks → last_of None s.flat_blocks ≡ before → IfOk (after_tags s before tags l) StateFollows
after_tags_follows s before tags (line n t i Blank) h f = (h, f)
after_tags_follows s before tags (line n t i Comment) h f = (h, f)
after_tags_follows s before tags (line n t i (Language w)) h f = (h, f)
after_tags_follows s before tags (line n t i (Tags (Ok words))) h f = (h, f)
after_tags_follows s before tags (line n t i (Tags (Err column))) h f = tt
after_tags_follows s before tags (line n t i (Title b k m)) h f =
    cond_ok StateFollows (follows before b) _ _ (λ e. cond_ok StateFollows (takes_tags b) _ _ (λ _. (h, ap (λ (z : Option Block). follows z b) f ∙ e)) (λ _. tt)) (λ _. tt)
after_tags_follows s before tags (line n t i _) h f = tt

beginning_follows : (s : State) (p : Phase) (l : Line) → Linked None s.flat_blocks → last_of None s.flat_blocks ≡ None → PhaseFollows s.flat_blocks p → IfOk (before_first_block s p l) StateFollows
beginning_follows s p (line n t i Blank) h f g = (h, g)
beginning_follows s p (line n t i Comment) h f g = (h, g)
beginning_follows s p (line n t i (Tags (Ok words))) h f g = (h, f)
beginning_follows s p (line n t i (Tags (Err column))) h f g = tt
beginning_follows s p (line n t i (Title block.Feature k m)) h f g = (h, ap (λ (z : Option Block). follows z block.Feature) f)
beginning_follows s p (line n t i (Title _ k m)) h f g = tt
beginning_follows s p (line n t i _) h f g = tt

before_feature_follows : (s : State) (l : Line) → Linked None s.flat_blocks → last_of None s.flat_blocks ≡ None → IfOk (at_start s l) StateFollows
before_feature_follows s (line n t i (Language w)) h f = cond_ok StateFollows (same_text w english) _ _ (λ _. (h, f)) (λ _. tt)
before_feature_follows s (line n t i k) h f = beginning_follows s Start (line n t i k) h f f

spoken_follows : (s : State) (l : Line) → Linked None s.flat_blocks → last_of None s.flat_blocks ≡ None → IfOk (after_language s l) StateFollows
spoken_follows s (line n t i (Language w)) h f = (h, f)
spoken_follows s (line n t i k) h f = beginning_follows s AfterLanguage (line n t i k) h f f

pub at_phase_follows : (s : State) (p : Phase) (l : Line) → Linked None s.flat_blocks → PhaseFollows s.flat_blocks p → IfOk (at_phase s p l) StateFollows
at_phase_follows s Start l h f = before_feature_follows s l h f
at_phase_follows s AfterLanguage l h f = spoken_follows s l h f
at_phase_follows s (AfterTags before tags) l h f = after_tags_follows s before tags l h f
at_phase_follows s (InDescription c ls) l h f = cond_ok StateFollows (stops c.block l) _ _ (λ _. entering_follows s (with_description c ls) l h f) (λ _. (h, f))
at_phase_follows s (AfterStep c before last) l h f = stepping_follows s c before last l h f
at_phase_follows s (InDocString c before last q inside) l h f = cond_ok StateFollows (is_fence q.fence l) _ _ (λ _. (h, f)) (λ _. (h, f))
at_phase_follows s (InExamplesTable c rows) l h f = listing_follows s c rows l h f
