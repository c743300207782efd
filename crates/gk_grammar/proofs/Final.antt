-- The machine takes each text of the grammar whole, and makes its flat blocks, comments and numbers; and no other.
use Rattle.std.proofs.Common.{◌≡◌, ℕ, ◌+◌, List, [], ◌∷◌, ◌++◌, length, Option, Some, None, Result, Ok, Err, refl, sym, ap, subst, ◌∙◌, append-nil, arith, inl, inr}
use Rattle.std.specs.Prelude.{IfOk, ◌⊎◌}
use Rattle.gk_grammar.specs.Token.{Line}
use Rattle.gk_grammar.specs.Tree as tree
use Rattle.gk_grammar.specs.Tree.{Feature}
use Rattle.gk_grammar.specs.Grammar.{Piece, Then, IsPlainGap, IsFeatureText}
use Rattle.gk_grammar.specs.Machine.{FlatBlock, Phase, Start, AfterLanguage, AfterTags, InDescription, AfterStep, InDocString, InExamplesTable, State, PlacedFault, run, blocks_at_end, initial_state, with_description, with_steps, with_rows, ◌>>=◌}
use Rattle.gk_grammar.specs.Place.{Completion, completion_lines}
use Rattle.gk_grammar.proofs.Open.{IsFlatBlock, IsDone, Holds, StateHolds, done_more, steps_close, rows_close}
use Rattle.gk_grammar.proofs.Sound.{run_holds, starts, description_closes}
use Rattle.gk_grammar.proofs.Complete.{state_of}
use Rattle.gk_grammar.proofs.Whole.{FlatBlocksCount, flat_blocks_pass, flat_blocks_count}
use Rattle.gk_grammar.proofs.Live.{opening_passes, run_plain, completes, run-append}
use Rattle.gk_grammar.proofs.Trees.{feature_flat_blocks, feature_to, feature_linked}

-- the flat blocks of a document
abbrev pub flat_blocks_of : Option Feature → List FlatBlock
flat_blocks_of None = []
flat_blocks_of (Some f) = feature_flat_blocks f

-- the machine takes the lines whole, with these flat blocks, comments and this many nodes
pub record Takes (ls : List Line) (flat_blocks : List FlatBlock) (cs : List tree.Comment) (n : ℕ) : Type 0 where
  pub end : State
  pub last : List FlatBlock
  pub runs : run initial_state ls ≡ Ok end
  pub ends : blocks_at_end end.phase ≡ Some last
  pub flat_blocks_are : end.flat_blocks ++ last ≡ flat_blocks
  pub comments_are : end.comments ≡ cs
  pub nodes_are : end.nodes ≡ n

-- completeness
pub text_taken : (f : Option Feature) (ls : List Line) (cs : List tree.Comment) → FlatBlocksCount 0 (flat_blocks_of f) → IsFeatureText f ls cs → Takes ls (flat_blocks_of f) cs (flat_blocks_count (flat_blocks_of f))
text_taken None ls cs k h = record {
  end = state_of cs 0 [] Start;
  last = [];
  runs = ap (λ (z : List Line). run initial_state z) (sym (append-nil ls)) ∙ run_plain ls h.0 h.1.0 [] [] ∙ ap (λ (c : List tree.Comment). Ok (state_of c 0 [] Start)) (sym h.1.1);
  ends = refl;
  flat_blocks_are = refl;
  comments_are = refl;
  nodes_are = refl;
}
text_taken (Some f) ls cs k h =
    let t = h.1 in
    let o = opening_passes t.front t.front_comments t.first (t.back ++ []) in
    let q = flat_blocks_pass _ _ o.phase 0 [] [] None o.ready (feature_linked f) k t.back t.back_comments (feature_to f t.back t.back_comments t.second) t.front_comments [] in
    record {
      end = state_of cs (flat_blocks_count (feature_flat_blocks f)) q.flat_blocks q.phase;
      last = q.last;
      runs =
          ap (λ (z : List Line). run initial_state z) (t.cut ∙ ap (λ (z : List Line). t.front ++ z) (sym (append-nil t.back))) ∙ o.runs ∙ q.runs
          ∙ ap (λ (c : List tree.Comment). Ok (state_of c (0 + flat_blocks_count (feature_flat_blocks f)) q.flat_blocks q.phase)) (sym t.comments)
          ∙ ap (λ (m : ℕ). Ok (state_of cs m q.flat_blocks q.phase)) (omega arith);
      ends = q.ends;
      flat_blocks_are = q.whole;
      comments_are = refl;
      nodes_are = refl;
    }

-- what a whole run has read: comments and blank lines, or flat blocks
abbrev pub IsRead : List FlatBlock → Piece
IsRead flat_blocks ls cs = (IsPlainGap ls cs × (flat_blocks ≡ [])) ⊎ (IsDone flat_blocks ls cs × (flat_blocks ≡ [] → ⊥))

some_flat_block : (flat_blocks : List FlatBlock) (c : FlatBlock) → flat_blocks ++ c ∷ [] ≡ [] → ⊥
some_flat_block [] c e = absurd cc
some_flat_block (x ∷ xs) c e = absurd cc

read_more : (flat_blocks : List FlatBlock) (c : FlatBlock) (last : List FlatBlock) → c ∷ [] ≡ last → (ls : List Line) (cs : List tree.Comment) → Then (IsDone flat_blocks) (IsFlatBlock c) ls cs → IsRead (flat_blocks ++ last) ls cs
read_more flat_blocks c last e ls cs h = subst (λ (z : List FlatBlock). IsRead (flat_blocks ++ z) ls cs) e (inr (done_more flat_blocks c ls cs h, some_flat_block flat_blocks c))

-- soundness, for a phase at which the text may end
pub closes_whole : (s : State) (p : Phase) (last : List FlatBlock) (ls : List Line) → Holds p s.flat_blocks ls s.comments → blocks_at_end p ≡ Some last → IsRead (s.flat_blocks ++ last) ls s.comments
closes_whole s Start last ls h e = let l : [] ≡ last = cc in inl (h.1, rw (h.0, ← l) refl)
closes_whole s AfterLanguage last ls h e = absurd cc
closes_whole s (AfterTags b tags) last ls h e = absurd cc
closes_whole s (InDocString c before x q inside) last ls h e = absurd cc
closes_whole s (InDescription c lines) last ls h e = let is : with_description c lines ∷ [] ≡ last = cc in read_more s.flat_blocks (with_description c lines) last is ls s.comments (description_closes s c lines ls h)
closes_whole s (AfterStep c before x) last ls h e = let is : with_steps c (before ++ x ∷ []) ∷ [] ≡ last = cc in read_more s.flat_blocks (with_steps c (before ++ x ∷ [])) last is ls s.comments (steps_close s c before x ls h)
closes_whole s (InExamplesTable c rows) last ls h e = let is : with_rows c rows ∷ [] ≡ last = cc in read_more s.flat_blocks (with_rows c rows) last is ls s.comments (rows_close s c rows ls h)

pub taken_text : (ls : List Line) (s : State) (last : List FlatBlock) → run initial_state ls ≡ Ok s → blocks_at_end s.phase ≡ Some last → IsRead (s.flat_blocks ++ last) ls s.comments
taken_text ls s last e f = closes_whole s s.phase last ls (subst (λ (r : Result State PlacedFault). IfOk r (StateHolds ls)) e (run_holds ls initial_state [] starts)) f

-- one list of lines has at most one list of flat blocks, comments and number of nodes
pub one_taking : (ls : List Line) (a b : List FlatBlock) (cs ds : List tree.Comment) (m n : ℕ) → Takes ls a cs m → Takes ls b ds n → (a ≡ b) × (cs ≡ ds) × (m ≡ n)
one_taking ls a b cs ds m n x y =
    let same : x.end ≡ y.end = let e = x.runs in let f = y.runs in cc in
    let closed_same : Some x.last ≡ Some y.last = sym x.ends ∙ ap (λ (s : State). blocks_at_end s.phase) same ∙ y.ends in
    let last_same : x.last ≡ y.last = cc in (
      sym x.flat_blocks_are ∙ ap (λ (s : State). s.flat_blocks ++ x.last) same ∙ ap (λ (l : List FlatBlock). y.end.flat_blocks ++ l) last_same ∙ y.flat_blocks_are,
      sym x.comments_are ∙ ap (λ (s : State). s.comments) same ∙ y.comments_are,
      sym x.nodes_are ∙ ap (λ (s : State). s.nodes) same ∙ y.nodes_are,
    )

-- where the machine has come to a state, the lines so far are completed by one of five ways to go on
pub live_completes : (ls : List Line) (s : State) → run initial_state ls ≡ Ok s →
    (how : Completion) × (end : State) × (last : List FlatBlock) × (run initial_state (ls ++ completion_lines how (length ls + 1)) ≡ Ok end) × (blocks_at_end end.phase ≡ Some last)
live_completes ls s e =
    let c = completes s.phase s.comments s.nodes s.flat_blocks (length ls + 1) in
    (c.how, c.end, c.last, run-append initial_state ls (completion_lines c.how (length ls + 1)) ∙ ap (λ (r : Result State PlacedFault). r >>= λ x. run x (completion_lines c.how (length ls + 1))) e ∙ c.runs, c.ends)

-- where the machine has stopped, nothing that follows makes the lines a text
pub dead_stays : (ls more : List Line) (b : PlacedFault) → run initial_state ls ≡ Err b → run initial_state (ls ++ more) ≡ Err b
dead_stays ls more b e = run-append initial_state ls more ∙ ap (λ (r : Result State PlacedFault). r >>= λ x. run x more) e
