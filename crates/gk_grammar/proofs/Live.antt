-- Each state is completed by one of five ways to go on, and the lines before the feature.
use Rattle.std.proofs.Common.{◌≡◌, ℕ, ◌+◌, Bool, true, List, [], ◌∷◌, ◌++◌, Some, None, Result, Ok, Err, refl, sym, ap, ◌∙◌, append_assoc, append-nil, inl, inr}
use Rattle.std.specs.Prelude.{IsTrue, IsFalse, cond, codes}
use Rattle.std.specs.List.{AllByRecursion}
use Rattle.gk_line.specs.declared.tokens.Block.{Block}
use Rattle.gk_line.specs.declared.tokens.Block.TheVariants as block
use Rattle.gk_document.specs.declared.tree.Fence.{Fence}
use Rattle.gk_document.specs.declared.tree.Fence.TheVariants as fence
use Rattle.gk_grammar.specs.Token.{Utf8, Blank, Comment, Language, Title, Fenced, Line, line, is_gap, is_language}
use Rattle.gk_grammar.specs.Tree as tree
use Rattle.gk_grammar.specs.Grammar.{OneLine, comments_of, IsOpening, IsEnglish, is_fence}
use Rattle.gk_grammar.specs.Machine.{FlatBlock, OpenDocString, Phase, Start, AfterLanguage, AfterTags, InDescription, AfterStep, InDocString, InExamplesTable, State, PlacedFault, next, run, ◌>>=◌, blocks_at_end, follows, initial_state, open_block, with_doc_string, new_block}
use Rattle.gk_grammar.specs.Place.{Completion, ByNothing, ByFeature, ByScenario, ByQuotes, ByBackticks, completion_lines}
use Rattle.gk_grammar.proofs.Completing.{by_feature, by_scenario, by_quotes, by_backticks}
use Rattle.gk_grammar.proofs.Pieces.{comments_of-append}
use Rattle.gk_grammar.proofs.Complete.{state_of, Idle, run_gap}
use Rattle.gk_grammar.proofs.Whole.{Ready}

-- ---- no state is stuck

pub record Completes (s : State) (n : ℕ) : Type 0 where
  pub how : Completion
  pub end : State
  pub last : List FlatBlock
  pub runs : run s (completion_lines how n) ≡ Ok end
  pub ends : blocks_at_end end.phase ≡ Some last

quoting_completes : (cs : List tree.Comment) (n : ℕ) (ch : List FlatBlock) (c : FlatBlock) (before : List tree.Step) (last : tree.Step) (q : OpenDocString) (inside : List Line) (m : ℕ) → Completes (state_of cs n ch (InDocString c before last q inside)) m
quoting_completes cs n ch c before last q inside m = go q.fence refl
  where
    end : State
    end = state_of cs n ch (AfterStep c before (with_doc_string last q inside))

    closes : (f : Fence) (l : Line) → q.fence ≡ f → is_fence f l ≡ true → run (state_of cs n ch (InDocString c before last q inside)) (l ∷ []) ≡ Ok end
    closes f l g h = ap (λ (z : Bool). cond z (Ok end) (Ok (state_of cs n ch (InDocString c before last q (inside ++ l ∷ [])))) >>= λ x. Ok x) (ap (λ (z : Fence). is_fence z l) g ∙ h)

    go : (f : Fence) → q.fence ≡ f → Completes (state_of cs n ch (InDocString c before last q inside)) m
    go fence.Quotes g = record { how = ByQuotes; end = end; last = _; runs = ap (run (state_of cs n ch (InDocString c before last q inside))) (by_quotes m) ∙ closes fence.Quotes (line m (codes "\"\"\"") 0 (Fenced fence.Quotes [])) g refl; ends = refl }
    go fence.Backticks g = record { how = ByBackticks; end = end; last = _; runs = ap (run (state_of cs n ch (InDocString c before last q inside))) (by_backticks m) ∙ closes fence.Backticks (line m (codes "```") 0 (Fenced fence.Backticks [])) g refl; ends = refl }

scenario_follows : (b : Block) → follows (Some b) block.Scenario ≡ true
scenario_follows block.Feature = refl
scenario_follows block.Rule = refl
scenario_follows block.Background = refl
scenario_follows block.Scenario = refl
scenario_follows block.Examples = refl

pub completes : (p : Phase) (cs : List tree.Comment) (n : ℕ) (ch : List FlatBlock) (m : ℕ) → Completes (state_of cs n ch p) m
completes Start cs n ch m = record { how = ByNothing; end = _; last = _; runs = refl; ends = refl }
completes AfterLanguage cs n ch m = record { how = ByFeature; end = _; last = _; runs = ap (run (state_of cs n ch AfterLanguage)) (by_feature m); ends = refl }
completes (AfterTags None tags) cs n ch m = record { how = ByFeature; end = _; last = _; runs = ap (run (state_of cs n ch (AfterTags None tags))) (by_feature m); ends = refl }
completes (AfterTags (Some b) tags) cs n ch m = record {
  how = ByScenario;
  end = state_of cs (n + 1) ch (InDescription (new_block n block.Scenario tags m 0 (codes "Scenario") []) []);
  last = _;
  runs = ap (run (state_of cs n ch (AfterTags (Some b) tags))) (by_scenario m) ∙ rw (scenario_follows b) refl;
  ends = refl;
}
completes (InDescription c ls) cs n ch m = record { how = ByNothing; end = _; last = _; runs = refl; ends = refl }
completes (AfterStep c before last) cs n ch m = record { how = ByNothing; end = _; last = _; runs = refl; ends = refl }
completes (InDocString c before last q inside) cs n ch m = quoting_completes cs n ch c before last q inside m
completes (InExamplesTable c rows) cs n ch m = record { how = ByNothing; end = _; last = _; runs = refl; ends = refl }

-- where the machine stops, it stops whatever follows
pub run-append : (s : State) (ls more : List Line) → run s (ls ++ more) ≡ (run s ls >>= λ x. run x more)
run-append s [] more = refl
run-append s (l ∷ ls) more = go (λ x. run-append x ls more) (next s l)
  where
    go : ((x : State) → run x (ls ++ more) ≡ (run x ls >>= λ y. run y more)) → (r : Result State PlacedFault) → (r >>= λ x. run x (ls ++ more)) ≡ ((r >>= λ x. run x ls) >>= λ y. run y more)
    go f (Ok x) = f x
    go f (Err e) = refl

-- ---- before the feature

pub ready_before : Ready Start [] [] None
ready_before = record {
  tag = λ cs n m i t words. refl;
  title = λ cs n m i t b k x f. go cs n m i t b k x f;
}
  where
    go : (cs : List tree.Comment) (n m i : ℕ) (t : Utf8) (b : Block) (k x : Utf8) → follows None b ≡ true → next (state_of cs n [] Start) (line m t i (Title b k x)) ≡ Ok (open_block (state_of cs n [] Start) b [] m i k x)
    go cs n m i t block.Feature k x f = refl
    go cs n m i t _ k x f = absurd cc

pub ready_spoken : Ready AfterLanguage [] [] None
ready_spoken = record {
  tag = λ cs n m i t words. refl;
  title = λ cs n m i t b k x f. go cs n m i t b k x f;
}
  where
    go : (cs : List tree.Comment) (n m i : ℕ) (t : Utf8) (b : Block) (k x : Utf8) → follows None b ≡ true → next (state_of cs n [] AfterLanguage) (line m t i (Title b k x)) ≡ Ok (open_block (state_of cs n [] AfterLanguage) b [] m i k x)
    go cs n m i t block.Feature k x f = refl
    go cs n m i t _ k x f = absurd cc

idle_spoken : Idle AfterLanguage
idle_spoken cs n ch (line m t i Blank) g = refl
idle_spoken cs n ch (line m t i Comment) g = refl
idle_spoken cs n ch (line m t i (Language w)) g = refl
idle_spoken cs n ch (line m t i _) g = absurd cc

before_line : (cs : List tree.Comment) (n : ℕ) (l : Line) → IsTrue (is_gap l) → IsFalse (is_language l) → next (state_of cs n [] Start) l ≡ Ok (state_of (cs ++ comments_of (l ∷ [])) n [] Start)
before_line cs n (line m t i Blank) g f = refl
before_line cs n (line m t i Comment) g f = refl
before_line cs n (line m t i (Language w)) g f = absurd cc
before_line cs n (line m t i _) g f = absurd cc

pub run_plain : (ls : List Line) → AllByRecursion (λ l. IsFalse (is_language l)) ls → AllByRecursion (λ l. IsTrue (is_gap l)) ls → (cs : List tree.Comment) (rest : List Line) →
    run (state_of cs 0 [] Start) (ls ++ rest) ≡ run (state_of (cs ++ comments_of ls) 0 [] Start) rest
run_plain [] f g cs rest = ap (λ (z : List tree.Comment). run (state_of z 0 [] Start) rest) (sym (append-nil cs))
run_plain (l ∷ ls) f g cs rest =
    ap (λ (r : Result State PlacedFault). r >>= λ x. run x (ls ++ rest)) (before_line cs 0 l g.0 f.0) ∙ run_plain ls f.1 g.1 (cs ++ comments_of (l ∷ [])) rest
    ∙ ap (λ (c : List tree.Comment). run (state_of c 0 [] Start) rest) (append_assoc cs (comments_of (l ∷ [])) (comments_of ls) ∙ ap (λ (c : List tree.Comment). cs ++ c) (sym (comments_of-append (l ∷ []) ls)))

-- after the opening
pub record Opened (cs : List tree.Comment) (ls rest : List Line) : Type 0 where
  pub phase : Phase
  pub ready : Ready phase [] [] None
  pub runs : run initial_state (ls ++ rest) ≡ run (state_of cs 0 [] phase) rest

english_line : (cs : List tree.Comment) (l : Line) → IsEnglish l → next (state_of cs 0 [] Start) l ≡ Ok (state_of cs 0 [] AfterLanguage)
english_line cs (line m t i (Language w)) e = rw e refl
english_line cs (line m t i _) e = absurd e

spoken_runs : (ls : List Line) (cs : List tree.Comment) → OneLine IsEnglish ls cs → (before : List tree.Comment) (rest : List Line) → run (state_of before 0 [] Start) (ls ++ rest) ≡ run (state_of (before ++ cs) 0 [] AfterLanguage) rest
spoken_runs [] cs h before rest = absurd h
spoken_runs (l ∷ ls) cs h before rest =
    ap (λ (r : Result State PlacedFault). r >>= λ x. run x (ls ++ rest)) (english_line before l h.0) ∙ run_gap AfterLanguage idle_spoken ls h.1.0 before 0 [] rest
    ∙ ap (λ (c : List tree.Comment). run (state_of (before ++ c) 0 [] AfterLanguage) rest) (sym h.1.1)

pub opening_passes : (ls : List Line) (cs : List tree.Comment) → IsOpening ls cs → (rest : List Line) → Opened cs ls rest
opening_passes ls cs (inl h) rest = record { phase = Start; ready = ready_before; runs = run_plain ls h.0 h.1.0 [] rest ∙ ap (λ (c : List tree.Comment). run (state_of c 0 [] Start) rest) (sym h.1.1) }
opening_passes ls cs (inr h) rest = record {
  phase = AfterLanguage;
  ready = ready_spoken;
  runs =
      ap (λ (z : List Line). run initial_state z) (ap (λ (z : List Line). z ++ rest) h.cut ∙ append_assoc h.front h.back rest)
      ∙ run_plain h.front h.first.0 h.first.1.0 [] (h.back ++ rest) ∙ ap (λ (c : List tree.Comment). run (state_of c 0 [] Start) (h.back ++ rest)) (sym h.first.1.1)
      ∙ spoken_runs h.back h.back_comments h.second h.front_comments rest
      ∙ ap (λ (c : List tree.Comment). run (state_of c 0 [] AfterLanguage) rest) (sym h.comments);
}
