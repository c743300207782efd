-- A tree is its flat blocks.
use Rattle.std.proofs.Common.{◌≡◌, true, List, [], ◌∷◌, ◌++◌, length, Option, Some, None, refl, sym, subst, append_assoc}
use Rattle.std.specs.Prelude.{map}
use Rattle.std.specs.List.{flat_map}
use Rattle.gk_line.specs.declared.tokens.Block.{Block}
use Rattle.gk_line.specs.declared.tokens.Block.TheVariants as block
use Rattle.gk_grammar.specs.Token.{Line}
use Rattle.gk_grammar.specs.Tree as tree
use Rattle.gk_grammar.specs.Tree.{Background, ExampleTable, Examples, Scenario, Rule, Feature}
use Rattle.gk_grammar.specs.Grammar.{Piece, Then, Each, AtMostOne, TagLines, TitleAndDescription, IsStep, IsExampleTable, table_rows, IsBackground, IsExamples, IsScenario, IsRule, IsFeature}
use Rattle.gk_grammar.specs.Assembly.{example_table_of}
use Rattle.gk_grammar.specs.Machine.{Bare, Steps, Rows, FlatBlock, follows}
use Rattle.gk_grammar.proofs.Pieces.{mapped, to_right, to_left, then_nothing, nothing_then, only_first, each_both, each_apart}
use Rattle.gk_grammar.proofs.Open.{IsRows, IsHead, IsFlatBlock, FlatBlockTags}
use Rattle.gk_grammar.proofs.Whole.{Linked}

abbrev pub background_flat_blocks : Option Background → List FlatBlock
background_flat_blocks None = []
background_flat_blocks (Some b) = record { block = block.Background; node = b.node; place = b.location; tags = []; keyword = b.keyword; name = b.name; description = b.description; body = Steps b.steps } ∷ []

abbrev pub examples_flat_block : Examples → FlatBlock
examples_flat_block e = record { block = block.Examples; node = e.node; place = e.location; tags = e.tags; keyword = e.keyword; name = e.name; description = e.description; body = Rows (table_rows e.table) }

pub rows_table : (rs : List tree.Row) → table_rows (example_table_of rs) ≡ rs
rows_table [] = refl
rows_table (r ∷ rs) = refl

pub table_again : (t : Option ExampleTable) → example_table_of (table_rows t) ≡ t
table_again None = refl
table_again (Some t) = refl

abbrev pub scenario_flat_block : Scenario → FlatBlock
scenario_flat_block s = record { block = block.Scenario; node = s.node; place = s.location; tags = s.tags; keyword = s.keyword; name = s.name; description = s.description; body = Steps s.steps }

abbrev pub scenario_flat_blocks : Scenario → List FlatBlock
scenario_flat_blocks s = scenario_flat_block s ∷ map examples_flat_block s.examples

abbrev pub rule_flat_block : Rule → FlatBlock
rule_flat_block r = record { block = block.Rule; node = r.node; place = r.location; tags = r.tags; keyword = r.keyword; name = r.name; description = r.description; body = Bare }

abbrev pub rule_flat_blocks : Rule → List FlatBlock
rule_flat_blocks r = rule_flat_block r ∷ (background_flat_blocks r.background ++ flat_map scenario_flat_blocks r.scenarios)

-- a feature has no number: its flat block has the one that the next node has
abbrev pub feature_flat_block : Feature → FlatBlock
feature_flat_block f = record { block = block.Feature; node = length f.tags; place = f.location; tags = f.tags; keyword = f.keyword; name = f.name; description = f.description; body = Bare }

abbrev pub feature_flat_blocks : Feature → List FlatBlock
feature_flat_blocks f = feature_flat_block f ∷ (background_flat_blocks f.background ++ (flat_map scenario_flat_blocks f.scenarios ++ flat_map rule_flat_blocks f.rules))

-- each by each
each_map : {A B : Type 0} (P : A → Piece) (Q : B → Piece) (f : A → B) → ((x : A) (ls : List Line) (cs : List tree.Comment) → P x ls cs → Q (f x) ls cs) →
    (xs : List A) (ls : List Line) (cs : List tree.Comment) → Each P xs ls cs → Each Q (map f xs) ls cs
each_map P Q f h [] ls cs t = t
each_map P Q f h (x ∷ xs) ls cs t = record {
  front = t.front;
  back = t.back;
  front_comments = t.front_comments;
  back_comments = t.back_comments;
  cut = t.cut;
  comments = t.comments;
  first = h x t.front t.front_comments t.first;
  second = each_map P Q f h xs t.back t.back_comments t.second;
}

each_unmap : {A B : Type 0} (P : A → Piece) (Q : B → Piece) (f : A → B) → ((x : A) (ls : List Line) (cs : List tree.Comment) → Q (f x) ls cs → P x ls cs) →
    (xs : List A) (ls : List Line) (cs : List tree.Comment) → Each Q (map f xs) ls cs → Each P xs ls cs
each_unmap P Q f h [] ls cs t = t
each_unmap P Q f h (x ∷ xs) ls cs t = record {
  front = t.front;
  back = t.back;
  front_comments = t.front_comments;
  back_comments = t.back_comments;
  cut = t.cut;
  comments = t.comments;
  first = h x t.front t.front_comments t.first;
  second = each_unmap P Q f h xs t.back t.back_comments t.second;
}

each_flat : {A B : Type 0} (P : A → Piece) (Q : B → Piece) (f : A → List B) → ((x : A) (ls : List Line) (cs : List tree.Comment) → P x ls cs → Each Q (f x) ls cs) →
    (xs : List A) (ls : List Line) (cs : List tree.Comment) → Each P xs ls cs → Each Q (flat_map f xs) ls cs
each_flat P Q f h [] ls cs t = t
each_flat P Q f h (x ∷ xs) ls cs t = each_both Q (f x) (flat_map f xs) ls cs (record {
  front = t.front;
  back = t.back;
  front_comments = t.front_comments;
  back_comments = t.back_comments;
  cut = t.cut;
  comments = t.comments;
  first = h x t.front t.front_comments t.first;
  second = each_flat P Q f h xs t.back t.back_comments t.second;
})

each_unflat : {A B : Type 0} (P : A → Piece) (Q : B → Piece) (f : A → List B) → ((x : A) (ls : List Line) (cs : List tree.Comment) → Each Q (f x) ls cs → P x ls cs) →
    (xs : List A) (ls : List Line) (cs : List tree.Comment) → Each Q (flat_map f xs) ls cs → Each P xs ls cs
each_unflat P Q f h [] ls cs t = t
each_unflat P Q f h (x ∷ xs) ls cs t =
    let u = each_apart Q (f x) (flat_map f xs) ls cs t in
    record {
      front = u.front;
      back = u.back;
      front_comments = u.front_comments;
      back_comments = u.back_comments;
      cut = u.cut;
      comments = u.comments;
      first = h x u.front u.front_comments u.first;
      second = each_unflat P Q f h xs u.back u.back_comments u.second;
    }

rows_to : (t : Option ExampleTable) (ls : List Line) (cs : List tree.Comment) → AtMostOne IsExampleTable t ls cs → IsRows (table_rows t) ls cs
rows_to None ls cs h = h
rows_to (Some t) ls cs h = h

rows_from : (t : Option ExampleTable) (ls : List Line) (cs : List tree.Comment) → IsRows (table_rows t) ls cs → AtMostOne IsExampleTable t ls cs
rows_from None ls cs h = h
rows_from (Some t) ls cs h = h

examples_to : (e : Examples) (ls : List Line) (cs : List tree.Comment) → IsExamples e ls cs → IsFlatBlock (examples_flat_block e) ls cs
examples_to e ls cs t =
    mapped (Then (TagLines e.tags) (TitleAndDescription block.Examples e.location e.keyword e.name e.description)) (AtMostOne IsExampleTable e.table) (IsRows (table_rows e.table)) (rows_to e.table) ls cs
    (to_left (TagLines e.tags) (TitleAndDescription block.Examples e.location e.keyword e.name e.description) (AtMostOne IsExampleTable e.table) ls cs t)

examples_from : (e : Examples) (ls : List Line) (cs : List tree.Comment) → IsFlatBlock (examples_flat_block e) ls cs → IsExamples e ls cs
examples_from e ls cs t =
    to_right (TagLines e.tags) (TitleAndDescription block.Examples e.location e.keyword e.name e.description) (AtMostOne IsExampleTable e.table) ls cs
    (mapped (Then (TagLines e.tags) (TitleAndDescription block.Examples e.location e.keyword e.name e.description)) (IsRows (table_rows e.table)) (AtMostOne IsExampleTable e.table) (rows_from e.table) ls cs t)

-- a header and what is below it
headed : (P Q R S : Piece) (ls : List Line) (cs : List tree.Comment) → Then P (Then Q (Then R S)) ls cs → Then (Then (Then P Q) R) S ls cs
headed P Q R S ls cs t = to_left (Then P Q) R S ls cs (to_left P Q (Then R S) ls cs t)

unheaded : (P Q R S : Piece) (ls : List Line) (cs : List tree.Comment) → Then (Then (Then P Q) R) S ls cs → Then P (Then Q (Then R S)) ls cs
unheaded P Q R S ls cs t = to_right P Q (Then R S) ls cs (to_right (Then P Q) R S ls cs t)

scenario_to : (s : Scenario) (ls : List Line) (cs : List tree.Comment) → IsScenario s ls cs → Each IsFlatBlock (scenario_flat_blocks s) ls cs
scenario_to s ls cs t =
    mapped (IsFlatBlock (scenario_flat_block s)) (Each IsExamples s.examples) (Each IsFlatBlock (map examples_flat_block s.examples)) (λ us vs r. each_map IsExamples IsFlatBlock examples_flat_block examples_to s.examples us vs r) ls cs
    (headed (TagLines s.tags) (TitleAndDescription block.Scenario s.location s.keyword s.name s.description) (Each IsStep s.steps) (Each IsExamples s.examples) ls cs t)

scenario_from : (s : Scenario) (ls : List Line) (cs : List tree.Comment) → Each IsFlatBlock (scenario_flat_blocks s) ls cs → IsScenario s ls cs
scenario_from s ls cs t =
    unheaded (TagLines s.tags) (TitleAndDescription block.Scenario s.location s.keyword s.name s.description) (Each IsStep s.steps) (Each IsExamples s.examples) ls cs
    (mapped (IsFlatBlock (scenario_flat_block s)) (Each IsFlatBlock (map examples_flat_block s.examples)) (Each IsExamples s.examples) (λ us vs r. each_unmap IsExamples IsFlatBlock examples_flat_block examples_from s.examples us vs r) ls cs t)

pub both : (P P' Q Q' : Piece) → ((ls : List Line) (cs : List tree.Comment) → P ls cs → P' ls cs) → ((ls : List Line) (cs : List tree.Comment) → Q ls cs → Q' ls cs) →
    (ls : List Line) (cs : List tree.Comment) → Then P Q ls cs → Then P' Q' ls cs
both P P' Q Q' f g ls cs t = record {
  front = t.front;
  back = t.back;
  front_comments = t.front_comments;
  back_comments = t.back_comments;
  cut = t.cut;
  comments = t.comments;
  first = f t.front t.front_comments t.first;
  second = g t.back t.back_comments t.second;
}

-- a part of no line in front
nothing_first : (P Q : Piece) → P [] [] → (ls : List Line) (cs : List tree.Comment) → Q ls cs → Then P Q ls cs
nothing_first P Q p ls cs q = record { front = []; back = ls; front_comments = []; back_comments = cs; cut = refl; comments = refl; first = p; second = q }

background_to : (b : Option Background) (ls : List Line) (cs : List tree.Comment) → AtMostOne IsBackground b ls cs → Each IsFlatBlock (background_flat_blocks b) ls cs
background_to None ls cs t = t
background_to (Some b) ls cs t =
    then_nothing _ ls cs (to_left (FlatBlockTags block.Background []) (TitleAndDescription block.Background b.location b.keyword b.name b.description) (Each IsStep b.steps) ls cs
    (nothing_first (FlatBlockTags block.Background []) (IsBackground b) (refl, (refl, refl)) ls cs t))

background_from : (b : Option Background) (ls : List Line) (cs : List tree.Comment) → Each IsFlatBlock (background_flat_blocks b) ls cs → AtMostOne IsBackground b ls cs
background_from None ls cs t = t
background_from (Some b) ls cs t =
    let u = to_right (FlatBlockTags block.Background []) (TitleAndDescription block.Background b.location b.keyword b.name b.description) (Each IsStep b.steps) ls cs (only_first _ ls cs t) in
    nothing_then (IsBackground b) ls cs (record { front = u.front; back = u.back; front_comments = u.front_comments; back_comments = u.back_comments; cut = u.cut; comments = u.comments; first = u.first.1; second = u.second })

rule_to : (r : Rule) (ls : List Line) (cs : List tree.Comment) → IsRule r ls cs → Each IsFlatBlock (rule_flat_blocks r) ls cs
rule_to r ls cs t =
    both (IsHead (rule_flat_block r)) (IsFlatBlock (rule_flat_block r)) (Then (AtMostOne IsBackground r.background) (Each IsScenario r.scenarios)) (Each IsFlatBlock (background_flat_blocks r.background ++ flat_map scenario_flat_blocks r.scenarios))
    (λ us vs h. then_nothing (IsHead (rule_flat_block r)) us vs h)
    (λ us vs h. each_both IsFlatBlock (background_flat_blocks r.background) (flat_map scenario_flat_blocks r.scenarios) us vs
    (both (AtMostOne IsBackground r.background) (Each IsFlatBlock (background_flat_blocks r.background)) (Each IsScenario r.scenarios) (Each IsFlatBlock (flat_map scenario_flat_blocks r.scenarios))
    (background_to r.background) (each_flat IsScenario IsFlatBlock scenario_flat_blocks scenario_to r.scenarios) us vs h)) ls cs
    (to_left (TagLines r.tags) (TitleAndDescription block.Rule r.location r.keyword r.name r.description) (Then (AtMostOne IsBackground r.background) (Each IsScenario r.scenarios)) ls cs t)

rule_from : (r : Rule) (ls : List Line) (cs : List tree.Comment) → Each IsFlatBlock (rule_flat_blocks r) ls cs → IsRule r ls cs
rule_from r ls cs t =
    to_right (TagLines r.tags) (TitleAndDescription block.Rule r.location r.keyword r.name r.description) (Then (AtMostOne IsBackground r.background) (Each IsScenario r.scenarios)) ls cs
    (both (IsFlatBlock (rule_flat_block r)) (IsHead (rule_flat_block r)) (Each IsFlatBlock (background_flat_blocks r.background ++ flat_map scenario_flat_blocks r.scenarios)) (Then (AtMostOne IsBackground r.background) (Each IsScenario r.scenarios))
    (λ us vs h. only_first (IsHead (rule_flat_block r)) us vs h)
    (λ us vs h. both (Each IsFlatBlock (background_flat_blocks r.background)) (AtMostOne IsBackground r.background) (Each IsFlatBlock (flat_map scenario_flat_blocks r.scenarios)) (Each IsScenario r.scenarios)
    (background_from r.background) (each_unflat IsScenario IsFlatBlock scenario_flat_blocks scenario_from r.scenarios) us vs (each_apart IsFlatBlock (background_flat_blocks r.background) (flat_map scenario_flat_blocks r.scenarios) us vs h)) ls cs t)

-- the parts of a feature below its header
abbrev below : Feature → List FlatBlock
below f = background_flat_blocks f.background ++ (flat_map scenario_flat_blocks f.scenarios ++ flat_map rule_flat_blocks f.rules)

pub feature_to : (f : Feature) (ls : List Line) (cs : List tree.Comment) → IsFeature f ls cs → Each IsFlatBlock (feature_flat_blocks f) ls cs
feature_to f ls cs t =
    both (IsHead (feature_flat_block f)) (IsFlatBlock (feature_flat_block f)) (Then (AtMostOne IsBackground f.background) (Then (Each IsScenario f.scenarios) (Each IsRule f.rules))) (Each IsFlatBlock (below f))
    (λ us vs h. then_nothing (IsHead (feature_flat_block f)) us vs h)
    (λ us vs h. each_both IsFlatBlock (background_flat_blocks f.background) (flat_map scenario_flat_blocks f.scenarios ++ flat_map rule_flat_blocks f.rules) us vs
    (both (AtMostOne IsBackground f.background) (Each IsFlatBlock (background_flat_blocks f.background)) (Then (Each IsScenario f.scenarios) (Each IsRule f.rules)) (Each IsFlatBlock (flat_map scenario_flat_blocks f.scenarios ++ flat_map rule_flat_blocks f.rules))
    (background_to f.background)
    (λ as1 bs1 g. each_both IsFlatBlock (flat_map scenario_flat_blocks f.scenarios) (flat_map rule_flat_blocks f.rules) as1 bs1
    (both (Each IsScenario f.scenarios) (Each IsFlatBlock (flat_map scenario_flat_blocks f.scenarios)) (Each IsRule f.rules) (Each IsFlatBlock (flat_map rule_flat_blocks f.rules))
    (each_flat IsScenario IsFlatBlock scenario_flat_blocks scenario_to f.scenarios) (each_flat IsRule IsFlatBlock rule_flat_blocks rule_to f.rules) as1 bs1 g)) us vs h)) ls cs
    (to_left (TagLines f.tags) (TitleAndDescription block.Feature f.location f.keyword f.name f.description) (Then (AtMostOne IsBackground f.background) (Then (Each IsScenario f.scenarios) (Each IsRule f.rules))) ls cs t)

pub feature_from : (f : Feature) (ls : List Line) (cs : List tree.Comment) → Each IsFlatBlock (feature_flat_blocks f) ls cs → IsFeature f ls cs
feature_from f ls cs t =
    to_right (TagLines f.tags) (TitleAndDescription block.Feature f.location f.keyword f.name f.description) (Then (AtMostOne IsBackground f.background) (Then (Each IsScenario f.scenarios) (Each IsRule f.rules))) ls cs
    (both (IsFlatBlock (feature_flat_block f)) (IsHead (feature_flat_block f)) (Each IsFlatBlock (below f)) (Then (AtMostOne IsBackground f.background) (Then (Each IsScenario f.scenarios) (Each IsRule f.rules)))
    (λ us vs h. only_first (IsHead (feature_flat_block f)) us vs h)
    (λ us vs h. both (Each IsFlatBlock (background_flat_blocks f.background)) (AtMostOne IsBackground f.background) (Each IsFlatBlock (flat_map scenario_flat_blocks f.scenarios ++ flat_map rule_flat_blocks f.rules)) (Then (Each IsScenario f.scenarios) (Each IsRule f.rules))
    (background_from f.background)
    (λ as1 bs1 g. both (Each IsFlatBlock (flat_map scenario_flat_blocks f.scenarios)) (Each IsScenario f.scenarios) (Each IsFlatBlock (flat_map rule_flat_blocks f.rules)) (Each IsRule f.rules)
    (each_unflat IsScenario IsFlatBlock scenario_flat_blocks scenario_from f.scenarios) (each_unflat IsRule IsFlatBlock rule_flat_blocks rule_from f.rules) as1 bs1 (each_apart IsFlatBlock (flat_map scenario_flat_blocks f.scenarios) (flat_map rule_flat_blocks f.rules) as1 bs1 g))
    us vs (each_apart IsFlatBlock (background_flat_blocks f.background) (flat_map scenario_flat_blocks f.scenarios ++ flat_map rule_flat_blocks f.rules) us vs h)) ls cs t)

-- ---- the order of the blocks

scenario_next : (b : Block) → follows (Some b) block.Scenario ≡ true
scenario_next block.Feature = refl
scenario_next block.Rule = refl
scenario_next block.Background = refl
scenario_next block.Scenario = refl
scenario_next block.Examples = refl

rule_next : (b : Block) → follows (Some b) block.Rule ≡ true
rule_next block.Feature = refl
rule_next block.Rule = refl
rule_next block.Background = refl
rule_next block.Scenario = refl
rule_next block.Examples = refl

-- what may follow any block
abbrev Anywhere : List FlatBlock → Type 0
Anywhere cs = (b : Block) → Linked (Some b) cs

examples_linked : (es : List Examples) (rest : List FlatBlock) → Anywhere rest → (b : Block) → follows (Some b) block.Examples ≡ true → Linked (Some b) (map examples_flat_block es ++ rest)
examples_linked [] rest h b e = h b
examples_linked (x ∷ es) rest h b e = (e, examples_linked es rest h block.Examples refl)

scenarios_linked : (ss : List Scenario) (rest : List FlatBlock) → Anywhere rest → Anywhere (flat_map scenario_flat_blocks ss ++ rest)
scenarios_linked [] rest h b = h b
scenarios_linked (s ∷ ss) rest h b = (scenario_next b, subst (λ (x : List FlatBlock). Linked (Some block.Scenario) x) (sym (append_assoc (map examples_flat_block s.examples) (flat_map scenario_flat_blocks ss) rest)) (examples_linked s.examples (flat_map scenario_flat_blocks ss ++ rest) (scenarios_linked ss rest h) block.Scenario refl))

background_linked : (o : Option Background) (rest : List FlatBlock) → Anywhere rest → (b : Block) → follows (Some b) block.Background ≡ true → Linked (Some b) (background_flat_blocks o ++ rest)
background_linked None rest h b e = h b
background_linked (Some x) rest h b e = (e, h block.Background)

rules_linked : (rs : List Rule) → Anywhere (flat_map rule_flat_blocks rs)
rules_linked [] b = tt
rules_linked (r ∷ rs) b = (
  rule_next b,
  subst (λ (x : List FlatBlock). Linked (Some block.Rule) x) (sym (append_assoc (background_flat_blocks r.background) (flat_map scenario_flat_blocks r.scenarios) (flat_map rule_flat_blocks rs)))
      (background_linked r.background (flat_map scenario_flat_blocks r.scenarios ++ flat_map rule_flat_blocks rs) (scenarios_linked r.scenarios (flat_map rule_flat_blocks rs) (rules_linked rs)) block.Rule refl),
)

pub feature_linked : (f : Feature) → Linked None (feature_flat_blocks f)
feature_linked f = (refl, background_linked f.background (flat_map scenario_flat_blocks f.scenarios ++ flat_map rule_flat_blocks f.rules) (scenarios_linked f.scenarios (flat_map rule_flat_blocks f.rules) (rules_linked f.rules)) block.Feature refl)
