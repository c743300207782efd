-- The rules of the grammar as cuts of the lines.
use Rattle.std.proofs.Common.{◌≡◌, ◌≤◌, ◌⊎◌, inl, inr, ℕ, List, [], ◌∷◌, ◌++◌, length, Option, Some, None, refl, sym, ap, subst, ◌∙◌, arith}
use Rattle.std.specs.List.{AllByRecursion, flat_map}
use Rattle.gk_line.specs.declared.tokens.Block.{Block}
use Rattle.gk_line.specs.declared.tokens.Block.TheVariants as block
use Rattle.gk_document.specs.declared.tree.Cell.{Cell}
use Rattle.gk_grammar.specs.Token.{Utf8, Step, Row, Line, line}
use Rattle.gk_grammar.specs.Tree as tree
use Rattle.gk_grammar.specs.Tree.{Location, Tag, Argument, Background, ExampleTable, Examples, Scenario, Rule, Feature}
use Rattle.gk_document.specs.declared.tree.Argument.TheVariants.{Table, Text as Quoted}
use Rattle.gk_grammar.specs.Grammar.{Piece, Then, Each, AtMostOne, OneLine, IsPlainGap, IsEnglish, IsTagLine, TagLines, TitleAndDescription, IsRow, IsTable, IsArgument, IsStep, IsStepLine, IsExampleTable, IsExamples, IsScenario, IsBackground, IsRule, IsFeature, IsOpening, english}
use Rattle.gk_plain.specs.declared.plain.Kind.TheVariants as kind
use Rattle.gk_plain.specs.declared.plain.Part.{Part}
use Rattle.gk_plain.specs.declared.plain.Part.TheVariants as part
use Rattle.gk_plain.specs.declared.plain.Production.TheVariants as rule
use Rattle.gk_plain.specs.Plain.{Has, IsHeading, IsRowOf, Bare, Is, IsUntaggedExamples, IsBelowScenario, IsUntaggedScenario, IsBelowRule, IsUntaggedRule, AreScenariosAndRules, IsBelowFeature, IsUntaggedFeature, IsSpokenGap, IsWithFeature, rule_of, Cut, BeginsWithRow, Means}

-- ---- many

-- a piece of no line is none
abbrev IsFull : Piece → Type 0
IsFull P = (cs : List tree.Comment) → P [] cs → ⊥

some_line : (P : Piece) → IsFull P → (ls : List Line) (cs : List tree.Comment) → P ls cs → 1 ≤ length ls
some_line P ne [] cs p = absurd (ne cs p)
some_line P ne (l ∷ ls) cs p = omega arith

-- a first piece that is full makes two full
full_first : (P Q : Piece) → IsFull P → IsFull (Then P Q)
full_first P Q ne cs t = go t.front t.back t.cut t.first
  where
    go : (front back : List Line) → [] ≡ front ++ back → P front t.front_comments → ⊥
    go [] back e p = ne t.front_comments p
    go (l ∷ ls) back e p = absurd cc

-- and so does a second one
full_second : (P Q : Piece) → IsFull Q → IsFull (Then P Q)
full_second P Q ne cs t = go t.front t.back t.cut t.second
  where
    go : (front back : List Line) → [] ≡ front ++ back → Q back t.back_comments → ⊥
    go [] back e q = ne t.back_comments (subst (λ (z : List Line). Q z t.back_comments) (sym e) q)
    go (l ∷ ls) back e q = absurd cc

abbrev Repeats : {A : Type 0} → (A → Piece) → List Line → Type 0
Repeats P ls = (ls ≡ []) ⊎ Cut 1 (Has P) (Has (Each P)) ls

each_cut : {A : Type 0} (P : A → Piece) → ((x : A) → IsFull (P x)) → (ls : List Line) → Has (Each P) ls → Repeats P ls
each_cut {A = A} P ne ls h = go h.0 h.1 h.2
  where
    go : (xs : List A) (cs : List tree.Comment) → Each P xs ls cs → Repeats P ls
    go [] cs t = inl t.0
    go (x ∷ xs) cs t = inr (record {
      front = t.front;
      back = t.back;
      cut = t.cut;
      long = some_line (P x) (ne x) t.front t.front_comments t.first;
      first = (x, t.front_comments, t.first);
      second = (xs, t.back_comments, t.second);
    })

cut_each : {A : Type 0} (P : A → Piece) (ls : List Line) → Repeats P ls → Has (Each P) ls
cut_each P ls (inl e) = ([], [], (e, refl))
cut_each P ls (inr c) = (
  c.first.0 ∷ c.second.0,
  c.first.1 ++ c.second.1,
  record {
    front = c.front;
    back = c.back;
    front_comments = c.first.1;
    back_comments = c.second.1;
    cut = c.cut;
    comments = refl;
    first = c.first.2;
    second = c.second.2;
  },
)

-- ---- at most one

optional_cut : {A : Type 0} (P : A → Piece) (ls : List Line) → Has (AtMostOne P) ls → (ls ≡ []) ⊎ Has P ls
optional_cut {A = A} P ls h = go h.0 h.1 h.2
  where
    go : (o : Option A) (cs : List tree.Comment) → AtMostOne P o ls cs → (ls ≡ []) ⊎ Has P ls
    go None cs t = inl t.0
    go (Some x) cs t = inr (x, cs, t)

cut_optional : {A : Type 0} (P : A → Piece) (ls : List Line) → (ls ≡ []) ⊎ Has P ls → Has (AtMostOne P) ls
cut_optional P ls (inl e) = (None, [], (e, refl))
cut_optional P ls (inr h) = (Some h.0, h.1, h.2)

-- ---- one and then another

both_cut : {A B C : Type 0} (P : A → Piece) (Q : B → Piece) (R : C → Piece) (a : C → A) (b : C → B) →
    ((x : C) (ls : List Line) (cs : List tree.Comment) → R x ls cs → Then (P (a x)) (Q (b x)) ls cs) → (ls : List Line) → Has R ls → Cut 0 (Has P) (Has Q) ls
both_cut P Q R a b f ls h =
    let t = f h.0 ls h.1 h.2 in
    record {
      front = t.front;
      back = t.back;
      cut = t.cut;
      long = omega arith;
      first = (a h.0, t.front_comments, t.first);
      second = (b h.0, t.back_comments, t.second);
    }

cut_both : {A B C : Type 0} (P : A → Piece) (Q : B → Piece) (R : C → Piece) (make : A → B → C) →
    ((x : A) (y : B) (ls : List Line) (cs : List tree.Comment) → Then (P x) (Q y) ls cs → R (make x y) ls cs) → (ls : List Line) → Cut 0 (Has P) (Has Q) ls → Has R ls
cut_both P Q R make f ls c = (
  make c.first.0 c.second.0,
  c.first.1 ++ c.second.1,
  f c.first.0 c.second.0 ls (c.first.1 ++ c.second.1) (record {
    front = c.front;
    back = c.back;
    front_comments = c.first.1;
    back_comments = c.second.1;
    cut = c.cut;
    comments = refl;
    first = c.first.2;
    second = c.second.2;
  }),
)

-- ---- which parts are full

full_line : (P : Line → Type 0) → IsFull (OneLine P)
full_line P cs h = h

full_titled : (b : Block) (p : Location) (k m d : Utf8) → IsFull (TitleAndDescription b p k m d)
full_titled b p k m d cs h = h

full_step : (s : tree.Step) → IsFull (IsStep s)
full_step s = full_first (OneLine (IsStepLine s)) (AtMostOne IsArgument s.argument) (full_line (IsStepLine s))

full_examples : (e : Examples) → IsFull (IsExamples e)
full_examples e = full_second (TagLines e.tags) _ (full_first (TitleAndDescription block.Examples e.location e.keyword e.name e.description) (AtMostOne IsExampleTable e.table) (full_titled block.Examples e.location e.keyword e.name e.description))

full_scenario : (s : Scenario) → IsFull (IsScenario s)
full_scenario s = full_second (TagLines s.tags) _ (full_first (TitleAndDescription block.Scenario s.location s.keyword s.name s.description) _ (full_titled block.Scenario s.location s.keyword s.name s.description))

full_rule : (r : Rule) → IsFull (IsRule r)
full_rule r = full_second (TagLines r.tags) _ (full_first (TitleAndDescription block.Rule r.location r.keyword r.name r.description) _ (full_titled block.Rule r.location r.keyword r.name r.description))

-- ---- tag lines

tags_cut : (ls : List Line) → Has TagLines ls → (ls ≡ []) ⊎ Cut 1 (Is part.TagLine) (Is part.TagLines) ls
tags_cut ls h = go (each_cut (λ (tags : List Tag). OneLine (IsTagLine tags)) (λ tags. full_line (IsTagLine tags)) ls (h.2.0, h.1, h.2.2))
  where
    go : (ls ≡ []) ⊎ Cut 1 (Is part.TagLine) (Has (Each (λ (tags : List Tag). OneLine (IsTagLine tags)))) ls → (ls ≡ []) ⊎ Cut 1 (Is part.TagLine) (Is part.TagLines) ls
    go (inl e) = inl e
    go (inr c) = inr (record {
      front = c.front;
      back = c.back;
      cut = c.cut;
      long = c.long;
      first = c.first;
      second = (flat_map (λ (ts : List Tag). ts) c.second.0, c.second.1, (c.second.0, refl, c.second.2));
    })

cut_tags : (ls : List Line) → (ls ≡ []) ⊎ Cut 1 (Is part.TagLine) (Is part.TagLines) ls → Has TagLines ls
cut_tags ls (inl e) = ([], [], ([], refl, (e, refl)))
cut_tags ls (inr c) = (
  c.first.0 ++ c.second.0,
  c.first.1 ++ c.second.1,
  (
    c.first.0 ∷ c.second.2.0,
    ap (λ (z : List Tag). c.first.0 ++ z) c.second.2.1,
    record {
      front = c.front;
      back = c.back;
      front_comments = c.first.1;
      back_comments = c.second.1;
      cut = c.cut;
      comments = refl;
      first = c.first.2;
      second = c.second.2.2;
    },
  ),
)

-- ---- tables

begins_with : (r : tree.Row) (front : List Line) (cs : List tree.Comment) → OneLine (IsRow r) front cs → (back : List Line) → BeginsWithRow (length r.cells) (front ++ back)
begins_with r [] cs h back = absurd h
begins_with r (line n t i (Row cells) ∷ gap) cs h back = ap (λ (z : List Cell). kind.Row (length z)) (sym h.0.1)
begins_with r (line n t i _ ∷ gap) cs h back = absurd h.0

row_of : (n : ℕ) (r : tree.Row) → length r.cells ≡ n → (ls : List Line) (cs : List tree.Comment) → OneLine (IsRow r) ls cs → IsRowOf n r ls cs
row_of n r e [] cs h = absurd h
row_of n r e (l ∷ gap) cs h = ((e, h.0), h.1)

of_row : (n : ℕ) (r : tree.Row) (ls : List Line) (cs : List tree.Comment) → IsRowOf n r ls cs → (length r.cells ≡ n) × OneLine (IsRow r) ls cs
of_row n r [] cs h = absurd h
of_row n r (l ∷ gap) cs h = (h.0.0, (h.0.1, h.1))

rows_of : (n : ℕ) (xs : List tree.Row) → AllByRecursion (λ (x : tree.Row). length x.cells ≡ n) xs → (ls : List Line) (cs : List tree.Comment) → Each (λ (x : tree.Row). OneLine (IsRow x)) xs ls cs → Each (IsRowOf n) xs ls cs
rows_of n [] a ls cs t = t
rows_of n (x ∷ xs) a ls cs t = record {
  front = t.front;
  back = t.back;
  front_comments = t.front_comments;
  back_comments = t.back_comments;
  cut = t.cut;
  comments = t.comments;
  first = row_of n x a.0 t.front t.front_comments t.first;
  second = rows_of n xs a.1 t.back t.back_comments t.second;
}

of_rows : (n : ℕ) (xs : List tree.Row) (ls : List Line) (cs : List tree.Comment) → Each (IsRowOf n) xs ls cs → AllByRecursion (λ (x : tree.Row). length x.cells ≡ n) xs × Each (λ (x : tree.Row). OneLine (IsRow x)) xs ls cs
of_rows n [] ls cs t = (tt, t)
of_rows n (x ∷ xs) ls cs t =
    let f = of_row n x t.front t.front_comments t.first in
    let r = of_rows n xs t.back t.back_comments t.second in (
      (f.0, r.0),
      record {
        front = t.front;
        back = t.back;
        front_comments = t.front_comments;
        back_comments = t.back_comments;
        cut = t.cut;
        comments = t.comments;
        first = f.1;
        second = r.1;
      },
    )

counts_along : (n m : ℕ) → n ≡ m → (xs : List tree.Row) → AllByRecursion (λ (x : tree.Row). length x.cells ≡ n) xs → AllByRecursion (λ (x : tree.Row). length x.cells ≡ m) xs
counts_along n m e [] a = tt
counts_along n m e (x ∷ xs) a = (a.0 ∙ e, counts_along n m e xs a.1)

table_rows : (ls : List Line) → Has IsTable ls → Means part.Table rule.EqualRows ls
table_rows ls h = go h.0 h.2
  where
    go : (rows : List tree.Row) → IsTable rows ls h.1 → Means part.Table rule.EqualRows ls
    go [] t = absurd t
    go (r ∷ rs) t = (length r.cells, subst (λ (z : List Line). BeginsWithRow (length r.cells) z) (sym t.1.cut) (begins_with r t.1.front t.1.front_comments t.1.first t.1.back), (r ∷ rs, h.1, rows_of (length r.cells) (r ∷ rs) (refl, t.0) ls h.1 t.1))

rows_table : (ls : List Line) → Means part.Table rule.EqualRows ls → Has IsTable ls
rows_table ls h = go h.2.0 h.2.2
  where
    go : (rows : List tree.Row) → Each (IsRowOf h.0) rows ls h.2.1 → Has IsTable ls
    go [] t = absurd (subst (λ (z : List Line). BeginsWithRow h.0 z) t.0 h.1)
    go (r ∷ rs) t =
        let u = of_rows h.0 (r ∷ rs) ls h.2.1 t in
        (r ∷ rs, h.2.1, (counts_along h.0 (length r.cells) (sym u.0.0) rs u.0.1, u.1))

-- ---- a step with another argument

step_line : (s : tree.Step) (o : Option Argument) (ls : List Line) (cs : List tree.Comment) → OneLine (IsStepLine s) ls cs → OneLine (IsStepLine (record s { argument = o })) ls cs
step_line s o [] cs h = h
step_line s o (line n t i (Step k y m) ∷ gap) cs h = h
step_line s o (line n t i _ ∷ gap) cs h = absurd h.0

another_step : (s : tree.Step) (o : Option Argument) (ls : List Line) (cs : List tree.Comment) → Then (OneLine (IsStepLine s)) (AtMostOne IsArgument o) ls cs → IsStep (record s { argument = o }) ls cs
another_step s o ls cs t = record {
  front = t.front;
  back = t.back;
  front_comments = t.front_comments;
  back_comments = t.back_comments;
  cut = t.cut;
  comments = t.comments;
  first = step_line s o t.front t.front_comments t.first;
  second = t.second;
}

-- ---- the rules

argument_cut : (ls : List Line) → Has IsArgument ls → Is part.Table ls ⊎ Is part.DocString ls
argument_cut ls h = go h.0 h.2
  where
    go : (a : Argument) → IsArgument a ls h.1 → Is part.Table ls ⊎ Is part.DocString ls
    go (Table rows) t = inl (rows, h.1, t)
    go (Quoted d) t = inr (d, h.1, t)

table_cut : (ls : List Line) → Has (AtMostOne IsExampleTable) ls → (ls ≡ []) ⊎ Is part.Table ls
table_cut ls h = go h.0 h.2
  where
    go : (o : Option ExampleTable) → AtMostOne IsExampleTable o ls h.1 → (ls ≡ []) ⊎ Is part.Table ls
    go None t = inl t.0
    go (Some x) t = inr (x.header ∷ x.body, h.1, t)

cut_table : (ls : List Line) → (ls ≡ []) ⊎ Is part.Table ls → Has (AtMostOne IsExampleTable) ls
cut_table ls (inl e) = (None, [], (e, refl))
cut_table ls (inr h) = go h.0 h.2
  where
    go : (rows : List tree.Row) → IsTable rows ls h.1 → Has (AtMostOne IsExampleTable) ls
    go [] t = absurd t
    go (r ∷ rs) t = (Some (record { header = r; body = rs }), h.1, t)

opening_cut : (ls : List Line) → Has (Bare IsOpening) ls → Is part.PlainGap ls ⊎ Is part.SpokenGap ls
opening_cut ls h = go h.2
  where
    go : IsOpening ls h.1 → Is part.PlainGap ls ⊎ Is part.SpokenGap ls
    go (inl t) = inl (tt, h.1, t)
    go (inr t) = inr (tt, h.1, t)

-- what a part is, its rule says
pub is_means : (p : Part) (ls : List Line) → Is p ls → Means p (rule_of p) ls
is_means part.PlainGap ls h = h
is_means part.EnglishLine ls h = h
is_means part.TagLine ls h = h
is_means part.StepLine ls h = h
is_means (part.Row x) ls h = h
is_means (part.Heading x) ls h = h
is_means part.DocString ls h = h
is_means (part.Rows x) ls h = each_cut (IsRowOf x) (λ (r : tree.Row). full_line (λ (l : Line). (length r.cells ≡ x) × IsRow r l)) ls h
is_means part.Table ls h = table_rows ls h
is_means part.Argument ls h = argument_cut ls h
is_means part.MaybeArgument ls h = optional_cut IsArgument ls h
is_means part.Step ls h = both_cut (λ (s : tree.Step). OneLine (IsStepLine s)) (AtMostOne IsArgument) IsStep (λ s. s) (λ s. s.argument) (λ x us cs t. t) ls h
is_means part.Steps ls h = each_cut IsStep (full_step) ls h
is_means part.TagLines ls h = tags_cut ls h
is_means part.MaybeTable ls h = table_cut ls h
is_means part.UntaggedExamples ls h = both_cut (IsHeading block.Examples) (AtMostOne IsExampleTable) IsUntaggedExamples (λ x. x.0) (λ x. x.1) (λ x us cs t. t) ls h
is_means part.Examples ls h = both_cut TagLines IsUntaggedExamples IsExamples (λ e. e.tags) (λ e. ((e.location, e.keyword, e.name, e.description), e.table)) (λ x us cs t. t) ls h
is_means part.ExamplesBlocks ls h = each_cut IsExamples (full_examples) ls h
is_means part.BelowScenario ls h = both_cut (Each IsStep) (Each IsExamples) IsBelowScenario (λ x. x.0) (λ x. x.1) (λ x us cs t. t) ls h
is_means part.UntaggedScenario ls h = both_cut (IsHeading block.Scenario) IsBelowScenario IsUntaggedScenario (λ x. x.0) (λ x. x.1) (λ x us cs t. t) ls h
is_means part.Scenario ls h = both_cut TagLines IsUntaggedScenario IsScenario (λ e. e.tags) (λ e. ((e.location, e.keyword, e.name, e.description), (e.steps, e.examples))) (λ x us cs t. t) ls h
is_means part.Scenarios ls h = each_cut IsScenario (full_scenario) ls h
is_means part.Background ls h = both_cut (IsHeading block.Background) (Each IsStep) IsBackground (λ e. (e.location, e.keyword, e.name, e.description)) (λ e. e.steps) (λ x us cs t. t) ls h
is_means part.MaybeBackground ls h = optional_cut IsBackground ls h
is_means part.BelowRule ls h = both_cut (AtMostOne IsBackground) (Each IsScenario) IsBelowRule (λ x. x.0) (λ x. x.1) (λ x us cs t. t) ls h
is_means part.UntaggedRule ls h = both_cut (IsHeading block.Rule) IsBelowRule IsUntaggedRule (λ x. x.0) (λ x. x.1) (λ x us cs t. t) ls h
is_means part.Rule ls h = both_cut TagLines IsUntaggedRule IsRule (λ e. e.tags) (λ e. ((e.location, e.keyword, e.name, e.description), (e.background, e.scenarios))) (λ x us cs t. t) ls h
is_means part.Rules ls h = each_cut IsRule (full_rule) ls h
is_means part.ScenariosAndRules ls h = both_cut (Each IsScenario) (Each IsRule) AreScenariosAndRules (λ x. x.0) (λ x. x.1) (λ x us cs t. t) ls h
is_means part.BelowFeature ls h = both_cut (AtMostOne IsBackground) AreScenariosAndRules IsBelowFeature (λ x. x.0) (λ x. x.1) (λ x us cs t. t) ls h
is_means part.UntaggedFeature ls h = both_cut (IsHeading block.Feature) IsBelowFeature IsUntaggedFeature (λ x. x.0) (λ x. x.1) (λ x us cs t. t) ls h
is_means part.Feature ls h = both_cut TagLines IsUntaggedFeature IsFeature (λ e. e.tags) (λ e. ((e.location, e.keyword, e.name, e.description), (e.background, (e.scenarios, e.rules)))) (λ x us cs t. t) ls h
is_means part.SpokenGap ls h = both_cut (Bare IsPlainGap) (Bare (OneLine IsEnglish)) IsSpokenGap (λ x. tt) (λ x. tt) (λ x us cs t. t) ls h
is_means part.Opening ls h = opening_cut ls h
is_means part.FeatureText ls h = both_cut (Bare IsOpening) IsFeature IsWithFeature (λ f. tt) (λ f. f) (λ x us cs t. t) ls h

-- and what the rule says, it is
pub means_is : (p : Part) (ls : List Line) → Means p (rule_of p) ls → Is p ls
means_is part.PlainGap ls h = h
means_is part.EnglishLine ls h = h
means_is part.TagLine ls h = h
means_is part.StepLine ls h = h
means_is (part.Row x) ls h = h
means_is (part.Heading x) ls h = h
means_is part.DocString ls h = h
means_is (part.Rows x) ls h = cut_each (IsRowOf x) ls h
means_is part.Table ls h = rows_table ls h
means_is part.Argument ls (inl h) = (Table h.0, h.1, h.2)
means_is part.Argument ls (inr h) = (Quoted h.0, h.1, h.2)
means_is part.MaybeArgument ls h = cut_optional IsArgument ls h
means_is part.Step ls h = cut_both (λ (s : tree.Step). OneLine (IsStepLine s)) (AtMostOne IsArgument) IsStep (λ s o. record s { argument = o }) (another_step) ls h
means_is part.Steps ls h = cut_each IsStep ls h
means_is part.TagLines ls h = cut_tags ls h
means_is part.MaybeTable ls h = cut_table ls h
means_is part.UntaggedExamples ls h = cut_both (IsHeading block.Examples) (AtMostOne IsExampleTable) IsUntaggedExamples (λ x y. (x, y)) (λ x y us cs t. t) ls h
means_is part.Examples ls h = cut_both TagLines IsUntaggedExamples IsExamples (λ x y. record { node = 0; location = y.0.0; tags = x; keyword = y.0.1; name = y.0.2; description = y.0.3; table = y.1 }) (λ x y us cs t. t) ls h
means_is part.ExamplesBlocks ls h = cut_each IsExamples ls h
means_is part.BelowScenario ls h = cut_both (Each IsStep) (Each IsExamples) IsBelowScenario (λ x y. (x, y)) (λ x y us cs t. t) ls h
means_is part.UntaggedScenario ls h = cut_both (IsHeading block.Scenario) IsBelowScenario IsUntaggedScenario (λ x y. (x, y)) (λ x y us cs t. t) ls h
means_is part.Scenario ls h = cut_both TagLines IsUntaggedScenario IsScenario (λ x y. record { node = 0; location = y.0.0; tags = x; keyword = y.0.1; name = y.0.2; description = y.0.3; steps = y.1.0; examples = y.1.1 }) (λ x y us cs t. t) ls h
means_is part.Scenarios ls h = cut_each IsScenario ls h
means_is part.Background ls h = cut_both (IsHeading block.Background) (Each IsStep) IsBackground (λ x y. record { node = 0; location = x.0; keyword = x.1; name = x.2; description = x.3; steps = y }) (λ x y us cs t. t) ls h
means_is part.MaybeBackground ls h = cut_optional IsBackground ls h
means_is part.BelowRule ls h = cut_both (AtMostOne IsBackground) (Each IsScenario) IsBelowRule (λ x y. (x, y)) (λ x y us cs t. t) ls h
means_is part.UntaggedRule ls h = cut_both (IsHeading block.Rule) IsBelowRule IsUntaggedRule (λ x y. (x, y)) (λ x y us cs t. t) ls h
means_is part.Rule ls h = cut_both TagLines IsUntaggedRule IsRule (λ x y. record { node = 0; location = y.0.0; tags = x; keyword = y.0.1; name = y.0.2; description = y.0.3; background = y.1.0; scenarios = y.1.1 }) (λ x y us cs t. t) ls h
means_is part.Rules ls h = cut_each IsRule ls h
means_is part.ScenariosAndRules ls h = cut_both (Each IsScenario) (Each IsRule) AreScenariosAndRules (λ x y. (x, y)) (λ x y us cs t. t) ls h
means_is part.BelowFeature ls h = cut_both (AtMostOne IsBackground) AreScenariosAndRules IsBelowFeature (λ x y. (x, y)) (λ x y us cs t. t) ls h
means_is part.UntaggedFeature ls h = cut_both (IsHeading block.Feature) IsBelowFeature IsUntaggedFeature (λ x y. (x, y)) (λ x y us cs t. t) ls h
means_is part.Feature ls h = cut_both TagLines IsUntaggedFeature IsFeature (λ x y. record { location = y.0.0; tags = x; language = english; keyword = y.0.1; name = y.0.2; description = y.0.3; background = y.1.0; scenarios = y.1.1.0; rules = y.1.1.1 }) (λ x y us cs t. t) ls h
means_is part.SpokenGap ls h = cut_both (Bare IsPlainGap) (Bare (OneLine IsEnglish)) IsSpokenGap (λ x y. tt) (λ x y us cs t. t) ls h
means_is part.Opening ls (inl h) = (tt, h.1, inl h.2)
means_is part.Opening ls (inr h) = (tt, h.1, inr h.2)
means_is part.FeatureText ls h = cut_both (Bare IsOpening) IsFeature IsWithFeature (λ x f. f) (λ x y us cs t. t) ls h
