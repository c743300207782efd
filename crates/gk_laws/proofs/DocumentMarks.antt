-- The parts of a document are among what stands in its lines, in order.
use Rattle.std.proofs.Common.{◌≡◌, ℕ, ◌+◌, List, [], ◌∷◌, ◌++◌, Option, Some, None, Ok, Err, refl, sym, ap, subst, ◌∙◌, append-nil, inl, inr}
use Rattle.std.proofs.lemmas.List.{map-append}
use Rattle.std.proofs.lemmas.Grind.{flat_map-append}
use Rattle.std.specs.Prelude.{◌⊎◌, map, codes}
use Rattle.std.specs.List.{AllByRecursion, flat_map}
use Rattle.gk_line.specs.declared.tokens.Block.{Block}
use Rattle.gk_line.specs.declared.tokens.Block.TheVariants as block
use Rattle.gk_document.specs.Fences.{fence_characters}
use Rattle.gk_document.specs.declared.tree.Argument.TheVariants.{Table, Text as Quoted}
use Rattle.gk_grammar.specs.Token.{Utf8, TagText, Blank, Tags, Title, Step, Row, Fenced, Line, line}
use Rattle.gk_grammar.specs.Tree as tree
use Rattle.gk_grammar.specs.Tree.{Location, Tag, DocString, Argument, Background, ExampleTable, Examples, Scenario, Rule, Feature}
use Rattle.gk_grammar.specs.Grammar.{Piece, Then, ◌⨾◌, Nothing, Each, AtMostOne, OneLine, at, place_and_name, tag_at, IsTagLine, TagLines, TitleAndDescription, IsRow, IsTable, IsDocString, IsArgument, IsStepLine, IsStep, IsBackground, IsExampleTable, IsExamples, IsScenario, IsRule, IsFeature, IsOpening, IsFeatureText, table_rows}
use Rattle.gk_laws.specs.Marks.{Exactly, AsTag, Mark, tag_mark, tag_marks, row_mark, row_marks, argument_marks, step_marks, background_marks, examples_marks, scenario_marks, rule_marks, feature_marks}
use Rattle.gk_laws.proofs.LineMarks.{line_marks}

-- ---- marks among others

-- the marks are among the others, in their order
abbrev pub Among : List Mark → List Mark → Type 0
Among [] ys = Unit {0}
Among (x ∷ xs) [] = ⊥
Among (x ∷ xs) (y ∷ ys) = ((x ≡ y) × Among xs ys) ⊎ Among (x ∷ xs) ys

among_later : (xs ps qs : List Mark) → Among xs qs → Among xs (ps ++ qs)
among_later [] ps qs h = tt
among_later (x ∷ xs) [] qs h = h
among_later (x ∷ xs) (p ∷ ps) qs h = inr (among_later (x ∷ xs) ps qs h)

among_both : (xs ys ps qs : List Mark) → Among xs ps → Among ys qs → Among (xs ++ ys) (ps ++ qs)
among_both [] ys ps qs a b = among_later ys ps qs b
among_both (x ∷ xs) ys [] qs a b = absurd a
among_both (x ∷ xs) ys (p ∷ ps) qs (inl a) b = inl (a.0, among_both xs ys ps qs a.1 b)
among_both (x ∷ xs) ys (p ∷ ps) qs (inr a) b = inr (among_both (x ∷ xs) ys ps qs a b)

-- what holds of all holds of those among them
pub all_among : (P : Mark → Type 0) (xs ys : List Mark) → Among xs ys → AllByRecursion P ys
    → AllByRecursion P xs
all_among P [] ys h a = tt
all_among P (x ∷ xs) [] h a = absurd h
all_among P (x ∷ xs) (y ∷ ys) (inl h) a = (subst P (sym h.0) a.0, all_among P xs ys h.1 a.1)
all_among P (x ∷ xs) (y ∷ ys) (inr h) a = all_among P (x ∷ xs) ys h a.1

-- ---- marks of a piece

abbrev pub marks_in : List Line → List Mark
marks_in ls = flat_map line_marks ls

-- the marks are among what stands in the piece's lines
abbrev MarksOf : Piece → List Mark → Type 0
MarksOf P marks = (ls : List Line) (cs : List tree.Comment) → P ls cs → Among marks (marks_in ls)

no_marks : (P : Piece) → MarksOf P []
no_marks P ls cs h = tt

marks_then : (P Q : Piece) (xs ys : List Mark) → MarksOf P xs → MarksOf Q ys
    → MarksOf (Then P Q) (xs ++ ys)
marks_then P Q xs ys f g ls cs t =
    subst (λ (z : List Mark). Among (xs ++ ys) z)
    (sym (ap marks_in t.cut ∙ flat_map-append line_marks t.front t.back))
    (among_both xs ys (marks_in t.front) (marks_in t.back) (f t.front t.front_comments t.first)
    (g t.back t.back_comments t.second))

marks_each : {A : Type 0} (P : A → Piece) (marks : A → List Mark)
    → ((x : A) → MarksOf (P x) (marks x)) → (xs : List A) → MarksOf (Each P xs) (flat_map marks xs)
marks_each P marks f [] ls cs t = tt
marks_each P marks f (x ∷ xs) ls cs t =
    marks_then (P x) (Each P xs) (marks x) (flat_map marks xs) (f x)
    (λ us vs h. marks_each P marks f xs us vs h) ls cs t

-- the marks of the first line
marks_line : (P : Line → Type 0) (marks : List Mark)
    → ((l : Line) → P l → Among marks (line_marks l)) → MarksOf (OneLine P) marks
marks_line P marks f [] cs h = absurd h
marks_line P marks f (l ∷ ls) cs h =
    subst (λ (z : List Mark). Among z (marks_in (l ∷ ls))) (append-nil marks)
    (among_both marks [] (line_marks l) (marks_in ls) (f l h.0) tt)

-- ---- headers

tags_among : (tags : List Tag) (n : ℕ) (words : List TagText)
    → map place_and_name tags ≡ map (tag_at n) words
    → Among (tag_marks tags) (map (λ (w : TagText). (at n w.column, AsTag (codes "@" ++ w.word))) words)
tags_among [] n words e = tt
tags_among (g ∷ gs) n [] e = absurd cc
tags_among (g ∷ gs) n (w ∷ ws) e =
    let head : place_and_name g ≡ tag_at n w = cc in
    let others : map place_and_name gs ≡ map (tag_at n) ws = cc in
    let mark : Location × Utf8 → Mark = λ z. (z.0, AsTag z.1) in
    inl (ap mark head, tags_among gs n ws others)

tag_line_marks : (tags : List Tag) (l : Line) → IsTagLine tags l → Among (tag_marks tags) (line_marks l)
tag_line_marks tags (line n t i (Tags (Ok words))) h = tags_among tags n words h
tag_line_marks tags (line n t i (Tags (Err c))) h = absurd h
tag_line_marks tags (line n t i _) h = absurd h

tags_of_lines : (parts : List (List Tag))
    → tag_marks (flat_map (λ z. z) parts) ≡ flat_map tag_marks parts
tags_of_lines [] = refl
tags_of_lines (ts ∷ parts) =
    map-append tag_mark ts (flat_map (λ z. z) parts)
    ∙ ap (λ (z : List Mark). tag_marks ts ++ z) (tags_of_lines parts)

tag_lines_marks : (tags : List Tag) → MarksOf (TagLines tags) (tag_marks tags)
tag_lines_marks tags ls cs h =
    subst (λ (z : List Mark). Among z (marks_in ls)) (sym (ap tag_marks h.1 ∙ tags_of_lines h.0))
    (marks_each (λ ts. OneLine (IsTagLine ts)) tag_marks
    (λ ts. marks_line (IsTagLine ts) (tag_marks ts) (tag_line_marks ts)) h.0 ls cs h.2)

same_mark : (p q : Location) (k m : Utf8) → p ≡ q → k ≡ m
    → ◌≡◌ {A = Mark} (p, Exactly k) (q, Exactly m)
same_mark p q k m e f =
    ap (λ (z : Location). (z, Exactly k)) e ∙ ap (λ (z : Utf8). (q, Exactly z)) f

title_marks : (b : Block) (p : Location) (k m d : Utf8)
    → MarksOf (TitleAndDescription b p k m d) ((p, Exactly k) ∷ [])
title_marks b p k m d [] cs h = absurd h
title_marks b p k m d (line n t i (Title c y z) ∷ ls) cs h =
    inl (same_mark p (at n (i + 1)) k y h.0.1 h.0.2, tt)
title_marks b p k m d (line n t i Blank ∷ ls) cs h = absurd h.0
title_marks b p k m d (line n t i _ ∷ ls) cs h = absurd h.0

-- ---- steps

row_marks_of : (r : tree.Row) (l : Line) → IsRow r l → Among (row_mark r ∷ []) (line_marks l)
row_marks_of r (line n t i (Row cells)) h =
    inl (same_mark r.location (at n (i + 1)) (codes "|") (codes "|") h.0 refl, tt)
row_marks_of r (line n t i _) h = absurd h

rows_marks : (rows : List tree.Row)
    → row_marks rows ≡ flat_map (λ (r : tree.Row). row_mark r ∷ []) rows
rows_marks [] = refl
rows_marks (r ∷ rs) = ap (λ (z : List Mark). row_mark r ∷ z) (rows_marks rs)

table_marks : (rows : List tree.Row) → MarksOf (IsTable rows) (row_marks rows)
table_marks [] ls cs h = absurd h
table_marks (r ∷ rs) ls cs h =
    subst (λ (z : List Mark). Among z (marks_in ls)) (sym (rows_marks (r ∷ rs)))
    (marks_each (λ x. OneLine (IsRow x)) (λ (x : tree.Row). row_mark x ∷ [])
    (λ x. marks_line (IsRow x) (row_mark x ∷ []) (row_marks_of x)) (r ∷ rs) ls cs h.1)

doc_string_marks : (d : DocString)
    → MarksOf (IsDocString d) ((d.location, Exactly (fence_characters d.fence)) ∷ [])
doc_string_marks d [] cs h = absurd h
doc_string_marks d (line n t i (Fenced f media) ∷ ls) cs h =
    inl (
      same_mark d.location (at n (i + 1)) (fence_characters d.fence) (fence_characters f) h.0
          (ap fence_characters h.1),
      tt,
    )
doc_string_marks d (line n t i _ ∷ ls) cs h = absurd h

argument_marks_of : (a : Option Argument) → MarksOf (AtMostOne IsArgument a) (argument_marks a)
argument_marks_of None = no_marks Nothing
argument_marks_of (Some (Table rows)) = table_marks rows
argument_marks_of (Some (Quoted d)) = doc_string_marks d

step_line_marks : (s : tree.Step) (l : Line) → IsStepLine s l
    → Among ((s.location, Exactly s.keyword) ∷ []) (line_marks l)
step_line_marks s (line n t i (Step k y m)) h =
    inl (same_mark s.location (at n (i + 1)) s.keyword k h.0 h.1, tt)
step_line_marks s (line n t i _) h = absurd h

step_marks_of : (s : tree.Step) → MarksOf (IsStep s) (step_marks s)
step_marks_of s =
    marks_then (OneLine (IsStepLine s)) (AtMostOne IsArgument s.argument)
    ((s.location, Exactly s.keyword) ∷ []) (argument_marks s.argument)
    (marks_line (IsStepLine s) ((s.location, Exactly s.keyword) ∷ []) (step_line_marks s))
    (argument_marks_of s.argument)

-- ---- blocks

background_marks_of : (o : Option Background) → MarksOf (AtMostOne IsBackground o) (background_marks o)
background_marks_of None = no_marks Nothing
background_marks_of (Some b) =
    marks_then (TitleAndDescription block.Background b.location b.keyword b.name b.description) (Each IsStep b.steps)
    ((b.location, Exactly b.keyword) ∷ []) (flat_map step_marks b.steps)
    (title_marks block.Background b.location b.keyword b.name b.description)
    (marks_each IsStep step_marks step_marks_of b.steps)

example_table_marks : (o : Option ExampleTable)
    → MarksOf (AtMostOne IsExampleTable o) (row_marks (table_rows o))
example_table_marks None = no_marks Nothing
example_table_marks (Some t) = table_marks (t.header ∷ t.body)

-- a header, and what is below it
header_marks : (b : Block) (p : Location) (tags : List Tag) (k m d : Utf8) (Q : Piece)
    (below : List Mark) → MarksOf Q below
    → MarksOf (TagLines tags ⨾ TitleAndDescription b p k m d ⨾ Q) (tag_marks tags ++ (p, Exactly k) ∷ below)
header_marks b p tags k m d Q below f =
    marks_then (TagLines tags) (TitleAndDescription b p k m d ⨾ Q) (tag_marks tags) ((p, Exactly k) ∷ below)
    (tag_lines_marks tags)
    (marks_then (TitleAndDescription b p k m d) Q ((p, Exactly k) ∷ []) below (title_marks b p k m d) f)

examples_marks_of : (e : Examples) → MarksOf (IsExamples e) (examples_marks e)
examples_marks_of e =
    header_marks block.Examples e.location e.tags e.keyword e.name e.description
    (AtMostOne IsExampleTable e.table) (row_marks (table_rows e.table)) (example_table_marks e.table)

scenario_marks_of : (s : Scenario) → MarksOf (IsScenario s) (scenario_marks s)
scenario_marks_of s =
    header_marks block.Scenario s.location s.tags s.keyword s.name s.description
    (Each IsStep s.steps ⨾ Each IsExamples s.examples)
    (flat_map step_marks s.steps ++ flat_map examples_marks s.examples)
    (marks_then (Each IsStep s.steps) (Each IsExamples s.examples)
    (flat_map step_marks s.steps) (flat_map examples_marks s.examples)
    (marks_each IsStep step_marks step_marks_of s.steps)
    (marks_each IsExamples examples_marks examples_marks_of s.examples))

rule_marks_of : (r : Rule) → MarksOf (IsRule r) (rule_marks r)
rule_marks_of r =
    header_marks block.Rule r.location r.tags r.keyword r.name r.description
    (AtMostOne IsBackground r.background ⨾ Each IsScenario r.scenarios)
    (background_marks r.background ++ flat_map scenario_marks r.scenarios)
    (marks_then (AtMostOne IsBackground r.background) (Each IsScenario r.scenarios)
    (background_marks r.background) (flat_map scenario_marks r.scenarios)
    (background_marks_of r.background)
    (marks_each IsScenario scenario_marks scenario_marks_of r.scenarios))

-- the scenarios and the rules of a feature
children_marks : (f : Feature)
    → MarksOf (Each IsScenario f.scenarios ⨾ Each IsRule f.rules)
    (flat_map scenario_marks f.scenarios ++ flat_map rule_marks f.rules)
children_marks f =
    marks_then (Each IsScenario f.scenarios) (Each IsRule f.rules)
    (flat_map scenario_marks f.scenarios) (flat_map rule_marks f.rules)
    (marks_each IsScenario scenario_marks scenario_marks_of f.scenarios)
    (marks_each IsRule rule_marks rule_marks_of f.rules)

feature_marks_of : (f : Feature) → MarksOf (IsFeature f) (feature_marks (Some f))
feature_marks_of f =
    header_marks block.Feature f.location f.tags f.keyword f.name f.description
    (AtMostOne IsBackground f.background ⨾ Each IsScenario f.scenarios ⨾ Each IsRule f.rules)
    (background_marks f.background
    ++ (flat_map scenario_marks f.scenarios ++ flat_map rule_marks f.rules))
    (marks_then (AtMostOne IsBackground f.background)
    (Each IsScenario f.scenarios ⨾ Each IsRule f.rules) (background_marks f.background)
    (flat_map scenario_marks f.scenarios ++ flat_map rule_marks f.rules)
    (background_marks_of f.background) (children_marks f))

pub text_marks : (f : Option Feature) → MarksOf (IsFeatureText f) (feature_marks f)
text_marks None ls cs h = tt
text_marks (Some f) ls cs h =
    marks_then IsOpening (IsFeature f) [] (feature_marks (Some f)) (no_marks IsOpening)
    (feature_marks_of f) ls cs h.1
