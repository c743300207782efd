-- The comments of a document are those outside its doc strings, but the language line that counts.
use Rattle.std.proofs.Common.{◌≡◌, ℕ, Bool, true, false, cond, List, [], ◌∷◌, ◌++◌, map, Option, Some, None, refl, sym, ap, subst, ◌∙◌, append-nil, append_assoc, inl, inr}
use Rattle.std.proofs.lemmas.Bool.{false≢true}
use Rattle.std.specs.Prelude.{filter, IsTrue, IsFalse}
use Rattle.std.specs.List.{AllByRecursion, flat_map}
use Rattle.gk_document.specs.declared.tree.Argument.TheVariants.{Table, Text as Quoted}
use Rattle.gk_document.specs.declared.tree.Fence.{Fence}
use Rattle.gk_document.specs.declared.tree.Fence.TheVariants.{Quotes, Backticks}
use Rattle.gk_line.specs.declared.tokens.Block.{Block}
use Rattle.gk_line.specs.declared.tokens.Block.TheVariants as block
use Rattle.gk_grammar.specs.Token.{Utf8, Blank, Comment, Language, Tags, Title, Step, Row, Fenced, Line, line, is_comment, is_gap, is_language}
use Rattle.gk_grammar.specs.Tree as tree
use Rattle.gk_grammar.specs.Tree.{Location, Tag, DocString, Background, ExampleTable, Examples, Scenario, Rule, Feature, Document}
use Rattle.gk_grammar.specs.Grammar.{Piece, Then, ◌⨾◌, Nothing, Each, AtMostOne, comment_of, comments_of, OneLine, IsTagLine, TagLines, TitleAndDescription, IsRow, IsTable, is_fence, IsDocString, IsArgument, IsStepLine, IsStep, IsBackground, IsExampleTable, IsExamples, IsScenario, IsRule, IsFeature, IsPlainGap, IsEnglish, IsOpening, IsFeatureText}
use Rattle.gk_grammar.proofs.Pieces.{comments_of-append}
use Rattle.gk_laws.specs.Documents.{read_lines}
use Rattle.gk_laws.specs.Comments.{argument_doc_strings, step_doc_strings, background_doc_strings, scenario_doc_strings, rule_doc_strings, doc_strings, AreOutside, IsFirstLanguage, HasComments, CommentsAreOutside}

-- ---- comments of lines

comments-other : (l : Line) (ls : List Line) → is_comment l ≡ false → comments_of (l ∷ ls) ≡ comments_of ls
comments-other l ls e =
    ap (λ (b : Bool). map comment_of (cond b (l ∷ filter is_comment ls) (filter is_comment ls))) e

fence_is_no_comment : (f : Fence) (l : Line) → IsTrue (is_fence f l) → is_comment l ≡ false
fence_is_no_comment Quotes (line n t i Comment) h = absurd (false≢true h)
fence_is_no_comment Quotes (line n t i (Language w)) h = absurd (false≢true h)
fence_is_no_comment Backticks (line n t i Comment) h = absurd (false≢true h)
fence_is_no_comment Backticks (line n t i (Language w)) h = absurd (false≢true h)
fence_is_no_comment f (line n t i _) h = refl

fence_opens : (f : Fence) (n : ℕ) (t : List ℕ) (i : ℕ) (m : Utf8) → is_fence f (line n t i (Fenced f m)) ≡ true
fence_opens Quotes n t i m = refl
fence_opens Backticks n t i m = refl

-- ---- lines outside doc strings

outside_later : (ds : List DocString) (ls ms more : List Line) → AreOutside ds ms more
    → AreOutside ds (ls ++ ms) (ls ++ more)
outside_later [] ls ms more h = ap (λ (z : List Line). ls ++ z) h
outside_later (d ∷ ds) ls ms more (before, after, opening, closing, c, rest, k, e) = (
  ls ++ before,
  after,
  opening,
  closing,
  record {
    inside = c.inside;
    cut = ap (λ (z : List Line). ls ++ z) c.cut ∙ sym (append_assoc ls before (opening ∷ (c.inside ++ closing ∷ after)));
    place = c.place;
    opens = c.opens;
    open_yet = c.open_yet;
    closes = c.closes;
  },
  rest,
  k,
  ap (λ (z : List Line). ls ++ z) e ∙ sym (append_assoc ls before (opening ∷ closing ∷ rest)),
)

outside_both : (ds es : List DocString) (ls ms out more : List Line) → AreOutside ds ls out
    → AreOutside es ms more → AreOutside (ds ++ es) (ls ++ ms) (out ++ more)
outside_both [] es ls ms out more h k =
    subst (λ (z : List Line). AreOutside es (ls ++ ms) (z ++ more)) (sym h) (outside_later es ls ms more k)
outside_both (d ∷ ds) es ls ms out more (before, after, opening, closing, c, rest, h, e) k = (
  before,
  after ++ ms,
  opening,
  closing,
  record {
    inside = c.inside;
    cut = ap (λ (z : List Line). z ++ ms) c.cut
        ∙ append_assoc before (opening ∷ (c.inside ++ closing ∷ after)) ms
        ∙ ap (λ (z : List Line). before ++ opening ∷ z) (append_assoc c.inside (closing ∷ after) ms);
    place = c.place;
    opens = c.opens;
    open_yet = c.open_yet;
    closes = c.closes;
  },
  rest ++ more,
  outside_both ds es after ms rest more h k,
  ap (λ (z : List Line). z ++ more) e ∙ append_assoc before (opening ∷ closing ∷ rest) more,
)

-- what is outside, and its comments
abbrev Outside : List DocString → List Line → List tree.Comment → Type 0
Outside ds ls cs = (out : List Line) × AreOutside ds ls out × (cs ≡ comments_of out)

abbrev OutsideOf : Piece → List DocString → Type 0
OutsideOf P ds = (ls : List Line) (cs : List tree.Comment) → P ls cs → Outside ds ls cs

outside_nothing : OutsideOf Nothing []
outside_nothing ls cs h = (ls, refl, h.1 ∙ sym (ap comments_of h.0))

outside_then : (P Q : Piece) (ds es : List DocString) → OutsideOf P ds → OutsideOf Q es
    → OutsideOf (Then P Q) (ds ++ es)
outside_then P Q ds es f g ls cs t =
    let a = f t.front t.front_comments t.first in
    let b = g t.back t.back_comments t.second in (
      a.0 ++ b.0,
      subst (λ (z : List Line). AreOutside (ds ++ es) z (a.0 ++ b.0)) (sym t.cut)
          (outside_both ds es t.front t.back a.0 b.0 a.1 b.1),
      t.comments ∙ ap (λ (z : List tree.Comment). z ++ t.back_comments) a.2
          ∙ ap (λ (z : List tree.Comment). comments_of a.0 ++ z) b.2 ∙ sym (comments_of-append a.0 b.0),
    )

outside_each : {A : Type 0} (P : A → Piece) (ds : A → List DocString)
    → ((x : A) → OutsideOf (P x) (ds x)) → (xs : List A) → OutsideOf (Each P xs) (flat_map ds xs)
outside_each P ds f [] ls cs h = outside_nothing ls cs h
outside_each P ds f (x ∷ xs) ls cs h =
    outside_then (P x) (Each P xs) (ds x) (flat_map ds xs) (f x)
    (λ us vs k. outside_each P ds f xs us vs k) ls cs h

outside_plain : {A : Type 0} (P : A → Piece) → ((x : A) → OutsideOf (P x) []) → (xs : List A)
    → OutsideOf (Each P xs) []
outside_plain P f [] ls cs h = outside_nothing ls cs h
outside_plain P f (x ∷ xs) ls cs h =
    outside_then (P x) (Each P xs) [] [] (f x) (λ us vs k. outside_plain P f xs us vs k) ls cs h

outside_line : (P : Line → Type 0) → ((l : Line) → P l → is_comment l ≡ false) → OutsideOf (OneLine P) []
outside_line P f [] cs h = absurd h
outside_line P f (l ∷ ls) cs h = (l ∷ ls, refl, h.1.1 ∙ sym (comments-other l ls (f l h.0)))

-- ---- parts

tag_line_plain : (tags : List Tag) (l : Line) → IsTagLine tags l → is_comment l ≡ false
tag_line_plain tags (line n t i (Tags r)) h = refl
tag_line_plain tags (line n t i _) h = absurd h

tags_outside : (tags : List Tag) → OutsideOf (TagLines tags) []
tags_outside tags ls cs h =
    outside_plain (λ ts. OneLine (IsTagLine ts)) (λ ts. outside_line (IsTagLine ts) (tag_line_plain ts)) h.0 ls cs h.2

title_outside : (b : Block) (p : Location) (k m d : Utf8) → OutsideOf (TitleAndDescription b p k m d) []
title_outside b p k m d [] cs h = absurd h
title_outside b p k m d (line n t i (Title c y z) ∷ ls) cs h = (line n t i (Title c y z) ∷ ls, refl, h.3)
title_outside b p k m d (line n t i Blank ∷ ls) cs h = absurd h.0
title_outside b p k m d (line n t i _ ∷ ls) cs h = absurd h.0

row_plain : (r : tree.Row) (l : Line) → IsRow r l → is_comment l ≡ false
row_plain r (line n t i (Row cells)) h = refl
row_plain r (line n t i _) h = absurd h

table_outside : (rows : List tree.Row) → OutsideOf (IsTable rows) []
table_outside [] ls cs h = absurd h
table_outside (r ∷ rs) ls cs h =
    outside_plain (λ x. OneLine (IsRow x)) (λ x. outside_line (IsRow x) (row_plain x)) (r ∷ rs) ls cs h.1

doc_string_outside : (d : DocString) → OutsideOf (IsDocString d) (d ∷ [])
doc_string_outside d [] cs h = absurd h
doc_string_outside d (line n t i (Fenced f media) ∷ ls) cs h =
    let opening : Line = line n t i (Fenced f media) in
    let c = h.3 in
    let same : f ≡ d.fence = sym h.1 in
    let by_fence : Fence → Line → Type 0 = λ g l. IsTrue (is_fence g l) in (
      opening ∷ c.close ∷ c.gap,
      (
        [],
        c.gap,
        opening,
        c.close,
        record {
          inside = c.inside;
          cut = ap (λ (z : List Line). opening ∷ z) c.cut;
          place = sym (ap (λ (z : Location). z.line) h.0);
          opens = subst (λ (g : Fence). by_fence g opening) same (fence_opens f n t i media);
          open_yet = subst (λ (g : Fence). AllByRecursion (λ l. IsFalse (is_fence g l)) c.inside) same c.open_yet;
          closes = subst (λ (g : Fence). by_fence g c.close) same c.closed;
        },
        c.gap,
        refl,
        refl,
      ),
      c.gap_after.1 ∙ sym (comments-other c.close c.gap (fence_is_no_comment f c.close c.closed)),
    )
doc_string_outside d (line n t i _ ∷ ls) cs h = absurd h

argument_outside : (a : Option tree.Argument) → OutsideOf (AtMostOne IsArgument a) (argument_doc_strings a)
argument_outside None = outside_nothing
argument_outside (Some (Table rows)) = table_outside rows
argument_outside (Some (Quoted d)) = doc_string_outside d

step_plain : (s : tree.Step) (l : Line) → IsStepLine s l → is_comment l ≡ false
step_plain s (line n t i (Step k y m)) h = refl
step_plain s (line n t i _) h = absurd h

step_outside : (s : tree.Step) → OutsideOf (IsStep s) (step_doc_strings s)
step_outside s =
    outside_then (OneLine (IsStepLine s)) (AtMostOne IsArgument s.argument) [] (step_doc_strings s)
    (outside_line (IsStepLine s) (step_plain s)) (argument_outside s.argument)

background_outside : (o : Option Background) → OutsideOf (AtMostOne IsBackground o) (background_doc_strings o)
background_outside None = outside_nothing
background_outside (Some b) =
    outside_then (TitleAndDescription block.Background b.location b.keyword b.name b.description) (Each IsStep b.steps)
    [] (flat_map step_doc_strings b.steps)
    (title_outside block.Background b.location b.keyword b.name b.description)
    (outside_each IsStep step_doc_strings step_outside b.steps)

example_table_outside : (o : Option ExampleTable) → OutsideOf (AtMostOne IsExampleTable o) []
example_table_outside None = outside_nothing
example_table_outside (Some t) = table_outside (t.header ∷ t.body)

-- a header, and what is below it
header_outside : (b : Block) (p : Location) (tags : List Tag) (k m d : Utf8) (Q : Piece)
    (ds : List DocString) → OutsideOf Q ds → OutsideOf (TagLines tags ⨾ TitleAndDescription b p k m d ⨾ Q) ds
header_outside b p tags k m d Q ds f =
    outside_then (TagLines tags) (TitleAndDescription b p k m d ⨾ Q) [] ds (tags_outside tags)
    (outside_then (TitleAndDescription b p k m d) Q [] ds (title_outside b p k m d) f)

examples_outside : (e : Examples) → OutsideOf (IsExamples e) []
examples_outside e =
    header_outside block.Examples e.location e.tags e.keyword e.name e.description
    (AtMostOne IsExampleTable e.table) [] (example_table_outside e.table)

scenario_outside : (s : Scenario) → OutsideOf (IsScenario s) (scenario_doc_strings s)
scenario_outside s =
    header_outside block.Scenario s.location s.tags s.keyword s.name s.description
    (Each IsStep s.steps ⨾ Each IsExamples s.examples) (scenario_doc_strings s)
    (λ ls cs h. subst (λ (ds : List DocString). Outside ds ls cs) (append-nil (scenario_doc_strings s))
    (outside_then (Each IsStep s.steps) (Each IsExamples s.examples) (scenario_doc_strings s) []
    (outside_each IsStep step_doc_strings step_outside s.steps)
    (outside_plain IsExamples examples_outside s.examples) ls cs h))

rule_outside : (r : Rule) → OutsideOf (IsRule r) (rule_doc_strings r)
rule_outside r =
    header_outside block.Rule r.location r.tags r.keyword r.name r.description
    (AtMostOne IsBackground r.background ⨾ Each IsScenario r.scenarios) (rule_doc_strings r)
    (outside_then (AtMostOne IsBackground r.background) (Each IsScenario r.scenarios)
    (background_doc_strings r.background) (flat_map scenario_doc_strings r.scenarios)
    (background_outside r.background) (outside_each IsScenario scenario_doc_strings scenario_outside r.scenarios))

-- what is below the header of a feature
abbrev BelowHeader : Feature → Piece
BelowHeader f = AtMostOne IsBackground f.background ⨾ Each IsScenario f.scenarios ⨾ Each IsRule f.rules

below_outside : (f : Feature) → OutsideOf (BelowHeader f) (doc_strings (Some f))
below_outside f =
    outside_then (AtMostOne IsBackground f.background) (Each IsScenario f.scenarios ⨾ Each IsRule f.rules)
    (background_doc_strings f.background)
    (flat_map scenario_doc_strings f.scenarios ++ flat_map rule_doc_strings f.rules)
    (background_outside f.background)
    (outside_then (Each IsScenario f.scenarios) (Each IsRule f.rules)
    (flat_map scenario_doc_strings f.scenarios) (flat_map rule_doc_strings f.rules)
    (outside_each IsScenario scenario_doc_strings scenario_outside f.scenarios)
    (outside_each IsRule rule_doc_strings rule_outside f.rules))

feature_outside : (f : Feature) → OutsideOf (IsFeature f) (doc_strings (Some f))
feature_outside f =
    header_outside block.Feature f.location f.tags f.keyword f.name f.description (BelowHeader f)
    (doc_strings (Some f)) (below_outside f)

-- ---- the first line of a feature

-- the lines begin with one that is neither blank nor a comment, if there are any
abbrev BeginsFilled : List Line → Type 0
BeginsFilled [] = Unit {0}
BeginsFilled (l ∷ ls) = is_gap l ≡ false

tag_line_filled : (tags : List Tag) (l : Line) → IsTagLine tags l → is_gap l ≡ false
tag_line_filled tags (line n t i (Tags r)) h = refl
tag_line_filled tags (line n t i _) h = absurd h

filled_first : (xs ys : List Line) → BeginsFilled xs → BeginsFilled ys → BeginsFilled (xs ++ ys)
filled_first [] ys a b = b
filled_first (x ∷ xs) ys a b = a

each_filled : (parts : List (List Tag)) (ls : List Line) (cs : List tree.Comment)
    → Each (λ ts. OneLine (IsTagLine ts)) parts ls cs → BeginsFilled ls
each_filled [] ls cs h = subst BeginsFilled (sym h.0) tt
each_filled (ts ∷ parts) ls cs h =
    subst BeginsFilled (sym h.cut) (filled_first h.front h.back
    (line_filled h.front h.front_comments h.first) (each_filled parts h.back h.back_comments h.second))
  where
    line_filled : (xs : List Line) (us : List tree.Comment) → OneLine (IsTagLine ts) xs us → BeginsFilled xs
    line_filled [] us k = tt
    line_filled (x ∷ xs) us k = tag_line_filled ts x k.0

title_filled : (b : Block) (p : Location) (k m d : Utf8) (ls : List Line) (cs : List tree.Comment)
    → TitleAndDescription b p k m d ls cs → BeginsFilled ls
title_filled b p k m d [] cs h = tt
title_filled b p k m d (line n t i (Title c y z) ∷ ls) cs h = refl
title_filled b p k m d (line n t i Blank ∷ ls) cs h = absurd h.0
title_filled b p k m d (line n t i _ ∷ ls) cs h = absurd h.0

-- a title is there, so the lines of a feature are some
feature_filled : (f : Feature) (ls : List Line) (cs : List tree.Comment) → IsFeature f ls cs → BeginsFilled ls
feature_filled f ls cs h =
    subst BeginsFilled (sym h.cut) (filled_first h.front h.back
    (each_filled h.first.0 h.front h.front_comments h.first.2)
    (subst BeginsFilled (sym h.second.cut) (titled h.second.front h.second.front_comments h.second.first)))
  where
    titled : (xs : List Line) (us : List tree.Comment)
        → TitleAndDescription block.Feature f.location f.keyword f.name f.description xs us
        → BeginsFilled (xs ++ h.second.back)
    titled [] us k = absurd k
    titled (x ∷ xs) us k = title_filled block.Feature f.location f.keyword f.name f.description (x ∷ xs) us k

-- what is outside begins as the lines do
outside_filled : (ds : List DocString) (ls out : List Line) → AreOutside ds ls out → BeginsFilled ls
    → BeginsFilled out
outside_filled [] ls out h b = subst BeginsFilled (sym h) b
outside_filled (d ∷ ds) ls out (before, after, opening, closing, c, more, k, e) b =
    subst BeginsFilled (sym e) (go before (subst BeginsFilled c.cut b))
  where
    go : (xs : List Line) → BeginsFilled (xs ++ opening ∷ (c.inside ++ closing ∷ after))
        → BeginsFilled (xs ++ opening ∷ closing ∷ more)
    go [] h = h
    go (x ∷ xs) h = h

-- ---- the language line that counts

language_is_gap : (l : Line) → IsTrue (is_language l) → is_gap l ≡ true
language_is_gap (line n t i (Language w)) h = refl
language_is_gap (line n t i Blank) h = absurd (false≢true h)
language_is_gap (line n t i _) h = absurd (false≢true h)

no_first_language : (front back before after : List Line) (l : Line)
    → AllByRecursion (λ x. IsFalse (is_language x)) front → BeginsFilled back
    → front ++ back ≡ before ++ l ∷ after → IsFirstLanguage before l → ⊥
no_first_language [] [] [] after l p b e h = absurd cc
no_first_language [] [] (x ∷ before) after l p b e h = absurd cc
no_first_language [] (y ∷ back) [] after l p b e h =
    let same : y ≡ l = cc in
    false≢true (sym b ∙ ap is_gap same ∙ language_is_gap l h.1)
no_first_language [] (y ∷ back) (x ∷ before) after l p b e h =
    let same : y ≡ x = cc in
    false≢true (sym b ∙ ap is_gap same ∙ h.0.0.0)
no_first_language (y ∷ front) back [] after l p b e h =
    let same : y ≡ l = cc in
    false≢true (sym p.0 ∙ ap is_language same ∙ h.1)
no_first_language (y ∷ front) back (x ∷ before) after l p b e h =
    let rest : front ++ back ≡ before ++ l ∷ after = cc in
    no_first_language front back before after l p.1 b rest (h.0.1, h.1)

plain_before : (ls : List Line) → AllByRecursion (λ l. IsFalse (is_language l)) ls
    → AllByRecursion (λ l. IsTrue (is_gap l)) ls
    → AllByRecursion (λ x. IsTrue (is_gap x) × IsFalse (is_language x)) ls
plain_before [] a b = tt
plain_before (l ∷ ls) a b = ((b.0, a.0), plain_before ls a.1 b.1)

english_is_language : (l : Line) → IsEnglish l → IsTrue (is_language l)
english_is_language (line n t i (Language w)) h = refl
english_is_language (line n t i Blank) h = absurd h
english_is_language (line n t i _) h = absurd h

-- ---- a text

-- lines without a language line that counts, and a back that begins with no comment
plain_text : (front back out : List Line) (fc bc : List tree.Comment) → IsPlainGap front fc
    → BeginsFilled out → bc ≡ comments_of out → HasComments (front ++ out) (fc ++ bc)
plain_text front back out fc bc p b e =
    inl (
      ap (λ (z : List tree.Comment). z ++ bc) p.1.1 ∙ ap (λ (z : List tree.Comment). comments_of front ++ z) e
          ∙ sym (comments_of-append front out),
      λ before l after same h. no_first_language front out before after l p.0 b same h,
    )

-- lines with one
english_text : (front out : List Line) (fc bc : List tree.Comment) → (IsPlainGap ⨾ OneLine IsEnglish) front fc
    → bc ≡ comments_of out → HasComments (front ++ out) (fc ++ bc)
english_text front out fc bc t e = go t.back t.back_comments t.second t.cut t.comments
  where
    go : (xs : List Line) (us : List tree.Comment) → OneLine IsEnglish xs us → front ≡ t.front ++ xs
        → fc ≡ t.front_comments ++ us → HasComments (front ++ out) (fc ++ bc)
    go [] us h cut comments = absurd h
    go (l ∷ gap) us h cut comments =
        inr (
          t.front,
          l,
          gap ++ out,
          ap (λ (z : List Line). z ++ out) cut ∙ append_assoc t.front (l ∷ gap) out,
          (plain_before t.front t.first.0 t.first.1.0, english_is_language l h.0),
          ap (λ (z : List tree.Comment). z ++ bc) comments
              ∙ append_assoc t.front_comments us bc
              ∙ ap (λ (z : List tree.Comment). z ++ (us ++ bc)) t.first.1.1
              ∙ ap (λ (z : List tree.Comment). comments_of t.front ++ (z ++ bc)) h.1.1
              ∙ ap (λ (z : List tree.Comment). comments_of t.front ++ (comments_of gap ++ z)) e
              ∙ ap (λ (z : List tree.Comment). comments_of t.front ++ z) (sym (comments_of-append gap out))
              ∙ sym (comments_of-append t.front (gap ++ out)),
        )

opened : (front out : List Line) (fc bc : List tree.Comment) → IsOpening front fc → BeginsFilled out
    → bc ≡ comments_of out → HasComments (front ++ out) (fc ++ bc)
opened front out fc bc (inl p) b e = plain_text front out out fc bc p b e
opened front out fc bc (inr t) b e = english_text front out fc bc t e

of_text : (o : Option Feature) (ls : List Line) (cs : List tree.Comment) → IsFeatureText o ls cs
    → (outside : List Line) × AreOutside (doc_strings o) ls outside × HasComments outside cs
of_text None ls cs h = (
  ls,
  refl,
  inl (
    h.1.1,
    λ before l after same k.
        no_first_language ls [] before after l h.0 tt (append-nil ls ∙ same) k,
  ),
)
of_text (Some f) ls cs (is, t) =
    let below = feature_outside f t.back t.back_comments t.second in
    let begins = outside_filled (doc_strings (Some f)) t.back below.0 below.1
    (feature_filled f t.back t.back_comments t.second) in (
      t.front ++ below.0,
      subst (λ (z : List Line). AreOutside (doc_strings (Some f)) z (t.front ++ below.0)) (sym t.cut)
          (outside_later (doc_strings (Some f)) t.front t.back below.0 below.1),
      subst (HasComments (t.front ++ below.0)) (sym t.comments)
          (opened t.front below.0 t.front_comments t.back_comments t.first begins below.2),
    )

pub comments_outside_holds : CommentsAreOutside
comments_outside_holds texts d h = of_text d.feature (read_lines texts) d.comments h.text
