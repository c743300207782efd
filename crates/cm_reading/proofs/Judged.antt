-- Looking for the judged kinds among the members one after the other, as a loop does.
use Rattle.std.proofs.Common.{◌≡◌, ℕ, List, [], ◌∷◌, ◌++◌, Bool, true, false, not, cond, Option, Some, None, unwrap_or, option_map, option_and_then, is_some, Bor, Result, Ok, Err, String, Global, string_bytes, string_cmp, nat_cmp, Less, refl, sym, ap, ◌∙◌, subst, true≢false}
use Rattle.std.proofs.lemmas.Slice.Eq.{bytes_eq-Decides}
use Rattle.std.specs.Cmp.Lexicographic.{slice_cmp}
use Rattle.std.specs.List.{AllByRecursion, cons_option, filter_map, find, list_any}
use Rattle.std.specs.List.Sorted.{IsStrictlySortedBy}
use Rattle.std.specs.Map.{keys_of}
use Rattle.std.specs.Str.{bytes_eq}
use Rattle.serde_json.specs.Data.{Data, object}
use Rattle.serde_json.specs.Find.{as_null, get_member}
use Rattle.serde_json.specs.View.{view, members_view}
use Rattle.serde_json.specs.declared.value.Value.{Value}
use Rattle.serde_json.proofs.Views.{Entry, member_here, member_later}
use Rattle.cm_envelope.specs.declared.kind.Kind.{Kind}
use Rattle.cm_envelope.specs.declared.kind.Kind.TheVariants.{Source, GherkinDocument, ParseError, Pickle, StepDefinition, Hook, TestCase, TestRunStarted, TestCaseStarted, TestStepStarted, TestStepFinished, TestCaseFinished, TestRunFinished, Attachment, TestRunHookStarted, TestRunHookFinished}
use Rattle.cm_envelope.specs.Member.{present_member, unless_null}
use Rattle.cm_envelope.specs.Reading.{LineFault, shape, kinds, kind_name, kind_named, judged_kinds_of, the_one, kind_and_data}

-- the object of these members
abbrev pub object_of : List Entry → Data
object_of es = object (members_view es)

-- the judged kind of a member, with its value
abbrev pub judged_member : Entry → Option (Kind × Data)
judged_member e =
    option_map (λ k. (k, view e.1)) (option_and_then (λ v. kind_named (string_bytes e.0)) (unless_null (view e.1)))

-- those of the members, in their order
abbrev pub judged_members : List Entry → List (Kind × Data)
judged_members es = filter_map judged_member es

-- the kind with its value, where the object has one
abbrev judged_at : Data → Kind → Option (Kind × Data)
judged_at d k = option_map (λ v. (k, v)) (present_member (kind_name k) d)

-- ---- names

named : (k : Kind) → kind_named (kind_name k) ≡ Some k
named Source = refl
named GherkinDocument = refl
named ParseError = refl
named Pickle = refl
named StepDefinition = refl
named Hook = refl
named TestCase = refl
named TestRunStarted = refl
named TestCaseStarted = refl
named TestStepStarted = refl
named TestStepFinished = refl
named TestCaseFinished = refl
named TestRunFinished = refl
named Attachment = refl
named TestRunHookStarted = refl
named TestRunHookFinished = refl

some_same : (j k : Kind) → Some j ≡ Some k → j ≡ k
some_same j k e = ap (λ o. unwrap_or o j) e

-- names of kinds are distinct
same_name : (j k : Kind) → kind_name j ≡ kind_name k → j ≡ k
same_name j k e = some_same j k (sym (named j) ∙ ap kind_named e ∙ named k)

find_passes : (p : Kind → Bool) (ks : List Kind) (k : Kind) → find p ks ≡ Some k → p k ≡ true
find_passes p [] k e = absurd cc
find_passes p (j ∷ ks) k e = go (p j) refl e (find_passes p ks k)
  where
    go : (b : Bool) → p j ≡ b → cond b (Some j) (find p ks) ≡ Some k → (find p ks ≡ Some k → p k ≡ true) → p k ≡ true
    go true t e rest = subst (λ i. p i ≡ true) (some_same j k e) t
    go false t e rest = rest e

name_of : (name : List ℕ) (k : Kind) → kind_named name ≡ Some k → name ≡ kind_name k
name_of name k e = (bytes_eq-Decides name (kind_name k)).0 (find_passes (λ k. bytes_eq name (kind_name k)) kinds k e)

-- ---- one member more

module _ {A : Type 0} where
  not_none : (x : A) (xs : List A) → the_one (x ∷ xs) ≡ Ok None → ⊥
  not_none x [] e = cc
  not_none x (y ∷ xs) e = cc

  -- one element more, wherever it goes in
  one_more : (x : A) (ws before after : List A) → the_one ws ≡ the_one (before ++ after) → the_one (x ∷ ws) ≡ the_one (before ++ x ∷ after)
  one_more x [] [] [] e = refl
  one_more x [] [] (y ∷ after) e = absurd (not_none y after (sym e))
  one_more x [] (y ∷ before) after e = absurd (not_none y (before ++ after) (sym e))
  one_more x (w ∷ ws) [] [] e = absurd (not_none w ws e)
  one_more x (w ∷ ws) [] (y ∷ after) e = refl
  one_more x (w ∷ ws) (y ∷ []) after e = refl
  one_more x (w ∷ ws) (y ∷ z ∷ before) after e = refl

-- one of the kinds has this name
abbrev once : Kind → List Kind → Bool
once k [] = false
once k (j ∷ ks) = cond (bytes_eq (kind_name k) (kind_name j)) (not (list_any (λ j. bytes_eq (kind_name k) (kind_name j)) ks)) (once k ks)

each_once : (k : Kind) → once k kinds ≡ true
each_once Source = refl
each_once GherkinDocument = refl
each_once ParseError = refl
each_once Pickle = refl
each_once StepDefinition = refl
each_once Hook = refl
each_once TestCase = refl
each_once TestRunStarted = refl
each_once TestCaseStarted = refl
each_once TestStepStarted = refl
each_once TestStepFinished = refl
each_once TestCaseFinished = refl
each_once TestRunFinished = refl
each_once Attachment = refl
each_once TestRunHookStarted = refl
each_once TestRunHookFinished = refl

same_all : {A : Type 0} (f g : Kind → Option A) (ks : List Kind) → ((j : Kind) → f j ≡ g j) → filter_map f ks ≡ filter_map g ks
same_all f g [] same = refl
same_all f g (j ∷ ks) same = λ i. cons_option (same j i) (same_all f g ks same i)

-- f gives x for k, where g gives nothing, and else what g gives
module _ {A : Type 0} (f g : Kind → Option A) (k : Kind) (x : A) (same : (j : Kind) → bytes_eq (kind_name k) (kind_name j) ≡ false → f j ≡ g j) (here : (j : Kind) → bytes_eq (kind_name k) (kind_name j) ≡ true → (f j ≡ Some x) × (g j ≡ None)) where
  none_here : (ks : List Kind) → list_any (λ j. bytes_eq (kind_name k) (kind_name j)) ks ≡ false → filter_map f ks ≡ filter_map g ks
  none_here [] h = refl
  none_here (j ∷ ks) h = go (bytes_eq (kind_name k) (kind_name j)) refl (none_here ks)
    where
      go : (b : Bool) → bytes_eq (kind_name k) (kind_name j) ≡ b → (list_any (λ j. bytes_eq (kind_name k) (kind_name j)) ks ≡ false → filter_map f ks ≡ filter_map g ks)
          → filter_map f (j ∷ ks) ≡ filter_map g (j ∷ ks)
      go true t rest = absurd (true≢false (rw t at h))
      go false t rest = let none = rest (rw t at h) in λ i. cons_option (same j t i) (none i)

  insert_one : (ks : List Kind) → once k ks ≡ true → (before : List A) × (after : List A) × (filter_map f ks ≡ before ++ x ∷ after) × (filter_map g ks ≡ before ++ after)
  insert_one [] h = absurd cc
  insert_one (j ∷ ks) h = go (bytes_eq (kind_name k) (kind_name j)) refl (insert_one ks)
    where
      no : (b : Bool) → not b ≡ true → b ≡ false
      no true e = cc
      no false e = refl

      longer : (o : Option A) → ((before : List A) × (after : List A) × (filter_map f ks ≡ before ++ x ∷ after) × (filter_map g ks ≡ before ++ after)) → (before : List A) × (after : List A) × (cons_option o (filter_map f ks) ≡ before ++ x ∷ after) × (cons_option o (filter_map g ks) ≡ before ++ after)
      longer None s = s
      longer (Some y) s = (y ∷ s.0, s.1, ap (λ l. y ∷ l) s.2, ap (λ l. y ∷ l) s.3)

      go : (b : Bool) → bytes_eq (kind_name k) (kind_name j) ≡ b
          → (once k ks ≡ true → (before : List A) × (after : List A) × (filter_map f ks ≡ before ++ x ∷ after) × (filter_map g ks ≡ before ++ after))
          → (before : List A) × (after : List A) × (filter_map f (j ∷ ks) ≡ before ++ x ∷ after) × (filter_map g (j ∷ ks) ≡ before ++ after)
      go true t rest =
          let none = none_here ks (no _ (rw t at h)) in
          ([], filter_map g ks, (λ i. cons_option ((here j t).0 i) (none i)), ap (λ o. cons_option o (filter_map g ks)) (here j t).1)
      go false t rest = rw (same j t) (longer (g j) (rest (rw t at h)))

-- a key that is below the others is none of them
pub absent : (k : String Global) (es : List Entry) → AllByRecursion (λ y. string_cmp k y ≡ Less) (keys_of es) → get_member (string_bytes k) (members_view es) ≡ None
absent k [] h = refl
absent k (e ∷ es) h =
    let less : slice_cmp nat_cmp (string_bytes k) (string_bytes e.0) ≡ Less = h.0 in
    rw less (absent k es h.1)

module _ (e : Entry) (es : List Entry) (below : AllByRecursion (λ y. string_cmp e.0 y ≡ Less) (keys_of es)) where
  later : (j : Kind) → (kind_name j ≡ string_bytes e.0 → ⊥) → judged_at (object_of (e ∷ es)) j ≡ judged_at (object_of es) j
  later j other = ap (λ o. option_map (λ v. (j, v)) (option_and_then unless_null o)) (member_later (kind_name j) e es other)

  at_key : (j : Kind) → kind_name j ≡ string_bytes e.0 → judged_at (object_of (e ∷ es)) j ≡ option_map (λ v. (j, v)) (unless_null (view e.1))
  at_key j is = ap (λ o. option_map (λ v. (j, v)) (option_and_then unless_null o)) (member_here (kind_name j) e es is)

  gone : (j : Kind) → kind_name j ≡ string_bytes e.0 → judged_at (object_of es) j ≡ None
  gone j is = ap (λ o. option_map (λ v. (j, v)) (option_and_then unless_null o)) (ap (λ name. get_member name (members_view es)) is ∙ absent e.0 es below)

  -- a null member is absent
  null_more : is_some (as_null (view e.1)) ≡ true → judged_kinds_of (object_of (e ∷ es)) ≡ judged_kinds_of (object_of es)
  null_more null = same_all _ _ kinds (λ j. go j (bytes_eq (kind_name j) (string_bytes e.0)) refl)
    where
      go : (j : Kind) (b : Bool) → bytes_eq (kind_name j) (string_bytes e.0) ≡ b → judged_at (object_of (e ∷ es)) j ≡ judged_at (object_of es) j
      go j true t =
          let is = (bytes_eq-Decides (kind_name j) (string_bytes e.0)).0 t in
          at_key j is ∙ ap (λ b. option_map (λ v. (j, v)) (cond b None (Some (view e.1)))) null ∙ sym (gone j is)
      go j false t = later j (λ is. true≢false (sym ((bytes_eq-Decides (kind_name j) (string_bytes e.0)).1 is) ∙ t))

  other_more : kind_named (string_bytes e.0) ≡ None → judged_kinds_of (object_of (e ∷ es)) ≡ judged_kinds_of (object_of es)
  other_more none = same_all _ _ kinds (λ j. later j (λ is. unnamed j (sym (named j) ∙ ap kind_named is ∙ none)))
    where
      unnamed : (j : Kind) → Some j ≡ None → ⊥
      unnamed j e = cc

  judged_more : (k : Kind) (ws : List (Kind × Data)) → is_some (as_null (view e.1)) ≡ false → kind_named (string_bytes e.0) ≡ Some k
      → the_one ws ≡ the_one (judged_kinds_of (object_of es)) → the_one ((k, view e.1) ∷ ws) ≡ the_one (judged_kinds_of (object_of (e ∷ es)))
  judged_more k ws kept is so_far =
      let name = name_of (string_bytes e.0) k is in
      let differ = λ (j : Kind) (t : bytes_eq (kind_name k) (kind_name j) ≡ false). later j (λ same. true≢false (sym ((bytes_eq-Decides (kind_name k) (kind_name j)).1 (sym name ∙ sym same)) ∙ t)) in
      let here : (j : Kind) → bytes_eq (kind_name k) (kind_name j) ≡ true → (judged_at (object_of (e ∷ es)) j ≡ Some (k, view e.1)) × (judged_at (object_of es) j ≡ None) = λ j t.
      let same = (bytes_eq-Decides (kind_name k) (kind_name j)).0 t in
      let key = sym same ∙ sym name in (
        at_key j key ∙ ap (λ b. option_map (λ v. (j, v)) (cond b None (Some (view e.1)))) kept ∙ ap (λ j. Some (j, view e.1)) (sym (same_name k j same)),
        gone j key,
      ) in
      let s = insert_one (judged_at (object_of (e ∷ es))) (judged_at (object_of es)) k (k, view e.1) differ here kinds (each_once k) in
      one_more (k, view e.1) ws s.0 s.1 (so_far ∙ ap the_one s.3) ∙ sym (ap the_one s.2)

  walked_more : (b : Bool) → is_some (as_null (view e.1)) ≡ b → (n : Option Kind) → kind_named (string_bytes e.0) ≡ n
      → the_one (judged_members es) ≡ the_one (judged_kinds_of (object_of es)) → the_one (judged_members (e ∷ es)) ≡ the_one (judged_kinds_of (object_of (e ∷ es)))
  walked_more true null n is so_far =
      ap (λ b. the_one (cons_option (option_map (λ k. (k, view e.1)) (option_and_then (λ v. kind_named (string_bytes e.0)) (cond b None (Some (view e.1))))) (judged_members es))) null
      ∙ so_far ∙ sym (ap the_one (null_more null))
  walked_more false kept None is so_far =
      ap (λ b. the_one (cons_option (option_map (λ k. (k, view e.1)) (option_and_then (λ v. kind_named (string_bytes e.0)) (cond b None (Some (view e.1))))) (judged_members es))) kept
      ∙ ap (λ n. the_one (cons_option (option_map (λ k. (k, view e.1)) n) (judged_members es))) is
      ∙ so_far ∙ sym (ap the_one (other_more is))
  walked_more false kept (Some k) is so_far =
      ap (λ b. the_one (cons_option (option_map (λ k. (k, view e.1)) (option_and_then (λ v. kind_named (string_bytes e.0)) (cond b None (Some (view e.1))))) (judged_members es))) kept
      ∙ ap (λ n. the_one (cons_option (option_map (λ k. (k, view e.1)) n) (judged_members es))) is
      ∙ judged_more k (judged_members es) kept is so_far

-- the members' walk finds what looking for each kind finds
pub walked : (es : List Entry) → IsStrictlySortedBy string_cmp (keys_of es) → the_one (judged_members es) ≡ the_one (judged_kinds_of (object_of es))
unfolding IsStrictlySortedBy
walked [] h = refl
walked (e ∷ es) h = walked_more e es h.0 (is_some (as_null (view e.1))) refl (kind_named (string_bytes e.0)) refl (walked es h.1)

-- ---- member by member

module _ (found : Option (Kind × Bor Value)) (es : List Entry) (total : Result (Option (Kind × Data)) LineFault) (so_far : the_one (cons_option (option_map kind_and_data found) (judged_members es)) ≡ total) where
  -- a member that is of no judged kind
  pub passed : (e : Entry) (rest : List Entry) → es ≡ e ∷ rest → judged_member e ≡ None → the_one (cons_option (option_map kind_and_data found) (judged_members rest)) ≡ total
  passed e rest is none = sym (ap (λ l. the_one (cons_option (option_map kind_and_data found) (judged_members l))) is ∙ ap (λ o. the_one (cons_option (option_map kind_and_data found) (cons_option o (judged_members rest)))) none) ∙ so_far

  -- a member of a judged kind
  taken : (e : Entry) (rest : List Entry) (j : Kind × Data) → es ≡ e ∷ rest → judged_member e ≡ Some j → the_one (cons_option (option_map kind_and_data found) (j ∷ judged_members rest)) ≡ total
  taken e rest j is some = sym (ap (λ l. the_one (cons_option (option_map kind_and_data found) (judged_members l))) is ∙ ap (λ o. the_one (cons_option (option_map kind_and_data found) (cons_option o (judged_members rest)))) some) ∙ so_far

  pub first_taken : (e : Entry) (rest : List Entry) (j : Kind × Data) → is_some found ≡ false → es ≡ e ∷ rest → judged_member e ≡ Some j → the_one (j ∷ judged_members rest) ≡ total
  first_taken e rest j first is some = go found first (taken e rest j is some)
    where
      go : (o : Option (Kind × Bor Value)) → is_some o ≡ false → the_one (cons_option (option_map kind_and_data o) (j ∷ judged_members rest)) ≡ total → the_one (j ∷ judged_members rest) ≡ total
      go None first t = t
      go (Some x) first t = absurd (true≢false first)

  pub second_taken : (e : Entry) (rest : List Entry) (j : Kind × Data) → is_some found ≡ true → es ≡ e ∷ rest → judged_member e ≡ Some j → total ≡ Err shape
  second_taken e rest j second is some = go found second (taken e rest j is some)
    where
      go : (o : Option (Kind × Bor Value)) → is_some o ≡ true → the_one (cons_option (option_map kind_and_data o) (j ∷ judged_members rest)) ≡ total → total ≡ Err shape
      go None second t = absurd (true≢false (sym second))
      go (Some x) second t = sym t

  pub none_left : es ≡ [] → total ≡ Ok (option_map kind_and_data found)
  none_left is = go found (ap (λ l. the_one (cons_option (option_map kind_and_data found) (judged_members l))) (sym is) ∙ so_far)
    where
      go : (o : Option (Kind × Bor Value)) → the_one (cons_option (option_map kind_and_data o) []) ≡ total → total ≡ Ok (option_map kind_and_data o)
      go None t = sym t
      go (Some x) t = sym t
