-- Which feature files are asked, and what is marked of their texts.
use Rattle.std.proofs.Common.{◌≡◌, ◌∙◌, ◌==◌, true≢false, ◌∷◌, ◌++◌, ◌||◌, [], ℕ, zero, suc, List, Option, Some, None, Bool, true, false, refl, sym, ap, append_assoc, arith, inl, inr, length, map, ◌<◌}
use Rattle.std.proofs.Math.Bool.{or-false}
use Rattle.std.proofs.lemmas.Bool.Decides.{nat_tests}
use Rattle.std.proofs.lemmas.List.Folds.{list_any-append}
use Rattle.std.proofs.lemmas.List.Sums.{fold-append}
use Rattle.std.proofs.lemmas.Slice.Eq.{bytes_eq-Decides}
use Rattle.std.specs.List.{list_all, list_any}
use Rattle.std.specs.Option.{option_map_or}
use Rattle.std.specs.Prelude.{slice_index_or}
use Rattle.std.specs.Str.{bytes_eq}
use Rattle.cm_attempt.specs.Table.{has_text}
use Rattle.cm_envelope.specs.declared.envelope.Envelope.{Envelope}
use Rattle.cm_missing.specs.Missing.{AllScenariosRan, AskedFile, flag_at}
use Rattle.cm_ran.specs.Marks.{AlsoRan, CompilesTo, HasSameFlags, HasWholeRows, IsWholeRow, marked_texts, with_text}
use Rattle.cm_ran.specs.Rows.{row_at}
use Rattle.cm_ran.specs.declared.marks.Marks.{Marks}
use Rattle.cm_stream.specs.Texts.{Utf8}
use Rattle.ck_commands.specs.FeatureFiles.{FeatureFile, add_asked, asked_once, is_text_of_one}
use Rattle.ck_commands.specs.FilesAsked.{AreAsked, HasFlags}
use Rattle.ck_commands.specs.FilesKept.{HasTextOf, HasTexts, IsUnmarked, all_ran, asked_by, row_of}
use Rattle.ck_commands.specs.Judged.{is_run_in}

-- ---- which files are asked

-- what is kept on the way: the files that are asked so far, and their texts among the marks
pub record AsksSoFar (files : List FeatureFile) (asked : List FeatureFile) (m : Marks) : Type 0 where
  pub files_are : asked ≡ asked_once files
  pub texts : (t : Utf8) → has_text t (marked_texts m) ≡ is_text_of_one (Some t) asked
  pub unmarked : IsUnmarked m
  pub rows : HasWholeRows m

pub asks_none : (m : Marks) → marked_texts m ≡ [] → IsUnmarked m → HasWholeRows m → AsksSoFar [] [] m
asks_none m none unmarked rows = record { files_are = refl; texts = λ t. ap (has_text t) none; unmarked = unmarked; rows = rows }

once_more : (files : List FeatureFile) (f : FeatureFile) → asked_once (files ++ f ∷ []) ≡ add_asked (asked_once files) f
once_more files f = fold-append add_asked [] files (f ∷ [])

-- a file whose text is there already
pub asks_no_more : (files asked : List FeatureFile) (m : Marks) (f : FeatureFile) (t : Utf8) → f.text ≡ Some t → has_text t (marked_texts m) ≡ true → AsksSoFar files asked m → AsksSoFar (files ++ f ∷ []) asked m
asks_no_more files asked m f t is there h =
    let one : is_text_of_one f.text asked ≡ true = ap (λ (o : Option Utf8). is_text_of_one o asked) is ∙ sym (h.texts t) ∙ there in
    record {
      files_are = (rw one refl) ∙ ap (λ (l : List FeatureFile). add_asked l f) h.files_are ∙ sym (once_more files f);
      texts = h.texts;
      unmarked = h.unmarked;
      rows = h.rows;
    }

-- a file that is too long
pub asks_too_long : (files asked : List FeatureFile) (m : Marks) (f : FeatureFile) → f.text ≡ None → AsksSoFar files asked m → AsksSoFar (files ++ f ∷ []) (asked ++ f ∷ []) m
asks_too_long files asked m f is h =
    let none : is_text_of_one f.text asked ≡ false = ap (λ (o : Option Utf8). is_text_of_one o asked) is in
    record {
      files_are = (rw none refl) ∙ ap (λ (l : List FeatureFile). add_asked l f) h.files_are ∙ sym (once_more files f);
      texts = λ t. h.texts t ∙ sym (list_any-append (λ g. option_map_or (bytes_eq t) g.text false) asked (f ∷ []) ∙ ap (λ (b : Bool). is_text_of_one (Some t) asked || b) (rw is refl) ∙ or-false (is_text_of_one (Some t) asked));
      unmarked = h.unmarked;
      rows = h.rows;
    }

has_with : (t text : Utf8) (texts : List Utf8) (there : Bool) → has_text text texts ≡ there → there ≡ false → has_text t (with_text text texts) ≡ (has_text t texts || bytes_eq t text)
has_with t text texts there is none =
    let without : with_text text texts ≡ texts ++ text ∷ [] = rw (is ∙ none) refl in
    ap (has_text t) without ∙ list_any-append (bytes_eq t) texts (text ∷ []) ∙ ap (λ (b : Bool). has_text t texts || b) (or-false (bytes_eq t text))

-- a file with a new text
pub asks_one_more : (files asked : List FeatureFile) (old new : Marks) (f : FeatureFile) (t : Utf8) → f.text ≡ Some t → has_text t (marked_texts old) ≡ false → marked_texts new ≡ with_text t (marked_texts old) → HasSameFlags old new
    → (HasWholeRows old → HasWholeRows new) → AsksSoFar files asked old → AsksSoFar (files ++ f ∷ []) (asked ++ f ∷ []) new
asks_one_more files asked old new f t is none added flags rows h =
    let one : is_text_of_one f.text asked ≡ false = ap (λ (o : Option Utf8). is_text_of_one o asked) is ∙ sym (h.texts t) ∙ none in
    record {
      files_are = (rw one refl) ∙ ap (λ (l : List FeatureFile). add_asked l f) h.files_are ∙ sym (once_more files f);
      texts = λ u.
          ap (has_text u) added ∙ has_with u t (marked_texts old) false none refl ∙ ap (λ (b : Bool). b || bytes_eq u t) (h.texts u)
          ∙ sym (list_any-append (λ g. option_map_or (bytes_eq u) g.text false) asked (f ∷ []) ∙ ap (λ (b : Bool). is_text_of_one (Some u) asked || b) (or-false (option_map_or (bytes_eq u) f.text false) ∙ (rw is refl)));
      unmarked = λ text place. flags text place ∙ h.unmarked text place;
      rows = rows h.rows;
    }

bytes_same : (t : Utf8) → bytes_eq t t ≡ true
bytes_same t = (bytes_eq-Decides t t).1 refl

found : (x y z : Bool) → y ≡ true → (x || (y || z)) ≡ true
found true y z e = refl
found false y z e = rw e refl

-- each that is asked has its text among the marks
module _ (asked : List FeatureFile) (m : Marks) (texts : (t : Utf8) → has_text t (marked_texts m) ≡ is_text_of_one (Some t) asked) where
  own_text : (front : List FeatureFile) (f : FeatureFile) (back : List FeatureFile) (o : Option Utf8) → f.text ≡ o → asked ≡ front ++ f ∷ back → HasTextOf m o
  own_text front f back None is cut = tt
  own_text front f back (Some t) is cut =
      let test : FeatureFile → Bool = λ g. option_map_or (bytes_eq t) g.text false in
      texts t ∙ ap (list_any test) cut ∙ list_any-append test front (f ∷ back) ∙ found (list_any test front) (test f) (list_any test back) (rw is (bytes_same t))

  pub texts_there : (front back : List FeatureFile) → asked ≡ front ++ back → HasTexts m back
  texts_there front [] cut = tt
  texts_there front (f ∷ back) cut = (own_text front f back f.text refl cut, texts_there (front ++ f ∷ []) back (cut ∙ sym (append_assoc front (f ∷ []) back)))

-- ---- flags

-- the two ways in which a flag is read say the same
flag_same : (flags : List Bool) (place : ℕ) → flag_at flags place ≡ slice_index_or flags place false
flag_same [] place = refl
flag_same (b ∷ bs) zero = refl
flag_same (b ∷ bs) (suc place) = flag_same bs place

module _ (m old : Marks) (streams : List (List Envelope)) (unmarked : IsUnmarked old) (also : AlsoRan old m (is_run_in streams)) where
  of_text : (o : Option Utf8) (a : AskedFile) → a.flags ≡ row_of m o → HasTextOf old o → HasFlags streams o a
  of_text None a is has = tt
  of_text (Some t) a is has = λ place.
      ap (λ (row : List Bool). flag_at row place) is ∙ flag_same (row_at m.rows t) place ∙ also t place has ∙ ap (λ (b : Bool). b || is_run_in streams t place) (unmarked t place)

  pub flags_told : (fs : List FeatureFile) → HasTexts old fs → AreAsked streams fs (map (asked_by m) fs)
  flags_told [] has = tt
  flags_told (f ∷ fs) has = (record { path = refl; text = refl; flags = of_text f.text (asked_by m f) refl has.0 }, flags_told fs has.1)

-- ---- files all of whose scenarios ran

all_set : (flags : List Bool) → list_all (λ f. f) flags ≡ true → (place : ℕ) → place < length flags → flag_at flags place ≡ true
all_set [] all place l = absurd (omega (arith, l))
all_set (true ∷ flags) all zero l = refl
all_set (true ∷ flags) all (suc place) l = all_set flags all place (omega (arith, l))
all_set (false ∷ flags) all place l = cc

none_all_ran : all_ran [] ≡ true → ⊥
none_all_ran all = cc

-- the code asks for both
pub all_of_some : (flags : List Bool) → (length flags == 0) ≡ false → list_all (λ f. f) flags ≡ all_ran flags
all_of_some [] some = absurd (true≢false some)
all_of_some (f ∷ flags) some = refl

pub none_of_none : (flags : List Bool) → (length flags == 0) ≡ true → false ≡ all_ran flags
none_of_none [] none = refl
none_of_none (f ∷ flags) none = let some : (suc (length flags) == 0) ≡ false = grind (arith, nat_tests) in let no : false ≡ true = sym some ∙ none in cc

all_ran_set : (flags : List Bool) → all_ran flags ≡ true → list_all (λ f. f) flags ≡ true
all_ran_set [] all = refl
all_ran_set (f ∷ flags) all = all

pub whole_file : (m : Marks) (f : FeatureFile) → HasWholeRows m → all_ran (row_of m f.text) ≡ true → AllScenariosRan (asked_by m f) (length (row_of m f.text))
whole_file m f whole = go f.text refl
  where
    of_row : (text : Utf8) (flags : List Bool) → f.text ≡ Some text → row_of m f.text ≡ flags → IsWholeRow text flags → all_ran flags ≡ true → AllScenariosRan (asked_by m f) (length flags)
    of_row text flags is row (inl none) all = absurd (none_all_ran (ap all_ran (sym none) ∙ all))
    of_row text flags is row (inr c) all = record {
      text = text;
      is_text = is;
      document = c.document;
      accepted = c.accepted;
      as_many = c.as_many;
      each = λ place l. ap (λ (fs : List Bool). flag_at fs place) row ∙ all_set flags (all_ran_set flags all) place l;
    }

    go : (o : Option Utf8) → f.text ≡ o → all_ran (row_of m o) ≡ true → AllScenariosRan (asked_by m f) (length (row_of m o))
    go None is all = absurd (none_all_ran all)
    go (Some text) is all = of_row text (row_at m.rows text) is (ap (row_of m) is) (whole text) all
