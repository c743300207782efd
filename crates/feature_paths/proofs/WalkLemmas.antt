-- A walk's next look, and what it gives at its end; one path after another.
use Rattle.std.proofs.Common.{◌≡◌, ◌∙◌, ℕ, ◌+◌, ◌<◌, List, [], ◌∷◌, ◌++◌, Some, None, Result, Ok, Err, length, get_or, take, drop, map, refl, sym, ap, subst, arith}
use Rattle.std.proofs.lemmas.List.{append-nil, append_assoc, drop_more, flat_map_more, map-append, take-append-drop, take_more}
use Rattle.std.proofs.lemmas.List.Elements.{All-push}
use Rattle.std.specs.Cmp.Lexicographic.{slice_cmp}
use Rattle.std.specs.List.Sorted.{IsPermutation, IsSorted}
use Rattle.std.specs.Option.{option_or}
use Rattle.std.specs.Ordering.{nat_cmp}
use Rattle.std.specs.Result.{IfErr, IsErrAnd}
use Rattle.files.specs.Looks.{PathLook}
use Rattle.files.specs.declared.files.Look.{Look}
use Rattle.feature_paths.specs.Shown.{Faulty, faulty, faults_shown, files_of, files_shown, first_fault, folders_shown}
use Rattle.feature_paths.specs.FeaturePaths.{FindsFault, IsWalk, IsWhole, TellsFault, TellsTrouble, Walk, WalksAll, WalksFault, WalksFiles, without_files}
use Rattle.feature_paths.specs.Walking.{Sees}
use Rattle.feature_paths.specs.declared.paths.Fault.TheVariants.{NoFeatures}
use Rattle.feature_paths.specs.declared.paths.PathTrouble.{PathTrouble}
use Rattle.feature_paths.specs.declared.paths.PathTrouble.TheVariants as trouble

-- ---- one path

-- at its beginning a walk has only the path itself to look at
pub sees_none : (path : List ℕ) (old : List PathLook) → Sees path old old [] [] (path ∷ [])
sees_none path old = record {
  looks = [];
  noted = sym (append-nil old);
  due = refl;
  of_files = refl;
  of_faults = refl;
}

-- a look at the first of the folders
pub sees_more : (path : List ℕ) (old middle new : List PathLook) (files files' : List (List ℕ)) (faults faults' : List Faulty)
    (due folders folders' : List (List ℕ)) (folder : List ℕ) (look : Look)
    → Sees path old middle files faults due
    → due ≡ folder ∷ folders
    → new ≡ middle ++ record { path = folder; look = look } ∷ []
    → files' ≡ files ++ files_shown folder look
    → faults' ≡ faults ++ faults_shown folder look
    → folders' ≡ folders ++ folders_shown folder look
    → Sees path old new files' faults' folders'
sees_more path old middle new files files' faults faults' due folders folders' folder look s first noted more more_faults more_folders =
    let l : PathLook = record { path = folder; look = look } in
    let shown = folders_shown folder look in
    let paths = map (λ (l : PathLook). l.path) s.looks in
    record {
      looks = s.looks ++ l ∷ [];
      noted = noted ∙ ap (λ ls. ls ++ l ∷ []) s.noted ∙ append_assoc old s.looks (l ∷ []);
      due =
          ap (λ ps. map (λ (l : PathLook). l.path) (s.looks ++ l ∷ []) ++ ps) more_folders
          ∙ ap (λ ps. ps ++ (folders ++ shown)) (map-append (λ (l : PathLook). l.path) s.looks (l ∷ []))
          ∙ sym (append_assoc (paths ++ folder ∷ []) folders shown)
          ∙ ap (λ ps. ps ++ shown) (append_assoc paths (folder ∷ []) folders)
          ∙ ap (λ ps. (paths ++ ps) ++ shown) (sym first)
          ∙ ap (λ ps. ps ++ shown) s.due
          ∙ ap (λ ps. path ∷ ps) (flat_map_more (λ (l : PathLook). folders_shown l.path l.look) [] s.looks l);
      of_files = more ∙ ap (λ ps. ps ++ files_shown folder look) s.of_files
          ∙ flat_map_more (λ (l : PathLook). files_shown l.path l.look) [] s.looks l;
      of_faults = more_faults ∙ ap (λ ps. ps ++ faults_shown folder look) s.of_faults
          ∙ flat_map_more (λ (l : PathLook). faults_shown l.path l.look) [] s.looks l;
    }

whole : (path : List ℕ) (old new : List PathLook) (files : List (List ℕ)) (faults : List Faulty)
    → (s : Sees path old new files faults []) → IsWhole path s.looks
whole path old new files faults s = sym (append-nil _) ∙ s.due

-- at its end a walk gives its first fault
pub walked_fault : (path : List ℕ) (old new : List PathLook) (files : List (List ℕ)) (faults : List Faulty)
    (fault : Faulty) → Sees path old new files faults [] → first_fault faults ≡ Some fault
    → WalksFault path old new fault
walked_fault path old new files faults fault s first = (
  s.looks,
  s.noted,
  record {
    whole = whole path old new files faults s;
    first = ap (λ f. option_or f (without_files path (files_of s.looks))) (ap first_fault (sym s.of_faults) ∙ first);
  },
)

-- or that there is no file
pub walked_empty : (path : List ℕ) (old new : List PathLook) (files : List (List ℕ)) (faults : List Faulty)
    → Sees path old new files faults [] → first_fault faults ≡ None → files ≡ []
    → WalksFault path old new (record { path = path; fault = NoFeatures })
walked_empty path old new files faults s none empty = (
  s.looks,
  s.noted,
  record {
    whole = whole path old new files faults s;
    first = ap (λ f. option_or f (without_files path (files_of s.looks))) (ap first_fault (sym s.of_faults) ∙ none)
        ∙ ap (without_files path) (sym s.of_files ∙ empty);
  },
)

has_files : (path : List ℕ) (files : List (List ℕ)) → 0 < length files → without_files path files ≡ None
has_files path [] some = absurd (omega arith)
has_files path (file ∷ files) some = refl

-- or the files in their order
pub walked_files : (path : List ℕ) (old new : List PathLook) (files sorted : List (List ℕ)) (faults : List Faulty)
    → Sees path old new files faults [] → first_fault faults ≡ None → 0 < length files
    → IsPermutation files sorted → IsSorted (slice_cmp nat_cmp) sorted
    → WalksFiles path old new sorted
walked_files path old new files sorted faults s none some same in_order = (
  s.looks,
  s.noted,
  record {
    whole = whole path old new files faults s;
    faultless = ap (λ f. option_or f (without_files path (files_of s.looks))) (ap first_fault (sym s.of_faults) ∙ none)
        ∙ ap (without_files path) (sym s.of_files) ∙ has_files path files some;
    same = subst (λ fs. IsPermutation fs sorted) s.of_files same;
    in_order = in_order;
  },
)

-- ---- one path after another

pub walks_none : (old : List PathLook) → WalksAll [] old old []
walks_none old = record {
  walks = [];
  each = λ k d below. absurd (omega arith);
  of_paths = refl;
  noted = sym (append-nil old);
  joined = refl;
}

walks_more : (paths : List (List ℕ)) (path : List ℕ) (old middle new : List PathLook) (files part : List (List ℕ))
    → WalksAll paths old middle files → WalksFiles path middle new part
    → WalksAll (paths ++ path ∷ []) old new (files ++ part)
walks_more paths path old middle new files part w one =
    let walk : Walk = record { path = path; looks = one.0; files = part } in
    record {
      walks = w.walks ++ walk ∷ [];
      each = All-push IsWalk w.walks walk w.each one.2;
      of_paths = map-append (λ (w : Walk). w.path) w.walks (walk ∷ []) ∙ ap (λ ps. ps ++ path ∷ []) w.of_paths;
      noted = one.1 ∙ ap (λ ls. ls ++ one.0) w.noted ∙ flat_map_more (λ (w : Walk). w.looks) old w.walks walk;
      joined = ap (λ fs. fs ++ part) w.joined ∙ flat_map_more (λ (w : Walk). w.files) [] w.walks walk;
    }

-- one more of the things that have the paths
module _ {X : Type 0} (f : X → List ℕ) (xs : List X) (i : ℕ) (d : X) (below : i < length xs) where
  abbrev path : List ℕ
  path = f (get_or xs i d)

  paths_more : map f (take (i + 1) xs) ≡ map f (take i xs) ++ path ∷ []
  paths_more = ap (map f) (take_more xs i d below) ∙ map-append f (take i xs) (get_or xs i d ∷ [])

  -- the next of the paths gives files, which have these texts
  pub walked_on : {Y : Type 0} (t : Y → List ℕ) (old middle new : List PathLook) (files part all : List Y)
      → WalksAll (map f (take i xs)) old middle (map t files) → WalksFiles path middle new (map t part)
      → all ≡ files ++ part → WalksAll (map f (take (i + 1) xs)) old new (map t all)
  walked_on t old middle new files part all w one joined =
      subst (λ ps. WalksAll ps old new (map t all)) (sym paths_more)
      (subst (λ fs. WalksAll (map f (take i xs) ++ path ∷ []) old new fs) (sym (ap (map t) joined ∙ map-append t files part))
      (walks_more (map f (take i xs)) path old middle new (map t files) (map t part) w one))

  paths_cut : map f xs ≡ map f (take i xs) ++ path ∷ map f (drop (i + 1) xs)
  paths_cut =
      ap (map f) (sym (take-append-drop i xs) ∙ ap (λ ys. take i xs ++ ys) (drop_more xs i d below))
      ∙ map-append f (take i xs) (get_or xs i d ∷ drop (i + 1) xs)

  -- something is wrong with the next of the paths
  pub finds_fault : (old middle new : List PathLook) (files : List (List ℕ)) (fault : Faulty)
      → WalksAll (map f (take i xs)) old middle files → WalksFault path middle new fault
      → FindsFault (map f xs) old new fault
  finds_fault old middle new files fault w wrong = record {
    before = map f (take i xs);
    path = path;
    after = map f (drop (i + 1) xs);
    cut = paths_cut;
    files = files;
    middle = middle;
    walks = w;
    wrong = wrong;
  }

  tells : (old middle new : List PathLook) (files : List (List ℕ)) (e : PathTrouble)
      → WalksAll (map f (take i xs)) old middle files → TellsFault path middle new e
      → TellsTrouble (map f xs) old new e
  tells old middle new files (trouble.Faulty fault) w told = finds_fault old middle new files (faulty fault) w told
  tells old middle new files trouble.Memory w told = tt

  -- what is told of it is told of all paths
  pub told_on : {A : Type 0} (r : Result A PathTrouble) (old middle new : List PathLook) (files : List (List ℕ)) (e : PathTrouble)
      → WalksAll (map f (take i xs)) old middle files → TellsFault path middle new e
      → IsErrAnd r (λ y. y ≡ e) → IfErr r (TellsTrouble (map f xs) old new)
  told_on (Ok a) old middle new files e w told same = absurd same
  told_on (Err y) old middle new files e w told same =
      subst (TellsTrouble (map f xs) old new) (sym same) (tells old middle new files e w told)
