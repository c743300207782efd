-- A pickle as it is read is the one that is due.
use Rattle.std.proofs.Common.{◌≡◌, ℕ, ◌+◌, ◌<◌, List, [], ◌∷◌, Bool, true, Option, Some, None, map, refl, ◌∙◌, arith, decimal}
use Rattle.std.specs.Prelude.{option_map, slice_get, unwrap_or}
use Rattle.std.specs.List.{AllByRecursion, range_with_len}
use Rattle.std.specs.Str.{bytes_eq}
use Rattle.std.proofs.lemmas.List.FromFn.{get_or-map-range_with_len}
use Rattle.std.proofs.lemmas.Option.{unwrap_or-slice_get}
use Rattle.gk_pickle.specs.declared.pickles.StepType.{StepType}
use Rattle.gk_pickle.specs.declared.pickles.StepType.TheVariants as kind
use Rattle.gk_pickle.specs.declared.pickles.PickleTag.{PickleTag}
use Rattle.gk_pickle.specs.declared.pickles.PickleArgument.{PickleArgument}
use Rattle.gk_pickle.specs.declared.pickles.PickleArgument.TheVariants.{Table, Text}
use Rattle.gk_pickle.specs.declared.pickles.PickleStep.{PickleStep}
use Rattle.gk_pickle.specs.declared.pickles.Pickle.{Pickle}
use Rattle.gk_document.specs.MediaType.{unless_empty as media_type}
use Rattle.cm_stream.specs.Texts.{same_list, same_option, same_texts}
use Rattle.cm_stream.specs.Sources.{ids_at, is_type, has_cells, is_argument, is_due_step, is_due_tag, is_due}
use Rattle.cm_stream.proofs.Found.{bytes_same}
use Rattle.cm_read_back.specs.Pickles.{kind_read, tag_read, cell_read, row_read, argument_read, step_read, steps_read, pickle_read}
use Rattle.std.specs.Option.{option_and_then}
use Rattle.cm_compiled_good.proofs.Fine.{Wanted, below, TagFine, MediaFine, ArgumentFine, StepFine, PickleFine}

-- ---- lists

pub same_map : {A B : Type 0} (same : B → A → Bool) (f : A → B) (xs : List A) → AllByRecursion (λ (x : A). same (f x) x ≡ true) xs → same_list same (map f xs) xs ≡ true
same_map same f [] h = refl
same_map same f (x ∷ xs) h = rw (h.0, same_map same f xs h.1) refl

each_one : {A : Type 0} (P : A → Type 0) → ((x : A) → P x) → (xs : List A) → AllByRecursion P xs
each_one P h [] = tt
each_one P h (x ∷ xs) = (h x, each_one P h xs)

weaker : {A : Type 0} (P Q : A → Type 0) → ((x : A) → P x → Q x) → (xs : List A) → AllByRecursion P xs → AllByRecursion Q xs
weaker P Q f [] h = tt
weaker P Q f (x ∷ xs) h = (f x h.0, weaker P Q f xs h.1)

texts_same : (xs : List (List ℕ)) → same_texts xs xs ≡ true
texts_same [] = refl
texts_same (x ∷ xs) = rw (bytes_same x, texts_same xs) refl

-- ---- ids

-- the ids of a document's nodes
abbrev pub ids_to : ℕ → List (List ℕ)
ids_to n = map decimal (range_with_len 0 n)

id_at : (n k : ℕ) → k < n → unwrap_or (slice_get (ids_to n) k) [] ≡ decimal k
id_at n k h = unwrap_or-slice_get (ids_to n) k [] ∙ get_or-map-range_with_len decimal 0 n k k [] h (omega arith)

ids_are : (n : ℕ) (nodes : List ℕ) → AllByRecursion (λ k. k < n) nodes → ids_at (ids_to n) nodes ≡ map decimal nodes
ids_are n [] h = refl
ids_are n (k ∷ nodes) h = rw (id_at n k h.0, ids_are n nodes h.1) refl

ids_same : (n : ℕ) (nodes : List ℕ) → AllByRecursion (λ k. k < n) nodes → same_texts (map decimal nodes) (ids_at (ids_to n) nodes) ≡ true
ids_same n nodes h = rw (ids_are n nodes h) (texts_same (map decimal nodes))

-- ---- parts

type_same : (k : StepType) → is_type (kind_read k) k ≡ true
type_same kind.Unknown = refl
type_same kind.Context = refl
type_same kind.Action = refl
type_same kind.Outcome = refl

cells_same : (cells : List (List ℕ)) → has_cells (row_read cells) cells ≡ true
cells_same cells = same_map (λ c v. bytes_eq c.value v) cell_read cells (each_one (λ v. bytes_eq v v ≡ true) bytes_same cells)

media_same : (w : Wanted) (m : Option (List ℕ)) → MediaFine w m → same_option bytes_eq (option_and_then media_type m) m ≡ true
media_same w None h = refl
media_same w (Some []) h = absurd h
media_same w (Some (b ∷ bs)) h = bytes_same (b ∷ bs)

argument_same : (w : Wanted) (a : Option PickleArgument) → ArgumentFine w a → same_option is_argument (option_map argument_read a) a ≡ true
argument_same w None h = refl
argument_same w (Some (Table rows)) h = same_map has_cells row_read rows (each_one (λ r. has_cells (row_read r) r ≡ true) cells_same rows)
argument_same w (Some (Text d)) h = rw (media_same w d.media h.0) (bytes_same d.content)

step_same : (n id : ℕ) (s : PickleStep) → StepFine (below n) s → is_due_step (ids_to n) (step_read id s) s ≡ true
step_same n id s h = rw (bytes_same s.text, type_same s.kind, ids_same n s.nodes h.1, argument_same (below n) s.argument h.2) refl

steps_same : (n id : ℕ) (ss : List PickleStep) → AllByRecursion (StepFine (below n)) ss → same_list (is_due_step (ids_to n)) (steps_read id ss) ss ≡ true
steps_same n id [] h = refl
steps_same n id (s ∷ ss) h = rw (step_same n id s h.0, steps_same n (id + 1) ss h.1) refl

tag_same : (n : ℕ) (t : PickleTag) → TagFine (below n) t → is_due_tag (ids_to n) (tag_read t) t ≡ true
tag_same n t h = rw (bytes_same t.name) (ids_same n (t.node ∷ []) (h.0, tt))

tags_same : (n : ℕ) (ts : List PickleTag) → AllByRecursion (TagFine (below n)) ts → same_list (is_due_tag (ids_to n)) (map tag_read ts) ts ≡ true
tags_same n ts h = same_map (is_due_tag (ids_to n)) tag_read ts (weaker (TagFine (below n)) (λ t. is_due_tag (ids_to n) (tag_read t) t ≡ true) (tag_same n) ts h)

pub pickle_due : (uri : List ℕ) (n first : ℕ) (p : Pickle) → PickleFine (below n) p → is_due (ids_to n) (pickle_read uri first p) p ≡ true
pickle_due uri n first p h = rw (bytes_same p.name, ids_same n p.nodes h.1, tags_same n p.tags h.2, steps_same n first p.steps h.3) refl
