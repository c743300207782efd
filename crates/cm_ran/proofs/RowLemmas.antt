-- Rows of flags by texts: one flag more, and what they say of a stream.
use Rattle.std.proofs.Common.{◌≡◌, ◌∙◌, ◌&&◌, ℕ, zero, suc, ◌+◌, ◌<◌, Bool, true, false, cond, List, [], ◌∷◌, ◌++◌, Option, None, Some, Bor, refl, sym, ap, ap₂, append-nil, filter, get_or, length, map, slice_get, take, ⊎_elim}
use Rattle.std.specs.Prelude.{Vec, if◌then◌else◌, is_some, unwrap_or}
use Rattle.std.specs.List.{list_any}
use Rattle.std.specs.Option.{option_map_or}
use Rattle.std.specs.Str.{bytes_eq}
use Rattle.std.specs.declared.alloc.Global.{Global}
use Rattle.std.proofs.lemmas.Bool.{both_ways, cases_Bool, cond-false, cond-true, false_from_ne_true}
use Rattle.std.proofs.lemmas.List.{length-map, map-append, take_more}
use Rattle.std.proofs.lemmas.Slice.Eq.{bytes_eq-Decides}
use Rattle.indexmap.specs.IndexMap.{IndexMap}
use Rattle.cm_attempt.specs.Table.{has_text}
use Rattle.cm_cases.specs.Firsts.{HasFirsts, value_at}
use Rattle.cm_cases.specs.Listed.{both_texts, id_and_uri}
use Rattle.cm_cases.proofs.FirstLemmas.{has_any}
use Rattle.cm_envelope.specs.declared.envelope.Envelope.{Envelope}
use Rattle.cm_envelope.specs.declared.envelope.Source.{Source}
use Rattle.cm_envelope.specs.declared.envelope.TestCase.{TestCase}
use Rattle.cm_envelope.specs.declared.pickle.Pickle.{Pickle}
use Rattle.cm_reasons.specs.Run.{uri_and_text}
use Rattle.cm_stream.specs.References.{cases, pickles, pickles_of, sources}
use Rattle.cm_stream.specs.Release.{is_named}
use Rattle.cm_stream.specs.Texts.{Utf8}
use Rattle.cm_stream.proofs.Declared.{same_any}
use Rattle.cm_ran.specs.Rows.{flag_at, flags_in, is_set_at, row_at}
use Rattle.cm_ran.specs.RunAt.{is_run_at, is_run_of}

any_map : {X Y : Type 0} (p : Y → Bool) (f : X → Y) (xs : List X) → list_any p (map f xs) ≡ list_any (λ x. p (f x)) xs
any_map p f [] = refl
any_map p f (x ∷ xs) = rw (any_map p f xs) refl

-- ---- one flag more

pub apart : (other text : Utf8) → bytes_eq other text ≡ false → bytes_eq text other ≡ false
apart other text differ = false_from_ne_true _ (λ t. both_ways _ differ ((bytes_eq-Decides other text).1 (sym ((bytes_eq-Decides text other).0 t))))

items_of : (found : Option (Vec Bool Global)) (empty : Vec Bool Global) → empty.items ≡ [] → (unwrap_or found empty).items ≡ option_map_or (λ v. v.items) found []
items_of None empty e = e
items_of (Some v) empty e = refl

module _ (S : Type 0) where
  abbrev Rows : Type 0
  Rows = IndexMap (Bor Utf8) (Vec Bool Global) S

  -- the row of a text is taken out, and put back with one flag more
  pub flag_added : (old gone new : Rows) (text : Utf8) (flag : Bool) (found : Option (Vec Bool Global)) (empty first all : Vec Bool Global)
      → found ≡ value_at old text → empty.items ≡ [] → first ≡ unwrap_or found empty → all.items ≡ first.items ++ flag ∷ []
      → ((q : Bor Utf8) → value_at gone q.now ≡ cond (bytes_eq text q.now) None (value_at old q.now))
      → ((q : Bor Utf8) → value_at new q.now ≡ cond (bytes_eq text q.now) (Some all) (value_at gone q.now))
      → (other : Utf8) → row_at new other ≡ row_at old other ++ (if bytes_eq other text then flag ∷ [] else [])
  flag_added old gone new text flag found empty first all f e u a out back other =
      let q : Bor Utf8 = record { ref_ptr = (0, 0); now = other } in
      let items : Option (Vec Bool Global) → List Bool = λ o. option_map_or (λ v. v.items) o [] in
      ⊎_elim
      (λ yes.
      let same : other ≡ text = (bytes_eq-Decides other text).0 yes in
      let there : bytes_eq text other ≡ true = (bytes_eq-Decides text other).1 (sym same) in
      ap items (back q ∙ cond-true _ _ _ there) ∙ a
      ∙ ap (λ xs. xs ++ flag ∷ []) (ap (λ v. v.items) u ∙ items_of found empty e ∙ ap items (f ∙ ap (value_at old) (sym same)))
      ∙ ap (λ xs. row_at old other ++ xs) (sym (cond-true _ _ _ yes)))
      (λ differ.
      let none : bytes_eq text other ≡ false = apart other text differ in
      ap items (back q ∙ cond-false _ _ _ none ∙ out q ∙ cond-false _ _ _ none) ∙ sym (append-nil _)
      ∙ ap (λ xs. row_at old other ++ xs) (sym (cond-false _ _ _ differ)))
      (cases_Bool (bytes_eq other text))

one_pickle : (named : List Utf8) (ps : List (Utf8 × Utf8)) (p : Utf8 × Utf8) (uri : Utf8)
    → flags_in named (ps ++ p ∷ []) uri ≡ flags_in named ps uri ++ (if bytes_eq uri p.1 then has_text p.0 named ∷ [] else [])
one_pickle named [] p uri = ⊎_elim (λ yes. rw yes refl) (λ differ. rw differ refl) (cases_Bool (bytes_eq uri p.1))
one_pickle named (q ∷ qs) p uri =
    ⊎_elim (λ yes. rw yes (ap (λ xs. has_text q.0 named ∷ xs) (one_pickle named qs p uri))) (λ differ. rw differ (one_pickle named qs p uri)) (cases_Bool (bytes_eq uri q.1))

pub pickle_taken : {S : Type 0} (named : List (Bor Utf8)) (among : IndexMap (Bor Utf8) (Bor (Bor Utf8)) S) (pickles : List (Bor Utf8 × Bor Utf8)) (i : ℕ) (d : Bor Utf8 × Bor Utf8) (uri : Utf8) (flag : Bool) (before after : List Bool)
    → HasFirsts (λ x. x.now) (λ x. x) (λ t. t.now) named among → i < length pickles → flag ≡ is_some (value_at among (get_or pickles i d).0.now)
    → before ≡ flags_in (map (λ t. t.now) named) (map both_texts (take i pickles)) uri
    → after ≡ before ++ (if bytes_eq uri (get_or pickles i d).1.now then flag ∷ [] else [])
    → after ≡ flags_in (map (λ t. t.now) named) (map both_texts (take (i + 1) pickles)) uri
pickle_taken named among pickles i d uri flag before after firsts l is b a =
    let names : List Utf8 = map (λ t. t.now) named in
    let p : Bor Utf8 × Bor Utf8 = get_or pickles i d in
    let more : map both_texts (take (i + 1) pickles) ≡ map both_texts (take i pickles) ++ both_texts p ∷ [] =
    ap (map both_texts) (take_more pickles i d l) ∙ map-append both_texts (take i pickles) (p ∷ []) in
    let known : flag ≡ has_text p.0.now names =
    is ∙ has_any (λ x. x.now) (λ x. x) (λ (t : Bor Utf8). t.now) named among p.0.now firsts ∙ sym (any_map (bytes_eq p.0.now) (λ (t : Bor Utf8). t.now) named) in
    a ∙ ap (λ xs. xs ++ (if bytes_eq uri p.1.now then flag ∷ [] else [])) b
    ∙ ap (λ (f : Bool). flags_in names (map both_texts (take i pickles)) uri ++ (if bytes_eq uri p.1.now then f ∷ [] else [])) known
    ∙ sym (ap (λ ps. flags_in names ps uri) more ∙ one_pickle names (map both_texts (take i pickles)) (both_texts p) uri)

-- ---- what they say of a stream

get_mapped : {X : Type 0} (f : X → Bool) (xs : List X) (i : ℕ) → get_or (map f xs) i false ≡ option_map_or f (slice_get xs i) false
get_mapped f [] i = refl
get_mapped f (x ∷ xs) zero = refl
get_mapped f (x ∷ xs) (suc i) = get_mapped f xs i

flags_named : (es : List Envelope) (uri : Utf8) (ps : List Pickle) → flags_in (map (λ c. c.pickle_id) (cases es)) (map id_and_uri ps) uri ≡ map (is_named es) (filter (λ p. bytes_eq uri p.uri) ps)
flags_named es uri [] = refl
flags_named es uri (p ∷ ps) =
    ⊎_elim (λ yes. rw yes (ap₂ (λ (x : Bool) (xs : List Bool). x ∷ xs) (any_map (bytes_eq p.id) (λ (c : TestCase). c.pickle_id) (cases es)) (flags_named es uri ps))) (λ differ. rw differ (flags_named es uri ps))
    (cases_Bool (bytes_eq uri p.uri))

module _ {S : Type 0} (m : IndexMap (Bor Utf8) (Vec Bool Global) S) (es : List Envelope) where
  abbrev AreFlagsOf : (named : List Utf8) → (ps : List (Utf8 × Utf8)) → Type 0
  AreFlagsOf named ps = (uri : Utf8) → row_at m uri ≡ flags_in named ps uri

  row_known : AreFlagsOf (map (λ c. c.pickle_id) (cases es)) (map id_and_uri (pickles es)) → (uri : Utf8) → row_at m uri ≡ map (is_named es) (pickles_of uri es)
  row_known h uri = h uri ∙ flags_named es uri (pickles es)

  -- a flag for each pickle of the uri
  pub row_long : (named : List Utf8) (ps : List (Utf8 × Utf8)) → AreFlagsOf named ps → named ≡ map (λ c. c.pickle_id) (cases es) → ps ≡ map id_and_uri (pickles es) → (uri : Utf8) → length (row_at m uri) ≡ length (pickles_of uri es)
  row_long named ps rows n p uri = ap length (row_known (λ u. rows u ∙ (λ j. flags_in (n j) (p j) u)) uri) ∙ length-map (pickles_of uri es) (is_named es)

  flag_known : AreFlagsOf (map (λ c. c.pickle_id) (cases es)) (map id_and_uri (pickles es)) → (uri : Utf8) (place : ℕ) → flag_at m uri place ≡ is_run_of es uri place
  flag_known h uri place = ap (λ (row : List Bool). get_or row place false) (row_known h uri) ∙ get_mapped (is_named es) (pickles_of uri es) place

  pub runs_known : (named : List Utf8) (ps ss : List (Utf8 × Utf8)) → AreFlagsOf named ps
      → named ≡ map (λ c. c.pickle_id) (cases es) → ps ≡ map id_and_uri (pickles es) → ss ≡ map uri_and_text (sources es)
      → (text : Utf8) (place : ℕ) → is_set_at m ss text place ≡ is_run_at es text place
  runs_known named ps ss rows n p s text place =
      let known : (uri : Utf8) → row_at m uri ≡ flags_in (map (λ c. c.pickle_id) (cases es)) (map id_and_uri (pickles es)) uri = λ uri. rows uri ∙ (λ j. flags_in (n j) (p j) uri) in
      ap (λ (xs : List (Utf8 × Utf8)). is_set_at m xs text place) s
      ∙ any_map (λ (x : Utf8 × Utf8). bytes_eq text x.1 && flag_at m x.0 place) uri_and_text (sources es)
      ∙ same_any (λ (x : Source). bytes_eq text x.content && flag_at m x.uri place) (λ x. bytes_eq text x.content && is_run_of es x.uri place) (λ x. ap (λ b. bytes_eq text x.content && b) (flag_known known x.uri place)) (sources es)
