-- Marks: one text more, and one source more.
use Rattle.std.proofs.Common.{◌≡◌, ◌∙◌, ◌&&◌, ◌||◌, ℕ, ◌+◌, ◌<◌, Bool, true, false, cond, List, [], ◌∷◌, ◌++◌, Option, None, Some, Bor, Result, Ok, Err, refl, sym, ap, subst, get_or, length, map, take, ⊎_elim}
use Rattle.std.specs.Prelude.{IsSome, OnOk, Vec, is_some}
use Rattle.std.specs.Map.{keys_of, lookup}
use Rattle.std.specs.Option.{option_map_or}
use Rattle.std.specs.Str.{bytes_eq}
use Rattle.std.specs.declared.alloc.Global.{Global}
use Rattle.std.proofs.lemmas.Bool.{cases_Bool, cond-false, cond-true}
use Rattle.std.proofs.lemmas.List.{map-append, take_more}
use Rattle.std.proofs.lemmas.List.Folds.{list_any-append}
use Rattle.std.proofs.lemmas.Slice.Eq.{bytes_eq-Decides}
use Rattle.indexmap.specs.IndexMap.{IndexMap, keys}
use Rattle.cm_attempt.specs.Table.{has_text}
use Rattle.cm_cases.specs.Firsts.{value_at}
use Rattle.cm_cases.specs.Listed.{both_texts}
use Rattle.cm_stream.specs.Texts.{Utf8}
use Rattle.cm_stream.proofs.Lists.{or_no}
use Rattle.cm_stream.proofs.Steps.{never}
use Rattle.cm_ran.specs.Marks.{AlsoRan, marked_texts, has_run, with_text}
use Rattle.cm_ran.specs.Rows.{flag_at, is_set_at}
use Rattle.cm_ran.specs.declared.marks.Marks.{Marks}
use Rattle.cm_ran.proofs.RowLemmas.{apart}

-- ---- texts of a map

key_found : {V : Type 0} (entries : List (Bor Utf8 × V)) (text : Utf8) → is_some (lookup (λ k. bytes_eq text k.now) entries) ≡ has_text text (map (λ k. k.now) (keys_of entries))
key_found [] text = refl
key_found (e ∷ entries) text = ⊎_elim (λ yes. rw yes refl) (λ differ. rw differ (key_found entries text)) (cases_Bool (bytes_eq text e.0.now))

pub none_of : {V : Type 0} (o : Option V) → is_some o ≡ false → o ≡ None
none_of None e = refl
none_of (Some v) e = cc

module _ {V S : Type 0} where
  pub text_found : (m : IndexMap (Bor Utf8) V S) (text : Utf8) → is_some (value_at m text) ≡ has_text text (map (λ k. k.now) (keys m))
  text_found m text = key_found m.entries text

  -- a text more
  pub keys_added : (old new : IndexMap (Bor Utf8) V S) (text : Bor Utf8) (v : V) → is_some (value_at old text.now) ≡ false → new.entries ≡ old.entries ++ (text, v) ∷ []
      → map (λ k. k.now) (keys new) ≡ with_text text.now (map (λ k. k.now) (keys old))
  keys_added old new text v none added =
      let texts : List Utf8 = map (λ k. k.now) (keys old) in
      let absent : has_text text.now texts ≡ false = sym (text_found old text.now) ∙ none in
      ap (λ es. map (λ (k : Bor Utf8). k.now) (keys_of es)) added
      ∙ ap (map (λ (k : Bor Utf8). k.now)) (map-append (λ (e : Bor Utf8 × V). e.0) old.entries ((text, v) ∷ []))
      ∙ map-append (λ (k : Bor Utf8). k.now) (keys old) (text ∷ [])
      ∙ sym (cond-false _ _ _ absent)

  pub keys_there : (old : IndexMap (Bor Utf8) V S) (text : Utf8) → is_some (value_at old text) ≡ true → map (λ k. k.now) (keys old) ≡ with_text text (map (λ k. k.now) (keys old))
  keys_there old text there = sym (cond-true _ _ _ (sym (text_found old text) ∙ there))

module _ {S : Type 0} where
  -- it has no flags
  pub flags_kept : (old new : IndexMap (Bor Utf8) (Vec Bool Global) S) (text : Utf8) (v : Vec Bool Global) → is_some (value_at old text) ≡ false → v.items ≡ []
      → ((q : Bor Utf8) → value_at new q.now ≡ cond (bytes_eq text q.now) (Some v) (value_at old q.now))
      → (other : Utf8) (place : ℕ) → flag_at new other place ≡ flag_at old other place
  flags_kept old new text v none empty all other place =
      let q : Bor Utf8 = record { ref_ptr = (0, 0); now = other } in
      let flag : Option (Vec Bool Global) → Bool = λ o. get_or (option_map_or (λ r. r.items) o []) place false in
      ⊎_elim
      (λ yes.
      let same : text ≡ other = (bytes_eq-Decides text other).0 yes in
      ap flag (all q ∙ cond-true _ _ _ yes) ∙ ap (λ (row : List Bool). get_or row place false) empty
      ∙ sym (ap flag (ap (value_at old) (sym same) ∙ none_of (value_at old text) none)))
      (λ differ. ap flag (all q ∙ cond-false _ _ _ differ))
      (cases_Bool (bytes_eq text other))

  -- the flags of another row are set too in that of a text
  pub row_marked : (old new : IndexMap (Bor Utf8) (Vec Bool Global) S) (text : Utf8) (before v : Vec Bool Global) (row : List Bool) → value_at old text ≡ Some before
      → ((place : ℕ) → get_or v.items place false ≡ (get_or before.items place false || get_or row place false))
      → ((q : Bor Utf8) → value_at new q.now ≡ cond (bytes_eq text q.now) (Some v) (value_at old q.now))
      → (other : Utf8) (place : ℕ) → flag_at new other place ≡ (flag_at old other place || (bytes_eq other text && get_or row place false))
  row_marked old new text before v row was either all other place =
      let q : Bor Utf8 = record { ref_ptr = (0, 0); now = other } in
      let flag : Option (Vec Bool Global) → Bool = λ o. get_or (option_map_or (λ r. r.items) o []) place false in
      ⊎_elim
      (λ yes.
      let same : other ≡ text = (bytes_eq-Decides other text).0 yes in
      let there : bytes_eq text other ≡ true = (bytes_eq-Decides text other).1 (sym same) in
      ap flag (all q ∙ cond-true _ _ _ there) ∙ either place
      ∙ ap (λ b. b || get_or row place false) (sym (ap flag (ap (value_at old) same ∙ was)))
      ∙ ap (λ b. flag_at old other place || (b && get_or row place false)) (sym yes))
      (λ differ.
      ap flag (all q ∙ cond-false _ _ _ (apart other text differ)) ∙ sym (or_no (flag_at old other place))
      ∙ ap (λ b. flag_at old other place || (b && get_or row place false)) (sym differ))
      (cases_Bool (bytes_eq other text))

  -- where a text isn't there, it is none of those that are
  pub none_marked : (old : IndexMap (Bor Utf8) (Vec Bool Global) S) (text : Utf8) (row : List Bool) → is_some (value_at old text) ≡ false
      → (other : Utf8) (place : ℕ) → has_text other (map (λ k. k.now) (keys old)) ≡ true → flag_at old other place ≡ (flag_at old other place || (bytes_eq other text && get_or row place false))
  none_marked old text row none other place there =
      ⊎_elim
      (λ yes.
      let same : other ≡ text = (bytes_eq-Decides other text).0 yes in
      let some : is_some (value_at old text) ≡ true = ap (λ (t : Utf8). is_some (value_at old t)) (sym same) ∙ text_found old other ∙ there in
      let no_way : true ≡ false = sym some ∙ none in cc)
      (λ differ. sym (or_no (flag_at old other place)) ∙ ap (λ b. flag_at old other place || (b && get_or row place false)) (sym differ))
      (cases_Bool (bytes_eq other text))

  -- a uri without a row has no flag
  pub no_row : (m : IndexMap (Bor Utf8) (Vec Bool Global) S) (uri : Utf8) → value_at m uri ≡ None → (before is : Bool) (place : ℕ) → before ≡ (before || (is && flag_at m uri place))
  no_row m uri none before is place =
      sym (or_no before) ∙ ap (λ b. before || b) (sym (never is)) ∙ ap (λ o. before || (is && get_or (option_map_or (λ (r : Vec Bool Global). r.items) o []) place false)) (sym none)

  one_source : (m : IndexMap (Bor Utf8) (Vec Bool Global) S) (ss : List (Utf8 × Utf8)) (s : Utf8 × Utf8) (text : Utf8) (place : ℕ)
      → is_set_at m (ss ++ s ∷ []) text place ≡ (is_set_at m ss text place || (bytes_eq text s.1 && flag_at m s.0 place))
  one_source m ss s text place =
      list_any-append (λ (x : Utf8 × Utf8). bytes_eq text x.1 && flag_at m x.0 place) ss (s ∷ [])
      ∙ ap (λ b. is_set_at m ss text place || b) (or_no (bytes_eq text s.1 && flag_at m s.0 place))

or_turned : (a b c : Bool) → ((a || b) || c) ≡ (a || (b || c))
or_turned true b c = refl
or_turned false b c = refl

-- what one source more marks
pub source_taken : {S : Type 0} (m : IndexMap (Bor Utf8) (Vec Bool Global) S) (sources : List (Bor Utf8 × Bor Utf8)) (i : ℕ) (d : Bor Utf8 × Bor Utf8) (old mid new : Marks)
    → i < length sources → marked_texts mid ≡ marked_texts old
    → AlsoRan old mid (is_set_at m (map both_texts (take i sources)))
    → AlsoRan mid new (λ other place. bytes_eq other (get_or sources i d).1.now && flag_at m (get_or sources i d).0.now place)
    → AlsoRan old new (is_set_at m (map both_texts (take (i + 1) sources)))
source_taken m sources i d old mid new l texts before now other place there =
    let s : Bor Utf8 × Bor Utf8 = get_or sources i d in
    let taken : List (Utf8 × Utf8) = map both_texts (take i sources) in
    let more : map both_texts (take (i + 1) sources) ≡ taken ++ both_texts s ∷ [] =
    ap (map both_texts) (take_more sources i d l) ∙ map-append both_texts (take i sources) (s ∷ []) in
    now other place (ap (has_text other) texts ∙ there)
    ∙ ap (λ b. b || (bytes_eq other s.1.now && flag_at m s.0.now place)) (before other place there)
    ∙ or_turned (flag_at old.rows other place) (is_set_at m taken other place) (bytes_eq other s.1.now && flag_at m s.0.now place)
    ∙ ap (λ b. flag_at old.rows other place || b) (sym (ap (λ xs. is_set_at m xs other place) more ∙ one_source m taken (both_texts s) other place))

-- the same by another test
pub also_same : (old new : Marks) (p q : (text : Utf8) → (place : ℕ) → Bool) → ((text : Utf8) (place : ℕ) → p text place ≡ q text place) → AlsoRan old new p → AlsoRan old new q
also_same old new p q same h text place there = h text place there ∙ ap (λ b. flag_at old.rows text place || b) (same text place)

pub on_ok : {A E P Q : Type 0} (r : Result A E) → OnOk r P → (P → Q) → OnOk r Q
on_ok (Ok a) p f = f p
on_ok (Err e) p f = p

pub both_ok : {A E : Type 0} (P Q : Type 0) (r : Result A E) → OnOk r P → OnOk r Q → OnOk r (P × Q)
both_ok P Q (Ok a) p q = (p, q)
both_ok P Q (Err e) p q = p

pub is_there : {V : Type 0} (o : Option V) (v : V) → Some v ≡ o → IsSome o
is_there o v e = subst IsSome e refl

-- ---- no texts

pub unmarked_at_first : (m : Marks) → marked_texts m ≡ [] → (text : Utf8) (place : ℕ) → has_run m text place ≡ false
unmarked_at_first m none text place =
    let missing : is_some (value_at m.rows text) ≡ false = text_found m.rows text ∙ ap (has_text text) none in
    rw (none_of (value_at m.rows text) missing) refl
