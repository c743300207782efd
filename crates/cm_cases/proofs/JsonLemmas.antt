-- What is counted of the starts of attempts, and what a listing shows as JSON.
use Rattle.std.proofs.Common.{◌≡◌, ◌∙◌, ap, sym, refl, ℕ, ◌+◌, Bool, true, false, cond, List, [], ◌∷◌, ◌++◌, length, map, Option, None, Some, Bor, add-zero, ⊎_elim}
use Rattle.std.specs.Prelude.{codes, if◌then◌else◌, not, option_map}
use Rattle.std.specs.List.{filter, flat_map}
use Rattle.std.specs.Option.{option_map_or}
use Rattle.std.specs.Str.{bytes_eq}
use Rattle.std.proofs.lemmas.Bool.{cases_Bool}
use Rattle.std.proofs.lemmas.List.{length-map}
use Rattle.std.proofs.lemmas.List.Sums.{length-filter}
use Rattle.std.proofs.lemmas.Slice.Eq.{bytes_eq-Decides}
use Rattle.serde_json.specs.Data.{string}
use Rattle.serde_json.specs.Written.{has_float}
use Rattle.indexmap.specs.IndexMap.{IndexMap}
use Rattle.cm_messages.proofs.Plain.{plain_list, plain_object}
use Rattle.cm_envelope.specs.declared.envelope.Envelope.{Envelope}
use Rattle.cm_envelope.specs.declared.envelope.TestCaseStarted.{TestCaseStarted}
use Rattle.cm_envelope.specs.declared.pickle.Pickle.{Pickle}
use Rattle.cm_stream.specs.References.{if_any, pickles, starts, starts_of}
use Rattle.cm_stream.specs.Release.{is_named}
use Rattle.cm_stream.specs.Texts.{Utf8}
use Rattle.cm_stream.proofs.Found.{eq_back}
use Rattle.cm_cases.specs.Firsts as listed
use Rattle.cm_cases.specs.Firsts.{count_at, entry_of, entry_values, times_in, unrun_json_text, value_at}
use Rattle.cm_cases.specs.JsonLines.{CaseValues, case_data, case_json, json_line, unrun_json, values_of}
use Rattle.cm_cases.specs.Listed.{listing_of, pickle_entry}
use Rattle.cm_cases.specs.Places.{pickle_of}
use Rattle.cm_cases.specs.declared.listing.Listing.{Listing}
use Rattle.cm_cases.specs.declared.listing.PickleEntry.{PickleEntry}
use Rattle.cm_cases.proofs.PlaceLemmas.{entry_listed, filter_step, same_line, same_named}

-- ---- what is written

-- what a line says has no float
pub case_plain : (v : CaseValues) → has_float (case_data v) ≡ false
case_plain v = plain_object (case_data v) (refl, (refl, (refl, (refl, (plain_list string (λ t. refl) v.tags, (refl, tt))))))

-- ---- how often a text is there

counted_if : (b : Bool) (n m : ℕ) (o : Option ℕ) → (b ≡ true → n ≡ m + 1) → m ≡ option_map_or (λ k. k) o 0 → option_map_or (λ k. k) (cond b (Some n) o) 0 ≡ m + (if b then 1 else 0)
counted_if true n m o h e = h refl
counted_if false n m o h e = sym e ∙ sym (add-zero m)

module _ {S : Type 0} where
  -- a text that is counted is there once more
  pub one_counted : (old new : IndexMap (Bor Utf8) ℕ S) (text : Utf8) (n : ℕ) → n ≡ count_at old text + 1
      → ((q : Bor Utf8) → value_at new q.now ≡ cond (bytes_eq text q.now) (Some n) (value_at old q.now))
      → (other : Utf8) → count_at new other ≡ count_at old other + (if bytes_eq other text then 1 else 0)
  one_counted old new text n is all other =
      let q : Bor Utf8 = record { ref_ptr = (0, 0); now = other } in
      ap (λ o. option_map_or (λ k. k) o 0) (all q ∙ ap (λ b. cond b (Some n) (value_at old other)) (eq_back text other))
      ∙ counted_if (bytes_eq other text) n (count_at old other) (value_at old other) (λ yes. is ∙ ap (λ (t : Utf8). count_at old t + 1) (sym ((bytes_eq-Decides other text).0 yes))) refl

-- ---- the values of a line

same_values : (es : List Envelope) (n : ℕ) (status : Utf8) (p : Pickle) → entry_values (listing_of es) n status (pickle_entry p) ≡ values_of es n status p
same_values es n status p = rw (same_line es p) refl

filtered : {X Y : Type 0} (p : Y → Bool) (f : X → Y) (xs : List X) → filter p (map f xs) ≡ map f (filter (λ x. p (f x)) xs)
filtered p f [] = refl
filtered p f (x ∷ xs) = ⊎_elim (λ yes. rw yes (ap (λ ys. f x ∷ ys) (filtered p f xs))) (λ no. rw no (filtered p f xs)) (cases_Bool (p (f x)))

times_listed : (es : List Envelope) (id : Utf8) → times_in (listing_of es).starts id ≡ length (starts_of id es)
times_listed es id =
    sym (length-filter (bytes_eq id) (listing_of es).starts) ∙ ap length (filtered (bytes_eq id) (λ (s : TestCaseStarted). s.test_case_id) (starts es))
    ∙ length-map (starts_of id es) (λ s. s.test_case_id)

-- ---- the line of a case

any_said : (es : List Envelope) (n m : ℕ) (status : Utf8) (o : Option Pickle) → n ≡ m
    → flat_map (λ p. json_line (entry_values (listing_of es) n status p)) (if_any (option_map pickle_entry o)) ≡ flat_map (λ p. json_line (values_of es m status p)) (if_any o)
any_said es n m status None e = refl
any_said es n m status (Some p) e = ap (λ v. json_line v ++ []) (ap (λ k. entry_values (listing_of es) k status (pickle_entry p)) e ∙ same_values es m status p)

pub case_said : (l : Listing) (es : List Envelope) (id status : Utf8) (n : ℕ) (o : Option PickleEntry) → l ≡ listing_of es → n ≡ times_in l.starts id → o ≡ entry_of l id
    → flat_map (λ p. json_line (entry_values l n status p)) (if_any o) ≡ case_json es id status
case_said l es id status n o is count e =
    let entry : o ≡ option_map pickle_entry (pickle_of es id) = e ∙ ap (λ (k : Listing). entry_of k id) is ∙ entry_listed es id in
    let attempts : n ≡ length (starts_of id es) = count ∙ ap (λ (k : Listing). times_in k.starts id) is ∙ times_listed es id in
    (λ j. flat_map (λ p. json_line (entry_values (is j) n status p)) (if_any (entry j))) ∙ any_said es n (length (starts_of id es)) status (pickle_of es id) attempts

-- ---- pickles that no case names

each_unrun : (es : List Envelope) (ps : List Pickle)
    → flat_map (λ p. json_line (entry_values (listing_of es) 0 (codes "UNRUN") p)) (filter (λ p. not (listed.is_named (listing_of es) p)) (map pickle_entry ps))
    ≡ flat_map (λ p. json_line (values_of es 0 (codes "UNRUN") p)) (filter (λ p. not (is_named es p)) ps)
each_unrun es [] = refl
each_unrun es (p ∷ ps) =
    filter_step (λ x. json_line (entry_values (listing_of es) 0 (codes "UNRUN") x)) (λ x. not (listed.is_named (listing_of es) x)) (pickle_entry p) (map pickle_entry ps) (not (is_named es p)) (ap not (same_named es p))
    ∙ (λ j. (if not (is_named es p) then json_line (same_values es 0 (codes "UNRUN") p j) else []) ++ each_unrun es ps j)
    ∙ sym (filter_step (λ x. json_line (values_of es 0 (codes "UNRUN") x)) (λ x. not (is_named es x)) p ps (not (is_named es p)) refl)

pub unrun_said : (l : Listing) (es : List Envelope) → l ≡ listing_of es → unrun_json_text l ≡ unrun_json es
unrun_said l es is = ap unrun_json_text is ∙ each_unrun es (pickles es)
