-- Rows that have a flag for each pickle of their text.
use Rattle.std.proofs.Common.{◌≡◌, ◌∙◌, ◌<◌, ℕ, zero, suc, Bool, true, false, cond, List, [], ◌∷◌, Option, None, Some, Bor, refl, sym, ap, subst, arith, get_or, inl, inr, length, map, max, ⊎_elim}
use Rattle.std.proofs.Math.Nat.{zero-max}
use Rattle.std.specs.List.{AllByRecursion}
use Rattle.std.specs.Option.{option_map_or}
use Rattle.std.specs.Prelude.{Vec, is_some}
use Rattle.std.specs.Str.{bytes_eq}
use Rattle.std.specs.declared.alloc.Global.{Global}
use Rattle.std.proofs.lemmas.Bool.{cases_Bool, cond-false, cond-true}
use Rattle.std.proofs.lemmas.Slice.Eq.{bytes_eq-Decides}
use Rattle.indexmap.specs.IndexMap.{IndexMap}
use Rattle.cm_attempt.specs.Table.{has_text}
use Rattle.cm_cases.specs.Firsts.{value_at}
use Rattle.cm_cases.specs.Listed.{both_texts, id_and_uri}
use Rattle.cm_envelope.specs.declared.envelope.Envelope.{Envelope}
use Rattle.cm_envelope.specs.declared.envelope.Source.{Source}
use Rattle.cm_reasons.specs.Run.{uri_and_text}
use Rattle.cm_stream.specs.Readings.{Accepted, Reading}
use Rattle.cm_stream.specs.References.{cases, pickles, pickles_of, sources}
use Rattle.cm_stream.specs.ReleasedRuns.{EachSourceIsCompiled, IsCompiled}
use Rattle.cm_stream.specs.Sources.{is_due}
use Rattle.cm_stream.specs.Texts.{Utf8, same_list}
use Rattle.cm_stream.proofs.Lists.{and_true}
use Rattle.cm_stream.proofs.OnePass.{reads_it}
use Rattle.gk_document.specs.declared.tree.Document.{Document}
use Rattle.gk_pickle.specs.Pickles.{pickles as compiled}
use Rattle.cm_ran.specs.Compiled.{HasCompiled}
use Rattle.cm_ran.specs.Marks.{CompilesTo, HasWholeRows, IsWholeRow, marked_texts}
use Rattle.cm_ran.specs.Rows.{flags_in, row_at}
use Rattle.cm_ran.specs.declared.marks.Marks.{Marks}
use Rattle.cm_ran.proofs.MarkLemmas.{none_of, text_found}
use Rattle.cm_ran.proofs.RowLemmas.{row_long}

same_length : {A B : Type 0} (same : A → B → Bool) (xs : List A) (ys : List B) → same_list same xs ys ≡ true → length xs ≡ length ys
same_length same [] [] h = refl
same_length same [] (y ∷ ys) h = cc
same_length same (x ∷ xs) [] h = cc
same_length same (x ∷ xs) (y ∷ ys) h = ap suc (same_length same xs ys (and_true (same x y) (same_list same xs ys) h).1)

-- ---- one row

-- a text compiles to one count of pickles
one_count : (text : Utf8) (n m : ℕ) → CompilesTo text n → CompilesTo text m → n ≡ m
one_count text n m a b =
    let same : Accepted a.document ≡ Accepted b.document = sym (reads_it text (Accepted a.document) a.accepted) ∙ reads_it text (Accepted b.document) b.accepted in
    let documents : a.document ≡ b.document = cc in
    sym a.as_many ∙ ap (λ (d : Document). length (compiled d)) documents ∙ b.as_many

longer_one : (text : Utf8) (first second : List Bool) → IsWholeRow text first → CompilesTo text (length second) → max (length first) (length second) ≡ length second
longer_one text first second (inl none) c = ap (λ (xs : List Bool). max (length xs) (length second)) none ∙ zero-max (length second)
longer_one text first second (inr w) c = let same = one_count text (length first) (length second) w c in omega (arith, same)

abbrev row_of : Option (Vec Bool Global) → List Bool
row_of o = option_map_or (λ (r : Vec Bool Global). r.items) o []

module _ {S : Type 0} where
  abbrev pub AreWhole : IndexMap (Bor Utf8) (Vec Bool Global) S → Type 0
  AreWhole m = (text : Utf8) → IsWholeRow text (row_at m text)

  abbrev IsWritten : (old new : IndexMap (Bor Utf8) (Vec Bool Global) S) → (text : Utf8) → Vec Bool Global → Type 0
  IsWritten old new text v = (q : Bor Utf8) → value_at new q.now ≡ cond (bytes_eq text q.now) (Some v) (value_at old q.now)

  -- a row is as it is written, and another one as it was
  rows_written : (old new : IndexMap (Bor Utf8) (Vec Bool Global) S) (text : Utf8) (v : Vec Bool Global) → IsWritten old new text v → IsWholeRow text v.items → AreWhole old → AreWhole new
  rows_written old new text v all this whole other =
      let q : Bor Utf8 = record { ref_ptr = (0, 0); now = other } in
      ⊎_elim
      (λ yes.
      let same : text ≡ other = (bytes_eq-Decides text other).0 yes in
      subst (IsWholeRow other) (sym (ap row_of (all q ∙ cond-true _ _ _ yes))) (subst (λ (t : Utf8). IsWholeRow t v.items) same this))
      (λ differ. subst (IsWholeRow other) (sym (ap row_of (all q ∙ cond-false _ _ _ differ))) (whole other))
      (cases_Bool (bytes_eq text other))

  -- a text without flags
  pub whole_added : (old new : IndexMap (Bor Utf8) (Vec Bool Global) S) (text : Utf8) (v : Vec Bool Global) → v.items ≡ [] → IsWritten old new text v → AreWhole old → AreWhole new
  whole_added old new text v none all whole = rows_written old new text v all (inl none) whole

  -- the flags of a row more
  pub whole_marked : (old new : IndexMap (Bor Utf8) (Vec Bool Global) S) (text : Utf8) (before v : Vec Bool Global) (row : List Bool) → value_at old text ≡ Some before
      → length v.items ≡ max (length before.items) (length row) → IsWritten old new text v → CompilesTo text (length row) → AreWhole old → AreWhole new
  whole_marked old new text before v row was long all c whole =
      let first : IsWholeRow text before.items = subst (IsWholeRow text) (ap row_of was) (whole text) in
      let same : length v.items ≡ length row = long ∙ longer_one text before.items row first c in
      rows_written old new text v all (inr (subst (CompilesTo text) (sym same) c)) whole

  -- ---- all sources

  pub compiled_at : (m : IndexMap (Bor Utf8) (Vec Bool Global) S) (ss : List (Bor Utf8 × Bor Utf8)) (i : ℕ) (d : Bor Utf8 × Bor Utf8) → i < length ss → HasCompiled m (map both_texts ss)
      → CompilesTo (get_or ss i d).1.now (length (row_at m (get_or ss i d).0.now))
  compiled_at m [] i d l all = absurd (omega (arith, l))
  compiled_at m (s ∷ ss) zero d l all = all.0
  compiled_at m (s ∷ ss) (suc i) d l all = compiled_at m ss i d (omega (arith, l)) all.1

  pub sources_compiled : (m : IndexMap (Bor Utf8) (Vec Bool Global) S) (es : List Envelope) (named : List Utf8) (ps ss : List (Utf8 × Utf8)) → ((uri : Utf8) → row_at m uri ≡ flags_in named ps uri)
      → named ≡ map (λ c. c.pickle_id) (cases es) → ps ≡ map id_and_uri (pickles es) → ss ≡ map uri_and_text (sources es) → EachSourceIsCompiled es → HasCompiled m ss
  sources_compiled m es named ps ss rows n p s each = subst (HasCompiled m) (sym s) (go (sources es) each)
    where
      go : (xs : List Source) → AllByRecursion (IsCompiled es) xs → HasCompiled m (map uri_and_text xs)
      go [] all = tt
      go (x ∷ xs) all = (
        record {
          document = all.0.document;
          accepted = all.0.accepted;
          as_many = sym (row_long m es named ps rows n p x.uri ∙ same_length (is_due all.0.found.ids) (pickles_of x.uri es) (compiled all.0.document) all.0.same_pickles);
        },
        go xs all.1,
      )

-- no text has a flag
pub whole_at_first : (m : Marks) → marked_texts m ≡ [] → HasWholeRows m
whole_at_first m none text =
    let missing : is_some (value_at m.rows text) ≡ false = text_found m.rows text ∙ ap (has_text text) none in
    inl (ap row_of (none_of (value_at m.rows text) missing))
