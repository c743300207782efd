-- What the envelopes of a source, its document and its first pickles declare.
use Rattle.std.proofs.Common.{◌≡◌, ℕ, suc, zero, ◌+◌, ◌==◌, List, [], ◌∷◌, ◌++◌, Bool, true, false, ◌||◌, Option, Some, None, length, refl, ap, arith}
use Rattle.std.specs.Prelude.{count_by}
use Rattle.std.specs.List.{list_any, filter_map}
use Rattle.std.proofs.lemmas.Bool.Decides.{nat_tests}
use Rattle.gk_document.specs.declared.tree.Document.{Document}
use Rattle.gk_pickle.specs.declared.pickles.Pickle.{Pickle}
use Rattle.gk_pickle.specs.Pickles.{pickles as compiled}
use Rattle.cm_envelope.specs.declared.envelope.Envelope.{Envelope}
use Rattle.cm_envelope.specs.declared.envelope.Envelope.TheVariants as envelope
use Rattle.cm_envelope.specs.declared.pickle.Pickle as told
use Rattle.cm_stream.specs.Readings.{Accepted}
use Rattle.cm_stream.specs.OnePass.{reads}
use Rattle.cm_stream.specs.References.{SourceOf, DocumentOf, declares_it, pickles_of}
use Rattle.cm_stream.specs.Checks.{document_ids, refers_to_unknown}
use Rattle.cm_stream.specs.ByOnePass.{reading_of, next_pickle, is_next_pickle}
use Rattle.cm_stream.proofs.Found.{bytes_same}
use Rattle.cm_stream.proofs.Lists.{at_length, count_none}
use Rattle.cm_read_back.specs.Documents.{document_read}
use Rattle.cm_read_back.specs.Pickles.{pickle_read, source_read}
use Rattle.cm_compile.specs.Compiled.{id_count}
use Rattle.cm_compiled_good.proofs.Due.{ids_to, pickle_due}
use Rattle.cm_compiled_good.proofs.Fine.{below, PickleFine}
use Rattle.cm_compiled_good.proofs.Numbers.{next_id}
use Rattle.cm_compiled_good.proofs.Written.{pickle_envelopes}

-- the source, the document, these pickles, and more
abbrev pub front : (uri text : List ℕ) → Document → List Pickle → List Envelope → List Envelope
front uri text d done more = envelope.Source (source_read uri text) ∷ envelope.GherkinDocument (document_read uri d) ∷ (pickle_envelopes uri d.nodes done ++ more)

-- ---- what no pickle is

pub none_found : {Y : Type 0} (h : Envelope → Option Y) → ((p : told.Pickle) → h (envelope.Pickle p) ≡ None) → (uri : List ℕ) (id : ℕ) (ps : List Pickle) (more : List Envelope)
    → filter_map h (pickle_envelopes uri id ps ++ more) ≡ filter_map h more
none_found h none uri id [] more = refl
none_found h none uri id (p ∷ ps) more = rw (none (pickle_read uri id p)) (none_found h none uri (id + id_count p) ps more)

pub none_is : (q : Envelope → Bool) → ((p : told.Pickle) → q (envelope.Pickle p) ≡ false) → (uri : List ℕ) (id : ℕ) (ps : List Pickle) (more : List Envelope)
    → list_any q (pickle_envelopes uri id ps ++ more) ≡ list_any q more
none_is q none uri id [] more = refl
none_is q none uri id (p ∷ ps) more = rw (none (pickle_read uri id p)) (none_is q none uri (id + id_count p) ps more)

-- ---- pickles

pub pickles_count : (uri : List ℕ) (id : ℕ) (ps : List Pickle) (more : List Envelope) → length (pickles_of uri (pickle_envelopes uri id ps ++ more)) ≡ length ps + length (pickles_of uri more)
pickles_count uri id [] more = omega arith
pickles_count uri id (p ∷ ps) more =
    let first : pickles_of uri (pickle_envelopes uri id (p ∷ ps) ++ more) ≡ pickle_read uri id p ∷ pickles_of uri (pickle_envelopes uri (id + id_count p) ps ++ more) = rw (bytes_same uri) refl in
    omega (arith, ap length first, pickles_count uri (id + id_count p) ps more)

pub one_more_pickle : (uri : List ℕ) (id : ℕ) (ps : List Pickle) (p : Pickle)
    → pickle_envelopes uri id (ps ++ p ∷ []) ≡ pickle_envelopes uri id ps ++ envelope.Pickle (pickle_read uri (next_id id ps) p) ∷ []
one_more_pickle uri id [] p = refl
one_more_pickle uri id (q ∷ ps) p = ap (λ z. envelope.Pickle (pickle_read uri id q) ∷ z) (one_more_pickle uri (id + id_count q) ps p)

-- ---- references

known : (q : Envelope → Bool) (es : List Envelope) → list_any q es ≡ true → (count_by q es == 0) ≡ false
known q es some = go (count_by q es) refl
  where
    go : (n : ℕ) → count_by q es ≡ n → (n == 0) ≡ false
    go zero e = let none = count_none q es e in cc
    go (suc n) e = grind (arith, nat_tests)

any_true : (b : Bool) → (b || true) ≡ true
any_true true = refl
any_true false = refl

pub all_known : (uri text : List ℕ) (d : Document) (done : List Pickle) (more : List Envelope) (first : ℕ) (p : Pickle)
    → refers_to_unknown (front uri text d done more) (envelope.Pickle (pickle_read uri first p)) ≡ false
all_known uri text d done more first p =
    let es = front uri text d done more in
    let source : list_any (declares_it (SourceOf uri)) es ≡ true = rw (bytes_same uri) refl in
    let document : list_any (declares_it (DocumentOf uri)) es ≡ true = rw (bytes_same uri) refl in
    rw (known (declares_it (SourceOf uri)) es source, known (declares_it (DocumentOf uri)) es document) refl

-- ---- what is due

pub reading_is : (uri text : List ℕ) (d : Document) (more : List Envelope) → reads text ≡ Accepted d
    → reading_of uri (envelope.Source (source_read uri text) ∷ more) ≡ Some (Accepted d)
reading_is uri text d more read = rw (bytes_same uri, read) refl

ids_there : (uri text : List ℕ) (d : Document) (done : List Pickle) (more : List Envelope) → document_ids uri (front uri text d done more) ≡ ids_to d.nodes
ids_there uri text d done more = rw (bytes_same uri) refl

next_there : (uri text : List ℕ) (d : Document) (done rest : List Pickle) (p : Pickle) → reads text ≡ Accepted d → compiled d ≡ done ++ p ∷ rest
    → next_pickle uri (front uri text d done []) ≡ Some p
next_there uri text d done rest p read cut =
    let before = front uri text d done [] in
    let many : length (pickles_of uri before) ≡ length done = omega (arith, pickles_count uri d.nodes done []) in
    rw (reading_is uri text d (envelope.GherkinDocument (document_read uri d) ∷ (pickle_envelopes uri d.nodes done ++ [])) read, many, cut) (at_length done p rest)

pub pickle_next : (uri text : List ℕ) (d : Document) (done rest : List Pickle) (p : Pickle) (first : ℕ) → reads text ≡ Accepted d → compiled d ≡ done ++ p ∷ rest → PickleFine (below d.nodes) p
    → is_next_pickle (front uri text d done []) (pickle_read uri first p) ≡ true
pickle_next uri text d done rest p first read cut fine =
    rw (next_there uri text d done rest p read cut, ids_there uri text d done []) (pickle_due uri d.nodes first p fine)
