-- The stream of a text is good, where its values are plain.
use Rattle.std.proofs.Common.{◌≡◌, ℕ, ◌+◌, List, [], ◌∷◌, ◌++◌, true, None, length, refl, sym, ap, ◌∙◌, subst, arith}
use Rattle.std.specs.Prelude.{count_by}
use Rattle.std.specs.List.{filter, concat}
use Rattle.std.proofs.lemmas.List.Sums.{length-filter}
use Rattle.gk_document.specs.declared.tree.Document.{Document}
use Rattle.gk_pickle.specs.declared.pickles.Pickle.{Pickle}
use Rattle.gk_pickle.specs.Pickles.{pickles as compiled}
use Rattle.cm_attempt.specs.declared.status.Settings.{Settings}
use Rattle.cm_envelope.specs.declared.envelope.Envelope.{Envelope}
use Rattle.cm_envelope.specs.declared.envelope.Envelope.TheVariants as envelope
use Rattle.cm_stream.specs.Good.{Good}
use Rattle.cm_stream.specs.Redeclared.{judged_after}
use Rattle.cm_stream.specs.Stream.{feed_of, IsRead, IsGoodStream, envelopes, counts_of, unrun_count}
use Rattle.cm_stream.specs.References.{sources, pickles, cases, starts, as_source, as_case, as_start, run_succeeded}
use Rattle.cm_stream.proofs.FaultlessGood.{faultless_are_good}
use Rattle.cm_read_back.specs.Documents.{IsReadable, document_read}
use Rattle.cm_read_back.specs.Pickles.{pickle_read, source_read}
use Rattle.cm_compile.specs.Compiled.{id_count}
use Rattle.cm_compiled_good.specs.Law.{stream_of, counts_for}
use Rattle.cm_compiled_good.proofs.Faultless.{Known, none_faulty}
use Rattle.cm_compiled_good.proofs.Feeding.{with_numbers, numbers_off, they_are_read}
use Rattle.cm_compiled_good.proofs.Front.{none_found}
use Rattle.cm_compiled_good.proofs.Written.{ArePlain, pickle_envelopes, run_envelopes, expected, all_texts, texts_joined, all_lines}

-- ---- counts

pickles_told : (uri : List ℕ) (id : ℕ) (ps : List Pickle) → length (pickles (pickle_envelopes uri id ps ++ run_envelopes)) ≡ length ps
pickles_told uri id [] = refl
pickles_told uri id (p ∷ ps) = omega (arith, pickles_told uri (id + id_count p) ps)

all_kept : {X : Type 0} (xs : List X) → filter (λ x. true) xs ≡ xs
all_kept [] = refl
all_kept (x ∷ xs) = ap (λ z. x ∷ z) (all_kept xs)

all_counted : {X : Type 0} (xs : List X) → count_by (λ x. true) xs ≡ length xs
all_counted xs = sym (length-filter (λ x. true) xs) ∙ ap length (all_kept xs)

counts_are : (uri text : List ℕ) (d : Document) → counts_for d ≡ counts_of (expected uri text d)
counts_are uri text d =
    let es = expected uri text d in
    let all : length (pickles es) ≡ length (compiled d) = pickles_told uri d.nodes (compiled d) in
    let no_case : cases es ≡ [] = none_found as_case (λ p. refl) uri d.nodes (compiled d) run_envelopes in
    let no_start : starts es ≡ [] = none_found as_start (λ p. refl) uri d.nodes (compiled d) run_envelopes in
    let one : length (sources es) ≡ 1 = rw (none_found as_source (λ p. refl) uri d.nodes (compiled d) run_envelopes) refl in
    let free : unrun_count es ≡ length (compiled d) = rw no_case (all_counted (pickles es)) ∙ all in
    λ i. record {
      sources = sym one i;
      pickles = sym all i;
      cases = sym (ap length no_case) i;
      attempts = sym (ap length no_start) i;
      unrun = sym free i;
    }

-- ---- what is judged

pickles_as_they_are : (settings : Settings) (uri : List ℕ) (id : ℕ) (ps : List Pickle) (before : List Envelope) → judged_after settings before (pickle_envelopes uri id ps ++ run_envelopes) ≡ pickle_envelopes uri id ps ++ run_envelopes
pickles_as_they_are settings uri id [] before = refl
pickles_as_they_are settings uri id (p ∷ ps) before =
    let e = envelope.Pickle (pickle_read uri id p) in
    ap (λ es. e ∷ es) (pickles_as_they_are settings uri (id + id_count p) ps (before ++ e ∷ []))

-- none of the envelopes is declared again
as_they_are : (settings : Settings) (uri text : List ℕ) (d : Document) → judged_after settings [] (expected uri text d) ≡ expected uri text d
as_they_are settings uri text d =
    let source = envelope.Source (source_read uri text) in
    let document = envelope.GherkinDocument (document_read uri d) in
    ap (λ es. source ∷ document ∷ es) (pickles_as_they_are settings uri d.nodes (compiled d) (source ∷ document ∷ []))

-- ---- the stream

pub good_if_plain : (settings : Settings) (uri text : List ℕ) (d : Document) → IsReadable d → Known uri text d → ArePlain uri text d → (feed_of (stream_of uri text d)).trouble ≡ None → IsGoodStream settings (stream_of uri text d) (counts_for d)
good_if_plain settings uri text d readable k plain fits =
    let es = expected uri text d in
    let joined = texts_joined uri text d in
    let read : IsRead (concat (all_texts uri text d)) (with_numbers 1 es) =
    they_are_read (all_texts uri text d) es (all_lines uri text d readable plain) (ap (λ (bytes : List ℕ). (feed_of bytes).trouble) joined ∙ fits) in
    let good : Good settings es = faultless_are_good settings es (none_faulty settings uri text d k) in
    let same : envelopes (with_numbers 1 es) ≡ es = numbers_off 1 es in (
      run_succeeded es,
      record {
        judged = es;
        read = record {
          lines = with_numbers 1 es;
          read = subst (λ bytes. IsRead bytes (with_numbers 1 es)) joined read;
          judged = sym (as_they_are settings uri text d) ∙ ap (judged_after settings []) (sym same);
        };
        good = good;
        exact = counts_are uri text d;
        said = refl;
      },
    )
