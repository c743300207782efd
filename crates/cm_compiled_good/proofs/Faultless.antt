-- The envelopes of a compiled text have no fault.
use Rattle.std.proofs.Common.{◌≡◌, ℕ, ◌+◌, ◌<◌, ◌≤◌, List, [], ◌∷◌, ◌++◌, false, None, length, refl, sym, ap, ◌∙◌, subst, arith, decimal, append-nil, append_assoc}
use Rattle.std.specs.Prelude.{nat_lt, ⊤}
use Rattle.std.specs.List.{list_any, AllByRecursion}
use Rattle.std.proofs.lemmas.Bool.Decides.{nat_tests}
use Rattle.gk_document.specs.declared.tree.Document.{Document}
use Rattle.gk_document.specs.Skeleton.{skeleton}
use Rattle.gk_pickle.specs.declared.pickles.Pickle.{Pickle}
use Rattle.gk_pickle.specs.Pickles.{pickles as compiled}
use Rattle.cm_envelope.specs.declared.envelope.Envelope.{Envelope}
use Rattle.cm_envelope.specs.declared.envelope.Envelope.TheVariants as envelope
use Rattle.cm_attempt.specs.declared.status.Settings.{Settings}
use Rattle.cm_stream.specs.Readings.{Accepted}
use Rattle.cm_stream.specs.OnePass.{reads}
use Rattle.cm_stream.specs.References.{Name, PickleNamed, PickleStep, declares_it, sources, documents_of, pickles_of, as_source, as_document, as_case, as_start, as_run_hook, as_run_hook_end, is_run_started, is_run_finished, has_run_finished}
use Rattle.cm_stream.specs.ByOnePass.{fault, is_incomplete, HasNoFault}
use Rattle.cm_stream.proofs.Found.{bytes_same}
use Rattle.cm_stream.proofs.Skeletons.{same_skeletons}
use Rattle.cm_read_back.specs.Documents.{document_read, document_kept}
use Rattle.cm_read_back.specs.Pickles.{pickle_read, source_read}
use Rattle.cm_compile.specs.Compiled.{id_count}
use Rattle.cm_compiled_good.proofs.Fine.{below, PickleFine}
use Rattle.cm_compiled_good.proofs.Front.{front, none_found, none_is, pickles_count, one_more_pickle, all_known, reading_is, pickle_next}
use Rattle.cm_compiled_good.proofs.Names.{IsOf, new_name, not_again}
use Rattle.cm_compiled_good.proofs.Numbers.{none_repeats, next_id, next_later, next_push}
use Rattle.cm_compiled_good.proofs.Written.{pickle_envelopes, run_started, run_finished, run_envelopes, expected}

-- ---- line by line

-- no line of the rest has a fault after those before it
abbrev pub Faultless : (settings : Settings) (before rest : List Envelope) → Type 0
Faultless settings before [] = ⊤
Faultless settings before (e ∷ rest) = (fault settings before e ≡ None) × Faultless settings (before ++ e ∷ []) rest

pub each_line : (settings : Settings) (before rest : List Envelope) → Faultless settings before rest → (b : List Envelope) (e : Envelope) (a : List Envelope) → rest ≡ b ++ e ∷ a → fault settings (before ++ b) e ≡ None
each_line settings before [] h [] e a cut = cc
each_line settings before [] h (x ∷ b) e a cut = cc
each_line settings before (x ∷ rest) h [] e a cut =
    let same : x ≡ e = cc in
    ap (λ bs. fault settings bs e) (append-nil before) ∙ ap (fault settings before) (sym same) ∙ h.0
each_line settings before (x ∷ rest) h (y ∷ b) e a cut =
    let same : x ≡ y = cc in
    let more : rest ≡ b ++ e ∷ a = cc in
    ap (λ bs. fault settings bs e) (ap (λ z. before ++ z ∷ b) (sym same) ∙ sym (append_assoc before (x ∷ []) b)) ∙ each_line settings (before ++ x ∷ []) rest h.1 b e a more

-- ---- what is known of the text and its document

pub record Known (uri text : List ℕ) (d : Document) : Type 0 where
  pub read : reads text ≡ Accepted d
  pub same : skeleton (document_kept d) ≡ skeleton d
  pub small : next_id d.nodes (compiled d) < 18446744073709551616
  pub fine : AllByRecursion (PickleFine (below d.nodes)) (compiled d)

-- ---- the source and the document

source_passes : (settings : Settings) (uri text : List ℕ) (d : Document) → Known uri text d → fault settings [] (envelope.Source (source_read uri text)) ≡ None
source_passes settings uri text d k = rw k.read refl

document_passes : (settings : Settings) (uri text : List ℕ) (d : Document) → Known uri text d → fault settings (envelope.Source (source_read uri text) ∷ []) (envelope.GherkinDocument (document_read uri d)) ≡ None
document_passes settings uri text d k =
    let few : d.nodes ≤ 18446744073709551616 = omega (arith, k.small, next_later d.nodes (compiled d)) in
    rw (reading_is uri text d [] k.read, bytes_same uri, same_skeletons (document_kept d) d k.same, none_repeats 0 d.nodes (omega arith)) refl

-- ---- pickles

new_there : (uri text : List ℕ) (d : Document) (done : List Pickle) (m : ℕ) → next_id d.nodes done ≤ m → m < 18446744073709551616 → (name : Name) → IsOf (decimal m) name
    → list_any (declares_it name) (front uri text d done []) ≡ false
new_there uri text d done m later small (PickleNamed a) h =
    rw (append-nil (pickle_envelopes uri d.nodes done), new_name uri m d.nodes done (PickleNamed a) h later small) refl
new_there uri text d done m later small (PickleStep a i) h =
    rw (append-nil (pickle_envelopes uri d.nodes done), new_name uri m d.nodes done (PickleStep a i) h later small) refl
new_there uri text d done m later small _ h = absurd h

not_finished : (uri text : List ℕ) (d : Document) (done : List Pickle) → has_run_finished (front uri text d done []) ≡ false
not_finished uri text d done = none_is is_run_finished (λ p. refl) uri d.nodes done []

pickle_passes : (settings : Settings) (uri text : List ℕ) (d : Document) (done rest : List Pickle) (p : Pickle) → Known uri text d → compiled d ≡ done ++ p ∷ rest → PickleFine (below d.nodes) p
    → next_id d.nodes done + length p.steps < 18446744073709551616
    → fault settings (front uri text d done []) (envelope.Pickle (pickle_read uri (next_id d.nodes done) p)) ≡ None
pickle_passes settings uri text d done rest p k cut fine small =
    let first = next_id d.nodes done in
    let again = not_again uri first p (front uri text d done []) (omega arith) (new_there uri text d done (first + length p.steps) (omega arith) small) in
    rw (not_finished uri text d done, all_known uri text d done [] first p, pickle_next uri text d done rest p first k.read cut fine, again) refl

-- ---- the run

started_passes : (settings : Settings) (uri text : List ℕ) (d : Document) (done : List Pickle) → fault settings (front uri text d done []) run_started ≡ None
started_passes settings uri text d done = rw (none_is is_run_finished (λ p. refl) uri d.nodes done [], none_is is_run_started (λ p. refl) uri d.nodes done []) refl

no_less : (m n : ℕ) → m ≡ n → nat_lt m n ≡ false
no_less m n e = grind (arith, nat_tests, e)

complete : (uri text : List ℕ) (d : Document) → reads text ≡ Accepted d → list_any (is_incomplete (front uri text d (compiled d) (run_started ∷ []))) (sources (front uri text d (compiled d) (run_started ∷ []))) ≡ false
complete uri text d read =
    let before = front uri text d (compiled d) (run_started ∷ []) in
    let documents : documents_of uri before ≡ document_read uri d ∷ [] = rw (bytes_same uri, none_found as_document (λ p. refl) uri d.nodes (compiled d) (run_started ∷ [])) refl in
    let many : length (pickles_of uri before) ≡ length (compiled d) = omega (arith, pickles_count uri d.nodes (compiled d) (run_started ∷ [])) in
    let enough : nat_lt (length (pickles_of uri before)) (length (compiled d)) ≡ false = no_less _ _ many in
    rw (none_found as_source (λ p. refl) uri d.nodes (compiled d) (run_started ∷ []), read, documents, enough) refl

finished_passes : (settings : Settings) (uri text : List ℕ) (d : Document) → reads text ≡ Accepted d → fault settings (front uri text d (compiled d) (run_started ∷ [])) run_finished ≡ None
finished_passes settings uri text d read =
    let tail = run_started ∷ [] in
    let ps = compiled d in
    rw (
      complete uri text d read,
      none_is is_run_finished (λ p. refl) uri d.nodes ps tail,
      none_is is_run_started (λ p. refl) uri d.nodes ps tail,
      none_found as_start (λ p. refl) uri d.nodes ps tail,
      none_found as_run_hook (λ p. refl) uri d.nodes ps tail,
      none_found as_run_hook_end (λ p. refl) uri d.nodes ps tail,
      none_found as_case (λ p. refl) uri d.nodes ps tail,
      none_found as_source (λ p. refl) uri d.nodes ps tail,
      read,
    ) refl

-- ---- the whole

next_joined : (id : ℕ) (ps qs : List Pickle) → next_id id (ps ++ qs) ≡ next_id (next_id id ps) qs
next_joined id [] qs = refl
next_joined id (p ∷ ps) qs = next_joined (id + id_count p) ps qs

last_in : (uri text : List ℕ) (d : Document) (done : List Pickle) (e : Envelope) → front uri text d done [] ++ e ∷ [] ≡ front uri text d done (e ∷ [])
last_in uri text d done e =
    let ps = pickle_envelopes uri d.nodes done in
    ap (λ z. envelope.Source (source_read uri text) ∷ envelope.GherkinDocument (document_read uri d) ∷ z) (append_assoc ps [] (e ∷ []))

pickle_in : (uri text : List ℕ) (d : Document) (done : List Pickle) (p : Pickle)
    → front uri text d done [] ++ envelope.Pickle (pickle_read uri (next_id d.nodes done) p) ∷ [] ≡ front uri text d (done ++ p ∷ []) []
pickle_in uri text d done p =
    let e = envelope.Pickle (pickle_read uri (next_id d.nodes done) p) in
    last_in uri text d done e
    ∙ ap (λ z. envelope.Source (source_read uri text) ∷ envelope.GherkinDocument (document_read uri d) ∷ z)
    (sym (one_more_pickle uri d.nodes done p) ∙ sym (append-nil (pickle_envelopes uri d.nodes (done ++ p ∷ []))))

rest_passes : (settings : Settings) (uri text : List ℕ) (d : Document) → Known uri text d → (done rest : List Pickle) → compiled d ≡ done ++ rest → AllByRecursion (PickleFine (below d.nodes)) rest
    → Faultless settings (front uri text d done []) (pickle_envelopes uri (next_id d.nodes done) rest ++ run_envelopes)
rest_passes settings uri text d k done [] cut fine =
    let all : compiled d ≡ done = cut ∙ append-nil done in
    let finished : fault settings (front uri text d done (run_started ∷ [])) run_finished ≡ None = subst (λ ps. fault settings (front uri text d ps (run_started ∷ [])) run_finished ≡ None) all (finished_passes settings uri text d k.read) in
    (started_passes settings uri text d done, (ap (λ b. fault settings b run_finished) (last_in uri text d done run_started) ∙ finished, tt))
rest_passes settings uri text d k done (p ∷ rest) cut fine =
    let first = next_id d.nodes done in
    let joined : next_id d.nodes (compiled d) ≡ next_id (first + id_count p) rest = ap (next_id d.nodes) cut ∙ next_joined d.nodes done (p ∷ rest) in
    let small : first + length p.steps < 18446744073709551616 = omega (arith, joined, next_later (first + id_count p) rest, k.small) in
    let later = rest_passes settings uri text d k (done ++ p ∷ []) rest (cut ∙ sym (append_assoc done (p ∷ []) rest)) fine.1 in
    let here : Faultless settings (front uri text d (done ++ p ∷ []) []) (pickle_envelopes uri (first + id_count p) rest ++ run_envelopes) =
    subst (λ i. Faultless settings (front uri text d (done ++ p ∷ []) []) (pickle_envelopes uri i rest ++ run_envelopes)) (next_push d.nodes done p) later in (
      pickle_passes settings uri text d done rest p k cut fine.0 small,
      subst (λ b. Faultless settings b (pickle_envelopes uri (first + id_count p) rest ++ run_envelopes)) (sym (pickle_in uri text d done p)) here,
    )

all_pass : (settings : Settings) (uri text : List ℕ) (d : Document) → Known uri text d → Faultless settings [] (expected uri text d)
all_pass settings uri text d k = (source_passes settings uri text d k, (document_passes settings uri text d k, rest_passes settings uri text d k [] (compiled d) refl k.fine))

pub none_faulty : (settings : Settings) (uri text : List ℕ) (d : Document) → Known uri text d → HasNoFault settings (expected uri text d)
none_faulty settings uri text d k = record {
  lines = λ b e a cut. each_line settings [] (expected uri text d) (all_pass settings uri text d k) b e a cut;
  end = rw (none_is is_run_finished (λ p. refl) uri d.nodes (compiled d) run_envelopes) refl;
}
