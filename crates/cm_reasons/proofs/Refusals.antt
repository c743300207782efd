-- Which sources are refused, and their lines.
use Rattle.std.proofs.Common.{◌≡◌, ◌∙◌, ap, subst, sym, refl, inl, inr, List, [], ◌∷◌, ◌++◌, ℕ, ◌+◌, ◌<◌, get_or, length, map, take, Option, None, Some, Result, Ok, Err}
use Rattle.std.proofs.lemmas.List.{map-append, take_more}
use Rattle.std.specs.Prelude.{◌↔◌, ◌≢◌, find, option_map}
use Rattle.std.specs.Str.{bytes_eq}
use Rattle.cm_envelope.specs.declared.envelope.Source.{Source}
use Rattle.cm_stream.proofs.Lists.{find_map}
use Rattle.cm_stream.proofs.OnePass.{one_reading}
use Rattle.cm_stream.specs.Readings.{Accepted, IsReading, OtherLanguage, Reading, Refused, TooLong}
use Rattle.cm_stream.specs.References.{if_any}
use Rattle.cm_stream.specs.Texts.{Utf8}
use Rattle.gk_document.specs.declared.tree.Document.{Document}
use Rattle.gk_grammar.specs.declared.fault.FaultKind.TheVariants as kind
use Rattle.gk_grammar.specs.Documents.{HasFault, IsDocumentOf, IsTooLong}
use Rattle.gk_tree.specs.Views.{too_long}
use Rattle.gk_tree.specs.declared.fault.ParseFault.{ParseFault}
use Rattle.cm_reasons.specs.Run.{source_entry}
use Rattle.cm_reasons.specs.RunKept.{AreEntryLines, IsRefusalOf, fault_line, refused_source_line}
use Rattle.cm_reasons.specs.RunReasons.{AreRefusedLines}
use Rattle.cm_reasons.specs.declared.refused.RefusedSource.{RefusedSource}
use Rattle.cm_reasons.specs.declared.run_listing.SourceEntry.{SourceEntry}

-- ---- what the parser answers of a text

not_refused : (text : Utf8) (r : Reading) → IsReading text r → (Refused ≡ r → ⊥) → IsReading text Refused → ⊥
not_refused text r is other refused = other (one_reading text Refused r refused is)

module _ (text : Utf8) (r : Result Document ParseFault) (limits : (r ≡ Err too_long) ↔ IsTooLong text) where
  pub accepted : (d : Document) → r ≡ Ok d → IsDocumentOf text d → IsReading text Refused → ⊥
  accepted d is doc = not_refused text (Accepted d) ((λ long. let h : r ≡ Err too_long = limits.1 long in cc), doc) (λ e. cc)

  module _ (f : ParseFault) (is : r ≡ Err f) where
    pub beyond : f ≡ too_long → IsReading text Refused → ⊥
    beyond e = let h : r ≡ Err too_long = cc in not_refused text TooLong (limits.0 h) (λ k. cc)

    within : f.kind ≢ kind.TooLong → IsTooLong text → ⊥
    within other long = other (ap (λ (x : ParseFault). x.kind) (same (limits.1 long)))
      where
        same : r ≡ Err too_long → f ≡ too_long
        same h = cc

    module _ (fault : f.kind ≢ kind.Memory → f.kind ≢ kind.TooLong → HasFault text f.kind f.line f.column) where
      pub other_language : f.kind ≡ kind.UnsupportedLanguage → IsReading text Refused → ⊥
      other_language e =
          let here : HasFault text f.kind f.line f.column = fault (λ h. cc) (λ h. cc) in
          not_refused text OtherLanguage
          (within (λ h. cc), record { line = f.line; column = f.column; fault = subst (λ k. HasFault text k f.line f.column) e here })
          (λ k. cc)

      pub refused : f.kind ≢ kind.UnsupportedLanguage → f.kind ≢ kind.TooLong → f.kind ≢ kind.Memory → IsRefusalOf text (Some f)
      refused language long memory = (within long, fault memory long, language)

-- ---- the lines of one source more

abbrev push_line : List (List ℕ) → List ℕ → List (List ℕ)
push_line lines line = lines ++ line ∷ []

one_refused : (xs : List SourceEntry) (s : SourceEntry) (f : ParseFault) (lines : List (List ℕ)) → IsRefusalOf s.content (Some f) → AreEntryLines xs lines → AreEntryLines (xs ++ s ∷ []) (lines ++ fault_line s.uri f ∷ [])
one_refused [] s f lines is all = inl (f, is, [], ap (λ (ls : List (List ℕ)). ls ++ fault_line s.uri f ∷ []) all, refl)
one_refused (x ∷ xs) s f lines is (inl (g, was, rest, e, more)) =
    inl (g, was, rest ++ fault_line s.uri f ∷ [], ap (λ (ls : List (List ℕ)). ls ++ fault_line s.uri f ∷ []) e, one_refused xs s f rest is more)
one_refused (x ∷ xs) s f lines is (inr (good, more)) = inr (good, one_refused xs s f lines is more)

none_refused : (xs : List SourceEntry) (s : SourceEntry) (lines : List (List ℕ)) → IsRefusalOf s.content None → AreEntryLines xs lines → AreEntryLines (xs ++ s ∷ []) lines
none_refused [] s lines fine all = inr (fine, all)
none_refused (x ∷ xs) s lines fine (inl (g, was, rest, e, more)) = inl (g, was, rest, e, none_refused xs s rest fine more)
none_refused (x ∷ xs) s lines fine (inr (good, more)) = inr (good, none_refused xs s lines fine more)

one_more : {X : Type 0} (xs : List X) (i : ℕ) (x : X) → i < length xs → x ≡ get_or xs i x → take i xs ++ x ∷ [] ≡ take (i + 1) xs
one_more xs i x l at = sym (take_more xs i x l ∙ ap (λ y. take i xs ++ y ∷ []) (sym at))

module _ (xs : List SourceEntry) (i : ℕ) (x : SourceEntry) (text : Utf8) (o : Option ParseFault) (old : List RefusedSource) (l : i < length xs) (at : x ≡ get_or xs i x) (is : text ≡ x.content) (refusal : IsRefusalOf text o)
    (so_far : AreEntryLines (take i xs) (map refused_source_line old)) where
  pub refused_one : (f : ParseFault) (new : List RefusedSource) (r : RefusedSource) → o ≡ Some f → new ≡ old ++ r ∷ [] → refused_source_line r ≡ fault_line x.uri f → AreEntryLines (take (i + 1) xs) (map refused_source_line new)
  refused_one f new r some n line =
      let this : IsRefusalOf x.content (Some f) = subst (λ t. IsRefusalOf t (Some f)) is (subst (λ q. IsRefusalOf text q) some refusal) in
      let lines : map refused_source_line new ≡ map refused_source_line old ++ fault_line x.uri f ∷ [] = ap (map refused_source_line) n ∙ map-append refused_source_line old (r ∷ []) ∙ ap (push_line (map refused_source_line old)) line in
      subst (λ ys. AreEntryLines ys (map refused_source_line new)) (one_more xs i x l at)
      (subst (λ ls. AreEntryLines (take i xs ++ x ∷ []) ls) (sym lines) (one_refused (take i xs) x f (map refused_source_line old) this so_far))

  pub refused_none : o ≡ None → AreEntryLines (take (i + 1) xs) (map refused_source_line old)
  refused_none none =
      let this : IsRefusalOf x.content None = subst (λ t. IsRefusalOf t None) is (subst (λ q. IsRefusalOf text q) none refusal) in
      subst (λ ys. AreEntryLines ys (map refused_source_line old)) (one_more xs i x l at) (none_refused (take i xs) x (map refused_source_line old) this so_far)

-- ---- the lines of the sources, by those of what is kept of them

pub told : (ss : List Source) (lines : List (List ℕ)) → AreEntryLines (map source_entry ss) lines → AreRefusedLines ss lines
told [] lines all = all
told (s ∷ ss) lines (inl (f, (fits, fault, other), rest, e, more)) =
    inl ((fits, record { kind = f.kind; line = f.line; column = f.column; fault = fault; other = other }), rest, e, told ss rest more)
told (s ∷ ss) lines (inr (fine, more)) = inr (fine, told ss lines more)

found_lines : (o : Option Source) (p : Option SourceEntry) (lines : List (List ℕ)) → p ≡ option_map source_entry o → AreEntryLines (if_any p) lines → AreRefusedLines (if_any o) lines
found_lines None p lines e all = told [] lines (subst (λ (q : Option SourceEntry). AreEntryLines (if_any q) lines) e all)
found_lines (Some s) p lines e all = told (s ∷ []) lines (subst (λ (q : Option SourceEntry). AreEntryLines (if_any q) lines) e all)

module _ (uri : Utf8) (ss : List Source) (p : Option SourceEntry) (e : p ≡ find (λ s. bytes_eq uri s.uri) (map source_entry ss)) where
  -- those of the first source of a uri
  first_told : (lines : List (List ℕ)) → AreEntryLines (if_any p) lines → AreRefusedLines (if_any (find (λ s. bytes_eq uri s.uri) ss)) lines
  first_told lines all =
      found_lines (find (λ s. bytes_eq uri s.uri) ss) p lines (e ∙ find_map (λ (s : SourceEntry). bytes_eq uri s.uri) source_entry ss) all

  pub first_missing : p ≡ None → AreRefusedLines (if_any (find (λ s. bytes_eq uri s.uri) ss)) []
  first_missing none = first_told [] (subst (λ (q : Option SourceEntry). AreEntryLines (if_any q) []) (sym none) refl)

  module _ (s : SourceEntry) (some : p ≡ Some s) (text : Utf8) (o : Option ParseFault) (is : text ≡ s.content) (refusal : IsRefusalOf text o) where
    pub first_good : o ≡ None → AreRefusedLines (if_any (find (λ s. bytes_eq uri s.uri) ss)) []
    first_good none =
        let this : IsRefusalOf s.content None = subst (λ t. IsRefusalOf t None) is (subst (λ q. IsRefusalOf text q) none refusal) in
        first_told [] (subst (λ (q : Option SourceEntry). AreEntryLines (if_any q) []) (sym some) (inr (this, refl)))

    pub first_refused : (f : ParseFault) → o ≡ Some f → AreRefusedLines (if_any (find (λ s. bytes_eq uri s.uri) ss)) (fault_line s.uri f ∷ [])
    first_refused f found =
        let this : IsRefusalOf s.content (Some f) = subst (λ t. IsRefusalOf t (Some f)) is (subst (λ q. IsRefusalOf text q) found refusal) in
        first_told (fault_line s.uri f ∷ []) (subst (λ (q : Option SourceEntry). AreEntryLines (if_any q) (fault_line s.uri f ∷ [])) (sym some) (inl (f, this, [], refl, refl)))
