-- Lists without a fault, by a test.
use Rattle.std.proofs.Common.{◌≡◌, refl, sym, ap, ◌∙◌, List, [], ◌∷◌, ◌++◌, Option, Some, None, true, false, Bool, append_assoc, append-nil, ◌&&◌}
use Rattle.std.proofs.lemmas.Bool.{and_parts}
use Rattle.cm_stream.specs.Findings.{Finding}
use Rattle.cm_envelope.specs.declared.envelope.Envelope.{Envelope}

abbrev is_none : Option Finding → Bool
is_none None = true
is_none (Some f) = false

none_is : (o : Option Finding) → is_none o ≡ true → o ≡ None
none_is None h = refl
none_is (Some f) h = cc

-- by what is found at a line after those before it
module _ (found : List Envelope → Envelope → Option Finding) where
  abbrev pub is_faultless : List Envelope → List Envelope → Bool
  is_faultless before [] = true
  is_faultless before (e ∷ rest) = is_none (found before e) && is_faultless (before ++ e ∷ []) rest

  each_line : (before rest : List Envelope) → is_faultless before rest ≡ true → (b : List Envelope) (e : Envelope) (a : List Envelope) → rest ≡ b ++ e ∷ a → found (before ++ b) e ≡ None
  each_line before [] h [] e a cut = cc
  each_line before [] h (x ∷ b) e a cut = cc
  each_line before (x ∷ rest) h [] e a cut =
      let k = and_parts (is_none (found before x)) (is_faultless (before ++ x ∷ []) rest) h in
      let same : x ≡ e = cc in
      ap (λ bs. found bs e) (append-nil before) ∙ ap (found before) (sym same) ∙ none_is (found before x) k.0
  each_line before (x ∷ rest) h (y ∷ b) e a cut =
      let k = and_parts (is_none (found before x)) (is_faultless (before ++ x ∷ []) rest) h in
      let same : x ≡ y = cc in
      let more : rest ≡ b ++ e ∷ a = cc in
      ap (λ bs. found bs e) (ap (λ z. before ++ z ∷ b) (sym same) ∙ sym (append_assoc before (x ∷ []) b)) ∙ each_line (before ++ x ∷ []) rest k.1 b e a more

  -- no line has a fault where the test finds none
  pub none_at : (es : List Envelope) → is_faultless [] es ≡ true → (before : List Envelope) (e : Envelope) (after : List Envelope) → es ≡ before ++ e ∷ after → found before e ≡ None
  none_at es h before e after cut = each_line [] es h before e after cut
