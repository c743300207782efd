-- What is told by the kind of the envelope and by the fault.
use Rattle.std.proofs.Common.{◌≡◌, refl, sym, subst, ℕ, List, []}
use Rattle.cm_envelope.specs.declared.envelope.Envelope.{Envelope}
use Rattle.cm_envelope.specs.declared.envelope.Envelope.TheVariants as envelope
use Rattle.cm_envelope.specs.declared.envelope.GherkinDocument.{GherkinDocument}
use Rattle.cm_envelope.specs.declared.pickle.Pickle.{Pickle}
use Rattle.cm_stream.specs.declared.laws.StreamFault.{StreamFault}
use Rattle.cm_stream.specs.declared.laws.StreamFault.TheVariants as bad
use Rattle.cm_state.specs.Summary.{Summary}
use Rattle.cm_source_reasons.specs.SourceKept.{TellsAtTree, TellsKept, lack_lines_by, lines_at_pickle}

pub no_tree : (s : Summary) (e : Envelope) → ((d : GherkinDocument) → e ≡ envelope.GherkinDocument d → ⊥) → TellsAtTree s e []
no_tree s (envelope.GherkinDocument d) none = absurd (none d refl)
no_tree s _ none = refl

pub no_pickle : (s : Summary) (es : List Envelope) (e : Envelope) → ((p : Pickle) → e ≡ envelope.Pickle p → ⊥) → lines_at_pickle s es e ≡ []
no_pickle s es (envelope.Pickle p) none = absurd (none p refl)
no_pickle s es _ none = refl

module _ (s : Summary) (es : List Envelope) (e : Envelope) (b : StreamFault) where
  pub at_tree : (lines : List ℕ) → b ≡ bad.TreeDiffers → TellsAtTree s e lines → TellsKept s es e b lines
  at_tree lines is h = subst (λ (x : StreamFault). TellsKept s es e x lines) (sym is) h

  pub at_pickle : b ≡ bad.PickleDiffers → TellsKept s es e b (lines_at_pickle s es e)
  at_pickle is = subst (λ (x : StreamFault). TellsKept s es e x (lines_at_pickle s es e)) (sym is) refl

  pub at_lack : b ≡ bad.SourceIncomplete → TellsKept s es e b (lack_lines_by s es)
  at_lack is = subst (λ (x : StreamFault). TellsKept s es e x (lack_lines_by s es)) (sym is) refl

pub no_fault : (s : Summary) (es : List Envelope) (e : Envelope) (b : StreamFault) → (b ≡ bad.TreeDiffers → ⊥) → (b ≡ bad.PickleDiffers → ⊥) → (b ≡ bad.SourceIncomplete → ⊥) → TellsKept s es e b []
no_fault s es e bad.TreeDiffers t p l = absurd (t refl)
no_fault s es e bad.PickleDiffers t p l = absurd (p refl)
no_fault s es e bad.SourceIncomplete t p l = absurd (l refl)
no_fault s es e _ t p l = refl
