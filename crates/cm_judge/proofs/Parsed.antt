-- What the parser answers of a text, as what the text is read as.
use Rattle.std.proofs.Common.{◌≡◌, ap, subst, Result, Ok, Err}
use Rattle.std.specs.Prelude.{◌↔◌, ◌≢◌}
use Rattle.gk_document.specs.declared.tree.Document.{Document}
use Rattle.gk_grammar.specs.declared.fault.FaultKind.TheVariants as kind
use Rattle.gk_grammar.specs.Documents.{IsDocumentOf, HasFault, IsTooLong}
use Rattle.gk_tree.specs.declared.fault.ParseFault.{ParseFault}
use Rattle.gk_tree.specs.Views.{too_long}
use Rattle.cm_stream.specs.Texts.{Utf8}
use Rattle.cm_stream.specs.Readings.{Accepted, Refused, OtherLanguage, TooLong}
use Rattle.cm_stream.specs.OnePass.{reads}
use Rattle.cm_stream.proofs.OnePass.{reads_it}

module _ (text : Utf8) (r : Result Document ParseFault) (limits : (r ≡ Err too_long) ↔ IsTooLong text) where
  pub accepted : (d : Document) → r ≡ Ok d → IsDocumentOf text d → reads text ≡ Accepted d
  accepted d is doc = reads_it text (Accepted d) ((λ long. let h : r ≡ Err too_long = limits.1 long in cc), doc)

  module _ (f : ParseFault) (is : r ≡ Err f) where
    pub beyond : f ≡ too_long → reads text ≡ TooLong
    beyond e = let h : r ≡ Err too_long = cc in reads_it text TooLong (limits.0 h)

    within : f.kind ≢ kind.TooLong → IsTooLong text → ⊥
    within other long = other (ap (λ (x : ParseFault). x.kind) (same (limits.1 long)))
      where
        same : r ≡ Err too_long → f ≡ too_long
        same h = cc

    module _ (fault : f.kind ≢ kind.Memory → f.kind ≢ kind.TooLong → HasFault text f.kind f.line f.column) where
      pub other_language : f.kind ≡ kind.UnsupportedLanguage → reads text ≡ OtherLanguage
      other_language e =
          let here : HasFault text f.kind f.line f.column = fault (λ h. cc) (λ h. cc) in
          reads_it text OtherLanguage (
            within (λ h. cc),
            record {
              line = f.line;
              column = f.column;
              fault = subst (λ k. HasFault text k f.line f.column) e here;
            },
          )

      pub refused : f.kind ≢ kind.UnsupportedLanguage → f.kind ≢ kind.TooLong → f.kind ≢ kind.Memory → reads text ≡ Refused
      refused language long memory = reads_it text Refused (
        within long,
        record {
          kind = f.kind;
          line = f.line;
          column = f.column;
          fault = fault memory long;
          other = language;
        },
      )
