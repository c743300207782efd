-- The stream of a feature with one scenario is within the limits, and so it is good, with its one pickle.
use lib.Utf8.{encode}
use Rattle.std.proofs.Common.{◌≡◌, None, codes, refl, subst}
use Rattle.std.specs.Fmt.{digits}
use Rattle.std.specs.Str.{chars}
use Rattle.json.specs.Print.{escape_byte}
use Rattle.json.proofs.Printed.Utf8.{IsUtf8-are_ascii}
use Rattle.gk_document.specs.declared.tree.Document.{Document}
use Rattle.gk_line.specs.Lines.{lines_of, numbered_lines, without_mark}
use Rattle.gk_line.specs.Texts.{after, text_after_indent, first_some, trimmed_text}
use Rattle.gk_line.specs.Tokens.{begins_by, fence_of, indent_of, is_blank_line, language_of, step_of, title_of}
use Rattle.gk_grammar.specs.Token.{token_of}
use Rattle.gk_grammar.specs.Documents.{lines_read}
use Rattle.cm_messages.specs.SourceLayout.{source_data}
use Rattle.cm_messages.specs.DocumentLayout.{document_data}
use Rattle.cm_messages.specs.PickleLayout.{pickle_data}
use Rattle.gk_pickle.specs.Pickles.{pickles}
use Rattle.cm_attempt.specs.declared.status.Policy.TheVariants.{Strict}
use Rattle.cm_stream.specs.OnePass.{reads}
use Rattle.cm_stream.specs.Readings.{Accepted, IsReading}
use Rattle.cm_stream.specs.Stream.{feed_of, IsGoodStream}
use Rattle.cm_stream.proofs.OnePass.{is_read}
use Rattle.cm_stream.proofs.Streaming.{by, one_step, document_in}
use Rattle.cm_compiled_good.specs.Law.{stream_of, counts_for}
use Rattle.cm_compiled_good.proofs.Law.{compiled_are_good}

abbrev the_document : Document
the_document = document_in (reads one_step)

accepted : reads one_step ≡ Accepted the_document
unfolding reads lines_read lines_of numbered_lines without_mark chars after text_after_indent first_some trimmed_text begins_by fence_of indent_of is_blank_line language_of step_of title_of token_of encode
accepted = refl

fits : (feed_of (stream_of (codes "a") one_step the_document)).trouble ≡ None
unfolding reads lines_read lines_of numbered_lines without_mark chars after text_after_indent first_some trimmed_text begins_by fence_of indent_of is_blank_line language_of step_of title_of token_of encode pickles source_data document_data pickle_data escape_byte digits
fits = refl

one_pickle : counts_for the_document ≡ record { sources = 1; pickles = 1; cases = 0; attempts = 0; unrun = 1 }
unfolding reads lines_read lines_of numbered_lines without_mark chars after text_after_indent first_some trimmed_text begins_by fence_of indent_of is_blank_line language_of step_of title_of token_of encode pickles
one_pickle = refl

pub one_is_good : IsGoodStream (by Strict 0) (stream_of (codes "a") one_step the_document) (record { sources = 1; pickles = 1; cases = 0; attempts = 0; unrun = 1 })
one_is_good =
    let reading : IsReading one_step (Accepted the_document) = subst (IsReading one_step) accepted (is_read one_step) in
    subst (IsGoodStream (by Strict 0) (stream_of (codes "a") one_step the_document)) one_pickle
    (compiled_are_good (by Strict 0) (codes "a") one_step the_document (IsUtf8-are_ascii _ refl) (IsUtf8-are_ascii _ refl) reading.1 reading.0 fits)
