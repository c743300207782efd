-- Some streams are good.
use lib.Utf8.{encode}
use Rattle.std.proofs.Common.{refl}
use Rattle.std.specs.Str.{chars}
use Rattle.gk_line.specs.Lines.{lines_of, numbered_lines, without_mark}
use Rattle.gk_line.specs.Texts.{after, text_after_indent, first_some, trimmed_text}
use Rattle.gk_line.specs.Tokens.{begins_by, fence_of, indent_of, is_blank_line, language_of, step_of, title_of}
use Rattle.gk_grammar.specs.Token.{token_of}
use Rattle.gk_grammar.specs.Documents.{lines_read}
use Rattle.gk_pickle.specs.Pickles.{pickles}
use Rattle.cm_stream.specs.Skeleton.{same_skeleton}
use Rattle.cm_stream.specs.OnePass.{reads}
use Rattle.cm_stream.proofs.FaultlessGood.{faultless_are_good}
use Rattle.cm_good_streams.specs.Streams.{retried_stream, interleaved_stream, refused_beside_accepted}
use Rattle.cm_good_streams.specs.Laws.{strict, RetriedAreGood, InterleavedAreGood, RefusedAreGood}
use Rattle.cm_good_streams.proofs.Faultless.{none_at}

pub retried_are_good : RetriedAreGood
unfolding reads lines_read lines_of numbered_lines without_mark chars after text_after_indent first_some trimmed_text begins_by fence_of indent_of is_blank_line language_of step_of title_of token_of pickles same_skeleton encode
retried_are_good = faultless_are_good strict retried_stream (record { lines = none_at _ retried_stream refl; end = refl })

pub interleaved_are_good : InterleavedAreGood
unfolding reads lines_read lines_of numbered_lines without_mark chars after text_after_indent first_some trimmed_text begins_by fence_of indent_of is_blank_line language_of step_of title_of token_of pickles same_skeleton encode
interleaved_are_good = faultless_are_good strict interleaved_stream (record { lines = none_at _ interleaved_stream refl; end = refl })

pub refused_are_good : RefusedAreGood
unfolding reads lines_read lines_of numbered_lines without_mark chars after text_after_indent first_some trimmed_text begins_by fence_of indent_of is_blank_line language_of step_of title_of token_of pickles same_skeleton encode
refused_are_good = faultless_are_good strict refused_beside_accepted (record { lines = none_at _ refused_beside_accepted refl; end = refl })
