use Rattle.std.proofs.Common.{◌∙◌, sym, ap, arith, Ok, Result, List, ℕ}
use Rattle.gk_line.specs.Tags.{spaced_piece, tags_of}
use Rattle.gk_line.specs.Views.{line_chars}
use Rattle.gk_grammar.specs.Token as read
use Rattle.gk_tree.proofs.TokenLemmas.{words_bound, words_same, no_space}
use Rattle.gk_tree.proofs.line_tokens.tag_token.Goals as goal

pub invariant_of-result : goal.invariant_of-result
invariant_of-result c =
    let bound = words_bound c.args.line.text.now c.in-Ok.words.items c.in-Ok.ensures.value in
    record { few = omega (arith, c.in-Ok.words.ok.0, bound, c.requires.short) }

pub returns-in-Ok : goal.returns-in-Ok
returns-in-Ok c =
    ap (λ (z : Result (List read.TagText) ℕ). read.Tags z)
    (ap (λ (z : List read.TagText). Ok z) (words_same c.in-Ok.words.items (tags_of (line_chars c.args.line)) c.in-Ok.ensures.value)
    ∙ sym (no_space (spaced_piece (line_chars c.args.line)) (tags_of (line_chars c.args.line)) c.in-Ok.ensures.plain))
