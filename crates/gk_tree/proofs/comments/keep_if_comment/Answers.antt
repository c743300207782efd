use Rattle.std.proofs.Common.{◌≡◌, ◌∙◌, sym, ap, subst, List, true, false, ◌++◌, [], ◌∷◌, refl, append-nil}
use Rattle.std.specs.Prelude.{OnOk}
use Rattle.gk_document.specs.declared.tree.Comment.{Comment}
use Rattle.gk_grammar.specs.Token.{Line, is_comment}
use Rattle.gk_grammar.specs.Grammar.{comments_of, comment_of}
use Rattle.gk_line.specs.Views.{line_chars}
use Rattle.gk_tree.specs.Views.{line_at}
use Rattle.gk_tree.proofs.comments.keep_if_comment.Goals as goal

kept : (l : Line) → is_comment l ≡ true → comments_of (l ∷ []) ≡ comment_of l ∷ []
kept l e = rw e refl

passed : (l : Line) → is_comment l ≡ false → comments_of (l ∷ []) ≡ []
passed l e = rw e refl

pub returns-then-not-is_comment_token : goal.returns-then-not-is_comment_token
returns-then-not-is_comment_token c =
    let at = c.args.at in
    let l = line_at at c.args.token.now in
    let same = c.is_comment_token.ensures at.line.number (line_chars at.line) at.indent in
    let p = c.args.progress.now in
    ap (λ (z : List Comment). record { comments = z; nodes = p.nodes; flat_blocks = p.flat_blocks })
    (sym (append-nil p.comments) ∙ ap (λ (z : List Comment). p.comments ++ z) (sym (passed l (sym same ∙ c.if-not-is_comment_token.true))))

pub returns : goal.returns
returns c =
    let at = c.args.at in
    let l = line_at at c.args.token.now in
    let same = c.is_comment_token.ensures at.line.number (line_chars at.line) at.indent in
    let p = c.args.progress.now in
    subst (λ (z : List Comment). OnOk c.keep_comment.result (c.keep_comment.new.progress ≡ record { comments = p.comments ++ z; nodes = p.nodes; flat_blocks = p.flat_blocks }))
    (sym (kept l (sym same ∙ c.if-not-is_comment_token.false)))
    c.keep_comment.ensures
