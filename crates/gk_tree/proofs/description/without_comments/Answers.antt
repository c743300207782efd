use Rattle.std.proofs.Common.{◌≡◌, sym, ap, ◌∙◌, subst, arith, false, true, List, [], ◌∷◌, ◌++◌, length, ◌<◌, codes}
use Rattle.std.specs.Prelude.{map}
use Rattle.std.proofs.lemmas.List.{map-append}
use Rattle.gk_line.specs.Tokens.{begins_by}
use Rattle.gk_line.specs.Views.{line_chars}
use Rattle.gk_tree.specs.declared.token.IndentedLine.{IndentedLine}
use Rattle.gk_tree.specs.Views.{kept_line}
use Rattle.gk_tree.proofs.LineLemmas.{turn_kept, turn_left}
use Rattle.gk_tree.proofs.description.without_comments.Goals as goal
use Rattle.gk_tree.proofs.description.without_comments.Goals.{then-not-is_comment+in_ok-push, else-not-is_comment}

pub loop-line-preserved : goal.loop-line-preserved
loop-line-preserved c =
    let lines = c.args.lines.now in
    let x = c.line-item.result in
    let within : c.loop-line.line-index < length lines = omega arith in
    elim c.if-not-is_comment.branch [
      | then-not-is_comment+in_ok-push w ↦
          let no = subst (λ (z : IndentedLine). begins_by (codes "#") (line_chars z.line) ≡ false) c.line-item.is (sym c.is_comment.ensures.value ∙ w.if-not-is_comment.true) in
          ap (λ (z : List IndentedLine). map kept_line z) (ap (λ v. v.items) w.kept-is ∙ w.in_ok-push.ensures.items)
          ∙ map-append kept_line c.loop-line.kept.items (x ∷ [])
          ∙ ap (λ (z : IndentedLine). map kept_line c.loop-line.kept.items ++ kept_line z ∷ []) c.line-item.is
          ∙ turn_kept lines c.loop-line.line-index x within (map kept_line c.loop-line.kept.items) c.loop-line.invariant no
      | else-not-is_comment w ↦
          let yes = subst (λ (z : IndentedLine). begins_by (codes "#") (line_chars z.line) ≡ true) c.line-item.is (sym c.is_comment.ensures.value ∙ w.if-not-is_comment.false) in
          ap (λ v. map kept_line v.items) w.kept-is ∙ turn_left lines c.loop-line.line-index x within (map kept_line c.loop-line.kept.items) c.loop-line.invariant yes
    ]
