use Rattle.std.proofs.Common.{◌≡◌, ◌∙◌, ap, sym, refl, ◌++◌, ◌-◌, List, ℕ, append-nil, arith, length, string_bytes, take}
use Rattle.cm_reasons.specs.Lines.{text_of_lines, more_text}
use Rattle.cm_missing.specs.Missing.{lines_of}
use Rattle.cm_missing.proofs.missing.Missing.add_lines.Goals as goal

pub returns-else-self-gt-MOST_LINES : goal.returns-else-self-gt-MOST_LINES
returns-else-self-gt-MOST_LINES c asked files m =
    let lines = lines_of asked m.reads in
    let shown = text_of_lines (take 100 lines) in
    let none : length lines - 100 ≡ 0 = omega (arith, m.count, c.if-self-gt-MOST_LINES.false) in (
      lines,
      (m.reads, m.are_read, refl),
      c.in_ok-push_str.ensures.bytes
          ∙ ap (λ (t : List ℕ). string_bytes c.args.text.now ++ t)
          (c.as_str.ensures.value ∙ m.text ∙ sym (append-nil shown) ∙ ap (λ n. shown ++ more_text n) (sym none)),
    )
