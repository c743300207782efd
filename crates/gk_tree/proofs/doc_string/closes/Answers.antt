use Rattle.std.proofs.Common.{sym, rules}
use Rattle.gk_line.specs.Views.{line_chars, fence_text}
use Rattle.gk_tree.proofs.FenceLemmas.{fence_found, fence_missed}
use Rattle.gk_tree.proofs.doc_string.closes.Goals as goal

pub returns-in-None : goal.returns-in-None
returns-in-None c =
    sym (fence_missed (line_chars c.args.at.line) c.args.opened c.args.at.line.number (sym c.in-None.ensures.value))

pub returns-in-Some : goal.returns-in-Some
returns-in-Some c =
    let found = fence_found (line_chars c.args.at.line) (fence_text c.in-Some.line) (sym c.in-Some.ensures.value) in
    rw found (search rules)
