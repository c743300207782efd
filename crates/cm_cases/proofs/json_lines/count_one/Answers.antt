use Rattle.std.proofs.Common.{◌+◌, ap, ℕ}
use Rattle.cm_cases.proofs.JsonLemmas.{one_counted}
use Rattle.cm_cases.proofs.json_lines.count_one.Goals as goal

pub returns : goal.returns
returns c =
    one_counted c.args.counts.now c.insert.new.self c.args.text.now (c.count_of-count.result + 1) (ap (λ (n : ℕ). n + 1) c.count_of-count.ensures) c.in_ok-insert.ensures.updates.0
