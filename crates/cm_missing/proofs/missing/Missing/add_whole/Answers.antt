use Rattle.std.proofs.Common.{ap, ℕ}
use Rattle.cm_missing.specs.declared.missing.Missing.{Missing}
use Rattle.cm_missing.proofs.RanLemmas.{whole_added}
use Rattle.cm_missing.proofs.missing.Missing.add_whole.Goals as goal

pub returns-clause-ok : goal.returns-clause-ok
returns-clause-ok c asked files f a m =
    let counted : ℕ → Missing = λ n. record c.args.self.now { scenarios = n } in
    whole_added asked files f c.args.scenarios c.args.self.now _ (ap counted c.in_ok-self.ensures) a m
