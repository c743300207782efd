use Rattle.std.proofs.Common.{◌∙◌, ap, map}
use Rattle.kept_texts.specs.Kept.{bytes_of}
use Rattle.cm_state.specs.Summary.{with_name}
use Rattle.cm_judge.proofs.Cases.{with_inserted}
use Rattle.cm_judge.proofs.state.add_name.Goals as goal

pub returns-clause-named : goal.returns-clause-named
returns-clause-named c =
    ap (map bytes_of) c.in_ok-insert.ensures.keys ∙ with_inserted c.args.named.now.keys c.from.result
    ∙ ap (with_name (map bytes_of c.args.named.now.keys)) c.from.ensures
