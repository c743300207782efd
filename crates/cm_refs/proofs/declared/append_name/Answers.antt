use Rattle.std.proofs.Common.{ap, map, ◌∙◌}
use Rattle.kept_texts.specs.Kept.{bytes_of}
use Rattle.cm_refs.proofs.RepeatLemmas.{appended_text}
use Rattle.cm_refs.proofs.declared.append_name.Goals as goal

pub returns-clause-ok : goal.returns-clause-ok
returns-clause-ok c =
    ap (map bytes_of) c.in_ok-insert.ensures.keys
    ∙ appended_text c.args.names.now.keys c.in_ok-owned.owned c.args.name.now c.in_ok-owned.ensures c.requires
