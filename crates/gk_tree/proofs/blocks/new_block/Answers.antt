use Rattle.gk_tree.proofs.blocks.new_block.Goals as goal

pub returns : goal.returns
returns c =
    rw (
      c.location.ensures,
      c.in_ok-keyword.ensures,
      c.in_ok-name.ensures,
      c.from.ensures,
      c.new.ensures.bytes,
      c.empty_body.ensures,
    )
