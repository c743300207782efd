use Rattle.std.proofs.Common.{◌∙◌, ap, Global, String, map, ◌++◌, ◌∷◌, [], List, ℕ}
use Rattle.std.specs.String.{string_bytes}
use Rattle.cm_attempt.specs.Table.{has_text}
use Rattle.cm_release.proofs.KeptLemmas.{id_added}
use Rattle.cm_release.proofs.tally.add_id.Goals as goal

pub returns : goal.returns
returns c text =
    ap (λ (ks : List (String Global)). has_text text (map string_bytes ks)) c.in_ok-insert.ensures.keys
    ∙ id_added c.args.ids.now.keys c.in_ok-owned.owned text
    ∙ ap (λ (b : List ℕ). has_text text (map string_bytes c.args.ids.now.keys ++ b ∷ [])) (c.in_ok-owned.ensures.ok ∙ c.as_str.ensures)
