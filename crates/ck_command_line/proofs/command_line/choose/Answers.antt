use Rattle.std.proofs.Common.{map}
use Rattle.ck_command_line.proofs.Choosing.{chosen_none, chosen_some, helped, no_help, refused, taken}
use Rattle.ck_command_line.proofs.command_line.choose.Goals as goal

pub returns-in-Ok-chosen : goal.returns-in-Ok-chosen
returns-in-Ok-chosen c =
    let ensures = c.in-Ok-try_get_matches_from.ensures in
    record { chosen = chosen_some (map (λ w. w.now) c.args.words.now) _ c.in-Ok-chosen.choice c.in-Ok-chosen.ensures (taken _ _ _ c.in-Ok.ensures ensures.matches ensures.kinds); help = tt }

pub returns-in-Ok-try_get_matches_from : goal.returns-in-Ok-try_get_matches_from
returns-in-Ok-try_get_matches_from c =
    let ensures = c.in-Ok-try_get_matches_from.ensures in
    record {
      chosen = chosen_none (map (λ w. w.now) c.args.words.now) _ c.in-Err-chosen.why c.wrong_values.result c.in-Err-chosen.ensures c.wrong_values.ensures.memory (taken _ _ _ c.in-Ok.ensures ensures.matches ensures.kinds);
      help = no_help (map (λ w. w.now) c.args.words.now) _ c.wrong_values.ensures.no_help;
    }

pub returns : goal.returns
returns c = record { chosen = refused _ (map (λ w. w.now) c.args.words.now) c.in-Err.error _ c.in-Ok.ensures c.in-Err.ensures.kinds c.refusal_of.ensures.memory; help = helped _ (map (λ w. w.now) c.args.words.now) c.in-Err.error _ c.in-Ok.ensures c.in-Err.ensures.kinds c.refusal_of.ensures.memory c.refusal_of.ensures.help }
