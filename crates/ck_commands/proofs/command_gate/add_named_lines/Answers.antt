use Rattle.std.proofs.Common.{◌∙◌, ◌++◌, [], Bool, List, ap, append_assoc, sym, true, string_bytes, ℕ}
use Rattle.std.specs.Char.{encode_utf8}
use Rattle.std.specs.Prelude.{if◌then◌else◌}
use Rattle.std.proofs.lemmas.Iterator.{YieldsList-from_chars}
use Rattle.std.proofs.lemmas.Iterator.Consumers.{YieldsList-end}
use Rattle.std.proofs.lemmas.List.{map-id}
use Rattle.ck_commands.specs.Runs.{lines_after}
use Rattle.ck_commands.proofs.RunsLemmas.{begins_push, lines_push}
use Rattle.ck_commands.proofs.command_gate.add_named_lines.Goals as goal

pub loop-c-preserved : goal.loop-c-preserved
loop-c-preserved c =
    let front = c.args.front.now in
    let text = string_bytes c.args.text.now in
    let before = lines_after front true c.loop-c.yielded in
    record {
      text = c.in_ok-add_named_char.ensures
          ∙ ap (λ (l : List ℕ). l ++ ((if c.loop-c.begins then front else []) ++ encode_utf8 c.in-Some.c)) c.loop-c.invariant.text
          ∙ append_assoc text before ((if c.loop-c.begins then front else []) ++ encode_utf8 c.in-Some.c)
          ∙ ap (λ (b : Bool). text ++ (before ++ ((if b then front else []) ++ encode_utf8 c.in-Some.c))) c.loop-c.invariant.begins
          ∙ ap (λ (l : List ℕ). text ++ l) (sym (lines_push front true c.loop-c.yielded c.in-Some.c));
      begins = sym (begins_push true c.loop-c.yielded c.in-Some.c);
    }

pub returns : goal.returns
returns c =
    let t = YieldsList-end (YieldsList-from_chars c.args.lines.now c.utf8.lines cc) c.loop-c.yielded _ c.loop-c.yielded_by _ _ c.in-None.is c.next.ensures.steps in
    c.loop-c.invariant.text ∙ ap (λ (cs : List ℕ). string_bytes c.args.text.now ++ lines_after c.args.front.now true cs) (sym (map-id c.loop-c.yielded) ∙ t.0)
