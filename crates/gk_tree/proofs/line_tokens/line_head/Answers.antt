use Rattle.std.proofs.Common.{◌≡◌, ◌∙◌, ◌+◌, ◌++◌, ◌∷◌, [], ℕ, length, length-append, drop, sym, ap, subst}
use Rattle.std.proofs.lemmas.Iterator.{YieldsList-from_chars}
use Rattle.std.proofs.lemmas.Iterator.Consumers.{YieldsList-turn, YieldsList-end}
use Rattle.gk_line.specs.Texts.{text_after_indent}
use Rattle.gk_line.specs.Tokens.{indent_of}
use Rattle.std.specs.Str.{chars}
use Rattle.gk_tree.proofs.HeadLemmas.{turn_indent, turn_body, end_indent, end_body, all_indent, all_body}
use Rattle.gk_tree.proofs.line_tokens.line_head.Goals as goal

pub loop-c-preserved : goal.loop-c-preserved
loop-c-preserved c =
    let cs = chars c.args.text.now in
    let yielded = c.loop-c.yielded in
    let at = YieldsList-turn (YieldsList-from_chars c.args.text.now c.utf8.text cc) yielded _ c.loop-c.yielded_by _ _ c.in-Some.c c.in-Some.is c.next.ensures.steps in
    let white = sym c.is_whitespace.ensures ∙ c.if-not-is_whitespace.false in
    let next : length yielded + 1 ≡ length (yielded ++ c.in-Some.c ∷ []) = sym (length-append yielded (c.in-Some.c ∷ [])) in
    record {
      counted = ap (λ (n : ℕ). n + 1) c.loop-c.invariant.counted ∙ next;
      passed = subst (λ (n : ℕ). indent_of cs ≡ n + indent_of (drop n cs)) next (turn_indent cs (length yielded) c.in-Some.c at white c.loop-c.invariant.passed);
      left = subst (λ (n : ℕ). text_after_indent cs ≡ text_after_indent (drop n cs)) next (turn_body cs (length yielded) c.in-Some.c at white c.loop-c.invariant.left);
    }

pub returns-then-not-is_whitespace-clause-indent : goal.returns-then-not-is_whitespace-clause-indent
returns-then-not-is_whitespace-clause-indent c =
    let at = YieldsList-turn (YieldsList-from_chars c.args.text.now c.utf8.text cc) c.loop-c.yielded _ c.loop-c.yielded_by _ _ c.in-Some.c c.in-Some.is c.next.ensures.steps in
    let black = sym c.is_whitespace.ensures ∙ c.if-not-is_whitespace.true in
    c.loop-c.invariant.counted ∙ sym (end_indent (chars c.args.text.now) (length c.loop-c.yielded) c.in-Some.c at black c.loop-c.invariant.passed)

pub returns-then-not-is_whitespace-clause-first : goal.returns-then-not-is_whitespace-clause-first
returns-then-not-is_whitespace-clause-first c =
    let at = YieldsList-turn (YieldsList-from_chars c.args.text.now c.utf8.text cc) c.loop-c.yielded _ c.loop-c.yielded_by _ _ c.in-Some.c c.in-Some.is c.next.ensures.steps in
    let black = sym c.is_whitespace.ensures ∙ c.if-not-is_whitespace.true in
    end_body (chars c.args.text.now) (length c.loop-c.yielded) c.in-Some.c at black c.loop-c.invariant.left

pub returns-clause-indent : goal.returns-clause-indent
returns-clause-indent c =
    let end = YieldsList-end (YieldsList-from_chars c.args.text.now c.utf8.text cc) c.loop-c.yielded _ c.loop-c.yielded_by _ _ c.in-None.is c.next.ensures.steps in
    c.loop-c.invariant.counted ∙ sym (all_indent (chars c.args.text.now) (length c.loop-c.yielded) end.1 c.loop-c.invariant.passed)

pub returns-clause-first : goal.returns-clause-first
returns-clause-first c =
    let end = YieldsList-end (YieldsList-from_chars c.args.text.now c.utf8.text cc) c.loop-c.yielded _ c.loop-c.yielded_by _ _ c.in-None.is c.next.ensures.steps in
    all_body (chars c.args.text.now) (length c.loop-c.yielded) end.1 c.loop-c.invariant.left
