use Rattle.std.proofs.Common.{◌∙◌, ◌++◌, List, ap, append_assoc, codes, refl, string_bytes, ℕ}
use Rattle.cm_reasons.specs.Lines.{limited_text}
use Rattle.ck_commands.proofs.FilesTold.{some_cases, some_not_none, told_empty, told_missing, told_well}
use Rattle.ck_commands.proofs.command_gate_features.add_features_end.Goals as goal

pub returns-then-not-is_none : goal.returns-then-not-is_none
returns-then-not-is_none c = λ asked fs is.
    let told = c.in_ok-add_lines.ensures asked fs is in
    told_missing asked fs c.args.missing.now is c.args.files c.args.counts (string_bytes c.args.text.now) (string_bytes c.add_lines.new.text) told.0 told.1
    (λ none. some_not_none c.is_none.result c.if-not-is_none.true ((c.is_none.ensures asked fs is).1 none))
    (told.2 ∙ ap (λ (l : List ℕ). l ++ limited_text told.0) c.in_ok-push_str.ensures.bytes ∙ append_assoc (string_bytes c.args.text.now) (codes "stop Missing\n") (limited_text told.0))

pub returns-then-counts-eq0 : goal.returns-then-counts-eq0
returns-then-counts-eq0 c = λ asked fs is.
    told_empty asked fs c.args.missing.now is c.args.files c.args.counts (string_bytes c.args.text.now) (string_bytes c.push_str-then-counts-eq0.new.self)
    ((c.is_none.ensures asked fs is).0 c.if-not-is_none.false) (rw c.if-counts-eq0.true refl) c.in_ok-push_str-2.ensures.bytes

pub returns : goal.returns
returns c = λ asked fs is.
    told_well asked fs c.args.missing.now is c.args.files c.args.counts (string_bytes c.args.text.now) (string_bytes c.push_str-2.new.self) c.scenarios.result c.unrun.result
    ((c.is_none.ensures asked fs is).0 c.if-not-is_none.false) (some_cases c.args.counts.cases c.if-counts-eq0.false) (c.scenarios.ensures asked fs is) (c.unrun.ensures asked fs is)
    (c.in_ok-push_str-3.ensures.bytes ∙ ap (λ (l : List ℕ). string_bytes c.args.text.now ++ l) (c.as_str.ensures.value ∙ c.in_ok-line.ensures))
