use Rattle.std.proofs.Common.{sym, ap, ◌∙◌, ◌++◌, [], length, refl, inl, inr, ⊎_elim}
use Rattle.std.proofs.lemmas.Iterator.{YieldsList-from_chars}
use Rattle.std.proofs.lemmas.Iterator.Consumers.{YieldsList-turn, YieldsList-end}
use Rattle.std.proofs.lemmas.List.{append-nil}
use Rattle.std.proofs.lemmas.Str.{chars-nil, IsUtf8-string_bytes}
use Rattle.std.proofs.lemmas.Bool.{ne_eqb}
use Rattle.std.specs.Str.{chars}
use Rattle.std.specs.String.{string_bytes}
use Rattle.gk_line.specs.Cells.{units, meanings}
use Rattle.gk_line.proofs.UnitLemmas.{run, units-run, turn_slash, turn_unit, turn_end}
use Rattle.gk_line.proofs.TextLemmas.{grown_chars}
use Rattle.gk_line.proofs.rows.unescape_cell_units.Goals as goal
use Rattle.gk_line.specs.Characters.{backslash}

pub loop-c-init : goal.loop-c-init
loop-c-init c = rw (c.in_ok-value.ensures.bytes, chars-nil) (ap meanings (sym (units-run (chars c.args.text.now))))

pub loop-c-preserved-then-c-eq92 : goal.loop-c-preserved-then-c-eq92
loop-c-preserved-then-c-eq92 c =
    let t = YieldsList-turn (YieldsList-from_chars c.args.text.now c.utf8.text cc) c.loop-c.yielded _ c.loop-c.yielded_by _ _ c.in-Some.c c.in-Some.is c.next.ensures.steps in
    turn_slash (chars (string_bytes c.loop-c.value)) (chars c.args.text.now) c.loop-c.yielded (meanings (units (chars c.args.text.now))) c.in-Some.c c.loop-c.escaped t
    c.if-not-escaped.true c.if-c-eq92.true c.loop-c.invariant

pub loop-c-preserved : goal.loop-c-preserved
loop-c-preserved c =
    let t = YieldsList-turn (YieldsList-from_chars c.args.text.now c.utf8.text cc) c.loop-c.yielded _ c.loop-c.yielded_by _ _ c.in-Some.c c.in-Some.is c.next.ensures.steps in
    turn_unit (chars (string_bytes c.loop-c.value)) (chars (string_bytes c.push_unit.new.value)) (chars c.args.text.now) c.loop-c.yielded (meanings (units (chars c.args.text.now))) c.in-Some.c c.loop-c.escaped t
    (⊎_elim (λ w. inr (ne_eqb c.in-Some.c backslash w.1)) (λ e. inl e) c.else-not-escaped.either) c.in_ok-push_unit.ensures c.loop-c.invariant

pub returns-then-not-escaped-2 : goal.returns-then-not-escaped-2
returns-then-not-escaped-2 c =
    let t = YieldsList-end (YieldsList-from_chars c.args.text.now c.utf8.text cc) c.loop-c.yielded _ c.loop-c.yielded_by _ _ c.in-None.is c.next.ensures.steps in
    let value = chars (string_bytes c.loop-c.value) in
    sym (append-nil value) ∙ ap (λ b. value ++ meanings (run [] b)) (sym c.if-not-escaped-2.true)
    ∙ turn_end value (chars c.args.text.now) (meanings (units (chars c.args.text.now))) (length c.loop-c.yielded) c.loop-c.escaped t.1 c.loop-c.invariant

pub returns : goal.returns
returns c =
    let t = YieldsList-end (YieldsList-from_chars c.args.text.now c.utf8.text cc) c.loop-c.yielded _ c.loop-c.yielded_by _ _ c.in-None.is c.next.ensures.steps in
    let value = chars (string_bytes c.loop-c.value) in
    grown_chars (string_bytes c.loop-c.value) (string_bytes c.push.new.self) backslash refl (IsUtf8-string_bytes c.loop-c.value) c.in_ok-push.ensures.bytes
    ∙ ap (λ b. value ++ meanings (run [] b)) (sym c.if-not-escaped-2.false)
    ∙ turn_end value (chars c.args.text.now) (meanings (units (chars c.args.text.now))) (length c.loop-c.yielded) c.loop-c.escaped t.1 c.loop-c.invariant
