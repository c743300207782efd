use Rattle.std.proofs.Common.{sym, ap, ◌∙◌, ◌∷◌, [], refl}
use Rattle.std.specs.Prelude.{if◌then◌else◌}
use Rattle.std.specs.Str.{chars}
use Rattle.std.specs.String.{string_bytes}
use Rattle.std.proofs.lemmas.Str.{IsUtf8-string_bytes}
use Rattle.gk_line.specs.Cells.{units, meanings}
use Rattle.gk_line.proofs.TextLemmas.{push_chars, push_twice, on_ok_same}
use Rattle.gk_line.proofs.UnitLemmas.{alone_means, pair_means, two_mean, escaped_scalar}
use Rattle.gk_line.proofs.rows.push_unit.Goals as goal
use Rattle.gk_line.specs.Characters.{backslash}

pub returns-then-not-escaped : goal.returns-then-not-escaped
returns-then-not-escaped c =
    let grown = push_chars c.push.result (string_bytes c.args.value.now) (string_bytes c.push.new.self) c.args.c c.ranges.c.0 (IsUtf8-string_bytes c.args.value.now) c.push.ensures.bytes in
    on_ok_same c.push.result _ (chars (string_bytes c.args.value.now)) _ _
    (sym (ap (λ b. meanings (units (if b then backslash ∷ c.args.c ∷ [] else c.args.c ∷ []))) c.if-not-escaped.true ∙ alone_means c.args.c)) grown

pub returns-in-Some : goal.returns-in-Some
returns-in-Some c =
    let grown = push_chars c.push-in-Some.result (string_bytes c.args.value.now) (string_bytes c.push-in-Some.new.self) c.in-Some.meant (escaped_scalar c.args.c c.in-Some.meant c.in-Some.ensures) (IsUtf8-string_bytes c.args.value.now) c.push-in-Some.ensures.bytes in
    on_ok_same c.push-in-Some.result _ (chars (string_bytes c.args.value.now)) _ _
    (sym (ap (λ b. meanings (units (if b then backslash ∷ c.args.c ∷ [] else c.args.c ∷ []))) c.if-not-escaped.false ∙ pair_means c.args.c c.in-Some.meant c.in-Some.ensures)) grown

pub returns : goal.returns
returns c =
    let grown = push_twice c.push-3.result (string_bytes c.args.value.now) (string_bytes c.push-2.new.self) (string_bytes c.push-3.new.self) backslash c.args.c refl c.ranges.c.0
    (IsUtf8-string_bytes c.args.value.now) (IsUtf8-string_bytes c.push-2.new.self) c.in_ok-push.ensures.bytes c.push-3.ensures.bytes in
    on_ok_same c.push-3.result _ (chars (string_bytes c.args.value.now)) _ _
    (sym (ap (λ b. meanings (units (if b then backslash ∷ c.args.c ∷ [] else c.args.c ∷ []))) c.if-not-escaped.false ∙ two_mean c.args.c c.in_default.ensures)) grown
