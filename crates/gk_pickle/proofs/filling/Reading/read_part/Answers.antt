use Rattle.std.proofs.Common.{◌+◌, ◌≤◌, arith, length, reverse, rules}
use Rattle.gk_pickle.proofs.Parts.{ok_then, found_is, none_is, within_is, part_read, open_read, close_read, bring_read, none_left, less_left, less_brought, more_within}
use Rattle.gk_pickle.proofs.filling.Reading.read_part.Goals as goal

pub returns-in_default-clause-read : goal.returns-in_default-clause-read
returns-in_default-clause-read c = ok_then c.add.result (part_read c.args.columns.now c.args.row.now c.args.part (reverse c.args.parts.now.items) c.args.self.now c.add.new.self c.in_default.ensures.none) c.add.ensures

pub returns-in_default-clause-less : goal.returns-in_default-clause-less
returns-in_default-clause-less c = ok_then c.add.result (λ e. none_left c.args.row.now c.args.part _) c.add.ensures

pub returns-then-bracket-eq60-clause-read : goal.returns-then-bracket-eq60-clause-read
returns-then-bracket-eq60-clause-read c =
    ok_then c.open.result (open_read c.args.columns.now c.args.row.now c.args.part c.in-Some.before.now c.in-Some.bracket c.in-Some.after _ _ _ c.add-2.new.self _ c.in-Some.ensures.some c.in-Some.ensures.plain
    c.in_ok-add.ensures c.in_ok-push.ensures.items c.if-bracket-eq60.true) c.open.ensures

pub returns-then-bracket-eq60-clause-less : goal.returns-then-bracket-eq60-clause-less
returns-then-bracket-eq60-clause-less c =
    ok_then c.open.result
    (λ e. less_left c.args.row.now c.args.part c.in-Some.before.now c.in-Some.bracket c.in-Some.after _ _ c.in-Some.ensures.some c.in_ok-push.ensures.items)
    c.open.ensures

pub returns-in_ok-push-2-clause-read : goal.returns-in_ok-push-2-clause-read
returns-in_ok-push-2-clause-read c =
    bring_read c.args.columns.now c.args.row.now c.args.part c.in-Some.before.now c.in-Some.bracket c.in-Some.after _ _ _ c.add-2.new.self _ c.in-Some.ensures.some c.in-Some.ensures.plain
    c.in_ok-add.ensures c.in-Some-2.column c.in-Some-2.text _ c.in_ok-push.ensures.items c.in_ok-push-2.ensures.items c.in-Some.ensures.bracket c.if-bracket-eq60.false
    (found_is _ (c.in-Some-2.column, c.in-Some-2.text) _ c.in-Some-2.is c.in_ok-column.ensures.found) c.in_ok-column.ensures.left
    (within_is c.args.row.now _ (c.in-Some-2.column, c.in-Some-2.text) c.in-Some-2.is c.in_ok-column.ensures.within)

pub returns-in_ok-push-2-clause-less : goal.returns-in_ok-push-2-clause-less
returns-in_ok-push-2-clause-less c =
    less_brought c.args.row.now c.args.part c.in-Some.before.now c.in-Some.bracket c.in-Some.after _ _ c.in-Some.ensures.some c.in_ok-push.ensures.items
    c.args.columns.now c.add-2.new.self c.in-Some-2.column c.in-Some-2.text _ c.in_ok-push-2.ensures.items
    (found_is _ (c.in-Some-2.column, c.in-Some-2.text) _ c.in-Some-2.is c.in_ok-column.ensures.found)

pub returns-in_default-2-clause-read : goal.returns-in_default-2-clause-read
returns-in_default-2-clause-read c =
    close_read c.args.columns.now c.args.row.now c.args.part c.in-Some.before.now c.in-Some.bracket c.in-Some.after _ _ _ c.add-2.new.self _ c.in-Some.ensures.some c.in-Some.ensures.plain
    c.in_ok-add.ensures c.in_ok-push.ensures.items c.in-Some.ensures.bracket c.if-bracket-eq60.false (none_is _ _ c.in_default-2.is c.in_ok-column.ensures.found)
    c.in_ok-column.ensures.left

pub returns-in_default-2-clause-less : goal.returns-in_default-2-clause-less
returns-in_default-2-clause-less c =
    less_left c.args.row.now c.args.part c.in-Some.before.now c.in-Some.bracket c.in-Some.after _ _ c.in-Some.ensures.some c.in_ok-push.ensures.items

pub returns-in_default-clause-within : goal.returns-in_default-clause-within
returns-in_default-clause-within c = ok_then c.add.result (λ e. c.requires.1) c.add.ensures

pub returns-then-bracket-eq60-clause-within : goal.returns-then-bracket-eq60-clause-within
returns-then-bracket-eq60-clause-within c =
    ok_then c.open.result (λ e. more_within c.args.row.now c.args.parts.now.items c.push.new.self.items _ c.in_ok-push.ensures.items (search rules) c.requires.0.1 c.requires.1) c.open.ensures

pub returns-in_ok-push-2-clause-within : goal.returns-in_ok-push-2-clause-within
returns-in_ok-push-2-clause-within c =
    let below = within_is c.args.row.now _ (c.in-Some-2.column, c.in-Some-2.text) c.in-Some-2.is c.in_ok-column.ensures.within in
    let next : c.in-Some-2.column + 1 ≤ length c.args.row.now = omega (arith, below) in
    more_within c.args.row.now c.push.new.self.items c.push-in-Some-2.new.self.items _ c.in_ok-push-2.ensures.items (search rules) next
    (more_within c.args.row.now c.args.parts.now.items c.push.new.self.items _ c.in_ok-push.ensures.items (search rules) c.requires.0.1 c.requires.1)

pub returns-in_default-2-clause-within : goal.returns-in_default-2-clause-within
returns-in_default-2-clause-within c =
    more_within c.args.row.now c.args.parts.now.items c.push.new.self.items _ c.in_ok-push.ensures.items (search rules) c.requires.0.1 c.requires.1
