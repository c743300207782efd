use Rattle.std.proofs.Common.{◌≡◌, ◌∙◌, false, sym, Bor}
use Rattle.std.specs.Prelude.{is_some}
use Rattle.std.specs.Str.{bytes_eq}
use Rattle.indexmap.proofs.CallerLemmas.{insert_entry-new}
use Rattle.cm_cases.specs.Firsts.{value_at}
use Rattle.cm_stream.specs.Texts.{Utf8}
use Rattle.cm_ran.proofs.MarkLemmas.{flags_kept, keys_added, keys_there, none_of}
use Rattle.cm_ran.proofs.WholeLemmas.{whole_added}
use Rattle.cm_ran.proofs.marks.Marks.add.Goals as goal

pub returns-then-contains_key-clause-ok : goal.returns-then-contains_key-clause-ok
returns-then-contains_key-clause-ok c = keys_there c.args.self.now.rows c.args.text.now (sym c.contains_key.ensures ∙ c.if-contains_key.true)

pub returns-clause-ok : goal.returns-clause-ok
returns-clause-ok c =
    let none : is_some (value_at c.args.self.now.rows c.args.text.now) ≡ false = sym c.contains_key.ensures ∙ c.if-contains_key.false in
    keys_added c.args.self.now.rows c.insert.new.self c.args.text c.new.result none
    (c.in_ok-insert.ensures.entries ∙ insert_entry-new (λ (a b : Bor Utf8). bytes_eq a.now b.now) c.args.self.now.rows c.args.text c.new.result (none_of (value_at c.args.self.now.rows c.args.text.now) none))

pub returns-clause-flags : goal.returns-clause-flags
returns-clause-flags c =
    flags_kept c.args.self.now.rows c.insert.new.self c.args.text.now c.new.result (sym c.contains_key.ensures ∙ c.if-contains_key.false) c.new.ensures.items c.in_ok-insert.ensures.updates.0

pub returns-clause-rows : goal.returns-clause-rows
returns-clause-rows c = whole_added c.args.self.now.rows c.insert.new.self c.args.text.now c.new.result c.new.ensures.items c.in_ok-insert.ensures.updates.0
