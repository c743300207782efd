use Rattle.std.proofs.Common.{◌≡◌, ◌∙◌, ap, sym, refl, [], length, arith}
use Rattle.std.proofs.lemmas.List.{nil_from_length}
use Rattle.cm_missing.specs.Missing.{lines_of}
use Rattle.cm_missing.proofs.LawLemmas.{one_missing_list}
use Rattle.cm_missing.proofs.missing.Missing.is_none.Goals as goal

pub returns : goal.returns
returns c asked files m =
    let lines = lines_of asked m.reads in (
      λ e. let none : length lines ≡ 0 = sym m.count ∙ grind (arith, e) in (m.reads, m.are_read, sym (nil_from_length lines none)),
      λ x. let none : c.args.self.now.count ≡ 0 = m.count ∙ ap length (sym (one_missing_list asked files [] lines x (m.reads, m.are_read, refl))) in rw none refl,
    )
