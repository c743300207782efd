use Rattle.std.proofs.Common.{◌∙◌, ap, refl, inl, inr, ◌∷◌, ◌++◌, [], List, ℕ, arith}
use Rattle.cm_missing.specs.Findings.{finding_line}
use Rattle.cm_missing.specs.declared.missing.Missing.{Missing}
use Rattle.cm_missing.proofs.ToldLemmas.{keeps_line}
use Rattle.cm_missing.proofs.missing.Missing.add_line.Goals as goal

pub returns-in_ok-push_str : goal.returns-in_ok-push_str
returns-in_ok-push_str c =
    let old = c.args.self.now in
    let new : Missing = record old { text = c.push_str.new.self; count = c.in_ok-self.field-0 } in
    keeps_line old new (finding_line c.args.path.now c.args.finding) (record {
      count = c.in_ok-self.ensures;
      scenarios = refl;
      unrun = refl;
      text = inl (
        omega (arith, c.in_ok-self.ensures, c.if-self-le-MOST_LINES.true),
        c.in_ok-push_str.ensures.bytes ∙ ap (λ (t : List ℕ). t ++ 10 ∷ []) c.in_ok-add_finding.ensures,
      );
    })

pub returns-else-self-le-MOST_LINES : goal.returns-else-self-le-MOST_LINES
returns-else-self-le-MOST_LINES c =
    let old = c.args.self.now in
    let new : Missing = record old { count = c.in_ok-self.field-0 } in
    keeps_line old new (finding_line c.args.path.now c.args.finding) (record {
      count = c.in_ok-self.ensures;
      scenarios = refl;
      unrun = refl;
      text = inr (omega (arith, c.in_ok-self.ensures, c.if-self-le-MOST_LINES.false), refl);
    })
