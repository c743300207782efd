use Rattle.std.proofs.Common.{◌∙◌, Bor, List, [], string_bytes, ℕ}
use Rattle.feature_paths.proofs.WalkLemmas.{told_on, walked_on}
use Rattle.feature_paths.proofs.paths.feature_paths.Goals as goal

pub returns-in_err-below-clause-trouble : goal.returns-in_err-below-clause-trouble
returns-in_err-below-clause-trouble g c =
    let paths = c.args.paths.now in
    let at = c.loop-path.path-index in
    let none : Bor (List ℕ) = record { ref_ptr = (0, 0); now = [] } in
    told_on (λ (p : Bor (List ℕ)). p.now) paths at none c.loop-path-test.true c.from_residual.result
    _ _ _ _ c.in_err-below.field-0.0 c.loop-path.invariant.walks c.in_err-below.ensures.trouble
    c.from_residual.ensures.1

pub loop-path-preserved : goal.loop-path-preserved
loop-path-preserved g c =
    let paths = c.args.paths.now in
    let at = c.loop-path.path-index in
    let none : Bor (List ℕ) = record { ref_ptr = (0, 0); now = [] } in
    record {
      walks = walked_on (λ (p : Bor (List ℕ)). p.now) paths at none c.loop-path-test.true string_bytes _ _ _ _ _ _
          c.loop-path.invariant.walks c.in_ok-below.ensures.files c.in_ok-append.ensures.items;
      openings = c.in_ok-below.ensures.openings ∙ c.loop-path.invariant.openings;
    }
