use Rattle.std.proofs.Common.{◌+◌, drop, map, option_map, subst, sym, take}
use Rattle.std.proofs.lemmas.Bool.{false≢true}
use Rattle.gk_parts.specs.Parts.{part_view_alone}
use Rattle.gk_parts.specs.FirstDifference.{HasNext}
use Rattle.gk_parts.proofs.Differences.{next_at, same_more}
use Rattle.gk_parts.proofs.listing.first_unlike.Goals as goal

pub loop-i-preserved : goal.loop-i-preserved
loop-i-preserved c =
    same_more part_view_alone _ _ _ c.index-expected-i.result _ c.loop-i-test.true c.index-expected-i.is c.loop-i.invariant c.part_at-other.ensures
    (c.is_like.ensures.0 c.if-not-is_like.false)

pub returns-then-not-is_like : goal.returns-then-not-is_like
returns-then-not-is_like c = record {
  front = map part_view_alone (take c.loop-i.i c.args.expected.now);
  expected = (
    map part_view_alone (drop (c.loop-i.i + 1) c.args.expected.now),
    next_at part_view_alone _ _ _ c.loop-i-test.true c.index-expected-i.is,
  );
  found =
      subst (λ front. HasNext front (map part_view_alone c.args.found.now) (option_map part_view_alone c.part_at-other.result))
      (sym c.loop-i.invariant) c.part_at-other.ensures;
  differ = λ same. absurd (false≢true (c.if-not-is_like.ensures.1 same));
}
