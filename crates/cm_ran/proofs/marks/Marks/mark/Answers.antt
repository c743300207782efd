use Rattle.std.proofs.Common.{◌∙◌, Bor, ap, map}
use Rattle.cm_cases.specs.Listed.{both_texts}
use Rattle.cm_stream.specs.Texts.{Utf8}
use Rattle.cm_ran.specs.Rows.{is_set_at}
use Rattle.cm_ran.specs.RunAt.{is_run_at}
use Rattle.cm_ran.proofs.MarkLemmas.{also_same, both_ok, on_ok}
use Rattle.cm_ran.proofs.RowLemmas.{runs_known}
use Rattle.cm_ran.proofs.WholeLemmas.{sources_compiled}
use Rattle.cm_ran.proofs.marks.Marks.mark.Goals as goal

pub returns-clause-ok : goal.returns-clause-ok
returns-clause-ok c =
    on_ok c.mark_sources.result (both_ok _ _ c.mark_sources.result c.mark_sources.ensures.ok c.mark_sources.ensures.rows)
    (λ also es is. record {
      texts = c.mark_sources.ensures.texts;
      flags = also_same c.args.self.now c.mark_sources.new.self (is_set_at c.in_ok-rows.rows (map both_texts c.as_slice-3.result.now)) (is_run_at es)
          (runs_known c.in_ok-rows.rows es _ _ _ c.in_ok-rows.ensures (ap (map (λ (t : Bor Utf8). t.now)) c.as_slice-2.ensures.value ∙ c.in_ok-named.ensures es is)
          (ap (map both_texts) c.as_slice.ensures.value ∙ c.in_ok-pickles.ensures es is) (ap (map both_texts) c.as_slice-3.ensures.value ∙ c.in_ok-sources.ensures es is)) also.0;
      rows = λ each. also.1 (sources_compiled c.in_ok-rows.rows es _ _ _ c.in_ok-rows.ensures (ap (map (λ (t : Bor Utf8). t.now)) c.as_slice-2.ensures.value ∙ c.in_ok-named.ensures es is)
          (ap (map both_texts) c.as_slice.ensures.value ∙ c.in_ok-pickles.ensures es is) (ap (map both_texts) c.as_slice-3.ensures.value ∙ c.in_ok-sources.ensures es is) each);
    })
