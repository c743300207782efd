-- A list without a fault is good.
use Rattle.cm_stream.specs.Laws.{FaultlessAreGoodBy}
use Rattle.cm_stream.specs.OnePass.{reads}
use Rattle.cm_stream.proofs.Passing.{plain_passes, success_passes}
use Rattle.cm_stream.proofs.Distinct.{all_distinct, all_refer}
use Rattle.cm_stream.proofs.Order.{the_end, in_order}
use Rattle.cm_stream.proofs.Parts.{all_cases, all_retries, all_numbers, all_known, success_said}
use Rattle.cm_stream.proofs.WholeAttempts.{all_attempts}
use Rattle.cm_stream.proofs.Sourced.{all_sources}
use Rattle.cm_stream.proofs.RunHooks.{all_hooks}

pub faultless_are_good : FaultlessAreGoodBy reads
faultless_are_good settings es h =
    let pass = plain_passes settings es h.lines in
    let end = the_end es pass h.end in
    record {
      sound = record {
        references = all_refer es pass;
        sources = all_sources es pass end;
        cases = all_cases es pass;
        attempts = all_attempts settings es h.lines end;
        retries = all_retries es pass;
        distinct = all_distinct es pass;
        order = in_order es pass end;
        known = all_known es pass;
        hooks = all_hooks es pass end;
      };
      numbers = all_numbers settings es h.lines;
      success = success_said settings.policy es pass (success_passes settings es h);
    }
