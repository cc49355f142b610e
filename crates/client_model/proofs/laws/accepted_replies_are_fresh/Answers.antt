use Rattle.client_model.proofs.Fresh.{law}
use Rattle.client_model.proofs.laws.accepted_replies_are_fresh.Goals as goal

-- an unexpired copy below the front with a clear bit was not outdated when the page was fetched
pub returns : goal.returns
returns c = law c.beginnings_are_legal.ensures c.clock_is_greatest.ensures c.copies_are_of_reads.ensures c.longer_histories_are_later.ensures
    c.equal_results_are_tested.ensures c.result_of_prefix.ensures c.front_is_within.ensures c.page_holds_recorded_keys.ensures.recorded
