-- what was left has the journal of the store, or one that goes on from it, and no earlier kept moment
use Rattle.durable_law.proofs.CrashLemmas.{behind-openings}
use Rattle.durable_law.proofs.laws.stores_behind_openings_follow.Goals as goal

pub returns : goal.returns
returns c = λ k later_g history more records moment image log stands.
    behind-openings c.bytes_have_one_list_of_frames.ensures c.an_image_stands_for_one_journal.ensures c.later_stores_follow.ensures k later_g history more records moment stands image log
