-- nothing is pending on the disk, so each image has the journal of the store and its kept moment
use Rattle.durable_law.proofs.CrashLemmas.{behind-crash}
use Rattle.durable_law.proofs.laws.stores_behind_a_crash_follow.Goals as goal

pub returns : goal.returns
returns c = λ k later_g history more records moment h image log stands.
    behind-crash c.bytes_have_one_list_of_frames.ensures c.an_image_stands_for_one_journal.ensures c.later_stores_follow.ensures k later_g history more records moment stands h image log
