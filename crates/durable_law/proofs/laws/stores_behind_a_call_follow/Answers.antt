-- an image has the journal of before, with the change or without it, and no earlier kept moment
use Rattle.durable_law.proofs.CrashLemmas.{behind-read, behind-write}
use Rattle.durable_law.proofs.laws.stores_behind_a_call_follow.Goals as goal

pub returns-clause-write : goal.returns-clause-write
returns-clause-write c = λ k later_g history more records moment capacity change image log stands.
    behind-write c.bytes_have_one_list_of_frames.ensures c.an_image_stands_for_one_journal.ensures c.later_stores_follow.ensures k later_g history more records moment stands capacity change image log

pub returns-clause-read : goal.returns-clause-read
returns-clause-read c = λ k later_g history more records moment image log stands.
    behind-read c.bytes_have_one_list_of_frames.ensures c.an_image_stands_for_one_journal.ensures c.later_stores_follow.ensures k later_g history more records moment stands image log
