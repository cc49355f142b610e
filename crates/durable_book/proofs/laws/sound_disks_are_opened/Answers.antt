-- what was read is an image that a crash may leave
use Rattle.durable_book.proofs.OpenedLemmas.{chance}
use Rattle.durable_book.proofs.laws.sound_disks_are_opened.Goals as goal

pub returns : goal.returns
returns c = chance c.bytes_have_one_list_of_frames.ensures c.records_are_not_refused.ensures
