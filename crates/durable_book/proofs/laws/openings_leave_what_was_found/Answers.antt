-- the gate of a repair is that behind which something waits
use Rattle.durable_book.proofs.OpenedLemmas.{found-opening}
use Rattle.durable_book.proofs.laws.openings_leave_what_was_found.Goals as goal

pub returns : goal.returns
returns c = found-opening c.bytes_have_one_list_of_frames.ensures
