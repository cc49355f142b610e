-- frames, records, and what they say
use Rattle.durable_book.proofs.OpenedLemmas.{one-journal}
use Rattle.durable_book.proofs.laws.an_image_stands_for_one_journal.Goals as goal

pub returns : goal.returns
returns c = one-journal c.bytes_have_one_list_of_frames.ensures
