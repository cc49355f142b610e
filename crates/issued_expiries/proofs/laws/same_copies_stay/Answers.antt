use Rattle.issued_expiries.proofs.LawLemmas.{same_more, same_later}
use Rattle.issued_expiries.proofs.laws.same_copies_stay.Goals as goal

pub returns : goal.returns
returns c = record { more = same_more; later = same_later }
