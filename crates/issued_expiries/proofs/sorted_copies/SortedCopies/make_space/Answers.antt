use Rattle.issued_expiries.proofs.KeepLemmas.{filter_again}
use Rattle.issued_expiries.specs.KeyCopies.{is_later}
use Rattle.issued_expiries.proofs.sorted_copies.SortedCopies.make_space.Goals as goal

pub returns-in_ok-self-clause-later : goal.returns-in_ok-self-clause-later
returns-in_ok-self-clause-later c = filter_again (is_later c.args.clock) _ _ c.in_ok-self.ensures.later
