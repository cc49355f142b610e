-- what is queued, and what is stored, is the beginning of what is so later
use Rattle.shared_log.proofs.NoteLemmas.{knows_on, queued_on}
use Rattle.shared_log.proofs.laws.further_entries_take_nothing_back.Goals as goal

pub returns-clause-queued : goal.returns-clause-queued
returns-clause-queued c = queued_on

pub returns-clause-commits : goal.returns-clause-commits
returns-clause-commits c = λ o notes later prefix. (knows_on o notes later prefix).0

pub returns-clause-moment : goal.returns-clause-moment
returns-clause-moment c = λ o notes later prefix. (knows_on o notes later prefix).1
