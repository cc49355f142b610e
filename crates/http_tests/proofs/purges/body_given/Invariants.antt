-- the ledger of the faults is the blank one that the call is given
use Rattle.http_tests.proofs.purges.body_given.Given as goal

abbrev pub ghosts-body_counted : goal.ghosts-body_counted
ghosts-body_counted a = record { name = a.blank.name; parts = a.blank.parts }
