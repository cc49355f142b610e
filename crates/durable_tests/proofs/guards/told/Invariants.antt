-- the ledger of the faults is the blank one that the call is given
use Rattle.durable_tests.proofs.guards.told.Given as goal

abbrev pub ghosts-told_counted : goal.ghosts-told_counted
ghosts-told_counted a = record { name = a.blank.name; parts = a.blank.parts }
