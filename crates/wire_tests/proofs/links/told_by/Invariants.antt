-- the ledger of the faults is the blank one that the call is given
use Rattle.wire_tests.proofs.links.told_by.Given as goal

abbrev pub ghosts-told_counted : goal.ghosts-told_counted
ghosts-told_counted a = record { name = a.blank.name; parts = a.blank.parts }
