-- the ledger of the faults is the blank one that the call is given
use Rattle.log_tests.proofs.bases.found_in.Given as goal

abbrev pub ghosts-found_counted : goal.ghosts-found_counted
ghosts-found_counted a = record { name = a.blank.name; parts = a.blank.parts }
