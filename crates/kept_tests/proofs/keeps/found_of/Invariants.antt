-- the ledger of the faults is the blank one that the call is given
use Rattle.kept_tests.proofs.keeps.found_of.Given as goal

abbrev pub ghosts-found_counted : goal.ghosts-found_counted
ghosts-found_counted g a = record { name = a.blank.name; parts = a.blank.parts }
