-- the ledger of the faults is the blank one that the call is given
use Rattle.log_tests.proofs.logs.bytes_of.Given as goal

abbrev pub ghosts-bytes_counted : goal.ghosts-bytes_counted
ghosts-bytes_counted a = record { name = a.blank.name; parts = a.blank.parts }
