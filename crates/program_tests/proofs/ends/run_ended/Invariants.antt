-- each ledger is the blank one that the call is given
use Rattle.program_tests.proofs.ends.run_ended.Given as goal

abbrev pub ghosts-run_with-M-Ledger : goal.ghosts-run_with-M-Ledger
ghosts-run_with-M-Ledger g a = record { name = a.doors.name; parts = a.doors.parts }

abbrev pub ghosts-run_with-F-Ledger : goal.ghosts-run_with-F-Ledger
ghosts-run_with-F-Ledger g a = record { name = a.places.name; parts = a.places.parts }
