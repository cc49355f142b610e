-- each ledger is the blank one that the call is given
use Rattle.program_tests.proofs.calls.run_in.Given as goal

abbrev pub ghosts-run_counted-L-Ledger : goal.ghosts-run_counted-L-Ledger
ghosts-run_counted-L-Ledger g a = record { name = a.sink.name; parts = a.sink.parts }

abbrev pub ghosts-run_counted-M-Ledger : goal.ghosts-run_counted-M-Ledger
ghosts-run_counted-M-Ledger g a = record { name = a.doors.name; parts = a.doors.parts }

abbrev pub ghosts-run_counted-F-Ledger : goal.ghosts-run_counted-F-Ledger
ghosts-run_counted-F-Ledger g a = record { name = a.places.name; parts = a.places.parts }
