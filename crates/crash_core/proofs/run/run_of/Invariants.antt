-- the ledger of the faults is the blank one that the call is given
use Rattle.crash_core.proofs.run.run_of.Given as goal

abbrev pub ghosts-run_counted : goal.ghosts-run_counted
ghosts-run_counted a = record { name = a.blank.name; parts = a.blank.parts }
