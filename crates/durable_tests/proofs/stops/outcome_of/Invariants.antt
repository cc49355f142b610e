-- the ledger of the faults is the blank one that the call is given
use Rattle.durable_tests.proofs.stops.outcome_of.Given as goal

abbrev pub ghosts-outcome_counted : goal.ghosts-outcome_counted
ghosts-outcome_counted a = record { name = a.blank.name; parts = a.blank.parts }
