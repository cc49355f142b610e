-- the ledger of the closings is the blank one that the call is given
use Rattle.value_tests.proofs.doors.walk.Given as goal

abbrev pub ghosts-walk_counted : goal.ghosts-walk_counted
ghosts-walk_counted a = record { name = a.blank.name; parts = a.blank.parts }
