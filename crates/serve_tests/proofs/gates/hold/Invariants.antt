-- the ledger of the closings is the blank one that the call is given
use Rattle.serve_tests.proofs.gates.hold.Given as goal

abbrev pub ghosts-hold_counted : goal.ghosts-hold_counted
ghosts-hold_counted g a = record { name = a.blank.name; parts = a.blank.parts }
