-- the ledger of the closings is the blank one that the call is given
use Rattle.serve_tests.proofs.order.serve_each.Given as goal

abbrev pub ghosts-serve_counted : goal.ghosts-serve_counted
ghosts-serve_counted g a = record { name = a.blank.name; parts = a.blank.parts }
