-- the ledger of the closings is the blank one that the call is given
use Rattle.serve_tests.proofs.monitors.watch.Given as goal

abbrev pub ghosts-watch_counted : goal.ghosts-watch_counted
ghosts-watch_counted g a = record { name = a.blank.name; parts = a.blank.parts }
