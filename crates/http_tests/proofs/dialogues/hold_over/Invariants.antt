-- the ledger of the faults is the blank one that the call is given
use Rattle.http_tests.proofs.dialogues.hold_over.Given as goal

abbrev pub ghosts-hold_counted : goal.ghosts-hold_counted
ghosts-hold_counted g a = record { name = a.blank.name; parts = a.blank.parts }
