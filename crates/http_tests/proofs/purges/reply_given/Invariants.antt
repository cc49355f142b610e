-- the ledger of the faults is the blank one that the call is given
use Rattle.http_tests.proofs.purges.reply_given.Given as goal

abbrev pub ghosts-reply_counted : goal.ghosts-reply_counted
ghosts-reply_counted a = record { name = a.blank.name; parts = a.blank.parts }
