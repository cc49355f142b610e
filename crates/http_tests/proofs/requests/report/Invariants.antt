-- the ledger of the faults is the blank one that the call is given
use Rattle.http_tests.proofs.requests.report.Given as goal

abbrev pub ghosts-report_counted : goal.ghosts-report_counted
ghosts-report_counted a = record { name = a.blank.name; parts = a.blank.parts }
