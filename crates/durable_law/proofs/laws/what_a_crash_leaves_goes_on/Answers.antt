-- a call goes on by its change or its moment; an opening keeps what it found, with what waited in it or gone
use Rattle.durable_law.proofs.LeftLemmas.{opening-on, read-on, still-on, write-on}
use Rattle.durable_law.proofs.laws.what_a_crash_leaves_goes_on.Goals as goal

pub returns-clause-still : goal.returns-clause-still
returns-clause-still c = still-on

pub returns-clause-write : goal.returns-clause-write
returns-clause-write c = write-on

pub returns-clause-read : goal.returns-clause-read
returns-clause-read c = read-on

pub returns-clause-opening : goal.returns-clause-opening
returns-clause-opening c = opening-on
