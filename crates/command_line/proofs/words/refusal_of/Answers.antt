-- words that are taken are not refused
use Rattle.std.proofs.Common.{inr}
use Rattle.command_line.proofs.CommandLemmas.{help_asked, pipe_taken, read_taken, serve_taken, simulation_taken}
use Rattle.command_line.proofs.words.refusal_of.Goals as goal

pub returns-in-Invalid-clause-some : goal.returns-in-Invalid-clause-some
returns-in-Invalid-clause-some c = let asks = rw c.in-Invalid.is at c.in_ok-refusal.ensures in asks.0

pub returns-in-Pipe-clause-none : goal.returns-in-Pipe-clause-none
returns-in-Pipe-clause-none c = pipe_taken _ _ (rw c.in-Pipe.is at c.in_ok-refusal.ensures)

pub returns-in-Serve-clause-none : goal.returns-in-Serve-clause-none
returns-in-Serve-clause-none c = serve_taken _ _ (rw c.in-Serve.is at c.in_ok-refusal.ensures)

pub returns-in-Read-clause-none : goal.returns-in-Read-clause-none
returns-in-Read-clause-none c = read_taken _ _ (rw c.in-Read.is at c.in_ok-refusal.ensures)

pub returns-in-Simulate-clause-none : goal.returns-in-Simulate-clause-none
returns-in-Simulate-clause-none c = simulation_taken _ _ _ _ (rw c.in-Simulate.is at c.in_ok-refusal.ensures)

pub returns-clause-none : goal.returns-clause-none
returns-clause-none c = inr (help_asked _ _ (rw c.in-Help.is at c.in_ok-refusal.ensures))
