-- the words ask for one thing, or for none
use Rattle.std.proofs.Common.{refl, inl, inr}
use Rattle.command_line.specs.Words.{pipe_ask_of}
use Rattle.command_line.proofs.CommandLemmas.{pipe_serve, pipe_read, pipe_simulation, pipe_taken, serve_read, serve_simulation, serve_taken, read_simulation, read_taken, simulation_taken, no_help, help_asked}
use Rattle.quaestor_prog.proofs.RunLemmas.{run_of, run_over_of, data_of, serve_keeps, none_timed, served_of, read_of, simulated_of}
use Rattle.quaestor_prog.proofs.program.run.Goals as goal

-- ---- pipe

pub returns-in-Ok-Pipe-clause-pipe : goal.returns-in-Ok-Pipe-clause-pipe
returns-in-Ok-Pipe-clause-pipe g c = λ ask is none.
    let has = rw c.in-Ok-Pipe.field-0-is at c.in-Ok-Pipe.ensures in
    let given = data_of _ c.in-Ok-Pipe.options ask _ has is none in
    (run_of g.C.Clock.tick _ _ _ (pipe_ask_of c.in-Ok-Pipe.options) ask _ _ _ _ has is (c.pipe_kept.ensures.run given), c.pipe_kept.ensures.places given)

pub returns-in-Ok-Pipe-clause-pipe_kept : goal.returns-in-Ok-Pipe-clause-pipe_kept
returns-in-Ok-Pipe-clause-pipe_kept g c = λ ask is some.
    let has = rw c.in-Ok-Pipe.field-0-is at c.in-Ok-Pipe.ensures in
    let given = data_of _ c.in-Ok-Pipe.options ask _ has is some in
    run_over_of g.P.Places.opens g.P.Keeper.Keeper.opens g.P.Keeper.Hand.Keeping.log g.P.Keeper.Hand.Keeping.keeps g.P.Keeper.Keeper.kept g.P.Keeper.Keeper.moment g.C.Clock.tick _ _ _ (pipe_ask_of c.in-Ok-Pipe.options) ask _ _ _ _ _ _ has is (c.pipe_kept.ensures.kept given)

pub returns-in-Ok-Pipe-clause-serve : goal.returns-in-Ok-Pipe-clause-serve
returns-in-Ok-Pipe-clause-serve g c = λ ask is. let pipe = rw c.in-Ok-Pipe.field-0-is at c.in-Ok-Pipe.ensures in absurd (pipe_serve _ pipe.named is.named)

pub returns-in-Ok-Pipe-clause-read : goal.returns-in-Ok-Pipe-clause-read
returns-in-Ok-Pipe-clause-read g c = λ ask is. let pipe = rw c.in-Ok-Pipe.field-0-is at c.in-Ok-Pipe.ensures in absurd (pipe_read _ pipe.named is.named)

pub returns-in-Ok-Pipe-clause-simulation : goal.returns-in-Ok-Pipe-clause-simulation
returns-in-Ok-Pipe-clause-simulation g c = λ which seed steps is. let pipe = rw c.in-Ok-Pipe.field-0-is at c.in-Ok-Pipe.ensures in absurd (pipe_simulation _ _ pipe.named is.named)

pub returns-in-Ok-Pipe-clause-help : goal.returns-in-Ok-Pipe-clause-help
returns-in-Ok-Pipe-clause-help g c = λ help. absurd (no_help _ _ _ (rw c.in-Ok-Pipe.field-0-is at c.in-Ok-Pipe.ensures) help)

pub returns-in-Ok-Pipe-clause-usage : goal.returns-in-Ok-Pipe-clause-usage
returns-in-Ok-Pipe-clause-usage g c = λ none. absurd (none (pipe_taken _ _ (rw c.in-Ok-Pipe.field-0-is at c.in-Ok-Pipe.ensures)))

-- ---- serve

pub serve_at-requires-clause-keeps : goal.serve_at-requires-clause-keeps
serve_at-requires-clause-keeps g c = λ lifetimes outlives. serve_keeps _ c.in-Ok-Serve.options (rw c.in-Ok-Serve.field-0-is at c.in-Ok-Serve.ensures)

pub returns-in-Ok-Serve-clause-pipe : goal.returns-in-Ok-Serve-clause-pipe
returns-in-Ok-Serve-clause-pipe g c = λ ask is file. let serve = rw c.in-Ok-Serve.field-0-is at c.in-Ok-Serve.ensures in absurd (pipe_serve _ is.named serve.named)

pub returns-in-Ok-Serve-clause-pipe_kept : goal.returns-in-Ok-Serve-clause-pipe_kept
returns-in-Ok-Serve-clause-pipe_kept g c = λ ask is file. let serve = rw c.in-Ok-Serve.field-0-is at c.in-Ok-Serve.ensures in absurd (pipe_serve _ is.named serve.named)

pub returns-in-Ok-Serve-clause-serve : goal.returns-in-Ok-Serve-clause-serve
returns-in-Ok-Serve-clause-serve g c = λ ask is. (refl, refl, inr (served_of _ _ _ _ _ _ _ _ _ _ _ _ _ _ _ _ _ _ ask _ _ _ _ _ _ (rw c.in-Ok-Serve.field-0-is at c.in-Ok-Serve.ensures) is c.serve_at.ensures))

pub returns-in-Ok-Serve-clause-read : goal.returns-in-Ok-Serve-clause-read
returns-in-Ok-Serve-clause-read g c = λ ask is. let serve = rw c.in-Ok-Serve.field-0-is at c.in-Ok-Serve.ensures in absurd (serve_read _ serve.named is.named)

pub returns-in-Ok-Serve-clause-simulation : goal.returns-in-Ok-Serve-clause-simulation
returns-in-Ok-Serve-clause-simulation g c = λ which seed steps is. let serve = rw c.in-Ok-Serve.field-0-is at c.in-Ok-Serve.ensures in absurd (serve_simulation _ _ serve.named is.named)

pub returns-in-Ok-Serve-clause-help : goal.returns-in-Ok-Serve-clause-help
returns-in-Ok-Serve-clause-help g c = λ help. absurd (no_help _ _ _ (rw c.in-Ok-Serve.field-0-is at c.in-Ok-Serve.ensures) help)

pub returns-in-Ok-Serve-clause-usage : goal.returns-in-Ok-Serve-clause-usage
returns-in-Ok-Serve-clause-usage g c = λ none. absurd (none (serve_taken _ _ (rw c.in-Ok-Serve.field-0-is at c.in-Ok-Serve.ensures)))

-- ---- read

pub returns-in-Ok-Read-clause-pipe : goal.returns-in-Ok-Read-clause-pipe
returns-in-Ok-Read-clause-pipe g c = λ ask is file. let reads = rw c.in-Ok-Read.field-0-is at c.in-Ok-Read.ensures in absurd (pipe_read _ is.named reads.named)

pub returns-in-Ok-Read-clause-pipe_kept : goal.returns-in-Ok-Read-clause-pipe_kept
returns-in-Ok-Read-clause-pipe_kept g c = λ ask is file. let reads = rw c.in-Ok-Read.field-0-is at c.in-Ok-Read.ensures in absurd (pipe_read _ is.named reads.named)

pub returns-in-Ok-Read-clause-serve : goal.returns-in-Ok-Read-clause-serve
returns-in-Ok-Read-clause-serve g c = λ ask is. let reads = rw c.in-Ok-Read.field-0-is at c.in-Ok-Read.ensures in absurd (serve_read _ is.named reads.named)

pub returns-in-Ok-Read-clause-read : goal.returns-in-Ok-Read-clause-read
returns-in-Ok-Read-clause-read g c = λ ask is. (refl, refl, inr (read_of _ _ _ _ _ _ ask _ _ _ _ _ _ (rw c.in-Ok-Read.field-0-is at c.in-Ok-Read.ensures) is c.read_at.ensures))

pub returns-in-Ok-Read-clause-simulation : goal.returns-in-Ok-Read-clause-simulation
returns-in-Ok-Read-clause-simulation g c = λ which seed steps is. let reads = rw c.in-Ok-Read.field-0-is at c.in-Ok-Read.ensures in absurd (read_simulation _ _ reads.named is.named)

pub returns-in-Ok-Read-clause-help : goal.returns-in-Ok-Read-clause-help
returns-in-Ok-Read-clause-help g c = λ help. absurd (no_help _ _ _ (rw c.in-Ok-Read.field-0-is at c.in-Ok-Read.ensures) help)

pub returns-in-Ok-Read-clause-usage : goal.returns-in-Ok-Read-clause-usage
returns-in-Ok-Read-clause-usage g c = λ none. absurd (none (read_taken _ _ (rw c.in-Ok-Read.field-0-is at c.in-Ok-Read.ensures)))

-- ---- simulation

pub returns-in-Ok-Simulate-clause-pipe : goal.returns-in-Ok-Simulate-clause-pipe
returns-in-Ok-Simulate-clause-pipe g c = λ ask is file. let simulation = rw c.in-Ok-Simulate.field-0-is at c.in-Ok-Simulate.ensures in absurd (pipe_simulation _ _ is.named simulation.named)

pub returns-in-Ok-Simulate-clause-pipe_kept : goal.returns-in-Ok-Simulate-clause-pipe_kept
returns-in-Ok-Simulate-clause-pipe_kept g c = λ ask is file. let simulation = rw c.in-Ok-Simulate.field-0-is at c.in-Ok-Simulate.ensures in absurd (pipe_simulation _ _ is.named simulation.named)

pub returns-in-Ok-Simulate-clause-serve : goal.returns-in-Ok-Simulate-clause-serve
returns-in-Ok-Simulate-clause-serve g c = λ ask is. let simulation = rw c.in-Ok-Simulate.field-0-is at c.in-Ok-Simulate.ensures in absurd (serve_simulation _ _ is.named simulation.named)

pub returns-in-Ok-Simulate-clause-read : goal.returns-in-Ok-Simulate-clause-read
returns-in-Ok-Simulate-clause-read g c = λ ask is. let simulation = rw c.in-Ok-Simulate.field-0-is at c.in-Ok-Simulate.ensures in absurd (read_simulation _ _ is.named simulation.named)

pub returns-in-Ok-Simulate-clause-simulation : goal.returns-in-Ok-Simulate-clause-simulation
returns-in-Ok-Simulate-clause-simulation g c = λ which seed steps is. (
  record {
    text = simulated_of _ _ which _ seed _ steps _ _ _ _ (rw c.in-Ok-Simulate.field-0-is at c.in-Ok-Simulate.ensures) is c.simulate.ensures;
    source = refl;
    ticks = refl;
  },
  refl,
)

pub returns-in-Ok-Simulate-clause-help : goal.returns-in-Ok-Simulate-clause-help
returns-in-Ok-Simulate-clause-help g c = λ help. absurd (no_help _ _ _ (rw c.in-Ok-Simulate.field-0-is at c.in-Ok-Simulate.ensures) help)

pub returns-in-Ok-Simulate-clause-usage : goal.returns-in-Ok-Simulate-clause-usage
returns-in-Ok-Simulate-clause-usage g c = λ none. absurd (none (simulation_taken _ _ _ _ (rw c.in-Ok-Simulate.field-0-is at c.in-Ok-Simulate.ensures)))

-- ---- help

pub returns-in-Ok-Help-clause-pipe : goal.returns-in-Ok-Help-clause-pipe
returns-in-Ok-Help-clause-pipe g c = λ ask is file. absurd (no_help _ _ _ is (help_asked _ _ (rw c.in-Ok-Help.field-0-is at c.in-Ok-Help.ensures)))

pub returns-in-Ok-Help-clause-pipe_kept : goal.returns-in-Ok-Help-clause-pipe_kept
returns-in-Ok-Help-clause-pipe_kept g c = λ ask is file. absurd (no_help _ _ _ is (help_asked _ _ (rw c.in-Ok-Help.field-0-is at c.in-Ok-Help.ensures)))

pub returns-in-Ok-Help-clause-serve : goal.returns-in-Ok-Help-clause-serve
returns-in-Ok-Help-clause-serve g c = λ ask is. absurd (no_help _ _ _ is (help_asked _ _ (rw c.in-Ok-Help.field-0-is at c.in-Ok-Help.ensures)))

pub returns-in-Ok-Help-clause-read : goal.returns-in-Ok-Help-clause-read
returns-in-Ok-Help-clause-read g c = λ ask is. absurd (no_help _ _ _ is (help_asked _ _ (rw c.in-Ok-Help.field-0-is at c.in-Ok-Help.ensures)))

pub returns-in-Ok-Help-clause-simulation : goal.returns-in-Ok-Help-clause-simulation
returns-in-Ok-Help-clause-simulation g c = λ which seed steps is. absurd (no_help _ _ _ is (help_asked _ _ (rw c.in-Ok-Help.field-0-is at c.in-Ok-Help.ensures)))

pub returns-in-Ok-Help-clause-usage : goal.returns-in-Ok-Help-clause-usage
returns-in-Ok-Help-clause-usage g c = λ none. absurd (none (inr (help_asked _ _ (rw c.in-Ok-Help.field-0-is at c.in-Ok-Help.ensures))))

pub returns-in-Ok-Help-clause-help : goal.returns-in-Ok-Help-clause-help
returns-in-Ok-Help-clause-help g c = λ help. (
  inl (record {
    asked = c.in-Ok-Help.asked;
    is_asked = rw c.in-Ok-Help.field-0-is at c.in-Ok-Help.ensures;
    text = rw c.text.ensures at c.give_text.ensures;
    source = refl;
    ticks = refl;
  }),
  refl,
)

-- ---- refused

pub returns-in-Ok-Invalid-clause-pipe : goal.returns-in-Ok-Invalid-clause-pipe
returns-in-Ok-Invalid-clause-pipe g c = λ ask is file. let asks = rw c.in-Ok-Invalid.field-0-is at c.in-Ok-Invalid.ensures in absurd (asks.0 (pipe_taken _ ask is))

pub returns-in-Ok-Invalid-clause-pipe_kept : goal.returns-in-Ok-Invalid-clause-pipe_kept
returns-in-Ok-Invalid-clause-pipe_kept g c = λ ask is file. let asks = rw c.in-Ok-Invalid.field-0-is at c.in-Ok-Invalid.ensures in absurd (asks.0 (pipe_taken _ ask is))

pub returns-in-Ok-Invalid-clause-serve : goal.returns-in-Ok-Invalid-clause-serve
returns-in-Ok-Invalid-clause-serve g c = λ ask is. let asks = rw c.in-Ok-Invalid.field-0-is at c.in-Ok-Invalid.ensures in absurd (asks.0 (serve_taken _ ask is))

pub returns-in-Ok-Invalid-clause-read : goal.returns-in-Ok-Invalid-clause-read
returns-in-Ok-Invalid-clause-read g c = λ ask is. let asks = rw c.in-Ok-Invalid.field-0-is at c.in-Ok-Invalid.ensures in absurd (asks.0 (read_taken _ ask is))

pub returns-in-Ok-Invalid-clause-simulation : goal.returns-in-Ok-Invalid-clause-simulation
returns-in-Ok-Invalid-clause-simulation g c = λ which seed steps is. let asks = rw c.in-Ok-Invalid.field-0-is at c.in-Ok-Invalid.ensures in absurd (asks.0 (simulation_taken _ which seed steps is))

pub returns-in-Ok-Invalid-clause-help : goal.returns-in-Ok-Invalid-clause-help
returns-in-Ok-Invalid-clause-help g c = λ help. let asks = rw c.in-Ok-Invalid.field-0-is at c.in-Ok-Invalid.ensures in absurd (asks.0 (inr help))

-- ---- no memory for the words

pub returns-clause-pipe_kept : goal.returns-clause-pipe_kept
returns-clause-pipe_kept g c = λ ask is file. inr (inl (record { status_is = refl; source = refl; sink = refl; ticks = none_timed g.C.Clock.tick c.args.clock.now ask.at }))
