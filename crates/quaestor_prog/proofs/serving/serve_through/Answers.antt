-- what came of the first line, and then of the connections
use Rattle.std.proofs.Common.{◌++◌, codes, refl, subst, inl, inr}
use Rattle.q_outside.specs.Ends.{GaveBytes, GavePart}
use Rattle.quaestor_prog.proofs.serving.serve_through.Goals as goal

pub returns-in-Ok : goal.returns-in-Ok
returns-in-Ok g c = inr (
  g.K.Sink.at c.give_line.new.sink,
  subst (λ t. GaveBytes (g.K.Sink.at c.args.sink.now) (g.K.Sink.at c.give_line.new.sink) (codes "listening on " ++ t ++ codes "\n")) c.as_bytes.ensures.value c.in-Ok.ensures,
  c.serve_announced.ensures,
)

pub returns-in-Err : goal.returns-in-Err
returns-in-Err g c = inl (
  refl,
  subst (λ t. GavePart (g.K.Sink.at c.args.sink.now) (g.K.Sink.at c.give_line.new.sink) (codes "listening on " ++ t ++ codes "\n")) c.as_bytes.ensures.value c.in-Err.ensures,
  refl,
)
