-- from the first moment on the visit goes on, and who answers keeps what no call changes
use Rattle.dialogue.proofs.VisitLemmas.{Visiting}
use Rattle.dialogue.proofs.visits.hold_visit.Given as goal

abbrev pub invariant-loop-requests : goal.invariant-loop-requests
invariant-loop-requests g l = record {
  can : g.A.Answers.can l.answerer;
  keeps : g.A.Answers.keeps l.fn.answerer l.answerer;
  visiting : Visiting g.A.Answers.answers l.fn.answerer l.answerer
      (record { source = g.S.Source.at l.fn.source; sink = g.K.Sink.at l.fn.sink })
      (record { source = g.S.Source.at l.source; sink = g.K.Sink.at l.sink })
      l.fn.from l.buffer l.requests;
}
