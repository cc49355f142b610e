-- the connection pauses, one request later at least with each visit
use Rattle.std.specs.Prelude.{◌≤◌}
use Rattle.dialogue.specs.Visit.{MayGoOn}
use Rattle.dialogue.proofs.VisitLemmas.{Speaking}
use Rattle.dialogue.proofs.dialogue.hold_dialogue.Given as goal

abbrev pub invariant-loop-visit : goal.invariant-loop-visit
invariant-loop-visit g l = record {
  can : g.A.Answers.can l.answerer;
  keeps : g.A.Answers.keeps l.fn.answerer l.answerer;
  speaking : Speaking g.A.Answers.answers l.fn.answerer l.answerer
      (record { source = g.S.Source.at l.fn.source; sink = g.K.Sink.at l.fn.sink })
      (record { source = g.S.Source.at l.source; sink = g.K.Sink.at l.sink })
      l.pause;
  many : l._visit ≤ l.pause.requests;
  more : MayGoOn l.pause;
}
