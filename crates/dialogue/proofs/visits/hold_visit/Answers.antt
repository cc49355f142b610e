-- each round is one more exchange, or the end that it answers
use Rattle.std.proofs.Common.{refl, arith}
use Rattle.dialogue.proofs.VisitLemmas.{arrived, space_for_more, visits_on, quiet, quiet_rests, visit_closed, visit_broken, visit_incomplete, visit_limited, round_as}
use Rattle.dialogue.proofs.visits.hold_visit.Goals as goal

pub loop-requests-init : goal.loop-requests-init
loop-requests-init g c = record {
  can = c.requires.can;
  keeps = g.met.A.Answers.kept _;
  visiting = arrived _ _ _ _ _ c.requires.more c.resume.ensures.bytes c.resume.ensures.offset;
}

pub round-requires-clause-offset : goal.round-requires-clause-offset
round-requires-clause-offset g c = space_for_more _ _ _ _ _ _ _ _ c.loop-requests.invariant.visiting c.loop-requests-test.true

pub returns-in-Closed-clause-visit : goal.returns-in-Closed-clause-visit
returns-in-Closed-clause-visit g c =
    visit_closed _ _ _ _ _ _ _ _ _ _ _ c.loop-requests.invariant.visiting _ c.loop-requests-test.true (round_as _ _ _ _ _ _ _ _ _ _ c.in-Closed.is c.round.ensures.round)

pub returns-in-SinkFailed-clause-visit : goal.returns-in-SinkFailed-clause-visit
returns-in-SinkFailed-clause-visit g c =
    visit_broken _ _ _ _ _ _ _ _ _ _ _ c.loop-requests.invariant.visiting c.loop-requests-test.true (round_as _ _ _ _ _ _ _ _ _ _ c.in-SinkFailed.is c.round.ensures.round)

pub returns-in-Incomplete-clause-visit : goal.returns-in-Incomplete-clause-visit
returns-in-Incomplete-clause-visit g c =
    visit_incomplete _ _ _ _ _ _ _ _ _ c.round.new.buffer _ c.loop-requests.invariant.visiting _ c.loop-requests-test.true (round_as _ _ _ _ _ _ c.round.new.buffer _ _ _ c.in-Incomplete.is c.round.ensures.round)

pub loop-requests-preserved : goal.loop-requests-preserved
loop-requests-preserved g c = record {
  can = c.round.ensures.can;
  keeps = g.met.A.Answers.kept_on _ _ _ c.loop-requests.invariant.keeps c.round.ensures.keeps;
  visiting = visits_on _ _ _ _ _ _ _ _ _ _ _ c.loop-requests.invariant.visiting _ c.is_quiet.ensures.at (round_as _ _ _ _ _ _ _ _ _ _ c.in-KeptOpen.is c.round.ensures.round);
}

pub returns-clause-visit : goal.returns-clause-visit
returns-clause-visit g c = visit_limited _ _ _ _ _ _ _ _ c.loop-requests.invariant.visiting (omega (arith, c.loop-requests-test.false, c.loop-requests.auto.requests-end))

pub returns-then-is_quiet-clause-visit : goal.returns-then-is_quiet-clause-visit
returns-then-is_quiet-clause-visit g c =
    quiet _ _ _ _ _ _ _ _ _ _ _ c.loop-requests.invariant.visiting _ _ c.is_quiet.ensures.at c.offset.ensures (c.if-is_quiet.ensures.none refl) (round_as _ _ _ _ _ _ _ _ _ _ c.in-KeptOpen.is c.round.ensures.round)

pub returns-then-is_quiet-clause-rests : goal.returns-then-is_quiet-clause-rests
returns-then-is_quiet-clause-rests g c =
    quiet_rests _ _ _ _ _ _ _ _ _ _ _ c.loop-requests.invariant.visiting _ c.offset.ensures c.loop-requests-test.true (c.if-is_quiet.ensures.more refl) (round_as _ _ _ _ _ _ _ _ _ _ c.in-KeptOpen.is c.round.ensures.round)
