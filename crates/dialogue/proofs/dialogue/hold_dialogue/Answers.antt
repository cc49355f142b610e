-- each visit goes on with the connection, or ends it
use Rattle.std.proofs.Common.{arith}
use Rattle.dialogue.proofs.VisitLemmas.{silent, speaks_on, speaks_to_the_end, rests_at}
use Rattle.dialogue.proofs.dialogue.hold_dialogue.Goals as goal

pub loop-visit-init : goal.loop-visit-init
loop-visit-init g c = record {
  can = c.requires.can;
  keeps = g.met.A.Answers.kept _;
  speaking = silent _ _ _;
  many = omega arith;
  more = record { few = omega arith; small = omega arith };
}

pub loop-visit-preserved : goal.loop-visit-preserved
loop-visit-preserved g c =
    let i = c.loop-visit.invariant in
    let r = rests_at c.loop-visit.pause c.in-Quiet.next _ c.in-Quiet.is c.hold_visit.ensures.rests in
    record {
      can = c.hold_visit.ensures.can;
      keeps = g.met.A.Answers.kept_on _ _ _ i.keeps c.hold_visit.ensures.keeps;
      speaking = speaks_on _ _ _ _ _ _ _ _ c.in-Quiet.next _ i.speaking c.in-Quiet.is c.hold_visit.ensures.visit;
      many = omega (arith, r.0, i.many);
      more = r.1;
    }

pub returns-in-Ended-clause-dialogue : goal.returns-in-Ended-clause-dialogue
returns-in-Ended-clause-dialogue g c =
    speaks_to_the_end _ _ _ _ _ _ _ _ _ _ c.loop-visit.invariant.speaking c.in-Ended.is c.hold_visit.ensures.visit
