use Rattle.std.proofs.Common.{arith}
use Rattle.std.proofs.lemmas.Result.{IfOk-weaker}
use Rattle.client_session.proofs.ReadLemmas.{bounded, fresh, passed_holds}
use Rattle.client_session.proofs.reading.read_by.Goals as goal

-- the answer is at least the greater of the two
pub returns-clause-front : goal.returns-clause-front
returns-clause-front g c =
    IfOk-weaker c.asked.result _ _ (λ out h. omega (arith, h))
    (bounded c.copies_without_a_cause_are_accepted.ensures c.args.position _ _ c.asked.ensures.by.0 c.asked.result c.asked.ensures.by.2)

pub returns-clause-floor : goal.returns-clause-floor
returns-clause-floor g c =
    IfOk-weaker c.asked.result _ _ (λ out h. omega (arith, h))
    (bounded c.copies_without_a_cause_are_accepted.ensures c.args.position _ _ c.asked.ensures.by.0 c.asked.result c.asked.ensures.by.2)

-- an accepted copy is the result at the front too
pub returns-clause-fresh : goal.returns-clause-fresh
returns-clause-fresh g c = λ held sight holds.
    fresh g.L.Link.at g.L.Link.answers c.copies_without_a_cause_are_accepted.ensures c.accepted_replies_are_fresh.ensures c.args.position c.args.key.now held sight
    c.args.link.now c.asked.ensures.by.0 c.asked.new.link c.asked.result c.asked.ensures.by.1 c.asked.ensures.by.2 holds

-- what the link tells only grows
pub returns-clause-holds : goal.returns-clause-holds
returns-clause-holds g c = λ held holds.
    passed_holds g.L.Link.at g.L.Link.answers c.args.link.now c.asked.ensures.by.0 c.asked.new.link c.asked.ensures.by.1 held holds
