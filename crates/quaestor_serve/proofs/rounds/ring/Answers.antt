-- a connection came, or none, and those that had ended were handed back before
use Rattle.quaestor_serve.specs.Served.{IsAtLog, KeptBy}
use Rattle.std.proofs.Common.{◌≡◌, true, rules, [], ap, sym, ◌∙◌, subst}
use Rattle.hub_model.specs.Setting.{Setting}
use Rattle.quaestor_serve.specs.Kept.{setting_at}
use Rattle.quaestor_serve.proofs.GoingLemmas.{fails}
use Rattle.quaestor_serve.proofs.rounds.ring.Goals as goal

pub returns-in-Err-clause-going : goal.returns-in-Err-clause-going
returns-in-Err-clause-going g c = λ place base first same going.
    fails g.P.From.Source.at g.P.To.Sink.at g.P.To.Sink.ended g.C.Clock.tick (KeptBy g.Q.Hand.Keeping.log g.Q.Hand.Keeping.keeps) (g.C.Clone.is_clone c.args.clock.now) (IsAtLog g.Q.Hand.Keeping.log place) base first _ _ c.wait_for_place.new.hall c.args.number c.in-Err.ensures.0 c.in-Err.ensures.1 (c.wait_for_place.ensures.hands.going c.args.clock.now place base first [] c.args.number 0 going)

pub returns-in-Ok-Connection-clause-out : goal.returns-in-Ok-Connection-clause-out
returns-in-Ok-Connection-clause-out g c = λ others was. c.admit.ensures.out others (c.wait_for_place.ensures.hands.out others was)

pub returns-in-Ok-Connection-clause-going : goal.returns-in-Ok-Connection-clause-going
returns-in-Ok-Connection-clause-going g c = λ place base first same going.
    c.admit.ensures.going c.args.clock.now place base first (g.P.Doors.at c.wait_for_place.new.doors) (search rules) (sym same ∙ c.in-Ok-hand.ensures.tied) (search rules) (c.wait_for_place.ensures.hands.going c.args.clock.now place base first [] c.args.number 0 going)

-- its hand may fail where the keeper's may, and the hub is to keep commits then
pub admit-requires-clause-keeps : goal.admit-requires-clause-keeps
admit-requires-clause-keeps g c = λ lifetimes outlives fails. subst (λ (s : Setting). s.keeps ≡ true) (sym (ap setting_at c.wait_for_place.ensures.hands.stays.0)) (c.requires.keeps (sym c.in-Ok-hand.ensures.hand ∙ fails))
