-- a 304 freshens what is held, and any other reply is offered
use Rattle.std.proofs.Common.{inl, inr}
use Rattle.world_core.proofs.ThroughLemmas.{settled_fresh, settled_other, told_fresh, told_other}
use Rattle.world_core.proofs.link.settle.Goals as goal

pub returns-then-reply-eq304-clause-ok : goal.returns-then-reply-eq304-clause-ok
returns-then-reply-eq304-clause-ok c =
    told_fresh c.args.cache.now c.freshen.new.self c.args.key.now c.args.reply c.held.result c.if-reply-eq304.true c.freshen.ensures.cache c.held.ensures

pub returns-then-reply-eq304-clause-cache : goal.returns-then-reply-eq304-clause-cache
returns-then-reply-eq304-clause-cache c =
    inr (settled_fresh c.args.cache.now c.freshen.new.self c.args.key.now c.args.reply c.if-reply-eq304.true c.freshen.ensures.cache)

pub returns-in_err-offer-clause-cache : goal.returns-in_err-offer-clause-cache
returns-in_err-offer-clause-cache c = inl c.in_err-offer.ensures.err

pub returns-clause-ok : goal.returns-clause-ok
returns-clause-ok c =
    told_other c.args.cache.now c.offer.new.self c.args.key.now c.args.reply c.if-reply-eq304.false c.in_ok-offer.ensures.ok

pub returns-clause-cache : goal.returns-clause-cache
returns-clause-cache c =
    inr (settled_other c.args.cache.now c.offer.new.self c.args.key.now c.args.reply c.if-reply-eq304.false c.in_ok-offer.ensures.ok)
