-- each ask gives some of the purges that are left, until there are none
use Rattle.std.proofs.Common.{Bool, sym, subst}
use Rattle.world_core.specs.Link.{IsPulledSome}
use Rattle.world_core.proofs.PullLemmas.{pulled_all, pulled_less, pulling_none, pulling_on}
use Rattle.world_core.proofs.StoreLemmas.{grown_on, same_store}
use Rattle.world_core.proofs.link.WorldLink.pull.Goals as goal

pub loop-is_more-init : goal.loop-is_more-init
loop-is_more-init c = record { pulling = pulling_none c.args.self.now; grown = same_store c.args.self.now.store }

pub loop-is_more-preserved : goal.loop-is_more-preserved
loop-is_more-preserved c = record {
  pulling = pulling_on c.more_entries.ensures.state c.args.self.now c.loop-is_more.self c.pull_some.new.self c.in_ok-is_more.is_more c.loop-is_more.invariant.pulling c.in_ok-is_more.ensures.ok;
  grown = grown_on c.args.self.now.store c.loop-is_more.self.store c.pull_some.new.self.store c.loop-is_more.invariant.grown c.pull_some.ensures.grown;
}

pub loop-is_more-smaller : goal.loop-is_more-smaller
loop-is_more-smaller c =
    pulled_less c.args.self.now c.loop-is_more.self c.pull_some.new.self c.loop-is_more.invariant.pulling
    (subst (λ (b : Bool). IsPulledSome b c.loop-is_more.self c.pull_some.new.self) c.if-not-is_more.false c.in_ok-is_more.ensures.ok)

pub returns-in_err-is_more-clause-grown : goal.returns-in_err-is_more-clause-grown
returns-in_err-is_more-clause-grown c = grown_on c.args.self.now.store c.loop-is_more.self.store c.pull_some.new.self.store c.loop-is_more.invariant.grown c.pull_some.ensures.grown

pub returns-then-not-is_more-clause-ok : goal.returns-then-not-is_more-clause-ok
returns-then-not-is_more-clause-ok c =
    pulled_all c.args.self.now c.loop-is_more.self c.pull_some.new.self c.loop-is_more.invariant.pulling
    (pulling_on c.more_entries.ensures.state c.args.self.now c.loop-is_more.self c.pull_some.new.self c.in_ok-is_more.is_more c.loop-is_more.invariant.pulling c.in_ok-is_more.ensures.ok)
    (subst (λ (b : Bool). IsPulledSome b c.loop-is_more.self c.pull_some.new.self) c.if-not-is_more.true c.in_ok-is_more.ensures.ok)

pub returns-then-not-is_more-clause-grown : goal.returns-then-not-is_more-clause-grown
returns-then-not-is_more-clause-grown c = grown_on c.args.self.now.store c.loop-is_more.self.store c.pull_some.new.self.store c.loop-is_more.invariant.grown c.pull_some.ensures.grown
