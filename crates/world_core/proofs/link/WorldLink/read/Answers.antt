-- through one of the caches; what the other holds stays issued
use Rattle.std.proofs.Common.{ap, sym, ◌∙◌, subst}
use Rattle.std.specs.Prelude.{IfOk}
use Rattle.std.proofs.lemmas.Result.{IfOk-weaker, on_ok_weaker}
use Rattle.world_core.specs.Link.{WorldLinkView, IsPageAnswer, IsRead, IsWrite, linked}
use Rattle.world_core.specs.Store.{StoreView, HasGrown, after_match}
use Rattle.world_core.proofs.LinkLemmas.{cache_later, read_first, read_second}
use Rattle.world_core.proofs.link.WorldLink.read.Goals as goal

pub invariant_of-self : goal.invariant_of-self
invariant_of-self c = record {
  first = cache_later c.longer_histories_are_later.ensures c.result_of_prefix.ensures c.self.inside.store c.read_through.new.store c.self.inside.first c.read_through.ensures.grown c.legal.ensures c.self.invariant.first;
  second = c.read_through.ensures.holds c.self.invariant.second;
}

pub invariant_of-self-2 : goal.invariant_of-self-2
invariant_of-self-2 c = record {
  first = c.read_through-2.ensures.holds c.self.invariant.first;
  second = cache_later c.longer_histories_are_later.ensures c.result_of_prefix.ensures c.self.inside.store c.read_through-2.new.store c.self.inside.second c.read_through-2.ensures.grown c.legal.ensures c.self.invariant.second;
}

pub returns-then-self-clause-ok : goal.returns-then-self-clause-ok
returns-then-self-clause-ok c =
    let v : WorldLinkView = record { store = c.self.inside.store; first = c.self.inside.first; second = c.self.inside.second; is_second = c.self.inside.is_second; purges = c.self.inside.purges; last = c.self.inside.last } in
    subst (λ (x : WorldLinkView). IfOk c.read_through.result (λ reply. IsRead x (record v { store = c.read_through.new.store; second = c.read_through.new.cache }) c.args.key.now c.args.no_cache reply)) c.self.view_is
    (read_second v c.read_through.new.store c.read_through.new.cache c.args.key.now c.args.no_cache c.read_through.result c.if-self.true c.read_through.ensures.ok)

pub returns-clause-ok : goal.returns-clause-ok
returns-clause-ok c =
    let v : WorldLinkView = record { store = c.self.inside.store; first = c.self.inside.first; second = c.self.inside.second; is_second = c.self.inside.is_second; purges = c.self.inside.purges; last = c.self.inside.last } in
    subst (λ (x : WorldLinkView). IfOk c.read_through-2.result (λ reply. IsRead x (record v { store = c.read_through-2.new.store; first = c.read_through-2.new.cache }) c.args.key.now c.args.no_cache reply)) c.self.view_is
    (read_first v c.read_through-2.new.store c.read_through-2.new.cache c.args.key.now c.args.no_cache c.read_through-2.result c.if-self.false c.read_through-2.ensures.ok)

pub returns-then-self-clause-told : goal.returns-then-self-clause-told
returns-then-self-clause-told c = c.read_through.ensures.told c.self.invariant.second

pub returns-clause-told : goal.returns-clause-told
returns-clause-told c = c.read_through-2.ensures.told c.self.invariant.first

pub returns-then-self-clause-grown : goal.returns-then-self-clause-grown
returns-then-self-clause-grown c = subst (λ (v : WorldLinkView). HasGrown v.store c.read_through.new.store) c.self.view_is c.read_through.ensures.grown

pub returns-clause-grown : goal.returns-clause-grown
returns-clause-grown c = subst (λ (v : WorldLinkView). HasGrown v.store c.read_through-2.new.store) c.self.view_is c.read_through-2.ensures.grown
