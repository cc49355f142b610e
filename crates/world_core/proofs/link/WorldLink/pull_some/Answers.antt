-- the keys of the purges that were not known are dropped
use Rattle.std.proofs.Common.{◌≡◌, ◌+◌, ◌-◌, ◌≤◌, ◌<◌, ℕ, List, fold, nat_lt, length, false, sym, ap, ◌∙◌, subst, arith}
use Rattle.query_normal.specs.declared.key.KeyShape.{KeyShape}
use Rattle.cache_model.specs.Cache.{purged}
use Rattle.world_core.specs.Link.{WorldLinkView, IsPulledSome}
use Rattle.world_core.specs.Store.{HasGrown}
use Rattle.world_core.proofs.LinkLemmas.{sound_later}
use Rattle.world_core.proofs.PullLemmas.{last_is, pulled_by, pulled_fits, pulled_none, sound_pulled}
use Rattle.world_core.proofs.link.WorldLink.pull_some.Goals as goal

pub invariant_of-self : goal.invariant_of-self
invariant_of-self c =
    sound_later c.longer_histories_are_later.ensures c.result_of_prefix.ensures (record { store = c.self.inside.store; first = c.self.inside.first; second = c.self.inside.second; is_second = c.self.inside.is_second; purges = c.self.inside.purges; last = c.self.inside.last }) c.purges.new.self c.purges.ensures.grown c.legal.ensures c.self.invariant

pub invariant_of-self-then-self-reply : goal.invariant_of-self-then-self-reply
invariant_of-self-then-self-reply c =
    sound_later c.longer_histories_are_later.ensures c.result_of_prefix.ensures (record { store = c.self.inside.store; first = c.self.inside.first; second = c.self.inside.second; is_second = c.self.inside.is_second; purges = c.self.inside.purges; last = c.self.inside.last }) c.purges.new.self c.purges.ensures.grown c.legal.ensures c.self.invariant

pub invariant_of-self-2 : goal.invariant_of-self-2
invariant_of-self-2 c =
    sound_pulled c.longer_histories_are_later.ensures c.result_of_prefix.ensures (record { store = c.self.inside.store; first = c.self.inside.first; second = c.self.inside.second; is_second = c.self.inside.is_second; purges = c.self.inside.purges; last = c.self.inside.last }) c.purges.new.self c.purge_all.new.cache c.in_ok-reply.reply.keys.items c.number_behind-self-inside.result
    c.purges.ensures.grown c.legal.ensures (c.purge_all.ensures ∙ ap (λ (keys : List KeyShape). fold purged c.self.inside.first keys) c.deref.ensures.value) c.self.invariant

pub number_behind-self-inside-requires : goal.number_behind-self-inside-requires
number_behind-self-inside-requires c =
    let v : WorldLinkView = record { store = c.self.inside.store; first = c.self.inside.first; second = c.self.inside.second; is_second = c.self.inside.is_second; purges = c.self.inside.purges; last = c.self.inside.last } in
    let left : c.self.inside.purges < c.in_ok-reply.reply.last = omega arith in
    let next = c.saturating_add.ensures in
    let from_is : c.saturating_add.result - 1 ≡ c.self.inside.purges = omega (arith, next, left) in
    let fits = pulled_fits v c.saturating_add.result c.in_ok-reply.reply c.in_ok-reply.ensures.told from_is left in
    omega (arith, fits)

pub returns-in_err-reply-clause-grown : goal.returns-in_err-reply-clause-grown
returns-in_err-reply-clause-grown c = subst (λ (v : WorldLinkView). HasGrown v.store c.purges.new.self) c.self.view_is c.purges.ensures.grown

pub returns-then-self-reply-clause-grown : goal.returns-then-self-reply-clause-grown
returns-then-self-reply-clause-grown c = subst (λ (v : WorldLinkView). HasGrown v.store c.purges.new.self) c.self.view_is c.purges.ensures.grown

pub returns-clause-grown : goal.returns-clause-grown
returns-clause-grown c = subst (λ (v : WorldLinkView). HasGrown v.store c.purges.new.self) c.self.view_is c.purges.ensures.grown

pub returns-then-self-reply-clause-ok : goal.returns-then-self-reply-clause-ok
returns-then-self-reply-clause-ok c =
    let v : WorldLinkView = record { store = c.self.inside.store; first = c.self.inside.first; second = c.self.inside.second; is_second = c.self.inside.is_second; purges = c.self.inside.purges; last = c.self.inside.last } in
    let last = last_is v c.saturating_add.result c.in_ok-reply.reply c.in_ok-reply.ensures.told in
    subst (λ (x : WorldLinkView). IsPulledSome false x (record v { store = c.purges.new.self })) c.self.view_is
    (pulled_none v c.purges.new.self c.saturating_add.result (omega (arith, last)) c.in_ok-reply.ensures.ok)

pub returns-clause-ok : goal.returns-clause-ok
returns-clause-ok c =
    let v : WorldLinkView = record { store = c.self.inside.store; first = c.self.inside.first; second = c.self.inside.second; is_second = c.self.inside.is_second; purges = c.self.inside.purges; last = c.self.inside.last } in
    let left : c.self.inside.purges < c.in_ok-reply.reply.last = omega arith in
    let next = c.saturating_add.ensures in
    let from_is : c.saturating_add.result - 1 ≡ c.self.inside.purges = omega (arith, next, left) in
    let next_is : c.number_behind-self-inside.result ≡ c.self.inside.purges + length c.in_ok-reply.reply.keys.items = omega arith in
    subst (λ (x : WorldLinkView). IsPulledSome (nat_lt c.number_behind-self-inside.result c.in_ok-reply.reply.last) x (record v { store = c.purges.new.self; first = c.purge_all.new.cache; purges = c.number_behind-self-inside.result })) c.self.view_is
    (pulled_by v c.saturating_add.result c.in_ok-reply.reply c.in_ok-reply.ensures.told c.purges.new.self c.number_behind-self-inside.result c.purge_all.new.cache from_is left
    (c.purge_all.ensures ∙ ap (λ (keys : List KeyShape). fold purged c.self.inside.first keys) c.deref.ensures.value) next_is c.in_ok-reply.ensures.ok)
