-- the store gains the write, and what the caches hold stays issued
use Rattle.std.proofs.Common.{ap, sym, ◌∙◌, subst}
use Rattle.std.specs.Prelude.{IfOk, is_some}
use Rattle.std.proofs.lemmas.Result.{IfOk-weaker, on_ok_weaker}
use Rattle.world_core.specs.Link.{WorldLinkView, IsPageAnswer, IsRead, IsWrite, linked}
use Rattle.world_core.specs.Store.{StoreView, HasGrown, after_match}
use Rattle.world_core.proofs.LinkLemmas.{sound_later, wrote_is}
use Rattle.world_core.proofs.link.WorldLink.write.Goals as goal

pub invariant_of-self : goal.invariant_of-self
invariant_of-self c = sound_later c.longer_histories_are_later.ensures c.result_of_prefix.ensures (record { store = c.self.inside.store; first = c.self.inside.first; second = c.self.inside.second; is_second = c.self.inside.is_second; purges = c.self.inside.purges; last = c.self.inside.last }) c.write.new.self c.write.ensures.grown c.legal.ensures c.self.invariant

pub returns-clause-grown : goal.returns-clause-grown
returns-clause-grown c = subst (λ (v : WorldLinkView). HasGrown v.store c.write.new.self) c.self.view_is c.write.ensures.grown

pub returns-clause-ok : goal.returns-clause-ok
returns-clause-ok c =
    let v : WorldLinkView = record { store = c.self.inside.store; first = c.self.inside.first; second = c.self.inside.second; is_second = c.self.inside.is_second; purges = c.self.inside.purges; last = c.self.inside.last } in
    subst (λ (x : WorldLinkView). IfOk c.write.result (λ reply. IsWrite x (record v { store = c.write.new.self }) c.args.change c.args.condition (is_some c.args.change.document) reply)) c.self.view_is
    (wrote_is v c.write.new.self c.args.change c.args.condition (is_some c.args.change.document) c.write.result c.write.ensures.told c.write.ensures.ok)
