-- the document is written that the text prints; any other text is refused
use Rattle.std.proofs.Common.{refl, inl, inr}
use Rattle.std.proofs.lemmas.Result.{IfOk-weaker}
use Rattle.world_core.proofs.StoreLemmas.{same_store}
use Rattle.world_core.proofs.link.WorldLink.put.Goals as goal

pub returns-in_err-found-clause-grown : goal.returns-in_err-found-clause-grown
returns-in_err-found-clause-grown c = same_store c.args.self.now.store

pub returns-in-Some-clause-ok : goal.returns-in-Some-clause-ok
returns-in-Some-clause-ok c =
    let prints = rw c.in-Some.is at c.in_ok-found.ensures in
    IfOk-weaker c.put_doc.result _ _ (λ reply w. inl (c.in-Some.doc, prints, w)) c.put_doc.ensures.ok

pub returns-in-None-clause-ok : goal.returns-in-None-clause-ok
returns-in-None-clause-ok c = IfOk-weaker c.bare_reply.result _ _ (λ reply e. inr (refl, e)) c.bare_reply.ensures

pub returns-in-None-clause-grown : goal.returns-in-None-clause-grown
returns-in-None-clause-grown c = same_store c.args.self.now.store
