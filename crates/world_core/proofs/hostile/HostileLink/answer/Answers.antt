-- a read by the move that was used up, and any other ask as it is
use Rattle.std.proofs.Common.{◌∙◌, ap, sym, subst}
use Rattle.std.specs.Prelude.{Result}
use Rattle.client_model.specs.declared.reply.Reply.{Reply}
use Rattle.client_session.specs.declared.ask.ClientAsk.{ClientAsk}
use Rattle.client_session.specs.declared.ask.ClientAsk.TheVariants as ask
use Rattle.client_session.specs.declared.ask.LinkRefusal.{LinkRefusal}
use Rattle.world_core.specs.Hostile.{HostileView, IsHostileCall, given_after, repeated}
use Rattle.world_core.specs.Link.{IsAnswerOf}
use Rattle.world_core.specs.Store.{HasGrown}
use Rattle.world_core.proofs.HostileLemmas.{passed_call, read_call}
use Rattle.world_core.proofs.LinkLemmas.{linked_uncounted, read_told_of}
use Rattle.world_core.proofs.hostile.HostileLink.answer.Goals as goal

pub returns-in-Read-clause-call : goal.returns-in-Read-clause-call
returns-in-Read-clause-call c =
    subst (λ (a : ClientAsk). IsHostileCall c.args.self.now c.read.new.self a c.linked.result) (sym c.in-Read.is)
    (subst (λ (t : Result Reply LinkRefusal). IsHostileCall c.args.self.now c.read.new.self (ask.Read c.in-Read.key c.in-Read.no_cache) t) (sym c.linked.ensures)
    (read_call c.args.self.now c.next_back-back.new.self c.read.new.self c.next_back-back.result c.in-Read.key c.in-Read.no_cache c.read.result
    c.next_back-back.ensures.back c.next_back-back.ensures.rest c.read.ensures.ok c.read.ensures.rest))

pub returns-in-Read-clause-told : goal.returns-in-Read-clause-told
returns-in-Read-clause-told c =
    subst (λ (a : ClientAsk). IsAnswerOf c.args.self.now.link.store c.read.new.self.link.store a c.linked.result) (sym c.in-Read.is)
    (subst (λ (t : Result Reply LinkRefusal). IsAnswerOf c.args.self.now.link.store c.read.new.self.link.store (ask.Read c.in-Read.key c.in-Read.no_cache) t) (sym c.linked.ensures)
    (read_told_of c.args.self.now.link.store c.read.new.self.link.store c.in-Read.key c.in-Read.no_cache c.read.result c.read.ensures.told))

pub returns-in-Read-clause-refused : goal.returns-in-Read-clause-refused
returns-in-Read-clause-refused c = rw c.linked.ensures (linked_uncounted c.read.result)

pub returns-in-Read-clause-grown : goal.returns-in-Read-clause-grown
returns-in-Read-clause-grown c = subst (λ (x : HostileView). HasGrown x.link.store c.read.new.self.link.store) c.next_back-back.ensures.rest c.read.ensures.grown

pub returns-in-Read-clause-last : goal.returns-in-Read-clause-last
returns-in-Read-clause-last c = c.read.ensures.last ∙ ap (λ (x : HostileView). x.link.last) c.next_back-back.ensures.rest

pub returns-in-Put-clause-call : goal.returns-in-Put-clause-call
returns-in-Put-clause-call c =
    passed_call c.args.self.now c.next_back-back.new.self c.pass.new.self c.args.ask.now c.pass.result (ap (λ (a : ClientAsk). repeated c.args.self.now a) c.in-Put.is)
    (ap (λ (a : ClientAsk). given_after c.args.self.now.given a c.pass.result) c.in-Put.is) c.next_back-back.ensures.rest c.pass.ensures.answer c.pass.ensures.rest

pub returns-in-Put-clause-told : goal.returns-in-Put-clause-told
returns-in-Put-clause-told c = subst (λ (x : HostileView). IsAnswerOf x.link.store c.pass.new.self.link.store c.args.ask.now c.pass.result) c.next_back-back.ensures.rest c.pass.ensures.told

pub returns-in-Put-clause-grown : goal.returns-in-Put-clause-grown
returns-in-Put-clause-grown c = subst (λ (x : HostileView). HasGrown x.link.store c.pass.new.self.link.store) c.next_back-back.ensures.rest c.pass.ensures.grown

pub returns-in-Put-clause-last : goal.returns-in-Put-clause-last
returns-in-Put-clause-last c = c.pass.ensures.last ∙ ap (λ (x : HostileView). x.link.last) c.next_back-back.ensures.rest

pub returns-in-Delete-clause-call : goal.returns-in-Delete-clause-call
returns-in-Delete-clause-call c =
    passed_call c.args.self.now c.next_back-back.new.self c.pass-in-Delete.new.self c.args.ask.now c.pass-in-Delete.result (ap (λ (a : ClientAsk). repeated c.args.self.now a) c.in-Delete.is)
    (ap (λ (a : ClientAsk). given_after c.args.self.now.given a c.pass-in-Delete.result) c.in-Delete.is) c.next_back-back.ensures.rest c.pass-in-Delete.ensures.answer c.pass-in-Delete.ensures.rest

pub returns-in-Delete-clause-told : goal.returns-in-Delete-clause-told
returns-in-Delete-clause-told c = subst (λ (x : HostileView). IsAnswerOf x.link.store c.pass-in-Delete.new.self.link.store c.args.ask.now c.pass-in-Delete.result) c.next_back-back.ensures.rest c.pass-in-Delete.ensures.told

pub returns-in-Delete-clause-grown : goal.returns-in-Delete-clause-grown
returns-in-Delete-clause-grown c = subst (λ (x : HostileView). HasGrown x.link.store c.pass-in-Delete.new.self.link.store) c.next_back-back.ensures.rest c.pass-in-Delete.ensures.grown

pub returns-in-Delete-clause-last : goal.returns-in-Delete-clause-last
returns-in-Delete-clause-last c = c.pass-in-Delete.ensures.last ∙ ap (λ (x : HostileView). x.link.last) c.next_back-back.ensures.rest

pub returns-in-Page-clause-call : goal.returns-in-Page-clause-call
returns-in-Page-clause-call c =
    passed_call c.args.self.now c.next_back-back.new.self c.pass-in-Page.new.self c.args.ask.now c.pass-in-Page.result (ap (λ (a : ClientAsk). repeated c.args.self.now a) c.in-Page.is)
    (ap (λ (a : ClientAsk). given_after c.args.self.now.given a c.pass-in-Page.result) c.in-Page.is) c.next_back-back.ensures.rest c.pass-in-Page.ensures.answer c.pass-in-Page.ensures.rest

pub returns-in-Page-clause-told : goal.returns-in-Page-clause-told
returns-in-Page-clause-told c = subst (λ (x : HostileView). IsAnswerOf x.link.store c.pass-in-Page.new.self.link.store c.args.ask.now c.pass-in-Page.result) c.next_back-back.ensures.rest c.pass-in-Page.ensures.told

pub returns-in-Page-clause-grown : goal.returns-in-Page-clause-grown
returns-in-Page-clause-grown c = subst (λ (x : HostileView). HasGrown x.link.store c.pass-in-Page.new.self.link.store) c.next_back-back.ensures.rest c.pass-in-Page.ensures.grown

pub returns-in-Page-clause-last : goal.returns-in-Page-clause-last
returns-in-Page-clause-last c = c.pass-in-Page.ensures.last ∙ ap (λ (x : HostileView). x.link.last) c.next_back-back.ensures.rest
