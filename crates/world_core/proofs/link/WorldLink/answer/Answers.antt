-- the answer of the call, as that of the link
use Rattle.std.proofs.Common.{Result, Err, sym, subst}
use Rattle.client_model.specs.declared.reply.Reply.{Reply}
use Rattle.client_session.specs.declared.ask.ClientAsk.{ClientAsk}
use Rattle.client_session.specs.declared.ask.ClientAsk.TheVariants as ask
use Rattle.client_session.specs.declared.ask.LinkRefusal.{LinkRefusal}
use Rattle.client_session.specs.declared.ask.LinkRefusal.TheVariants as link
use Rattle.world_core.specs.Link.{IsAnswer, IsAnswerOf}
use Rattle.world_core.proofs.LinkLemmas.{delete_answer, linked_uncounted, put_answer, read_answer, read_told_of, refused_page}
use Rattle.world_core.proofs.StoreLemmas.{same_store}
use Rattle.world_core.proofs.link.WorldLink.answer.Goals as goal

pub returns-in-Read-clause-answer : goal.returns-in-Read-clause-answer
returns-in-Read-clause-answer c =
    subst (λ (a : ClientAsk). IsAnswer c.args.self.now c.read.new.self a c.linked.result) (sym c.in-Read.is)
    (subst (λ (t : Result Reply LinkRefusal). IsAnswer c.args.self.now c.read.new.self (ask.Read c.in-Read.key c.in-Read.no_cache) t) (sym c.linked.ensures)
    (read_answer c.args.self.now c.read.new.self c.in-Read.key c.in-Read.no_cache c.read.result c.read.ensures.ok))

pub returns-in-Read-clause-told : goal.returns-in-Read-clause-told
returns-in-Read-clause-told c =
    subst (λ (a : ClientAsk). IsAnswerOf c.args.self.now.store c.read.new.self.store a c.linked.result) (sym c.in-Read.is)
    (subst (λ (t : Result Reply LinkRefusal). IsAnswerOf c.args.self.now.store c.read.new.self.store (ask.Read c.in-Read.key c.in-Read.no_cache) t) (sym c.linked.ensures)
    (read_told_of c.args.self.now.store c.read.new.self.store c.in-Read.key c.in-Read.no_cache c.read.result c.read.ensures.told))

pub returns-in-Read-clause-refused : goal.returns-in-Read-clause-refused
returns-in-Read-clause-refused c = rw c.linked.ensures (linked_uncounted c.read.result)

pub returns-in-Put-clause-answer : goal.returns-in-Put-clause-answer
returns-in-Put-clause-answer c =
    subst (λ (a : ClientAsk). IsAnswer c.args.self.now c.put.new.self a c.linked-in-Put.result) (sym c.in-Put.is)
    (subst (λ (t : Result Reply LinkRefusal). IsAnswer c.args.self.now c.put.new.self (ask.Put c.in-Put.collection c.in-Put.id c.in-Put.text c.in-Put.condition) t) (sym c.linked-in-Put.ensures)
    (put_answer c.args.self.now c.put.new.self c.in-Put.collection c.in-Put.id c.in-Put.text c.in-Put.condition c.put.result c.put.ensures.ok))

pub returns-in-Put-clause-told : goal.returns-in-Put-clause-told
returns-in-Put-clause-told c =
    subst (λ (a : ClientAsk). IsAnswerOf c.args.self.now.store c.put.new.self.store a c.linked-in-Put.result) (sym c.in-Put.is) tt

pub returns-in-Put-clause-refused : goal.returns-in-Put-clause-refused
returns-in-Put-clause-refused c = rw c.linked-in-Put.ensures (linked_uncounted c.put.result)

pub returns-in-Delete-clause-answer : goal.returns-in-Delete-clause-answer
returns-in-Delete-clause-answer c =
    subst (λ (a : ClientAsk). IsAnswer c.args.self.now c.delete.new.self a c.linked-in-Delete.result) (sym c.in-Delete.is)
    (subst (λ (t : Result Reply LinkRefusal). IsAnswer c.args.self.now c.delete.new.self (ask.Delete c.in-Delete.collection c.in-Delete.id c.in-Delete.condition) t) (sym c.linked-in-Delete.ensures)
    (delete_answer c.args.self.now c.delete.new.self c.in-Delete.collection c.in-Delete.id c.in-Delete.condition c.delete.result c.delete.ensures.ok))

pub returns-in-Delete-clause-told : goal.returns-in-Delete-clause-told
returns-in-Delete-clause-told c =
    subst (λ (a : ClientAsk). IsAnswerOf c.args.self.now.store c.delete.new.self.store a c.linked-in-Delete.result) (sym c.in-Delete.is) tt

pub returns-in-Delete-clause-refused : goal.returns-in-Delete-clause-refused
returns-in-Delete-clause-refused c = rw c.linked-in-Delete.ensures (linked_uncounted c.delete.result)

pub returns-in-Page-clause-answer : goal.returns-in-Page-clause-answer
returns-in-Page-clause-answer c =
    subst (λ (a : ClientAsk). IsAnswer c.args.self.now c.args.self.now a (Err (link.Status 405))) (sym c.in-Page.is) (refused_page c.args.self.now c.args.self.now)

pub returns-in-Page-clause-told : goal.returns-in-Page-clause-told
returns-in-Page-clause-told c =
    subst (λ (a : ClientAsk). IsAnswerOf c.args.self.now.store c.args.self.now.store a (Err (link.Status 405))) (sym c.in-Page.is) tt

pub returns-in-Page-clause-grown : goal.returns-in-Page-clause-grown
returns-in-Page-clause-grown c = same_store c.args.self.now.store
