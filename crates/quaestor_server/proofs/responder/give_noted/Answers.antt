-- the note is behind the reply
use Rattle.http_front.specs.ReplyText.{IsReplyText}
use Rattle.quaestor_server.proofs.ConversationLemmas.{given_noted}
use Rattle.quaestor_server.proofs.responder.give_noted.Goals as goal

pub returns : goal.returns
returns g c = record {
  reply =
      given_noted (λ text. IsReplyText c.args.shape.now c.args.told.now c.args.page.now c.args.close text) _ _ _ _ c.note.ensures.same
      c.give_reply-given.ensures.reply;
}
