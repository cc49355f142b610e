-- the desk answered at the clock's moment, and the sink was given the text of its reply
use Rattle.std.proofs.Common.{ℕ, List, ap, ◌∙◌}
use Rattle.http_message.specs.Item.{request}
use Rattle.quaestor_server.specs.Ask.{shape_by}
use Rattle.quaestor_server.proofs.AnswerLemmas.{can_still, early_all, hosts_still, origins_still, read_all}
use Rattle.quaestor_server.proofs.ConversationLemmas.{replies}
use Rattle.quaestor_server.proofs.responder.ResponderAnswers.answer.Goals as goal

pub returns-clause-can : goal.returns-clause-can
returns-clause-can g c =
    let answered = c.answer-told.ensures.answer _ _ (early_all _ _ _ _ _ c.requires.2 c.requires.4 c.ask_to-read.ensures.early) (read_all _ _ _ _ _ c.requires.2 c.requires.4 c.ask_to-read.ensures.asked) in
    let still = can_still _ _ _ _ _ _ _ _ _ _ _ _ _ c.answer-told.ensures.setting c.requires.0 answered.answer c.answer-told.ensures.room in
    (still.0, still.1, c.requires.2, origins_still _ _ _ c.answer-told.ensures.setting c.requires.3, hosts_still _ _ _ c.answer-told.ensures.setting c.requires.4)

pub returns-clause-reply : goal.returns-clause-reply
returns-clause-reply g c =
    let answered = c.answer-told.ensures.answer _ _ (early_all _ _ _ _ _ c.requires.2 c.requires.4 c.ask_to-read.ensures.early) (read_all _ _ _ _ _ c.requires.2 c.requires.4 c.ask_to-read.ensures.asked) in
    replies g.D.Desk.setting g.D.Desk.may_be_unready g.D.Desk.seen g.D.Desk.mine g.D.Desk.anchor g.D.Desk.is_kept g.C.Clock.tick _ _ _ _ (request c.args.request.now) c.args.close _ _ _ _ _ _ _ _ c.answer-told.ensures.setting c.answer-told.ensures.anchor c.answer-told.ensures.kept c.now-moment.ensures (c.shape_of-shape.ensures ∙ ap (λ (o : List ℕ). shape_by o (request c.args.request.now)) c.requires.3) c.bytes.ensures answered c.give_noted.ensures.reply
