-- a dialogue with the desk is a conversation
use Rattle.std.proofs.Common.{rules}
use Rattle.quaestor_server.proofs.ConversationLemmas.{conversation}
use Rattle.quaestor_server.proofs.connection.serve_connection.Goals as goal

pub returns-clause-conversation : goal.returns-clause-conversation
returns-clause-conversation g c = conversation (λ a. a.desk.now) (λ a. a.clock.now) g.D.Desk.setting g.D.Desk.may_be_unready g.D.Desk.seen g.D.Desk.mine g.D.Desk.anchor g.D.Desk.is_kept g.C.Clock.tick _ _ _ _ _ _ _ c.hold_dialogue.ensures.dialogue (search rules) (search rules)
