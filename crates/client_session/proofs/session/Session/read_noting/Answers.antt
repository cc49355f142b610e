use Rattle.std.proofs.Common.{sym, subst}
use Rattle.client_session.specs.Session.{SessionView, HasPast}
use Rattle.client_session.proofs.SessionLemmas.{after_reading}
use Rattle.client_session.proofs.session.Session.read_noting.Goals as goal

-- the read is one of the past, and so is the key's place in the whitelist
pub returns-clause-past : goal.returns-clause-past
returns-clause-past g c = λ past has.
    after_reading _ past (subst (λ (s : SessionView). HasPast s past) (sym c.self.view_is) has) c.args.key.now c.in_ok-out.out c.is_flagged.result c.is_flagged.ensures
    c.in_ok-seen.seen c.in_ok-asked.asked c.in_ok-seen.ensures.cases c.in_ok-asked.ensures.cases
    c.reserve.new.self.entries c.note.new.kept.entries c.in_ok-reserve.ensures.entries c.note.ensures.commits
    c.reserve-2.new.self.keys c.list.new.keys.keys c.in_ok-reserve-2.ensures.keys c.list.ensures
    c.max-self-inside.result c.max-self-inside.ensures
