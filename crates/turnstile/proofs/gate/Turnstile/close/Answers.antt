use Rattle.turnstile.proofs.Closes.{closes_free, closes_held}
use Rattle.turnstile.proofs.gate.Turnstile.close.Goals as goal

-- the word is 0, so the value is at home
pub returns-then-word-eq0 : goal.returns-then-word-eq0
returns-then-word-eq0 g c =
    closes_free g.T.Stands.setting g.T.Stands.legal g.T.Stands.stands _ _ _ _ _ _ _ c.close_with-closed.ensures.values.2 c.word-word.ensures c.take-slot.ensures.value c.if-word-eq0.true

-- the word is not 0, so some seat has the turn
pub returns : goal.returns
returns g c =
    closes_held g.T.Stands.setting g.T.Stands.legal g.T.Stands.stands _ _ _ _ _ c.word-word.result c.take-slot.result c.close_with-closed.ensures.values.2 c.word-word.ensures c.if-word-eq0.false
