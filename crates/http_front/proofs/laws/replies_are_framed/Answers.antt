use Rattle.std.proofs.Common.{refl, rules}
use Rattle.http_front.proofs.FramingLemmas.{frames}
use Rattle.http_front.proofs.laws.replies_are_framed.Goals as goal

pub returns-clause-sized : goal.returns-clause-sized
returns-clause-sized c = frames c.args.head (λ n told. search rules)

pub returns-clause-bodiless : goal.returns-clause-bodiless
returns-clause-bodiless c = λ date none. rw none refl
