-- it was counted when the turn was given back
use Rattle.hub_desk.proofs.seated.calls.SeatedDesk.commits.Goals as goal

pub returns : goal.returns
returns g c = c.args.self.now.counted
