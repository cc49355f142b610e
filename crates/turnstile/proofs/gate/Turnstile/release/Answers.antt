use Rattle.std.proofs.Common.{rules, ◌≡◌}
use Rattle.turnstile.proofs.Steps.{release_keeps}
use Rattle.turnstile.proofs.gate.Turnstile.release.Goals as goal

pub store-requires : goal.store-requires
store-requires g c =
    let has = c.requires.value in
    let keyed : g.T.Stands.setting has.0 ≡ g.T.Stands.setting c.args.self.now.board.shared.key.value = cc (c.requires.own.1, has.3) in (search rules, search rules, release_keeps _ _ _ _ _ _ _ has.0 c.requires.own.1 c.requires.known has.1 has.2 keyed)
