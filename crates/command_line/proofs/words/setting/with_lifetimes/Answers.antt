-- both lifetimes are within the limits
use Rattle.std.proofs.Common.{◌∙◌}
use Rattle.command_line.proofs.WordLemmas.{lasting_is}
use Rattle.command_line.proofs.words.setting.with_lifetimes.Goals as goal

pub returns : goal.returns
returns c =
    let was = c.in-Ok.is in
    let is = c.with_ttls.ensures ∙ lasting_is c.args.config c.args.absent c.args.shared c.requires.absent c.requires.shared in
    cc

pub unreachable-requires : goal.unreachable-requires
unreachable-requires c =
    let was = c.in-Err.is in
    let is = c.with_ttls.ensures ∙ lasting_is c.args.config c.args.absent c.args.shared c.requires.absent c.requires.shared in
    absurd cc
