-- the address, the options of a configuration, and then those of `serve`
use Rattle.command_line.proofs.CommandLemmas.{serve_is}
use Rattle.command_line.proofs.commands.serve_command.Goals as goal

pub returns : goal.returns
returns c = serve_is _ _ _ _ _ _ _ _ _ _ _ _ c.in_ok-bare.ensures c.in_ok-address.ensures c.in_ok-config.ensures c.in_ok-places.ensures c.in_ok-workers.ensures c.in_ok-matchers.ensures c.in_ok-keep.ensures c.in_ok-connections.ensures c.in_ok-limits.ensures c.in_ok-origins.ensures c.in_ok-watching.ensures c.in_ok-store.ensures
