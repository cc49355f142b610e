-- all are matched
use Rattle.std.proofs.lemmas.Result.{on_ok_weaker}
use Rattle.world_core.proofs.WorldLemmas.{first_matched}
use Rattle.world_core.proofs.world.fill.Goals as goal

pub returns : goal.returns
returns c = λ filled.
    on_ok_weaker c.match_all.result (λ e. first_matched c.more_entries.ensures.state c.front_is_within.ensures c.put_all.new.store c.match_all.new.self (c.in_ok-put_all.ensures filled) c.legal.ensures e) c.match_all.ensures.ok
