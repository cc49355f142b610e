-- what a connection leaves may cross threads
use denote.Param.{param}
use Rattle.quaestor_serve.proofs.CrossingLemmas.{leaves, done_send}
use Rattle.quaestor_serve.proofs.threads.try_start.Goals as goal

pub spawn_with-requires-send-T : goal.spawn_with-requires-send-T
spawn_with-requires-send-T g c κs within =
    let sent = done_send (param 0 g.row.S) (param 1 g.row.K) c.type_bounds.send-S c.type_bounds.send-K in
    record { owned = sent.owned; leaving = leaves 3 _ sent }
