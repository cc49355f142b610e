-- a matcher with all that it needs may cross threads, and so may what it leaves
use denote.Param.{param, copied}
use Rattle.std.proofs.Common.{[]}
use Rattle.quaestor_serve.proofs.CrossingLemmas.{leaves, matcher_send, rested_send}
use Rattle.quaestor_serve.proofs.matchers.begin_matcher.Goals as goal

pub spawn_with-spawned-requires-send-F : goal.spawn_with-spawned-requires-send-F
spawn_with-spawned-requires-send-F g c κs within =
    let sent = matcher_send [] (copied 1 g.row.R) (param 0 g.row.C) (param 2 g.row.M) c.type_bounds.send-R c.type_bounds.send-C c.type_bounds.send-M in
    record { owned = sent.owned; leaving = leaves 2 _ sent }

pub spawn_with-spawned-requires-send-T : goal.spawn_with-spawned-requires-send-T
spawn_with-spawned-requires-send-T g c κs within =
    let sent = rested_send (param 0 g.row.C) c.type_bounds.send-C in
    record { owned = sent.owned; leaving = leaves 3 _ sent }
