-- the connection that has left was handed back
use Rattle.quaestor_serve.specs.Served.{IsAtLog, KeptBy}
use Rattle.std.proofs.Common.{arith}
use Rattle.quaestor_serve.proofs.GoingLemmas.{hands_one}
use Rattle.quaestor_serve.proofs.rounds.hand_back.Goals as goal

pub returns : goal.returns
returns g c =
    let less = c.release-source.ensures.fewer in
    let old_length = c.args.hall.now.running.ok.0 in
    let new_length = c.release-source.new.hall.running.ok.0 in
    hands_one g.P.From.Source.at g.P.To.Sink.at g.P.To.Sink.ended g.C.Clock.tick (KeptBy g.H.Keeping.log g.H.Keeping.keeps) g.C.Clone.is_clone (IsAtLog g.H.Keeping.log) _ _ c.args.hall.now c.release-source.new.hall c.release-source.result.source c.release-source.result.sink c.release-source.result.served c.release-source.ensures.stays c.release-source.ensures.ready c.release-source.ensures.out (omega (arith, less, old_length, new_length)) c.release-source.ensures.releases c.back.ensures
