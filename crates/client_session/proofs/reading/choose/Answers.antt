use Rattle.std.proofs.Common.{[], ◌∷◌, refl, sym}
use Rattle.client_session.specs.Link.{through, direct}
use Rattle.client_session.proofs.reading.choose.Goals as goal

-- the server was asked at once
pub returns-in-Some : goal.returns-in-Some
returns-in-Some g c = record {
  by = (
    direct c.args.second.now c.direct.result ∷ [],
    (c.direct.new.self, (c.direct.ensures.answered, c.direct.ensures.went), refl),
    (c.in-Some.why, sym c.in-Some.ensures, refl, c.by_server.ensures),
  );
}

-- the caches gave the answer
pub returns-in-Answered : goal.returns-in-Answered
returns-in-Answered g c = record {
  by = (
    through c.args.first.now c.through.result ∷ [],
    (c.through.new.self, (c.through.ensures.answered, c.through.ensures.went), refl),
    (sym c.in_default.ensures, refl, sym c.in-Answered.ensures),
  );
}

-- the server was asked after the caches
pub returns-in-Asks : goal.returns-in-Asks
returns-in-Asks g c = record {
  by = (
    through c.args.first.now c.through.result ∷ direct c.args.second.now c.direct-in-Asks.result ∷ [],
    (
      c.through.new.self,
      (c.through.ensures.answered, c.through.ensures.went),
      (c.direct-in-Asks.new.self, (c.direct-in-Asks.ensures.answered, c.direct-in-Asks.ensures.went), refl),
    ),
    (c.in-Asks.why, sym c.in_default.ensures, refl, sym c.in-Asks.ensures, refl, c.by_server-in-Asks.ensures),
  );
}
