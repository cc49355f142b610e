use Rattle.http_front.proofs.RouteLemmas.{route_found, route_missing, route_of_bytes}
use Rattle.http_front.proofs.routes.Routes.found.Goals as goal

pub returns-in_default : goal.returns-in_default
returns-in_default c = route_of_bytes c.args.path.now c.in_default.ensures.cases.0

pub returns-in-Ok-at : goal.returns-in-Ok-at
returns-in-Ok-at c =
    route_found c.self.inside.router c.args.path.now c.in-Ok.path.now _ c.self.invariant c.in-Ok.ensures.cases.1
    c.in-Ok.ensures.cases.0 c.in-Ok-at.ensures.found

pub returns-in-Err : goal.returns-in-Err
returns-in-Err c =
    route_missing c.self.inside.router c.args.path.now c.in-Ok.path.now c.self.invariant c.in-Ok.ensures.cases.1
    c.in-Ok.ensures.cases.0 c.in-Err.ensures.missing
