-- fields that were decoded are of a route that takes them, or there is no query
use Rattle.std.proofs.Common.{◌∙◌, sym}
use Rattle.std.specs.Option.{option_copied}
use Rattle.http_front.proofs.EarlyLemmas.{free_values}
use Rattle.http_front.proofs.ask.ask_route.Goals as goal

pub returns-clause-early : goal.returns-clause-early
returns-clause-early c = λ free.
    c.ask_by.ensures.early
    (free_values c.args.request.now c.args.path.now c.in-Ok.method (option_copied c.args.query) c.args.route c.in-Some.fields
    (let known = c.in_ok-fields.ensures.fields in rw c.in-Some.is at known) (sym c.method_in.ensures ∙ c.in-Ok.is) free)
