use Rattle.std.proofs.Common.{ap, sym}
use Rattle.std.specs.Option.{option_copied}
use Rattle.http_front.proofs.QueryLemmas.{no_fields_in}
use Rattle.http_front.proofs.query.fields_in.Goals as goal

pub returns-then-not-takes_fields-clause-fields : goal.returns-then-not-takes_fields-clause-fields
returns-then-not-takes_fields-clause-fields c =
    sym (no_fields_in c.args.route (option_copied c.args.query) c.in-Some.query.now (ap option_copied c.in-Some.is) (cc))
