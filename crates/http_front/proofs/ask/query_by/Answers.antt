use Rattle.std.proofs.Common.{◌∙◌, sym}
use Rattle.std.specs.Prelude.{Ok}
use Rattle.percent_encoding.specs.Percent.{percent_decode}
use Rattle.q_base.specs.Name.{read_name}
use Rattle.query_normal.specs.Normal.{normal_query}
use Rattle.query_normal.specs.declared.key.KeyShape.TheVariants as key
use Rattle.http_front.specs.Answered.{and_then}
use Rattle.http_front.specs.Asks.{known_of, name_in}
use Rattle.http_front.specs.Filters.{query_in}
use Rattle.http_front.specs.declared.ask.Ask.TheVariants.{Read}
use Rattle.http_front.proofs.EarlyLemmas.{bad_name}
use Rattle.http_front.proofs.ask.query_by.Goals as goal

pub returns-then-not-is_name-clause-asked : goal.returns-then-not-is_name-clause-asked
unfolding name_in
returns-then-not-is_name-clause-asked c =
    bad_name (read_name (percent_decode c.args.collection.now))
    (λ collection. and_then (known_of c.args.request.now) (λ known. and_then (query_in collection c.args.fields) (λ read. Ok (Read (key.Query read.1 (normal_query read.0)) known c.args.head))))
    (sym c.is_name.ensures ∙ (cc))
