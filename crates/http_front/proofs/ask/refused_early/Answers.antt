use Rattle.std.proofs.Common.{◌∙◌, sym}
use Rattle.percent_encoding.specs.Percent.{percent_decode}
use Rattle.q_base.specs.Name.{read_name}
use Rattle.http_front.specs.Asks.{name_in, record_by}
use Rattle.http_front.proofs.EarlyLemmas.{bad_names}
use Rattle.http_front.proofs.ask.refused_early.Goals as goal

pub returns-then-not-are_names-clause-some : goal.returns-then-not-are_names-clause-some
unfolding name_in
returns-then-not-are_names-clause-some c =
    bad_names (read_name (percent_decode c.args.collection.now)) (read_name (percent_decode c.args.id.now))
    (λ collection id. record_by c.args.request.now collection id c.args.method) (sym c.are_names.ensures ∙ (cc))
