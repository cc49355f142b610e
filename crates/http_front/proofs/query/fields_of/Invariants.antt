use Rattle.std.proofs.Common.{◌≡◌, length}
use Rattle.http_front.specs.Query.{fields_of, pieces_of}
use Rattle.http_front.proofs.QueryLemmas.{behind_fields}
use Rattle.http_front.proofs.query.fields_of.Given as goal

abbrev pub invariant-loop-values : goal.invariant-loop-values
invariant-loop-values l =
    behind_fields l.values.items (fields_of l.route (pieces_of l.rest)) ≡ fields_of l.route (pieces_of l.query)

abbrev pub decreases-loop-values : goal.decreases-loop-values
decreases-loop-values l = length l.rest
