-- Internal. The codes of orders and queries.
use Rattle.std.specs.Prelude.{ℕ, List, refl}
use Rattle.std.specs.Coded.{Coded, code_by, coded×, coded_ℕ, coded_bool, coded_list}
use Rattle.query_core.specs.declared.query.Query.{Query}
use Rattle.query_core.specs.Code.{filter_code}
use Rattle.query_core.specs.Filters.{Filter}
use Rattle.query_core.specs.Window.{Order}

-- an order is stored as it is
abbrev pub order_code : Coded Order
order_code = coded_list (coded× (coded_list (coded_list coded_ℕ)) coded_bool)

-- a query is stored as its parts
abbrev pub query_code : Coded Query
query_code =
    code_by (List ℕ × (Filter × (Order × (ℕ × ℕ)))) (coded× (coded_list coded_ℕ) (coded× filter_code (coded× order_code (coded× coded_ℕ coded_ℕ))))
    (λ q. (q.collection, (q.filter, (q.order, (q.skip, q.take)))))
    (λ p. record { collection = p.0; filter = p.1.0; order = p.1.1.0; skip = p.1.1.1.0; take = p.1.1.1.1 }) (λ _. refl)
