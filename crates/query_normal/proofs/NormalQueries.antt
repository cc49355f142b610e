-- The normal form of a query of the language is one, and its own normal form.
use Rattle.std.proofs.Common.{◌≡◌, ℕ, Bool, false, List, arith}
use Rattle.std.proofs.lemmas.List.Elements.{All-from_recursion, recursion_from_All}
use Rattle.query_core.specs.declared.query.Query.{Query}
use Rattle.query_core.specs.Limits.{IsUtf8Path, IsQuery}
use Rattle.query_normal.specs.Normal.{normal_order, normal_query, IsNormal}
use Rattle.query_normal.proofs.OrderForms.{order_twice, order_shorter, order_all}
use Rattle.query_normal.proofs.Settled.{normal_twice}
use Rattle.query_normal.proofs.SizeForms.{normal_leaves, normal_low, normal_is_filter}

pub query_twice : (q : Query) → normal_query (normal_query q) ≡ normal_query q
query_twice q i = record {
  collection = q.collection;
  filter = normal_twice false q.filter i;
  order = order_twice q.order i;
  skip = q.skip;
  take = q.take;
}

pub query_stays : (q : Query) → IsQuery q → IsQuery (normal_query q)
query_stays q is = record {
  filter_is = normal_is_filter false q.filter is.filter_is;
  few_leaves = let fewer = normal_leaves false q.filter is.filter_is in let few = is.few_leaves in omega (arith, fewer, few);
  low = let lower = normal_low false q.filter in let low = is.low in omega (arith, lower, low);
  paths = All-from_recursion (λ (p : List (List ℕ) × Bool). IsUtf8Path p.0) (normal_order q.order) (order_all (λ p. IsUtf8Path p.0) q.order (recursion_from_All (λ p. IsUtf8Path p.0) q.order is.paths));
  few_paths = let fewer = order_shorter q.order in let few = is.few_paths in omega (arith, fewer, few);
  skip_limit = is.skip_limit;
  take_some = is.take_some;
  take_limit = is.take_limit;
}

pub query_normal : (q : Query) → IsQuery q → IsNormal (normal_query q)
query_normal q is = record { is_query = query_stays q is; itself = query_twice q }
