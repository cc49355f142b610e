-- Internal. The fields that print a query.
use Rattle.std.specs.Prelude.{◌≡◌}
use Rattle.std.specs.Fmt.{decimal}
use Rattle.query_core.specs.Print.{filter_text, order_text}
use Rattle.query_core.specs.declared.query.Query.{Query}
use Rattle.query_core.specs.declared.query.Kind.{Kind}
use Rattle.query_lang.specs.declared.query.Fields.{Fields}
use Rattle.query_lang.specs.Queries.{bytes_of}
use Rattle.query_lang.specs.QueryText.{IsKindField}

-- the fields are FILTER, ORDER, SKIP and TAKE as `print_query` writes them, and the kind
pub record IsPrinted (fields : Fields) (q : Query) (k : Kind) : Type 0 where
  pub filter : bytes_of fields.f ≡ filter_text q.filter
  pub order : bytes_of fields.o ≡ order_text q.order
  pub skip : bytes_of fields.s ≡ decimal q.skip
  pub take : bytes_of fields.n ≡ decimal q.take
  pub kind : IsKindField (bytes_of fields.k) k
