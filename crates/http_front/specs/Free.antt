-- Internal. Requests that are answered without memory, by how far they are read.
use Rattle.std.specs.Prelude.{ℕ, Bool, true, false, not, ◌&&◌, ◌||◌, is_ok, List, Option, Some, None, Result, Ok, Err}
use Rattle.http_message.specs.Message.{Message}
use Rattle.http_front.specs.Asks.{has_length, has_no_coding, method_in, name_in}
use Rattle.http_front.specs.Query.{takes_fields}
use Rattle.http_front.specs.Routes.{collection_in, id_in, queried_in}
use Rattle.http_front.specs.declared.refused.Refused.{Refused}
use Rattle.http_front.specs.declared.routes.Route.{Route}
use Rattle.http_front.specs.declared.routes.Route.TheVariants.{Record, Query, Filter, Purges, Match, Horizon, Stats}
use Rattle.http_front.specs.declared.routes.Method.{Method}
use Rattle.http_front.specs.declared.routes.Method.TheVariants.{Get, Head, Post, Put, Delete}

-- the length of the body is not given, or it has a coding
unfoldable pub is_bare : Message → Bool
is_bare m = not (has_length m) || not (has_no_coding m)

-- a PUT whose body is refused
abbrev pub is_bare_call : Message → Method → Bool
is_bare_call m Put = is_bare m
is_bare_call m Get = false
is_bare_call m Head = false
is_bare_call m Post = false
is_bare_call m Delete = false

-- a record's method is refused, or it is a PUT whose body is refused
abbrev pub is_bare_put : Message → Result Method Refused → Bool
is_bare_put m (Err refused) = true
is_bare_put m (Ok method) = is_bare_call m method

-- a record of which a name is none, or a PUT whose body is refused
abbrev pub is_free_record : Message → (collection id : List ℕ) → Method → Bool
is_free_record m collection id method = not (is_ok (name_in collection) && is_ok (name_in id)) || is_bare_call m method

-- a request of this route and method, without a query
abbrev pub is_free_call : Message → List ℕ → Route → Method → Bool
is_free_call m path Record method = is_free_record m (collection_in path) (id_in path) method
is_free_call m path Query method = not (is_ok (name_in (queried_in path)))
is_free_call m path Filter method = true
is_free_call m path Purges method = true
is_free_call m path Match method = true
is_free_call m path Horizon method = true
is_free_call m path Stats method = true

-- there is no query, or the route takes no fields
abbrev pub is_free_query : Route → Option (List ℕ) → Bool
is_free_query found None = true
is_free_query found (Some query) = not (takes_fields found)

-- a request of a route, by its method
abbrev pub is_free_with : Message → List ℕ → Option (List ℕ) → Route → Result Method Refused → Bool
is_free_with m path query found (Err refused) = true
is_free_with m path None found (Ok method) = is_free_call m path found method
is_free_with m path (Some query) found (Ok method) = not (takes_fields found)

-- a request of a path, by its route
abbrev pub is_free_at : Message → List ℕ → Option (List ℕ) → Option Route → Bool
is_free_at m path query None = true
is_free_at m path query (Some found) = is_free_with m path query found (method_in m found)
