-- Believed. The routes: which one a path has, its names, and its methods.
use Rattle.std.specs.Prelude.{◌≡◌, ℕ, Bool, true, false, if◌then◌else◌, bytes_eq, List, [], length, drop, Option, Some, None, option_map, Result, Ok, Err, codes}
use Rattle.std.specs.Str.{is_utf8}
use Rattle.matchit.specs.Rows.{RowsOf}
use Rattle.matchit.specs.Order.{placed}
use Rattle.matchit.specs.Route.{Scan, parse_route}
use Rattle.matchit.specs.Router.{RouteOf, route_from}
use Rattle.matchit.specs.Seek.{first}
use Rattle.matchit.specs.declared.error.InsertError.{InsertError}
use Rattle.http_front.specs.declared.refused.Allow.{Allow}
use Rattle.http_front.specs.declared.refused.Allow.TheVariants as allow
use Rattle.http_front.specs.Target.{ahead_of, after}
use Rattle.http_front.specs.declared.routes.Route.{Route}
use Rattle.http_front.specs.declared.routes.Route.TheVariants.{Record, Query, Filter, Purges, Match, Horizon, Stats}
use Rattle.http_front.specs.declared.routes.Served.{Served}
use Rattle.http_front.specs.declared.routes.Method.{Method}
use Rattle.http_front.specs.declared.routes.Method.TheVariants.{Get, Head, Post, Put, Delete}

-- routes as `matchit` keeps them
abbrev pub Table : Type 0
Table = RowsOf (RouteOf Route)

-- a further route, where its text is one
abbrev pub added_by : Result Scan InsertError → Route → Table → Table
added_by (Ok scan) route rows = placed (scan.pattern, route_from scan route) rows
added_by (Err error) route rows = rows

-- a further route of this text
abbrev pub added : List ℕ → Route → Table → Table
added text route rows = added_by (parse_route text) route rows

-- all routes
unfoldable pub table : Table
table =
    added (codes "/v1/stats") Stats
    (added (codes "/v1/horizon") Horizon
    (added (codes "/v1/match") Match
    (added (codes "/v1/purges") Purges
    (added (codes "/v1/filter") Filter
    (added (codes "/v1/q/{collection}") Query
    (added (codes "/v1/d/{collection}/{id}") Record []))))))

-- the routes are these
pub record IsTable (rows : Table) : Type 0 where
  pub is : rows ≡ table

-- the route of a path; one that is not UTF-8 has none
unfoldable pub route_of : List ℕ → Option Route
route_of path = if is_utf8 path then option_map (λ row. row.value) (first table path) else None

-- whether a route is served
abbrev pub serves : Served → Route → Bool
serves s Record = s.records
serves s Query = s.queries
serves s Filter = s.page
serves s Purges = s.purges
serves s Match = s.matching
serves s Horizon = s.horizon
serves s Stats = s.stats

-- every route is served
abbrev pub all_routes : Served
all_routes = record { records = true; queries = true; page = true; purges = true; matching = true; horizon = true; stats = true }

-- a route, where it is served
abbrev pub served_of : Served → Option Route → Option Route
served_of s None = None
served_of s (Some route) = if serves s route then Some route else None

-- what precedes the names in the path of a record
abbrev pub record_prefix : List ℕ
record_prefix = codes "/v1/d/"

-- what precedes the name in the path of a query
abbrev pub query_prefix : List ℕ
query_prefix = codes "/v1/q/"

-- the name of a record's collection in its path, as it was written
abbrev pub collection_in : List ℕ → List ℕ
collection_in path = ahead_of 47 (drop (length record_prefix) path)

-- the name of a document after it
abbrev pub id_in : List ℕ → List ℕ
id_in path = after 47 (drop (length record_prefix) path)

-- the name of a query's collection in its path, as it was written
abbrev pub queried_in : List ℕ → List ℕ
queried_in path = ahead_of 47 (drop (length query_prefix) path)

-- the method of these bytes, where some route has it (RFC 9110, section 9.3)
abbrev pub method_of : List ℕ → Option Method
method_of text =
    if bytes_eq text (codes "GET") then Some Get
    else (if bytes_eq text (codes "HEAD") then Some Head
    else (if bytes_eq text (codes "POST") then Some Post
    else (if bytes_eq text (codes "PUT") then Some Put
    else (if bytes_eq text (codes "DELETE") then Some Delete else None))))

-- the methods that are allowed: of a record, of a match or a drop, and of the others
abbrev pub allows : Allow → Method → Bool
allows allow.Record Post = false
allows allow.Record method = true
allows allow.Post Post = true
allows allow.Post method = false
allows allow.Other Get = true
allows allow.Other Head = true
allows allow.Other method = false

-- the methods of a route
abbrev pub methods_of : Route → Allow
methods_of Record = allow.Record
methods_of Match = allow.Post
methods_of Horizon = allow.Post
methods_of Query = allow.Other
methods_of Filter = allow.Other
methods_of Purges = allow.Other
methods_of Stats = allow.Other
