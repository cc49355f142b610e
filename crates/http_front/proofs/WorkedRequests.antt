-- Requests with what they ask, computed from the definitions.
use Rattle.std.proofs.Common.{◌≡◌, ℕ, List, [], ◌∷◌, refl, codes, true, false}
use Rattle.std.specs.Prelude.{Some, None, Result, Ok, Err}
use Rattle.std.specs.Str.{is_utf8, chars}
use Rattle.percent_encoding.specs.Percent.{percent_decode}
use Rattle.httparse.specs.Grammar.{trim_ows}
use Rattle.matchit.proofs.OnLiterals.{matchit_on_literals}
use Rattle.query_normal.specs.declared.key.KeyShape.TheVariants as key
use Rattle.hub_model.specs.declared.entry.Condition.{Condition}
use Rattle.hub_model.specs.declared.entry.Condition.TheVariants.{Always, Present, Absent, Unchanged}
use Rattle.hub_model.specs.declared.entry.Tags.TheVariants.{Any, Listed}
use Rattle.http_message.specs.Fields.{Pair, values}
use Rattle.http_front.specs.declared.refused.Allow.TheVariants as allow
use Rattle.http_front.specs.declared.refused.Refused.{Refused}
use Rattle.http_front.specs.declared.refused.Refused.TheVariants.{BadHost, BadTarget, NoRoute, BadMethod, NoLength, BadEncoding, BadTag}
use Rattle.http_front.specs.Answered.{and_then}
use Rattle.http_front.specs.Asks.{ask_of, document_in, has_host, has_length, has_no_coding, name_in, write}
use Rattle.http_front.specs.Numbers.{number_of}
use Rattle.http_front.specs.Query.{decoded, fields_in}
use Rattle.http_front.specs.Routes.{all_routes, route_of, table}
use Rattle.http_front.specs.Tags.{commits_in, members_of, tag_of, tags_in}
use Rattle.http_front.specs.Target.{local_part, path_of}
use Rattle.http_front.specs.declared.ask.Ask.{Ask}
use Rattle.http_front.specs.declared.ask.Ask.TheVariants.{Read, Purges, MatchAll, Horizon, Fetch, Stats}

-- what a request of these fields asks
abbrev pub asked_of : ℕ → List ℕ → List ℕ → List Pair → Result Ask Refused
asked_of minor method target fields =
    ask_of all_routes (record { method = method; target = target; minor = minor; fields = fields; body = codes "{}" })

-- of HTTP/1.1 with a Host
abbrev pub asked : List ℕ → List ℕ → List Pair → Result Ask Refused
asked method target fields = asked_of 1 method target ((codes "hOST", codes "a") ∷ fields)

-- a PUT of a record that gives its length, and what it asks where its body is a document
abbrev put : List Pair → Result Ask Refused
put fields = asked (codes "PUT") (codes "/v1/d/shop/p1") ((codes "content-length", codes "2") ∷ fields)

abbrev puts : Condition → Result Ask Refused
puts condition =
    and_then (document_in (codes "{}")) (λ document. Ok (write (codes "shop") (codes "p1") (Some document) condition))

-- the methods of the routes
pub methods : (asked (codes "POST") (codes "/v1/d/shop/p1") [] ≡ Err (BadMethod allow.Record))
    × (asked (codes "PUT") (codes "/v1/match") [] ≡ Err (BadMethod allow.Post))
    × (asked (codes "GET") (codes "/v1/horizon") [] ≡ Err (BadMethod allow.Post))
    × (asked (codes "DELETE") (codes "/v1/stats") [] ≡ Err (BadMethod allow.Other))
    × (asked (codes "get") (codes "/v1/stats") [] ≡ Err (BadMethod allow.Other))
    × (asked (codes "GET") (codes "/v1/x") [] ≡ Err NoRoute)
    × (asked (codes "GET") (codes "*") [] ≡ Err BadTarget)
    × (asked (codes "GET") (codes "http://b/v1/stats") [] ≡ Ok (Stats false))
    × (asked (codes "HEAD") (codes "/v1/filter") [] ≡ Ok (Fetch true))
    × (asked (codes "POST") (codes "/v1/match") [] ≡ Ok MatchAll)
    × (asked (codes "POST") (codes "/v1/horizon") [] ≡ Ok Horizon)
    × (asked (codes "POST") (codes "/v1/horizon?to=1") [] ≡ Err BadTarget)
    × (asked (codes "GET") (codes "/v1/stats?x=1") [] ≡ Err BadTarget)
unfolding ask_of has_host values local_part path_of route_of table matchit_on_literals is_utf8 chars lib.Utf8.encode fields_in decoded percent_decode
methods = (refl, refl, refl, refl, refl, refl, refl, refl, refl, refl, refl, refl, refl)

-- names, whose escapes are decoded
pub names : (asked (codes "GET") (codes "/v1/d/shop/P") [] ≡ Err BadTarget)
    × (asked (codes "GET") (codes "/v1/d/sh%6fp/p1") [] ≡ Ok (Read (key.Record (codes "shop") (codes "p1")) (Listed []) false))
    × (asked (codes "HEAD") (codes "/v1/d/shop/p1") [] ≡ Ok (Read (key.Record (codes "shop") (codes "p1")) (Listed []) true))
    × (asked (codes "GET") (codes "/v1/d/shop/a+b") [] ≡ Err BadTarget)
    × (asked (codes "GET") (codes "/v1/d/shop/p%2fq") [] ≡ Err BadTarget)
    × (asked (codes "DELETE") (codes "/v1/d/shop/p1") [] ≡ Ok (write (codes "shop") (codes "p1") None Always))
    × (asked (codes "GET") (codes "/v1/q/Shop") [] ≡ Err BadTarget)
unfolding ask_of has_host values local_part path_of route_of table matchit_on_literals is_utf8 chars lib.Utf8.encode fields_in decoded percent_decode name_in tags_in number_of
names = (refl, refl, refl, refl, refl, refl, refl)

-- purges, from a number from 1 to 2^63 on
pub purges : (asked (codes "GET") (codes "/v1/purges") [] ≡ Ok (Purges 1 false))
    × (asked (codes "HEAD") (codes "/v1/purges?from=7") [] ≡ Ok (Purges 7 true))
    × (asked (codes "GET") (codes "/v1/purges?from=9223372036854775808") [] ≡ Ok (Purges 9223372036854775808 false))
    × (asked (codes "GET") (codes "/v1/purges?from=9223372036854775809") [] ≡ Err BadTarget)
    × (asked (codes "GET") (codes "/v1/purges?from=0") [] ≡ Err BadTarget)
    × (asked (codes "GET") (codes "/v1/purges?from=07") [] ≡ Err BadTarget)
    × (asked (codes "GET") (codes "/v1/purges?from=1&from=2") [] ≡ Err BadTarget)
    × (asked (codes "GET") (codes "/v1/purges?to=1") [] ≡ Err BadTarget)
    × (asked (codes "GET") (codes "/v1/purges?from=%ff") [] ≡ Err BadTarget)
    × (asked (codes "DELETE") (codes "/v1/purges?from=0") [] ≡ Err (BadMethod allow.Other))
unfolding ask_of has_host values local_part path_of route_of table matchit_on_literals is_utf8 chars lib.Utf8.encode fields_in decoded percent_decode number_of
purges = (refl, refl, refl, refl, refl, refl, refl, refl, refl, refl)

-- the fields of Host (RFC 9112, section 3.2)
pub hosts : (asked_of 1 (codes "GET") (codes "*") [] ≡ Err BadHost)
    × (asked (codes "GET") (codes "/v1/stats") ((codes "Host", codes "b") ∷ []) ≡ Err BadHost)
    × (asked_of 0 (codes "GET") (codes "/v1/stats") [] ≡ Ok (Stats false))
    × (asked_of 0 (codes "GET") (codes "/v1/stats") ((codes "Host", codes "a") ∷ []) ≡ Ok (Stats false))
    × (asked_of 0 (codes "GET") (codes "/v1/stats") ((codes "Host", codes "a") ∷ (codes "Host", codes "a") ∷ []) ≡ Err BadHost)
unfolding ask_of has_host values local_part path_of route_of table matchit_on_literals is_utf8 chars lib.Utf8.encode fields_in
hosts = (refl, refl, refl, refl, refl)

-- what a PUT has to give, in this order
pub tellings : (asked (codes "PUT") (codes "/v1/d/shop/p1") ((codes "If-Match", codes "x") ∷ []) ≡ Err NoLength)
    × (put ((codes "Content-Encoding", codes "gzip") ∷ (codes "If-Match", codes "x") ∷ []) ≡ Err BadEncoding)
    × (put ((codes "Content-Encoding", codes "identity, gzip") ∷ []) ≡ Err BadEncoding)
    × (put ((codes "Content-Encoding", codes "Identity") ∷ []) ≡ puts Always)
    × (asked (codes "PUT") (codes "/v1/d/shop/p1") ((codes "Transfer-Encoding", codes "chunked") ∷ []) ≡ puts Always)
    × (asked (codes "DELETE") (codes "/v1/d/shop/p1") ((codes "Content-Encoding", codes "gzip") ∷ []) ≡ Ok (write (codes "shop") (codes "p1") None Always))
unfolding ask_of has_host values local_part path_of route_of table matchit_on_literals is_utf8 chars lib.Utf8.encode fields_in name_in percent_decode has_length has_no_coding tags_in commits_in members_of trim_ows tag_of
tellings = (refl, refl, refl, refl, refl, refl)

-- the conditions of a write
pub conditions : (put ((codes "If-None-Match", codes "*") ∷ []) ≡ puts Absent)
    × (put ((codes "If-Match", codes "*") ∷ []) ≡ puts Present)
    × (put ((codes "If-Match", codes "\"1\", \"2\"") ∷ []) ≡ puts (Unchanged (Listed (1 ∷ 2 ∷ []))))
    × (put ((codes "If-Match", codes "W/\"3\"") ∷ []) ≡ puts (Unchanged (Listed [])))
    × (put ((codes "If-Match", codes "\"1\"") ∷ (codes "If-Match", codes "\"2\"") ∷ []) ≡ puts (Unchanged (Listed (1 ∷ 2 ∷ []))))
    × (put ((codes "If-Match", codes "x") ∷ []) ≡ Err BadTag)
    × (put ((codes "If-Match", codes "\"1\"") ∷ (codes "If-None-Match", codes "*") ∷ []) ≡ Err BadTag)
    × (put ((codes "If-None-Match", codes "\"1\"") ∷ []) ≡ Err BadTag)
    × (put ((codes "If-None-Match", []) ∷ []) ≡ Err BadTag)
unfolding ask_of has_host values local_part path_of route_of table matchit_on_literals is_utf8 chars lib.Utf8.encode fields_in name_in percent_decode has_length has_no_coding tags_in commits_in members_of trim_ows tag_of number_of
conditions = (refl, refl, refl, refl, refl, refl, refl, refl, refl)

-- those of a read
abbrev get : List Pair → Result Ask Refused
get fields = asked (codes "GET") (codes "/v1/d/shop/p1") fields

pub readings : (get ((codes "If-Match", codes "\"7\"") ∷ []) ≡ Ok (Read (key.Record (codes "shop") (codes "p1")) (Listed []) false))
    × (get ((codes "If-Match", codes "7") ∷ []) ≡ Err BadTag)
    × (get ((codes "If-None-Match", codes "7") ∷ []) ≡ Err BadTag)
    × (get ((codes "If-None-Match", codes "\"7\"") ∷ []) ≡ Ok (Read (key.Record (codes "shop") (codes "p1")) (Listed (7 ∷ [])) false))
    × (get ((codes "If-None-Match", codes "*") ∷ []) ≡ Ok (Read (key.Record (codes "shop") (codes "p1")) Any false))
    × (get ((codes "If-None-Match", codes "\"3\", W/\"5\"") ∷ (codes "If-None-Match", codes "\"x\"") ∷ []) ≡ Ok (Read (key.Record (codes "shop") (codes "p1")) (Listed (3 ∷ 5 ∷ [])) false))
    × (asked (codes "GET") (codes "/v1/q/shop") ((codes "If-Match", codes "7") ∷ []) ≡ Err BadTag)
    × (asked (codes "GET") (codes "/v1/stats") ((codes "If-Match", codes "7") ∷ []) ≡ Ok (Stats false))
unfolding ask_of has_host values local_part path_of route_of table matchit_on_literals is_utf8 chars lib.Utf8.encode fields_in name_in percent_decode tags_in commits_in members_of trim_ows tag_of number_of
readings = (refl, refl, refl, refl, refl, refl, refl, refl)
