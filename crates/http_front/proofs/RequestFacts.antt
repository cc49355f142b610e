-- Requests and their parts with what they ask, said of the specs, so that a slip does not check.
use Rattle.std.proofs.Common.{◌≡◌, [], ◌∷◌, ◌++◌, refl, codes}
use Rattle.std.specs.Prelude.{Some, None, Ok, Err}
use Rattle.std.specs.Str.{is_utf8, chars}
use Rattle.percent_encoding.specs.Percent.{percent_decode}
use Rattle.httparse.specs.Grammar.{trim_ows}
use Rattle.matchit.proofs.OnLiterals.{matchit_on_literals}
use Rattle.hub_model.specs.declared.entry.Tags.TheVariants.{Any, Listed}
use Rattle.http_front.specs.declared.tags.TagRefusal.TheVariants.{BadTag}
use Rattle.http_front.specs.Numbers.{number_of}
use Rattle.http_front.specs.Query.{decoded, field_of, fields_in}
use Rattle.http_front.specs.Routes.{route_of, table}
use Rattle.http_front.specs.Tags.{members_of, tag_of, tags_in, commits_in}
use Rattle.http_front.specs.Target.{local_part, path_of, query_of}
use Rattle.http_front.specs.declared.refused.QueryField.TheVariants as field
use Rattle.http_front.specs.declared.routes.Route.TheVariants.{Record, Query, Filter, Purges, Match, Horizon, Stats}
use Rattle.http_front.specs.declared.tags.Comparison.TheVariants.{Strong, Weak}

-- RFC 9112, section 3.2: the origin form and the absolute form name a path, and the asterisk form does not
pub targets : (local_part (codes "/v1/stats?x") ≡ Some (codes "/v1/stats?x"))
    × (local_part (codes "http://b:1/v1/stats") ≡ Some (codes "/v1/stats"))
    × (local_part (codes "http://b?x/y") ≡ Some (codes "?x/y"))
    × (local_part (codes "http://b") ≡ Some [])
    × (local_part (codes "https://b/v1/stats") ≡ None)
    × (local_part (codes "*") ≡ None)
    × (local_part [] ≡ None)
unfolding local_part
targets = (refl, refl, refl, refl, refl, refl, refl)

-- the path ends at the first `?`, and is `/` where there is none
pub paths : (path_of (codes "/a/b?c?d") ≡ codes "/a/b")
    × (query_of (codes "/a/b?c?d") ≡ Some (codes "c?d"))
    × (path_of (codes "?x/y") ≡ codes "/")
    × (query_of (codes "?x/y") ≡ Some (codes "x/y"))
    × (path_of [] ≡ codes "/")
    × (query_of (codes "/a") ≡ None)
    × (query_of (codes "/a?") ≡ Some [])
unfolding path_of
paths = (refl, refl, refl, refl, refl, refl, refl)

-- escapes are decoded after `+` has become a space, and a lone `%` stands for itself
pub values : (decoded (codes "a+%2B%zz%") ≡ codes "a +%zz%")
    × (decoded (codes "%e2%82%aC") ≡ 226 ∷ 130 ∷ 172 ∷ [])
unfolding decoded percent_decode
values = (refl, refl)

-- an empty field, a field twice and a field of another route are none; the others have decoded values
pub queries : (fields_in Stats None ≡ Some [])
    × (fields_in Stats (Some []) ≡ None)
    × (fields_in Query (Some (codes "f=a=b&k")) ≡ Some ((field.Filter, codes "a=b") ∷ (field.Kind, []) ∷ []))
    × (fields_in Query (Some (codes "o=%2Dyear+%3D&s=2&n=10")) ≡ Some ((field.Order, codes "-year =") ∷ (field.Skip, codes "2") ∷ (field.Take, codes "10") ∷ []))
    × (fields_in Query (Some (codes "f=&f=")) ≡ None)
    × (fields_in Query (Some (codes "f=&")) ≡ None)
    × (fields_in Query (Some (codes "F=")) ≡ None)
    × (fields_in Query (Some (codes "%66=")) ≡ None)
    × (fields_in Query (Some (codes "f=%ff")) ≡ None)
    × (fields_in Record (Some (codes "f=")) ≡ None)
unfolding fields_in decoded percent_decode is_utf8 chars lib.Utf8.encode
queries = (refl, refl, refl, refl, refl, refl, refl, refl, refl, refl)

-- the purges begin at a number from 1 to 2^63
pub starts : (field_of Purges (codes "from=1") ≡ Some (field.From, codes "1"))
    × (field_of Purges (codes "from=%31") ≡ Some (field.From, codes "1"))
    × (field_of Purges (codes "from=9223372036854775808") ≡ Some (field.From, codes "9223372036854775808"))
    × (field_of Purges (codes "from=9223372036854775809") ≡ None)
    × (field_of Purges (codes "from=0") ≡ None)
    × (field_of Purges (codes "from=01") ≡ None)
    × (field_of Purges (codes "from=+1") ≡ None)
    × (field_of Purges (codes "from=") ≡ None)
    × (field_of Query (codes "from=1") ≡ None)
unfolding decoded percent_decode is_utf8 chars number_of lib.Utf8.encode
starts = (refl, refl, refl, refl, refl, refl, refl, refl, refl)

-- a decimal number of 64 bits
pub numbers : (number_of (codes "0") ≡ Some 0)
    × (number_of (codes "18446744073709551615") ≡ Some 18446744073709551615)
    × (number_of (codes "18446744073709551616") ≡ None)
    × (number_of (codes "00") ≡ None)
    × (number_of (codes "+1") ≡ None)
    × (number_of (codes "1a") ≡ None)
    × (number_of [] ≡ None)
unfolding number_of
numbers = (refl, refl, refl, refl, refl, refl, refl)

-- RFC 9110, section 8.8.3: lists of entity tags, and those that name a commit
pub tags : (tags_in Strong [] ≡ Ok None)
    × (tags_in Strong (codes "*" ∷ []) ≡ Ok (Some Any))
    × (tags_in Strong (codes "*" ∷ codes "*" ∷ []) ≡ Err BadTag)
    × (tags_in Strong (codes "*, \"1\"" ∷ []) ≡ Err BadTag)
    × (tags_in Strong ([] ∷ []) ≡ Ok (Some (Listed [])))
    × (tags_in Strong (codes ", ," ∷ []) ≡ Ok (Some (Listed [])))
    × (tags_in Weak (codes "\"3\", W/\"5\"" ∷ []) ≡ Ok (Some (Listed (3 ∷ 5 ∷ []))))
    × (tags_in Strong (codes "\"3\", W/\"5\"" ∷ []) ≡ Ok (Some (Listed (3 ∷ []))))
    × (tags_in Weak (codes "\"3\"" ∷ codes ",\"5\"\t," ∷ []) ≡ Ok (Some (Listed (3 ∷ 5 ∷ []))))
    × (tags_in Weak (codes "\"a,3\",\"\",\"01\"" ∷ []) ≡ Ok (Some (Listed [])))
    × (tags_in Weak (codes "x" ∷ []) ≡ Err BadTag)
    × (tags_in Weak (codes "1" ∷ []) ≡ Err BadTag)
    × (tags_in Weak (codes "\"1" ∷ []) ≡ Err BadTag)
    × (tags_in Weak (codes "\"1\"\"2\"" ∷ []) ≡ Err BadTag)
    × (tags_in Weak (codes "\"1\" \"2\"" ∷ []) ≡ Err BadTag)
    × (tags_in Weak (codes "\"1 \"" ∷ []) ≡ Err BadTag)
    × (tags_in Weak (codes "w/\"1\"" ∷ []) ≡ Err BadTag)
    × (tags_in Weak (codes "W/ \"1\"" ∷ []) ≡ Err BadTag)
    × (tags_in Weak (codes "\"3\"" ∷ codes "x" ∷ []) ≡ Err BadTag)
unfolding tags_in commits_in members_of trim_ows tag_of number_of
tags = (refl, refl, refl, refl, refl, refl, refl, refl, refl, refl, refl, refl, refl, refl, refl, refl, refl, refl, refl)

-- the routes: a path has one where its segments are as many, and those that stand for names are not empty
pub routes : (route_of (codes "/v1/d/s/p") ≡ Some Record)
    × (route_of (codes "/v1/q/s") ≡ Some Query)
    × (route_of (codes "/v1/filter") ≡ Some Filter)
    × (route_of (codes "/v1/purges") ≡ Some Purges)
    × (route_of (codes "/v1/match") ≡ Some Match)
    × (route_of (codes "/v1/horizon") ≡ Some Horizon)
    × (route_of (codes "/v1/stats") ≡ Some Stats)
    × (route_of (codes "/v1/d/s") ≡ None)
    × (route_of (codes "/v1/d/s/") ≡ None)
    × (route_of (codes "/v1/d//p") ≡ None)
    × (route_of (codes "/v1/d/s/p/") ≡ None)
    × (route_of (codes "/v1/q/") ≡ None)
    × (route_of (codes "/v1/stats/") ≡ None)
    × (route_of (codes "/v1/x") ≡ None)
    × (route_of (codes "/") ≡ None)
    × (route_of (codes "/v1/q/" ++ 255 ∷ []) ≡ None)
unfolding route_of table matchit_on_literals is_utf8 chars lib.Utf8.encode
routes = (refl, refl, refl, refl, refl, refl, refl, refl, refl, refl, refl, refl, refl, refl, refl, refl)
