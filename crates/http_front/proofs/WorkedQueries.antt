-- Requests of queries with what they ask, computed from the definitions.
use Rattle.std.proofs.Common.{◌≡◌, ℕ, List, [], ◌∷◌, refl, codes, true, false, pos}
use Rattle.std.specs.Prelude.{Result, Ok, Err}
use Rattle.std.specs.Str.{is_utf8, chars}
use Rattle.percent_encoding.specs.Percent.{percent_decode}
use Rattle.httparse.specs.Grammar.{trim_ows}
use Rattle.matchit.proofs.OnLiterals.{matchit_on_literals}
use Rattle.q_doc.specs.Tree.{number}
use Rattle.query_core.specs.declared.operator.Op.TheVariants.{Equal}
use Rattle.query_core.specs.declared.query.Kind.TheVariants.{Objects, Ids}
use Rattle.query_core.specs.declared.query.Query.{Query as AQuery}
use Rattle.query_core.specs.Filters.{Filter, constant, compared}
use Rattle.query_lang.specs.FilterReading.{segment_at, on_operand, on_joint, on_path, on_value, on_token, ended, judged, read_filter}
use Rattle.query_lang.specs.Lexing.{lexeme}
use Rattle.query_lang.specs.Numbers.{read_number}
use Rattle.query_lang.specs.OrderReading as order
use Rattle.query_lang.specs.Queries.{filter_field, number_field, kind_field}
use Rattle.query_lang.specs.Reading.{tokens}
use Rattle.query_normal.specs.declared.key.KeyShape.TheVariants as key
use Rattle.hub_model.specs.declared.entry.Tags.TheVariants.{Listed}
use Rattle.http_message.specs.Fields.{values}
use Rattle.http_front.specs.Asks.{ask_of, has_host, name_in}
use Rattle.http_front.specs.Filters.{bad_filter, query_in}
use Rattle.http_front.specs.Numbers.{number_of}
use Rattle.http_front.specs.Query.{decoded, fields_in}
use Rattle.http_front.specs.Routes.{route_of, table}
use Rattle.http_front.specs.Tags.{commits_in, members_of, tag_of, tags_in}
use Rattle.http_front.specs.Target.{local_part, path_of}
use Rattle.http_front.specs.declared.ask.Ask.{Ask}
use Rattle.http_front.specs.declared.ask.Ask.TheVariants.{Read}
use Rattle.http_front.specs.declared.refused.FilterReason.TheVariants.{Syntax, BadNumber}
use Rattle.http_front.specs.declared.refused.QueryField.TheVariants as field
use Rattle.http_front.specs.declared.refused.Refused.{Refused}
use Rattle.http_front.specs.declared.refused.Refused.TheVariants.{BadFilter, BadTag, BadTarget}
use Rattle.http_front.proofs.WorkedRequests.{asked}

-- what a GET of this target asks
abbrev got : List ℕ → Result Ask Refused
got target = asked (codes "GET") target []

-- a query of the collection shop with the usual numbers
abbrev query : Filter → AQuery
query filter = record { collection = codes "shop"; filter = filter; order = []; skip = 0; take = 100 }

-- what is absent or empty has a value of its own, and the fields may be in any order
readings : (got (codes "/v1/q/shop") ≡ Ok (Read (key.Query Objects (query (constant true))) (Listed []) false))
    × (got (codes "/v1/q/shop?k=ids&f=") ≡ Ok (Read (key.Query Ids (query (constant true))) (Listed []) false))
    × (got (codes "/v1/q/shop?n=2&s=1") ≡ Ok (Read (key.Query Objects (record (query (constant true)) { skip = 1; take = 2 })) (Listed []) false))
unfolding ask_of has_host values local_part path_of route_of table matchit_on_literals is_utf8 chars lib.Utf8.encode fields_in decoded percent_decode name_in tags_in query_in filter_field number_field kind_field read_number order.read_order order.ended tokens lexeme
readings = (refl, refl, refl)

-- a filter is read of the decoded value
filters : got (codes "/v1/q/shop?f=a%20%3D+1&k=ids") ≡ Ok (Read (key.Query Ids (query (compared (codes "a" ∷ []) Equal (number (pos 1))))) (Listed []) false)
unfolding ask_of has_host values local_part path_of route_of table matchit_on_literals is_utf8 chars lib.Utf8.encode fields_in decoded percent_decode name_in tags_in query_in filter_field number_field kind_field read_number order.read_order order.ended tokens lexeme read_filter on_token on_operand on_joint segment_at on_path on_value ended judged
filters = refl

-- a field is refused with its place in the decoded value
refusals : (got (codes "/v1/q/shop?f=a%20%3D") ≡ Err (BadFilter (bad_filter field.Filter 3 Syntax)))
    × (got (codes "/v1/q/shop?k=rows") ≡ Err (BadFilter (bad_filter field.Kind 0 Syntax)))
    × (got (codes "/v1/q/shop?k=rows&n=0") ≡ Err (BadFilter (bad_filter field.Take 0 BadNumber)))
unfolding ask_of has_host values local_part path_of route_of table matchit_on_literals is_utf8 chars lib.Utf8.encode fields_in decoded percent_decode name_in tags_in query_in filter_field number_field kind_field read_number order.read_order order.ended tokens lexeme read_filter on_token on_operand segment_at on_path on_value ended
refusals = (refl, refl, refl)

-- a repeated field, a name that is none and tags that are none are refused before it
firsts : (got (codes "/v1/q/shop?f=a%20%3D&f=") ≡ Err BadTarget)
    × (got (codes "/v1/q/Shop?f=a%20%3D") ≡ Err BadTarget)
    × (asked (codes "GET") (codes "/v1/q/shop?f=a%20%3D") ((codes "If-None-Match", codes "7") ∷ []) ≡ Err BadTag)
unfolding ask_of has_host values local_part path_of route_of table matchit_on_literals is_utf8 chars lib.Utf8.encode fields_in decoded percent_decode name_in tags_in commits_in members_of trim_ows tag_of number_of
firsts = (refl, refl, refl)
