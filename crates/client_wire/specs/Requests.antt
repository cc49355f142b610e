-- Internal. The text of a client's request (RFC 9112, section 3).
use Rattle.std.specs.Prelude.{ℕ, ◌/◌, ◌%◌, ◌+◌, Bool, true, false, ◌||◌, ◌==◌, nat_lt, if◌then◌else◌, List, [], ◌∷◌, ◌++◌, length, codes, decimal}
use Rattle.std.specs.Char.{is_ascii_alphanumeric}
use Rattle.std.specs.List.{flat_map, join_by}
use Rattle.query_core.specs.Print.{filter_text, order_text}
use Rattle.query_normal.specs.Keys.{kind_text}
use Rattle.query_normal.specs.declared.key.KeyShape.{KeyShape}
use Rattle.query_normal.specs.declared.key.KeyShape.TheVariants as key
use Rattle.query_core.specs.declared.query.Kind.{Kind}
use Rattle.query_core.specs.declared.query.Query.{Query}
use Rattle.hub_model.specs.declared.entry.Condition.{Condition}
use Rattle.hub_model.specs.declared.entry.Condition.TheVariants.{Always, Present, Absent, Unchanged}
use Rattle.hub_model.specs.declared.entry.Tags.TheVariants.{Any, Listed}
use Rattle.client_session.specs.declared.ask.ClientAsk.{ClientAsk}
use Rattle.client_session.specs.declared.ask.ClientAsk.TheVariants as ask

-- a byte that stands for itself in a query (RFC 3986, section 2.3)
abbrev pub is_unreserved : ℕ → Bool
is_unreserved b = is_ascii_alphanumeric b || b == 45 || b == 46 || b == 95 || b == 126

-- a hexadecimal digit, in upper case
abbrev pub upper_digit : ℕ → ℕ
upper_digit n = if nat_lt n 10 then 48 + n else 55 + n

-- a byte of a query, escaped where it does not stand for itself (RFC 3986, section 2.1)
abbrev pub escaped_byte : ℕ → List ℕ
escaped_byte b = if is_unreserved b then b ∷ [] else 37 ∷ upper_digit (b / 16) ∷ upper_digit (b % 16) ∷ []

-- a text of a query
abbrev pub escaped : List ℕ → List ℕ
escaped text = flat_map escaped_byte text

-- the target of a record
unfoldable pub record_target : List ℕ → List ℕ → List ℕ
record_target collection id = codes "/v1/d/" ++ collection ++ codes "/" ++ id

-- the target of a query up to its filter
unfoldable pub filter_part : Query → List ℕ
filter_part query = codes "/v1/q/" ++ query.collection ++ codes "?f=" ++ escaped (filter_text query.filter)

-- the order of a query, as a field of its target
unfoldable pub order_part : Query → List ℕ
order_part query = codes "&o=" ++ escaped (order_text query.order)

-- how many rows it skips and takes at most
unfoldable pub window_part : Query → List ℕ
window_part query = codes "&s=" ++ decimal query.skip ++ codes "&n=" ++ decimal query.take

-- what it shows of its rows
unfoldable pub kind_part : Kind → List ℕ
kind_part kind = codes "&k=" ++ kind_text kind

-- the target of a key
abbrev pub target_of : KeyShape → List ℕ
target_of (key.Record collection id) = record_target collection id
target_of (key.Query kind normal) = filter_part normal ++ order_part normal ++ window_part normal ++ kind_part kind

-- the end of the line of a request, and the field Host
unfoldable pub host_part : List ℕ → List ℕ
host_part host = codes " HTTP/1.1\r\nHost: " ++ host ++ codes "\r\n"

-- the line of a request and its field Host
abbrev pub beginning : (method target host : List ℕ) → List ℕ
beginning method target host = method ++ codes " " ++ target ++ host_part host

-- that caches are to ask the server (RFC 9111, section 5.2.1.4)
abbrev pub no_cache_field : Bool → List ℕ
no_cache_field true = codes "Cache-Control: no-cache\r\n"
no_cache_field false = []

-- an entity tag that names a commit
abbrev pub tag_text : ℕ → List ℕ
tag_text commit = codes "\"" ++ decimal commit ++ codes "\""

-- the field of a condition, where it has one (RFC 9110, section 13.1)
abbrev pub condition_field : Condition → List ℕ
condition_field Always = []
condition_field Present = codes "If-Match: *\r\n"
condition_field Absent = codes "If-None-Match: *\r\n"
condition_field (Unchanged Any) = codes "If-Match: *\r\n"
condition_field (Unchanged (Listed commits)) = codes "If-Match: " ++ join_by tag_text (codes ", ") commits ++ codes "\r\n"

-- the length of a body, and the end of the head
unfoldable pub length_part : ℕ → List ℕ
length_part size = codes "Content-Length: " ++ decimal size ++ codes "\r\n\r\n"

-- the head of a request to a host. A deletion has no Content-Length, since it has no body
unfoldable pub head_text : ClientAsk → List ℕ → List ℕ
head_text (ask.Read key no_cache) host =
    beginning (codes "GET") (target_of key) host ++ no_cache_field no_cache ++ codes "\r\n"
head_text ask.Page host =
    beginning (codes "GET") (codes "/v1/filter") host ++ no_cache_field true ++ codes "\r\n"
head_text (ask.Put collection id text condition) host =
    beginning (codes "PUT") (record_target collection id) host ++ condition_field condition ++ length_part (length text)
head_text (ask.Delete collection id condition) host =
    beginning (codes "DELETE") (record_target collection id) host ++ condition_field condition ++ codes "\r\n"

-- the body of a request: the document that a record gets
abbrev pub body_of : ClientAsk → List ℕ
body_of (ask.Put collection id text condition) = text
body_of asked = []

-- the text of a request to a host
abbrev pub request_text : ClientAsk → List ℕ → List ℕ
request_text asked host = head_text asked host ++ body_of asked
