-- Worked replies, computed from the definitions.
use Rattle.std.proofs.Common.{◌≡◌, ℕ, ◌-◌, ◌<◌, ◌^◌, min, Bool, true, false, List, [], ◌∷◌, ◌++◌, length, Some, None, codes, refl, ap, ◌∙◌, arith}
use Rattle.std.specs.Fmt.{digits}
use Rattle.std.specs.Prelude.{if◌then◌else◌}
use Rattle.http_front.specs.declared.refused.Allow.TheVariants.{Record, Post, Other}
use Rattle.http_front.specs.declared.refused.DocumentReason.TheVariants.{NotWhole}
use Rattle.http_front.specs.declared.refused.FilterReason.TheVariants.{Syntax, TooManyPaths}
use Rattle.http_message.specs.declared.refusal.FramingRefusal.TheVariants.{BodyTooLarge}
use Rattle.http_front.specs.declared.refused.QueryField.TheVariants.{Filter, Order}
use Rattle.http_front.specs.declared.refused.Refused.TheVariants.{Framing, NoRoute, BadMethod, BadFilter, BadDocument}
use Rattle.hub_model.specs.declared.entry.Found.TheVariants.{Missing, At}
use Rattle.hub_model.specs.declared.entry.Outcome.TheVariants.{Whole, Same, Absent}
use Rattle.hub_model.specs.declared.entry.Written.TheVariants.{Done, Precondition, Full}
use Rattle.http_front.specs.Origins.{no_leave}
use Rattle.http_front.specs.Reply.{head_text, head_fields, reply_text, status_line}
use Rattle.hub_model.specs.Reply.{PurgesTold, told_of}
use Rattle.hub_model.specs.declared.entry.PurgeReply.{PurgeReply}
use Rattle.json.specs.Print.{escape_byte}
use Rattle.http_front.specs.ReplyText.{json_head, purges_body, reply_of}
use Rattle.http_front.specs.declared.shape.Shape.{Shape}
use Rattle.http_front.specs.declared.told.Told.{Told}
use Rattle.http_front.specs.declared.told.Told.TheVariants.{Write, Read, Dropped, Count, Purges, Refusal, Memory, Unkept}

-- the methods of the examples
get : Shape
get = record { put = false; head = false; asks = false; leave = no_leave }

put : Shape
put = record { put = true; head = false; asks = false; leave = no_leave }

head : Shape
head = record { put = false; head = true; asks = false; leave = no_leave }

-- the text of a reply at 100 seconds after 1970 began
abbrev text_at_100 : Shape → Told → Bool → List ℕ
text_at_100 shape told close = reply_text (reply_of shape told [] (codes "Thu, 01 Jan 1970 00:01:40 GMT") close)

-- a PUT that creates
accepted-put : text_at_100 put (Write (Done 1 Missing 100)) false ≡ codes "HTTP/1.1 201 Created\r\nDate: Thu, 01 Jan 1970 00:01:40 GMT\r\nContent-Type: application/json\r\nContent-Length: 12\r\nCache-Control: no-store\r\nQuaestor-Commit: 1\r\n\r\n{\"commit\":1}"
unfolding head_text head_fields status_line digits get put head
accepted-put = refl

-- a read that finds a document
read-document : text_at_100 get (Read (record { commit = 1; clock = 100; ttl = 3600; shared = 0; result = Whole (codes "{\"a\":1}") (Some 1) })) false ≡ codes "HTTP/1.1 200 OK\r\nDate: Thu, 01 Jan 1970 00:01:40 GMT\r\nContent-Type: application/json\r\nContent-Length: 7\r\nETag: \"1\"\r\nCache-Control: max-age=3600\r\nQuaestor-Commit: 1\r\nQuaestor-Version: 1\r\nQuaestor-Until: 3700\r\n\r\n{\"a\":1}"
unfolding head_text head_fields status_line digits get put head
read-document = refl

-- the same with HEAD
head-of-document : text_at_100 head (Read (record { commit = 1; clock = 100; ttl = 3600; shared = 0; result = Whole (codes "{\"a\":1}") (Some 1) })) false ≡ codes "HTTP/1.1 200 OK\r\nDate: Thu, 01 Jan 1970 00:01:40 GMT\r\nContent-Type: application/json\r\nContent-Length: 7\r\nETag: \"1\"\r\nCache-Control: max-age=3600\r\nQuaestor-Commit: 1\r\nQuaestor-Version: 1\r\nQuaestor-Until: 3700\r\n\r\n"
unfolding head_text head_fields status_line digits get put head
head-of-document = refl

-- a read of what the caller knows, and the same with HEAD
same-document : (text_at_100 get (Read (record { commit = 7; clock = 100; ttl = 60; shared = 0; result = Same 5 (Some 4) })) false ≡ codes "HTTP/1.1 304 Not Modified\r\nDate: Thu, 01 Jan 1970 00:01:40 GMT\r\nETag: \"5\"\r\nCache-Control: max-age=60\r\nQuaestor-Commit: 7\r\nQuaestor-Version: 4\r\nQuaestor-Until: 160\r\n\r\n")
    × (text_at_100 head (Read (record { commit = 7; clock = 100; ttl = 60; shared = 0; result = Same 5 (Some 4) })) false ≡ codes "HTTP/1.1 304 Not Modified\r\nDate: Thu, 01 Jan 1970 00:01:40 GMT\r\nETag: \"5\"\r\nCache-Control: max-age=60\r\nQuaestor-Commit: 7\r\nQuaestor-Version: 4\r\nQuaestor-Until: 160\r\n\r\n")
unfolding head_text head_fields status_line digits get put head
same-document = (refl, refl)

-- a read of a query, and of one whose result the caller knows: they may be kept, and have no version
result-of-query : (text_at_100 get (Read (record { commit = 1; clock = 100; ttl = 60; shared = 0; result = Whole (codes "[\"p1\"]") None })) false ≡ codes "HTTP/1.1 200 OK\r\nDate: Thu, 01 Jan 1970 00:01:40 GMT\r\nContent-Type: application/json\r\nContent-Length: 6\r\nETag: \"1\"\r\nCache-Control: max-age=60\r\nQuaestor-Commit: 1\r\nQuaestor-Until: 160\r\n\r\n[\"p1\"]")
    × (text_at_100 get (Read (record { commit = 2; clock = 100; ttl = 60; shared = 0; result = Same 1 None })) false ≡ codes "HTTP/1.1 304 Not Modified\r\nDate: Thu, 01 Jan 1970 00:01:40 GMT\r\nETag: \"1\"\r\nCache-Control: max-age=60\r\nQuaestor-Commit: 2\r\nQuaestor-Until: 160\r\n\r\n")
unfolding head_text head_fields status_line digits get put head
result-of-query = (refl, refl)

-- a HEAD that finds none
head-of-absent : text_at_100 head (Read (record { commit = 1; clock = 100; ttl = 3600; shared = 0; result = Absent })) false ≡ codes "HTTP/1.1 404 Not Found\r\nDate: Thu, 01 Jan 1970 00:01:40 GMT\r\nContent-Type: application/json\r\nContent-Length: 18\r\nCache-Control: max-age=3600\r\nQuaestor-Commit: 1\r\nQuaestor-Until: 3700\r\n\r\n"
unfolding head_text head_fields status_line digits get put head
head-of-absent = refl

-- a DELETE that finds nothing
accepted-delete : text_at_100 get (Write (Done 1 Missing 100)) false ≡ codes "HTTP/1.1 200 OK\r\nDate: Thu, 01 Jan 1970 00:01:40 GMT\r\nContent-Type: application/json\r\nContent-Length: 12\r\nCache-Control: no-store\r\nQuaestor-Commit: 1\r\n\r\n{\"commit\":1}"
unfolding head_text head_fields status_line digits get put head
accepted-delete = refl

-- a PUT that replaces
replaced : text_at_100 put (Write (Done 2 (At 1) 100)) false ≡ codes "HTTP/1.1 200 OK\r\nDate: Thu, 01 Jan 1970 00:01:40 GMT\r\nContent-Type: application/json\r\nContent-Length: 12\r\nCache-Control: no-store\r\nQuaestor-Commit: 2\r\n\r\n{\"commit\":2}"
unfolding head_text head_fields status_line digits get put head
replaced = refl

-- a PUT whose condition is not met by what is there
precondition-with-version : text_at_100 put (Write (Precondition (At 1) 100)) false ≡ codes "HTTP/1.1 412 Precondition Failed\r\nDate: Thu, 01 Jan 1970 00:01:40 GMT\r\nContent-Type: application/json\r\nContent-Length: 34\r\nCache-Control: no-store\r\n\r\n{\"error\":\"precondition\",\"found\":1}"
unfolding head_text head_fields status_line digits get put head
precondition-with-version = refl

-- and one that finds nothing
precondition-of-missing : text_at_100 put (Write (Precondition Missing 100)) false ≡ codes "HTTP/1.1 412 Precondition Failed\r\nDate: Thu, 01 Jan 1970 00:01:40 GMT\r\nContent-Type: application/json\r\nContent-Length: 37\r\nCache-Control: no-store\r\n\r\n{\"error\":\"precondition\",\"found\":null}"
unfolding head_text head_fields status_line digits get put head
precondition-of-missing = refl

-- the counts
counts : text_at_100 get (Count (record { front = 0; commits = 0; clock = 100 })) false ≡ codes "HTTP/1.1 200 OK\r\nDate: Thu, 01 Jan 1970 00:01:40 GMT\r\nContent-Type: application/json\r\nContent-Length: 35\r\nCache-Control: no-store\r\n\r\n{\"clock\":100,\"commits\":0,\"front\":0}"
unfolding head_text head_fields status_line digits get put head
counts = refl

-- the horizon after a drop
horizon : text_at_100 get (Dropped (record { horizon = 3; clock = 100 })) false ≡ codes "HTTP/1.1 200 OK\r\nDate: Thu, 01 Jan 1970 00:01:40 GMT\r\nContent-Type: application/json\r\nContent-Length: 13\r\nCache-Control: no-store\r\n\r\n{\"horizon\":3}"
unfolding head_text head_fields status_line digits get put head
horizon = refl

-- a list of purges with a body of this size, of what it tells
abbrev purges_of_size : Shape → PurgesTold → ℕ → List ℕ
purges_of_size shape told size =
    reply_text (record { status = 200; fields = head_fields (record (json_head 200 size false) { leave = shape.leave }) (codes "Thu, 01 Jan 1970 00:01:40 GMT"); body = if shape.head then [] else purges_body told })

abbrev purges_at_100 : Shape → PurgesTold → List ℕ
purges_at_100 shape told = purges_of_size shape told (length (purges_body told))

-- that of an empty store, with HEAD too
no-purges : (purges_at_100 get (record { from = 1; last = 0; front = 0; clock = 100; texts = [] }) ≡ codes "HTTP/1.1 200 OK\r\nDate: Thu, 01 Jan 1970 00:01:40 GMT\r\nContent-Type: application/json\r\nContent-Length: 39\r\nCache-Control: no-store\r\n\r\n{\"from\":1,\"front\":0,\"keys\":[],\"last\":0}")
    × (purges_at_100 head (record { from = 1; last = 0; front = 0; clock = 100; texts = [] }) ≡ codes "HTTP/1.1 200 OK\r\nDate: Thu, 01 Jan 1970 00:01:40 GMT\r\nContent-Type: application/json\r\nContent-Length: 39\r\nCache-Control: no-store\r\n\r\n")
unfolding head_text head_fields status_line digits get head purges_body
no-purges = (refl, refl)

-- the texts of keys are escaped, and have commas between them
two-purges : purges_body (record { from = 2; last = 3; front = 7; clock = 100; texts = codes "r/shop/p1" ∷ codes "q/shop/ids/f=a = \"x\\\\y\"" ∷ [] }) ≡ codes "{\"from\":2,\"front\":7,\"keys\":[\"r/shop/p1\",\"q/shop/ids/f=a = \\\"x\\\\\\\\y\\\"\"],\"last\":3}"
unfolding purges_body digits escape_byte
two-purges = refl

-- the others that are escaped are control characters
escapes : purges_body (record { from = 1; last = 1; front = 1; clock = 100; texts = (8 ∷ 9 ∷ 10 ∷ 12 ∷ 13 ∷ 31 ∷ 127 ∷ 200 ∷ []) ∷ [] }) ≡ codes "{\"from\":1,\"front\":1,\"keys\":[\"\\b\\t\\n\\f\\r\\u001f" ++ 127 ∷ 200 ∷ codes "\"],\"last\":1}"
unfolding purges_body digits escape_byte
escapes = refl

-- this is the reply that tells it, where 64 bits hold the length
purges-told : (shape : Shape) (reply : PurgeReply) (told : PurgesTold) → told_of reply ≡ told → length (purges_body told) < 2 ^ 64
    → text_at_100 shape (Purges reply) false ≡ purges_at_100 shape told
purges-told shape reply told is fits =
    let same : min (length (purges_body told)) (2 ^ 64 - 1) ≡ length (purges_body told) = omega arith in
    ap (λ (t : PurgesTold). purges_of_size shape t (min (length (purges_body t)) (2 ^ 64 - 1))) is ∙ ap (purges_of_size shape told) same

-- a method that records do not have
method-of-record : text_at_100 get (Refusal (BadMethod Record) 100) false ≡ codes "HTTP/1.1 405 Method Not Allowed\r\nDate: Thu, 01 Jan 1970 00:01:40 GMT\r\nContent-Type: application/json\r\nContent-Length: 22\r\nCache-Control: no-store\r\nAllow: GET, HEAD, PUT, DELETE\r\n\r\n{\"error\":\"bad_method\"}"
unfolding head_text head_fields status_line digits get put head
method-of-record = refl

-- or the match and the horizon
method-of-match : text_at_100 put (Refusal (BadMethod Post) 100) false ≡ codes "HTTP/1.1 405 Method Not Allowed\r\nDate: Thu, 01 Jan 1970 00:01:40 GMT\r\nContent-Type: application/json\r\nContent-Length: 22\r\nCache-Control: no-store\r\nAllow: POST\r\n\r\n{\"error\":\"bad_method\"}"
unfolding head_text head_fields status_line digits get put head
method-of-match = refl

-- or the others
method-of-stats : text_at_100 get (Refusal (BadMethod Other) 100) false ≡ codes "HTTP/1.1 405 Method Not Allowed\r\nDate: Thu, 01 Jan 1970 00:01:40 GMT\r\nContent-Type: application/json\r\nContent-Length: 22\r\nCache-Control: no-store\r\nAllow: GET, HEAD\r\n\r\n{\"error\":\"bad_method\"}"
unfolding head_text head_fields status_line digits get put head
method-of-stats = refl

-- a path without a route
no-route : text_at_100 get (Refusal NoRoute 100) false ≡ codes "HTTP/1.1 404 Not Found\r\nDate: Thu, 01 Jan 1970 00:01:40 GMT\r\nContent-Type: application/json\r\nContent-Length: 20\r\nCache-Control: no-store\r\n\r\n{\"error\":\"no_route\"}"
unfolding head_text head_fields status_line digits get put head
no-route = refl

-- a document with a fraction
not-whole : text_at_100 put (Refusal (BadDocument NotWhole) 100) false ≡ codes "HTTP/1.1 422 Unprocessable Entity\r\nDate: Thu, 01 Jan 1970 00:01:40 GMT\r\nContent-Type: application/json\r\nContent-Length: 45\r\nCache-Control: no-store\r\n\r\n{\"error\":\"bad_document\",\"reason\":\"not_whole\"}"
unfolding head_text head_fields status_line digits get put head
not-whole = refl

-- a body that is too large, after which the connection ends
too-large : text_at_100 get (Refusal (Framing BodyTooLarge) 100) true ≡ codes "HTTP/1.1 413 Payload Too Large\r\nDate: Thu, 01 Jan 1970 00:01:40 GMT\r\nContent-Type: application/json\r\nContent-Length: 26\r\nCache-Control: no-store\r\nConnection: close\r\n\r\n{\"error\":\"body_too_large\"}"
unfolding head_text head_fields status_line digits get put head
too-large = refl

-- a write that the store has no capacity for
no-buffer : text_at_100 put (Write (Full 65837 100)) false ≡ codes "HTTP/1.1 507 Insufficient Storage\r\nDate: Thu, 01 Jan 1970 00:01:40 GMT\r\nContent-Type: application/json\r\nContent-Length: 36\r\nCache-Control: no-store\r\n\r\n{\"bytes\":65837,\"error\":\"store_full\"}"
unfolding head_text head_fields status_line digits put
no-buffer = refl

-- out of memory
no-memory : text_at_100 get Memory false ≡ codes "HTTP/1.1 503 Service Unavailable\r\nContent-Type: application/json\r\nContent-Length: 18\r\nCache-Control: no-store\r\n\r\n{\"error\":\"memory\"}"
unfolding head_text head_fields status_line digits get
no-memory = refl

-- what was done cannot be kept
not-kept : text_at_100 get Unkept false ≡ codes "HTTP/1.1 503 Service Unavailable\r\nContent-Type: application/json\r\nContent-Length: 18\r\nCache-Control: no-store\r\n\r\n{\"error\":\"unkept\"}"
unfolding head_text head_fields status_line digits get
not-kept = refl

-- a filter that ends too early
bad-filter : text_at_100 get (Refusal (BadFilter (record { field = Filter; place = 3; reason = Syntax })) 100) false ≡ codes "HTTP/1.1 400 Bad Request\r\nDate: Thu, 01 Jan 1970 00:01:40 GMT\r\nContent-Type: application/json\r\nContent-Length: 62\r\nCache-Control: no-store\r\n\r\n{\"error\":\"bad_filter\",\"field\":\"f\",\"place\":3,\"reason\":\"syntax\"}"
unfolding head_text head_fields status_line digits get
bad-filter = refl

-- a fifth path in an order
bad-order : text_at_100 get (Refusal (BadFilter (record { field = Order; place = 9; reason = TooManyPaths })) 100) false ≡ codes "HTTP/1.1 400 Bad Request\r\nDate: Thu, 01 Jan 1970 00:01:40 GMT\r\nContent-Type: application/json\r\nContent-Length: 70\r\nCache-Control: no-store\r\n\r\n{\"error\":\"bad_filter\",\"field\":\"o\",\"place\":9,\"reason\":\"too_many_paths\"}"
unfolding head_text head_fields status_line digits get
bad-order = refl
