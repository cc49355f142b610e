-- Worked replies to pages of browsers, computed from the definitions.
use Rattle.std.proofs.Common.{◌≡◌, ℕ, false, List, [], ◌∷◌, Some, codes, refl}
use Rattle.std.specs.Fmt.{digits}
use Rattle.http_message.specs.Fields.{values}
use Rattle.http_message.specs.declared.refusal.FramingRefusal.TheVariants.{BadHead}
use Rattle.hub_model.specs.declared.entry.Outcome.TheVariants.{Same}
use Rattle.http_front.specs.Asks.{shape_of, unframed_shape}
use Rattle.http_front.specs.Origins.{is_origin, leave_of}
use Rattle.http_front.specs.Reply.{head_text, head_fields, reply_text, status_line}
use Rattle.http_front.specs.ReplyText.{reply_of}
use Rattle.http_front.specs.declared.refused.Allow.TheVariants.{Record}
use Rattle.http_front.specs.declared.refused.Refused.TheVariants.{BadMethod, Framing}
use Rattle.http_front.specs.declared.shape.Shape.{Shape}
use Rattle.http_front.specs.declared.told.Told.{Told}
use Rattle.http_front.specs.declared.told.Told.TheVariants.{Read, Refusal}

-- the text of a reply at 100 seconds after 1970 began
abbrev text_at_100 : Shape → Told → List ℕ
text_at_100 shape told = reply_text (reply_of shape told [] (codes "Thu, 01 Jan 1970 00:01:40 GMT") false)

-- the looks of the reply to a page of this origin
abbrev to_page : (origins method page : List ℕ) → Shape
to_page origins method page =
    shape_of origins (record { method = method; target = codes "/v1/d/shop/p1"; minor = 1; fields = (codes "Origin", page) ∷ []; body = [] })

-- a page asks what it may send to a record: one origin is told to each
asked-one : text_at_100 (to_page (codes "https://shop.example") (codes "OPTIONS") (codes "https://other.example")) (Refusal (BadMethod Record) 100) ≡ codes "HTTP/1.1 204 No Content\r\nDate: Thu, 01 Jan 1970 00:01:40 GMT\r\nCache-Control: no-store\r\nAllow: GET, HEAD, PUT, DELETE\r\nAccess-Control-Allow-Origin: https://shop.example\r\nAccess-Control-Expose-Headers: Date, ETag, Quaestor-Commit, Quaestor-Until, Quaestor-Version\r\nAccess-Control-Allow-Methods: GET, HEAD, PUT, DELETE\r\nAccess-Control-Allow-Headers: Cache-Control, Content-Type, If-Match, If-None-Match\r\nAccess-Control-Max-Age: 600\r\n\r\n"
unfolding head_text head_fields status_line digits values leave_of is_origin
asked-one = refl

-- of two it is that of the page
asked-two : text_at_100 (to_page (codes "https://shop.example http://desk.example:8080") (codes "OPTIONS") (codes "http://desk.example:8080")) (Refusal (BadMethod Record) 100) ≡ codes "HTTP/1.1 204 No Content\r\nDate: Thu, 01 Jan 1970 00:01:40 GMT\r\nCache-Control: no-store\r\nAllow: GET, HEAD, PUT, DELETE\r\nAccess-Control-Allow-Origin: http://desk.example:8080\r\nAccess-Control-Expose-Headers: Date, ETag, Quaestor-Commit, Quaestor-Until, Quaestor-Version\r\nVary: Origin\r\nAccess-Control-Allow-Methods: GET, HEAD, PUT, DELETE\r\nAccess-Control-Allow-Headers: Cache-Control, Content-Type, If-Match, If-None-Match\r\nAccess-Control-Max-Age: 600\r\n\r\n"
unfolding head_text head_fields status_line digits values leave_of is_origin
asked-two = refl

-- and none where it is neither
asked-other : text_at_100 (to_page (codes "https://shop.example http://desk.example:8080") (codes "OPTIONS") (codes "https://shop.example:8080")) (Refusal (BadMethod Record) 100) ≡ codes "HTTP/1.1 204 No Content\r\nDate: Thu, 01 Jan 1970 00:01:40 GMT\r\nCache-Control: no-store\r\nAllow: GET, HEAD, PUT, DELETE\r\nVary: Origin\r\n\r\n"
unfolding head_text head_fields status_line digits values leave_of is_origin
asked-other = refl

-- a page of any origin reads what it knows
same-document : text_at_100 (to_page (codes "*") (codes "GET") (codes "https://shop.example")) (Read (record { commit = 7; clock = 100; ttl = 60; shared = 0; result = Same 5 (Some 4) })) ≡ codes "HTTP/1.1 304 Not Modified\r\nDate: Thu, 01 Jan 1970 00:01:40 GMT\r\nETag: \"5\"\r\nCache-Control: max-age=60\r\nQuaestor-Commit: 7\r\nQuaestor-Version: 4\r\nQuaestor-Until: 160\r\nAccess-Control-Allow-Origin: *\r\nAccess-Control-Expose-Headers: Date, ETag, Quaestor-Commit, Quaestor-Until, Quaestor-Version\r\n\r\n"
unfolding head_text head_fields status_line digits values leave_of is_origin
same-document = refl

-- bytes that cannot be framed have no origin that is known
unframed : text_at_100 (unframed_shape (codes "https://shop.example http://desk.example:8080") false) (Refusal (Framing BadHead) 100) ≡ codes "HTTP/1.1 400 Bad Request\r\nDate: Thu, 01 Jan 1970 00:01:40 GMT\r\nContent-Type: application/json\r\nContent-Length: 20\r\nCache-Control: no-store\r\nVary: Origin\r\n\r\n{\"error\":\"bad_head\"}"
unfolding head_text head_fields status_line digits leave_of is_origin
unframed = refl

-- where no origin is named, nothing is said of pages, and the method is refused
asked-silent : text_at_100 (to_page [] (codes "OPTIONS") (codes "https://shop.example")) (Refusal (BadMethod Record) 100) ≡ codes "HTTP/1.1 405 Method Not Allowed\r\nDate: Thu, 01 Jan 1970 00:01:40 GMT\r\nContent-Type: application/json\r\nContent-Length: 22\r\nCache-Control: no-store\r\nAllow: GET, HEAD, PUT, DELETE\r\n\r\n{\"error\":\"bad_method\"}"
unfolding head_text head_fields status_line digits values leave_of is_origin
asked-silent = refl
