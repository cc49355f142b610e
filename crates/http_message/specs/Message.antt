-- Believed. A request, as its bytes say it.
use Rattle.std.specs.Prelude.{ℕ, Bool, ◌&&◌, ◌||◌, ◌==◌, nat_lt, take, List, length, map, codes}
use Rattle.std.specs.List.{list_any}
use Rattle.std.specs.Str.{str_eq_ignore_ascii_case}
use Rattle.httparse.specs.Grammar.{RequestHead}
use Rattle.httparse.specs.Spans.{name_and_value, span_bytes, header_bytes}
use Rattle.httparse.specs.declared.spans.HeaderSpan.{HeaderSpan}
use Rattle.httparse.specs.declared.spans.RequestSpans.{RequestSpans}
use Rattle.http_message.specs.Fields.{Pair, values, lists}

-- the parts of a request
pub record Message : Type 0 where
  pub method : List ℕ
  pub target : List ℕ
  -- 0 for HTTP/1.0, and 1 for HTTP/1.1
  pub minor : ℕ
  pub fields : List Pair
  -- without its framing
  pub body : List ℕ

-- the request of a head and a body
abbrev pub message_of : RequestHead → List ℕ → Message
message_of head body = record {
  method = head.method;
  target = head.target;
  minor = head.minor;
  fields = map name_and_value head.fields;
  body = body;
}

-- the request whose parts are at these offsets in the text of its head
abbrev pub message_in : List ℕ → List HeaderSpan → RequestSpans → List ℕ → Message
message_in text spans parts body = record {
  method = span_bytes text parts.method;
  target = span_bytes text parts.path;
  minor = parts.version;
  fields = map (header_bytes text) (take parts.headers spans);
  body = body;
}

-- there is a field Transfer-Encoding
abbrev pub is_coded : List Pair → Bool
is_coded fields = nat_lt 0 (length (values (codes "transfer-encoding") fields))

-- some field of Expect asks for `100 Continue`, and for nothing else (RFC 9110, section 10.1.1)
abbrev pub expects : List Pair → Bool
expects fields =
    list_any (λ value. str_eq_ignore_ascii_case value (codes "100-continue")) (values (codes "expect") fields)

-- A request of HTTP/1.1 gets `100 Continue` where it asks for it and has a body, which is chunked
-- or longer than 0.
abbrev pub is_continue_expected : ℕ → List Pair → Bool → Bool
is_continue_expected minor fields has_body = (minor == 1) && (expects fields && has_body)

-- the connection ends after a request of HTTP/1.0, and after one that asks for it (RFC 9112, section 9.6)
abbrev pub asks_to_close : Message → Bool
asks_to_close m = (m.minor == 0) || lists (codes "connection") (codes "close") m.fields
