-- Believed. A reply as data, and its text (RFC 9112, section 4).
use Rattle.std.specs.Prelude.{ℕ, zero, suc, Bool, true, false, List, [], ◌∷◌, ◌++◌, Option, Some, None, codes, decimal, unwrap_or}
use Rattle.http.specs.StatusCode.{reason_phrase, status_text}
use Rattle.http1.specs.Fields.{Header}
use Rattle.http1.specs.Head.{section_text}
use Rattle.http_front.specs.Origins.{LeaveTold}
use Rattle.http_front.specs.declared.head.Head.{Head}
use Rattle.http_front.specs.declared.head.MediaType.{MediaType}
use Rattle.http_front.specs.declared.head.MediaType.TheVariants.{Json, OctetStream}
use Rattle.http_front.specs.declared.refused.Allow.{Allow}
use Rattle.http_front.specs.declared.refused.Allow.TheVariants.{Record, Post, Other}

-- What a reply is: its status, its fields in their order, and what follows them.
pub record Reply : Type 0 where
  pub status : ℕ
  pub fields : List Header
  pub body : List ℕ

-- the phrase of a status
unfoldable pub phrase_of : ℕ → List ℕ
phrase_of status = unwrap_or (reason_phrase status) (codes "<unknown status code>")

-- the line of a status, with the phrase that the crate `http` gives to it
unfoldable pub status_line : ℕ → List ℕ
status_line status = codes "HTTP/1.1 " ++ (status_text status ++ codes "\r\n")

-- the head of a reply: the line of its status, its fields, and an empty line
unfoldable pub head_text : ℕ → List Header → List ℕ
head_text status fields = section_text (status_line status) fields

-- the text of a reply
abbrev pub reply_text : Reply → List ℕ
reply_text reply = head_text reply.status reply.fields ++ reply.body

-- a field whose value is a number, where there is one
abbrev pub number_field : List ℕ → Option ℕ → List Header
number_field name None = []
number_field name (Some n) = (name, decimal n) ∷ []

-- the date, where the reply has one (RFC 9110, section 6.6.1)
abbrev pub date_field : Bool → List ℕ → List Header
date_field true date = (codes "Date", date) ∷ []
date_field false date = []

-- what the body is, where there is one (RFC 9110, section 8.3)
abbrev pub media_field : Option MediaType → List Header
media_field None = []
media_field (Some Json) = (codes "Content-Type", codes "application/json") ∷ []
media_field (Some OctetStream) = (codes "Content-Type", codes "application/octet-stream") ∷ []

-- the tag of what was read, where it has one (RFC 9110, section 8.8.3)
abbrev pub tag_field : Option ℕ → List Header
tag_field None = []
tag_field (Some n) = (codes "ETag", codes "\"" ++ (decimal n ++ codes "\"")) ∷ []

-- for how many seconds the reply is fresh, and for how many in a shared cache, where that is told (RFC 9111, section 5.2.2)
abbrev pub lifetime_field : ℕ → ℕ → List Header
lifetime_field zero shared = (codes "Cache-Control", codes "no-store") ∷ []
lifetime_field (suc n) zero = (codes "Cache-Control", codes "max-age=" ++ decimal (suc n)) ∷ []
lifetime_field (suc n) (suc m) =
    (codes "Cache-Control", ((codes "public, max-age=" ++ decimal (suc n)) ++ codes ", ") ++ (codes "s-maxage=" ++ decimal (suc m))) ∷ []

-- methods as a list
abbrev pub methods_text : Allow → List ℕ
methods_text Record = codes "GET, HEAD, PUT, DELETE"
methods_text Post = codes "POST"
methods_text Other = codes "GET, HEAD"

-- the methods of the route, where they are listed (RFC 9110, section 10.2.1)
abbrev pub allow_field : Option Allow → List Header
allow_field None = []
allow_field (Some allow) = (codes "Allow", methods_text allow) ∷ []

-- the origin whose pages may read the reply, and what they may read beside its body (the Fetch standard, "HTTP responses")
abbrev pub origin_fields : Option (List ℕ) → List Header
origin_fields None = []
origin_fields (Some origin) =
    (codes "Access-Control-Allow-Origin", origin)
    ∷ (codes "Access-Control-Expose-Headers", codes "Date, ETag, Quaestor-Commit, Quaestor-Until, Quaestor-Version") ∷ []

-- pages of other origins may be told otherwise, where they are (RFC 9110, section 12.5.5)
abbrev pub vary_field : Bool → List Header
vary_field true = (codes "Vary", codes "Origin") ∷ []
vary_field false = []

-- what a page may send, and for how many seconds it needs not ask again, where it asked for that
abbrev pub calls_fields : Option Allow → List Header
calls_fields None = []
calls_fields (Some allow) =
    (codes "Access-Control-Allow-Methods", methods_text allow)
    ∷ (codes "Access-Control-Allow-Headers", codes "Cache-Control, Content-Type, If-Match, If-None-Match")
    ∷ (codes "Access-Control-Max-Age", codes "600") ∷ []

-- what a reply says to pages
abbrev pub pages_fields : LeaveTold → Option Allow → List Header
pages_fields leave calls = origin_fields leave.allow ++ (vary_field leave.varies ++ calls_fields calls)

-- the connection ends after the reply, where it says so (RFC 9112, section 9.6)
abbrev pub close_field : Bool → List Header
close_field true = (codes "Connection", codes "close") ∷ []
close_field false = []

-- the fields of a head in their order, with the text of its date
unfoldable pub head_fields : Head → List ℕ → List Header
head_fields h date =
    date_field h.dated date ++ (media_field h.media ++ (number_field (codes "Content-Length") h.length
    ++ (tag_field h.tag ++ (lifetime_field h.ttl h.shared ++ (allow_field h.allow
    ++ (number_field (codes "Quaestor-Commit") h.commit ++ (number_field (codes "Quaestor-Version") h.version
    ++ (number_field (codes "Quaestor-Until") h.until ++ (pages_fields h.leave h.calls
    ++ close_field h.close)))))))))
