-- The head of a reply has few fields, and its text is short.
use Rattle.std.proofs.Common.{◌≡◌, ℕ, zero, suc, ◌+◌, ◌<◌, ◌≤◌, ◌^◌, Bool, true, false, ◌&&◌, List, [], ◌∷◌, ◌++◌, length, refl, ◌∙◌, ap, arith, nat_le}
use Rattle.std.proofs.lemmas.Bool.{and_parts, leb-true}
use Rattle.std.proofs.lemmas.Bool.Decides.{Decides-below_and}
use Rattle.std.proofs.lemmas.Fmt.{length-decimal-le}
use Rattle.std.proofs.lemmas.Grind.{flat_map-append}
use Rattle.std.proofs.lemmas.List.{length-append}
use Rattle.std.specs.List.{list_all}
use Rattle.std.specs.Prelude.{Option, Some, None, IfSome, codes, decimal, nat_lt, unwrap_or}
use Rattle.http.specs.StatusCode.{reason_phrase}
use Rattle.http1.specs.Fields.{Header}
use Rattle.http1.specs.Head.{print_header, print_headers}
use Rattle.http_front.specs.Origins.{IsTellable, LeaveTold, is_origin, is_visible}
use Rattle.http_front.specs.Reply.{methods_text, allow_field, origin_fields, vary_field, calls_fields, pages_fields, close_field, date_field, lifetime_field, media_field, number_field, tag_field, head_fields, head_text, status_line}
use Rattle.http_front.specs.declared.head.Head.{Head}
use Rattle.http_front.specs.declared.head.MediaType.{MediaType}
use Rattle.http_front.specs.declared.head.MediaType.TheVariants.{Json, OctetStream}
use Rattle.http_front.specs.declared.refused.Allow.{Allow}
use Rattle.http_front.specs.declared.refused.Allow.TheVariants.{Record, Post, Other}
use Rattle.http_message.specs.Limits.{field_capacity, head_limit}
use Rattle.wire_law.proofs.PartLemmas.{IsInWidth}

-- Some fields are at most so many, and their lines at most so long.
record IsShort (count size : ℕ) (fields : List Header) : Type 0 where
  few : length fields ≤ count
  short : length (print_headers fields) ≤ size

both_short : {m n k l : ℕ} {xs ys : List Header} → IsShort m k xs → IsShort n l ys → IsShort (m + n) (k + l) (xs ++ ys)
both_short {m} {n} {k} {l} {xs} {ys} p q =
    let lines : length (print_headers (xs ++ ys)) ≡ length (print_headers xs) + length (print_headers ys) =
    ap length (flat_map-append print_header xs ys) ∙ length-append (print_headers xs) (print_headers ys) in
    record {
      few = omega (arith, length-append xs ys, p.few, q.few);
      short = omega (arith, lines, p.short, q.short);
    }

none_short : {count size : ℕ} → IsShort count size []
none_short = record { few = omega arith; short = omega arith }

-- a line has a colon, a space and a line end besides its name and its value
line_size : (name value : List ℕ) → length (print_headers ((name, value) ∷ [])) ≡ length name + length value + 4
line_size name value =
    let one : length (print_headers ((name, value) ∷ [])) ≡ length (print_header (name, value)) = omega (arith, length-append (print_header (name, value)) []) in
    omega (arith, one, length-append (name ++ 58 ∷ 32 ∷ value) (13 ∷ 10 ∷ []), length-append name (58 ∷ 32 ∷ value))

one_short : (size : ℕ) (name value : List ℕ) → length name + length value + 4 ≤ size → IsShort 1 size ((name, value) ∷ [])
one_short size name value fits = record { few = omega arith; short = omega (arith, line_size name value, fits) }

decimal_short : (n : ℕ) → n < 2 ^ 64 → length (decimal n) ≤ 20
decimal_short n small = length-decimal-le 20 n (omega arith) (omega (arith, small)) small

number_short : (name : List ℕ) (o : Option ℕ) → length name ≤ 76 → ((n : ℕ) → o ≡ Some n → n < 2 ^ 64) → IsShort 1 100 (number_field name o)
number_short name None short small = none_short
number_short name (Some n) short small = one_short 100 name (decimal n) (omega (arith, short, decimal_short n (small n refl)))

date_short : (dated : Bool) (date : List ℕ) → length date ≡ 29 → IsShort 1 100 (date_field dated date)
date_short false date size = none_short
date_short true date size = one_short 100 (codes "Date") date (omega (arith, size))

media_short : (media : Option MediaType) → IsShort 1 100 (media_field media)
media_short None = none_short
media_short (Some Json) = one_short 100 (codes "Content-Type") (codes "application/json") (omega arith)
media_short (Some OctetStream) = one_short 100 (codes "Content-Type") (codes "application/octet-stream") (omega arith)

tag_short : (o : Option ℕ) → ((n : ℕ) → o ≡ Some n → n < 2 ^ 64) → IsShort 1 100 (tag_field o)
tag_short None small = none_short
tag_short (Some n) small =
    one_short 100 (codes "ETag") (codes "\"" ++ (decimal n ++ codes "\""))
    (omega (arith, decimal_short n (small n refl), length-append (codes "\"") (decimal n ++ codes "\""), length-append (decimal n) (codes "\"")))

lifetime_short : (ttl shared : ℕ) → ttl < 2 ^ 32 → shared < 2 ^ 32 → IsShort 1 100 (lifetime_field ttl shared)
lifetime_short zero shared small low = one_short 100 (codes "Cache-Control") (codes "no-store") (omega arith)
lifetime_short (suc n) zero small low =
    one_short 100 (codes "Cache-Control") (codes "max-age=" ++ decimal (suc n))
    (omega (arith, decimal_short (suc n) (omega (arith, small)), length-append (codes "max-age=") (decimal (suc n))))
lifetime_short (suc n) (suc m) small low =
    one_short 100 (codes "Cache-Control") (((codes "public, max-age=" ++ decimal (suc n)) ++ codes ", ") ++ (codes "s-maxage=" ++ decimal (suc m)))
    (omega (
      arith,
      decimal_short (suc n) (omega (arith, small)),
      decimal_short (suc m) (omega (arith, low)),
      length-append ((codes "public, max-age=" ++ decimal (suc n)) ++ codes ", ") (codes "s-maxage=" ++ decimal (suc m)),
      length-append (codes "public, max-age=" ++ decimal (suc n)) (codes ", "),
      length-append (codes "public, max-age=") (decimal (suc n)),
      length-append (codes "s-maxage=") (decimal (suc m)),
    ))

methods_short : (allow : Allow) → length (methods_text allow) ≤ 22
methods_short Record = omega arith
methods_short Post = omega arith
methods_short Other = omega arith

allow_short : (o : Option Allow) → IsShort 1 100 (allow_field o)
allow_short None = none_short
allow_short (Some allow) = one_short 100 (codes "Allow") (methods_text allow) (omega (arith, methods_short allow))

origin_length : (origin : List ℕ) → is_origin origin ≡ true → length origin ≤ 255
unfolding is_origin
origin_length origin is =
    let some = and_parts (nat_lt 0 (length origin)) (nat_le (length origin) 255 && list_all is_visible origin) is in
    leb-true (length origin) 255 (and_parts (nat_le (length origin) 255) (list_all is_visible origin) some.1).0

origin_short : (o : Option (List ℕ)) → IfSome o (λ origin. is_origin origin ≡ true) → IsShort 2 500 (origin_fields o)
origin_short None is = none_short
origin_short (Some origin) is =
    both_short
    (one_short 300 (codes "Access-Control-Allow-Origin") origin (omega (arith, origin_length origin is)))
    (one_short 200 (codes "Access-Control-Expose-Headers") (codes "Date, ETag, Quaestor-Commit, Quaestor-Until, Quaestor-Version") (omega arith))

vary_short : (varies : Bool) → IsShort 1 100 (vary_field varies)
vary_short true = one_short 100 (codes "Vary") (codes "Origin") (omega arith)
vary_short false = none_short

calls_short : (o : Option Allow) → IsShort 3 300 (calls_fields o)
calls_short None = none_short
calls_short (Some allow) =
    both_short (one_short 100 (codes "Access-Control-Allow-Methods") (methods_text allow) (omega (arith, methods_short allow)))
    (both_short (one_short 100 (codes "Access-Control-Allow-Headers") (codes "Cache-Control, Content-Type, If-Match, If-None-Match") (omega arith))
    (one_short 100 (codes "Access-Control-Max-Age") (codes "600") (omega arith)))

pages_short : (leave : LeaveTold) (calls : Option Allow) → IsTellable leave → IsShort 6 900 (pages_fields leave calls)
pages_short leave calls is = both_short (origin_short leave.allow is) (both_short (vary_short leave.varies) (calls_short calls))

close_short : (close : Bool) → IsShort 1 100 (close_field close)
close_short false = none_short
close_short true = one_short 100 (codes "Connection") (codes "close") (omega arith)

fields_short : (h : Head) (date : List ℕ) → IsInWidth h → length date ≡ 29 → IsShort 16 1900 (head_fields h date)
unfolding head_fields
fields_short h date width size =
    both_short (date_short h.dated date size) (both_short (media_short h.media) (both_short (number_short (codes "Content-Length") h.length (omega arith) width.length)
    (both_short (tag_short h.tag width.tag) (both_short (lifetime_short h.ttl h.shared width.ttl width.shared) (both_short (allow_short h.allow)
    (both_short (number_short (codes "Quaestor-Commit") h.commit (omega arith) width.commit)
    (both_short (number_short (codes "Quaestor-Version") h.version (omega arith) width.version)
    (both_short (number_short (codes "Quaestor-Until") h.until (omega arith) width.until) (both_short (pages_short h.leave h.calls width.leave) (close_short h.close))))))))))

-- the phrase of each status is short
abbrev phrase : ℕ → List ℕ
phrase n = unwrap_or (reason_phrase n) (codes "<unknown status code>")

abbrev is_good : ℕ → Bool
is_good n = nat_le (length (phrase n)) 31

abbrev good_below : ℕ → Bool
good_below zero = true
good_below (suc n) = is_good n && good_below n

phrase_short : (n : ℕ) → n < 1000 → length (phrase n) ≤ 31
phrase_short n h =
    leb-true (length (phrase n)) 31
    ((Decides-below_and is_good (λ k. is_good k ≡ true) good_below (λ k. (λ x. x, λ x. x)) refl (λ _. refl) 1000).0 refl n h)

line_short : (n : ℕ) → n < 1000 → length (status_line n) ≤ 70
unfolding status_line
line_short n low =
    let number : length (decimal n) ≤ 20 = decimal_short n (omega (arith, low)) in
    omega (
      arith,
      number,
      phrase_short n low,
      length-append (codes "HTTP/1.1 ") ((decimal n ++ codes " " ++ phrase n) ++ codes "\r\n"),
      length-append (decimal n ++ codes " " ++ phrase n) (codes "\r\n"),
      length-append (decimal n ++ codes " ") (phrase n),
      length-append (decimal n) (codes " "),
    )

-- the text of a head is within the limit of a client, and so is the number of its fields
pub head_short : (h : Head) (date : List ℕ) → h.status < 1000 → IsInWidth h → length date ≡ 29
    → (length (head_text h.status (head_fields h date)) ≤ head_limit) × (length (head_fields h date) ≤ field_capacity)
unfolding head_text
head_short h date low width size =
    let fields = fields_short h date width size in
    let lines = print_headers (head_fields h date) in (
      omega (arith, fields.short, line_short h.status low, length-append (status_line h.status) (lines ++ codes "\r\n"), length-append lines (codes "\r\n")),
      omega (arith, fields.few),
    )
