-- Believed. How the body of a request is framed (RFC 9112, section 6), of its head's fields.
use Rattle.std.specs.Prelude.{ℕ, Bool, true, ◌&&◌, nat_le, nat_lt, if◌then◌else◌, ◌==◌, List, [], ◌∷◌, length, map, Result, Ok, Err, codes}
use Rattle.std.specs.Char.{is_ascii_digit}
use Rattle.std.specs.List.{list_all}
use Rattle.std.specs.Str.{str_eq_ignore_ascii_case}
use Rattle.std.specs.Str.Parse.{digits_value}
use Rattle.httparse.specs.Grammar.{RequestHead}
use Rattle.httparse.specs.Spans.{name_and_value}
use Rattle.http_message.specs.Fields.{Pair, values}
use Rattle.http_message.specs.Limits.{most_fields, body_limit}
use Rattle.http_message.specs.Message.{is_continue_expected}
use Rattle.http_message.specs.declared.framing.Framing.{Framing}
use Rattle.http_message.specs.declared.framing.Framing.TheVariants.{Sized, Chunked}
use Rattle.http_message.specs.declared.refusal.FramingRefusal.{FramingRefusal}
use Rattle.http_message.specs.declared.refusal.FramingRefusal.TheVariants.{HeadTooLarge, BadLength, BadCoding, BodyTooLarge}

-- 1 to 19 digits
unfoldable pub is_length : List ℕ → Bool
is_length text = nat_le 1 (length text) && nat_le (length text) 19 && list_all is_ascii_digit text

-- by one value of Content-Length
abbrev pub framing_by_length : List ℕ → Result Framing FramingRefusal
framing_by_length text =
    if is_length text
    then (if nat_le (digits_value 10 text) body_limit then Ok (Sized (digits_value 10 text)) else Err BodyTooLarge)
    else Err BadLength

-- by the values of Transfer-Encoding, of which there are some
abbrev pub framing_by_codings : List ℕ → List (List ℕ) → Result Framing FramingRefusal
framing_by_codings coding [] =
    if str_eq_ignore_ascii_case coding (codes "chunked") then Ok Chunked else Err BadCoding
framing_by_codings coding (other ∷ codings) = Err BadCoding

-- of the minor version, the values of Content-Length and those of Transfer-Encoding
abbrev pub framing_by : ℕ → List (List ℕ) → List (List ℕ) → Result Framing FramingRefusal
framing_by minor [] [] = Ok (Sized 0)
framing_by minor (text ∷ []) [] = framing_by_length text
framing_by minor (text ∷ other ∷ texts) [] = Err BadLength
framing_by minor [] (coding ∷ codings) =
    if minor == 0 then Err BadLength else framing_by_codings coding codings
framing_by minor (text ∷ texts) (coding ∷ codings) = Err BadLength

-- how the body is framed behind a head of this minor version and these fields, or why the head is refused
abbrev pub framing_in : ℕ → List Pair → Result Framing FramingRefusal
framing_in minor fields =
    if nat_lt most_fields (length fields) then Err HeadTooLarge
    else framing_by minor (values (codes "content-length") fields) (values (codes "transfer-encoding") fields)

-- the same of a head
unfoldable pub framing_of : RequestHead → Result Framing FramingRefusal
framing_of head = framing_in head.minor (map name_and_value head.fields)

-- a body of this framing is chunked or longer than 0
abbrev pub has_body : Framing → Bool
has_body (Sized size) = nat_lt 0 size
has_body Chunked = true

-- a head expects `100 Continue` before its body
unfoldable pub expects_continue : RequestHead → Framing → Bool
expects_continue head framing = is_continue_expected head.minor (map name_and_value head.fields) (has_body framing)
