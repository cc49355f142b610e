-- Rules of RFC 9110 and RFC 9112, said of the specs, so that a slip does not check.
use Rattle.std.proofs.Common.{◌≡◌, ℕ, List, [], ◌∷◌, refl, codes, replicate, true, false}
use Rattle.std.specs.Prelude.{Ok, Err}
use Rattle.httparse.specs.Grammar.{trim_ows}
use Rattle.http_message.specs.Fields.{Pair, values, has_option}
use Rattle.http_message.specs.Framing.{framing_in, is_length}
use Rattle.http_message.specs.Message.{Message, asks_to_close, is_continue_expected, expects}
use Rattle.http_message.specs.Text.{beginning_of, empty_lines_before_head, window, Text, BareCr, Unfinished, is_blank}
use Rattle.http_message.specs.declared.framing.Framing.TheVariants.{Sized, Chunked}
use Rattle.http_message.specs.Limits.{body_limit}
use Rattle.http_message.specs.declared.refusal.FramingRefusal.TheVariants.{HeadTooLarge, BadLength, BadCoding, BodyTooLarge}

-- RFC 9112, section 2.2: empty lines before the request line are passed over, and LF may end a line
pub lines : (beginning_of (codes "\r\n\nGET / HTTP/1.1\n\r\nx") ≡ Text (codes "GET / HTTP/1.1\n\r\n"))
    × (beginning_of (codes "a\n\nb") ≡ Text (codes "a\n\n"))
    × (beginning_of (codes "a\r\n\r\nb") ≡ Text (codes "a\r\n\r\n"))
    × (empty_lines_before_head (codes "\n\r\n\nx") ≡ 4)
unfolding beginning_of empty_lines_before_head window
lines = (refl, refl, refl, refl)

-- RFC 9112, section 2.2: a bare CR is no line end
pub returns : (beginning_of (codes "\n\rx") ≡ BareCr) × (beginning_of (codes "\n\r") ≡ Unfinished)
    × (beginning_of (codes "x\r") ≡ Unfinished) × (beginning_of [] ≡ Unfinished)
    × (is_blank (codes "\n\r") ≡ true) × (is_blank (codes "x") ≡ false)
unfolding beginning_of empty_lines_before_head window
returns = (refl, refl, refl, refl, refl, refl)

-- RFC 9110, section 8.6: a length is digits, leading zeros included
pub lengths : (framing_in 1 [] ≡ Ok (Sized 0))
    × (framing_in 1 ((codes "Content-Length", codes "0") ∷ []) ≡ Ok (Sized 0))
    × (framing_in 1 ((codes "CONTENT-length", codes "007") ∷ []) ≡ Ok (Sized 7))
    × (framing_in 0 ((codes "Content-Length", codes "7") ∷ []) ≡ Ok (Sized 7))
    × (framing_in 1 ((codes "Content-Length", codes "65536") ∷ []) ≡ Ok (Sized body_limit))
    × (framing_in 1 ((codes "Content-Length", codes "65537") ∷ []) ≡ Err BodyTooLarge)
    × (framing_in 1 ((codes "Content-Length", codes "0000000000000000007") ∷ []) ≡ Ok (Sized 7))
    × (framing_in 1 ((codes "Content-Length", codes "9999999999999999999") ∷ []) ≡ Err BodyTooLarge)
    × (framing_in 1 ((codes "Content-Length", codes "00000000000000000007") ∷ []) ≡ Err BadLength)
    × (framing_in 1 ((codes "Content-Length", codes "") ∷ []) ≡ Err BadLength)
    × (framing_in 1 ((codes "Content-Length", codes "+1") ∷ []) ≡ Err BadLength)
    × (framing_in 1 ((codes "Content-Length", codes "1, 1") ∷ []) ≡ Err BadLength)
    × (framing_in 1 ((codes "Content-Length", codes "1") ∷ (codes "Content-Length", codes "1") ∷ []) ≡ Err BadLength)
unfolding values is_length
lengths = (refl, refl, refl, refl, refl, refl, refl, refl, refl, refl, refl, refl, refl)

-- RFC 9112, sections 6.1 and 7: the names of codings have no case, and a coding is allowed in HTTP/1.1 alone
-- and without a length
pub codings : (framing_in 1 ((codes "Transfer-Encoding", codes "chunked") ∷ []) ≡ Ok Chunked)
    × (framing_in 1 ((codes "transfer-encoding", codes "Chunked") ∷ []) ≡ Ok Chunked)
    × (framing_in 1 ((codes "Transfer-Encoding", codes "gzip, chunked") ∷ []) ≡ Err BadCoding)
    × (framing_in 1 ((codes "Transfer-Encoding", codes "chunked, chunked") ∷ []) ≡ Err BadCoding)
    × (framing_in 1 ((codes "Transfer-Encoding", codes "") ∷ []) ≡ Err BadCoding)
    × (framing_in 1 ((codes "Transfer-Encoding", codes "gzip") ∷ (codes "Transfer-Encoding", codes "chunked") ∷ []) ≡ Err BadCoding)
    × (framing_in 1 ((codes "Transfer-Encoding", codes "chunked") ∷ (codes "Content-Length", codes "3") ∷ []) ≡ Err BadLength)
    × (framing_in 0 ((codes "Transfer-Encoding", codes "chunked") ∷ []) ≡ Err BadLength)
    × (framing_in 0 ((codes "Transfer-Encoding", codes "gzip") ∷ []) ≡ Err BadLength)
unfolding values is_length
codings = (refl, refl, refl, refl, refl, refl, refl, refl, refl)

-- a head has at most 64 fields
pub counts : (framing_in 1 (replicate 64 (codes "a", codes "b")) ≡ Ok (Sized 0))
    × (framing_in 1 (replicate 65 (codes "a", codes "b")) ≡ Err HeadTooLarge)
unfolding values
counts = (refl, refl)

-- a request of this minor version with these fields
abbrev request_with : ℕ → List Pair → Message
request_with minor fields = record {
  method = codes "GET";
  target = codes "/";
  minor = minor;
  fields = fields;
  body = [];
}

-- RFC 9110, section 7.6.1, and RFC 9112, section 9.3: options of a connection have no case
pub connections : (asks_to_close (request_with 1 []) ≡ false)
    × (asks_to_close (request_with 1 ((codes "Connection", codes "Keep-Alive, CLOSE") ∷ [])) ≡ true)
    × (asks_to_close (request_with 1 ((codes "connection", codes ",close\t, x") ∷ [])) ≡ true)
    × (asks_to_close (request_with 1 ((codes "Connection", codes "x") ∷ (codes "Connection", codes "close") ∷ [])) ≡ true)
    × (asks_to_close (request_with 1 ((codes "Connection", codes "closed") ∷ [])) ≡ false)
    × (asks_to_close (request_with 1 ((codes "Connection", codes "x close") ∷ [])) ≡ false)
    × (asks_to_close (request_with 1 ((codes "Connection", codes "") ∷ [])) ≡ false)
    × (asks_to_close (request_with 0 []) ≡ true)
    × (asks_to_close (request_with 0 ((codes "Connection", codes "keep-alive") ∷ [])) ≡ true)
unfolding values has_option trim_ows
connections = (refl, refl, refl, refl, refl, refl, refl, refl, refl)

-- RFC 9110, section 10.1.1: the expectation has no case, HTTP/1.0 has none, and no body needs none
pub expectations : (expects ((codes "Expect", codes "100-continue") ∷ []) ≡ true)
    × (expects ((codes "expect", codes "100-Continue") ∷ []) ≡ true)
    × (expects ((codes "Expect", codes "x") ∷ (codes "Expect", codes "100-continue") ∷ []) ≡ true)
    × (expects ((codes "Expect", codes "100-continue, x") ∷ []) ≡ false)
    × (expects ((codes "Expect", codes "") ∷ []) ≡ false)
    × (expects [] ≡ false)
    × (is_continue_expected 1 ((codes "Expect", codes "100-continue") ∷ []) true ≡ true)
    × (is_continue_expected 1 ((codes "Expect", codes "100-continue") ∷ []) false ≡ false)
    × (is_continue_expected 0 ((codes "Expect", codes "100-continue") ∷ []) true ≡ false)
unfolding values
expectations = (refl, refl, refl, refl, refl, refl, refl, refl, refl)
