-- Internal. What the fields of a reply's head say: which is refused first, how long the body is, and the parts of the reply.
use Rattle.std.specs.Prelude.{ℕ, zero, suc, ◌-◌, Bool, not, ◌&&◌, ◌||◌, ◌==◌, if◌then◌else◌, List, [], ◌∷◌, ◌++◌, length, drop, take, map, Option, Some, None, is_none, option_and_then, codes}
use Rattle.std.specs.List.{flat_map, list_any}
use Rattle.std.specs.Str.{str_eq_ignore_ascii_case}
use Rattle.httparse.specs.Ascii.{line_feed, colon}
use Rattle.httparse.specs.Grammar.{skip_ows, trim_ows}
use Rattle.http_message.specs.Fields.{Pair, is_named, pieces_between, values}
use Rattle.client_wire.specs.Numbers.{number_within, number_in, length_in, date_in, tag_in}
use Rattle.client_wire.specs.declared.judge.Verdict.{Verdict}
use Rattle.client_wire.specs.declared.judge.Verdict.TheVariants.{RefusedAt, Unsized, Sized}
use Rattle.client_wire.specs.declared.parts.ReplyParts.{ReplyParts}

-- ---- which field is refused

-- a field of this name stands among these
abbrev pub stands : List ℕ → List Pair → Bool
stands name pairs = list_any (is_named name) pairs

-- a field of this name that stands a second time, or whose value is not of the form
abbrev pub is_refused_as : List ℕ → (List ℕ → Option ℕ) → List Pair → Pair → Bool
is_refused_as name form before pair = is_named name pair && (stands name before || is_none (form pair.1))

-- the field is refused in a reply of this status, behind these fields. Content-Length is not looked at where the status, 304, has no body
abbrev pub is_refused : ℕ → List Pair → Pair → Bool
is_refused status before pair =
    is_named (codes "transfer-encoding") pair
    || (not (status == 304) && is_refused_as (codes "content-length") length_in before pair)
    || is_refused_as (codes "date") date_in before pair
    || (is_named (codes "etag") pair && stands (codes "etag") before)
    || is_refused_as (codes "quaestor-commit") number_in before pair
    || is_refused_as (codes "quaestor-version") number_in before pair
    || is_refused_as (codes "quaestor-until") number_in before pair

-- the index of the first field that is refused, of those that follow others
abbrev pub first_refused : ℕ → List Pair → List Pair → Option ℕ
first_refused status before [] = None
first_refused status before (pair ∷ pairs) =
    if is_refused status before pair then Some (length before) else first_refused status (before ++ pair ∷ []) pairs

-- ---- where a value begins

-- the bytes behind the first one that is this
abbrev pub behind : ℕ → List ℕ → List ℕ
behind byte [] = []
behind byte (b ∷ bytes) = if b == byte then bytes else behind byte bytes

-- the bytes behind the first line, and so many further ones
abbrev pub behind_lines : ℕ → List ℕ → List ℕ
behind_lines zero text = behind line_feed text
behind_lines (suc n) text = behind line_feed (behind_lines n text)

-- the offset in a head's text of the value of the field with this index: behind the colon of its line, and white space
unfoldable pub value_place : List ℕ → ℕ → ℕ
value_place text index = length text - length (skip_ows (behind colon (behind_lines index text)))

-- ---- what the fields say

-- the value of the first field of this name
abbrev pub first_value : List ℕ → List Pair → Option (List ℕ)
first_value name [] = None
first_value name (pair ∷ pairs) = if is_named name pair then Some pair.1 else first_value name pairs

-- the number that it is
abbrev pub number_at : List ℕ → List Pair → Option ℕ
number_at name pairs = option_and_then number_in (first_value name pairs)

-- the directives for caches, in turn, without the white space around them (RFC 9111, section 5.2)
unfoldable pub directives : List Pair → List (List ℕ)
directives pairs = map trim_ows (flat_map (pieces_between 44) (values (codes "cache-control") pairs))

-- the directive is `no-store`, without regard to ASCII case
abbrev pub is_no_store : List ℕ → Bool
is_no_store directive = str_eq_ignore_ascii_case directive (codes "no-store")

-- the seconds of a directive `max-age=N`, with N a number of 32 bits
abbrev pub seconds_in : List ℕ → Option ℕ
seconds_in directive =
    if str_eq_ignore_ascii_case (take 8 directive) (codes "max-age=") then number_within 4294967295 (drop 8 directive) else None

-- the first of two that is there
abbrev pub or_else : Option ℕ → Option ℕ → Option ℕ
or_else None other = other
or_else (Some n) other = Some n

-- the seconds of the first of such directives
abbrev pub first_seconds : List (List ℕ) → Option ℕ
first_seconds [] = None
first_seconds (directive ∷ others) = or_else (seconds_in directive) (first_seconds others)

-- for how many seconds a reply is fresh, where its directives say so and none is `no-store`
abbrev pub lifetime_by : List (List ℕ) → Option ℕ
lifetime_by found = if list_any is_no_store found then None else first_seconds found

-- the parts of a reply of this status and these fields
unfoldable pub parts_of : ℕ → List Pair → ReplyParts
parts_of status pairs = record {
  status = status;
  commit = number_at (codes "quaestor-commit") pairs;
  version = number_at (codes "quaestor-version") pairs;
  until = number_at (codes "quaestor-until") pairs;
  date = option_and_then date_in (first_value (codes "date") pairs);
  max_age = lifetime_by (directives pairs);
  tag = option_and_then tag_in (first_value (codes "etag") pairs);
}

-- the length of the body, where it is known
unfoldable pub size_of : ℕ → List Pair → Option ℕ
size_of status pairs =
    if status == 304 then Some 0 else option_and_then length_in (first_value (codes "content-length") pairs)

-- what becomes of a head's text: a refused field comes before a length that is absent
abbrev pub verdict_by : List ℕ → Option ℕ → Option ℕ → Verdict
verdict_by text (Some index) size = RefusedAt (value_place text index)
verdict_by text None (Some size) = Sized size
verdict_by text None None = Unsized

-- the same of its status and its fields
unfoldable pub verdict_of : List ℕ → ℕ → List Pair → Verdict
verdict_of text status pairs = verdict_by text (first_refused status [] pairs) (size_of status pairs)
