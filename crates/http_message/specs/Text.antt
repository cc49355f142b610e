-- Believed. Where the text of a request's head ends in a stream of bytes (RFC 9112, sections 2.1 and 2.2).
use Rattle.std.specs.Prelude.{ℕ, suc, Bool, true, false, not, ◌&&◌, ◌||◌, nat_lt, nat_le, if◌then◌else◌, ◌==◌, List, [], ◌∷◌, length, take, drop, Option, Some, None, option_map}
use Rattle.std.specs.List.{list_all}
use Rattle.httparse.specs.Ascii.{line_feed, carriage_return}
use Rattle.http_message.specs.Limits.{head_limit}

-- the bytes begin with a line feed
abbrev pub begins_line_feed : List ℕ → Bool
begins_line_feed [] = false
begins_line_feed (byte ∷ bytes) = byte == line_feed

-- the length of the empty line at the start, LF or CR LF, or 0 where there is none
abbrev pub empty_line : List ℕ → ℕ
empty_line [] = 0
empty_line (byte ∷ bytes) =
    if byte == line_feed then 1
    else (if (byte == carriage_return) && begins_line_feed bytes then 2 else 0)

-- the length of all the empty lines at the start (a CR counts where LF follows)
abbrev pub empty_lines_at_start : List ℕ → ℕ
empty_lines_at_start [] = 0
empty_lines_at_start (byte ∷ bytes) =
    if nat_lt 0 (empty_line (byte ∷ bytes)) then suc (empty_lines_at_start bytes) else 0

-- the length up to and with the first empty line: the first LF that LF or CR LF follows, with these
abbrev pub head_length : List ℕ → Option ℕ
head_length [] = None
head_length (byte ∷ bytes) =
    if (byte == line_feed) && nat_lt 0 (empty_line bytes) then Some (suc (empty_line bytes))
    else option_map suc (head_length bytes)

-- a bare CR: a CR, and then a byte that is no LF
abbrev pub begins_bare_cr : List ℕ → Bool
begins_bare_cr [] = false
begins_bare_cr (byte ∷ []) = false
begins_bare_cr (byte ∷ next ∷ bytes) = (byte == carriage_return) && not (next == line_feed)

-- the bytes in which a head has to end
unfoldable pub window : List ℕ → List ℕ
window bytes = take head_limit bytes

-- the length of the empty lines before a head
unfoldable pub empty_lines_before_head : List ℕ → ℕ
empty_lines_before_head bytes = empty_lines_at_start (window bytes)

-- the bytes of the window after these
abbrev pub behind_empty_lines : List ℕ → List ℕ
behind_empty_lines bytes = drop (empty_lines_at_start (window bytes)) (window bytes)

-- the text of the head, where its end is in the window
abbrev pub head_text : List ℕ → Option (List ℕ)
head_text bytes = option_map (λ n. take n (behind_empty_lines bytes)) (head_length (behind_empty_lines bytes))

-- What a stream begins with.
pub data Beginning : Type 0 where
  -- a bare CR after the empty lines
  BareCr : Beginning
  -- the text of a head is complete
  Text : (text : List ℕ) → Beginning
  -- the window is full, and no head ends in it
  TooLarge : Beginning
  -- more bytes decide
  Unfinished : Beginning

-- what a stream begins with, by the text of the head and whether the window is full
abbrev pub beginning_by : Option (List ℕ) → Bool → Beginning
beginning_by (Some text) full = Text text
beginning_by None true = TooLarge
beginning_by None false = Unfinished

-- what these bytes begin with
unfoldable pub beginning_of : List ℕ → Beginning
beginning_of bytes =
    if begins_bare_cr (behind_empty_lines bytes) then BareCr
    else beginning_by (head_text bytes) (nat_le head_limit (length bytes))

-- a byte of an empty line
abbrev pub is_line_end : ℕ → Bool
is_line_end byte = byte == carriage_return || byte == line_feed

-- nothing but CR and LF
abbrev pub is_blank : List ℕ → Bool
is_blank bytes = list_all is_line_end bytes
