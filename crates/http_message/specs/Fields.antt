-- Believed. The fields of a head by their names (RFC 9110, section 5).
use Rattle.std.specs.Prelude.{ℕ, Bool, if◌then◌else◌, ◌==◌, List, [], ◌∷◌, map, filter}
use Rattle.std.specs.List.{list_any}
use Rattle.std.specs.Str.{str_eq_ignore_ascii_case}
use Rattle.httparse.specs.Grammar.{trim_ows}

-- a field's name, and its value without the white space around it
abbrev pub Pair : Type 0
Pair = List ℕ × List ℕ

-- the field has this name, without regard to ASCII case
abbrev pub is_named : List ℕ → Pair → Bool
is_named name pair = str_eq_ignore_ascii_case pair.0 name

-- the values of the fields of that name, in turn
unfoldable pub values : List ℕ → List Pair → List (List ℕ)
values name pairs = map (λ pair. pair.1) (filter (is_named name) pairs)

-- a byte put before the first of the pieces
abbrev pub before_first : ℕ → List (List ℕ) → List (List ℕ)
before_first byte [] = (byte ∷ []) ∷ []
before_first byte (piece ∷ pieces) = (byte ∷ piece) ∷ pieces

-- the pieces between the bytes that are this one; no byte is one empty piece
abbrev pub pieces_between : ℕ → List ℕ → List (List ℕ)
pieces_between separator [] = [] ∷ []
pieces_between separator (byte ∷ bytes) =
    if byte == separator then [] ∷ pieces_between separator bytes else before_first byte (pieces_between separator bytes)

-- the option is a member of the list, without regard to ASCII case and to white space around it
unfoldable pub has_option : List ℕ → List ℕ → Bool
has_option option text =
    list_any (λ piece. str_eq_ignore_ascii_case (trim_ows piece) option) (pieces_between 44 text)

-- some field of this name lists the option (RFC 9110, section 5.6.1)
abbrev pub lists : List ℕ → List ℕ → List Pair → Bool
lists name option pairs = list_any (has_option option) (values name pairs)
