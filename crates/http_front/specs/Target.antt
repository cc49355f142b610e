-- Believed. The parts of a request's target (RFC 9112, section 3.2).
use Rattle.std.specs.Prelude.{ℕ, ◌+◌, Bool, ◌||◌, ◌==◌, nat_eq, if◌then◌else◌, List, [], ◌∷◌, drop, Option, Some, None, option_map, codes}
use Rattle.std.specs.List.{starts_with, position, position_or_len, before_first, after_first}

-- what precedes the first such byte, or all where there is none
abbrev pub ahead_of : ℕ → List ℕ → List ℕ
ahead_of separator text = before_first (λ byte. byte == separator) text

-- what follows it, or nothing where there is none
abbrev pub after : ℕ → List ℕ → List ℕ
after separator text = after_first (λ byte. byte == separator) text

-- what follows it, where there is one
abbrev pub behind : ℕ → List ℕ → Option (List ℕ)
behind separator text = option_map (λ offset. drop (offset + 1) text) (position (λ byte. byte == separator) text)

-- the bytes that end the name of a server: `/` and `?`
abbrev pub ends_authority : ℕ → Bool
ends_authority byte = byte == 47 || byte == 63

-- a target without what names the server, where it begins with `/` or with `http://`
unfoldable pub local_part : List ℕ → Option (List ℕ)
local_part target =
    if starts_with nat_eq target (codes "/") then Some target
    else (if starts_with nat_eq target (codes "http://")
    then Some (drop (position_or_len ends_authority (drop 7 target)) (drop 7 target))
    else None)

-- the path `/` where there is none
abbrev pub or_root : List ℕ → List ℕ
or_root [] = 47 ∷ []
or_root (byte ∷ path) = byte ∷ path

-- the path, which ends at the first `?`
unfoldable pub path_of : List ℕ → List ℕ
path_of local = or_root (ahead_of 63 local)

-- the query after it
abbrev pub query_of : List ℕ → Option (List ℕ)
query_of local = behind 63 local
