-- Believed. The limits of a request.
use Rattle.std.specs.Prelude.{ℕ, ◌+◌}

-- the longest head, with the empty lines before it, in bytes
abbrev pub head_limit : ℕ
head_limit = 16384

-- the greatest number of fields of a head
abbrev pub most_fields : ℕ
most_fields = 64

-- the number of fields that fit into the buffer for them: a field has three bytes at least
abbrev pub field_capacity : ℕ
field_capacity = 5462

-- the longest body, in bytes
abbrev pub body_limit : ℕ
body_limit = 65536

-- the longest line of a chunk with its line end, and the longest trailers with their empty line, in bytes
abbrev pub line_limit : ℕ
line_limit = 4096

-- the number of trailer fields that fit into the buffer for them: a field has three bytes at least
abbrev pub trailer_capacity : ℕ
trailer_capacity = 1366

-- the longest chunked coding of a body, in bytes
abbrev pub coding_limit : ℕ
coding_limit = 524288

-- the longest item, in bytes: the longest head and the longest coding
abbrev pub item_limit : ℕ
item_limit = head_limit + coding_limit
