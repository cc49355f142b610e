-- Believed. Which bytes are a name.
use Rattle.std.specs.Prelude.{◌≡◌, ℕ, ◌≤◌, Bool, not, ◌||◌, ◌&&◌, if◌then◌else◌, ◌==◌, nat_le, nat_lt, List, length, Option, Some, None, Result, Ok, Err}
use Rattle.std.specs.List.{position}
use Rattle.q_base.specs.declared.name.NameRefusal.{NameRefusal}
use Rattle.q_base.specs.declared.name.NameRefusal.TheVariants.{Empty, TooLong, BadByte}

-- a to z, 0 to 9, `_` and `-`
abbrev pub is_name_byte : ℕ → Bool
is_name_byte byte = (nat_le 97 byte && nat_le byte 122) || (nat_le 48 byte && nat_le byte 57) || byte == 95 || byte == 45

-- the offset of the first byte that a name cannot have
abbrev pub first_bad : List ℕ → Option ℕ
first_bad bytes = position (λ byte. not (is_name_byte byte)) bytes

-- the greatest length of a name
abbrev pub most_name_bytes : ℕ
most_name_bytes = 64

-- 1 to 64 such bytes
pub record IsName (bytes : List ℕ) : Type 0 where
  pub some : 1 ≤ length bytes
  pub few : length bytes ≤ most_name_bytes
  pub good : first_bad bytes ≡ None

-- bytes of an allowed length as a name, or the first byte that a name cannot have
abbrev pub name_unless : List ℕ → Option ℕ → Result (List ℕ) NameRefusal
name_unless bytes None = Ok bytes
name_unless bytes (Some place) = Err (BadByte place)

-- bytes as a name, or the first reason why they are none
abbrev pub read_name : List ℕ → Result (List ℕ) NameRefusal
read_name bytes =
    if length bytes == 0 then Err Empty
    else (if nat_lt most_name_bytes (length bytes) then Err (TooLong (length bytes)) else name_unless bytes (first_bad bytes))
