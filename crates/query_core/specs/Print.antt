-- Believed. The printed text of a query.
use Rattle.std.specs.Prelude.{ℕ, ◌+◌, ◌/◌, ◌%◌, Bool, true, false, not, ◌&&◌, ◌||◌, ◌==◌, nat_le, nat_lt, if◌then◌else◌, List, [], ◌∷◌, ◌++◌, codes}
use Rattle.std.specs.List.{list_any, list_all, flat_map, join_by}
use Rattle.std.specs.Str.{bytes_eq}
use Rattle.std.specs.Fmt.{decimal, signed_decimal}
use Rattle.q_doc.specs.Tree.{Tree, null, boolean, number, text, array, object}
use Rattle.query_core.specs.declared.operator.Op.{Op}
use Rattle.query_core.specs.declared.operator.Op.TheVariants.{Equal, Unequal, Less, AtMost, Greater, AtLeast}
use Rattle.query_core.specs.declared.query.Query.{Query}
use Rattle.query_core.specs.Filters.{Filter, constant, compared, listed, having, present, negated, every, some, Operands, no_operands, operand}
use Rattle.query_core.specs.Window.{Order}

-- ---- words and texts

-- a letter or `_`
abbrev pub is_letter : ℕ → Bool
is_letter b = nat_le 97 b && nat_le b 122 || nat_le 65 b && nat_le b 90 || b == 95

-- a decimal digit
abbrev pub is_digit : ℕ → Bool
is_digit b = nat_le 48 b && nat_le b 57

-- the first byte is one that a word may begin with
abbrev pub starts_word : List ℕ → Bool
starts_word [] = false
starts_word (b ∷ bs) = is_letter b

-- the words of the language, which no bare segment is
abbrev pub reserved : List (List ℕ)
reserved = codes "and" ∷ codes "or" ∷ codes "not" ∷ codes "in" ∷ codes "has" ∷ codes "exists" ∷ codes "true" ∷ codes "false" ∷ codes "null" ∷ codes "asc" ∷ codes "desc" ∷ []

-- a letter or `_`, and then letters, digits and `_`
abbrev pub is_word : List ℕ → Bool
is_word s = starts_word s && list_all (λ b. is_letter b || is_digit b) s

-- one of the language's own words
abbrev pub is_reserved : List ℕ → Bool
is_reserved s = list_any (bytes_eq s) reserved

-- a word that is not reserved, so that it is printed without quotes
abbrev pub is_bare : List ℕ → Bool
is_bare s = is_word s && not (is_reserved s)

-- a hexadecimal digit, in lower case
abbrev pub hex_digit : ℕ → ℕ
hex_digit n = if nat_lt n 10 then 48 + n else 87 + n

-- a byte inside quotes: quotes, backslashes and control characters are escaped
abbrev pub quoted_byte : ℕ → List ℕ
quoted_byte b =
    if b == 34 then codes "\\\""
    else (if b == 92 then codes "\\\\"
    else (if nat_lt b 32 then codes "\\u00" ++ hex_digit (b / 16) ∷ hex_digit (b % 16) ∷ []
    else b ∷ []))

-- a text in quotes
abbrev pub quoted : List ℕ → List ℕ
quoted s = 34 ∷ flat_map quoted_byte s ++ 34 ∷ []

-- a segment of a path, bare where it may be
abbrev pub segment_text : List ℕ → List ℕ
segment_text s = if is_bare s then s else quoted s

-- the segments with dots between them
abbrev pub path_text : List (List ℕ) → List ℕ
path_text segments = join_by segment_text (codes ".") segments

-- a value: a text, a number, a truth value or null; no query has another
abbrev pub value_text : Tree → List ℕ
value_text null = codes "null"
value_text (boolean true) = codes "true"
value_text (boolean false) = codes "false"
value_text (number z) = signed_decimal z
value_text (text s) = quoted s
value_text (array ts) = []
value_text (object ms) = []

-- values with commas between them
abbrev pub values_text : List Tree → List ℕ
values_text vs = join_by value_text (codes ", ") vs

-- ---- filters

-- the operator of a comparison
abbrev pub op_text : Op → List ℕ
op_text Equal = codes "="
op_text Unequal = codes "!="
op_text Less = codes "<"
op_text AtMost = codes "<="
op_text Greater = codes ">"
op_text AtLeast = codes ">="

-- filters that are joined by `and`
abbrev pub is_every : Filter → Bool
is_every (every fs) = true
is_every (constant b) = false
is_every (compared p op v) = false
is_every (listed p vs) = false
is_every (having p v) = false
is_every (present p) = false
is_every (negated f) = false
is_every (some fs) = false

-- filters that are joined by `or`
abbrev pub is_some : Filter → Bool
is_some (some fs) = true
is_some (constant b) = false
is_some (compared p op v) = false
is_some (listed p vs) = false
is_some (having p v) = false
is_some (present p) = false
is_some (negated f) = false
is_some (every fs) = false

-- a text in parentheses where they are needed
abbrev pub in_parentheses : Bool → List ℕ → List ℕ
in_parentheses inside s = if inside then codes "(" ++ s ++ codes ")" else s

-- the texts of filters
abbrev mutual
  -- a filter, with one space between the tokens of an atom
  pub filter_text : Filter → List ℕ
  filter_text (constant true) = codes "true"
  filter_text (constant false) = codes "false"
  filter_text (compared p op v) = path_text p ++ codes " " ++ op_text op ++ codes " " ++ value_text v
  filter_text (listed p vs) = path_text p ++ codes " in [" ++ values_text vs ++ codes "]"
  filter_text (having p v) = path_text p ++ codes " has " ++ value_text v
  filter_text (present p) = codes "exists " ++ path_text p
  filter_text (negated f) = codes "not " ++ in_parentheses (is_every f || is_some f) (filter_text f)
  filter_text (every fs) = every_text fs
  filter_text (some fs) = some_text fs

  -- the operands of `and`
  pub every_text : Operands → List ℕ
  every_text no_operands = []
  every_text (operand f fs) = in_parentheses (is_every f || is_some f) (filter_text f) ++ every_rest fs

  -- those after the first
  pub every_rest : Operands → List ℕ
  every_rest no_operands = []
  every_rest (operand f fs) = codes " and " ++ in_parentheses (is_every f || is_some f) (filter_text f) ++ every_rest fs

  -- the operands of `or`
  pub some_text : Operands → List ℕ
  some_text no_operands = []
  some_text (operand f fs) = in_parentheses (is_some f) (filter_text f) ++ some_rest fs

  -- those after the first
  pub some_rest : Operands → List ℕ
  some_rest no_operands = []
  some_rest (operand f fs) = codes " or " ++ in_parentheses (is_some f) (filter_text f) ++ some_rest fs

-- ---- queries

-- a path of an order; only a descending one has a word
abbrev pub order_item_text : List (List ℕ) × Bool → List ℕ
order_item_text p = path_text p.0 ++ (if p.1 then codes " desc" else [])

-- the paths of an order with commas between them
abbrev pub order_text : Order → List ℕ
order_text order = join_by order_item_text (codes ",") order

-- the filter, the order and the two numbers of a query
abbrev pub print_query : Query → List ℕ
print_query q =
    codes "f=" ++ filter_text q.filter ++ codes ";o=" ++ order_text q.order ++ codes ";s=" ++ decimal q.skip ++ codes ";n=" ++ decimal q.take
