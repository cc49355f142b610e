-- Internal. Which texts are those of keys, and the offset at which another one is refused.
use Rattle.std.specs.Prelude.{ℕ, ◌+◌, Bool, false, not, ◌==◌, nat_eq, nat_lt, if◌then◌else◌, List, [], ◌∷◌, length, take, drop, bytes_eq, codes, Option, Some, None, Result, Ok, Err}
use Rattle.std.specs.Borrow.{Bor}
use Rattle.std.specs.List.{starts_with, prefix_len, common_prefix_len}
use Rattle.std.specs.Str.{is_utf8}
use Rattle.q_base.specs.Name.{read_name}
use Rattle.query_core.specs.declared.query.Kind.{Kind}
use Rattle.query_core.specs.declared.query.Kind.TheVariants.{Objects, Ids}
use Rattle.query_normal.specs.declared.key.KeyShape.{KeyShape}
use Rattle.query_normal.specs.declared.key.KeyShape.TheVariants.{Record, Query}
use Rattle.query_normal.specs.Keys.{key_text}
use Rattle.query_normal.specs.Normal.{normal_query}
use Rattle.query_lang.specs.Queries.{read_texts}
use Rattle.query_lang.specs.declared.key_parts.Quoting.{Quoting}
use Rattle.query_lang.specs.declared.key_parts.Quoting.TheVariants.{Outside, Inside, Escaping}
use Rattle.query_lang.specs.declared.key_parts.QueryParts.{QueryParts}
use Rattle.query_lang.specs.declared.key_reader.KeyRefusal.{KeyRefusal}
use Rattle.query_lang.specs.declared.key_reader.KeyRefusal.TheVariants.{BadKey}

-- ---- parts of a text

-- where the next byte is: outside quoted texts, inside one, or after a backslash in one
abbrev pub after_byte : Quoting → ℕ → Quoting
after_byte Outside b = if b == 34 then Inside else Outside
after_byte Inside b = if b == 34 then Outside else (if b == 92 then Escaping else Inside)
after_byte Escaping b = Inside

-- a `;` outside quoted texts
abbrev pub is_end : Quoting → ℕ → Bool
is_end Outside b = b == 59
is_end Inside b = false
is_end Escaping b = false

-- the number of bytes before the first `;` outside quoted texts, or of all
abbrev pub part_len : Quoting → List ℕ → ℕ
part_len q [] = 0
part_len q (b ∷ bs) = if is_end q b then 0 else 1 + part_len (after_byte q b) bs

-- any byte but a slash
abbrev pub is_no_slash : ℕ → Bool
is_no_slash b = not (b == 47)

-- a text up to the byte at this offset, and what follows that byte
abbrev pub parted : List ℕ → ℕ → Option (List ℕ × List ℕ)
parted text offset = if nat_lt offset (length text) then Some (take offset text, drop (offset + 1) text) else None

-- a text at its first slash
abbrev pub at_slash : List ℕ → Option (List ℕ × List ℕ)
at_slash text = parted text (prefix_len is_no_slash text)

-- a text at its first `;` outside quoted texts
abbrev pub at_semicolon : List ℕ → Option (List ℕ × List ℕ)
at_semicolon text = parted text (part_len Outside text)

-- what follows a sign of two bytes, where a text begins with it
abbrev pub after_sign : List ℕ → List ℕ → Option (List ℕ)
after_sign sign text = if starts_with nat_eq text sign then Some (drop 2 text) else None

-- a text of UTF-8 (RFC 3629)
abbrev pub utf8_text : List ℕ → Option (List ℕ)
utf8_text text = if is_utf8 text then Some text else None

-- the kind of this word
abbrev pub kind_of : List ℕ → Option Kind
kind_of word = if bytes_eq word (codes "objects") then Some Objects else (if bytes_eq word (codes "ids") then Some Ids else None)

-- what was read, if it was
abbrev pub accepted : {A E : Type 0} → Result A E → Option A
accepted (Ok a) = Some a
accepted (Err e) = None

infixl 10 ◌>>=◌
-- continues with what was found
abbrev pub ◌>>=◌ : {A B : Type 0} → Option A → (A → Option B) → Option B
None >>= f = None
(Some a) >>= f = f a

-- ---- keys

-- the parts of the text of a query's key after `q/`: a collection, a kind, and the texts of four fields; the last field is
-- read as a number, so it has no `;`
pub record Parts : Type 0 where
  pub collection : List ℕ
  pub kind : Kind
  pub filter : List ℕ
  pub order : List ℕ
  pub skip : List ℕ
  pub take_text : List ℕ

-- the name that bytes are
abbrev pub name_of : List ℕ → Option (List ℕ)
name_of bytes = accepted (read_name bytes)

-- the text of a field after its sign, in UTF-8
abbrev pub field_text : List ℕ → List ℕ → Option (List ℕ)
field_text sign text = after_sign sign text >>= utf8_text

-- the parts of a text after `q/`
unfoldable pub query_parts : List ℕ → Option Parts
query_parts text = do
  named ← at_slash text
  shown ← at_slash named.1
  kind ← kind_of shown.0
  filter ← at_semicolon shown.1
  order ← at_semicolon filter.1
  numbers ← at_semicolon order.1
  f ← field_text (codes "f=") filter.0
  o ← field_text (codes "o=") order.0
  s ← field_text (codes "s=") numbers.0
  n ← field_text (codes "n=") numbers.1
  Some (record { collection = named.0; kind = kind; filter = f; order = o; skip = s; take_text = n })

-- the key of the normal form of what these parts are read as
unfoldable pub query_of_parts : Parts → Option KeyShape
query_of_parts p = do
  collection ← name_of p.collection
  read ← accepted (read_texts collection p.filter p.order p.skip p.take_text [])
  Some (Query p.kind (normal_query read.0))

-- the key of a record whose text, after `r/`, is a name, a slash and a name
unfoldable pub record_of_text : List ℕ → Option KeyShape
record_of_text text = do
  names ← at_slash text
  collection ← name_of names.0
  id ← name_of names.1
  Some (Record collection id)

-- the key of a query whose parts a text has
abbrev pub query_of_text : List ℕ → Option KeyShape
query_of_text text = (after_sign (codes "q/") text >>= query_parts) >>= query_of_parts

-- the key of the record whose names follow `r/`, and where no `r/` is, the key of the query
abbrev pub of_record_or_query : Option (List ℕ) → List ℕ → Option KeyShape
of_record_or_query (Some names) text = record_of_text names
of_record_or_query None text = query_of_text text

-- the key whose parts a text has
unfoldable pub key_of_text : List ℕ → Option KeyShape
key_of_text text = of_record_or_query (after_sign (codes "r/") text) text

-- a key where a text is its text, and else the offset of the first byte at which they differ; 0 where there is no key
abbrev pub as_printed : List ℕ → Option KeyShape → Result KeyShape KeyRefusal
as_printed text None = Err (BadKey 0)
as_printed text (Some key) = if bytes_eq (key_text key) text then Ok key else Err (BadKey (common_prefix_len nat_eq text (key_text key)))

-- the key of a text, or why it is none
unfoldable pub read_key : List ℕ → Result KeyShape KeyRefusal
read_key text = as_printed text (key_of_text text)

-- ---- of the code

-- two parts of a text
abbrev pub seen_cut : Bor (List ℕ) × Bor (List ℕ) → List ℕ × List ℕ
seen_cut p = (p.0.now, p.1.now)

-- the parts of a text
abbrev pub seen_parts : QueryParts → Parts
seen_parts p = record { collection = p.collection.now; kind = p.kind; filter = p.f.now; order = p.o.now; skip = p.s.now; take_text = p.n.now }
