-- Believed. Lists of entity tags (RFC 9110, section 8.8.3), and the commits that they name.
use Rattle.std.specs.Prelude.{ℕ, ◌-◌, Bool, true, false, not, ◌||◌, ◌&&◌, ◌==◌, nat_eq, nat_le, nat_lt, if◌then◌else◌, bytes_eq, List, [], ◌∷◌, length, take, drop, filter, map, Option, Some, None, Result, Ok, Err, codes}
use Rattle.std.specs.List.{list_all, filter_map, flat_map, onto_first, starts_with, ends_with}
use Rattle.httparse.specs.Grammar.{trim_ows}
use Rattle.hub_model.specs.declared.entry.Tags.{Tags}
use Rattle.hub_model.specs.declared.entry.Tags.TheVariants.{Any, Listed}
use Rattle.http_front.specs.declared.tags.TagRefusal.{TagRefusal}
use Rattle.http_front.specs.declared.tags.TagRefusal.TheVariants.{BadTag}
use Rattle.http_front.specs.Numbers.{number_of}
use Rattle.http_front.specs.declared.tags.Comparison.{Comparison}
use Rattle.http_front.specs.declared.tags.Comparison.TheVariants.{Strong, Weak}

-- an entity tag
pub record Tag : Type 0 where
  pub weak : Bool
  pub text : List ℕ

-- a byte of a tag's text: `!`, `#` to `~`, and 128 to 255
abbrev pub is_tag_byte : ℕ → Bool
is_tag_byte byte = byte == 33 || (nat_le 35 byte && nat_le byte 126) || nat_le 128 byte

-- the text without its first and its last byte
abbrev pub inner : List ℕ → List ℕ
inner text = take (length text - 2) (drop 1 text)

-- the bytes of a tag between double quotes
abbrev pub is_quoted : List ℕ → Bool
is_quoted text =
    nat_le 2 (length text) && starts_with nat_eq text (codes "\"") && ends_with nat_eq text (codes "\"")
    && list_all is_tag_byte (inner text)

-- the tag of these bytes in quotes
abbrev pub opaque_tag : Bool → List ℕ → Option Tag
opaque_tag weak text = if is_quoted text then Some (record { weak = weak; text = inner text }) else None

-- the tag that a member of a list is
unfoldable pub tag_of : List ℕ → Option Tag
tag_of member =
    if starts_with nat_eq member (codes "W/") then opaque_tag true (drop 2 member) else opaque_tag false member

-- whether the next byte is in quotes
abbrev pub quotes : Bool → ℕ → Bool
quotes quoted byte = if byte == 34 then not quoted else quoted

-- the pieces with a byte before them, which separates them where it is a separator
abbrev pub parted_by : Bool → ℕ → List (List ℕ) → List (List ℕ)
parted_by true byte pieces = [] ∷ pieces
parted_by false byte pieces = onto_first byte pieces

-- the pieces between the commas outside of quotes
abbrev pub pieces_from : Bool → List ℕ → List (List ℕ)
pieces_from quoted [] = [] ∷ []
pieces_from quoted (byte ∷ bytes) =
    parted_by (not quoted && byte == 44) byte (pieces_from (quotes quoted byte) bytes)

-- the members of a list without the white space around them; empty ones are none
unfoldable pub members_of : List ℕ → List (List ℕ)
members_of value = filter (λ member. nat_lt 0 (length member)) (map trim_ows (pieces_from false value))

-- one more tag, where it and the others are there
abbrev pub with_tag : Option Tag → Option (List Tag) → Option (List Tag)
with_tag (Some tag) (Some tags) = Some (tag ∷ tags)
with_tag (Some tag) None = None
with_tag None tags = None

-- the tags that the members are, where each is one
abbrev pub tags_of : List (List ℕ) → Option (List Tag)
tags_of [] = Some []
tags_of (member ∷ members) = with_tag (tag_of member) (tags_of members)

-- the commit that a tag names, if it does; where tags are compared strongly, a weak one names none
-- (RFC 9110, section 8.8.3.2)
abbrev pub commit_of : Comparison → Tag → Option ℕ
commit_of Strong tag = if tag.weak then None else number_of tag.text
commit_of Weak tag = number_of tag.text

-- of what a member of a list is
abbrev pub commit_by : Comparison → Option Tag → Result (Option ℕ) TagRefusal
commit_by comparison (Some tag) = Ok (commit_of comparison tag)
commit_by comparison None = Err BadTag

-- the first 16 commits that the tags name
abbrev pub commits_of : Comparison → List Tag → List ℕ
commits_of comparison tags = take 16 (filter_map (commit_of comparison) tags)

-- the commits of these tags, where they are there
abbrev pub commits_by : Comparison → Option (List Tag) → Result (List ℕ) TagRefusal
commits_by comparison (Some tags) = Ok (commits_of comparison tags)
commits_by comparison None = Err BadTag

-- the commits that these values name together: the fields of one name are one list
unfoldable pub commits_in : Comparison → List (List ℕ) → Result (List ℕ) TagRefusal
commits_in comparison values = commits_by comparison (tags_of (flat_map members_of values))

-- a list of commits
abbrev pub listed : Result (List ℕ) TagRefusal → Result (Option Tags) TagRefusal
listed (Ok commits) = Ok (Some (Listed commits))
listed (Err refused) = Err refused

-- the values are the one value `*`
abbrev pub is_any : List (List ℕ) → Bool
is_any [] = false
is_any (value ∷ []) = bytes_eq value (codes "*")
is_any (value ∷ other ∷ values) = false

-- what the fields of a condition say, of their values
unfoldable pub tags_in : Comparison → List (List ℕ) → Result (Option Tags) TagRefusal
tags_in comparison [] = Ok None
tags_in comparison (value ∷ values) =
    if is_any (value ∷ values) then Ok (Some Any) else listed (commits_in comparison (value ∷ values))
