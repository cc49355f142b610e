-- Believed. Which pages of a browser may read a reply (the Fetch standard, "CORS protocol").
use Rattle.std.specs.Prelude.{◌≡◌, ℕ, Bool, true, false, not, ◌&&◌, ◌==◌, nat_le, nat_lt, if◌then◌else◌, bytes_eq, List, [], ◌∷◌, length, Option, Some, None, IfSome, codes}
use Rattle.std.specs.List.{list_all, list_any, slice_split}
use Rattle.http_message.specs.Fields.{values}
use Rattle.http_message.specs.Message.{Message}

-- What a reply says of the pages that may read it.
pub record LeaveTold : Type 0 where
  -- the origin whose pages may read it, where one is told
  pub allow : Option (List ℕ)
  -- whether the reply to another page may tell another origin
  pub varies : Bool

-- nothing is said
abbrev pub no_leave : LeaveTold
no_leave = record { allow = None; varies = false }

-- visible ASCII
abbrev pub is_visible : ℕ → Bool
is_visible b = nat_lt 32 b && nat_lt b 127

-- a text that may be told as an origin: 1 to 255 visible bytes
unfoldable pub is_origin : List ℕ → Bool
is_origin text = nat_lt 0 (length text) && (nat_le (length text) 255 && list_all is_visible text)

-- this text, where it may be told
abbrev pub if_origin : List ℕ → Option (List ℕ)
if_origin text = if is_origin text then Some text else None

-- the origins that a text names, with a space between two
abbrev pub origins_in : List ℕ → List (List ℕ)
origins_in text = slice_split (λ byte. byte == 32) text

-- whether a text names origins
abbrev pub names_some : List ℕ → Bool
names_some origins = not (length origins == 0)

-- the one value, where there is no other
abbrev pub only_of : List (List ℕ) → Option (List ℕ)
only_of [] = None
only_of (value ∷ []) = Some value
only_of (value ∷ other ∷ more) = None

-- the origin of the page that sent a request: the value of its only field of Origin
abbrev pub page_of : Message → Option (List ℕ)
page_of m = only_of (values (codes "origin") m.fields)

-- this origin, where it is one of these
abbrev pub told_to : List (List ℕ) → List ℕ → Option (List ℕ)
told_to origins page = if list_any (bytes_eq page) origins then if_origin page else None

-- that of a page, where it is one of these
abbrev pub told_of : List (List ℕ) → Option (List ℕ) → Option (List ℕ)
told_of origins None = None
told_of origins (Some page) = told_to origins page

-- what is said to a page where these are named: one alone is told to each page, so that a cache's copy fits all; of several, that of the page
abbrev pub leave_by : List (List ℕ) → Option (List ℕ) → LeaveTold
leave_by [] page = no_leave
leave_by (one ∷ []) page = record { allow = if_origin one; varies = false }
leave_by (one ∷ other ∷ more) page = record { allow = told_of (one ∷ other ∷ more) page; varies = true }

-- what is said to a page of this origin, where a text names the origins
unfoldable pub leave_of : List ℕ → Option (List ℕ) → LeaveTold
leave_of origins page = if names_some origins then leave_by (origins_in origins) page else no_leave

-- what is told may stand as the value of a field
abbrev pub IsTellable : LeaveTold → Type 0
IsTellable leave = IfSome leave.allow (λ origin. is_origin origin ≡ true)
