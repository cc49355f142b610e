-- Internal. What contracts see of a book.
use Rattle.std.specs.Prelude.{ℕ, ◌+◌, Bool, false, List, [], ◌∷◌, ◌++◌, Option, None, length, if◌then◌else◌, nat_le}
use Rattle.std.specs.Option.{option_map_or}
use Rattle.std.specs.declared.result.Result.{Result}
use Rattle.std.specs.declared.result.Result.TheVariants.{Ok, Err}
use Rattle.commit_book.specs.declared.change.Change.{Change}
use Rattle.commit_book.specs.declared.refusal.BookRefusal.{BookRefusal}
use Rattle.commit_book.specs.declared.refusal.BookRefusal.TheVariants.{Full, Memory}
use Rattle.commit_book.specs.Journal.{kept_with}
use Rattle.commit_book.specs.Names.{Names}
use Rattle.commit_book.specs.Same.{same_change}

-- All changes so far, those whose rows were dropped too, the bytes that the kept rows may take, the commit up to which
-- rows were dropped, the change for which memory is reserved, and the names in the index.
pub record Contents : Type 0 where
  pub capacity : ℕ
  pub journal : List Change
  pub horizon : ℕ
  pub reserved : Option Change
  pub names : Names

-- a book without a commit
abbrev pub empty_book : ℕ → Contents
empty_book capacity = record { capacity = capacity; journal = []; horizon = 0; reserved = None; names = [] }

-- nothing, or the bytes that the change would lead to where these are above the capacity
abbrev pub judged : Contents → Change → Result (Unit {0}) BookRefusal
judged book change = if nat_le (kept_with book.journal book.horizon change) book.capacity then Ok tt else Err (Full (kept_with book.journal book.horizon change))

-- the number of the change as a commit, or the bytes that it would lead to where these are above the capacity
abbrev pub added : Contents → Change → Result ℕ BookRefusal
added book change = if nat_le (kept_with book.journal book.horizon change) book.capacity then Ok (length book.journal + 1) else Err (Full (kept_with book.journal book.horizon change))

-- why a change is refused for whose text there is no memory
abbrev pub refusal_of : Contents → Change → BookRefusal
refusal_of book change = if nat_le (kept_with book.journal book.horizon change) book.capacity then Memory else Full (kept_with book.journal book.horizon change)

-- memory is reserved for this change
abbrev pub is_reserved : Contents → Change → Bool
is_reserved book change = option_map_or (λ reserved. same_change reserved change) book.reserved false

-- the book after one change more, with these names in its index
abbrev pub with_commit : Contents → Change → Names → Contents
with_commit book change names = record {
  capacity = book.capacity;
  journal = book.journal ++ change ∷ [];
  horizon = book.horizon;
  reserved = None;
  names = names;
}

-- the book whose rows up to a commit were dropped, with these names in its index
abbrev pub with_horizon : Contents → ℕ → Names → Contents
with_horizon book horizon names = record {
  capacity = book.capacity;
  journal = book.journal;
  horizon = horizon;
  reserved = None;
  names = names;
}
