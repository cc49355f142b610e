-- Internal. Which texts are filters, and what is reported of one that passes a limit.
use Rattle.std.specs.Prelude.{◌≡◌, ℕ, ◌-◌, ◌^◌, min, nat_lt, if◌then◌else◌, List, [], Result, Ok, Err}
use Rattle.query_core.specs.Filters.{Filter, height}
use Rattle.query_core.specs.Limits.{leaves, most_leaves, most_height}
use Rattle.query_lang.specs.declared.refusal.QueryRefusal.{QueryRefusal}
use Rattle.query_lang.specs.declared.refusal.QueryRefusal.TheVariants.{Syntax, BadNumber, TooManyPaths, TooMany, TooNested, TooDeep, Memory}
use Rattle.query_lang.specs.Grammar.{FilterTree, filter_tokens, filter_meaning, FilterFits}
use Rattle.query_lang.specs.Spelling.{Tokenizes}

-- the text is written with the tokens of a tree of the grammar that means this filter
pub record IsFilterText (bytes : List ℕ) (f : Filter) : Type 0 where
  pub tree : FilterTree
  pub tokenizes : Tokenizes bytes (filter_tokens tree [])
  pub fits : FilterFits 0 tree
  pub means : filter_meaning tree ≡ f

-- a number, or the greatest of 64 bits
abbrev pub capped : ℕ → ℕ
capped n = min n (2 ^ 64 - 1)

-- the filter where it is within the limits of whole filters, or the first limit that it passes
abbrev pub decided : Filter → Result Filter QueryRefusal
decided f =
    if nat_lt most_leaves (leaves f) then Err (TooMany (capped (leaves f)))
    else (if nat_lt most_height (height f) then Err (TooDeep (capped (height f))) else Ok f)

-- the answer is a value, as a filter, or reports a limit of whole filters
abbrev pub IsWhole : {A : Type 0} → Result A QueryRefusal → Type 0
IsWhole (Ok value) = Unit {0}
IsWhole (Err (TooMany leaves)) = Unit {0}
IsWhole (Err (TooDeep depth)) = Unit {0}
IsWhole (Err (Syntax field place)) = ⊥
IsWhole (Err (BadNumber field place)) = ⊥
IsWhole (Err (TooManyPaths place)) = ⊥
IsWhole (Err (TooNested place)) = ⊥
IsWhole (Err Memory) = ⊥
