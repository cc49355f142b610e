-- Reading a list of tokens.
use Rattle.std.proofs.Common.{◌≡◌, List, [], ◌∷◌, Result}
use Rattle.query_core.specs.Filters.{Filter}
use Rattle.query_lang.specs.declared.refusal.QueryRefusal.{QueryRefusal}
use Rattle.query_lang.specs.declared.token.Sign.TheVariants.{Dot}
use Rattle.query_lang.specs.FilterReading.{State, filter_rules}
use Rattle.query_lang.specs.Reading.{Rules, after_token}
use Rattle.query_lang.specs.Tokens.{Token, word, name, quoted, number, bad_number, sign}

-- the tokens are taken in turn, and then the text ends; no offset is given
module _ {S A : Type 0} (rules : Rules S A) where
  abbrev pub outcome_of : S → List Token → Result A QueryRefusal
  outcome_of s [] = rules.ends 0 s
  outcome_of s (t ∷ ts) = after_token (λ after. outcome_of after ts) rules.field 0 (rules.takes s t)

-- those of a filter
abbrev pub outcome : State → List Token → Result Filter QueryRefusal
outcome = outcome_of filter_rules

-- no dot comes next
abbrev pub NoDot : List Token → Type 0
NoDot [] = Unit {0}
NoDot (word r ∷ ts) = Unit {0}
NoDot (name s ∷ ts) = Unit {0}
NoDot (quoted s ∷ ts) = Unit {0}
NoDot (number z ∷ ts) = Unit {0}
NoDot (bad_number ∷ ts) = Unit {0}
NoDot (sign s ∷ ts) = s ≡ Dot → ⊥
