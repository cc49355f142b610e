-- Internal. The grammar of filters and orders: a tree for each way to write one, the tokens that it is written with, and what it
-- means.
--
--   filter = and { "or" and }
--   and    = not { "and" not }
--   not    = "not" not | atom
--   atom   = "(" filter ")" | "true" | "false" | "exists" path
--          | path op value | path "in" "[" [ value { "," value } ] "]" | path "has" value
--   path   = segment { "." segment }
--   segment= word that is not reserved | quoted text
--   value  = quoted text | number | "true" | "false" | "null"
--   order  = [ item { "," item } ]
--   item   = path [ "asc" | "desc" ]
--
-- The tokens of a tree are given together with those that follow it.
use Rattle.std.specs.Prelude.{ℕ, suc, ◌<◌, Bool, true, false, List, [], ◌∷◌, length, map, ℤ, Option, Some, None}
use Rattle.q_doc.specs.Tree.{Tree, null, boolean, number as whole, text}
use Rattle.query_core.specs.declared.operator.Op.{Op}
use Rattle.query_core.specs.Filters.{Filter, constant, compared, listed, having, present, negated, every, some, operands_of}
use Rattle.query_core.specs.Window.{Order}
use Rattle.query_lang.specs.declared.token.Reserved.TheVariants.{And, Or, Not, In, Has, Exists, True, False, Null, Asc, Desc}
use Rattle.query_lang.specs.declared.token.Sign.TheVariants.{Compare, Open, Close, OpenList, CloseList, Comma, Dot}
use Rattle.q_doc.specs.Limits.{most_segments}
use Rattle.query_lang.specs.Limits.{most_open}
use Rattle.query_lang.specs.Tokens.{Token, word, name, quoted, number, sign}

-- ---- segments, paths and values

-- a segment of a path, as it is written
pub data Segment : Type 0 where
  bare : List ℕ → Segment
  in_quotes : List ℕ → Segment

-- its token
abbrev pub segment_token : Segment → Token
segment_token (bare s) = name s
segment_token (in_quotes s) = quoted s

-- its text
abbrev pub segment_key : Segment → List ℕ
segment_key (bare s) = s
segment_key (in_quotes s) = s

-- the tokens of a path, a segment and further ones
abbrev pub path_tokens : Segment → List Segment → List Token → List Token
path_tokens s [] rest = segment_token s ∷ rest
path_tokens s (more ∷ ss) rest = segment_token s ∷ sign Dot ∷ path_tokens more ss rest

-- the path
abbrev pub path_keys : Segment → List Segment → List (List ℕ)
path_keys s ss = segment_key s ∷ map segment_key ss

-- a value
pub data Value : Type 0 where
  text_value : List ℕ → Value
  number_value : ℤ → Value
  truth_value : Bool → Value
  null_value : Value

-- its token
abbrev pub value_token : Value → Token
value_token (text_value s) = quoted s
value_token (number_value z) = number z
value_token (truth_value true) = word True
value_token (truth_value false) = word False
value_token null_value = word Null

-- the value of a document that it is
abbrev pub value_tree : Value → Tree
value_tree (text_value s) = text s
value_tree (number_value z) = whole z
value_tree (truth_value b) = boolean b
value_tree null_value = null

-- the tokens of further values of a list
abbrev pub more_values : List Value → List Token → List Token
more_values [] rest = rest
more_values (v ∷ vs) rest = sign Comma ∷ value_token v ∷ more_values vs rest

-- the tokens of the values of a list
abbrev pub value_tokens : List Value → List Token → List Token
value_tokens [] rest = rest
value_tokens (v ∷ vs) rest = value_token v ∷ more_values vs rest

-- ---- filters

mutual
  -- filter = and { "or" and }
  pub data FilterTree : Type 0 where
    alternatives : AndTree → OrTail → FilterTree

  -- { "or" and }
  pub data OrTail : Type 0 where
    no_or : OrTail
    or_and : AndTree → OrTail → OrTail

  -- and = not { "and" not }
  pub data AndTree : Type 0 where
    conjuncts : NotTree → AndTail → AndTree

  -- { "and" not }
  pub data AndTail : Type 0 where
    no_and : AndTail
    and_not : NotTree → AndTail → AndTail

  -- not = "not" not | atom
  pub data NotTree : Type 0 where
    negation : NotTree → NotTree
    one : Atom → NotTree

  -- atom
  pub data Atom : Type 0 where
    nested : FilterTree → Atom
    always : Atom
    never : Atom
    existing : Segment → List Segment → Atom
    comparing : Segment → List Segment → Op → Value → Atom
    listing : Segment → List Segment → List Value → Atom
    holding : Segment → List Segment → Value → Atom

-- the tokens of trees
abbrev mutual
  -- of a filter
  pub filter_tokens : FilterTree → List Token → List Token
  filter_tokens (alternatives a os) rest = and_tokens a (or_tokens os rest)

  -- of further alternatives
  pub or_tokens : OrTail → List Token → List Token
  or_tokens no_or rest = rest
  or_tokens (or_and a os) rest = word Or ∷ and_tokens a (or_tokens os rest)

  -- of a conjunction
  pub and_tokens : AndTree → List Token → List Token
  and_tokens (conjuncts n ns) rest = not_tokens n (further_tokens ns rest)

  -- of further conjuncts
  pub further_tokens : AndTail → List Token → List Token
  further_tokens no_and rest = rest
  further_tokens (and_not n ns) rest = word And ∷ not_tokens n (further_tokens ns rest)

  -- of a negation or an atom
  pub not_tokens : NotTree → List Token → List Token
  not_tokens (negation n) rest = word Not ∷ not_tokens n rest
  not_tokens (one a) rest = atom_tokens a rest

  -- of an atom
  pub atom_tokens : Atom → List Token → List Token
  atom_tokens (nested t) rest = sign Open ∷ filter_tokens t (sign Close ∷ rest)
  atom_tokens always rest = word True ∷ rest
  atom_tokens never rest = word False ∷ rest
  atom_tokens (existing s ss) rest = word Exists ∷ path_tokens s ss rest
  atom_tokens (comparing s ss op v) rest = path_tokens s ss (sign (Compare op) ∷ value_token v ∷ rest)
  atom_tokens (listing s ss vs) rest = path_tokens s ss (word In ∷ sign OpenList ∷ value_tokens vs (sign CloseList ∷ rest))
  atom_tokens (holding s ss v) rest = path_tokens s ss (word Has ∷ value_token v ∷ rest)

-- filters joined by `and`; one filter is itself
abbrev pub all_of : List Filter → Filter
all_of [] = every (operands_of [])
all_of (f ∷ []) = f
all_of (f ∷ g ∷ fs) = every (operands_of (f ∷ g ∷ fs))

-- filters joined by `or`; one filter is itself
abbrev pub any_of : List Filter → Filter
any_of [] = some (operands_of [])
any_of (f ∷ []) = f
any_of (f ∷ g ∷ fs) = some (operands_of (f ∷ g ∷ fs))

-- what trees mean
abbrev mutual
  -- a filter
  pub filter_meaning : FilterTree → Filter
  filter_meaning (alternatives a os) = any_of (and_meaning a ∷ or_meanings os)

  -- further alternatives
  pub or_meanings : OrTail → List Filter
  or_meanings no_or = []
  or_meanings (or_and a os) = and_meaning a ∷ or_meanings os

  -- a conjunction
  pub and_meaning : AndTree → Filter
  and_meaning (conjuncts n ns) = all_of (not_meaning n ∷ further_meanings ns)

  -- further conjuncts
  pub further_meanings : AndTail → List Filter
  further_meanings no_and = []
  further_meanings (and_not n ns) = not_meaning n ∷ further_meanings ns

  -- a negation or an atom
  pub not_meaning : NotTree → Filter
  not_meaning (negation n) = negated (not_meaning n)
  not_meaning (one a) = atom_meaning a

  -- an atom
  pub atom_meaning : Atom → Filter
  atom_meaning (nested t) = filter_meaning t
  atom_meaning always = constant true
  atom_meaning never = constant false
  atom_meaning (existing s ss) = present (path_keys s ss)
  atom_meaning (comparing s ss op v) = compared (path_keys s ss) op (value_tree v)
  atom_meaning (listing s ss vs) = listed (path_keys s ss) (map value_tree vs)
  atom_meaning (holding s ss v) = having (path_keys s ss) (value_tree v)

-- The limits of segments and of open parentheses hold, where `open_around` are open around the tree.
abbrev mutual
  -- of a filter
  pub FilterFits : ℕ → FilterTree → Type 0
  FilterFits open_around (alternatives a os) = AndFits open_around a × OrsFit open_around os

  -- of further alternatives
  pub OrsFit : ℕ → OrTail → Type 0
  OrsFit open_around no_or = Unit {0}
  OrsFit open_around (or_and a os) = AndFits open_around a × OrsFit open_around os

  -- of a conjunction
  pub AndFits : ℕ → AndTree → Type 0
  AndFits open_around (conjuncts n ns) = NotFits open_around n × FurtherFit open_around ns

  -- of further conjuncts
  pub FurtherFit : ℕ → AndTail → Type 0
  FurtherFit open_around no_and = Unit {0}
  FurtherFit open_around (and_not n ns) = NotFits open_around n × FurtherFit open_around ns

  -- of a negation or an atom
  pub NotFits : ℕ → NotTree → Type 0
  NotFits open_around (negation n) = NotFits open_around n
  NotFits open_around (one a) = AtomFits open_around a

  -- of an atom
  pub AtomFits : ℕ → Atom → Type 0
  AtomFits open_around (nested t) = (open_around < most_open) × FilterFits (suc open_around) t
  AtomFits open_around always = Unit {0}
  AtomFits open_around never = Unit {0}
  AtomFits open_around (existing s ss) = length ss < most_segments
  AtomFits open_around (comparing s ss op v) = length ss < most_segments
  AtomFits open_around (listing s ss vs) = length ss < most_segments
  AtomFits open_around (holding s ss v) = length ss < most_segments

-- ---- orders

-- a path of an order with its direction, if that is written: whether it is `desc`
pub record Item : Type 0 where
  pub first : Segment
  pub others : List Segment
  pub direction : Option Bool

-- the token of a direction
abbrev pub direction_tokens : Option Bool → List Token → List Token
direction_tokens None rest = rest
direction_tokens (Some false) rest = word Asc ∷ rest
direction_tokens (Some true) rest = word Desc ∷ rest

-- whether a path is descending
abbrev pub is_descending : Option Bool → Bool
is_descending None = false
is_descending (Some b) = b

-- the tokens of an item
abbrev pub item_tokens : Item → List Token → List Token
item_tokens i rest = path_tokens i.first i.others (direction_tokens i.direction rest)

-- the tokens of further items
abbrev pub more_items : List Item → List Token → List Token
more_items [] rest = rest
more_items (i ∷ is) rest = sign Comma ∷ item_tokens i (more_items is rest)

-- the tokens of an order
abbrev pub order_tokens : List Item → List Token → List Token
order_tokens [] rest = rest
order_tokens (i ∷ is) rest = item_tokens i (more_items is rest)

-- what an item means
abbrev pub item_meaning : Item → List (List ℕ) × Bool
item_meaning i = (path_keys i.first i.others, is_descending i.direction)

-- the order
abbrev pub order_meaning : List Item → Order
order_meaning is = map item_meaning is

-- each path is within the limit of segments
abbrev pub ItemsFit : List Item → Type 0
ItemsFit [] = Unit {0}
ItemsFit (i ∷ is) = (length i.others < most_segments) × ItemsFit is
