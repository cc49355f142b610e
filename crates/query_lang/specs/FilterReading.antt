-- Believed. Filters, read token by token from the left: what is allowed next, and what is pending.
use Rattle.std.specs.Prelude.{ℕ, zero, suc, ◌+◌, ◌-◌, ◌^◌, min, max, Bool, true, false, not, ◌&&◌, ◌==◌, nat_lt, if◌then◌else◌, List, [], ◌∷◌, ◌++◌, length, take, drop, reverse, Option, Some, None, Result, Ok, Err}
use Rattle.q_doc.specs.Tree.{Tree, null, boolean, number as whole, text}
use Rattle.query_core.specs.Filters.{Filter, constant, compared, listed, having, present, negated, every, some, Operands, no_operands, operands_of}
use Rattle.query_lang.specs.declared.filter_reader.PathUse.{PathUse}
use Rattle.query_lang.specs.declared.filter_reader.PathUse.TheVariants.{Exists as ForExists, Tested}
use Rattle.query_lang.specs.declared.filter_reader.ValueTest.{ValueTest}
use Rattle.query_lang.specs.declared.filter_reader.ValueTest.TheVariants.{Compare as AsksCompare, Has as AsksHas}
use Rattle.query_lang.specs.declared.filter_reader.Pending.{Pending}
use Rattle.query_lang.specs.declared.filter_reader.Pending.TheVariants as pending
use Rattle.query_lang.specs.declared.filter_reader.Level.{Level}
use Rattle.query_lang.specs.declared.operands.Join.{Join}
use Rattle.query_lang.specs.declared.operands.Join.TheVariants as join
use Rattle.query_lang.specs.declared.filter_reader.FilterReader.{FilterReader}
use Rattle.query_core.specs.Limits.{most_leaves, most_height}
use Rattle.q_doc.specs.Limits.{most_segments}
use Rattle.query_lang.specs.Limits.{most_open}
use Rattle.query_lang.specs.declared.refusal.Cause.{Cause}
use Rattle.query_lang.specs.declared.refusal.Cause.TheVariants as cause
use Rattle.query_lang.specs.declared.token.Reserved.TheVariants.{And, Or, Not, In, Has, Exists, True, False, Null}
use Rattle.query_lang.specs.declared.token.Sign.TheVariants.{Compare, Open, Close, OpenList, CloseList, Comma, Dot}
use Rattle.query_lang.specs.declared.token.Beginning.{Beginning}
use Rattle.query_lang.specs.declared.token.Beginning.TheVariants as beginning
use Rattle.query_lang.specs.declared.refusal.QueryRefusal.{QueryRefusal}
use Rattle.query_lang.specs.declared.refusal.QueryRefusal.TheVariants.{TooMany, TooDeep}
use Rattle.query_lang.specs.Reading.{Rules, run, tokens}
use Rattle.query_lang.specs.Refusals.{refused}
use Rattle.query_lang.specs.Tokens.{Token, word, name, quoted, number, bad_number, sign}

-- what was read of a filter
pub record State : Type 0 where
  -- what was read of an atom
  pub pending : Pending
  -- the atoms and listed values so far
  pub leaves : ℕ
  -- the pending operands, those of outer levels first
  pub operands : List Filter
  -- what is pending at the innermost level of parentheses
  pub level : Level
  -- what is pending at the levels around it, the innermost of these first
  pub outer : List Level

-- a reader of the code
abbrev pub seen : FilterReader → State
seen r = record { pending = r.pending; leaves = r.leaves; operands = r.operands.items; level = r.level; outer = reverse r.outer.items }

-- a level at which nothing is pending, above this number of operands
abbrev pub level_above : ℕ → Level
level_above from = record { nots = 0; any_from = from; any_height = 0; all_from = from; all_height = 0 }

-- before the first token
abbrev pub start : State
start = record { pending = pending.Operand; leaves = 0; operands = []; level = level_above 0; outer = [] }

-- a sum, or the greatest number of 64 bits
abbrev pub capped_sum : ℕ → ℕ → ℕ
capped_sum a b = min (a + b) (2 ^ 64 - 1)

-- ---- operands

-- a filter negated n times
abbrev pub negated_times : ℕ → Filter → Filter
negated_times zero f = f
negated_times (suc n) f = negated_times n (negated f)

-- A filter of this height, where the height is within the limit. A higher one is refused once the whole text was read,
-- and until then a constant is kept instead.
abbrev pub kept : ℕ → Filter → Filter
kept height f = if nat_lt most_height height then constant true else f

-- a level whose next operand is whole, and has this height without its negations
abbrev pub with_operand : ℕ → Level → Level
with_operand height level = record level { nots = 0; all_height = max level.all_height (capped_sum height level.nots) }

-- an operand of this height is whole, but for the `not` before it
abbrev pub put : Filter → ℕ → State → State
put f height s = record s {
  pending = pending.Joint;
  operands = s.operands ++ kept (capped_sum height s.level.nots) (negated_times s.level.nots f) ∷ [];
  level = with_operand height s.level;
}

-- an atom with this number of listed values is complete
abbrev pub atom : Filter → ℕ → State → State
atom f values s = put f 1 (record s { leaves = capped_sum (capped_sum s.leaves values) 1 })

-- ---- joining

-- filters joined
abbrev pub join_of : Join → Operands → Filter
join_of join.And fs = every fs
join_of join.Or fs = some fs

-- filters of this greatest height, joined; one filter is itself
abbrev pub joined : Join → ℕ → List Filter → Filter
joined how height (f ∷ []) = f
joined how height [] = kept (capped_sum height 1) (join_of how no_operands)
joined how height (f ∷ g ∷ fs) = kept (capped_sum height 1) (join_of how (operands_of (f ∷ g ∷ fs)))

-- the height of these
abbrev pub joined_height : ℕ → List Filter → ℕ
joined_height height (f ∷ []) = height
joined_height height [] = capped_sum height 1
joined_height height (f ∷ g ∷ fs) = capped_sum height 1

-- a level whose `and` is whole and has this height, below this number of operands
abbrev pub with_all : ℕ → ℕ → Level → Level
with_all height count level = record level { any_height = max level.any_height height; all_from = count; all_height = 0 }

-- the operands, of which those of the `and` are joined
abbrev pub joined_all : Level → List Filter → List Filter
joined_all level fs = take level.all_from fs ++ joined join.And level.all_height (drop level.all_from fs) ∷ []

-- the `and` is whole
abbrev pub join_all : State → State
join_all s = record s {
  operands = joined_all s.level s.operands;
  level = with_all (joined_height s.level.all_height (drop s.level.all_from s.operands)) (length (joined_all s.level s.operands)) s.level;
}

-- ---- parts of atoms

-- the text of a segment
abbrev pub segment_of : Token → Option (List ℕ)
segment_of (name s) = Some s
segment_of (quoted s) = Some s
segment_of (word reserved) = None
segment_of (number z) = None
segment_of bad_number = None
segment_of (sign s) = None

-- a value
abbrev pub value_of : Token → Result Tree Cause
value_of (quoted s) = Ok (text s)
value_of (number z) = Ok (whole z)
value_of (word True) = Ok (boolean true)
value_of (word False) = Ok (boolean false)
value_of (word Null) = Ok null
value_of bad_number = Err cause.BadNumber
value_of (name s) = Err cause.Syntax
value_of (word reserved) = Err cause.Syntax
value_of (sign s) = Err cause.Syntax

-- ---- what a token does, by what was read before it

-- a segment after these; a path has at most 8
unfoldable pub segment_at : State → PathUse → List (List ℕ) → Option (List ℕ) → Result State Cause
segment_at s used path None = Err cause.Syntax
segment_at s used path (Some segment) =
    if nat_lt (length path) most_segments then Ok (record s { pending = pending.Path used (path ++ segment ∷ []) }) else Err cause.Syntax

-- a value of a list, after these
unfoldable pub item_at : State → List (List ℕ) → List Tree → Result Tree Cause → Result State Cause
item_at s path values (Ok v) = Ok (record s { pending = pending.AfterItem path (values ++ v ∷ []) })
item_at s path values (Err e) = Err e

-- an opening parenthesis
unfoldable pub opened : State → Result State Cause
opened s =
    if nat_lt (length s.outer) most_open then Ok (record s { pending = pending.Operand; level = level_above (length s.operands); outer = s.level ∷ s.outer })
    else Err cause.TooNested

-- where an operand must come
unfoldable pub on_operand : State → Token → Result State Cause
on_operand s (word Not) = Ok (record s { pending = pending.Operand; level = record s.level { nots = capped_sum s.level.nots 1 } })
on_operand s (word True) = Ok (atom (constant true) 0 s)
on_operand s (word False) = Ok (atom (constant false) 0 s)
on_operand s (word Exists) = Ok (record s { pending = pending.ExistsSegment })
on_operand s (sign Open) = opened s
on_operand s t = segment_at s Tested [] (segment_of t)

-- after a closing parenthesis, given the levels around it
unfoldable pub closed : State → List Level → Result State Cause
closed s [] = Err cause.Syntax
closed s (level ∷ outer) =
    let whole = join_all s in
    let parts = drop whole.level.any_from whole.operands in
    Ok (put (joined join.Or whole.level.any_height parts) (joined_height whole.level.any_height parts)
    (record whole { operands = take whole.level.any_from whole.operands; level = level; outer = outer }))

-- where an operand is whole
unfoldable pub on_joint : State → Token → Result State Cause
on_joint s (word And) = Ok (record s { pending = pending.Operand })
on_joint s (word Or) = Ok (record (join_all s) { pending = pending.Operand })
on_joint s (sign Close) = closed s s.outer
on_joint s t = Err cause.Syntax

-- after a segment after `exists`
unfoldable pub on_exists : State → List (List ℕ) → Token → Result State Cause
on_exists s path (sign Dot) = Ok (record s { pending = pending.Segment ForExists path })
on_exists s path t = on_joint (atom (present path) 0 s) t

-- after another segment
unfoldable pub on_path : State → List (List ℕ) → Token → Result State Cause
on_path s path (sign Dot) = Ok (record s { pending = pending.Segment Tested path })
on_path s path (sign (Compare op)) = Ok (record s { pending = pending.Value path (AsksCompare op) })
on_path s path (word Has) = Ok (record s { pending = pending.Value path AsksHas })
on_path s path (word In) = Ok (record s { pending = pending.List path })
on_path s path t = Err cause.Syntax

-- what is asked of a value
abbrev pub asked : ValueTest → List (List ℕ) → Tree → Filter
asked (AsksCompare op) path v = compared path op v
asked AsksHas path v = having path v

-- where a value must come
unfoldable pub on_value : State → List (List ℕ) → ValueTest → Result Tree Cause → Result State Cause
on_value s path asks (Ok v) = Ok (atom (asked asks path v) 0 s)
on_value s path asks (Err e) = Err e

-- where `[` must come
unfoldable pub on_list : State → List (List ℕ) → Token → Result State Cause
on_list s path (sign OpenList) = Ok (record s { pending = pending.FirstItem path })
on_list s path t = Err cause.Syntax

-- after `[`
unfoldable pub on_first_item : State → List (List ℕ) → Token → Result State Cause
on_first_item s path (sign CloseList) = Ok (atom (listed path []) 0 s)
on_first_item s path t = item_at s path [] (value_of t)

-- after a value of a list
unfoldable pub on_after_item : State → List (List ℕ) → List Tree → Token → Result State Cause
on_after_item s path values (sign Comma) = Ok (record s { pending = pending.Item path values })
on_after_item s path values (sign CloseList) = Ok (atom (listed path values) (length values) s)
on_after_item s path values t = Err cause.Syntax

-- after this much of an atom
unfoldable pub on_token : Pending → State → Token → Result State Cause
on_token pending.Operand s t = on_operand s t
on_token pending.ExistsSegment s t = segment_at s ForExists [] (segment_of t)
on_token (pending.Segment used path) s t = segment_at s used path (segment_of t)
on_token (pending.Path ForExists path) s t = on_exists s path t
on_token (pending.Path Tested path) s t = on_path s path t
on_token (pending.Value path asks) s t = on_value s path asks (value_of t)
on_token (pending.List path) s t = on_list s path t
on_token (pending.FirstItem path) s t = on_first_item s path t
on_token (pending.Item path values) s t = item_at s path values (value_of t)
on_token (pending.AfterItem path values) s t = on_after_item s path values t
on_token pending.Joint s t = on_joint s t

-- what is pending, without what was read of an atom
abbrev pub without_pending : State → State
without_pending s = record s { pending = pending.Operand }

-- the beginning of a text in quotes
abbrev pub is_text : Beginning → Bool
is_text beginning.Text = true
is_text beginning.Number = false
is_text beginning.Unequal = false

-- the beginning of `!=`
abbrev pub is_unequal : Beginning → Bool
is_unequal beginning.Text = false
is_unequal beginning.Number = false
is_unequal beginning.Unequal = true

-- what a token does
abbrev pub step : State → Token → Result State Cause
step s t = on_token s.pending (without_pending s) t

-- whether a token of this kind is allowed after this much of an atom
abbrev pub is_allowed_after : Pending → Beginning → Bool
is_allowed_after pending.Operand what = is_text what
is_allowed_after pending.ExistsSegment what = is_text what
is_allowed_after (pending.Segment used path) what = is_text what && nat_lt (length path) most_segments
is_allowed_after (pending.Path ForExists path) what = false
is_allowed_after (pending.Path Tested path) what = is_unequal what
is_allowed_after (pending.Value path asks) what = not (is_unequal what)
is_allowed_after (pending.List path) what = false
is_allowed_after (pending.FirstItem path) what = not (is_unequal what)
is_allowed_after (pending.Item path values) what = not (is_unequal what)
is_allowed_after (pending.AfterItem path values) what = false
is_allowed_after pending.Joint what = false

-- ---- the end

-- no parenthesis is open
abbrev pub at_end : State → Result State Cause
at_end s = if length s.outer == 0 then Ok s else Err cause.Syntax

-- the text ends after a whole operand, or after the path of `exists`
unfoldable pub ended : Pending → State → Result State Cause
ended pending.Joint s = at_end s
ended (pending.Path ForExists path) s = at_end (atom (present path) 0 s)
ended p s = Err cause.Syntax

-- the filter that was read, where it is within the limits
unfoldable pub judged : State → Result Filter QueryRefusal
judged s =
    let whole = join_all s in
    let parts = drop whole.level.any_from whole.operands in
    let height = joined_height whole.level.any_height parts in
    if nat_lt most_leaves s.leaves then Err (TooMany s.leaves)
    else (if nat_lt most_height height then Err (TooDeep height) else Ok (joined join.Or whole.level.any_height parts))

-- a whole filter, or none
abbrev pub judged_if : ℕ → Result State Cause → Result Filter QueryRefusal
judged_if total (Ok s) = judged s
judged_if total (Err cause) = Err (refused 102 total cause)

-- how filters are read
abbrev pub filter_rules : Rules State Filter
filter_rules = record { field = 102; takes = step; ends = λ total s. judged_if total (ended s.pending (without_pending s)) }

-- the filter that a text is
unfoldable pub read_filter : List ℕ → Result Filter QueryRefusal
read_filter bytes = run filter_rules (length bytes) start (tokens bytes)
