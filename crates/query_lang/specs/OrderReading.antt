-- Believed. Orders, read token by token from the left.
use Rattle.std.specs.Prelude.{ℕ, Bool, true, false, ◌&&◌, nat_lt, if◌then◌else◌, List, [], ◌∷◌, ◌++◌, length, Option, Some, None, Result, Ok, Err}
use Rattle.query_core.specs.Window.{Order}
use Rattle.query_lang.specs.declared.order_reader.OrderPending.{OrderPending}
use Rattle.query_lang.specs.declared.order_reader.OrderPending.TheVariants as pending
use Rattle.query_lang.specs.declared.order_reader.OrderReader.{OrderReader}
use Rattle.query_core.specs.Limits.{most_paths}
use Rattle.q_doc.specs.Limits.{most_segments}
use Rattle.query_lang.specs.declared.refusal.Cause.{Cause}
use Rattle.query_lang.specs.declared.refusal.Cause.TheVariants as cause
use Rattle.query_lang.specs.declared.refusal.QueryRefusal.{QueryRefusal}
use Rattle.query_lang.specs.declared.refusal.QueryRefusal.TheVariants.{Syntax}
use Rattle.query_lang.specs.declared.token.Reserved.TheVariants.{Asc, Desc}
use Rattle.query_lang.specs.declared.token.Sign.TheVariants.{Comma, Dot}
use Rattle.query_lang.specs.declared.token.Beginning.{Beginning}
use Rattle.query_lang.specs.FilterReading.{segment_of, is_text}
use Rattle.query_lang.specs.Reading.{Rules, run, tokens}
use Rattle.query_lang.specs.Tokens.{Token, word, sign}

-- what was read of an order
pub record State : Type 0 where
  -- what was read of a path
  pub pending : OrderPending
  -- the paths so far
  pub paths : Order

-- a reader of the code
abbrev pub seen : OrderReader → State
seen r = record { pending = r.pending; paths = r.paths.items }

-- before the first token
abbrev pub start : State
start = record { pending = pending.Start; paths = [] }

-- a path is whole, after which this is allowed
abbrev pub with_path : List (List ℕ) → Bool → OrderPending → State → State
with_path path descending after s = record { pending = after; paths = s.paths ++ (path, descending) ∷ [] }

-- where a path must come, of which an order has 4 at most
unfoldable pub on_item : State → Option (List ℕ) → Result State Cause
on_item s None = Err cause.Syntax
on_item s (Some segment) =
    if nat_lt (length s.paths) most_paths then Ok (record s { pending = pending.Path (segment ∷ []) }) else Err cause.TooManyPaths

-- where a segment must come after these; a path has at most 8
unfoldable pub on_segment : State → List (List ℕ) → Option (List ℕ) → Result State Cause
on_segment s path None = Err cause.Syntax
on_segment s path (Some segment) =
    if nat_lt (length path) most_segments then Ok (record s { pending = pending.Path (path ++ segment ∷ []) }) else Err cause.Syntax

-- after a segment
unfoldable pub on_path : State → List (List ℕ) → Token → Result State Cause
on_path s path (sign Dot) = Ok (record s { pending = pending.Segment path })
on_path s path (sign Comma) = Ok (with_path path false pending.Item s)
on_path s path (word Asc) = Ok (with_path path false pending.Joint s)
on_path s path (word Desc) = Ok (with_path path true pending.Joint s)
on_path s path t = Err cause.Syntax

-- after a direction
abbrev pub on_joint : State → Token → Result State Cause
on_joint s (sign Comma) = Ok (record s { pending = pending.Item })
on_joint s t = Err cause.Syntax

-- after this much of a path
unfoldable pub on_token : OrderPending → State → Token → Result State Cause
on_token pending.Start s t = on_item s (segment_of t)
on_token pending.Item s t = on_item s (segment_of t)
on_token (pending.Segment path) s t = on_segment s path (segment_of t)
on_token (pending.Path path) s t = on_path s path t
on_token pending.Joint s t = on_joint s t

-- the paths so far, without what was read of one
abbrev pub without_pending : State → State
without_pending s = record s { pending = pending.Joint }

-- what a token does
abbrev pub step : State → Token → Result State Cause
step s t = on_token s.pending (without_pending s) t

-- whether a token of this kind is allowed after this number of paths and this much of one
abbrev pub is_allowed_after : ℕ → OrderPending → Beginning → Bool
is_allowed_after count pending.Start what = is_text what && nat_lt count most_paths
is_allowed_after count pending.Item what = is_text what && nat_lt count most_paths
is_allowed_after count (pending.Segment path) what = is_text what && nat_lt (length path) most_segments
is_allowed_after count (pending.Path path) what = false
is_allowed_after count pending.Joint what = false

-- the text ends after nothing, after a path, or after its direction
unfoldable pub ended : ℕ → OrderPending → Order → Result Order QueryRefusal
ended total pending.Start paths = Ok paths
ended total pending.Joint paths = Ok paths
ended total (pending.Path path) paths = Ok (paths ++ (path, false) ∷ [])
ended total pending.Item paths = Err (Syntax 111 total)
ended total (pending.Segment path) paths = Err (Syntax 111 total)

-- how orders are read
abbrev pub order_rules : Rules State Order
order_rules = record { field = 111; takes = step; ends = λ total s. ended total s.pending s.paths }

-- the order that a text is
unfoldable pub read_order : List ℕ → Result Order QueryRefusal
read_order bytes = run order_rules (length bytes) start (tokens bytes)
