-- Believed. What the hub answers to an entry after a history.
use Rattle.std.specs.Prelude.{ℕ, ◌+◌, ◌-◌, if◌then◌else◌, nat_le, List, length, map, take, drop, Option, Some, None}
use Rattle.q_doc.specs.Printed.{printed}
use Rattle.query_normal.specs.Keys.{key_text}
use Rattle.query_normal.specs.Pages.{Page}
use Rattle.query_normal.specs.declared.key.KeyShape.{KeyShape}
use Rattle.hub_model.specs.declared.entry.Answer.{Answer}
use Rattle.commit_book.specs.declared.change.Change.{Change}
use Rattle.commit_book.specs.Journal.{kept_with}
use Rattle.hub_model.specs.declared.entry.Condition.{Condition}
use Rattle.hub_model.specs.declared.entry.Dropped.{Dropped}
use Rattle.hub_model.specs.declared.entry.Entry.{Entry}
use Rattle.hub_model.specs.declared.entry.Entry.TheVariants.{Write, Read, Match, Fetch, Purges, Tick, Horizon}
use Rattle.hub_model.specs.declared.entry.Matched.{Matched}
use Rattle.hub_model.specs.declared.entry.Outcome.{Outcome}
use Rattle.hub_model.specs.declared.entry.Outcome.TheVariants.{Whole, Same, Absent}
use Rattle.hub_model.specs.declared.entry.PurgeReply.{PurgeReply}
use Rattle.hub_model.specs.declared.entry.Stats.{Stats}
use Rattle.hub_model.specs.declared.entry.Tags.{Tags}
use Rattle.hub_model.specs.declared.entry.Written.{Written}
use Rattle.hub_model.specs.declared.entry.Written.TheVariants.{Done, Precondition, Full}
use Rattle.hub_model.specs.Journal.{Finding, absent, present, queried, result_at}
use Rattle.hub_model.specs.Known.{known_at}
use Rattle.hub_model.specs.Lifetime.{ttl_of, shared_of}
use Rattle.hub_model.specs.Record.{page_of}
use Rattle.hub_model.specs.Setting.{Setting}
use Rattle.hub_model.specs.State.{State, at_moment}
use Rattle.hub_model.specs.Step.{found_now, is_met, has_dropped, has_matched, state_of}
use Rattle.result_kinds.specs.Results.{text_of_result}

-- What the hub replies to a caller who asks for the purges from a number on.
pub record PurgesTold : Type 0 where
  pub from : ℕ
  -- the number of all purges
  pub last : ℕ
  pub front : ℕ
  pub clock : ℕ
  -- the texts of the keys with these numbers
  pub texts : List (List ℕ)

-- the same of a reply that has the keys
abbrev pub told_of : PurgeReply → PurgesTold
told_of p = record { from = p.from; last = p.last; front = p.front; clock = p.clock; texts = map key_text p.keys.items }

-- What the hub replies to a caller.
pub data Replied : Type 0 where
  wrote : Written → Replied
  read : Answer → Replied
  matched : Matched → Replied
  fetched : Page → Replied
  purged : PurgesTold → Replied
  counted : Stats → Replied
  dropped : Dropped → Replied

-- the reply to a write, in a state whose clock is that of the write
abbrev pub written : Setting → Change → Condition → State → Written
written g change condition s =
    if is_met condition (found_now s change) (length s.journal)
    then (if nat_le (kept_with s.journal s.horizon change) g.capacity then Done (length s.journal + 1) (found_now s change) s.clock else Full (kept_with s.journal s.horizon change) s.clock)
    else Precondition (found_now s change) s.clock

-- the outcome of a read that finds this, and that the caller may know as the result of a commit: nothing is never told as known
abbrev pub outcome_of : Finding → Option ℕ → Outcome
outcome_of absent known = Absent
outcome_of (present version tree) (Some tag) = Same tag (Some version)
outcome_of (present version tree) None = Whole (printed tree) (Some version)
outcome_of (queried result) (Some tag) = Same tag None
outcome_of (queried result) None = Whole (text_of_result result) None

-- the reply to a read at a commit, in a state whose clock is that of the read
abbrev pub answered : Setting → KeyShape → Tags → ℕ → State → Answer
answered g key tags at s = record {
  commit = at;
  clock = s.clock;
  ttl = ttl_of g s key at;
  shared = shared_of g (ttl_of g s key at);
  result = outcome_of (result_at key s.journal at) (known_at key s.journal s.horizon at tags);
}

-- the front and the clock of a state
abbrev pub matched_in : State → Matched
matched_in s = record { front = s.front; clock = s.clock }

-- the horizon and the clock of a state
abbrev pub dropped_in : State → Dropped
dropped_in s = record { horizon = s.horizon; clock = s.clock }

-- how many purges one reply tells at most
abbrev pub most_purges : ℕ
most_purges = 1000

-- the purges of a state from a number on, the first of which has number 1
abbrev pub purges_from : ℕ → State → PurgesTold
purges_from from s = record { from = from; last = length s.purges; front = s.front; clock = s.clock; texts = take most_purges (drop (from - 1) s.purges) }

-- the numbers of a state
abbrev pub stats_of : State → Stats
stats_of s = record { front = s.front; commits = length s.journal; clock = s.clock }

-- the reply to an entry after a state
abbrev pub reply_in : Setting → State → Entry → Replied
reply_in g s (Write moment change condition) = wrote (written g change condition (at_moment s moment))
reply_in g s (Read moment key tags at) = read (answered g key tags at (at_moment s moment))
reply_in g s (Match moment to) = matched (matched_in (has_matched g to (at_moment s moment)))
reply_in g s (Fetch moment) = fetched (page_of g (at_moment s moment))
reply_in g s (Purges moment from) = purged (purges_from from (at_moment s moment))
reply_in g s (Tick moment) = counted (stats_of (at_moment s moment))
reply_in g s (Horizon moment to) = dropped (dropped_in (has_dropped to (at_moment s moment)))

-- the reply to an entry after a history
unfoldable pub reply : Setting → List Entry → Entry → Replied
reply g history e = reply_in g (state_of g history) e
