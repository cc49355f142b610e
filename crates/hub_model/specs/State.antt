-- Believed. What a history has come to.
use Rattle.std.specs.Prelude.{ℕ, ◌+◌, max, Bool, List, []}
use Rattle.query_normal.specs.declared.key.KeyShape.{KeyShape}
use Rattle.commit_book.specs.declared.change.Change.{Change}

-- a copy of a result, which the reply to a read issued
pub record IssuedCopy : Type 0 where
  pub key : KeyShape
  -- the commit whose result it is
  pub at : ℕ
  -- the clock after the read
  pub clock : ℕ
  -- for how many seconds some cache may keep it
  pub ttl : ℕ
  -- it tells that there is no such record
  pub absent : Bool

-- until when the copy may be kept
abbrev pub until_of : IssuedCopy → ℕ
until_of r = r.clock + r.ttl

-- when a record was written: the clock after an accepted write of it, which may be a deletion
pub record WriteClock : Type 0 where
  pub collection : List ℕ
  pub id : List ℕ
  pub clock : ℕ

-- what a history has come to
pub record State : Type 0 where
  -- the greatest moment
  pub clock : ℕ
  -- the accepted changes, in order
  pub journal : List Change
  -- when they were accepted, in order
  pub writes : List WriteClock
  -- the last commit that was matched
  pub front : ℕ
  -- the commit up to which changes that a later one of their record replaced are dropped; the journal has them still
  pub horizon : ℕ
  -- the copy that each read issued, the newest last; one with a lifetime of 0 may not be kept at all
  pub copies : List IssuedCopy
  -- the estimates that were made of the lifetimes of keys, the newest first
  pub estimates : List (KeyShape × ℕ)
  -- the texts of the keys that matches purged, in the order of their numbers
  pub purges : List (List ℕ)

-- the state of no entry
abbrev pub start : State
start = record { clock = 0; journal = []; writes = []; front = 0; horizon = 0; copies = []; estimates = []; purges = [] }

-- each entry first moves the clock
abbrev pub at_moment : State → ℕ → State
at_moment s moment = record s { clock = max s.clock moment }
