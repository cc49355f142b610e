-- Internal. What a visit adds to a connection, whatever passed before it.
use Rattle.std.specs.Prelude.{◌≡◌, ℕ, ◌+◌, ◌*◌, ◌<◌, ◌≤◌, ◌++◌, Bool, true, List, [], length}
use Rattle.http_message.specs.Item.{Item}
use Rattle.http_message.specs.Taken.{item_limit}
use Rattle.q_outside.specs.Ends.{GaveBytes}
use Rattle.q_outside.specs.declared.served.Served.{Served}
use Rattle.dialogue.specs.Dialogue.{Sides, Exchange, Answered, Progress, Ends, pieces, texts, none_closes, request_limit}
use Rattle.dialogue.specs.declared.visits.Pause.{Pause}
use Rattle.dialogue.specs.declared.visits.VisitEnd.{VisitEnd}
use Rattle.dialogue.specs.declared.visits.VisitEnd.TheVariants.{Quiet, Ended}

-- From one moment to another these items were taken, and then the bytes `held`. None ended the connection, and each text was given.
pub record Talked (a b : Sides) (xs : List Exchange) (held : List ℕ) (offset count : ℕ) : Type 0 where
  pub progress : Progress a b xs held
  pub count_is : length xs ≡ count
  pub none : none_closes xs ≡ true
  pub given : GaveBytes a.sink b.sink (texts xs)
  pub offset_is : offset ≡ length (pieces xs)

-- Just these items passed through a connection that ended, as many as `served` says.
pub record PassedBy (a b : Sides) (xs : List Exchange) (served : Served) : Type 0 where
  -- the bytes that were taken after those of the items
  pub rest : List ℕ
  pub progress : Progress a b xs rest
  pub count : length xs ≡ served.requests
  pub ends : Ends served.why a b xs rest

-- what passed through a connection from its beginning to the end of a visit
abbrev pub After : Sides → Sides → List Exchange → VisitEnd → Type 0
After a b xs (Quiet pause) = Talked a b xs [] pause.offset pause.requests
After a b xs (Ended served) = PassedBy a b xs served

-- A further request may be answered, and its offset fits.
pub record MayGoOn (pause : Pause) : Type 0 where
  pub few : pause.requests < request_limit
  pub small : pause.offset ≤ item_limit * pause.requests

-- a pause comes after one request more, and before the last that may be
abbrev pub Rests : Pause → VisitEnd → Type 0
Rests from (Quiet pause) = (from.requests < pause.requests) × MayGoOn pause
Rests from (Ended served) = Unit {0}

-- The items of a visit were answered, and they come behind whatever passed before it.
pub record Visited {A : Type 0} (answers : A → Item → Bool → List ℕ → A → Type 0) (first last : A) (b c : Sides) (from : Pause) (end : VisitEnd) : Type 0 where
  pub xs : List Exchange
  pub answered : Answered answers from.requests first xs last
  pub goes : (a : Sides) (prior : List Exchange) → Talked a b prior [] from.offset from.requests → After a c (prior ++ xs) end
