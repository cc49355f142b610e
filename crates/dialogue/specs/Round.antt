-- Internal. What one round of a connection does.
use Rattle.std.specs.Prelude.{◌≡◌, ℕ, ◌<◌, ◌≤◌, ◌||◌, Bool, true, false, List, Option, Some, None, Result, Ok, Err}
use Rattle.http_message.specs.Item.{Item, IsItem, continues}
use Rattle.http_message.specs.Taken.{RequestState, Uses, IsIncomplete, ContinueFails, continue_where}
use Rattle.q_outside.specs.declared.served.Why.{Why}
use Rattle.q_outside.specs.declared.served.Why.TheVariants.{InputEnd, Truncated, BadFraming, CloseAsked, RequestLimit, Stopped, ReadFault, WriteFault}
use Rattle.q_outside.specs.Ends.{IsEnded, GaveBytes}
use Rattle.dialogue.specs.Dialogue.{Sides, Exchange, FailsInside, end_by, is_ending, text_of}
use Rattle.dialogue.specs.declared.round_result.RoundResult.{RoundResult}
use Rattle.dialogue.specs.declared.round_result.RoundResult.TheVariants.{KeptOpen, Closed, SinkFailed, Incomplete}

-- how a round that answered an item came out, by what the sink did and how the connection ends behind the item
abbrev pub IsRoundResult : {T E : Type 0} → Result T E → Option Why → RoundResult → Type 0
IsRoundResult (Ok given) None outcome = outcome ≡ KeptOpen
IsRoundResult (Ok given) (Some why) outcome = outcome ≡ Closed why
IsRoundResult (Err failed) end outcome = outcome ≡ SinkFailed

-- An item was taken and answered by this exchange. It is the last that may be where `final` says so.
pub record IsRoundOf {A : Type 0} (answers : A → Item → Bool → List ℕ → A → Type 0) (first next : A) (a b : Sides) (buffer buffer' : RequestState) (final : Bool) (x : Exchange) : Type 0 where
  pub uses : Uses a.source b.source buffer buffer' x.piece
  pub is_item : IsItem x.piece x.item
  pub answered : answers first x.item (is_ending x || final) x.answer next
  pub hidden : x.stops ≡ true → b.source.bytes ≡ None

-- why no item was answered
abbrev pub HasNoItem : Why → Sides → Sides → RequestState → Type 0
HasNoItem InputEnd a b buffer = IsEnded b.source.bytes × IsIncomplete a.source b.source a.sink b.sink buffer true
HasNoItem Truncated a b buffer = IsEnded b.source.bytes × IsIncomplete a.source b.source a.sink b.sink buffer false
HasNoItem (BadFraming offset) a b buffer = ⊥
HasNoItem CloseAsked a b buffer = ⊥
HasNoItem RequestLimit a b buffer = ⊥
HasNoItem Stopped a b buffer = ⊥
HasNoItem ReadFault a b buffer = (a.source.faults < b.source.faults) × ((blank : Bool) × IsIncomplete a.source b.source a.sink b.sink buffer blank)
HasNoItem WriteFault a b buffer = ContinueFails a.source b.source a.sink b.sink buffer

-- what one round does, by its answer
abbrev pub IsRound : {A : Type 0} → (A → Item → Bool → List ℕ → A → Type 0) → A → A → Sides → Sides → RequestState → RequestState → Bool → RoundResult → Type 0
IsRound answers first next a b buffer buffer' final KeptOpen =
    (x : Exchange) × IsRoundOf answers first next a b buffer buffer' final x × (end_by buffer.offset x.item x.stops ≡ None) × GaveBytes a.sink b.sink (text_of x)
IsRound answers first next a b buffer buffer' final (Closed why) =
    (x : Exchange) × IsRoundOf answers first next a b buffer buffer' final x × (end_by buffer.offset x.item x.stops ≡ Some why) × GaveBytes a.sink b.sink (text_of x)
IsRound answers first next a b buffer buffer' final SinkFailed =
    (x : Exchange) × IsRoundOf answers first next a b buffer buffer' final x × FailsInside a.sink b.sink (continue_where (continues x.item)) x.answer
IsRound answers first next a b buffer buffer' final (Incomplete why) = (first ≡ next) × HasNoItem why a b buffer
