-- One round of a connection, from what its calls say.
use Rattle.std.proofs.Common.{◌≡◌, ℕ, ◌<◌, ◌++◌, ◌||◌, Bool, true, false, List, length, Option, Some, None, Result, Ok, Err, refl, sym, ap, ◌∙◌, subst, arith}
use Rattle.std.specs.Option.{is_some}
use Rattle.http_message.specs.Item.{Item, request, unframed, IsItem, closes, continues}
use Rattle.http_message.specs.Message.{Message}
use Rattle.http_message.specs.declared.refusal.FramingRefusal.{FramingRefusal}
use Rattle.http_message.specs.Taken.{RequestState, TakesItem, continue_where}
use Rattle.q_outside.specs.Ends.{End, GaveBytes, Gave}
use Rattle.q_outside.specs.declared.served.Why.{Why}
use Rattle.q_outside.specs.declared.served.Why.TheVariants.{BadFraming}
use Rattle.q_outside.proofs.Chain.{gave_both}
use Rattle.dialogue.specs.Dialogue.{Sides, Exchange, FailsInside, end_by}
use Rattle.dialogue.specs.Round.{IsRoundResult, IsRoundOf, IsRound}
use Rattle.dialogue.specs.declared.round_result.RoundResult.{RoundResult}
use Rattle.dialogue.proofs.ItemLemmas.{end-closes}
use Rattle.dialogue.proofs.ProgressLemmas.{part_breaks}

-- a source that shows what it showed
pub still : (P : Sides → Type 0) (b : Sides) (e : End) → e ≡ b.source → P b → P (record { source = e; sink = b.sink })
still P b e same p = subst (λ (l : End). P (record { source = l; sink = b.sink })) (sym same) p

-- An item was taken, which left the sink at `middle`, and answered by this text.
module _ {A : Type 0} (answers : A → Item → Bool → List ℕ → A → Type 0) (first next : A) (a b : Sides) (middle : End) (buffer buffer' : RequestState) (final : Bool) where
  -- what is known of it; its reply says that the server is ending where `stops` does
  pub record Took (item : Item) (stops : Bool) (text : List ℕ) : Type 0 where
    pub taken : TakesItem a.source b.source a.sink middle buffer buffer' item
    pub answered : answers first item ((closes item || stops) || final) text next
    pub hidden : stops ≡ true → b.source.bytes ≡ None

  -- its exchange
  abbrev exchange_of : (item : Item) (stops : Bool) (text : List ℕ) → Took item stops text → Exchange
  exchange_of item stops text t = record { piece = t.taken.used; item = item; answer = text; stops = stops }

  -- which is that of its round
  is_of_round : (item : Item) (stops : Bool) (text : List ℕ) (t : Took item stops text) → IsRoundOf answers first next a b buffer buffer' final (exchange_of item stops text t)
  is_of_round item stops text t = record { uses = t.taken.uses; is_item = t.taken.is; answered = t.answered; hidden = t.hidden }

  -- its round came out so
  pub round_of : {T E : Type 0} (item : Item) (stops : Bool) (text : List ℕ) (given : Result T E) (end : Option Why) (outcome : RoundResult) → Took item stops text → Gave middle b.sink text given → end ≡ end_by buffer.offset item stops → IsRoundResult given end outcome → IsRound answers first next a b buffer buffer' final outcome
  round_of item stops text (Ok x) None outcome t gave end is =
      subst (λ (s : RoundResult). IsRound answers first next a b buffer buffer' final s) (sym is)
      (exchange_of item stops text t, is_of_round item stops text t, sym end, gave_both a.sink middle b.sink (continue_where (continues item)) text t.taken.gave gave)
  round_of item stops text (Ok x) (Some why) outcome t gave end is =
      subst (λ (s : RoundResult). IsRound answers first next a b buffer buffer' final s) (sym is)
      (exchange_of item stops text t, is_of_round item stops text t, sym end, gave_both a.sink middle b.sink (continue_where (continues item)) text t.taken.gave gave)
  round_of item stops text (Err e) end outcome t gave end_is is =
      subst (λ (s : RoundResult). IsRound answers first next a b buffer buffer' final s) (sym is)
      (exchange_of item stops text t, is_of_round item stops text t, part_breaks a.sink middle b.sink (continue_where (continues item)) text t.taken.gave gave)

  -- so did that of a request, behind which the source was asked whether it stops
  pub round_of_request : {T E : Type 0} (message held : Message) (stops close : Bool) (given : Result T E) (end : Option Why) (outcome : RoundResult) (e : End) → message ≡ held → TakesItem a.source b.source a.sink middle buffer buffer' (request held) → e ≡ b.source → (stops ≡ true → b.source.bytes ≡ None) → close ≡ (is_some end || final) → (text : List ℕ) × answers first (request message) close text next × Gave middle b.sink text given → ((offset : ℕ) → end ≡ end_by offset (request message) stops) → IsRoundResult given end outcome → IsRound answers first next a (record { source = e; sink = b.sink }) buffer buffer' final outcome
  round_of_request message held stops close given end outcome e same taken asked hidden close_is reply end_is is =
      let closing : close ≡ ((closes (request message) || stops) || final) = close_is ∙ ap (λ (e : Option Why). is_some e || final) (end_is buffer.offset) ∙ ap (λ (v : Bool). v || final) (end-closes buffer.offset (request message) stops) in
      still (λ (l : Sides). IsRound answers first next a l buffer buffer' final outcome) b e asked
      (round_of (request message) stops reply.0 given end outcome
      (record {
        taken = subst (λ (m : Message). TakesItem a.source b.source a.sink middle buffer buffer' (request m)) (sym same) taken;
        answered = subst (λ (v : Bool). answers first (request message) v reply.0 next) closing reply.1;
        hidden = hidden;
      })
      reply.2 (end_is buffer.offset) is)

  -- and that of a request whose end cannot be determined
  pub round_of_unframed : {T E : Type 0} (refused : FramingRefusal) (expected head : Bool) (offset : ℕ) (given : Result T E) (outcome : RoundResult) → TakesItem a.source b.source a.sink middle buffer buffer' (unframed refused expected head) → offset ≡ buffer.offset → (text : List ℕ) × answers first (unframed refused expected head) true text next × Gave middle b.sink text given → IsRoundResult given (Some (BadFraming offset)) outcome → IsRound answers first next a b buffer buffer' final outcome
  round_of_unframed refused expected head offset given outcome taken there reply is =
      round_of (unframed refused expected head) false reply.0 given (Some (BadFraming offset)) outcome (record { taken = taken; answered = reply.1; hidden = λ stops. absurd (cc) }) reply.2 (ap (λ (n : ℕ). Some (BadFraming n)) there) is
