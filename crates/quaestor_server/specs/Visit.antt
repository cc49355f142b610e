-- Internal. A desk and the clock that gives its moments, which go from one visit of a connection to the next.
use Rattle.std.specs.Prelude.{ℕ, Bool, List}
use Rattle.http_message.specs.Item.{Item}
use Rattle.hub_model.specs.declared.entry.Entry.{Entry}
use Rattle.hub_model.specs.Setting.{Setting}
use Rattle.quaestor_server.specs.Conversation.{AnswersAt}

-- A desk and its clock.
pub record Timed (D C : Type 0) : Type 0 where
  pub desk : D
  pub clock : C

-- how they answer an item
abbrev pub answers_of : {D C A : Type 0} → (D → Setting) → (unready : Bool) → (D → List Entry) → (D → List (ℕ × Entry)) → (D → A) → (D → Type 0) → (C → ℕ → C → Type 0) → Timed D C → Item → Bool → List ℕ → Timed D C → Type 0
answers_of setting unready seen mine anchor is_kept tick a item close text b = AnswersAt setting unready seen mine anchor is_kept tick a.desk b.desk a.clock b.clock item close text
