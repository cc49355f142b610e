-- Visits to a desk: who answers is another in each, and has the same desk and clock.
use Rattle.std.proofs.Common.{◌≡◌, ℕ, ◌+◌, Bool, List, [], ◌∷◌, sym, ap, subst}
use Rattle.dialogue.specs.Dialogue.{Sides, Exchange, Answered, is_last}
use Rattle.dialogue.specs.Visit.{Visited}
use Rattle.dialogue.specs.declared.visits.Pause.{Pause}
use Rattle.dialogue.specs.declared.visits.VisitEnd.{VisitEnd}
use Rattle.http_message.specs.Item.{Item}
use Rattle.hub_core.specs.PageRoom.{PageRoomView}
use Rattle.hub_model.specs.Legal.{IsLegal}
use Rattle.hub_model.specs.declared.entry.Entry.{Entry}
use Rattle.hub_model.specs.Setting.{Setting}
use Rattle.quaestor_server.specs.Conversation.{AnswersAt}
use Rattle.quaestor_server.specs.Rooms.{IsFor}
use Rattle.quaestor_server.specs.Visit.{Timed, answers_of}

-- answers that a part of the state gives
answered_of : {A B : Type 0} (p : A → Item → Bool → List ℕ → A → Type 0) (q : B → Item → Bool → List ℕ → B → Type 0) (f : A → B) → ((a b : A) (item : Item) (close : Bool) (text : List ℕ) → p a item close text b → q (f a) item close text (f b)) → (count : ℕ) (first last : A) (xs : List Exchange) → Answered p count first xs last → Answered q count (f first) xs (f last)
answered_of p q f each count first last [] t = ap f t
answered_of p q f each count first last (x ∷ xs) t =
    (f t.0, each first t.0 x.item (is_last count x) x.answer t.1, answered_of p q f each (count + 1) t.0 last xs t.2)

-- What answers has a desk and a clock.
module _ {A D C T : Type 0} (desk : A → D) (clock : A → C) (setting : D → Setting) (unready : Bool) (seen : D → List Entry) (mine : D → List (ℕ × Entry)) (anchor : D → T) (is_kept : D → Type 0) (tick : C → ℕ → C → Type 0) where
  -- how it answers
  abbrev AnswersItem : A → Item → Bool → List ℕ → A → Type 0
  AnswersItem a item close text b = AnswersAt setting unready seen mine anchor is_kept tick (desk a) (desk b) (clock a) (clock b) item close text

  -- both of them
  abbrev timed : A → Timed D C
  timed a = record { desk = desk a; clock = clock a }

  -- a visit with it is one to its desk
  pub visited_by : (first last : A) (b c : Sides) (from : Pause) (end : VisitEnd) (d : D) (k : C) → Visited AnswersItem first last b c from end → d ≡ desk last → k ≡ clock last → Visited (answers_of setting unready seen mine anchor is_kept tick) (timed first) (record { desk = d; clock = k }) b c from end
  visited_by first last b c from end d k v same_desk same_clock =
      let answered : Answered (answers_of setting unready seen mine anchor is_kept tick) from.requests (timed first) v.xs (timed last) = answered_of AnswersItem (answers_of setting unready seen mine anchor is_kept tick) timed (λ a b item close text t. t) from.requests first last v.xs v.answered in
      record {
        xs = v.xs;
        answered =
            subst (λ (l : D). Answered (answers_of setting unready seen mine anchor is_kept tick) from.requests (timed first) v.xs (record { desk = l; clock = k })) (sym same_desk)
            (subst (λ (l : C). Answered (answers_of setting unready seen mine anchor is_kept tick) from.requests (timed first) v.xs (record { desk = desk last; clock = l })) (sym same_clock) answered);
        goes = v.goes;
      }

-- a room for the hubs of a configuration
pub room_at : (g h : Setting) (pages : PageRoomView) (config : Setting) → g ≡ h → IsFor g pages config → IsFor h pages config
room_at g h pages config same r = subst (λ (l : Setting). IsFor l pages config) same r

-- a history that is legal in it
pub legal_at : (g h : Setting) (history : List Entry) → g ≡ h → IsLegal g history → IsLegal h history
legal_at g h history same r = subst (λ (l : Setting). IsLegal l history) same r
