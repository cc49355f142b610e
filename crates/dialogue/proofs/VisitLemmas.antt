-- Visits: round by round, and one after another.
use Rattle.std.proofs.Common.{◌≡◌, ℕ, ◌+◌, ◌*◌, ◌^◌, ◌<◌, ◌≤◌, ◌++◌, Bool, true, false, not, ◌||◌, List, [], ◌∷◌, length, Some, None, refl, sym, ap, ◌∙◌, subst, inl, inr, arith, append-nil, append_assoc, length-append, nat_eq}
use Rattle.std.proofs.Math.Nat.{eq-or-lt_of_le}
use Rattle.std.proofs.lemmas.Bool.{eq-eqb}
use Rattle.std.proofs.lemmas.List.Elements.{All-nil}
use Rattle.http_message.specs.Item.{Item, IsItem}
use Rattle.http_message.specs.Taken.{RequestState, item_limit}
use Rattle.q_outside.specs.Ends.{End, TookBytes}
use Rattle.q_outside.specs.declared.served.Served.{Served}
use Rattle.q_outside.specs.declared.served.Why.{Why}
use Rattle.q_outside.specs.declared.served.Why.TheVariants.{RequestLimit, WriteFault}
use Rattle.q_outside.proofs.Chain.{took_nothing, gave_nothing}
use Rattle.dialogue.specs.Dialogue.{Sides, Exchange, Answered, Dialogue, is_ending, is_last, request_limit}
use Rattle.dialogue.specs.Round.{IsRoundOf, IsRound}
use Rattle.dialogue.specs.Visit.{Talked, PassedBy, After, MayGoOn, Rests, Visited}
use Rattle.dialogue.specs.declared.round_result.RoundResult.{RoundResult}
use Rattle.dialogue.specs.declared.round_result.RoundResult.TheVariants.{KeptOpen, Closed, SinkFailed, Incomplete}
use Rattle.dialogue.specs.declared.visits.Pause.{Pause}
use Rattle.dialogue.specs.declared.visits.VisitEnd.{VisitEnd}
use Rattle.dialogue.specs.declared.visits.VisitEnd.TheVariants.{Quiet, Ended}
use Rattle.dialogue.proofs.ProgressLemmas.{talked_on, closed_by, broken_by, incomplete_by, limited_by}
use Rattle.dialogue.proofs.RoundLemmas.{still}

-- a request that is not the last that may be leaves one more
not_last : (n : ℕ) → n < request_limit → not (nat_eq (n + 1) request_limit) ≡ true → n + 1 < request_limit
not_last n few more = elim (eq-or-lt_of_le (let low : n + 1 ≤ request_limit = omega (arith, few) in low)) [
  | inl same ↦ absurd (let is : nat_eq (n + 1) request_limit ≡ true = eq-eqb (n + 1) request_limit same in let none : not (nat_eq (n + 1) request_limit) ≡ false = ap not is in cc)
  | inr below ↦ below
]

-- How items are answered, from a first state.
module _ {A : Type 0} (answers : A → Item → Bool → List ℕ → A → Type 0) where
  -- one answer more
  answered-more : (count : ℕ) (first middle last : A) (xs : List Exchange) (x : Exchange) → Answered answers count first xs middle → answers middle x.item (is_last (count + length xs) x) x.answer last → Answered answers count first (xs ++ x ∷ []) last
  answered-more count first middle last [] x t reply =
      let none : count + 0 ≡ count = omega arith in
      (last, subst (λ (n : ℕ). answers first x.item (is_last n x) x.answer last) none (subst (λ (s : A). answers s x.item (is_last (count + 0) x) x.answer last) (sym t) reply), refl)
  answered-more count first middle last (y ∷ ys) x t reply =
      let moved : count + length (y ∷ ys) ≡ (count + 1) + length ys = omega arith in
      (t.0, t.1, answered-more (count + 1) t.0 middle last ys x t.2 (subst (λ (n : ℕ). answers middle x.item (is_last n x) x.answer last) moved reply))

  -- the answers of two lists are those of both
  answered-append : (count : ℕ) (first middle last : A) (xs ys : List Exchange) → Answered answers count first xs middle → Answered answers (count + length xs) middle ys last → Answered answers count first (xs ++ ys) last
  answered-append count first middle last [] ys t u =
      let none : count + 0 ≡ count = omega arith in
      subst (λ (n : ℕ). Answered answers n first ys last) none (subst (λ (s : A). Answered answers (count + 0) s ys last) (sym t) u)
  answered-append count first middle last (x ∷ xs) ys t u =
      let moved : count + length (x ∷ xs) ≡ (count + 1) + length xs = omega arith in
      (t.0, t.1, answered-append (count + 1) t.0 middle last xs ys t.2 (subst (λ (n : ℕ). Answered answers n middle ys last) moved u))

  -- the state of a visit that goes on
  pub record Visiting (first now : A) (b c : Sides) (from : Pause) (buffer : RequestState) (count : ℕ) : Type 0 where
    pub xs : List Exchange
    pub answered : Answered answers from.requests first xs now
    pub number : from.requests + length xs ≡ count
    pub small : buffer.offset ≤ item_limit * count
    pub goes : (a : Sides) (prior : List Exchange) → Talked a b prior [] from.offset from.requests → Talked a c (prior ++ xs) buffer.bytes buffer.offset count

  -- a visit begins with nothing held
  pub arrived : (first : A) (b : Sides) (from : Pause) (buffer : RequestState) → MayGoOn from → buffer.bytes ≡ [] → buffer.offset ≡ from.offset → Visiting first first b b from buffer from.requests
  arrived first b from buffer more none offset =
      record {
        xs = [];
        answered = refl;
        number = omega arith;
        small = omega (arith, offset, more.small);
        goes = λ a prior t.
            subst (λ (l : List Exchange). Talked a b l buffer.bytes buffer.offset from.requests) (sym (append-nil prior))
            (subst (λ (l : List ℕ). Talked a b prior l buffer.offset from.requests) (sym none)
            (subst (λ (n : ℕ). Talked a b prior [] n from.requests) (sym offset) t));
      }

  -- the places of a connection fit 64 bits
  pub space_for_more : (first now : A) (b c : Sides) (from : Pause) (buffer : RequestState) (count : ℕ) → Visiting first now b c from buffer count → count < request_limit → buffer.offset + item_limit < 2 ^ 64
  space_for_more first now b c from buffer count s few = omega (arith, s.small, few)

  -- One round of a visit that went on so far.
  module _ (first now next : A) (b c d : Sides) (from : Pause) (buffer buffer' : RequestState) (count : ℕ) (s : Visiting first now b c from buffer count) where
    -- its item was answered after the others
    answered_all : (x : Exchange) → IsRoundOf answers now next c d buffer buffer' (nat_eq (count + 1) request_limit) x → Answered answers from.requests first (s.xs ++ x ∷ []) next
    answered_all x t =
        let number : count ≡ from.requests + length s.xs = sym s.number in
        answered-more from.requests first now next s.xs x s.answered
        (subst (λ (n : ℕ). answers now x.item (is_ending x || nat_eq (n + 1) request_limit) x.answer next) number t.answered)

    -- an item more, and the visit goes on
    went_on : IsRound answers now next c d buffer buffer' (nat_eq (count + 1) request_limit) KeptOpen → Visiting first next b d from buffer' (count + 1)
    went_on w =
        let x = w.0 in
        let t = w.1 in
        let size : length (s.xs ++ x ∷ []) ≡ length s.xs + 1 = length-append s.xs (x ∷ []) in
        record {
          xs = s.xs ++ x ∷ [];
          answered = answered_all x t;
          number = omega (arith, size, s.number);
          small = omega (arith, s.small, t.uses.offset, t.uses.limit);
          goes = λ a prior before.
              subst (λ (l : List Exchange). Talked a d l buffer'.bytes buffer'.offset (count + 1)) (append_assoc prior s.xs (x ∷ []))
              (talked_on answers now next a c d buffer buffer' (prior ++ s.xs) count (s.goes a prior before) (nat_eq (count + 1) request_limit) x t w.2 w.3);
        }

    -- so it does where the source was asked whether it is ready
    pub visits_on : (e : End) → e ≡ d.source → IsRound answers now next c d buffer buffer' (nat_eq (count + 1) request_limit) KeptOpen → Visiting first next b (record { source = e; sink = d.sink }) from buffer' (count + 1)
    visits_on e same w = still (λ (l : Sides). Visiting first next b l from buffer' (count + 1)) d e same (went_on w)

    -- an item more, and the connection pauses
    pub quiet : (e : End) (offset : ℕ) → e ≡ d.source → offset ≡ buffer'.offset → buffer'.bytes ≡ [] → IsRound answers now next c d buffer buffer' (nat_eq (count + 1) request_limit) KeptOpen → Visited answers first next b (record { source = e; sink = d.sink }) from (Quiet (record { requests = count + 1; offset = offset }))
    quiet e offset same there none w =
        let v : Visiting first next b (record { source = e; sink = d.sink }) from buffer' (count + 1) = visits_on e same w in
        record {
          xs = v.xs;
          answered = v.answered;
          goes = λ a prior before.
              subst (λ (n : ℕ). Talked a (record { source = e; sink = d.sink }) (prior ++ v.xs) [] n (count + 1)) (sym there)
              (subst (λ (l : List ℕ). Talked a (record { source = e; sink = d.sink }) (prior ++ v.xs) l buffer'.offset (count + 1)) none (v.goes a prior before));
        }

    -- a further request may be answered then
    pub quiet_rests : (offset : ℕ) → offset ≡ buffer'.offset → count < request_limit → not (nat_eq (count + 1) request_limit) ≡ true → IsRound answers now next c d buffer buffer' (nat_eq (count + 1) request_limit) KeptOpen → Rests from (Quiet (record { requests = count + 1; offset = offset }))
    quiet_rests offset there few more w =
        let v : Visiting first next b d from buffer' (count + 1) = went_on w in
        let rises : from.requests < count + 1 = omega (arith, s.number) in
        (rises, record { few = not_last count few more; small = omega (arith, there, v.small) })

    -- an item that closes ends the connection
    pub visit_closed : (why : Why) → count < request_limit → IsRound answers now next c d buffer buffer' (nat_eq (count + 1) request_limit) (Closed why) → Visited answers first next b d from (Ended (record { requests = count + 1; why = why }))
    visit_closed why few w =
        let x = w.0 in
        record {
          xs = s.xs ++ x ∷ [];
          answered = answered_all x w.1;
          goes = λ a prior before.
              subst (λ (l : List Exchange). PassedBy a d l (record { requests = count + 1; why = why })) (append_assoc prior s.xs (x ∷ []))
              (closed_by answers now next a c d buffer buffer' (prior ++ s.xs) count (s.goes a prior before) why few (nat_eq (count + 1) request_limit) x w.1 w.2 w.3);
        }

    -- an item whose reply the sink did not take ends it
    pub visit_broken : count < request_limit → IsRound answers now next c d buffer buffer' (nat_eq (count + 1) request_limit) SinkFailed → Visited answers first next b d from (Ended (record { requests = count + 1; why = WriteFault }))
    visit_broken few w =
        let x = w.0 in
        record {
          xs = s.xs ++ x ∷ [];
          answered = answered_all x w.1;
          goes = λ a prior before.
              subst (λ (l : List Exchange). PassedBy a d l (record { requests = count + 1; why = WriteFault })) (append_assoc prior s.xs (x ∷ []))
              (broken_by answers now next a c d buffer buffer' (prior ++ s.xs) count (s.goes a prior before) few (nat_eq (count + 1) request_limit) x w.1 w.2);
        }

    -- no item was answered, and the connection ends for this reason
    pub visit_incomplete : (why : Why) → count < request_limit → IsRound answers now next c d buffer buffer' (nat_eq (count + 1) request_limit) (Incomplete why) → Visited answers first next b d from (Ended (record { requests = count; why = why }))
    visit_incomplete why few w =
        record {
          xs = s.xs;
          answered = subst (λ (l : A). Answered answers from.requests first s.xs l) w.0 s.answered;
          goes = λ a prior before. incomplete_by answers now next a c d buffer buffer' (prior ++ s.xs) count (s.goes a prior before) why few w.1;
        }

  -- as many items were answered as may be
  pub visit_limited : (first now : A) (b c : Sides) (from : Pause) (buffer : RequestState) (count : ℕ) → Visiting first now b c from buffer count → count ≡ request_limit → Visited answers first now b c from (Ended (record { requests = request_limit; why = RequestLimit }))
  visit_limited first now b c from buffer count s all =
      record {
        xs = s.xs;
        answered = s.answered;
        goes = λ a prior before. limited_by a c (prior ++ s.xs) buffer.bytes buffer.offset count (s.goes a prior before) all;
      }

  -- a round came out as its answer says
  pub round_as : (now next : A) (b c : Sides) (buffer buffer' : RequestState) (final : Bool) (outcome outcome' : RoundResult) → outcome ≡ outcome' → IsRound answers now next b c buffer buffer' final outcome → IsRound answers now next b c buffer buffer' final outcome'
  round_as now next b c buffer buffer' final outcome outcome' is w = subst (λ (s : RoundResult). IsRound answers now next b c buffer buffer' final s) is w

  -- the state of a connection that pauses
  pub record Speaking (first now : A) (a b : Sides) (pause : Pause) : Type 0 where
    pub xs : List Exchange
    pub answered : Answered answers 0 first xs now
    pub talked : Talked a b xs [] pause.offset pause.requests

  -- a connection begins with nothing
  pub silent : (first : A) (a : Sides) → Speaking first first a a (record { requests = 0; offset = 0 })
  silent first a =
      record {
        xs = [];
        answered = refl;
        talked = record {
          progress = record {
            taken = took_nothing a.source;
            items = All-nil (λ (x : Exchange). IsItem x.piece x.item);
            hidden = All-nil (λ (x : Exchange). x.stops ≡ true → a.source.bytes ≡ None);
          };
          count_is = refl;
          none = refl;
          given = gave_nothing a.sink;
          offset_is = refl;
        };
      }

  -- a source that is waited for shows what it showed
  pub waited : (first now : A) (a b : Sides) (pause : Pause) (e : End) → e ≡ b.source → Speaking first now a b pause → Speaking first now a (record { source = e; sink = b.sink }) pause
  waited first now a b pause e same s = still (λ (l : Sides). Speaking first now a l pause) b e same s

  -- the items of a visit are answered after the others
  answered_both : (first now next : A) (a b c : Sides) (from : Pause) (end : VisitEnd) (s : Speaking first now a b from) (v : Visited answers now next b c from end) → Answered answers 0 first (s.xs ++ v.xs) next
  answered_both first now next a b c from end s v =
      let number : from.requests ≡ 0 + length s.xs = omega (arith, s.talked.count_is) in
      answered-append 0 first now next s.xs v.xs s.answered (subst (λ (n : ℕ). Answered answers n now v.xs next) number v.answered)

  -- a visit more, and the connection pauses again
  pub speaks_on : (first now next : A) (a b c : Sides) (from pause : Pause) (end : VisitEnd) → Speaking first now a b from → end ≡ Quiet pause → Visited answers now next b c from end → Speaking first next a c pause
  speaks_on first now next a b c from pause end s is v =
      record {
        xs = s.xs ++ v.xs;
        answered = answered_both first now next a b c from end s v;
        talked = subst (λ (l : VisitEnd). After a c (s.xs ++ v.xs) l) is (v.goes a s.xs s.talked);
      }

  -- a visit more, and the connection ends
  pub speaks_to_the_end : (first now next : A) (a b c : Sides) (from : Pause) (served : Served) (end : VisitEnd) → Speaking first now a b from → end ≡ Ended served → Visited answers now next b c from end → Dialogue answers first next a c served
  speaks_to_the_end first now next a b c from served end s is v =
      let p : PassedBy a c (s.xs ++ v.xs) served = subst (λ (l : VisitEnd). After a c (s.xs ++ v.xs) l) is (v.goes a s.xs s.talked) in
      record {
        passed = record { exchanges = s.xs ++ v.xs; rest = p.rest; progress = p.progress; count = p.count; ends = p.ends };
        answered = answered_both first now next a b c from end s v;
      }

-- a pause comes after one request more
pub rests_at : (from pause : Pause) (end : VisitEnd) → end ≡ Quiet pause → Rests from end → (from.requests < pause.requests) × MayGoOn pause
rests_at from pause end is r = subst (λ (l : VisitEnd). Rests from l) is r
