-- Round by round, what passed through a connection.
use Rattle.std.proofs.Common.{◌≡◌, ◌⊎◌, ℕ, ◌+◌, ◌<◌, ◌≤◌, ◌++◌, Bool, true, false, List, [], ◌∷◌, length, take, Option, Some, None, refl, sym, ap, ◌∙◌, subst, inl, inr, arith, append_assoc, length-append}
use Rattle.std.proofs.lemmas.List.Elements.{All-nil, All-cons, All-append}
use Rattle.http_message.specs.Item.{Item, IsItem, continues}
use Rattle.http_message.specs.Taken.{RequestState, IsIncomplete, continue_where, continue_text}
use Rattle.q_outside.specs.Ends.{End, Takes, Gives, TookBytes, GaveBytes, GavePart}
use Rattle.q_outside.specs.declared.served.Why.{Why}
use Rattle.q_outside.specs.declared.served.Why.TheVariants.{InputEnd, Truncated, BadFraming, CloseAsked, RequestLimit, Stopped, ReadFault, WriteFault}
use Rattle.q_outside.proofs.Chain.{Gives-append, took_both, gave_both}
use Rattle.dialogue.specs.Dialogue.{Sides, Exchange, Progress, GoesOn, FailsInside, EndsIncomplete, IsClosed, Ends, end_by, pieces, texts, text_of, request_limit}
use Rattle.dialogue.specs.Round.{IsRoundOf, HasNoItem}
use Rattle.dialogue.specs.Visit.{Talked, PassedBy}
use Rattle.dialogue.proofs.ItemLemmas.{AreItems, AreHidden, length-more, text-more, piece-more, none-more, none_by, end_is}

-- a text was given, and then the sink failed inside another
breaks_behind : (first middle last : End) (text more broken : List ℕ) → GaveBytes first middle text → FailsInside middle last more broken → FailsInside first last (text ++ more) broken
breaks_behind first middle last text more broken g b =
    let joined : (text ++ more) ++ take b.size broken ≡ text ++ (more ++ take b.size broken) = append_assoc text more (take b.size broken) in
    record {
      size = b.size;
      part = b.part;
      given = subst (λ (l : List ℕ). Gives first.bytes last.bytes l) (sym joined) (Gives-append first.bytes middle.bytes last.bytes text (more ++ take b.size broken) g.given b.given);
      rises = omega (arith, g.count, b.rises);
    }

-- a text was given, and then the beginning of another
pub part_breaks : (first middle last : End) (text broken : List ℕ) → GaveBytes first middle text → GavePart middle last broken → FailsInside first last text broken
part_breaks first middle last text broken g b = record {
  size = b.size;
  part = b.part;
  given = Gives-append first.bytes middle.bytes last.bytes text (take b.size broken) g.given b.given;
  rises = omega (arith, g.count, b.rises);
}

-- one item more
items-more : (xs : List Exchange) (x : Exchange) → AreItems xs → IsItem x.piece x.item → AreItems (xs ++ x ∷ [])
items-more xs x all is =
    let P : Exchange → Type 0 = λ (y : Exchange). IsItem y.piece y.item in
    All-append P xs (x ∷ []) all (All-cons P x [] is (All-nil P))

-- a source that shows no bytes at last showed none at first
hidden_before : (before after : Option (List ℕ)) (taken : List ℕ) → Takes before after taken → after ≡ None → before ≡ None
hidden_before None after taken t is = refl
hidden_before (Some left) after taken t is = absurd (let shown : after ≡ Some t.0 = t.1 in cc)

-- one more that only a source without bytes ends
hidden-more : (shown : Option (List ℕ)) (xs : List Exchange) (x : Exchange) → AreHidden shown xs → (x.stops ≡ true → shown ≡ None) → AreHidden shown (xs ++ x ∷ [])
hidden-more shown xs x all is =
    let P : Exchange → Type 0 = λ (y : Exchange). y.stops ≡ true → shown ≡ None in
    All-append P xs (x ∷ []) all (All-cons P x [] is (All-nil P))

-- the ends that an item makes, or the server behind it
ends_closed : (a b : Sides) (xs : List Exchange) (rest : List ℕ) (why : Why) → IsClosed a b xs why → Ends why a b xs rest
ends_closed a b xs rest why c = elim (end_is (length (pieces c.others)) c.last.item c.last.stops why c.closing) [
  | inl asked ↦ subst (λ (y : Why). Ends y a b xs rest) (sym asked) (subst (λ (y : Why). IsClosed a b xs y) asked c)
  | inr (inl unframed_is) ↦ subst (λ (y : Why). Ends y a b xs rest) (sym unframed_is) (subst (λ (y : Why). IsClosed a b xs y) unframed_is c)
  | inr (inr stopped) ↦ subst (λ (y : Why). Ends y a b xs rest) (sym stopped.0) (subst (λ (y : Why). IsClosed a b xs y) stopped.0 c)
]

-- One round of a connection, from `b` to `c`, behind the items `xs`.
module _ {A : Type 0} (answers : A → Item → Bool → List ℕ → A → Type 0) (now next : A) (a b c : Sides) (buffer buffer' : RequestState) (xs : List Exchange) (count : ℕ) (s : Talked a b xs buffer.bytes buffer.offset count) where
  -- one item more is progress
  progressed : (final : Bool) (x : Exchange) → IsRoundOf answers now next b c buffer buffer' final x → Progress a c (xs ++ x ∷ []) buffer'.bytes
  progressed final x t =
      let got = t.uses.got in
      let piece : pieces (xs ++ x ∷ []) ≡ pieces xs ++ x.piece = piece-more xs x in
      let j1 : (pieces xs ++ buffer.bytes) ++ got ≡ pieces xs ++ (buffer.bytes ++ got) = append_assoc (pieces xs) buffer.bytes got in
      let j2 : (pieces xs ++ x.piece) ++ buffer'.bytes ≡ pieces xs ++ (x.piece ++ buffer'.bytes) = append_assoc (pieces xs) x.piece buffer'.bytes in
      let beginning : buffer.bytes ++ got ≡ x.piece ++ buffer'.bytes = t.uses.bytes in
      let bytes : (pieces xs ++ buffer.bytes) ++ got ≡ pieces (xs ++ x ∷ []) ++ buffer'.bytes = cc in
      let taken : TookBytes a.source c.source (pieces (xs ++ x ∷ []) ++ buffer'.bytes) = subst (λ (l : List ℕ). TookBytes a.source c.source l) bytes (took_both a.source b.source c.source (pieces xs ++ buffer.bytes) got s.progress.taken t.uses.took) in
      record {
        taken = taken;
        items = items-more xs x s.progress.items t.is_item;
        hidden = hidden-more a.source.bytes xs x s.progress.hidden (λ stops. hidden_before a.source.bytes c.source.bytes _ taken.taken (t.hidden stops));
      }

  -- its text was given after theirs
  given_all : (x : Exchange) → GaveBytes b.sink c.sink (text_of x) → GaveBytes a.sink c.sink (texts (xs ++ x ∷ []))
  given_all x given = subst (λ (l : List ℕ). GaveBytes a.sink c.sink l) (sym (text-more xs x)) (gave_both a.sink b.sink c.sink (texts xs) (text_of x) s.given given)

  -- an item more, and the connection goes on
  pub talked_on : (final : Bool) (x : Exchange) → IsRoundOf answers now next b c buffer buffer' final x → end_by buffer.offset x.item x.stops ≡ None → GaveBytes b.sink c.sink (text_of x) → Talked a c (xs ++ x ∷ []) buffer'.bytes buffer'.offset (count + 1)
  talked_on final x t stays gave =
      let size : length (pieces xs ++ x.piece) ≡ length (pieces xs) + length x.piece = length-append (pieces xs) x.piece in
      let there : length (pieces (xs ++ x ∷ [])) ≡ length (pieces xs) + length x.piece = ap (λ (l : List ℕ). length l) (piece-more xs x) ∙ size in
      record {
        progress = progressed final x t;
        count_is = omega (arith, length-more xs x, s.count_is);
        none = none-more xs x s.none (none_by buffer.offset x stays);
        given = given_all x gave;
        offset_is = omega (arith, there, s.offset_is, t.uses.offset);
      }

  -- one more could be answered
  on : count < request_limit → GoesOn xs
  on few = record { none = s.none; few = omega (arith, few, s.count_is) }

  -- an item that closes ends the connection
  pub closed_by : (why : Why) → count < request_limit → (final : Bool) (x : Exchange) → IsRoundOf answers now next b c buffer buffer' final x → end_by buffer.offset x.item x.stops ≡ Some why → GaveBytes b.sink c.sink (text_of x) → PassedBy a c (xs ++ x ∷ []) (record { requests = count + 1; why = why })
  closed_by why few final x t closing gave =
      record {
        rest = buffer'.bytes;
        progress = progressed final x t;
        count = omega (arith, length-more xs x, s.count_is);
        ends = ends_closed a c (xs ++ x ∷ []) buffer'.bytes why (record {
          others = xs;
          last = x;
          are = refl;
          on = on few;
          closing = subst (λ (n : ℕ). end_by n x.item x.stops ≡ Some why) s.offset_is closing;
          given = given_all x gave;
        });
      }

  -- an item whose reply the sink did not take ends it
  pub broken_by : count < request_limit → (final : Bool) (x : Exchange) → IsRoundOf answers now next b c buffer buffer' final x → FailsInside b.sink c.sink (continue_where (continues x.item)) x.answer → PassedBy a c (xs ++ x ∷ []) (record { requests = count + 1; why = WriteFault })
  broken_by few final x t fails =
      record {
        rest = buffer'.bytes;
        progress = progressed final x t;
        count = omega (arith, length-more xs x, s.count_is);
        ends = inl (record {
          others = xs;
          last = x;
          are = refl;
          on = on few;
          fails = breaks_behind a.sink b.sink c.sink (texts xs) (continue_where (continues x.item)) x.answer s.given fails;
        });
      }

  -- where no item was answered, what was taken is progress all the same
  stayed : (got : List ℕ) → TookBytes b.source c.source got → Progress a c xs (buffer.bytes ++ got)
  stayed got taken =
      let joined : (pieces xs ++ buffer.bytes) ++ got ≡ pieces xs ++ (buffer.bytes ++ got) = append_assoc (pieces xs) buffer.bytes got in
      record {
        taken = subst (λ (l : List ℕ). TookBytes a.source c.source l) joined (took_both a.source b.source c.source (pieces xs ++ buffer.bytes) got s.progress.taken taken);
        items = s.progress.items;
        hidden = s.progress.hidden;
      }

  -- the next item is not whole
  no_head_yet : (blank : Bool) → count < request_limit → (h : IsIncomplete b.source c.source b.sink c.sink buffer blank) → EndsIncomplete a c xs (buffer.bytes ++ h.got)
  no_head_yet blank few h =
      record {
        on = on few;
        expected = h.expected;
        is_open = h.is_open;
        given = gave_both a.sink b.sink c.sink (texts xs) (continue_where h.expected) s.given h.gave;
      }

  -- no item was answered, and the connection ends for this reason
  pub incomplete_by : (why : Why) → count < request_limit → HasNoItem why b c buffer → PassedBy a c xs (record { requests = count; why = why })
  incomplete_by InputEnd few w = record {
    rest = buffer.bytes ++ w.1.got;
    progress = stayed w.1.got w.1.took;
    count = s.count_is;
    ends = (no_head_yet true few w.1, w.0, w.1.blank_is);
  }
  incomplete_by Truncated few w = record {
    rest = buffer.bytes ++ w.1.got;
    progress = stayed w.1.got w.1.took;
    count = s.count_is;
    ends = (no_head_yet false few w.1, w.0, w.1.blank_is);
  }
  incomplete_by (BadFraming offset) few w = absurd w
  incomplete_by CloseAsked few w = absurd w
  incomplete_by RequestLimit few w = absurd w
  incomplete_by Stopped few w = absurd w
  incomplete_by ReadFault few w = record {
    rest = buffer.bytes ++ w.1.1.got;
    progress = stayed w.1.1.got w.1.1.took;
    count = s.count_is;
    ends = (no_head_yet w.1.0 few w.1.1, omega (arith, s.progress.taken.count, w.0));
  }
  incomplete_by WriteFault few w = record {
    rest = buffer.bytes ++ w.got;
    progress = stayed w.got w.took;
    count = s.count_is;
    ends = inr (record {
      on = on few;
      is_expected = w.expected;
      fails = part_breaks a.sink b.sink c.sink (texts xs) continue_text s.given w.gave;
    });
  }

-- as many items were answered as may be
pub limited_by : (a b : Sides) (xs : List Exchange) (held : List ℕ) (offset count : ℕ) → Talked a b xs held offset count → count ≡ request_limit → PassedBy a b xs (record { requests = request_limit; why = RequestLimit })
limited_by a b xs held offset count s all =
    record {
      rest = held;
      progress = s.progress;
      count = s.count_is ∙ all;
      ends = record { none = s.none; all = s.count_is ∙ all; given = s.given };
    }
