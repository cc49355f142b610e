-- The bytes of a connection as its items, and the end that these determine.
use Rattle.std.proofs.Common.{◌≡◌, ◌⊎◌, ℕ, suc, ◌+◌, ◌<◌, ◌≤◌, ◌++◌, Bool, true, false, not, ◌&&◌, ◌||◌, List, [], ◌∷◌, length, Option, Some, None, All, refl, sym, ap, ◌∙◌, subst, inl, inr, arith, append-nil, append_assoc, length-append, nat_eq}
use Rattle.std.proofs.lemmas.List.Elements.{All-nil, All-cons}
use Rattle.std.proofs.lemmas.Bool.{cases_Bool, eqb-true, eq-eqb}
use Rattle.http_message.specs.Item.{Item, request, unframed, IsItem, IsOpen, closes}
use Rattle.http_message.specs.Laws.{OneSplit, OneExpectation}
use Rattle.http_message.specs.Split.{Piece, bytes_of, OnlyLastCloses, last_closes, IsSplit}
use Rattle.http_message.specs.Taken.{continue_where}
use Rattle.http_message.specs.Text.{is_blank}
use Rattle.q_outside.specs.Ends.{Takes, IsEnded, GaveBytes}
use Rattle.q_outside.specs.declared.served.Served.{Served}
use Rattle.q_outside.specs.declared.served.Why.{Why}
use Rattle.q_outside.specs.declared.served.Why.TheVariants.{InputEnd, Truncated, BadFraming, CloseAsked, RequestLimit, Stopped, ReadFault, WriteFault}
use Rattle.dialogue.specs.Dialogue.{Sides, Exchange, Progress, Passed, EndsIncomplete, IsClosed, Ends, pieces, texts, none_closes, request_limit, end_by}
use Rattle.dialogue.specs.EndLaw.{IsWhole, IsDetermined, ExpectsAt, last_end, end_of}
use Rattle.dialogue.proofs.ItemLemmas.{AreItems, AreHidden, items_head, items_tail, last_stays, some_by, open_by, end_is}

-- the items of exchanges
abbrev pieces_of : List Exchange → List Piece
pieces_of [] = []
pieces_of (x ∷ xs) = record { bytes = x.piece; item = x.item } ∷ pieces_of xs

-- their bytes are those of the exchanges
bytes_are : (xs : List Exchange) → bytes_of (pieces_of xs) ≡ pieces xs
bytes_are [] = refl
bytes_are (x ∷ xs) = ap (λ l. x.piece ++ l) (bytes_are xs)

-- there are as many
length_is : (xs : List Exchange) → length (pieces_of xs) ≡ length xs
length_is [] = refl
length_is (x ∷ xs) = ap suc (length_is xs)

-- each is an item
each_is : (xs : List Exchange) → AreItems xs → All (λ (piece : Piece). IsItem piece.bytes piece.item) (pieces_of xs)
each_is [] all = All-nil (λ (piece : Piece). IsItem piece.bytes piece.item)
each_is (x ∷ xs) all = All-cons (λ (piece : Piece). IsItem piece.bytes piece.item) (record { bytes = x.piece; item = x.item }) (pieces_of xs) (items_head x xs all) (each_is xs (items_tail x xs all))

-- what ends nothing does not close
opened : (b s : Bool) (c : Bool) → (not (b || s) && c) ≡ true → (b ≡ false) × (c ≡ true)
opened true s c h = absurd (cc)
opened false true c h = absurd (cc)
opened false false c h = (refl, h)

-- where none closes, the last doesn't
none_last : (xs : List Exchange) → none_closes xs ≡ true → last_closes (pieces_of xs) ≡ false
none_last [] h = refl
none_last (x ∷ []) h = (opened (closes x.item) x.stops true h).0
none_last (x ∷ y ∷ ys) h = none_last (y ∷ ys) (opened (closes x.item) x.stops (none_closes (y ∷ ys)) h).1

-- where none closes, none but the last does
none_going : (xs : List Exchange) → none_closes xs ≡ true → OnlyLastCloses (pieces_of xs)
none_going [] h = tt
none_going (x ∷ []) h = tt
none_going (x ∷ y ∷ ys) h = let p = opened (closes x.item) x.stops (none_closes (y ∷ ys)) h in (p.0, none_going (y ∷ ys) p.1)

-- where one that closes follows those that do not, it is the last
closing_last : (xs : List Exchange) (x : Exchange) → closes x.item ≡ true → last_closes (pieces_of (xs ++ x ∷ [])) ≡ true
closing_last [] x h = h
closing_last (y ∷ []) x h = h
closing_last (y ∷ z ∷ zs) x h = closing_last (z ∷ zs) x h

closing_going : (xs : List Exchange) (x : Exchange) → none_closes xs ≡ true → OnlyLastCloses (pieces_of (xs ++ x ∷ []))
closing_going [] x h = tt
closing_going (y ∷ []) x h = ((opened (closes y.item) y.stops true h).0, tt)
closing_going (y ∷ z ∷ zs) x h = let p = opened (closes y.item) y.stops (none_closes (z ∷ zs)) h in (p.0, closing_going (z ∷ zs) x p.1)

-- where none closes, the last does not end the connection
none_end : (offset : ℕ) (xs : List Exchange) → none_closes xs ≡ true → last_end offset (pieces_of xs) ≡ None
none_end offset [] h = refl
none_end offset (x ∷ []) h = open_by offset x.item (opened (closes x.item) x.stops true h).0
none_end offset (x ∷ y ∷ ys) h = none_end (offset + length x.piece) (y ∷ ys) (opened (closes x.item) x.stops (none_closes (y ∷ ys)) h).1

-- the last one ends the connection by its offset
closing_end : (offset : ℕ) (xs : List Exchange) (x : Exchange) → last_end offset (pieces_of (xs ++ x ∷ [])) ≡ end_by (offset + length (pieces xs)) x.item false
closing_end offset [] x = ap (λ n. end_by n x.item false) (let same : offset ≡ offset + 0 = omega arith in same)
closing_end offset (y ∷ []) x =
    let size : length (y.piece ++ []) ≡ length y.piece = ap (λ (l : List ℕ). length l) (append-nil y.piece) in
    ap (λ n. end_by n x.item false) (let same : offset + length y.piece ≡ offset + length (y.piece ++ []) = omega (arith, size) in same)
closing_end offset (y ∷ z ∷ zs) x =
    let rest : last_end (offset + length y.piece) (pieces_of ((z ∷ zs) ++ x ∷ [])) ≡ end_by (offset + length y.piece + length (pieces (z ∷ zs))) x.item false = closing_end (offset + length y.piece) (z ∷ zs) x in
    let size : length (y.piece ++ pieces (z ∷ zs)) ≡ length y.piece + length (pieces (z ∷ zs)) = length-append y.piece (pieces (z ∷ zs)) in
    rest ∙ ap (λ n. end_by n x.item false) (let same : offset + length y.piece + length (pieces (z ∷ zs)) ≡ offset + length (y.piece ++ pieces (z ∷ zs)) = omega (arith, size) in same)

-- an end is the one whose tests say so
by_closing : (ps : List Piece) (rest : List ℕ) (why : Why) → last_end 0 ps ≡ Some why → end_of ps rest ≡ why
by_closing ps rest why h = rw h refl

by_limit : (ps : List Piece) (rest : List ℕ) → last_end 0 ps ≡ None → nat_eq (length ps) request_limit ≡ true → end_of ps rest ≡ RequestLimit
by_limit ps rest h k = rw (h, k) refl

by_empty_lines : (ps : List Piece) (rest : List ℕ) → last_end 0 ps ≡ None → nat_eq (length ps) request_limit ≡ false → is_blank rest ≡ true → end_of ps rest ≡ InputEnd
by_empty_lines ps rest h k b = rw (h, k, b) refl

by_rest : (ps : List Piece) (rest : List ℕ) → last_end 0 ps ≡ None → nat_eq (length ps) request_limit ≡ false → is_blank rest ≡ false → end_of ps rest ≡ Truncated
by_rest ps rest h k b = rw (h, k, b) refl

-- a number below another is not that one
below_limit : (n : ℕ) → n < request_limit → nat_eq n request_limit ≡ false
below_limit n h = elim (cases_Bool (nat_eq n request_limit)) [ inl same ↦ absurd (let e : n ≡ request_limit = eqb-true n request_limit same in omega (arith, e, h)) | inr other ↦ other ]

-- the bytes of the source are those taken and those left
record Parted (bytes taken : List ℕ) (left : Option (List ℕ)) : Type 0 where
  unread : List ℕ
  left_is : left ≡ Some unread
  all : bytes ≡ taken ++ unread

-- a source that shows its bytes goes on to show them
parted : (before after : Option (List ℕ)) (bytes taken : List ℕ) → before ≡ Some bytes → Takes before after taken → Parted bytes taken after
parted before after bytes taken shown t =
    let u : Takes (Some bytes) after taken = subst (λ (o : Option (List ℕ)). Takes o after taken) shown t in
    record { unread = u.0; left_is = u.1; all = u.2 }

-- what an ended source left is nothing
left_nothing : (left : Option (List ℕ)) (unread : List ℕ) → left ≡ Some unread → IsEnded left → unread ≡ []
left_nothing left unread is end = let e : IsEnded (Some unread) = subst (λ (o : Option (List ℕ)). IsEnded o) is end in e

-- A connection at which nothing failed, and its end.
module _ (bytes : List ℕ) (a b : Sides) (xs : List Exchange) (rest : List ℕ) (shown : a.source.bytes ≡ Some bytes) (p : Progress a b xs rest) where
  -- the bytes as the items and all that follows them
  whole : Parted bytes (pieces xs ++ rest) b.source.bytes
  whole = parted a.source.bytes b.source.bytes bytes (pieces xs ++ rest) shown p.taken.taken

  -- a split of the bytes, of the items and of what ends them
  split_of : length xs ≤ request_limit → OnlyLastCloses (pieces_of xs) → (last_closes (pieces_of xs) ≡ true) ⊎ ((length (pieces_of xs) ≡ request_limit) ⊎ ((expected : Bool) × IsOpen (rest ++ whole.unread) expected)) → IsSplit request_limit bytes (pieces_of xs) (rest ++ whole.unread)
  split_of few going ends =
      let all : bytes ≡ (pieces xs ++ rest) ++ whole.unread = whole.all in
      let joined : (pieces xs ++ rest) ++ whole.unread ≡ pieces xs ++ (rest ++ whole.unread) = append_assoc (pieces xs) rest whole.unread in
      let same : bytes_of (pieces_of xs) ≡ pieces xs = bytes_are xs in
      record {
        all = cc;
        each = each_is xs p.items;
        few = omega (arith, length_is xs, few);
        going = going;
        ends = ends;
      }

  -- where the source ended, all bytes were taken
  record AtEnd : Type 0 where
    split : IsSplit request_limit bytes (pieces_of xs) rest
    last : last_end 0 (pieces_of xs) ≡ None
    few : nat_eq (length (pieces_of xs)) request_limit ≡ false

  at_end : EndsIncomplete a b xs rest → IsEnded b.source.bytes → AtEnd
  at_end s end =
      let nothing : whole.unread ≡ [] = left_nothing b.source.bytes whole.unread whole.left_is end in
      let all : rest ++ whole.unread ≡ rest = ap (λ l. rest ++ l) nothing ∙ append-nil rest in
      let open_all : IsOpen (rest ++ whole.unread) s.expected = subst (λ (l : List ℕ). IsOpen l s.expected) (sym all) s.is_open in
      let split : IsSplit request_limit bytes (pieces_of xs) (rest ++ whole.unread) = split_of (omega (arith, s.on.few)) (none_going xs s.on.none) (inr (inr (s.expected, open_all))) in
      record {
        split = subst (λ (l : List ℕ). IsSplit request_limit bytes (pieces_of xs) l) all split;
        last = none_end 0 xs s.on.none;
        few = below_limit _ (omega (arith, s.on.few, length_is xs));
      }

  -- the end that the bytes determine, and what was given after the texts
  abbrev Determines : Served → Type 0
  Determines served = (expected : Bool) × IsDetermined bytes served expected × GaveBytes a.sink b.sink (texts xs ++ continue_where expected)

  -- what was given where `100 Continue` was not expected
  no_expectation : GaveBytes a.sink b.sink (texts xs) → GaveBytes a.sink b.sink (texts xs ++ [])
  no_expectation given = subst (λ (l : List ℕ). GaveBytes a.sink b.sink l) (sym (append-nil (texts xs))) given

  -- the end of a connection that an item ended
  closed_determined : (requests : ℕ) (why : Why) → length xs ≡ requests → IsClosed a b xs why → ((l : List ℕ) → ExpectsAt why l false) → Determines (record { requests = requests; why = why })
  closed_determined requests why count c call =
      let are : pieces_of xs ≡ pieces_of (c.others ++ c.last ∷ []) = ap pieces_of c.are in
      let hidden : AreHidden a.source.bytes (c.others ++ c.last ∷ []) = subst (λ (l : List Exchange). AreHidden a.source.bytes l) c.are p.hidden in
      let stays : c.last.stops ≡ false = last_stays bytes a.source.bytes c.others c.last shown hidden in
      let ended : end_by (length (pieces c.others)) c.last.item false ≡ Some why = subst (λ (v : Bool). end_by (length (pieces c.others)) c.last.item v ≡ Some why) stays c.closing in
      let closing : closes c.last.item ≡ true = some_by (length (pieces c.others)) c.last.item why ended in
      let last : last_closes (pieces_of xs) ≡ true = ap last_closes are ∙ closing_last c.others c.last closing in
      let zero_first : 0 + length (pieces c.others) ≡ length (pieces c.others) = omega arith in
      let end : last_end 0 (pieces_of xs) ≡ Some why = ap (last_end 0) are ∙ closing_end 0 c.others c.last ∙ ap (λ n. end_by n c.last.item false) zero_first ∙ ended in
      let size : length xs ≡ length c.others + 1 = ap (λ (l : List Exchange). length l) c.are ∙ length-append c.others (c.last ∷ []) in (
        false,
        record {
          pieces = pieces_of xs;
          rest = rest ++ whole.unread;
          split = split_of (omega (arith, size, c.on.few)) (subst (λ (l : List Piece). OnlyLastCloses l) (sym are) (closing_going c.others c.last c.on.none)) (inl last);
          requests_are = omega (arith, count, length_is xs);
          why_is = sym (by_closing (pieces_of xs) (rest ++ whole.unread) why end);
          expected_is = call (rest ++ whole.unread);
        },
        no_expectation c.given,
      )

  -- a source that shows its bytes is not stopped
  never_stopped : IsClosed a b xs Stopped → ⊥
  never_stopped c =
      let hidden : AreHidden a.source.bytes (c.others ++ c.last ∷ []) = subst (λ (l : List Exchange). AreHidden a.source.bytes l) c.are p.hidden in
      let stays : c.last.stops ≡ false = last_stays bytes a.source.bytes c.others c.last shown hidden in
      elim (end_is (length (pieces c.others)) c.last.item c.last.stops Stopped c.closing) [
        | inl asked ↦ absurd (cc)
        | inr (inl unframed_is) ↦ absurd (cc)
        | inr (inr stopped) ↦ absurd (let told : c.last.stops ≡ true = stopped.1 in cc)
      ]

  -- the split of a connection that ended, by its end
  determined_by : (requests : ℕ) (why : Why) → b.source.faults ≡ a.source.faults → b.sink.faults ≡ a.sink.faults → length xs ≡ requests → Ends why a b xs rest → Determines (record { requests = requests; why = why })
  determined_by requests InputEnd fi fo count ends =
      let e : AtEnd = at_end ends.0 ends.1 in (
        ends.0.expected,
        record {
          pieces = pieces_of xs;
          rest = rest;
          split = e.split;
          requests_are = omega (arith, count, length_is xs);
          why_is = sym (by_empty_lines (pieces_of xs) rest e.last e.few ends.2);
          expected_is = ends.0.is_open;
        },
        ends.0.given,
      )
  determined_by requests Truncated fi fo count ends =
      let e : AtEnd = at_end ends.0 ends.1 in (
        ends.0.expected,
        record {
          pieces = pieces_of xs;
          rest = rest;
          split = e.split;
          requests_are = omega (arith, count, length_is xs);
          why_is = sym (by_rest (pieces_of xs) rest e.last e.few ends.2);
          expected_is = ends.0.is_open;
        },
        ends.0.given,
      )
  determined_by requests (BadFraming offset) fi fo count ends = closed_determined requests (BadFraming offset) count ends (λ l. refl)
  determined_by requests CloseAsked fi fo count ends = closed_determined requests CloseAsked count ends (λ l. refl)
  determined_by requests RequestLimit fi fo count ends =
      let all : length (pieces_of xs) ≡ request_limit = length_is xs ∙ ends.all in (
        false,
        record {
          pieces = pieces_of xs;
          rest = rest ++ whole.unread;
          split = split_of (omega (arith, ends.all)) (none_going xs ends.none) (inr (inl all));
          requests_are = omega (arith, count, length_is xs);
          why_is = sym (by_limit (pieces_of xs) (rest ++ whole.unread) (none_end 0 xs ends.none) (eq-eqb _ _ all));
          expected_is = refl;
        },
        no_expectation ends.given,
      )
  determined_by requests Stopped fi fo count ends = absurd (never_stopped ends)
  determined_by requests ReadFault fi fo count ends = absurd (omega (arith, fi, ends.1))
  determined_by requests WriteFault fi fo count (inl broken) = absurd (omega (arith, fo, broken.fails.rises))
  determined_by requests WriteFault fi fo count (inr in_continue) = absurd (omega (arith, fo, in_continue.fails.rises))

-- so does a connection at which nothing failed
pub end_determined : (bytes : List ℕ) (a b : Sides) (served : Served) → IsWhole bytes a b → (passed : Passed a b served) → (expected : Bool) × IsDetermined bytes served expected × GaveBytes a.sink b.sink (texts passed.exchanges ++ continue_where expected)
end_determined bytes a b served w passed =
    determined_by bytes a b passed.exchanges passed.rest w.shown passed.progress served.requests served.why w.no_fault_in w.no_fault_out passed.count passed.ends

-- the same bytes call for the same
one_expectation_at : OneExpectation → (why : Why) (rest : List ℕ) (expected other : Bool) → ExpectsAt why rest expected → ExpectsAt why rest other → expected ≡ other
one_expectation_at one InputEnd rest expected other c d = (one rest expected other c).0 d
one_expectation_at one Truncated rest expected other c d = (one rest expected other c).0 d
one_expectation_at one (BadFraming offset) rest expected other c d = c ∙ sym d
one_expectation_at one CloseAsked rest expected other c d = c ∙ sym d
one_expectation_at one RequestLimit rest expected other c d = c ∙ sym d
one_expectation_at one Stopped rest expected other c d = absurd c
one_expectation_at one ReadFault rest expected other c d = absurd c
one_expectation_at one WriteFault rest expected other c d = absurd c

-- two splits are one, so there is one end
pub one_end : OneSplit → OneExpectation → (bytes : List ℕ) (served other : Served) (expected again : Bool) → IsDetermined bytes served expected → IsDetermined bytes other again → (served.requests ≡ other.requests) × (served.why ≡ other.why) × (expected ≡ again)
one_end split call bytes served other expected again s t =
    let both = split request_limit bytes s.pieces t.pieces s.rest t.rest s.split t.split in
    let same : s.pieces ≡ t.pieces = both.0 in
    let rest : s.rest ≡ t.rest = both.1 in
    let first : served.requests ≡ length s.pieces = s.requests_are in
    let second : other.requests ≡ length t.pieces = t.requests_are in
    let here : served.why ≡ end_of s.pieces s.rest = s.why_is in
    let there : other.why ≡ end_of t.pieces t.rest = t.why_is in
    let reasons : served.why ≡ other.why = cc in
    let moved : ExpectsAt served.why s.rest again = subst (λ (y : Why). ExpectsAt y s.rest again) (sym reasons) (subst (λ (l : List ℕ). ExpectsAt other.why l again) (sym rest) t.expected_is) in
    (cc, reasons, one_expectation_at call served.why s.rest expected again s.expected_is moved)
