-- From the head and the body that were taken to the answer.
use Rattle.std.proofs.Common.{◌≡◌, ◌⊎◌, ℕ, ◌+◌, ◌<◌, ◌≤◌, List, ◌++◌, length, take, drop, Bool, true, false, refl, sym, ◌∙◌, ap, subst, inl, inr, arith, append_assoc, append-nil}
use Rattle.std.proofs.lemmas.List.{length-append, take_at}
use Rattle.httparse.specs.Grammar.{RequestHead}
use Rattle.httparse.specs.declared.spans.HeaderSpan.{HeaderSpan}
use Rattle.q_outside.specs.Ends.{End, TookBytes, GaveBytes, GavePart}
use Rattle.q_outside.proofs.Chain.{took_both, gave_nothing}
use Rattle.http_message.specs.Bodied.{IsBodied, IsBody}
use Rattle.http_message.specs.Coded.{IsCoded}
use Rattle.http_message.specs.Coding.{Decoded, Broken}
use Rattle.http_message.specs.Framing.{expects_continue}
use Rattle.http_message.specs.Headed.{BeginsFramed, BeginsBad, HasNoHead}
use Rattle.http_message.specs.Input.{NoMoreBytes, IsIdle}
use Rattle.http_message.specs.Item.{Item, request, unframed, continues, is_head_request, IsFramed, sized, chunked, broken, framed, IsCut, IsOpen, no_text, cut_short}
use Rattle.http_message.specs.Message.{Message, message_of, message_in}
use Rattle.http_message.specs.Next.{Waits}
use Rattle.http_message.specs.Room.{state_of}
use Rattle.http_message.specs.Incomplete.{taken_by}
use Rattle.http_message.specs.Taken.{RequestState, IsTaken, TakesItem, IsIncomplete, ContinueFails, WaitsForNone, continue_where, continue_text}
use Rattle.http_message.specs.Text.{Unfinished, beginning_of, empty_lines_before_head, is_blank}
use Rattle.http_message.specs.declared.coding.Coded.{Coded}
use Rattle.http_message.specs.declared.coding.Coded.TheVariants as coded
use Rattle.http_message.specs.declared.framing.Framing.TheVariants.{Sized, Chunked}
use Rattle.http_message.specs.declared.headed.Framed.{Framed as FramedHead}
use Rattle.http_message.specs.declared.refusal.FramingRefusal.{FramingRefusal}
use Rattle.http_message.specs.declared.incomplete.Incomplete.{Incomplete}
use Rattle.http_message.specs.declared.incomplete.Incomplete.TheVariants.{InputEnd, Truncated, ReadFault, WriteFault}
use Rattle.http_message.specs.declared.taken.Taken.{Taken}
use Rattle.http_message.proofs.EmptyLineLemmas.{text_not_blank}
use Rattle.http_message.proofs.CodingLemmas.{coding_within}
use Rattle.http_message.proofs.HeadLemmas.{message_at}
use Rattle.http_message.proofs.ItemLemmas.{item_behind, framed_continues}
use Rattle.http_message.specs.Limits.{body_limit}
use Rattle.http_message.proofs.SplitLemmas.{decoded_done, broken_done, open_no_item}

-- a body of a stated length that came whole, or is cut short
pub body_sized : (into rest bytes : List ℕ) (size : ℕ) → length into ≡ size → size ≤ body_limit → bytes ≡ into
    → IsBody (Sized size) (into ++ rest) (coded.Whole size size) bytes
body_sized into rest bytes size long small same =
    let P : List ℕ → Type 0 = λ xs.
    IsBodied (Sized size) (λ head. request (message_of head (take size (into ++ rest)))) size xs in (
      omega (arith, length-append into rest, long),
      subst P (sym same) (record {
        framed = λ head.
            let Q : List ℕ → Type 0 = λ body. IsFramed head (Sized size) into (request (message_of head body)) in
            subst Q (sym (take_at into rest size long)) (sized size into long);
        size_is = long;
        limit = omega (arith, small);
      }),
    )

pub cut_sized : (size wide : ℕ) → wide ≡ size → (bytes : List ℕ) → length bytes < wide → IsCut (Sized size) bytes
cut_sized size wide same bytes few = sized size bytes (omega (arith, few, same))

-- a chunked body
pub body_coded : (body : List ℕ) → length body ≡ body_limit → (answer : Coded) (bytes : List ℕ) → IsCoded body answer bytes
    → IsBody Chunked body answer bytes
body_coded body long (coded.Whole size used) bytes is = (
  omega (arith, is.0, long),
  record {
    framed = λ head. chunked bytes (take size body) is.1.decodes;
    size_is = omega (arith, is.1.total_is);
    limit = omega (arith, is.1.total_is, coding_within 0 0 bytes (Decoded (take size body)) is.1.decodes (decoded_done (take size body)) (omega arith));
  },
)
body_coded body long (coded.Broken refused used) bytes is = record {
  framed = λ head. broken bytes refused is.decodes;
  size_is = omega (arith, is.total_is);
  limit = omega (arith, is.total_is, coding_within 0 0 bytes (Broken refused) is.decodes (broken_done refused) (omega arith));
}

-- The bytes that were taken begin with a head that frames a body.
module _ (input got input' text : List ℕ) (spans : List HeaderSpan) (head : FramedHead)
    (first : BeginsFramed (input ++ got) input' text spans head) where
  -- bytes whose body is cut short are open
  pub open_framed : (bytes coded : List ℕ) → bytes ≡ first.first ++ coded → IsCut head.framing coded → IsOpen bytes head.expects_continue
  open_framed bytes coded splits cut =
      cut_short (take head.text text) coded first.head head.framing (ap beginning_of splits ∙ first.beginning coded)
      (ap (λ xs. drop (empty_lines_before_head xs) xs) splits ∙ first.behind coded) first.at.is first.framing_is cut first.expects_is

  -- nothing was taken, or no item is whole in the bytes that were held
  pub waits_body : (source middle last : End) (more : List ℕ) → IsIdle source middle got ⊎ (beginning_of input ≡ Unfinished)
      → IsIdle middle last more ⊎ IsCut head.framing input' → Waits source last input
  waits_body source middle last more (inr beginning) second = inr (false, no_text beginning refl)
  waits_body source middle last more (inl idle) (inl still) = inl (still.same ∙ idle.same)
  waits_body source middle last more (inl idle) (inr cut) =
      let splits : input ≡ first.first ++ input' =
      sym (append-nil input) ∙ ap (λ xs. input ++ xs) (sym idle.none) ∙ first.splits in
      inr (head.expects_continue, open_framed input input' splits cut)

-- The head: what was taken until it was there, or until no more came.
module _ (source middle : End) (input got : List ℕ) (offset : ℕ) (message : Message) (took : TookBytes source middle got) where
  -- an item without a body was taken
  pub takes_bad : (sink : End) (rest : List ℕ) (refused : FramingRefusal) (used behind : ℕ) (message' : Message)
      → BeginsBad (input ++ got) rest refused used → behind ≡ offset + used
      → TakesItem source middle sink sink (state_of input offset message) (state_of rest behind message') (unframed refused false false)
  takes_bad sink rest refused used behind message' bad offset_is = record {
    used = bad.first;
    uses = record {
      got = got;
      took = took;
      bytes = bad.splits;
      offset = omega (arith, bad.size_is, offset_is);
      limit = omega (arith, bad.size_is, bad.limit);
    };
    is = bad.is;
    some = omega (arith, bad.size_is, bad.some);
    gave = gave_nothing sink;
  }

  -- no head is complete
  incomplete_early : (sink : End) (blank : Bool) → beginning_of (input ++ got) ≡ Unfinished → is_blank (input ++ got) ≡ blank
      → IsIncomplete source middle sink sink (state_of input offset message) blank
  incomplete_early sink blank beginning is = record {
    got = got;
    took = took;
    expected = false;
    is_open = no_text beginning refl;
    gave = gave_nothing sink;
    blank_is = is;
  }

  pub stops_early : (sink : End) (buffer' : RequestState) (incomplete : Incomplete)
      → (beginning_of (input ++ got) ≡ Unfinished) × HasNoHead source middle (input ++ got) incomplete
      → IsTaken source middle sink sink (state_of input offset message) buffer' (taken_by incomplete)
  stops_early sink buffer' InputEnd why = (why.1.0, incomplete_early sink true why.0 why.1.1)
  stops_early sink buffer' Truncated why = (why.1.0, incomplete_early sink false why.0 why.1.1)
  stops_early sink buffer' ReadFault why = (why.1, (is_blank (input ++ got), incomplete_early sink (is_blank (input ++ got)) why.0 refl))
  stops_early sink buffer' WriteFault why = absurd why.1

  -- A head that frames a body was taken.
  module _ (sink sink' : End) (input' text : List ℕ) (spans : List HeaderSpan) (head : FramedHead)
      (first : BeginsFramed (input ++ got) input' text spans head) where
    -- the sink failed inside `100 Continue`
    pub continue_fails : head.expects_continue ≡ true → GavePart sink sink' continue_text
        → ContinueFails source middle sink sink' (state_of input offset message)
    continue_fails expected gave = record {
      got = got;
      took = took;
      expected = record {
        text = take head.text text;
        head = first.head;
        framing = head.framing;
        beginning = ap beginning_of first.splits ∙ first.beginning input';
        is = first.at.is;
        framed = first.framing_is;
        expected = sym first.expects_is ∙ expected;
      };
      gave = gave;
    }

    -- the bytes with those that were taken then
    splits_more : (more : List ℕ) → input ++ (got ++ more) ≡ first.first ++ (input' ++ more)
    splits_more more =
        sym (append_assoc input got more) ∙ ap (λ xs. xs ++ more) first.splits ∙ append_assoc first.first input' more

    -- The body: what was taken until it was there, or until no more came.
    module _ (last : End) (more : List ℕ) (took_more : TookBytes middle last more)
        (gave : GaveBytes sink sink' (continue_where head.expects_continue)) where
      -- an item with its body was taken
      takes_framed : (rest bytes : List ℕ) (used behind : ℕ) (item : RequestHead → Item) (message' : Message)
          → input' ++ more ≡ bytes ++ rest → IsBodied head.framing item used bytes → behind ≡ offset + head.used + used
          → TakesItem source last sink sink' (state_of input offset message) (state_of rest behind message') (item first.head)
      takes_framed rest bytes used behind item message' splits body offset_is =
          let framing = body.framed first.head in
          let expected : continues (item first.head) ≡ head.expects_continue =
          framed_continues first.head head.framing bytes (item first.head) first.framing_is framing ∙ sym first.expects_is in
          let long : length (first.first ++ bytes) ≡ head.used + used =
          omega (arith, length-append first.first bytes, first.size_is, body.size_is) in
          record {
            used = first.first ++ bytes;
            uses = record {
              got = got ++ more;
              took = took_both source middle last got more took took_more;
              bytes = splits_more more ∙ ap (λ xs. first.first ++ xs) splits ∙ sym (append_assoc first.first bytes rest);
              offset = omega (arith, long, offset_is);
              limit = omega (arith, long, first.limit, body.limit);
            };
            is = item_behind first.first (take head.text text) bytes (item first.head)
                (record { beginning = first.beginning; behind = first.behind })
                (framed first.head head.framing first.at.is first.framing_is framing);
            some = omega (arith, long, first.some);
            gave = let P : Bool → Type 0 = λ b. GaveBytes sink sink' (continue_where b) in subst P (sym expected) gave;
          }

      -- the last request is the one that was taken
      pub takes_request : (rest body bytes : List ℕ) (size used behind : ℕ)
          → input' ++ more ≡ bytes ++ rest → IsBody head.framing body (coded.Whole size used) bytes
          → behind ≡ offset + head.used + used
          → TakesItem source last sink sink' (state_of input offset message)
          (state_of rest behind (message_in (take head.text text) spans head.parts (take size body)))
          (request (message_in (take head.text text) spans head.parts (take size body)))
      takes_request rest body bytes size used behind splits is offset_is =
          let last_request = message_in (take head.text text) spans head.parts (take size body) in
          let same : message_of first.head (take size body) ≡ last_request =
          sym (message_at (take head.text text) spans head.parts first.head (take size body) first.at) in
          let P : Message → Type 0 = λ m.
          TakesItem source last sink sink' (state_of input offset message) (state_of rest behind last_request) (request m) in
          subst P same
          (takes_framed rest bytes used behind (λ h. request (message_of h (take size body))) last_request splits is.1 offset_is)

      -- a request was taken whose coding is refused
      pub takes_broken : (rest body bytes : List ℕ) (refused : FramingRefusal) (used behind : ℕ) (message' : Message)
          → input' ++ more ≡ bytes ++ rest → IsBody head.framing body (coded.Broken refused used) bytes
          → behind ≡ offset + head.used + used
          → TakesItem source last sink sink' (state_of input offset message) (state_of rest behind message')
          (unframed refused head.expects_continue head.is_head_request)
      takes_broken rest body bytes refused used behind message' splits is offset_is =
          rw (first.expects_is, first.head_is)
          (takes_framed rest bytes used behind (λ h. unframed refused (expects_continue h head.framing) (is_head_request h)) message' splits is offset_is)

      -- a body is cut short
      incomplete_late : IsCut head.framing (input' ++ more) → IsIncomplete source last sink sink' (state_of input offset message) false
      incomplete_late cut =
          let all = input ++ (got ++ more) in
          let beginning = ap beginning_of (splits_more more) ∙ first.beginning (input' ++ more) in
          record {
            got = got ++ more;
            took = took_both source middle last got more took took_more;
            expected = head.expects_continue;
            is_open = open_framed input got input' text spans head first all (input' ++ more) (splits_more more) cut;
            gave = gave;
            blank_is = text_not_blank all (take head.text text) beginning;
          }

      pub stops_late : (buffer' : RequestState) (incomplete : Incomplete) → IsCut head.framing (input' ++ more) × NoMoreBytes middle last incomplete
          → IsTaken source last sink sink' (state_of input offset message) buffer' (taken_by incomplete)
      stops_late buffer' InputEnd why = absurd why.1
      stops_late buffer' Truncated why = (why.1, incomplete_late why.0)
      stops_late buffer' ReadFault why = (omega (arith, took.count, why.1), (false, incomplete_late why.0))
      stops_late buffer' WriteFault why = absurd why.1

-- no head was there yet, or nothing was taken
pub waits_head : (source last : End) (input got : List ℕ) → IsIdle source last got ⊎ (beginning_of input ≡ Unfinished)
    → Waits source last input
waits_head source last input got (inl idle) = inl idle.same
waits_head source last input got (inr beginning) = inr (false, no_text beginning refl)

-- where the bytes that are held begin with a whole item, nothing is taken
pub waits_for_none : (source last : End) (seen held : List ℕ) → seen ≡ held → Waits source last seen → WaitsForNone source last held
waits_for_none source last seen held same (inl idle) piece rest item is splits = idle
waits_for_none source last seen held same (inr waits) piece rest item is splits =
    let P : List ℕ → Type 0 = λ bytes. IsOpen bytes waits.0 in
    absurd (open_no_item piece rest item waits.0 is (subst P (same ∙ splits) waits.1))

-- the same for buffers with an equal view
pub taken_seen : (source source' sink sink' : End) (seen buffer buffer' : RequestState) (answer : Taken)
    → seen ≡ buffer → IsTaken source source' sink sink' seen buffer' answer → IsTaken source source' sink sink' buffer buffer' answer
taken_seen source source' sink sink' seen buffer buffer' answer same is =
    let P : RequestState → Type 0 = λ r. IsTaken source source' sink sink' r buffer' answer in subst P same is

-- where no item is taken, nothing is claimed of the buffers after the call
pub taken_incomplete : (source source' sink sink' : End) (buffer buffer' other : RequestState) (incomplete : Incomplete)
    → IsTaken source source' sink sink' buffer buffer' (taken_by incomplete) → IsTaken source source' sink sink' buffer other (taken_by incomplete)
taken_incomplete source source' sink sink' buffer buffer' other InputEnd is = is
taken_incomplete source source' sink sink' buffer buffer' other Truncated is = is
taken_incomplete source source' sink sink' buffer buffer' other ReadFault is = is
taken_incomplete source source' sink sink' buffer buffer' other WriteFault is = is
