-- The bytes that the server prints are the reply that the client reads.
use Rattle.std.proofs.Common.{◌≡◌, ◌⊎◌, ℕ, ◌<◌, List, [], ◌++◌, length, take, drop, get_or, map, refl, sym, ◌∙◌, ap, subst, arith, inl, inr, append_assoc}
use Rattle.std.proofs.lemmas.Bool.{cases_lt}
use Rattle.std.proofs.lemmas.List.{append-nil, length-append, length-map, take-append-le, take_at, drop_at}
use Rattle.std.specs.Prelude.{Option, Some, Result, Ok, Err}
use Rattle.q_outside.specs.Ends.{End, IsEnded, Takes}
use Rattle.httparse.specs.Grammar.{ReadsResponse, print_response, status_code}
use Rattle.httparse.specs.Spans.{name_and_value}
use Rattle.httparse.proofs.GrammarLemmas.{response_unique}
use Rattle.http_message.specs.Fields.{Pair}
use Rattle.http_message.specs.Text.{BareCr, Text, TooLarge, Unfinished, beginning_of}
use Rattle.http_front.specs.Date.{IsDateOf}
use Rattle.http_front.specs.ReadBack.{IsRead, ReadsBack}
use Rattle.http_front.specs.Reply.{head_fields, head_text, status_line}
use Rattle.http_front.specs.declared.head.Head.{Head}
use Rattle.client_model.specs.declared.reply.Reply.{Reply}
use Rattle.client_wire.specs.ReplyFields.{parts_of, verdict_of}
use Rattle.client_wire.specs.ReplyHead.{IsReplyHead}
use Rattle.client_wire.specs.Taking.{IsAccepted, IsFront, IsRefused, IsRefusedWhole, IsUnfinished, TakesReply, TookReply, TookSuch, lacks_of, reply_with}
use Rattle.client_wire.specs.declared.judge.Verdict.{Verdict}
use Rattle.client_wire.specs.declared.judge.Verdict.TheVariants.{RefusedAt, Unsized, Sized}
use Rattle.client_wire.specs.declared.parts.ReplyParts.{ReplyParts}
use Rattle.client_wire.specs.declared.refusal.Lacks.{Lacks}
use Rattle.client_wire.specs.declared.refusal.WireRefusal.{WireRefusal}
use Rattle.client_wire.specs.declared.refusal.WireRefusal.TheVariants as wire
use Rattle.wire_law.specs.Printed.{HeadIsTaken, IsReplyRead, PartIsTruncated, ReplyIsRead, printed_head, printed_parts}
use Rattle.wire_law.proofs.LineLemmas.{BeginsBy, text_begins, whole_response}
use Rattle.wire_law.proofs.PartLemmas.{IsInWidth, fields_read}
use Rattle.wire_law.proofs.SizeLemmas.{head_short}
use Rattle.wire_law.proofs.ValueLemmas.{date_length}

-- ---- the head

first_letter : (status : ℕ) (fields : List Pair) → get_or (head_text status fields) 0 0 ≡ 72
unfolding head_text status_line
first_letter status fields = refl

-- the text of a head shows itself, by its last byte and no earlier
printed_begins : (h : Head) (seconds : ℕ) (date : List ℕ) → ReadsBack h → h.status < 1000 → IsInWidth h → IsDateOf seconds date → BeginsBy (printed_head h date)
printed_begins h seconds date reads_back low width dated =
    let read : IsRead (printed_head h date ++ []) h.status (head_fields h date) [] = reads_back seconds date [] dated in
    let text_is : printed_head h date ≡ print_response read.head ++ [] = sym (append-nil (printed_head h date)) ∙ read.reads.1 in
    let first = first_letter h.status (head_fields h date) in
    let short = (head_short h date low width (date_length seconds date dated)).0 in
    text_begins (printed_head h date) first short (whole_response read.head (printed_head h date) read.reads.0 text_is first)

front_by : (text : List ℕ) → BeginsBy text → IsFront text
front_by text begins =
    let whole : beginning_of text ≡ Text text = ap beginning_of (sym (append-nil text)) ∙ begins.shown [] in
    record {
      shown = λ unfinished. let clash : Text text ≡ Unfinished = sym whole ∙ unfinished in cc;
      fewer = begins.open_before;
    }

pub head_taken : (h : Head) → ReadsBack h → h.status < 1000 → IsInWidth h → HeadIsTaken h
head_taken h reads_back low width seconds date size p =
    let text = printed_head h date in
    let begins = printed_begins h seconds date reads_back low width p.dated in
    let read : IsRead (text ++ []) h.status (head_fields h date) [] = reads_back seconds date [] p.dated in
    let back = fields_read h width seconds date size p in
    let count : length read.head.fields ≡ length (head_fields h date) = sym (length-map read.head.fields name_and_value) ∙ ap length read.fields_are in
    let few = (head_short h date low width (date_length seconds date p.dated)).1 in
    record {
      is_front = front_by text begins;
      text = text;
      begins = ap beginning_of (sym (append-nil text)) ∙ begins.shown [];
      status = h.status;
      fields = head_fields h date;
      head = record {
        head = read.head;
        reads = subst (λ (bytes : List ℕ). ReadsResponse bytes read.head []) (append-nil text) read.reads;
        few = omega (arith, count, few);
        status_is = read.status_is;
        fields_are = read.fields_are;
      };
      verdict_is = back.verdict_is text;
      parts_are = sym back.parts_are;
    }

-- ---- one reading

-- the shorter of two fronts of the same bytes is the longer one
no_shorter : (a b r q : List ℕ) → IsFront a → IsFront b → a ++ r ≡ b ++ q → length a < length b → ⊥
no_shorter a b r q first second same less =
    let cut : take (length a) b ≡ a =
    sym (take-append-le (length a) b q (omega (arith, less))) ∙ ap (take (length a)) (sym same) ∙ take_at a r (length a) refl in
    first.shown (ap beginning_of (sym cut) ∙ second.fewer (length a) less)

one_front : (a b r q : List ℕ) → IsFront a → IsFront b → a ++ r ≡ b ++ q → a ≡ b
one_front a b r q first second same =
    elim (cases_lt (length a) (length b)) [
      | inl less ↦ absurd (no_shorter a b r q first second same less)
      | inr least ↦ elim (cases_lt (length b) (length a)) [
        | inl less ↦ absurd (no_shorter b a q r second first (sym same) less)
        | inr most ↦
            let size : length b ≡ length a = omega (arith, least, most) in
            sym (take_at a r (length a) refl) ∙ ap (take (length a)) same ∙ take_at b q (length a) size
      ]
    ]

-- what follows it
one_rest : (a b r q : List ℕ) → a ≡ b → a ++ r ≡ b ++ q → r ≡ q
one_rest a b r q front same =
    sym (drop_at a r (length a) refl) ∙ ap (drop (length a)) same ∙ drop_at b q (length a) (ap length (sym front))

-- a text is the head of one reply alone
one_head : (text other : List ℕ) (status status' : ℕ) (fields fields' : List Pair) → text ≡ other
    → IsReplyHead text status fields → IsReplyHead other status' fields' → (status ≡ status') × (fields ≡ fields')
one_head text other status status' fields fields' same a b =
    let reads : ReadsResponse text b.head [] = subst (λ (bytes : List ℕ). ReadsResponse bytes b.head []) (sym same) b.reads in
    let head = (response_unique text a.head b.head [] [] a.reads reads).0 in (
      sym a.status_is ∙ ap status_code head ∙ b.status_is,
      sym a.fields_are ∙ ap (λ h. map name_and_value h.fields) head ∙ b.fields_are,
    )

-- what the bytes of a front show
one_text : (front other text text' : List ℕ) → front ≡ other → beginning_of front ≡ Text text → beginning_of other ≡ Text text' → text ≡ text'
one_text front other text text' same a b =
    let e : Text text ≡ Text text' = sym a ∙ ap beginning_of same ∙ b in cc

one_verdict : (text other : List ℕ) (status status' : ℕ) (fields fields' : List Pair) → text ≡ other
    → IsReplyHead text status fields → IsReplyHead other status' fields' → verdict_of text status fields ≡ verdict_of other status' fields'
one_verdict text other status status' fields fields' same a b =
    let head = one_head text other status status' fields fields' same a b in
    ap (λ (t : List ℕ). verdict_of t status fields) same ∙ ap (λ (s : ℕ). verdict_of other s fields) head.0 ∙ ap (verdict_of other status') head.1

module _ {front : List ℕ} {parts : ReplyParts} {size : ℕ} (a : IsAccepted front parts size) where
  -- a head is taken in one way
  one_accepted : (other : List ℕ) (parts' : ReplyParts) (size' : ℕ) → IsAccepted other parts' size' → front ≡ other → (parts ≡ parts') × (size ≡ size')
  one_accepted other parts' size' b same =
      let text = one_text front other a.text b.text same a.begins b.begins in
      let head = one_head a.text b.text a.status b.status a.fields b.fields text a.head b.head in
      let verdict : ◌≡◌ {A = Verdict} (Sized size) (Sized size') =
      sym a.verdict_is ∙ one_verdict a.text b.text a.status b.status a.fields b.fields text a.head b.head ∙ b.verdict_is in (
        a.parts_are ∙ ap (λ (s : ℕ). parts_of s a.fields) head.0 ∙ ap (parts_of b.status) head.1 ∙ sym b.parts_are,
        cc,
      )

  -- and is not refused
  not_refused_whole : (other : List ℕ) → front ≡ other → IsRefusedWhole other → ⊥
  not_refused_whole other same (inl (inl bare)) = let e : Text a.text ≡ BareCr = sym a.begins ∙ ap beginning_of same ∙ bare in cc
  not_refused_whole other same (inl (inr large)) = let e : Text a.text ≡ TooLarge = sym a.begins ∙ ap beginning_of same ∙ large in cc
  not_refused_whole other same (inr (inl b)) =
      b.none.none a.status a.fields
      (subst (λ (t : List ℕ). IsReplyHead t a.status a.fields) (one_text front other a.text b.text same a.begins b.begins) a.head)
  not_refused_whole other same (inr (inr b)) =
      let text = one_text front other a.text b.text same a.begins b.begins in
      let e : ◌≡◌ {A = Verdict} (Sized size) Unsized =
      sym a.verdict_is ∙ one_verdict a.text b.text a.status b.status a.fields b.fields text a.head b.head ∙ b.verdict_is in
      cc

  not_refused : (other : List ℕ) (place : ℕ) → front ≡ other → IsRefused other place → ⊥
  not_refused other place same (is_front, inl whole) = not_refused_whole other same whole.0
  not_refused other place same (is_front, inr b) =
      let text = one_text front other a.text b.text same a.begins b.begins in
      let e : ◌≡◌ {A = Verdict} (Sized size) (RefusedAt b.at) =
      sym a.verdict_is ∙ one_verdict a.text b.text a.status b.status a.fields b.fields text a.head b.head ∙ b.verdict_is in
      cc

-- ---- the reply

-- bytes that were taken of those that a source shows
took_of : (before : Option (List ℕ)) (after : Option (List ℕ)) (left got : List ℕ) → before ≡ Some left → Takes before after got
    → (rest : List ℕ) × (after ≡ Some rest) × (left ≡ got ++ rest)
took_of before after left got shown took = subst (λ (o : Option (List ℕ)). Takes o after got) shown took

module _ (h : Head) (seconds : ℕ) (date body rest : List ℕ) (source source' : End)
    (accepted : IsAccepted (printed_head h date) (printed_parts h seconds) (length body)) (begins : BeginsBy (printed_head h date))
    (shown : source.bytes ≡ Some (printed_head h date ++ (body ++ rest))) where
  whole_read : (reply : Reply) (lacks : Lacks) → TookReply source source' reply lacks → IsReplyRead h seconds body rest source' (Ok (reply, lacks))
  whole_read reply lacks t =
      let bytes = printed_head h date ++ (body ++ rest) in
      let took = took_of source.bytes source'.bytes bytes (t.front ++ t.body) shown t.took.taken in
      let split : printed_head h date ++ (body ++ rest) ≡ t.front ++ (t.body ++ took.0) = took.2 ∙ append_assoc t.front t.body took.0 in
      let front : printed_head h date ≡ t.front = one_front (printed_head h date) t.front (body ++ rest) (t.body ++ took.0) accepted.is_front t.accepted.is_front split in
      let behind : body ++ rest ≡ t.body ++ took.0 = one_rest (printed_head h date) t.front (body ++ rest) (t.body ++ took.0) front split in
      let same = one_accepted accepted t.front t.parts (length t.body) t.accepted front in
      let body_is : body ≡ t.body =
      sym (take_at body rest (length body) refl) ∙ ap (take (length body)) behind ∙ take_at t.body took.0 (length body) (sym same.1) in
      let rest_is : rest ≡ took.0 = one_rest body t.body rest took.0 body_is behind in
      let reply_is : reply ≡ reply_with (printed_parts h seconds) body =
      t.reply_is ∙ ap (λ (b : List ℕ). reply_with t.parts b) (sym body_is) ∙ ap (λ (p : ReplyParts). reply_with p body) (sym same.0) in
      let lacks_is : lacks ≡ lacks_of (printed_parts h seconds) = t.lacks_is ∙ ap lacks_of (sym same.0) in
      record {
        reply_is = λ i. Ok (reply_is i, lacks_is i);
        left = took.1 ∙ ap Some (sym rest_is);
      }

  no_bad : (place : ℕ) → TookSuch source source' (λ got. IsRefused got place) → ⊥
  no_bad place t =
      let took = took_of source.bytes source'.bytes (printed_head h date ++ (body ++ rest)) t.got shown t.took.taken in
      let front : printed_head h date ≡ t.got = one_front (printed_head h date) t.got (body ++ rest) took.0 accepted.is_front t.says.0 took.2 in
      not_refused accepted t.got place front t.says

  no_short : (got : List ℕ) → printed_head h date ++ (body ++ rest) ≡ got → IsUnfinished got → ⊥
  no_short got same (inl unfinished) =
      let e : Text (printed_head h date) ≡ Unfinished = sym (begins.shown (body ++ rest)) ∙ ap beginning_of same ∙ unfinished in cc
  no_short got same (inr s) =
      let split : printed_head h date ++ (body ++ rest) ≡ s.front ++ s.part = same ∙ s.bytes_are in
      let front : printed_head h date ≡ s.front = one_front (printed_head h date) s.front (body ++ rest) s.part accepted.is_front s.accepted.is_front split in
      let behind : body ++ rest ≡ s.part = one_rest (printed_head h date) s.front (body ++ rest) s.part front split in
      let size = (one_accepted accepted s.front s.parts s.size s.accepted front).1 in
      absurd (omega (arith, size, s.short, ap length behind, length-append body rest))

  no_truncated : (taken : ℕ) → TookSuch source source' (λ got. IsUnfinished got × (taken ≡ length got)) → IsEnded source'.bytes → ⊥
  no_truncated taken t ended =
      let bytes = printed_head h date ++ (body ++ rest) in
      let took = took_of source.bytes source'.bytes bytes t.got shown t.took.taken in
      let nothing : took.0 ≡ [] = subst IsEnded took.1 ended in
      no_short t.got (took.2 ∙ ap (λ (r : List ℕ). t.got ++ r) nothing ∙ append-nil t.got) t.says.0

  reply_by : (result : Result (Reply × Lacks) WireRefusal) → source'.faults ≡ source.faults → TakesReply source source' result
      → (result ≡ Err wire.Memory) ⊎ IsReplyRead h seconds body rest source' result
  reply_by (Ok (reply, lacks)) none t = inr (whole_read reply lacks t)
  reply_by (Err (wire.BadReply place)) none t = absurd (no_bad place t)
  reply_by (Err (wire.Truncated taken)) none t = absurd (no_truncated taken t.0 t.1)
  reply_by (Err wire.ReadFault) none t = absurd (omega (arith, none, t.1))
  reply_by (Err wire.Memory) none t = inl refl

pub reply_read : (h : Head) → ReadsBack h → h.status < 1000 → IsInWidth h → ReplyIsRead h
reply_read h reads_back low width seconds date body rest source source' result p shown none t =
    reply_by h seconds date body rest source source' (head_taken h reads_back low width seconds date (length body) p)
    (printed_begins h seconds date reads_back low width p.dated) shown result none t

-- ---- a part of a reply

module _ (h : Head) (seconds : ℕ) (date body part more : List ℕ) (source source' : End)
    (accepted : IsAccepted (printed_head h date) (printed_parts h seconds) (length body))
    (whole : part ++ more ≡ printed_head h date ++ body) (some : 0 < length more) (shown : source.bytes ≡ Some part) where
  no_reply : (reply : Reply) (lacks : Lacks) → TookReply source source' reply lacks → ⊥
  no_reply reply lacks t =
      let took = took_of source.bytes source'.bytes part (t.front ++ t.body) shown t.took.taken in
      let split : printed_head h date ++ body ≡ t.front ++ (t.body ++ (took.0 ++ more)) =
      sym whole ∙ ap (λ (bytes : List ℕ). bytes ++ more) took.2 ∙ append_assoc (t.front ++ t.body) took.0 more
      ∙ append_assoc t.front t.body (took.0 ++ more) in
      let front : printed_head h date ≡ t.front =
      one_front (printed_head h date) t.front body (t.body ++ (took.0 ++ more)) accepted.is_front t.accepted.is_front split in
      let behind : body ≡ t.body ++ (took.0 ++ more) = one_rest (printed_head h date) t.front body (t.body ++ (took.0 ++ more)) front split in
      let size = (one_accepted accepted t.front t.parts (length t.body) t.accepted front).1 in
      omega (arith, some, size, ap length behind, length-append t.body (took.0 ++ more), length-append took.0 more)

  no_bad_part : (place : ℕ) → TookSuch source source' (λ got. IsRefused got place) → ⊥
  no_bad_part place t =
      let took = took_of source.bytes source'.bytes part t.got shown t.took.taken in
      let split : printed_head h date ++ body ≡ t.got ++ (took.0 ++ more) =
      sym whole ∙ ap (λ (bytes : List ℕ). bytes ++ more) took.2 ∙ append_assoc t.got took.0 more in
      let front : printed_head h date ≡ t.got =
      one_front (printed_head h date) t.got body (took.0 ++ more) accepted.is_front t.says.0 split in
      not_refused accepted t.got place front t.says

  all_taken : (taken : ℕ) → TookSuch source source' (λ got. IsUnfinished got × (taken ≡ length got)) → IsEnded source'.bytes → taken ≡ length part
  all_taken taken t ended =
      let took = took_of source.bytes source'.bytes part t.got shown t.took.taken in
      let nothing : took.0 ≡ [] = subst IsEnded took.1 ended in
      let all : part ≡ t.got = took.2 ∙ ap (λ (r : List ℕ). t.got ++ r) nothing ∙ append-nil t.got in
      t.says.1 ∙ ap length (sym all)

  part_by : (result : Result (Reply × Lacks) WireRefusal) → source'.faults ≡ source.faults → TakesReply source source' result
      → (result ≡ Err wire.Memory) ⊎ (result ≡ Err (wire.Truncated (length part)))
  part_by (Ok (reply, lacks)) none t = absurd (no_reply reply lacks t)
  part_by (Err (wire.BadReply place)) none t = absurd (no_bad_part place t)
  part_by (Err (wire.Truncated taken)) none t = inr (ap (λ (n : ℕ). Err (wire.Truncated n)) (all_taken taken t.0 t.1))
  part_by (Err wire.ReadFault) none t = absurd (omega (arith, none, t.1))
  part_by (Err wire.Memory) none t = inl refl

pub part_truncated : (h : Head) → ReadsBack h → h.status < 1000 → IsInWidth h → PartIsTruncated h
part_truncated h reads_back low width seconds date body part more source source' result p whole some shown none t =
    part_by h seconds date body part more source source' (head_taken h reads_back low width seconds date (length body) p)
    whole some shown result none t
