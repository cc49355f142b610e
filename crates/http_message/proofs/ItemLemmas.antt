-- From the first bytes of a stream to the item that they are.
use Rattle.std.proofs.Common.{◌≡◌, ◌⊎◌, ℕ, ◌+◌, ◌-◌, ◌<◌, ◌≤◌, List, [], ◌∷◌, ◌++◌, length, map, take, drop, Bool, true, false, nat_lt, nat_le, nat_eq, refl, sym, ◌∙◌, ap, subst, arith, lit≤, inl, inr}
use Rattle.std.specs.Prelude.{Result, Ok, Err, codes}
use Rattle.std.specs.Str.Parse.{digits_value}
use Rattle.std.specs.Str.{str_eq_ignore_ascii_case}
use Rattle.std.proofs.lemmas.Bool.{cases_Bool, leb-true, lt-ltb}
use Rattle.std.proofs.lemmas.List.{append-nil, drop-take, drop-append-le, take-append-drop, length-take-le, length-drop, length-append, take_at}
use Rattle.httparse.specs.Grammar.{RequestHead}
use Rattle.httparse.specs.Spans.{name_and_value}
use Rattle.httparse.specs.declared.spans.HeaderSpan.{HeaderSpan}
use Rattle.http_message.specs.Fields.{values}
use Rattle.q_outside.specs.Ends.{End}
use Rattle.http_message.specs.HeadFound.{IsBareCrAt, IsTextAt, IsTooLarge, IsUnread}
use Rattle.http_message.specs.Framing.{framing_of, framing_by, framing_by_length, framing_by_codings, is_length, expects_continue}
use Rattle.http_message.specs.Head.{IsNoHead}
use Rattle.http_message.specs.Headed.{FitsBuffer, BeginsFramed, BeginsBad, IsHeadOf, HasNoHead, Heads}
use Rattle.http_message.specs.Input.{NoMoreBytes, IsIdle, Grows}
use Rattle.http_message.specs.Item.{Item, request, unframed, continues, IsFramed, sized, chunked, broken, IsItemOf, no_head, bad_head, IsItemBy, IsItem}
use Rattle.http_message.specs.Judged.{IsRefusedHead, IsFramedHead}
use Rattle.http_message.specs.Incomplete.{before_head}
use Rattle.http_message.specs.Text.{Beginning, BareCr, Text, TooLarge, Unfinished, beginning_of, empty_lines_before_head, is_blank}
use Rattle.http_message.specs.declared.framing.Framing.{Framing}
use Rattle.http_message.specs.declared.framing.Framing.TheVariants.{Sized, Chunked}
use Rattle.http_message.specs.declared.headed.Headed.{Headed}
use Rattle.http_message.specs.declared.headed.Headed.TheVariants.{Bad}
use Rattle.http_message.specs.declared.refusal.FramingRefusal.{FramingRefusal}
use Rattle.http_message.specs.declared.refusal.FramingRefusal.TheVariants.{BadHead, HeadTooLarge}
use Rattle.http_message.specs.declared.judge.Judged.{Judged}
use Rattle.http_message.specs.declared.incomplete.Incomplete.{Incomplete}
use Rattle.http_message.specs.declared.incomplete.Incomplete.TheVariants.{InputEnd, Truncated, ReadFault, WriteFault}
use Rattle.http_message.specs.Limits.{head_limit, most_fields, body_limit}
use Rattle.http_message.proofs.BeginningLemmas.{settled_text, settled_bare_cr, settled_large, settles_take}

-- the empty lines and the text of a head decide what the stream begins with, whatever follows them
pub record Beginnings (first text : List ℕ) : Type 0 where
  pub beginning : (more : List ℕ) → beginning_of (first ++ more) ≡ Text text
  pub behind : (more : List ℕ) → drop (empty_lines_before_head (first ++ more)) (first ++ more) ≡ text ++ more

-- the text of a head, with what it frames behind it
pub item_behind : (first text coded : List ℕ) (item : Item) → Beginnings first text → IsItemOf text coded item
    → IsItem (first ++ coded) item
item_behind first text coded item beginnings is =
    let P : Beginning → Type 0 = λ beginning. IsItemBy beginning (first ++ coded) item in
    record { is = subst P (sym (beginnings.beginning coded)) (coded, beginnings.behind coded, is) }

-- a bare CR, and a window without a head
pub item_bare_cr : (held : List ℕ) (empty_lines : ℕ) → IsBareCrAt held empty_lines
    → IsItem (take (empty_lines + 2) held) (unframed BadHead false false)
item_bare_cr held empty_lines at =
    let enough : empty_lines_before_head held + 2 ≤ empty_lines + 2 = omega (arith, at.empty_lines_is) in
    let cut = settles_take held (empty_lines_before_head held + 2) (empty_lines + 2) BareCr enough (settled_bare_cr held at.beginning) in
    let P : Beginning → Type 0 = λ beginning. IsItemBy beginning (take (empty_lines + 2) held) (unframed BadHead false false) in
    let size : length (take (empty_lines + 2) held) ≡ empty_lines_before_head (take (empty_lines + 2) held) + 2 =
    omega (arith, length-take-le (empty_lines + 2) held at.within, cut.1, at.empty_lines_is) in
    record { is = subst P (sym cut.0) (size, refl) }

pub item_large : (held : List ℕ) → IsTooLarge held → IsItem (take head_limit held) (unframed HeadTooLarge false false)
item_large held at =
    let cut = settles_take held head_limit head_limit TooLarge (lit≤ tt) (settled_large held at.beginning) in
    let P : Beginning → Type 0 = λ beginning. IsItemBy beginning (take head_limit held) (unframed HeadTooLarge false false) in
    record { is = subst P (sym cut.0) (length-take-le head_limit held at.full, refl) }

-- the first bytes are dropped, as an item that has no body
pub bad_first : (held rest : List ℕ) (refused : FramingRefusal) (used : ℕ) → IsItem (take used held) (unframed refused false false)
    → rest ≡ drop used held → 0 < used → used ≤ head_limit → used ≤ length held → BeginsBad held rest refused used
bad_first held rest refused used is rest_is some limit within = record {
  first = take used held;
  splits = sym (take-append-drop used held) ∙ ap (λ xs. take used held ++ xs) (sym rest_is);
  is = is;
  size_is = length-take-le used held within;
  some = some;
  limit = limit;
}

pub headed_bad : (all rest text : List ℕ) (spans : List HeaderSpan) (headed : Headed)
    (refused : FramingRefusal) (used : ℕ) → headed ≡ Bad refused used → BeginsBad all rest refused used
    → IsHeadOf all rest text spans headed
headed_bad all rest text spans headed refused used is bad =
    let P : Headed → Type 0 = λ answer. IsHeadOf all rest text spans answer in subst P (sym is) bad

-- how the values of two fields frame a body, and what follows
pub length_capacity : (text : List ℕ) (framing : Framing) → framing_by_length text ≡ Ok framing
    → (size : ℕ) × (framing ≡ Sized size) × (size ≤ body_limit)
length_capacity text framing is =
    elim (cases_Bool (is_length text)) [
      | inl digits ↦ elim (cases_Bool (nat_le (digits_value 10 text) body_limit)) [
        | inl small ↦
            let e : ◌≡◌ {A = Result Framing FramingRefusal} (Ok (Sized (digits_value 10 text))) (Ok framing) = rw (digits, small) at is in
            (digits_value 10 text, cc, leb-true (digits_value 10 text) body_limit small)
        | inr great ↦ let e = rw (digits, great) at is in absurd (cc)
      ]
      | inr other ↦ let e = rw other at is in absurd (cc)
    ]

pub codings_fits : (coding : List ℕ) (codings : List (List ℕ)) (framing : Framing)
    → framing_by_codings coding codings ≡ Ok framing → framing ≡ Chunked
codings_fits coding [] framing is =
    elim (cases_Bool (str_eq_ignore_ascii_case coding (codes "chunked"))) [
      | inl same ↦ let e : ◌≡◌ {A = Result Framing FramingRefusal} (Ok Chunked) (Ok framing) = rw same at is in cc
      | inr other ↦ let e = rw other at is in absurd (cc)
    ]
codings_fits coding (other ∷ codings) framing is = absurd (cc)

-- a body of a stated length has no coding, and the other has one
abbrev pub Frames : Framing → List (List ℕ) → Type 0
Frames (Sized size) codings = (size ≤ body_limit) × (nat_lt 0 (length codings) ≡ false)
Frames Chunked codings = nat_lt 0 (length codings) ≡ true

pub frames_by : (minor : ℕ) (lengths codings : List (List ℕ)) (framing : Framing)
    → framing_by minor lengths codings ≡ Ok framing → Frames framing codings
frames_by minor [] [] framing is =
    let e : Sized 0 ≡ framing = cc in
    let P : Framing → Type 0 = λ f. Frames f [] in
    subst P e (omega arith, refl)
frames_by minor (text ∷ []) [] framing is =
    let (size, e, small) = length_capacity text framing is in
    let P : Framing → Type 0 = λ f. Frames f [] in
    subst P (sym e) (small, refl)
frames_by minor (text ∷ other ∷ texts) [] framing is = absurd (cc)
frames_by minor [] (coding ∷ codings) framing is =
    elim (cases_Bool (nat_eq minor 0)) [
      | inl old ↦ let e = rw old at is in absurd (cc)
      | inr new ↦
          let e : framing ≡ Chunked = codings_fits coding codings framing (rw new at is) in
          let P : Framing → Type 0 = λ f. Frames f (coding ∷ codings) in
          subst P (sym e) (lt-ltb 0 (length (coding ∷ codings)) (omega arith))
    ]
frames_by minor (text ∷ texts) (coding ∷ codings) framing is = absurd (cc)

pub frames : (head : RequestHead) (framing : Framing) → framing_of head ≡ Ok framing
    → Frames framing (values (codes "transfer-encoding") (map name_and_value head.fields))
unfolding framing_of
frames head framing is =
    let fields = map name_and_value head.fields in
    elim (cases_Bool (nat_lt most_fields (length fields))) [
      | inl many ↦ let e = rw many at is in absurd (cc)
      | inr few ↦
          frames_by head.minor (values (codes "content-length") fields) (values (codes "transfer-encoding") fields) framing
          (rw few at is)
    ]

-- a body that is framed fits into the buffer for it
pub frames_fits : (framing : Framing) (codings : List (List ℕ)) → Frames framing codings → FitsBuffer framing
frames_fits (Sized size) codings is = is.0
frames_fits Chunked codings is = tt

-- an item expects `100 Continue` where its head does
pub framed_continues : (head : RequestHead) (framing : Framing) (coded : List ℕ) (item : Item)
    → framing_of head ≡ Ok framing → IsFramed head framing coded item → continues item ≡ expects_continue head framing
unfolding expects_continue
framed_continues head (Sized size) coded (request m) is (sized n body long) =
    let f = frames head (Sized n) is in rw (f.1, long) refl
framed_continues head (Sized size) coded (unframed refused expected heads) is how = elim how [ ]
framed_continues head Chunked coded (request m) is (chunked bytes body decodes) =
    let f = frames head Chunked is in rw f refl
framed_continues head Chunked coded item is (broken bytes refused decodes) = refl

-- The text of a head is among the bytes that are held.
module _ {held : List ℕ} {empty_lines size : ℕ} (at : IsTextAt held empty_lines size) where
  text_size : length (take size (drop empty_lines held)) ≡ size
  text_size = length-take-le size (drop empty_lines held) (omega (arith, at.within, length-drop empty_lines held))

  text_beginnings : Beginnings (take (empty_lines + size) held) (take size (drop empty_lines held))
  text_beginnings =
      let text = take size (drop empty_lines held) in
      let first = take (empty_lines + size) held in
      let settled = settled_text held text at.beginning in
      let whole : empty_lines_before_head held + length text ≡ empty_lines + size = omega (arith, text_size, at.empty_lines_is) in
      let long : length first ≡ empty_lines + size = length-take-le (empty_lines + size) held at.within in
      record {
        beginning = λ more. ap (λ n. beginning_of (take n held ++ more)) (sym whole) ∙ settled.settles.all more;
        behind = λ more.
            let empty_lines_same : empty_lines_before_head (first ++ more) ≡ empty_lines =
            ap (λ n. empty_lines_before_head (take n held ++ more)) (sym whole) ∙ settled.settles.empty_lines_same more ∙ sym at.empty_lines_is in
            ap (λ n. drop n (first ++ more)) empty_lines_same
            ∙ drop-append-le empty_lines first more (omega (arith, long))
            ∙ ap (λ xs. xs ++ more) (drop-take empty_lines size held);
      }

  -- an item that is its text alone
  item_alone : (item : Item) → IsItemOf (take size (drop empty_lines held)) [] item → IsItem (take (empty_lines + size) held) item
  item_alone item is =
      let P : List ℕ → Type 0 = λ bytes. IsItem bytes item in
      subst P (append-nil (take (empty_lines + size) held))
      (item_behind (take (empty_lines + size) held) (take size (drop empty_lines held)) [] item text_beginnings is)

  bad_text : (rest : List ℕ) (refused : FramingRefusal)
      → IsItemOf (take size (drop empty_lines held)) [] (unframed refused false false) → rest ≡ drop (empty_lines + size) held
      → BeginsBad held rest refused (empty_lines + size)
  bad_text rest refused is rest_is =
      bad_first held rest refused (empty_lines + size) (item_alone (unframed refused false false) is) rest_is
      (omega (arith, at.some)) at.limit at.within

  -- a text that is no head, or a head that is refused
  pub bad_head_of : (rest : List ℕ) (refused : FramingRefusal)
      → (IsNoHead (take size (drop empty_lines held)) × (refused ≡ BadHead)) ⊎ IsRefusedHead (take size (drop empty_lines held)) refused
      → rest ≡ drop (empty_lines + size) held → BeginsBad held rest refused (empty_lines + size)
  bad_head_of rest refused (inl none) rest_is =
      let P : FramingRefusal → Type 0 = λ r. BeginsBad held rest r (empty_lines + size) in
      subst P (sym none.1) (bad_text rest BadHead (no_head none.0 refl refl) rest_is)
  bad_head_of rest refused (inr is) rest_is = bad_text rest refused (bad_head is.head refused is.is is.framing_is refl refl) rest_is

  -- the text that was copied
  pub text_copied : (bytes copied rest : List ℕ) → bytes ≡ held
      → copied ≡ take (empty_lines + size - empty_lines) (drop empty_lines bytes)
      → (take size (copied ++ rest) ≡ take size (drop empty_lines held)) × (size ≤ length (copied ++ rest))
  text_copied bytes copied rest same is =
      let count : empty_lines + size - empty_lines ≡ size = omega arith in
      let text : copied ≡ take size (drop empty_lines held) = is ∙ ap (λ xs. take (empty_lines + size - empty_lines) (drop empty_lines xs)) same
      ∙ ap (λ n. take n (drop empty_lines held)) count in
      let long : length copied ≡ size = ap length text ∙ text_size in
      (take_at copied rest size long ∙ text, omega (arith, length-append copied rest, long))

  -- the bytes begin with the head that was judged
  pub framed_first : (rest buffer : List ℕ) (spans : List HeaderSpan) (judged : Judged)
      → take size buffer ≡ take size (drop empty_lines held) → size ≤ length buffer
      → rest ≡ drop (empty_lines + size) held → IsFramedHead (take size (drop empty_lines held)) spans judged
      → BeginsFramed held rest buffer spans
      (record { used = empty_lines + size; text = size; parts = judged.parts; framing = judged.framing; expects_continue = judged.expects_continue; is_head_request = judged.is_head_request })
  framed_first rest buffer spans judged same fits rest_is is = record {
    first = take (empty_lines + size) held;
    head = is.head;
    splits = sym (take-append-drop (empty_lines + size) held) ∙ ap (λ xs. take (empty_lines + size) held ++ xs) (sym rest_is);
    size_is = length-take-le (empty_lines + size) held at.within;
    some = omega (arith, at.some);
    limit = at.limit;
    text_within = fits;
    at = rw same is.at;
    framing_is = is.framing_is;
    fits = frames_fits judged.framing (values (codes "transfer-encoding") (map name_and_value is.head.fields)) (frames is.head judged.framing is.framing_is);
    expects_is = is.expected_is;
    head_is = is.heads_is;
    beginning = λ more. text_beginnings.beginning more ∙ ap Text (sym same);
    behind = λ more. text_beginnings.behind more ∙ ap (λ xs. xs ++ more) (sym same);
  }

-- why no head came, by whether all the bytes are blank
pub has_no_head : (source source' : End) (all : List ℕ) (incomplete : Incomplete) (blank : Bool) → NoMoreBytes source source' incomplete
    → is_blank all ≡ blank → HasNoHead source source' all (before_head incomplete blank)
has_no_head source source' all InputEnd blank is same = absurd is
has_no_head source source' all Truncated true is same = (is, same)
has_no_head source source' all Truncated false is same = (is, same)
has_no_head source source' all ReadFault blank is same = is
has_no_head source source' all WriteFault blank is same = absurd is

-- what comes of all bytes that are held comes of those before with those that were taken
module _ (source source' : End) (before after rest text : List ℕ) (spans : List HeaderSpan)
    (grows : Grows source source' IsUnread before after) where
  heads_waits : IsIdle source source' grows.got ⊎ (beginning_of before ≡ Unfinished)
  heads_waits = elim grows.waits [ inl idle ↦ inl idle | inr unread ↦ inr unread.beginning ]

  pub heads_grow : (headed : Headed) → IsHeadOf after rest text spans headed
      → Heads source source' before rest text spans (Ok headed)
  heads_grow headed is =
      let P : List ℕ → Type 0 = λ bytes. IsHeadOf bytes rest text spans headed in
      record { got = grows.got; took = grows.took; waits = heads_waits; is = subst P grows.adds is }

  pub heads_stop : (incomplete : Incomplete) (blank : Bool) → IsUnread after × NoMoreBytes source source' incomplete
      → blank ≡ is_blank after → Heads source source' before rest text spans (Err (before_head incomplete blank))
  heads_stop incomplete blank why same =
      let P : List ℕ → Type 0 = λ bytes. (beginning_of bytes ≡ Unfinished) × HasNoHead source source' bytes (before_head incomplete blank) in
      record {
        got = grows.got;
        took = grows.took;
        waits = heads_waits;
        is = subst P grows.adds (why.0.beginning, has_no_head source source' after incomplete blank why.1 (sym same));
      }
