-- The items of a byte string are determined by it.
use Rattle.std.proofs.Common.{◌≡◌, ◌≢◌, ℕ, suc, ◌+◌, ◌-◌, ◌<◌, List, [], ◌∷◌, ◌++◌, length, take, drop, Bool, true, false, refl, sym, ◌∙◌, ap, subst, arith, inl, inr}
use Rattle.std.specs.Prelude.{Result, Ok, Err}
use Rattle.std.proofs.lemmas.Bool.{cases_Bool, true≢false, false≢true}
use Rattle.std.proofs.lemmas.List.{append_assoc, append_cancel_left, take_at, drop-append-le, length-drop, length-append}
use Rattle.httparse.specs.Grammar.{RequestHead}
use Rattle.httparse.proofs.GrammarLemmas.{request_unique}
use Rattle.http_message.specs.Coding.{Decoded, Broken, Unfinished as Pending}
use Rattle.http_message.specs.Framing.{framing_of, expects_continue}
use Rattle.http_message.specs.Head.{IsHead}
use Rattle.http_message.specs.Item.{Item, request, unframed, closes, is_head_request, IsFramed, sized, chunked, broken, IsItemOf, no_head, bad_head, framed, IsItemBy, IsItem, IsCut, IsOpen, no_text, cut_short, ExpectsContinue}
use Rattle.http_message.specs.Message.{message_of}
use Rattle.http_message.specs.Split.{Piece, bytes_of, OnlyLastCloses, last_closes, IsSplit}
use Rattle.http_message.specs.Text.{Beginning, BareCr, Text, TooLarge, Unfinished, beginning_of, empty_lines_before_head}
use Rattle.http_message.specs.declared.framing.Framing.{Framing}
use Rattle.http_message.specs.declared.framing.Framing.TheVariants.{Sized, Chunked}
use Rattle.http_message.specs.declared.refusal.FramingRefusal.{FramingRefusal}
use Rattle.http_message.specs.declared.refusal.FramingRefusal.TheVariants.{BadHead, HeadTooLarge}
use Rattle.http_message.proofs.CodingLemmas.{one_outcome, none_in_unfinished}
use Rattle.http_message.specs.Limits.{head_limit}
use Rattle.http_message.proofs.BeginningLemmas.{settled_text, settled_bare_cr, settled_large, settles_grow}

-- the bytes begin with this item of this length, by what they begin with
abbrev pub BeginsBy : Beginning → List ℕ → ℕ → Item → Type 0
BeginsBy BareCr bytes n item = (n ≡ empty_lines_before_head bytes + 2) × (item ≡ unframed BadHead false false)
BeginsBy (Text text) bytes n item =
    (coded : List ℕ) × (rest : List ℕ) × (drop (empty_lines_before_head bytes) bytes ≡ text ++ (coded ++ rest))
    × (n ≡ empty_lines_before_head bytes + (length text + length coded)) × IsItemOf text coded item
BeginsBy TooLarge bytes n item = (n ≡ head_limit) × (item ≡ unframed HeadTooLarge false false)
BeginsBy Unfinished bytes n item = ⊥

-- bytes that are an item begin with it, whatever follows
pub begins_by : (beginning : Beginning) (piece more : List ℕ) (item : Item) → beginning_of piece ≡ beginning
    → IsItemBy beginning piece item
    → (beginning_of (piece ++ more) ≡ beginning) × BeginsBy beginning (piece ++ more) (length piece) item
begins_by BareCr piece more item at is =
    let grown = settles_grow piece (empty_lines_before_head piece + 2) BareCr more (settled_bare_cr piece at) in
    (grown.0, (omega (arith, is.0, grown.1), is.1))
begins_by (Text text) piece more item at (coded, split, is) =
    let settled = settled_text piece text at in
    let grown = settles_grow piece (empty_lines_before_head piece + length text) (Text text) more settled.settles in
    let rest : drop (empty_lines_before_head (piece ++ more)) (piece ++ more) ≡ text ++ (coded ++ more) =
    ap (λ n. drop n (piece ++ more)) grown.1
    ∙ drop-append-le (empty_lines_before_head piece) piece more (omega (arith, settled.within))
    ∙ ap (λ xs. xs ++ more) split ∙ append_assoc text coded more in (
      grown.0,
      (
        coded,
        more,
        rest,
        omega (arith, grown.1, settled.within, ap length split, length-drop (empty_lines_before_head piece) piece, length-append text coded),
        is,
      ),
    )
begins_by TooLarge piece more item at is =
    ((settles_grow piece head_limit TooLarge more (settled_large piece at)).0, is)
begins_by Unfinished piece more item at is = absurd is

-- one head is the whole text
pub one_head : (text : List ℕ) (head other : RequestHead) → IsHead text head → IsHead text other → head ≡ other
one_head text head other a b = (request_unique text head other [] [] a.reads b.reads).0

-- a head frames its body in one way, or is refused for one reason
pub no_clash : (framing : Framing) (refused : FramingRefusal) (r : Result Framing FramingRefusal) → r ≡ Ok framing → r ≡ Err refused → ⊥
no_clash framing refused r good bad = let e : ◌≡◌ {A = Result Framing FramingRefusal} (Ok framing) (Err refused) = sym good ∙ bad in cc

pub one_refused : (a b : FramingRefusal) (r : Result Framing FramingRefusal) → r ≡ Err a → r ≡ Err b → a ≡ b
one_refused a b r first second = let e : ◌≡◌ {A = Result Framing FramingRefusal} (Err a) (Err b) = sym first ∙ second in cc

pub one_framing : (a b : Framing) (r : Result Framing FramingRefusal) → r ≡ Ok a → r ≡ Ok b → a ≡ b
one_framing a b r first second = let e : ◌≡◌ {A = Result Framing FramingRefusal} (Ok a) (Ok b) = sym first ∙ second in cc

-- an outcome that has come is not pending
pub decoded_done : (body : List ℕ) → Decoded body ≢ Pending
decoded_done body e = cc

pub broken_done : (refused : FramingRefusal) → Broken refused ≢ Pending
broken_done refused e = cc

-- the bytes behind a head that are framed are one item
pub one_framed : (head : RequestHead) (framing : Framing) (coded rest other others : List ℕ) (item item' : Item)
    → IsFramed head framing coded item → IsFramed head framing other item' → coded ++ rest ≡ other ++ others
    → (coded ≡ other) × (item ≡ item')
one_framed head (Sized n) coded rest other others item item' (sized size body long) (sized size' body' long') same =
    let bodies : coded ≡ other =
    sym (take_at coded rest (length coded) refl) ∙ ap (take (length coded)) same
    ∙ take_at other others (length coded) (omega (arith, long, long')) in
    (bodies, ap (λ (b : List ℕ). request (message_of head b)) bodies)
one_framed head Chunked coded rest other others item item' (chunked bytes body how) (chunked bytes' body' how') same =
    let one = one_outcome 0 0 coded rest other others (Decoded body) (Decoded body') how how' (decoded_done body) (decoded_done body') same in
    let outcomes = one.1 in
    let bodies : body ≡ body' = cc in
    (one.0, ap (λ (b : List ℕ). request (message_of head b)) bodies)
one_framed head Chunked coded rest other others item item' (chunked bytes body how) (broken bytes' refused' how') same =
    let one = one_outcome 0 0 coded rest other others (Decoded body) (Broken refused') how how' (decoded_done body) (broken_done refused') same in
    let outcomes = one.1 in absurd (cc)
one_framed head Chunked coded rest other others item item' (broken bytes refused how) (chunked bytes' body' how') same =
    let one = one_outcome 0 0 coded rest other others (Broken refused) (Decoded body') how how' (broken_done refused) (decoded_done body') same in
    let outcomes = one.1 in absurd (cc)
one_framed head Chunked coded rest other others item item' (broken bytes refused how) (broken bytes' refused' how') same =
    let one = one_outcome 0 0 coded rest other others (Broken refused) (Broken refused') how how' (broken_done refused) (broken_done refused') same in
    let outcomes = one.1 in
    let refusals : refused ≡ refused' = cc in
    (one.0, ap (λ (r : FramingRefusal). unframed r (expects_continue head Chunked) (is_head_request head)) refusals)

-- what is framed behind one head, of another that is the same
pub framed_same : (text : List ℕ) (head other : RequestHead) (framing framing' : Framing) (coded : List ℕ) (item : Item)
    → IsHead text head → IsHead text other → framing_of head ≡ Ok framing → framing_of other ≡ Ok framing'
    → IsFramed other framing' coded item → IsFramed head framing coded item
framed_same text head other framing framing' coded item at at' is is' how =
    let heads : other ≡ head = one_head text other head at' at in
    let framings : framing' ≡ framing = one_framing framing' framing (framing_of head) (ap framing_of (sym heads) ∙ is') is in
    let P : RequestHead → Type 0 = λ h. IsFramed h framing coded item in
    let Q : Framing → Type 0 = λ f. IsFramed other f coded item in
    subst P heads (subst Q framings how)

-- a text with the bytes behind it is one item
pub one_of_text : (text coded rest coded' rest' : List ℕ) (item other : Item) → coded ++ rest ≡ coded' ++ rest'
    → IsItemOf text coded item → IsItemOf text coded' other → (coded ≡ coded') × (item ≡ other)
one_of_text text coded rest coded' rest' item other same (no_head none nil is) (no_head none' nil' is') =
    (nil ∙ sym nil', is ∙ sym is')
one_of_text text coded rest coded' rest' item other same (no_head none nil is) (bad_head head' refused' at' bad' nil' is') =
    absurd (none.none head' at')
one_of_text text coded rest coded' rest' item other same (no_head none nil is) (framed head' framing' at' good' how') =
    absurd (none.none head' at')
one_of_text text coded rest coded' rest' item other same (bad_head head refused at bad nil is) (no_head none' nil' is') =
    absurd (none'.none head at)
one_of_text text coded rest coded' rest' item other same (bad_head head refused at bad nil is) (bad_head head' refused' at' bad' nil' is') =
    let refusals : refused ≡ refused' =
    one_refused refused refused' (framing_of head) bad (ap framing_of (one_head text head head' at at') ∙ bad') in
    (nil ∙ sym nil', is ∙ ap (λ (r : FramingRefusal). unframed r false false) refusals ∙ sym is')
one_of_text text coded rest coded' rest' item other same (bad_head head refused at bad nil is) (framed head' framing' at' good' how') =
    absurd (no_clash framing' refused (framing_of head') good' (ap framing_of (one_head text head' head at' at) ∙ bad))
one_of_text text coded rest coded' rest' item other same (framed head framing at good how) (no_head none' nil' is') =
    absurd (none'.none head at)
one_of_text text coded rest coded' rest' item other same (framed head framing at good how) (bad_head head' refused' at' bad' nil' is') =
    absurd (no_clash framing refused' (framing_of head) good (ap framing_of (one_head text head head' at at') ∙ bad'))
one_of_text text coded rest coded' rest' item other same (framed head framing at good how) (framed head' framing' at' good' how') =
    one_framed head framing coded rest coded' rest' item other how
    (framed_same text head head' framing framing' coded' other at at' good good' how') same

-- bytes begin with one item
pub one_by : (beginning : Beginning) (bytes : List ℕ) (n m : ℕ) (item other : Item) → BeginsBy beginning bytes n item
    → BeginsBy beginning bytes m other → (n ≡ m) × (item ≡ other)
one_by BareCr bytes n m item other a b = (a.0 ∙ sym b.0, a.1 ∙ sym b.1)
one_by (Text text) bytes n m item other (coded, rest, split, size, is) (coded', rest', split', size', is') =
    let same : coded ++ rest ≡ coded' ++ rest' =
    append_cancel_left text (coded ++ rest) (coded' ++ rest') (sym split ∙ split') in
    let one = one_of_text text coded rest coded' rest' item other same is is' in
    (omega (arith, size, size', ap length one.0), one.1)
one_by TooLarge bytes n m item other a b = (a.0 ∙ sym b.0, a.1 ∙ sym b.1)
one_by Unfinished bytes n m item other a b = absurd a

-- a byte string begins with one item at most
pub item_unique : (first second rest others : List ℕ) (item other : Item) → IsItem first item → IsItem second other
    → first ++ rest ≡ second ++ others → (first ≡ second) × (item ≡ other)
item_unique first second rest others item other a b same =
    let begins = begins_by (beginning_of first) first rest item refl a.is in
    let begins' = begins_by (beginning_of second) second others other refl b.is in
    let beginnings : beginning_of second ≡ beginning_of first = sym begins'.0 ∙ ap beginning_of (sym same) ∙ begins.0 in
    let P : Beginning → List ℕ → Type 0 = λ beginning bytes. BeginsBy beginning bytes (length second) other in
    let moved : BeginsBy (beginning_of first) (second ++ others) (length second) other =
    subst (λ beginning. P beginning (second ++ others)) beginnings begins'.1 in
    let here : BeginsBy (beginning_of first) (first ++ rest) (length second) other =
    subst (λ bytes. P (beginning_of first) bytes) (sym same) moved in
    let one = one_by (beginning_of first) (first ++ rest) (length first) (length second) item other begins.1 here in (
      sym (take_at first rest (length first) refl) ∙ ap (take (length first)) same
          ∙ take_at second others (length first) (sym one.0),
      one.1,
    )

-- bytes that are cut short begin with no framed ones
pub no_framed_in_cut : (head : RequestHead) (framing : Framing) (coded rest : List ℕ) (item : Item)
    → IsFramed head framing coded item → IsCut framing (coded ++ rest) → ⊥
no_framed_in_cut head (Sized n) coded rest item (sized size body long) (sized size' bytes short) =
    absurd (omega (arith, long, short, length-append coded rest))
no_framed_in_cut head Chunked coded rest item (chunked bytes body how) (chunked bytes' cut) =
    none_in_unfinished 0 0 coded rest (Decoded body) how (decoded_done body) cut
no_framed_in_cut head Chunked coded rest item (broken bytes refused how) (chunked bytes' cut) =
    none_in_unfinished 0 0 coded rest (Broken refused) how (broken_done refused) cut

-- and so no item follows the text
pub no_item_in_cut : (text coded rest : List ℕ) (item : Item) (head : RequestHead) (framing : Framing) → IsHead text head
    → framing_of head ≡ Ok framing → IsItemOf text coded item → IsCut framing (coded ++ rest) → ⊥
no_item_in_cut text coded rest item head framing at good (no_head none nil is) cut = none.none head at
no_item_in_cut text coded rest item head framing at good (bad_head head' refused' at' bad' nil is) cut =
    no_clash framing refused' (framing_of head) good (ap framing_of (one_head text head head' at at') ∙ bad')
no_item_in_cut text coded rest item head framing at good (framed head' framing' at' good' how) cut =
    no_framed_in_cut head framing coded rest item
    (framed_same text head head' framing framing' coded item at at' good good' how) cut

-- bytes in which no item is whole begin with none
pub open_no_item : (first rest : List ℕ) (item : Item) (expected : Bool) → IsItem first item → IsOpen (first ++ rest) expected → ⊥
open_no_item first rest item expected is (no_text unfinished quiet) =
    let begins = begins_by (beginning_of first) first rest item refl is.is in
    let beginning : beginning_of first ≡ Unfinished = sym begins.0 ∙ unfinished in
    subst (λ f. BeginsBy f (first ++ rest) (length first) item) beginning begins.1
open_no_item first rest item expected is (cut_short text coded head framing beginning behind at good cut expecting) =
    let begins = begins_by (beginning_of first) first rest item refl is.is in
    let same : beginning_of first ≡ Text text = sym begins.0 ∙ beginning in
    let (used, others, split, size, here) = subst (λ f. BeginsBy f (first ++ rest) (length first) item) same begins.1 in
    let coded_is : coded ≡ used ++ others = append_cancel_left text coded (used ++ others) (sym behind ∙ split) in
    let P : List ℕ → Type 0 = λ bytes. IsCut framing bytes in
    no_item_in_cut text used others item head framing at good here (subst P coded_is cut)

-- a text of a head is not there where more bytes decide
pub no_text_pending : (rest text : List ℕ) → beginning_of rest ≡ Unfinished → beginning_of rest ≡ Text text → ⊥
no_text_pending rest text unfinished beginning = let e : Unfinished ≡ Text text = sym unfinished ∙ beginning in cc

-- whether a head expects `100 Continue`, of a text that is another
pub expects_same : (text other : List ℕ) (head head' : RequestHead) (framing framing' : Framing) → text ≡ other
    → IsHead text head → IsHead other head' → framing_of head ≡ Ok framing → framing_of head' ≡ Ok framing'
    → expects_continue head framing ≡ expects_continue head' framing'
expects_same text other head head' framing framing' same at at' good good' =
    let P : List ℕ → Type 0 = λ t. IsHead t head' in
    let heads : head ≡ head' = one_head text head head' at (subst P (sym same) at') in
    let framings : framing ≡ framing' = one_framing framing framing' (framing_of head) good (ap framing_of heads ∙ good') in
    ap (λ (h : RequestHead). expects_continue h framing) heads ∙ ap (λ (f : Framing). expects_continue head' f) framings

pub one_text : (rest text other : List ℕ) → beginning_of rest ≡ Text text → beginning_of rest ≡ Text other → text ≡ other
one_text rest text other beginning beginning' = let e : Text text ≡ Text other = sym beginning ∙ beginning' in cc

-- bytes in which no item is whole expect `100 Continue` or do not
pub one_expected : (rest : List ℕ) (expected other : Bool) → IsOpen rest expected → IsOpen rest other → expected ≡ other
one_expected rest expected other (no_text beginning quiet) (no_text beginning' quiet') = quiet ∙ sym quiet'
one_expected rest expected other (no_text beginning quiet) (cut_short text coded head framing beginning' behind at good cut expecting) =
    absurd (no_text_pending rest text beginning beginning')
one_expected rest expected other (cut_short text coded head framing beginning behind at good cut expecting) (no_text beginning' quiet) =
    absurd (no_text_pending rest text beginning' beginning)
one_expected rest expected other (cut_short text coded head framing beginning behind at good cut expecting) (cut_short text' coded' head' framing' beginning' behind' at' good' cut' expecting') =
    expecting ∙ expects_same text text' head head' framing framing' (one_text rest text text' beginning beginning') at at' good good'
    ∙ sym expecting'

pub expected_there : (rest : List ℕ) (expected : Bool) → IsOpen rest expected → ExpectsContinue rest → expected ≡ true
expected_there rest expected (no_text beginning quiet) is = absurd (no_text_pending rest is.text beginning is.beginning)
expected_there rest expected (cut_short text coded head framing beginning behind at good cut expecting) is =
    expecting ∙ expects_same text is.text head is.head framing is.framing (one_text rest text is.text beginning is.beginning) at is.is good is.framed
    ∙ is.expected

pub one_expectation : (rest : List ℕ) (expected other : Bool) → IsOpen rest expected
    → (IsOpen rest other → expected ≡ other) × (ExpectsContinue rest → expected ≡ true)
one_expectation rest expected other is = (one_expected rest expected other is, expected_there rest expected is)

-- the pieces behind the first
pub going_tail : (piece : Piece) (pieces : List Piece) → OnlyLastCloses (piece ∷ pieces) → OnlyLastCloses pieces
going_tail piece [] going = tt
going_tail piece (next ∷ pieces) going = going.1

pub last_tail : (piece : Piece) (pieces : List Piece) → closes piece.item ≡ false
    → last_closes (piece ∷ pieces) ≡ true → last_closes pieces ≡ true
last_tail piece [] goes last = absurd (true≢false (sym last ∙ goes))
last_tail piece (next ∷ pieces) goes last = last

-- a piece that closes is the last
pub closed_alone : (piece : Piece) (pieces : List Piece) → OnlyLastCloses (piece ∷ pieces) → closes piece.item ≡ true
    → pieces ≡ []
closed_alone piece [] going closed = refl
closed_alone piece (next ∷ pieces) going closed = absurd (true≢false (sym closed ∙ going.0))

-- what follows the first piece is split as well
pub split_tail : (limit : ℕ) (bytes : List ℕ) (piece : Piece) (pieces : List Piece) (rest : List ℕ)
    → IsSplit limit bytes (piece ∷ pieces) rest → closes piece.item ≡ false
    → IsSplit (limit - 1) (bytes_of pieces ++ rest) pieces rest
split_tail limit bytes piece pieces rest split goes = record {
  all = refl;
  each = λ k d below. split.each (suc k) d (omega arith);
  few = omega (arith, split.few);
  going = going_tail piece pieces split.going;
  ends = elim split.ends [
    | inl last ↦ inl (last_tail piece pieces goes last)
    | inr stop ↦ elim stop [
      | inl count ↦ inr (inl (omega (arith, count)))
      | inr more ↦ inr (inr more)
    ]
  ];
}

-- the bytes of some pieces and the rest, from behind the first
pub bytes_behind : (piece : Piece) (pieces : List Piece) (rest : List ℕ)
    → bytes_of (piece ∷ pieces) ++ rest ≡ piece.bytes ++ (bytes_of pieces ++ rest)
bytes_behind piece pieces rest = append_assoc piece.bytes (bytes_of pieces) rest

-- where no piece is, none can be
pub no_more : (limit : ℕ) (bytes : List ℕ) (piece : Piece) (pieces : List Piece) (rest left : List ℕ)
    → IsSplit limit bytes [] rest → IsSplit limit bytes (piece ∷ pieces) left → ⊥
no_more limit bytes piece pieces rest left a b =
    elim a.ends [
      | inl last ↦ false≢true last
      | inr stop ↦ elim stop [
        | inl count ↦ absurd (omega (arith, count, b.few))
        | inr more ↦
            let same : rest ≡ piece.bytes ++ (bytes_of pieces ++ left) =
            sym a.all ∙ b.all ∙ bytes_behind piece pieces left in
            let first : 0 < length (piece ∷ pieces) = omega arith in
            open_no_item piece.bytes (bytes_of pieces ++ left) piece.item more.0 (b.each 0 piece first)
            (let P : List ℕ → Type 0 = λ bytes. IsOpen bytes more.0 in subst P same more.1)
      ]
    ]

-- a piece is its bytes and its item
abbrev pub piece_of : List ℕ → Item → Piece
piece_of bytes item = record { bytes = bytes; item = item }

pub piece_same : (first second : Piece) → first.bytes ≡ second.bytes → first.item ≡ second.item → first ≡ second
piece_same first second bytes item =
    ap (λ (b : List ℕ). piece_of b first.item) bytes ∙ ap (λ (i : Item). piece_of second.bytes i) item

-- the first pieces of two splits are one, and so is what follows
pub record SameFirst (piece other : Piece) (xs ys : List ℕ) : Type 0 where
  pub first : piece ≡ other
  pub later : xs ≡ ys

pub first_same : (limit : ℕ) (bytes : List ℕ) (piece other : Piece) (pieces others : List Piece) (rest left : List ℕ)
    → IsSplit limit bytes (piece ∷ pieces) rest → IsSplit limit bytes (other ∷ others) left
    → SameFirst piece other (bytes_of pieces ++ rest) (bytes_of others ++ left)
first_same limit bytes piece other pieces others rest left a b =
    let same : piece.bytes ++ (bytes_of pieces ++ rest) ≡ other.bytes ++ (bytes_of others ++ left) =
    sym (bytes_behind piece pieces rest) ∙ sym a.all ∙ b.all ∙ bytes_behind other others left in
    let some : 0 < length (piece ∷ pieces) = omega arith in
    let some' : 0 < length (other ∷ others) = omega arith in
    let one = item_unique piece.bytes other.bytes (bytes_of pieces ++ rest) (bytes_of others ++ left) piece.item other.item
    (a.each 0 piece some) (b.each 0 other some') same in
    record {
      first = piece_same piece other one.0 one.1;
      later = append_cancel_left piece.bytes (bytes_of pieces ++ rest) (bytes_of others ++ left)
          (same ∙ ap (λ xs. xs ++ (bytes_of others ++ left)) (sym one.0));
    }

-- a byte string has one split
pub split_unique : (limit : ℕ) (bytes : List ℕ) (pieces others : List Piece) (rest left : List ℕ)
    → IsSplit limit bytes pieces rest → IsSplit limit bytes others left → (pieces ≡ others) × (rest ≡ left)
split_unique limit bytes [] [] rest left a b = (refl, sym a.all ∙ b.all)
split_unique limit bytes [] (other ∷ others) rest left a b = absurd (no_more limit bytes other others rest left a b)
split_unique limit bytes (piece ∷ pieces) [] rest left a b = absurd (no_more limit bytes piece pieces left rest b a)
split_unique limit bytes (piece ∷ pieces) (other ∷ others) rest left a b =
    let same = first_same limit bytes piece other pieces others rest left a b in
    elim (cases_Bool (closes piece.item)) [
      | inl closed ↦
          let none : pieces ≡ [] = closed_alone piece pieces a.going closed in
          let none' : others ≡ [] =
          closed_alone other others b.going (ap (λ (p : Piece). closes p.item) (sym same.first) ∙ closed) in (
            ap (λ (p : Piece). p ∷ pieces) same.first ∙ ap (λ (ps : List Piece). other ∷ ps) (none ∙ sym none'),
            ap (λ (ps : List Piece). bytes_of ps ++ rest) (sym none) ∙ same.later
                ∙ ap (λ (ps : List Piece). bytes_of ps ++ left) none',
          )
      | inr goes ↦
          let goes' : closes other.item ≡ false = ap (λ (p : Piece). closes p.item) (sym same.first) ∙ goes in
          let P : List ℕ → Type 0 = λ xs. IsSplit (limit - 1) xs others left in
          let later = split_unique (limit - 1) (bytes_of pieces ++ rest) pieces others rest left
          (split_tail limit bytes piece pieces rest a goes)
          (subst P (sym same.later) (split_tail limit bytes other others left b goes')) in
          (ap (λ (p : Piece). p ∷ pieces) same.first ∙ ap (λ (ps : List Piece). other ∷ ps) later.0, later.1)
    ]
