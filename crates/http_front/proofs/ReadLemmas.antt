-- The head of a reply is read back as what it is.
use Rattle.std.proofs.Common.{◌≡◌, ℕ, zero, suc, ◌+◌, ◌/◌, ◌%◌, ◌<◌, ◌≤◌, Bool, true, false, List, [], ◌∷◌, ◌++◌, map, refl, sym, ap, subst, ◌∙◌, arith, codes}
use Rattle.std.proofs.lemmas.Bool.{and_from}
use Rattle.std.proofs.lemmas.Bool.Decides.{nat_tests}
use Rattle.std.proofs.lemmas.Fmt.{decimal_digit, decimal_step}
use Rattle.std.proofs.lemmas.List.{append_assoc}
use Rattle.std.specs.Prelude.{decimal, nat_le, Option, Some, None, IfSome}
use Rattle.httparse.specs.Grammar.{is_token, is_token_byte, ReadsResponse, status_code}
use Rattle.httparse.specs.Spans.{name_and_value}
use Rattle.httparse.proofs.GrammarLemmas.{response_unique}
use Rattle.http1.specs.Fields.{Header}
use Rattle.http1.specs.Head.{are_headers, head_refusal, is_status_line, is_trimmed_value, response_head, response_text, section_text, status_digits}
use Rattle.http1.proofs.HeadLemmas.{are_headers-append, response_text_is}
use Rattle.http1.proofs.HeadRoundTrip.{response_reads_back}
use Rattle.http_front.specs.Date.{IsDateOf}
use Rattle.http_front.specs.Origins.{LeaveTold, IsTellable, is_origin}
use Rattle.http_front.specs.ReadBack.{OneReplyIsRead, ReadsBack, RepliesHaveOneText}
use Rattle.http_front.specs.Reply.{status_line, phrase_of, head_text, head_fields, number_field, date_field, media_field, tag_field, lifetime_field, methods_text, allow_field, origin_fields, vary_field, calls_fields, pages_fields, close_field, reply_text}
use Rattle.http_front.specs.ReplyText.{reply_of}
use Rattle.http_front.specs.declared.head.Head.{Head}
use Rattle.http_front.specs.declared.head.MediaType.{MediaType}
use Rattle.http_front.specs.declared.head.MediaType.TheVariants.{Json, OctetStream}
use Rattle.http_front.specs.declared.refused.Allow.{Allow}
use Rattle.http_front.specs.declared.refused.Allow.TheVariants.{Record, Post, Other}
use Rattle.http_front.proofs.DateLemmas.{date_value, one_date}
use Rattle.http_front.proofs.OriginLemmas.{origin_visible}
use Rattle.http_front.proofs.StatusLemmas.{phrase_is_value}
use Rattle.http_front.proofs.VisibleLemmas.{AreValues, AreVisible, Begins, begins-append, begun_value, decimal_visible, values-append, visible-append, visible_end, visible_value, visible_values}

-- Fields that a head may have.
record AreGood (fields : List Header) : Type 0 where
  all : are_headers fields ≡ true

good-append : {xs ys : List Header} → AreGood xs → AreGood ys → AreGood (xs ++ ys)
good-append {xs} {ys} p q = record { all = are_headers-append xs ys ∙ and_from _ _ p.all q.all }

none_good : AreGood []
unfolding are_headers
none_good = record { all = refl }

one_good : (name value : List ℕ) → is_token name ≡ true → is_trimmed_value value ≡ true → AreGood ((name, value) ∷ [])
unfolding are_headers
one_good name value token trimmed = record { all = and_from _ _ (and_from _ _ token trimmed) refl }

date_good : (dated : Bool) (seconds : ℕ) (date : List ℕ) → IsDateOf seconds date → AreGood (date_field dated date)
unfolding is_token_byte
date_good true seconds date of = one_good (codes "Date") date refl (date_value seconds date of)
date_good false seconds date of = none_good

media_good : (media : Option MediaType) → AreGood (media_field media)
unfolding is_token_byte
media_good None = none_good
media_good (Some Json) = one_good (codes "Content-Type") (codes "application/json") refl refl
media_good (Some OctetStream) = one_good (codes "Content-Type") (codes "application/octet-stream") refl refl

number_good : (name : List ℕ) (o : Option ℕ) → is_token name ≡ true → AreGood (number_field name o)
number_good name None token = none_good
number_good name (Some n) token = one_good name (decimal n) token (visible_value (decimal n) (decimal_visible n))

tag_good : (o : Option ℕ) → AreGood (tag_field o)
unfolding is_token_byte
tag_good None = none_good
tag_good (Some n) =
    let separator : AreVisible (codes "\"") = record { all = refl } in
    one_good (codes "ETag") (codes "\"" ++ (decimal n ++ codes "\"")) refl
    (visible_value (codes "\"" ++ (decimal n ++ codes "\"")) (visible-append separator (visible-append (decimal_visible n) separator)))

lifetime_good : (ttl shared : ℕ) → AreGood (lifetime_field ttl shared)
unfolding is_token_byte
lifetime_good zero shared = one_good (codes "Cache-Control") (codes "no-store") refl refl
lifetime_good (suc n) zero =
    let word : AreVisible (codes "max-age=") = record { all = refl } in
    one_good (codes "Cache-Control") (codes "max-age=" ++ decimal (suc n)) refl
    (visible_value (codes "max-age=" ++ decimal (suc n)) (visible-append word (decimal_visible (suc n))))
lifetime_good (suc n) (suc m) =
    let word : AreVisible (codes "s-maxage=") = record { all = refl } in
    let end : AreVisible (codes "s-maxage=" ++ decimal (suc m)) = visible-append word (decimal_visible (suc m)) in
    let start : AreValues (codes "public, max-age=") = record { all = refl } in
    let comma : AreValues (codes ", ") = record { all = refl } in
    let values = values-append (values-append (values-append start (visible_values (decimal_visible (suc n)))) comma) (visible_values end) in
    let begins : Begins (codes "public, max-age=") = record { some = omega arith; visible = refl } in
    one_good (codes "Cache-Control") (((codes "public, max-age=" ++ decimal (suc n)) ++ codes ", ") ++ (codes "s-maxage=" ++ decimal (suc m))) refl
    (begun_value ((codes "public, max-age=" ++ decimal (suc n)) ++ codes ", ") (codes "s-maxage=" ++ decimal (suc m))
    (begins-append ((decimal (suc n) ++ codes ", ") ++ (codes "s-maxage=" ++ decimal (suc m))) begins) values (visible_end end (omega arith)))

methods_value : (allow : Allow) → is_trimmed_value (methods_text allow) ≡ true
methods_value Record = refl
methods_value Post = refl
methods_value Other = refl

allow_good : (allow : Option Allow) → AreGood (allow_field allow)
unfolding is_token_byte
allow_good None = none_good
allow_good (Some allow) = one_good (codes "Allow") (methods_text allow) refl (methods_value allow)

origin_good : (allow : Option (List ℕ)) → IfSome allow (λ origin. is_origin origin ≡ true) → AreGood (origin_fields allow)
unfolding is_token_byte
origin_good None tellable = none_good
origin_good (Some origin) tellable =
    good-append (one_good (codes "Access-Control-Allow-Origin") origin refl (visible_value origin (origin_visible origin tellable)))
    (one_good (codes "Access-Control-Expose-Headers") (codes "Date, ETag, Quaestor-Commit, Quaestor-Until, Quaestor-Version") refl refl)

vary_good : (varies : Bool) → AreGood (vary_field varies)
unfolding is_token_byte
vary_good true = one_good (codes "Vary") (codes "Origin") refl refl
vary_good false = none_good

calls_good : (calls : Option Allow) → AreGood (calls_fields calls)
unfolding is_token_byte
calls_good None = none_good
calls_good (Some allow) =
    good-append (one_good (codes "Access-Control-Allow-Methods") (methods_text allow) refl (methods_value allow))
    (good-append (one_good (codes "Access-Control-Allow-Headers") (codes "Cache-Control, Content-Type, If-Match, If-None-Match") refl refl)
    (one_good (codes "Access-Control-Max-Age") (codes "600") refl refl))

pages_good : (leave : LeaveTold) (calls : Option Allow) → IsTellable leave → AreGood (pages_fields leave calls)
pages_good leave calls tellable =
    good-append (origin_good leave.allow tellable) (good-append (vary_good leave.varies) (calls_good calls))

close_good : (close : Bool) → AreGood (close_field close)
unfolding is_token_byte
close_good true = one_good (codes "Connection") (codes "close") refl refl
close_good false = none_good

fields_good : (h : Head) (seconds : ℕ) (date : List ℕ) → IsTellable h.leave → IsDateOf seconds date → AreGood (head_fields h date)
unfolding head_fields is_token_byte
fields_good h seconds date tellable of =
    good-append (date_good h.dated seconds date of) (good-append (media_good h.media)
    (good-append (number_good (codes "Content-Length") h.length refl) (good-append (tag_good h.tag)
    (good-append (lifetime_good h.ttl h.shared) (good-append (allow_good h.allow)
    (good-append (number_good (codes "Quaestor-Commit") h.commit refl)
    (good-append (number_good (codes "Quaestor-Version") h.version refl)
    (good-append (number_good (codes "Quaestor-Until") h.until refl) (good-append (pages_good h.leave h.calls tellable) (close_good h.close))))))))))

-- a status has three digits
three_digits : (n : ℕ) → 100 ≤ n → n < 1000 → decimal n ≡ status_digits n
three_digits n low high =
    let one = decimal_step n (omega arith) (omega arith) in
    let two = decimal_step (n / 10) (omega arith) (omega arith) in
    let three = decimal_digit (n / 10 / 10) (omega arith) in
    let first : 48 + n / 10 / 10 ≡ 48 + n / 100 % 10 = omega arith in
    one ∙ ap (λ t. t ++ (48 + n % 10) ∷ []) (two ∙ ap (λ t. t ++ (48 + n / 10 % 10) ∷ []) (three ∙ ap (λ d. d ∷ []) first))

-- the text of a head is what the kit's writer of heads prints
head_printed : (n : ℕ) (fields : List Header) → 100 ≤ n → n < 1000 → head_text n fields ≡ response_text 1 n (phrase_of n) fields
unfolding head_text status_line phrase_of
head_printed n fields low high =
    let line : (decimal n ++ codes " " ++ phrase_of n) ++ codes "\r\n" ≡ status_digits n ++ (32 ∷ (phrase_of n ++ (13 ∷ 10 ∷ []))) =
    append_assoc (decimal n ++ codes " ") (phrase_of n) (codes "\r\n")
    ∙ append_assoc (decimal n) (codes " ") (phrase_of n ++ codes "\r\n")
    ∙ ap (λ d. d ++ (codes " " ++ (phrase_of n ++ codes "\r\n"))) (three_digits n low high) in
    ap (λ t. section_text (codes "HTTP/1.1 " ++ t) fields) line ∙ response_text_is 1 n (phrase_of n) fields

-- a head is read back
pub read_back : (h : Head) → 100 ≤ h.status → h.status < 1000 → IsTellable h.leave → ReadsBack h
read_back h low high tellable seconds date rest of =
    let fields = head_fields h date in
    let under : nat_le 100 h.status ≡ true = grind (arith, nat_tests) in
    let over : nat_le h.status 999 ≡ true = grind (arith, nat_tests) in
    let line : is_status_line 1 h.status (phrase_of h.status) ≡ true = and_from _ _ under (and_from _ _ over (phrase_is_value h.status high)) in
    let accepted : head_refusal (is_status_line 1 h.status (phrase_of h.status)) fields ≡ None = rw (line, (fields_good h seconds date tellable of).all) refl in
    let back = response_reads_back 1 h.status (phrase_of h.status) fields rest accepted in
    record {
      head = response_head 1 h.status (phrase_of h.status) fields;
      reads = subst (λ text. ReadsResponse (text ++ rest) (response_head 1 h.status (phrase_of h.status) fields) rest) (sym (head_printed h.status fields low high)) back.reads;
      status_is = back.code;
      fields_are = back.fields;
    }

-- in one way
pub one_reply : OneReplyIsRead
one_reply bytes status other fields others rest more p q =
    let same = response_unique bytes p.head q.head rest more p.reads q.reads in (
      sym p.status_is ∙ ap status_code same.0 ∙ q.status_is,
      sym p.fields_are ∙ ap (λ h. map name_and_value h.fields) same.0 ∙ q.fields_are,
      same.1,
    )

-- what is answered has one text
pub one_text : RepliesHaveOneText
one_text shape told page close text other p q =
    p.text_is ∙ ap (λ d. reply_text (reply_of shape told page d close)) (one_date _ p.date q.date p.dated q.dated) ∙ sym q.text_is
