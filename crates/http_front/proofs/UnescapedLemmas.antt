-- Requests of records whose names have no escape.
use Rattle.std.proofs.Common.{◌≡◌, ◌≢◌, ℕ, ◌+◌, ◌<◌, ◌≤◌, Bool, true, false, not, cond, nat_lt, List, [], ◌∷◌, ◌++◌, length, drop, take, get_or, refl, sym, ◌∙◌, ap, ap₂, arith, inl, inr, codes, ◌⊎◌}
use Rattle.std.proofs.lemmas.Bool.{cases_Bool, and_parts, and_from, ltb-false}
use Rattle.std.proofs.lemmas.Bool.Decides.{nat_tests}
use Rattle.std.proofs.lemmas.List.{take_all, take-append-drop, length-drop}
use Rattle.std.proofs.lemmas.List.Elements.{All-cons, All-nil, All-weaker}
use Rattle.std.proofs.lemmas.List.Folds.{list_all-append}
use Rattle.std.proofs.lemmas.List.Sums.{split_at_first, passes_at_first}
use Rattle.std.proofs.lemmas.Str.{IsUtf8-from_ascii}
use Rattle.std.proofs.lemmas.Str.Ascii.{IsAscii-from_all}
use Rattle.std.specs.Cmp.Lexicographic.{bytes_decides}
use Rattle.std.specs.List.{list_all, starts_with, position_or_len}
use Rattle.std.specs.Prelude.{All, ◌==◌, ◌&&◌, nat_eq, is_ok, Option, Some, None, Result, Ok, Err}
use Rattle.matchit.specs.Seek.{has_slash}
use Rattle.percent_encoding.specs.Percent.{percent_decode}
use Rattle.percent_encoding.proofs.PercentLemmas.{percent_decode-nil, percent_decode_not_percent}
use Rattle.q_base.specs.Name.{is_name_byte, first_bad, read_name, name_unless}
use Rattle.q_base.specs.declared.name.NameRefusal.{NameRefusal}
use Rattle.q_base.specs.declared.name.NameRefusal.TheVariants.{Empty, TooLong, Memory}
use Rattle.http_message.specs.Message.{Message}
use Rattle.http_front.specs.Answered.{and_then}
use Rattle.http_front.specs.Asks.{ask_at, ask_by, ask_of, fields_or_not, has_host, method_in, name_in, name_or_not, record_by}
use Rattle.http_front.specs.Free.{is_bare_put, is_free_at, is_free_with}
use Rattle.http_front.specs.Query.{fields_in}
use Rattle.http_front.specs.Routes.{route_of, served_of, serves, collection_in, id_in}
use Rattle.http_front.specs.Target.{local_part, path_of, query_of, or_root}
use Rattle.http_front.specs.declared.refused.Refused.{Refused}
use Rattle.http_front.specs.declared.ask.Ask.{Ask}
use Rattle.http_front.specs.declared.routes.Method.{Method}
use Rattle.http_front.specs.declared.routes.Served.{Served}
use Rattle.http_front.specs.declared.routes.Route.{Route}
use Rattle.http_front.specs.declared.routes.Route.TheVariants.{Record}
use Rattle.http_front.proofs.CutLemmas.{no_offset}
use Rattle.http_front.proofs.RecordLemmas.{record_path, route_of_record}

-- a byte of names is ASCII, and neither `/`, `?` nor `%`
abbrev is_unescaped : ℕ → Bool
is_unescaped b = not (b == 63) && nat_lt b 128

name_no_slash : (b : ℕ) → is_name_byte b ≡ true → (b == 47) ≡ false
name_no_slash b e = grind (arith, nat_tests)

name_no_percent : (b : ℕ) → is_name_byte b ≡ true → b ≢ 37
name_no_percent b e q = grind (arith, nat_tests)

name_unescaped : (b : ℕ) → is_name_byte b ≡ true → is_unescaped b ≡ true
name_unescaped b e = grind (arith, nat_tests)

-- where no byte is bad, each is good
all_good : (xs : List ℕ) → length xs ≤ position_or_len (λ byte. not (is_name_byte byte)) xs → list_all is_name_byte xs ≡ true
all_good [] h = refl
all_good (x ∷ xs) h =
    elim (cases_Bool (is_name_byte x)) [
      | inl good ↦ and_from _ _ good (all_good xs (let more = rw good at h in omega arith))
      | inr bad ↦ absurd (let none = rw bad at h in omega arith)
    ]

-- and back
none_bad : (xs : List ℕ) → list_all is_name_byte xs ≡ true → length xs ≤ position_or_len (λ byte. not (is_name_byte byte)) xs
none_bad [] e = omega arith
none_bad (x ∷ xs) e =
    let parts = and_parts (is_name_byte x) (list_all is_name_byte xs) e in
    let later = none_bad xs parts.1 in
    rw parts.0 (omega arith)

-- whether a text is a name, by its length and its bytes
pub name_test : (text : List ℕ) → (length text == 0) ≡ false → length text ≤ 64 → list_all is_name_byte text ≡ is_ok (read_name text)
name_test text zero few =
    let low : nat_lt 64 (length text) ≡ false = grind (arith, nat_tests) in
    let offset = position_or_len (λ byte. not (is_name_byte byte)) text in
    elim (cases_Bool (list_all is_name_byte text)) [
      | inl all ↦
          let past : nat_lt offset (length text) ≡ false = let none = none_bad text all in grind (arith, nat_tests) in
          rw (all, zero, low, past) refl
      | inr other ↦
          let here : nat_lt offset (length text) ≡ true = elim (cases_Bool (nat_lt offset (length text))) [
            | inl h ↦ h
            | inr h ↦ absurd (let all = all_good text (ltb-false offset (length text) h) in cc)
          ] in
          rw (other, zero, low, here) refl
    ]

same_ok : (read : Result (List ℕ) NameRefusal) → is_ok read ≡ is_ok (name_or_not read)
same_ok (Ok name) = refl
same_ok (Err refusal) = refl

-- the same of a text with escapes
pub decoded_test : (text : List ℕ) → 0 < length (percent_decode text) → length (percent_decode text) ≤ 64
    → list_all is_name_byte (percent_decode text) ≡ is_ok (name_in text)
unfolding name_in
decoded_test text some few =
    let zero : (length (percent_decode text) == 0) ≡ false = grind (arith, nat_tests) in
    name_test (percent_decode text) zero few ∙ same_ok (read_name (percent_decode text))

-- A text that was read as a name is the name.
pub record IsRead (text name : List ℕ) : Type 0 where
  pub same : text ≡ name
  pub some : 0 < length text
  pub good : list_all is_name_byte text ≡ true

read_name_is : (text name : List ℕ) → read_name text ≡ Ok name → IsRead text name
read_name_is text name e = by (length text == 0) refl (nat_lt 64 (length text)) (first_bad text) refl e
  where
    by : (u : Bool) → (length text == 0) ≡ u → (v : Bool) → (o : Option ℕ) → first_bad text ≡ o
        → ◌≡◌ {A = Result (List ℕ) NameRefusal} (cond u (Err Empty) (cond v (Err (TooLong (length text))) (name_unless text o))) (Ok name)
        → IsRead text name
    by true q v o b is = absurd (cc)
    by false q true o b is = absurd (cc)
    by false q false (Some offset) b is = absurd (cc)
    by false q false None b is = record {
      same = cc;
      some = grind (arith, nat_tests);
      good = all_good text (no_offset (λ byte. not (is_name_byte byte)) text b);
    }

-- by the answer of the reader
pub is_read : (text name : List ℕ) (answer : Result (List ℕ) NameRefusal) → (answer ≡ Err Memory) ⊎ (answer ≡ read_name text)
    → answer ≡ Ok name → read_name text ≡ Ok name
is_read text name answer (inl e) is = absurd (cc)
is_read text name answer (inr e) is = sym e ∙ is

-- bytes of names have no slash, and no escape
no_slash : (xs : List ℕ) → list_all is_name_byte xs ≡ true → has_slash xs ≡ false
no_slash [] e = refl
no_slash (x ∷ xs) e =
    let parts = and_parts _ _ e in
    rw (name_no_slash x parts.0) (no_slash xs parts.1)

no_escape : (xs : List ℕ) → list_all is_name_byte xs ≡ true → percent_decode xs ≡ xs
no_escape [] e = percent_decode-nil
no_escape (x ∷ xs) e =
    let parts = and_parts _ _ e in
    percent_decode_not_percent x xs (name_no_percent x parts.0) ∙ ap (λ ys. x ∷ ys) (no_escape xs parts.1)

all_unescaped : (xs : List ℕ) → list_all is_name_byte xs ≡ true → list_all is_unescaped xs ≡ true
all_unescaped [] e = refl
all_unescaped (x ∷ xs) e =
    let parts = and_parts _ _ e in
    and_from _ _ (name_unescaped x parts.0) (all_unescaped xs parts.1)

-- plain bytes are ASCII, and none begins a query
all_low : (xs : List ℕ) → list_all is_unescaped xs ≡ true → All (λ b. b < 128) xs
all_low [] e = All-nil (λ b. b < 128)
all_low (x ∷ xs) e =
    let parts = and_parts (is_unescaped x) (list_all is_unescaped xs) e in
    let low : x < 128 = let p : is_unescaped x ≡ true = parts.0 in grind (arith, nat_tests) in
    All-cons (λ b. b < 128) x xs low (all_low xs parts.1)

no_query : (xs : List ℕ) → list_all is_unescaped xs ≡ true → position_or_len (λ b. b == 63) xs ≡ length xs
no_query [] e = refl
no_query (x ∷ xs) e =
    let parts = and_parts (is_unescaped x) (list_all is_unescaped xs) e in
    let other : (x == 63) ≡ false = let p : is_unescaped x ≡ true = parts.0 in grind (arith, nat_tests) in
    rw (other, no_query xs parts.1) (omega arith)

path_unescaped : (c i : List ℕ) → list_all is_name_byte c ≡ true → list_all is_name_byte i ≡ true
    → list_all is_unescaped (record_path c i) ≡ true
path_unescaped c i e f =
    let names : list_all is_unescaped (c ++ 47 ∷ i) ≡ true = rw (list_all-append, all_unescaped c e, all_unescaped i f) refl in names

-- a path of this form, of its parts
pub path_parts : (path : List ℕ) → starts_with nat_eq path (codes "/v1/d/") ≡ true → 0 < length (id_in path)
    → path ≡ record_path (collection_in path) (id_in path)
path_parts path starts some =
    let p : ℕ → Bool = λ b. b == 47 in
    let behind = drop 6 path in
    let below : position_or_len p behind < length behind = omega (arith, length-drop (position_or_len p behind + 1) behind) in
    let separator : get_or behind (position_or_len p behind) 0 ≡ 47 =
    let passes = passes_at_first p behind 0 below in grind (arith, nat_tests) in
    sym (take-append-drop 6 path)
    ∙ ap₂ (λ xs ys. xs ++ ys) (sym ((bytes_decides (codes "/v1/d/") (take 6 path)).0 starts))
    (split_at_first p behind 0 below ∙ ap (λ b. collection_in path ++ b ∷ id_in path) separator)

-- such a path ends the target
path_is : (xs : List ℕ) → list_all is_unescaped xs ≡ true → 0 < length xs → path_of xs ≡ xs
unfolding path_of
path_is [] e some = absurd (omega arith)
path_is (x ∷ xs) e some =
    let all : length (x ∷ xs) ≤ position_or_len (λ b. b == 63) (x ∷ xs) = omega (no_query (x ∷ xs) e, arith) in
    ap or_root (take_all (position_or_len (λ b. b == 63) (x ∷ xs)) (x ∷ xs) all)

query_is : (xs : List ℕ) → list_all is_unescaped xs ≡ true → query_of xs ≡ None
query_is xs e =
    let past : nat_lt (position_or_len (λ b. b == 63) xs) (length xs) ≡ false =
    let end = no_query xs e in grind (arith, nat_tests) in
    rw past refl

-- it has the route of a record
route_is : (c i : List ℕ) → 0 < length c → 0 < length i → list_all is_name_byte c ≡ true → list_all is_name_byte i ≡ true
    → route_of (record_path c i) ≡ Some Record
route_is c i some many e f =
    let low = all_low (record_path c i) (path_unescaped c i e f) in
    route_of_record c i some many (no_slash c e) (no_slash i f)
    (IsUtf8-from_ascii (record_path c i) (IsAscii-from_all (record_path c i) low))
    (All-weaker (λ b. b < 128) (λ b. b < 256) (λ b l. omega arith) (record_path c i) low)

-- a name that has no escape
named : (text name : List ℕ) → read_name text ≡ Ok name → list_all is_name_byte text ≡ true → name_in text ≡ Ok name
unfolding name_in
named text name e good = rw (no_escape text good, e) refl

-- What is known of a target that begins as a record's and goes on with two names without escapes.
record IsUnescaped (s : Served) (path collection id : List ℕ) : Type 0 where
  path_same : path_of path ≡ path
  query_none : query_of path ≡ None
  route_found : served_of s (route_of path) ≡ Some Record
  collection_is : name_in (collection_in path) ≡ Ok collection
  id_is : name_in (id_in path) ≡ Ok id

served_record : (s : Served) (found : Option Route) → serves s Record ≡ true → found ≡ Some Record
    → served_of s found ≡ Some Record
served_record s found e is = rw (is, e) refl

unescaped_target : (s : Served) (path collection id : List ℕ) → starts_with nat_eq path (codes "/v1/d/") ≡ true
    → serves s Record ≡ true → read_name (collection_in path) ≡ Ok collection → read_name (id_in path) ≡ Ok id
    → IsUnescaped s path collection id
unescaped_target s path collection id starts served e f =
    let one = read_name_is (collection_in path) collection e in
    let two = read_name_is (id_in path) id f in
    let whole = path_parts path starts two.some in
    let unescaped : list_all is_unescaped path ≡ true =
    ap (list_all is_unescaped) whole ∙ path_unescaped (collection_in path) (id_in path) one.good two.good in
    let some : 0 < length path = omega (ap length whole, arith) in
    let route : route_of path ≡ Some Record =
    ap route_of whole ∙ route_is (collection_in path) (id_in path) one.some two.some one.good two.good in
    record {
      path_same = path_is path unescaped some;
      query_none = query_is path unescaped;
      route_found = served_record s (route_of path) served route;
      collection_is = named (collection_in path) collection e one.good;
      id_is = named (id_in path) id f two.good;
    }

asked_by : (m : Message) (path collection id : List ℕ) (r : Result Method Refused)
    → name_in (collection_in path) ≡ Ok collection → name_in (id_in path) ≡ Ok id
    → and_then r (λ method. and_then (fields_or_not (fields_in Record None)) (λ values. ask_by m path method Record values))
    ≡ and_then r (λ method. record_by m collection id method)
unfolding fields_in
asked_by m path collection id (Ok method) e f = rw (e, f) refl
asked_by m path collection id (Err refused) e f = refl

free_by : (m : Message) (path collection id : List ℕ) (r : Result Method Refused)
    → name_in (collection_in path) ≡ Ok collection → name_in (id_in path) ≡ Ok id
    → is_free_with m path None Record r ≡ is_bare_put m r
free_by m path collection id (Ok method) e f = rw (e, f) refl
free_by m path collection id (Err refused) e f = refl

-- A path whose names have no escape.
module _ (s : Served) (m : Message) (path collection id : List ℕ)
    (starts : starts_with nat_eq path (codes "/v1/d/") ≡ true) (served : serves s Record ≡ true)
    (one : read_name (collection_in path) ≡ Ok collection) (two : read_name (id_in path) ≡ Ok id) where
  known : IsUnescaped s path collection id
  known = unescaped_target s path collection id starts served one two

  -- what a request of it asks
  pub record_asked : ask_at m (path_of path) (query_of path) (served_of s (route_of (path_of path)))
      ≡ and_then (method_in m Record) (λ method. record_by m collection id method)
  record_asked =
      rw (known.path_same, known.query_none, known.route_found)
      (asked_by m path collection id (method_in m Record) known.collection_is known.id_is)

  -- whether it is answered without memory
  pub record_free : is_free_at m (path_of path) (query_of path) (served_of s (route_of (path_of path)))
      ≡ is_bare_put m (method_in m Record)
  record_free =
      rw (known.path_same, known.query_none, known.route_found)
      (free_by m path collection id (method_in m Record) known.collection_is known.id_is)

-- a request of a target
pub asked_at : (s : Served) (m : Message) (local : List ℕ) (answer : Result Ask Refused) → has_host m ≡ true
    → local_part m.target ≡ Some local
    → ask_at m (path_of local) (query_of local) (served_of s (route_of (path_of local))) ≡ answer → ask_of s m ≡ answer
unfolding ask_of
asked_at s m local answer hosted local_is e = rw (hosted, local_is) e
