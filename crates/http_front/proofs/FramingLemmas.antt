-- The head of a reply frames its body.
use Rattle.std.proofs.Common.{◌≡◌, ℕ, zero, suc, ◌^◌, ◌<◌, Bool, true, false, cond, List, [], ◌∷◌, ◌++◌, length, nat_lt, refl, ap, ◌∙◌, arith, codes}
use Rattle.std.proofs.lemmas.Bool.{and_from}
use Rattle.std.proofs.lemmas.Bool.Decides.{nat_tests}
use Rattle.std.proofs.lemmas.Fmt.{decimal_is_IsNumeral, decimal_nonempty}
use Rattle.std.proofs.lemmas.Grind.{flat_map-append}
use Rattle.std.proofs.lemmas.List.{append-nil}
use Rattle.std.specs.List.{flat_map}
use Rattle.std.specs.Prelude.{decimal, Option, Some, None}
use Rattle.std.specs.Str.Parse.{digits_value}
use Rattle.http1.specs.Fields.{Header, content_length, elements, is_named, is_number, known_fields}
use Rattle.http1.specs.Text.{eq_ignore_case}
use Rattle.http1.specs.declared.fields.ContentLength.TheVariants.{Value}
use Rattle.http_front.specs.Origins.{LeaveTold}
use Rattle.http_front.specs.ReadBack.{FramesItsBody}
use Rattle.http_front.specs.Reply.{head_fields, number_field, date_field, media_field, tag_field, lifetime_field, allow_field, origin_fields, vary_field, calls_fields, pages_fields, close_field}
use Rattle.http_front.specs.declared.head.Head.{Head}
use Rattle.http_front.specs.declared.head.MediaType.{MediaType}
use Rattle.http_front.specs.declared.head.MediaType.TheVariants.{Json, OctetStream}
use Rattle.http_front.specs.declared.refused.Allow.{Allow}
use Rattle.http_front.proofs.VisibleLemmas.{decimal_digits}

-- What a search for a name finds: it finds nothing in some fields.
module _ (found : Header → List (List ℕ)) where
  pub record Lacks (fields : List Header) : Type 0 where
    pub none : flat_map found fields ≡ []

  lacks-append : {xs ys : List Header} → Lacks xs → Lacks ys → Lacks (xs ++ ys)
  lacks-append {xs} {ys} p q =
      record { none = flat_map-append found xs ys ∙ ap (λ l. l ++ flat_map found ys) p.none ∙ q.none }

  behind : (xs ys : List Header) → Lacks xs → flat_map found (xs ++ ys) ≡ flat_map found ys
  behind xs ys p = flat_map-append found xs ys ∙ ap (λ l. l ++ flat_map found ys) p.none

  ahead : (xs ys : List Header) → Lacks ys → flat_map found (xs ++ ys) ≡ flat_map found xs
  ahead xs ys p = flat_map-append found xs ys ∙ ap (λ l. flat_map found xs ++ l) p.none ∙ append-nil (flat_map found xs)

  one_lacks : (name value : List ℕ) → found (name, value) ≡ [] → Lacks ((name, value) ∷ [])
  one_lacks name value e = record { none = append-nil _ ∙ e }

  none_lacks : Lacks []
  none_lacks = record { none = refl }

  -- no field of a head has the name, but its length
  pub record IsElsewhere : Type 0 where
    pub date : (v : List ℕ) → found (codes "Date", v) ≡ []
    pub media : (v : List ℕ) → found (codes "Content-Type", v) ≡ []
    pub tag : (v : List ℕ) → found (codes "ETag", v) ≡ []
    pub lifetime : (v : List ℕ) → found (codes "Cache-Control", v) ≡ []
    pub allow : (v : List ℕ) → found (codes "Allow", v) ≡ []
    pub commit : (v : List ℕ) → found (codes "Quaestor-Commit", v) ≡ []
    pub version : (v : List ℕ) → found (codes "Quaestor-Version", v) ≡ []
    pub until : (v : List ℕ) → found (codes "Quaestor-Until", v) ≡ []
    pub origin : (v : List ℕ) → found (codes "Access-Control-Allow-Origin", v) ≡ []
    pub exposed : (v : List ℕ) → found (codes "Access-Control-Expose-Headers", v) ≡ []
    pub vary : (v : List ℕ) → found (codes "Vary", v) ≡ []
    pub methods : (v : List ℕ) → found (codes "Access-Control-Allow-Methods", v) ≡ []
    pub headers : (v : List ℕ) → found (codes "Access-Control-Allow-Headers", v) ≡ []
    pub age : (v : List ℕ) → found (codes "Access-Control-Max-Age", v) ≡ []
    pub close : (v : List ℕ) → found (codes "Connection", v) ≡ []

  date_lacks : IsElsewhere → (dated : Bool) (date : List ℕ) → Lacks (date_field dated date)
  date_lacks e true date = one_lacks _ _ (e.date date)
  date_lacks e false date = none_lacks

  media_lacks : IsElsewhere → (media : Option MediaType) → Lacks (media_field media)
  media_lacks e None = none_lacks
  media_lacks e (Some Json) = one_lacks _ _ (e.media _)
  media_lacks e (Some OctetStream) = one_lacks _ _ (e.media _)

  number_lacks : (name : List ℕ) → ((v : List ℕ) → found (name, v) ≡ []) → (o : Option ℕ) → Lacks (number_field name o)
  number_lacks name e None = none_lacks
  number_lacks name e (Some n) = one_lacks _ _ (e (decimal n))

  tag_lacks : IsElsewhere → (o : Option ℕ) → Lacks (tag_field o)
  tag_lacks e None = none_lacks
  tag_lacks e (Some n) = one_lacks _ _ (e.tag _)

  lifetime_lacks : IsElsewhere → (ttl shared : ℕ) → Lacks (lifetime_field ttl shared)
  lifetime_lacks e zero shared = one_lacks _ _ (e.lifetime _)
  lifetime_lacks e (suc n) zero = one_lacks _ _ (e.lifetime _)
  lifetime_lacks e (suc n) (suc m) = one_lacks _ _ (e.lifetime _)

  allow_lacks : IsElsewhere → (allow : Option Allow) → Lacks (allow_field allow)
  allow_lacks e None = none_lacks
  allow_lacks e (Some allow) = one_lacks _ _ (e.allow _)

  origin_lacks : IsElsewhere → (allow : Option (List ℕ)) → Lacks (origin_fields allow)
  origin_lacks e None = none_lacks
  origin_lacks e (Some origin) = lacks-append (one_lacks _ _ (e.origin _)) (one_lacks _ _ (e.exposed _))

  vary_lacks : IsElsewhere → (varies : Bool) → Lacks (vary_field varies)
  vary_lacks e true = one_lacks _ _ (e.vary _)
  vary_lacks e false = none_lacks

  calls_lacks : IsElsewhere → (calls : Option Allow) → Lacks (calls_fields calls)
  calls_lacks e None = none_lacks
  calls_lacks e (Some allow) =
      lacks-append (one_lacks _ _ (e.methods _)) (lacks-append (one_lacks _ _ (e.headers _)) (one_lacks _ _ (e.age _)))

  pages_lacks : IsElsewhere → (leave : LeaveTold) (calls : Option Allow) → Lacks (pages_fields leave calls)
  pages_lacks e leave calls =
      lacks-append (origin_lacks e leave.allow) (lacks-append (vary_lacks e leave.varies) (calls_lacks e calls))

  close_lacks : IsElsewhere → (close : Bool) → Lacks (close_field close)
  close_lacks e true = one_lacks _ _ (e.close _)
  close_lacks e false = none_lacks

  -- so what is found in a head is found in its length
  pub found_in_length : IsElsewhere → (h : Head) (date : List ℕ)
      → flat_map found (head_fields h date) ≡ flat_map found (number_field (codes "Content-Length") h.length)
  unfolding head_fields
  found_in_length e h date =
      behind (date_field h.dated date) _ (date_lacks e h.dated date)
      ∙ behind (media_field h.media) _ (media_lacks e h.media)
      ∙ ahead (number_field (codes "Content-Length") h.length) _
      (lacks-append (tag_lacks e h.tag) (lacks-append (lifetime_lacks e h.ttl h.shared) (lacks-append (allow_lacks e h.allow)
      (lacks-append (number_lacks _ e.commit h.commit) (lacks-append (number_lacks _ e.version h.version)
      (lacks-append (number_lacks _ e.until h.until) (lacks-append (pages_lacks e h.leave h.calls) (close_lacks e h.close))))))))

abbrev coding : Header → List (List ℕ)
coding h = cond (is_named (codes "transfer-encoding") h) (elements h.1) []

abbrev size : Header → List (List ℕ)
size h = cond (is_named (codes "content-length") h) (h.1 ∷ []) []

coding_elsewhere : IsElsewhere coding
unfolding eq_ignore_case
coding_elsewhere = record {
  date = λ v. refl;
  media = λ v. refl;
  tag = λ v. refl;
  lifetime = λ v. refl;
  allow = λ v. refl;
  commit = λ v. refl;
  version = λ v. refl;
  until = λ v. refl;
  origin = λ v. refl;
  exposed = λ v. refl;
  vary = λ v. refl;
  methods = λ v. refl;
  headers = λ v. refl;
  age = λ v. refl;
  close = λ v. refl;
}

size_elsewhere : IsElsewhere size
unfolding eq_ignore_case
size_elsewhere = record {
  date = λ v. refl;
  media = λ v. refl;
  tag = λ v. refl;
  lifetime = λ v. refl;
  allow = λ v. refl;
  commit = λ v. refl;
  version = λ v. refl;
  until = λ v. refl;
  origin = λ v. refl;
  exposed = λ v. refl;
  vary = λ v. refl;
  methods = λ v. refl;
  headers = λ v. refl;
  age = λ v. refl;
  close = λ v. refl;
}

no_coding : (o : Option ℕ) → flat_map coding (number_field (codes "Content-Length") o) ≡ []
unfolding eq_ignore_case
no_coding None = refl
no_coding (Some n) = refl

one_size : (o : Option ℕ) (n : ℕ) → o ≡ Some n → flat_map size (number_field (codes "Content-Length") o) ≡ decimal n ∷ []
unfolding eq_ignore_case
one_size o n e = rw e refl

is_length : (n : ℕ) → n < 2 ^ 64 → content_length (decimal n ∷ []) ≡ Value n
is_length n low =
    let value : digits_value 10 (decimal n) ≡ n = (decimal_is_IsNumeral n low).1 in
    let some : nat_lt 0 (length (decimal n)) ≡ true = let s = decimal_nonempty n low in grind (arith, nat_tests) in
    let fits : nat_lt (digits_value 10 (decimal n)) (2 ^ 64) ≡ true = rw value (grind (arith, nat_tests)) in
    let number : is_number (decimal n) ≡ true = and_from _ _ some (and_from _ _ (decimal_digits n) fits) in
    rw (number, value) refl

-- a head with a length
pub frames : (h : Head) → ((n : ℕ) → h.length ≡ Some n → n < 2 ^ 64) → FramesItsBody h
unfolding known_fields
frames h small date n told bodied =
    let codings = found_in_length coding coding_elsewhere h date ∙ no_coding h.length in
    let sizes = found_in_length size size_elsewhere h date ∙ one_size h.length n told in
    rw (bodied, codings, sizes, is_length n (small n told)) refl
