-- Which fields of a head are found by a name, and that none is refused.
use Rattle.std.proofs.Common.{◌≡◌, ℕ, zero, suc, ◌<◌, ◌≤◌, ◌^◌, Bool, true, false, List, [], ◌∷◌, ◌++◌, length, map, filter, refl, sym, ◌∙◌, ap, subst, arith, inl, inr, append_assoc}
use Rattle.std.proofs.lemmas.Bool.{cases_Bool, true≢false}
use Rattle.std.proofs.lemmas.List.{append-nil}
use Rattle.std.proofs.lemmas.List.Elements.{filter-append}
use Rattle.std.proofs.lemmas.List.Folds.{list_any-append}
use Rattle.std.specs.Prelude.{Option, Some, None, codes, decimal, option_map, option_and_then, ◌==◌}
use Rattle.std.specs.Str.{str_eq_ignore_ascii_case}
use Rattle.http_message.specs.Fields.{Pair, is_named, values}
use Rattle.http_front.specs.Origins.{LeaveTold}
use Rattle.http_front.specs.Reply.{methods_text, allow_field, origin_fields, vary_field, calls_fields, pages_fields, close_field, date_field, lifetime_field, media_field, number_field, tag_field}
use Rattle.http_front.specs.declared.head.MediaType.{MediaType}
use Rattle.http_front.specs.declared.head.MediaType.TheVariants.{Json, OctetStream}
use Rattle.http_front.specs.declared.refused.Allow.{Allow}
use Rattle.client_wire.specs.Numbers.{number_in, length_in, date_in, tag_in, body_limit}
use Rattle.client_wire.specs.ReplyFields.{first_refused, first_value, is_refused, stands}
use Rattle.wire_law.specs.Printed.{printed_date}
use Rattle.wire_law.proofs.ValueLemmas.{decimal_within, length_read, tag_read}

-- ---- fields that stand and fields that do not

-- No field of this name is among these.
pub record Lacks (name : List ℕ) (fields : List Pair) : Type 0 where
  pub none : stands name fields ≡ false

module _ {name : List ℕ} where
  pub both_lack : {xs ys : List Pair} → Lacks name xs → Lacks name ys → Lacks name (xs ++ ys)
  both_lack {xs} {ys} first second = record { none = list_any-append (is_named name) xs ys ∙ rw (first.none, second.none) refl }

  pub none_lack : Lacks name []
  none_lack = record { none = refl }

  one_lacks : (title value : List ℕ) → str_eq_ignore_ascii_case title name ≡ false → Lacks name ((title, value) ∷ [])
  one_lacks title value other = record { none = rw other refl }

  pub number_lacks : (title : List ℕ) (o : Option ℕ) → str_eq_ignore_ascii_case title name ≡ false → Lacks name (number_field title o)
  number_lacks title None other = none_lack
  number_lacks title (Some n) other = one_lacks title (decimal n) other

  pub date_lacks : (dated : Bool) (date : List ℕ) → str_eq_ignore_ascii_case (codes "Date") name ≡ false → Lacks name (date_field dated date)
  date_lacks true date other = one_lacks (codes "Date") date other
  date_lacks false date other = none_lack

  pub media_lacks : (o : Option MediaType) → str_eq_ignore_ascii_case (codes "Content-Type") name ≡ false → Lacks name (media_field o)
  media_lacks None other = none_lack
  media_lacks (Some Json) other = one_lacks (codes "Content-Type") (codes "application/json") other
  media_lacks (Some OctetStream) other = one_lacks (codes "Content-Type") (codes "application/octet-stream") other

  pub tag_lacks : (o : Option ℕ) → str_eq_ignore_ascii_case (codes "ETag") name ≡ false → Lacks name (tag_field o)
  tag_lacks None other = none_lack
  tag_lacks (Some n) other = one_lacks (codes "ETag") (codes "\"" ++ (decimal n ++ codes "\"")) other

  pub lifetime_lacks : (ttl shared : ℕ) → str_eq_ignore_ascii_case (codes "Cache-Control") name ≡ false → Lacks name (lifetime_field ttl shared)
  lifetime_lacks zero shared other = one_lacks (codes "Cache-Control") (codes "no-store") other
  lifetime_lacks (suc n) zero other = one_lacks (codes "Cache-Control") (codes "max-age=" ++ decimal (suc n)) other
  lifetime_lacks (suc n) (suc m) other =
      one_lacks (codes "Cache-Control") (((codes "public, max-age=" ++ decimal (suc n)) ++ codes ", ") ++ (codes "s-maxage=" ++ decimal (suc m))) other

  pub allow_lacks : (o : Option Allow) → str_eq_ignore_ascii_case (codes "Allow") name ≡ false → Lacks name (allow_field o)
  allow_lacks None other = none_lack
  allow_lacks (Some allow) other = one_lacks (codes "Allow") (methods_text allow) other

  origin_lacks : (o : Option (List ℕ)) → str_eq_ignore_ascii_case (codes "Access-Control-Allow-Origin") name ≡ false
      → str_eq_ignore_ascii_case (codes "Access-Control-Expose-Headers") name ≡ false → Lacks name (origin_fields o)
  origin_lacks None first second = none_lack
  origin_lacks (Some origin) first second =
      both_lack (one_lacks (codes "Access-Control-Allow-Origin") origin first)
      (one_lacks (codes "Access-Control-Expose-Headers") (codes "Date, ETag, Quaestor-Commit, Quaestor-Until, Quaestor-Version") second)

  vary_lacks : (varies : Bool) → str_eq_ignore_ascii_case (codes "Vary") name ≡ false → Lacks name (vary_field varies)
  vary_lacks true other = one_lacks (codes "Vary") (codes "Origin") other
  vary_lacks false other = none_lack

  calls_lacks : (o : Option Allow) → str_eq_ignore_ascii_case (codes "Access-Control-Allow-Methods") name ≡ false
      → str_eq_ignore_ascii_case (codes "Access-Control-Allow-Headers") name ≡ false
      → str_eq_ignore_ascii_case (codes "Access-Control-Max-Age") name ≡ false → Lacks name (calls_fields o)
  calls_lacks None first second third = none_lack
  calls_lacks (Some allow) first second third =
      both_lack (one_lacks (codes "Access-Control-Allow-Methods") (methods_text allow) first)
      (both_lack (one_lacks (codes "Access-Control-Allow-Headers") (codes "Cache-Control, Content-Type, If-Match, If-None-Match") second)
      (one_lacks (codes "Access-Control-Max-Age") (codes "600") third))

  pub pages_lacks : (leave : LeaveTold) (calls : Option Allow) → str_eq_ignore_ascii_case (codes "Access-Control-Allow-Origin") name ≡ false
      → str_eq_ignore_ascii_case (codes "Access-Control-Expose-Headers") name ≡ false
      → str_eq_ignore_ascii_case (codes "Vary") name ≡ false
      → str_eq_ignore_ascii_case (codes "Access-Control-Allow-Methods") name ≡ false
      → str_eq_ignore_ascii_case (codes "Access-Control-Allow-Headers") name ≡ false
      → str_eq_ignore_ascii_case (codes "Access-Control-Max-Age") name ≡ false → Lacks name (pages_fields leave calls)
  pages_lacks leave calls origin exposed vary methods headers age =
      both_lack (origin_lacks leave.allow origin exposed) (both_lack (vary_lacks leave.varies vary) (calls_lacks calls methods headers age))

  pub close_lacks : (close : Bool) → str_eq_ignore_ascii_case (codes "Connection") name ≡ false → Lacks name (close_field close)
  close_lacks true other = one_lacks (codes "Connection") (codes "close") other
  close_lacks false other = none_lack

-- ---- the first field of a name

first_none : (name : List ℕ) (xs : List Pair) → stands name xs ≡ false → first_value name xs ≡ None
first_none name [] none = refl
first_none name (p ∷ xs) none =
    elim (cases_Bool (is_named name p)) [
      | inl named ↦ absurd (true≢false (rw named at none))
      | inr other ↦ rw other (first_none name xs (rw other at none))
    ]

first_behind : (name : List ℕ) (xs ys : List Pair) → stands name xs ≡ false → first_value name (xs ++ ys) ≡ first_value name ys
first_behind name [] ys none = refl
first_behind name (p ∷ xs) ys none =
    elim (cases_Bool (is_named name p)) [
      | inl named ↦ absurd (true≢false (rw named at none))
      | inr other ↦ rw other (first_behind name xs ys (rw other at none))
    ]

pub behind : (name : List ℕ) (xs ys : List Pair) → Lacks name xs → first_value name (xs ++ ys) ≡ first_value name ys
behind name xs ys none = first_behind name xs ys none.none

pub first_number : (name title : List ℕ) (o : Option ℕ) (ys : List Pair) → str_eq_ignore_ascii_case title name ≡ true → Lacks name ys
    → first_value name (number_field title o ++ ys) ≡ option_map decimal o
first_number name title None ys named none = first_none name ys none.none
first_number name title (Some n) ys named none = rw named refl

pub first_date : (dated : Bool) (date : List ℕ) (seconds : ℕ) (ys : List Pair) → date_in date ≡ Some seconds → Lacks (codes "date") ys
    → option_and_then date_in (first_value (codes "date") (date_field dated date ++ ys)) ≡ printed_date dated seconds
first_date true date seconds ys is none = is
first_date false date seconds ys is none = ap (option_and_then date_in) (first_none (codes "date") ys none.none)

pub first_tag : (o : Option ℕ) (ys : List Pair) → ((n : ℕ) → o ≡ Some n → n < 2 ^ 64) → Lacks (codes "etag") ys
    → option_and_then tag_in (first_value (codes "etag") (tag_field o ++ ys)) ≡ o
first_tag None ys small none = ap (option_and_then tag_in) (first_none (codes "etag") ys none.none)
first_tag (Some n) ys small none = tag_read n (small n refl)

-- ---- all fields of a name

none_filtered : (name : List ℕ) (xs : List Pair) → stands name xs ≡ false → filter (is_named name) xs ≡ []
none_filtered name [] none = refl
none_filtered name (p ∷ xs) none =
    elim (cases_Bool (is_named name p)) [
      | inl named ↦ absurd (true≢false (rw named at none))
      | inr other ↦ rw other (none_filtered name xs (rw other at none))
    ]

-- the values among some fields that lack the name, one that has it, and some that lack it
pub values_between : (name : List ℕ) (xs ys zs : List Pair) → Lacks name xs → Lacks name zs → values name (xs ++ (ys ++ zs)) ≡ values name ys
unfolding values
values_between name xs ys zs first last =
    let before : filter (is_named name) xs ≡ [] = none_filtered name xs first.none in
    let after : filter (is_named name) zs ≡ [] = none_filtered name zs last.none in
    let whole : filter (is_named name) (xs ++ (ys ++ zs)) ≡ filter (is_named name) ys =
    filter-append (is_named name) xs (ys ++ zs)
    ∙ ap (λ (ps : List Pair). ps ++ filter (is_named name) (ys ++ zs)) before
    ∙ filter-append (is_named name) ys zs
    ∙ ap (λ (ps : List Pair). filter (is_named name) ys ++ ps) after
    ∙ append-nil (filter (is_named name) ys) in
    ap (map (λ (pair : Pair). pair.1)) whole

-- ---- no field is refused

-- None of these fields, behind those, is refused.
pub record AreTaken (status : ℕ) (before fields : List Pair) : Type 0 where
  pub none : first_refused status before fields ≡ None

refused_on : (status : ℕ) (before xs ys : List Pair) → first_refused status before xs ≡ None → first_refused status (before ++ xs) ys ≡ None
    → first_refused status before (xs ++ ys) ≡ None
refused_on status before [] ys first rest = subst (λ (ps : List Pair). first_refused status ps ys ≡ None) (append-nil before) rest
refused_on status before (p ∷ xs) ys first rest =
    elim (cases_Bool (is_refused status before p)) [
      | inl bad ↦ let clash : Some (length before) ≡ None = rw bad at first in absurd (cc)
      | inr good ↦ rw good (refused_on status (before ++ p ∷ []) xs ys (rw good at first)
          (subst (λ (ps : List Pair). first_refused status ps ys ≡ None) (sym (append_assoc before (p ∷ []) xs)) rest))
    ]

pub taken_on : {status : ℕ} {before xs ys : List Pair} → AreTaken status before xs → AreTaken status (before ++ xs) ys → AreTaken status before (xs ++ ys)
taken_on {status = status} {before = before} {xs} {ys} first rest = record { none = refused_on status before xs ys first.none rest.none }

module _ {status : ℕ} {before : List Pair} where
  none_taken : AreTaken status before []
  none_taken = record { none = refl }

  one_taken : (title value : List ℕ) → is_refused status before (title, value) ≡ false → AreTaken status before ((title, value) ∷ [])
  one_taken title value good = record { none = rw good refl }

  -- fields that are not looked at
  pub media_taken : (o : Option MediaType) → AreTaken status before (media_field o)
  media_taken None = none_taken
  media_taken (Some Json) =
      one_taken (codes "Content-Type") (codes "application/json")
      (elim (cases_Bool (status == 304)) [ inl e ↦ rw e refl | inr e ↦ rw e refl ])
  media_taken (Some OctetStream) =
      one_taken (codes "Content-Type") (codes "application/octet-stream")
      (elim (cases_Bool (status == 304)) [ inl e ↦ rw e refl | inr e ↦ rw e refl ])

  pub lifetime_taken : (ttl shared : ℕ) → AreTaken status before (lifetime_field ttl shared)
  lifetime_taken zero shared =
      one_taken (codes "Cache-Control") (codes "no-store")
      (elim (cases_Bool (status == 304)) [ inl e ↦ rw e refl | inr e ↦ rw e refl ])
  lifetime_taken (suc n) zero =
      one_taken (codes "Cache-Control") (codes "max-age=" ++ decimal (suc n))
      (elim (cases_Bool (status == 304)) [ inl e ↦ rw e refl | inr e ↦ rw e refl ])
  lifetime_taken (suc n) (suc m) =
      one_taken (codes "Cache-Control") (((codes "public, max-age=" ++ decimal (suc n)) ++ codes ", ") ++ (codes "s-maxage=" ++ decimal (suc m)))
      (elim (cases_Bool (status == 304)) [ inl e ↦ rw e refl | inr e ↦ rw e refl ])

  pub allow_taken : (o : Option Allow) → AreTaken status before (allow_field o)
  allow_taken None = none_taken
  allow_taken (Some allow) =
      one_taken (codes "Allow") (methods_text allow)
      (elim (cases_Bool (status == 304)) [ inl e ↦ rw e refl | inr e ↦ rw e refl ])

  pub close_taken : (close : Bool) → AreTaken status before (close_field close)
  close_taken false = none_taken
  close_taken true =
      one_taken (codes "Connection") (codes "close")
      (elim (cases_Bool (status == 304)) [ inl e ↦ rw e refl | inr e ↦ rw e refl ])

  -- fields that stand once, with a value of their form
  pub date_taken : (dated : Bool) (date : List ℕ) (seconds : ℕ) → date_in date ≡ Some seconds → Lacks (codes "date") before → AreTaken status before (date_field dated date)
  date_taken false date seconds is once = none_taken
  date_taken true date seconds is once =
      let first = once.none in
      one_taken (codes "Date") date
      (elim (cases_Bool (status == 304)) [ inl e ↦ rw (e, first, is) refl | inr e ↦ rw (e, first, is) refl ])

  pub length_taken : (o : Option ℕ) → ((status == 304) ≡ false → (n : ℕ) → o ≡ Some n → n ≤ body_limit) → Lacks (codes "content-length") before
      → AreTaken status before (number_field (codes "Content-Length") o)
  length_taken None fits once = none_taken
  length_taken (Some n) fits once =
      let first = once.none in
      one_taken (codes "Content-Length") (decimal n)
      (elim (cases_Bool (status == 304)) [
        | inl e ↦ rw e refl
        | inr e ↦ let is : length_in (decimal n) ≡ Some n = length_read n (fits e n refl) in rw (e, first, is) refl
      ])

  pub tag_taken : (o : Option ℕ) → Lacks (codes "etag") before → AreTaken status before (tag_field o)
  tag_taken None once = none_taken
  tag_taken (Some n) once =
      let first = once.none in
      one_taken (codes "ETag") (codes "\"" ++ (decimal n ++ codes "\""))
      (elim (cases_Bool (status == 304)) [ inl e ↦ rw (e, first) refl | inr e ↦ rw (e, first) refl ])

  pub commit_taken : (o : Option ℕ) → ((n : ℕ) → o ≡ Some n → n < 2 ^ 64) → Lacks (codes "quaestor-commit") before
      → AreTaken status before (number_field (codes "Quaestor-Commit") o)
  commit_taken None small once = none_taken
  commit_taken (Some n) small once =
      let first = once.none in
      let is : number_in (decimal n) ≡ Some n = decimal_within 18446744073709551615 n (small n refl) (omega (arith, small n refl)) in
      one_taken (codes "Quaestor-Commit") (decimal n)
      (elim (cases_Bool (status == 304)) [ inl e ↦ rw (e, first, is) refl | inr e ↦ rw (e, first, is) refl ])

  pub version_taken : (o : Option ℕ) → ((n : ℕ) → o ≡ Some n → n < 2 ^ 64) → Lacks (codes "quaestor-version") before
      → AreTaken status before (number_field (codes "Quaestor-Version") o)
  version_taken None small once = none_taken
  version_taken (Some n) small once =
      let first = once.none in
      let is : number_in (decimal n) ≡ Some n = decimal_within 18446744073709551615 n (small n refl) (omega (arith, small n refl)) in
      one_taken (codes "Quaestor-Version") (decimal n)
      (elim (cases_Bool (status == 304)) [ inl e ↦ rw (e, first, is) refl | inr e ↦ rw (e, first, is) refl ])

  pub until_taken : (o : Option ℕ) → ((n : ℕ) → o ≡ Some n → n < 2 ^ 64) → Lacks (codes "quaestor-until") before
      → AreTaken status before (number_field (codes "Quaestor-Until") o)
  until_taken None small once = none_taken
  until_taken (Some n) small once =
      let first = once.none in
      let is : number_in (decimal n) ≡ Some n = decimal_within 18446744073709551615 n (small n refl) (omega (arith, small n refl)) in
      one_taken (codes "Quaestor-Until") (decimal n)
      (elim (cases_Bool (status == 304)) [ inl e ↦ rw (e, first, is) refl | inr e ↦ rw (e, first, is) refl ])

-- what is said to pages is not looked at
origin_taken : {status : ℕ} {before : List Pair} (o : Option (List ℕ)) → AreTaken status before (origin_fields o)
origin_taken {status} {before} None = none_taken
origin_taken {status} {before} (Some origin) =
    taken_on {status = status} {before = before}
    (one_taken (codes "Access-Control-Allow-Origin") origin
    (elim (cases_Bool (status == 304)) [ inl e ↦ rw e refl | inr e ↦ rw e refl ]))
    (one_taken (codes "Access-Control-Expose-Headers") (codes "Date, ETag, Quaestor-Commit, Quaestor-Until, Quaestor-Version")
    (elim (cases_Bool (status == 304)) [ inl e ↦ rw e refl | inr e ↦ rw e refl ]))

vary_taken : {status : ℕ} {before : List Pair} (varies : Bool) → AreTaken status before (vary_field varies)
vary_taken {status} {before} false = none_taken
vary_taken {status} {before} true =
    one_taken (codes "Vary") (codes "Origin")
    (elim (cases_Bool (status == 304)) [ inl e ↦ rw e refl | inr e ↦ rw e refl ])

calls_taken : {status : ℕ} {before : List Pair} (o : Option Allow) → AreTaken status before (calls_fields o)
calls_taken {status} {before} None = none_taken
calls_taken {status} {before} (Some allow) =
    taken_on {status = status} {before = before}
    (one_taken (codes "Access-Control-Allow-Methods") (methods_text allow)
    (elim (cases_Bool (status == 304)) [ inl e ↦ rw e refl | inr e ↦ rw e refl ]))
    (taken_on
    (one_taken (codes "Access-Control-Allow-Headers") (codes "Cache-Control, Content-Type, If-Match, If-None-Match")
    (elim (cases_Bool (status == 304)) [ inl e ↦ rw e refl | inr e ↦ rw e refl ]))
    (one_taken (codes "Access-Control-Max-Age") (codes "600")
    (elim (cases_Bool (status == 304)) [ inl e ↦ rw e refl | inr e ↦ rw e refl ])))

pub pages_taken : {status : ℕ} {before : List Pair} (leave : LeaveTold) (calls : Option Allow) → AreTaken status before (pages_fields leave calls)
pages_taken {status} {before} leave calls =
    taken_on {status = status} {before = before} (origin_taken leave.allow) (taken_on (vary_taken leave.varies) (calls_taken calls))
