-- What the server prints of a head, the client reads.
use Rattle.std.proofs.Common.{◌≡◌, ℕ, zero, suc, ◌<◌, ◌≤◌, ◌^◌, true, false, List, [], ◌++◌, map, refl, sym, ◌∙◌, ap, arith, inl, inr, append_assoc, nat_lt}
use Rattle.std.proofs.lemmas.Bool.{cases_Bool, lt-ltb}
use Rattle.std.specs.Prelude.{Some, None, codes, decimal, option_map, option_and_then, ◌==◌, if◌then◌else◌}
use Rattle.std.specs.List.{flat_map}
use Rattle.std.specs.Str.{str_eq_ignore_ascii_case}
use Rattle.httparse.specs.Grammar.{trim_ows}
use Rattle.http_message.specs.Fields.{Pair, pieces_between, values}
use Rattle.http_front.specs.Origins.{IsTellable}
use Rattle.http_front.specs.Reply.{allow_field, pages_fields, close_field, date_field, lifetime_field, media_field, number_field, tag_field, head_fields}
use Rattle.http_front.specs.declared.head.Head.{Head}
use Rattle.client_wire.specs.Numbers.{number_in, length_in, date_in, tag_in, body_limit}
use Rattle.client_wire.specs.ReplyFields.{directives, first_value, lifetime_by, parts_of, size_of, verdict_of}
use Rattle.wire_law.specs.Printed.{FieldsAreRead, printed_date, printed_parts, printed_size}
use Rattle.wire_law.proofs.FieldLemmas.{Lacks, both_lack, none_lack, number_lacks, date_lacks, media_lacks, tag_lacks, lifetime_lacks, allow_lacks, pages_lacks, close_lacks, behind, first_number, first_date, first_tag, values_between, AreTaken, taken_on, media_taken, lifetime_taken, allow_taken, pages_taken, close_taken, date_taken, length_taken, tag_taken, commit_taken, version_taken, until_taken}
use Rattle.wire_law.proofs.ValueLemmas.{date_read, length_read, number_read, no_store_read, max_age_read, shared_read}

-- The numbers of a head are of their width, and its origin may be told, as those of each head that the program has.
pub record IsInWidth (h : Head) : Type 0 where
  pub commit : (n : ℕ) → h.commit ≡ Some n → n < 2 ^ 64
  pub version : (n : ℕ) → h.version ≡ Some n → n < 2 ^ 64
  pub until : (n : ℕ) → h.until ≡ Some n → n < 2 ^ 64
  pub tag : (n : ℕ) → h.tag ≡ Some n → n < 2 ^ 64
  pub length : (n : ℕ) → h.length ≡ Some n → n < 2 ^ 64
  pub ttl : h.ttl < 2 ^ 32
  pub shared : h.shared < 2 ^ 32
  pub leave : IsTellable h.leave

module _ (h : Head) (date : List ℕ) where
  -- the fields from each on
  abbrev from_close : List Pair
  from_close = close_field h.close

  abbrev from_pages : List Pair
  from_pages = pages_fields h.leave h.calls ++ from_close

  abbrev from_until : List Pair
  from_until = number_field (codes "Quaestor-Until") h.until ++ from_pages

  abbrev from_version : List Pair
  from_version = number_field (codes "Quaestor-Version") h.version ++ from_until

  abbrev from_commit : List Pair
  from_commit = number_field (codes "Quaestor-Commit") h.commit ++ from_version

  abbrev from_allow : List Pair
  from_allow = allow_field h.allow ++ from_commit

  abbrev from_lifetime : List Pair
  from_lifetime = lifetime_field h.ttl h.shared ++ from_allow

  abbrev from_tag : List Pair
  from_tag = tag_field h.tag ++ from_lifetime

  abbrev from_length : List Pair
  from_length = number_field (codes "Content-Length") h.length ++ from_tag

  abbrev from_media : List Pair
  from_media = media_field h.media ++ from_length

  -- the last fields are of other names
  end_lacks : {name : List ℕ} → str_eq_ignore_ascii_case (codes "Access-Control-Allow-Origin") name ≡ false
      → str_eq_ignore_ascii_case (codes "Access-Control-Expose-Headers") name ≡ false
      → str_eq_ignore_ascii_case (codes "Vary") name ≡ false
      → str_eq_ignore_ascii_case (codes "Access-Control-Allow-Methods") name ≡ false
      → str_eq_ignore_ascii_case (codes "Access-Control-Allow-Headers") name ≡ false
      → str_eq_ignore_ascii_case (codes "Access-Control-Max-Age") name ≡ false
      → str_eq_ignore_ascii_case (codes "Connection") name ≡ false → Lacks name from_pages
  end_lacks origin exposed vary methods headers age close =
      both_lack (pages_lacks h.leave h.calls origin exposed vary methods headers age) (close_lacks h.close close)

  -- ---- what the fields say

  commit_printed : first_value (codes "quaestor-commit") (head_fields h date) ≡ option_map decimal h.commit
  unfolding head_fields
  commit_printed =
      let name : List ℕ = codes "quaestor-commit" in
      behind name (date_field h.dated date) from_media (date_lacks h.dated date refl)
      ∙ behind name (media_field h.media) from_length (media_lacks h.media refl)
      ∙ behind name (number_field (codes "Content-Length") h.length) from_tag (number_lacks (codes "Content-Length") h.length refl)
      ∙ behind name (tag_field h.tag) from_lifetime (tag_lacks h.tag refl)
      ∙ behind name (lifetime_field h.ttl h.shared) from_allow (lifetime_lacks h.ttl h.shared refl)
      ∙ behind name (allow_field h.allow) from_commit (allow_lacks h.allow refl)
      ∙ first_number name (codes "Quaestor-Commit") h.commit from_version refl
      (both_lack (number_lacks (codes "Quaestor-Version") h.version refl)
      (both_lack (number_lacks (codes "Quaestor-Until") h.until refl) (end_lacks refl refl refl refl refl refl refl)))

  version_printed : first_value (codes "quaestor-version") (head_fields h date) ≡ option_map decimal h.version
  unfolding head_fields
  version_printed =
      let name : List ℕ = codes "quaestor-version" in
      behind name (date_field h.dated date) from_media (date_lacks h.dated date refl)
      ∙ behind name (media_field h.media) from_length (media_lacks h.media refl)
      ∙ behind name (number_field (codes "Content-Length") h.length) from_tag (number_lacks (codes "Content-Length") h.length refl)
      ∙ behind name (tag_field h.tag) from_lifetime (tag_lacks h.tag refl)
      ∙ behind name (lifetime_field h.ttl h.shared) from_allow (lifetime_lacks h.ttl h.shared refl)
      ∙ behind name (allow_field h.allow) from_commit (allow_lacks h.allow refl)
      ∙ behind name (number_field (codes "Quaestor-Commit") h.commit) from_version (number_lacks (codes "Quaestor-Commit") h.commit refl)
      ∙ first_number name (codes "Quaestor-Version") h.version from_until refl
      (both_lack (number_lacks (codes "Quaestor-Until") h.until refl) (end_lacks refl refl refl refl refl refl refl))

  until_printed : first_value (codes "quaestor-until") (head_fields h date) ≡ option_map decimal h.until
  unfolding head_fields
  until_printed =
      let name : List ℕ = codes "quaestor-until" in
      behind name (date_field h.dated date) from_media (date_lacks h.dated date refl)
      ∙ behind name (media_field h.media) from_length (media_lacks h.media refl)
      ∙ behind name (number_field (codes "Content-Length") h.length) from_tag (number_lacks (codes "Content-Length") h.length refl)
      ∙ behind name (tag_field h.tag) from_lifetime (tag_lacks h.tag refl)
      ∙ behind name (lifetime_field h.ttl h.shared) from_allow (lifetime_lacks h.ttl h.shared refl)
      ∙ behind name (allow_field h.allow) from_commit (allow_lacks h.allow refl)
      ∙ behind name (number_field (codes "Quaestor-Commit") h.commit) from_version (number_lacks (codes "Quaestor-Commit") h.commit refl)
      ∙ behind name (number_field (codes "Quaestor-Version") h.version) from_until (number_lacks (codes "Quaestor-Version") h.version refl)
      ∙ first_number name (codes "Quaestor-Until") h.until from_pages refl (end_lacks refl refl refl refl refl refl refl)

  date_printed : (seconds : ℕ) → date_in date ≡ Some seconds
      → option_and_then date_in (first_value (codes "date") (head_fields h date)) ≡ printed_date h.dated seconds
  unfolding head_fields
  date_printed seconds is =
      first_date h.dated date seconds from_media is
      (both_lack (media_lacks h.media refl)
      (both_lack (number_lacks (codes "Content-Length") h.length refl)
      (both_lack (tag_lacks h.tag refl)
      (both_lack (lifetime_lacks h.ttl h.shared refl)
      (both_lack (allow_lacks h.allow refl)
      (both_lack (number_lacks (codes "Quaestor-Commit") h.commit refl)
      (both_lack (number_lacks (codes "Quaestor-Version") h.version refl)
      (both_lack (number_lacks (codes "Quaestor-Until") h.until refl) (end_lacks refl refl refl refl refl refl refl)))))))))

  tag_printed : ((n : ℕ) → h.tag ≡ Some n → n < 2 ^ 64)
      → option_and_then tag_in (first_value (codes "etag") (head_fields h date)) ≡ h.tag
  unfolding head_fields
  tag_printed small =
      let name : List ℕ = codes "etag" in
      ap (option_and_then tag_in)
      (behind name (date_field h.dated date) from_media (date_lacks h.dated date refl)
      ∙ behind name (media_field h.media) from_length (media_lacks h.media refl)
      ∙ behind name (number_field (codes "Content-Length") h.length) from_tag (number_lacks (codes "Content-Length") h.length refl))
      ∙ first_tag h.tag from_lifetime small
      (both_lack (lifetime_lacks h.ttl h.shared refl)
      (both_lack (allow_lacks h.allow refl)
      (both_lack (number_lacks (codes "Quaestor-Commit") h.commit refl)
      (both_lack (number_lacks (codes "Quaestor-Version") h.version refl)
      (both_lack (number_lacks (codes "Quaestor-Until") h.until refl) (end_lacks refl refl refl refl refl refl refl))))))

  length_printed : first_value (codes "content-length") (head_fields h date) ≡ option_map decimal h.length
  unfolding head_fields
  length_printed =
      let name : List ℕ = codes "content-length" in
      behind name (date_field h.dated date) from_media (date_lacks h.dated date refl)
      ∙ behind name (media_field h.media) from_length (media_lacks h.media refl)
      ∙ first_number name (codes "Content-Length") h.length from_tag refl
      (both_lack (tag_lacks h.tag refl)
      (both_lack (lifetime_lacks h.ttl h.shared refl)
      (both_lack (allow_lacks h.allow refl)
      (both_lack (number_lacks (codes "Quaestor-Commit") h.commit refl)
      (both_lack (number_lacks (codes "Quaestor-Version") h.version refl)
      (both_lack (number_lacks (codes "Quaestor-Until") h.until refl) (end_lacks refl refl refl refl refl refl refl)))))))

  -- the fields before the lifetime, and that one is behind them
  abbrev before_lifetime : List Pair
  before_lifetime = date_field h.dated date ++ (media_field h.media ++ (number_field (codes "Content-Length") h.length ++ tag_field h.tag))

  lifetime_between : head_fields h date ≡ before_lifetime ++ (lifetime_field h.ttl h.shared ++ from_allow)
  unfolding head_fields
  lifetime_between =
      let d = date_field h.dated date in
      let m = media_field h.media in
      let l = number_field (codes "Content-Length") h.length in
      let t = tag_field h.tag in
      sym (append_assoc d (m ++ (l ++ t)) from_lifetime
      ∙ ap (λ (ps : List Pair). d ++ ps) (append_assoc m (l ++ t) from_lifetime ∙ ap (λ (ps : List Pair). m ++ ps) (append_assoc l t from_lifetime)))

  values_printed : values (codes "cache-control") (head_fields h date) ≡ values (codes "cache-control") (lifetime_field h.ttl h.shared)
  values_printed =
      ap (values (codes "cache-control")) lifetime_between
      ∙ values_between (codes "cache-control") before_lifetime (lifetime_field h.ttl h.shared) from_allow
      (both_lack (date_lacks h.dated date refl)
      (both_lack (media_lacks h.media refl)
      (both_lack (number_lacks (codes "Content-Length") h.length refl) (tag_lacks h.tag refl))))
      (both_lack (allow_lacks h.allow refl)
      (both_lack (number_lacks (codes "Quaestor-Commit") h.commit refl)
      (both_lack (number_lacks (codes "Quaestor-Version") h.version refl)
      (both_lack (number_lacks (codes "Quaestor-Until") h.until refl) (end_lacks refl refl refl refl refl refl refl)))))

  -- ---- no field is refused

  none_refused : (seconds : ℕ) → IsInWidth h → date_in date ≡ Some seconds
      → ((h.status == 304) ≡ false → (n : ℕ) → h.length ≡ Some n → n ≤ body_limit) → AreTaken h.status [] (head_fields h date)
  unfolding head_fields
  none_refused seconds width is fits =
      taken_on {before = []} (date_taken h.dated date seconds is none_lack)
      (taken_on (media_taken h.media)
      (taken_on (length_taken h.length fits (both_lack (date_lacks h.dated date refl) (media_lacks h.media refl)))
      (taken_on (tag_taken h.tag (both_lack (both_lack (date_lacks h.dated date refl) (media_lacks h.media refl)) (number_lacks (codes "Content-Length") h.length refl)))
      (taken_on (lifetime_taken h.ttl h.shared)
      (taken_on (allow_taken h.allow)
      (taken_on (commit_taken h.commit width.commit (front refl refl refl refl refl refl))
      (taken_on (version_taken h.version width.version (both_lack (front refl refl refl refl refl refl) (number_lacks (codes "Quaestor-Commit") h.commit refl)))
      (taken_on (until_taken h.until width.until (both_lack (both_lack (front refl refl refl refl refl refl) (number_lacks (codes "Quaestor-Commit") h.commit refl)) (number_lacks (codes "Quaestor-Version") h.version refl)))
      (taken_on (pages_taken h.leave h.calls) (close_taken h.close))))))))))
    where
      front : {name : List ℕ} → str_eq_ignore_ascii_case (codes "Date") name ≡ false → str_eq_ignore_ascii_case (codes "Content-Type") name ≡ false
          → str_eq_ignore_ascii_case (codes "Content-Length") name ≡ false → str_eq_ignore_ascii_case (codes "ETag") name ≡ false
          → str_eq_ignore_ascii_case (codes "Cache-Control") name ≡ false → str_eq_ignore_ascii_case (codes "Allow") name ≡ false
          → Lacks name (date_field h.dated date ++ media_field h.media ++ number_field (codes "Content-Length") h.length ++ tag_field h.tag ++ lifetime_field h.ttl h.shared ++ allow_field h.allow)
      front d m l t c a =
          both_lack (both_lack (both_lack (both_lack (both_lack (date_lacks h.dated date d) (media_lacks h.media m)) (number_lacks (codes "Content-Length") h.length l))
          (tag_lacks h.tag t)) (lifetime_lacks h.ttl h.shared c)) (allow_lacks h.allow a)

-- for how long it is fresh
lifetime_printed : (ttl shared : ℕ) → ttl < 2 ^ 32
    → lifetime_by (map trim_ows (flat_map (pieces_between 44) (values (codes "cache-control") (lifetime_field ttl shared)))) ≡ (if nat_lt 0 ttl then Some ttl else None)
unfolding values
lifetime_printed zero shared small = no_store_read
lifetime_printed (suc n) zero small =
    let some : nat_lt 0 (suc n) ≡ true = lt-ltb 0 (suc n) (omega arith) in
    rw some (max_age_read (suc n) small)
lifetime_printed (suc n) (suc m) small =
    let some : nat_lt 0 (suc n) ≡ true = lt-ltb 0 (suc n) (omega arith) in
    rw some (shared_read (suc n) (suc m) small)

max_age_printed : (h : Head) (date : List ℕ) → h.ttl < 2 ^ 32
    → lifetime_by (directives (head_fields h date)) ≡ (if nat_lt 0 h.ttl then Some h.ttl else None)
unfolding directives
max_age_printed h date small =
    ap (λ (vs : List (List ℕ)). lifetime_by (map trim_ows (flat_map (pieces_between 44) vs))) (values_printed h date) ∙ lifetime_printed h.ttl h.shared small

parts_read : (h : Head) (seconds : ℕ) (date : List ℕ) → IsInWidth h → date_in date ≡ Some seconds
    → parts_of h.status (head_fields h date) ≡ printed_parts h seconds
unfolding parts_of
parts_read h seconds date width is =
    let commit = ap (option_and_then number_in) (commit_printed h date) ∙ number_read h.commit width.commit in
    let version = ap (option_and_then number_in) (version_printed h date) ∙ number_read h.version width.version in
    let until = ap (option_and_then number_in) (until_printed h date) ∙ number_read h.until width.until in
    let dated = date_printed h date seconds is in
    let max_age = max_age_printed h date width.ttl in
    let tag = tag_printed h date width.tag in
    λ i. record {
      status = h.status;
      commit = commit i;
      version = version i;
      until = until i;
      date = dated i;
      max_age = max_age i;
      tag = tag i;
    }

size_read : (h : Head) (date : List ℕ) (size : ℕ) → printed_size h ≡ Some size → size ≤ body_limit
    → size_of h.status (head_fields h date) ≡ Some size
unfolding size_of
size_read h date size is limit =
    elim (cases_Bool (h.status == 304)) [
      | inl e ↦ let none : Some 0 ≡ Some size = rw e at is in rw e none
      | inr e ↦
          let told : h.length ≡ Some size = rw e at is in
          rw e (ap (option_and_then length_in) (length_printed h date ∙ ap (option_map decimal) told) ∙ length_read size limit)
    ]

fits_by : (h : Head) (size : ℕ) → printed_size h ≡ Some size → size ≤ body_limit
    → (h.status == 304) ≡ false → (n : ℕ) → h.length ≡ Some n → n ≤ body_limit
fits_by h size is limit e n told =
    let known : h.length ≡ Some size = rw e at is in
    let same : n ≡ size = cc in
    omega (arith, same, limit)

-- what the server prints, the client reads
pub fields_read : (h : Head) → IsInWidth h → FieldsAreRead h
unfolding verdict_of
fields_read h width seconds date size p =
    let is = date_read seconds date p.dated in
    let good = (none_refused h date seconds width is (fits_by h size p.size_is p.limit)).none in
    let sized = size_read h date size p.size_is p.limit in
    record {
      parts_are = parts_read h seconds date width is;
      verdict_is = λ text. rw (good, sized) refl;
    }
