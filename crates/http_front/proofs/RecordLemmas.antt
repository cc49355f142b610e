-- The route of a record's path, found by a walk over the table.
use Rattle.std.proofs.Common.{◌≡◌, ◌≢◌, ℕ, zero, suc, ◌+◌, ◌-◌, ◌<◌, Bool, true, false, cond, List, [], ◌∷◌, ◌++◌, length, refl, sym, ◌∙◌, ap, arith, ltb, codes}
use Rattle.std.proofs.lemmas.Bool.Decides.{nat_tests}
use Rattle.std.proofs.lemmas.Bool.{cond-true}
use Rattle.std.proofs.lemmas.List.Elements.{All-head, All-tail, All-drop}
use Rattle.std.proofs.lemmas.List.{length-append}
use Rattle.std.proofs.Math.Seq.{drop-append_seam}
use Rattle.std.specs.Str.{IsUtf8}
use Rattle.matchit.proofs.RenameLemmas.{seek-rename}
use Rattle.http_front.proofs.QueryLemmas.{utf8_yes}
use Rattle.std.specs.Prelude.{All, ◌==◌, Option, Some, None, option_map}
use Rattle.matchit.specs.Rows.{RowsOf, param_token}
use Rattle.matchit.specs.Router.{RouteOf, rename, map_key}
use Rattle.matchit.specs.Seek.{own, step, seek, first, param_step, has_slash, segment, cuts}
use Rattle.matchit.proofs.OnLiterals.{matchit_on_literals}
use Rattle.http_front.specs.Routes.{table, route_of}
use Rattle.http_front.specs.declared.routes.Route.{Route}
use Rattle.http_front.specs.declared.routes.Route.TheVariants.{Record, Query, Filter, Purges, Match, Horizon, Stats}

pub All-right : (P : ℕ → Type 0) (xs ys : List ℕ) → All P (xs ++ ys) → All P ys
All-right P [] ys h = h
All-right P (x ∷ xs) ys h = All-right P xs ys (All-tail P x (xs ++ ys) h)

module _ {K : Type 0} where
  pub no_param : (p : List ℕ) → (param_step {K = K} [] p).1 ≡ []
  unfolding param_step
  no_param p =
      elim (has_slash p) as (λ v. (cond {A = ℕ × RowsOf K} v (0, []) (length p, [])).1 ≡ []) [
        | true ↦ refl
        | false ↦ refl
      ]

  -- no row matches
  pub seek_none : (k : ℕ) (p : List ℕ) → seek {K = K} k [] p ≡ None
  unfolding seek
  seek_none k [] = refl
  seek_none (suc k) (b ∷ p) = seek_none k p
  seek_none zero (b ∷ p) = simp (seek_none 0 p, no_param (b ∷ p), seek_none (((param_step {K = K} [] (b ∷ p)).0) - 1) p)

  -- a walk skips a text
  pub seek_skip : (c q : List ℕ) (r : RowsOf K) → seek (length c) r (c ++ q) ≡ seek 0 r q
  unfolding seek
  seek_skip [] q r = refl
  seek_skip (x ∷ c) q r = seek_skip c q r

  -- a match of the rows that go on with the first byte
  pub seek_byte : (b : ℕ) (p : List ℕ) (r : RowsOf K) (key : K) → seek 0 (step b r) p ≡ Some key → seek 0 r (b ∷ p) ≡ Some key
  unfolding seek
  seek_byte b p r key e = rw e refl

  -- where there is none, a match of those that go on with a parameter
  pub seek_param : (b : ℕ) (p : List ℕ) (r : RowsOf K) (key : K) → seek 0 (step b r) p ≡ None
      → seek ((param_step (step param_token r) (b ∷ p)).0 - 1) (param_step (step param_token r) (b ∷ p)).1 p ≡ Some key
      → seek 0 r (b ∷ p) ≡ Some key
  unfolding seek
  seek_param b p r key none e = rw (none, e) refl

-- a segment that a slash ends
pub segment_ended : (c q : List ℕ) → has_slash c ≡ false → segment (c ++ 47 ∷ q) ≡ c ++ 47 ∷ []
segment_ended [] q e = refl
segment_ended (x ∷ c) q e = by (x == 47) refl e (segment_ended c q)
  where
    by : (v : Bool) → (x == 47) ≡ v → cond v true (has_slash c) ≡ false
        → (has_slash c ≡ false → segment (c ++ 47 ∷ q) ≡ c ++ 47 ∷ [])
        → segment (x ∷ c ++ 47 ∷ q) ≡ x ∷ c ++ 47 ∷ []
    by true q0 e ih = absurd (cc)
    by false q0 e ih = rw q0 (ap (λ z. x ∷ z) (ih e))

-- where it ends a segment that has other bytes
pub slash_cuts : (c : List ℕ) → 0 < length c → cuts (c ++ 47 ∷ []) (47 ∷ []) ≡ true
slash_cuts c some =
    let longer : length (c ++ 47 ∷ []) ≡ length c + 1 = length-append c (47 ∷ []) in
    let cut : length (c ++ 47 ∷ []) - 1 ≡ length c = omega arith in
    let more : ltb 1 (length (c ++ 47 ∷ [])) ≡ true = grind (arith, nat_tests) in
    rw (more, cut, drop-append_seam c (47 ∷ [])) refl

pub less_one : (n : ℕ) → suc n - 1 ≡ n
less_one n = omega arith

module _ {K : Type 0} where
  -- a parameter takes the bytes before a slash
  pub param_slash : (c q t : List ℕ) (key : K) → 0 < length c → has_slash c ≡ false
      → param_step ((47 ∷ t, key) ∷ []) (c ++ 47 ∷ q) ≡ (length c, (47 ∷ t, key) ∷ [])
  unfolding param_step
  param_slash c q t key some e =
      let size : length (c ++ 47 ∷ []) - 1 ≡ length c = omega (arith, length-append c (47 ∷ [])) in
      rw (segment_ended c q e, slash_cuts c some, size) refl

  -- or all of the path, where none is left
  pub param_all : (path : List ℕ) (key : K) → has_slash path ≡ false
      → param_step (([], key) ∷ []) path ≡ (length path, ([], key) ∷ [])
  unfolding param_step
  param_all path key e = rw e refl

  seek_over : (i : List ℕ) (r : RowsOf K) → seek (length i) r i ≡ own r
  unfolding seek
  seek_over [] r = refl
  seek_over (x ∷ i) r = seek_over i r

  pub no_token : (x : ℕ) (t : List ℕ) (key : K) → x ≢ 256 → step x ((256 ∷ t, key) ∷ []) ≡ []
  no_token x t key other =
      let e : (256 == x) ≡ false = grind (arith, nat_tests) in
      rw e refl

  -- a last parameter
  pub id_found : (y : ℕ) (i : List ℕ) (key : K) → y ≢ 256 → has_slash (y ∷ i) ≡ false
      → seek 0 ((256 ∷ [], key) ∷ []) (y ∷ i) ≡ Some key
  id_found y i key other e =
      seek_param y i ((256 ∷ [], key) ∷ []) key
      (ap (λ r. seek 0 r i) (no_token y [] key other) ∙ seek_none 0 i)
      (ap (λ taken. seek (taken.0 - 1) taken.1 i) (param_all (y ∷ i) key e)
      ∙ ap (λ k. seek k (([], key) ∷ []) i) (less_one (length i))
      ∙ seek_over i (([], key) ∷ []))

  -- a parameter, a slash and a last parameter
  pub names_found : (x : ℕ) (c : List ℕ) (y : ℕ) (i : List ℕ) (key : K) → x ≢ 256 → y ≢ 256
      → has_slash (x ∷ c) ≡ false → has_slash (y ∷ i) ≡ false
      → seek 0 ((256 ∷ 47 ∷ 256 ∷ [], key) ∷ []) (x ∷ c ++ 47 ∷ y ∷ i) ≡ Some key
  names_found x c y i key x_other y_other e f =
      seek_param x (c ++ 47 ∷ y ∷ i) ((256 ∷ 47 ∷ 256 ∷ [], key) ∷ []) key
      (ap (λ r. seek 0 r (c ++ 47 ∷ y ∷ i)) (no_token x (47 ∷ 256 ∷ []) key x_other) ∙ seek_none 0 (c ++ 47 ∷ y ∷ i))
      (ap (λ taken. seek (taken.0 - 1) taken.1 (c ++ 47 ∷ y ∷ i)) (param_slash (x ∷ c) (y ∷ i) (256 ∷ []) key (omega arith) e)
      ∙ ap (λ k. seek k ((47 ∷ 256 ∷ [], key) ∷ []) (c ++ 47 ∷ y ∷ i)) (less_one (length c))
      ∙ seek_skip c (47 ∷ y ∷ i) ((47 ∷ 256 ∷ [], key) ∷ [])
      ∙ seek_byte 47 (y ∷ i) ((47 ∷ 256 ∷ [], key) ∷ []) key (id_found y i key y_other f))

-- the table with the routes alone
abbrev pub rest : RowsOf Route
rest =
    (codes "filter", Filter) ∷ (codes "horizon", Horizon) ∷ (codes "match", Match) ∷ (codes "purges", Purges)
    ∷ (codes "q/" ++ 256 ∷ [], Query) ∷ (codes "stats", Stats) ∷ []

abbrev pub under : List ℕ → RowsOf Route → RowsOf Route
under w [] = []
under w ((t, key) ∷ rows) = (w ++ t, key) ∷ under w rows

abbrev pub value_rows : RowsOf Route
value_rows = under (codes "/v1/") ((codes "d/" ++ 256 ∷ 47 ∷ 256 ∷ [], Record) ∷ rest)

abbrev pub value_of : RouteOf Route → Route
value_of row = row.value

is_value_rows : rename value_of table ≡ value_rows
unfolding table matchit_on_literals
is_value_rows = refl

-- a path of this form
abbrev pub record_path : List ℕ → List ℕ → List ℕ
record_path c i = codes "/v1/d/" ++ (c ++ 47 ∷ i)

plain_found : (x : ℕ) (c : List ℕ) (y : ℕ) (i : List ℕ) → x ≢ 256 → y ≢ 256
    → has_slash (x ∷ c) ≡ false → has_slash (y ∷ i) ≡ false → first value_rows (record_path (x ∷ c) (y ∷ i)) ≡ Some Record
plain_found x c y i x_other y_other e f =
    let rest = x ∷ c ++ 47 ∷ y ∷ i in
    seek_byte 47 (118 ∷ 49 ∷ 47 ∷ 100 ∷ 47 ∷ rest) value_rows Record
    (seek_byte 118 (49 ∷ 47 ∷ 100 ∷ 47 ∷ rest) (step 47 value_rows) Record
    (seek_byte 49 (47 ∷ 100 ∷ 47 ∷ rest) (step 118 (step 47 value_rows)) Record
    (seek_byte 47 (100 ∷ 47 ∷ rest) (step 49 (step 118 (step 47 value_rows))) Record
    (seek_byte 100 (47 ∷ rest) (step 47 (step 49 (step 118 (step 47 value_rows)))) Record
    (seek_byte 47 rest (step 100 (step 47 (step 49 (step 118 (step 47 value_rows))))) Record
    (names_found x c y i Record x_other y_other e f))))))

values_same : (o : Option (RouteOf Route)) → option_map value_of o ≡ map_key value_of o
values_same None = refl
values_same (Some row) = refl

-- the value of the first row is the first value
pub first_value : (path : List ℕ) → option_map value_of (first table path) ≡ first value_rows path
first_value path =
    values_same (first table path) ∙ sym (seek-rename value_of 0 table path) ∙ ap (λ rows. first rows path) is_value_rows

-- a path of this form, whose names have no slash, is a record's
pub route_of_record : (c i : List ℕ) → 0 < length c → 0 < length i → has_slash c ≡ false → has_slash i ≡ false
    → IsUtf8 (record_path c i) → All (λ b. b < 256) (record_path c i) → route_of (record_path c i) ≡ Some Record
unfolding route_of
route_of_record [] i some many e f valid low = absurd (omega arith)
route_of_record (x ∷ c) [] some many e f valid low = absurd (omega arith)
route_of_record (x ∷ c) (y ∷ i) some many e f valid low =
    let path = record_path (x ∷ c) (y ∷ i) in
    let x_low : x < 256 = low 6 0 (omega arith) in
    let y_low : y < 256 = All-head (λ b. b < 256) y i (All-tail (λ b. b < 256) 47 (y ∷ i) (All-right (λ b. b < 256) c (47 ∷ y ∷ i) (All-drop (λ b. b < 256) 7 path low))) in
    cond-true _ _ _ (utf8_yes path valid)
    ∙ first_value path
    ∙ plain_found x c y i (λ q. omega arith) (λ q. omega arith) e f
