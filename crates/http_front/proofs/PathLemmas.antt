-- A path that has the route of a record has two names.
use Rattle.std.proofs.Common.{◌≡◌, ◌≢◌, ℕ, zero, suc, ◌-◌, ◌<◌, ◌≤◌, Bool, true, false, cond, nat_lt, List, [], ◌∷◌, ◌++◌, length, drop, refl, sym, ◌∙◌, ap, ap₂, arith, inl, inr, ◌⊎◌, codes, subst}
use Rattle.std.proofs.lemmas.Bool.Decides.{nat_tests}
use Rattle.std.specs.Prelude.{All, ◌==◌, Option, Some, None, option_map}
use Rattle.std.specs.Str.{IsUtf8, is_utf8}
use Rattle.std.proofs.lemmas.List.Elements.{All-head, All-tail, All-cons, All-nil}
use Rattle.std.proofs.lemmas.Str.{IsUtf8-from_is_utf8}
use Rattle.http_front.specs.Paths.{IsRecordPath}
use Rattle.http_front.specs.Routes.{route_of, table}
use Rattle.matchit.specs.Rows.{RowsOf, param_token, catch_all_token}
use Rattle.matchit.specs.Seek.{own, step, or_else, seek, first, param_step, has_slash, segment, longest_suffix, with_suffix, same_text}
use Rattle.http_front.specs.declared.routes.Route.{Route}
use Rattle.http_front.specs.declared.routes.Route.TheVariants.{Record}
use Rattle.http_front.proofs.RecordLemmas.{first_value, route_of_record, value_of, no_param, no_token, param_slash, value_rows, rest, seek_none, seek_skip, under, less_one}

module _ {K : Type 0} where
  or_none : (o : Option K) → or_else o None ≡ o
  or_none None = refl
  or_none (Some key) = refl

  -- the next segment is no parameter: the walk goes on by the byte alone
  pub by_byte : (b : ℕ) (p : List ℕ) (r : RowsOf K) → step param_token r ≡ [] → step catch_all_token r ≡ []
      → seek 0 r (b ∷ p) ≡ seek 0 (step b r) p
  unfolding seek
  by_byte b p r e f =
      rw (e, f, no_param {K = K} (b ∷ p), seek_none {K = K} ((param_step {K = K} [] (b ∷ p)).0 - 1) p)
      (or_none (seek 0 (step b r) p))

  -- no byte does: the walk goes on by the parameter alone
  pub by_param : (b : ℕ) (p : List ℕ) (r : RowsOf K) → step b r ≡ [] → step catch_all_token r ≡ []
      → seek 0 r (b ∷ p) ≡ seek ((param_step (step param_token r) (b ∷ p)).0 - 1) (param_step (step param_token r) (b ∷ p)).1 p
  unfolding seek
  by_param b p r e f =
      rw (e, f, seek_none {K = K} 0 p)
      (or_none (seek ((param_step (step param_token r) (b ∷ p)).0 - 1) (param_step (step param_token r) (b ∷ p)).1 p))

  pub seek_drop : (k : ℕ) (r : RowsOf K) (p : List ℕ) → seek k r p ≡ seek 0 r (drop k p)
  unfolding seek
  seek_drop zero r p = refl
  seek_drop (suc k) r [] = refl
  seek_drop (suc k) r (b ∷ p) = seek_drop k r p

-- rows behind a text
own_under : (x : ℕ) (w : List ℕ) (r : RowsOf Route) → own (under (x ∷ w) r) ≡ None
own_under x w [] = refl
own_under x w ((t, key) ∷ r) = own_under x w r

under_hit : (b : ℕ) (w : List ℕ) (r : RowsOf Route) → step b (under (b ∷ w) r) ≡ under w r
under_hit b w [] = refl
under_hit b w ((t, key) ∷ r) =
    let e : (b == b) ≡ true = grind (arith, nat_tests) in
    rw e (ap (λ z. (w ++ t, key) ∷ z) (under_hit b w r))

under_miss : (b x : ℕ) (w : List ℕ) (r : RowsOf Route) → (x == b) ≡ false → step b (under (x ∷ w) r) ≡ []
under_miss b x w [] e = refl
under_miss b x w ((t, key) ∷ r) e = rw e (under_miss b x w r e)

under_nil : (r : RowsOf Route) → under [] r ≡ r
under_nil [] = refl
under_nil ((t, key) ∷ r) = ap (λ z. (t, key) ∷ z) (under_nil r)

-- What a walk behind a text finds: the text, and what the walk finds behind it.
record Behind (w : List ℕ) (r : RowsOf Route) (path : List ℕ) (key : Route) : Type 0 where
  left : List ℕ
  is : path ≡ w ++ left
  found : first r left ≡ Some key

abbrev AreBytes : List ℕ → Type 0
AreBytes [] = Unit {0}
AreBytes (x ∷ xs) = (x < 256) × AreBytes xs

under_found : (w : List ℕ) (r : RowsOf Route) (path : List ℕ) (key : Route) → AreBytes w
    → first (under w r) path ≡ Some key → Behind w r path key
unfolding seek
under_found [] r path key low e = record { left = path; is = refl; found = ap (λ rows. first rows path) (sym (under_nil r)) ∙ e }
under_found (x ∷ w) r [] key low e = absurd (let none = own_under x w r in cc)
under_found (x ∷ w) r (y ∷ p) key low e = by (x == y) refl (under_found w r p key low.1)
  where
    no_token_x : (token : ℕ) → 256 ≤ token → step token (under (x ∷ w) r) ≡ []
    no_token_x token big = under_miss token x w r (let l = low.0 in grind (arith, nat_tests))

    further : seek 0 (step y (under (x ∷ w) r)) p ≡ Some key
    further = sym (by_byte y p (under (x ∷ w) r) (no_token_x 256 (omega arith)) (no_token_x 257 (omega arith))) ∙ e

    by : (v : Bool) → (x == y) ≡ v → (first (under w r) p ≡ Some key → Behind w r p key) → Behind (x ∷ w) r (y ∷ p) key
    by true q next =
        let same : x ≡ y = grind (arith, nat_tests) in
        let behind = next (sym (ap (λ rows. seek 0 rows p) (ap (λ b. step b (under (x ∷ w) r)) (sym same) ∙ under_hit x w r)) ∙ further) in
        record { left = behind.left; is = ap₂ (λ a b. a ∷ b) (sym same) behind.is; found = behind.found }
    by false q next =
        absurd (let none = sym further ∙ ap (λ rows. seek 0 rows p) (under_miss y x w r q) ∙ seek_none 0 p in cc)

-- no row has the route of a record
abbrev Lacks : RowsOf Route → Type 0
Lacks [] = Unit {0}
Lacks ((t, key) ∷ r) = (key ≢ Record) × Lacks r

lacks_own : (r : RowsOf Route) → Lacks r → own r ≢ Some Record
lacks_own [] h e = absurd (cc)
lacks_own (([], key) ∷ r) h e = h.0 (cc)
lacks_own ((x ∷ t, key) ∷ r) h e = lacks_own r h.1 e

lacks_step : (b : ℕ) (r : RowsOf Route) → Lacks r → Lacks (step b r)
lacks_step b [] h = tt
lacks_step b (([], key) ∷ r) h = lacks_step b r h.1
lacks_step b ((x ∷ t, key) ∷ r) h =
    elim (x == b) as (λ v. Lacks (cond v ((t, key) ∷ step b r) (step b r))) [
      | true ↦ (h.0, lacks_step b r h.1)
      | false ↦ lacks_step b r h.1
    ]

lacks_with : (s : List ℕ) (r : RowsOf Route) → Lacks r → Lacks (with_suffix s r)
lacks_with s [] h = tt
lacks_with s ((t, key) ∷ r) h =
    elim (same_text (segment t) s) as (λ v. Lacks (cond v ((t, key) ∷ with_suffix s r) (with_suffix s r))) [
      | true ↦ (h.0, lacks_with s r h.1)
      | false ↦ lacks_with s r h.1
    ]

lacks_param : (r : RowsOf Route) (path : List ℕ) → Lacks r → Lacks (param_step r path).1
unfolding param_step
lacks_param r path h = by (nat_lt 0 (length (longest_suffix (segment path) r))) (has_slash path)
  where
    by : (u v : Bool) → Lacks (cond {A = ℕ × RowsOf Route} u (length (segment path) - length (longest_suffix (segment path) r), with_suffix (longest_suffix (segment path) r) r) (cond v (0, []) (length path, r))).1
    by true v = lacks_with (longest_suffix (segment path) r) r h
    by false true = tt
    by false false = h

lacks_or : (a b : Option Route) → a ≢ Some Record → b ≢ Some Record → or_else a b ≢ Some Record
lacks_or None b f g = g
lacks_or (Some key) b f g = f

lacks_seek : (k : ℕ) (r : RowsOf Route) (p : List ℕ) → Lacks r → seek k r p ≢ Some Record
unfolding seek
lacks_seek k r [] h = lacks_own r h
lacks_seek (suc k) r (b ∷ p) h = lacks_seek k r p h
lacks_seek zero r (b ∷ p) h =
    lacks_or (seek 0 (step b r) p) _ (lacks_seek 0 (step b r) p (lacks_step b r h))
    (lacks_or (seek ((param_step (step param_token r) (b ∷ p)).0 - 1) (param_step (step param_token r) (b ∷ p)).1 p) _
    (lacks_seek ((param_step (step param_token r) (b ∷ p)).0 - 1) (param_step (step param_token r) (b ∷ p)).1 p
    (lacks_param (step param_token r) (b ∷ p) (lacks_step param_token r h)))
    (lacks_own (step catch_all_token r) (lacks_step catch_all_token r h)))

-- a text with a slash up to its first one, or without
record Cut (path : List ℕ) : Type 0 where
  prefix : List ℕ
  left : List ℕ
  is : path ≡ prefix ++ 47 ∷ left
  whole : has_slash prefix ≡ false

cut_at_slash : (path : List ℕ) → (has_slash path ≡ false) ⊎ Cut path
cut_at_slash [] = inl refl
cut_at_slash (x ∷ p) = by (x == 47) refl (cut_at_slash p)
  where
    by : (v : Bool) → (x == 47) ≡ v → (has_slash p ≡ false) ⊎ Cut p → (has_slash (x ∷ p) ≡ false) ⊎ Cut (x ∷ p)
    by true q h =
        let same : x ≡ 47 = grind (arith, nat_tests) in
        inr (record { prefix = []; left = p; is = ap (λ b. b ∷ p) same; whole = refl })
    by false q (inl none) = inl (rw q none)
    by false q (inr cut) =
        inr (record { prefix = x ∷ cut.prefix; left = cut.left; is = ap (λ t. x ∷ t) cut.is; whole = rw q cut.whole })

slash_in : (w left : List ℕ) → has_slash (w ++ 47 ∷ left) ≡ true
slash_in [] left = refl
slash_in (x ∷ w) left =
    elim (x == 47) as (λ v. cond v true (has_slash (w ++ 47 ∷ left)) ≡ true) [
      | true ↦ refl
      | false ↦ slash_in w left
    ]

no_slash_drop : (k : ℕ) (p : List ℕ) → has_slash p ≡ false → has_slash (drop k p) ≡ false
no_slash_drop zero p e = e
no_slash_drop (suc k) [] e = e
no_slash_drop (suc k) (x ∷ p) e = by (x == 47) refl e (no_slash_drop k p)
  where
    by : (v : Bool) → (x == 47) ≡ v → cond v true (has_slash p) ≡ false → (has_slash p ≡ false → has_slash (drop k p) ≡ false)
        → has_slash (drop k p) ≡ false
    by true q f next = absurd (cc)
    by false q f next = next f

-- the rows behind a collection's name, and behind an id's
abbrev behind_name : RowsOf Route
behind_name = (47 ∷ 256 ∷ [], Record) ∷ []

abbrev behind_id : RowsOf Route
behind_id = ([], Record) ∷ []

param_stops : (path : List ℕ) → has_slash path ≡ true → param_step behind_id path ≡ (0, [])
unfolding param_step
param_stops path e = rw e refl

-- the last parameter takes a name without a slash
record IsId (path : List ℕ) : Type 0 where
  some : 0 < length path
  whole : has_slash path ≡ false

id_back : (path : List ℕ) → AreBytes path → first ((256 ∷ [], Record) ∷ []) path ≡ Some Record → IsId path
unfolding seek
id_back [] low e = absurd (cc)
id_back (y ∷ i) low e = by (has_slash (y ∷ i)) refl
  where
    walk : seek ((param_step behind_id (y ∷ i)).0 - 1) (param_step behind_id (y ∷ i)).1 i ≡ Some Record
    walk = sym (by_param y i ((256 ∷ [], Record) ∷ []) (no_token y [] Record (λ q. let l = low.0 in omega arith)) refl) ∙ e

    by : (v : Bool) → has_slash (y ∷ i) ≡ v → IsId (y ∷ i)
    by false q = record { some = omega arith; whole = q }
    by true q =
        absurd (let stops : param_step behind_id (y ∷ i) ≡ (0, []) = param_stops (y ∷ i) q in
        let none = sym walk ∙ ap (λ taken. seek (taken.0 - 1) taken.1 i) stops ∙ seek_none (0 - 1) i in cc)

-- the rows of the names
abbrev names_row : RowsOf Route
names_row = (256 ∷ 47 ∷ 256 ∷ [], Record) ∷ []

no_later_slash : (x : ℕ) (p : List ℕ) → has_slash (x ∷ p) ≡ false → has_slash p ≡ false
no_later_slash x p e = by (x == 47) e
  where
    by : (v : Bool) → cond v true (has_slash p) ≡ false → has_slash p ≡ false
    by true f = absurd (cc)
    by false f = f

-- without a slash there is no way behind the first name
stuck : (k : ℕ) (p : List ℕ) → has_slash p ≡ false → seek k behind_name p ≢ Some Record
stuck k p none e =
    let behind = under_found (47 ∷ []) ((256 ∷ [], Record) ∷ []) (drop k p) Record (omega arith, tt) (sym (seek_drop k behind_name p) ∙ e) in
    let there : has_slash (drop k p) ≡ true = ap has_slash behind.is in
    let not_there = no_slash_drop k p none in
    absurd (cc)

stuck_by : (taken : ℕ × RowsOf Route) (p : List ℕ) → has_slash p ≡ false → (taken.1 ≡ behind_name) ⊎ (taken.1 ≡ [])
    → seek (taken.0 - 1) taken.1 p ≢ Some Record
stuck_by taken p none (inl rows) e = stuck (taken.0 - 1) p none (ap (λ r. seek (taken.0 - 1) r p) (sym rows) ∙ e)
stuck_by taken p none (inr rows) e =
    absurd (let nothing = sym e ∙ ap (λ r. seek (taken.0 - 1) r p) rows ∙ seek_none (taken.0 - 1) p in cc)

param_rows : (path : List ℕ) → ((param_step behind_name path).1 ≡ behind_name) ⊎ ((param_step behind_name path).1 ≡ [])
unfolding param_step
param_rows path = by (longest_suffix (segment path) behind_name) (nat_lt 0 (length (longest_suffix (segment path) behind_name))) (has_slash path)
  where
    one : (same : Bool) → (cond same behind_name [] ≡ behind_name) ⊎ (cond same behind_name [] ≡ [])
    one true = inl refl
    one false = inr refl

    by : (s : List ℕ) (u v : Bool)
        → ((cond {A = ℕ × RowsOf Route} u (length (segment path) - length s, with_suffix s behind_name) (cond v (0, []) (length path, behind_name))).1 ≡ behind_name)
        ⊎ ((cond {A = ℕ × RowsOf Route} u (length (segment path) - length s, with_suffix s behind_name) (cond v (0, []) (length path, behind_name))).1 ≡ [])
    by s true v = one (same_text (47 ∷ []) s)
    by s false true = inr refl
    by s false false = inl refl

-- A path behind `/v1/d/` that has a route: two names and a slash.
pub record Names (path : List ℕ) : Type 0 where
  pub collection : List ℕ
  pub id : List ℕ
  pub is : path ≡ collection ++ 47 ∷ id
  pub collection_some : 0 < length collection
  pub id_some : 0 < length id
  pub collection_whole : has_slash collection ≡ false
  pub id_whole : has_slash id ≡ false

later_bytes : (w left : List ℕ) → AreBytes (w ++ left) → AreBytes left
later_bytes [] left low = low
later_bytes (x ∷ w) left low = later_bytes w left low.1

walk_on : (x : ℕ) (p : List ℕ) → x < 256 → first names_row (x ∷ p) ≡ Some Record
    → seek ((param_step behind_name (x ∷ p)).0 - 1) (param_step behind_name (x ∷ p)).1 p ≡ Some Record
walk_on x p low e = sym (by_param x p names_row (no_token x (47 ∷ 256 ∷ []) Record (λ q. omega arith)) refl) ∙ e

slash_stops : (left : List ℕ) → param_step behind_name (47 ∷ left) ≡ (0, [])
unfolding param_step
slash_stops left = refl

names_cut : (prefix left : List ℕ) → has_slash prefix ≡ false → AreBytes (prefix ++ 47 ∷ left)
    → first names_row (prefix ++ 47 ∷ left) ≡ Some Record → Names (prefix ++ 47 ∷ left)
names_cut [] left e low found =
    absurd (let stops : param_step behind_name (47 ∷ left) ≡ (0, []) = slash_stops left in
    let none = sym (walk_on 47 left (omega arith) found) ∙ ap (λ taken. seek (taken.0 - 1) taken.1 left) stops ∙ seek_none (0 - 1) left in cc)
names_cut (x ∷ prefix) left e low found =
    let taken = param_slash (x ∷ prefix) left (256 ∷ []) Record (omega arith) e in
    let behind : seek 0 behind_name (47 ∷ left) ≡ Some Record =
    sym (ap (λ t. seek (t.0 - 1) t.1 (prefix ++ 47 ∷ left)) taken
    ∙ ap (λ k. seek k behind_name (prefix ++ 47 ∷ left)) (less_one (length prefix))
    ∙ seek_skip prefix (47 ∷ left) behind_name)
    ∙ walk_on x (prefix ++ 47 ∷ left) low.0 found in
    let last = id_back left ((later_bytes prefix (47 ∷ left) low.1).1) (sym (by_byte 47 left behind_name refl refl) ∙ behind) in
    record {
      collection = x ∷ prefix;
      id = left;
      is = refl;
      collection_some = omega arith;
      id_some = last.some;
      collection_whole = e;
      id_whole = last.whole;
    }

names_back : (path : List ℕ) → AreBytes path → first names_row path ≡ Some Record → Names path
unfolding seek
names_back [] low e = absurd (cc)
names_back (x ∷ p) low e = by (cut_at_slash (x ∷ p))
  where
    by : (has_slash (x ∷ p) ≡ false) ⊎ Cut (x ∷ p) → Names (x ∷ p)
    by (inl none) =
        absurd (stuck_by (param_step behind_name (x ∷ p)) p (no_later_slash x p none) (param_rows (x ∷ p)) (walk_on x p low.0 e))
    by (inr cut) =
        subst Names (sym cut.is)
        (names_cut cut.prefix cut.left cut.whole (subst AreBytes cut.is low) (ap (λ q. first names_row q) (sym cut.is) ∙ e))

-- behind `/v1/` only `d/` leads to a record
abbrev kinds : RowsOf Route
kinds = (codes "d/" ++ 256 ∷ 47 ∷ 256 ∷ [], Record) ∷ rest

rest_lacks : Lacks rest
rest_lacks = (λ e. cc, (λ e. cc, (λ e. cc, (λ e. cc, (λ e. cc, (λ e. cc, tt))))))

kind_back : (path : List ℕ) → first kinds path ≡ Some Record → Behind (codes "d/") names_row path Record
unfolding seek
kind_back [] e = absurd (cc)
kind_back (x ∷ p) e = by (100 == x) refl
  where
    further : seek 0 (step x kinds) p ≡ Some Record
    further = sym (by_byte x p kinds refl refl) ∙ e

    by : (v : Bool) → (100 == x) ≡ v → Behind (codes "d/") names_row (x ∷ p) Record
    by true q =
        let same : 100 ≡ x = grind (arith, nat_tests) in
        let behind = under_found (47 ∷ []) names_row p Record (omega arith, tt) (ap (λ b. seek 0 (step b kinds) p) same ∙ further) in
        record { left = behind.left; is = ap₂ (λ a b. a ∷ b) (sym same) behind.is; found = behind.found }
    by false q =
        absurd (lacks_seek 0 (step x rest) p (lacks_step x rest rest_lacks)
        (sym (ap (λ v. seek 0 (cond v ((47 ∷ 256 ∷ 47 ∷ 256 ∷ [], Record) ∷ step x rest) (step x rest)) p) q) ∙ further))

-- a record's route among all
record_back : (path : List ℕ) → AreBytes path → first value_rows path ≡ Some Record → Names (drop 6 path) × (path ≡ codes "/v1/d/" ++ drop 6 path)
record_back path low e =
    let version = under_found (codes "/v1/") kinds path Record (omega arith, (omega arith, (omega arith, (omega arith, tt)))) e in
    let kind = kind_back version.left version.found in
    let whole : path ≡ codes "/v1/d/" ++ kind.left = version.is ∙ ap (λ t. codes "/v1/" ++ t) kind.is in
    let left_is : kind.left ≡ drop 6 path = ap (drop 6) (sym whole) in
    let bytes = later_bytes (codes "/v1/d/") kind.left (subst AreBytes whole low) in
    (subst Names left_is (names_back kind.left bytes kind.found), whole ∙ ap (λ t. codes "/v1/d/" ++ t) left_is)

are_bytes : (xs : List ℕ) → All (λ b. b < 256) xs → AreBytes xs
are_bytes [] h = tt
are_bytes (x ∷ xs) h = (All-head (λ b. b < 256) x xs h, are_bytes xs (All-tail (λ b. b < 256) x xs h))

-- parts have no slash
part_whole : (xs : List ℕ) → has_slash xs ≡ false → All (λ b. b ≢ 47) xs
part_whole [] e = All-nil (λ b. b ≢ 47)
part_whole (x ∷ xs) e = by (x == 47) refl e (part_whole xs)
  where
    by : (v : Bool) → (x == 47) ≡ v → cond v true (has_slash xs) ≡ false → (has_slash xs ≡ false → All (λ b. b ≢ 47) xs)
        → All (λ b. b ≢ 47) (x ∷ xs)
    by true q f later = absurd (cc)
    by false q f later = All-cons (λ b. b ≢ 47) x xs (λ same. grind (arith, nat_tests)) (later f)

part_back : (xs : List ℕ) → All (λ b. b ≢ 47) xs → has_slash xs ≡ false
part_back [] h = refl
part_back (x ∷ xs) h =
    let other : (x == 47) ≡ false = let differs = All-head (λ b. b ≢ 47) x xs h in grind (arith, nat_tests) in
    rw other (part_back xs (All-tail (λ b. b ≢ 47) x xs h))

some_route : (valid : Bool) (o : Option Route) → cond valid o None ≡ Some Record → (valid ≡ true) × (o ≡ Some Record)
some_route true o e = (refl, e)
some_route false o e = absurd (cc)

-- a path with the route of a record is UTF-8, and has two names
pub record_route : (path : List ℕ) → All (λ b. b < 256) path → route_of path ≡ Some Record → IsUtf8 path × IsRecordPath path
unfolding route_of
record_route path low e =
    let parts = some_route (is_utf8 path) (option_map value_of (first table path)) e in
    let found = sym (first_value path) ∙ parts.1 in
    let back = record_back path (are_bytes path low) found in
    let names = back.0 in (
      IsUtf8-from_is_utf8 path parts.0,
      record {
        collection = names.collection;
        id = names.id;
        is = back.1 ∙ ap (λ t. codes "/v1/d/" ++ t) names.is;
        collection_is = record { some = names.collection_some; whole = part_whole names.collection names.collection_whole };
        id_is = record { some = names.id_some; whole = part_whole names.id names.id_whole };
      },
    )

-- and such a path has it
pub route_record : (path : List ℕ) → All (λ b. b < 256) path → IsUtf8 path → IsRecordPath path → route_of path ≡ Some Record
route_record path low valid parts =
    ap route_of parts.is
    ∙ route_of_record parts.collection parts.id parts.collection_is.some parts.id_is.some
    (part_back parts.collection parts.collection_is.whole) (part_back parts.id parts.id_is.whole)
    (subst IsUtf8 parts.is valid) (subst (All (λ b. b < 256)) parts.is low)
