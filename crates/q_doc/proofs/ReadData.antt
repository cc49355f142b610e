-- A JSON value that was read from a text has its keys in order and its negative numbers within 64 bits.
use Rattle.std.proofs.Common.{◌≡◌, ℕ, zero, suc, ◌^◌, ◌≤◌, List, Bool, true, false, cond, ◌&&◌, nat_lt, nat_le, Float, Option, Some, None, option_map, option_and_then, drop, Ordering, Less, Equal, Greater, nat_cmp, refl, ap, ◌∙◌, subst, arith, leb-true, lit<}
use Rattle.std.specs.Prelude.{⊤, unwrap_or}
use Rattle.std.specs.Ordering.{match_ordering, ordering_reverse}
use Rattle.std.specs.Cmp.Lexicographic.{slice_cmp}
use Rattle.std.proofs.lemmas.Bool.{and_parts}
use Rattle.std.proofs.lemmas.Cmp.{nat_list_cmp_total}
use Rattle.fast_float.specs.Text.{Parts, scan, digits_of, with_sign}
use Rattle.json.specs.Json as grammar
use Rattle.json.specs.Lex.{tokens}
use Rattle.serde_json.specs.Data as json
use Rattle.serde_json.specs.Data.{Num, unsigned, negative, float, put}
use Rattle.serde_json.specs.Read.{read, max_depth, of_json, of_items, of_members, number_of, number_from, float_of, is_integer}
use Rattle.q_doc.specs.Document.{FitsI64}
use Rattle.q_doc.specs.Found.{found}

-- ---- a value inside an option

pub of_option_map : {A B : Type 0} (f : A → B) (o : Option A) (b : B) → option_map f o ≡ Some b → (a : A) × (o ≡ Some a) × (f a ≡ b)
of_option_map f None b e = absurd (cc)
of_option_map f (Some a) b e = (a, refl, ap (λ p. unwrap_or p b) e)

pub of_and_then : {A B : Type 0} (f : A → Option B) (o : Option A) (b : B) → option_and_then f o ≡ Some b → (a : A) × (o ≡ Some a) × (f a ≡ Some b)
of_and_then f None b e = absurd (cc)
of_and_then f (Some a) b e = (a, refl, e)

-- ---- the property

-- a negative number fits
abbrev pub NumberFits : Num → Type 0
NumberFits (unsigned n) = ⊤
NumberFits (negative z) = FitsI64 z
NumberFits (float x) = ⊤

-- the key is less than the first key of the members
abbrev pub Precedes : List ℕ → json.Members → Type 0
Precedes k json.no_members = ⊤
Precedes k (json.member l d ms) = slice_cmp nat_cmp k l ≡ Less

-- negative numbers fit, and the keys of each object rise
abbrev mutual
  pub IsRead : json.Data → Type 0
  IsRead json.null = ⊤
  IsRead (json.boolean b) = ⊤
  IsRead (json.number n) = NumberFits n
  IsRead (json.string s) = ⊤
  IsRead (json.array ds) = ItemsAreRead ds
  IsRead (json.object ms) = MembersAreRead ms

  pub ItemsAreRead : json.Items → Type 0
  ItemsAreRead json.no_items = ⊤
  ItemsAreRead (json.item d ds) = IsRead d × ItemsAreRead ds

  pub MembersAreRead : json.Members → Type 0
  MembersAreRead json.no_members = ⊤
  MembersAreRead (json.member k d ms) = Precedes k ms × IsRead d × MembersAreRead ms

-- ---- numbers

float_fits : (finite : Bool) (x : Float) (n : Num) → cond finite (Some (float x)) None ≡ Some n → NumberFits n
float_fits true x n e = let same : float x ≡ n = cc in subst NumberFits same tt
float_fits false x n e = absurd (cc)

signed_fits : (n : ℕ) → n ≤ 2 ^ 63 → FitsI64 (with_sign true n)
signed_fits zero h = lit< tt
signed_fits (suc m) h = omega arith

negative_fits : (p : Parts) (n : Num) (b : Bool) → (is_integer p && nat_lt 0 (digits_of p) && nat_le (digits_of p) (2 ^ 63)) ≡ b
    → cond b (Some (negative (with_sign true (digits_of p)))) (float_of true p) ≡ Some n → NumberFits n
negative_fits p n true test e =
    let same : negative (with_sign true (digits_of p)) ≡ n = cc in
    let fits : digits_of p ≤ 2 ^ 63 = leb-true _ _ (and_parts _ _ test).1 in
    subst NumberFits same (signed_fits (digits_of p) fits)
negative_fits p n false test e = float_fits _ _ n e

unsigned_fits : (b sign : Bool) (p : Parts) (n : Num) → cond b (Some (unsigned (digits_of p))) (float_of sign p) ≡ Some n → NumberFits n
unsigned_fits true sign p n e = let same : unsigned (digits_of p) ≡ n = cc in subst NumberFits same tt
unsigned_fits false sign p n e = float_fits _ _ n e

number_fits : (s : List ℕ) (b : Bool) (n : Num) → cond b (number_from true (scan (drop 1 s))) (number_from false (scan s)) ≡ Some n → NumberFits n
number_fits s true n e = negative_fits (scan (drop 1 s)) n _ refl e
number_fits s false n e = unsigned_fits _ false (scan s) n e

number_of-fits : (s : List ℕ) (n : Num) → number_of s ≡ Some n → NumberFits n
unfolding number_of
number_of-fits s n e = number_fits s _ n e

-- ---- members, put in one after another

precedes_put_at : (o : Ordering) (l k m : List ℕ) (d e : json.Data) (ms : json.Members) → slice_cmp nat_cmp l k ≡ Less → slice_cmp nat_cmp l m ≡ Less
    → Precedes l (match_ordering o (json.member k d (json.member m e ms)) (json.member m d ms) (json.member m e (put k d ms)))
precedes_put_at Less l k m d e ms key head = key
precedes_put_at Equal l k m d e ms key head = head
precedes_put_at Greater l k m d e ms key head = head

precedes_put : (l k : List ℕ) (d : json.Data) (ms : json.Members) → slice_cmp nat_cmp l k ≡ Less → Precedes l ms → Precedes l (put k d ms)
precedes_put l k d json.no_members key h = key
precedes_put l k d (json.member m e ms) key h = precedes_put_at _ l k m d e ms key h

read_put_at : (o : Ordering) (k l : List ℕ) (d e : json.Data) (ms : json.Members) → slice_cmp nat_cmp k l ≡ o → IsRead d → MembersAreRead (json.member l e ms) → MembersAreRead (put k d ms)
    → MembersAreRead (match_ordering o (json.member k d (json.member l e ms)) (json.member l d ms) (json.member l e (put k d ms)))
read_put_at Less k l d e ms is h g more = (is, h, g)
read_put_at Equal k l d e ms is h g more = (g.0, h, g.2)
read_put_at Greater k l d e ms is h g more =
    (precedes_put l k d ms (nat_list_cmp_total.antisymm l k ∙ ap ordering_reverse is) g.0, g.1, more)

pub read_put : (k : List ℕ) (d : json.Data) (ms : json.Members) → IsRead d → MembersAreRead ms → MembersAreRead (put k d ms)
read_put k d json.no_members h g = (tt, h, tt)
read_put k d (json.member l e ms) h g = read_put_at _ k l d e ms refl h g (read_put k d ms h g.2)

-- ---- values

mutual
  pub read_value : (j : grammar.Json) (d : json.Data) → of_json j ≡ Some d → IsRead d
  read_value grammar.null d e = subst IsRead (ap (λ o. unwrap_or o d) e) tt
  read_value (grammar.boolean b) d e = subst IsRead (ap (λ o. unwrap_or o d) e) tt
  read_value (grammar.number s) d e = let n = of_option_map json.number (number_of s) d e in subst IsRead n.2 (number_of-fits s n.0 n.1)
  read_value (grammar.string s) d e = subst IsRead (ap (λ o. unwrap_or o d) e) tt
  read_value (grammar.array js) d e = let ds = of_option_map json.array (of_items js) d e in subst IsRead ds.2 (read_items js ds.0 ds.1)
  read_value (grammar.object ms) d e =
      let ds = of_option_map json.object (of_members ms json.no_members) d e in
      subst IsRead ds.2 (read_members ms json.no_members ds.0 tt ds.1)

  read_items : (js : grammar.Items) (ds : json.Items) → of_items js ≡ Some ds → ItemsAreRead ds
  read_items grammar.no_items ds e = subst ItemsAreRead (ap (λ o. unwrap_or o ds) e) tt
  read_items (grammar.item j js) ds e =
      let first = of_and_then (λ d. option_map (json.item d) (of_items js)) (of_json j) ds e in
      let rest = of_option_map (json.item first.0) (of_items js) ds first.2 in
      subst ItemsAreRead rest.2 (read_value j first.0 first.1, read_items js rest.0 rest.1)

  read_members : (ms : grammar.Members) (old new : json.Members) → MembersAreRead old → of_members ms old ≡ Some new → MembersAreRead new
  read_members grammar.no_members old new h e = subst MembersAreRead (ap (λ o. unwrap_or o new) e) h
  read_members (grammar.member k j ms) old new h e =
      let first = of_and_then (λ d. of_members ms (put k d old)) (of_json j) new e in
      read_members ms (put k first.0 old) new (read_put k first.0 old (read_value j first.0 first.1) h) first.2

-- a value that bytes hold was read
found_at : (bytes : List ℕ) (b : Bool) (d : json.Data) → cond b (read bytes) None ≡ Some d → IsRead d
found_at bytes true d e =
    let j = of_and_then of_json (option_and_then (λ p. grammar.if_last p.0 p.1) (grammar.value max_depth (tokens bytes))) d e in
    read_value j.0 d j.2
found_at bytes false d e = absurd (cc)

pub found-IsRead : (bytes : List ℕ) (d : json.Data) → found bytes ≡ Some d → IsRead d
found-IsRead bytes d e = found_at bytes _ d e
