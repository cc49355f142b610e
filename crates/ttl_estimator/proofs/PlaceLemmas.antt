-- Names at their indexes in maps.
use Rattle.std.proofs.Common.{◌≡◌, ℕ, zero, suc, ◌<◌, Bool, true, false, List, [], ◌∷◌, length, get_or, slice_get, Option, Some, None, position, cond, bytes_eq, refl, sym, ap, ◌∙◌, subst, inl, inr, arith}
use Rattle.std.specs.Map.{lookup, keys_of, values_of}
use Rattle.std.specs.Cmp.Lexicographic.{nat_list_eq_equiv}
use Rattle.std.proofs.lemmas.Bool.{cases_Bool}
use Rattle.std.proofs.lemmas.List.Quantifiers.{position-Some}
use Rattle.std.proofs.lemmas.Slice.Eq.{bytes_eq-Decides}
use Rattle.indexmap.specs.IndexMap.{IndexMap, IsUnique, index_of_by, values, set_value_at}
use Rattle.indexmap.proofs.MapLemmas.{index-first, Found-position}
use Rattle.indexmap.proofs.RemoveLemmas.{own_first}

-- a name that stands at an index is found there, since no other entry has it
pub place_of : {V S : Type 0} (m : IndexMap (List ℕ) V S) (i : ℕ) (name key : List ℕ) (v : V) → IsUnique bytes_eq m → slice_get m.entries i ≡ Some (key, v) → bytes_eq key name ≡ true → index_of_by (bytes_eq name) m ≡ Some i
place_of m i name key v once at is =
    let same : key ≡ name = (bytes_eq-Decides key name).0 is in
    subst (λ (k : List ℕ). position (bytes_eq k) (keys_of m.entries) ≡ Some i) same
    (index-first (bytes_eq key) m.entries i (own_first bytes_eq nat_list_eq_equiv m.entries i key v once at))

-- the value that is written at an index is found at its name
found_written : {V : Type 0} (test : List ℕ → Bool) (entries : List (List ℕ × V)) (i : ℕ) (w : V) (d : List ℕ) → i < length (keys_of entries) → test (get_or (keys_of entries) i d) ≡ true →
    ((k : ℕ) → k < i → test (get_or (keys_of entries) k d) ≡ false) → lookup test (set_value_at entries i w) ≡ Some w
found_written test [] i w d low own before = absurd (omega (arith, low))
found_written test (e ∷ entries) zero w d low own before = rw own refl
found_written test (e ∷ entries) (suc i) w d low own before =
    let first : test e.0 ≡ false = before 0 (omega arith) in
    rw first (found_written test entries i w d (omega (arith, low)) own (λ k below. before (suc k) (omega (arith, below))))

-- and at each other name what was there
others_written : {V : Type 0} (test : List ℕ → Bool) (entries : List (List ℕ × V)) (i : ℕ) (w : V) (d : List ℕ) → i < length (keys_of entries) → test (get_or (keys_of entries) i d) ≡ false →
    lookup test (set_value_at entries i w) ≡ lookup test entries
others_written test [] i w d low own = refl
others_written test (e ∷ entries) zero w d low own = rw own refl
others_written test (e ∷ entries) (suc i) w d low own = elim (cases_Bool (test e.0)) [
  | inl hit ↦ rw hit refl
  | inr miss ↦ rw miss (others_written test entries i w d (omega (arith, low)) own)
]

module _ {V S : Type 0} (m : IndexMap (List ℕ) V S) (i : ℕ) (name : List ℕ) (place : index_of_by (bytes_eq name) m ≡ Some i) where
  -- the name has the value at its index
  pub value_of : (v : V) → slice_get (values m) i ≡ Some v → lookup (bytes_eq name) m.entries ≡ Some v
  value_of v at = (Found-position (bytes_eq name) m.entries i place).value ∙ at

  -- a write at the index of a name
  pub written_at : (w : V) (other : List ℕ) → lookup (bytes_eq other) (set_value_at m.entries i w) ≡ cond (bytes_eq name other) (Some w) (lookup (bytes_eq other) m.entries)
  written_at w other =
      let found = position-Some (bytes_eq name) (keys_of m.entries) i name place in
      let own : name ≡ get_or (keys_of m.entries) i name = (bytes_eq-Decides name (get_or (keys_of m.entries) i name)).0 found.1 in
      elim (cases_Bool (bytes_eq name other)) [
        | inl hit ↦ (
            let is : name ≡ other = (bytes_eq-Decides name other).0 hit in
            subst (λ (n : List ℕ). lookup (bytes_eq n) (set_value_at m.entries i w) ≡ Some w) is (found_written (bytes_eq name) m.entries i w name found.0 found.1 found.2)
            ∙ sym (ap (λ (b : Bool). cond b (Some w) (lookup (bytes_eq other) m.entries)) hit))
        | inr miss ↦ (
            others_written (bytes_eq other) m.entries i w name found.0 (elim (cases_Bool (bytes_eq other (get_or (keys_of m.entries) i name))) [
              | inl hit ↦ absurd (
                  let two : other ≡ get_or (keys_of m.entries) i name = (bytes_eq-Decides other (get_or (keys_of m.entries) i name)).0 hit in
                  let again : bytes_eq name other ≡ true = (bytes_eq-Decides name other).1 (own ∙ sym two) in
                  cc)
              | inr apart ↦ apart
            ])
            ∙ sym (ap (λ (b : Bool). cond b (Some w) (lookup (bytes_eq other) m.entries)) miss))
      ]

-- a write of the value that is there
pub same_at : {V : Type 0} (entries : List (List ℕ × V)) (i : ℕ) (v : V) → slice_get (values_of entries) i ≡ Some v → set_value_at entries i v ≡ entries
same_at [] i v at = refl
same_at {V} (e ∷ entries) zero v at =
    let same : e.1 ≡ v = (let h = at in cc) in
    ap (λ (x : V). (e.0, x) ∷ entries) (sym same)
same_at {V} (e ∷ entries) (suc i) v at = ap (λ (rest : List (List ℕ × V)). e ∷ rest) (same_at entries i v at)
