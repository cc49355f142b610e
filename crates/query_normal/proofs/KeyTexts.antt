-- The text of a key determines the key.
use Rattle.std.proofs.Common.{◌≡◌, ℕ, ◌≤◌, Bool, true, false, not, List, [], ◌∷◌, ◌++◌, length, Some, None, cond, nat_lt, inl, inr, refl, sym, ap, ap₂, append_assoc, ◌∙◌, arith, subst, get_or}
use Rattle.std.specs.Prelude.{bytes_eq}
use Rattle.std.specs.Bool.{Decides}
use Rattle.std.specs.List.{position_or_len}
use Rattle.std.proofs.lemmas.Bool.{cases_Bool, ltb-false}
use Rattle.std.proofs.lemmas.Slice.Eq.{bytes_eq-Decides}
use Rattle.q_base.specs.Name.{IsName, is_name_byte}
use Rattle.query_normal.specs.declared.key.KeyShape.{KeyShape}
use Rattle.query_normal.specs.declared.key.KeyShape.TheVariants.{Record, Query}
use Rattle.query_normal.specs.Keys.{key_text, same_key, IsKey, IsRecordKey}
use Rattle.query_normal.specs.SameKey.{same_key-Decides}

-- no byte is a slash
abbrev pub NoSlash : List ℕ → Type 0
NoSlash [] = Unit {0}
NoSlash (x ∷ xs) = (x ≡ 47 → ⊥) × NoSlash xs

-- no byte of a name is a slash
pub byte_no_slash : (x : ℕ) → is_name_byte x ≡ true → x ≡ 47 → ⊥
byte_no_slash x h e = let slash : is_name_byte 47 ≡ true = subst (λ (b : ℕ). is_name_byte b ≡ true) e h in cc

-- where no byte is found, the offset is the length
pub first_none : (offset len : ℕ) → cond (nat_lt offset len) (Some offset) None ≡ None → len ≤ offset
first_none offset len h =
    elim (cases_Bool (nat_lt offset len)) [
      | inl before ↦ absurd (let some : Some offset ≡ None = sym (rw before) ∙ h in cc)
      | inr past ↦ ltb-false offset len past
    ]

-- where no byte is bad, none is a slash
pub no_slash_from : (xs : List ℕ) → length xs ≤ position_or_len (λ byte. not (is_name_byte byte)) xs → NoSlash xs
no_slash_from [] h = tt
no_slash_from (x ∷ xs) h =
    elim (cases_Bool (is_name_byte x)) [
      | inl good ↦ (byte_no_slash x good, no_slash_from xs (let more = rw good at h in omega arith))
      | inr bad ↦ absurd (let none = rw bad at h in omega arith)
    ]

pub no_slash : (xs : List ℕ) → IsName xs → NoSlash xs
no_slash xs name = no_slash_from xs (first_none _ _ name.good)

-- a text without a slash is parted from what follows at the first slash in one way
pub parts_unique : (a b c d : List ℕ) → NoSlash a → NoSlash b → a ++ 47 ∷ c ≡ b ++ 47 ∷ d → (a ≡ b) × (c ≡ d)
parts_unique [] [] c d p q e = (refl, let h : c ≡ d = cc in h)
parts_unique [] (y ∷ ys) c d p q e = absurd (q.0 (let h : y ≡ 47 = cc in h))
parts_unique (x ∷ xs) [] c d p q e = absurd (p.0 (let h : x ≡ 47 = cc in h))
parts_unique (x ∷ xs) (y ∷ ys) c d p q e =
    let tails : xs ++ 47 ∷ c ≡ ys ++ 47 ∷ d = cc in
    let rest : (xs ≡ ys) × (c ≡ d) = parts_unique xs ys c d p.1 q.1 tails in
    let head : x ≡ y = cc in
    ((let h : x ∷ xs ≡ y ∷ ys = cc (head, rest.0) in h), rest.1)

-- keys of one text, the first of which is of a record, are one key
pub key_text-injective : (a b : KeyShape) → IsKey a → IsKey b → IsRecordKey a → key_text a ≡ key_text b → a ≡ b
unfolding key_text
key_text-injective (Record c i) (Record d j) p q r e =
    let tails : (c ++ 47 ∷ []) ++ i ≡ (d ++ 47 ∷ []) ++ j = cc in
    let cut : c ++ 47 ∷ i ≡ d ++ 47 ∷ j = sym (append_assoc c (47 ∷ []) i) ∙ tails ∙ append_assoc d (47 ∷ []) j in
    let parts = parts_unique c d i j (no_slash c p.0) (no_slash d q.0) cut in
    ap₂ Record parts.0 parts.1
key_text-injective (Record c i) (Query k q) p n r e = absurd (let first : 114 ≡ 113 = ap (λ (xs : List ℕ). get_or xs 0 0) e in omega (arith, first))
key_text-injective (Query k q) b p n r e = absurd r

-- tests of facts that follow of each other answer alike
pub alike : {P Q : Type 0} (x y : Bool) → Decides x P → Decides y Q → (P → Q) → (Q → P) → x ≡ y
alike true true d e to back = refl
alike true false d e to back = sym (e.1 (to (d.0 refl)))
alike false true d e to back = d.1 (back (e.0 refl))
alike false false d e to back = refl

-- to compare the texts of keys is to compare the keys
pub same_text-same_key : (a b : KeyShape) → IsKey a → IsKey b → IsRecordKey a → bytes_eq (key_text a) (key_text b) ≡ same_key a b
same_text-same_key a b p q r =
    alike (bytes_eq (key_text a) (key_text b)) (same_key a b) (bytes_eq-Decides (key_text a) (key_text b)) (same_key-Decides a b)
    (key_text-injective a b p q r) (ap key_text)
