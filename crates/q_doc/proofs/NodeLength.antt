-- The printed length of elements and members, one turn of a loop at a time.
use Rattle.std.proofs.Common.{◌≡◌, ℕ, ◌+◌, ◌<◌, ◌≤◌, Bool, true, false, cond, ◌||◌, ◌==◌, nat_lt, List, [], ◌∷◌, length, drop, get_or, inl, inr, refl, sym, ap, ◌∙◌, subst, arith}
use Rattle.std.proofs.lemmas.Bool.{eqb-true, or_cases}
use Rattle.std.proofs.lemmas.List.{drop_more, drop_all}
use Rattle.json.specs.Print.{escape_letter, escape_byte, quoted}
use Rattle.q_doc.specs.Tree.{Tree, items_of, members_of}
use Rattle.q_doc.specs.Printed.{data_of, items_data, members_data, printed, has_letter}
use Rattle.q_doc.proofs.DataLength.{data_size, elements_size, entries_size, compact_size}

pub item_turn : (ts : List Tree) (i : ℕ) (t : Tree) → i < length ts → t ≡ get_or ts i t
    → elements_size (items_data (items_of (drop i ts))) ≡ length (printed t) + 1 + elements_size (items_data (items_of (drop (i + 1) ts)))
item_turn ts i t h e =
    omega (arith, ap (λ xs. elements_size (items_data (items_of xs))) (drop_more ts i t h), ap (λ u. data_size (data_of u)) e, compact_size (data_of t))

pub items_end : (ts : List Tree) (i : ℕ) → length ts ≤ i → elements_size (items_data (items_of (drop i ts))) ≡ 0
items_end ts i h = ap (λ xs. elements_size (items_data (items_of xs))) (drop_all i ts h)

pub member_turn : (ms : List (List ℕ × Tree)) (i : ℕ) (m : List ℕ × Tree) (k : List ℕ) → i < length ms → m ≡ get_or ms i m → k ≡ m.0
    → entries_size (members_data (members_of (drop i ms))) ≡ length (quoted k) + 1 + (length (printed m.1) + 1) + entries_size (members_data (members_of (drop (i + 1) ms)))
member_turn ms i m k h e is =
    omega (
      arith,
      ap (λ xs. entries_size (members_data (members_of xs))) (drop_more ms i m h),
      ap (λ u. data_size (data_of u.1)) e,
      ap (λ u. length (quoted u.0)) e,
      ap (λ s. length (quoted s)) is,
      compact_size (data_of m.1),
    )

pub members_end : (ms : List (List ℕ × Tree)) (i : ℕ) → length ms ≤ i → entries_size (members_data (members_of (drop i ms))) ≡ 0
members_end ms i h = ap (λ xs. entries_size (members_data (members_of xs))) (drop_all i ms h)

-- ---- escapes

letters : (x high rest : ℕ) (a b c d e f low : Bool) → (a ≡ true → nat_lt 0 x ≡ true)
    → length (cond (nat_lt 0 (cond a x (cond b 98 (cond c 102 (cond d 110 (cond e 114 (cond f 116 0))))))) (92 ∷ cond a x (cond b 98 (cond c 102 (cond d 110 (cond e 114 (cond f 116 0))))) ∷ []) (cond low (92 ∷ 117 ∷ 48 ∷ 48 ∷ high ∷ rest ∷ []) (x ∷ [])))
    ≡ cond (a || b || c || d || e || f) 2 (cond low 6 1)
letters x high rest true b c d e f low h = rw (h refl)
letters x high rest false true c d e f low h = refl
letters x high rest false false true d e f low h = refl
letters x high rest false false false true e f low h = refl
letters x high rest false false false false true f low h = refl
letters x high rest false false false false false true low h = refl
letters x high rest false false false false false false true h = refl
letters x high rest false false false false false false false h = refl

not_zero : (x : ℕ) → ((x == 34) || (x == 92)) ≡ true → nat_lt 0 x ≡ true
not_zero x e =
    elim (or_cases (x == 34) (x == 92) e) [
      | inl f ↦ subst (λ (y : ℕ). nat_lt 0 y ≡ true) (sym (eqb-true x 34 f)) refl
      | inr f ↦ subst (λ (y : ℕ). nat_lt 0 y ≡ true) (sym (eqb-true x 92 f)) refl
    ]

-- the escape of a byte has two, six or one byte
pub escape_length_is : (x : ℕ) → length (escape_byte x) ≡ cond (has_letter x) 2 (cond (nat_lt x 32) 6 1)
unfolding escape_byte
escape_length_is x = letters x _ _ ((x == 34) || (x == 92)) (x == 8) (x == 12) (x == 10) (x == 13) (x == 9) (nat_lt x 32) (not_zero x)
