-- The parts of arrays and objects: their depth, and how two of them compare from some index on.
use Rattle.std.proofs.Common.{◌≡◌, ℕ, zero, suc, ◌<◌, ◌≤◌, min, List, [], ◌∷◌, length, get_or, drop, Less, Greater, nat_cmp, refl, sym, ◌∙◌, arith}
use Rattle.std.proofs.lemmas.Bool.Decides.{nat_tests}
use Rattle.q_doc.specs.Tree.{Tree, depth, items_depth, members_depth, items_of, members_of}
use Rattle.q_doc.specs.Order.{items_cmp, members_cmp}

-- an element is no deeper than the elements
pub item_depth : (ts : List Tree) (i : ℕ) (d : Tree) → i < length ts → depth (get_or ts i d) ≤ items_depth (items_of ts)
item_depth [] i d h = absurd (omega arith)
item_depth (t ∷ ts) zero d h = omega arith
item_depth (t ∷ ts) (suc i) d h = omega (arith, item_depth ts i d (omega arith))

-- a member's value is no deeper than the members
pub member_depth : (ms : List (List ℕ × Tree)) (i : ℕ) (d : List ℕ × Tree) → i < length ms → depth (get_or ms i d).1 ≤ members_depth (members_of ms)
member_depth [] i d h = absurd (omega arith)
member_depth (m ∷ ms) zero d h = omega arith
member_depth (m ∷ ms) (suc i) d h = omega (arith, member_depth ms i d (omega arith))

nat_cmp-above : (n : ℕ) → nat_cmp 0 (suc n) ≡ Less
nat_cmp-above n = grind (arith, nat_tests)

nat_cmp-below : (n : ℕ) → nat_cmp (suc n) 0 ≡ Greater
nat_cmp-below n = grind (arith, nat_tests)

nat_cmp-suc : (m n : ℕ) → nat_cmp m n ≡ nat_cmp (suc m) (suc n)
nat_cmp-suc m n = grind (arith, nat_tests)

-- where one of two arrays ends, the lengths decide
pub items_end : (n : ℕ) (ts us : List Tree) → n ≡ min (length ts) (length us) → items_cmp (items_of (drop n ts)) (items_of (drop n us)) ≡ nat_cmp (length ts) (length us)
items_end zero [] [] e = refl
items_end zero [] (u ∷ us) e = sym (nat_cmp-above (length us))
items_end zero (t ∷ ts) [] e = sym (nat_cmp-below (length ts))
items_end zero (t ∷ ts) (u ∷ us) e = absurd (omega arith)
items_end (suc n) [] us e = absurd (omega arith)
items_end (suc n) (t ∷ ts) [] e = absurd (omega arith)
items_end (suc n) (t ∷ ts) (u ∷ us) e = items_end n ts us (omega arith) ∙ nat_cmp-suc (length ts) (length us)

-- the same of objects
pub members_end : (n : ℕ) (ts us : List (List ℕ × Tree)) → n ≡ min (length ts) (length us) → members_cmp (members_of (drop n ts)) (members_of (drop n us)) ≡ nat_cmp (length ts) (length us)
members_end zero [] [] e = refl
members_end zero [] (u ∷ us) e = sym (nat_cmp-above (length us))
members_end zero (t ∷ ts) [] e = sym (nat_cmp-below (length ts))
members_end zero (t ∷ ts) (u ∷ us) e = absurd (omega arith)
members_end (suc n) [] us e = absurd (omega arith)
members_end (suc n) (t ∷ ts) [] e = absurd (omega arith)
members_end (suc n) (t ∷ ts) (u ∷ us) e = members_end n ts us (omega arith) ∙ nat_cmp-suc (length ts) (length us)
