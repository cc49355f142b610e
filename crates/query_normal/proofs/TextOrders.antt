-- The order of texts by the bytes with which they begin.
use Rattle.std.proofs.Common.{◌≡◌, ℕ, zero, suc, min, ◌==◌, if◌then◌else◌, true, List, [], ◌∷◌, ◌++◌, length, drop, codes, append_assoc, Ordering, Less, Equal, Greater, inl, inr, refl, sym, ap, ap₂, subst, ◌∙◌, arith}
use Rattle.std.specs.Cmp.Lexicographic.{slice_cmp}
use Rattle.std.specs.Ordering.{nat_cmp, is_ne, ordering_then}
use Rattle.std.proofs.lemmas.Bool.{cases_Bool}
use Rattle.std.proofs.lemmas.Bool.Decides.{nat_tests}
use Rattle.std.proofs.lemmas.List.{drop_at}
use Rattle.q_doc.specs.Tree.{Tree}
use Rattle.query_core.specs.declared.operator.Op.{Op}
use Rattle.query_core.specs.Filters.{compared}
use Rattle.query_core.specs.Print.{op_text, path_text, value_text, filter_text}
use Rattle.query_normal.specs.Normal.{text_cmp}
use Rattle.query_normal.specs.TextOrder.{Begins, first_difference}

-- ---- the first bytes that differ

first_wins : (o r : Ordering) → is_ne o ≡ true → ordering_then o r ≡ o
first_wins Less r e = refl
first_wins Equal r e = absurd (cc)
first_wins Greater r e = refl

same_bytes : (x y : ℕ) → (x == y) ≡ true → nat_cmp x y ≡ Equal
same_bytes x y e = grind (arith, nat_tests)

-- they decide, whatever follows
decided : (p q s t : List ℕ) → is_ne (first_difference p q) ≡ true → slice_cmp nat_cmp (p ++ s) (q ++ t) ≡ first_difference p q
decided [] q s t d = absurd (cc)
decided (x ∷ p) [] s t d = absurd (cc)
decided (x ∷ p) (y ∷ q) s t d =
    let rest = slice_cmp nat_cmp (p ++ s) (q ++ t) in
    elim (cases_Bool (x == y)) [
      | inl e ↦
          let passed : first_difference (x ∷ p) (y ∷ q) ≡ first_difference p q = ap (λ b. if b then first_difference p q else nat_cmp x y) e in
          let ties : ordering_then (nat_cmp x y) rest ≡ rest = ap (λ o. ordering_then o rest) (same_bytes x y e) in
          ties ∙ decided p q s t (sym (ap is_ne passed) ∙ d) ∙ sym passed
      | inr e ↦
          let stopped : first_difference (x ∷ p) (y ∷ q) ≡ nat_cmp x y = ap (λ b. if b then first_difference p q else nat_cmp x y) e in
          first_wins (nat_cmp x y) rest (sym (ap is_ne stopped) ∙ d) ∙ sym stopped
    ]

-- where one of two texts ends, no bytes differ
pub none_differ : (n : ℕ) (xs ys : List ℕ) → n ≡ min (length xs) (length ys) → first_difference (drop n xs) (drop n ys) ≡ Equal
none_differ zero [] ys e = refl
none_differ zero (x ∷ xs) [] e = refl
none_differ zero (x ∷ xs) (y ∷ ys) e = absurd (omega arith)
none_differ (suc n) [] ys e = absurd (omega arith)
none_differ (suc n) (x ∷ xs) [] e = absurd (omega arith)
none_differ (suc n) (x ∷ xs) (y ∷ ys) e = none_differ n xs ys (omega arith)

-- texts that begin with what differs are in its order
pub in_order_of_beginnings : (p q t u : List ℕ) → Begins p t → Begins q u → is_ne (first_difference p q) ≡ true → slice_cmp nat_cmp t u ≡ first_difference p q
in_order_of_beginnings p q t u b c d = ap₂ (slice_cmp nat_cmp) b c ∙ decided p q (drop (length p) t) (drop (length q) u) d

-- ---- comparisons at one path

same_lead : (l p q : List ℕ) → first_difference (l ++ p) (l ++ q) ≡ first_difference p q
same_lead [] p q = refl
same_lead (x ∷ l) p q =
    let itself : (x == x) ≡ true = grind (arith, nat_tests) in
    ap (λ b. if b then first_difference (l ++ p) (l ++ q) else nat_cmp x x) itself ∙ same_lead l p q

begins_joined : (p u : List ℕ) → Begins p (p ++ u)
begins_joined p u = ap (λ l. p ++ l) (sym (drop_at p u (length p) refl))

begins_longer : (p t u : List ℕ) → Begins p t → Begins p (t ++ u)
begins_longer p t u b =
    subst (Begins p) (sym (ap (λ l. l ++ u) b ∙ append_assoc p (drop (length p) t) u)) (begins_joined p (drop (length p) t ++ u))

-- up to its operator
begins_operator : (p : List (List ℕ)) (x : Op) (v : Tree) → Begins (path_text p ++ codes " " ++ op_text x) (filter_text (compared p x v))
begins_operator p x v =
    let lead = path_text p ++ codes " " ++ op_text x in
    begins_longer lead (lead ++ codes " ") (value_text v) (begins_joined lead (codes " "))

-- their operators decide
pub in_order_of_operators : (p : List (List ℕ)) (x y : Op) (v w : Tree) → is_ne (first_difference (op_text x) (op_text y)) ≡ true → first_difference (op_text x) (op_text y) ≡ text_cmp (compared p x v) (compared p y w)
in_order_of_operators p x y v w d =
    let lead = path_text p ++ codes " " in
    let led = same_lead lead (op_text x) (op_text y) in
    sym led ∙ sym (in_order_of_beginnings (lead ++ op_text x) (lead ++ op_text y) (filter_text (compared p x v)) (filter_text (compared p y w)) (begins_operator p x v) (begins_operator p y w) (ap is_ne led ∙ d))
