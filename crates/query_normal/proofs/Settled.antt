-- Filters in normal form, part by part: a normal form is one, and each is its own normal form.
use Rattle.std.proofs.Common.{◌≡◌, ℕ, ◌≤◌, Bool, true, false, not, List, [], ◌∷◌, ◌++◌, length, inl, inr, refl, sym, ap, ap₂, ◌∙◌, arith, ◌⊎◌}
use Rattle.std.specs.Bool.{⊤}
use Rattle.std.specs.Cmp.{IsTotalOrder}
use Rattle.std.specs.List.{list_any, filter, AllByRecursion}
use Rattle.std.proofs.lemmas.Bool.{cases_Bool}
use Rattle.std.proofs.lemmas.Cmp.{on_total, nat_list_cmp_total}
use Rattle.q_doc.specs.Tree.{Tree}
use Rattle.q_doc.specs.Order.{tree_cmp}
use Rattle.q_doc.specs.OrderLaws.{tree_cmp_total}
use Rattle.query_core.specs.Filters.{Filter, constant, compared, listed, having, present, negated, every, some, Operands, no_operands, operand, operands_of, operand_list}
use Rattle.query_core.specs.Meaning.{same_value}
use Rattle.query_core.specs.Print.{filter_text}
use Rattle.query_core.specs.Same.{same_filter}
use Rattle.query_normal.specs.Normal.{text_cmp, filters_once, values_once, one_of, signed, parts_of, is_constant, joined, connected, normal_filter, normal_parts}
use Rattle.query_normal.proofs.NormalMeaning.{operand_list-of}
use Rattle.query_normal.proofs.OnceLemmas.{once_twice, once_all}

-- ---- words

-- an atom but a constant
abbrev pub is_atom : Filter → Bool
is_atom (constant b) = false
is_atom (compared p op v) = true
is_atom (listed p vs) = true
is_atom (having p v) = true
is_atom (present p) = true
is_atom (negated f) = false
is_atom (every fs) = false
is_atom (some fs) = false

-- not joined by `and` (true) or by `or` (false)
abbrev pub is_apart : Bool → Filter → Bool
is_apart true (every fs) = false
is_apart false (some fs) = false
is_apart b f = true

-- a constant
abbrev pub is_truth : Filter → Bool
is_truth (constant b) = true
is_truth f = false

-- filters in normal form
abbrev mutual
  pub Settled : Filter → Type 0
  Settled (constant b) = ⊤
  Settled (compared p op v) = ⊤
  Settled (listed p vs) = (2 ≤ length vs) × (values_once vs ≡ vs)
  Settled (having p v) = ⊤
  Settled (present p) = ⊤
  Settled (negated f) = (is_atom f ≡ true) × Settled f
  Settled (every fs) = (2 ≤ length (operand_list fs)) × (filters_once (operand_list fs) ≡ operand_list fs) × AreSettled true fs
  Settled (some fs) = (2 ≤ length (operand_list fs)) × (filters_once (operand_list fs) ≡ operand_list fs) × AreSettled false fs

  -- operands of an `and` (true) or an `or` (false)
  pub AreSettled : Bool → Operands → Type 0
  AreSettled b no_operands = ⊤
  AreSettled b (operand f fs) = (Settled f × (is_apart b f ≡ true) × (is_truth f ≡ false)) × AreSettled b fs

-- an operand, which may be a constant still
abbrev pub IsPart : Bool → Filter → Type 0
IsPart b f = Settled f × (is_apart b f ≡ true)

-- an operand
abbrev pub IsOperand : Bool → Filter → Type 0
IsOperand b f = Settled f × (is_apart b f ≡ true) × (is_truth f ≡ false)

pub settled_list : (b : Bool) (fs : Operands) → AreSettled b fs → AllByRecursion (IsOperand b) (operand_list fs)
settled_list b no_operands s = tt
settled_list b (operand f fs) s = (s.0, settled_list b fs s.1)

settled_operands : (b : Bool) (fs : List Filter) → AllByRecursion (IsOperand b) fs → AreSettled b (operands_of fs)
settled_operands b [] s = tt
settled_operands b (f ∷ fs) s = (s.0, settled_operands b fs s.1)

-- ---- a normal form is settled

pub text_cmp_total : IsTotalOrder text_cmp
text_cmp_total = on_total filter_text nat_list_cmp_total

values_twice : (vs : List Tree) → values_once (values_once vs) ≡ values_once vs
values_twice vs = once_twice tree_cmp tree_cmp_total same_value vs

filters_twice : (fs : List Filter) → filters_once (filters_once fs) ≡ filters_once fs
filters_twice fs = once_twice text_cmp text_cmp_total same_filter fs

-- a constant or an atom
abbrev IsSimple : Filter → Type 0
IsSimple f = Settled f × ((is_atom f ≡ true) ⊎ (is_truth f ≡ true))

one_of_simple : (p : List (List ℕ)) (vs : List Tree) → values_once vs ≡ vs → IsSimple (one_of p vs)
one_of_simple p [] e = (tt, inr refl)
one_of_simple p (v ∷ []) e = (tt, inl refl)
one_of_simple p (v ∷ w ∷ vs) e = ((omega arith, e), inl refl)

signed_settled : (n : Bool) (f : Filter) → IsSimple f → Settled (signed n f)
signed_settled false f s = s.0
signed_settled true (constant b) s = tt
signed_settled true (compared p op v) s = (refl, tt)
signed_settled true (listed p vs) s = (refl, s.0)
signed_settled true (having p v) s = (refl, tt)
signed_settled true (present p) s = (refl, tt)
signed_settled true (negated f) s = absurd (elim s.1 [ inl e ↦ cc | inr e ↦ cc ])
signed_settled true (every fs) s = absurd (elim s.1 [ inl e ↦ cc | inr e ↦ cc ])
signed_settled true (some fs) s = absurd (elim s.1 [ inl e ↦ cc | inr e ↦ cc ])

operands_are_parts : (b : Bool) (fs : List Filter) → AllByRecursion (IsOperand b) fs → AllByRecursion (IsPart b) fs
operands_are_parts b [] s = tt
operands_are_parts b (f ∷ fs) s = ((s.0.0, s.0.1), operands_are_parts b fs s.1)

parts_settled : (b : Bool) (f : Filter) → Settled f → AllByRecursion (IsPart b) (parts_of b f)
parts_settled true (every fs) s = operands_are_parts true (operand_list fs) (settled_list true fs s.2)
parts_settled true (constant c) s = ((s, refl), tt)
parts_settled true (compared p op v) s = ((s, refl), tt)
parts_settled true (listed p vs) s = ((s, refl), tt)
parts_settled true (having p v) s = ((s, refl), tt)
parts_settled true (present p) s = ((s, refl), tt)
parts_settled true (negated f) s = ((s, refl), tt)
parts_settled true (some fs) s = ((s, refl), tt)
parts_settled false (some fs) s = operands_are_parts false (operand_list fs) (settled_list false fs s.2)
parts_settled false (constant c) s = ((s, refl), tt)
parts_settled false (compared p op v) s = ((s, refl), tt)
parts_settled false (listed p vs) s = ((s, refl), tt)
parts_settled false (having p v) s = ((s, refl), tt)
parts_settled false (present p) s = ((s, refl), tt)
parts_settled false (negated f) s = ((s, refl), tt)
parts_settled false (every fs) s = ((s, refl), tt)

all-append : {X : Type 0} (P : X → Type 0) (xs ys : List X) → AllByRecursion P xs → AllByRecursion P ys → AllByRecursion P (xs ++ ys)
all-append P [] ys a b = b
all-append P (x ∷ xs) ys a b = (a.0, all-append P xs ys a.1 b)

-- a constant is one of the two
no_truth : (b : Bool) (f : Filter) → is_constant b f ≡ false → is_constant (not b) f ≡ false → is_truth f ≡ false
no_truth true (constant true) e k = absurd (cc)
no_truth true (constant false) e k = absurd (cc)
no_truth false (constant true) e k = absurd (cc)
no_truth false (constant false) e k = absurd (cc)
no_truth b (compared p op v) e k = refl
no_truth b (listed p vs) e k = refl
no_truth b (having p v) e k = refl
no_truth b (present p) e k = refl
no_truth b (negated f) e k = refl
no_truth b (every fs) e k = refl
no_truth b (some fs) e k = refl

-- the parts without constants are operands
pub kept_operands : (b : Bool) (fs : List Filter) → AllByRecursion (IsPart b) fs → list_any (is_constant (not b)) fs ≡ false
    → AllByRecursion (IsOperand b) (filter (λ f. not (is_constant b f)) fs)
kept_operands b [] s e = tt
kept_operands b (f ∷ fs) s e =
    elim (cases_Bool (is_constant (not b) f)) [
      | inl is ↦ absurd (let none_is = rw is at e in cc)
      | inr other ↦ (
          let rest = kept_operands b fs s.1 (rw other at e) in
          elim (cases_Bool (is_constant b f)) [
            | inl is ↦ rw is rest
            | inr differs ↦ rw differs ((s.0.0, s.0.1, no_truth b f differs other), rest)
          ])
    ]

joined_settled : (b : Bool) (fs : List Filter) → AllByRecursion (IsOperand b) fs → filters_once fs ≡ fs → Settled (joined b fs)
joined_settled b [] s e = tt
joined_settled b (f ∷ []) s e = s.0.0
joined_settled true (f ∷ g ∷ fs) s e =
    let same : operand_list (operands_of (f ∷ g ∷ fs)) ≡ f ∷ g ∷ fs = operand_list-of (f ∷ g ∷ fs) in
    (let long = ap length same in omega (arith, long), ap filters_once same ∙ e ∙ sym same, settled_operands true (f ∷ g ∷ fs) s)
joined_settled false (f ∷ g ∷ fs) s e =
    let same : operand_list (operands_of (f ∷ g ∷ fs)) ≡ f ∷ g ∷ fs = operand_list-of (f ∷ g ∷ fs) in
    (let long = ap length same in omega (arith, long), ap filters_once same ∙ e ∙ sym same, settled_operands false (f ∷ g ∷ fs) s)

connected_settled : (b : Bool) (fs : List Filter) → AllByRecursion (IsPart b) fs → Settled (connected b fs)
connected_settled b fs s =
    let kept = filter (λ f. not (is_constant b f)) fs in
    elim (cases_Bool (list_any (is_constant (not b)) fs)) [
      | inl e ↦ rw e tt
      | inr e ↦ rw e (joined_settled b (filters_once kept) (once_all (IsOperand b) same_filter text_cmp kept (kept_operands b fs s e)) (filters_twice kept))
    ]

mutual
  pub normal_settled : (n : Bool) (f : Filter) → Settled (normal_filter n f)
  normal_settled n (constant b) = signed_settled n (constant b) (tt, inr refl)
  normal_settled n (compared p op v) = signed_settled n (compared p op v) (tt, inl refl)
  normal_settled n (listed p vs) = signed_settled n (one_of p (values_once vs)) (one_of_simple p (values_once vs) (values_twice vs))
  normal_settled n (having p v) = signed_settled n (having p v) (tt, inl refl)
  normal_settled n (present p) = signed_settled n (present p) (tt, inl refl)
  normal_settled n (negated f) = normal_settled (not n) f
  normal_settled n (every fs) = connected_settled (not n) (normal_parts n (not n) fs) (parts_are_settled n (not n) fs)
  normal_settled n (some fs) = connected_settled n (normal_parts n n fs) (parts_are_settled n n fs)

  pub parts_are_settled : (n b : Bool) (fs : Operands) → AllByRecursion (IsPart b) (normal_parts n b fs)
  parts_are_settled n b no_operands = tt
  parts_are_settled n b (operand f fs) =
      all-append (IsPart b) (parts_of b (normal_filter n f)) (normal_parts n b fs) (parts_settled b (normal_filter n f) (normal_settled n f)) (parts_are_settled n b fs)

-- ---- what is settled is its own normal form

one_of_many : (p : List (List ℕ)) (vs : List Tree) → 2 ≤ length vs → one_of p vs ≡ listed p vs
one_of_many p [] h = absurd (omega arith)
one_of_many p (v ∷ []) h = absurd (omega arith)
one_of_many p (v ∷ w ∷ vs) h = refl

pub joined_many_and : (fs : List Filter) → 2 ≤ length fs → joined true fs ≡ every (operands_of fs)
joined_many_and [] h = absurd (omega arith)
joined_many_and (f ∷ []) h = absurd (omega arith)
joined_many_and (f ∷ g ∷ fs) h = refl

pub joined_many_or : (fs : List Filter) → 2 ≤ length fs → joined false fs ≡ some (operands_of fs)
joined_many_or [] h = absurd (omega arith)
joined_many_or (f ∷ []) h = absurd (omega arith)
joined_many_or (f ∷ g ∷ fs) h = refl

pub operands_of-list : (fs : Operands) → operands_of (operand_list fs) ≡ fs
operands_of-list no_operands = refl
operands_of-list (operand f fs) = ap (operand f) (operands_of-list fs)

pub part_itself : (b : Bool) (f : Filter) → is_apart b f ≡ true → parts_of b f ≡ f ∷ []
part_itself true (every fs) e = absurd (cc)
part_itself true (constant c) e = refl
part_itself true (compared p op v) e = refl
part_itself true (listed p vs) e = refl
part_itself true (having p v) e = refl
part_itself true (present p) e = refl
part_itself true (negated f) e = refl
part_itself true (some fs) e = refl
part_itself false (some fs) e = absurd (cc)
part_itself false (constant c) e = refl
part_itself false (compared p op v) e = refl
part_itself false (listed p vs) e = refl
part_itself false (having p v) e = refl
part_itself false (present p) e = refl
part_itself false (negated f) e = refl
part_itself false (every fs) e = refl

truth_is_none : (b : Bool) (f : Filter) → is_truth f ≡ false → is_constant b f ≡ false
truth_is_none b (constant c) e = absurd (cc)
truth_is_none b (compared p op v) e = refl
truth_is_none b (listed p vs) e = refl
truth_is_none b (having p v) e = refl
truth_is_none b (present p) e = refl
truth_is_none b (negated f) e = refl
truth_is_none b (every fs) e = refl
truth_is_none b (some fs) e = refl

no_constant : (b c : Bool) (fs : List Filter) → AllByRecursion (IsOperand b) fs → list_any (is_constant c) fs ≡ false
no_constant b c [] s = refl
no_constant b c (f ∷ fs) s = let none_is = truth_is_none c f s.0.2 in rw none_is (no_constant b c fs s.1)

all_kept : (b c : Bool) (fs : List Filter) → AllByRecursion (IsOperand b) fs → filter (λ f. not (is_constant c f)) fs ≡ fs
all_kept b c [] s = refl
all_kept b c (f ∷ fs) s = let none_is = truth_is_none c f s.0.2 in rw none_is (ap (λ l. f ∷ l) (all_kept b c fs s.1))

pub connected_itself : (b : Bool) (fs : List Filter) → AllByRecursion (IsOperand b) fs → filters_once fs ≡ fs → connected b fs ≡ joined b fs
connected_itself b fs s e =
    let none_is = no_constant b (not b) fs s in
    rw none_is (ap (λ l. joined b (filters_once l)) (all_kept b b fs s) ∙ ap (joined b) e)

mutual
  pub settled_itself : (f : Filter) → Settled f → normal_filter false f ≡ f
  settled_itself (constant b) s = refl
  settled_itself (compared p op v) s = refl
  settled_itself (listed p vs) s = ap (one_of p) s.1 ∙ one_of_many p vs s.0
  settled_itself (having p v) s = refl
  settled_itself (present p) s = refl
  settled_itself (negated f) s = negation_itself f s.0 s.1
  settled_itself (every fs) s =
      ap (connected true) (parts_themselves true fs s.2)
      ∙ connected_itself true (operand_list fs) (settled_list true fs s.2) s.1
      ∙ joined_many_and (operand_list fs) s.0
      ∙ ap every (operands_of-list fs)
  settled_itself (some fs) s =
      ap (connected false) (parts_themselves false fs s.2)
      ∙ connected_itself false (operand_list fs) (settled_list false fs s.2) s.1
      ∙ joined_many_or (operand_list fs) s.0
      ∙ ap some (operands_of-list fs)

  negation_itself : (f : Filter) → is_atom f ≡ true → Settled f → normal_filter true f ≡ negated f
  negation_itself (constant b) a s = absurd (cc)
  negation_itself (compared p op v) a s = refl
  negation_itself (listed p vs) a s = ap (signed true) (ap (one_of p) s.1 ∙ one_of_many p vs s.0)
  negation_itself (having p v) a s = refl
  negation_itself (present p) a s = refl
  negation_itself (negated f) a s = absurd (cc)
  negation_itself (every fs) a s = absurd (cc)
  negation_itself (some fs) a s = absurd (cc)

  parts_themselves : (b : Bool) (fs : Operands) → AreSettled b fs → normal_parts false b fs ≡ operand_list fs
  parts_themselves b no_operands s = refl
  parts_themselves b (operand f fs) s =
      ap₂ (λ (xs ys : List Filter). xs ++ ys)
      (ap (parts_of b) (settled_itself f s.0.0) ∙ part_itself b f s.0.1) (parts_themselves b fs s.1)

-- a normal form is its own normal form
pub normal_twice : (n : Bool) (f : Filter) → normal_filter false (normal_filter n f) ≡ normal_filter n f
normal_twice n f = settled_itself (normal_filter n f) (normal_settled n f)
