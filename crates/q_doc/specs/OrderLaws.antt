-- Internal. The order of values is total, and values that tie are the same.
use Rattle.std.specs.Prelude.{◌≡◌, ℕ, ℤ, List, Bool, true, false, Option, Some, None, refl}
use Rattle.std.proofs.Common.{sym, ap, ap₂, ◌∙◌}
use Rattle.std.specs.Bool.{Decides}
use Rattle.std.specs.Ordering.{ordering_then, ordering_reverse, nat_cmp, int_cmp, bool_cmp, eq_by_cmp, is_eq}
use Rattle.std.specs.declared.cmp.Ordering.{Ordering}
use Rattle.std.specs.declared.cmp.Ordering.TheVariants.{Less, Equal, Greater}
use Rattle.std.specs.Cmp.{IsTotalOrder, IsEquivalence, nat_cmp_total, int_cmp_total, bool_cmp_total, Equal-is}
use Rattle.std.specs.Cmp.Lexicographic.{slice_cmp, options_total}
use Rattle.std.proofs.lemmas.Cmp.{nat_list_cmp_total, int_ranked, tied_itself, alike_right, eq_by_cmp_equiv}
use Rattle.std.proofs.lemmas.Map.Text.{is_eq-slice_cmp}
use Rattle.std.proofs.lemmas.Slice.Eq.{bytes_eq-Decides}
use Rattle.q_doc.specs.Tree.{Tree, null, boolean, number, text, array, object, Items, no_items, item, Members, no_members, member}
use Rattle.q_doc.specs.Order.{rank, alike_cmp, items_cmp, members_cmp, tree_cmp, value_cmp}

-- ---- two answers, one after the other

then_flip : (p q o r : Ordering) → p ≡ ordering_reverse q → o ≡ ordering_reverse r → ordering_then p o ≡ ordering_reverse (ordering_then q r)
then_flip p Less o r e f = rw e
then_flip p Equal o r e f = rw e f
then_flip p Greater o r e f = rw e

then_Equal : (p o : Ordering) → ordering_then p o ≡ Equal → (p ≡ Equal) × (o ≡ Equal)
then_Equal Less o e = absurd (cc)
then_Equal Equal o e = (refl, e)
then_Equal Greater o e = absurd (cc)

-- the second answers chain where the first ones tie
then_chain : (p q r o s u : Ordering) → (p ≡ Less → q ≡ Less → r ≡ Less) → (p ≡ Equal → r ≡ q) → (q ≡ Equal → r ≡ p) → (o ≡ Less → s ≡ Less → u ≡ Less)
    → ordering_then p o ≡ Less → ordering_then q s ≡ Less → ordering_then r u ≡ Less
then_chain Less Less r o s u both left right later e f = rw (both refl refl)
then_chain Less Equal r o s u both left right later e f = rw (right refl)
then_chain Less Greater r o s u both left right later e f = absurd (cc)
then_chain Equal Less r o s u both left right later e f = rw (left refl)
then_chain Equal Equal r o s u both left right later e f = rw (left refl) (later e f)
then_chain Equal Greater r o s u both left right later e f = absurd (cc)
then_chain Greater q r o s u both left right later e f = absurd (cc)

-- the same, where the first answers are those of a total order
chained : {K : Type 0} {R : K → K → Ordering} → IsTotalOrder R → (x y z : K) (o s u : Ordering) → (o ≡ Less → s ≡ Less → u ≡ Less)
    → ordering_then (R x y) o ≡ Less → ordering_then (R y z) s ≡ Less → ordering_then (R x z) u ≡ Less
chained total x y z o s u later e f =
    then_chain _ _ _ o s u (total.trans x y z) (λ tie. total.congr x y z tie) (λ tie. sym (alike_right total y z x tie)) later e f

-- ---- values that tie

bool_same : (a b : Bool) → bool_cmp a b ≡ Equal → a ≡ b
bool_same false false e = refl
bool_same false true e = absurd (cc)
bool_same true false e = absurd (cc)
bool_same true true e = refl

int_same_at : (a b : ℤ) (o : Ordering) → o ≡ int_cmp a b → o ≡ Equal → a ≡ b
int_same_at a b Less h e = absurd (cc)
int_same_at a b Equal h e = int_ranked a b Equal h
int_same_at a b Greater h e = absurd (cc)

int_same : (a b : ℤ) → int_cmp a b ≡ Equal → a ≡ b
int_same a b e = int_same_at a b _ refl e

-- texts that tie have the same bytes
pub text_same : (a b : List ℕ) → slice_cmp nat_cmp a b ≡ Equal → a ≡ b
text_same a b e = (bytes_eq-Decides a b).0 (sym (is_eq-slice_cmp a b) ∙ ap is_eq e)

null_same : (u : Tree) → tree_cmp null u ≡ Equal → null ≡ u
null_same null e = refl
null_same (boolean b) e = absurd (cc)
null_same (number z) e = absurd (cc)
null_same (text s) e = absurd (cc)
null_same (array ts) e = absurd (cc)
null_same (object ms) e = absurd (cc)

mutual
  -- values that tie are the same
  pub tree_same : (t u : Tree) → tree_cmp t u ≡ Equal → t ≡ u
  tree_same null u e = null_same u e
  tree_same (boolean a) (boolean b) e = ap boolean (bool_same a b e)
  tree_same (number a) (number b) e = ap number (int_same a b e)
  tree_same (text a) (text b) e = ap text (text_same a b e)
  tree_same (array a) (array b) e = ap array (items_same a b e)
  tree_same (object a) (object b) e = ap object (members_same a b e)
  tree_same t u e = absurd (cc)

  items_same : (ts us : Items) → items_cmp ts us ≡ Equal → ts ≡ us
  items_same no_items no_items e = refl
  items_same no_items (item u us) e = absurd (cc)
  items_same (item t ts) no_items e = absurd (cc)
  items_same (item t ts) (item u us) e =
      let both = then_Equal (tree_cmp t u) (items_cmp ts us) e in
      ap₂ item (tree_same t u both.0) (items_same ts us both.1)

  members_same : (ts us : Members) → members_cmp ts us ≡ Equal → ts ≡ us
  members_same no_members no_members e = refl
  members_same no_members (member l u us) e = absurd (cc)
  members_same (member k t ts) no_members e = absurd (cc)
  members_same (member k t ts) (member l u us) e =
      let keys = then_Equal (slice_cmp nat_cmp k l) (ordering_then (tree_cmp t u) (members_cmp ts us)) e in
      let both = then_Equal (tree_cmp t u) (members_cmp ts us) keys.1 in
      let key = text_same k l keys.0 in
      let value = tree_same t u both.0 in
      let rest = members_same ts us both.1 in
      rw (key, value, rest)

-- ---- the other way round

null_flip : (u : Tree) → Equal ≡ ordering_reverse (alike_cmp u null)
null_flip null = refl
null_flip (boolean b) = refl
null_flip (number z) = refl
null_flip (text s) = refl
null_flip (array ts) = refl
null_flip (object ms) = refl

abbrev types_flip : (t u : Tree) → nat_cmp (rank t) (rank u) ≡ ordering_reverse (nat_cmp (rank u) (rank t))
types_flip t u = nat_cmp_total.antisymm (rank t) (rank u)

mutual
  alike_flip : (t u : Tree) → alike_cmp t u ≡ ordering_reverse (alike_cmp u t)
  alike_flip null u = null_flip u
  alike_flip (boolean a) (boolean b) = bool_cmp_total.antisymm a b
  alike_flip (number a) (number b) = int_cmp_total.antisymm a b
  alike_flip (text a) (text b) = nat_list_cmp_total.antisymm a b
  alike_flip (array a) (array b) = items_flip a b
  alike_flip (object a) (object b) = members_flip a b
  alike_flip t u = refl

  items_flip : (ts us : Items) → items_cmp ts us ≡ ordering_reverse (items_cmp us ts)
  items_flip no_items no_items = refl
  items_flip no_items (item u us) = refl
  items_flip (item t ts) no_items = refl
  items_flip (item t ts) (item u us) = then_flip _ _ _ _ (then_flip _ _ _ _ (types_flip t u) (alike_flip t u)) (items_flip ts us)

  members_flip : (ts us : Members) → members_cmp ts us ≡ ordering_reverse (members_cmp us ts)
  members_flip no_members no_members = refl
  members_flip no_members (member l u us) = refl
  members_flip (member k t ts) no_members = refl
  members_flip (member k t ts) (member l u us) =
      then_flip _ _ _ _ (nat_list_cmp_total.antisymm k l)
      (then_flip _ _ _ _ (then_flip _ _ _ _ (types_flip t u) (alike_flip t u)) (members_flip ts us))

tree_flip : (t u : Tree) → tree_cmp t u ≡ ordering_reverse (tree_cmp u t)
tree_flip t u = then_flip _ _ _ _ (types_flip t u) (alike_flip t u)

-- ---- one after another

mutual
  alike_chain : (t u v : Tree) → alike_cmp t u ≡ Less → alike_cmp u v ≡ Less → alike_cmp t v ≡ Less
  alike_chain (boolean a) (boolean b) (boolean c) e f = bool_cmp_total.trans a b c e f
  alike_chain (number a) (number b) (number c) e f = int_cmp_total.trans a b c e f
  alike_chain (text a) (text b) (text c) e f = nat_list_cmp_total.trans a b c e f
  alike_chain (array a) (array b) (array c) e f = items_chain a b c e f
  alike_chain (object a) (object b) (object c) e f = members_chain a b c e f
  alike_chain t u v e f = absurd (cc)

  items_chain : (ts us vs : Items) → items_cmp ts us ≡ Less → items_cmp us vs ≡ Less → items_cmp ts vs ≡ Less
  items_chain no_items no_items vs e f = absurd (cc)
  items_chain no_items (item u us) no_items e f = absurd (cc)
  items_chain no_items (item u us) (item v vs) e f = refl
  items_chain (item t ts) no_items vs e f = absurd (cc)
  items_chain (item t ts) (item u us) no_items e f = absurd (cc)
  items_chain (item t ts) (item u us) (item v vs) e f =
      then_chain (tree_cmp t u) (tree_cmp u v) (tree_cmp t v) (items_cmp ts us) (items_cmp us vs) (items_cmp ts vs)
      (chained nat_cmp_total (rank t) (rank u) (rank v) (alike_cmp t u) (alike_cmp u v) (alike_cmp t v) (alike_chain t u v))
      (λ tie. ap (λ w. tree_cmp w v) (tree_same t u tie)) (λ tie. ap (tree_cmp t) (sym (tree_same u v tie))) (items_chain ts us vs) e f

  members_chain : (ts us vs : Members) → members_cmp ts us ≡ Less → members_cmp us vs ≡ Less → members_cmp ts vs ≡ Less
  members_chain no_members no_members vs e f = absurd (cc)
  members_chain no_members (member l u us) no_members e f = absurd (cc)
  members_chain no_members (member l u us) (member m v vs) e f = refl
  members_chain (member k t ts) no_members vs e f = absurd (cc)
  members_chain (member k t ts) (member l u us) no_members e f = absurd (cc)
  members_chain (member k t ts) (member l u us) (member m v vs) e f =
      chained nat_list_cmp_total k l m (ordering_then (tree_cmp t u) (members_cmp ts us)) (ordering_then (tree_cmp u v) (members_cmp us vs)) (ordering_then (tree_cmp t v) (members_cmp ts vs))
      (then_chain (tree_cmp t u) (tree_cmp u v) (tree_cmp t v) (members_cmp ts us) (members_cmp us vs) (members_cmp ts vs)
      (chained nat_cmp_total (rank t) (rank u) (rank v) (alike_cmp t u) (alike_cmp u v) (alike_cmp t v) (alike_chain t u v))
      (λ tie. ap (λ w. tree_cmp w v) (tree_same t u tie)) (λ tie. ap (tree_cmp t) (sym (tree_same u v tie))) (members_chain ts us vs)) e f

-- ---- the laws

-- the order of values is total
pub tree_cmp_total : IsTotalOrder tree_cmp
tree_cmp_total = record {
  antisymm = tree_flip;
  trans = λ t u v. chained nat_cmp_total (rank t) (rank u) (rank v) (alike_cmp t u) (alike_cmp u v) (alike_cmp t v) (alike_chain t u v);
  congr = λ t u v tie. ap (λ w. tree_cmp w v) (tree_same t u tie);
}

-- a value ties with itself
pub tree_itself : (t : Tree) → tree_cmp t t ≡ Equal
tree_itself t = tied_itself tree_cmp_total t

-- so is the order of values that may be absent
pub value_cmp_total : IsTotalOrder value_cmp
value_cmp_total = options_total tree_cmp_total

-- values that tie are both absent or the same
pub value_same : (a b : Option Tree) → value_cmp a b ≡ Equal → a ≡ b
value_same None None e = refl
value_same None (Some u) e = absurd (cc)
value_same (Some t) None e = absurd (cc)
value_same (Some t) (Some u) e = ap Some (tree_same t u e)

-- the test of the order's tie is an equivalence
pub tree_eq_equiv : IsEquivalence (eq_by_cmp tree_cmp)
tree_eq_equiv = eq_by_cmp_equiv tree_cmp_total

-- the test holds exactly where the values are the same
pub tree_eq-Decides : (t u : Tree) → Decides (eq_by_cmp tree_cmp t u) (t ≡ u)
tree_eq-Decides t u =
    (λ e. tree_same t u ((Equal-is (tree_cmp t u)).0 e), λ e. ap (λ w. is_eq (tree_cmp w u)) e ∙ ap is_eq (tree_itself u))
