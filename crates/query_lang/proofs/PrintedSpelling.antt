-- A printed filter is written with the tokens of a tree that means it.
use Rattle.std.proofs.Common.{◌≡◌, ℕ, suc, ◌+◌, ◌^◌, ◌<◌, ◌≤◌, Bool, true, false, not, cond, ◌||◌, ◌==◌, List, [], ◌∷◌, ◌++◌, length, map, ℤ, pos, negsuc, refl, sym, ap, ◌∙◌, subst, inl, inr, arith, codes, append_assoc, append-nil}
use Rattle.std.proofs.lemmas.Bool.{lt-ltb}
use Rattle.std.proofs.lemmas.List.{length-map}
use Rattle.std.proofs.lemmas.List.Elements.{recursion_from_All}
use Rattle.std.specs.List.{flat_map, join_by, AllByRecursion}
use Rattle.q_doc.specs.Document.{FitsI64}
use Rattle.q_doc.specs.Tree.{Tree, null, boolean, number as whole, text, array, object}
use Rattle.query_core.specs.declared.operator.Op.{Op}
use Rattle.query_core.specs.declared.operator.Op.TheVariants.{Equal, Unequal, Less, AtMost, Greater, AtLeast}
use Rattle.query_core.specs.Filters.{Filter, constant, compared, listed, having, present, negated, every, some, Operands, no_operands, operand, operand_list, operands_of, height, operands_height}
use Rattle.query_core.specs.Limits.{IsScalar, is_scalar, IsFilter, AreFilters}
use Rattle.query_core.specs.Print.{is_bare, segment_text, path_text, value_text, op_text, filter_text, every_text, every_rest, some_text, some_rest, in_parentheses, is_every, is_some}
use Rattle.query_lang.specs.Bytes.{is_letter, is_digit, is_word_byte}
use Rattle.query_lang.specs.Grammar.{Segment, bare, in_quotes, segment_token, segment_key, path_tokens, path_keys, Value, text_value, number_value, truth_value, null_value, value_token, value_tree, more_values, value_tokens, FilterTree, alternatives, OrTail, no_or, or_and, AndTree, conjuncts, AndTail, no_and, and_not, NotTree, negation, one, Atom, nested, always, never, existing, comparing, listing, holding, filter_tokens, or_tokens, and_tokens, further_tokens, not_tokens, atom_tokens, filter_meaning, or_meanings, and_meaning, further_meanings, not_meaning, all_of, any_of, FilterFits, OrsFit, AndFits, FurtherFit, NotFits}
use Rattle.query_lang.specs.Lexing.{fits}
use Rattle.query_lang.specs.Spelling.{spelled, IsToken, ends_before, Tokenizes}
use Rattle.query_lang.specs.Tokens.{Token, word, name, quoted, number, bad_number, sign}
use Rattle.query_lang.specs.declared.token.Reserved.TheVariants.{And, Or, Not, In, Has, Exists, True, False, Null}
use Rattle.query_lang.specs.declared.token.Sign.TheVariants.{Compare, Open, Close, OpenList, CloseList, Comma, Dot}
use Rattle.query_lang.proofs.Utf8Lemmas.{tested}
use Rattle.query_lang.proofs.WordSpelling.{first}

-- ---- what may follow any token

-- no letter, digit, `_` or `=` comes next
pub record Stops (rest : List ℕ) : Type 0 where
  pub no_word : is_word_byte (first rest) ≡ false
  pub no_equals : (first rest == 61) ≡ false

or_right : (a b : Bool) → (a || b) ≡ false → b ≡ false
or_right true b e = cc
or_right false b e = e

-- any token ends there
pub stops_before : (t : Token) (rest : List ℕ) → Stops rest → ends_before t rest ≡ true
stops_before (word r) rest s = ap not s.no_word
stops_before (name k) rest s = ap not s.no_word
stops_before (quoted k) rest s = refl
stops_before (number z) rest s = ap not (or_right (is_letter (first rest)) (is_digit (first rest)) s.no_word)
stops_before bad_number rest s = refl
stops_before (sign (Compare Equal)) rest s = refl
stops_before (sign (Compare Unequal)) rest s = refl
stops_before (sign (Compare Less)) rest s = ap not s.no_equals
stops_before (sign (Compare AtMost)) rest s = refl
stops_before (sign (Compare Greater)) rest s = ap not s.no_equals
stops_before (sign (Compare AtLeast)) rest s = refl
stops_before (sign Open) rest s = refl
stops_before (sign Close) rest s = refl
stops_before (sign OpenList) rest s = refl
stops_before (sign CloseList) rest s = refl
stops_before (sign Comma) rest s = refl
stops_before (sign Dot) rest s = refl

-- a token before
pub spell : (t : Token) (rest : List ℕ) (ts : List Token) → IsToken t → ends_before t rest ≡ true → Tokenizes rest ts → Tokenizes (spelled t ++ rest) (t ∷ ts)
spell t rest ts is longest more = ([], rest, record { blank = refl; parts = refl; is_token = is; longest = longest }, more)

-- a space before
pub space : (rest : List ℕ) (ts : List Token) → Tokenizes rest ts → Tokenizes (32 ∷ rest) ts
space rest [] tokenizes = tokenizes
space rest (t ∷ ts) (blanks, after, begins, more) =
    (32 ∷ blanks, after, record { blank = begins.blank; parts = ap (λ r. 32 ∷ r) begins.parts; is_token = begins.is_token; longest = begins.longest }, more)

-- this text is written with these tokens, before anything at which each token ends
abbrev pub Writes : List ℕ → (List Token → List Token) → Type 0
Writes bytes tokens = (rest : List ℕ) (ts : List Token) → Stops rest → Tokenizes rest ts → Tokenizes (bytes ++ rest) (tokens ts)

pub regrouped : (a b : List ℕ) (ts : List Token) → a ≡ b → Tokenizes b ts → Tokenizes a ts
regrouped a b ts same tokenizes = subst (λ x. Tokenizes x ts) (sym same) tokenizes

pub stops_at : (b : ℕ) (rest : List ℕ) → is_word_byte b ≡ false → (b == 61) ≡ false → Stops (b ∷ rest)
stops_at b rest no_word no_equals = record { no_word = no_word; no_equals = no_equals }

-- ---- segments, paths and values

abbrev pub segment_of : List ℕ → Segment
segment_of k = cond (is_bare k) (bare k) (in_quotes k)

segment_keys : (k : List ℕ) → segment_key (segment_of k) ≡ k
segment_keys k = go (is_bare k) where
  go : (b : Bool) → segment_key (cond b (bare k) (in_quotes k)) ≡ k
  go true = refl
  go false = refl

segment_writes : (k rest : List ℕ) (ts : List Token) → Stops rest → Tokenizes rest ts → Tokenizes (segment_text k ++ rest) (segment_token (segment_of k) ∷ ts)
segment_writes k rest ts stops more =
    elim (tested (is_bare k)) [
      | inl plain ↦ rw plain (spell (name k) rest ts plain (stops_before (name k) rest stops) more)
      | inr other ↦ rw other (spell (quoted k) rest ts tt refl more)
    ]

pub path_writes : (k : List ℕ) (ks : List (List ℕ)) → Writes (path_text (k ∷ ks)) (path_tokens (segment_of k) (map segment_of ks))
path_writes k [] rest ts stops more =
    regrouped ((segment_text k ++ []) ++ rest) (segment_text k ++ rest) (segment_token (segment_of k) ∷ ts) (ap (λ x. x ++ rest) (append-nil (segment_text k))) (segment_writes k rest ts stops more)
path_writes k (m ∷ ms) rest ts stops more =
    let after = path_text (m ∷ ms) ++ rest in
    let dotted = flat_map (λ y. codes "." ++ segment_text y) ms in
    let same : (segment_text k ++ ((46 ∷ segment_text m) ++ dotted)) ++ rest ≡ segment_text k ++ (46 ∷ after) =
    append_assoc (segment_text k) ((46 ∷ segment_text m) ++ dotted) rest in
    regrouped _ (segment_text k ++ (46 ∷ after)) (segment_token (segment_of k) ∷ sign Dot ∷ path_tokens (segment_of m) (map segment_of ms) ts) same
    (segment_writes k (46 ∷ after) (sign Dot ∷ path_tokens (segment_of m) (map segment_of ms) ts) (stops_at 46 after refl refl)
    (spell (sign Dot) after (path_tokens (segment_of m) (map segment_of ms) ts) tt refl (path_writes m ms rest ts stops more)))

keys_same : (ks : List (List ℕ)) → map segment_key (map segment_of ks) ≡ ks
keys_same [] = refl
keys_same (k ∷ ks) = ap (λ x. x ∷ map segment_key (map segment_of ks)) (segment_keys k) ∙ ap (λ xs. k ∷ xs) (keys_same ks)

pub path_same : (k : List ℕ) (ks : List (List ℕ)) → path_keys (segment_of k) (map segment_of ks) ≡ k ∷ ks
path_same k ks = ap (λ x. x ∷ map segment_key (map segment_of ks)) (segment_keys k) ∙ ap (λ xs. k ∷ xs) (keys_same ks)

-- the value that a plain tree is
abbrev pub value_in : Tree → Value
value_in null = null_value
value_in (boolean b) = truth_value b
value_in (whole z) = number_value z
value_in (text s) = text_value s
value_in (array ts) = null_value
value_in (object ms) = null_value

value_same : (v : Tree) → is_scalar v ≡ true → value_tree (value_in v) ≡ v
value_same null e = refl
value_same (boolean b) e = refl
value_same (whole z) e = refl
value_same (text s) e = refl
value_same (array ts) e = cc
value_same (object ms) e = cc

number_fits : (z : ℤ) → FitsI64 z → fits z ≡ true
number_fits (pos n) small = lt-ltb n (2 ^ 63) small
number_fits (negsuc n) small = lt-ltb n (2 ^ 63) small

value_writes : (v : Tree) → IsScalar v → Writes (value_text v) (λ ts. value_token (value_in v) ∷ ts)
value_writes null s rest ts stops more = spell (word Null) rest ts tt (stops_before (word Null) rest stops) more
value_writes (boolean true) s rest ts stops more = spell (word True) rest ts tt (stops_before (word True) rest stops) more
value_writes (boolean false) s rest ts stops more = spell (word False) rest ts tt (stops_before (word False) rest stops) more
value_writes (whole z) s rest ts stops more = spell (number z) rest ts (number_fits z s.value) (stops_before (number z) rest stops) more
value_writes (text k) s rest ts stops more = spell (quoted k) rest ts tt refl more
value_writes (array us) s rest ts stops more = let no : false ≡ true = s.scalar in cc
value_writes (object ms) s rest ts stops more = let no : false ≡ true = s.scalar in cc

-- the values of a list after the first
values_write : (vs : List Tree) → AllByRecursion IsScalar vs → (rest : List ℕ) (ts : List Token) → Tokenizes (93 ∷ rest) (sign CloseList ∷ ts)
    → Tokenizes (flat_map (λ y. codes ", " ++ value_text y) vs ++ 93 ∷ rest) (more_values (map value_in vs) (sign CloseList ∷ ts)) × Stops (flat_map (λ y. codes ", " ++ value_text y) vs ++ 93 ∷ rest)
values_write [] all rest ts more = (more, stops_at 93 rest refl refl)
values_write (v ∷ vs) all rest ts more =
    let (tail, stops) = values_write vs all.1 rest ts more in
    let after = flat_map (λ y. codes ", " ++ value_text y) vs ++ 93 ∷ rest in
    let same : (codes ", " ++ value_text v ++ flat_map (λ y. codes ", " ++ value_text y) vs) ++ 93 ∷ rest ≡ 44 ∷ 32 ∷ (value_text v ++ after) =
    ap (λ x. 44 ∷ 32 ∷ x) (append_assoc (value_text v) (flat_map (λ y. codes ", " ++ value_text y) vs) (93 ∷ rest)) in (
      regrouped _ (44 ∷ 32 ∷ (value_text v ++ after)) (sign Comma ∷ value_token (value_in v) ∷ more_values (map value_in vs) (sign CloseList ∷ ts)) same
          (spell (sign Comma) (32 ∷ (value_text v ++ after)) (value_token (value_in v) ∷ more_values (map value_in vs) (sign CloseList ∷ ts)) tt refl
          (space (value_text v ++ after) (value_token (value_in v) ∷ more_values (map value_in vs) (sign CloseList ∷ ts))
          (value_writes v all.0 after (more_values (map value_in vs) (sign CloseList ∷ ts)) stops tail))),
      stops_at 44 _ refl refl,
    )

list_writes : (vs : List Tree) → AllByRecursion IsScalar vs → (rest : List ℕ) (ts : List Token) → Tokenizes rest ts
    → Tokenizes (join_by value_text (codes ", ") vs ++ 93 ∷ rest) (value_tokens (map value_in vs) (sign CloseList ∷ ts))
list_writes [] all rest ts more = spell (sign CloseList) rest ts tt refl more
list_writes (v ∷ vs) all rest ts more =
    let (tail, stops) = values_write vs all.1 rest ts (spell (sign CloseList) rest ts tt refl more) in
    regrouped _ _ (value_token (value_in v) ∷ more_values (map value_in vs) (sign CloseList ∷ ts)) (append_assoc (value_text v) (flat_map (λ y. codes ", " ++ value_text y) vs) (93 ∷ rest))
    (value_writes v all.0 (flat_map (λ y. codes ", " ++ value_text y) vs ++ 93 ∷ rest) (more_values (map value_in vs) (sign CloseList ∷ ts)) stops tail)

values_same : (vs : List Tree) → AllByRecursion IsScalar vs → map value_tree (map value_in vs) ≡ vs
values_same [] all = refl
values_same (v ∷ vs) all = ap (λ x. x ∷ map value_tree (map value_in vs)) (value_same v all.0.scalar) ∙ ap (λ xs. v ∷ xs) (values_same vs all.1)

-- ---- atoms

compared_text : (k : List ℕ) (ks : List (List ℕ)) (op : Op) (v : Tree) → IsScalar v
    → Writes (filter_text (compared (k ∷ ks) op v)) (atom_tokens (comparing (segment_of k) (map segment_of ks) op (value_in v)))
compared_text k ks op v s rest ts stops more =
    let p = path_text (k ∷ ks) in
    let after = value_text v ++ rest in
    let same : (p ++ codes " " ++ op_text op ++ codes " " ++ value_text v) ++ rest ≡ p ++ (32 ∷ (op_text op ++ (32 ∷ after))) = simp append_assoc in
    let tokens = value_token (value_in v) ∷ ts in
    regrouped _ _ (path_tokens (segment_of k) (map segment_of ks) (sign (Compare op) ∷ tokens)) same
    (path_writes k ks (32 ∷ (op_text op ++ (32 ∷ after))) (sign (Compare op) ∷ tokens) (stops_at 32 _ refl refl)
    (space (op_text op ++ (32 ∷ after)) (sign (Compare op) ∷ tokens)
    (spell (sign (Compare op)) (32 ∷ after) tokens tt (stops_before (sign (Compare op)) (32 ∷ after) (stops_at 32 after refl refl))
    (space after tokens (value_writes v s rest ts stops more)))))

having_text : (k : List ℕ) (ks : List (List ℕ)) (v : Tree) → IsScalar v → Writes (filter_text (having (k ∷ ks) v)) (atom_tokens (holding (segment_of k) (map segment_of ks) (value_in v)))
having_text k ks v s rest ts stops more =
    let p = path_text (k ∷ ks) in
    let after = value_text v ++ rest in
    let same : (p ++ codes " has " ++ value_text v) ++ rest ≡ p ++ (32 ∷ (codes "has" ++ (32 ∷ after))) = simp append_assoc in
    let tokens = value_token (value_in v) ∷ ts in
    regrouped _ _ (path_tokens (segment_of k) (map segment_of ks) (word Has ∷ tokens)) same
    (path_writes k ks (32 ∷ (codes "has" ++ (32 ∷ after))) (word Has ∷ tokens) (stops_at 32 _ refl refl)
    (space (codes "has" ++ (32 ∷ after)) (word Has ∷ tokens)
    (spell (word Has) (32 ∷ after) tokens tt refl (space after tokens (value_writes v s rest ts stops more)))))

listed_text : (k : List ℕ) (ks : List (List ℕ)) (vs : List Tree) → AllByRecursion IsScalar vs → Writes (filter_text (listed (k ∷ ks) vs)) (atom_tokens (listing (segment_of k) (map segment_of ks) (map value_in vs)))
listed_text k ks vs all rest ts stops more =
    let p = path_text (k ∷ ks) in
    let inside = join_by value_text (codes ", ") vs ++ 93 ∷ rest in
    let same : (p ++ codes " in [" ++ join_by value_text (codes ", ") vs ++ codes "]") ++ rest ≡ p ++ (32 ∷ (codes "in" ++ (32 ∷ 91 ∷ inside))) = simp append_assoc in
    let tokens = value_tokens (map value_in vs) (sign CloseList ∷ ts) in
    regrouped _ _ (path_tokens (segment_of k) (map segment_of ks) (word In ∷ sign OpenList ∷ tokens)) same
    (path_writes k ks (32 ∷ (codes "in" ++ (32 ∷ 91 ∷ inside))) (word In ∷ sign OpenList ∷ tokens) (stops_at 32 _ refl refl)
    (space (codes "in" ++ (32 ∷ 91 ∷ inside)) (word In ∷ sign OpenList ∷ tokens)
    (spell (word In) (32 ∷ 91 ∷ inside) (sign OpenList ∷ tokens) tt refl
    (space (91 ∷ inside) (sign OpenList ∷ tokens) (spell (sign OpenList) inside tokens tt refl (list_writes vs all rest ts more))))))

present_text : (k : List ℕ) (ks : List (List ℕ)) → Writes (filter_text (present (k ∷ ks))) (atom_tokens (existing (segment_of k) (map segment_of ks)))
present_text k ks rest ts stops more =
    let p = path_text (k ∷ ks) in
    let tokens = path_tokens (segment_of k) (map segment_of ks) ts in
    spell (word Exists) (32 ∷ (p ++ rest)) tokens tt refl (space (p ++ rest) tokens (path_writes k ks rest ts stops more))

-- ---- filters

-- the trees with which a filter is written: as an operand of `not` or `and`, as one of `or`, and by itself
pub record Built : Type 0 where
  pub as_not : NotTree
  pub as_and : AndTree
  pub as_filter : FilterTree

abbrev from_not : NotTree → Built
from_not n = record { as_not = n; as_and = conjuncts n no_and; as_filter = alternatives (conjuncts n no_and) no_or }

abbrev and_tail : List Built → AndTail
and_tail [] = no_and
and_tail (b ∷ bs) = and_not b.as_not (and_tail bs)

abbrev or_tail : List Built → OrTail
or_tail [] = no_or
or_tail (b ∷ bs) = or_and b.as_and (or_tail bs)

abbrev from_every : List Built → Built
from_every [] = from_not (one never)
from_every (b ∷ bs) =
    let a = conjuncts b.as_not (and_tail bs) in
    record { as_not = one (nested (alternatives a no_or)); as_and = a; as_filter = alternatives a no_or }

abbrev from_some : List Built → Built
from_some [] = from_not (one never)
from_some (b ∷ bs) =
    let t = alternatives b.as_and (or_tail bs) in
    record { as_not = one (nested t); as_and = conjuncts (one (nested t)) no_and; as_filter = t }

abbrev path_atom : (Segment → List Segment → Atom) → List (List ℕ) → Built
path_atom a [] = from_not (one never)
path_atom a (k ∷ ks) = from_not (one (a (segment_of k) (map segment_of ks)))

abbrev mutual
  pub built : Filter → Built
  built (constant true) = from_not (one always)
  built (constant false) = from_not (one never)
  built (compared p op v) = path_atom (λ s ss. comparing s ss op (value_in v)) p
  built (listed p vs) = path_atom (λ s ss. listing s ss (map value_in vs)) p
  built (having p v) = path_atom (λ s ss. holding s ss (value_in v)) p
  built (present p) = path_atom existing p
  built (negated f) = from_not (negation (built f).as_not)
  built (every fs) = from_every (all_built fs)
  built (some fs) = from_some (all_built fs)

  pub all_built : Operands → List Built
  all_built no_operands = []
  all_built (operand f fs) = built f ∷ all_built fs

-- the trees mean the filter, are written so, and fit
pub record Right (b : Built) (f : Filter) (not_text and_text whole_text : List ℕ) : Type 0 where
  pub not_means : not_meaning b.as_not ≡ f
  pub and_means : and_meaning b.as_and ≡ f
  pub whole_means : filter_meaning b.as_filter ≡ f
  pub not_writes : Writes not_text (not_tokens b.as_not)
  pub and_writes : Writes and_text (and_tokens b.as_and)
  pub whole_writes : Writes whole_text (filter_tokens b.as_filter)
  pub not_fits : (k : ℕ) → k + height f ≤ 64 → NotFits k b.as_not
  pub and_fits : (k : ℕ) → k + height f ≤ 64 → AndFits k b.as_and
  pub whole_fits : (k : ℕ) → k + height f ≤ 64 → FilterFits k b.as_filter

from_not_right : (n : NotTree) (f : Filter) (bytes : List ℕ) → not_meaning n ≡ f → Writes bytes (not_tokens n) → ((k : ℕ) → k + height f ≤ 64 → NotFits k n) → Right (from_not n) f bytes bytes bytes
from_not_right n f bytes means writes fits_at = record {
  not_means = means;
  and_means = means;
  whole_means = means;
  not_writes = writes;
  and_writes = writes;
  whole_writes = writes;
  not_fits = fits_at;
  and_fits = λ k below. (fits_at k below, tt);
  whole_fits = λ k below. ((fits_at k below, tt), tt);
}

-- a filter with its text in each context
abbrev pub RightFilter : Filter → Type 0
RightFilter f = Right (built f) f (in_parentheses (is_every f || is_some f) (filter_text f)) (in_parentheses (is_some f) (filter_text f)) (filter_text f)

abbrev RightOperands : Operands → Type 0
RightOperands no_operands = Unit {0}
RightOperands (operand f fs) = RightFilter f × RightOperands fs

-- further operands of `and`
every_rest_writes : (fs : Operands) → RightOperands fs → (rest : List ℕ) (ts : List Token) → Stops rest → Tokenizes rest ts
    → Tokenizes (every_rest fs ++ rest) (further_tokens (and_tail (all_built fs)) ts) × Stops (every_rest fs ++ rest)
every_rest_writes no_operands right rest ts stops more = (more, stops)
every_rest_writes (operand f fs) right rest ts stops more =
    let (tail, tail_stops) = every_rest_writes fs right.1 rest ts stops more in
    let t = in_parentheses (is_every f || is_some f) (filter_text f) in
    let same : (codes " and " ++ t ++ every_rest fs) ++ rest ≡ 32 ∷ (codes "and" ++ (32 ∷ (t ++ (every_rest fs ++ rest)))) = ap (λ x. codes " and " ++ x) (append_assoc t (every_rest fs) rest) in
    let tokens = not_tokens (built f).as_not (further_tokens (and_tail (all_built fs)) ts) in (
      regrouped _ _ (word And ∷ tokens) same
          (space (codes "and" ++ (32 ∷ (t ++ (every_rest fs ++ rest)))) (word And ∷ tokens)
          (spell (word And) (32 ∷ (t ++ (every_rest fs ++ rest))) tokens tt refl
          (space (t ++ (every_rest fs ++ rest)) tokens (right.0.not_writes (every_rest fs ++ rest) (further_tokens (and_tail (all_built fs)) ts) tail_stops tail)))),
      stops_at 32 _ refl refl,
    )

-- further operands of `or`
some_rest_writes : (fs : Operands) → RightOperands fs → (rest : List ℕ) (ts : List Token) → Stops rest → Tokenizes rest ts
    → Tokenizes (some_rest fs ++ rest) (or_tokens (or_tail (all_built fs)) ts) × Stops (some_rest fs ++ rest)
some_rest_writes no_operands right rest ts stops more = (more, stops)
some_rest_writes (operand f fs) right rest ts stops more =
    let (tail, tail_stops) = some_rest_writes fs right.1 rest ts stops more in
    let t = in_parentheses (is_some f) (filter_text f) in
    let same : (codes " or " ++ t ++ some_rest fs) ++ rest ≡ 32 ∷ (codes "or" ++ (32 ∷ (t ++ (some_rest fs ++ rest)))) = ap (λ x. codes " or " ++ x) (append_assoc t (some_rest fs) rest) in
    let tokens = and_tokens (built f).as_and (or_tokens (or_tail (all_built fs)) ts) in (
      regrouped _ _ (word Or ∷ tokens) same
          (space (codes "or" ++ (32 ∷ (t ++ (some_rest fs ++ rest)))) (word Or ∷ tokens)
          (spell (word Or) (32 ∷ (t ++ (some_rest fs ++ rest))) tokens tt refl
          (space (t ++ (some_rest fs ++ rest)) tokens (right.0.and_writes (some_rest fs ++ rest) (or_tokens (or_tail (all_built fs)) ts) tail_stops tail)))),
      stops_at 32 _ refl refl,
    )

further_means : (fs : Operands) → RightOperands fs → further_meanings (and_tail (all_built fs)) ≡ operand_list fs
further_means no_operands right = refl
further_means (operand f fs) right = ap (λ x. x ∷ further_meanings (and_tail (all_built fs))) right.0.not_means ∙ ap (λ xs. f ∷ xs) (further_means fs right.1)

or_means : (fs : Operands) → RightOperands fs → or_meanings (or_tail (all_built fs)) ≡ operand_list fs
or_means no_operands right = refl
or_means (operand f fs) right = ap (λ x. x ∷ or_meanings (or_tail (all_built fs))) right.0.and_means ∙ ap (λ xs. f ∷ xs) (or_means fs right.1)

operands_same : (fs : Operands) → operands_of (operand_list fs) ≡ fs
operands_same no_operands = refl
operands_same (operand f fs) = ap (operand f) (operands_same fs)

further_fit : (fs : Operands) → RightOperands fs → (k : ℕ) → k + operands_height fs ≤ 64 → FurtherFit k (and_tail (all_built fs))
further_fit no_operands right k below = tt
further_fit (operand f fs) right k below = (right.0.not_fits k (omega arith), further_fit fs right.1 k (omega arith))

ors_fit : (fs : Operands) → RightOperands fs → (k : ℕ) → k + operands_height fs ≤ 64 → OrsFit k (or_tail (all_built fs))
ors_fit no_operands right k below = tt
ors_fit (operand f fs) right k below = (right.0.and_fits k (omega arith), ors_fit fs right.1 k (omega arith))

-- a text in parentheses
nested_writes : (t : FilterTree) (bytes : List ℕ) → Writes bytes (filter_tokens t) → Writes (codes "(" ++ bytes ++ codes ")") (not_tokens (one (nested t)))
nested_writes t bytes writes rest ts stops more =
    let same : (codes "(" ++ bytes ++ codes ")") ++ rest ≡ 40 ∷ (bytes ++ (41 ∷ rest)) = ap (λ x. 40 ∷ x) (append_assoc bytes (41 ∷ []) rest) in
    regrouped _ _ (sign Open ∷ filter_tokens t (sign Close ∷ ts)) same
    (spell (sign Open) (bytes ++ (41 ∷ rest)) (filter_tokens t (sign Close ∷ ts)) tt refl
    (writes (41 ∷ rest) (sign Close ∷ ts) (stops_at 41 rest refl refl) (spell (sign Close) rest ts tt refl more)))

every_right : (fs : Operands) → RightOperands fs → 2 ≤ length (operand_list fs) → RightFilter (every fs)
every_right no_operands right two = absurd (omega arith)
every_right (operand f no_operands) right two = absurd (omega arith)
every_right (operand f (operand g fs)) right two =
    let rest_of = operand g fs in
    let bs = all_built rest_of in
    let a = conjuncts (built f).as_not (and_tail bs) in
    let whole_filter = every (operand f rest_of) in
    let means : and_meaning a ≡ whole_filter =
    ap (λ x. all_of (x ∷ further_meanings (and_tail bs))) right.0.not_means ∙ ap (λ xs. all_of (f ∷ xs)) (further_means rest_of right.1) ∙ ap (λ xs. every (operand f xs)) (operands_same rest_of) in
    let writes : Writes (every_text (operand f rest_of)) (and_tokens a) = λ rest ts stops more.
    (let (tail, tail_stops) = every_rest_writes rest_of right.1 rest ts stops more in
    let t = in_parentheses (is_every f || is_some f) (filter_text f) in
    regrouped ((t ++ every_rest rest_of) ++ rest) (t ++ (every_rest rest_of ++ rest)) (and_tokens a ts) (append_assoc t (every_rest rest_of) rest)
    (right.0.not_writes (every_rest rest_of ++ rest) (further_tokens (and_tail bs) ts) tail_stops tail)) in
    let fit : (k : ℕ) → k + height whole_filter ≤ 64 → AndFits k a = λ k below. (right.0.not_fits k (omega arith), further_fit rest_of right.1 k (omega arith)) in
    let inner : (k : ℕ) → k + height whole_filter ≤ 64 → (k < 64) × FilterFits (suc k) (alternatives a no_or) =
    λ k below. (omega arith, ((right.0.not_fits (suc k) (omega arith), further_fit rest_of right.1 (suc k) (omega arith)), tt)) in
    record {
      not_means = means;
      and_means = means;
      whole_means = means;
      not_writes = nested_writes (alternatives a no_or) (every_text (operand f rest_of)) writes;
      and_writes = writes;
      whole_writes = writes;
      not_fits = inner;
      and_fits = fit;
      whole_fits = λ k below. (fit k below, tt);
    }

some_right : (fs : Operands) → RightOperands fs → 2 ≤ length (operand_list fs) → RightFilter (some fs)
some_right no_operands right two = absurd (omega arith)
some_right (operand f no_operands) right two = absurd (omega arith)
some_right (operand f (operand g fs)) right two =
    let rest_of = operand g fs in
    let bs = all_built rest_of in
    let t = alternatives (built f).as_and (or_tail bs) in
    let whole_filter = some (operand f rest_of) in
    let means : filter_meaning t ≡ whole_filter =
    ap (λ x. any_of (x ∷ or_meanings (or_tail bs))) right.0.and_means ∙ ap (λ xs. any_of (f ∷ xs)) (or_means rest_of right.1) ∙ ap (λ xs. some (operand f xs)) (operands_same rest_of) in
    let writes : Writes (some_text (operand f rest_of)) (filter_tokens t) = λ rest ts stops more.
    (let (tail, tail_stops) = some_rest_writes rest_of right.1 rest ts stops more in
    let u = in_parentheses (is_some f) (filter_text f) in
    regrouped ((u ++ some_rest rest_of) ++ rest) (u ++ (some_rest rest_of ++ rest)) (filter_tokens t ts) (append_assoc u (some_rest rest_of) rest)
    (right.0.and_writes (some_rest rest_of ++ rest) (or_tokens (or_tail bs) ts) tail_stops tail)) in
    let inner : (k : ℕ) → k + height whole_filter ≤ 64 → (k < 64) × FilterFits (suc k) t =
    λ k below. (omega arith, (right.0.and_fits (suc k) (omega arith), ors_fit rest_of right.1 (suc k) (omega arith))) in
    let in_parens = nested_writes t (some_text (operand f rest_of)) writes in
    record {
      not_means = means;
      and_means = means;
      whole_means = means;
      not_writes = in_parens;
      and_writes = in_parens;
      whole_writes = writes;
      not_fits = inner;
      and_fits = λ k below. (inner k below, tt);
      whole_fits = λ k below. (right.0.and_fits k (omega arith), ors_fit rest_of right.1 k (omega arith));
    }

negated_right : (f : Filter) → RightFilter f → RightFilter (negated f)
negated_right f right =
    let t = in_parentheses (is_every f || is_some f) (filter_text f) in
    from_not_right (negation (built f).as_not) (negated f) (codes "not " ++ t) (ap negated right.not_means)
    (λ rest ts stops more. spell (word Not) (32 ∷ (t ++ rest)) (not_tokens (built f).as_not ts) tt refl (space (t ++ rest) (not_tokens (built f).as_not ts) (right.not_writes rest ts stops more)))
    (λ k below. right.not_fits k (omega arith))

mutual
  -- each filter of the language is written with the tokens of its trees
  pub filter_right : (f : Filter) → IsFilter f → RightFilter f
  filter_right (constant true) is = from_not_right (one always) (constant true) (codes "true") refl (λ rest ts stops more. spell (word True) rest ts tt (stops_before (word True) rest stops) more) (λ k below. tt)
  filter_right (constant false) is = from_not_right (one never) (constant false) (codes "false") refl (λ rest ts stops more. spell (word False) rest ts tt (stops_before (word False) rest stops) more) (λ k below. tt)
  filter_right (compared [] op v) (path, scalar) = absurd (omega (arith, path.length_fits.0))
  filter_right (compared (k ∷ ks) op v) (path, scalar) =
      from_not_right (one (comparing (segment_of k) (map segment_of ks) op (value_in v))) (compared (k ∷ ks) op v) (filter_text (compared (k ∷ ks) op v))
      (ap (λ p. compared p op (value_tree (value_in v))) (path_same k ks) ∙ ap (compared (k ∷ ks) op) (value_same v scalar.scalar))
      (compared_text k ks op v scalar) (λ i below. omega (arith, path.length_fits.1, length-map ks segment_of))
  filter_right (listed [] vs) (path, all) = absurd (omega (arith, path.length_fits.0))
  filter_right (listed (k ∷ ks) vs) (path, all) =
      let each = recursion_from_All IsScalar vs all in
      from_not_right (one (listing (segment_of k) (map segment_of ks) (map value_in vs))) (listed (k ∷ ks) vs) (filter_text (listed (k ∷ ks) vs))
      (ap (λ p. listed p (map value_tree (map value_in vs))) (path_same k ks) ∙ ap (listed (k ∷ ks)) (values_same vs each))
      (listed_text k ks vs each) (λ i below. omega (arith, path.length_fits.1, length-map ks segment_of))
  filter_right (having [] v) (path, scalar) = absurd (omega (arith, path.length_fits.0))
  filter_right (having (k ∷ ks) v) (path, scalar) =
      from_not_right (one (holding (segment_of k) (map segment_of ks) (value_in v))) (having (k ∷ ks) v) (filter_text (having (k ∷ ks) v))
      (ap (λ p. having p (value_tree (value_in v))) (path_same k ks) ∙ ap (having (k ∷ ks)) (value_same v scalar.scalar))
      (having_text k ks v scalar) (λ i below. omega (arith, path.length_fits.1, length-map ks segment_of))
  filter_right (present []) path = absurd (omega (arith, path.length_fits.0))
  filter_right (present (k ∷ ks)) path =
      from_not_right (one (existing (segment_of k) (map segment_of ks))) (present (k ∷ ks)) (filter_text (present (k ∷ ks))) (ap present (path_same k ks))
      (present_text k ks) (λ i below. omega (arith, path.length_fits.1, length-map ks segment_of))
  filter_right (negated f) is = negated_right f (filter_right f is)
  filter_right (every fs) (two, each) = every_right fs (operands_right fs each) two
  filter_right (some fs) (two, each) = some_right fs (operands_right fs each) two

  operands_right : (fs : Operands) → AreFilters fs → RightOperands fs
  operands_right no_operands is = tt
  operands_right (operand f fs) (f_is, fs_are) = (filter_right f f_is, operands_right fs fs_are)
