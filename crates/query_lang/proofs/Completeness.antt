-- The tokens of a tree are read as what the tree means.
use Rattle.std.proofs.Common.{◌≡◌, ℕ, ◌+◌, ◌<◌, Bool, true, false, cond, ◌==◌, if◌then◌else◌, nat_lt, List, [], ◌∷◌, ◌++◌, length, map, drop, Result, Ok, Err, refl, sym, ap, ◌∙◌, subst, arith, append-nil}
use Rattle.std.proofs.lemmas.Bool.{lt-ltb}
use Rattle.query_core.specs.Filters.{Filter, constant, compared, listed, having, present}
use Rattle.query_lang.specs.declared.filter_reader.ValueTest.TheVariants.{Compare as AsksCompare, Has as AsksHas}
use Rattle.query_lang.specs.declared.filter_reader.Pending.TheVariants as pending
use Rattle.query_lang.specs.declared.token.Reserved.TheVariants.{And, Or, Not, In, Has}
use Rattle.query_lang.specs.declared.token.Sign.TheVariants.{Compare, Open, Close, OpenList, CloseList, Dot}
use Rattle.query_core.specs.declared.operator.Op.{Op}
use Rattle.query_lang.specs.FilterText.{capped, decided}
use Rattle.query_lang.specs.FilterReading.{State, on_token, on_operand, on_path, on_list, on_first_item, on_after_item, item_at, on_joint, opened, atom, join_all, joined, joined_height, start, judged, judged_if, ended, capped_sum, without_pending}
use Rattle.query_core.specs.Filters.{height}
use Rattle.query_core.specs.Limits.{leaves}
use Rattle.query_lang.specs.declared.refusal.QueryRefusal.{QueryRefusal}
use Rattle.query_lang.specs.declared.refusal.QueryRefusal.TheVariants.{TooMany, TooDeep}
use Rattle.std.proofs.lemmas.Bool.Decides.{nat_tests}
use Rattle.query_lang.specs.declared.operands.Join.TheVariants as join
use Rattle.query_lang.specs.Grammar.{FilterTree, alternatives, OrTail, no_or, or_and, AndTree, conjuncts, AndTail, no_and, and_not, NotTree, negation, one, Atom, nested, always, never, existing, comparing, listing, holding, filter_tokens, or_tokens, and_tokens, further_tokens, not_tokens, atom_tokens, filter_meaning, not_meaning, atom_meaning, any_of, FilterFits, OrsFit, AndFits, FurtherFit, NotFits, AtomFits, Segment, path_keys, Value, truth_value, value_token, value_tree, value_tokens, more_values}
use Rattle.query_lang.specs.Reading.{after_token}
use Rattle.query_lang.specs.Tokens.{Token, word, sign}
use Rattle.query_lang.proofs.Capped.{plus, atom_plus, with_not, plus_negated}
use Rattle.query_lang.proofs.Frames.{operand_at, joint_at, inner, after_filter, after_ors, after_and, after_further, and_outer, closed_filter, closed_at, close_with, close_plus, framed, keep, most, total, together_height, together_kept, together_leaves, any_together, filter_outer}
use Rattle.query_lang.specs.declared.refusal.Cause.TheVariants as cause
use Rattle.query_lang.proofs.Capped.{above_limit}
use Rattle.query_lang.proofs.Runs.{outcome, NoDot}
use Rattle.query_lang.proofs.Steps.{tested_path, existing_path, exists_operand, asked_value, further_values, first_value}

-- what a tail of a filter is followed by
or_no_dot : (os : OrTail) (rest : List Token) → NoDot rest → NoDot (or_tokens os rest)
or_no_dot no_or rest other = other
or_no_dot (or_and a os) rest other = tt

further_no_dot : (ns : AndTail) (rest : List Token) → NoDot rest → NoDot (further_tokens ns rest)
further_no_dot no_and rest other = other
further_no_dot (and_not n ns) rest other = tt

-- after the `[` of a list
list_values : (s : State) (path : List (List ℕ)) (vs : List Value) (rest : List Token)
    → outcome (record s { pending = pending.FirstItem path }) (value_tokens vs (sign CloseList ∷ rest)) ≡ outcome (atom (listed path (map value_tree vs)) (length (map value_tree vs)) s) rest
unfolding on_token on_first_item on_after_item item_at
list_values s path [] rest = refl
list_values s path (v ∷ vs) rest = first_value s path v (more_values vs (sign CloseList ∷ rest)) ∙ further_values s path (value_tree v ∷ []) vs (sign CloseList ∷ rest)

-- atoms but nested filters
module _ (s : State) (seg : Segment) (ss : List Segment) (below : length ss < 8) where
  plain_exists : (rest : List Token) → NoDot rest → outcome (operand_at s) (atom_tokens (existing seg ss) rest) ≡ outcome (plus (present (path_keys seg ss)) s) rest
  plain_exists rest other = existing_path s seg ss rest below ∙ exists_operand s (path_keys seg ss) rest other

  plain_compared : (op : Op) (v : Value) (rest : List Token) → outcome (operand_at s) (atom_tokens (comparing seg ss op v) rest) ≡ outcome (plus (compared (path_keys seg ss) op (value_tree v)) s) rest
  unfolding on_token on_path
  plain_compared op v rest =
      tested_path s seg ss (sign (Compare op) ∷ value_token v ∷ rest) below
      ∙ asked_value s (path_keys seg ss) (AsksCompare op) v rest
      ∙ ap (λ after. outcome after rest) (atom_plus (compared (path_keys seg ss) op (value_tree v)) 0 s refl refl)

  plain_having : (v : Value) (rest : List Token) → outcome (operand_at s) (atom_tokens (holding seg ss v) rest) ≡ outcome (plus (having (path_keys seg ss) (value_tree v)) s) rest
  unfolding on_token on_path
  plain_having v rest =
      tested_path s seg ss (word Has ∷ value_token v ∷ rest) below
      ∙ asked_value s (path_keys seg ss) AsksHas v rest
      ∙ ap (λ after. outcome after rest) (atom_plus (having (path_keys seg ss) (value_tree v)) 0 s refl refl)

  plain_listed : (vs : List Value) (rest : List Token) → outcome (operand_at s) (atom_tokens (listing seg ss vs) rest) ≡ outcome (plus (listed (path_keys seg ss) (map value_tree vs)) s) rest
  unfolding on_token on_path on_list
  plain_listed vs rest =
      tested_path s seg ss (word In ∷ sign OpenList ∷ value_tokens vs (sign CloseList ∷ rest)) below
      ∙ list_values s (path_keys seg ss) vs rest
      ∙ ap (λ after. outcome after rest) (atom_plus (listed (path_keys seg ss) (map value_tree vs)) (length (map value_tree vs)) s refl refl)

plain_constant : (s : State) (b : Bool) (rest : List Token) → outcome (atom (constant b) 0 (operand_at s)) rest ≡ outcome (plus (constant b) s) rest
plain_constant s b rest = ap (λ after. outcome after rest) (atom_plus (constant b) 0 (operand_at s) refl refl)

-- a filter in parentheses is one operand
closing : (t : FilterTree) (s : State) (rest : List Token) → outcome (joint_at (after_filter t (inner s))) (sign Close ∷ rest) ≡ outcome (plus (filter_meaning t) s) rest
unfolding on_token on_joint
closing t s rest =
    let x = after_filter t (inner s) in
    let (f, fs, means, whole) = closed_filter t (record s { outer = s.level ∷ s.outer }) in
    ap (after_token (λ after. outcome after rest) 102 0) (closed_at x s.level s.outer (ap (λ w. w.outer) whole) ∙ ap (λ w. Ok (close_with w s.level s.outer)) whole)
    ∙ ap (λ after. outcome after rest) (close_plus s (s.level ∷ s.outer) f fs ∙ ap (λ g. plus g s) (sym means))

at_or : (s : State) (ts : List Token) → outcome (joint_at s) (word Or ∷ ts) ≡ outcome (operand_at (join_all s)) ts
unfolding on_token on_joint
at_or s ts = refl

at_and : (s : State) (ts : List Token) → outcome (joint_at s) (word And ∷ ts) ≡ outcome (operand_at s) ts
unfolding on_token on_joint
at_and s ts = refl

at_not : (s : State) (ts : List Token) → outcome (operand_at s) (word Not ∷ ts) ≡ outcome (operand_at (with_not s)) ts
unfolding on_token on_operand
at_not s ts = refl

at_constant : (s : State) (b : Bool) (rest : List Token) → outcome (operand_at s) (value_token (truth_value b) ∷ rest) ≡ outcome (plus (constant b) s) rest
unfolding on_token on_operand
at_constant s true rest = plain_constant s true rest
at_constant s false rest = plain_constant s false rest

opening : (s : State) (ts : List Token) → length s.outer < 64 → outcome (operand_at s) (sign Open ∷ ts) ≡ outcome (operand_at (inner s)) ts
unfolding on_token on_operand opened
opening s ts below = rw (lt-ltb (length s.outer) 64 below) refl

mutual
  -- a filter
  pub read_filter_tree : (t : FilterTree) (s : State) (rest : List Token) → FilterFits (length s.outer) t → NoDot rest
      → outcome (operand_at s) (filter_tokens t rest) ≡ outcome (joint_at (after_filter t s)) rest
  read_filter_tree (alternatives a os) s rest (a_fits, os_fit) other =
      read_and a s (or_tokens os rest) a_fits (or_no_dot os rest other)
      ∙ read_ors os (after_and a s) rest (subst (λ o. OrsFit (length o) os) (sym (and_outer a s)) os_fit) other

  -- further alternatives
  pub read_ors : (os : OrTail) (s : State) (rest : List Token) → OrsFit (length s.outer) os → NoDot rest
      → outcome (joint_at s) (or_tokens os rest) ≡ outcome (joint_at (after_ors os s)) rest
  read_ors no_or s rest fits other = refl
  read_ors (or_and a os) s rest (a_fits, os_fit) other =
      at_or s (and_tokens a (or_tokens os rest))
      ∙ read_and a (join_all s) (or_tokens os rest) a_fits (or_no_dot os rest other)
      ∙ read_ors os (after_and a (join_all s)) rest (subst (λ o. OrsFit (length o) os) (sym (and_outer a (join_all s))) os_fit) other

  -- a conjunction
  pub read_and : (a : AndTree) (s : State) (rest : List Token) → AndFits (length s.outer) a → NoDot rest
      → outcome (operand_at s) (and_tokens a rest) ≡ outcome (joint_at (after_and a s)) rest
  read_and (conjuncts n ns) s rest (n_fits, ns_fit) other =
      read_not n s (further_tokens ns rest) n_fits (further_no_dot ns rest other)
      ∙ read_further ns (plus (not_meaning n) s) rest ns_fit other

  -- further conjuncts
  pub read_further : (ns : AndTail) (s : State) (rest : List Token) → FurtherFit (length s.outer) ns → NoDot rest
      → outcome (joint_at s) (further_tokens ns rest) ≡ outcome (joint_at (after_further ns s)) rest
  read_further no_and s rest fits other = refl
  read_further (and_not n ns) s rest (n_fits, ns_fit) other =
      at_and s (not_tokens n (further_tokens ns rest))
      ∙ read_not n s (further_tokens ns rest) n_fits (further_no_dot ns rest other)
      ∙ read_further ns (plus (not_meaning n) s) rest ns_fit other

  -- a negation or an atom
  pub read_not : (n : NotTree) (s : State) (rest : List Token) → NotFits (length s.outer) n → NoDot rest
      → outcome (operand_at s) (not_tokens n rest) ≡ outcome (plus (not_meaning n) s) rest
  read_not (negation n) s rest fits other =
      at_not s (not_tokens n rest) ∙ read_not n (with_not s) rest fits other
      ∙ ap (λ after. outcome after rest) (plus_negated (not_meaning n) s)
  read_not (one a) s rest fits other = read_atom a s rest fits other

  -- an atom
  pub read_atom : (a : Atom) (s : State) (rest : List Token) → AtomFits (length s.outer) a → NoDot rest
      → outcome (operand_at s) (atom_tokens a rest) ≡ outcome (plus (atom_meaning a) s) rest
  read_atom (nested t) s rest (below, fits) other =
      opening s (filter_tokens t (sign Close ∷ rest)) below
      ∙ read_filter_tree t (inner s) (sign Close ∷ rest) fits (λ e. let no : Close ≡ Dot = e in cc)
      ∙ closing t s rest
  read_atom always s rest fits other = at_constant s true rest
  read_atom never s rest fits other = at_constant s false rest
  read_atom (existing seg ss) s rest fits other = plain_exists s seg ss fits rest other
  read_atom (comparing seg ss op v) s rest fits other = plain_compared s seg ss fits op v rest
  read_atom (listing seg ss vs) s rest fits other = plain_listed s seg ss fits vs rest
  read_atom (holding seg ss v) s rest fits other = plain_having s seg ss fits v rest

-- ---- whole filters

few_leaves : (n : ℕ) → nat_lt 256 (capped n) ≡ nat_lt 256 n
few_leaves n = grind (arith, nat_tests)

-- the answer for these numbers and this filter
abbrev answer : ℕ → ℕ → Filter → Result Filter QueryRefusal
answer n h f = if nat_lt 256 n then Err (TooMany n) else (if nat_lt 32 h then Err (TooDeep h) else Ok f)

by_height : (many b : Bool) (n h : ℕ) (f : Filter) → (if many then Err (TooMany n) else (if b then Err (TooDeep h) else Ok (cond b (constant true) f)))
    ≡ (if many then Err (TooMany n) else (if b then Err (TooDeep h) else Ok f))
by_height true b n h f = refl
by_height false true n h f = refl
by_height false false n h f = refl

answer_decided : (f : Filter) → answer (capped (leaves f)) (capped (height f)) (keep f) ≡ decided f
answer_decided f =
    ap (λ b. if b then Err (TooMany (capped (leaves f))) else (if nat_lt 32 (capped (height f)) then Err (TooDeep (capped (height f))) else Ok (keep f))) (few_leaves (leaves f))
    ∙ ap (λ b. if nat_lt 256 (leaves f) then Err (TooMany (capped (leaves f))) else (if b then Err (TooDeep (capped (height f))) else Ok (keep f))) (above_limit (height f))
    ∙ by_height (nat_lt 256 (leaves f)) (nat_lt 32 (height f)) (capped (leaves f)) (capped (height f)) f

-- the filter of the outermost level
abbrev judged_whole : State → Result Filter QueryRefusal
judged_whole w = answer w.leaves (joined_height w.level.any_height (drop w.level.any_from w.operands)) (joined join.Or w.level.any_height (drop w.level.any_from w.operands))

judged_is : (x : State) → judged x ≡ judged_whole (join_all x)
unfolding judged
judged_is x = refl

judged_framed : (f : Filter) (fs : List Filter) → judged_whole (framed start (f ∷ fs) []) ≡ decided (any_of (f ∷ fs))
judged_framed f fs =
    let g = any_of (f ∷ fs) in
    let anys = map keep (f ∷ fs) in
    let parts : drop 0 ([] ++ (anys ++ [])) ≡ anys = append-nil anys in
    let count : capped_sum 0 (total (f ∷ fs) + 0) ≡ capped (leaves g) = omega (arith, ap leaves (any_together (f ∷ fs)), together_leaves join.Or f fs) in
    let tall : joined_height (capped (most (f ∷ fs))) (drop 0 ([] ++ (anys ++ []))) ≡ capped (height g) =
    ap (joined_height (capped (most (f ∷ fs)))) parts ∙ together_height join.Or f fs ∙ ap (λ x. capped (height x)) (sym (any_together (f ∷ fs))) in
    let whole : joined join.Or (capped (most (f ∷ fs))) (drop 0 ([] ++ (anys ++ []))) ≡ keep g =
    ap (joined join.Or (capped (most (f ∷ fs)))) parts ∙ together_kept join.Or f fs ∙ ap keep (sym (any_together (f ∷ fs))) in
    ap (λ n. answer n (joined_height (capped (most (f ∷ fs))) (drop 0 ([] ++ (anys ++ [])))) (joined join.Or (capped (most (f ∷ fs))) (drop 0 ([] ++ (anys ++ []))))) count
    ∙ ap (λ h. answer (capped (leaves g)) h (joined join.Or (capped (most (f ∷ fs))) (drop 0 ([] ++ (anys ++ []))))) tall
    ∙ ap (λ x. answer (capped (leaves g)) (capped (height g)) x) whole
    ∙ answer_decided g

-- the text ends at the outermost level
ended_outermost : (x : State) → x.outer ≡ [] → outcome (joint_at x) [] ≡ judged x
unfolding ended judged
ended_outermost x none = ap (λ o. judged_if 0 (cond (length o == 0) (Ok (without_pending x)) (Err cause.Syntax))) none

-- a text whose tokens are those of a tree is read as what the tree means
pub whole_filter : (t : FilterTree) → FilterFits 0 t → outcome start (filter_tokens t []) ≡ decided (filter_meaning t)
whole_filter t fits =
    let (f, fs, means, whole) = closed_filter t start in
    read_filter_tree t start [] fits tt ∙ ended_outermost (after_filter t start) (filter_outer t start)
    ∙ judged_is (after_filter t start) ∙ ap judged_whole whole ∙ judged_framed f fs ∙ ap decided (sym means)
