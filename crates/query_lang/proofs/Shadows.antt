-- What was read of a filter, as beginnings of trees.
use Rattle.std.proofs.Common.{◌≡◌, ℕ, zero, suc, ◌<◌, List, [], ◌∷◌, ◌++◌, length, map, refl, ap}
use Rattle.query_lang.specs.declared.filter_reader.PathUse.{PathUse}
use Rattle.query_lang.specs.declared.filter_reader.PathUse.TheVariants.{Exists as ForExists, Tested}
use Rattle.query_lang.specs.declared.filter_reader.ValueTest.{ValueTest}
use Rattle.query_lang.specs.declared.filter_reader.ValueTest.TheVariants.{Compare as AsksCompare, Has as AsksHas}
use Rattle.query_lang.specs.declared.filter_reader.Pending.{Pending}
use Rattle.query_lang.specs.declared.filter_reader.Pending.TheVariants as pending
use Rattle.query_lang.specs.declared.token.Reserved.TheVariants.{And, Or, Not, In, Has, Exists}
use Rattle.query_lang.specs.declared.token.Sign.TheVariants.{Compare, Open, OpenList, Comma, Dot}
use Rattle.query_lang.specs.Grammar.{FilterTree, alternatives, OrTail, or_and, AndTree, conjuncts, AndTail, and_not, NotTree, negation, filter_tokens, or_tokens, and_tokens, further_tokens, not_tokens, FilterFits, OrsFit, AndFits, FurtherFit, NotFits, Segment, segment_token, path_tokens, path_keys, Value, value_token, value_tree, value_tokens, more_values}
use Rattle.query_lang.specs.Tokens.{Token, word, sign}

-- ---- levels: what is before an operand, the newest first

pub record Waiting : Type 0 where
  pub ors : List AndTree
  pub ands : List NotTree
  pub nots : ℕ

abbrev pub nothing : Waiting
nothing = record { ors = []; ands = []; nots = 0 }

abbrev pub ors_before : List AndTree → List Token → List Token
ors_before [] rest = rest
ors_before (a ∷ bs) rest = ors_before bs (and_tokens a (word Or ∷ rest))

abbrev pub ands_before : List NotTree → List Token → List Token
ands_before [] rest = rest
ands_before (n ∷ ns) rest = ands_before ns (not_tokens n (word And ∷ rest))

abbrev pub nots_before : ℕ → List Token → List Token
nots_before zero rest = rest
nots_before (suc k) rest = nots_before k (word Not ∷ rest)

abbrev pub waiting_before : Waiting → List Token → List Token
waiting_before w rest = ors_before w.ors (ands_before w.ands (nots_before w.nots rest))

-- each level is after the opening parenthesis of the one around it, the innermost first
abbrev pub outer_before : List Waiting → List Token → List Token
outer_before [] rest = rest
outer_before (w ∷ ws) rest = outer_before ws (waiting_before w (sign Open ∷ rest))

-- ---- trees of what waits

abbrev pub negations : ℕ → NotTree → NotTree
negations zero n = n
negations (suc k) n = negations k (negation n)

pub negations_tokens : (k : ℕ) (n : NotTree) (rest : List Token) → not_tokens (negations k n) rest ≡ nots_before k (not_tokens n rest)
negations_tokens zero n rest = refl
negations_tokens (suc k) n rest = negations_tokens k (negation n) rest

abbrev pub conjunction : List NotTree → NotTree → AndTail → AndTree
conjunction [] n tail = conjuncts n tail
conjunction (m ∷ ms) n tail = conjunction ms m (and_not n tail)

pub conjunction_tokens : (ms : List NotTree) (n : NotTree) (tail : AndTail) (rest : List Token) → and_tokens (conjunction ms n tail) rest ≡ ands_before ms (not_tokens n (further_tokens tail rest))
conjunction_tokens [] n tail rest = refl
conjunction_tokens (m ∷ ms) n tail rest = conjunction_tokens ms m (and_not n tail) rest

abbrev pub disjunction : List AndTree → AndTree → OrTail → FilterTree
disjunction [] a tail = alternatives a tail
disjunction (b ∷ bs) a tail = disjunction bs b (or_and a tail)

pub disjunction_tokens : (bs : List AndTree) (a : AndTree) (tail : OrTail) (rest : List Token) → filter_tokens (disjunction bs a tail) rest ≡ ors_before bs (and_tokens a (or_tokens tail rest))
disjunction_tokens [] a tail rest = refl
disjunction_tokens (b ∷ bs) a tail rest = disjunction_tokens bs b (or_and a tail) rest

-- ---- that they fit

abbrev pub AndsFit : ℕ → List NotTree → Type 0
AndsFit k [] = Unit {0}
AndsFit k (n ∷ ns) = NotFits k n × AndsFit k ns

abbrev pub AlternativesFit : ℕ → List AndTree → Type 0
AlternativesFit k [] = Unit {0}
AlternativesFit k (a ∷ bs) = AndFits k a × AlternativesFit k bs

pub negations_fit : (k m : ℕ) (n : NotTree) → NotFits k n → NotFits k (negations m n)
negations_fit k zero n fits = fits
negations_fit k (suc m) n fits = negations_fit k m (negation n) fits

pub conjunction_fits : (k : ℕ) (ms : List NotTree) (n : NotTree) (tail : AndTail) → AndsFit k ms → NotFits k n → FurtherFit k tail → AndFits k (conjunction ms n tail)
conjunction_fits k [] n tail before here after = (here, after)
conjunction_fits k (m ∷ ms) n tail before here after = conjunction_fits k ms m (and_not n tail) before.1 before.0 (here, after)

pub disjunction_fits : (k : ℕ) (bs : List AndTree) (a : AndTree) (tail : OrTail) → AlternativesFit k bs → AndFits k a → OrsFit k tail → FilterFits k (disjunction bs a tail)
disjunction_fits k [] a tail before here after = (here, after)
disjunction_fits k (b ∷ bs) a tail before here after = disjunction_fits k bs b (or_and a tail) before.1 before.0 (here, after)

abbrev pub OuterFits : List Waiting → Type 0
OuterFits [] = Unit {0}
OuterFits (w ∷ ws) = (length ws < 64) × AlternativesFit (length ws) w.ors × AndsFit (length ws) w.ands × OuterFits ws

-- ---- atoms

-- what was read of an atom, or the operand that is whole
pub data Position : Type 0 where
  operand_here : Position
  exists_here : Position
  behind_dot : PathUse → Segment → List Segment → Position
  behind_segment : PathUse → Segment → List Segment → Position
  value_here : ValueTest → Segment → List Segment → Position
  list_here : Segment → List Segment → Position
  first_here : Segment → List Segment → Position
  behind_comma : Segment → List Segment → Value → List Value → Position
  behind_value : Segment → List Segment → Value → List Value → Position

abbrev pub use_before : PathUse → List Token → List Token
use_before ForExists rest = word Exists ∷ rest
use_before Tested rest = rest

abbrev pub asked_before : ValueTest → List Token → List Token
asked_before (AsksCompare op) rest = sign (Compare op) ∷ rest
asked_before AsksHas rest = word Has ∷ rest

abbrev pub position_before : Position → List Token → List Token
position_before operand_here rest = rest
position_before exists_here rest = word Exists ∷ rest
position_before (behind_dot used seg ss) rest = use_before used (path_tokens seg ss (sign Dot ∷ rest))
position_before (behind_segment used seg ss) rest = use_before used (path_tokens seg ss rest)
position_before (value_here asks seg ss) rest = path_tokens seg ss (asked_before asks rest)
position_before (list_here seg ss) rest = path_tokens seg ss (word In ∷ rest)
position_before (first_here seg ss) rest = path_tokens seg ss (word In ∷ sign OpenList ∷ rest)
position_before (behind_comma seg ss v vs) rest = path_tokens seg ss (word In ∷ sign OpenList ∷ value_tokens (v ∷ vs) (sign Comma ∷ rest))
position_before (behind_value seg ss v vs) rest = path_tokens seg ss (word In ∷ sign OpenList ∷ value_tokens (v ∷ vs) rest)

abbrev pub position_pending : Position → Pending
position_pending operand_here = pending.Operand
position_pending exists_here = pending.ExistsSegment
position_pending (behind_dot used seg ss) = pending.Segment used (path_keys seg ss)
position_pending (behind_segment used seg ss) = pending.Path used (path_keys seg ss)
position_pending (value_here asks seg ss) = pending.Value (path_keys seg ss) asks
position_pending (list_here seg ss) = pending.List (path_keys seg ss)
position_pending (first_here seg ss) = pending.FirstItem (path_keys seg ss)
position_pending (behind_comma seg ss v vs) = pending.Item (path_keys seg ss) (map value_tree (v ∷ vs))
position_pending (behind_value seg ss v vs) = pending.AfterItem (path_keys seg ss) (map value_tree (v ∷ vs))

abbrev pub PositionFits : Position → Type 0
PositionFits operand_here = Unit {0}
PositionFits exists_here = Unit {0}
PositionFits (behind_dot used seg ss) = length ss < 8
PositionFits (behind_segment used seg ss) = length ss < 8
PositionFits (value_here asks seg ss) = length ss < 8
PositionFits (list_here seg ss) = length ss < 8
PositionFits (first_here seg ss) = length ss < 8
PositionFits (behind_comma seg ss v vs) = length ss < 8
PositionFits (behind_value seg ss v vs) = length ss < 8

-- one segment more
pub path_tokens-append : (seg : Segment) (ss : List Segment) (more : Segment) (rest : List Token) → path_tokens seg (ss ++ more ∷ []) rest ≡ path_tokens seg ss (sign Dot ∷ segment_token more ∷ rest)
path_tokens-append seg [] more rest = refl
path_tokens-append seg (s ∷ ss) more rest = ap (λ ts. segment_token seg ∷ sign Dot ∷ ts) (path_tokens-append s ss more rest)

-- one value more
pub more_values-append : (vs : List Value) (v : Value) (rest : List Token) → more_values (vs ++ v ∷ []) rest ≡ more_values vs (sign Comma ∷ value_token v ∷ rest)
more_values-append [] v rest = refl
more_values-append (w ∷ vs) v rest = ap (λ ts. sign Comma ∷ value_token w ∷ ts) (more_values-append vs v rest)

-- ---- all of it

pub data Shadow : Type 0 where
  inside : List Waiting → Waiting → Position → Shadow
  whole : List Waiting → List AndTree → List NotTree → NotTree → Shadow

-- the tokens that were read
abbrev pub shadow_before : Shadow → List Token → List Token
shadow_before (inside ws w p) rest = outer_before ws (waiting_before w (position_before p rest))
shadow_before (whole ws ors ands n) rest = outer_before ws (ors_before ors (ands_before ands (not_tokens n rest)))

abbrev pub shadow_pending : Shadow → Pending
shadow_pending (inside ws w p) = position_pending p
shadow_pending (whole ws ors ands n) = pending.Joint

abbrev pub shadow_outer : Shadow → List Waiting
shadow_outer (inside ws w p) = ws
shadow_outer (whole ws ors ands n) = ws

abbrev pub ShadowFits : Shadow → Type 0
ShadowFits (inside ws w p) = OuterFits ws × AlternativesFit (length ws) w.ors × AndsFit (length ws) w.ands × PositionFits p
ShadowFits (whole ws ors ands n) = OuterFits ws × AlternativesFit (length ws) ors × AndsFit (length ws) ands × NotFits (length ws) n
