-- What is read is the tokens of a tree.
use Rattle.std.proofs.Common.{◌≡◌, ℕ, suc, true, false, cond, ◌==◌, List, [], ◌∷◌, ◌++◌, length, map, Result, Ok, Err, refl, sym, ap, ◌∙◌, subst, arith, length-append}
use Rattle.std.proofs.lemmas.Bool.{ne_eqb}
use Rattle.std.proofs.lemmas.List.{map-append, length-map}
use Rattle.q_doc.specs.Tree.{Tree}
use Rattle.query_core.specs.Filters.{Filter, constant, compared, listed, having, present}
use Rattle.query_lang.specs.declared.filter_reader.Level.{Level}
use Rattle.query_lang.specs.declared.filter_reader.PathUse.{PathUse}
use Rattle.query_lang.specs.declared.filter_reader.PathUse.TheVariants.{Exists as ForExists, Tested}
use Rattle.query_lang.specs.declared.filter_reader.ValueTest.{ValueTest}
use Rattle.query_lang.specs.declared.filter_reader.ValueTest.TheVariants.{Compare as AsksCompare, Has as AsksHas}
use Rattle.query_lang.specs.declared.filter_reader.Pending.TheVariants as pending
use Rattle.query_lang.specs.Limits.{most_open}
use Rattle.query_lang.specs.declared.refusal.Cause.{Cause}
use Rattle.query_lang.specs.declared.refusal.Cause.TheVariants as cause
use Rattle.query_lang.specs.declared.refusal.QueryRefusal.TheVariants as refusal
use Rattle.query_lang.specs.declared.token.Reserved.TheVariants.{And, Or, Not, In, Has, Exists, True, False, Null}
use Rattle.query_lang.specs.declared.token.Sign.TheVariants.{Compare, Open, Close, OpenList, CloseList, Comma, Dot}
use Rattle.query_lang.specs.FilterReading.{State, step, on_token, on_operand, segment_at, segment_of, item_at, opened, on_exists, on_path, on_value, on_list, on_first_item, on_after_item, on_joint, closed, ended, judged_if, at_end, atom, without_pending, value_of, start, filter_rules}
use Rattle.query_lang.specs.FilterText.{IsWhole}
use Rattle.query_lang.specs.Grammar.{FilterTree, no_or, AndTree, no_and, NotTree, one, Atom, nested, always, never, existing, comparing, listing, holding, filter_tokens, not_tokens, atom_tokens, FilterFits, AtomFits, Segment, segment_token, segment_key, path_tokens, path_keys, Value, text_value, number_value, truth_value, null_value, value_token, value_tree, more_values}
use Rattle.query_lang.specs.Tokens.{Token, word, quoted, number, sign}
use Rattle.query_lang.proofs.Readings.{Follows, taken, below_limit, segment_taken, outcome_has}
use Rattle.query_lang.proofs.Runs.{outcome}
use Rattle.query_lang.proofs.Shadows.{Waiting, nothing, ors_before, ands_before, nots_before, waiting_before, outer_before, negations, negations_tokens, conjunction, conjunction_tokens, disjunction, disjunction_tokens, negations_fit, conjunction_fits, disjunction_fits, Position, operand_here, exists_here, behind_dot, behind_segment, value_here, list_here, first_here, behind_comma, behind_value, use_before, position_before, position_pending, PositionFits, path_tokens-append, more_values-append, Shadow, inside, whole, shadow_before, shadow_pending, shadow_outer, ShadowFits}

-- what was read is the beginning of a tree
pub record Stands (c : Shadow) (s : State) : Type 0 where
  pub same_pending : shadow_pending c ≡ s.pending
  pub same_outer : length (shadow_outer c) ≡ length s.outer
  pub fits : ShadowFits c

-- so it is with a token
abbrev Next : Shadow → Token → State → Type 0
Next c t s = Follows Stands shadow_before c t s

value_taken : (t : Token) (v : Tree) → value_of t ≡ Ok v → (val : Value) × (value_token val ≡ t) × (value_tree val ≡ v)
value_taken (quoted k) v e = (text_value k, refl, cc)
value_taken (number z) v e = (number_value z, refl, cc)
value_taken (word True) v e = (truth_value true, refl, cc)
value_taken (word False) v e = (truth_value false, refl, cc)
value_taken (word Null) v e = (null_value, refl, cc)
value_taken t v e = cc

keys_more : (seg : Segment) (ss : List Segment) (more : Segment) → path_keys seg (ss ++ more ∷ []) ≡ path_keys seg ss ++ segment_key more ∷ []
keys_more seg ss more = ap (λ ks. segment_key seg ∷ ks) (map-append segment_key ss (more ∷ []))

-- ---- where an operand is whole

-- what is whole inside a parenthesis is one operand after it
close_shadow : (w : Waiting) (ws : List Waiting) (ors : List AndTree) (ands : List NotTree) (n : NotTree) → ShadowFits (whole (w ∷ ws) ors ands n)
    → (m : NotTree) × ShadowFits (whole ws w.ors w.ands m) × ((rest : List Token) → shadow_before (whole ws w.ors w.ands m) rest ≡ shadow_before (whole (w ∷ ws) ors ands n) (sign Close ∷ rest))
close_shadow w ws ors ands n fits =
    let t = disjunction ors (conjunction ands n no_and) no_or in
    let tokens : (rest : List Token) → filter_tokens t rest ≡ ors_before ors (ands_before ands (not_tokens n rest)) =
    λ rest. disjunction_tokens ors (conjunction ands n no_and) no_or rest ∙ ap (ors_before ors) (conjunction_tokens ands n no_and rest) in
    let (outer_fits, ors_fit, ands_fit, n_fits) = fits in
    let (below, w_ors, w_ands, ws_fit) = outer_fits in
    let inner_fits = disjunction_fits (suc (length ws)) ors (conjunction ands n no_and) no_or ors_fit (conjunction_fits (suc (length ws)) ands n no_and ands_fit n_fits tt) tt in (
      negations w.nots (one (nested t)),
      (ws_fit, w_ors, w_ands, negations_fit (length ws) w.nots (one (nested t)) (below, inner_fits)),
      λ rest. ap (λ ts. outer_before ws (ors_before w.ors (ands_before w.ands ts)))
          (negations_tokens w.nots (one (nested t)) rest ∙ ap (λ ts. nots_before w.nots (sign Open ∷ ts)) (tokens (sign Close ∷ rest))),
    )

-- a closing parenthesis
close_follows : (ws : List Waiting) (ors : List AndTree) (ands : List NotTree) (n : NotTree) (s : State) (outer : List Level) (s' : State) → length ws ≡ length outer
    → ShadowFits (whole ws ors ands n) → closed s outer ≡ Ok s' → Next (whole ws ors ands n) (sign Close) s'
unfolding closed
close_follows ws ors ands n s [] s' same fits e = cc
close_follows [] ors ands n s (level ∷ outer) s' same fits e = absurd (omega arith)
close_follows (w ∷ ws) ors ands n s (level ∷ outer) s' same fits e =
    let (m, m_fits, before) = close_shadow w ws ors ands n fits in
    taken e (record { shadow = whole ws w.ors w.ands m; stands = record { same_pending = refl; same_outer = omega arith; fits = m_fits }; same = before })

joint_follows : (ws : List Waiting) (ors : List AndTree) (ands : List NotTree) (n : NotTree) (s : State) (t : Token) (s' : State) → length ws ≡ length s.outer
    → ShadowFits (whole ws ors ands n) → on_joint s t ≡ Ok s' → Next (whole ws ors ands n) t s'
unfolding on_joint
joint_follows ws ors ands n s (word And) s' outer (ws_fit, ors_fit, ands_fit, n_fits) e =
    taken e (record {
      shadow = inside ws (record { ors = ors; ands = n ∷ ands; nots = 0 }) operand_here;
      stands = record { same_pending = refl; same_outer = outer; fits = (ws_fit, ors_fit, (n_fits, ands_fit), tt) };
      same = λ rest. refl;
    })
joint_follows ws ors ands n s (word Or) s' outer (ws_fit, ors_fit, ands_fit, n_fits) e =
    let a = conjunction ands n no_and in
    taken e (record {
      shadow = inside ws (record { ors = a ∷ ors; ands = []; nots = 0 }) operand_here;
      stands = record { same_pending = refl; same_outer = outer; fits = (ws_fit, (conjunction_fits (length ws) ands n no_and ands_fit n_fits tt, ors_fit), tt, tt) };
      same = λ rest. ap (λ ts. outer_before ws (ors_before ors ts)) (conjunction_tokens ands n no_and (word Or ∷ rest));
    })
joint_follows ws ors ands n s (sign Close) s' outer fits e = close_follows ws ors ands n s s.outer s' outer fits e
joint_follows ws ors ands n s t s' outer fits e = cc

-- ---- inside an atom

module _ (ws : List Waiting) (w : Waiting) (s s' : State) (outer : length ws ≡ length s.outer) where
  -- an atom is whole
  atom_follows : (p : Position) (t : Token) (a : Atom) (f : Filter) (count : ℕ) → ShadowFits (inside ws w p) → AtomFits (length ws) a → ((rest : List Token) → atom_tokens a rest ≡ position_before p (t ∷ rest))
      → ◌≡◌ {A = Result State Cause} (Ok (atom f count s)) (Ok s') → Next (inside ws w p) t s'
  atom_follows p t a f count fits here tokens e = taken e (record {
    shadow = whole ws w.ors w.ands (negations w.nots (one a));
    stands = record { same_pending = refl; same_outer = outer; fits = (fits.0, fits.1, fits.2, negations_fit (length ws) w.nots (one a) here) };
    same = λ rest. ap (λ ts. outer_before ws (ors_before w.ors (ands_before w.ands ts))) (negations_tokens w.nots (one a) rest ∙ ap (nots_before w.nots) (tokens rest));
  })

  -- another position in the same atom
  position_follows : (p q : Position) (t : Token) → ShadowFits (inside ws w p) → PositionFits q → ((rest : List Token) → position_before q rest ≡ position_before p (t ∷ rest))
      → ◌≡◌ {A = Result State Cause} (Ok (record s { pending = position_pending q })) (Ok s') → Next (inside ws w p) t s'
  position_follows p q t fits here tokens e = taken e (record {
    shadow = inside ws w q;
    stands = record { same_pending = refl; same_outer = outer; fits = (fits.0, fits.1, fits.2, here) };
    same = λ rest. ap (λ ts. outer_before ws (waiting_before w ts)) (tokens rest);
  })

  -- the first segment of a path
  first_follows : (p : Position) (used : PathUse) (t : Token) → ShadowFits (inside ws w p) → ((rest : List Token) → use_before used rest ≡ position_before p rest) → segment_at s used [] (segment_of t) ≡ Ok s'
      → Next (inside ws w p) t s'
  unfolding segment_at
  first_follows p used t fits before e =
      let (seg, token, below, same) = segment_taken (segment_at s used []) 0 8 (λ k. record s { pending = pending.Path used (k ∷ []) }) cause.Syntax cause.Syntax refl (λ k. refl) t s' e in
      position_follows p (behind_segment used seg []) t fits (omega arith) (λ rest. before (segment_token seg ∷ rest) ∙ ap (λ k. position_before p (k ∷ rest)) token) same

  module _ (seg : Segment) (ss : List Segment) where
    -- a segment after a dot
    segment_follows : (used : PathUse) (t : Token) → ShadowFits (inside ws w (behind_dot used seg ss)) → segment_at s used (path_keys seg ss) (segment_of t) ≡ Ok s' → Next (inside ws w (behind_dot used seg ss)) t s'
    unfolding segment_at
    segment_follows used t fits e =
        let (more, token, below, same) =
        segment_taken (segment_at s used (path_keys seg ss)) (length (path_keys seg ss)) 8 (λ k. record s { pending = pending.Path used (path_keys seg ss ++ k ∷ []) }) cause.Syntax cause.Syntax refl (λ k. refl) t s' e in
        position_follows (behind_dot used seg ss) (behind_segment used seg (ss ++ more ∷ [])) t fits (omega (arith, length-append ss (more ∷ []), length-map ss segment_key))
        (λ rest. ap (use_before used) (path_tokens-append seg ss more rest ∙ ap (λ k. path_tokens seg ss (sign Dot ∷ k ∷ rest)) token))
        (ap (λ ks. Ok (record s { pending = pending.Path used ks })) (keys_more seg ss more) ∙ same)

    -- the one value of a test
    value_follows : (asks : ValueTest) (t : Token) → ShadowFits (inside ws w (value_here asks seg ss)) → (r : Result Tree Cause) → value_of t ≡ r → on_value s (path_keys seg ss) asks r ≡ Ok s'
        → Next (inside ws w (value_here asks seg ss)) t s'
    unfolding on_value
    value_follows (AsksCompare op) t fits (Ok v) is e =
        let (val, token, tree) = value_taken t v is in
        atom_follows (value_here (AsksCompare op) seg ss) t (comparing seg ss op val) (compared (path_keys seg ss) op v) 0 fits fits.3 (λ rest. ap (λ k. path_tokens seg ss (sign (Compare op) ∷ k ∷ rest)) token) e
    value_follows AsksHas t fits (Ok v) is e =
        let (val, token, tree) = value_taken t v is in
        atom_follows (value_here AsksHas seg ss) t (holding seg ss val) (having (path_keys seg ss) v) 0 fits fits.3 (λ rest. ap (λ k. path_tokens seg ss (word Has ∷ k ∷ rest)) token) e
    value_follows asks t fits (Err x) is e = cc

    -- the first value of a list
    first_item_follows : (t : Token) → ShadowFits (inside ws w (first_here seg ss)) → (r : Result Tree Cause) → value_of t ≡ r → item_at s (path_keys seg ss) [] r ≡ Ok s' → Next (inside ws w (first_here seg ss)) t s'
    unfolding item_at
    first_item_follows t fits (Ok v) is e =
        let (val, token, tree) = value_taken t v is in
        position_follows (first_here seg ss) (behind_value seg ss val []) t fits fits.3 (λ rest. ap (λ k. path_tokens seg ss (word In ∷ sign OpenList ∷ k ∷ rest)) token)
        (ap (λ x. Ok (record s { pending = pending.AfterItem (path_keys seg ss) (x ∷ []) })) tree ∙ e)
    first_item_follows t fits (Err x) is e = cc

    -- a further value of a list
    item_follows : (u : Value) (us : List Value) (t : Token) → ShadowFits (inside ws w (behind_comma seg ss u us)) → (r : Result Tree Cause) → value_of t ≡ r
        → item_at s (path_keys seg ss) (map value_tree (u ∷ us)) r ≡ Ok s' → Next (inside ws w (behind_comma seg ss u us)) t s'
    unfolding item_at
    item_follows u us t fits (Ok v) is e =
        let (val, token, tree) = value_taken t v is in
        let vals = map value_tree (u ∷ us) in
        position_follows (behind_comma seg ss u us) (behind_value seg ss u (us ++ val ∷ [])) t fits fits.3
        (λ rest. ap (λ ts. path_tokens seg ss (word In ∷ sign OpenList ∷ value_token u ∷ ts)) (more_values-append us val rest ∙ ap (λ k. more_values us (sign Comma ∷ k ∷ rest)) token))
        (ap (λ xs. Ok (record s { pending = pending.AfterItem (path_keys seg ss) xs })) (map-append value_tree (u ∷ us) (val ∷ []) ∙ ap (λ x. vals ++ x ∷ []) tree) ∙ e)
    item_follows u us t fits (Err x) is e = cc

    -- after the path of an `exists`
    exists_follows : (t : Token) → ShadowFits (inside ws w (behind_segment ForExists seg ss)) → on_joint (atom (present (path_keys seg ss)) 0 s) t ≡ Ok s' → Next (inside ws w (behind_segment ForExists seg ss)) t s'
    exists_follows t (ws_fit, ors_fit, ands_fit, below) e =
        let n = negations w.nots (one (existing seg ss)) in
        let f = joint_follows ws w.ors w.ands n (atom (present (path_keys seg ss)) 0 s) t s' outer (ws_fit, ors_fit, ands_fit, negations_fit (length ws) w.nots (one (existing seg ss)) below) e in
        record {
          shadow = f.shadow;
          stands = f.stands;
          same = λ rest. f.same rest ∙ ap (λ ts. outer_before ws (ors_before w.ors (ands_before w.ands ts))) (negations_tokens w.nots (one (existing seg ss)) (t ∷ rest));
        }

    on_exists_follows : (t : Token) → ShadowFits (inside ws w (behind_segment ForExists seg ss)) → on_exists s (path_keys seg ss) t ≡ Ok s' → Next (inside ws w (behind_segment ForExists seg ss)) t s'
    unfolding on_exists
    on_exists_follows (sign Dot) fits e = position_follows (behind_segment ForExists seg ss) (behind_dot ForExists seg ss) (sign Dot) fits fits.3 (λ rest. refl) e
    on_exists_follows t fits e = exists_follows t fits e

    on_path_follows : (t : Token) → ShadowFits (inside ws w (behind_segment Tested seg ss)) → on_path s (path_keys seg ss) t ≡ Ok s' → Next (inside ws w (behind_segment Tested seg ss)) t s'
    unfolding on_path
    on_path_follows (sign Dot) fits e = position_follows (behind_segment Tested seg ss) (behind_dot Tested seg ss) (sign Dot) fits fits.3 (λ rest. refl) e
    on_path_follows (sign (Compare op)) fits e = position_follows (behind_segment Tested seg ss) (value_here (AsksCompare op) seg ss) (sign (Compare op)) fits fits.3 (λ rest. refl) e
    on_path_follows (word Has) fits e = position_follows (behind_segment Tested seg ss) (value_here AsksHas seg ss) (word Has) fits fits.3 (λ rest. refl) e
    on_path_follows (word In) fits e = position_follows (behind_segment Tested seg ss) (list_here seg ss) (word In) fits fits.3 (λ rest. refl) e
    on_path_follows t fits e = cc

    on_list_follows : (t : Token) → ShadowFits (inside ws w (list_here seg ss)) → on_list s (path_keys seg ss) t ≡ Ok s' → Next (inside ws w (list_here seg ss)) t s'
    unfolding on_list
    on_list_follows (sign OpenList) fits e = position_follows (list_here seg ss) (first_here seg ss) (sign OpenList) fits fits.3 (λ rest. refl) e
    on_list_follows t fits e = cc

    on_first_follows : (t : Token) → ShadowFits (inside ws w (first_here seg ss)) → on_first_item s (path_keys seg ss) t ≡ Ok s' → Next (inside ws w (first_here seg ss)) t s'
    unfolding on_first_item
    on_first_follows (sign CloseList) fits e = atom_follows (first_here seg ss) (sign CloseList) (listing seg ss []) (listed (path_keys seg ss) []) 0 fits fits.3 (λ rest. refl) e
    on_first_follows t fits e = first_item_follows t fits (value_of t) refl e

    on_after_follows : (u : Value) (us : List Value) (t : Token) → ShadowFits (inside ws w (behind_value seg ss u us)) → on_after_item s (path_keys seg ss) (map value_tree (u ∷ us)) t ≡ Ok s'
        → Next (inside ws w (behind_value seg ss u us)) t s'
    unfolding on_after_item
    on_after_follows u us (sign Comma) fits e = position_follows (behind_value seg ss u us) (behind_comma seg ss u us) (sign Comma) fits fits.3 (λ rest. refl) e
    on_after_follows u us (sign CloseList) fits e =
        let vals = map value_tree (u ∷ us) in
        atom_follows (behind_value seg ss u us) (sign CloseList) (listing seg ss (u ∷ us)) (listed (path_keys seg ss) vals) (length vals) fits fits.3 (λ rest. refl) e
    on_after_follows u us t fits e = cc

  -- an opening parenthesis
  open_follows : ShadowFits (inside ws w operand_here) → opened s ≡ Ok s' → Next (inside ws w operand_here) (sign Open) s'
  unfolding opened
  open_follows (ws_fit, ors_fit, ands_fit, here) e =
      let (below, same) = below_limit (length s.outer) most_open _ s' cause.TooNested e in
      taken same (record {
        shadow = inside (w ∷ ws) nothing operand_here;
        stands = record { same_pending = refl; same_outer = ap suc outer; fits = ((omega arith, ors_fit, ands_fit, ws_fit), tt, tt, tt) };
        same = λ rest. refl;
      })

  operand_follows : (t : Token) → ShadowFits (inside ws w operand_here) → on_operand s t ≡ Ok s' → Next (inside ws w operand_here) t s'
  unfolding on_operand
  operand_follows (word Not) (ws_fit, ors_fit, ands_fit, here) e =
      taken e (record {
        shadow = inside ws (record { ors = w.ors; ands = w.ands; nots = suc w.nots }) operand_here;
        stands = record { same_pending = refl; same_outer = outer; fits = (ws_fit, ors_fit, ands_fit, tt) };
        same = λ rest. refl;
      })
  operand_follows (word True) fits e = atom_follows operand_here (word True) always (constant true) 0 fits tt (λ rest. refl) e
  operand_follows (word False) fits e = atom_follows operand_here (word False) never (constant false) 0 fits tt (λ rest. refl) e
  operand_follows (word Exists) fits e = position_follows operand_here exists_here (word Exists) fits tt (λ rest. refl) e
  operand_follows (sign Open) fits e = open_follows fits e
  operand_follows t fits e = first_follows operand_here Tested t fits (λ rest. refl) e

-- ---- any token

token_follows : (c : Shadow) (s : State) (t : Token) (s' : State) → length (shadow_outer c) ≡ length s.outer → ShadowFits c → on_token (shadow_pending c) s t ≡ Ok s' → Next c t s'
unfolding on_token
token_follows (inside ws w operand_here) s t s' outer fits e = operand_follows ws w s s' outer t fits e
token_follows (inside ws w exists_here) s t s' outer fits e = first_follows ws w s s' outer exists_here ForExists t fits (λ rest. refl) e
token_follows (inside ws w (behind_dot used seg ss)) s t s' outer fits e = segment_follows ws w s s' outer seg ss used t fits e
token_follows (inside ws w (behind_segment ForExists seg ss)) s t s' outer fits e = on_exists_follows ws w s s' outer seg ss t fits e
token_follows (inside ws w (behind_segment Tested seg ss)) s t s' outer fits e = on_path_follows ws w s s' outer seg ss t fits e
token_follows (inside ws w (value_here asks seg ss)) s t s' outer fits e = value_follows ws w s s' outer seg ss asks t fits (value_of t) refl e
token_follows (inside ws w (list_here seg ss)) s t s' outer fits e = on_list_follows ws w s s' outer seg ss t fits e
token_follows (inside ws w (first_here seg ss)) s t s' outer fits e = on_first_follows ws w s s' outer seg ss t fits e
token_follows (inside ws w (behind_comma seg ss u us)) s t s' outer fits e = item_follows ws w s s' outer seg ss u us t fits (value_of t) refl e
token_follows (inside ws w (behind_value seg ss u us)) s t s' outer fits e = on_after_follows ws w s s' outer seg ss u us t fits e
token_follows (whole ws ors ands n) s t s' outer fits e = joint_follows ws ors ands n s t s' outer fits e

step_follows : (c : Shadow) (s : State) (t : Token) (s' : State) → Stands c s → step s t ≡ Ok s' → Next c t s'
step_follows c s t s' stands e = token_follows c (without_pending s) t s' stands.same_outer stands.fits (subst (λ p. on_token p (without_pending s) t ≡ Ok s') (sym stands.same_pending) e)

-- ---- whole texts

-- a tree whose tokens are these
abbrev pub HasTree : List Token → Type 0
HasTree ts = (t : FilterTree) × FilterFits 0 t × (filter_tokens t [] ≡ ts)

-- what is whole at the outermost level is a tree
whole_tree : (ors : List AndTree) (ands : List NotTree) (n : NotTree) → ShadowFits (whole [] ors ands n) → HasTree (ors_before ors (ands_before ands (not_tokens n [])))
whole_tree ors ands n (ws_fit, ors_fit, ands_fit, n_fits) = (
  disjunction ors (conjunction ands n no_and) no_or,
  disjunction_fits 0 ors (conjunction ands n no_and) no_or ors_fit (conjunction_fits 0 ands n no_and ands_fit n_fits tt) tt,
  disjunction_tokens ors (conjunction ands n no_and) no_or [] ∙ ap (ors_before ors) (conjunction_tokens ands n no_and []),
)

-- no parenthesis is open where the text ends well
none_open : (s : State) (outer : List Level) → s.outer ≡ outer → IsWhole (judged_if 0 (at_end s)) → length outer ≡ 0
none_open s [] same good = refl
none_open s (level ∷ outer) same good =
    let failed : judged_if 0 (at_end s) ≡ Err (refusal.Syntax 102 0) =
    ap (λ o. judged_if 0 (cond (length o == 0) (Ok s) (Err cause.Syntax))) same ∙ rw (ne_eqb (suc (length outer)) 0 (λ e. omega arith)) refl in
    absurd (subst IsWhole failed good)

-- where the text ends well
end_tree : (c : Shadow) (s : State) → length (shadow_outer c) ≡ length s.outer → ShadowFits c → IsWhole (judged_if 0 (ended (shadow_pending c) s)) → HasTree (shadow_before c [])
unfolding ended
end_tree (whole [] ors ands n) s outer fits good = whole_tree ors ands n fits
end_tree (whole (w ∷ ws) ors ands n) s outer fits good = absurd (omega (arith, none_open s s.outer refl good))
end_tree (inside [] w (behind_segment ForExists seg ss)) s outer (ws_fit, ors_fit, ands_fit, below) good =
    let n = negations w.nots (one (existing seg ss)) in
    let (t, fits, tokens) = whole_tree w.ors w.ands n (tt, ors_fit, ands_fit, negations_fit 0 w.nots (one (existing seg ss)) below) in
    (t, fits, tokens ∙ ap (λ ts. ors_before w.ors (ands_before w.ands ts)) (negations_tokens w.nots (one (existing seg ss)) []))
end_tree (inside (x ∷ ws) w (behind_segment ForExists seg ss)) s outer fits good =
    absurd (omega (arith, none_open (atom (present (path_keys seg ss)) 0 s) s.outer refl good))
end_tree c s outer fits good = absurd good

-- what is read well is the tokens of a tree
pub outcome_has_tree : (ts : List Token) → IsWhole (outcome start ts) → HasTree ts
outcome_has_tree ts good =
    outcome_has filter_rules Stands shadow_before HasTree
    (λ c s stands whole. end_tree c (without_pending s) stands.same_outer stands.fits (subst (λ p. IsWhole (judged_if 0 (ended p (without_pending s)))) (sym stands.same_pending) whole))
    step_follows ts (inside [] nothing operand_here) start (record { same_pending = refl; same_outer = refl; fits = (tt, tt, tt, tt) }) good
