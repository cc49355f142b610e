-- What the tokens of paths and values do.
use Rattle.std.proofs.Common.{◌≡◌, ℕ, suc, ◌+◌, ◌<◌, ◌≤◌, true, false, cond, ◌==◌, List, [], ◌∷◌, ◌++◌, length, map, Ok, Err, refl, sym, ap, ◌∙◌, arith, append_assoc, append-nil, length-append}
use Rattle.std.proofs.lemmas.Bool.{lt-ltb, ne_eqb}
use Rattle.query_lang.specs.declared.refusal.Cause.TheVariants as cause
use Rattle.q_doc.specs.Tree.{Tree}
use Rattle.query_core.specs.Filters.{present}
use Rattle.query_lang.specs.declared.filter_reader.Level.{Level}
use Rattle.query_lang.specs.declared.filter_reader.PathUse.{PathUse}
use Rattle.query_lang.specs.declared.filter_reader.PathUse.TheVariants.{Exists as ForExists, Tested}
use Rattle.query_lang.specs.declared.filter_reader.ValueTest.{ValueTest}
use Rattle.query_lang.specs.declared.filter_reader.Pending.TheVariants as pending
use Rattle.query_lang.specs.declared.token.Reserved.TheVariants.{And, Or, Not, In, Has, Exists, True, False, Null, Asc, Desc}
use Rattle.query_lang.specs.declared.token.Sign.TheVariants.{Compare, Open, Close, OpenList, CloseList, Comma, Dot}
use Rattle.query_lang.specs.FilterReading.{State, on_token, on_operand, segment_at, item_at, on_exists, on_path, on_value, on_first_item, on_after_item, on_joint, closed, ended, judged, judged_if, at_end, atom, asked, without_pending, value_of}
use Rattle.query_lang.specs.Grammar.{Segment, bare, in_quotes, segment_token, segment_key, path_tokens, path_keys, Value, text_value, number_value, truth_value, null_value, value_token, value_tree, more_values}
use Rattle.query_lang.specs.Reading.{after_token}
use Rattle.query_lang.specs.Tokens.{Token, word, name, quoted, number, bad_number, sign}
use Rattle.query_lang.proofs.Capped.{plus, atom_plus}
use Rattle.query_lang.proofs.Runs.{outcome, NoDot}

-- the state, where this much of an atom was read
abbrev pub where_pending : State → pending.the_data → State
where_pending s p = record s { pending = p }

-- the first segment of a tested path
pub first_tested : (s : State) (seg : Segment) (ts : List Token) → outcome (record s { pending = pending.Operand }) (segment_token seg ∷ ts) ≡ outcome (record s { pending = pending.Path Tested (segment_key seg ∷ []) }) ts
unfolding on_token on_operand segment_at
first_tested s (bare k) ts = refl
first_tested s (in_quotes k) ts = refl

-- the first segment after `exists`
pub first_exists : (s : State) (seg : Segment) (ts : List Token) → outcome (record s { pending = pending.Operand }) (word Exists ∷ segment_token seg ∷ ts) ≡ outcome (record s { pending = pending.Path ForExists (segment_key seg ∷ []) }) ts
unfolding on_token on_operand segment_at
first_exists s (bare k) ts = refl
first_exists s (in_quotes k) ts = refl

-- a dot and a segment
next_segment : (used : PathUse) (path : List (List ℕ)) (s : State) (seg : Segment) (ts : List Token) → length path < 8
    → outcome (record s { pending = pending.Path used path }) (sign Dot ∷ segment_token seg ∷ ts) ≡ outcome (record s { pending = pending.Path used (path ++ segment_key seg ∷ []) }) ts
unfolding on_token on_exists on_path segment_at
next_segment ForExists path s (bare k) ts below = rw (lt-ltb (length path) 8 below) refl
next_segment ForExists path s (in_quotes k) ts below = rw (lt-ltb (length path) 8 below) refl
next_segment Tested path s (bare k) ts below = rw (lt-ltb (length path) 8 below) refl
next_segment Tested path s (in_quotes k) ts below = rw (lt-ltb (length path) 8 below) refl

-- the tokens of further segments
abbrev pub dotted : List Segment → List Token → List Token
dotted [] rest = rest
dotted (seg ∷ ss) rest = sign Dot ∷ segment_token seg ∷ dotted ss rest

pub path_tokens_dotted : (seg : Segment) (ss : List Segment) (rest : List Token) → path_tokens seg ss rest ≡ segment_token seg ∷ dotted ss rest
path_tokens_dotted seg [] rest = refl
path_tokens_dotted seg (more ∷ ss) rest = ap (λ ts. segment_token seg ∷ sign Dot ∷ ts) (path_tokens_dotted more ss rest)

next_segments : (used : PathUse) (path : List (List ℕ)) (s : State) (ss : List Segment) (rest : List Token) → length path + length ss ≤ 8
    → outcome (record s { pending = pending.Path used path }) (dotted ss rest) ≡ outcome (record s { pending = pending.Path used (path ++ map segment_key ss) }) rest
next_segments used path s [] rest below = ap (λ p. outcome (record s { pending = pending.Path used p }) rest) (sym (append-nil path))
next_segments used path s (seg ∷ ss) rest below =
    next_segment used path s seg (dotted ss rest) (omega arith)
    ∙ next_segments used (path ++ segment_key seg ∷ []) s ss rest (omega (arith, length-append path (segment_key seg ∷ [])))
    ∙ ap (λ p. outcome (record s { pending = pending.Path used p }) rest) (append_assoc path (segment_key seg ∷ []) (map segment_key ss))

-- a tested path
pub tested_path : (s : State) (seg : Segment) (ss : List Segment) (rest : List Token) → length ss < 8
    → outcome (record s { pending = pending.Operand }) (path_tokens seg ss rest) ≡ outcome (record s { pending = pending.Path Tested (path_keys seg ss) }) rest
tested_path s seg ss rest below =
    ap (outcome (record s { pending = pending.Operand })) (path_tokens_dotted seg ss rest) ∙ first_tested s seg (dotted ss rest)
    ∙ next_segments Tested (segment_key seg ∷ []) s ss rest (omega arith)

-- a path after `exists`
pub existing_path : (s : State) (seg : Segment) (ss : List Segment) (rest : List Token) → length ss < 8
    → outcome (record s { pending = pending.Operand }) (word Exists ∷ path_tokens seg ss rest) ≡ outcome (record s { pending = pending.Path ForExists (path_keys seg ss) }) rest
existing_path s seg ss rest below =
    ap (λ ts. outcome (record s { pending = pending.Operand }) (word Exists ∷ ts)) (path_tokens_dotted seg ss rest) ∙ first_exists s seg (dotted ss rest)
    ∙ next_segments ForExists (segment_key seg ∷ []) s ss rest (omega arith)

-- ---- what comes after a path

pub value_of_token : (v : Value) → value_of (value_token v) ≡ Ok (value_tree v)
value_of_token (text_value k) = refl
value_of_token (number_value z) = refl
value_of_token (truth_value true) = refl
value_of_token (truth_value false) = refl
value_of_token null_value = refl

-- the one value of a test
pub asked_value : (s : State) (path : List (List ℕ)) (asks : ValueTest) (v : Value) (ts : List Token)
    → outcome (record s { pending = pending.Value path asks }) (value_token v ∷ ts) ≡ outcome (atom (asked asks path (value_tree v)) 0 s) ts
unfolding on_token on_value
asked_value s path asks v ts = rw (value_of_token v) refl

-- further values of a list
pub further_values : (s : State) (path : List (List ℕ)) (vals : List Tree) (vs : List Value) (rest : List Token)
    → outcome (record s { pending = pending.AfterItem path vals }) (more_values vs rest) ≡ outcome (record s { pending = pending.AfterItem path (vals ++ map value_tree vs) }) rest
unfolding on_token on_after_item item_at
further_values s path vals [] rest = ap (λ x. outcome (record s { pending = pending.AfterItem path x }) rest) (sym (append-nil vals))
further_values s path vals (v ∷ vs) rest =
    rw (value_of_token v)
    (further_values s path (vals ++ value_tree v ∷ []) vs rest
    ∙ ap (λ x. outcome (record s { pending = pending.AfterItem path x }) rest) (append_assoc vals (value_tree v ∷ []) (map value_tree vs)))

-- ---- the end of an `exists`

closed_ignores : (s : State) (outer : List Level) → closed (without_pending s) outer ≡ closed s outer
unfolding closed
closed_ignores s [] = refl
closed_ignores s (level ∷ outer) = refl

-- what was read of an atom does not matter where an operand is whole
pub joint_ignores : (s : State) (t : Token) → on_joint (without_pending s) t ≡ on_joint s t
unfolding on_joint
joint_ignores s (word And) = refl
joint_ignores s (word Or) = refl
joint_ignores s (sign Close) = closed_ignores s s.outer
joint_ignores s (word Not) = refl
joint_ignores s (word In) = refl
joint_ignores s (word Has) = refl
joint_ignores s (word Exists) = refl
joint_ignores s (word True) = refl
joint_ignores s (word False) = refl
joint_ignores s (word Null) = refl
joint_ignores s (word Asc) = refl
joint_ignores s (word Desc) = refl
joint_ignores s (name k) = refl
joint_ignores s (quoted k) = refl
joint_ignores s (number z) = refl
joint_ignores s bad_number = refl
joint_ignores s (sign (Compare op)) = refl
joint_ignores s (sign Open) = refl
joint_ignores s (sign OpenList) = refl
joint_ignores s (sign CloseList) = refl
joint_ignores s (sign Comma) = refl
joint_ignores s (sign Dot) = refl

-- any token but a dot ends an `exists`
exists_joint : (s : State) (path : List (List ℕ)) (t : Token) (ts : List Token) → NoDot (t ∷ ts) → on_exists s path t ≡ on_joint (atom (present path) 0 s) t
unfolding on_exists
exists_joint s path (word r) ts other = refl
exists_joint s path (name k) ts other = refl
exists_joint s path (quoted k) ts other = refl
exists_joint s path (number z) ts other = refl
exists_joint s path bad_number ts other = refl
exists_joint s path (sign (Compare op)) ts other = refl
exists_joint s path (sign Open) ts other = refl
exists_joint s path (sign Close) ts other = refl
exists_joint s path (sign OpenList) ts other = refl
exists_joint s path (sign CloseList) ts other = refl
exists_joint s path (sign Comma) ts other = refl
exists_joint s path (sign Dot) ts other = absurd (other refl)

not_at_end : (s : State) (level : Level) (outer : List Level) → s.outer ≡ level ∷ outer → at_end s ≡ Err cause.Syntax
not_at_end s level outer same =
    ap (λ o. cond (length o == 0) (Ok s) (Err cause.Syntax)) same ∙ rw (ne_eqb (suc (length outer)) 0 (λ e. omega arith)) refl

-- at the end of the text too
ends_alike : (s : State) (outer : List Level) → s.outer ≡ outer → judged_if 0 (at_end s) ≡ judged_if 0 (at_end (without_pending s))
unfolding judged
ends_alike s [] same = rw same refl
ends_alike s (level ∷ outer) same = ap (judged_if 0) (not_at_end s level outer same ∙ sym (not_at_end (without_pending s) level outer same))

-- an `exists` is an operand
pub exists_operand : (s : State) (path : List (List ℕ)) (rest : List Token) → NoDot rest
    → outcome (record s { pending = pending.Path ForExists path }) rest ≡ outcome (plus (present path) s) rest
unfolding on_token ended
exists_operand s path [] other =
    let whole = atom_plus (present path) 0 (record s { pending = pending.Operand }) refl refl in
    ap (λ after. judged_if 0 (at_end after)) whole ∙ ends_alike (plus (present path) s) s.outer refl
exists_operand s path (t ∷ ts) other =
    let whole = atom_plus (present path) 0 (record s { pending = pending.Operand }) refl refl in
    ap (after_token (λ after. outcome after ts) 102 0) (exists_joint (record s { pending = pending.Operand }) path t ts other
    ∙ ap (λ after. on_joint after t) whole ∙ sym (joint_ignores (plus (present path) s) t))

-- the first value of a list
pub first_value : (s : State) (path : List (List ℕ)) (v : Value) (ts : List Token)
    → outcome (record s { pending = pending.FirstItem path }) (value_token v ∷ ts) ≡ outcome (record s { pending = pending.AfterItem path (value_tree v ∷ []) }) ts
unfolding on_token on_first_item item_at
first_value s path (text_value k) ts = refl
first_value s path (number_value z) ts = refl
first_value s path (truth_value true) ts = refl
first_value s path (truth_value false) ts = refl
first_value s path null_value ts = refl
