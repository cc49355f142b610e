-- The reading of an order's text, and its grammar.
use Rattle.std.proofs.Common.{◌≡◌, ℕ, suc, ◌+◌, ◌<◌, ◌≤◌, Bool, true, false, List, [], ◌∷◌, ◌++◌, length, map, Option, Some, None, Result, Ok, refl, sym, ap, ◌∙◌, subst, arith, append_assoc, append-nil, length-append}
use Rattle.std.proofs.lemmas.Bool.{lt-ltb}
use Rattle.std.proofs.lemmas.List.{map-append, length-map}
use Rattle.query_core.specs.Window.{Order}
use Rattle.query_lang.specs.declared.order_reader.OrderPending.{OrderPending}
use Rattle.query_lang.specs.declared.order_reader.OrderPending.TheVariants as pending
use Rattle.query_lang.specs.declared.refusal.Cause.TheVariants as cause
use Rattle.query_lang.specs.declared.refusal.QueryRefusal.{QueryRefusal}
use Rattle.query_lang.specs.FilterText.{IsWhole}
use Rattle.query_lang.specs.declared.token.Reserved.TheVariants.{Asc, Desc}
use Rattle.query_lang.specs.declared.token.Sign.TheVariants.{Comma, Dot}
use Rattle.query_lang.specs.FilterReading.{segment_of}
use Rattle.query_lang.specs.Grammar.{Segment, bare, in_quotes, segment_token, segment_key, path_tokens, path_keys, Item, item_tokens, more_items, order_tokens, item_meaning, order_meaning, ItemsFit, direction_tokens, is_descending}
use Rattle.query_lang.specs.OrderReading.{State, start, step, on_token, on_item, on_segment, on_path, on_joint, without_pending, ended, order_rules, read_order}
use Rattle.query_lang.specs.OrderText.{IsOrderText}
use Rattle.query_lang.specs.Lexing.{lexeme}
use Rattle.query_lang.specs.Reading.{tokens}
use Rattle.query_lang.specs.Spelling.{Tokenizes}
use Rattle.query_lang.specs.Tokens.{Token, word, bad_number, sign}
use Rattle.query_lang.proofs.Readings.{Follows, taken, segment_taken, written_read, read_written, outcome_has}
use Rattle.query_lang.proofs.Runs.{outcome_of}
use Rattle.query_lang.proofs.Shadows.{path_tokens-append}
use Rattle.query_lang.proofs.Steps.{dotted, path_tokens_dotted}

-- the tokens are taken in turn, and then the text ends
abbrev pub outcome : State → List Token → Result Order QueryRefusal
outcome = outcome_of order_rules

-- the end of a text does not depend on its length where it is good
end_alike : (m n : ℕ) (p : OrderPending) (paths : Order) → IsWhole (ended m p paths) → ended n p paths ≡ ended m p paths
unfolding ended
end_alike m n pending.Start paths good = refl
end_alike m n pending.Joint paths good = refl
end_alike m n (pending.Path path) paths good = refl
end_alike m n p paths good = absurd good

alike : (m n : ℕ) (s : State) → IsWhole (order_rules.ends m s) → order_rules.ends n s ≡ order_rules.ends m s
alike m n s good = end_alike m n s.pending s.paths good

-- a refused number is taken nowhere
no_bad_token : (p : OrderPending) (s s' : State) → on_token p s bad_number ≡ Ok s' → ⊥
unfolding on_token on_item on_segment on_path
no_bad_token pending.Start s s' e = cc
no_bad_token p s s' e = cc

-- ---- the tokens of items are read as what they mean

-- a state at which a path must come, or may
abbrev item_state : Bool → Order → State
item_state true paths = record { pending = pending.Start; paths = paths }
item_state false paths = record { pending = pending.Item; paths = paths }

first_segment : (b : Bool) (paths : Order) (seg : Segment) (ts : List Token) → length paths < 4
    → outcome (item_state b paths) (segment_token seg ∷ ts) ≡ outcome (record { pending = pending.Path (segment_key seg ∷ []); paths = paths }) ts
unfolding on_token on_item
first_segment true paths (bare k) ts below = rw (lt-ltb (length paths) 4 below) refl
first_segment true paths (in_quotes k) ts below = rw (lt-ltb (length paths) 4 below) refl
first_segment false paths (bare k) ts below = rw (lt-ltb (length paths) 4 below) refl
first_segment false paths (in_quotes k) ts below = rw (lt-ltb (length paths) 4 below) refl

next_segment : (path : List (List ℕ)) (paths : Order) (seg : Segment) (ts : List Token) → length path < 8
    → outcome (record { pending = pending.Path path; paths = paths }) (sign Dot ∷ segment_token seg ∷ ts) ≡ outcome (record { pending = pending.Path (path ++ segment_key seg ∷ []); paths = paths }) ts
unfolding on_token on_path on_segment
next_segment path paths (bare k) ts below = rw (lt-ltb (length path) 8 below) refl
next_segment path paths (in_quotes k) ts below = rw (lt-ltb (length path) 8 below) refl

next_segments : (path : List (List ℕ)) (paths : Order) (ss : List Segment) (rest : List Token) → length path + length ss ≤ 8
    → outcome (record { pending = pending.Path path; paths = paths }) (dotted ss rest) ≡ outcome (record { pending = pending.Path (path ++ map segment_key ss); paths = paths }) rest
next_segments path paths [] rest below = ap (λ p. outcome (record { pending = pending.Path p; paths = paths }) rest) (sym (append-nil path))
next_segments path paths (seg ∷ ss) rest below =
    next_segment path paths seg (dotted ss rest) (omega arith)
    ∙ next_segments (path ++ segment_key seg ∷ []) paths ss rest (omega (arith, length-append path (segment_key seg ∷ [])))
    ∙ ap (λ p. outcome (record { pending = pending.Path p; paths = paths }) rest) (append_assoc path (segment_key seg ∷ []) (map segment_key ss))

whole_path : (b : Bool) (paths : Order) (seg : Segment) (ss : List Segment) (rest : List Token) → length paths < 4 → length ss < 8
    → outcome (item_state b paths) (path_tokens seg ss rest) ≡ outcome (record { pending = pending.Path (path_keys seg ss); paths = paths }) rest
whole_path b paths seg ss rest below short =
    ap (outcome (item_state b paths)) (path_tokens_dotted seg ss rest) ∙ first_segment b paths seg (dotted ss rest) below
    ∙ next_segments (segment_key seg ∷ []) paths ss rest (omega arith)

direction_end : (path : List (List ℕ)) (paths : Order) (d : Option Bool) → outcome (record { pending = pending.Path path; paths = paths }) (direction_tokens d []) ≡ Ok (paths ++ (path, is_descending d) ∷ [])
unfolding on_token on_path ended
direction_end path paths None = refl
direction_end path paths (Some false) = refl
direction_end path paths (Some true) = refl

direction_comma : (path : List (List ℕ)) (paths : Order) (d : Option Bool) (ts : List Token)
    → outcome (record { pending = pending.Path path; paths = paths }) (direction_tokens d (sign Comma ∷ ts)) ≡ outcome (item_state false (paths ++ (path, is_descending d) ∷ [])) ts
unfolding on_token on_path
direction_comma path paths None ts = refl
direction_comma path paths (Some false) ts = refl
direction_comma path paths (Some true) ts = refl

items_read : (b : Bool) (paths : Order) (i : Item) (is : List Item) → length paths + length (i ∷ is) ≤ 4 → ItemsFit (i ∷ is)
    → outcome (item_state b paths) (item_tokens i (more_items is [])) ≡ Ok (paths ++ map item_meaning (i ∷ is))
items_read b paths i [] few fits =
    whole_path b paths i.first i.others (direction_tokens i.direction []) (omega arith) fits.0 ∙ direction_end (path_keys i.first i.others) paths i.direction
items_read b paths i (j ∷ js) few fits =
    whole_path b paths i.first i.others (direction_tokens i.direction (more_items (j ∷ js) [])) (omega arith) fits.0
    ∙ direction_comma (path_keys i.first i.others) paths i.direction (item_tokens j (more_items js []))
    ∙ items_read false (paths ++ item_meaning i ∷ []) j js (omega (arith, length-append paths (item_meaning i ∷ []))) fits.1
    ∙ ap Ok (append_assoc paths (item_meaning i ∷ []) (map item_meaning (j ∷ js)))

order_read : (is : List Item) → length is ≤ 4 → ItemsFit is → outcome start (order_tokens is []) ≡ Ok (order_meaning is)
unfolding ended
order_read [] few fits = refl
order_read (i ∷ is) few fits = items_read true [] i is (omega arith) fits

-- ---- what is read is the tokens of items

-- what was read of a path
pub data Position : Type 0 where
  start_here : Position
  item_here : Position
  behind_dot : Segment → List Segment → Position
  behind_segment : Segment → List Segment → Position

-- the items so far, the newest first, and what was read of the next; or the last item is whole
pub data Shadow : Type 0 where
  within : List Item → Position → Shadow
  complete : List Item → Item → Shadow

abbrev pub items_before : List Item → List Token → List Token
items_before [] rest = rest
items_before (i ∷ is) rest = items_before is (item_tokens i (sign Comma ∷ rest))

abbrev pub position_before : Position → List Token → List Token
position_before start_here rest = rest
position_before item_here rest = rest
position_before (behind_dot seg ss) rest = path_tokens seg ss (sign Dot ∷ rest)
position_before (behind_segment seg ss) rest = path_tokens seg ss rest

abbrev pub shadow_before : Shadow → List Token → List Token
shadow_before (within is p) rest = items_before is (position_before p rest)
shadow_before (complete is i) rest = items_before is (item_tokens i rest)

abbrev pub position_pending : Position → OrderPending
position_pending start_here = pending.Start
position_pending item_here = pending.Item
position_pending (behind_dot seg ss) = pending.Segment (path_keys seg ss)
position_pending (behind_segment seg ss) = pending.Path (path_keys seg ss)

abbrev pub shadow_pending : Shadow → OrderPending
shadow_pending (within is p) = position_pending p
shadow_pending (complete is i) = pending.Joint

-- the number of whole items
abbrev pub shadow_count : Shadow → ℕ
shadow_count (within is p) = length is
shadow_count (complete is i) = suc (length is)

abbrev pub ListFits : List Item → Type 0
ListFits [] = Unit {0}
ListFits (i ∷ is) = (length i.others < 8) × ListFits is

-- nothing was read at the start, and a path has begun only below the limit
abbrev pub PositionFits : List Item → Position → Type 0
PositionFits is start_here = length is ≡ 0
PositionFits is item_here = length is ≤ 4
PositionFits is (behind_dot seg ss) = (length is < 4) × (length ss < 8)
PositionFits is (behind_segment seg ss) = (length is < 4) × (length ss < 8)

abbrev pub ShadowFits : Shadow → Type 0
ShadowFits (within is p) = ListFits is × PositionFits is p
ShadowFits (complete is i) = ListFits is × (length is < 4) × (length i.others < 8)

-- what was read is the beginning of items
pub record Stands (c : Shadow) (s : State) : Type 0 where
  pub same_pending : shadow_pending c ≡ s.pending
  pub same_count : shadow_count c ≡ length s.paths
  pub fits : ShadowFits c

-- so it is with a token
abbrev Next : Shadow → Token → State → Type 0
Next c t s = Follows Stands shadow_before c t s

module _ (is : List Item) (s s' : State) (count : length is ≡ length s.paths) where
  -- the first segment of a path
  item_follows : (p : Position) (t : Token) → ListFits is → ((rest : List Token) → rest ≡ position_before p rest) → on_item s (segment_of t) ≡ Ok s' → Next (within is p) t s'
  unfolding on_item
  item_follows p t fits before e =
      let (seg, token, below, same) = segment_taken (on_item s) (length s.paths) 4 (λ k. record s { pending = pending.Path (k ∷ []) }) cause.Syntax cause.TooManyPaths refl (λ k. refl) t s' e in
      taken same (record {
        shadow = within is (behind_segment seg []);
        stands = record { same_pending = refl; same_count = count; fits = (fits, (omega arith, omega arith)) };
        same = λ rest. ap (items_before is) (before (segment_token seg ∷ rest) ∙ ap (λ k. position_before p (k ∷ rest)) token);
      })

  module _ (seg : Segment) (ss : List Segment) where
    -- a segment after a dot
    segment_follows : (t : Token) → ShadowFits (within is (behind_dot seg ss)) → on_segment s (path_keys seg ss) (segment_of t) ≡ Ok s' → Next (within is (behind_dot seg ss)) t s'
    unfolding on_segment
    segment_follows t (fits, (below, short)) e =
        let (more, token, left, same) =
        segment_taken (on_segment s (path_keys seg ss)) (length (path_keys seg ss)) 8 (λ k. record s { pending = pending.Path (path_keys seg ss ++ k ∷ []) }) cause.Syntax cause.Syntax refl (λ k. refl) t s' e in
        taken same (record {
          shadow = within is (behind_segment seg (ss ++ more ∷ []));
          stands = record {
            same_pending = ap (λ ks. pending.Path (segment_key seg ∷ ks)) (map-append segment_key ss (more ∷ []));
            same_count = count;
            fits = (fits, (below, omega (arith, length-append ss (more ∷ []), length-map ss segment_key)));
          };
          same = λ rest. ap (items_before is) (path_tokens-append seg ss more rest ∙ ap (λ k. path_tokens seg ss (sign Dot ∷ k ∷ rest)) token);
        })

    -- a path is whole, with or without a direction
    whole_item : (b : Bool) → length (s.paths ++ (path_keys seg ss, b) ∷ []) ≡ suc (length is)
    whole_item b = omega (arith, length-append s.paths ((path_keys seg ss, b) ∷ []))

    path_follows : (t : Token) → ShadowFits (within is (behind_segment seg ss)) → on_path s (path_keys seg ss) t ≡ Ok s' → Next (within is (behind_segment seg ss)) t s'
    unfolding on_path
    path_follows (sign Dot) (fits, (below, short)) e =
        taken e (record { shadow = within is (behind_dot seg ss); stands = record { same_pending = refl; same_count = count; fits = (fits, (below, short)) }; same = λ rest. refl })
    path_follows (sign Comma) (fits, (below, short)) e =
        let i : Item = record { first = seg; others = ss; direction = None } in
        taken e (record { shadow = within (i ∷ is) item_here; stands = record { same_pending = refl; same_count = sym (whole_item false); fits = ((short, fits), omega arith) }; same = λ rest. refl })
    path_follows (word Asc) (fits, (below, short)) e =
        let i : Item = record { first = seg; others = ss; direction = Some false } in
        taken e (record { shadow = complete is i; stands = record { same_pending = refl; same_count = sym (whole_item false); fits = (fits, below, short) }; same = λ rest. refl })
    path_follows (word Desc) (fits, (below, short)) e =
        let i : Item = record { first = seg; others = ss; direction = Some true } in
        taken e (record { shadow = complete is i; stands = record { same_pending = refl; same_count = sym (whole_item true); fits = (fits, below, short) }; same = λ rest. refl })
    path_follows t fits e = cc

joint_follows : (is : List Item) (i : Item) (s : State) (t : Token) (s' : State) → suc (length is) ≡ length s.paths → ShadowFits (complete is i) → on_joint s t ≡ Ok s' → Next (complete is i) t s'
joint_follows is i s (sign Comma) s' count (fits, below, short) e =
    taken e (record { shadow = within (i ∷ is) item_here; stands = record { same_pending = refl; same_count = count; fits = ((short, fits), omega arith) }; same = λ rest. refl })
joint_follows is i s t s' count fits e = cc

token_follows : (c : Shadow) (s : State) (t : Token) (s' : State) → shadow_count c ≡ length s.paths → ShadowFits c → on_token (shadow_pending c) s t ≡ Ok s' → Next c t s'
unfolding on_token
token_follows (within is start_here) s t s' count (fits, none_yet) e = item_follows is s s' count start_here t fits (λ rest. refl) e
token_follows (within is item_here) s t s' count (fits, few) e = item_follows is s s' count item_here t fits (λ rest. refl) e
token_follows (within is (behind_dot seg ss)) s t s' count fits e = segment_follows is s s' count seg ss t fits e
token_follows (within is (behind_segment seg ss)) s t s' count fits e = path_follows is s s' count seg ss t fits e
token_follows (complete is i) s t s' count fits e = joint_follows is i s t s' count fits e

step_follows : (c : Shadow) (s : State) (t : Token) (s' : State) → Stands c s → step s t ≡ Ok s' → Next c t s'
step_follows c s t s' stands e = token_follows c (without_pending s) t s' stands.same_count stands.fits (subst (λ p. on_token p (without_pending s) t ≡ Ok s') (sym stands.same_pending) e)

-- items in order
abbrev listed_items : List Item → Item → List Item → List Item
listed_items [] i tail = i ∷ tail
listed_items (j ∷ js) i tail = listed_items js j (i ∷ tail)

listed_tokens : (js : List Item) (i : Item) (tail : List Item) (rest : List Token) → order_tokens (listed_items js i tail) rest ≡ items_before js (item_tokens i (more_items tail rest))
listed_tokens [] i tail rest = refl
listed_tokens (j ∷ js) i tail rest = listed_tokens js j (i ∷ tail) rest

listed_len : (js : List Item) (i : Item) (tail : List Item) → length (listed_items js i tail) ≡ length js + length (i ∷ tail)
listed_len [] i tail = omega arith
listed_len (j ∷ js) i tail = listed_len js j (i ∷ tail) ∙ omega arith

listed_fit : (js : List Item) (i : Item) (tail : List Item) → ListFits js → ItemsFit (i ∷ tail) → ItemsFit (listed_items js i tail)
listed_fit [] i tail before fits = fits
listed_fit (j ∷ js) i tail before fits = listed_fit js j (i ∷ tail) before.1 (before.0, fits)

abbrev HasItems : List Token → Type 0
HasItems ts = (is : List Item) × (length is ≤ 4) × ItemsFit is × (order_tokens is [] ≡ ts)

items_of : (is : List Item) (i : Item) → ListFits is → length is < 4 → length i.others < 8 → HasItems (items_before is (item_tokens i []))
items_of is i fits below short = (listed_items is i [], omega (arith, listed_len is i []), listed_fit is i [] fits (short, tt), listed_tokens is i [] [])

end_items : (c : Shadow) (paths : Order) → ShadowFits c → IsWhole (ended 0 (shadow_pending c) paths) → HasItems (shadow_before c [])
unfolding ended
end_items (within [] start_here) paths (fits, none_yet) good = ([], omega arith, tt, refl)
end_items (within (i ∷ is) start_here) paths (fits, none_yet) good = absurd (omega (arith, none_yet))
end_items (within is (behind_segment seg ss)) paths (fits, (below, short)) good = items_of is (record { first = seg; others = ss; direction = None }) fits below short
end_items (complete is i) paths (fits, below, short) good = items_of is i fits below short
end_items c paths fits good = absurd good

outcome_items : (ts : List Token) → IsWhole (outcome start ts) → HasItems ts
outcome_items ts good =
    outcome_has order_rules Stands shadow_before HasItems
    (λ c s stands whole. end_items c s.paths stands.fits (subst (λ p. IsWhole (ended 0 p s.paths)) (sym stands.same_pending) whole))
    step_follows ts (within [] start_here) start (record { same_pending = refl; same_count = refl; fits = (tt, refl) }) good

-- ---- the grammar

-- a text of the grammar is read as what it means
pub order_text_read : (bytes : List ℕ) (o : Order) → IsOrderText bytes o → read_order bytes ≡ Ok o
unfolding read_order
order_text_read bytes o text =
    let whole = order_read text.items text.few text.fits ∙ ap Ok text.means in
    written_read order_rules alike bytes (order_tokens text.items []) start text.tokenizes (subst IsWhole (sym whole) tt) ∙ whole

-- what is read is a text of the grammar
pub read_order_text : (bytes : List ℕ) (o : Order) → read_order bytes ≡ Ok o → IsOrderText bytes o
unfolding read_order
read_order_text bytes o e =
    let (ts, tokenizes, same) = read_written order_rules alike (λ s s' no. no_bad_token s.pending (without_pending s) s' no) bytes start (subst IsWhole (sym e) tt) in
    let (items, few, fits, item_list) = outcome_items ts (subst IsWhole (sym (same ∙ e)) tt) in
    let reads : ◌≡◌ {A = Result Order QueryRefusal} (Ok (order_meaning items)) (Ok o) = sym (order_read items few fits) ∙ ap (outcome start) item_list ∙ same ∙ e in
    let means : order_meaning items ≡ o = cc in
    record { items = items; tokenizes = subst (Tokenizes bytes) (sym item_list) tokenizes; few = few; fits = fits; means = means }

-- a text of no byte is the empty order
pub no_order : (bytes : List ℕ) → length bytes ≡ 0 → read_order bytes ≡ Ok []
unfolding read_order tokens lexeme ended
no_order [] e = refl
no_order (b ∷ bs) e = absurd cc
