-- What waits at a level of parentheses while its trees are read.
use Rattle.std.proofs.Common.{◌≡◌, ℕ, suc, ◌+◌, ◌≤◌, max, true, false, cond, nat_lt, List, [], ◌∷◌, ◌++◌, length, map, take, drop, Ok, refl, sym, ap, ◌∙◌, inl, inr, arith, append_assoc, append-nil, length-append, take_at, drop_at, add-zero}
use Rattle.std.proofs.lemmas.Bool.{cases_lt, lt-ltb, le-ltb}
use Rattle.std.proofs.lemmas.List.{map-append}
use Rattle.query_core.specs.Filters.{Filter, constant, operands_of, height, operands_height}
use Rattle.query_core.specs.Limits.{leaves, operands_leaves, most_height}
use Rattle.query_lang.specs.declared.filter_reader.Level.{Level}
use Rattle.query_lang.specs.declared.operands.Join.{Join}
use Rattle.query_lang.specs.declared.operands.Join.TheVariants as join
use Rattle.query_lang.specs.declared.filter_reader.Pending.TheVariants as pending
use Rattle.query_lang.specs.FilterText.{capped}
use Rattle.query_lang.specs.FilterReading.{State, capped_sum, kept, negated_times, level_above, join_all, joined_all, put, with_operand, joined, joined_height, join_of, closed, without_pending}
use Rattle.query_lang.specs.Grammar.{FilterTree, alternatives, OrTail, no_or, or_and, AndTree, conjuncts, AndTail, no_and, and_not, filter_meaning, or_meanings, and_meaning, further_meanings, not_meaning, all_of, any_of}
use Rattle.query_lang.proofs.Capped.{plus, same_state, same_level}

abbrev pub operand_at : State → State
operand_at s = record s { pending = pending.Operand }

abbrev pub joint_at : State → State
joint_at s = record s { pending = pending.Joint }

-- the innermost level of an opened parenthesis
abbrev pub inner : State → State
inner s = record s { level = level_above (length s.operands); outer = s.level ∷ s.outer }

-- what trees put on the stack
abbrev mutual
  pub after_filter : FilterTree → State → State
  after_filter (alternatives a os) s = after_ors os (after_and a s)

  pub after_ors : OrTail → State → State
  after_ors no_or s = s
  after_ors (or_and a os) s = after_ors os (after_and a (join_all s))

  pub after_and : AndTree → State → State
  after_and (conjuncts n ns) s = after_further ns (plus (not_meaning n) s)

  pub after_further : AndTail → State → State
  after_further no_and s = s
  after_further (and_not n ns) s = after_further ns (plus (not_meaning n) s)

-- ---- what is outside a level stays

mutual
  pub filter_outer : (t : FilterTree) (s : State) → (after_filter t s).outer ≡ s.outer
  filter_outer (alternatives a os) s = ors_outer os (after_and a s) ∙ and_outer a s

  pub ors_outer : (os : OrTail) (s : State) → (after_ors os s).outer ≡ s.outer
  ors_outer no_or s = refl
  ors_outer (or_and a os) s = ors_outer os (after_and a (join_all s)) ∙ and_outer a (join_all s)

  pub and_outer : (a : AndTree) (s : State) → (after_and a s).outer ≡ s.outer
  and_outer (conjuncts n ns) s = further_outer ns (plus (not_meaning n) s)

  pub further_outer : (ns : AndTail) (s : State) → (after_further ns s).outer ≡ s.outer
  further_outer no_and s = refl
  further_outer (and_not n ns) s = further_outer ns (plus (not_meaning n) s)

-- ---- lists of filters

-- a filter, or what is kept instead
abbrev pub keep : Filter → Filter
keep f = kept (height f) f

-- the greatest height
abbrev pub most : List Filter → ℕ
most [] = 0
most (f ∷ fs) = max (height f) (most fs)

-- the atoms and listed values
abbrev pub total : List Filter → ℕ
total [] = 0
total (f ∷ fs) = leaves f + total fs

most_operands : (fs : List Filter) → operands_height (operands_of fs) ≡ most fs
most_operands [] = refl
most_operands (f ∷ fs) = ap (max (height f)) (most_operands fs)

total_operands : (fs : List Filter) → operands_leaves (operands_of fs) ≡ total fs
total_operands [] = refl
total_operands (f ∷ fs) = ap (λ n. leaves f + n) (total_operands fs)

most-append : (fs gs : List Filter) → most (fs ++ gs) ≡ max (most fs) (most gs)
most-append [] gs = omega arith
most-append (f ∷ fs) gs = omega (arith, most-append fs gs)

total-append : (fs gs : List Filter) → total (fs ++ gs) ≡ total fs + total gs
total-append [] gs = omega arith
total-append (f ∷ fs) gs = omega (arith, total-append fs gs)

-- where the greatest height is within the limit, each filter is kept
all_kept : (fs : List Filter) → most fs ≤ 32 → map keep fs ≡ fs
all_kept [] low = refl
all_kept (f ∷ fs) low =
    let here : nat_lt most_height (height f) ≡ false = le-ltb 32 (height f) (omega arith) in
    ap (λ b. cond b (constant true) f ∷ map keep fs) here ∙ ap (λ gs. f ∷ gs) (all_kept fs (omega arith))

-- filters joined; one filter is itself
abbrev pub together : Join → List Filter → Filter
together how [] = join_of how (operands_of [])
together how (f ∷ []) = f
together how (f ∷ g ∷ fs) = join_of how (operands_of (f ∷ g ∷ fs))

pub all_together : (fs : List Filter) → all_of fs ≡ together join.And fs
all_together [] = refl
all_together (f ∷ []) = refl
all_together (f ∷ g ∷ fs) = refl

pub any_together : (fs : List Filter) → any_of fs ≡ together join.Or fs
any_together [] = refl
any_together (f ∷ []) = refl
any_together (f ∷ g ∷ fs) = refl

join_height : (how : Join) (fs : List Filter) → height (join_of how (operands_of fs)) ≡ suc (most fs)
join_height join.And fs = ap suc (most_operands fs)
join_height join.Or fs = ap suc (most_operands fs)

join_leaves : (how : Join) (fs : List Filter) → leaves (join_of how (operands_of fs)) ≡ total fs
join_leaves join.And fs = total_operands fs
join_leaves join.Or fs = total_operands fs

pub together_leaves : (how : Join) (f : Filter) (fs : List Filter) → leaves (together how (f ∷ fs)) ≡ total (f ∷ fs)
together_leaves how f [] = omega arith
together_leaves how f (g ∷ fs) = join_leaves how (f ∷ g ∷ fs)

-- the height of the operands that were kept gives that of what they are joined to
pub together_height : (how : Join) (f : Filter) (fs : List Filter) → joined_height (capped (most (f ∷ fs))) (map keep (f ∷ fs)) ≡ capped (height (together how (f ∷ fs)))
together_height how f [] = omega arith
together_height how f (g ∷ fs) = omega (arith, join_height how (f ∷ g ∷ fs))

many_kept : (how : Join) (fs : List Filter) → kept (capped_sum (capped (most fs)) 1) (join_of how (operands_of (map keep fs))) ≡ kept (suc (most fs)) (join_of how (operands_of fs))
many_kept how fs =
    elim (cases_lt 32 (suc (most fs))) [
      | inl high ↦ (
          let left : nat_lt most_height (capped_sum (capped (most fs)) 1) ≡ true = lt-ltb 32 (capped_sum (capped (most fs)) 1) (omega arith) in
          let right : nat_lt most_height (suc (most fs)) ≡ true = lt-ltb 32 (suc (most fs)) high in
          ap (λ b. cond b (constant true) (join_of how (operands_of (map keep fs)))) left ∙ sym (ap (λ b. cond b (constant true) (join_of how (operands_of fs))) right))
      | inr low ↦ (
          let same : capped_sum (capped (most fs)) 1 ≡ suc (most fs) = omega arith in
          ap (λ n. kept n (join_of how (operands_of (map keep fs)))) same ∙ ap (λ gs. kept (suc (most fs)) (join_of how (operands_of gs))) (all_kept fs (omega arith)))
    ]

-- the operands that were kept are joined to what is kept of the whole
pub together_kept : (how : Join) (f : Filter) (fs : List Filter) → joined how (capped (most (f ∷ fs))) (map keep (f ∷ fs)) ≡ keep (together how (f ∷ fs))
together_kept how f [] = refl
together_kept how f (g ∷ fs) = many_kept how (f ∷ g ∷ fs) ∙ ap (λ n. kept n (join_of how (operands_of (f ∷ g ∷ fs)))) (sym (join_height how (f ∷ g ∷ fs)))

-- ---- a level

-- a level above what waits in s: the operands of its `or` and of its `and`
abbrev pub framed : State → List Filter → List Filter → State
framed s anys alls = record {
  pending = pending.Joint;
  leaves = capped_sum s.leaves (total anys + total alls);
  operands = s.operands ++ (map keep anys ++ map keep alls);
  level = record {
    nots = 0;
    any_from = length s.operands;
    any_height = capped (most anys);
    all_from = length s.operands + length anys;
    all_height = capped (most alls);
  };
  outer = s.outer;
}

-- nothing waits
abbrev pub fresh : State → State
fresh s = record s { level = level_above (length s.operands) }

keep_zero : (f : Filter) → kept (height f + 0) f ≡ keep f
keep_zero f = ap (λ n. kept n f) (add-zero (height f))

-- the first operand of a level
plus_fresh : (f : Filter) (s : State) → plus f (fresh s) ≡ framed s [] (f ∷ [])
plus_fresh f s =
    same_state (plus f (fresh s)) (framed s [] (f ∷ [])) refl
    (let n = s.leaves in let m = leaves f in let same : capped_sum n m ≡ capped_sum n (0 + (m + 0)) = omega arith in same)
    (ap (λ g. s.operands ++ g ∷ []) (keep_zero f))
    (same_level (plus f (fresh s)).level (framed s [] (f ∷ [])).level refl refl (omega arith) (sym (add-zero (length s.operands))) (let h = height f in let same : max 0 (capped_sum h 0) ≡ capped (max h 0) = omega arith in same))
    refl

-- a further operand
plus_framed : (f : Filter) (s : State) (anys alls : List Filter) → plus f (framed s anys alls) ≡ framed s anys (alls ++ f ∷ [])
plus_framed f s anys alls =
    same_state (plus f (framed s anys alls)) (framed s anys (alls ++ f ∷ [])) refl
    (omega (arith, total-append alls (f ∷ [])))
    (ap (λ g. (s.operands ++ (map keep anys ++ map keep alls)) ++ g ∷ []) (keep_zero f)
    ∙ append_assoc s.operands (map keep anys ++ map keep alls) (keep f ∷ []) ∙ ap (λ r. s.operands ++ r) (append_assoc (map keep anys) (map keep alls) (keep f ∷ []) ∙ ap (λ r. map keep anys ++ r) (sym (map-append keep alls (f ∷ [])))))
    (ap (λ h. record (framed s anys alls).level { all_height = h }) (omega (arith, most-append alls (f ∷ []))))
    refl

-- the conjuncts of a level
further_framed : (ns : AndTail) (s : State) (anys alls : List Filter) → after_further ns (framed s anys alls) ≡ framed s anys (alls ++ further_meanings ns)
further_framed no_and s anys alls = ap (framed s anys) (sym (append-nil alls))
further_framed (and_not n ns) s anys alls =
    ap (after_further ns) (plus_framed (not_meaning n) s anys alls)
    ∙ further_framed ns s anys (alls ++ not_meaning n ∷ []) ∙ ap (framed s anys) (append_assoc alls (not_meaning n ∷ []) (further_meanings ns))

-- a conjunction after an `or`
and_framed : (a : AndTree) (s : State) (anys : List Filter) → (f : Filter) × (fs : List Filter) × (and_meaning a ≡ all_of (f ∷ fs)) × (after_and a (framed s anys []) ≡ framed s anys (f ∷ fs))
and_framed (conjuncts n ns) s anys =
    (not_meaning n, further_meanings ns, refl, ap (after_further ns) (plus_framed (not_meaning n) s anys []) ∙ further_framed ns s anys (not_meaning n ∷ []))

-- the first conjunction
and_fresh : (a : AndTree) (s : State) → (f : Filter) × (fs : List Filter) × (and_meaning a ≡ all_of (f ∷ fs)) × (after_and a (fresh s) ≡ framed s [] (f ∷ fs))
and_fresh (conjuncts n ns) s =
    (not_meaning n, further_meanings ns, refl, ap (after_further ns) (plus_fresh (not_meaning n) s) ∙ further_framed ns s [] (not_meaning n ∷ []))

length-map-keep : (fs : List Filter) → length (map keep fs) ≡ length fs
length-map-keep [] = refl
length-map-keep (f ∷ fs) = ap suc (length-map-keep fs)

-- the `and` of a level is whole
join_framed : (s : State) (anys : List Filter) (f : Filter) (fs : List Filter) → join_all (framed s anys (f ∷ fs)) ≡ framed s (anys ++ all_of (f ∷ fs) ∷ []) []
join_framed s anys f fs =
    let ops = s.operands in
    let g = all_of (f ∷ fs) in
    let before = framed s anys (f ∷ fs) in
    let after = framed s (anys ++ g ∷ []) [] in
    let alls = map keep (f ∷ fs) in
    let from = length ops + length anys in
    let grouped : before.operands ≡ (ops ++ map keep anys) ++ alls = sym (append_assoc ops (map keep anys) alls) in
    let prefix_has_len : length (ops ++ map keep anys) ≡ from = length-append ops (map keep anys) ∙ ap (λ n. length ops + n) (length-map-keep anys) in
    let parts : drop from before.operands ≡ alls = ap (drop from) grouped ∙ drop_at (ops ++ map keep anys) alls from prefix_has_len in
    let prefix : take from before.operands ≡ ops ++ map keep anys = ap (take from) grouped ∙ take_at (ops ++ map keep anys) alls from prefix_has_len in
    let whole : joined join.And (capped (most (f ∷ fs))) (drop from before.operands) ≡ keep g =
    ap (joined join.And (capped (most (f ∷ fs)))) parts ∙ together_kept join.And f fs ∙ ap keep (sym (all_together (f ∷ fs))) in
    let tall : joined_height (capped (most (f ∷ fs))) (drop from before.operands) ≡ capped (height g) =
    ap (joined_height (capped (most (f ∷ fs)))) parts ∙ together_height join.And f fs ∙ ap (λ x. capped (height x)) (sym (all_together (f ∷ fs))) in
    let ops_are : joined_all before.level before.operands ≡ after.operands =
    ap (λ r. r ++ joined join.And (capped (most (f ∷ fs))) (drop from before.operands) ∷ []) prefix
    ∙ ap (λ x. (ops ++ map keep anys) ++ x ∷ []) whole ∙ append_assoc ops (map keep anys) (keep g ∷ [])
    ∙ ap (λ r. ops ++ r) (sym (map-append keep anys (g ∷ [])) ∙ sym (append-nil (map keep (anys ++ g ∷ [])))) in
    let count : length (joined_all before.level before.operands) ≡ length ops + length (anys ++ g ∷ []) =
    ap length ops_are ∙ length-append ops (map keep (anys ++ g ∷ []) ++ []) ∙ ap (λ r. length ops + length r) (append-nil (map keep (anys ++ g ∷ []))) ∙ ap (λ n. length ops + n) (length-map-keep (anys ++ g ∷ [])) in
    same_state (join_all before) after refl
    (omega (arith, total-append anys (g ∷ []), ap leaves (all_together (f ∷ fs)), together_leaves join.And f fs))
    ops_are
    (same_level (join_all before).level after.level refl refl
    (ap (max (capped (most anys))) tall ∙ omega (arith, most-append anys (g ∷ [])))
    count (omega arith))
    refl

-- all alternatives, the last of which is whole
pub ors_framed : (os : OrTail) (s : State) (anys : List Filter) (f : Filter) (fs : List Filter)
    → join_all (after_ors os (framed s anys (f ∷ fs))) ≡ framed s (anys ++ all_of (f ∷ fs) ∷ or_meanings os) []
ors_framed no_or s anys f fs = join_framed s anys f fs
ors_framed (or_and b os) s anys f fs =
    let g = all_of (f ∷ fs) in
    let (h, hs, means, reads) = and_framed b s (anys ++ g ∷ []) in
    ap (λ x. join_all (after_ors os (after_and b x))) (join_framed s anys f fs)
    ∙ ap (λ x. join_all (after_ors os x)) reads
    ∙ ors_framed os s (anys ++ g ∷ []) h hs
    ∙ ap (λ m. framed s ((anys ++ g ∷ []) ++ m ∷ or_meanings os) []) (sym means)
    ∙ ap (λ xs. framed s xs []) (append_assoc anys (g ∷ []) (and_meaning b ∷ or_meanings os))

-- a whole filter at a level of its own
pub closed_filter : (t : FilterTree) (s : State) → (f : Filter) × (fs : List Filter) × (filter_meaning t ≡ any_of (f ∷ fs)) × (join_all (after_filter t (fresh s)) ≡ framed s (f ∷ fs) [])
closed_filter (alternatives a os) s =
    let (f, fs, means, reads) = and_fresh a s in (
      and_meaning a,
      or_meanings os,
      refl,
      ap (λ x. join_all (after_ors os x)) reads ∙ ors_framed os s [] f fs ∙ ap (λ m. framed s (m ∷ or_meanings os) []) (sym means),
    )

-- ---- a closing parenthesis

-- what waits around a level, where that is whole
abbrev pub close_with : State → Level → List Level → State
close_with w level outer =
    put (joined join.Or w.level.any_height (drop w.level.any_from w.operands)) (joined_height w.level.any_height (drop w.level.any_from w.operands))
    (record w { operands = take w.level.any_from w.operands; level = level; outer = outer })

pub closed_at : (x : State) (level : Level) (outer : List Level) → x.outer ≡ level ∷ outer → closed (without_pending x) x.outer ≡ Ok (close_with (join_all x) level outer)
unfolding closed
closed_at x level outer same = ap (closed (without_pending x)) same

-- an operand that was kept is kept after its negations
keep_negated : (k : ℕ) (f : Filter) → kept (capped_sum (capped (height f)) k) (negated_times k (keep f)) ≡ kept (height f + k) (negated_times k f)
keep_negated k f =
    elim (cases_lt 32 (height f + k)) [
      | inl high ↦ (
          let h = height f in
          let left : nat_lt most_height (capped_sum (capped h) k) ≡ true = lt-ltb 32 (capped_sum (capped h) k) (omega arith) in
          let right : nat_lt most_height (h + k) ≡ true = lt-ltb 32 (h + k) high in
          ap (λ b. cond b (constant true) (negated_times k (keep f))) left ∙ sym (ap (λ b. cond b (constant true) (negated_times k f)) right))
      | inr low ↦ (
          let h = height f in
          let here : nat_lt most_height h ≡ false = le-ltb 32 h (omega arith) in
          let same : capped_sum (capped h) k ≡ h + k = omega arith in
          ap (λ n. kept n (negated_times k (keep f))) same ∙ ap (λ b. kept (h + k) (negated_times k (cond b (constant true) f))) here)
    ]

-- a filter in parentheses is one operand
pub close_plus : (s : State) (outer : List Level) (f : Filter) (fs : List Filter) → close_with (framed (record s { outer = outer }) (f ∷ fs) []) s.level s.outer ≡ plus (any_of (f ∷ fs)) s
close_plus s outer f fs =
    let ops = s.operands in
    let g = any_of (f ∷ fs) in
    let anys = map keep (f ∷ fs) in
    let w = framed (record s { outer = outer }) (f ∷ fs) [] in
    let ops_are : w.operands ≡ ops ++ anys = ap (λ r. ops ++ r) (append-nil anys) in
    let parts : drop (length ops) w.operands ≡ anys = ap (drop (length ops)) ops_are ∙ drop_at ops anys (length ops) refl in
    let prefix : take (length ops) w.operands ≡ ops = ap (take (length ops)) ops_are ∙ take_at ops anys (length ops) refl in
    let whole : joined join.Or (capped (most (f ∷ fs))) (drop (length ops) w.operands) ≡ keep g =
    ap (joined join.Or (capped (most (f ∷ fs)))) parts ∙ together_kept join.Or f fs ∙ ap keep (sym (any_together (f ∷ fs))) in
    let tall : joined_height (capped (most (f ∷ fs))) (drop (length ops) w.operands) ≡ capped (height g) =
    ap (joined_height (capped (most (f ∷ fs)))) parts ∙ together_height join.Or f fs ∙ ap (λ x. capped (height x)) (sym (any_together (f ∷ fs))) in
    same_state (close_with w s.level s.outer) (plus g s) refl
    (omega (arith, ap leaves (any_together (f ∷ fs)), together_leaves join.Or f fs))
    (ap (λ r. r ++ kept (capped_sum (joined_height (capped (most (f ∷ fs))) (drop (length ops) w.operands)) s.level.nots) (negated_times s.level.nots (joined join.Or (capped (most (f ∷ fs))) (drop (length ops) w.operands))) ∷ []) prefix
    ∙ ap (λ h. ops ++ kept (capped_sum h s.level.nots) (negated_times s.level.nots (joined join.Or (capped (most (f ∷ fs))) (drop (length ops) w.operands))) ∷ []) tall
    ∙ ap (λ x. ops ++ kept (capped_sum (capped (height g)) s.level.nots) (negated_times s.level.nots x) ∷ []) whole
    ∙ ap (λ x. ops ++ x ∷ []) (keep_negated s.level.nots g))
    (ap (λ h. with_operand h s.level) tall ∙ (
    let high = height g in
    let n = s.level.nots in
    let m = s.level.all_height in
    let same : max m (capped_sum (capped high) n) ≡ max m (capped_sum high n) = omega arith in
    ap (λ h. record s.level { nots = 0; all_height = h }) same))
    refl
