-- Beginnings of lists, and calls of a desk one after another.
use Rattle.std.proofs.Common.{◌≡◌, ℕ, ◌≤◌, List, [], ◌∷◌, ◌++◌, length, sym, ◌∙◌, subst, append_assoc, append-nil, length-append, arith, fold, refl, inl, inr}
use Rattle.hub_model.specs.declared.entry.Entry.{Entry}
use Rattle.hub_model.specs.declared.entry.Entry.TheVariants.{Write, Read, Match, Fetch, Purges, Tick, Horizon}
use Rattle.std.proofs.lemmas.Bool.{cases_Bool}
use Rattle.std.proofs.lemmas.List.Sums.{fold-append}
use Rattle.quaestor_server.specs.Ask.{IsFresh}
use Rattle.hub_model.specs.Desk.{IsPrefix, Makes, Learns}
use Rattle.hub_model.specs.Reply.{Replied}
use Rattle.hub_model.specs.Setting.{Setting}
use Rattle.hub_model.specs.State.{State, start, at_moment}
use Rattle.hub_model.specs.Step.{after, is_accepted, state_of}

-- a list is its own beginning
pub prefix_self : {X : Type 0} (xs : List X) → IsPrefix xs xs
prefix_self xs = ([], append-nil xs)

-- a beginning of a beginning is one
pub prefix_trans : {X : Type 0} (xs ys zs : List X) → IsPrefix xs ys → IsPrefix ys zs → IsPrefix xs zs
prefix_trans {X} xs ys zs p q =
    let joined : (xs ++ p.0) ++ q.0 ≡ xs ++ (p.0 ++ q.0) = append_assoc xs p.0 q.0 in
    let first : xs ++ p.0 ≡ ys = p.1 in
    let second : ys ++ q.0 ≡ zs = q.1 in
    (p.0 ++ q.0, cc)

-- what precedes more is a prefix
pub prefix_front : {X : Type 0} (xs ys : List X) → IsPrefix xs (xs ++ ys)
prefix_front xs ys = (ys, refl)

-- an entry leaves no fewer commits
commits-after : (g : Setting) (s : State) (e : Entry) → length s.journal ≤ length (after g s e).journal
commits-after g s (Write moment change condition) =
    let size = length-append s.journal (change ∷ []) in
    elim (cases_Bool (is_accepted g (at_moment s moment) change condition)) [
      | inl accepted ↦ rw accepted (omega (arith, size))
      | inr refused ↦ rw refused (omega arith)
    ]
commits-after g s (Read moment key tags at) = omega arith
commits-after g s (Match moment to) = omega arith
commits-after g s (Fetch moment) = omega arith
commits-after g s (Purges moment from) = omega arith
commits-after g s (Tick moment) = omega arith
commits-after g s (Horizon moment to) = omega arith

-- a list of entries leaves no fewer commits
commits-from : (g : Setting) (s : State) (more : List Entry) → length s.journal ≤ length (fold (after g) s more).journal
commits-from g s [] = omega arith
commits-from g s (e ∷ es) = omega (arith, commits-after g s e, commits-from g (after g s e) es)

-- the state of a longer history is what its further entries make of the state
state_of-append : (g : Setting) (history more : List Entry) → state_of g (history ++ more) ≡ fold (after g) (state_of g history) more
unfolding state_of
state_of-append g history more = fold-append (after g) start history more

-- a longer history has no fewer commits
pub commits_grow : (g : Setting) (history longer : List Entry) → IsPrefix history longer → length (state_of g history).journal ≤ length (state_of g longer).journal
commits_grow g history longer p =
    let more : length (state_of g history).journal ≤ length (fold (after g) (state_of g history) p.0).journal = commits-from g (state_of g history) p.0 in
    let there : length (state_of g history).journal ≤ length (state_of g (history ++ p.0)).journal = subst (λ (s : State). length (state_of g history).journal ≤ length s.journal) (sym (state_of-append g history p.0)) more in
    subst (λ (l : List Entry). length (state_of g history).journal ≤ length (state_of g l).journal) p.1 there

-- what is fresh after more was known is fresh
pub fresh_before : (g : Setting) (known later : List Entry) (e : Entry) → IsPrefix known later → IsFresh g later e → IsFresh g known e
fresh_before g known later (Write moment change condition) p h = tt
fresh_before g known later (Read moment key tags at) p h = omega (arith, commits_grow g known later p, h)
fresh_before g known later (Match moment to) p h = tt
fresh_before g known later (Fetch moment) p h = tt
fresh_before g known later (Purges moment from) p h = tt
fresh_before g known later (Tick moment) p h = tt
fresh_before g known later (Horizon moment to) p h = tt

-- what was added to the entries of before is added to those of still before
pub mine_of : (before mid new more : List (ℕ × Entry)) → new ≡ mid ++ more → mid ≡ before → new ≡ before ++ more
mine_of before mid new more added same = cc

-- a desk that learnt more and then made an entry has made it
abbrev pub learns-makes : (g : Setting) (old mid new : List Entry) (mine mine_mid mine_new : List (ℕ × Entry)) (e : Entry) (told : Replied) → Learns g old mid mine mine_mid → Makes g mid new mine_mid mine_new e told → Makes g old new mine mine_new e told
learns-makes g old mid new mine mine_mid mine_new e told l m =
    record {
      before = m.before;
      helps = m.helps;
      grew = prefix_trans old mid m.before l.grew m.grew;
      helped = m.helped;
      seen = m.seen;
      legal = m.legal;
      mine = mine_of mine mine_mid mine_new _ m.mine l.mine;
      told_is = m.told_is;
    }

-- a desk that learnt twice learnt
pub learns-learns : (g : Setting) (old mid new : List Entry) (mine mine_mid mine_new : List (ℕ × Entry)) → Learns g old mid mine mine_mid → Learns g mid new mine_mid mine_new → Learns g old new mine mine_new
learns-learns g old mid new mine mine_mid mine_new l m =
    record {
      grew = prefix_trans old mid new l.grew m.grew;
      legal = λ h. m.legal (l.legal h);
      mine = m.mine ∙ l.mine;
    }
