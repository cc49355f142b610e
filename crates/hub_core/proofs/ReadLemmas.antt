-- The query of a read, and what the clock and the copy of a read leave of the queries.
use Rattle.std.proofs.Common.{◌≡◌, ◌⊎◌, ℕ, suc, ◌+◌, ◌<◌, ◌≤◌, Bool, true, false, not, ◌&&◌, ◌||◌, nat_lt, List, [], ◌∷◌, ◌++◌, length, Option, Some, None, IfSome, is_some, option_map, if◌then◌else◌, refl, sym, ap, ◌∙◌, subst, inl, inr, arith}
use Rattle.std.specs.Map.{lookup}
use Rattle.std.proofs.lemmas.Bool.{cases_Bool}
use Rattle.std.proofs.Math.Bool.{and-true, and-false}
use Rattle.query_core.specs.declared.query.Kind.{Kind}
use Rattle.query_core.specs.declared.query.Query.{Query}
use Rattle.query_normal.specs.Keys.{same_key}
use Rattle.query_normal.specs.SameKey.{same_key-Decides}
use Rattle.query_normal.specs.declared.key.KeyShape.{KeyShape}
use Rattle.issued_expiries.specs.Copies.{Copy, SameCopies, is_active}
use Rattle.commit_book.specs.declared.change.Change.{Change}
use Rattle.active_queries.specs.Following.{Following, Follows, FollowsKey, AreFollowing}
use Rattle.active_queries.specs.Queries.{Queries}
use Rattle.hub_core.specs.CopiesView.{CopiesView, Passes, is_idle}
use Rattle.hub_core.specs.ActiveQueries.{KeepsQueries, CanBeAdded, IsAtHand, IsStarted, HasSeenAll, StayKept, is_query, query_at_hand, with_started}
use Rattle.hub_core.specs.Lifetimes.{ids_at}
use Rattle.hub_core.proofs.KeepLemmas.{keeps-later, keeps-same, keeps-issued, keeps-started}

-- ---- the clock

-- idle keys may be taken when the clock has moved
pub passes-idle : (moment : ℕ) (h mid new : CopiesView) → Passes moment h mid → new ≡ record mid { idle = [] } → Passes moment h new
passes-idle moment h mid new passes is =
    subst (λ (x : CopiesView). Passes moment h x) (sym is)
    (record { clock = passes.clock; copies = passes.copies; outdated = passes.outdated; rest = ap (λ (x : CopiesView). record x { idle = [] }) passes.rest })

-- the queries stay kept: those of keys that became idle are not dropped yet
pub kept-passed : (moment : ℕ) (h new : CopiesView) (entries : List (KeyShape × Following)) → Passes moment h new → ((key : KeyShape) → is_idle new key ≡ (is_idle h key || is_active h.copies key && not (is_active new.copies key))) → StayKept h entries new entries
kept-passed moment h new entries passes idle journal front keeps = keeps-later journal front h.copies h.idle entries keeps new.clock new.copies new.idle passes.copies idle

-- where copies and idle keys are the same
pub kept-alike : (journal : List Change) (front : ℕ) (h new : CopiesView) (entries : List (KeyShape × Following)) → new.copies ≡ h.copies → new.idle ≡ h.idle → KeepsQueries journal front h.copies h.idle entries → KeepsQueries journal front new.copies new.idle entries
kept-alike journal front h new entries copies idle keeps =
    subst (λ (cs : List Copy). KeepsQueries journal front cs new.idle entries) (sym copies) (subst (λ (ks : List KeyShape). KeepsQueries journal front h.copies ks entries) (sym idle) keeps)

-- ---- the query of a read

-- the query that is found is the key's
lookup-follows : (journal : List Change) (key : KeyShape) (a : Following) (entries : List (KeyShape × Following)) → AreFollowing journal entries → lookup (same_key key) entries ≡ Some a → FollowsKey journal (key, a)
lookup-follows journal key a [] all found = absurd (let e = found in cc)
lookup-follows journal key a (e ∷ entries) all found = by (same_key key e.0) refl found (lookup-follows journal key a entries (λ k d low. all (suc k) d (omega (arith, low))))
  where
    by : (b : Bool) → same_key key e.0 ≡ b → (if b then Some e.1 else lookup (same_key key) entries) ≡ Some a → (lookup (same_key key) entries ≡ Some a → FollowsKey journal (key, a)) → FollowsKey journal (key, a)
    by true own is rest =
        let key_is : key ≡ e.0 = (same_key-Decides key e.0).0 own in
        let a_is : e.1 ≡ a = (let h = is in cc) in
        subst (λ (k : KeyShape). FollowsKey journal (k, a)) (sym key_is) (subst (λ (x : Following). FollowsKey journal (e.0, x)) a_is (all 0 e (omega arith)))
    by false apart is rest = rest is

-- a query of a key is the key's query
of-key : (journal : List Change) (key : KeyShape) (kind : Kind) (query : Query) (a : Following) → key ≡ KeyShape.Query kind query → FollowsKey journal (key, a) → Follows kind query a journal
of-key journal key kind query a is (own, its, same, follows) =
    let both : KeyShape.Query own its ≡ KeyShape.Query kind query = sym same ∙ is in
    let kind_is : own ≡ kind = (let h = both in cc) in
    let query_is : its ≡ query = (let h = both in cc) in
    subst (λ (k : Kind). Follows k query a journal) kind_is (subst (λ (q : Query). Follows own q a journal) query_is follows)

-- a query that is there, and has seen the last commit
pub seen-all : (journal : List Change) (key : KeyShape) (n : ℕ) (queries : Queries) → n ≡ length journal → is_some (lookup (same_key key) queries.entries) ≡ true → IfSome (lookup (same_key key) queries.entries) (λ a. n ≤ a.seen) → HasSeenAll journal key queries
seen-all journal key n queries last there seen = by (lookup (same_key key) queries.entries) refl there seen
  where
    by : (o : Option Following) → lookup (same_key key) queries.entries ≡ o → is_some o ≡ true → IfSome o (λ a. n ≤ a.seen) → HasSeenAll journal key queries
    by None found none reached = absurd (let e = none in cc)
    by (Some a) found some reached = inr (a, (found, omega (arith, last, reached)))

-- of a read whose query is at hand
module _ (journal : List Change) (key : KeyShape) (kind : Kind) (query : Query) (is : key ≡ KeyShape.Query kind query) (queries : Queries) where
  a-query : is_query key ≡ true
  a-query = ap is_query is

  -- it is there
  pub hand-there : (started : Option (KeyShape × Following)) → IsAtHand journal key started queries → None ≡ query_at_hand key started queries → ⊥
  hand-there None (inl none) missing = (let e : true ≡ false = sym a-query ∙ none in absurd cc)
  hand-there None (inr (a, (found, seen))) missing = (let e : ◌≡◌ {A = Option Following} None (Some a) = missing ∙ found in absurd cc)
  hand-there (Some new) started missing = (let e : ◌≡◌ {A = Option Following} None (Some new.1) = missing in absurd cc)

  -- and follows the journal, of which it has seen the last commit
  pub hand-follows : (started : Option (KeyShape × Following)) (a : Following) → IsAtHand journal key started queries → AreFollowing journal queries.entries → Some a ≡ query_at_hand key started queries → Follows kind query a journal × (a.seen ≡ length journal)
  hand-follows None a (inl none) following found = (let e : true ≡ false = sym a-query ∙ none in absurd cc)
  hand-follows None a (inr (b, (there, seen))) following found =
      let same : b ≡ a = (let e : ◌≡◌ {A = Option Following} (Some b) (Some a) = sym there ∙ sym found in cc) in
      let follows = of-key journal key kind query a is (lookup-follows journal key a queries.entries following (sym found)) in
      let within = follows.within in
      let last : length journal ≤ a.seen = subst (λ (x : Following). length journal ≤ x.seen) same seen in
      (follows, omega (arith, within, last))
  hand-follows (Some new) a started following found =
      let same : new.1 ≡ a = (let e : ◌≡◌ {A = Option Following} (Some a) (Some new.1) = found in cc) in
      (of-key journal key kind query a is (subst (λ (x : Following). FollowsKey journal (key, x)) same started.follows), ap (λ (x : Following). x.seen) (sym same) ∙ started.seen)

-- of the key of a record no ids are told
pub ids-none : (key : KeyShape) (journal : List Change) → is_query key ≡ false → [] ≡ ids_at key journal
ids-none (KeyShape.Record collection id) journal none = refl
ids-none (KeyShape.Query kind normal) journal none = absurd (let e = none in cc)

-- ---- the copy of a read

-- the query that was started may be added
pub may-be-added : (journal : List Change) (key : KeyShape) (started : Option (KeyShape × Following)) (queries : Queries) → IsAtHand journal key started queries → IfSome started (λ new. CanBeAdded new queries)
may-be-added journal key None queries hand = tt
may-be-added journal key (Some new) queries hand = record {
  space = hand.space;
  ready = hand.ready ∙ ap Some (sym hand.key_is);
  absent = subst (λ (k : KeyShape). lookup (same_key k) queries.entries ≡ None) (sym hand.key_is) hand.absent;
  changed = hand.changed;
}

-- with the copy of a read, where it may be kept, the queries are those of the active keys
module _ (journal : List Change) (front : ℕ) (mid new : CopiesView) (key : KeyShape) (commit ttl until : ℕ) (queries : Queries) (keeps : KeepsQueries journal front mid.copies mid.idle queries.entries)
    (within : front ≤ length journal) (last : commit ≡ length journal) (same : SameCopies new.copies (if nat_lt 0 ttl then (key, commit, until) ∷ mid.copies else mid.copies))
    (given : (other : KeyShape) → is_idle new other ≡ (not (same_key key other && nat_lt 0 ttl) && is_idle mid other)) where
  -- nothing is issued
  issued-none : nat_lt 0 ttl ≡ false → KeepsQueries journal front new.copies new.idle queries.entries
  issued-none none =
      keeps-same journal front mid.copies mid.idle queries.entries keeps new.copies new.idle
      (subst (λ (b : Bool). SameCopies new.copies (if b then (key, commit, until) ∷ mid.copies else mid.copies)) none same)
      (λ other. given other ∙ ap (λ (b : Bool). not (same_key key other && b) && is_idle mid other) none ∙ ap (λ (b : Bool). not b && is_idle mid other) (and-false (same_key key other)))

  -- of a copy that is issued
  module _ (some : nat_lt 0 ttl ≡ true) where
    more : SameCopies new.copies ((key, commit, until) ∷ mid.copies)
    more = subst (λ (b : Bool). SameCopies new.copies (if b then (key, commit, until) ∷ mid.copies else mid.copies)) some same

    left : (other : KeyShape) → is_idle new other ≡ (not (same_key key other) && is_idle mid other)
    left other = given other ∙ ap (λ (b : Bool). not (same_key key other && b) && is_idle mid other) some ∙ ap (λ (b : Bool). not b && is_idle mid other) (and-true (same_key key other))

    issued-known : HasSeenAll journal key queries → KeepsQueries journal front new.copies new.idle queries.entries
    issued-known known =
        keeps-issued journal front mid.copies mid.idle queries.entries keeps key commit until new.copies new.idle (omega (arith, last)) more left (by known)
      where
        by : HasSeenAll journal key queries → (is_query key ≡ false) ⊎ (is_some (lookup (same_key key) queries.entries) ≡ true)
        by (inl none) = inl none
        by (inr (a, (found, seen))) = inr (ap is_some found)

    issued-started : (own : KeyShape × Following) → IsStarted journal key own queries → KeepsQueries journal front new.copies new.idle (queries.entries ++ own ∷ [])
    issued-started own started =
        let begun = started.from in
        let seen = started.seen in
        let e : (key, own.1) ≡ own = (λ i. (sym started.key_is i, own.1)) in
        subst (λ (x : KeyShape × Following). KeepsQueries journal front new.copies new.idle (queries.entries ++ x ∷ [])) e
        (keeps-started journal front mid.copies mid.idle queries.entries keeps key commit until new.copies new.idle (omega (arith, last)) more left
        own.1 started.query started.absent started.follows (begun ∙ sym last) (seen ∙ sym last) started.changed (omega (arith, within, last)))

  pub kept-issued : (started : Option (KeyShape × Following)) → IsAtHand journal key started queries → KeepsQueries journal front new.copies new.idle (with_started started ttl queries.entries)
  kept-issued None known = elim (cases_Bool (nat_lt 0 ttl)) [ inl some ↦ issued-known some known | inr none ↦ issued-none none ]
  kept-issued (Some own) started = elim (cases_Bool (nat_lt 0 ttl)) [
    | inl some ↦ subst (λ (b : Bool). KeepsQueries journal front new.copies new.idle (if b then queries.entries ++ own ∷ [] else queries.entries)) (sym some) (issued-started some own started)
    | inr none ↦ subst (λ (b : Bool). KeepsQueries journal front new.copies new.idle (if b then queries.entries ++ own ∷ [] else queries.entries)) (sym none) (issued-none none)
  ]
