-- What a desk does that fills a store, one call after another.
use Rattle.std.proofs.Common.{◌≡◌, ℕ, ◌+◌, List, [], ◌∷◌, ◌++◌, length, Bool, true, false, if◌then◌else◌, nat_lt, nat_le, ◌&&◌, flat_map, refl, sym, ap, ◌∙◌, subst, append-nil, append_assoc}
use Rattle.std.specs.List.{enumerate_from}
use Rattle.std.proofs.lemmas.Grind.{flat_map-append}
use Rattle.commit_book.specs.declared.change.Change.{Change}
use Rattle.hub_desk.specs.Desk.{MatchesAll, DropsOld, target_of}
use Rattle.hub_desk.specs.declared.trim.Trim.{Trim}
use Rattle.hub_model.specs.declared.entry.Dropped.{Dropped}
use Rattle.hub_model.specs.declared.entry.Entry.{Entry}
use Rattle.hub_model.specs.declared.entry.Entry.TheVariants.{Write, Read, Match, Fetch, Purges, Tick, Horizon}
use Rattle.hub_model.specs.declared.entry.Matched.{Matched}
use Rattle.hub_model.specs.Desk.{Learns, Makes}
use Rattle.hub_model.specs.Helps.{helps_of}
use Rattle.hub_model.specs.Legal.{IsLegal, most_unmatched}
use Rattle.hub_model.specs.Reply.{Replied}
use Rattle.hub_model.specs.Setting.{Setting}
use Rattle.hub_model.specs.State.{State}
use Rattle.hub_model.specs.Step.{is_accepted, state_of}
use Rattle.kept_desk.specs.Filling.{Fills, IsFilling, Writes, written_by, writes_in}
use Rattle.turnstile.specs.Places.{AllOf}
use Rattle.turnstile.proofs.PlaceLemmas.{all_append}
use Rattle.turnstile.proofs.Prefixes.{prefix_self, prefix_trans}

-- ---- entries with their positions

numbered_all : (P : Entry → Type 0) (n : ℕ) (es : List Entry) → AllOf P es → AllOf (λ (own : ℕ × Entry). P own.1) (enumerate_from n es)
numbered_all P n [] all = tt
numbered_all P n (e ∷ es) all = (all.0, numbered_all P (n + 1) es all.1)

pub numbered_writes : (n : ℕ) (es : List Entry) → writes_in (enumerate_from n es) ≡ flat_map written_by es
numbered_writes n [] = refl
numbered_writes n (e ∷ es) = ap (λ (l : List (ℕ × Change)). written_by e ++ l) (numbered_writes (n + 1) es)

pub writes_append : (xs ys : List (ℕ × Entry)) → writes_in (xs ++ ys) ≡ writes_in xs ++ writes_in ys
writes_append xs ys = flat_map-append (λ (own : ℕ × Entry). written_by own.1) xs ys

unnumbered : (P : Entry → Type 0) (n : ℕ) (es : List Entry) → AllOf (λ (own : ℕ × Entry). P own.1) (enumerate_from n es) → AllOf P es
unnumbered P n [] all = tt
unnumbered P n (e ∷ es) all = (all.0, unnumbered P (n + 1) es all.1)

-- the entries of a history that all fill
pub all_filling : (es : List Entry) (own : List (ℕ × Entry)) → own ≡ enumerate_from 0 es → AllOf (λ (p : ℕ × Entry). IsFilling p.1) own → AllOf IsFilling es
all_filling es own is all = unnumbered IsFilling 0 es (subst (λ (ps : List (ℕ × Entry)). AllOf (λ (p : ℕ × Entry). IsFilling p.1) ps) is all)

-- ---- what comes ahead of a call

one_fills : (b : Bool) (moment to : ℕ) → AllOf IsFilling (if b then Match moment to ∷ [] else [])
one_fills true moment to = (tt, tt)
one_fills false moment to = tt

help_fills : (g : Setting) (s : State) (e : Entry) → AllOf IsFilling (helps_of g s e)
help_fills g s (Write moment change condition) = one_fills (is_accepted g s change condition && nat_le (s.front + most_unmatched) (length s.journal)) moment (length s.journal)
help_fills g s (Read moment key tags at) = tt
help_fills g s (Match moment to) = tt
help_fills g s (Fetch moment) = tt
help_fills g s (Purges moment from) = tt
help_fills g s (Tick moment) = tt
help_fills g s (Horizon moment to) = tt

one_writes : (b : Bool) (moment to : ℕ) → flat_map written_by (if b then Match moment to ∷ [] else []) ≡ []
one_writes true moment to = refl
one_writes false moment to = refl

help_writes : (g : Setting) (s : State) (e : Entry) → flat_map written_by (helps_of g s e) ≡ []
help_writes g s (Write moment change condition) = one_writes (is_accepted g s change condition && nat_le (s.front + most_unmatched) (length s.journal)) moment (length s.journal)
help_writes g s (Read moment key tags at) = refl
help_writes g s (Match moment to) = refl
help_writes g s (Fetch moment) = refl
help_writes g s (Purges moment from) = refl
help_writes g s (Tick moment) = refl
help_writes g s (Horizon moment to) = refl

-- ---- one call

-- nothing was made
pub fills_none : (g : Setting) (seen : List Entry) (mine : List (ℕ × Entry)) → Fills g seen seen mine mine
fills_none g seen mine = record {
  grew = prefix_self seen;
  legal = λ legal. legal;
  entries = [];
  mine = sym (append-nil mine);
  filling = tt;
}

pub fills_learned : (g : Setting) (old new : List Entry) (mine_old mine_new : List (ℕ × Entry)) → Learns g old new mine_old mine_new → Fills g old new mine_old mine_new
fills_learned g old new mine_old mine_new l = record {
  grew = l.grew;
  legal = l.legal;
  entries = [];
  mine = l.mine ∙ sym (append-nil mine_old);
  filling = tt;
}

pub learns_none : (g : Setting) (seen : List Entry) (mine : List (ℕ × Entry)) → Learns g seen seen mine mine
learns_none g seen mine = record { grew = prefix_self seen; legal = λ legal. legal; mine = refl }

-- an entry was made that fills
pub fills_made : (g : Setting) (old new : List Entry) (mine_old mine_new : List (ℕ × Entry)) (e : Entry) (told : Replied) → Makes g old new mine_old mine_new e told → IsFilling e → Fills g old new mine_old mine_new
fills_made g old new mine_old mine_new e told m fill =
    let helps : AllOf IsFilling m.helps = subst (λ (es : List Entry). AllOf IsFilling es) (sym m.helped) (help_fills g (state_of g m.before) e) in
    record {
      grew = prefix_trans old m.before new m.grew (m.helps ++ e ∷ [], sym (append_assoc m.before m.helps (e ∷ [])) ∙ sym m.seen);
      legal = λ legal. m.legal;
      entries = enumerate_from (length m.before) (m.helps ++ e ∷ []);
      mine = m.mine;
      filling = numbered_all IsFilling (length m.before) (m.helps ++ e ∷ []) (all_append IsFilling m.helps (e ∷ []) helps (fill, tt));
    }

-- nothing was written
pub writes_none : (mine : List (ℕ × Entry)) → Writes mine mine []
writes_none mine = sym (append-nil (writes_in mine))

pub writes_learned : (g : Setting) (old new : List Entry) (mine_old mine_new : List (ℕ × Entry)) → Learns g old new mine_old mine_new → Writes mine_old mine_new []
writes_learned g old new mine_old mine_new l = ap (λ (own : List (ℕ × Entry)). writes_in own) l.mine ∙ writes_none mine_old

-- what the entry writes was written
pub writes_made : (g : Setting) (old new : List Entry) (mine_old mine_new : List (ℕ × Entry)) (e : Entry) (told : Replied) → Makes g old new mine_old mine_new e told → Writes mine_old mine_new (written_by e)
writes_made g old new mine_old mine_new e told m =
    let own : List (ℕ × Entry) = enumerate_from (length m.before) (m.helps ++ e ∷ []) in
    let parts : flat_map written_by (m.helps ++ e ∷ []) ≡ flat_map written_by m.helps ++ (written_by e ++ []) = flat_map-append written_by m.helps (e ∷ []) in
    let none : flat_map written_by m.helps ≡ [] = ap (λ (es : List Entry). flat_map written_by es) m.helped ∙ help_writes g (state_of g m.before) e in
    let only : writes_in own ≡ written_by e =
    numbered_writes (length m.before) (m.helps ++ e ∷ []) ∙ parts ∙ ap (λ (l : List (ℕ × Change)). l ++ (written_by e ++ [])) none ∙ append-nil (written_by e) in
    ap (λ (l : List (ℕ × Entry)). writes_in l) m.mine ∙ writes_append mine_old own ∙ ap (λ (l : List (ℕ × Change)). writes_in mine_old ++ l) only

-- ---- the entries of a filling

match_fills : (b : Bool) (e : Entry) (moment to : ℕ) → e ≡ (if b then Match moment to else Tick moment) → IsFilling e
match_fills true e moment to is = subst (λ (x : Entry). IsFilling x) (sym is) tt
match_fills false e moment to is = subst (λ (x : Entry). IsFilling x) (sym is) tt

match_writes : (b : Bool) (e : Entry) (moment to : ℕ) → e ≡ (if b then Match moment to else Tick moment) → written_by e ≡ []
match_writes true e moment to is = ap (λ (x : Entry). written_by x) is
match_writes false e moment to is = ap (λ (x : Entry). written_by x) is

drop_fills : (b : Bool) (e : Entry) (moment to : ℕ) → e ≡ (if b then Horizon moment to else Tick moment) → IsFilling e
drop_fills true e moment to is = subst (λ (x : Entry). IsFilling x) (sym is) tt
drop_fills false e moment to is = subst (λ (x : Entry). IsFilling x) (sym is) tt

drop_writes : (b : Bool) (e : Entry) (moment to : ℕ) → e ≡ (if b then Horizon moment to else Tick moment) → written_by e ≡ []
drop_writes true e moment to is = ap (λ (x : Entry). written_by x) is
drop_writes false e moment to is = ap (λ (x : Entry). written_by x) is

-- all was matched
pub fills_matched : (g : Setting) (old new : List Entry) (mine_old mine_new : List (ℕ × Entry)) (moment : ℕ) (told : Matched) → MatchesAll g old new mine_old mine_new moment told → Fills g old new mine_old mine_new
fills_matched g old new mine_old mine_new moment told m =
    let s = state_of g (m.made.before ++ m.made.helps) in
    fills_made g old new mine_old mine_new m.entry m.replied m.made (match_fills (nat_lt s.front (length s.journal)) m.entry moment (length s.journal) m.entry_is)

pub writes_matched : (g : Setting) (old new : List Entry) (mine_old mine_new : List (ℕ × Entry)) (moment : ℕ) (told : Matched) → MatchesAll g old new mine_old mine_new moment told → Writes mine_old mine_new []
writes_matched g old new mine_old mine_new moment told m =
    let s = state_of g (m.made.before ++ m.made.helps) in
    subst (λ (l : List (ℕ × Change)). Writes mine_old mine_new l) (match_writes (nat_lt s.front (length s.journal)) m.entry moment (length s.journal) m.entry_is) (writes_made g old new mine_old mine_new m.entry m.replied m.made)

-- old changes were dropped
pub fills_dropped : (g : Setting) (old new : List Entry) (mine_old mine_new : List (ℕ × Entry)) (moment : ℕ) (trim : Trim) (told : Dropped) → DropsOld g old new mine_old mine_new moment trim told → Fills g old new mine_old mine_new
fills_dropped g old new mine_old mine_new moment trim told d =
    let s = state_of g (d.made.before ++ d.made.helps) in
    fills_made g old new mine_old mine_new d.entry d.replied d.made (drop_fills (nat_lt s.horizon (target_of g s trim)) d.entry moment (target_of g s trim) d.entry_is)

pub writes_dropped : (g : Setting) (old new : List Entry) (mine_old mine_new : List (ℕ × Entry)) (moment : ℕ) (trim : Trim) (told : Dropped) → DropsOld g old new mine_old mine_new moment trim told → Writes mine_old mine_new []
writes_dropped g old new mine_old mine_new moment trim told d =
    let s = state_of g (d.made.before ++ d.made.helps) in
    subst (λ (l : List (ℕ × Change)). Writes mine_old mine_new l) (drop_writes (nat_lt s.horizon (target_of g s trim)) d.entry moment (target_of g s trim) d.entry_is) (writes_made g old new mine_old mine_new d.entry d.replied d.made)

-- ---- calls behind one another

pub fills_both : (g k : Setting) (old mid new : List Entry) (mine_old mine_mid mine_new : List (ℕ × Entry)) → k ≡ g → Fills g old mid mine_old mine_mid → Fills k mid new mine_mid mine_new → Fills g old new mine_old mine_new
fills_both g k old mid new mine_old mine_mid mine_new same p q = record {
  grew = prefix_trans old mid new p.grew q.grew;
  legal = λ legal. subst (λ (s : Setting). IsLegal s new) same (q.legal (subst (λ (s : Setting). IsLegal s mid) (sym same) (p.legal legal)));
  entries = p.entries ++ q.entries;
  mine = q.mine ∙ ap (λ (l : List (ℕ × Entry)). l ++ q.entries) p.mine ∙ append_assoc mine_old p.entries q.entries;
  filling = all_append (λ (own : ℕ × Entry). IsFilling own.1) p.entries q.entries p.filling q.filling;
}

pub writes_both : (mine_old mine_mid mine_new : List (ℕ × Entry)) (xs ys : List (ℕ × Change)) → Writes mine_old mine_mid xs → Writes mine_mid mine_new ys → Writes mine_old mine_new (xs ++ ys)
writes_both mine_old mine_mid mine_new xs ys p q = q ∙ ap (λ (l : List (ℕ × Change)). l ++ ys) p ∙ append_assoc (writes_in mine_old) xs ys

-- what comes of a call that does nothing
pub ruleset filling_none = (fills_none, writes_none)
