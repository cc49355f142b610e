-- What those do who match and drop old changes, one after another, and what stays true of it in a longer history.
use Rattle.std.proofs.Common.{◌≡◌, ◌⊎◌, ℕ, nat_lt, List, [], ◌∷◌, ◌++◌, length, Bool, true, false, if◌then◌else◌, inl, inr, refl, sym, ap, ◌∙◌, subst, append-nil, append_assoc}
use Rattle.std.specs.List.{enumerate_from}
use Rattle.hub_desk.specs.Desk.{MatchesAll, matching, DropsOld, dropping, target_of}
use Rattle.hub_desk.specs.declared.trim.Trim.{Trim}
use Rattle.hub_model.specs.declared.entry.Entry.{Entry}
use Rattle.hub_model.specs.declared.entry.Entry.TheVariants.{Match, Tick, Horizon}
use Rattle.hub_model.specs.declared.entry.Dropped.{Dropped}
use Rattle.hub_model.specs.declared.entry.Matched.{Matched}
use Rattle.hub_model.specs.Desk.{IsPrefix, Learns, Makes}
use Rattle.hub_model.specs.Helps.{helps_of}
use Rattle.hub_model.specs.Reply.{Replied}
use Rattle.hub_model.specs.Setting.{Setting}
use Rattle.hub_model.specs.State.{State}
use Rattle.hub_model.specs.Step.{state_of}
use Rattle.q_outside.specs.Ends.{Ticks}
use Rattle.quaestor_serve.specs.Matches.{Matches, IsMatchingAt, IsMatched}
use Rattle.turnstile.specs.Places.{AllOf}
use Rattle.turnstile.proofs.PlaceLemmas.{all_append, all_map}
use Rattle.turnstile.proofs.Prefixes.{prefix_self, prefix_trans}

-- nothing comes ahead of either of two entries, where nothing comes ahead of each
no_help : (g : Setting) (s : State) (first : Bool) (a b : Entry) → helps_of g s a ≡ [] → helps_of g s b ≡ [] → helps_of g s (if first then a else b) ≡ []
no_help g s true a b p q = p
no_help g s false a b p q = q

module _ {C : Type 0} (tick : C → ℕ → C → Type 0) where
  -- a clock gave these moments, and then those
  pub ticks_both : (first mid last : C) (ms ns : List ℕ) → Ticks tick first ms mid → Ticks tick mid ns last → Ticks tick first (ms ++ ns) last
  ticks_both first mid last [] ns p q = subst (λ (c : C). Ticks tick c ns last) (sym p) q
  ticks_both first mid last (m ∷ ms) ns p q = (p.0, p.1, ticks_both p.0 mid last ms ns p.2 q)

-- an entry that matches does so in every longer history
pub matching_longer : (g : Setting) (trim : Trim) (history longer : List Entry) (moments : List ℕ) (p : ℕ × Entry) → IsPrefix history longer → IsMatchingAt g trim history moments p → IsMatchingAt g trim longer moments p
matching_longer g trim history longer moments p grew m = record {
  ahead = m.ahead;
  behind = m.behind ++ grew.0;
  history_is = sym grew.1 ∙ ap (λ (h : List Entry). h ++ grew.0) m.history_is ∙ append_assoc m.ahead (p.1 ∷ m.behind) grew.0;
  position_is = m.position_is;
  moment = m.moment;
  earlier = m.earlier;
  later = m.later;
  moments_are = m.moments_are;
  entry_is = m.entry_is;
}

-- and with more moments before
pub matching_before : (g : Setting) (trim : Trim) (history : List Entry) (more moments : List ℕ) (p : ℕ × Entry) → IsMatchingAt g trim history moments p → IsMatchingAt g trim history (more ++ moments) p
matching_before g trim history more moments p m = record {
  ahead = m.ahead;
  behind = m.behind;
  history_is = m.history_is;
  position_is = m.position_is;
  moment = m.moment;
  earlier = more ++ m.earlier;
  later = m.later;
  moments_are = ap (λ (ms : List ℕ). more ++ ms) m.moments_are ∙ sym (append_assoc more m.earlier (m.moment ∷ m.later));
  entry_is = m.entry_is;
}

-- and with more moments behind
pub matching_behind : (g : Setting) (trim : Trim) (history : List Entry) (moments more : List ℕ) (p : ℕ × Entry) → IsMatchingAt g trim history moments p → IsMatchingAt g trim history (moments ++ more) p
matching_behind g trim history moments more p m = record {
  ahead = m.ahead;
  behind = m.behind;
  history_is = m.history_is;
  position_is = m.position_is;
  moment = m.moment;
  earlier = m.earlier;
  later = m.later ++ more;
  moments_are = ap (λ (ms : List ℕ). ms ++ more) m.moments_are ∙ append_assoc m.earlier (m.moment ∷ m.later) more;
  entry_is = m.entry_is;
}

module _ {C : Type 0} (tick : C → ℕ → C → Type 0) where
  -- one behind another
  pub matches_both : (g k : Setting) (trim : Trim) (old mid new : List Entry) (mine_old mine_mid mine_new : List (ℕ × Entry)) (first now last : C) → k ≡ g → Matches tick g trim old mid mine_old mine_mid first now → Matches tick k trim mid new mine_mid mine_new now last → Matches tick g trim old new mine_old mine_new first last
  matches_both g k trim old mid new mine_old mine_mid mine_new first now last same m n = record {
    own = m.own ++ n.own;
    moments = m.moments ++ n.moments;
    ticks = ticks_both tick first now last m.moments n.moments m.ticks n.ticks;
    grew = prefix_trans old mid new m.grew n.grew;
    mine = n.mine ∙ ap (λ (l : List (ℕ × Entry)). l ++ n.own) m.mine ∙ append_assoc mine_old m.own n.own;
    matching = all_append (IsMatchingAt g trim new (m.moments ++ n.moments)) m.own n.own
        (all_map (IsMatchingAt g trim mid m.moments) (IsMatchingAt g trim new (m.moments ++ n.moments)) (λ p at. matching_behind g trim new m.moments n.moments p (matching_longer g trim mid new m.moments p n.grew at)) m.own m.matching)
        (all_map (IsMatchingAt g trim new n.moments) (IsMatchingAt g trim new (m.moments ++ n.moments)) (λ p at. matching_before g trim new m.moments n.moments p at) n.own
        (subst (λ (s : Setting). AllOf (IsMatchingAt s trim new n.moments) n.own) same n.matching));
  }

  -- nothing was made, and no moment was asked for
  pub matches_none : (g : Setting) (trim : Trim) (seen : List Entry) (mine : List (ℕ × Entry)) (clock : C) → Matches tick g trim seen seen mine mine clock clock
  matches_none g trim seen mine clock = record {
    own = [];
    moments = [];
    ticks = refl;
    grew = prefix_self seen;
    mine = sym (append-nil mine);
    matching = tt;
  }

  -- nothing was made
  pub matches_learned : (g : Setting) (trim : Trim) (old new : List Entry) (mine_old mine_new : List (ℕ × Entry)) (clock : C) → Learns g old new mine_old mine_new → Matches tick g trim old new mine_old mine_new clock clock
  matches_learned g trim old new mine_old mine_new clock l = record {
    own = [];
    moments = [];
    ticks = refl;
    grew = l.grew;
    mine = l.mine ∙ sym (append-nil mine_old);
    matching = tt;
  }

  -- a moment was asked for, and nothing was made
  pub matches_in_vain : (g : Setting) (trim : Trim) (old new : List Entry) (mine_old mine_new : List (ℕ × Entry)) (clock late : C) (moment : ℕ) → Learns g old new mine_old mine_new → tick clock moment late → Matches tick g trim old new mine_old mine_new clock late
  matches_in_vain g trim old new mine_old mine_new clock late moment l ticked = record {
    own = [];
    moments = moment ∷ [];
    ticks = (late, ticked, refl);
    grew = l.grew;
    mine = l.mine ∙ sym (append-nil mine_old);
    matching = tt;
  }

  -- an entry was made ahead of which nothing comes
  made_one : (g : Setting) (trim : Trim) (old new : List Entry) (mine_old mine_new : List (ℕ × Entry)) (clock late : C) (moment : ℕ) (entry : Entry) (replied : Replied) (made : Makes g old new mine_old mine_new entry replied)
      → helps_of g (state_of g made.before) entry ≡ []
      → (entry ≡ matching (state_of g (made.before ++ made.helps)) moment) ⊎ (entry ≡ dropping g (state_of g (made.before ++ made.helps)) trim moment)
      → tick clock moment late → Matches tick g trim old new mine_old mine_new clock late
  made_one g trim old new mine_old mine_new clock late moment entry replied made none entry_is ticked =
      let before = made.before in
      let unhelped : made.helps ≡ [] = made.helped ∙ none in
      let alone : before ++ made.helps ≡ before = ap (λ (hs : List Entry). before ++ hs) unhelped ∙ append-nil before in
      let seen : new ≡ before ++ entry ∷ [] = made.seen ∙ ap (λ (hs : List Entry). hs ++ entry ∷ []) alone in
      let own : mine_new ≡ mine_old ++ (length before, entry) ∷ [] = made.mine ∙ ap (λ (hs : List Entry). mine_old ++ enumerate_from (length before) (hs ++ entry ∷ [])) unhelped in
      let there : (entry ≡ matching (state_of g before) moment) ⊎ (entry ≡ dropping g (state_of g before) trim moment) = subst (λ (hs : List Entry). (entry ≡ matching (state_of g hs) moment) ⊎ (entry ≡ dropping g (state_of g hs) trim moment)) alone entry_is in
      record {
        own = (length before, entry) ∷ [];
        moments = moment ∷ [];
        ticks = (late, ticked, refl);
        grew = prefix_trans old before new made.grew (entry ∷ [], sym seen);
        mine = own;
        matching = (record { ahead = before; behind = []; history_is = seen; position_is = refl; moment = moment; earlier = []; later = []; moments_are = refl; entry_is = there }, tt);
      }

  -- all commits were matched
  pub matches_made : (g : Setting) (trim : Trim) (old new : List Entry) (mine_old mine_new : List (ℕ × Entry)) (clock late : C) (moment : ℕ) (told : Matched) → MatchesAll g old new mine_old mine_new moment told → tick clock moment late → Matches tick g trim old new mine_old mine_new clock late
  matches_made g trim old new mine_old mine_new clock late moment told m ticked =
      let before = state_of g m.made.before in
      let s = state_of g (m.made.before ++ m.made.helps) in
      let none : helps_of g before m.entry ≡ [] = ap (λ (e : Entry). helps_of g before e) m.entry_is ∙ no_help g before (nat_lt s.front (length s.journal)) (Match moment (length s.journal)) (Tick moment) refl refl in
      made_one g trim old new mine_old mine_new clock late moment m.entry m.replied m.made none (inl m.entry_is) ticked

  -- old changes were dropped
  pub drops_made : (g : Setting) (trim : Trim) (old new : List Entry) (mine_old mine_new : List (ℕ × Entry)) (clock late : C) (moment : ℕ) (told : Dropped) → DropsOld g old new mine_old mine_new moment trim told → tick clock moment late → Matches tick g trim old new mine_old mine_new clock late
  drops_made g trim old new mine_old mine_new clock late moment told d ticked =
      let before = state_of g d.made.before in
      let s = state_of g (d.made.before ++ d.made.helps) in
      let none : helps_of g before d.entry ≡ [] = ap (λ (e : Entry). helps_of g before e) d.entry_is ∙ no_help g before (nat_lt s.horizon (target_of g s trim)) (Horizon moment (target_of g s trim)) (Tick moment) refl refl in
      made_one g trim old new mine_old mine_new clock late moment d.entry d.replied d.made none (inr d.entry_is) ticked

module _ {C : Type 0} (tick : C → ℕ → C → Type 0) (may : C → Type 0) where
  -- an entry of one who matches is one in every longer history
  pub matched_longer : (g : Setting) (trim : Trim) (history longer : List Entry) (ps : List (ℕ × Entry)) → IsPrefix history longer → AllOf (IsMatched tick may g trim history) ps → AllOf (IsMatched tick may g trim longer) ps
  matched_longer g trim history longer ps grew = all_map (IsMatched tick may g trim history) (IsMatched tick may g trim longer) (λ p m. record { clock = m.clock; allowed = m.allowed; moments = m.moments; late = m.late; ticks = m.ticks; at = matching_longer g trim history longer m.moments p grew m.at }) ps

  -- the entries of one who matches
  pub matched_by : (g : Setting) (trim : Trim) (history longer : List Entry) (clock late : C) (moments : List ℕ) (ps : List (ℕ × Entry)) → may clock → Ticks tick clock moments late → IsPrefix history longer → AllOf (IsMatchingAt g trim history moments) ps → AllOf (IsMatched tick may g trim longer) ps
  matched_by g trim history longer clock late moments ps allowed ticks grew = all_map (IsMatchingAt g trim history moments) (IsMatched tick may g trim longer) (λ p at. record { clock = clock; allowed = allowed; moments = moments; late = late; ticks = ticks; at = matching_longer g trim history longer moments p grew at }) ps
