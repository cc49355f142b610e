-- What a new session reads after its first page.
use Rattle.std.proofs.Common.{◌≡◌, ◌≤◌, Bool, false, true, [], ◌∷◌, Option, Some, None, refl, sym, ap, ◌∙◌, subst}
use Rattle.std.specs.Prelude.{Result, Ok, Err, IfOk}
use Rattle.query_normal.specs.Keys.{key_text}
use Rattle.query_normal.specs.Pages.{Page}
use Rattle.query_normal.specs.declared.key.KeyShape.{KeyShape}
use Rattle.flat_snapshot.specs.Sight.{sight_of}
use Rattle.client_core.specs.Choice.{front_of}
use Rattle.client_core.specs.declared.level.Level.{Level}
use Rattle.client_core.specs.declared.level.Level.TheVariants as level
use Rattle.client_session.specs.Link.{Exchange, LinkView, Makes, page}
use Rattle.client_session.specs.Read.{Holds, IsReadBy, IsResult, refused_of, sight_by}
use Rattle.client_session.specs.Session.{Fetches, HasPast, IsKept, IsRefreshedBy, SessionView, floor_with, is_newer, position_of}
use Rattle.client_session.specs.declared.read_out.ReadOut.{ReadOut}
use Rattle.client_session.specs.declared.read_out.Refreshed.{Refreshed}
use Rattle.client_session.specs.declared.refusal.SessionRefusal.{SessionRefusal}
use Rattle.client_session.specs.declared.refusal.SessionRefusal.TheVariants as refusal
use Rattle.quaestor_prog.specs.Reading.{HasAnswered, first_position}

-- a new session's floor is 0
no_floor : (l : Level) (s : SessionView) (key : KeyShape) → HasPast s [] → floor_with l s key ≡ 0
no_floor level.Session s key h = rw (h.writes, h.floors key) refl
no_floor level.Causal s key h = rw (h.writes, h.reads) refl
no_floor level.Strong s key h = rw (h.writes, h.reads) refl

-- where no page is held, any page is kept
is_kept : (held : Option Page) (s t : SessionView) (p : Page) (r : Result Refreshed SessionRefusal) → held ≡ None → IsKept (is_newer held p) s t p r → t ≡ record s { page = Some p; listed = [] }
is_kept None s t p r e kept = kept.0
is_kept (Some held) s t p r e kept = absurd cc

-- so it stands behind its first page
stands : (s : SessionView) (p : Page) (l : Level) (key : KeyShape) → HasPast s [] → s.level ≡ l → position_of (record s { page = Some p; listed = [] }) key ≡ first_position l p key
stands s p l key h level_is =
    let floor : floor_with s.level (record s { page = Some p; listed = [] }) key ≡ 0 =
    no_floor s.level (record s { page = Some p; listed = [] }) key (record { writes = h.writes; reads = h.reads; floors = h.floors; listed = λ k. refl }) in
    λ i. record { level = level_is i; sight = Some (sight_of p (key_text key)); is_whitelisted = false; floor = floor i }

module _ {L : Type 0} (link_at : L → LinkView) (answers : L → Exchange → L → Type 0) (l : Level) (key : KeyShape) where
  -- there was no memory for a session
  pub without_memory : (link : L) → HasAnswered link_at answers l key link link (Err refusal.Memory)
  without_memory link = record { exchanges = []; passed = refl; by = refl; front = tt; fresh = λ holds. tt }

  -- there was no page
  pub without_page : (s t : SessionView) (link link' : L) (refused : SessionRefusal) → Fetches link_at answers link link' (λ told. IsRefreshedBy s t told (Err refused)) → HasAnswered link_at answers l key link link' (Err refused)
  without_page s t link link' refused (Err why, calls, by) =
      let same : refused ≡ refused_of why = let e = by.1 in cc in
      record { exchanges = page (Err why) ∷ []; passed = (link', calls, refl); by = ap (λ (r : SessionRefusal). Err r) same; front = tt; fresh = λ holds. tt }
  without_page s t link link' refused (Ok p, calls, by) = absurd (never (is_newer s.page p) by)
    where
      never : (b : Bool) → IsKept b s t p (Err refused) → ⊥
      never true kept = let bad = kept.1 in cc
      never false kept = let bad = kept.1 in cc

  -- there was a page, and then a read
  pub behind_page : (s t : SessionView) (link mid link' : L) (fetched : Refreshed) (result : Result ReadOut SessionRefusal) → HasPast s [] → s.level ≡ l → s.page ≡ None
      → Fetches link_at answers link mid (λ told. IsRefreshedBy s t told (Ok fetched)) → (Holds (link_at link) s.page → Holds (link_at mid) t.page)
      → Makes link_at answers mid link' (λ xs. IsReadBy (position_of t key) key xs result)
      → IfOk result (λ out. front_of (sight_by t.page key) ≤ out.commit)
      → (Holds (link_at mid) t.page → IfOk result (λ out. IsResult (link_at link') key out))
      → HasAnswered link_at answers l key link link' result
  behind_page s t link mid link' fetched result past level_is none (Err why, calls, by) holds makes front fresh = let bad = by.1 in absurd cc
  behind_page s t link mid link' fetched result past level_is none (Ok p, calls, by) holds (xs, passed, read) front fresh =
      let kept = is_kept s.page s t p (Ok fetched) none by in
      let position : position_of t key ≡ first_position l p key = ap (λ (v : SessionView). position_of v key) kept ∙ stands s p l key past level_is in
      let held : t.page ≡ Some p = ap (λ (v : SessionView). v.page) kept in
      record {
        exchanges = page (Ok p) ∷ xs;
        passed = (mid, calls, passed);
        by = subst (λ q. IsReadBy q key xs result) position read;
        front = subst (λ o. IfOk result (λ out. front_of (sight_by o key) ≤ out.commit)) held front;
        fresh = λ of. fresh (holds (subst (λ o. Holds (link_at link) o) (sym none) of));
      }
