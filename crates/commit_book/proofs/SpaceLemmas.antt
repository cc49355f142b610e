-- What is kept of a book while memory is reserved.
use Rattle.std.proofs.Common.{◌≡◌, ◌≤◌, ◌+◌, ◌^◌, ℕ, map, List, [], Option, Some, None, IfSome, sym, ap, ◌∙◌, subst, arith}
use Rattle.std.specs.Map.{keys_of, lookup}
use Rattle.std.specs.Str.{bytes_eq}
use Rattle.std.specs.VecDeque.{deque_len, deque_capacity}
use Rattle.indexmap.specs.IndexMap.{IndexMap}
use Rattle.commit_book.specs.declared.change.Change.{Change}
use Rattle.commit_book.specs.declared.index.Record.{Record}
use Rattle.commit_book.specs.declared.index.Slot.{Slot}
use Rattle.commit_book.specs.declared.row.Reserved.{Reserved}
use Rattle.commit_book.specs.Index.{Rows, IsIndexOf, IsReadyFor, IsSlotIn, KeepsSpace, IsSound, base_kept, commits_kept, names_of}
use Rattle.commit_book.specs.Journal.{kept_rows, cost_of}
use Rattle.commit_book.specs.Names.{AreNamesOf}
use Rattle.commit_book.proofs.NameLemmas.{no_names, record_from, slot-kept}

module _ {S T : Type 0} where
  -- an index without a name
  pub empty-names : (collections : IndexMap (List ℕ) (IndexMap (List ℕ) Record S) T) → collections.entries ≡ [] → names_of collections ≡ []
  empty-names collections none = ap (map (λ (e : List ℕ × IndexMap (List ℕ) Record S). (e.0, keys_of e.1.entries))) none

  pub empty-sound : (capacity : ℕ) (rows : Rows) (past : List Change) (collections : IndexMap (List ℕ) (IndexMap (List ℕ) Record S) T) → capacity ≤ 2 ^ 62 → rows.items ≡ [] → past ≡ [] → collections.entries ≡ [] →
      IsSound capacity 0 0 0 rows past collections None
  empty-sound capacity rows past collections most empty new none =
      subst (λ (xs : List Change). IsSound capacity 0 0 0 rows xs collections None) (sym new) (record {
        most = most;
        count = omega arith;
        within = omega arith;
        above = empty;
        sum = omega arith;
        newest = omega arith;
        fits = omega arith;
        index = subst (λ (xs : List Change). IsIndexOf 0 xs [] collections) (sym empty) (record {
          commits = λ collection id. ap (λ (es : List (List ℕ × IndexMap (List ℕ) Record S)). commits_kept (record_from (lookup (bytes_eq collection) es) id)) none;
          bases = λ collection id. ap (λ (es : List (List ℕ × IndexMap (List ℕ) Record S)). base_kept (record_from (lookup (bytes_eq collection) es) id)) none;
          names = subst (AreNamesOf []) (sym (empty-names collections none)) no_names;
        });
        ready = tt;
      })

  module _ (capacity bytes live horizon : ℕ) (rows more : Rows) (past : List Change) (old new : IndexMap (List ℕ) (IndexMap (List ℕ) Record S) T) (reserved : Option Reserved) (items : more.items ≡ rows.items) (keeps : KeepsSpace old new)
      (sound : IsSound capacity bytes live horizon rows past old reserved) where
    index-kept : IsIndexOf horizon more.items past new
    index-kept = subst (λ (xs : List Change). IsIndexOf horizon xs past new) (sym items) (record {
      commits = λ collection id. keeps.commits collection id ∙ sound.index.commits collection id;
      bases = λ collection id. keeps.bases collection id ∙ sound.index.bases collection id;
      names = subst (AreNamesOf (kept_rows past horizon)) (sym keeps.names) sound.index.names;
    })

    ready-kept : (reserved' : Option Reserved) → deque_len more ≡ deque_len rows → deque_capacity rows ≤ deque_capacity more →
        IfSome reserved' (IsReadyFor capacity horizon rows past old) → IfSome reserved' (IsReadyFor capacity horizon more past new)
    ready-kept None len grown ready = ready
    ready-kept (Some r) len grown ready = record {
      fits = ready.fits;
      space = (let space = ready.space in omega (arith, len, grown, space));
      slot = slot-kept old new r.row.collection r.row.id r.slot keeps ready.slot;
    }

    -- memory that was taken for a change that was not reserved in the end
    pub sound-kept : deque_len more ≡ deque_len rows → deque_capacity rows ≤ deque_capacity more → IsSound capacity bytes live horizon more past new reserved
    sound-kept len grown = record {
      most = sound.most;
      count = sound.count;
      within = sound.within;
      above = items ∙ sound.above;
      sum = sound.sum;
      newest = sound.newest;
      fits = sound.fits;
      index = index-kept;
      ready = ready-kept reserved len grown sound.ready;
    }

    -- a change that is reserved
    pub sound-reserved : (change row : Change) (slot : Slot) → deque_len more + 1 ≤ deque_capacity more → row ≡ change → bytes + cost_of change ≤ capacity → IsSlotIn new change.collection change.id slot →
        IsSound capacity bytes live horizon more past new (Some (record { row = row; slot = slot }))
    sound-reserved change row slot space row_is fits slot_is = record {
      most = sound.most;
      count = sound.count;
      within = sound.within;
      above = items ∙ sound.above;
      sum = sound.sum;
      newest = sound.newest;
      fits = sound.fits;
      index = index-kept;
      ready = record {
        fits = (let sum = sound.sum in let cost = ap cost_of row_is in omega (arith, sum, cost, fits));
        space = omega (arith, space);
        slot = subst (λ (x : Change). IsSlotIn new x.collection x.id slot) (sym row_is) slot_is;
      };
    }
