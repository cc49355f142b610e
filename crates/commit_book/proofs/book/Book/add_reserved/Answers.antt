use Rattle.std.proofs.Common.{◌≡◌, ◌+◌, ℕ, List, [], ◌∷◌, ◌++◌, ◌<◌, ◌^◌, ◌-◌, Option, option_map, IfSome, length, sym, ap, ◌∙◌, subst, arith}
use Rattle.std.proofs.lemmas.List.{length_push}
use Rattle.commit_book.specs.declared.change.Change.{Change}
use Rattle.commit_book.specs.declared.index.Record.{Record}
use Rattle.commit_book.specs.declared.row.Reserved.{Reserved}
use Rattle.commit_book.specs.Contents.{Contents}
use Rattle.commit_book.specs.Index.{commits_in, commits_kept, commits_of, names_of, AreCommits, IsReadyFor, IsSound}
use Rattle.commit_book.specs.Journal.{kept_rows}
use Rattle.commit_book.specs.Names.{AreNamesOf}
use Rattle.commit_book.proofs.ContentsLemmas.{holds_there, seen_added}
use Rattle.commit_book.proofs.GrowLemmas.{kept_more, kept_rows_more, index_more, drop_prefix, document_prefix}
use Rattle.commit_book.proofs.LookLemmas.{are-commits}
use Rattle.commit_book.proofs.NameLemmas.{names_more}
use Rattle.commit_book.proofs.NewestLemmas.{live-within, replaces}
use Rattle.commit_book.proofs.book.Book.add_reserved.Goals as goal

-- the slot is that of the change
pub push_in-requires : goal.push_in-requires
push_in-requires c =
    let row = c.in-Some.field-0.row in
    let ready = holds_there (IsReadyFor c.self.inside.capacity c.self.inside.horizon c.self.inside.rows c.self.inside.past c.self.inside.collections) c.self.inside.reserved c.in-Some.field-0 c.in-Some.ensures.value c.self.invariant.ready in
    (row.collection, row.id, ready.slot)

-- so what is kept of its record has its commits
pub document_cost-replaced-requires : goal.document_cost-replaced-requires
document_cost-replaced-requires c =
    let row = c.in-Some.field-0.row in
    let ready = holds_there (IsReadyFor c.self.inside.capacity c.self.inside.horizon c.self.inside.rows c.self.inside.past c.self.inside.collections) c.self.inside.reserved c.in-Some.field-0 c.in-Some.ensures.value c.self.invariant.ready in
    subst (λ (o : Option Record). AreCommits c.self.inside.horizon c.self.inside.rows.items (commits_kept o)) (sym (c.record_of-known.ensures row.collection row.id ready.slot))
    (are-commits _ _ _ _ c.self.inside.rows c.self.inside.past c.self.inside.collections c.self.inside.reserved c.self.invariant row.collection row.id)

-- and what the newest documents take is small, and has the document that is replaced
pub overflow_add-self : goal.overflow_add-self
overflow_add-self c =
    let sound = c.self.invariant in
    let small = live-within _ _ _ _ c.self.inside.rows c.self.inside.past c.self.inside.collections c.self.inside.reserved sound in
    omega (arith, small, sound.fits, sound.most, c.put_cost.ensures.most)

pub overflow_sub-self : goal.overflow_sub-self
overflow_sub-self c =
    let row = c.in-Some.field-0.row in
    let ready = holds_there (IsReadyFor c.self.inside.capacity c.self.inside.horizon c.self.inside.rows c.self.inside.past c.self.inside.collections) c.self.inside.reserved c.in-Some.field-0 c.in-Some.ensures.value c.self.invariant.ready in
    let balance = replaces _ _ _ _ c.self.inside.rows c.self.inside.past c.self.inside.collections c.self.inside.reserved c.self.invariant row (option_map (λ r. r.now) c.record_of-known.result) c.len.result c.document_cost-replaced.result
    (omega (arith, c.len.ensures, c.self.inside.rows.ok.0)) (c.record_of-known.ensures row.collection row.id ready.slot) c.document_cost-replaced.ensures in
    omega (arith, balance, c.put_cost.ensures.cost)

-- the row is the last, its cost is in the sum, its commit is the last of its record, and its names are in the index
pub invariant_of-self : goal.invariant_of-self
invariant_of-self c =
    let rows = c.self.inside.rows.items in
    let past = c.self.inside.past in
    let horizon = c.self.inside.horizon in
    let row = c.in-Some.field-0.row in
    let sound = c.self.invariant in
    let ready = holds_there (IsReadyFor c.self.inside.capacity horizon c.self.inside.rows past c.self.inside.collections) c.self.inside.reserved c.in-Some.field-0 c.in-Some.ensures.value sound.ready in
    let adds = c.push_in.ensures row.collection row.id ready.slot in
    let items = c.push_back_reserved.ensures.items in
    let longer = length_push past row in
    let few = subst (λ (b : Contents). length b.journal + 1 < 2 ^ 64) (sym c.self.view_is) c.requires.count in
    let sum = kept_more past horizon row sound.within in
    let balance = replaces _ _ _ _ c.self.inside.rows past c.self.inside.collections c.self.inside.reserved sound row (option_map (λ r. r.now) c.record_of-known.result) c.len.result c.document_cost-replaced.result
    (omega (arith, c.len.ensures, c.self.inside.rows.ok.0)) (c.record_of-known.ensures row.collection row.id ready.slot) c.document_cost-replaced.ensures in
    let number : horizon + c.len.result + 1 ≡ length rows + horizon + 1 = omega (arith, c.len.ensures, c.self.inside.rows.ok.0) in
    subst (λ (xs : List Change). IsSound c.self.inside.capacity (c.self.inside.bytes + c.cost.result) (c.self.inside.live + c.put_cost.result - c.document_cost-replaced.result) horizon c.push_back_reserved.new.self xs c.push_in.new.collections c.take.new.self)
    (sym (c.note.ensures ∙ ap (λ (x : Change). past ++ x ∷ []) c.change.ensures)) (record {
      most = sound.most;
      count = omega (arith, longer, few);
      within = omega (arith, longer, sound.within);
      above = items ∙ ap (λ (xs : List Change). xs ++ row ∷ []) sound.above ∙ sym (drop_prefix past (row ∷ []) horizon sound.within);
      sum = omega (arith, sum, c.cost.ensures, sound.sum);
      newest = omega (arith, balance, c.put_cost.ensures.cost);
      fits = omega (arith, ready.fits, c.cost.ensures, sound.sum);
      index = record {
        commits = λ collection id.
            index_more horizon rows row (commits_in c.self.inside.collections) (commits_in c.push_in.new.collections) sound.index.commits
            (adds.own ∙ ap (λ (n : ℕ). commits_in c.self.inside.collections row.collection row.id ++ n ∷ []) number) adds.ids adds.others collection id
            ∙ ap (λ (xs : List Change). commits_of horizon xs (length xs) collection id) (sym items);
        bases = λ collection id. adds.bases collection id ∙ sound.index.bases collection id ∙ sym (document_prefix past (row ∷ []) horizon collection id sound.within);
        names = subst (λ (xs : List Change). AreNamesOf xs (names_of c.push_in.new.collections)) (sym (kept_rows_more past horizon row sound.within))
            (names_more (kept_rows past horizon) row (names_of c.self.inside.collections) (names_of c.push_in.new.collections) sound.index.names adds.names);
      };
      ready = subst (λ (o : Option Reserved). IfSome o (IsReadyFor c.self.inside.capacity horizon c.push_back_reserved.new.self (past ++ row ∷ []) c.push_in.new.collections)) (sym c.take.ensures.after) tt;
    })

pub returns-clause-after : goal.returns-clause-after
returns-clause-after c = λ change is.
    seen_added c.self.inside.capacity c.self.inside.horizon c.self.inside.past c.note.new.self c.self.inside.reserved c.take.new.self (names_of c.self.inside.collections) (names_of c.push_in.new.collections) c.args.self.now c.in-Some.field-0 change
    c.self.view_is c.in-Some.ensures.value c.take.ensures.after (c.note.ensures ∙ ap (λ (x : Change). c.self.inside.past ++ x ∷ []) c.change.ensures) is

-- the names are those of the rows before, and the row's own
pub returns-clause-names : goal.returns-clause-names
returns-clause-names c =
    let past = c.self.inside.past in
    let horizon = c.self.inside.horizon in
    let row = c.in-Some.field-0.row in
    let sound = c.self.invariant in
    let ready = holds_there (IsReadyFor c.self.inside.capacity horizon c.self.inside.rows past c.self.inside.collections) c.self.inside.reserved c.in-Some.field-0 c.in-Some.ensures.value sound.ready in
    let adds = c.push_in.ensures row.collection row.id ready.slot in
    let more = ap (λ (xs : List Change). kept_rows xs horizon) (c.note.ensures ∙ ap (λ (x : Change). past ++ x ∷ []) c.change.ensures) ∙ kept_rows_more past horizon row sound.within in
    subst (λ (xs : List Change). AreNamesOf xs (names_of c.push_in.new.collections)) (sym more)
    (names_more (kept_rows past horizon) row (names_of c.self.inside.collections) (names_of c.push_in.new.collections) sound.index.names adds.names)
