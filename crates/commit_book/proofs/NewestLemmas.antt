-- What the newest documents take together, and what a further change makes of it.
use Rattle.std.proofs.Common.{◌≡◌, ℕ, suc, ◌+◌, ◌-◌, ◌≤◌, Bool, true, false, if◌then◌else◌, is_some, List, [], ◌∷◌, ◌++◌, Option, Some, None, length, slice_get, refl, ap, ◌∙◌, arith}
use Rattle.std.proofs.lemmas.List.{length_push}
use Rattle.indexmap.specs.IndexMap.{IndexMap}
use Rattle.q_doc.specs.Printed.{printed}
use Rattle.q_doc.specs.Tree.{Tree}
use Rattle.commit_book.specs.declared.change.Change.{Change}
use Rattle.commit_book.specs.declared.index.Record.{Record}
use Rattle.commit_book.specs.declared.row.Reserved.{Reserved}
use Rattle.commit_book.specs.Index.{Rows, IsSound, base_cost, base_kept, commits_kept, document_in, freed_by, put_cost, record_in}
use Rattle.commit_book.specs.Journal.{cost_of, document_at, kept, printed_of, row_bytes}
use Rattle.commit_book.proofs.GrowLemmas.{document_prefix, kept_more, slice_get_end}
use Rattle.commit_book.proofs.KeptLemmas.{kept_falls, kept_step}
use Rattle.commit_book.proofs.LookLemmas.{look-up, rows-count}

-- a change is a document that it puts, or is not kept once its row is dropped
put_or_freed : (x : Change) → put_cost x + (if is_some x.document then 0 else cost_of x) ≡ cost_of x
put_or_freed x = by (is_some x.document)
  where
    by : (b : Bool) → (if b then cost_of x else 0) + (if b then 0 else cost_of x) ≡ cost_of x
    by true = omega arith
    by false = omega arith

-- a further change replaces the document that its record had: the horizon follows it at once
pub newest-more : (journal : List Change) (x : Change) →
    kept (journal ++ x ∷ []) (length (journal ++ x ∷ [])) + base_cost x.collection x.id (document_at journal (length journal) x.collection x.id) ≡ kept journal (length journal) + put_cost x
newest-more journal x =
    let more = kept_more journal (length journal) x (omega arith) in
    let step = kept_step (journal ++ x ∷ []) (length journal) x (slice_get_end journal x) in
    let was = ap (freed_by x) (document_prefix journal (x ∷ []) (length journal) x.collection x.id (omega arith)) in
    let longer : length (journal ++ x ∷ []) ≡ suc (length journal) = omega (arith, length_push journal x) in
    let last = ap (kept (journal ++ x ∷ [])) longer in
    let own = put_or_freed x in
    omega (arith, more, step, was, last, own)

-- the newest documents are among what is kept
pub newest-within : (journal : List Change) (horizon : ℕ) → horizon ≤ length journal → kept journal (length journal) ≤ kept journal horizon
newest-within journal horizon within =
    let same : length journal - horizon + horizon ≡ length journal = omega (arith, within) in
    let all = ap (kept journal) same in
    let falls = kept_falls journal horizon (length journal - horizon) (omega (arith, within)) in
    omega (arith, all, falls)

-- ---- what a document takes, by its text

pub text-cost : (collection id text : List ℕ) (commit : ℕ) (document : Option (ℕ × Tree)) → Some (commit, text) ≡ printed_of document → row_bytes + length collection + length id + length text ≡ base_cost collection id document
text-cost collection id text commit None e = absurd (cc)
text-cost collection id text commit (Some d) e =
    let same : (commit, text) ≡ (d.0, printed d.1) = cc in
    ap (λ (p : ℕ × List ℕ). row_bytes + length collection + length id + length p.1) same

pub no-cost : (collection id : List ℕ) (document : Option (ℕ × Tree)) → None ≡ printed_of document → 0 ≡ base_cost collection id document
no-cost collection id None e = refl
no-cost collection id (Some d) e = absurd (cc)

-- ---- the book

module _ {S T : Type 0} (capacity bytes live horizon : ℕ) (rows : Rows) (journal : List Change) (collections : IndexMap (List ℕ) (IndexMap (List ℕ) Record S) T) (reserved : Option Reserved)
    (sound : IsSound capacity bytes live horizon rows journal collections reserved) where
  -- what the newest documents take is no more than what is kept
  pub live-within : live ≤ bytes
  live-within = (let least = newest-within journal horizon sound.within in omega (arith, least, sound.newest, sound.sum))

  -- a row that is added replaces the document that is found of its record
  pub replaces : (row : Change) (known : Option Record) (count replaced : ℕ) → count ≡ length rows.items → known ≡ record_in collections row.collection row.id →
      replaced ≡ base_cost row.collection row.id (document_in horizon rows.items (base_kept known) (commits_kept known) (horizon + count)) →
      kept (journal ++ row ∷ []) (length (journal ++ row ∷ [])) + replaced ≡ live + put_cost row
  replaces row known count replaced counted found is =
      let all = rows-count capacity bytes live horizon rows journal collections reserved sound in
      let last : horizon + count ≡ length journal = omega (arith, all, counted) in
      let more = newest-more journal row in
      let was = is
      ∙ ap (λ (o : Option Record). base_cost row.collection row.id (document_in horizon rows.items (base_kept o) (commits_kept o) (horizon + count))) found
      ∙ ap (base_cost row.collection row.id) (look-up capacity bytes live horizon rows journal collections reserved sound row.collection row.id (horizon + count) (omega arith) (omega (arith, last)))
      ∙ ap (λ (n : ℕ). base_cost row.collection row.id (document_at journal n row.collection row.id)) last in
      omega (arith, more, was, sound.newest)
