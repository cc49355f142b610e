-- What a reader gives is what the base stands for.
use Rattle.std.proofs.Common.{◌≡◌, ℕ, zero, suc, ◌+◌, ◌-◌, ◌<◌, ◌≤◌, ◌^◌, List, [], ◌∷◌, ◌++◌, length, take, drop, Option, Some, None, Ok, refl, ap, sym, ◌∙◌, subst, inl, inr, append_assoc, arith}
use Rattle.commit_book.specs.declared.change.Change.{Change}
use Rattle.disks.specs.Histories.{History}
use Rattle.record_log.specs.Records.{body_of, change_in}
use Rattle.record_log.proofs.RecordLemmas.{body_short, change_again}
use Rattle.store_base.specs.declared.base.BaseHead.{BaseHead}
use Rattle.store_base.specs.declared.base.BaseRow.{BaseRow}
use Rattle.store_base.specs.declared.base.DatedChange.{DatedChange}
use Rattle.store_base.specs.declared.base.RecordName.{RecordName}
use Rattle.store_base.specs.Bases.{name_of, dated, deletion, deletions, expanded_from}
use Rattle.store_base.specs.Readings.{ReaderView, IsReader, Waits, IsSameBase, GivesRow, GivesTail, GivesBy, FindsNext}
use Rattle.store_base.specs.Remains.{RowsIn, Remains}
use Rattle.store_base.specs.Rows.{IsRow}
use Rattle.store_base.specs.Sound.{Stand}
use Rattle.store_base.specs.Texts.{row_start, row_text, rows_text}
use Rattle.store_base.specs.Windows.{Shows}
use Rattle.store_base.proofs.TextLemmas.{same_8, same_4, same_front}

-- rows with the same parts are one
row_same : (row other : BaseRow) → row.commit ≡ other.commit → row.clock ≡ other.clock → row.change ≡ other.change → row ≡ other
row_same row other commits clocks changes =
    ap (λ (n : ℕ). record { commit = n; clock = row.clock; change = row.change }) commits
    ∙ ap (λ (n : ℕ). record { commit = other.commit; clock = n; change = row.change }) clocks
    ∙ ap (λ (c : Change). record { commit = other.commit; clock = other.clock; change = c }) changes

-- bytes begin with one row
pub one_row : (last horizon : ℕ) (rest more other_more : List ℕ) (row other : BaseRow) → horizon < 2 ^ 64 → IsRow last horizon rest row more → IsRow last horizon rest other other_more → (row ≡ other) × (more ≡ other_more)
one_row last horizon rest more other_more row other low i j =
    let s = i.start in
    let t = j.start in
    let e : row_start row.commit row.clock (length i.body) ++ (i.body ++ more) ≡ row_start other.commit other.clock (length j.body) ++ (j.body ++ other_more) = sym i.text ∙ j.text in
    let commits : row.commit ≡ other.commit = (let a = s.within in let b = t.within in same_8 row.commit other.commit (omega (arith, a, low)) (omega (arith, b, low)) (ap (take 8) e)) in
    let clocks : row.clock ≡ other.clock = (let a = s.clock in let b = t.clock in same_8 row.clock other.clock (omega (arith, a)) (omega (arith, b)) (ap (λ (l : List ℕ). take 8 (drop 8 l)) e)) in
    let sizes : length i.body ≡ length j.body = (let a = s.size in let b = t.size in same_4 (length i.body) (length j.body) (omega (arith, a)) (omega (arith, b)) (ap (λ (l : List ℕ). take 4 (drop 16 l)) e)) in
    let parts = same_front i.body j.body more other_more sizes (ap (drop 20) e) in
    let both : ◌≡◌ {A = Option Change} (Some row.change) (Some other.change) = sym i.change ∙ ap change_in parts.0 ∙ j.change in
    let changes : row.change ≡ other.change = cc in
    (row_same row other commits clocks changes, parts.1)

-- what is given, and what is left then
abbrev pub GivesFirst : (old new : ReaderView) → List BaseRow → List ℕ → DatedChange → Type 0
GivesFirst old new rows behind c = (later : List BaseRow) × (rest : List ℕ) × Shows new.history new.place rest × Remains new.waiting new rest later behind
    × (expanded_from old.head old.next rows ≡ c ∷ expanded_from old.head new.next later)

-- where a row comes
by_row : (head : BaseHead) (next count : ℕ) (new : ReaderView) (row : BaseRow) (later : List BaseRow) (rest behind : List ℕ) (c : DatedChange) → next ≤ row.commit → new.head ≡ head → new.next ≡ suc next → new.left ≡ count
    → RowsIn count row.commit head.horizon rest later behind → GivesRow next row c new.waiting
    → (after : List BaseRow) × Remains new.waiting new rest after behind × (expanded_from head next (row ∷ later) ≡ c ∷ expanded_from head new.next after)
by_row head next count new row later rest behind c low h n l rows (inl own) =
    let none : row.commit - next ≡ 0 = omega (arith, own.0) in
    let last : row.commit ≡ new.next - 1 = omega (arith, own.0, n) in
    let follows : suc row.commit ≡ new.next = omega (arith, own.0, n) in
    let P : Option BaseRow → Type 0 = λ w. Remains w new rest later behind in
    let A : ℕ → Type 0 = λ k. RowsIn k row.commit head.horizon rest later behind in
    let B : ℕ → Type 0 = λ k. RowsIn new.left k head.horizon rest later behind in
    let C : BaseHead → Type 0 = λ x. RowsIn new.left (new.next - 1) x.horizon rest later behind in (
      later,
      subst P (sym own.2) (subst C (sym h) (subst B last (subst A (sym l) rows))),
      rw none (ap (λ (k : ℕ). dated row ∷ expanded_from head k later) follows ∙ ap (λ (x : DatedChange). x ∷ expanded_from head new.next later) (sym own.1)),
    )
by_row head next count new row later rest behind c low h n l rows (inr gap) =
    let more : row.commit - next ≡ suc (row.commit - suc next) = omega (arith, gap.0) in
    let P : Option BaseRow → Type 0 = λ w. Remains w new rest (row ∷ later) behind in
    let A : ℕ → Type 0 = λ k. RowsIn k row.commit head.horizon rest later behind in
    let C : BaseHead → Type 0 = λ x. RowsIn new.left row.commit x.horizon rest later behind in (
      row ∷ later,
      subst P (sym gap.2) (later, refl, subst C (sym h) (subst A (sym l) rows)),
      rw more (ap (λ (k : ℕ). deletion row.clock (name_of row.change) ∷ expanded_from head k (row ∷ later)) (sym n) ∙ ap (λ (x : DatedChange). x ∷ expanded_from head new.next (row ∷ later)) (sym gap.1)),
    )

-- where the tail fills the gap
by_tail : (head : BaseHead) (next : ℕ) (name : RecordName) → next ≤ head.horizon → head.tail ≡ Some name → expanded_from head next [] ≡ deletion head.clock name ∷ expanded_from head (suc next) []
by_tail head next name low t =
    let more : suc head.horizon - next ≡ suc (suc head.horizon - suc next) = omega (arith, low) in
    rw (t, more) refl

-- where a row was read
read_case : (old new : ReaderView) (rows : List BaseRow) (row : BaseRow) (left : ℕ) (rest more behind : List ℕ) (c : DatedChange) → old.head.horizon < 2 ^ 64 → RowsIn (suc left) (old.next - 1) old.head.horizon rest rows behind
    → IsRow (old.next - 1) old.head.horizon rest row more → GivesRow old.next row c new.waiting → new.head ≡ old.head → new.next ≡ suc old.next → new.left ≡ left → Shows new.history new.place more → GivesFirst old new rows behind c
read_case old new [] row left rest more behind c low r i g h n l s = absurd r
read_case old new (other ∷ later) row left rest more behind c low r i g h n l s =
    let one = one_row (old.next - 1) old.head.horizon rest more r.0 row other low i r.1 in
    let G : BaseRow → Type 0 = λ x. GivesRow old.next x c new.waiting in
    let M : List ℕ → Type 0 = λ x. Shows new.history new.place x in
    let rises = r.1.start.rises in
    let first = by_row old.head old.next left new other later r.0 behind c (omega (arith, rises)) h n l r.2 (subst G one.0 g) in
    (first.0, r.0, subst M one.1 s, first.1, first.2)

-- where a row waited
wait_case : (old new : ReaderView) (rows : List BaseRow) (row : BaseRow) (rest behind : List ℕ) (c : DatedChange) → old.next ≤ row.commit → Remains (Some row) old rest rows behind
    → GivesRow old.next row c new.waiting → new.head ≡ old.head → new.next ≡ suc old.next → new.left ≡ old.left → Shows new.history new.place rest → GivesFirst old new rows behind c
wait_case old new rows row rest behind c low r g h n l s =
    let first = by_row old.head old.next old.left new row r.0 rest behind c low h n l r.2 g in
    (first.0, rest, s, first.1, ap (λ (rs : List BaseRow). expanded_from old.head old.next rs) r.1 ∙ first.2)

-- where no row is left
tail_case : (old new : ReaderView) (rows : List BaseRow) (left : ℕ) (rest behind : List ℕ) (c : DatedChange) → old.left ≡ left → (0 < left → ⊥) → RowsIn left (old.next - 1) old.head.horizon rest rows behind
    → GivesTail old c new.waiting → new.next ≡ suc old.next → new.left ≡ old.left → Shows new.history new.place rest → GivesFirst old new rows behind c
tail_case old new rows (suc left) rest behind c e none r g n l s = absurd (none (omega arith))
tail_case old new (row ∷ rows) zero rest behind c e none r g n l s = absurd r
tail_case old new [] zero rest behind c e none r g n l s =
    let P : Option BaseRow → Type 0 = λ w. Remains w new rest [] behind in
    let A : ℕ → Type 0 = λ k. RowsIn k (new.next - 1) new.head.horizon rest [] behind in (
      [],
      rest,
      s,
      subst P (sym g.4) (subst A (sym (l ∙ e)) r),
      by_tail old.head old.next g.0 g.2 g.1
          ∙ ap (λ (x : DatedChange). x ∷ expanded_from old.head (suc old.next) []) (sym g.3)
          ∙ ap (λ (k : ℕ). c ∷ expanded_from old.head k []) (sym n),
    )

-- a window that stays shows what it did
shows_same : (old new : ReaderView) (rest : List ℕ) → new.history ≡ old.history → new.place ≡ old.place → Shows old.history old.place rest → Shows new.history new.place rest
shows_same old new rest h p s =
    let A : Option History → Type 0 = λ m. Shows m new.place rest in
    let B : ℕ → Type 0 = λ k. Shows old.history k rest in
    subst A (sym h) (subst B (sym p) s)

pub gives_first : (old new : ReaderView) (rest behind : List ℕ) (rows : List BaseRow) (c : DatedChange) → IsReader old → Shows old.history old.place rest → Remains old.waiting old rest rows behind
    → FindsNext old new rest (Ok (Some c)) → IsSameBase old new → GivesFirst old new rows behind c
gives_first old new rest behind rows c is s r (inl f) same =
    let m = f.1 in
    let read = m.3 in
    let bound = is.horizon in
    let R : Option BaseRow → Type 0 = λ w. Remains w old rest rows behind in
    let L : ℕ → Type 0 = λ k. RowsIn k (old.next - 1) old.head.horizon rest rows behind in
    let G : Option BaseRow → Type 0 = λ w. GivesBy w m.0 c new.waiting in
    let N : ℕ → Type 0 = λ k. GivesRow k m.1 c new.waiting in
    read_case old new rows m.1 m.0.left rest m.2 behind c (omega (arith, bound)) (subst L (sym read.2) (subst R f.0.0 r)) read.0
    (subst N read.3 (subst G read.1 m.5.0)) same.head (m.5.1 ∙ ap suc read.3) m.7 m.6
gives_first old new rest behind rows c is s r (inr f) same = by old.waiting refl is.waits r f.1.0
  where
    shown : Shows new.history new.place rest
    shown = shows_same old new rest same.history f.2 s

    by : (w : Option BaseRow) → old.waiting ≡ w → Waits old.head.horizon old.next w → Remains w old rest rows behind → GivesBy w old c new.waiting → GivesFirst old new rows behind c
    by None e waits left g = tail_case old new rows old.left rest behind c refl (λ some. f.0 (e, some)) left g f.1.1 f.3 shown
    by (Some row) e waits left g = wait_case old new rows row rest behind c waits.0 left g same.head f.1.1 f.3 shown

-- ---- the end

no_rows : (old : ReaderView) (rows : List BaseRow) (left : ℕ) (rest behind : List ℕ) → old.left ≡ left → (0 < left → ⊥) → RowsIn left (old.next - 1) old.head.horizon rest rows behind → (rows ≡ []) × (rest ≡ behind)
no_rows old rows (suc left) rest behind e none r = absurd (none (omega arith))
no_rows old (row ∷ rows) zero rest behind e none r = absurd r
no_rows old [] zero rest behind e none r = (refl, r)

none_left : (head : BaseHead) (next : ℕ) → head.horizon < next → expanded_from head next [] ≡ []
none_left head next low =
    let none : suc head.horizon - next ≡ 0 = omega (arith, low) in
    rw none (by head.tail)
  where
    by : (tail : Option RecordName) → deletions head.clock 0 tail ≡ []
    by None = refl
    by (Some name) = refl

pub gives_end : (old new : ReaderView) (rest behind : List ℕ) (rows : List BaseRow) → Shows old.history old.place rest → Remains old.waiting old rest rows behind
    → FindsNext old new rest (Ok None) → IsSameBase old new → (expanded_from old.head old.next rows ≡ []) × Shows new.history new.place behind
gives_end old new rest behind rows s r (inl f) same =
    absurd (let both : ◌≡◌ {A = Option BaseRow} (Some f.1.1) None = sym f.1.3.1 ∙ f.1.5.0 in cc)
gives_end old new rest behind rows s r (inr f) same =
    let R : Option BaseRow → Type 0 = λ w. Remains w old rest rows behind in
    let M : List ℕ → Type 0 = λ x. Shows new.history new.place x in
    let ends = no_rows old rows old.left rest behind refl (λ some. f.0 (f.1.0, some)) (subst R f.1.0 r) in
    (ap (λ (rs : List BaseRow). expanded_from old.head old.next rs) ends.0 ∙ none_left old.head old.next f.1.2, subst M ends.1 (shows_same old new rest same.history f.2 s))

-- ---- the beginning

pub rows_in : (last horizon : ℕ) (rows : List BaseRow) (behind : List ℕ) → Stand last horizon rows → RowsIn (length rows) last horizon (rows_text rows ++ behind) rows behind
rows_in last horizon [] behind s = refl
rows_in last horizon (row ∷ rows) behind s =
    let can = s.0 in (
      rows_text rows ++ behind,
      record {
        body = body_of row.change;
        text = append_assoc (row_text row) (rows_text rows) behind ∙ append_assoc (row_start row.commit row.clock (length (body_of row.change))) (body_of row.change) (rows_text rows ++ behind);
        start = record { rises = can.rises; within = can.within; clock = can.clock; size = body_short row.change can.change };
        change = change_again row.change can.change;
        puts = can.puts;
      },
      rows_in row.commit horizon rows behind s.1,
    )
