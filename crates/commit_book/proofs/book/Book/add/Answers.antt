use Rattle.std.proofs.Common.{◌≡◌, ◌≤◌, ◌+◌, Err, length, true, inr, sym, ap, ◌∙◌}
use Rattle.std.proofs.lemmas.Result.{err_from_is_err_and}
use Rattle.commit_book.specs.Contents.{Contents, is_reserved, with_commit}
use Rattle.commit_book.proofs.ContentsLemmas.{reserved_is, is_reserved_from, told_added, full_added}
use Rattle.commit_book.proofs.book.Book.add.Goals as goal
use Rattle.commit_book.proofs.book.Book.add.Goals.{then-not-is_reserved+in_ok-reserve, else-not-is_reserved}

-- a reserved change is not reserved again
pub returns-in_err-reserve-clause-reserved : goal.returns-in_err-reserve-clause-reserved
returns-in_err-reserve-clause-reserved c = λ h.
    absurd (let there : is_reserved c.args.self.now c.args.change.now ≡ true = is_reserved_from c.args.self.now c.args.change.now h in
    let told = c.is_reserved.ensures.told in
    let test = c.if-not-is_reserved.true in
    cc)

-- what was added is the change, behind the journal as it was
whole : (c : goal.After-add_reserved) → (c.add_reserved.new.self ≡ with_commit c.args.self.now c.args.change.now c.add_reserved.new.self.names) × (c.add_reserved.result ≡ length c.args.self.now.journal + 1)
whole c =
    elim c.if-not-is_reserved.branch [
      | then-not-is_reserved+in_ok-reserve w ↦
          let mid = w.self-is ∙ w.in_ok-reserve.ensures.after in (
            c.add_reserved.ensures.after c.args.change.now (ap (λ (b : Contents). b.reserved) mid) ∙ ap (λ (b : Contents). with_commit b c.args.change.now c.add_reserved.new.self.names) mid,
            c.add_reserved.ensures.commit ∙ ap (λ (b : Contents). length b.journal + 1) mid,
          )
      | else-not-is_reserved w ↦
          let there = reserved_is c.args.self.now c.args.change.now (sym c.is_reserved.ensures.told ∙ w.if-not-is_reserved.false) in (
            c.add_reserved.ensures.after c.args.change.now (ap (λ (b : Contents). b.reserved) w.self-is ∙ there) ∙ ap (λ (b : Contents). with_commit b c.args.change.now c.add_reserved.new.self.names) w.self-is,
            c.add_reserved.ensures.commit ∙ ap (λ (b : Contents). length b.journal + 1) w.self-is,
          )
    ]

-- the horizon is within the journal
low : (c : goal.After-add_reserved) → c.args.self.now.horizon ≤ length c.args.self.now.journal
low c = c.is_reserved.ensures.within

pub returns-clause-after : goal.returns-clause-after
returns-clause-after c = (whole c).0

-- it has its slot, since the sum is within the capacity
pub returns-clause-told : goal.returns-clause-told
returns-clause-told c = inr (told_added c.args.self.now c.add_reserved.new.self c.args.change.now c.add_reserved.result (low c) (whole c).0 c.add_reserved.ensures.fits (whole c).1)

-- and is not above the capacity
pub returns-clause-full : goal.returns-clause-full
returns-clause-full c = λ err. told_added c.args.self.now c.add_reserved.new.self c.args.change.now c.add_reserved.result (low c) (whole c).0 c.add_reserved.ensures.fits (whole c).1

pub returns-in_err-reserve-clause-full : goal.returns-in_err-reserve-clause-full
returns-in_err-reserve-clause-full c = λ err. (
    let p = err_from_is_err_and c.from_residual.result c.from_residual.ensures.1 in
    p.1 ∙ ap Err p.2 ∙ full_added c.args.self.now c.args.change.now c.in_err-reserve.field-0.0 err c.in_err-reserve.ensures.full)
